-- Largest remainder keeps the laws of a sharing rule.
-- Proofs and nothing to believe: an implementation can cite its laws only from specs/.
use Rattle.std.specs.Prelude.{◌≡◌, ℕ, zero, suc, ◌*◌, ◌<◌, ◌≤◌, ◌⊎◌, List, [], ◌∷◌, map, length, ℤ, pos, ◌+ℤ◌, ◌-ℤ◌, ◌*ℤ◌, ◌≤ℤ◌, ◌<ℤ◌, sum_by, sum, count_by, nat_lt, slice_index, unsigned_abs, refl}
use Rattle.std.proofs.Common.{sym, subst, ◌∙◌, ⊎_elim, arith}
use Rattle.std.proofs.Math.Path.{ap}
use Rattle.std.proofs.Math.Nat.{le_of_mul-le-mul_left}
use Rattle.std.proofs.Math.IntN.{*ℤ_comm, *ℤ-zero}
use Rattle.std.proofs.lemmas.Int.{ints}
use Rattle.std.specs.List.{range_with_len}
use Rattle.std.proofs.lemmas.List.FromFn.{get_or-map-range_with_len, length-map-range_with_len}
use Rattle.std.proofs.lemmas.List.{get_or-map, length-map}
use Rattle.std.proofs.lemmas.List.Sums.{sum_by-cons, count_by-le-length}
use Rattle.integers.specs.Totals.{total_of}
use Rattle.integers.proofs.Products.{mul_add, mul_sub}
use Rattle.integers.proofs.Floors.{euclid, euclid_under, euclid_none, other_factor}
use Rattle.sharing.specs.Shares.{InRange, Fair, nth}
use Rattle.largest_remainder.specs.Largest.{floor_of, remainder_of, floors, all_remainders, missing_units, unit_for, largest_remainder}
use Rattle.largest_remainder.specs.Ranks.{one_if, ahead_over, units_add_up, map_tail, sum_tail}

-- A floor and its remainder.
module _ (total W : ℤ) (positive : pos 1 ≤ℤ W) where
  floor_and_remainder : (weight : ℤ) → W *ℤ floor_of total W weight +ℤ pos (remainder_of total W weight) ≡ total *ℤ weight
  unfolding floor_of remainder_of
  floor_and_remainder weight = euclid (total *ℤ weight) W positive

  remainder_under : (weight : ℤ) → remainder_of total W weight < unsigned_abs W
  unfolding remainder_of
  remainder_under weight = euclid_under (total *ℤ weight) W positive

  none_for_none : (floor_of total W (pos 0) ≡ pos 0) × (remainder_of total W (pos 0) ≡ 0)
  unfolding floor_of remainder_of
  none_for_none = rw *ℤ-zero (euclid_none W positive)

  all_floors_and_remainders : (weights : List ℤ) → W *ℤ total_of (map (floor_of total W) weights) +ℤ pos (sum (map (remainder_of total W) weights)) ≡ total *ℤ total_of weights
  all_floors_and_remainders [] = omega (arith, ints)
  all_floors_and_remainders (weight ∷ weights) =
      omega (
        arith,
        ints,
        floor_and_remainder weight,
        all_floors_and_remainders weights,
        mul_add W (floor_of total W weight) (total_of (map (floor_of total W) weights)),
        mul_add total weight (total_of weights),
        sum_by-cons (λ r. r) (remainder_of total W weight) (map (remainder_of total W) weights),
      )

  pub all_under : (weights : List ℤ) (k : ℕ) → slice_index (map (remainder_of total W) weights) k < unsigned_abs W
  all_under [] k = omega (arith, ints)
  all_under (weight ∷ weights) zero = remainder_under weight
  all_under (weight ∷ weights) (suc k) = all_under weights k

-- At most as many units are missing as members have a remainder.
few_missing : (W units : ℕ) (remainders : List ℕ) → 1 ≤ W → ((k : ℕ) → slice_index remainders k < W) → W * units ≡ sum remainders → units ≤ count_by (nat_lt 0) remainders
few_missing W units remainders some under e = le_of_mul-le-mul_left {k = W} (omega (arith, sum_within remainders under)) some
  where
    sum_within : (rs : List ℕ) → ((k : ℕ) → slice_index rs k < W) → sum rs ≤ W * count_by (nat_lt 0) rs
    sum_within [] under = omega arith
    sum_within (r ∷ rs) under =
        let one = one_if (nat_lt 0 r) in
        let here : r ≤ W * one = grind (arith, under 0) in
        omega (arith, sum_by-cons (λ y. y) r rs, ap (λ m. W * m) (sum_by-cons (λ y. one_if (nat_lt 0 y)) r rs), sum_within rs (λ k. under (suc k)))

-- Who gets a unit has a remainder.
unit_or_none : (units : ℕ) (remainders : List ℕ) (k : ℕ) → k < length remainders → units ≤ count_by (nat_lt 0) remainders → (unit_for units remainders k ≡ 0) ⊎ ((unit_for units remainders k ≡ 1) × (0 < slice_index remainders k))
unit_or_none units remainders k inside few = grind (arith, ahead_over 0 remainders k inside)

-- Units on top of parts add up to the parts and the units.
total_plus : (parts : List ℤ) (more : ℕ → ℕ) → total_of (map (λ k. nth parts k +ℤ pos (more k)) (range_with_len 0 (length parts))) ≡ total_of parts +ℤ pos (sum_by more (range_with_len 0 (length parts)))
total_plus [] more = refl
total_plus (part ∷ parts) more =
    let n = length parts in
    let f : ℕ → ℤ = λ k. nth (part ∷ parts) k +ℤ pos (more k) in
    omega (
      arith,
      ints,
      ap total_of (map_tail f (λ k. f (suc k)) 0 n (λ k h. refl)),
      sum_tail more (λ k. more (suc k)) 0 n (λ k h. refl),
      total_plus parts (λ k. more (suc k)),
      sum_by-cons more 0 (range_with_len 1 n),
    )

-- A floor with the unit that it may get is less than one unit from the exact share.
close : (W floor part exact : ℤ) (unit remainder : ℕ) → pos 1 ≤ℤ W → W *ℤ floor +ℤ pos remainder ≡ exact → remainder < unsigned_abs W → part ≡ floor +ℤ pos unit → (unit ≡ 0) ⊎ ((unit ≡ 1) × (0 < remainder)) → ((part *ℤ W) <ℤ (exact +ℤ W)) × (exact <ℤ (part *ℤ W +ℤ W))
close W floor part exact unit remainder positive e under p which =
    let product : part *ℤ W ≡ W *ℤ floor +ℤ W *ℤ pos unit = ap (λ z. z *ℤ W) p ∙ *ℤ_comm (floor +ℤ pos unit) W ∙ mul_add W floor (pos unit) in
    ⊎_elim
    (λ none. let p' = product ∙ ap (λ u. W *ℤ floor +ℤ W *ℤ pos u) none in (omega (arith, ints), omega (arith, ints)))
    (λ one. let p' = product ∙ ap (λ u. W *ℤ floor +ℤ W *ℤ pos u) one.0 in (omega (arith, ints, one.1), omega (arith, ints, one.1)))
    which

pub largest_fair : (total : ℤ) (weights : List ℤ) → InRange total weights → Fair total weights (largest_remainder total weights)
largest_fair total weights range =
    let W = total_of weights in
    let positive : pos 1 ≤ℤ W = range.positive in
    let fs = floors total weights in
    let rs = all_remainders total weights in
    let units = missing_units total weights in
    let long_floors : length fs ≡ length weights = length-map weights (floor_of total W) in
    let long_remainders : length rs ≡ length weights = length-map weights (remainder_of total W) in
    let product : W *ℤ (total -ℤ total_of fs) ≡ pos (sum rs) = omega (arith, ints, mul_sub W total (total_of fs), *ℤ_comm W total, all_floors_and_remainders total W positive weights) in
    let left = other_factor W (total -ℤ total_of fs) (sum rs) positive product in
    let few : units ≤ count_by (nat_lt 0) rs = few_missing (unsigned_abs W) units rs (omega (arith, ints)) (all_under total W positive weights) left.1 in
    let part : ℕ → ℤ = λ k. nth fs k +ℤ pos (unit_for units rs k) in
    let part_is : (k : ℕ) → k < length weights → nth (largest_remainder total weights) k ≡ part k = λ k h. get_or-map-range_with_len part 0 (length fs) k k (pos 0) (omega arith) (omega arith) in
    let floor_is : (k : ℕ) → k < length weights → nth fs k ≡ floor_of total W (nth weights k) = λ k h. get_or-map (floor_of total W) weights k (pos 0) (pos 0) h in
    let remainder_is : (k : ℕ) → k < length weights → slice_index rs k ≡ remainder_of total W (nth weights k) = λ k h. get_or-map (remainder_of total W) weights k (pos 0) 0 h in
    let which : (k : ℕ) → k < length weights → (unit_for units rs k ≡ 0) ⊎ ((unit_for units rs k ≡ 1) × (0 < remainder_of total W (nth weights k))) = λ k h.
    subst (λ r. (unit_for units rs k ≡ 0) ⊎ ((unit_for units rs k ≡ 1) × (0 < r))) (remainder_is k h) (unit_or_none units rs k (omega arith) few)
    in
    let near : (k : ℕ) → k < length weights → ((nth (largest_remainder total weights) k *ℤ W) <ℤ (total *ℤ nth weights k +ℤ W)) × ((total *ℤ nth weights k) <ℤ (nth (largest_remainder total weights) k *ℤ W +ℤ W)) = λ k h.
    close W (floor_of total W (nth weights k)) (nth (largest_remainder total weights) k) (total *ℤ nth weights k) (unit_for units rs k) (remainder_of total W (nth weights k)) positive
    (floor_and_remainder total W positive (nth weights k)) (remainder_under total W positive (nth weights k)) (part_is k h ∙ ap (λ z. z +ℤ pos (unit_for units rs k)) (floor_is k h)) (which k h)
    in
    record {
      one_each = length-map-range_with_len part 0 (length fs) ∙ long_floors;
      add_up =
          total_plus fs (unit_for units rs)
          ∙ ap (λ n. total_of fs +ℤ pos (sum_by (unit_for units rs) (range_with_len 0 n))) (long_floors ∙ sym long_remainders)
          ∙ ap (λ n. total_of fs +ℤ pos n) (units_add_up units rs (omega (arith, count_by-le-length (nat_lt 0) rs)))
          ∙ omega (arith, ints, left.0);
      not_above = λ k h. (near k h).0;
      not_below = λ k h. (near k h).1;
      none_for_none = λ k h none.
          let nothing = none_for_none total W positive in
          let floor : nth fs k ≡ pos 0 = floor_is k h ∙ ap (floor_of total W) none ∙ nothing.0 in
          let remainder : remainder_of total W (nth weights k) ≡ 0 = ap (remainder_of total W) none ∙ nothing.1 in
          grind (arith, ints, part_is k h, which k h);
    }
