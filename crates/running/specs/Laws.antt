-- The running rule keeps the laws of a sharing rule.
-- Proofs and nothing to believe: an implementation can cite its laws only from specs/.
use Rattle.std.specs.Prelude.{◌≡◌, ℕ, zero, suc, ◌+◌, ◌<◌, List, map, length, take, ℤ, pos, ◌+ℤ◌, ◌-ℤ◌, ◌*ℤ◌, ◌≤ℤ◌, ◌<ℤ◌}
use Rattle.std.proofs.Common.{sym, ap, ◌∙◌, arith}
use Rattle.std.proofs.Math.IntN.{*ℤ_comm, *ℤ-zero, zero-*ℤ}
use Rattle.std.proofs.lemmas.Int.{ints}
use Rattle.std.specs.List.{range_with_len}
use Rattle.std.proofs.lemmas.List.FromFn.{get_or-map-range_with_len, length-map-range_with_len}
use Rattle.std.proofs.lemmas.List.{take_all}
use Rattle.integers.specs.Totals.{total_of}
use Rattle.integers.proofs.Products.{mul_add, mul_sub, mul_assoc}
use Rattle.integers.proofs.Floors.{floor_low, floor_high, floor_is}
use Rattle.integers.proofs.Totals.{total_more}
use Rattle.sharing.specs.Shares.{InRange, Fair, nth}
use Rattle.running.specs.Running.{rounded, first_parts, running}

-- Rounding: less than one half away, either way, and exact at a multiple.
module _ (W : ℤ) (positive : pos 1 ≤ℤ W) where
  twice_positive : pos 1 ≤ℤ (pos 2 *ℤ W)
  twice_positive = omega (arith, ints)

  rounded_near : (n : ℤ) → ((pos 2 *ℤ (W *ℤ rounded W n)) ≤ℤ (pos 2 *ℤ n +ℤ W)) × ((pos 2 *ℤ n +ℤ W) <ℤ (pos 2 *ℤ (W *ℤ rounded W n) +ℤ pos 2 *ℤ W))
  unfolding rounded
  rounded_near n =
      (rw mul_assoc at (floor_low (pos 2 *ℤ n +ℤ W) (pos 2 *ℤ W) twice_positive), rw mul_assoc at (floor_high (pos 2 *ℤ n +ℤ W) (pos 2 *ℤ W) twice_positive))

  rounded_whole : (t : ℤ) → rounded W (t *ℤ W) ≡ t
  unfolding rounded
  rounded_whole t =
      floor_is (pos 2 *ℤ (t *ℤ W) +ℤ W) (pos 2 *ℤ W) t twice_positive
      (rw mul_assoc (omega (arith, ints, *ℤ_comm t W)))
      (rw mul_assoc (omega (arith, ints, *ℤ_comm t W)))

  -- The step from one rounded running total to the next, on both sides of the exact share.
  step_close : (t before weight after step : ℤ) → after ≡ before +ℤ weight → step ≡ rounded W (t *ℤ after) -ℤ rounded W (t *ℤ before) → ((step *ℤ W) <ℤ (t *ℤ weight +ℤ W)) × ((t *ℤ weight) <ℤ (step *ℤ W +ℤ W))
  step_close t before weight after step e f =
      let x = rounded W (t *ℤ after) in
      let y = rounded W (t *ℤ before) in
      let exact : t *ℤ after ≡ t *ℤ before +ℤ t *ℤ weight = ap (λ z. t *ℤ z) e ∙ mul_add t before weight in
      let given : step *ℤ W ≡ W *ℤ x -ℤ W *ℤ y = *ℤ_comm step W ∙ ap (λ z. W *ℤ z) f ∙ mul_sub W x y in
      (omega (arith, ints, rounded_near (t *ℤ after), rounded_near (t *ℤ before)), omega (arith, ints, rounded_near (t *ℤ after), rounded_near (t *ℤ before)))

-- Steps add up to the way from the first to the last.
steps_add_up : (reached : ℕ → ℤ) (a n end : ℕ) → a + n ≡ end → total_of (map (λ k. reached (k + 1) -ℤ reached k) (range_with_len a n)) ≡ reached end -ℤ reached a
steps_add_up reached a zero end e =
    let none : a ≡ end = omega arith in
    omega (arith, ints, ap reached none)
steps_add_up reached a (suc n) end e = omega (arith, ints, steps_add_up reached (a + 1) n end (omega arith))

-- Nobody has nothing, and everybody has the total.
pub nobody : (total : ℤ) (weights : List ℤ) → pos 1 ≤ℤ total_of weights → first_parts total weights 0 ≡ pos 0
nobody total weights positive = ap (rounded (total_of weights)) (*ℤ-zero total ∙ sym (zero-*ℤ (total_of weights))) ∙ rounded_whole (total_of weights) positive (pos 0)

everybody : (total : ℤ) (weights : List ℤ) → pos 1 ≤ℤ total_of weights → first_parts total weights (length weights) ≡ total
everybody total weights positive =
    ap (λ ws. rounded (total_of weights) (total *ℤ total_of ws)) (take_all (length weights) weights (omega arith)) ∙ rounded_whole (total_of weights) positive total

pub running_fair : (total : ℤ) (weights : List ℤ) → InRange total weights → Fair total weights (running total weights)
running_fair total weights range =
    let W = total_of weights in
    let reached : ℕ → ℤ = first_parts total weights in
    let part : ℕ → ℤ = λ k. reached (k + 1) -ℤ reached k in
    let part_is : (k : ℕ) → k < length weights → nth (running total weights) k ≡ part k = λ k h. get_or-map-range_with_len part 0 (length weights) k k (pos 0) h (omega arith) in
    let front : ℕ → ℤ = λ k. total_of (take k weights) in
    let more : (k : ℕ) → k < length weights → front (k + 1) ≡ front k +ℤ nth weights k = λ k h. total_more weights k (pos 0) h in
    let near : (k : ℕ) → k < length weights → ((nth (running total weights) k *ℤ W) <ℤ (total *ℤ nth weights k +ℤ W)) × ((total *ℤ nth weights k) <ℤ (nth (running total weights) k *ℤ W +ℤ W)) = λ k h.
    step_close W range.positive total (front k) (nth weights k) (front (k + 1)) (nth (running total weights) k) (more k h) (part_is k h)
    in
    record {
      one_each = length-map-range_with_len part 0 (length weights);
      add_up = omega (arith, ints, steps_add_up reached 0 (length weights) (length weights) (omega arith), everybody total weights range.positive, nobody total weights range.positive);
      not_above = λ k h. (near k h).0;
      not_below = λ k h. (near k h).1;
      none_for_none = λ k h none.
          let stays : front (k + 1) ≡ front k = omega (arith, ints, more k h) in
          omega (arith, ints, part_is k h, ap (λ z. rounded W (total *ℤ z)) stays);
    }
