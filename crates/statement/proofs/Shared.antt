-- The parts of a cost, one for each QSE, whether there is a cost or not.
use Rattle.std.proofs.Common.{◌≡◌, ℕ, zero, suc, ◌*◌, ◌<◌, ◌≤◌, List, [], ◌∷◌, map, length, replicate, ℤ, pos, unsigned_abs, sym, refl, ap, ◌∙◌, subst, ⊎_elim, mul-le-mul, arith}
use Rattle.std.proofs.lemmas.Simd.{splat_is_map}
use Rattle.std.proofs.lemmas.List.{length-map}
use Rattle.std.proofs.lemmas.List.Sums.{get_or-le-sum_by}
use Rattle.std.proofs.lemmas.Bool.{cases_Bool, cond-true, cond-false}
use Rattle.integers.specs.Totals.{total_of, size_of}
use Rattle.roster.specs.declared.records.Record.{Record}
use Rattle.sharing.specs.Shares.{Fair, InRange, Takes, nth}
use Rattle.statement.specs.Amounts.{is_zero, parts_of}
use Rattle.statement.proofs.Lists.{total_none}
use Rattle.statement.proofs.Parts.{part_small}
use Rattle.statement.proofs.Passed.{is_zero_false, is_zero_true, zero_false, zero_true}

-- A number is 0 or it is not.
pub by_zero : {P : Type 0} (z : ℤ) → (z ≡ pos 0 → P) → ((z ≡ pos 0 → ⊥) → P) → P
by_zero z none some = ⊎_elim (λ e. none (zero_true z e)) (λ e. some (zero_false z e)) (cases_Bool (is_zero z))

nth_none : {X : Type 0} (xs : List X) (k : ℕ) → nth (map (λ _. pos 0) xs) k ≡ pos 0
nth_none [] k = refl
nth_none (x ∷ xs) zero = refl
nth_none (x ∷ xs) (suc k) = nth_none xs k

module _ (shares : ℤ → List ℤ → List ℤ) (cost : ℤ) (weights : List ℤ) (records : List Record) where
  pub parts_none : cost ≡ pos 0 → parts_of shares cost weights records ≡ map (λ _. pos 0) records
  parts_none none = cond-true (is_zero cost) _ _ (is_zero_true cost none)

  pub parts_some : (cost ≡ pos 0 → ⊥) → parts_of shares cost weights records ≡ shares cost weights
  parts_some some = cond-false (is_zero cost) _ _ (is_zero_false cost some)

  -- A table of zeros.
  pub parts_zero : (n : ℕ) → n ≡ length records → cost ≡ pos 0 → replicate n (pos 0) ≡ parts_of shares cost weights records
  parts_zero n long none = splat_is_map records n (pos 0) (sym long) ∙ sym (parts_none none)

  pub none_at : cost ≡ pos 0 → (k : ℕ) → nth (parts_of shares cost weights records) k ≡ pos 0
  none_at none k = ap (λ ps. nth ps k) (parts_none none) ∙ nth_none records k

  module _ (long : length weights ≡ length records) (range : (cost ≡ pos 0 → ⊥) → InRange cost weights)
      (fair : (total : ℤ) (ws : List ℤ) → InRange total ws → Fair total ws (shares total ws)) where
    pub parts_long : length (parts_of shares cost weights records) ≡ length records
    parts_long = by_zero cost (λ none. ap length (parts_none none) ∙ length-map records (λ _. pos 0)) (λ some. ap length (parts_some some) ∙ (fair cost weights (range some)).one_each ∙ long)

    pub parts_add_up : total_of (parts_of shares cost weights records) ≡ cost
    parts_add_up = by_zero cost (λ none. ap total_of (parts_none none) ∙ total_none records ∙ sym none) (λ some. ap total_of (parts_some some) ∙ (fair cost weights (range some)).add_up)

    pub parts_small : (most sizes : ℕ) → unsigned_abs cost ≤ most → size_of weights ≤ sizes → (k : ℕ) → k < length records → unsigned_abs (nth (parts_of shares cost weights records) k) ≤ most * sizes
    parts_small most sizes little small k inside =
        by_zero cost
        (λ none. omega (arith, ap unsigned_abs (none_at none k)))
        (λ some.
        let in_weights : k < length weights = omega (arith, long, inside) in
        let one = part_small cost weights (shares cost weights) (range some).positive (fair cost weights (range some)) k in_weights in
        let weight : unsigned_abs (nth weights k) ≤ sizes = omega (arith, get_or-le-sum_by unsigned_abs weights k (pos 0) in_weights, small) in
        omega (arith, ap (λ ps. unsigned_abs (nth ps k)) (parts_some some), one, mul-le-mul little weight))

-- A rule takes what is in its range, by whatever names it comes.
pub takes_as : (total total' : ℤ) (weights weights' : List ℤ) (count : ℕ) → total' ≡ total → weights' ≡ weights → count ≡ length weights → InRange total weights → Takes total' weights' count
takes_as total total' weights weights' count e f as_many range =
    subst (λ (p : ℤ × List ℤ). Takes p.0 p.1 count) (λ j. (sym e j, sym f j)) (record { range = range; as_many = as_many })
