-- The sizes of what the rules work with, from the range.
use Rattle.std.proofs.Common.{ℕ, ◌*◌, ◌≤◌, take, ℤ, ◌*ℤ◌, unsigned_abs, mul-le-mul, arith, w64, FitsSigned}
use Rattle.std.proofs.lemmas.Int.{ints, unsigned_abs-mul}
use Rattle.integers.specs.Totals.{total_of}
use Rattle.integers.proofs.Totals.{front_at_most_size}
use Rattle.sharing.specs.Shares.{most_total, most_sizes}
use Rattle.sharing.specs.declared.Division.{Division}

-- The product of a total and a weight, or a sum of weights.
module _ (total weight : ℤ) (small_total : unsigned_abs total ≤ most_total) (small_weight : unsigned_abs weight ≤ most_sizes) where
  pub product_small : unsigned_abs (total *ℤ weight) ≤ most_total * most_sizes
  product_small = rw unsigned_abs-mul (mul-le-mul small_total small_weight)

  pub product_fits : FitsSigned w64 (total *ℤ weight)
  product_fits = omega (arith, ints, product_small)

module _ (division : Division) where
  -- The weights of any front add up to little enough.
  pub front_small : (k : ℕ) → unsigned_abs (total_of (take k division.weights.now)) ≤ most_sizes
  front_small k = omega (arith, front_at_most_size division.weights.now k, division.in_range.small_sizes)
