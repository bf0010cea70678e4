-- What the members in front have together, one member more, and how large it is.
use Rattle.std.proofs.Common.{◌≡◌, ℕ, ◌+◌, ◌*◌, ◌<◌, ◌≤◌, length, take, ℤ, pos, ◌+ℤ◌, ◌*ℤ◌, ◌≤ℤ◌, unsigned_abs, to_z, of_z, arith, w64, FitsSigned}
use Rattle.std.proofs.lemmas.Int.{ints}
use Rattle.integers.specs.Totals.{total_of}
use Rattle.integers.proofs.Floors.{floor_size}
use Rattle.integers.proofs.Totals.{total_more}
use Rattle.sharing.proofs.Sizes.{front_small, product_small}
use Rattle.sharing.specs.Shares.{nth, most_sizes, most_total}
use Rattle.sharing.specs.declared.Division.{Division}
use Rattle.running.specs.Running.{rounded, first_parts}

rounded_small : (W n : ℤ) → pos 1 ≤ℤ W → unsigned_abs W ≤ most_sizes → unsigned_abs n ≤ most_total * most_sizes → unsigned_abs (rounded W n) ≤ 3 * (most_total * most_sizes)
unfolding rounded
rounded_small W n positive small_sum small = omega (arith, ints, floor_size (pos 2 *ℤ n +ℤ W) (pos 2 *ℤ W) (omega (arith, ints)))

module _ (division : Division) (k : ℕ) where
  pub first_parts_small : unsigned_abs (first_parts division.total division.weights.now k) ≤ 3 * (most_total * most_sizes)
  first_parts_small =
      let small_sum = rw division.adds_up at division.small_sum in
      let small = product_small division.total (total_of (take k division.weights.now)) division.in_range.small_total (front_small division k) in
      rounded_small (total_of division.weights.now) (division.total *ℤ total_of (take k division.weights.now)) division.in_range.positive small_sum small

  pub front_more : k < length division.weights.now → (total_of (take (k + 1) division.weights.now) ≡ total_of (take k division.weights.now) +ℤ nth division.weights.now k) × (unsigned_abs (total_of (take (k + 1) division.weights.now)) ≤ most_sizes)
  front_more inside = (total_more division.weights.now k (pos 0) inside, front_small division (k + 1))

  -- From what the code has of the members in front, as the code adds to it.
  pub first_parts_more : (front together : ℤ) → k < length division.weights.now → FitsSigned w64 (nth division.weights.now k) → front ≡ total_of (take k division.weights.now)
      → together ≡ rounded division.weight_sum (division.total *ℤ to_z w64 (of_z w64 (front +ℤ to_z w64 (of_z w64 (nth division.weights.now k)))))
      → together ≡ first_parts division.total division.weights.now (k + 1)
  first_parts_more front together inside fits front_is together_is =
      let next : to_z w64 (of_z w64 (front +ℤ to_z w64 (of_z w64 (nth division.weights.now k)))) ≡ total_of (take (k + 1) division.weights.now) = omega (arith, ints, front_more inside) in
      cc (division.adds_up)
