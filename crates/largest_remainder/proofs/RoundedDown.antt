-- The parts rounded down, and the remainders: how large they are, and one more of them.
use Rattle.std.proofs.Common.{◌≡◌, ℕ, ◌+◌, ◌*◌, ◌<◌, ◌≤◌, List, [], ◌∷◌, map, length, slice_index, take, ℤ, pos, ◌+ℤ◌, ◌*ℤ◌, ◌≤ℤ◌, unsigned_abs, ap, mul-le-mul, arith}
use Rattle.std.proofs.lemmas.Int.{unsigned_abs-mul}
use Rattle.std.proofs.lemmas.List.{length-map}
use Rattle.std.proofs.lemmas.List.Sums.{sum_by-cons}
use Rattle.integers.specs.Totals.{total_of, size_of}
use Rattle.integers.proofs.Floors.{floor_size}
use Rattle.integers.proofs.Totals.{total_more, front_at_most_size}
use Rattle.sharing.specs.Shares.{nth, most_total, most_sizes}
use Rattle.sharing.specs.declared.Division.{Division}
use Rattle.largest_remainder.specs.Largest.{floor_of, floors, all_remainders}
use Rattle.largest_remainder.specs.Laws.{all_under}

-- The parts rounded down: their sizes together are at most the size of the total times the sizes of the weights.
pub size-floors : (total W : ℤ) (weights : List ℤ) → pos 1 ≤ℤ W → size_of (map (floor_of total W) weights) ≤ unsigned_abs total * size_of weights
unfolding floor_of
size-floors total W [] positive = omega arith
size-floors total W (weight ∷ weights) positive =
    omega (
      arith,
      size-floors total W weights positive,
      floor_size (total *ℤ weight) W positive,
      unsigned_abs-mul total weight,
      sum_by-cons unsigned_abs (floor_of total W weight) (map (floor_of total W) weights),
      ap (λ n. unsigned_abs total * n) (sum_by-cons unsigned_abs weight weights),
    )

module _ (division : Division) where
  pub floors_small : size_of (floors division.total division.weights.now) ≤ most_total * most_sizes
  floors_small =
      omega (arith, size-floors division.total (total_of division.weights.now) division.weights.now division.in_range.positive, mul-le-mul division.in_range.small_total division.in_range.small_sizes)

  pub remainders_low : (k : ℕ) → slice_index (all_remainders division.total division.weights.now) k < most_sizes
  remainders_low k =
      let small_sum = rw division.adds_up at division.small_sum in
      omega (arith, all_under division.total (total_of division.weights.now) division.in_range.positive division.weights.now k)

  pub floors_more : (k : ℕ) → k < length division.weights.now → (total_of (take (k + 1) (floors division.total division.weights.now)) ≡ total_of (take k (floors division.total division.weights.now)) +ℤ nth (floors division.total division.weights.now) k)
      × (unsigned_abs (total_of (take (k + 1) (floors division.total division.weights.now))) ≤ most_total * most_sizes)
  floors_more k inside =
      let fs = floors division.total division.weights.now in
      let long = length-map division.weights.now (floor_of division.total (total_of division.weights.now)) in
      (total_more fs k (pos 0) (omega arith), omega (arith, front_at_most_size fs (k + 1), floors_small))
