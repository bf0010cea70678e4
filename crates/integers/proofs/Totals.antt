-- Sums of the front of a list, and how large a sum is.
use Rattle.std.proofs.Common.{◌≡◌, ℕ, ◌+◌, ◌<◌, ◌≤◌, List, [], ◌∷◌, ◌++◌, length, get_or, take, ℤ, ◌+ℤ◌, unsigned_abs, ap, ◌∙◌, arith}
use Rattle.std.proofs.lemmas.Int.{ints}
use Rattle.std.proofs.lemmas.List.{take_more}
use Rattle.std.proofs.lemmas.List.Sums.{sum_by-cons, sum_by-take-le}
use Rattle.integers.specs.Totals.{total_of, size_of}

pub total_push : (xs : List ℤ) (y : ℤ) → total_of (xs ++ y ∷ []) ≡ total_of xs +ℤ y
total_push [] y = omega (arith, ints)
total_push (x ∷ xs) y = omega (arith, ints, total_push xs y)

pub total_more : (xs : List ℤ) (i : ℕ) (d : ℤ) → i < length xs → total_of (take (i + 1) xs) ≡ total_of (take i xs) +ℤ get_or xs i d
total_more xs i d h = ap total_of (take_more xs i d h) ∙ total_push (take i xs) (get_or xs i d)

-- A sum, and a sum of the numbers in front, is no larger than all sizes together.
pub total_at_most_size : (xs : List ℤ) → unsigned_abs (total_of xs) ≤ size_of xs
total_at_most_size [] = omega arith
total_at_most_size (x ∷ xs) = omega (arith, ints, total_at_most_size xs, sum_by-cons unsigned_abs x xs)

pub front_at_most_size : (xs : List ℤ) (k : ℕ) → unsigned_abs (total_of (take k xs)) ≤ size_of xs
front_at_most_size xs k = omega (arith, total_at_most_size (take k xs), sum_by-take-le unsigned_abs xs k)
