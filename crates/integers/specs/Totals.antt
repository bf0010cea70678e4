-- Sums of signed numbers.
use Rattle.std.specs.Prelude.{ℕ, List, [], ◌∷◌, ℤ, pos, ◌+ℤ◌, sum_by, unsigned_abs}

-- The sum of some numbers.
abbrev pub total_of : List ℤ → ℤ
total_of [] = pos 0
total_of (number ∷ numbers) = number +ℤ total_of numbers

-- The sum of their sizes without sign.
abbrev pub size_of : List ℤ → ℕ
size_of numbers = sum_by unsigned_abs numbers
