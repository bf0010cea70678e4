-- The running rule: each part is the step from one rounded running total to the next.
use Rattle.std.specs.Prelude.{ℕ, ◌+◌, List, map, length, take, ℤ, pos, ◌+ℤ◌, ◌-ℤ◌, ◌*ℤ◌}
use Rattle.std.specs.List.{range_with_len}
use Rattle.std.specs.Int.{int_div_euclid}
use Rattle.integers.specs.Totals.{total_of}

-- A number n divided by W, rounded to the nearest: (2n + W) ÷ 2W, rounded toward minus infinity.
unfoldable pub rounded : ℤ → ℤ → ℤ
rounded W n = int_div_euclid (pos 2 *ℤ n +ℤ W) (pos 2 *ℤ W)

-- What the first k members have together.
abbrev pub first_parts : ℤ → List ℤ → ℕ → ℤ
first_parts total weights k = rounded (total_of weights) (total *ℤ total_of (take k weights))

-- A member has what it and all before it have together, less what all before it have.
abbrev pub running : ℤ → List ℤ → List ℤ
running total weights = map (λ k. first_parts total weights (k + 1) -ℤ first_parts total weights k) (range_with_len 0 (length weights))
