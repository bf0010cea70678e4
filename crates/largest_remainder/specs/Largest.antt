-- Largest remainder: each part is first rounded down, and the missing units go one each to the largest remainders, the earlier member first among
-- equals.
use Rattle.std.specs.Prelude.{ℕ, ◌+◌, if◌then◌else◌, List, map, length, take, drop, ℤ, pos, ◌+ℤ◌, ◌-ℤ◌, ◌*ℤ◌, count_by, nat_le, nat_lt, slice_index, unsigned_abs}
use Rattle.std.specs.List.{range_with_len}
use Rattle.std.specs.Int.{int_div_euclid, int_rem_euclid}
use Rattle.integers.specs.Totals.{total_of}
use Rattle.sharing.specs.Shares.{nth}

-- Total times weight divided by the weight sum W, rounded toward minus infinity.
unfoldable pub floor_of : ℤ → ℤ → ℤ → ℤ
floor_of total W weight = int_div_euclid (total *ℤ weight) W

-- What that division leaves.
unfoldable pub remainder_of : ℤ → ℤ → ℤ → ℕ
remainder_of total W weight = unsigned_abs (int_rem_euclid (total *ℤ weight) W)

-- Each member's part rounded down.
abbrev pub floors : ℤ → List ℤ → List ℤ
floors total weights = map (floor_of total (total_of weights)) weights

-- Each member's remainder.
abbrev pub all_remainders : ℤ → List ℤ → List ℕ
all_remainders total weights = map (remainder_of total (total_of weights)) weights

-- The units that rounding down leaves missing of the total, which it never passes.
abbrev pub missing_units : ℤ → List ℤ → ℕ
missing_units total weights = unsigned_abs (total -ℤ total_of (floors total weights))

-- How many members come before the member at k: the earlier ones with a remainder at least as large, and the later ones with a larger one.
abbrev pub ahead_of : List ℕ → ℕ → ℕ
ahead_of remainders k = count_by (nat_le (slice_index remainders k)) (take k remainders) + count_by (nat_lt (slice_index remainders k)) (drop (k + 1) remainders)

-- A member gets a unit where fewer come before it than units are missing.
abbrev pub unit_for : ℕ → List ℕ → ℕ → ℕ
unit_for units remainders k = if nat_lt (ahead_of remainders k) units then 1 else 0

-- The parts, each with its unit where its member gets one.
abbrev pub with_units : ℕ → List ℕ → List ℤ → List ℤ
with_units units remainders parts = map (λ k. nth parts k +ℤ pos (unit_for units remainders k)) (range_with_len 0 (length parts))

-- Each member's part rounded down, and its unit where it gets one.
abbrev pub largest_remainder : ℤ → List ℤ → List ℤ
largest_remainder total weights = with_units (missing_units total weights) (all_remainders total weights) (floors total weights)
