-- What is written of an amount and of a quantity.
use Rattle.std.specs.Prelude.{◌≡◌, ℕ, zero, suc, ◌/◌, ◌%◌, ◌^◌, ◌<◌, if◌then◌else◌, not, List, [], ◌++◌, ℤ, pos, negsuc, codes, decimal, filter, ◌==◌, nat_lt}

-- The last three digits of a number.
abbrev pub three_digits : ℕ → List ℕ
three_digits number = decimal (number / 100 % 10) ++ (decimal (number / 10 % 10) ++ decimal (number % 10))

-- A number of at most so many groups of three digits, with a comma between them.
unfoldable pub grouped_by : ℕ → ℕ → List ℕ
grouped_by zero number = []
grouped_by (suc groups) number = if nat_lt number 1000 then decimal number else grouped_by groups (number / 1000) ++ (codes "," ++ three_digits number)

-- The most groups that a number of 64 bits has.
abbrev pub most_groups : ℕ
most_groups = 7

-- A text without its commas.
abbrev pub without_commas : List ℕ → List ℕ
without_commas text = filter (λ byte. not (byte == 44)) text

-- Grouping loses no digit and adds none: without the commas it is the number as it is written.
abbrev pub GroupsLoseNothing : Type 0
GroupsLoseNothing = (number : ℕ) → number < 2 ^ 64 → without_commas (grouped_by most_groups number) ≡ decimal number

-- An amount in cents without its sign: the dollars in groups, a point, and two digits of cents.
abbrev pub size_text : ℕ → List ℕ
size_text cents = grouped_by most_groups (cents / 100) ++ (codes "." ++ (decimal (cents / 10 % 10) ++ decimal (cents % 10)))

-- An amount in cents: a minus sign where it is below 0.
abbrev pub dollars_text : ℤ → List ℕ
dollars_text (pos cents) = codes "$" ++ size_text cents
dollars_text (negsuc cents) = codes "-$" ++ size_text (suc cents)

-- A quantity in tenths of a MW.
abbrev pub megawatts_text : ℕ → List ℕ
megawatts_text tenths = grouped_by most_groups (tenths / 10) ++ (codes "." ++ (decimal (tenths % 10) ++ codes " MW"))
