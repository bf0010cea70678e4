-- A table of a fixed number of places, with a count beside it: entries stand in the first places, and blanks in all others.
use Rattle.std.specs.Prelude.{◌≡◌, ℕ, ◌-◌, ◌≤◌, List, ◌++◌, length, drop, replicate}

-- What holds of such a table.
pub record IsTable {X : Type 0} (places : ℕ) (blank : X) (count : ℕ) (table : List X) : Type 0 where
  pub full : length table ≡ places
  pub few : count ≤ places
  pub rest : drop count table ≡ replicate (places - count) blank

-- The table in which these entries stand.
abbrev pub table_of : {X : Type 0} → ℕ → X → List X → List X
table_of places blank entries = entries ++ replicate (places - length entries) blank
