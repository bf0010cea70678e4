-- The limits of the roster.
use Rattle.std.specs.Prelude.{ℕ}

-- At most so many QSEs are enrolled.
abbrev pub most_enrolled : ℕ
most_enrolled = 64

-- The most that each total over the roster may be.
abbrev pub most_roster_total : ℕ
most_roster_total = 200000

-- A quantity is arranged on one of so many sides: day-ahead, which is side 0, or later.
abbrev pub sides : ℕ
sides = 2

-- A quantity that is not delivered is of one of so many kinds: failed, which is kind 0, or infeasible.
abbrev pub kinds : ℕ
kinds = 2
