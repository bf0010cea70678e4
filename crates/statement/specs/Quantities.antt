-- The quantities that a statement is worked out from, in tenths of a MW.
use Rattle.std.specs.Prelude.{List, ℤ, pos, ◌+ℤ◌, ◌-ℤ◌, sum_by}
use Rattle.roster.specs.Records.{awarded, arranged}
use Rattle.roster.specs.declared.records.Record.{Record}

-- What a QSE owes day-ahead and did not arrange day-ahead.
abbrev pub open_day_ahead : Record → ℤ
open_day_ahead r = pos r.obligation -ℤ pos r.arranged.ahead

-- A QSE's load, in whole MWh, as a weight.
abbrev pub load_of : Record → ℤ
load_of r = pos r.load

-- What is bought: all awarded less all failed.
abbrev pub bought : List Record → ℤ
bought records = pos (sum_by awarded records) -ℤ pos (sum_by (λ r. r.failed) records)

-- The requirement: all arranged and all awarded less all failed. What is infeasible is not subtracted.
abbrev pub requirement : List Record → ℤ
requirement records = pos (sum_by arranged records) +ℤ bought records
