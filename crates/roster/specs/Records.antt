-- The roster as plain data: a list of records in the order of enrolment, and what a roster keeps.
use Rattle.std.specs.Prelude.{◌≡◌, ℕ, ◌+◌, ◌≤◌, Bool, false, ◌||◌, List, length, sum_by, sum, count_by, nat_eq, nat_lt}
use Rattle.roster.specs.Limits.{most_enrolled, most_roster_total}
use Rattle.roster.specs.declared.records.Record.{Record}
use Rattle.roster.specs.declared.records.Totals.{Totals}

-- What a QSE is awarded in all markets together.
abbrev pub awarded : Record → ℕ
awarded r = sum r.awards

-- What it arranged on both sides together.
abbrev pub arranged : Record → ℕ
arranged r = r.arranged.ahead + r.arranged.later

-- What it failed and what was infeasible together.
abbrev pub defaulted : Record → ℕ
defaulted r = r.failed + r.infeasible

-- The totals over the roster.
abbrev pub totals_of : List Record → Totals
totals_of records =
    record {
      loads = sum_by (λ r. r.load) records;
      obligations = sum_by (λ r. r.obligation) records;
      awards = sum_by awarded records;
      arranged = sum_by arranged records;
      defaults = sum_by defaulted records;
    }

-- Whether a total is above the limit.
abbrev pub above : ℕ → Bool
above total = nat_lt most_roster_total total

-- Whether one of the totals is.
abbrev pub one_above : Totals → Bool
one_above totals = above totals.loads || (above totals.obligations || (above totals.awards || (above totals.arranged || above totals.defaults)))

-- Whether one of the totals over the roster is.
abbrev pub too_much : List Record → Bool
too_much records = one_above (totals_of records)

-- Whether a QSE arranged more day-ahead than it owes day-ahead.
abbrev pub arranged_above : Record → Bool
arranged_above r = nat_lt r.obligation r.arranged.ahead

-- How many QSEs did.
abbrev pub how_many_above : List Record → ℕ
how_many_above records = count_by arranged_above records

-- How many records have this number.
abbrev pub enrolments : ℕ → List Record → ℕ
enrolments qse records = count_by (λ r. nat_eq r.qse qse) records

-- What every roster keeps.
pub record Kept (records : List Record) : Type 0 where
  pub few : length records ≤ most_enrolled
  -- no two numbers are alike, and none is 0
  pub distinct : (qse : ℕ) → enrolments qse records ≤ 1
  pub numbered : enrolments 0 records ≡ 0
  -- no total is above the limit
  pub small : too_much records ≡ false
  -- nobody arranged more day-ahead than it owes
  pub covered : how_many_above records ≡ 0
