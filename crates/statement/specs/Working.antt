-- What the steps of working a statement out hand on to each other. No contract of a public function rests on these.
use Rattle.std.specs.Prelude.{◌≡◌, ℕ, List, map, ℤ, pos, ◌-ℤ◌}
use Rattle.integers.specs.Totals.{total_of}
use Rattle.roster.specs.declared.records.Record.{Record}
use Rattle.statement.specs.Quantities.{bought, load_of, open_day_ahead, requirement}
use Rattle.statement.specs.declared.amounts.Row.{Row}
use Rattle.statement.specs.declared.costs.Quantities.{Quantities}

-- No cost, and nothing that is paid or charged for one quantity, is above this many cents.
abbrev pub most_cost : ℕ
most_cost = 20000000000

-- The quantities are those of the roster.
pub record Right (quantities : Quantities) (records : List Record) : Type 0 where
  pub ahead : pos quantities.ahead ≡ total_of (map open_day_ahead records)
  pub bought : quantities.bought ≡ bought records
  pub requirement : quantities.requirement ≡ requirement records
  pub loads : pos quantities.loads ≡ total_of (map load_of records)

-- A row with another day-ahead charge and cost share.
abbrev pub with_shares : Row → ℤ → ℤ → Row
with_shares row charge share =
    record {
      qse = row.qse;
      amounts = record {
        award = row.amounts.award;
        supplemental = row.amounts.supplemental;
        failure = row.amounts.failure;
        infeasible = row.amounts.infeasible;
        charge = charge;
        adjustment = share -ℤ charge;
      };
    }
