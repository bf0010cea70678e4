-- The six amounts of a statement, in cents, negative where a QSE is paid, and when a statement is refused.
use Rattle.std.specs.Prelude.{ℕ, ◌-◌, Bool, if◌then◌else◌, not, ◌&&◌, List, [], ◌∷◌, map, length, ℤ, pos, ◌+ℤ◌, ◌-ℤ◌, neg_ℤ, sum_by, Option, ◌==◌, int_lt, slice_index, slice_index_or, unsigned_abs}
use Rattle.std.specs.List.{range_with_len}
use Rattle.integers.specs.Totals.{total_of}
use Rattle.refusals.specs.declared.Refusal.{Refusal}
use Rattle.refusals.specs.declared.Refusal.TheVariants.{DayAheadNotCleared, NoLoad, NothingBought, NothingOpenDayAhead}
use Rattle.refusals.specs.Refused.{first_of}
use Rattle.pricing.specs.Boards.{PlainBoard}
use Rattle.pricing.specs.Cents.{cents_of}
use Rattle.roster.specs.Filing.{blank}
use Rattle.roster.specs.Records.{arranged}
use Rattle.roster.specs.declared.records.Record.{Record}
use Rattle.sharing.specs.Shares.{nth}
use Rattle.statement.specs.Quantities.{bought, load_of, open_day_ahead, requirement}
use Rattle.statement.specs.declared.amounts.Row.{Row}

-- The two default rules that serve a statement: what a failed quantity is charged, and what an infeasible one.
pub record DefaultRules : Type 0 where
  pub failure : PlainBoard → ℕ → ℕ
  pub infeasible : PlainBoard → ℕ → ℕ

-- All rules that serve a statement: these two, and a sharing rule.
pub record Rules : Type 0 where
  pub shares : ℤ → List ℤ → List ℤ
  pub defaults : DefaultRules

-- The two default rules, from what each charges.
abbrev pub default_rules : (PlainBoard → ℕ → ℕ) → (PlainBoard → ℕ → ℕ) → DefaultRules
default_rules failure infeasible = record { failure = failure; infeasible = infeasible }

-- All rules, from the parts of the sharing rule and what each default rule charges.
abbrev pub rules_of : (ℤ → List ℤ → List ℤ) → (PlainBoard → ℕ → ℕ) → (PlainBoard → ℕ → ℕ) → Rules
rules_of shares failure infeasible = record { shares = shares; defaults = default_rules failure infeasible }

-- The cents of a QSE's award in one market.
abbrev pub award_cents : PlainBoard → Record → ℕ → ℕ
award_cents board r market = cents_of (slice_index board.prices market) (slice_index r.awards market)

-- The cleared markets after market 0.
abbrev pub later_markets : PlainBoard → List ℕ
later_markets board = range_with_len 1 (length board.prices - 1)

-- The record at place k, in the order of enrolment.
abbrev pub record_at : List Record → ℕ → Record
record_at records k = slice_index_or records k blank

-- Whether a cost or a quantity is 0.
abbrev pub is_zero : ℤ → Bool
is_zero cents = unsigned_abs cents == 0

-- One part of a cost for each QSE: the parts by a sharing rule, and all 0 where the cost is 0.
abbrev pub parts_of : (ℤ → List ℤ → List ℤ) → ℤ → List ℤ → List Record → List ℤ
parts_of shares cost weights records = if is_zero cost then map (λ _. pos 0) records else shares cost weights

module _ (board : PlainBoard) where
  -- 1. Day-ahead award: minus the cents of market 0's price and the award there.
  abbrev pub award : Record → ℤ
  award r = neg_ℤ (pos (award_cents board r 0))

  -- 2. Supplemental awards: minus the cents for each later cleared market, each rounded alone, added.
  abbrev pub supplemental : Record → ℤ
  supplemental r = neg_ℤ (pos (sum_by (award_cents board r) (later_markets board)))

  -- The day-ahead cost: minus all amounts 1.
  abbrev pub day_ahead_cost : List Record → ℤ
  day_ahead_cost records = neg_ℤ (total_of (map award records))

module _ (defaults : DefaultRules) (board : PlainBoard) where
  -- 3. Failure: what the failure rule charges for the failed quantity.
  abbrev pub failure : Record → ℤ
  failure r = pos (defaults.failure board r.failed)

  -- 4. Infeasible: what the other default rule charges for the infeasible quantity.
  abbrev pub infeasible : Record → ℤ
  infeasible r = pos (defaults.infeasible board r.infeasible)

  -- Amounts 1 to 4 of a QSE together.
  abbrev pub own_amounts : Record → ℤ
  own_amounts r = award board r +ℤ supplemental board r +ℤ failure r +ℤ infeasible r

  -- The net cost: minus all amounts 1 to 4.
  abbrev pub net_cost : List Record → ℤ
  net_cost records = neg_ℤ (total_of (map own_amounts records))

  -- A QSE's row, from its day-ahead charge, which is amount 5, and its cost share. 6. Adjustment: its cost share less its day-ahead charge.
  abbrev pub row_of : Record → ℤ → ℤ → Row
  row_of r charge share =
      record {
        qse = r.qse;
        amounts = record { award = award board r; supplemental = supplemental board r; failure = failure r; infeasible = infeasible r; charge = charge; adjustment = share -ℤ charge };
      }

module _ (shares : ℤ → List ℤ → List ℤ) (records : List Record) where
  -- The obligations: parts of the requirement by loads.
  abbrev pub obligations : List ℤ
  obligations = shares (requirement records) (map load_of records)

  -- The open quantities: each obligation less all that the QSE arranged.
  abbrev pub open_quantities : List ℤ
  open_quantities = map (λ k. nth obligations k -ℤ pos (arranged (record_at records k))) (range_with_len 0 (length records))

module _ (rules : Rules) (board : PlainBoard) (records : List Record) where
  -- 5. Day-ahead charges: parts of the day-ahead cost by open day-ahead quantities.
  abbrev pub charges : List ℤ
  charges = parts_of rules.shares (day_ahead_cost board records) (map open_day_ahead records) records

  -- The cost shares: parts of the net cost by open quantities.
  abbrev pub cost_shares : List ℤ
  cost_shares = parts_of rules.shares (net_cost rules.defaults board records) (open_quantities rules.shares records) records

  -- The statement: a row for each enrolled QSE, in the order of enrolment.
  abbrev pub statement : List Row
  statement = map (λ k. row_of rules.defaults board (record_at records k) (nth charges k) (nth cost_shares k)) (range_with_len 0 (length records))

  -- Refused: market 0 has not cleared; or there is a day-ahead cost and no open day-ahead quantity; or there is a net cost and nothing is bought, or there
  -- is no load.
  abbrev pub refused : Option Refusal
  refused =
      first_of (
      ((length board.prices == 0), DayAheadNotCleared)
      ∷ (not (is_zero (day_ahead_cost board records)) && is_zero (total_of (map open_day_ahead records)), NothingOpenDayAhead)
      ∷ (not (is_zero (net_cost rules.defaults board records)) && int_lt (bought records) (pos 1), NothingBought)
      ∷ (not (is_zero (net_cost rules.defaults board records)) && is_zero (total_of (map load_of records)), NoLoad)
      ∷ []
      )
