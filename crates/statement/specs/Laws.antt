-- The laws of every statement, under every sharing rule and every pair of default rules.
use Rattle.std.specs.Prelude.{◌≡◌, ℕ, ◌<◌, ◌≤◌, List, map, length, ℤ, pos, ◌+ℤ◌, ◌-ℤ◌, ◌*ℤ◌, ◌≤ℤ◌, count_by, ◌≢◌, nat_eq, slice_index_or, unsigned_abs}
use Rattle.integers.specs.Totals.{total_of}
use Rattle.pricing.specs.Boards.{PlainBoard}
use Rattle.defaults.specs.Charges.{at_day_ahead_price, at_top_price}
use Rattle.roster.specs.declared.records.Record.{Record}
use Rattle.sharing.specs.Shares.{nth}
use Rattle.statement.specs.Amounts.{Rules, net_cost, open_quantities, record_at}
use Rattle.statement.specs.Quantities.{bought}
use Rattle.statement.specs.declared.amounts.Row.{Row}

-- Amounts 1 to 4 of a QSE together.
abbrev pub own_sum : Row → ℤ
own_sum row = row.amounts.award +ℤ row.amounts.supplemental +ℤ row.amounts.failure +ℤ row.amounts.infeasible

-- All six amounts of a QSE together.
abbrev pub sum_of : Row → ℤ
sum_of row = own_sum row +ℤ row.amounts.charge +ℤ row.amounts.adjustment

-- A QSE's cost share: its day-ahead charge and its adjustment together.
abbrev pub cost_share : Row → ℤ
cost_share row = row.amounts.charge +ℤ row.amounts.adjustment

-- What is read where no row stands.
abbrev pub blank_row : Row
blank_row = record { qse = 0; amounts = record { award = pos 0; supplemental = pos 0; failure = pos 0; infeasible = pos 0; charge = pos 0; adjustment = pos 0 } }

-- The row at place k.
abbrev pub row_at : List Row → ℕ → Row
row_at rows k = slice_index_or rows k blank_row

-- How many rows have this number.
abbrev pub rows_with : ℕ → List Row → ℕ
rows_with qse rows = count_by (λ r. nat_eq r.qse qse) rows

-- A charge for a quantity lies between the cents of the day-ahead price and those of the top price.
pub record Between (board : PlainBoard) (tenths : ℕ) (charge : ℤ) : Type 0 where
  pub at_least_day_ahead : pos (at_day_ahead_price board tenths) ≤ℤ charge
  pub at_most_top : charge ≤ℤ pos (at_top_price board tenths)

-- A share is less than one cent from its exact share, which is cost × open ÷ all bought.
abbrev pub Near : ℤ → ℤ → ℤ → ℤ → Type 0
Near cost open_quantity all share = unsigned_abs (share *ℤ all -ℤ cost *ℤ open_quantity) < unsigned_abs all

-- No amount of a row is larger than this many cents, either way.
abbrev pub most_amount : ℕ
most_amount = 30000000000000000

-- The bound of each of its amounts.
pub record Small (row : Row) : Type 0 where
  pub award : unsigned_abs row.amounts.award ≤ most_amount
  pub supplemental : unsigned_abs row.amounts.supplemental ≤ most_amount
  pub failure : unsigned_abs row.amounts.failure ≤ most_amount
  pub infeasible : unsigned_abs row.amounts.infeasible ≤ most_amount
  pub charge : unsigned_abs row.amounts.charge ≤ most_amount
  pub adjustment : unsigned_abs row.amounts.adjustment ≤ most_amount

-- The laws.
pub record Lawful (rules : Rules) (board : PlainBoard) (records : List Record) (rows : List Row) : Type 0 where
  -- each enrolled QSE has its row at its place in the order of enrolment, and no other row
  pub in_order : map (λ r. r.qse) rows ≡ map (λ r. r.qse) records
  pub once : (qse : ℕ) → rows_with qse rows ≤ 1
  -- all amounts of all QSEs add up to zero
  pub balanced : total_of (map sum_of rows) ≡ pos 0
  -- where there is a net cost, something is bought, and each cost share is less than one cent from the exact share
  pub something : (net_cost rules.defaults board records ≢ pos 0) → pos 1 ≤ℤ bought records
  pub near : (net_cost rules.defaults board records ≢ pos 0) → (k : ℕ) → k < length rows
      → Near (net_cost rules.defaults board records) (nth (open_quantities rules.shares records) k) (bought records) (cost_share (row_at rows k))
  -- where there is none, each cost share is 0
  pub none : net_cost rules.defaults board records ≡ pos 0 → (k : ℕ) → k < length rows → cost_share (row_at rows k) ≡ pos 0
  -- each failed and each infeasible quantity is charged between the cents of the day-ahead price and those of the top price
  pub failures : (k : ℕ) → k < length rows → Between board (record_at records k).failed (row_at rows k).amounts.failure
  pub infeasibles : (k : ℕ) → k < length rows → Between board (record_at records k).infeasible (row_at rows k).amounts.infeasible
  -- no amount is too large to be added to another
  pub small : (k : ℕ) → k < length rows → Small (row_at rows k)
