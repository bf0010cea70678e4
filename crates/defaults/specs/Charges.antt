-- What a default rule takes, what it refuses, and the two limits of what it charges.
use Rattle.std.specs.Prelude.{ℕ, ◌≤◌, [], ◌∷◌, length, Option, ◌==◌, nat_lt}
use Rattle.refusals.specs.declared.Refusal.{Refusal}
use Rattle.refusals.specs.declared.Refusal.TheVariants.{QuantityAboveLimit, DayAheadNotCleared}
use Rattle.refusals.specs.Refused.{first_of}
use Rattle.pricing.specs.Boards.{PlainBoard, day_ahead_price, top_price}
use Rattle.pricing.specs.Cents.{cents_of}

-- The largest quantity that a default rule takes, in tenths of a MW.
abbrev pub most_quantity : ℕ
most_quantity = 200000

-- A default rule takes a quantity up to the limit, and a board on which a market has cleared.
pub record Takes (board : PlainBoard) (tenths : ℕ) : Type 0 where
  pub small : tenths ≤ most_quantity
  pub cleared : 1 ≤ length board.prices

-- It refuses just what it does not take.
abbrev pub charge_refused : PlainBoard → ℕ → Option Refusal
charge_refused board tenths = first_of ((nat_lt most_quantity tenths, QuantityAboveLimit) ∷ ((length board.prices == 0), DayAheadNotCleared) ∷ [])

-- The cents of a quantity at the day-ahead price.
abbrev pub at_day_ahead_price : PlainBoard → ℕ → ℕ
at_day_ahead_price board tenths = cents_of (day_ahead_price board) tenths

-- The cents of a quantity at the top price.
abbrev pub at_top_price : PlainBoard → ℕ → ℕ
at_top_price board tenths = cents_of (top_price board) tenths

-- The two limits of every charge.
pub record Within (board : PlainBoard) (tenths cents : ℕ) : Type 0 where
  pub at_least_day_ahead : at_day_ahead_price board tenths ≤ cents
  pub at_most_top : cents ≤ at_top_price board tenths
