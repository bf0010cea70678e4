-- The two default rules keep the limits of a default rule.
-- Proofs and nothing to believe: an implementation can cite its laws only from specs/.
use Rattle.std.specs.Prelude.{ℕ, ◌≤◌}
use Rattle.std.proofs.Common.{arith}
use Rattle.pricing.specs.Boards.{PlainBoard, day_ahead_price, top_price}
use Rattle.pricing.proofs.Prices.{day_ahead_at_most_top}
use Rattle.pricing.proofs.Rounding.{cents_laws}
use Rattle.defaults.specs.Charges.{Takes, Within, at_day_ahead_price, at_top_price}

-- The day-ahead price never charges more than the top price.
pub day_ahead_charge_at_most_top : (board : PlainBoard) (tenths : ℕ) → at_day_ahead_price board tenths ≤ at_top_price board tenths
day_ahead_charge_at_most_top board tenths =
    cents_laws.rises_with_price (day_ahead_price board) (top_price board) tenths (day_ahead_at_most_top board)

pub top_price_within : (board : PlainBoard) (tenths : ℕ) → Takes board tenths → Within board tenths (at_top_price board tenths)
top_price_within board tenths takes =
    record { at_least_day_ahead = day_ahead_charge_at_most_top board tenths; at_most_top = omega arith }

pub day_ahead_price_within : (board : PlainBoard) (tenths : ℕ) → Takes board tenths → Within board tenths (at_day_ahead_price board tenths)
day_ahead_price_within board tenths takes =
    record { at_least_day_ahead = omega arith; at_most_top = day_ahead_charge_at_most_top board tenths }
