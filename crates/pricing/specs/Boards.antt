-- The price board as plain data: what may stand on it, how filing changes it, and what is read off it.
use Rattle.std.specs.Prelude.{ℕ, ◌+◌, ◌/◌, ◌≤◌, max, Bool, if◌then◌else◌, ◌&&◌, List, [], ◌∷◌, ◌++◌, length, replicate, is_some, Some, None, fold, Option, Result, nat_le, nat_lt, slice_index, slice_index_or, slice_set}
use Rattle.std.specs.Option.{unwrap_or}
use Rattle.std.specs.List.{AllWithin}
use Rattle.refusals.specs.declared.Refusal.{Refusal}
use Rattle.refusals.specs.declared.Refusal.TheVariants.{NoSuchPlace, PriceAboveLimit}
use Rattle.refusals.specs.Refused.{first_of, Changes}
use Rattle.pricing.specs.Limits.{most_price, most_markets, intervals_of_an_hour}
use Rattle.pricing.specs.declared.board.interval.Interval.{Interval}

-- The prices of the markets that have cleared, in turn, and the intervals of the hour, each filed or not.
pub record PlainBoard : Type 0 where
  pub prices : List ℕ
  pub intervals : List (Option Interval)

-- The sum of a filed interval's two prices, and 0 where it is not filed.
abbrev pub both_prices : Option Interval → ℕ
both_prices None = 0
both_prices (Some interval) = interval.online + interval.reliability

-- No price is above the limit.
abbrev pub PricesKept : List ℕ → Type 0
PricesKept prices = AllWithin (λ price. price ≤ most_price) prices 0 most_markets

-- No sum of an interval's two prices is above the limit.
abbrev pub IntervalsKept : List (Option Interval) → Type 0
IntervalsKept intervals = AllWithin (λ interval. both_prices interval ≤ most_price) intervals 0 intervals_of_an_hour

-- Nothing has cleared and nothing is filed.
abbrev pub empty_board : PlainBoard
empty_board = record { prices = []; intervals = replicate intervals_of_an_hour None }

-- Clearing: the next market gets its price.
abbrev pub clearing : PlainBoard → ℕ → PlainBoard
clearing board price = record { prices = board.prices ++ price ∷ []; intervals = board.intervals }

-- Refused: all markets have cleared, or the price is above the limit.
abbrev pub clearing_refused : PlainBoard → ℕ → Option Refusal
clearing_refused board price = first_of ((nat_le most_markets (length board.prices), NoSuchPlace) ∷ (nat_lt most_price price, PriceAboveLimit) ∷ [])

-- What the call answers and leaves.
abbrev pub Clears : PlainBoard → ℕ → Result (Unit {0}) Refusal → PlainBoard → Type 0
Clears before price answer after = Changes (clearing_refused before price) (clearing before price) before answer after

-- Correcting: a cleared market's price is replaced.
abbrev pub correcting : PlainBoard → ℕ → ℕ → PlainBoard
correcting board market price = record { prices = slice_set board.prices market price; intervals = board.intervals }

-- Refused: the market has not cleared, or the price is above the limit.
abbrev pub correcting_refused : PlainBoard → ℕ → ℕ → Option Refusal
correcting_refused board market price = first_of ((nat_le (length board.prices) market, NoSuchPlace) ∷ (nat_lt most_price price, PriceAboveLimit) ∷ [])

-- What the call answers and leaves.
abbrev pub Corrects : PlainBoard → ℕ → ℕ → Result (Unit {0}) Refusal → PlainBoard → Type 0
Corrects before market price answer after = Changes (correcting_refused before market price) (correcting before market price) before answer after

-- Filing an interval, for the first time or again.
abbrev pub filing : PlainBoard → ℕ → Interval → PlainBoard
filing board which interval = record { prices = board.prices; intervals = slice_set board.intervals which (Some interval) }

-- Refused: there is no such interval, or the sum of its two prices is above the limit.
abbrev pub filing_refused : ℕ → Interval → Option Refusal
filing_refused which interval = first_of ((nat_le intervals_of_an_hour which, NoSuchPlace) ∷ (nat_lt most_price (both_prices (Some interval)), PriceAboveLimit) ∷ [])

-- What the call answers and leaves.
abbrev pub Files : PlainBoard → ℕ → Interval → Result (Unit {0}) Refusal → PlainBoard → Type 0
Files before which interval answer after = Changes (filing_refused which interval) (filing before which interval) before answer after

-- A cleared market's price.
abbrev pub price_of : PlainBoard → ℕ → Option ℕ
price_of board market = if nat_lt market (length board.prices) then Some (slice_index board.prices market) else None

-- The day-ahead price is market 0's, and 0 where no market has cleared.
abbrev pub day_ahead_price : PlainBoard → ℕ
day_ahead_price board = slice_index board.prices 0

-- Whether all four intervals are filed.
abbrev pub all_filed : List (Option Interval) → Bool
all_filed intervals = is_some (slice_index_or intervals 0 None) && (is_some (slice_index_or intervals 1 None) && (is_some (slice_index_or intervals 2 None) && is_some (slice_index_or intervals 3 None)))

-- The sum of all eight prices.
abbrev pub all_prices : List (Option Interval) → ℕ
all_prices intervals = both_prices (slice_index_or intervals 0 None) + both_prices (slice_index_or intervals 1 None) + both_prices (slice_index_or intervals 2 None) + both_prices (slice_index_or intervals 3 None)

-- The average price: none until all four intervals are filed; then the sum of all eight prices divided by 4, a half rounded up.
abbrev pub average_of : List (Option Interval) → Option ℕ
average_of intervals = if all_filed intervals then Some ((all_prices intervals + 2) / 4) else None

-- The highest of some prices, and 0 of none.
abbrev pub highest : List ℕ → ℕ
highest prices = fold max 0 prices

-- The top price: the highest cleared price, or the average where there is one and it is higher.
abbrev pub top_price : PlainBoard → ℕ
top_price board = max (highest board.prices) (unwrap_or (average_of board.intervals) 0)

-- What every board keeps: at most eight markets have cleared, and no price that is read off it is above the limit.
pub record Kept (board : PlainBoard) : Type 0 where
  pub few : length board.prices ≤ most_markets
  pub low : (market : ℕ) → slice_index board.prices market ≤ most_price
  pub low_top : top_price board ≤ most_price
