-- The limits of the price board.
use Rattle.std.specs.Prelude.{ℕ}

-- No price, and no sum of an interval's two prices, is above this many cents per MW.
abbrev pub most_price : ℕ
most_price = 1000000

-- At most so many markets clear.
abbrev pub most_markets : ℕ
most_markets = 8

-- An hour has so many intervals.
abbrev pub intervals_of_an_hour : ℕ
intervals_of_an_hour = 4
