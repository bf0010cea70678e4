-- The highest of some prices: no less than the first, and within whatever bounds them all.
use Rattle.std.proofs.Common.{ℕ, suc, ◌<◌, ◌≤◌, max, List, [], ◌∷◌, length, get_or, take, fold, unwrap_or, le_trans, arith}
use Rattle.std.proofs.Math.Nat.{le-max_left, le-max_right}
use Rattle.std.proofs.lemmas.List.{get_or-take, length-take}
use Rattle.pricing.specs.Boards.{PlainBoard, PricesKept, highest, average_of, day_ahead_price, top_price}
use Rattle.pricing.specs.Limits.{most_price, most_markets}

from_start : (a : ℕ) (xs : List ℕ) → a ≤ fold max a xs
from_start a [] = omega arith
from_start a (x ∷ xs) = le_trans (le-max_left a x) (from_start (max a x) xs)

first_at_most_highest : (xs : List ℕ) → get_or xs 0 0 ≤ highest xs
first_at_most_highest [] = omega arith
first_at_most_highest (x ∷ xs) = le_trans (le-max_right 0 x) (from_start (max 0 x) xs)

within : (most a : ℕ) (xs : List ℕ) → a ≤ most → ((k : ℕ) → k < length xs → get_or xs k 0 ≤ most) → fold max a xs ≤ most
within most a [] low each = low
within most a (x ∷ xs) low each = let here : x ≤ most = each 0 (omega arith) in within most (max a x) xs (omega arith) (λ k h. each (suc k) (omega arith))

pub highest_kept : (prices : List ℕ) (cleared : ℕ) → cleared ≤ most_markets → PricesKept prices → highest (take cleared prices) ≤ most_price
highest_kept prices cleared few low =
    within most_price 0 (take cleared prices) (omega arith)
    (λ k h. let inside : k < cleared = omega (arith, length-take cleared prices) in rw get_or-take (low k 0 (omega arith) (omega arith)))

pub day_ahead_at_most_top : (board : PlainBoard) → day_ahead_price board ≤ top_price board
day_ahead_at_most_top board = le_trans (first_at_most_highest board.prices) (le-max_left (highest board.prices) (unwrap_or (average_of board.intervals) 0))
