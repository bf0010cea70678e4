-- What a board in memory keeps, of its plain board.
use Rattle.std.proofs.Common.{ℕ, ◌+◌, ◌/◌, ◌<◌, ◌≤◌, Bool, true, false, if◌then◌else◌, List, get_or, take, Some, None, Option, unwrap_or, ⊎_elim, arith}
use Rattle.std.proofs.Math.Nat.{max-le}
use Rattle.std.proofs.lemmas.List.{get_or_past, get_or-take, length-take}
use Rattle.std.proofs.lemmas.Bool.{cases_lt}
use Rattle.pricing.specs.Boards.{IntervalsKept, Kept, PricesKept, all_filed, all_prices, average_of, both_prices}
use Rattle.pricing.specs.Limits.{intervals_of_an_hour, most_markets, most_price}
use Rattle.pricing.specs.Views.{Sound, plain}
use Rattle.pricing.specs.declared.board.Board.TheInside.{Inside}
use Rattle.pricing.specs.declared.board.interval.Interval.{Interval}
use Rattle.pricing.proofs.Prices.{highest_kept}

low_taken : (prices : List ℕ) (cleared market : ℕ) → cleared ≤ most_markets → PricesKept prices → get_or (take cleared prices) market 0 ≤ most_price
low_taken prices cleared market few low =
    ⊎_elim
    (λ inside. rw (get_or-take cleared prices market 0 inside) (low market 0 (omega arith) (omega arith)))
    (λ past. rw (get_or_past (take cleared prices) market 0 (omega (arith, length-take cleared prices))) (omega arith))
    (cases_lt market cleared)

low_average : (intervals : List (Option Interval)) → IntervalsKept intervals → unwrap_or (average_of intervals) 0 ≤ most_price
low_average intervals fair = either (all_filed intervals) ((all_prices intervals + 2) / 4) (omega (arith, one 0 (omega arith), one 1 (omega arith), one 2 (omega arith), one 3 (omega arith)))
  where
    one : (k : ℕ) → k < intervals_of_an_hour → both_prices (get_or intervals k None) ≤ most_price
    one k inside = fair k None (omega arith) inside

    either : (b : Bool) (x : ℕ) → x ≤ most_price → unwrap_or (if b then Some x else None) 0 ≤ most_price
    either true x h = h
    either false x h = omega arith

pub kept : (board : Inside) → Sound board → Kept (plain board)
kept board sound =
    record {
      few = omega (arith, length-take board.cleared board.prices, sound.table.few);
      low = λ market. low_taken board.prices board.cleared market sound.table.few sound.low;
      low_top = max-le (highest_kept board.prices board.cleared sound.table.few sound.low) (low_average board.intervals sound.fair);
    }
