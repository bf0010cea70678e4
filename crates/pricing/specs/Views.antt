-- The board in memory, read as plain data.
use Rattle.std.specs.Prelude.{◌≡◌, length, take}
use Rattle.tables.specs.Tables.{IsTable, table_of}
use Rattle.tables.proofs.Entries.{count_back, table_back}
use Rattle.pricing.specs.declared.board.Board.TheInside.{Inside}
use Rattle.pricing.specs.Boards.{PlainBoard, PricesKept, IntervalsKept}
use Rattle.pricing.specs.Limits.{most_markets}

-- The prices that stand are those of the markets that have cleared.
abbrev pub plain : Inside → PlainBoard
plain board = record { prices = take board.cleared board.prices; intervals = board.intervals }

-- What holds of a board in memory: its prices and sums are in their limits, and those of markets not cleared are 0.
pub record Sound (board : Inside) : Type 0 where
  pub table : IsTable most_markets 0 board.cleared board.prices
  pub low : PricesKept board.prices
  pub fair : IntervalsKept board.intervals

-- The board in memory that a plain board is read from.
abbrev pub in_memory : PlainBoard → Inside
in_memory board = record { prices = table_of most_markets 0 board.prices; cleared = length board.prices; intervals = board.intervals }

-- Nothing of the board in memory is lost.
pub in_memory_of_plain : (board : Inside) → Sound board → in_memory (plain board) ≡ board
in_memory_of_plain board sound =
    (λ i. record { prices = table_back most_markets 0 board.cleared board.prices sound.table i; cleared = count_back most_markets 0 board.cleared board.prices sound.table i; intervals = board.intervals })
