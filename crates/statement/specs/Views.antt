-- A statement in memory, read as its rows, and what working it out promises.
use Rattle.std.specs.Prelude.{◌≡◌, List, length, take, IfOk, Result}
use Rattle.tables.specs.Tables.{IsTable, table_of}
use Rattle.tables.proofs.Entries.{count_back, table_back}
use Rattle.pricing.specs.Boards.{PlainBoard}
use Rattle.refusals.specs.Refused.{Gives}
use Rattle.refusals.specs.declared.Refusal.{Refusal}
use Rattle.roster.specs.Limits.{most_enrolled}
use Rattle.roster.specs.declared.records.Record.{Record}
use Rattle.statement.specs.Amounts.{Rules, refused, statement}
use Rattle.statement.specs.Laws.{Lawful, blank_row}
use Rattle.statement.specs.declared.amounts.Row.{Row}
use Rattle.statement.specs.declared.statement.Statement.TheInside.{Inside}

-- The rows that stand are those before the count.
abbrev pub plain : Inside → List Row
plain statement = take statement.count statement.rows

-- What holds of a statement in memory: it is not too long, and past its rows all are blank.
abbrev pub Sound : Inside → Type 0
Sound statement = IsTable most_enrolled blank_row statement.count statement.rows

-- The statement in memory that rows are read from.
abbrev pub in_memory : List Row → Inside
in_memory rows = record { rows = table_of most_enrolled blank_row rows; count = length rows }

-- Nothing of the statement in memory is lost.
pub in_memory_of_plain : (statement : Inside) → Sound statement → in_memory (plain statement) ≡ statement
in_memory_of_plain statement sound =
    (λ i. record { rows = table_back most_enrolled blank_row statement.count statement.rows sound i; count = count_back most_enrolled blank_row statement.count statement.rows sound i })

-- How working a statement out answers: refused, it shows why; else the statement's rows are those defined.
abbrev pub Works : Rules → PlainBoard → List Record → Result (List Row) Refusal → Type 0
Works rules board records answer = Gives (refused rules board records) (statement rules board records) answer

-- And the laws that hold of the rows answered.
abbrev pub Keeps : Rules → PlainBoard → List Record → Result (List Row) Refusal → Type 0
Keeps rules board records answer = IfOk answer (λ rows. Lawful rules board records rows)
