-- The roster in memory, read as the records of the enrolled QSEs.
use Rattle.std.specs.Prelude.{◌≡◌, List, length, take}
use Rattle.std.proofs.Common.{sym}
use Rattle.tables.specs.Tables.{IsTable, table_of}
use Rattle.tables.proofs.Entries.{count_back, table_back}
use Rattle.roster.specs.declared.records.Record.{Record}
use Rattle.roster.specs.declared.roster.Roster.TheInside.{Inside}
use Rattle.roster.specs.Filing.{newcomer}
use Rattle.roster.specs.Limits.{most_enrolled}
use Rattle.roster.specs.Records.{Kept, totals_of}

-- The records that stand are those before the count.
abbrev pub plain : Inside → List Record
plain roster = take roster.count roster.records

-- What holds of a roster in memory: its records keep the limits, its totals are theirs, and nothing is filed past them.
pub record Sound (roster : Inside) : Type 0 where
  pub table : IsTable most_enrolled (newcomer 0 0 0) roster.count roster.records
  pub kept : Kept (plain roster)
  pub right : roster.totals ≡ totals_of (plain roster)

-- The roster in memory that plain records are read from.
abbrev pub in_memory : List Record → Inside
in_memory records = record { records = table_of most_enrolled (newcomer 0 0 0) records; count = length records; totals = totals_of records }

-- Nothing of the roster in memory is lost.
pub in_memory_of_plain : (roster : Inside) → Sound roster → in_memory (plain roster) ≡ roster
in_memory_of_plain roster sound =
    (λ i. record { records = table_back most_enrolled (newcomer 0 0 0) roster.count roster.records sound.table i; count = count_back most_enrolled (newcomer 0 0 0) roster.count roster.records sound.table i; totals = sym sound.right i })
