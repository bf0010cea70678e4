-- Entries that stand in a table give it back, and a table stays one where an entry is written in its place or after the last.
use Rattle.std.proofs.Common.{◌≡◌, ℕ, ◌+◌, ◌-◌, ◌<◌, ◌≤◌, List, ◌++◌, length, take, drop, set, replicate, sym, ap, ◌∙◌, arith}
use Rattle.std.proofs.lemmas.List.{drop-drop, drop-replicate, drop-set-lt, length-append, length-drop, length-replicate, length-set, length-take-le, take-append-drop}
use Rattle.std.proofs.lemmas.Slice.{drop-append-drop}
use Rattle.tables.specs.Tables.{IsTable, table_of}

module _ {X : Type 0} (places : ℕ) (blank : X) (count : ℕ) (table : List X) (is : IsTable places blank count table) where
  pub count_back : length (take count table) ≡ count
  count_back = length-take-le count table (omega (arith, is.full, is.few))

  pub table_back : table_of places blank (take count table) ≡ table
  table_back = rw count_back (rw (← is.rest) (take-append-drop count table))

  pub table_set : (place : ℕ) (entry : X) → place < count → IsTable places blank count (set table place entry)
  table_set place entry inside =
      record { full = length-set table place entry ∙ is.full; few = is.few; rest = drop-set-lt count table place entry inside ∙ is.rest }

  pub table_push : (entry : X) → count < places → IsTable places blank (count + 1) (set table count entry)
  table_push entry room =
      record {
        full = length-set table count entry ∙ is.full;
        few = omega (arith, room);
        rest = drop-set-lt (count + 1) table count entry (omega arith)
            ∙ sym (drop-drop 1 count table)
            ∙ ap (drop 1) is.rest
            ∙ drop-replicate 1 (places - count) blank
            ∙ ap (λ n. replicate n blank) (omega arith);
      }

-- Entries that were written over the first blanks.
pub table_written : {X : Type 0} (places : ℕ) (blank : X) (written : List X) (count : ℕ) → length written ≡ count → count ≤ places
    → IsTable places blank count (written ++ drop count (replicate places blank))
table_written places blank written count long few =
    record {
      full = omega (arith, length-append written (drop count (replicate places blank)), length-drop count (replicate places blank), length-replicate places blank, long, few);
      few = few;
      rest = drop-append-drop count (replicate places blank) written count (omega arith) long ∙ drop-replicate count places blank;
    }
