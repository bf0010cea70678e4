-- A roster in memory stays sound where a record is written in the place of another, and where a newcomer comes after all others.
use Rattle.std.proofs.Common.{◌≡◌, ℕ, ◌+◌, ◌<◌, ◌≤◌, false, if◌then◌else◌, List, [], ◌∷◌, ◌++◌, length, get_or, set, take, Ok, sym, refl, ◌∙◌, subst, arith}
use Rattle.std.proofs.Math.Seq.{take-set-lt}
use Rattle.std.proofs.lemmas.List.{get_or-take, length-set, length_push, take_more_set}
use Rattle.std.proofs.lemmas.List.Sums.{sum_by_push}
use Rattle.std.proofs.lemmas.Bool.{cond-false, le-ltb}
use Rattle.tables.proofs.Entries.{count_back, table_push, table_set}
use Rattle.roster.specs.Limits.{most_enrolled}
use Rattle.roster.specs.Records.{Kept, arranged_above, enrolments, one_above, too_much, totals_of}
use Rattle.roster.specs.Filing.{blank, newcomer}
use Rattle.roster.specs.Views.{Sound, plain}
use Rattle.roster.specs.Working.{Files, GivesUnless, totals_with}
use Rattle.roster.specs.declared.records.Record.{Record}
use Rattle.roster.specs.declared.records.Totals.{Totals}
use Rattle.roster.specs.declared.roster.Roster.TheInside.{Inside}
use Rattle.roster.proofs.Numbers.{enrolments_set, enrolments_pushed, numbered_pushed}
use Rattle.roster.proofs.Totals.{above_set, totals_set, totals_pushed}

kept_set : (records : List Record) (place : ℕ) (new : Record) → Kept records → place < length records → new.qse ≡ (get_or records place blank).qse → arranged_above new ≡ false
    → too_much (set records place new) ≡ false → Kept (set records place new)
kept_set records place new kept inside same within small =
    record {
      few = omega (arith, length-set records place new, kept.few);
      distinct = λ qse. omega (arith, enrolments_set qse records place new inside same, kept.distinct qse);
      numbered = enrolments_set 0 records place new inside same ∙ kept.numbered;
      small = small;
      covered = above_set records place new inside kept.covered ∙ cond-false (arranged_above new) 1 0 within;
    }

kept_pushed : (records : List Record) (new : Record) → Kept records → length records < most_enrolled → (new.qse ≡ 0 → ⊥) → enrolments new.qse records ≡ 0 → arranged_above new ≡ false
    → too_much (records ++ new ∷ []) ≡ false → Kept (records ++ new ∷ [])
kept_pushed records new kept room some none within small =
    record {
      few = omega (arith, length_push records new, room);
      distinct = λ qse. enrolments_pushed qse records new none (kept.distinct qse);
      numbered = numbered_pushed records new some kept.numbered;
      small = small;
      covered = omega (arith, kept.covered, sum_by_push (λ (r : Record). if arranged_above r then 1 else 0) records new, cond-false {A = ℕ} (arranged_above new) 1 0 within);
    }

-- Totals that were tried, and are within the limit.
abbrev pub TotalsGiven : Totals → Totals → Type 0
TotalsGiven tried totals = GivesUnless (one_above tried) tried (Ok totals)

given : (tried next totals : Totals) → tried ≡ next → TotalsGiven tried totals → (one_above next ≡ false) × (totals ≡ next)
given tried next totals same h = let there = subst (λ (t : Totals). TotalsGiven t totals) same h in grind arith

module _ (roster : Inside) (sound : Sound roster) where
  length_plain : length (plain roster) ≡ roster.count
  length_plain = count_back most_enrolled (newcomer 0 0 0) roster.count roster.records sound.table

  module _ (place : ℕ) (new : Record) (totals : Totals) (inside : place < length (plain roster)) (h : TotalsGiven (totals_with roster.totals (get_or roster.records place blank) new) totals)
      (low : new.arranged.ahead ≤ new.obligation) where
    abbrev next : List Record
    next = set (plain roster) place new

    stands : place < roster.count
    stands = omega (arith, inside, length_plain)

    plain_set : take roster.count (set roster.records place new) ≡ next
    plain_set = take-set-lt roster.count roster.records place new stands

    below : (too_much next ≡ false) × (totals ≡ totals_of next)
    below =
        given _ _ totals
        ((λ j. totals_with (sound.right j) (sym (get_or-take roster.count roster.records place blank stands) j) new) ∙ totals_set (plain roster) place new inside)
        h

    pub record_filed : Files (plain roster) place new (Ok tt) (take roster.count (set roster.records place new))
    record_filed = rw (below.0, le-ltb _ _ low) (refl, plain_set)

    pub record_sound : new.qse ≡ (get_or (plain roster) place blank).qse → Sound (record { records = set roster.records place new; count = roster.count; totals = totals })
    record_sound same =
        record {
          table = table_set most_enrolled (newcomer 0 0 0) roster.count roster.records sound.table place new stands;
          kept = rw plain_set (kept_set (plain roster) place new sound.kept inside same (le-ltb _ _ low) below.0);
          right = rw plain_set below.1;
        }

  module _ (qse load obligation : ℕ) (totals : Totals) (room : roster.count < most_enrolled) (h : TotalsGiven (totals_with roster.totals (newcomer 0 0 0) (newcomer qse load obligation)) totals) where
    abbrev new : Record
    new = newcomer qse load obligation

    plain_pushed : take (roster.count + 1) (set roster.records roster.count new) ≡ plain roster ++ new ∷ []
    plain_pushed = take_more_set roster.records roster.count new (omega (arith, room, sound.table.full))

    pub newcomer_sound : (qse ≡ 0 → ⊥) → enrolments qse (plain roster) ≡ 0 → Sound (record { records = set roster.records roster.count new; count = roster.count + 1; totals = totals })
    newcomer_sound some none =
        let below = given _ _ totals ((λ j. totals_with (sound.right j) (newcomer 0 0 0) new) ∙ totals_pushed (plain roster) new) h in
        record {
          table = table_push most_enrolled (newcomer 0 0 0) roster.count roster.records sound.table new room;
          kept = rw plain_pushed (kept_pushed (plain roster) new sound.kept (omega (arith, room, length_plain)) some none (le-ltb obligation 0 (omega arith)) below.0);
          right = rw plain_pushed below.1;
        }
