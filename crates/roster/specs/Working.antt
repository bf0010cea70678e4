-- What the private functions of the roster hand to each other. No contract of a public function rests on these.
use Rattle.std.specs.Prelude.{◌≡◌, ℕ, ◌+◌, ◌-◌, ◌<◌, ◌≤◌, ◌⊎◌, Bool, List, [], ◌∷◌, Result, Ok, Err, length, slice_index_or, slice_set}
use Rattle.refusals.specs.declared.Refusal.{Refusal}
use Rattle.refusals.specs.declared.Refusal.TheVariants.{WrongQse, QuantityAboveLimit, ArrangedAboveObligation}
use Rattle.refusals.specs.Refused.{Changes, Gives, first_of}
use Rattle.roster.specs.Filing.{blank}
use Rattle.roster.specs.Records.{arranged, arranged_above, awarded, defaulted, enrolments, too_much}
use Rattle.roster.specs.declared.records.Record.{Record}
use Rattle.roster.specs.declared.records.Totals.{Totals}

-- Each number of a record is part of its total.
pub record PartOf (totals : Totals) (old : Record) : Type 0 where
  pub load : old.load ≤ totals.loads
  pub obligation : old.obligation ≤ totals.obligations
  pub awards : awarded old ≤ totals.awards
  pub arranged : arranged old ≤ totals.arranged
  pub defaults : defaulted old ≤ totals.defaults

-- The value, unless it is above the limit.
abbrev pub GivesUnless : {V : Type 0} → Bool → V → Result V Refusal → Type 0
GivesUnless much value answer = Gives (first_of ((much, QuantityAboveLimit) ∷ [])) value answer

-- The totals with one record in the place of another.
abbrev pub totals_with : Totals → Record → Record → Totals
totals_with totals old new =
    record {
      loads = totals.loads - old.load + new.load;
      obligations = totals.obligations - old.obligation + new.obligation;
      awards = totals.awards - awarded old + awarded new;
      arranged = totals.arranged - arranged old + arranged new;
      defaults = totals.defaults - defaulted old + defaulted new;
    }

-- The record of the QSE with this number, and its place.
pub record Found (qse : ℕ) (records : List Record) (place : ℕ) (old : Record) : Type 0 where
  pub inside : place < length records
  pub read : old ≡ slice_index_or records place blank
  pub named : old.qse ≡ qse

-- A record is filed in the place of another.
abbrev pub Files : List Record → ℕ → Record → Result (Unit {0}) Refusal → List Record → Type 0
Files before place new answer after =
    Changes (first_of ((too_much (slice_set before place new), QuantityAboveLimit) ∷ (arranged_above new, ArrangedAboveObligation) ∷ [])) (slice_set before place new) before answer after

-- The record that a change made is filed, or what the change was refused for is answered.
abbrev pub FilesMade : List Record → ℕ → Result Record Refusal → Result (Unit {0}) Refusal → List Record → Type 0
FilesMade before place (Ok new) answer after = Files before place new answer after
FilesMade before place (Err refusal) answer after = (answer ≡ Err refusal) × (after ≡ before)

-- The record of the QSE named is changed, where it is enrolled: `Makes old made` says what the change may make of a record.
abbrev pub Tries : (Record → Result Record Refusal → Type 0) → ℕ → List Record → Result (Unit {0}) Refusal → List Record → Type 0
Tries Makes qse before answer after =
    ((enrolments qse before ≡ 0) × (answer ≡ Err WrongQse) × (after ≡ before))
    ⊎ ((place : ℕ) × (old : Record) × (made : Result Record Refusal) × Found qse before place old × Makes old made × FilesMade before place made answer after)
