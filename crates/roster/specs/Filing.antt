-- What each filing call makes of the roster, and when it is refused.
use Rattle.std.specs.Prelude.{ℕ, Bool, if◌then◌else◌, ◌||◌, List, [], ◌∷◌, ◌++◌, map, length, replicate, Option, Result, ◌==◌, nat_le, nat_lt, slice_set}
use Rattle.refusals.specs.declared.Refusal.{Refusal}
use Rattle.refusals.specs.declared.Refusal.TheVariants.{WrongQse, RosterFull, NoSuchPlace, QuantityAboveLimit, ArrangedAboveObligation}
use Rattle.refusals.specs.Refused.{first_of, Changes}
use Rattle.pricing.specs.Limits.{most_markets}
use Rattle.roster.specs.Limits.{most_enrolled, sides, kinds}
use Rattle.roster.specs.Records.{above, totals_of, how_many_above, enrolments}
use Rattle.roster.specs.declared.records.Record.{Record}

-- What is read where no record stands.
abbrev pub blank : Record
blank = record { qse = 0; load = 0; obligation = 0; awards = []; arranged = record { ahead = 0; later = 0 }; failed = 0; infeasible = 0 }

-- Nobody has this number.
abbrev pub not_enrolled : ℕ → List Record → Bool
not_enrolled qse records = enrolments qse records == 0

-- The record of the QSE named is changed, and every other stays as it was.
abbrev pub changed : ℕ → (Record → Record) → List Record → List Record
changed qse change records = map (λ r. if r.qse == qse then change r else r) records

-- A QSE of which only a load and an obligation are filed: nothing is awarded, arranged, failed or infeasible.
abbrev pub newcomer : ℕ → ℕ → ℕ → Record
newcomer qse load obligation =
    record {
      qse = qse;
      load = load;
      obligation = obligation;
      awards = replicate most_markets 0;
      arranged = record { ahead = 0; later = 0 };
      failed = 0;
      infeasible = 0;
    }

-- Enrolling: a QSE comes after all others.
abbrev pub enrolling : List Record → ℕ → ℕ → ℕ → List Record
enrolling records qse load obligation = records ++ newcomer qse load obligation ∷ []

-- Refused: the number is 0 or enrolled, the roster is full, or the loads or the obligations would be above the limit.
abbrev pub enrolling_refused : List Record → ℕ → ℕ → ℕ → Option Refusal
enrolling_refused records qse load obligation =
    first_of (
    (qse == 0 || nat_lt 0 (enrolments qse records), WrongQse)
    ∷ (nat_le most_enrolled (length records), RosterFull)
    ∷ (above (totals_of (enrolling records qse load obligation)).loads || above (totals_of (enrolling records qse load obligation)).obligations, QuantityAboveLimit)
    ∷ []
    )

-- What the call answers and leaves.
abbrev pub Enrols : List Record → ℕ → ℕ → ℕ → Result (Unit {0}) Refusal → List Record → Type 0
Enrols before qse load obligation answer after = Changes (enrolling_refused before qse load obligation) (enrolling before qse load obligation) before answer after

-- A record with another load.
abbrev pub with_load : ℕ → Record → Record
with_load load r = record r { load = load }

-- Loading: a QSE's load is replaced.
abbrev pub loading : List Record → ℕ → ℕ → List Record
loading records qse load = changed qse (with_load load) records

-- Refused: nobody has this number, or the loads would be above the limit.
abbrev pub loading_refused : List Record → ℕ → ℕ → Option Refusal
loading_refused records qse load =
    first_of ((not_enrolled qse records, WrongQse) ∷ (above (totals_of (loading records qse load)).loads, QuantityAboveLimit) ∷ [])

-- What the call answers and leaves.
abbrev pub Loads : List Record → ℕ → ℕ → Result (Unit {0}) Refusal → List Record → Type 0
Loads before qse load answer after = Changes (loading_refused before qse load) (loading before qse load) before answer after

-- A record with another award in one market.
abbrev pub with_award : ℕ → ℕ → Record → Record
with_award market tenths r = record r { awards = slice_set r.awards market tenths }

-- Awarding: a QSE's award in one market is replaced.
abbrev pub awarding : List Record → ℕ → ℕ → ℕ → List Record
awarding records qse market tenths = changed qse (with_award market tenths) records

-- Refused: nobody has this number, the market is not among those that have cleared, or the awards would be above the limit.
abbrev pub awarding_refused : List Record → ℕ → ℕ → ℕ → ℕ → Option Refusal
awarding_refused records cleared qse market tenths =
    first_of (
    (not_enrolled qse records, WrongQse)
    ∷ (nat_le cleared market, NoSuchPlace)
    ∷ (above (totals_of (awarding records qse market tenths)).awards, QuantityAboveLimit)
    ∷ []
    )

-- What the call answers and leaves.
abbrev pub Awards : List Record → ℕ → ℕ → ℕ → ℕ → Result (Unit {0}) Refusal → List Record → Type 0
Awards before cleared qse market tenths answer after = Changes (awarding_refused before cleared qse market tenths) (awarding before qse market tenths) before answer after

-- A record with another quantity arranged on one side, day-ahead on side 0 and later on side 1.
abbrev pub with_arranged : ℕ → ℕ → Record → Record
with_arranged side tenths r = record r { arranged = if side == 0 then record (r.arranged) { ahead = tenths } else record (r.arranged) { later = tenths } }

-- Arranging: a QSE's quantity on one side is replaced.
abbrev pub arranging : List Record → ℕ → ℕ → ℕ → List Record
arranging records qse side tenths = changed qse (with_arranged side tenths) records

-- Refused: nobody has this number, there is no such side, the arranged quantities would be above the limit, or more would be arranged day-ahead than is owed.
abbrev pub arranging_refused : List Record → ℕ → ℕ → ℕ → Option Refusal
arranging_refused records qse side tenths =
    first_of (
    (not_enrolled qse records, WrongQse)
    ∷ (nat_le sides side, NoSuchPlace)
    ∷ (above (totals_of (arranging records qse side tenths)).arranged, QuantityAboveLimit)
    ∷ (nat_lt 0 (how_many_above (arranging records qse side tenths)), ArrangedAboveObligation)
    ∷ []
    )

-- What the call answers and leaves.
abbrev pub Arranges : List Record → ℕ → ℕ → ℕ → Result (Unit {0}) Refusal → List Record → Type 0
Arranges before qse side tenths answer after = Changes (arranging_refused before qse side tenths) (arranging before qse side tenths) before answer after

-- A record with another failed quantity by kind 0, and with another infeasible quantity by kind 1.
abbrev pub with_failed : ℕ → ℕ → Record → Record
with_failed kind tenths r = record r { failed = if kind == 0 then tenths else r.failed; infeasible = if kind == 0 then r.infeasible else tenths }

-- Failing: a QSE's failed or infeasible quantity is replaced.
abbrev pub failing : List Record → ℕ → ℕ → ℕ → List Record
failing records qse kind tenths = changed qse (with_failed kind tenths) records

-- Refused: nobody has this number, there is no such kind, or the failed and infeasible quantities together would be above the limit.
abbrev pub failing_refused : List Record → ℕ → ℕ → ℕ → Option Refusal
failing_refused records qse kind tenths =
    first_of (
    (not_enrolled qse records, WrongQse)
    ∷ (nat_le kinds kind, NoSuchPlace)
    ∷ (above (totals_of (failing records qse kind tenths)).defaults, QuantityAboveLimit)
    ∷ []
    )

-- What the call answers and leaves.
abbrev pub Fails : List Record → ℕ → ℕ → ℕ → Result (Unit {0}) Refusal → List Record → Type 0
Fails before qse kind tenths answer after = Changes (failing_refused before qse kind tenths) (failing before qse kind tenths) before answer after
