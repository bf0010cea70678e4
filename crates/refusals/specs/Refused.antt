-- The numbered refusals, and how a call that may be refused answers.
use Rattle.std.specs.Prelude.{◌≡◌, ℕ, Bool, if◌then◌else◌, List, [], ◌∷◌, ◌++◌, codes, decimal, Some, None, Ok, Err, Option, Result}
use Rattle.refusals.specs.declared.Refusal.{Refusal}
use Rattle.refusals.specs.declared.Refusal.TheVariants.{WrongQse, RosterFull, NoSuchPlace, PriceAboveLimit, QuantityAboveLimit, ArrangedAboveObligation, DayAheadNotCleared, NothingOpenDayAhead, NothingBought, NoLoad, OutsideSharingRange}

-- The number of each refusal.
abbrev pub number_of : Refusal → ℕ
number_of WrongQse = 4
number_of RosterFull = 5
number_of NoSuchPlace = 6
number_of PriceAboveLimit = 7
number_of QuantityAboveLimit = 8
number_of ArrangedAboveObligation = 9
number_of DayAheadNotCleared = 10
number_of NothingOpenDayAhead = 12
number_of NothingBought = 13
number_of NoLoad = 14
number_of OutsideSharingRange = 19

-- What is written of a refusal.
abbrev pub refusal_text : Refusal → List ℕ
refusal_text refusal = codes "refused " ++ decimal (number_of refusal)

-- Tests in the order in which they are checked, each with its refusal: the first that holds refuses.
abbrev pub first_of : List (Bool × Refusal) → Option Refusal
first_of [] = None
first_of (test ∷ tests) = if test.0 then Some test.1 else first_of tests

-- A call that changes a state. Refused, it leaves the state as it was; else it leaves the new state.
abbrev pub Changes : {S : Type 0} → Option Refusal → S → S → Result (Unit {0}) Refusal → S → Type 0
Changes (Some refusal) new before answer after = (answer ≡ Err refusal) × (after ≡ before)
Changes None new before answer after = (answer ≡ Ok tt) × (after ≡ new)

-- A call that answers a value, where it is not refused.
abbrev pub Gives : {V : Type 0} → Option Refusal → V → Result V Refusal → Type 0
Gives (Some refusal) value answer = answer ≡ Err refusal
Gives None value answer = answer ≡ Ok value
