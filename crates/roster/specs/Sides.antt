-- The sides on which a quantity is arranged and the kinds of a quantity that is not delivered, by the numbers that the calls take.
use Rattle.std.specs.Prelude.{◌≡◌, ℕ, ◌<◌, ◌≤◌, List, codes, Result, MatchResult}
use Rattle.refusals.specs.declared.Refusal.{Refusal}
use Rattle.refusals.specs.declared.Refusal.TheVariants.{NoSuchPlace}
use Rattle.roster.specs.declared.kind.Kind.{Kind}
use Rattle.roster.specs.declared.kind.Kind.TheVariants.{Failed, Infeasible}
use Rattle.roster.specs.declared.side.Side.{Side}
use Rattle.roster.specs.declared.side.Side.TheVariants.{DayAhead, Later}

-- The number that stands for a side in a call.
abbrev pub number_of_side : Side → ℕ
number_of_side DayAhead = 0
number_of_side Later = 1

-- What is written of a side.
abbrev pub side_text : Side → List ℕ
side_text DayAhead = codes "day-ahead"
side_text Later = codes "later"

-- The number that stands for a kind in a call.
abbrev pub number_of_kind : Kind → ℕ
number_of_kind Failed = 0
number_of_kind Infeasible = 1

-- What is written of a kind.
abbrev pub kind_text : Kind → List ℕ
kind_text Failed = codes "failed"
kind_text Infeasible = codes "infeasible"

-- What a number names: the value that it stands for, or a refusal where there are not so many.
abbrev pub Names : {A : Type 0} → (A → ℕ) → ℕ → ℕ → Result A Refusal → Type 0
Names number_of count number answer = MatchResult answer (λ named. (number_of named ≡ number) × (number < count)) (λ refusal. (refusal ≡ NoSuchPlace) × (count ≤ number))
