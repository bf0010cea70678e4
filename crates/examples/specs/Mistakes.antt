-- Mistakes that a rule could make, each shut out by the laws that every rule keeps.
use Rattle.std.specs.Prelude.{[], ◌∷◌, replicate, pos, None}
use Rattle.defaults.specs.Charges.{Within}
use Rattle.pricing.specs.Boards.{PlainBoard}
use Rattle.pricing.specs.Limits.{intervals_of_an_hour}
use Rattle.sharing.specs.Shares.{Fair}

-- A sharing rule hands the first member all.
abbrev pub FirstMemberGetsAll : Type 0
FirstMemberGetsAll = Fair (pos 10) (pos 1 ∷ pos 1 ∷ []) (pos 10 ∷ pos 0 ∷ [])

-- Each share is rounded alone, so that a cent goes missing.
abbrev pub RoundedAlone : Type 0
RoundedAlone = Fair (pos 100) (pos 1 ∷ pos 1 ∷ pos 1 ∷ []) (pos 33 ∷ pos 33 ∷ pos 33 ∷ [])

-- A member with a weight of 0 gets a unit.
abbrev pub UnitForNothing : Type 0
UnitForNothing = Fair (pos 1) (pos 2 ∷ pos 0 ∷ []) (pos 0 ∷ pos 1 ∷ [])

-- A board on which the day-ahead market cleared at 1,000 cents per MW, and nothing else.
abbrev pub one_market : PlainBoard
one_market = record { prices = 1000 ∷ []; intervals = replicate intervals_of_an_hour None }

-- A default rule charges nothing for 1.0 MW.
abbrev pub ChargesNothing : Type 0
ChargesNothing = Within one_market 10 0

-- A default rule charges a cent more than the top price for 1.0 MW.
abbrev pub ChargesAboveTop : Type 0
ChargesAboveTop = Within one_market 10 1001
