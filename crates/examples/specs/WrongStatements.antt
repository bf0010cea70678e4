-- Statements with a mistake that an analyst would make, each shut out by the laws that every statement keeps.
use Rattle.std.specs.Prelude.{ℕ, List, [], ◌∷◌, replicate, ℤ, pos, negsuc, None, ◌≢◌}
use Rattle.defaults.specs.Charges.{at_day_ahead_price, at_top_price}
use Rattle.pricing.specs.Boards.{PlainBoard}
use Rattle.largest_remainder.specs.Largest.{largest_remainder}
use Rattle.pricing.specs.Limits.{intervals_of_an_hour}
use Rattle.roster.specs.declared.records.Record.{Record}
use Rattle.running.specs.Running.{running}
use Rattle.sharing.specs.Shares.{Fair, InRange}
use Rattle.statement.specs.Amounts.{Rules, rules_of, statement}
use Rattle.statement.specs.Laws.{Lawful}
use Rattle.statement.specs.declared.amounts.Row.{Row}
use Rattle.examples.specs.Mistakes.{one_market}

-- A QSE's number, load, obligation, award day-ahead, quantity arranged later, failed and infeasible quantity.
abbrev entry : ℕ → ℕ → ℕ → ℕ → ℕ → ℕ → ℕ → Record
entry qse load obligation award later failed infeasible =
    record {
      qse = qse;
      load = load;
      obligation = obligation;
      awards = award ∷ replicate 7 0;
      arranged = record { ahead = 0; later = later };
      failed = failed;
      infeasible = infeasible;
    }

-- A QSE's number and its six amounts.
abbrev amounts : ℕ → ℤ → ℤ → ℤ → ℤ → ℤ → ℤ → Row
amounts qse award supplemental failure infeasible charge adjustment =
    record {
      qse = qse;
      amounts = record { award = award; supplemental = supplemental; failure = failure; infeasible = infeasible; charge = charge; adjustment = adjustment };
    }

-- Under the highest and the day-ahead rule and any sharing rule, these rows are not a statement of these entries on the board with one market at 1,000.
abbrev ShutOut : List Record → List Row → Type 0
ShutOut records rows =
    (shares : ℤ → List ℤ → List ℤ) → ((total : ℤ) (weights : List ℤ) → InRange total weights → Fair total weights (shares total weights))
    → Lawful (rules_of shares at_top_price at_day_ahead_price) one_market records rows → ⊥

-- Each share of a dollar is rounded alone, and a cent goes missing. No board, entries or rules make this a statement.
abbrev pub CentsMissing : Type 0
CentsMissing =
    (rules : Rules) (board : PlainBoard) (records : List Record)
    → Lawful rules board records (
    amounts 7 (pos 0) (pos 0) (pos 0) (pos 0) (pos 33) (pos 0)
    ∷ amounts 9 (negsuc 99) (pos 0) (pos 0) (pos 0) (pos 33) (pos 0)
    ∷ amounts 3 (pos 0) (pos 0) (pos 0) (pos 0) (pos 33) (pos 0)
    ∷ []
    )
    → ⊥

-- QSE 7 arranged 2.0 MW later; 9 is awarded 10.0 MW, of which 5.0 MW are infeasible. The requirement is 12.0 MW, of which 7 has 7.2 MW, so that 5.2 MW of the
-- 10.0 MW bought are open to it: $26.00 of the $50.00. With the infeasible quantity subtracted it would be $22.00.
abbrev pub InfeasibleSubtracted : Type 0
InfeasibleSubtracted =
    ShutOut (entry 7 60 60 0 20 0 0 ∷ entry 9 40 40 100 0 0 50 ∷ [])
    (amounts 7 (pos 0) (pos 0) (pos 0) (pos 0) (pos 6000) (negsuc 3799) ∷ amounts 9 (negsuc 9999) (pos 0) (pos 0) (pos 5000) (pos 4000) (negsuc 1199) ∷ [])

-- 2.0 MW failed are charged a cent less than the day-ahead price asks.
abbrev pub ChargedTooLittle : Type 0
ChargedTooLittle = ShutOut (entry 9 40 40 100 0 20 0 ∷ []) (amounts 9 (negsuc 9999) (pos 0) (pos 1999) (pos 0) (pos 10000) (negsuc 1998) ∷ [])

-- 2.0 MW infeasible are charged a cent more than the top price asks.
abbrev pub ChargedTooMuch : Type 0
ChargedTooMuch = ShutOut (entry 9 40 40 100 0 0 20 ∷ []) (amounts 9 (negsuc 9999) (pos 0) (pos 0) (pos 2001) (pos 10000) (negsuc 2000) ∷ [])

-- 10.0 MW are awarded, and all amounts are 0.
abbrev pub AllZeros : Type 0
AllZeros =
    ShutOut (entry 7 60 60 0 0 0 0 ∷ entry 9 40 40 100 0 0 0 ∷ [])
    (amounts 7 (pos 0) (pos 0) (pos 0) (pos 0) (pos 0) (pos 0) ∷ amounts 9 (pos 0) (pos 0) (pos 0) (pos 0) (pos 0) (pos 0) ∷ [])

-- A statement that asks no sharing rule would be the same under every one: at three equal QSEs that share $1.01, the running rule and largest remainder give
-- different statements.
abbrev pub SharingRuleMatters : Type 0
SharingRuleMatters =
    let board : PlainBoard = record { prices = 101 ∷ []; intervals = replicate intervals_of_an_hour None } in
    let records = entry 7 1 1 0 0 0 0 ∷ entry 9 1 1 10 0 0 0 ∷ entry 3 1 1 0 0 0 0 ∷ [] in
    statement (rules_of running at_top_price at_day_ahead_price) board records ≢ statement (rules_of largest_remainder at_top_price at_day_ahead_price) board records

-- And one that asks no default rule: where two markets cleared at different prices, the rules for failed and for infeasible quantities decide, whatever the
-- sharing rule.
abbrev two_markets : PlainBoard
two_markets = record { prices = 1000 ∷ 3000 ∷ []; intervals = replicate intervals_of_an_hour None }

abbrev pub FailureRuleMatters : Type 0
FailureRuleMatters =
    (shares : ℤ → List ℤ → List ℤ)
    → statement (rules_of shares at_top_price at_day_ahead_price) two_markets (entry 9 40 40 100 0 20 0 ∷ [])
    ≢ statement (rules_of shares at_day_ahead_price at_day_ahead_price) two_markets (entry 9 40 40 100 0 20 0 ∷ [])

abbrev pub InfeasibleRuleMatters : Type 0
InfeasibleRuleMatters =
    (shares : ℤ → List ℤ → List ℤ)
    → statement (rules_of shares at_top_price at_day_ahead_price) two_markets (entry 9 40 40 100 0 0 20 ∷ [])
    ≢ statement (rules_of shares at_top_price at_top_price) two_markets (entry 9 40 40 100 0 0 20 ∷ [])
