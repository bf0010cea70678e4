-- What the checks of a statement tell once they are passed.
use Rattle.std.specs.Prelude.{int_lt}
use Rattle.std.proofs.Common.{◌≡◌, ℕ, ◌≤◌, Bool, true, false, not, ◌&&◌, eqb, List, [], ◌∷◌, map, length, ℤ, pos, unsigned_abs, ◌≤ℤ◌, Some, None, Ok, Err, Option, sym, refl, ap, ◌∙◌, arith}
use Rattle.std.proofs.lemmas.Int.{ints}
use Rattle.std.proofs.lemmas.Bool.{cond-false, eqb-true, eqb-false, eq-eqb, ne_eqb}
use Rattle.integers.specs.Totals.{total_of}
use Rattle.refusals.specs.Refused.{Gives, first_of}
use Rattle.refusals.specs.declared.Refusal.{Refusal}
use Rattle.refusals.specs.declared.Refusal.TheVariants.{DayAheadNotCleared, NoLoad, NothingBought, NothingOpenDayAhead}
use Rattle.pricing.specs.Boards.{PlainBoard}
use Rattle.roster.specs.declared.records.Record.{Record}
use Rattle.statement.specs.Amounts.{Rules, day_ahead_cost, is_zero, net_cost, refused}
use Rattle.statement.specs.Working.{Right}
use Rattle.statement.specs.declared.costs.Costs.{Costs}
use Rattle.statement.specs.declared.costs.Quantities.{Quantities}
use Rattle.statement.specs.Quantities.{bought, load_of, open_day_ahead}

pub zero_true : (z : ℤ) → is_zero z ≡ true → z ≡ pos 0
zero_true z e = omega (arith, ints, eqb-true (unsigned_abs z) 0 e)

pub zero_false : (z : ℤ) → is_zero z ≡ false → z ≡ pos 0 → ⊥
zero_false z e none = eqb-false (unsigned_abs z) 0 e (ap unsigned_abs none)

pub is_zero_true : (z : ℤ) → z ≡ pos 0 → is_zero z ≡ true
is_zero_true z none = eq-eqb (unsigned_abs z) 0 (ap unsigned_abs none)

pub is_zero_false : (z : ℤ) → (z ≡ pos 0 → ⊥) → is_zero z ≡ false
is_zero_false z some = ne_eqb (unsigned_abs z) 0 (λ e. some (omega (arith, ints)))

-- What holds of the three weights where nothing is refused.
pub record Passed (rules : Rules) (board : PlainBoard) (records : List Record) : Type 0 where
  pub cleared : 1 ≤ length board.prices
  pub open_ahead : (day_ahead_cost board records ≡ pos 0 → ⊥) → total_of (map open_day_ahead records) ≡ pos 0 → ⊥
  pub something : (net_cost rules.defaults board records ≡ pos 0 → ⊥) → pos 1 ≤ℤ bought records
  pub loads : (net_cost rules.defaults board records ≡ pos 0 → ⊥) → total_of (map load_of records) ≡ pos 0 → ⊥

none_of : (a b c d e f : Bool) → first_of ((a, DayAheadNotCleared) ∷ (not b && c, NothingOpenDayAhead) ∷ (not d && e, NothingBought) ∷ (not d && f, NoLoad) ∷ []) ≡ None
    → (a ≡ false) × (b ≡ false → c ≡ false) × (d ≡ false → e ≡ false) × (d ≡ false → f ≡ false)
none_of a b c d e f h = grind arith

pub passed : (rules : Rules) (board : PlainBoard) (records : List Record) → refused rules board records ≡ None → Passed rules board records
passed rules board records e =
    let tests =
    none_of (eqb (length board.prices) 0) (is_zero (day_ahead_cost board records)) (is_zero (total_of (map open_day_ahead records))) (is_zero (net_cost rules.defaults board records))
    (int_lt (bought records) (pos 1)) (is_zero (total_of (map load_of records))) e
    in
    record {
      cleared = some (eqb-false (length board.prices) 0 tests.0);
      open_ahead = λ cost. zero_false (total_of (map open_day_ahead records)) (tests.1 (is_zero_false (day_ahead_cost board records) cost));
      something = λ cost. at_least (bought records) (tests.2 (is_zero_false (net_cost rules.defaults board records) cost));
      loads = λ cost. zero_false (total_of (map load_of records)) (tests.3 (is_zero_false (net_cost rules.defaults board records) cost));
    }
  where
    some : {n : ℕ} → (n ≡ 0 → ⊥) → 1 ≤ n
    some h = omega arith

    at_least : (b : ℤ) → int_lt b (pos 1) ≡ false → pos 1 ≤ℤ b
    at_least b h = omega (arith, ints)

-- The checks on numbers worked out are the checks that are defined.
pub refused_as : (rules : Rules) (board : PlainBoard) (records : List Record) (ahead net some : ℤ) (left loads : ℕ) → eqb (length board.prices) 0 ≡ false
    → ahead ≡ day_ahead_cost board records → net ≡ net_cost rules.defaults board records → pos left ≡ total_of (map open_day_ahead records) → some ≡ bought records
    → pos loads ≡ total_of (map load_of records)
    → first_of ((not (is_zero ahead) && eqb left 0, NothingOpenDayAhead) ∷ (not (is_zero net) && int_lt some (pos 1), NothingBought) ∷ (not (is_zero net) && eqb loads 0, NoLoad) ∷ []) ≡ refused rules board records
refused_as rules board records ahead net some left loads cleared ahead_is net_is left_is some_is loads_is =
    (λ j.
    first_of (
    (not (is_zero (ahead_is j)) && is_zero (left_is j), NothingOpenDayAhead)
    ∷ (not (is_zero (net_is j)) && int_lt (some_is j) (pos 1), NothingBought)
    ∷ (not (is_zero (net_is j)) && is_zero (loads_is j), NoLoad)
    ∷ []
    ))
    ∙ sym (cond-false (eqb (length board.prices) 0) (Some DayAheadNotCleared) _ cleared)

-- What an answer says of the tests.
pub test_of_ok : {V : Type 0} (test : Option Refusal) (value answer : V) → Gives test value (Ok answer) → test ≡ None
test_of_ok None value answer h = refl
test_of_ok (Some refusal') value answer h = absurd (grind arith)

pub test_of_err : {V : Type 0} (test : Option Refusal) (value : V) (refusal : Refusal) → Gives test value (Err refusal) → test ≡ Some refusal
test_of_err None value refusal h = absurd (grind arith)
test_of_err (Some refusal') value refusal h = cc

-- The numbers that were checked are those of the roster and the board.
module _ (rules : Rules) (board : PlainBoard) (records : List Record) (costs : Costs) (quantities : Quantities) (cleared : 1 ≤ length board.prices)
    (ahead_is : costs.ahead ≡ day_ahead_cost board records) (net_is : costs.net ≡ net_cost rules.defaults board records) (right : Right quantities records) where
  abbrev tests : Option Refusal
  tests =
      first_of (
      (not (is_zero costs.ahead) && eqb quantities.ahead 0, NothingOpenDayAhead)
      ∷ (not (is_zero costs.net) && int_lt quantities.bought (pos 1), NothingBought)
      ∷ (not (is_zero costs.net) && eqb quantities.loads 0, NoLoad)
      ∷ []
      )

  same_tests : tests ≡ refused rules board records
  same_tests =
      refused_as rules board records costs.ahead costs.net quantities.bought quantities.ahead quantities.loads
      (ne_eqb (length board.prices) 0 (λ none. absurd (omega (arith, none, cleared)))) ahead_is net_is right.ahead right.bought right.loads

  pub not_refused : Gives {V = Unit {0}} tests (tt {0}) (Ok (tt {0})) → refused rules board records ≡ None
  not_refused answer = sym same_tests ∙ test_of_ok tests (tt {0}) (tt {0}) answer

  pub refused_by : (refusal : Refusal) → Gives {V = Unit {0}} tests (tt {0}) (Err refusal) → refused rules board records ≡ Some refusal
  refused_by refusal answer = sym same_tests ∙ test_of_err tests (tt {0}) refusal answer

  pub checked : Gives {V = Unit {0}} tests (tt {0}) (Ok (tt {0})) → Passed rules board records
  checked answer = passed rules board records (not_refused answer)
