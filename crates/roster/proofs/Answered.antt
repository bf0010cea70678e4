-- How a filing call answers that changes the record of one QSE.
use Rattle.std.proofs.Common.{◌≡◌, ℕ, ◌+◌, ◌==◌, Bool, true, false, if◌then◌else◌, nat_lt, List, [], ◌∷◌, set, sum_by, Ok, Err, Result, inl, inr, refl, ◌∙◌, subst, arith}
use Rattle.std.proofs.lemmas.List.Folds.{fold-map}
use Rattle.std.proofs.lemmas.Bool.{cond_both, eq-eqb, ne_eqb}
use Rattle.std.proofs.lemmas.Bool.Decides.{nat_tests}
use Rattle.refusals.specs.declared.Refusal.{Refusal}
use Rattle.refusals.specs.declared.Refusal.TheVariants.{WrongQse, NoSuchPlace, QuantityAboveLimit, ArrangedAboveObligation}
use Rattle.refusals.specs.Refused.{first_of, Changes}
use Rattle.roster.specs.Filing.{changed, not_enrolled}
use Rattle.roster.specs.Records.{Kept, enrolments, how_many_above, arranged_above, too_much}
use Rattle.roster.specs.Working.{FilesMade, Found, Tries}
use Rattle.roster.specs.declared.records.Record.{Record}
use Rattle.roster.proofs.Totals.{above_set}
use Rattle.roster.proofs.Numbers.{enrolled, is_set}

-- What is added up over the roster stays as it was, where a change leaves alone what each record adds.
pub sum_by-changed : (f : Record → ℕ) (qse : ℕ) (change : Record → Record) (records : List Record) → ((r : Record) → f (change r) ≡ f r) → sum_by f (changed qse change records) ≡ sum_by f records
sum_by-changed f qse change records same =
    fold-map (λ (sum : ℕ) (r : Record). sum + f r) (λ r. if r.qse == qse then change r else r) 0 records
    ∙ (λ j. sum_by (λ (r : Record). cond_both (r.qse == qse) (change r) r (λ (new : Record). f new ≡ f r) (λ _. same r) (λ _. refl) j) records)

-- The record of one QSE is changed, where the change is refused only for want of a place.
module _ (qse : ℕ) (change : Record → Record) (before : List Record) (answer : Result (Unit {0}) Refusal) (after : List Record) (keeps : Kept before) where
  placed : (nowhere : Bool) (place : ℕ) (new : Record) → FilesMade before place (if nowhere then Err NoSuchPlace else Ok new) answer after
      → Changes (first_of ((nowhere, NoSuchPlace) ∷ (too_much (set before place new), QuantityAboveLimit) ∷ (arranged_above new, ArrangedAboveObligation) ∷ [])) (set before place new) before answer after
  placed true place new h = h
  placed false place new h = h

  one_above_changed : (place : ℕ) (old : Record) → Found qse before place old → nat_lt 0 (how_many_above (changed qse change before)) ≡ arranged_above (change old)
  one_above_changed place old found =
      rw (is_set qse before place old found change (keeps.distinct qse), above_set before place (change old) found.inside keeps.covered) (grind (arith, nat_tests))

  pub answered : {Makes : Record → Result Record Refusal → Type 0} (nowhere : Bool) → ((old : Record) (made : Result Record Refusal) → Makes old made → made ≡ (if nowhere then Err NoSuchPlace else Ok (change old)))
      → Tries Makes qse before answer after
      → Changes (first_of (
      (not_enrolled qse before, WrongQse)
      ∷ (nowhere, NoSuchPlace)
      ∷ (too_much (changed qse change before), QuantityAboveLimit)
      ∷ (nat_lt 0 (how_many_above (changed qse change before)), ArrangedAboveObligation)
      ∷ []
      )) (changed qse change before) before answer after
  answered nowhere makes (inl unknown) = rw (eq-eqb _ _ unknown.0) (unknown.1, unknown.2)
  answered nowhere makes (inr (place, old, made, found, makes_it, files)) =
      let known : not_enrolled qse before ≡ false = ne_eqb (enrolments qse before) 0 (λ none. absurd (omega (arith, none, enrolled qse before place old found))) in
      let made_so = subst (λ (m : Result Record Refusal). FilesMade before place m answer after) (makes old made makes_it) files in
      rw (known, one_above_changed place old found, is_set qse before place old found change (keeps.distinct qse)) (placed nowhere place (change old) made_so)
