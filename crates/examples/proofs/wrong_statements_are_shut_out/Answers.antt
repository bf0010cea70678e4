use Rattle.std.proofs.Common.{◌≡◌, ℕ, ◌*◌, ◌<◌, ◌≤◌, List, [], ◌∷◌, ℤ, pos, ◌+ℤ◌, ◌-ℤ◌, ◌*ℤ◌, unsigned_abs, ◌<ℤ◌, arith, lit<}
use Rattle.std.proofs.lemmas.Int.{ints}
use Rattle.pricing.specs.Cents.{cents_of}
use Rattle.sharing.specs.Shares.{Fair, InRange, nth}
use Rattle.examples.proofs.wrong_statements_are_shut_out.Goals as goal

-- The part by 60 of 60 and 40 is 60 hundredths of the total, where that is a whole number.
whole_part : (tens : ℕ) (p : ℤ) → (p *ℤ pos 100) <ℤ (pos (600 * tens) +ℤ pos 100) → pos (600 * tens) <ℤ (p *ℤ pos 100 +ℤ pos 100) → p ≡ pos (6 * tens)
whole_part tens p h k = omega (arith, ints, h, k)

module _ (shares : ℤ → List ℤ → List ℤ) (fair : (total : ℤ) (weights : List ℤ) → InRange total weights → Fair total weights (shares total weights)) where
  range : (tens : ℕ) → tens ≤ 12 → InRange (pos (10 * tens)) (pos 60 ∷ pos 40 ∷ [])
  range tens few =
      record { some_members = omega arith; few_members = omega arith; small_total = omega (arith, few); small_sizes = omega arith; positive = omega (arith, ints) }

  part_of_12 : nth (shares (pos 120) (pos 60 ∷ pos 40 ∷ [])) 0 ≡ pos 72
  part_of_12 = let laws = fair (pos 120) (pos 60 ∷ pos 40 ∷ []) (range 12 (omega arith)) in whole_part 12 _ (laws.not_above 0 (lit< tt)) (laws.not_below 0 (lit< tt))

  part_of_10 : nth (shares (pos 100) (pos 60 ∷ pos 40 ∷ [])) 0 ≡ pos 60
  part_of_10 = let laws = fair (pos 100) (pos 60 ∷ pos 40 ∷ []) (range 10 (omega arith)) in whole_part 10 _ (laws.not_above 0 (lit< tt)) (laws.not_below 0 (lit< tt))

too_far : (p : ℤ) → p ≡ pos 72 → unsigned_abs (pos 2200 *ℤ pos 100 -ℤ pos 5000 *ℤ (p -ℤ pos 20)) < 100 → ⊥
too_far p e h = omega (arith, ints, e, h)

far_from_none : (p : ℤ) → p ≡ pos 60 → unsigned_abs (pos 0 *ℤ pos 100 -ℤ pos 10000 *ℤ (p -ℤ pos 0)) < 100 → ⊥
far_from_none p e h = omega (arith, ints, e, h)

pub returns : goal.returns
unfolding cents_of
returns c =
    record {
      cents_missing = λ rules board records lawful. omega (arith, ints, lawful.balanced);
      infeasible_subtracted = λ shares fair lawful. too_far _ (part_of_12 shares fair) (lawful.near (λ e. omega (arith, ints, e)) 0 (lit< tt));
      charged_too_little = λ shares fair lawful. omega (arith, ints, (lawful.failures 0 (lit< tt)).at_least_day_ahead);
      charged_too_much = λ shares fair lawful. omega (arith, ints, (lawful.infeasibles 0 (lit< tt)).at_most_top);
      all_zeros = λ shares fair lawful. far_from_none _ (part_of_10 shares fair) (lawful.near (λ e. omega (arith, ints, e)) 0 (lit< tt));
    }
