use Rattle.std.proofs.Common.{◌≡◌, ℕ, ◌-◌, ◌<◌, ◌≤◌, List, [], ◌∷◌, refl, length, get_or, drop, sum, sum_by, sym, ap, ◌∙◌, arith, rules, tests}
use Rattle.std.proofs.lemmas.Iterator.{YieldsList-from_map, YieldsList-from_slice, YieldsList-from_zip}
use Rattle.std.proofs.lemmas.Iterator.Consumers.{YieldsList-at, fits_by_from_yields_list, sum_by_from_yields_List}
use Rattle.std.proofs.lemmas.List.{length-drop, take_all, take_rest}
use Rattle.std.proofs.lemmas.List.Elements.{All-from_get_or}
use Rattle.std.proofs.lemmas.List.FromFn.{length-range_with_len}
use Rattle.std.proofs.lemmas.List.Sums.{sum-map, sum_by-le}
use Rattle.std.proofs.lemmas.Slice.Zip.{get_or-zip, length-zip}
use Rattle.std.specs.List.{range_with_len, zip}
use Rattle.pricing.specs.Cents.{cents_of}
use Rattle.statement.proofs.Bounds.{cents_fit}
use Rattle.statement.proofs.Lists.{map-drop}
use Rattle.statement.proofs.own.later_cents.Goals as goal

abbrev pair_cents : ℕ × ℕ → ℕ
pair_cents pair = cents_of pair.0 pair.1

zip-drop : (prices awards : List ℕ) → zip (drop 1 prices) (drop 1 awards) ≡ drop 1 (zip prices awards)
zip-drop [] awards = refl
zip-drop (price ∷ []) [] = refl
zip-drop (price ∷ next ∷ prices) [] = refl
zip-drop (price ∷ prices) (award ∷ awards) = refl

module _ (prices awards : List ℕ) (fewer : length prices ≤ length awards) where
  abbrev market_cents : ℕ → ℕ
  market_cents market = cents_of (get_or prices market 0) (get_or awards market 0)

  -- The cents of the pairs after the first are those of the markets after market 0.
  later_pairs : sum_by pair_cents (zip (drop 1 prices) (drop 1 awards)) ≡ sum_by market_cents (range_with_len 1 (length prices - 1))
  later_pairs =
      let pairs = zip prices awards in
      let long : length pairs ≡ length prices = omega (arith, length-zip prices awards) in
      let each = map-drop pair_cents market_cents pairs (0, 0) 1 (length prices - 1) (omega (arith, long)) (λ k inside. ap pair_cents (get_or-zip prices awards k (0, 0) (omega (arith, inside, long)) (omega (arith, inside, long)))) in
      ap (sum_by pair_cents) (zip-drop prices awards) ∙ sym (sum-map pair_cents (drop 1 pairs)) ∙ ap sum each ∙ sum-map market_cents (range_with_len 1 (length prices - 1))

  later_fits : ((k : ℕ) → get_or prices k 0 < 4294967296) → ((k : ℕ) → get_or awards k 0 < 4294967296) → length prices ≤ 8
      → sum_by pair_cents (zip (drop 1 prices) (drop 1 awards)) < 18446744073709551616
  later_fits low few short =
      let places = range_with_len 1 (length prices - 1) in
      let each = All-from_get_or (λ market. market_cents market ≤ 1844674407370955162) places 0 (λ k inside. cents_fit _ _ (low (get_or places k 0)) (few (get_or places k 0))) in
      omega (arith, later_pairs, sum_by-le market_cents 1844674407370955162 places each, length-range_with_len 1 (length prices - 1))

pub sum-requires-clause-fits : goal.sum-requires-clause-fits
sum-requires-clause-fits c =
    let prices = c.args.prices.now in
    let awards = c.args.awards.now in
    fits_by_from_yields_list pair_cents (zip (drop 1 prices) (drop 1 awards)) c.map.result _
    (YieldsList-from_map _ pair_cents
    (YieldsList-at c.map.ensures.source (YieldsList-from_zip (YieldsList-from_slice (drop 1 prices) (cc (take_rest prices 1))) (YieldsList-from_slice (drop 1 awards) (cc (take_all 7 (drop 1 awards) (omega (arith, length-drop 1 awards)))))))
    c.map.ensures.closure (λ x r q k. search (rules, tests)))
    (later_fits prices awards (omega arith) (λ k. search rules) (λ k. search rules) c.requires.few)

pub returns : goal.returns
returns c =
    let prices = c.args.prices.now in
    let awards = c.args.awards.now in
    sum_by_from_yields_List pair_cents (zip (drop 1 prices) (drop 1 awards)) c.map.result _ c.sum.ensures.ran
    (YieldsList-from_map _ pair_cents
    (YieldsList-at c.map.ensures.source (YieldsList-from_zip (YieldsList-from_slice (drop 1 prices) (cc (take_rest prices 1))) (YieldsList-from_slice (drop 1 awards) (cc (take_all 7 (drop 1 awards) (omega (arith, length-drop 1 awards)))))))
    c.map.ensures.closure (λ x r q k. search (rules, tests)))
    ∙ later_pairs prices awards (omega arith)
