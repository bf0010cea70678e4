use Rattle.std.proofs.Common.{arith, rules, tests}
use Rattle.std.proofs.lemmas.Iterator.{YieldsList-from_slice}
use Rattle.std.proofs.lemmas.Iterator.Adapters.{fits_from_length, at_most_from_yields_List}
use Rattle.sharing.specs.Shares.{most_members}
use Rattle.largest_remainder.proofs.count_from.Goals as goal

-- Each number adds at most 1.
pub sum-requires-clause-fits : goal.sum-requires-clause-fits
sum-requires-clause-fits c =
    fits_from_length _ _ most_members _ (at_most_from_yields_List (YieldsList-from_slice c.args.numbers.now (cc)) c.requires) c.map.ensures.closure (omega arith) (λ x r q k. search (rules, tests))
