use Rattle.std.proofs.Common.{ℕ, ◌≤◌, List, length, pos, ◌+ℤ◌, unsigned_abs, get_or-set_other, ◌∙◌, arith, rules}
use Rattle.std.proofs.lemmas.Int.{ints}
use Rattle.std.proofs.lemmas.List.FromFn.{fill_by_all}
use Rattle.std.proofs.lemmas.List.Sums.{get_or-le-sum_by}
use Rattle.sharing.specs.Shares.{nth}
use Rattle.sharing.proofs.Parts.{written_more}
use Rattle.largest_remainder.specs.Largest.{unit_for}
use Rattle.largest_remainder.proofs.Remainders.hand_out.Goals as goal

at_most_one : (units : ℕ) (remainders : List ℕ) (k : ℕ) → unit_for units remainders k ≤ 1
at_most_one units remainders k = grind arith

pub loop-k-preserved : goal.loop-k-preserved
loop-k-preserved c =
    let k = c.loop-k.k in
    let was = c.args.parts.now in
    let same = c.loop-k.invariant.waiting k (omega arith) in
    let small = get_or-le-sum_by unsigned_abs was k (pos 0) (omega arith) in
    record {
      handed = written_more (λ j. nth was j +ℤ pos (unit_for c.args.self.now.missing c.args.self.now.all.now j)) c.loop-k.parts k _ (search rules) c.loop-k.invariant.handed (omega (arith, ints, at_most_one c.args.self.now.missing c.args.self.now.all.now k));
      waiting = λ j h. get_or-set_other c.loop-k.parts k j _ (pos 0) (omega arith) ∙ c.loop-k.invariant.waiting j (omega arith);
    }

pub returns : goal.returns
returns c =
    let was = c.args.parts.now in
    fill_by_all (λ j. nth was j +ℤ pos (unit_for c.args.self.now.missing c.args.self.now.all.now j)) c.loop-k.parts (length was) (pos 0) (search rules) (λ j h. c.loop-k.invariant.handed j (omega arith))
