use Rattle.std.proofs.Common.{◌∙◌, arith, rules, w64, FitsSigned}
use Rattle.std.proofs.lemmas.Int.{to_z-of_z}
use Rattle.sharing.specs.Shares.{nth}
use Rattle.statement.specs.Laws.{most_amount}
use Rattle.statement.proofs.Fits.{fits}
use Rattle.statement.proofs.Lists.{take-set-places}
use Rattle.statement.proofs.shares.write_open.Goals as goal

pub loop-k-preserved : goal.loop-k-preserved
loop-k-preserved c =
    let k = c.loop-k.k in
    let fits_left : FitsSigned w64 c.open_quantity.result = search rules in
    let fits_obligation : FitsSigned w64 (nth c.args.obligations.now k) = fits _ most_amount (c.requires.small k (omega arith)) (omega arith) in
    let left = simp to_z-of_z at c.open_quantity.ensures in
    take-set-places _ c.loop-k.weights k _ (omega arith) (to_z-of_z w64 c.open_quantity.result fits_left ∙ left) c.loop-k.invariant
