use Rattle.std.proofs.Common.{ap, ◌∙◌, arith, w64, FitsSigned}
use Rattle.std.proofs.lemmas.Int.{to_z-of_z}
use Rattle.std.proofs.lemmas.List.{get_or-set_other}
use Rattle.sharing.specs.Shares.{nth}
use Rattle.statement.specs.Laws.{blank_row, most_amount}
use Rattle.statement.specs.Working.{with_shares}
use Rattle.statement.specs.declared.amounts.Row.{Row}
use Rattle.statement.proofs.Fits.{fits}
use Rattle.statement.proofs.Lists.{take-set-places}
use Rattle.statement.proofs.statement.working.write_shared.Goals as goal

pub loop-k-preserved : goal.loop-k-preserved
loop-k-preserved c =
    let k = c.loop-k.k in
    let charge = nth c.args.charges.now k in
    let share = nth c.args.shares.now k in
    let fits_charge : FitsSigned w64 charge = fits charge most_amount (c.requires.charge k (omega arith)) (omega arith) in
    let fits_share : FitsSigned w64 share = fits share most_amount (c.requires.share k (omega arith)) (omega arith) in
    let written = simp to_z-of_z at c.with_shares.ensures in
    record {
      written = take-set-places _ c.loop-k.rows k _ (omega arith) (written ∙ ap (λ (row : Row). with_shares row charge share) (c.loop-k.invariant.later k (omega arith))) c.loop-k.invariant.written;
      later = λ j after. get_or-set_other c.loop-k.rows k j _ blank_row (λ e. absurd (omega (arith, e, after))) ∙ c.loop-k.invariant.later j (omega arith);
    }
