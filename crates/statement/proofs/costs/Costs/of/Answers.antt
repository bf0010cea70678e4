use Rattle.std.proofs.Common.{◌+◌, ◌*◌, map, take, ◌+ℤ◌, ◌-ℤ◌, neg_ℤ, sym, ap, ◌∙◌, arith, take_all, w64, FitsSigned}
use Rattle.std.proofs.lemmas.Int.{to_z-of_z}
use Rattle.integers.specs.Totals.{total_of}
use Rattle.statement.specs.Laws.{blank_row, most_amount, own_sum, row_at}
use Rattle.statement.specs.declared.amounts.Row.{Row}
use Rattle.statement.proofs.Fits.{fits, less_more, size_more}
use Rattle.statement.proofs.Lists.{total_more}
use Rattle.statement.proofs.costs.Costs.of.Goals as goal

pub loop-row-preserved : goal.loop-row-preserved
loop-row-preserved c =
    let rows = c.args.rows.now in
    let i = c.loop-row.row-index in
    let small = c.requires.small i c.loop-row-test.true in
    let inv = simp (c.loop-row.ahead-is, c.loop-row.net-is) at c.loop-row.invariant in
    let award = (row_at rows i).amounts.award in
    let own = c.own_sum-net.result in
    let size_award = size_more c.loop-row.ahead award i (4 * most_amount) inv.1 (omega (arith, small.award)) in
    let size_own = size_more c.loop-row.net own i (4 * most_amount) inv.3 c.own_sum-net.ensures.small in
    let fits_award : FitsSigned w64 award = fits award most_amount small.award (omega arith) in
    let fits_own : FitsSigned w64 own = fits own (4 * most_amount) c.own_sum-net.ensures.small (omega arith) in
    let fits_ahead : FitsSigned w64 (c.loop-row.ahead -ℤ award) = fits _ ((i + 1) * (4 * most_amount)) size_award (omega arith) in
    let fits_net : FitsSigned w64 (c.loop-row.net -ℤ own) = fits _ ((i + 1) * (4 * most_amount)) size_own (omega arith) in
    simp (to_z-of_z, c.loop-row.ahead-is, c.loop-row.net-is) (
      less_more c.loop-row.ahead award _ _ inv.0 (total_more (λ (row : Row). row.amounts.award) rows i blank_row c.loop-row-test.true),
      size_award,
      less_more c.loop-row.net own _ _ inv.2 (total_more own_sum rows i blank_row c.loop-row-test.true ∙ ap (λ z. total_of (map own_sum (take i rows)) +ℤ z) (sym c.own_sum-net.ensures.value)),
      size_own,
    )

pub returns : goal.returns
returns c =
    let all = take_all c.loop-row.row-index c.args.rows.now c.loop-row-test.false in
    record {
      ahead = c.loop-row.invariant.0 ∙ ap (λ rows. neg_ℤ (total_of (map (λ (row : Row). row.amounts.award) rows))) all;
      net = c.loop-row.invariant.2 ∙ ap (λ rows. neg_ℤ (total_of (map own_sum rows))) all;
    }
