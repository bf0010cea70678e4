use Rattle.std.proofs.Common.{sym, ap, ◌∙◌, w64, FitsSigned, of_z, to_z, rules}
use Rattle.std.proofs.lemmas.Int.{to_z-of_z}
use Rattle.statement.specs.Amounts.{open_quantities}
use Rattle.statement.proofs.Ranges.{open_in_range, open_long}
use Rattle.statement.proofs.Shared.{parts_zero, takes_as}
use Rattle.statement.proofs.hour.Hour.write_cost_shares.Goals as goal

pub returns-then-cost-eq0 : goal.returns-then-cost-eq0
returns-then-cost-eq0 g c =
    let cost = c.args.cost in
    let records = c.args.self.now.records.now in
    let shares = g.S.SharingRule.shares in
    let fits : FitsSigned w64 cost = search rules in
    c.fill.ensures.after (λ y same. same)
    ∙ parts_zero shares cost (open_quantities shares records) records _ c.requires.room (sym (to_z-of_z w64 cost fits) ∙ ap (to_z w64) c.if-cost-eq0.true)

pub share-requires : goal.share-requires
share-requires g c =
    let records = c.args.self.now.records.now in
    let keeps = c.args.self.now.kept in
    let cost = c.args.cost in
    let shares = g.S.SharingRule.shares in
    let fair = g.met.S.SharingRule.fair in
    let fits : FitsSigned w64 cost = search rules in
    let loads = c.requires.loads (λ none. c.if-cost-eq0.false (ap (of_z w64) none)) in
    takes_as cost _ (open_quantities shares records) _ _ (to_z-of_z w64 cost fits) c.write_open_quantities.ensures (c.requires.room ∙ sym (open_long records keeps shares fair loads))
    (open_in_range records keeps shares fair loads cost c.requires.little (c.requires.something (λ none. c.if-cost-eq0.false (ap (of_z w64) none))))
