use Rattle.std.proofs.Common.{map, sym, ap, ◌∙◌, w64, FitsSigned, of_z, to_z, rules}
use Rattle.std.proofs.lemmas.List.{length-map}
use Rattle.std.proofs.lemmas.Int.{to_z-of_z}
use Rattle.statement.specs.Quantities.{open_day_ahead}
use Rattle.statement.proofs.Ranges.{charges_in_range, some_open}
use Rattle.statement.proofs.Shared.{parts_zero, takes_as}
use Rattle.statement.proofs.hour.Hour.write_charges.Goals as goal

pub returns-then-cost-eq0 : goal.returns-then-cost-eq0
returns-then-cost-eq0 g c =
    let cost = c.args.cost in
    let fits : FitsSigned w64 cost = search rules in
    c.fill.ensures.after (λ y same. same)
    ∙ parts_zero g.S.SharingRule.shares cost (map open_day_ahead c.args.self.now.records.now) c.args.self.now.records.now _ c.requires.room
    (sym (to_z-of_z w64 cost fits) ∙ ap (to_z w64) c.if-cost-eq0.true)

pub share-requires : goal.share-requires
share-requires g c =
    let records = c.args.self.now.records.now in
    let keeps = c.args.self.now.kept in
    let cost = c.args.cost in
    let fits : FitsSigned w64 cost = search rules in
    takes_as cost _ (map open_day_ahead records) _ _ (to_z-of_z w64 cost fits) c.write_open_day_ahead.ensures (c.requires.room ∙ sym (length-map records open_day_ahead))
    (charges_in_range records keeps cost c.requires.little (some_open records keeps (c.requires.some (λ none. c.if-cost-eq0.false (ap (of_z w64) none)))))
