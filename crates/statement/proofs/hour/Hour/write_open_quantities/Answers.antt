use Rattle.std.proofs.Common.{◌≡◌, map, length, replicate, pos, unsigned_abs, sym, ap, ◌∙◌, arith, w64, FitsSigned, rules}
use Rattle.std.proofs.lemmas.List.{length-map, length-replicate, length-take-le}
use Rattle.std.proofs.lemmas.Int.{to_z-of_z}
use Rattle.roster.specs.Limits.{most_enrolled}
use Rattle.sharing.specs.Shares.{nth}
use Rattle.statement.specs.Amounts.{obligations}
use Rattle.statement.specs.Quantities.{load_of, requirement}
use Rattle.statement.proofs.Ranges.{loads_in_range, obligation_small}
use Rattle.statement.proofs.Shared.{takes_as}
use Rattle.statement.proofs.hour.Hour.write_open_quantities.Goals as goal

pub share-requires : goal.share-requires
share-requires g c =
    let hour = c.args.self.now in
    let records = hour.records.now in
    let fits : FitsSigned w64 hour.quantities.requirement = search rules in
    let count : length (map load_of records) ≡ length records = length-map records load_of in
    let room = length-take-le (length c.args.weights.now) (replicate most_enrolled (pos 0)) (omega (arith, hour.kept.few, c.requires.room, length-replicate most_enrolled (pos 0))) in
    takes_as (requirement records) _ (map load_of records) _ _ (to_z-of_z w64 hour.quantities.requirement fits ∙ hour.right.requirement) c.write_loads.ensures
    (room ∙ c.requires.room ∙ sym count) (loads_in_range records hour.kept c.requires.loads)

pub write_open-requires-clause-small : goal.write_open-requires-clause-small
write_open-requires-clause-small g c k inside =
    let hour = c.args.self.now in
    let records = hour.records.now in
    let shares = g.S.SharingRule.shares in
    let fits : FitsSigned w64 hour.quantities.requirement = search rules in
    let shared : c.share.new.parts ≡ obligations shares records =
    c.share.ensures ∙ (λ j. shares ((to_z-of_z w64 hour.quantities.requirement fits ∙ hour.right.requirement) j) (c.write_loads.ensures j))
    in
    omega (arith, ap (λ parts. unsigned_abs (nth parts k)) shared, obligation_small records hour.kept shares g.met.S.SharingRule.fair c.requires.loads k inside)
