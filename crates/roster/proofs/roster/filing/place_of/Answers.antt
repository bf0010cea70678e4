use Rattle.std.proofs.Common.{eqb, rules, tests, arith}
use Rattle.std.proofs.lemmas.Iterator.{YieldsList-from_slice}
use Rattle.std.proofs.lemmas.Iterator.Search.{position_from_yields_List}
use Rattle.roster.specs.declared.records.Record.{Record}
use Rattle.roster.proofs.Numbers.{none_enrolled}
use Rattle.roster.proofs.roster.filing.place_of.Goals as goal

pub returns-clause-missing : goal.returns-clause-missing
returns-clause-missing c =
    let records = c.args.records.now in
    let first = position_from_yields_List (λ (r : Record). eqb r.qse c.args.qse) _ _ c.position.result c.position.ensures.ran (YieldsList-from_slice records cc) (λ x b q k. search (rules, tests)) in
    let none = none_enrolled c.args.qse records in
    grind arith
