use Rattle.std.proofs.Common.{List, ◌++◌, length, drop, replicate, sym, ap, ◌∙◌, subst}
use Rattle.std.proofs.lemmas.List.{take_at}
use Rattle.std.proofs.lemmas.List.FromFn.{length-map-range_with_len}
use Rattle.tables.specs.Tables.{IsTable}
use Rattle.tables.proofs.Entries.{table_written}
use Rattle.pricing.specs.Boards.{PlainBoard}
use Rattle.roster.specs.Limits.{most_enrolled}
use Rattle.roster.specs.declared.records.Record.{Record}
use Rattle.statement.specs.Amounts.{rules_of, statement}
use Rattle.statement.specs.Laws.{Lawful}
use Rattle.statement.specs.declared.amounts.Row.{Row}
use Rattle.statement.proofs.Passed.{passed}
use Rattle.statement.proofs.Statements.{lawful}
use Rattle.statement.proofs.statement.Statement.work_out.Goals as goal

pub invariant_of-result : goal.invariant_of-result
invariant_of-result g c =
    let records = c.in_ok-hour.hour.records.now in
    let blank = c.blank-rows.result in
    subst (λ (b : Row). IsTable most_enrolled b (length records) (c.write_rows.new.rows ++ drop (length records) (replicate most_enrolled blank))) c.blank-rows.ensures
    (table_written most_enrolled blank c.write_rows.new.rows (length records) (ap length c.in_ok-write_rows.ensures.1 ∙ length-map-range_with_len _ 0 (length records)) c.in_ok-hour.hour.kept.few)

pub returns-clause-laws : goal.returns-clause-laws
returns-clause-laws g c =
    let hour = c.in_ok-hour.hour in
    let records = hour.records.now in
    let rules = rules_of g.S.SharingRule.shares g.F.DefaultRule.charge g.I.DefaultRule.charge in
    let done = c.in_ok-write_rows.ensures in
    let same = c.in_ok-hour.ensures in
    let rows = take_at c.write_rows.new.rows _ (length records) (ap length done.1 ∙ length-map-range_with_len _ 0 (length records)) ∙ done.1 in
    let laws : Lawful rules hour.board.now records (statement rules hour.board.now records) =
    lawful rules g.met.S.SharingRule.fair (record { failure = g.met.F.DefaultRule.within; infeasible = g.met.I.DefaultRule.within }) hour.board.now hour.priced records hour.kept
    (passed rules hour.board.now records done.0)
    in
    subst (λ (p : PlainBoard × (List Record × List Row)). Lawful rules p.0 p.1.0 p.1.1) (λ j. (same.0 j, (same.1 j, sym rows j))) laws
