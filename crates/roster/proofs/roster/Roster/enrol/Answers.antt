use Rattle.std.proofs.Common.{◌≡◌, arith}
use Rattle.roster.specs.Records.{enrolments}
use Rattle.roster.proofs.Invariants.{newcomer_sound}
use Rattle.roster.proofs.roster.Roster.enrol.Goals as goal

pub invariant_of-self : goal.invariant_of-self
invariant_of-self c =
    let none : enrolments c.args.qse c.records.result.now ≡ 0 = grind arith in
    let tried = rw (c.newcomer.ensures, c.newcomer-record.ensures) at c.in_ok-totals.ensures in
    rw c.newcomer-record.ensures
    (newcomer_sound c.self.inside c.self.invariant _ _ _ c.in_ok-totals.totals (omega arith) tried c.if-qse-eq0.false
    (rw (c.self.view_is, ← c.records.ensures.value) none))
