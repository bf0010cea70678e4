use Rattle.std.proofs.Common.{arith}
use Rattle.roster.proofs.Invariants.{record_filed, record_sound}
use Rattle.roster.proofs.roster.Roster.file.Goals as goal

pub invariant_of-self : goal.invariant_of-self
invariant_of-self c =
    let before = rw (← c.self.view_is) at c.requires in
    record_sound c.self.inside c.self.invariant c.args.place c.args.new c.in_ok-totals.totals before.place c.in_ok-totals.ensures (omega arith) before.same_qse

pub returns : goal.returns
returns c =
    let before = rw (← c.self.view_is) at c.requires in
    rw (← c.self.view_is) (record_filed c.self.inside c.self.invariant c.args.place c.args.new c.in_ok-totals.totals before.place c.in_ok-totals.ensures (omega arith))
