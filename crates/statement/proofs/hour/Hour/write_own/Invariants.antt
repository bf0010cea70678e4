use Rattle.std.proofs.Common.{◌≡◌, map, take, pos}
use Rattle.statement.specs.Amounts.{default_rules, row_of}
use Rattle.statement.proofs.hour.Hour.write_own.Given as goal

abbrev pub invariant-loop-place : goal.invariant-loop-place
invariant-loop-place g l =
    take l.place l.rows ≡ map (λ r. row_of (default_rules g.F.DefaultRule.charge g.I.DefaultRule.charge) l.self.board.now r (pos 0) (pos 0)) (take l.place l.self.records.now)
