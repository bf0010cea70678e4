use Rattle.std.proofs.Common.{◌≡◌, map, take, pos, ◌-ℤ◌}
use Rattle.std.specs.List.{range_with_len}
use Rattle.roster.specs.Records.{arranged}
use Rattle.sharing.specs.Shares.{nth}
use Rattle.statement.specs.Amounts.{record_at}
use Rattle.statement.proofs.shares.write_open.Given as goal

abbrev pub invariant-loop-k : goal.invariant-loop-k
invariant-loop-k l = take l.k l.weights ≡ map (λ k. nth l.obligations k -ℤ pos (arranged (record_at l.records k))) (range_with_len 0 l.k)
