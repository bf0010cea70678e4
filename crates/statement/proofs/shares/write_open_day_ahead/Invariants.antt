use Rattle.std.proofs.Common.{◌≡◌, map, take}
use Rattle.statement.specs.Quantities.{open_day_ahead}
use Rattle.statement.proofs.shares.write_open_day_ahead.Given as goal

abbrev pub invariant-loop-k : goal.invariant-loop-k
invariant-loop-k l = take l.k l.weights ≡ map open_day_ahead (take l.k l.records)
