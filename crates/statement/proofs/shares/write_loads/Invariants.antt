use Rattle.std.proofs.Common.{◌≡◌, map, take}
use Rattle.statement.specs.Quantities.{load_of}
use Rattle.statement.proofs.shares.write_loads.Given as goal

abbrev pub invariant-loop-k : goal.invariant-loop-k
invariant-loop-k l = take l.k l.weights ≡ map load_of (take l.k l.records)
