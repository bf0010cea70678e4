use Rattle.std.proofs.Common.{arith}
use Rattle.std.proofs.lemmas.Int.{ints, to_z-of_z}
use Rattle.running.specs.Running.{rounded}
use Rattle.running.proofs.round.Goals as goal

pub returns : goal.returns
unfolding rounded
returns c = grind (arith, ints, to_z-of_z)
