use Rattle.std.proofs.Common.{arith}
use Rattle.std.proofs.lemmas.Int.{ints}
use Rattle.integers.proofs.Totals.{total_at_most_size}
use Rattle.sharing.proofs.Division.new.Goals as goal

pub invariant_of-result-clause-small_sum : goal.invariant_of-result-clause-small_sum
invariant_of-result-clause-small_sum c = grind (arith, ints, total_at_most_size)
