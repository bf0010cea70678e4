use Rattle.std.proofs.Common.{take, arith}
use Rattle.std.proofs.lemmas.Int.{ints}
use Rattle.integers.proofs.Totals.{total_more, total_at_most_size}
use Rattle.std.proofs.lemmas.List.Sums.{sum_by_more}
use Rattle.integers.proofs.total_within.Goals as goal

pub overflow_add-total : goal.overflow_add-total
overflow_add-total c = omega (arith, ints, total_at_most_size (take c.loop-number.number-index c.args.numbers.now))

pub loop-number-preserved : goal.loop-number-preserved
loop-number-preserved c = record {
  left = grind (arith, ints, sum_by_more);
  total = grind (arith, ints, total_more, total_at_most_size (take c.loop-number.number-index c.args.numbers.now));
}
