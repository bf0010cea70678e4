use Rattle.std.proofs.Common.{◌≡◌, ◌+◌, take}
use Rattle.integers.specs.Totals.{total_of, size_of}
use Rattle.integers.proofs.total_within.Given as goal

abbrev pub invariant-loop-number : goal.invariant-loop-number
invariant-loop-number l = record {
  left : l.left + size_of (take l.number-index l.numbers) ≡ l.most;
  total : l.total ≡ total_of (take l.number-index l.numbers);
}
