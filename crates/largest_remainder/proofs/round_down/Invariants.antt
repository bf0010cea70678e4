use Rattle.std.proofs.Common.{◌≡◌, take, ◌-ℤ◌}
use Rattle.integers.specs.Totals.{total_of}
use Rattle.largest_remainder.specs.Largest.{floors, all_remainders}
use Rattle.largest_remainder.proofs.round_down.Given as goal

abbrev pub invariant-loop-k : goal.invariant-loop-k
invariant-loop-k l = record {
  rounded_down : take l.k l.parts ≡ take l.k (floors l.division.total l.division.weights.now);
  left : take l.k l.remainders ≡ take l.k (all_remainders l.division.total l.division.weights.now);
  missing : l.missing ≡ l.division.total -ℤ total_of (take l.k (floors l.division.total l.division.weights.now));
}
