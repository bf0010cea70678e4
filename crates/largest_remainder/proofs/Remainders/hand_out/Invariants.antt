use Rattle.std.proofs.Common.{◌≡◌, ℕ, ◌<◌, ◌≤◌, pos, ◌+ℤ◌}
use Rattle.sharing.specs.Shares.{nth}
use Rattle.largest_remainder.specs.Largest.{unit_for}
use Rattle.largest_remainder.proofs.Remainders.hand_out.Given as goal

abbrev pub invariant-loop-k : goal.invariant-loop-k
invariant-loop-k l = record {
  handed : (j : ℕ) → j < l.k → nth l.parts j ≡ nth l.initial.parts j +ℤ pos (unit_for l.self.missing l.self.all.now j);
  waiting : (j : ℕ) → l.k ≤ j → nth l.parts j ≡ nth l.initial.parts j;
}
