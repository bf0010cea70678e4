use Rattle.std.proofs.Common.{◌≡◌, ℕ, ◌+◌, ◌<◌, take, ℤ, ◌-ℤ◌}
use Rattle.integers.specs.Totals.{total_of}
use Rattle.sharing.specs.Shares.{nth}
use Rattle.running.specs.Running.{first_parts}
use Rattle.running.proofs.write_parts.Given as goal

abbrev pub invariant-loop-k : goal.invariant-loop-k
invariant-loop-k l =
    let together : ℕ → ℤ = first_parts l.division.total l.division.weights.now in
    record {
      front : l.front ≡ total_of (take l.k l.division.weights.now);
      reached : l.reached ≡ together l.k;
      written : (j : ℕ) → j < l.k → nth l.parts j ≡ together (j + 1) -ℤ together j;
    }
