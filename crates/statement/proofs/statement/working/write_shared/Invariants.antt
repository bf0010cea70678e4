use Rattle.std.proofs.Common.{◌≡◌, ℕ, ◌≤◌, map, take}
use Rattle.std.specs.List.{range_with_len}
use Rattle.sharing.specs.Shares.{nth}
use Rattle.statement.specs.Laws.{row_at}
use Rattle.statement.specs.Working.{with_shares}
use Rattle.statement.proofs.statement.working.write_shared.Given as goal

abbrev pub invariant-loop-k : goal.invariant-loop-k
invariant-loop-k l =
    record {
      written : take l.k l.rows ≡ map (λ k. with_shares (row_at l.initial.rows k) (nth l.charges k) (nth l.shares k)) (range_with_len 0 l.k);
      later : (j : ℕ) → l.k ≤ j → row_at l.rows j ≡ row_at l.initial.rows j;
    }
