use Rattle.std.proofs.Common.{◌≡◌, ◌*◌, ◌≤◌, map, take, neg_ℤ, unsigned_abs}
use Rattle.integers.specs.Totals.{total_of}
use Rattle.statement.specs.Laws.{most_amount, own_sum}
use Rattle.statement.proofs.costs.Costs.of.Given as goal

abbrev pub invariant-loop-row : goal.invariant-loop-row
invariant-loop-row l =
    (l.ahead ≡ neg_ℤ (total_of (map (λ row. row.amounts.award) (take l.row-index l.rows))))
    × (unsigned_abs l.ahead ≤ l.row-index * (4 * most_amount))
    × (l.net ≡ neg_ℤ (total_of (map own_sum (take l.row-index l.rows))))
    × (unsigned_abs l.net ≤ l.row-index * (4 * most_amount))
