use Rattle.pricing.proofs.Invariants.{kept}
use Rattle.pricing.proofs.board.Board.prices.Goals as goal

pub returns-clause-kept : goal.returns-clause-kept
returns-clause-kept c = rw c.self.view_is at (kept c.self.inside c.self.invariant)
