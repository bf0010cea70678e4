use Rattle.std.proofs.Common.{rules}
use Rattle.std.proofs.Math.Seq.{take-set-lt}
use Rattle.std.proofs.lemmas.List.{length-take-le}
use Rattle.pricing.proofs.board.Board.correct.Goals as goal

pub returns : goal.returns
returns c = search (rules, length-take-le, take-set-lt)
