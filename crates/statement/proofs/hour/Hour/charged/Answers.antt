use Rattle.std.proofs.Common.{pos, ap, ◌∙◌, arith, w64}
use Rattle.std.proofs.lemmas.Int.{ints, to_z_pos}
use Rattle.statement.proofs.Bounds.{charge_small, taken}
use Rattle.statement.proofs.hour.Hour.charged.Goals as goal

pub overflow_cast-result : goal.overflow_cast-result
overflow_cast-result g c =
    let board = c.args.self.now.board.now in
    let is = taken board c.args.tenths _ _ c.requires (rw c.unwrap-cents.ensures at c.charged.ensures) in
    omega (arith, ints, is, charge_small board c.args.self.now.priced c.args.tenths _ (g.met.R.DefaultRule.within board c.args.tenths c.requires), c.requires.small)

pub returns : goal.returns
returns g c =
    let board = c.args.self.now.board.now in
    let is = taken board c.args.tenths _ _ c.requires (rw c.unwrap-cents.ensures at c.charged.ensures) in
    let few = charge_small board c.args.self.now.priced c.args.tenths _ (g.met.R.DefaultRule.within board c.args.tenths c.requires) in
    to_z_pos w64 c.unwrap-cents.result (omega (arith, is, few, c.requires.small)) ∙ ap pos is
