use Rattle.std.proofs.Common.{◌≡◌, length, nat_abs, ap, ◌∙◌, w64, to_z, of_z, arith, rules}
use Rattle.text.proofs.Signs.{length-amount}
use Rattle.text.proofs.Dollars.width.Goals as goal

pub returns : goal.returns
returns c =
    let cents = c.args.self.cents in
    let same : to_z w64 (of_z w64 cents) ≡ cents = search rules in
    let size : c.unsigned_abs.result ≡ nat_abs cents = c.unsigned_abs.ensures.value ∙ ap nat_abs same in
    let sign = ap length c.sign.ensures in
    let whole = rw size at c.width.ensures.value in
    omega (arith, sign, whole, length-amount cents)
