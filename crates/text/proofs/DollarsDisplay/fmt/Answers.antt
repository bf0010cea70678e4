use Rattle.std.proofs.Common.{◌≡◌, ◌/◌, ◌%◌, ◌++◌, codes, decimal, nat_abs, ap, ◌∙◌, w64, to_z, of_z, rules}
use Rattle.text.proofs.Signs.{amount_written}
use Rattle.text.specs.Texts.{grouped_by, most_groups, dollars_text}
use Rattle.text.proofs.DollarsDisplay.fmt.Goals as goal

-- The parts that are put together are the text of the amount.
pub returns-clause-writes : goal.returns-clause-writes
returns-clause-writes g c =
    let cents = c.args.self.now.cents in
    let same : to_z w64 (of_z w64 cents) ≡ cents = search rules in
    let size : c.unsigned_abs-size.result ≡ nat_abs cents = c.unsigned_abs-size.ensures.value ∙ ap nat_abs same in
    let whole : c.sign-sign.result.now ++ (grouped_by most_groups (c.unsigned_abs-size.result / 100) ++ (codes "." ++ (decimal (c.unsigned_abs-size.result / 10 % 10) ++ decimal (c.unsigned_abs-size.result % 10)))) ≡ dollars_text cents = rw (c.sign-sign.ensures, size) (amount_written cents) in
    rw whole at c.write.ensures.writes
