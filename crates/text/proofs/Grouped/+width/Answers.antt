use Rattle.std.proofs.Common.{sym, arith}
use Rattle.text.proofs.Groups.{length-one_digit, length-two_digits, length-three_digits, length-more_groups, length-groups-le}
use Rattle.text.proofs.Grouped.+width.Goals as goal

pub returns-in-0-to-9-clause-value : goal.returns-in-0-to-9-clause-value
returns-in-0-to-9-clause-value t c = sym (length-one_digit c.args.self.0 (omega arith))

pub returns-in-10-to-99-clause-value : goal.returns-in-10-to-99-clause-value
returns-in-10-to-99-clause-value t c = sym (length-two_digits c.args.self.0 (omega arith) (omega arith))

pub returns-in-100-to-999-clause-value : goal.returns-in-100-to-999-clause-value
returns-in-100-to-999-clause-value t c = sym (length-three_digits c.args.self.0 (omega arith) (omega arith))

pub returns-in_default-clause-value : goal.returns-in_default-clause-value
returns-in_default-clause-value t c = omega (arith, c.width.ensures.value, length-more_groups c.args.self.0 (omega arith) (omega arith))

pub returns-in_default-clause-bound : goal.returns-in_default-clause-bound
returns-in_default-clause-bound t c = omega (arith, c.width.ensures.value, length-more_groups c.args.self.0 (omega arith) (omega arith), length-groups-le 7 c.args.self.0 (omega arith))
