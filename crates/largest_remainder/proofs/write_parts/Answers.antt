use Rattle.std.proofs.Common.{arith}
use Rattle.largest_remainder.proofs.RoundedDown.{floors_small, remainders_low}
use Rattle.largest_remainder.proofs.write_parts.Goals as goal

pub invariant_of-remainders-clause-low : goal.invariant_of-remainders-clause-low
invariant_of-remainders-clause-low c = λ k. rw c.round_down-missing.ensures.remainders (remainders_low c.args.division.now k)

pub hand_out-requires-clause-small : goal.hand_out-requires-clause-small
hand_out-requires-clause-small c = grind (arith, floors_small c.args.division.now)
