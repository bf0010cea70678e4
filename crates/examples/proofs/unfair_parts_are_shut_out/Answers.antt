use Rattle.std.proofs.Common.{refl, arith, lit<}
use Rattle.std.proofs.lemmas.Int.{ints}
use Rattle.examples.proofs.unfair_parts_are_shut_out.Goals as goal

pub returns : goal.returns
returns c =
    record {
      first_member_gets_all = λ fair. (fair.not_above 0 (lit< tt)).lt;
      rounded_alone = λ fair. omega (arith, ints, fair.add_up);
      unit_for_nothing = λ fair. omega (arith, ints, fair.none_for_none 1 (lit< tt) refl);
    }
