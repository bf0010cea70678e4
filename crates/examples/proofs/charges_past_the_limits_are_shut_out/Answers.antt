use Rattle.std.proofs.Common.{arith}
use Rattle.pricing.specs.Cents.{cents_of}
use Rattle.examples.proofs.charges_past_the_limits_are_shut_out.Goals as goal

pub returns : goal.returns
unfolding cents_of
returns c =
    record {
      charges_nothing = λ within. omega (arith, within.at_least_day_ahead);
      charges_above_top = λ within. omega (arith, within.at_most_top);
    }
