-- The cents keep their laws.
use Rattle.std.proofs.Common.{mul-le-mul_right, mul-le-mul_left, arith}
use Rattle.pricing.specs.Cents.{cents_of, CentsLaws}

pub cents_laws : CentsLaws cents_of
unfolding cents_of
cents_laws =
    record {
      rises_with_price = λ low high tenths h. omega (arith, mul-le-mul_right tenths h);
      rises_with_quantity = λ price small large h. omega (arith, mul-le-mul_left price h);
      none_at_none = λ price. omega arith;
      half_above = λ price tenths. omega arith;
      half_below = λ price tenths. omega arith;
    }
