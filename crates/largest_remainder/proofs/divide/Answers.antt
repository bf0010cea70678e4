use Rattle.std.proofs.Common.{arith}
use Rattle.std.proofs.lemmas.Int.{to_z-of_z}
use Rattle.sharing.proofs.Sizes.{product_fits}
use Rattle.largest_remainder.specs.Largest.{floor_of, remainder_of}
use Rattle.largest_remainder.proofs.divide.Goals as goal

pub returns-clause-floor : goal.returns-clause-floor
unfolding floor_of
returns-clause-floor c = grind (arith, to_z-of_z, product_fits)

pub returns-clause-remainder : goal.returns-clause-remainder
unfolding remainder_of
returns-clause-remainder c = grind (arith, to_z-of_z, product_fits)
