use Rattle.std.proofs.Common.{arith}
use Rattle.std.proofs.lemmas.Int.{to_z-of_z}
use Rattle.sharing.proofs.Sizes.{product_fits, product_small}
use Rattle.running.proofs.first_parts.Goals as goal

pub round-requires-clause-number : goal.round-requires-clause-number
round-requires-clause-number c = grind (arith, to_z-of_z, product_fits, product_small)

pub returns : goal.returns
returns c = grind (arith, to_z-of_z, product_fits)
