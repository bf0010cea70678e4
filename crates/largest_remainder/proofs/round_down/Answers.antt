use Rattle.std.proofs.Common.{◌≡◌, pos, arith, rules}
use Rattle.std.proofs.lemmas.Int.{ints, to_z-of_z}
use Rattle.std.proofs.lemmas.List.{get_or-map, length-map, take_all}
use Rattle.integers.specs.Totals.{total_of}
use Rattle.sharing.specs.Shares.{nth}
use Rattle.sharing.proofs.Parts.{taken_more}
use Rattle.largest_remainder.specs.Largest.{floor_of, remainder_of, floors, all_remainders}
use Rattle.largest_remainder.proofs.RoundedDown.{floors_more}
use Rattle.largest_remainder.proofs.round_down.Goals as goal

pub overflow_sub-missing : goal.overflow_sub-missing
overflow_sub-missing c =
    let floor : c.divide-floor.result.0 ≡ nth (floors c.args.division.now.total c.args.division.now.weights.now) c.loop-k.k = grind (arith, to_z-of_z, get_or-map) in
    omega (arith, ints, floors_more c.args.division.now c.loop-k.k (omega arith))

pub loop-k-preserved : goal.loop-k-preserved
loop-k-preserved c =
    let division = c.args.division.now in
    let k = c.loop-k.k in
    let fs = floors division.total division.weights.now in
    let rs = all_remainders division.total division.weights.now in
    let floor : c.divide-floor.result.0 ≡ nth fs k = grind (arith, to_z-of_z, get_or-map) in
    let long_floors = length-map division.weights.now (floor_of division.total (total_of division.weights.now)) in
    let long_remainders = length-map division.weights.now (remainder_of division.total (total_of division.weights.now)) in
    record {
      rounded_down = taken_more fs c.loop-k.parts k (pos 0) _ (search rules) (omega arith) c.loop-k.invariant.rounded_down (omega (arith, ints));
      left = taken_more rs c.loop-k.remainders k 0 _ (search rules) (omega arith) c.loop-k.invariant.left (grind (arith, to_z-of_z, get_or-map));
      missing = omega (arith, ints, floors_more division k (omega arith));
    }

pub returns-clause-floors : goal.returns-clause-floors
returns-clause-floors c = grind (arith, take_all, length-map)

pub returns-clause-remainders : goal.returns-clause-remainders
returns-clause-remainders c = grind (arith, take_all, length-map)

pub returns-clause-missing : goal.returns-clause-missing
returns-clause-missing c = grind (arith, take_all, length-map)
