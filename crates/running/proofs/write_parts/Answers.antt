use Rattle.std.proofs.Common.{ℕ, ◌+◌, length, ℤ, pos, ◌-ℤ◌, to_z, sym, arith, w64, rules}
use Rattle.std.proofs.lemmas.Int.{ints}
use Rattle.std.proofs.lemmas.List.FromFn.{fill_by_all}
use Rattle.sharing.proofs.Parts.{written_more}
use Rattle.running.specs.Running.{first_parts}
use Rattle.running.specs.Laws.{nobody}
use Rattle.running.proofs.FirstParts.{first_parts_small, front_more, first_parts_more}
use Rattle.running.proofs.write_parts.Goals as goal

pub loop-k-init : goal.loop-k-init
loop-k-init c = record {
  front = search rules;
  reached = sym (nobody c.args.division.now.total c.args.division.now.weights.now c.args.division.now.in_range.positive);
  written = search rules;
}

pub overflow_add-front : goal.overflow_add-front
overflow_add-front c = omega (arith, ints, front_more c.args.division.now c.loop-k.k (omega arith))

pub first_parts-next-requires : goal.first_parts-next-requires
first_parts-next-requires c = omega (arith, ints, front_more c.args.division.now c.loop-k.k (omega arith))

pub overflow_sub-part : goal.overflow_sub-part
overflow_sub-part c =
    let division = c.args.division.now in
    let k = c.loop-k.k in
    let next = first_parts_more division k (to_z w64 c.loop-k.front-bits) c.first_parts-next.result (omega arith) (search rules) c.loop-k.invariant.front (cc) in
    omega (arith, ints, first_parts_small division k, first_parts_small division (k + 1))

pub loop-k-preserved : goal.loop-k-preserved
loop-k-preserved c =
    let division = c.args.division.now in
    let k = c.loop-k.k in
    let together : ℕ → ℤ = first_parts division.total division.weights.now in
    let next = first_parts_more division k (to_z w64 c.loop-k.front-bits) c.first_parts-next.result (omega arith) (search rules) c.loop-k.invariant.front (cc) in
    record {
      front = omega (arith, ints, front_more division k (omega arith));
      reached = omega (arith, ints);
      written = written_more (λ j. together (j + 1) -ℤ together j) c.loop-k.parts k _ (search rules) c.loop-k.invariant.written (omega (arith, ints, first_parts_small division k, first_parts_small division (k + 1)));
    }

pub returns : goal.returns
returns c =
    let together : ℕ → ℤ = first_parts c.args.division.now.total c.args.division.now.weights.now in
    fill_by_all (λ j. together (j + 1) -ℤ together j) c.loop-k.parts (length c.args.division.now.weights.now) (pos 0) (search rules) (λ j h. c.loop-k.invariant.written j (omega arith))
