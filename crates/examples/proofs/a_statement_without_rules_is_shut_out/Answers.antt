use Rattle.std.proofs.Common.{◌≡◌, pos, ap, arith}
use Rattle.std.proofs.lemmas.Int.{ints}
use Rattle.largest_remainder.specs.Largest.{floor_of, remainder_of}
use Rattle.pricing.specs.Cents.{cents_of}
use Rattle.running.specs.Running.{rounded}
use Rattle.statement.specs.Laws.{row_at}
use Rattle.examples.proofs.a_statement_without_rules_is_shut_out.Goals as goal

apart : pos 33 ≡ pos 34 → ⊥
apart e = omega (arith, ints, e)

pub returns : goal.returns
unfolding cents_of rounded floor_of remainder_of
returns c =
    record {
      sharing = λ same. apart (ap (λ rows. (row_at rows 1).amounts.charge) same);
      failure = λ shares same. omega (arith, ints, ap (λ rows. (row_at rows 0).amounts.failure) same);
      infeasible = λ shares same. omega (arith, ints, ap (λ rows. (row_at rows 0).amounts.infeasible) same);
    }
