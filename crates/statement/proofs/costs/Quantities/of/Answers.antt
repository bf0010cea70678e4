use Rattle.std.proofs.Common.{◌≡◌, ◌-◌, pos, sum_by, sym, ap, ◌∙◌, arith, rules}
use Rattle.std.proofs.lemmas.Int.{ints}
use Rattle.roster.specs.Records.{Kept}
use Rattle.roster.specs.declared.records.Record.{Record}
use Rattle.roster.specs.declared.records.Totals.{Totals}
use Rattle.statement.proofs.Lists.{total_pos}
use Rattle.statement.proofs.Ranges.{ahead_small, covered, failed_small, limits, open_is}
use Rattle.statement.proofs.costs.Quantities.of.Goals as goal

pub sum-arranged-requires-clause-fits : goal.sum-arranged-requires-clause-fits
sum-arranged-requires-clause-fits c = let small = ahead_small c.records-records.result.now c.records-records.ensures.kept in search rules

pub sum-failed-requires-clause-fits : goal.sum-failed-requires-clause-fits
sum-failed-requires-clause-fits c = let small = failed_small c.records-records.result.now c.records-records.ensures.kept in search rules

pub overflow_sub-result : goal.overflow_sub-result
overflow_sub-result c =
    let records = c.records-records.result.now in
    let ahead : c.sum-arranged.result ≡ sum_by (λ (r : Record). r.arranged.ahead) records = search rules in
    let obligations = rw (← c.records-records.ensures.value) at (ap (λ (t : Totals). t.obligations) c.totals-totals.ensures.value) in
    omega (arith, ahead, obligations, covered records c.records-records.ensures.kept.covered)

pub returns : goal.returns
returns c =
    let records = c.args.roster.now in
    let same = c.records-records.ensures.value in
    let keeps : Kept records = rw same at c.records-records.ensures.kept in
    let ahead : c.sum-arranged.result ≡ sum_by (λ (r : Record). r.arranged.ahead) c.records-records.result.now = search rules in
    let failed : c.sum-failed.result ≡ sum_by (λ (r : Record). r.failed) c.records-records.result.now = search rules in
    let totals = c.totals-totals.ensures.value in
    let small = limits records keeps in
    let awards = ap (λ (t : Totals). t.awards) totals in
    let few_failed = failed_small records keeps in
    let all_failed = rw same at failed in
    record {
      ahead = (λ j. pos ((ap (λ (t : Totals). t.obligations) totals) j - (rw same at ahead) j)) ∙ sym (open_is records keeps);
      bought = omega (arith, ints, awards, all_failed, small.awards, few_failed);
      requirement = omega (arith, ints, awards, all_failed, ap (λ (t : Totals). t.arranged) totals, small.awards, small.arranged, few_failed);
      loads = ap (λ (t : Totals). pos t.loads) totals ∙ sym (total_pos (λ (r : Record). r.load) records);
    }
