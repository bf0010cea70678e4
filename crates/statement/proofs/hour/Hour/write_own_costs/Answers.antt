use Rattle.std.proofs.Common.{◌≡◌, ◌<◌, map, length, get_or, pos, neg_ℤ, sym, ap, ◌∙◌, subst, arith}
use Rattle.std.proofs.lemmas.List.{get_or-map, length-map}
use Rattle.std.proofs.lemmas.List.Sums.{get_or-le-sum_by}
use Rattle.integers.specs.Totals.{total_of}
use Rattle.roster.specs.Filing.{blank}
use Rattle.roster.specs.Records.{awarded, defaulted}
use Rattle.roster.specs.declared.records.Record.{Record}
use Rattle.statement.specs.Amounts.{default_rules, row_of}
use Rattle.statement.specs.Laws.{Small, blank_row, own_sum, row_at}
use Rattle.statement.specs.declared.amounts.Row.{Row}
use Rattle.statement.proofs.Bounds.{row_small}
use Rattle.statement.proofs.Lists.{map_map}
use Rattle.statement.proofs.Ranges.{limits}
use Rattle.statement.proofs.hour.Hour.write_own_costs.Goals as goal

pub of-requires-clause-small : goal.of-requires-clause-small
of-requires-clause-small g c k inside =
    let hour = c.args.self.now in
    let records = hour.records.now in
    let rules = default_rules g.F.DefaultRule.charge g.I.DefaultRule.charge in
    let own : Record → Row = λ r. row_of rules hour.board.now r (pos 0) (pos 0) in
    let there : k < length records = omega (arith, inside, ap length c.write_own.ensures, length-map records own) in
    let is : row_at c.write_own.new.rows k ≡ own (get_or records k blank) = ap (λ rows. row_at rows k) c.write_own.ensures ∙ get_or-map own records k blank blank_row there in
    let small = limits records hour.kept in
    subst Small (sym is)
    (row_small rules hour.board.now (record { failure = g.met.F.DefaultRule.within; infeasible = g.met.I.DefaultRule.within }) hour.priced hour.cleared (get_or records k blank) (pos 0) (pos 0)
    (omega (arith, get_or-le-sum_by awarded records k blank there, small.awards)) (omega (arith, get_or-le-sum_by defaulted records k blank there, small.defaults)) (omega arith) (omega arith))

pub returns : goal.returns
returns g c =
    let hour = c.args.self.now in
    let own : Record → Row = λ r. row_of (default_rules g.F.DefaultRule.charge g.I.DefaultRule.charge) hour.board.now r (pos 0) (pos 0) in
    record {
      rows = c.write_own.ensures;
      ahead = c.of.ensures.ahead ∙ ap (λ rows. neg_ℤ (total_of (map (λ (row : Row). row.amounts.award) rows))) c.write_own.ensures
          ∙ ap (λ zs. neg_ℤ (total_of zs)) (map_map (λ (row : Row). row.amounts.award) own hour.records.now);
      net = c.of.ensures.net ∙ ap (λ rows. neg_ℤ (total_of (map own_sum rows))) c.write_own.ensures ∙ ap (λ zs. neg_ℤ (total_of zs)) (map_map own_sum own hour.records.now);
    }
