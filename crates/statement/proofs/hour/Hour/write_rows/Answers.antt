use Rattle.std.proofs.Common.{◌≡◌, ℕ, ◌<◌, ◌≤◌, List, map, length, ℤ, pos, unsigned_abs, ap, ◌∙◌, arith, w64, of_z, to_z}
use Rattle.std.specs.List.{range_with_len}
use Rattle.std.proofs.lemmas.List.{get_or-map, length-map}
use Rattle.std.proofs.lemmas.Int.{to_z-of_z}
use Rattle.std.proofs.lemmas.Result.{err_from_is_err_and}
use Rattle.roster.specs.Filing.{blank}
use Rattle.roster.specs.declared.records.Record.{Record}
use Rattle.sharing.specs.Shares.{nth}
use Rattle.statement.specs.Amounts.{Rules, charges, cost_shares, day_ahead_cost, net_cost, open_quantities, parts_of, row_of, rules_of}
use Rattle.statement.specs.Laws.{blank_row, row_at}
use Rattle.statement.specs.Quantities.{open_day_ahead}
use Rattle.statement.specs.Working.{most_cost, with_shares}
use Rattle.statement.specs.declared.amounts.Row.{Row}
use Rattle.statement.specs.declared.costs.Costs.{Costs}
use Rattle.statement.specs.declared.hour.Hour.{Hour}
use Rattle.statement.proofs.Bounds.{Defaults}
use Rattle.statement.proofs.Lists.{same_places}
use Rattle.statement.proofs.Passed.{Passed, checked, not_refused, refused_by}
use Rattle.statement.proofs.Fits.{fits}
use Rattle.statement.proofs.Statements.{ahead_little, charge_bound, net_little, share_bound, some_load}
use Rattle.statement.proofs.hour.Hour.write_rows.Given as given
use Rattle.statement.proofs.hour.Hour.write_rows.Goals as goal

abbrev rules_here : given.Over → Rules
rules_here g = rules_of g.S.SharingRule.shares g.F.DefaultRule.charge g.I.DefaultRule.charge

defaults : (g : given.Over) → Defaults (rules_here g).defaults
defaults g = record { failure = g.met.F.DefaultRule.within; infeasible = g.met.I.DefaultRule.within }

-- What is known once the checks of the costs are passed.
module _ (g : given.Over) (hour : Hour) (costs : Costs) (ahead_is : costs.ahead ≡ day_ahead_cost hour.board.now hour.records.now)
    (net_is : costs.net ≡ net_cost (rules_here g).defaults hour.board.now hour.records.now) (ok : Passed (rules_here g) hour.board.now hour.records.now) where
  ahead_small : unsigned_abs costs.ahead ≤ most_cost
  ahead_small = omega (arith, ap unsigned_abs ahead_is, ahead_little (rules_here g) g.met.S.SharingRule.fair (defaults g) hour.board.now hour.priced hour.records.now hour.kept ok)

  net_small : unsigned_abs costs.net ≤ most_cost
  net_small = omega (arith, ap unsigned_abs net_is, net_little (rules_here g) g.met.S.SharingRule.fair (defaults g) hour.board.now hour.priced hour.records.now hour.kept ok)

  ahead_read : to_z w64 (of_z w64 costs.ahead) ≡ costs.ahead
  ahead_read = to_z-of_z w64 costs.ahead (fits _ most_cost ahead_small (omega arith))

  net_read : to_z w64 (of_z w64 costs.net) ≡ costs.net
  net_read = to_z-of_z w64 costs.net (fits _ most_cost net_small (omega arith))

  charges_are : parts_of (rules_here g).shares (to_z w64 (of_z w64 costs.ahead)) (map open_day_ahead hour.records.now) hour.records.now ≡ charges (rules_here g) hour.board.now hour.records.now
  charges_are = ap (λ cost. parts_of (rules_here g).shares cost (map open_day_ahead hour.records.now) hour.records.now) (ahead_read ∙ ahead_is)

  shares_are : parts_of (rules_here g).shares (to_z w64 (of_z w64 costs.net)) (open_quantities (rules_here g).shares hour.records.now) hour.records.now ≡ cost_shares (rules_here g) hour.board.now hour.records.now
  shares_are = ap (λ cost. parts_of (rules_here g).shares cost (open_quantities (rules_here g).shares hour.records.now) hour.records.now) (net_read ∙ net_is)

  charge_small : (parts : List ℤ) → parts ≡ charges (rules_here g) hour.board.now hour.records.now → (k : ℕ) → k < length hour.records.now → unsigned_abs (nth parts k) ≤ 8000000000000000
  charge_small parts e k inside = omega (arith, ap (λ parts. unsigned_abs (nth parts k)) e, charge_bound (rules_here g) g.met.S.SharingRule.fair (defaults g) hour.board.now hour.priced hour.records.now hour.kept ok k inside)

  share_small : (parts : List ℤ) → parts ≡ cost_shares (rules_here g) hour.board.now hour.records.now → (k : ℕ) → k < length hour.records.now → unsigned_abs (nth parts k) ≤ 20000000000000000
  share_small parts e k inside = omega (arith, ap (λ parts. unsigned_abs (nth parts k)) e, share_bound (rules_here g) g.met.S.SharingRule.fair (defaults g) hour.board.now hour.priced hour.records.now hour.kept ok k inside)

pub returns-in_err-check : goal.returns-in_err-check
returns-in_err-check g c =
    let hour = c.args.self.now in
    let p = err_from_is_err_and c.from_residual.result c.from_residual.ensures.1 in
    let costs = c.write_own_costs-costs in
    rw (p.1, p.2) (refused_by (rules_here g) hour.board.now hour.records.now costs.result hour.quantities hour.cleared costs.ensures.ahead costs.ensures.net hour.right _ c.in_err-check.ensures)

pub write_charges-requires-clause-little : goal.write_charges-requires-clause-little
write_charges-requires-clause-little g c =
    let hour = c.args.self.now in
    let costs = c.write_own_costs-costs in
    let ok = checked (rules_here g) hour.board.now hour.records.now costs.result hour.quantities hour.cleared costs.ensures.ahead costs.ensures.net hour.right c.in_ok-check.ensures in
    rw (ahead_read g hour costs.result costs.ensures.ahead costs.ensures.net ok) (ahead_small g hour costs.result costs.ensures.ahead costs.ensures.net ok)

pub write_cost_shares-requires-clause-little : goal.write_cost_shares-requires-clause-little
write_cost_shares-requires-clause-little g c =
    let hour = c.args.self.now in
    let costs = c.write_own_costs-costs in
    let ok = checked (rules_here g) hour.board.now hour.records.now costs.result hour.quantities hour.cleared costs.ensures.ahead costs.ensures.net hour.right c.in_ok-check.ensures in
    rw (net_read g hour costs.result costs.ensures.ahead costs.ensures.net ok) (net_small g hour costs.result costs.ensures.ahead costs.ensures.net ok)

pub write_cost_shares-requires-clause-loads : goal.write_cost_shares-requires-clause-loads
write_cost_shares-requires-clause-loads g c some =
    let hour = c.args.self.now in
    let costs = c.write_own_costs-costs in
    let ok = checked (rules_here g) hour.board.now hour.records.now costs.result hour.quantities hour.cleared costs.ensures.ahead costs.ensures.net hour.right c.in_ok-check.ensures in
    some_load (rules_here g) g.met.S.SharingRule.fair (defaults g) hour.board.now hour.priced hour.records.now hour.kept ok
    (λ none. some (net_read g hour costs.result costs.ensures.ahead costs.ensures.net ok ∙ costs.ensures.net ∙ none))

pub write_shared-requires-clause-charge : goal.write_shared-requires-clause-charge
write_shared-requires-clause-charge g c k inside =
    let hour = c.args.self.now in
    let costs = c.write_own_costs-costs in
    let ok = checked (rules_here g) hour.board.now hour.records.now costs.result hour.quantities hour.cleared costs.ensures.ahead costs.ensures.net hour.right c.in_ok-check.ensures in
    omega (
      arith,
      charge_small g hour costs.result costs.ensures.ahead costs.ensures.net ok c.write_charges.new.charges (c.write_charges.ensures ∙ charges_are g hour costs.result costs.ensures.ahead costs.ensures.net ok) k
          (omega (arith, inside, ap length costs.ensures.rows, length-map hour.records.now (λ (r : Record). row_of (rules_here g).defaults hour.board.now r (pos 0) (pos 0)))),
    )

pub write_shared-requires-clause-share : goal.write_shared-requires-clause-share
write_shared-requires-clause-share g c k inside =
    let hour = c.args.self.now in
    let costs = c.write_own_costs-costs in
    let ok = checked (rules_here g) hour.board.now hour.records.now costs.result hour.quantities hour.cleared costs.ensures.ahead costs.ensures.net hour.right c.in_ok-check.ensures in
    omega (
      arith,
      share_small g hour costs.result costs.ensures.ahead costs.ensures.net ok c.write_cost_shares.new.shares (c.write_cost_shares.ensures ∙ shares_are g hour costs.result costs.ensures.ahead costs.ensures.net ok) k
          (omega (arith, inside, ap length costs.ensures.rows, length-map hour.records.now (λ (r : Record). row_of (rules_here g).defaults hour.board.now r (pos 0) (pos 0)))),
    )

pub returns : goal.returns
returns g c =
    let hour = c.args.self.now in
    let board = hour.board.now in
    let records = hour.records.now in
    let costs = c.write_own_costs-costs in
    let ok = checked (rules_here g) board records costs.result hour.quantities hour.cleared costs.ensures.ahead costs.ensures.net hour.right c.in_ok-check.ensures in
    let charged = c.write_charges.ensures ∙ charges_are g hour costs.result costs.ensures.ahead costs.ensures.net ok in
    let shared = c.write_cost_shares.ensures ∙ shares_are g hour costs.result costs.ensures.ahead costs.ensures.net ok in
    let own : Record → Row = λ r. row_of (rules_here g).defaults board r (pos 0) (pos 0) in
    let long : length costs.new.rows ≡ length records = ap length costs.ensures.rows ∙ length-map records own in
    let made : (rows : List Row) (ds es : List ℤ) → ℕ → Row = λ rows ds es k. with_shares (row_at rows k) (nth ds k) (nth es k) in (
      not_refused (rules_here g) board records costs.result hour.quantities hour.cleared costs.ensures.ahead costs.ensures.net hour.right c.in_ok-check.ensures,
      c.write_shared.ensures
          ∙ (λ j. map (made (costs.ensures.rows j) (charged j) (shared j)) (range_with_len 0 (long j)))
          ∙ same_places (made (map own records) (charges (rules_here g) board records) (cost_shares (rules_here g) board records)) _ (length records)
          (λ k inside. ap (λ (row : Row). with_shares row (nth (charges (rules_here g) board records) k) (nth (cost_shares (rules_here g) board records) k)) (get_or-map own records k blank blank_row inside)),
    )
