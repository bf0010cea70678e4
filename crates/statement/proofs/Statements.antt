-- The laws of a statement, from the laws of its rules.
use Rattle.std.proofs.Common.{◌≡◌, ℕ, ◌<◌, ◌≤◌, if◌then◌else◌, eqb, List, map, length, ℤ, pos, ◌+ℤ◌, ◌-ℤ◌, ◌*ℤ◌, neg_ℤ, unsigned_abs, ◌≤ℤ◌, ◌<ℤ◌, sum_by, sym, refl, ap, ◌∙◌, subst, arith}
use Rattle.std.proofs.lemmas.Int.{ints}
use Rattle.std.specs.List.{range_with_len}
use Rattle.std.proofs.lemmas.List.FromFn.{get_or-map-range_with_len, length-map-range_with_len}
use Rattle.std.proofs.lemmas.List.{length-map, map-id}
use Rattle.std.proofs.lemmas.List.Sums.{get_or-le-sum_by}
use Rattle.integers.specs.Totals.{total_of}
use Rattle.pricing.specs.Boards.{PlainBoard}
use Rattle.pricing.specs.Boards as boards
use Rattle.defaults.specs.Charges as charging
use Rattle.roster.specs.Filing.{blank}
use Rattle.roster.specs.Limits.{most_roster_total}
use Rattle.roster.specs.Records.{Kept, awarded, defaulted, enrolments}
use Rattle.roster.specs.declared.records.Record.{Record}
use Rattle.sharing.specs.Shares.{Fair, InRange, nth}
use Rattle.statement.specs.Amounts.{Rules, award, charges, cost_shares, day_ahead_cost, failure, infeasible, net_cost, open_quantities, own_amounts, record_at, row_of, statement, supplemental}
use Rattle.statement.specs.Laws.{Between, Lawful, Near, Small, blank_row, cost_share, row_at, rows_with, sum_of}
use Rattle.statement.specs.Quantities.{bought, open_day_ahead}
use Rattle.statement.specs.declared.amounts.Row.{Row}
use Rattle.statement.specs.Working.{most_cost}
use Rattle.statement.proofs.Bounds.{Defaults, day_ahead_is, day_ahead_small, failure_within, infeasible_within, net_small, row_small}
use Rattle.statement.proofs.Lists.{map_map, map_places, sumBy_map, total_plus, total_pos}
use Rattle.statement.proofs.Passed.{Passed}
use Rattle.statement.proofs.Ranges.{charges_in_range, limits, open_adds_up, open_in_range, open_sizes, open_sizes_small, some_open}
use Rattle.statement.proofs.Shared.{by_zero, none_at, parts_add_up, parts_long, parts_small, parts_some}

close : (x y w : ℤ) → x <ℤ (y +ℤ w) → y <ℤ (x +ℤ w) → pos 1 ≤ℤ w → unsigned_abs (x -ℤ y) < unsigned_abs w
close x y w h k l = omega (arith, ints)

near_part : (total whole : ℤ) (weights parts : List ℤ) (k : ℕ) → k < length weights → total_of weights ≡ whole → pos 1 ≤ℤ whole → Fair total weights parts
    → Near total (nth weights k) whole (nth parts k)
near_part total whole weights parts k inside e some fair =
    close (nth parts k *ℤ whole) (total *ℤ nth weights k) whole
    (subst (λ (w : ℤ). (nth parts k *ℤ w) <ℤ (total *ℤ nth weights k +ℤ w)) e (fair.not_above k inside))
    (subst (λ (w : ℤ). (total *ℤ nth weights k) <ℤ (nth parts k *ℤ w +ℤ w)) e (fair.not_below k inside))
    some

-- What the proof of the laws has to go on.
module _ (rules : Rules) (fair : (total : ℤ) (weights : List ℤ) → InRange total weights → Fair total weights (rules.shares total weights)) (defaults : Defaults rules.defaults)
    (board : PlainBoard) (board_keeps : boards.Kept board) (records : List Record) (keeps : Kept records) (ok : Passed rules board records) where
  pub ahead_little : unsigned_abs (day_ahead_cost board records) ≤ most_cost
  ahead_little = omega (arith, day_ahead_small board board_keeps records (limits records keeps).awards, ap unsigned_abs (day_ahead_is board records))

  pub net_little : unsigned_abs (net_cost rules.defaults board records) ≤ most_cost
  net_little = net_small rules.defaults board defaults board_keeps ok.cleared records (limits records keeps).awards (limits records keeps).defaults

  pub charges_range : (day_ahead_cost board records ≡ pos 0 → ⊥) → InRange (day_ahead_cost board records) (map open_day_ahead records)
  charges_range cost = charges_in_range records keeps (day_ahead_cost board records) ahead_little (some_open records keeps (ok.open_ahead cost))

  pub some_load : (net_cost rules.defaults board records ≡ pos 0 → ⊥) → 1 ≤ sum_by (λ r. r.load) records
  some_load cost = at_least _ _ (total_pos (λ r. r.load) records) (ok.loads cost)
    where
      at_least : (t : ℤ) (n : ℕ) → t ≡ pos n → (t ≡ pos 0 → ⊥) → 1 ≤ n
      at_least t n e some = omega (arith, ints)

  pub shares_range : (net_cost rules.defaults board records ≡ pos 0 → ⊥) → InRange (net_cost rules.defaults board records) (open_quantities rules.shares records)
  shares_range cost = open_in_range records keeps rules.shares fair (some_load cost) (net_cost rules.defaults board records) net_little (ok.something cost)

  open_count : length (open_quantities rules.shares records) ≡ length records
  open_count = length-map-range_with_len _ 0 (length records)

  pub charge_bound : (k : ℕ) → k < length records → unsigned_abs (nth (charges rules board records) k) ≤ 8000000000000000
  charge_bound k inside =
      omega (
        arith,
        parts_small rules.shares (day_ahead_cost board records) (map open_day_ahead records) records (length-map records open_day_ahead) charges_range fair most_cost 400000 ahead_little
            (open_sizes records keeps) k inside,
      )

  pub shares_long : length (cost_shares rules board records) ≡ length records
  shares_long = parts_long rules.shares (net_cost rules.defaults board records) (open_quantities rules.shares records) records open_count shares_range fair

  pub share_bound : (k : ℕ) → k < length records → unsigned_abs (nth (cost_shares rules board records) k) ≤ 20000000000000000
  share_bound k inside =
      by_zero (net_cost rules.defaults board records)
      (λ none. omega (arith, ap unsigned_abs (none_at rules.shares (net_cost rules.defaults board records) (open_quantities rules.shares records) records none k)))
      (λ cost.
      omega (
        arith,
        parts_small rules.shares (net_cost rules.defaults board records) (open_quantities rules.shares records) records open_count shares_range fair most_cost 600064 net_little
            (open_sizes_small records keeps rules.shares fair (some_load cost)) k inside,
      ))

  abbrev here : ℕ → Row
  here k = row_of rules.defaults board (record_at records k) (nth (charges rules board records) k) (nth (cost_shares rules board records) k)

  pub rows_long : length (statement rules board records) ≡ length records
  rows_long = length-map-range_with_len here 0 (length records)

  row_is : (k : ℕ) → k < length (statement rules board records) → row_at (statement rules board records) k ≡ here k
  row_is k inside = get_or-map-range_with_len here 0 (length records) k k blank_row (omega (arith, inside, rows_long)) (omega arith)

  in_order : map (λ (r : Row). r.qse) (statement rules board records) ≡ map (λ (r : Record). r.qse) records
  in_order = map_map (λ (r : Row). r.qse) here (range_with_len 0 (length records)) ∙ map_places (λ (r : Record). r.qse) records (length records) blank refl

  once : (qse : ℕ) → rows_with qse (statement rules board records) ≤ 1
  once qse =
      let one : ℕ → ℕ = λ n. if eqb n qse then 1 else 0 in
      let same : rows_with qse (statement rules board records) ≡ enrolments qse records =
      sym (sumBy_map one (λ (r : Row). r.qse) (statement rules board records)) ∙ ap (sum_by one) in_order ∙ sumBy_map one (λ (r : Record). r.qse) records
      in
      omega (arith, same, keeps.distinct qse)

  -- A QSE's own amounts and its cost share are all its amounts.
  sum_is : (k : ℕ) → sum_of (here k) ≡ own_amounts rules.defaults board (record_at records k) +ℤ nth (cost_shares rules board records) k
  sum_is k =
      let r = record_at records k in
      together (award board r) (supplemental board r) (failure rules.defaults board r) (infeasible rules.defaults board r) (nth (charges rules board records) k) (nth (cost_shares rules board records) k)
    where
      together : (a b c d e s : ℤ) → a +ℤ b +ℤ c +ℤ d +ℤ e +ℤ (s -ℤ e) ≡ (a +ℤ b +ℤ c +ℤ d) +ℤ s
      together a b c d e s = omega (arith, ints)

  balanced : total_of (map sum_of (statement rules board records)) ≡ pos 0
  balanced =
      let places = range_with_len 0 (length records) in
      let own : ℕ → ℤ = λ k. own_amounts rules.defaults board (record_at records k) in
      let split : total_of (map sum_of (statement rules board records)) ≡ total_of (map own places) +ℤ total_of (map (nth (cost_shares rules board records)) places) =
      ap total_of (map_map sum_of here places ∙ (λ j. map (λ k. sum_is k j) places)) ∙ total_plus own (nth (cost_shares rules board records)) places
      in
      let owned : map own places ≡ map (own_amounts rules.defaults board) records = map_places (own_amounts rules.defaults board) records (length records) blank refl in
      let shared : map (nth (cost_shares rules board records)) places ≡ cost_shares rules board records =
      map_places (λ (z : ℤ). z) (cost_shares rules board records) (length records) (pos 0) shares_long ∙ map-id (cost_shares rules board records)
      in
      let whole : total_of (cost_shares rules board records) ≡ net_cost rules.defaults board records =
      parts_add_up rules.shares (net_cost rules.defaults board records) (open_quantities rules.shares records) records open_count shares_range fair
      in
      cancels (total_of (map (own_amounts rules.defaults board) records)) _ _ _ split (ap total_of owned) (ap total_of shared ∙ whole)
    where
      cancels : (x t u v : ℤ) → t ≡ u +ℤ v → u ≡ x → v ≡ neg_ℤ x → t ≡ pos 0
      cancels x t u v e f g = omega (arith, ints)

  share_is : (k : ℕ) → cost_share (here k) ≡ nth (cost_shares rules board records) k
  share_is k = back (nth (charges rules board records) k) (nth (cost_shares rules board records) k)
    where
      back : (c s : ℤ) → c +ℤ (s -ℤ c) ≡ s
      back c s = omega (arith, ints)

  near : (cost : net_cost rules.defaults board records ≡ pos 0 → ⊥) (k : ℕ) → k < length records
      → Near (net_cost rules.defaults board records) (nth (open_quantities rules.shares records) k) (bought records) (nth (cost_shares rules board records) k)
  near cost k inside =
      subst (λ (parts : List ℤ). Near (net_cost rules.defaults board records) (nth (open_quantities rules.shares records) k) (bought records) (nth parts k))
      (sym (parts_some rules.shares (net_cost rules.defaults board records) (open_quantities rules.shares records) records cost))
      (near_part (net_cost rules.defaults board records) (bought records) (open_quantities rules.shares records) (rules.shares (net_cost rules.defaults board records) (open_quantities rules.shares records)) k
      (omega (arith, inside, open_count)) (open_adds_up records keeps rules.shares fair (some_load cost)) (ok.something cost)
      (fair (net_cost rules.defaults board records) (open_quantities rules.shares records) (shares_range cost)))

  defaults_small : (k : ℕ) → k < length records → defaulted (record_at records k) ≤ most_roster_total
  defaults_small k inside = omega (arith, get_or-le-sum_by defaulted records k blank inside, (limits records keeps).defaults)

  awards_small : (k : ℕ) → k < length records → awarded (record_at records k) ≤ most_roster_total
  awards_small k inside = omega (arith, get_or-le-sum_by awarded records k blank inside, (limits records keeps).awards)

  between : (tenths cents : ℕ) → charging.Within board tenths cents → Between board tenths (pos cents)
  between tenths cents within = record { at_least_day_ahead = omega (arith, ints, within.at_least_day_ahead); at_most_top = omega (arith, ints, within.at_most_top) }

  here_small : (k : ℕ) → k < length records → Small (here k)
  here_small k inside =
      row_small rules.defaults board defaults board_keeps ok.cleared (record_at records k) (nth (charges rules board records) k) (nth (cost_shares rules board records) k) (awards_small k inside)
      (defaults_small k inside) (charge_bound k inside) (share_bound k inside)

  pub lawful : Lawful rules board records (statement rules board records)
  lawful =
      let inside_records : (k : ℕ) → k < length (statement rules board records) → k < length records = λ k inside. omega (arith, inside, rows_long) in
      record {
        in_order = in_order;
        once = once;
        balanced = balanced;
        something = ok.something;
        near = λ cost k inside.
            subst (λ (z : ℤ). Near (net_cost rules.defaults board records) (nth (open_quantities rules.shares records) k) (bought records) z) (sym (ap cost_share (row_is k inside) ∙ share_is k))
            (near cost k (inside_records k inside));
        none = λ free k inside.
            ap cost_share (row_is k inside) ∙ share_is k ∙ none_at rules.shares (net_cost rules.defaults board records) (open_quantities rules.shares records) records free k;
        failures = λ k inside.
            subst (λ (r : Row). Between board (record_at records k).failed r.amounts.failure) (sym (row_is k inside))
            (between _ _ (failure_within rules.defaults board defaults board_keeps ok.cleared (record_at records k) (defaults_small k (inside_records k inside))));
        infeasibles = λ k inside.
            subst (λ (r : Row). Between board (record_at records k).infeasible r.amounts.infeasible) (sym (row_is k inside))
            (between _ _ (infeasible_within rules.defaults board defaults board_keeps ok.cleared (record_at records k) (defaults_small k (inside_records k inside))));
        small = λ k inside. subst Small (sym (row_is k inside)) (here_small k (inside_records k inside));
      }
