-- No sharing of a statement is out of a sharing rule's range, whatever the rule: from the limits of the roster and the laws of the rule.
use Rattle.std.proofs.Common.{◌≡◌, ℕ, ◌-◌, ◌<◌, ◌≤◌, false, if◌then◌else◌, List, [], ◌∷◌, map, length, ℤ, pos, ◌+ℤ◌, ◌-ℤ◌, unsigned_abs, ◌≤ℤ◌, sum_by, refl, ap, ◌∙◌, ⊎_elim, arith}
use Rattle.std.proofs.lemmas.Int.{ints}
use Rattle.std.specs.List.{range_with_len}
use Rattle.std.proofs.lemmas.List.FromFn.{length-map-range_with_len}
use Rattle.std.proofs.lemmas.List.{length-map, map-id}
use Rattle.std.proofs.lemmas.List.Sums.{get_or-le-sum_by, sum_by-cons}
use Rattle.std.proofs.lemmas.Bool.{cases_Bool, cond-true, ltb-false}
use Rattle.integers.specs.Totals.{total_of, size_of}
use Rattle.roster.specs.Filing.{blank}
use Rattle.roster.specs.Limits.{most_roster_total}
use Rattle.roster.specs.Records.{Kept, arranged, arranged_above, awarded, how_many_above, one_above, totals_of}
use Rattle.roster.specs.declared.records.Record.{Record}
use Rattle.roster.specs.declared.records.Totals.{Totals}
use Rattle.sharing.specs.Shares.{Fair, InRange, nth}
use Rattle.statement.specs.Amounts.{obligations, open_quantities, record_at}
use Rattle.statement.specs.Quantities.{bought, load_of, open_day_ahead, requirement}
use Rattle.statement.specs.Working.{most_cost}
use Rattle.statement.proofs.Lists.{map_places, size_minus, size_pos, sumBy_plus, total_minus, total_pos}
use Rattle.statement.proofs.Parts.{sizes_small}

-- The five totals, each within the limit.
pub record Small (totals : Totals) : Type 0 where
  pub loads : totals.loads ≤ most_roster_total
  pub obligations : totals.obligations ≤ most_roster_total
  pub awards : totals.awards ≤ most_roster_total
  pub arranged : totals.arranged ≤ most_roster_total
  pub defaults : totals.defaults ≤ most_roster_total

small : (totals : Totals) → one_above totals ≡ false → Small totals
small totals none = record { loads = grind arith; obligations = grind arith; awards = grind arith; arranged = grind arith; defaults = grind arith }

-- Nobody arranged more day-ahead than it owes, so all together did not either.
pub covered : (records : List Record) → how_many_above records ≡ 0 → sum_by (λ r. r.arranged.ahead) records ≤ sum_by (λ r. r.obligation) records
covered [] none = omega arith
covered (r ∷ records) none =
    let first = sum_by-cons (λ (r : Record). if arranged_above r then 1 else 0) r records in
    let within : arranged_above r ≡ false =
    ⊎_elim (λ above. absurd (omega (arith, first, none, cond-true {A = ℕ} (arranged_above r) 1 0 above))) (λ b. b) (cases_Bool (arranged_above r))
    in
    let rest = covered records (omega (arith, first, none)) in
    omega (arith, rest, ltb-false r.obligation r.arranged.ahead within, sum_by-cons (λ (r : Record). r.arranged.ahead) r records, sum_by-cons (λ (r : Record). r.obligation) r records)

module _ (records : List Record) (keeps : Kept records) where
  pub limits : Small (totals_of records)
  limits = small (totals_of records) keeps.small

  pub ahead_small : sum_by (λ r. r.arranged.ahead) records ≤ most_roster_total
  ahead_small = omega (arith, limits.obligations, covered records keeps.covered)

  pub failed_small : sum_by (λ r. r.failed) records ≤ most_roster_total
  failed_small = omega (arith, limits.defaults, sumBy_plus (λ r. r.failed) (λ r. r.infeasible) records)

  -- The open day-ahead quantities together, which are not negative.
  pub open_is : total_of (map open_day_ahead records) ≡ pos (sum_by (λ r. r.obligation) records - sum_by (λ r. r.arranged.ahead) records)
  open_is =
      difference _ _ _ _ _ (total_minus (λ r. pos r.obligation) (λ r. pos r.arranged.ahead) records) (total_pos (λ r. r.obligation) records) (total_pos (λ r. r.arranged.ahead) records) (covered records keeps.covered)
    where
      difference : (t x y : ℤ) (a b : ℕ) → t ≡ x -ℤ y → x ≡ pos a → y ≡ pos b → b ≤ a → t ≡ pos (a - b)
      difference t x y a b e f g h = omega (arith, ints)

  pub open_sizes : size_of (map open_day_ahead records) ≤ 400000
  open_sizes =
      omega (
        arith,
        size_minus (λ r. pos r.obligation) (λ r. pos r.arranged.ahead) records,
        size_pos (λ r. r.obligation) records,
        size_pos (λ r. r.arranged.ahead) records,
        limits.obligations,
        ahead_small,
      )

  -- Where the weights add up to something, there are weights.
  some_members : (f : Record → ℤ) → pos 1 ≤ℤ total_of (map f records) → 1 ≤ length records
  some_members f some = at_least records some
    where
      at_least : (rs : List Record) → pos 1 ≤ℤ total_of (map f rs) → 1 ≤ length rs
      at_least [] h = absurd h.le
      at_least (r ∷ rs) h = omega arith

  -- Where they are not 0 together, they are at least 1.
  pub some_open : (total_of (map open_day_ahead records) ≡ pos 0 → ⊥) → pos 1 ≤ℤ total_of (map open_day_ahead records)
  some_open some = at_least _ _ open_is some
    where
      at_least : (t : ℤ) (n : ℕ) → t ≡ pos n → (t ≡ pos 0 → ⊥) → pos 1 ≤ℤ t
      at_least t n e h = omega (arith, ints)

  pub charges_in_range : (cost : ℤ) → unsigned_abs cost ≤ most_cost → pos 1 ≤ℤ total_of (map open_day_ahead records) → InRange cost (map open_day_ahead records)
  charges_in_range cost little some =
      let long = length-map records open_day_ahead in
      record {
        some_members = omega (arith, long, some_members open_day_ahead some);
        few_members = omega (arith, long, keeps.few);
        small_total = omega (arith, little);
        small_sizes = omega (arith, open_sizes);
        positive = some;
      }

  pub requirement_small : unsigned_abs (requirement records) ≤ 400000
  requirement_small = between (sum_by arranged records) (sum_by awarded records) (sum_by (λ r. r.failed) records) limits.arranged limits.awards failed_small
    where
      between : (a b c : ℕ) → a ≤ 200000 → b ≤ 200000 → c ≤ 200000 → unsigned_abs (pos a +ℤ (pos b -ℤ pos c)) ≤ 400000
      between a b c h k l = omega (arith, ints)

  pub loads_in_range : 1 ≤ sum_by (λ r. r.load) records → InRange (requirement records) (map load_of records)
  loads_in_range some =
      let long = length-map records load_of in
      let positive : pos 1 ≤ℤ total_of (map load_of records) = omega (arith, ints, total_pos (λ r. r.load) records, some) in
      record {
        some_members = omega (arith, long, some_members load_of positive);
        few_members = omega (arith, long, keeps.few);
        small_total = omega (arith, requirement_small);
        small_sizes = omega (arith, size_pos (λ r. r.load) records, limits.loads);
        positive = positive;
      }

  module _ (shares : ℤ → List ℤ → List ℤ) (fair : (total : ℤ) (weights : List ℤ) → InRange total weights → Fair total weights (shares total weights)) (some : 1 ≤ sum_by (λ r. r.load) records) where
    obligations_fair : Fair (requirement records) (map load_of records) (obligations shares records)
    obligations_fair = fair (requirement records) (map load_of records) (loads_in_range some)

    pub obligations_long : length (obligations shares records) ≡ length records
    obligations_long = obligations_fair.one_each ∙ length-map records load_of

    obligations_sizes : size_of (obligations shares records) ≤ 400064
    obligations_sizes =
        omega (arith, sizes_small (λ r. r.load) records (requirement records) (obligations shares records) some obligations_fair, requirement_small, keeps.few)

    pub obligation_small : (k : ℕ) → k < length records → unsigned_abs (nth (obligations shares records) k) ≤ 400064
    obligation_small k inside = omega (arith, get_or-le-sum_by unsigned_abs (obligations shares records) k (pos 0) (omega (arith, inside, obligations_long)), obligations_sizes)

    pub open_long : length (open_quantities shares records) ≡ length records
    open_long = length-map-range_with_len (λ k. nth (obligations shares records) k -ℤ pos (arranged (record_at records k))) 0 (length records)

    parts_read : map (nth (obligations shares records)) (range_with_len 0 (length records)) ≡ obligations shares records
    parts_read = map_places (λ (z : ℤ). z) (obligations shares records) (length records) (pos 0) obligations_long ∙ map-id (obligations shares records)

    arranged_read : map (λ k. pos (arranged (record_at records k))) (range_with_len 0 (length records)) ≡ map (λ r. pos (arranged r)) records
    arranged_read = map_places (λ r. pos (arranged r)) records (length records) blank refl

    -- The heart of a statement: what is open is, together, just what is bought.
    pub open_adds_up : total_of (open_quantities shares records) ≡ bought records
    open_adds_up =
        less _ _ _ (sum_by arranged records) _
        (total_minus (nth (obligations shares records)) (λ k. pos (arranged (record_at records k))) (range_with_len 0 (length records)))
        (ap total_of parts_read ∙ obligations_fair.add_up)
        (ap total_of arranged_read ∙ total_pos arranged records)
      where
        less : (t x y : ℤ) (a : ℕ) (b : ℤ) → t ≡ x -ℤ y → x ≡ pos a +ℤ b → y ≡ pos a → t ≡ b
        less t x y a b e f g = omega (arith, ints)

    pub open_sizes_small : size_of (open_quantities shares records) ≤ 600064
    open_sizes_small =
        omega (
          arith,
          size_minus (nth (obligations shares records)) (λ k. pos (arranged (record_at records k))) (range_with_len 0 (length records)),
          ap size_of parts_read,
          ap size_of arranged_read,
          size_pos arranged records,
          obligations_sizes,
          limits.arranged,
        )

    pub open_in_range : (cost : ℤ) → unsigned_abs cost ≤ most_cost → pos 1 ≤ℤ bought records → InRange cost (open_quantities shares records)
    open_in_range cost little bought_some =
        let positive : pos 1 ≤ℤ total_of (open_quantities shares records) = omega (arith, ints, open_adds_up, bought_some) in
        let loads : pos 1 ≤ℤ total_of (map load_of records) = (loads_in_range some).positive in
        record {
          some_members = omega (arith, open_long, some_members load_of loads);
          few_members = omega (arith, open_long, keeps.few);
          small_total = omega (arith, little);
          small_sizes = omega (arith, open_sizes_small);
          positive = positive;
        }
