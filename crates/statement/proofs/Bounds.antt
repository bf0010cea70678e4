-- How large awards, charges and costs can be, from the limits of the board and of the roster.
use Rattle.std.proofs.Common.{◌≡◌, ℕ, suc, ◌+◌, ◌-◌, ◌*◌, ◌<◌, ◌≤◌, Bool, true, false, eqb, ltb, List, [], ◌∷◌, length, get_or, ℤ, pos, ◌+ℤ◌, ◌-ℤ◌, neg_ℤ, unsigned_abs, Ok, sum_by, sym, refl, ap, ◌∙◌, mul-le-mul_right, mul-le-mul, arith}
use Rattle.std.proofs.lemmas.Int.{ints}
use Rattle.std.proofs.lemmas.List.Sums.{sum_by-cons}
use Rattle.std.proofs.lemmas.Bool.{le-ltb, ne_eqb, true≢false}
use Rattle.refusals.specs.declared.Refusal.TheVariants.{QuantityAboveLimit, DayAheadNotCleared}
use Rattle.refusals.specs.Refused.{Gives, first_of}
use Rattle.pricing.specs.Boards.{PlainBoard, top_price}
use Rattle.pricing.specs.Boards as boards
use Rattle.pricing.specs.Cents.{cents_of}
use Rattle.pricing.specs.Limits.{most_price}
use Rattle.pricing.proofs.Rounding.{cents_laws}
use Rattle.defaults.specs.Charges as charges
use Rattle.roster.specs.Limits.{most_roster_total}
use Rattle.roster.specs.Records.{awarded, defaulted}
use Rattle.roster.specs.declared.records.Record.{Record}
use Rattle.statement.specs.Amounts.{DefaultRules, award_cents, day_ahead_cost, later_markets, net_cost, row_of}
use Rattle.statement.specs.Laws.{Small, most_amount}
use Rattle.statement.specs.Working.{most_cost}
use Rattle.statement.proofs.Lists.{places_at_most, sumBy_times, total_neg}

cents_small : (price tenths : ℕ) → price ≤ most_price → cents_of price tenths ≤ 100000 * tenths
cents_small price tenths low = omega (arith, cents_laws.half_above price tenths, mul-le-mul_right tenths low)

-- And of any price and quantity that fit their types.
pub cents_fit : (price tenths : ℕ) → price < 4294967296 → tenths < 4294967296 → cents_of price tenths ≤ 1844674407370955162
cents_fit price tenths low few = omega (arith, cents_laws.half_above price tenths, mul-le-mul (le price low) (le tenths few))
  where
    le : (n : ℕ) → n < 4294967296 → n ≤ 4294967296
    le n h = omega arith

module _ (board : PlainBoard) (keeps : boards.Kept board) where
  pub one_award_small : (r : Record) (market : ℕ) → award_cents board r market ≤ 100000 * get_or r.awards market 0
  one_award_small r market = cents_small (get_or board.prices market 0) (get_or r.awards market 0) (keeps.low market)

  -- What a QSE is paid for all its awards.
  abbrev pub paid : Record → ℕ
  paid r = award_cents board r 0 + sum_by (award_cents board r) (later_markets board)

  pub paid_small : (r : Record) → paid r ≤ 100000 * awarded r
  paid_small r =
      let each = sumBy_times 100000 (award_cents board r) (λ market. get_or r.awards market 0) (later_markets board) (one_award_small r) in
      let all : get_or r.awards 0 0 + sum_by (λ market. get_or r.awards market 0) (later_markets board) ≤ awarded r =
      omega (arith, sum_by-cons (λ market. get_or r.awards market 0) 0 (later_markets board), places_at_most r.awards 0 (suc (length board.prices - 1)))
      in
      omega (arith, each, all, one_award_small r 0)

  pub all_paid_small : (records : List Record) → sum_by awarded records ≤ most_roster_total → sum_by paid records ≤ most_cost
  all_paid_small records small = omega (arith, sumBy_times 100000 paid awarded records paid_small, small)

  pub day_ahead_small : (records : List Record) → sum_by awarded records ≤ most_roster_total → sum_by (λ r. award_cents board r 0) records ≤ most_cost
  day_ahead_small records small = omega (arith, sumBy_times 100000 (λ r. award_cents board r 0) awarded records (λ r. omega (arith, paid_small r)), small)

  -- What a default rule charges for a quantity that it takes.
  pub charge_small : (tenths cents : ℕ) → charges.Within board tenths cents → cents ≤ 100000 * tenths
  charge_small tenths cents within = omega (arith, within.at_most_top, cents_small (top_price board) tenths keeps.low_top)

-- A default rule does not refuse what it takes.
pub taken : (board : PlainBoard) (tenths charge cents : ℕ) → charges.Takes board tenths → Gives (charges.charge_refused board tenths) charge (Ok cents) → cents ≡ charge
taken board tenths charge cents takes answer = same (ltb charges.most_quantity tenths) (eqb (length board.prices) 0) (le-ltb _ _ takes.small) (ne_eqb _ _ (λ none. absurd (omega (arith, none, takes.cleared)))) answer
  where
    same : (a b : Bool) → a ≡ false → b ≡ false → Gives (first_of ((a, QuantityAboveLimit) ∷ (b, DayAheadNotCleared) ∷ [])) charge (Ok cents) → cents ≡ charge
    same true b e f h = absurd (true≢false e)
    same false true e f h = absurd (true≢false f)
    same false false e f h = grind arith

pub day_ahead_is : (board : PlainBoard) (records : List Record) → day_ahead_cost board records ≡ pos (sum_by (λ r. award_cents board r 0) records)
day_ahead_is board records = total_neg (λ r. award_cents board r 0) records

-- The laws of the two default rules that serve a statement.
pub record Defaults (rules : DefaultRules) : Type 0 where
  pub failure : (board : PlainBoard) (tenths : ℕ) → charges.Takes board tenths → charges.Within board tenths (rules.failure board tenths)
  pub infeasible : (board : PlainBoard) (tenths : ℕ) → charges.Takes board tenths → charges.Within board tenths (rules.infeasible board tenths)

module _ (rules : DefaultRules) (board : PlainBoard) where
  -- What a QSE is charged for what it failed and what was infeasible.
  abbrev pub charged : Record → ℕ
  charged r = rules.failure board r.failed + rules.infeasible board r.infeasible

  next : (t : ℤ) (p q f i P C : ℕ) → neg_ℤ t ≡ pos P -ℤ pos C → neg_ℤ ((neg_ℤ (pos p) +ℤ neg_ℤ (pos q) +ℤ pos f +ℤ pos i) +ℤ t) ≡ pos (p + q + P) -ℤ pos (f + i + C)
  next t p q f i P C e = omega (arith, ints)

  pub net_is : (records : List Record) → net_cost rules board records ≡ pos (sum_by (λ r. award_cents board r 0 + sum_by (award_cents board r) (later_markets board)) records) -ℤ pos (sum_by charged records)
  net_is [] = refl
  net_is (r ∷ records) =
      let paid_by : Record → ℕ = λ r. award_cents board r 0 + sum_by (award_cents board r) (later_markets board) in
      next _ (award_cents board r 0) (sum_by (award_cents board r) (later_markets board)) (rules.failure board r.failed) (rules.infeasible board r.infeasible) (sum_by paid_by records) (sum_by charged records) (net_is records)
      ∙ sym (λ j. pos (sum_by-cons paid_by r records j) -ℤ pos (sum_by-cons charged r records j))

  module _ (defaults : Defaults rules) (keeps : boards.Kept board) (cleared : 1 ≤ length board.prices) where
    pub failure_within : (r : Record) → defaulted r ≤ most_roster_total → charges.Within board r.failed (rules.failure board r.failed)
    failure_within r small = defaults.failure board r.failed (record { small = omega (arith, small); cleared = cleared })

    pub infeasible_within : (r : Record) → defaulted r ≤ most_roster_total → charges.Within board r.infeasible (rules.infeasible board r.infeasible)
    infeasible_within r small = defaults.infeasible board r.infeasible (record { small = omega (arith, small); cleared = cleared })

    pub charged_small : (r : Record) → defaulted r ≤ most_roster_total → charged r ≤ 100000 * defaulted r
    charged_small r small =
        omega (
          arith,
          charge_small board keeps r.failed (rules.failure board r.failed) (failure_within r small),
          charge_small board keeps r.infeasible (rules.infeasible board r.infeasible) (infeasible_within r small),
        )

    all_charged : (records : List Record) → sum_by defaulted records ≤ most_roster_total → sum_by charged records ≤ 100000 * sum_by defaulted records
    all_charged [] small = omega arith
    all_charged (r ∷ records) small =
        let both = sum_by-cons defaulted r records in
        omega (arith, charged_small r (omega (arith, small, both)), all_charged records (omega (arith, small, both)), sum_by-cons charged r records, ap (λ n. 100000 * n) both)

    pub net_small : (records : List Record) → sum_by awarded records ≤ most_roster_total → sum_by defaulted records ≤ most_roster_total → unsigned_abs (net_cost rules board records) ≤ most_cost
    net_small records few_awards few_defaults =
        between (net_cost rules board records) (sum_by (paid board keeps) records) (sum_by charged records) (net_is records) (all_paid_small board keeps records few_awards) (omega (arith, all_charged records few_defaults, few_defaults))
      where
        between : (n : ℤ) (P C : ℕ) → n ≡ pos P -ℤ pos C → P ≤ most_cost → C ≤ most_cost → unsigned_abs n ≤ most_cost
        between n P C e h k = omega (arith, ints)

    -- No amount of a row is too large.
    pub row_small : (r : Record) (charge share : ℤ) → awarded r ≤ most_roster_total → defaulted r ≤ most_roster_total → unsigned_abs charge ≤ 8000000000000000 → unsigned_abs share ≤ 20000000000000000 → Small (row_of rules board r charge share)
    row_small r charge share few_awards few_defaults low_charge low_share =
        let paid_all = paid_small board keeps r in
        let failed = charge_small board keeps r.failed (rules.failure board r.failed) (failure_within r few_defaults) in
        let other = charge_small board keeps r.infeasible (rules.infeasible board r.infeasible) (infeasible_within r few_defaults) in
        record {
          award = turned (award_cents board r 0) (omega (arith, paid_all, few_awards));
          supplemental = turned (sum_by (award_cents board r) (later_markets board)) (omega (arith, paid_all, few_awards));
          failure = omega (arith, failed, few_defaults);
          infeasible = omega (arith, other, few_defaults);
          charge = omega (arith, low_charge);
          adjustment = difference share charge low_share low_charge;
        }
      where
        turned : (n : ℕ) → n ≤ most_amount → unsigned_abs (neg_ℤ (pos n)) ≤ most_amount
        turned n h = omega (arith, ints)

        difference : (s c : ℤ) → unsigned_abs s ≤ 20000000000000000 → unsigned_abs c ≤ 8000000000000000 → unsigned_abs (s -ℤ c) ≤ most_amount
        difference s c h k = omega (arith, ints)
