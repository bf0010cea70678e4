use Rattle.std.proofs.Common.{get_or, pos, neg_ℤ, ap, ◌∙◌, arith, w64, FitsSigned, rules}
use Rattle.std.proofs.lemmas.Int.{to_z-of_z}
use Rattle.std.proofs.lemmas.List.Sums.{get_or-le-sum_by}
use Rattle.pricing.specs.Cents.{cents_of}
use Rattle.roster.specs.Filing.{blank}
use Rattle.roster.specs.Records.{awarded}
use Rattle.statement.specs.Amounts.{record_at}
use Rattle.statement.proofs.Bounds.{paid_small}
use Rattle.statement.proofs.Ranges.{limits}
use Rattle.statement.proofs.hour.Hour.own_row.Goals as goal

pub paid-requires-2 : goal.paid-requires-2
paid-requires-2 g c =
    let hour = c.args.self.now in
    let records = hour.records.now in
    let later = rw c.prices.ensures.value at c.later_cents.ensures in
    omega (arith, later, paid_small hour.board.now hour.priced (record_at records c.args.place), get_or-le-sum_by awarded records c.args.place blank c.requires, (limits records hour.kept).awards)

pub returns : goal.returns
returns g c =
    let r = record_at c.args.self.now.records.now c.args.place in
    let award = c.paid.ensures ∙ ap (λ n. neg_ℤ (pos n)) (c.cents.ensures.value ∙ ap (λ price. cents_of price (get_or r.awards 0 0)) c.day_ahead_price.ensures.value) in
    let later = c.paid-2.ensures ∙ ap (λ n. neg_ℤ (pos n)) (rw c.prices.ensures.value at c.later_cents.ensures) in
    let fits_award : FitsSigned w64 c.paid.result = search rules in
    let fits_later : FitsSigned w64 c.paid-2.result = search rules in
    let fits_failure : FitsSigned w64 c.charged.result = search rules in
    let fits_infeasible : FitsSigned w64 c.charged-2.result = search rules in
    simp to_z-of_z
    (λ j.
    record {
      qse = r.qse;
      amounts = record { award = award j; supplemental = later j; failure = c.charged.ensures j; infeasible = c.charged-2.ensures j; charge = pos 0; adjustment = pos 0 };
    })
