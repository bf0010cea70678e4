use Rattle.std.proofs.Common.{◌≡◌, ℕ, if◌then◌else◌, nat_le, length, refl, arith}
use Rattle.std.proofs.lemmas.Bool.Decides.{nat_tests}
use Rattle.roster.specs.Filing.{with_award}
use Rattle.roster.specs.Records.{arranged, arranged_above, defaulted}
use Rattle.roster.specs.declared.records.Record.{Record}
use Rattle.roster.proofs.Answered.{answered, sum_by-changed}
use Rattle.roster.proofs.roster.Roster.award.Goals as goal

pub returns : goal.returns
returns c =
    let change = with_award c.args.market c.args.tenths in
    let left = λ (f : Record → ℕ) (same : (r : Record) → f (change r) ≡ f r). sum_by-changed f c.args.qse change c.args.self.now same in
    let loads = left (λ r. r.load) (λ r. refl) in
    let obligations = left (λ r. r.obligation) (λ r. refl) in
    let arranged = left arranged (λ r. refl) in
    let defaults = left defaulted (λ r. refl) in
    let high = left (λ r. if arranged_above r then 1 else 0) (λ r. refl) in
    let answers = answered c.args.qse change c.args.self.now _ _ c.change.ensures.kept (nat_le (length c.args.board.now.prices) c.args.market) (λ old made h. grind (arith, nat_tests)) c.change.ensures.tried in
    grind arith
