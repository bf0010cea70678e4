use Rattle.std.proofs.Common.{◌≡◌, ℕ, false, if◌then◌else◌, refl, rules, arith}
use Rattle.roster.specs.Filing.{with_load}
use Rattle.roster.specs.Records.{arranged, arranged_above, awarded, defaulted}
use Rattle.roster.specs.declared.records.Record.{Record}
use Rattle.roster.proofs.Answered.{answered, sum_by-changed}
use Rattle.roster.proofs.roster.Roster.load.Goals as goal

pub returns : goal.returns
returns c =
    let change = with_load c.args.load in
    let left = λ (f : Record → ℕ) (same : (r : Record) → f (change r) ≡ f r). sum_by-changed f c.args.qse change c.args.self.now same in
    let obligations = left (λ r. r.obligation) (λ r. refl) in
    let awards = left awarded (λ r. refl) in
    let arranged = left arranged (λ r. refl) in
    let defaults = left defaulted (λ r. refl) in
    let high = left (λ r. if arranged_above r then 1 else 0) (λ r. refl) in
    let answers = answered c.args.qse change c.args.self.now _ _ c.change.ensures.kept false (λ old made h. search rules) c.change.ensures.tried in
    grind arith
