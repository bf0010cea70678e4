-- The totals with one record in the place of another, and with one more; and how many then arranged above their obligation.
use Rattle.std.proofs.Common.{◌≡◌, ℕ, ◌+◌, ◌-◌, ◌<◌, false, if◌then◌else◌, List, [], ◌∷◌, ◌++◌, length, get_or, set, sum_by, refl, arith}
use Rattle.std.proofs.lemmas.Bool.{or_parts}
use Rattle.std.proofs.lemmas.List.Sums.{sum_by-set, sum_by_push, get_or-le-sum_by}
use Rattle.roster.specs.Records.{awarded, arranged, arranged_above, defaulted, how_many_above, totals_of, above, too_much}
use Rattle.roster.specs.Working.{totals_with}
use Rattle.roster.specs.Filing.{blank, newcomer}
use Rattle.roster.specs.declared.records.Record.{Record}

-- The totals become those of other records, where each of the five does.
totals_become : (records next : List Record) (old new : Record) → ((f : Record → ℕ) → f (newcomer 0 0 0) ≡ 0 → sum_by f records - f old + f new ≡ sum_by f next)
    → totals_with (totals_of records) old new ≡ totals_of next
totals_become records next old new one =
    λ j. record { loads = one (λ r. r.load) refl j; obligations = one (λ r. r.obligation) refl j; awards = one awarded refl j; arranged = one arranged refl j; defaults = one defaulted refl j }

pub totals_set : (records : List Record) (place : ℕ) (new : Record) → place < length records → totals_with (totals_of records) (get_or records place blank) new ≡ totals_of (set records place new)
totals_set records place new inside =
    totals_become records (set records place new) (get_or records place blank) new
    (λ f _. omega (arith, sum_by-set f records place new blank inside, get_or-le-sum_by f records place blank inside))

pub totals_pushed : (records : List Record) (new : Record) → totals_with (totals_of records) (newcomer 0 0 0) new ≡ totals_of (records ++ new ∷ [])
totals_pushed records new = totals_become records (records ++ new ∷ []) (newcomer 0 0 0) new (λ f none. omega (arith, none, sum_by_push f records new))

-- Where nobody arranged above its obligation, only the new record can.
pub above_set : (records : List Record) (place : ℕ) (new : Record) → place < length records → how_many_above records ≡ 0
    → how_many_above (set records place new) ≡ (if arranged_above new then 1 else 0)
above_set records place new inside none =
    let one : Record → ℕ = λ r. if arranged_above r then 1 else 0 in
    omega (arith, none, sum_by-set one records place new blank inside, get_or-le-sum_by one records place blank inside)

-- The five totals, each within the limit. No proof of this crate needs it; those of the statement do.
pub record Below (records : List Record) : Type 0 where
  pub loads : above (sum_by (λ r. r.load) records) ≡ false
  pub obligations : above (sum_by (λ r. r.obligation) records) ≡ false
  pub awards : above (sum_by awarded records) ≡ false
  pub arranged : above (sum_by arranged records) ≡ false
  pub defaults : above (sum_by defaulted records) ≡ false

pub below : (records : List Record) → too_much records ≡ false → Below records
below records small =
    let b = or_parts _ _ small in
    let c = or_parts _ _ b.1 in
    let d = or_parts _ _ c.1 in
    let e = or_parts _ _ d.1 in
    record { loads = b.0; obligations = c.0; awards = d.0; arranged = e.0; defaults = e.1 }
