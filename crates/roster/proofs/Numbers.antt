-- Where a QSE's number stands, and what a change of its record leaves alone.
use Rattle.std.proofs.Common.{◌≡◌, ℕ, zero, suc, ◌<◌, ◌≤◌, if◌then◌else◌, eqb, List, [], ◌∷◌, ◌++◌, length, get_or, set, position, None, refl, arith}
use Rattle.std.specs.List.{position_or_len}
use Rattle.std.proofs.lemmas.List.Sums.{sum_by-cons, sum_by-set, sum_by_push, sum_by-le, get_or-le-sum_by, fails_before_first}
use Rattle.std.proofs.lemmas.Bool.Decides.{nat_tests}
use Rattle.roster.specs.Records.{enrolments}
use Rattle.roster.specs.Filing.{blank, changed}
use Rattle.roster.specs.Working.{Found}
use Rattle.roster.specs.declared.records.Record.{Record}

-- What a record adds to the count of a number.
abbrev one_if : ℕ → Record → ℕ
one_if qse r = if eqb r.qse qse then 1 else 0

-- A number that no record has is not enrolled.
pub none_enrolled : (qse : ℕ) (records : List Record) → position (λ (r : Record). eqb r.qse qse) records ≡ None → enrolments qse records ≡ 0
none_enrolled qse records e =
    let past : length records ≤ position_or_len (λ (r : Record). eqb r.qse qse) records = grind (arith, nat_tests) in
    omega (arith, sum_by-le (one_if qse) 0 records (λ k d inside. let fails = fails_before_first (λ (r : Record). eqb r.qse qse) records k d (omega arith) in grind arith))

enrolled_at : (qse : ℕ) (records : List Record) (place : ℕ) → place < length records → (get_or records place blank).qse ≡ qse → 1 ≤ enrolments qse records
enrolled_at qse records place inside named = let some = get_or-le-sum_by (one_if qse) records place blank inside in grind (arith, nat_tests)

-- A number that nobody has names no record to change.
changed_none : (qse : ℕ) (change : Record → Record) (records : List Record) → enrolments qse records ≡ 0 → changed qse change records ≡ records
changed_none qse change [] none = refl
changed_none qse change (r ∷ records) none =
    let first = sum_by-cons (one_if qse) r records in
    let rest = changed_none qse change records (omega (arith, first, none)) in
    grind arith

-- Where numbers are distinct, changing the record of the QSE named is a write at its place.
changed_at : (qse : ℕ) (change : Record → Record) (records : List Record) (place : ℕ) → place < length records → (get_or records place blank).qse ≡ qse → enrolments qse records ≤ 1
    → changed qse change records ≡ set records place (change (get_or records place blank))
changed_at qse change [] place inside named once = refl
changed_at qse change (r ∷ records) zero inside named once =
    let first = sum_by-cons (one_if qse) r records in
    let rest = changed_none qse change records (grind (arith, nat_tests)) in
    grind (arith, nat_tests)
changed_at qse change (r ∷ records) (suc place) inside named once =
    let some = enrolled_at qse records place (omega (arith, inside)) named in
    let first = sum_by-cons (one_if qse) r records in
    let rest = changed_at qse change records place (omega (arith, inside)) named (omega (arith, once, first)) in
    grind arith

module _ (qse : ℕ) (records : List Record) (place : ℕ) (old : Record) (found : Found qse records place old) where
  pub enrolled : 1 ≤ enrolments qse records
  enrolled = enrolled_at qse records place found.inside (cc)

  pub is_set : (change : Record → Record) → enrolments qse records ≤ 1 → changed qse change records ≡ set records place (change old)
  is_set change once = rw found.read (changed_at qse change records place found.inside (cc) once)

-- A record with the same number in the place of another changes no count of a number.
pub enrolments_set : (qse : ℕ) (records : List Record) (place : ℕ) (new : Record) → place < length records → new.qse ≡ (get_or records place blank).qse
    → enrolments qse (set records place new) ≡ enrolments qse records
enrolments_set qse records place new inside same = let counts = sum_by-set (one_if qse) records place new blank inside in grind arith

-- A new number is counted once.
pub enrolments_pushed : (qse : ℕ) (records : List Record) (new : Record) → enrolments new.qse records ≡ 0 → enrolments qse records ≤ 1 → enrolments qse (records ++ new ∷ []) ≤ 1
enrolments_pushed qse records new none once = let counts = sum_by_push (one_if qse) records new in grind (arith, nat_tests)

pub numbered_pushed : (records : List Record) (new : Record) → (new.qse ≡ 0 → ⊥) → enrolments 0 records ≡ 0 → enrolments 0 (records ++ new ∷ []) ≡ 0
numbered_pushed records new some none = let counts = sum_by_push (one_if 0) records new in grind (arith, nat_tests)
