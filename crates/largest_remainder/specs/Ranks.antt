-- How many members have fewer members before them than units are missing: just as many as units.
-- Proofs and nothing to believe: an implementation can cite its laws only from specs/.
use Rattle.std.specs.Prelude.{◌≡◌, ℕ, zero, suc, refl, ◌+◌, ◌-◌, ◌<◌, ◌≤◌, Bool, if◌then◌else◌, List, [], ◌∷◌, map, length, take, drop, sum_by, sum, count_by, nat_le, nat_lt, slice_index}
use Rattle.std.proofs.Common.{sym, ap, ◌∙◌, ⊎_elim, arith}
use Rattle.std.specs.List.{range_with_len}
use Rattle.std.proofs.lemmas.List.Sums.{sum-map, sum_by-cons, sum_by-take-drop, sum_by-drop_more, sum_by-le-sum_by, count_by-le-length}
use Rattle.std.proofs.lemmas.Bool.{cases_lt}
use Rattle.std.proofs.lemmas.Bool.Decides.{nat_tests}
use Rattle.largest_remainder.specs.Largest.{ahead_of, unit_for}

-- What a test adds to a count.
abbrev pub one_if : Bool → ℕ
one_if b = if b then 1 else 0

-- A count at a place: what stands before it, it, and what stands after.
count_at : (p : ℕ → Bool) (xs : List ℕ) (k : ℕ) → k < length xs → count_by p xs ≡ count_by p (take k xs) + (one_if (p (slice_index xs k)) + count_by p (drop (k + 1) xs))
count_at p xs k inside = omega (arith, sum_by-take-drop (λ y. one_if (p y)) xs k, sum_by-drop_more (λ y. one_if (p y)) xs k 0 inside)

-- Where one test passes all that another passes, it counts as many or more.
above_from : (x r : ℕ) → x < r → (y : ℕ) → (one_if (nat_le r y) ≤ one_if (nat_lt x y)) × (one_if (nat_lt r y) ≤ one_if (nat_lt x y))
above_from x r more y = (grind (arith, nat_tests), grind (arith, nat_tests))

above_to : (x r : ℕ) → r ≤ x → (y : ℕ) → (one_if (nat_lt x y) ≤ one_if (nat_le r y)) × (one_if (nat_lt x y) ≤ one_if (nat_lt r y))
above_to x r less y = (grind (arith, nat_tests), grind (arith, nat_tests))

module _ (x : ℕ) (xs : List ℕ) (k : ℕ) (inside : k < length xs) where
  -- Where the member at k has more than x, fewer come before it than have more than x: itself is one of those.
  pub ahead_under : x < slice_index xs k → ahead_of xs k < count_by (nat_lt x) xs
  ahead_under more =
      let r = slice_index xs k in
      let earlier = sum_by-le-sum_by (λ y. one_if (nat_le r y)) (λ y. one_if (nat_lt x y)) (take k xs) (λ y. (above_from x r more y).0) in
      let later = sum_by-le-sum_by (λ y. one_if (nat_lt r y)) (λ y. one_if (nat_lt x y)) (drop (k + 1) xs) (λ y. (above_from x r more y).1) in
      grind (arith, nat_tests, count_at (nat_lt x) xs k inside)

  -- Where it has at most x, all that have more than x come before it.
  pub ahead_over : slice_index xs k ≤ x → count_by (nat_lt x) xs ≤ ahead_of xs k
  ahead_over less =
      let r = slice_index xs k in
      let earlier = sum_by-le-sum_by (λ y. one_if (nat_lt x y)) (λ y. one_if (nat_le r y)) (take k xs) (λ y. (above_to x r less y).0) in
      let later = sum_by-le-sum_by (λ y. one_if (nat_lt x y)) (λ y. one_if (nat_lt r y)) (drop (k + 1) xs) (λ y. (above_to x r less y).1) in
      grind (arith, nat_tests, count_at (nat_lt x) xs k inside)

-- Before a member in front of all others come those who have more.
ahead_first : (x : ℕ) (xs : List ℕ) → ahead_of (x ∷ xs) 0 ≡ count_by (nat_lt x) xs
ahead_first x xs = omega arith

-- One more member in front comes before those who have at most as much.
ahead_next : (x : ℕ) (xs : List ℕ) (k : ℕ) → ahead_of (x ∷ xs) (suc k) ≡ one_if (nat_le (slice_index xs k) x) + ahead_of xs k
ahead_next x xs k =
    let e : suc k + 1 ≡ suc (k + 1) = omega arith in
    let d : drop (suc k + 1) (x ∷ xs) ≡ drop (k + 1) xs = ap (λ i. drop i (x ∷ xs)) e in
    omega (arith, sum_by-cons (λ y. one_if (nat_le (slice_index xs k) y)) x (take k xs), ap (count_by (nat_lt (slice_index xs k))) d)

-- The places after one more, counted from the one before.
pub map_tail : {X : Type 0} (f g : ℕ → X) (a n : ℕ) → ((k : ℕ) → k < a + n → f (suc k) ≡ g k) → map f (range_with_len (a + 1) n) ≡ map g (range_with_len a n)
map_tail f g a zero same = refl
map_tail f g a (suc n) same =
    let e : a + 1 ≡ suc a = omega arith in (λ j. (ap f e ∙ same a (omega arith)) j ∷ map_tail f g (a + 1) n (λ k h. same k (omega arith)) j)

-- Sums of what is equal at each place.
sum_same : (f g : ℕ → ℕ) (a n : ℕ) → ((k : ℕ) → k < a + n → f k ≡ g k) → sum_by f (range_with_len a n) ≡ sum_by g (range_with_len a n)
sum_same f g a zero same = refl
sum_same f g a (suc n) same =
    omega (arith, sum_by-cons f a (range_with_len (a + 1) n), sum_by-cons g a (range_with_len (a + 1) n), same a (omega arith), sum_same f g (a + 1) n (λ k h. same k (omega arith)))

pub sum_tail : (f g : ℕ → ℕ) (a n : ℕ) → ((k : ℕ) → k < a + n → f (suc k) ≡ g k) → sum_by f (range_with_len (a + 1) n) ≡ sum_by g (range_with_len a n)
sum_tail f g a n same =
    let next = λ (k : ℕ). f (suc k) in
    sym (sum-map f (range_with_len (a + 1) n)) ∙ ap sum (map_tail f next a n (λ k h. refl)) ∙ sum-map next (range_with_len a n) ∙ sum_same next g a n same

-- Whether a member gets a unit, with one more member in front who has x, where `all` of the others have more than x and `ahead` come before it: one
-- unit less is there for the others where the one in front gets one, else as many.
unit_next : (units x r ahead all : ℕ) → (x < r → ahead < all) → (r ≤ x → all ≤ ahead)
    → (all < units → one_if (nat_lt (one_if (nat_le r x) + ahead) units) ≡ one_if (nat_lt ahead (units - 1)))
    × (units ≤ all → one_if (nat_lt (one_if (nat_le r x) + ahead) units) ≡ one_if (nat_lt ahead units))
unit_next units x r ahead all under over = (λ less. grind (arith, nat_tests), λ more. grind (arith, nat_tests))

-- The units handed out are just the units that are missing.
pub units_add_up : (units : ℕ) (remainders : List ℕ) → units ≤ length remainders → sum_by (unit_for units remainders) (range_with_len 0 (length remainders)) ≡ units
units_add_up units [] few = omega arith
units_add_up units (x ∷ xs) few =
    let all = count_by (nat_lt x) xs in
    let n = length xs in
    let first = sum_by-cons (unit_for units (x ∷ xs)) 0 (range_with_len 1 n) in
    let next = λ (k : ℕ) (h : k < n). unit_next units x (slice_index xs k) (ahead_of xs k) all (ahead_under x xs k h) (ahead_over x xs k h) in
    let ahead = λ (k : ℕ). ap (λ a. one_if (nat_lt a units)) (ahead_next x xs k) in
    ⊎_elim
    (λ less.
    let rest = sum_tail (unit_for units (x ∷ xs)) (unit_for (units - 1) xs) 0 n (λ k h. ahead k ∙ (next k (omega arith)).0 less) in
    let here : unit_for units (x ∷ xs) 0 ≡ 1 = grind (arith, nat_tests, ahead_first x xs) in
    omega (arith, units_add_up (units - 1) xs (omega arith)))
    (λ more.
    let rest = sum_tail (unit_for units (x ∷ xs)) (unit_for units xs) 0 n (λ k h. ahead k ∙ (next k (omega arith)).1 more) in
    let here : unit_for units (x ∷ xs) 0 ≡ 0 = grind (arith, nat_tests, ahead_first x xs) in
    omega (arith, units_add_up units xs (omega (arith, count_by-le-length (nat_lt x) xs))))
    (cases_lt all units)
