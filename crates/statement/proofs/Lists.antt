-- Sums over lists, and lists made place by place.
use Rattle.std.proofs.Common.{◌≡◌, ℕ, zero, suc, ◌+◌, ◌-◌, ◌*◌, ◌<◌, ◌≤◌, List, [], ◌∷◌, ◌++◌, map, length, get_or, take, drop, set, ℤ, pos, ◌+ℤ◌, ◌-ℤ◌, neg_ℤ, unsigned_abs, sum_by, sum, sym, refl, ap, ◌∙◌, ⊎_elim, add-one, arith}
use Rattle.std.proofs.lemmas.Int.{ints}
use Rattle.std.specs.List.{range_with_len}
use Rattle.std.proofs.lemmas.List.FromFn.{fill_by_all, get_or-map-range_with_len, length-map-range_with_len, map-range_with_len_more}
use Rattle.std.proofs.lemmas.List.{drop_all, get_or-map, get_or_past, length-map, map_more, take_more_set}
use Rattle.std.proofs.lemmas.List.Sums.{sum_by-cons, sum_by-drop_more}
use Rattle.std.proofs.Math.Seq.{drop-cons}
use Rattle.std.proofs.lemmas.Bool.{cases_lt}
use Rattle.integers.specs.Totals.{total_of, size_of}
use Rattle.integers.proofs.Totals.{total_push}

-- Reading a list at each of its places gives the list.
pub map_places : {X Y : Type 0} (f : X → Y) (xs : List X) (n : ℕ) (d : X) → length xs ≡ n → map (λ k. f (get_or xs k d)) (range_with_len 0 n) ≡ map f xs
map_places f xs n d long = sym (fill_by_all (λ k. f (get_or xs k d)) (map f xs) n (f d) (length-map xs f ∙ long) (λ k h. get_or-map f xs k d (f d) (omega arith)))

pub map_map : {X Y Z : Type 0} (g : Y → Z) (f : X → Y) (xs : List X) → map g (map f xs) ≡ map (λ x. g (f x)) xs
map_map g f [] = refl
map_map g f (x ∷ xs) = ap (λ ys. g (f x) ∷ ys) (map_map g f xs)

module _ {X : Type 0} where
  pub total_plus : (f g : X → ℤ) (xs : List X) → total_of (map (λ x. f x +ℤ g x) xs) ≡ total_of (map f xs) +ℤ total_of (map g xs)
  total_plus f g [] = refl
  total_plus f g (x ∷ xs) = omega (arith, ints, total_plus f g xs)

  pub total_minus : (f g : X → ℤ) (xs : List X) → total_of (map (λ x. f x -ℤ g x) xs) ≡ total_of (map f xs) -ℤ total_of (map g xs)
  total_minus f g [] = refl
  total_minus f g (x ∷ xs) = omega (arith, ints, total_minus f g xs)

  pub size_minus : (f g : X → ℤ) (xs : List X) → size_of (map (λ x. f x -ℤ g x) xs) ≤ size_of (map f xs) + size_of (map g xs)
  size_minus f g [] = omega arith
  size_minus f g (x ∷ xs) = omega (arith, ints, size_minus f g xs, sum_by-cons unsigned_abs (f x -ℤ g x) (map (λ x. f x -ℤ g x) xs), sum_by-cons unsigned_abs (f x) (map f xs), sum_by-cons unsigned_abs (g x) (map g xs))

  pub total_none : (xs : List X) → total_of (map (λ _. pos 0) xs) ≡ pos 0
  total_none [] = refl
  total_none (x ∷ xs) = omega (arith, ints, total_none xs)

  -- Numbers that are not negative.
  pub total_pos : (f : X → ℕ) (xs : List X) → total_of (map (λ x. pos (f x)) xs) ≡ pos (sum_by f xs)
  total_pos f [] = refl
  total_pos f (x ∷ xs) = omega (arith, ints, total_pos f xs, sum_by-cons f x xs)

  pub size_pos : (f : X → ℕ) (xs : List X) → size_of (map (λ x. pos (f x)) xs) ≡ sum_by f xs
  size_pos f [] = refl
  size_pos f (x ∷ xs) = omega (arith, size_pos f xs, sum_by-cons f x xs, sum_by-cons unsigned_abs (pos (f x)) (map (λ x. pos (f x)) xs))

  -- And the same with a minus sign.
  pub total_neg : (f : X → ℕ) (xs : List X) → neg_ℤ (total_of (map (λ x. neg_ℤ (pos (f x))) xs)) ≡ pos (sum_by f xs)
  total_neg f [] = refl
  total_neg f (x ∷ xs) = omega (arith, ints, total_neg f xs, sum_by-cons f x xs)

  pub sumBy_plus : (f g : X → ℕ) (xs : List X) → sum_by (λ x. f x + g x) xs ≡ sum_by f xs + sum_by g xs
  sumBy_plus f g [] = omega arith
  sumBy_plus f g (x ∷ xs) = omega (arith, sumBy_plus f g xs, sum_by-cons f x xs, sum_by-cons g x xs, sum_by-cons (λ x. f x + g x) x xs)

  -- Each at most so many times another.
  pub sumBy_times : (c : ℕ) (f g : X → ℕ) (xs : List X) → ((x : X) → f x ≤ c * g x) → sum_by f xs ≤ c * sum_by g xs
  sumBy_times c f g [] h = omega arith
  sumBy_times c f g (x ∷ xs) h = omega (arith, sumBy_times c f g xs h, sum_by-cons f x xs, h x, ap (λ n. c * n) (sum_by-cons g x xs))

-- What stands at some places in turn is at most all that stands from the first of them on.
pub places_at_most : (xs : List ℕ) (a n : ℕ) → sum_by (λ k. get_or xs k 0) (range_with_len a n) ≤ sum (drop a xs)
places_at_most xs a zero = omega arith
places_at_most xs a (suc n) =
    let first = sum_by-cons (λ k. get_or xs k 0) a (range_with_len (a + 1) n) in
    let rest = places_at_most xs (a + 1) n in
    ⊎_elim
    (λ inside. omega (arith, first, rest, sum_by-drop_more (λ x. x) xs a 0 inside))
    (λ past. omega (arith, first, rest, get_or_past xs a 0 past, ap sum (drop_all (a + 1) xs (omega arith))))
    (cases_lt a (length xs))

-- What stands from a place on, read place by place.
pub map-drop : {X Y : Type 0} (f : X → Y) (g : ℕ → Y) (xs : List X) (d : X) (a n : ℕ) → n ≡ length xs - a → ((k : ℕ) → k < length xs → f (get_or xs k d) ≡ g k) → map f (drop a xs) ≡ map g (range_with_len a n)
map-drop f g xs d a zero e same = ap (map f) (drop_all a xs (omega arith))
map-drop f g xs d a (suc n) e same =
    let one : drop a xs ≡ get_or xs a d ∷ drop (a + 1) xs = rw add-one (drop-cons xs a d (omega arith)) in
    ap (map f) one ∙ (λ j. same a (omega arith) j ∷ map-drop f g xs d (a + 1) n (omega arith) same j)

pub sumBy_map : {X Y : Type 0} (g : Y → ℕ) (f : X → Y) (xs : List X) → sum_by g (map f xs) ≡ sum_by (λ x. g (f x)) xs
sumBy_map g f [] = refl
sumBy_map g f (x ∷ xs) = sum_by-cons g (f x) (map f xs) ∙ ap (λ n. g (f x) + n) (sumBy_map g f xs) ∙ sym (sum_by-cons (λ x. g (f x)) x xs)

pub total_more : {X : Type 0} (f : X → ℤ) (xs : List X) (i : ℕ) (d : X) → i < length xs → total_of (map f (take (i + 1) xs)) ≡ total_of (map f (take i xs)) +ℤ f (get_or xs i d)
total_more f xs i d inside = ap total_of (map_more f xs i d inside) ∙ total_push (map f (take i xs)) (f (get_or xs i d))

-- One more place is written of a list that is made place by place.
pub take-set-places : {X : Type 0} (f : ℕ → X) (written : List X) (k : ℕ) (value : X) → k < length written → value ≡ f k → take k written ≡ map f (range_with_len 0 k)
    → take (k + 1) (set written k value) ≡ map f (range_with_len 0 (k + 1))
take-set-places f written k value room here before = take_more_set written k value room ∙ (λ j. before j ++ here j ∷ []) ∙ sym (map-range_with_len_more f 0 k k (omega arith))

-- Lists made place by place are the same where they are the same at each place.
pub same_places : {X : Type 0} (f g : ℕ → X) (n : ℕ) → ((k : ℕ) → k < n → f k ≡ g k) → map f (range_with_len 0 n) ≡ map g (range_with_len 0 n)
same_places f g n same = fill_by_all g (map f (range_with_len 0 n)) n (f 0) (length-map-range_with_len f 0 n) (λ k inside. get_or-map-range_with_len f 0 n k k (f 0) inside (omega arith) ∙ same k inside)
