-- How large the parts of a total can be, from the laws of every sharing rule.
use Rattle.std.proofs.Common.{◌≡◌, ℕ, suc, ◌+◌, ◌*◌, ◌<◌, ◌≤◌, List, [], ◌∷◌, map, length, ℤ, pos, negsuc, ◌+ℤ◌, ◌*ℤ◌, unsigned_abs, ◌≤ℤ◌, ◌<ℤ◌, sum_by, refl, ap, ◌∙◌, subst, ⊎_elim, mul-le-mul_right, mul-le-mul_left, le_of_mul-le-mul_right, arith}
use Rattle.std.proofs.lemmas.Int.{ints}
use Rattle.std.proofs.lemmas.List.{length-map}
use Rattle.std.proofs.lemmas.List.Sums.{sum_by-cons}
use Rattle.std.proofs.lemmas.Bool.{cases_lt}
use Rattle.integers.specs.Totals.{total_of, size_of}
use Rattle.std.proofs.lemmas.Int.{unsigned_abs-mul}
use Rattle.sharing.specs.Shares.{Fair, nth}
use Rattle.statement.proofs.Lists.{total_pos}

-- A number of at least 1 is its size.
whole_is : (w : ℤ) → pos 1 ≤ℤ w → w ≡ pos (unsigned_abs w)
whole_is (pos n) h = refl
whole_is (negsuc n) h = absurd h.le

apart : (p t : ℤ) (P T W : ℕ) → unsigned_abs p ≡ P → unsigned_abs t ≡ T → p <ℤ (t +ℤ pos W) → t <ℤ (p +ℤ pos W) → P < T + W
apart p t P T W e f h k = omega (arith, ints)

module _ (total : ℤ) (weights parts : List ℤ) (some : pos 1 ≤ℤ total_of weights) (fair : Fair total weights parts) (k : ℕ) (inside : k < length weights) where
  -- The second law without signs.
  pub part_near : unsigned_abs (nth parts k) * unsigned_abs (total_of weights) < unsigned_abs total * unsigned_abs (nth weights k) + unsigned_abs (total_of weights)
  part_near =
      let is : total_of weights ≡ pos (unsigned_abs (total_of weights)) = whole_is (total_of weights) some in
      apart (nth parts k *ℤ total_of weights) (total *ℤ nth weights k) (unsigned_abs (nth parts k) * unsigned_abs (total_of weights)) (unsigned_abs total * unsigned_abs (nth weights k)) (unsigned_abs (total_of weights))
      (unsigned_abs-mul (nth parts k) (total_of weights)) (unsigned_abs-mul total (nth weights k))
      (subst (λ (w : ℤ). (nth parts k *ℤ total_of weights) <ℤ (total *ℤ nth weights k +ℤ w)) is (fair.not_above k inside))
      (subst (λ (w : ℤ). (total *ℤ nth weights k) <ℤ (nth parts k *ℤ total_of weights +ℤ w)) is (fair.not_below k inside))

  -- A part is at most as large as the total times its weight.
  pub part_small : unsigned_abs (nth parts k) ≤ unsigned_abs total * unsigned_abs (nth weights k)
  part_small = bound (unsigned_abs (nth parts k)) (unsigned_abs total * unsigned_abs (nth weights k)) (unsigned_abs (total_of weights)) (at_least (total_of weights) some) part_near
    where
      at_least : (w : ℤ) → pos 1 ≤ℤ w → 1 ≤ unsigned_abs w
      at_least w h = omega (arith, ints)

      bound : (P X V : ℕ) → 1 ≤ V → P * V < X + V → P ≤ X
      bound P X V v h =
          ⊎_elim
          (λ above. absurd (omega (arith, h, mul-le-mul_right V above, mul-le-mul_left X v)))
          (λ under. under)
          (cases_lt X P)

sizes : {A : Type 0} (f : A → ℕ) (T W : ℕ) (xs : List A) (ps : List ℤ) → length ps ≡ length xs
    → ((k : ℕ) → k < length xs → unsigned_abs (nth ps k) * W ≤ T * unsigned_abs (nth (map (λ x. pos (f x)) xs) k) + W) → size_of ps * W ≤ T * sum_by f xs + length xs * W
sizes f T W [] [] e h = omega arith
sizes f T W [] (p ∷ ps) e h = absurd (omega arith)
sizes f T W (x ∷ xs) [] e h = absurd (omega arith)
sizes f T W (x ∷ xs) (p ∷ ps) e h =
    let rest = sizes f T W xs ps (omega arith) (λ k l. h (suc k) (omega arith)) in
    let one = h 0 (omega arith) in
    omega (arith, rest, one, ap (λ n. T * n) (sum_by-cons f x xs), ap (λ n. n * W) (sum_by-cons unsigned_abs p ps))

-- Parts by weights that are not negative have sizes that add up to at most the size of the total and one unit for each member.
pub sizes_small : {A : Type 0} (f : A → ℕ) (xs : List A) (total : ℤ) (parts : List ℤ) → 1 ≤ sum_by f xs → Fair total (map (λ x. pos (f x)) xs) parts → size_of parts ≤ unsigned_abs total + length xs
sizes_small f xs total parts some fair =
    let weights = map (λ x. pos (f x)) xs in
    let long : length weights ≡ length xs = length-map xs (λ x. pos (f x)) in
    let is : total_of weights ≡ pos (sum_by f xs) = total_pos f xs in
    let W : unsigned_abs (total_of weights) ≡ sum_by f xs = ap unsigned_abs is in
    let each : (k : ℕ) → k < length xs → unsigned_abs (nth parts k) * sum_by f xs ≤ unsigned_abs total * unsigned_abs (nth weights k) + sum_by f xs =
    λ k inside. omega (arith, part_near total weights parts (omega (arith, ints, is, some)) fair k (omega arith), W, ap (λ n. unsigned_abs (nth parts k) * n) W)
    in
    let all = sizes f (unsigned_abs total) (sum_by f xs) xs parts (fair.one_each ∙ long) each in
    le_of_mul-le-mul_right {m = size_of parts} {n = unsigned_abs total + length xs} {k = sum_by f xs} (omega (arith, all)) some
