-- Quotients rounded toward minus infinity, and their remainders, by a divisor of at least 1.
use Rattle.std.proofs.Common.{◌≡◌, ℕ, ◌*◌, ◌<◌, ◌≤◌, ℤ, pos, negsuc, ◌+ℤ◌, ◌*ℤ◌, unsigned_abs, ◌≤ℤ◌, ◌<ℤ◌, refl, mul-le-mul_left, arith}
use Rattle.std.proofs.lemmas.Int.{by_lt_z, ints}
use Rattle.std.specs.Int.{int_div_euclid, int_rem_euclid}
-- From below the library's own modules, here and in Products, since it has these under no other name.
use borrow.Author.Differences.{lt_out}

-- A number is its quotient times the divisor and its remainder, which is below the divisor.
pub euclid : (a b : ℤ) → pos 1 ≤ℤ b → b *ℤ int_div_euclid a b +ℤ pos (unsigned_abs (int_rem_euclid a b)) ≡ a
euclid a (negsuc b) positive = absurd positive.le
euclid (pos a) (pos b) positive = omega (arith, ints)
euclid (negsuc a) (pos b) positive = omega (arith, ints)

pub euclid_under : (a b : ℤ) → pos 1 ≤ℤ b → unsigned_abs (int_rem_euclid a b) < unsigned_abs b
euclid_under a (negsuc b) positive = absurd positive.le
euclid_under (pos a) (pos b) positive = omega (arith, ints)
euclid_under (negsuc a) (pos b) positive = omega (arith, ints)

pub euclid_none : (b : ℤ) → pos 1 ≤ℤ b → (int_div_euclid (pos 0) b ≡ pos 0) × (unsigned_abs (int_rem_euclid (pos 0) b) ≡ 0)
euclid_none (pos b) positive = omega (arith, ints)
euclid_none (negsuc b) positive = absurd positive.le

pub floor_low : (a b : ℤ) → pos 1 ≤ℤ b → (b *ℤ int_div_euclid a b) ≤ℤ a
floor_low a b positive = omega (arith, ints, euclid a b positive)

pub floor_high : (a b : ℤ) → pos 1 ≤ℤ b → a <ℤ (b *ℤ int_div_euclid a b +ℤ b)
floor_high a b positive = omega (arith, ints, euclid a b positive, euclid_under a b positive)

pub floor_size : (a b : ℤ) → pos 1 ≤ℤ b → unsigned_abs (int_div_euclid a b) ≤ unsigned_abs a
floor_size a (negsuc b) positive = absurd positive.le
floor_size (pos a) (pos b) positive = omega arith
floor_size (negsuc a) (pos b) positive = omega arith

-- Where b times x lies less than b above b times y, x is at most y.
pub cancel : (b x y : ℤ) → pos 1 ≤ℤ b → (b *ℤ x) <ℤ (b *ℤ y +ℤ b) → x ≤ℤ y
cancel (negsuc b) x y positive less = absurd positive.le
cancel (pos b) x y positive less = by_lt_z y x (λ above. absurd (omega (arith, ints, mul-le-mul_left b (lt_out y x above)))) (λ within. within)

-- No other number is the quotient.
pub floor_is : (a b q : ℤ) → pos 1 ≤ℤ b → (b *ℤ q) ≤ℤ a → a <ℤ (b *ℤ q +ℤ b) → int_div_euclid a b ≡ q
floor_is a b q positive low high =
    let low' = floor_low a b positive in
    let high' = floor_high a b positive in
    omega (arith, ints, cancel b (int_div_euclid a b) q positive (omega (arith, ints)), cancel b q (int_div_euclid a b) positive (omega (arith, ints)))

-- A product that is not negative, with a factor above 0, has a second factor that is not negative.
pub other_factor : (b d : ℤ) (r : ℕ) → pos 1 ≤ℤ b → b *ℤ d ≡ pos r → (d ≡ pos (unsigned_abs d)) × (unsigned_abs b * unsigned_abs d ≡ r)
other_factor (negsuc b) d r positive e = absurd positive.le
other_factor (pos b) (pos d) r positive e = (refl, omega (arith, ints))
other_factor (pos b) (negsuc d) r positive e = absurd (omega (arith, ints))
