-- Sums and differences that fit their type, and the steps of a signed sum.
use Rattle.std.proofs.Common.{◌≡◌, ℕ, ◌+◌, ◌*◌, ◌≤◌, ℤ, ◌+ℤ◌, ◌-ℤ◌, neg_ℤ, unsigned_abs, arith, w64, SFits}
use Rattle.std.proofs.lemmas.Int.{ints}

pub fits : (z : ℤ) (n : ℕ) → unsigned_abs z ≤ n → n ≤ 9000000000000000000 → SFits w64 z
fits z n h k = omega (arith, ints)

pub size_plus : (x y : ℤ) (m n : ℕ) → unsigned_abs x ≤ m → unsigned_abs y ≤ n → unsigned_abs (x +ℤ y) ≤ m + n
size_plus x y m n h k = omega (arith, ints)

-- One more number taken off what is minus a sum.
pub less_more : (x z t next : ℤ) → x ≡ neg_ℤ t → next ≡ t +ℤ z → x -ℤ z ≡ neg_ℤ next
less_more x z t next e f = omega (arith, ints)

pub size_more : (x z : ℤ) (i most : ℕ) → unsigned_abs x ≤ i * most → unsigned_abs z ≤ most → unsigned_abs (x -ℤ z) ≤ (i + 1) * most
size_more x z i most h k = omega (arith, ints)
