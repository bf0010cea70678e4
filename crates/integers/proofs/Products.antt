-- Products of signed numbers.
use Rattle.std.proofs.Common.{◌≡◌, ◌+◌, ◌*◌, ℤ, ◌+ℤ◌, ◌-ℤ◌, ◌*ℤ◌, ap, arith}
use Rattle.std.proofs.lemmas.Int.{ints}
use borrow.Author.Differences.{up, down, same_in, sum_is_lem, product_is}

pub mul_add : (a b c : ℤ) → a *ℤ (b +ℤ c) ≡ a *ℤ b +ℤ a *ℤ c
mul_add a b c = omega (arith, ints, ap (λ n. up a * n) (sum_is_lem b c), ap (λ n. down a * n) (sum_is_lem b c))

pub mul_sub : (a b c : ℤ) → a *ℤ (b -ℤ c) ≡ a *ℤ b -ℤ a *ℤ c
mul_sub a b c =
    let back : b ≡ (b -ℤ c) +ℤ c = omega (arith, ints) in
    omega (arith, ints, ap (λ z. a *ℤ z) back, mul_add a (b -ℤ c) c)

pub mul_assoc : (a b c : ℤ) → (a *ℤ b) *ℤ c ≡ a *ℤ (b *ℤ c)
mul_assoc a b c = same_in _ _ (simp (up_mul, down_mul) (omega arith))
  where
    up_mul : (x y : ℤ) → up (x *ℤ y) ≡ up x * up y + down x * down y
    up_mul x y = (product_is x y).0

    down_mul : (x y : ℤ) → down (x *ℤ y) ≡ up x * down y + down x * up y
    down_mul x y = (product_is x y).1
