-- The text of an amount, by its sign and its size.
use Rattle.std.proofs.Common.{◌≡◌, ◌+◌, ◌/◌, ◌%◌, ◌++◌, length, ℤ, pos, negsuc, nat_abs, codes, decimal, refl, ap, arith, length-append}
use Rattle.std.proofs.lemmas.Bool.{le-ltb}
use Rattle.std.proofs.lemmas.Fmt.{decimal_digit}
use Rattle.std.specs.Fmt.{sign_text}
use Rattle.std.specs.Int.{is_negative}
use Rattle.text.specs.Texts.{grouped_by, most_groups, size_text, dollars_text}

pub amount_written : (z : ℤ) → (sign_text (is_negative z) ++ codes "$") ++ size_text (nat_abs z) ≡ dollars_text z
amount_written (pos cents) = rw (le-ltb cents 0 (omega arith)) refl
amount_written (negsuc cents) = refl

-- How long the text of an amount is: its sign with the dollar sign, the dollars, and three characters more.
pub length-amount : (z : ℤ) → length (dollars_text z) ≡ length (sign_text (is_negative z) ++ codes "$") + length (grouped_by most_groups (nat_abs z / 100)) + 3
length-amount z =
    let size = nat_abs z in
    let last : length (decimal (size / 10 % 10) ++ decimal (size % 10)) ≡ 2 = ap length (λ j. decimal_digit (size / 10 % 10) (omega arith) j ++ decimal_digit (size % 10) (omega arith) j) in
    omega (
      arith,
      ap length (amount_written z),
      length-append (sign_text (is_negative z) ++ codes "$") (size_text size),
      length-append (grouped_by most_groups (size / 100)) (codes "." ++ (decimal (size / 10 % 10) ++ decimal (size % 10))),
      last,
    )
