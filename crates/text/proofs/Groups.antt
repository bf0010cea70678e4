-- Numbers in groups of three digits.
use Rattle.std.proofs.Common.{◌≡◌, ℕ, zero, suc, ◌+◌, ◌*◌, ◌/◌, ◌%◌, ◌^◌, ◌<◌, ◌≤◌, Bool, not, eqb, [], ◌∷◌, ◌++◌, length, codes, decimal, sym, ap, ◌∙◌, ⊎_elim, append_assoc, arith, lit<, length-append}
use Rattle.std.proofs.lemmas.Fmt.{decimal_digit, decimal_step, decimal_by_steps, decimal_nonempty, length-decimal-le}
use Rattle.std.proofs.lemmas.List.Elements.{filter-append}
use Rattle.std.proofs.lemmas.Bool.{cases_lt, cond-true, cond-false, lt-ltb, le-ltb, ne_eqb, not_from_false}
use Rattle.text.specs.Texts.{three_digits, grouped_by, most_groups, without_commas, GroupsLoseNothing}

three_listed : (number : ℕ) → three_digits number ≡ (48 + number / 100 % 10) ∷ (48 + number / 10 % 10) ∷ (48 + number % 10) ∷ []
three_listed number = λ j. decimal_digit (number / 100 % 10) (omega arith) j ++ (decimal_digit (number / 10 % 10) (omega arith) j ++ decimal_digit (number % 10) (omega arith) j)

-- A number of four digits and more is its front and its last three digits.
last_three : (number : ℕ) → 1000 ≤ number → number < 2 ^ 64 → decimal number ≡ decimal (number / 1000) ++ three_digits number
last_three number large fits =
    let e : number / 10 / 10 / 10 ≡ number / 1000 = omega arith in
    let f : number / 10 / 10 % 10 ≡ number / 100 % 10 = omega arith in
    let x = 48 + number / 100 % 10 in
    let y = 48 + number / 10 % 10 in
    let z = 48 + number % 10 in
    let front = decimal (number / 1000) in
    decimal_step number (omega arith) fits
    ∙ ap (λ ds. ds ++ z ∷ [])
    (decimal_step (number / 10) (omega arith) (omega arith)
    ∙ ap (λ ds. ds ++ y ∷ []) (decimal_step (number / 10 / 10) (omega arith) (omega arith) ∙ (λ j. decimal (e j) ++ (48 + f j) ∷ [])))
    ∙ append_assoc (front ++ x ∷ []) (y ∷ []) (z ∷ [])
    ∙ append_assoc front (x ∷ []) (y ∷ z ∷ [])
    ∙ sym (ap (λ ds. front ++ ds) (three_listed number))

length-decimal : (number : ℕ) → 1000 ≤ number → number < 2 ^ 64 → length (decimal number) ≡ length (decimal (number / 1000)) + 3
length-decimal number large fits = ap length (last_three number large fits) ∙ length-append (decimal (number / 1000)) (three_digits number) ∙ ap (λ ds. length (decimal (number / 1000)) + length ds) (three_listed number)

one_group : (groups number : ℕ) → number < 1000 → grouped_by (suc groups) number ≡ decimal number
unfolding grouped_by
one_group groups number small = cond-true _ _ _ (lt-ltb number 1000 small)

more_groups : (groups number : ℕ) → 1000 ≤ number → grouped_by (suc groups) number ≡ grouped_by groups (number / 1000) ++ (codes "," ++ three_digits number)
unfolding grouped_by
more_groups groups number large = cond-false _ _ _ (le-ltb number 1000 large)

-- Room for one more group changes nothing where the number has no more.
room_unused : (groups number : ℕ) → number < 2 ^ 64 → length (decimal number) ≤ 3 * groups → grouped_by (suc groups) number ≡ grouped_by groups number
room_unused zero number fits few = absurd (omega (arith, decimal_nonempty number fits))
room_unused (suc groups) number fits few =
    ⊎_elim
    (λ small. one_group (suc groups) number small ∙ sym (one_group groups number small))
    (λ large.
    let front = room_unused groups (number / 1000) (omega arith) (omega (arith, length-decimal number large fits)) in
    more_groups (suc groups) number large
    ∙ ap (λ ds. ds ++ (codes "," ++ three_digits number)) front
    ∙ sym (more_groups groups number large))
    (cases_lt number 1000)

-- What is written of a number below 1000, and of any other.
pub small_written : (number : ℕ) → number < 1000 → grouped_by most_groups number ≡ decimal number
small_written = one_group 6

pub large_written : (number : ℕ) → 1000 ≤ number → number < 2 ^ 64 → grouped_by most_groups number ≡ grouped_by most_groups (number / 1000) ++ (codes "," ++ three_digits number)
large_written number large fits =
    let few = length-decimal-le 18 (number / 1000) (omega arith) (omega arith) (omega arith) in
    more_groups 6 number large ∙ sym (ap (λ ds. ds ++ (codes "," ++ three_digits number)) (room_unused 6 (number / 1000) (omega arith) few))

-- How long a number of one, two or three digits is, and any other.
length-digits : (number : ℕ) → 10 ≤ number → number < 2 ^ 64 → length (decimal number) ≡ length (decimal (number / 10)) + 1
length-digits number some fits = ap length (decimal_step number some fits) ∙ length-append (decimal (number / 10)) ((48 + number % 10) ∷ [])

pub length-one_digit : (number : ℕ) → number < 10 → length (grouped_by most_groups number) ≡ 1
length-one_digit number small = ap length (small_written number (omega arith) ∙ decimal_digit number small)

pub length-two_digits : (number : ℕ) → 10 ≤ number → number < 100 → length (grouped_by most_groups number) ≡ 2
length-two_digits number some small =
    omega (arith, ap length (small_written number (omega arith)), length-digits number some (omega arith), ap length (decimal_digit (number / 10) (omega arith)))

pub length-three_digits : (number : ℕ) → 100 ≤ number → number < 1000 → length (grouped_by most_groups number) ≡ 3
length-three_digits number some small =
    omega (arith, ap length (small_written number small), length-digits number (omega arith) (omega arith), length-digits (number / 10) (omega arith) (omega arith), ap length (decimal_digit (number / 10 / 10) (omega arith)))

pub length-more_groups : (number : ℕ) → 1000 ≤ number → number < 2 ^ 64 → length (grouped_by most_groups number) ≡ length (grouped_by most_groups (number / 1000)) + 4
length-more_groups number large fits =
    omega (arith, ap length (large_written number large fits), length-append (grouped_by most_groups (number / 1000)) (codes "," ++ three_digits number), ap length (three_listed number))

-- No number is longer than its groups, each with a comma.
pub length-groups-le : (groups number : ℕ) → number < 2 ^ 64 → length (grouped_by groups number) ≤ 4 * groups
unfolding grouped_by
length-groups-le zero number fits = omega arith
length-groups-le (suc groups) number fits =
    ⊎_elim
    (λ small. omega (arith, ap length (one_group groups number small), length-decimal-le 3 number (lit< tt) small fits))
    (λ large. omega (arith, ap length (more_groups groups number large), length-append (grouped_by groups (number / 1000)) (codes "," ++ three_digits number), ap length (three_listed number), length-groups-le groups (number / 1000) (omega arith)))
    (cases_lt number 1000)

-- The digits of a number hold no comma.
abbrev no_comma : ℕ → Bool
no_comma byte = not (eqb byte 44)

digit_kept : (d : ℕ) → without_commas ((48 + d) ∷ []) ≡ (48 + d) ∷ []
digit_kept d = cond-true _ _ _ (not_from_false _ (ne_eqb (48 + d) 44 (λ e. omega arith)))

digits_kept : (number : ℕ) → number < 2 ^ 64 → without_commas (decimal number) ≡ decimal number
digits_kept number fits = decimal_by_steps (λ n ds. without_commas ds ≡ ds) (λ n h. digit_kept n) (λ n ds h so_far. filter-append no_comma ds _ ∙ (λ j. so_far j ++ digit_kept (n % 10) j)) number fits

three_kept : (number : ℕ) → without_commas (three_digits number) ≡ three_digits number
three_kept number =
    let hundreds = number / 100 % 10 in
    let tens = number / 10 % 10 in
    let ones = number % 10 in
    let last : without_commas (decimal tens ++ decimal ones) ≡ decimal tens ++ decimal ones = filter-append no_comma (decimal tens) (decimal ones) ∙ (λ j. digits_kept tens (omega arith) j ++ digits_kept ones (omega arith) j) in
    filter-append no_comma (decimal hundreds) (decimal tens ++ decimal ones) ∙ (λ j. digits_kept hundreds (omega arith) j ++ last j)

lose_nothing : (groups number : ℕ) → number < 2 ^ 64 → length (decimal number) ≤ 3 * groups → without_commas (grouped_by groups number) ≡ decimal number
lose_nothing zero number fits few = absurd (omega (arith, decimal_nonempty number fits))
lose_nothing (suc groups) number fits few =
    ⊎_elim
    (λ small. ap without_commas (one_group groups number small) ∙ digits_kept number fits)
    (λ large.
    let front = lose_nothing groups (number / 1000) (omega arith) (omega (arith, length-decimal number large fits)) in
    ap without_commas (more_groups groups number large)
    ∙ filter-append no_comma (grouped_by groups (number / 1000)) (codes "," ++ three_digits number)
    ∙ (λ j. front j ++ three_kept number j)
    ∙ sym (last_three number large fits))
    (cases_lt number 1000)

pub groups_lose_nothing : GroupsLoseNothing
groups_lose_nothing number fits = lose_nothing most_groups number fits (omega (arith, length-decimal-le 20 number (lit< tt) (omega arith) fits))
