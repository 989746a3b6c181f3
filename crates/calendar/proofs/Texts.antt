-- What `{:02}` writes.
use Rattle.std.proofs.Common.{◌≡◌, ℕ, ◌+◌, ◌/◌, ◌%◌, ◌^◌, ◌-◌, ◌<◌, ◌≤◌, false, [], ◌∷◌, ◌++◌, inl, inr, decimal, ap, ◌∙◌, arith}
use Rattle.std.specs.Fmt.{padded_integral, format_spec, char_count, styled_decimal}
use Rattle.std.proofs.lemmas.Fmt.{decimal_digit, decimal_step}
use Rattle.std.proofs.lemmas.Bool.{cases_order}
use Rattle.calendar.specs.Dates.{two_digits}

-- numbers of two and of three digits
of_two : (n : ℕ) → 10 ≤ n → n < 100 → decimal n ≡ (48 + n / 10) ∷ (48 + n % 10) ∷ []
of_two n l u = decimal_step n l (omega arith) ∙ ap (λ d. d ++ ((48 + n % 10) ∷ [])) (decimal_digit (n / 10) (omega arith))

of_three : (n : ℕ) → 100 ≤ n → n < 1000 → decimal n ≡ (48 + n / 10 / 10) ∷ (48 + n / 10 % 10) ∷ (48 + n % 10) ∷ []
of_three n l u = decimal_step n (omega arith) (omega arith) ∙ ap (λ d. d ++ ((48 + n % 10) ∷ [])) (of_two (n / 10) (omega arith) (omega arith))

padded : (n : ℕ) → n < 256 → padded_integral (format_spec 32 0 4 2 (2 ^ 64 - 1)) false [] (decimal n) ≡ two_digits n
unfolding padded_integral char_count
padded n small =
    elim (cases_order n 10) [
      | inl ten ↦ rw (of_two n (omega arith) (omega arith), decimal_digit (n / 10) (omega arith), decimal_digit (n % 10) (omega arith))
      | inr (inl one) ↦ let high : n / 10 ≡ 0 = omega arith in let low : n % 10 ≡ n = omega arith in rw (decimal_digit n one, high, low, decimal_digit 0 (omega arith), decimal_digit n one)
      | inr (inr more) ↦ elim (cases_order n 100) [
        | inl hundred ↦ rw (of_three n (omega arith) (omega arith), of_two (n / 10) (omega arith) (omega arith), decimal_digit (n % 10) (omega arith))
        | inr (inl two) ↦ rw (of_two n (omega arith) (omega arith), decimal_digit (n / 10) (omega arith), decimal_digit (n % 10) (omega arith))
        | inr (inr three) ↦ rw (of_three n (omega arith) (omega arith), of_two (n / 10) (omega arith) (omega arith), decimal_digit (n % 10) (omega arith))
      ]
    ]

pub styled_is_two_digits : (s : _) (n : ℕ) → s ≡ format_spec 32 0 4 2 (2 ^ 64 - 1) → n < 256 → styled_decimal s n ≡ two_digits n
styled_is_two_digits s n e small = rw e (padded n small)
