-- Days of years and of months, counted.
use Rattle.std.proofs.Common.{◌≡◌, ℕ, zero, suc, ◌+◌, ◌-◌, ◌*◌, ◌/◌, ◌%◌, ◌<◌, ◌≤◌, Bool, true, false, cond, ◌&&◌, eqb, ltb, List, get_or, sym, refl, ◌∙◌, subst, inl, inr, le_refl, add-zero, arith}
use Rattle.std.proofs.lemmas.Bool.{agree_below, agree_below_at, and_parts, cases_eq, eqb-true, false≢true}
use Rattle.std.proofs.lemmas.Bool.Decides.{nat_tests}
use Rattle.calendar.specs.Days.{leap, length_of_month, length_of_months, length_of_years}

-- from 2000 to 2099 every fourth year is a leap year
fourth : (k : ℕ) → k < 100 → leap (2000 + k) ≡ eqb (k % 4) 0
fourth k h = grind (arith, nat_tests)

pub years_closed : (k : ℕ) → k ≤ 100 → length_of_years k ≡ 365 * k + (k + 3) / 4
unfolding length_of_years
years_closed zero h = refl
years_closed (suc k) h =
    let i = years_closed k (omega arith) in
    rw (fourth k (omega arith)) (grind (arith, nat_tests))

-- What a table of days before each month has to say of the month at place i: the count in a common year, one more
-- from March on in a leap year.
abbrev pub right_at : List ℕ → ℕ → Bool
right_at table i =
    eqb (get_or table i 0) (length_of_months false i) && eqb (get_or table i 0 + cond (ltb 1 i) 1 0) (length_of_months true i)

module _ (table : List ℕ) (e : agree_below (right_at table) (λ _. true) 12 ≡ true) (k : ℕ) (h : k < 12) where
  right : (eqb (get_or table k 0) (length_of_months false k) ≡ true) × (eqb (get_or table k 0 + cond (ltb 1 k) 1 0) (length_of_months true k) ≡ true)
  right = and_parts (eqb (get_or table k 0) (length_of_months false k)) _ (agree_below_at (right_at table) (λ _. true) 12 k e h)

  pub with_leap_day : (long : Bool) → (long && ltb 1 k) ≡ true → get_or table k 0 + 1 ≡ length_of_months long k
  with_leap_day true l = subst (λ (t : Bool). get_or table k 0 + cond t 1 0 ≡ length_of_months true k) l (eqb-true _ _ right.1)
  with_leap_day false l = absurd (false≢true l)

  pub without_leap_day : (long : Bool) → (long && ltb 1 k) ≡ false → get_or table k 0 ≡ length_of_months long k
  without_leap_day true l =
      sym (add-zero (get_or table k 0)) ∙ subst (λ (t : Bool). get_or table k 0 + cond t 1 0 ≡ length_of_months true k) l (eqb-true _ _ right.1)
  without_leap_day false l = eqb-true _ _ right.0

pub more_months : (long : Bool) (m : ℕ) → 0 < m → length_of_months long m ≡ length_of_months long (m - 1) + length_of_month long m
unfolding length_of_months
more_months long zero h = absurd (omega arith)
more_months long (suc j) h = let e : suc j - 1 ≡ j = omega arith in rw e

pub all_months : (long : Bool) → length_of_months long 12 ≡ cond long 366 365
unfolding length_of_months
all_months true = refl
all_months false = refl

pub months_grow : (long : Bool) (i j : ℕ) → i ≤ j → length_of_months long i ≤ length_of_months long j
unfolding length_of_months
months_grow long i zero h = let e : i ≡ 0 = omega arith in rw e (le_refl 0)
months_grow long i (suc j) h =
    elim (cases_eq i (suc j)) [ inl same ↦ subst (λ (n : ℕ). length_of_months long n ≤ length_of_months long (suc j)) (sym same) (le_refl _) | inr other ↦ omega (arith, months_grow long i j (omega arith)) ]

pub years_grow : (i j : ℕ) → i ≤ j → j ≤ 100 → length_of_years i ≤ length_of_years j
years_grow i j h l = omega (arith, years_closed i (omega arith), years_closed j l)

-- what the table of days before each month says
pub ruleset leap_days = (with_leap_day, without_leap_day, nat_tests)
