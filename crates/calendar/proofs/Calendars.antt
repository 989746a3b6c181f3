-- Day numbers: the day after has the next number, order of days is order of numbers, and numbers and days are each
-- other's inverse.
use Rattle.std.proofs.Common.{◌≡◌, ℕ, zero, suc, ◌+◌, ◌-◌, ◌*◌, ◌/◌, ◌<◌, ◌≤◌, cond, ltb, Option, Some, None, sym, refl, ap, ◌∙◌, subst, inl, inr, arith}
use Rattle.std.proofs.lemmas.Bool.{cases_eq, cases_order, cond_both, ltb-true, ltb-false}
use Rattle.std.proofs.lemmas.Bool.Decides.{nat_tests}
use Rattle.std.specs.Option.{MatchOption, unwrap_or}
use Rattle.calendar.specs.Days.{Day, Lawful, Earlier, calendar_days, leap, month_length, length_of_months, length_of_years, days_before_year, days_before_month, day_number, day_after, day_at, DayLaws}
use Rattle.calendar.proofs.Counts.{years_closed, years_grow, more_months, all_months, months_grow}

-- the months before the next month
next_month : (year month : ℕ) → 0 < month → length_of_months (leap year) month ≡ days_before_month year month + month_length year month
unfolding days_before_month month_length
next_month year month h = more_months (leap year) month h

pub some_days : (year month : ℕ) → 28 ≤ month_length year month
unfolding month_length
some_days year month = grind (arith, nat_tests)

month_begins : (year month : ℕ) → days_before_month year (month + 1) ≡ length_of_months (leap year) month
unfolding days_before_month
month_begins year month = ap (length_of_months (leap year)) (omega arith)

pub january : (year : ℕ) → days_before_month year 1 ≡ 0
unfolding days_before_month length_of_months
january year = refl

-- a month that is the first, or that a month comes before which is over, has begun
pub month_begun : (year day : ℕ) (r : Option ℕ) → MatchOption r ((k : ℕ) → 1 ≤ k → k < 12 → days_before_month year (k + 1) ≤ day) (λ m. (1 ≤ m) × (m < 12) × (day < days_before_month year (m + 1)) × ((k : ℕ) → 1 ≤ k → k < m → days_before_month year (k + 1) ≤ day)) → days_before_month year (unwrap_or r 12) ≤ day
month_begun year day None over = over 11 (omega arith) (omega arith)
month_begun year day (Some m) (l, u, not-over, over) =
    elim (cases_eq m 1) [
      | inl first ↦ omega (arith, january year, ap (days_before_month year) first)
      | inr later ↦ let e : m - 1 + 1 ≡ m = omega arith in subst (λ (n : ℕ). days_before_month year n ≤ day) e (over (m - 1) (omega arith) (omega arith))
    ]

-- a month has its days before the next begins
pub month_over : (year month : ℕ) → 0 < month → days_before_month year (month + 1) ≡ days_before_month year month + month_length year month
month_over year month h = month_begins year month ∙ next_month year month h

pub few_days : (year month : ℕ) → month_length year month ≤ 31
unfolding month_length
few_days year month = grind (arith, nat_tests)

-- the years before the next year
pub next_year : (year : ℕ) → 2000 ≤ year → days_before_year (year + 1) ≡ days_before_year year + cond (leap year) 366 365
unfolding days_before_year length_of_years
next_year year h =
    let e : year + 1 - 2000 ≡ suc (year - 2000) = omega arith in
    let f : 2000 + (year - 2000) ≡ year = omega arith in
    rw (e, f)

from_2000 : (k : ℕ) → k ≤ 100 → days_before_year (2000 + k) ≡ 365 * k + (k + 3) / 4
unfolding days_before_year
from_2000 k h = ap length_of_years (omega arith) ∙ years_closed k h

pub whole_year : (year : ℕ) → days_before_month year 13 ≡ cond (leap year) 366 365
unfolding days_before_month
whole_year year = all_months (leap year)

-- four years have 1461 days, so 4n / 1461 years are over before the day counted n
pub year_found : (n : ℕ) → n < 36525 → (2000 + 4 * n / 1461 ≤ 2099) × (days_before_year (2000 + 4 * n / 1461) ≤ n) × (n < days_before_year (2000 + 4 * n / 1461) + days_before_month (2000 + 4 * n / 1461) 13)
year_found n h =
    let k = 4 * n / 1461 in
    let a = from_2000 k (omega arith) in
    let b = from_2000 (k + 1) (omega arith) in
    let e : days_before_year (2000 + k + 1) ≡ days_before_year (2000 + (k + 1)) = ap days_before_year (omega arith) in
    (omega arith, omega arith, omega (arith, next_year (2000 + k) (omega arith), whole_year (2000 + k)))

module _ (d : Day) (l : Lawful d) where
  in_month : days_before_month d.year d.month + (d.day - 1) < length_of_months (leap d.year) d.month
  in_month = omega (arith, next_month d.year d.month (omega arith))

  in_year : day_number d < days_before_year (d.year + 1)
  unfolding day_number
  in_year =
      omega (arith, in_month, months_grow (leap d.year) d.month 12 (omega arith), all_months (leap d.year), next_year d.year (omega arith))

  after_year : days_before_year d.year ≤ day_number d
  unfolding day_number
  after_year = omega arith

  after : day_number (day_after d) ≡ day_number d + 1
  unfolding day_number
  after =
      cond_both (ltb d.day (month_length d.year d.month)) _ _ (λ (e : Day). day_number e ≡ day_number d + 1)
      (λ t. omega arith)
      (λ f. cond_both (ltb d.month 12) _ _ (λ (e : Day). day_number e ≡ day_number d + 1)
      (λ t. omega (arith, ltb-false, month_begins d.year d.month, next_month d.year d.month (omega arith)))
      (λ g.
      let e : d.month ≡ 12 = omega (arith, ltb-false) in
      omega (arith, ltb-false, january (d.year + 1), next_year d.year (omega arith), next_month d.year d.month (omega arith), ap (length_of_months (leap d.year)) e, all_months (leap d.year))))

  -- the day after, where it is not past the last day
  pub after_lawful : day_number d + 1 < 36525 → Lawful (day_after d)
  unfolding day_number days_before_year
  after_lawful h =
      cond_both (ltb d.day (month_length d.year d.month)) _ _ (λ (e : Day). Lawful e)
      (λ t. omega (arith, ltb-true))
      (λ f. cond_both (ltb d.month 12) _ _ (λ (e : Day). Lawful e)
      (λ t. omega (arith, ltb-true, some_days d.year (d.month + 1)))
      (λ g.
      let e : d.month ≡ 12 = omega (arith, ltb-false) in
      omega (arith, ltb-false, next_year d.year (omega arith), next_month d.year d.month (omega arith), ap (length_of_months (leap d.year)) e, all_months (leap d.year), years_closed (d.year + 1 - 2000) (omega arith), some_days (d.year + 1) 1)))

  below : day_number d < 36525
  unfolding days_before_year
  below = omega (arith, in_year, years_grow (d.year + 1 - 2000) 100 (omega arith) (omega arith), years_closed 100 (omega arith))

-- the order of days is that of their numbers
earlier : (d e : Day) → Lawful d → Lawful e → Earlier d e → day_number d < day_number e
unfolding day_number days_before_month days_before_year
earlier d e l m (inl y) =
    omega (arith, in_year d l, after_year e m, years_grow (d.year + 1 - 2000) (e.year - 2000) (omega arith) (omega arith))
earlier d e l m (inr (y, inl h)) =
    omega (arith, in_month d l, months_grow (leap d.year) d.month (e.month - 1) (omega arith), ap days_before_year y, ap (λ (n : ℕ). days_before_month n e.month) y)
earlier d e l m (inr (y, inr (h, k))) =
    omega (arith, ap days_before_year y, ap (λ (n : ℕ). days_before_month n d.month) y, ap (days_before_month e.year) h)

made : ℕ → ℕ → ℕ → Day
made y m k = record { year = y; month = m; day = k }

same_days : (d e : Day) → d.year ≡ e.year → d.month ≡ e.month → d.day ≡ e.day → d ≡ e
unfolding made
same_days d e y m k = ap (λ (n : ℕ). made n d.month d.day) y ∙ ap (λ (n : ℕ). made e.year n d.day) m ∙ ap (made e.year e.month) k

-- two days are in order, or the same
pub by_order : {P : Type 0} (d e : Day) → (Earlier d e → P) → (Earlier e d → P) → (d ≡ e → P) → P
by_order d e p q r =
    elim (cases_order d.year e.year) [
      | inl y ↦ elim (cases_order d.month e.month) [
        | inl m ↦ elim (cases_order d.day e.day) [
          | inl k ↦ r (same_days d e y m k)
          | inr (inl k) ↦ p (inr (y, inr (m, k)))
          | inr (inr k) ↦ q (inr (sym y, inr (sym m, k)))
        ]
        | inr (inl m) ↦ p (inr (y, inl m))
        | inr (inr m) ↦ q (inr (sym y, inl m))
      ]
      | inr (inl y) ↦ p (inl y)
      | inr (inr y) ↦ q (inl y)
    ]

same : (d e : Day) → Lawful d → Lawful e → day_number d ≡ day_number e → d ≡ e
same d e l m h =
    by_order d e (λ p. absurd (omega (arith, earlier d e l m p))) (λ p. absurd (omega (arith, earlier e d m l p))) (λ p. p)

numbers_earlier : (d e : Day) → Lawful d → Lawful e → day_number d < day_number e → Earlier d e
numbers_earlier d e l m h =
    by_order d e (λ p. p) (λ p. absurd (omega (arith, earlier e d m l p))) (λ p. absurd (omega (arith, ap day_number p)))

-- counting on from 2000-01-01 one comes to a lawful day with that number
counted : (n : ℕ) → n < 36525 → Lawful (day_at n) × (day_number (day_at n) ≡ n)
unfolding day_at day_number days_before_year days_before_month length_of_years length_of_months
counted zero h = (omega (arith, some_days 2000 1), refl)
counted (suc n) h =
    let p = counted n (omega arith) in
    (after_lawful (day_at n) p.0 (omega arith), omega (arith, after (day_at n) p.0))

last : day_number (record { year = 2099; month = 12; day = 31 }) + 1 ≡ calendar_days
unfolding day_number days_before_year days_before_month length_of_months
last = omega (arith, years_closed 99 (omega arith))

pub day_laws : DayLaws
day_laws = record {
  lawful_at = λ n h. (counted n h).0;
  number_at = λ n h. (counted n h).1;
  at_number = λ d l. let p = counted (day_number d) (below d l) in same (day_at (day_number d)) d p.0 l p.1;
  last = last;
  number_below = below;
  after = after;
  same = same;
  earlier = earlier;
  numbers_earlier = numbers_earlier;
}

-- where the year, the month and the day of a number lie
pub ruleset days_found = (year_found, month_over, few_days)
