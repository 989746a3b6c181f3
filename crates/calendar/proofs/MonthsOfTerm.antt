-- The months of a term, by the day on which each month begins.
use Rattle.std.proofs.Common.{◌≡◌, ℕ, zero, suc, ◌+◌, ◌-◌, ◌*◌, ◌/◌, ◌%◌, ◌<◌, ◌≤◌, true, ltb, leb, Some, None, ap, ◌∙◌, subst, inl, inr, add-zero, arith}
use Rattle.std.proofs.lemmas.Bool.Decides.{nat_tests}
use Rattle.std.proofs.lemmas.Bool.{and_from, and_parts, cases_lt, cond-true, le-leb, leb-true, lt-ltb}
use Rattle.calendar.specs.declared.terms.Term.{Term}
use Rattle.calendar.specs.declared.months.Month.{Month}
use Rattle.calendar.specs.declared.months.MonthSpan.{MonthSpan}
use Rattle.calendar.specs.Days.{Day, Within, Lawful, month_length, lawful, day_at, day_number, days_before_year}
use Rattle.calendar.specs.Dates.{day_of}
use Rattle.calendar.specs.Terms.{first_number, last_number}
use Rattle.calendar.specs.Months.{month_index, month_counted, touched_months, touched_month, first_of_month, whole_in_term, month_span, Touches, HoldsMonth, MonthLaws}
use Rattle.calendar.proofs.Calendars.{by_order, day_laws, january, month_over, next_year, some_days, whole_year}
use Rattle.calendar.proofs.SameDates.{date_laws, lawful_is}

-- the number of the day on which the month counted n begins
begin : ℕ → ℕ
begin n = day_number (first_of_month (2000 + n / 12) (n % 12 + 1))

begin_next : (n : ℕ) → begin (n + 1) ≡ begin n + month_length (2000 + n / 12) (n % 12 + 1)
unfolding begin day_number
begin_next n =
    elim (cases_lt (n % 12) 11) [
      | inl within ↦
          let e : (n + 1) / 12 ≡ n / 12 = omega arith in
          let f : (n + 1) % 12 ≡ n % 12 + 1 = omega arith in
          rw (e, f) (omega (arith, month_over (2000 + n / 12) (n % 12 + 1) (omega arith)))
      | inr december ↦
          let e : (n + 1) / 12 ≡ n / 12 + 1 = omega arith in
          let f : (n + 1) % 12 ≡ 0 = omega arith in
          let g : n % 12 ≡ 11 = omega arith in
          let y = ap days_before_year (let h : 2000 + n / 12 + 1 ≡ 2000 + (n / 12 + 1) = omega arith in h) in
          rw (e, f, g) (omega (arith, y, january (2000 + (n / 12 + 1)), next_year (2000 + n / 12) (omega arith), whole_year (2000 + n / 12), month_over (2000 + n / 12) 12 (omega arith)))
    ]

begins_grow : (i k : ℕ) → begin i + 28 * k ≤ begin (i + k)
begins_grow i zero = rw (add-zero i) (omega arith)
begins_grow i (suc k) =
    let n : ℕ = i + k in
    let e : begin (i + suc k) ≡ begin (n + 1) = ap begin (omega arith) in
    omega (arith, begins_grow i k, begin_next n, some_days (2000 + n / 12) (n % 12 + 1))

-- days of a month follow its first
day_in_month : (year month day : ℕ) → day_number (record { year = year; month = month; day = day }) ≡ day_number (first_of_month year month) + (day - 1)
unfolding day_number
day_in_month year month day = omega arith

-- a month's count gives its year and month back
module _ (d : Day) (l : Lawful d) where
  year_back : 2000 + month_index d / 12 ≡ d.year
  year_back = omega arith

  month_back : month_index d % 12 + 1 ≡ d.month
  month_back = omega arith

  begin_back : begin (month_index d) ≡ day_number (first_of_month d.year d.month)
  unfolding begin
  begin_back =
      ap (λ (y : ℕ). day_number (first_of_month y (month_index d % 12 + 1))) year_back ∙ ap (λ (m : ℕ). day_number (first_of_month d.year m)) month_back

  length_back : month_length (2000 + month_index d / 12) (month_index d % 12 + 1) ≡ month_length d.year d.month
  length_back =
      ap (λ (y : ℕ). month_length y (month_index d % 12 + 1)) year_back ∙ ap (month_length d.year) month_back

  in_its_month : (begin (month_index d) ≤ day_number d) × (day_number d < begin (month_index d + 1))
  in_its_month =
      let e = day_in_month d.year d.month d.day in
      let b = begin_back in
      let n = begin_next (month_index d) in
      let k = length_back in
      (omega arith, omega arith)

index_grows : (d e : Day) → Lawful d → Lawful e → day_number d ≤ day_number e → month_index d ≤ month_index e
index_grows d e l m h =
    by_order d e (λ p. omega (arith, p)) (λ p. absurd (omega (arith, day_laws.earlier e d m l p))) (λ p. omega (arith, ap month_index p))

made : ℕ → ℕ → Month
made y m = record { year = y; month = m }

same_months : (m n : Month) → m.year ≡ n.year → m.month ≡ n.month → m ≡ n
unfolding made
same_months m n y k = ap (λ (a : ℕ). made a m.month) y ∙ ap (made n.year) k

module _ (t : Term) where
  first_lawful : Lawful (day_of t.first)
  first_lawful = date_laws.lawful t.first

  -- each day of the term is lawful, and has its number
  day_lawful : (k : ℕ) → k < t.days → Lawful (day_at (first_number t + k))
  day_lawful k h = day_laws.lawful_at (first_number t + k) (omega arith)

  day_numbered : (k : ℕ) → k < t.days → day_number (day_at (first_number t + k)) ≡ first_number t + k
  day_numbered k h = day_laws.number_at (first_number t + k) (omega arith)

  -- months of the term's days are between those of its first and its last day
  not_before : (k : ℕ) → k < t.days → month_index (day_of t.first) ≤ month_index (day_at (first_number t + k))
  not_before k h = index_grows (day_of t.first) (day_at (first_number t + k)) first_lawful (day_lawful k h) (omega (arith, day_numbered k h))

  not_after : (k : ℕ) → k < t.days → month_index (day_at (first_number t + k)) ≤ month_index (day_at (last_number t))
  not_after k h =
      index_grows (day_at (first_number t + k)) (day_at (last_number t)) (day_lawful k h) (day_lawful (t.days - 1) (omega arith))
      (omega (arith, day_numbered k h, day_numbered (t.days - 1) (omega arith)))

  last_numbered : day_number (day_at (last_number t)) ≡ last_number t
  last_numbered = day_numbered (t.days - 1) (omega arith)

  last_lawful : Lawful (day_at (last_number t))
  last_lawful = day_lawful (t.days - 1) (omega arith)

  pub in_order : month_index (day_of t.first) ≤ month_index (day_at (last_number t))
  in_order = not_before (t.days - 1) (omega arith)

  -- four whole months, of 28 days or more, do not fit between a term's first and last day
  pub few_months : month_index (day_at (last_number t)) < month_index (day_of t.first) + 5
  few_months =
      let i = month_index (day_of t.first) in
      let j = month_index (day_at (last_number t)) in
      elim (cases_lt j (i + 5)) [
        | inl near ↦ near
        | inr far ↦
            let e : begin (i + 1 + (j - (i + 1))) ≡ begin j = ap begin (omega arith) in
            absurd (omega (arith, e, begins_grow (i + 1) (j - (i + 1)), in_its_month (day_of t.first) first_lawful, in_its_month (day_at (last_number t)) last_lawful, last_numbered))
      ]

  pub one_to_five : Within 1 5 (touched_months t)
  unfolding touched_months
  one_to_five = (omega (arith, in_order), omega (arith, few_months))

  -- a month after the first is touched on its first day
  month_begins_in : (n : ℕ) → month_index (day_of t.first) < n → n ≤ month_index (day_at (last_number t)) → Touches t (2000 + n / 12) (n % 12 + 1)
  unfolding begin
  month_begins_in n l u =
      let i = month_index (day_of t.first) in
      let j = month_index (day_at (last_number t)) in
      let w : Day = first_of_month (2000 + n / 12) (n % 12 + 1) in
      let lawful-w : Lawful w = omega (arith, last_lawful, some_days (2000 + n / 12) (n % 12 + 1)) in
      let e : begin (i + 1 + (n - (i + 1))) ≡ begin n = ap begin (omega arith) in
      let f : begin (n + (j - n)) ≡ begin j = ap begin (omega arith) in
      let after : first_number t < day_number w = omega (arith, e, begins_grow (i + 1) (n - (i + 1)), in_its_month (day_of t.first) first_lawful) in
      let before : day_number w ≤ last_number t = omega (arith, f, begins_grow n (j - n), in_its_month (day_at (last_number t)) last_lawful, last_numbered) in
      let here : day_at (first_number t + (day_number w - first_number t)) ≡ w = ap day_at (omega arith) ∙ day_laws.at_number w lawful-w in
      (day_number w - first_number t, omega arith, ap (λ (d : Day). d.year) here, ap (λ (d : Day). d.month) here)

  touched_at : (place : ℕ) → place < touched_months t → Touches t (2000 + (month_index (day_of t.first) + place) / 12) ((month_index (day_of t.first) + place) % 12 + 1)
  unfolding touched_months
  touched_at zero h =
      let here : day_at (first_number t + 0) ≡ day_of t.first = ap day_at (add-zero (first_number t)) ∙ day_laws.at_number (day_of t.first) first_lawful in
      (0, omega arith, omega (arith, ap (λ (d : Day). d.year) here), omega (arith, ap (λ (d : Day). d.month) here))
  touched_at (suc p) h = month_begins_in (month_index (day_of t.first) + suc p) (omega arith) (omega arith)

  touched : (place : ℕ) (m : Month) → touched_month t place ≡ Some m → Touches t m.year m.month
  unfolding touched_month
  touched place m e =
      let within : place < touched_months t = grind (arith, nat_tests) in
      let same : month_counted (month_index (day_of t.first) + place) ≡ m = grind (arith, nat_tests) in
      subst (λ (w : Month). Touches t w.year w.month) same (touched_at place within)

  all_touched : (year month : ℕ) → Touches t year month → (place : ℕ) × (place < touched_months t) × (touched_month t place ≡ Some (record { year = year; month = month }))
  unfolding touched_months touched_month
  all_touched year month (k, h, y, m) =
      let i = month_index (day_of t.first) in
      let f = day_at (first_number t + k) in
      let place : ℕ = month_index f - i in
      let e : i + place ≡ month_index f = omega (arith, not_before k h) in
      let within : place < touched_months t = omega (arith, not_before k h, not_after k h) in (
        place,
        within,
        cond-true (ltb place (touched_months t)) _ None (lt-ltb place (touched_months t) within)
            ∙ ap Some (same_months (month_counted (i + place)) (record { year = year; month = month })
            (ap (λ (n : ℕ). 2000 + n / 12) e ∙ year_back f (day_lawful k h) ∙ y) (ap (λ (n : ℕ). n % 12 + 1) e ∙ month_back f (day_lawful k h) ∙ m)),
      )

  span : ℕ → ℕ → MonthSpan
  span year month = record { first_day = day_number (first_of_month year month) - first_number t; days = month_length year month }

  day_of_span : (year month k : ℕ) → k < month_length year month → whole_in_term t year month ≡ true → ((span year month).first_day + k < t.days) × (day_at (first_number t + ((span year month).first_day + k)) ≡ record { year = year; month = month; day = k + 1 })
  unfolding span whole_in_term
  day_of_span year month k l whole =
      let p = and_parts (lawful (first_of_month year month)) _ whole in
      let q = and_parts (leb (first_number t) (day_number (first_of_month year month))) _ p.1 in
      let a = leb-true _ _ q.0 in
      let b = leb-true _ _ q.1 in
      let m = lawful_is (first_of_month year month) p.0 in
      let w : Day = record { year = year; month = month; day = k + 1 } in
      let e : day_number w ≡ day_number (first_of_month year month) + (k + 1 - 1) = day_in_month year month (k + 1) in
      (omega arith, ap day_at (omega arith) ∙ day_laws.at_number w (m.0, m.1, omega arith))

  spans : (year month : ℕ) (s : MonthSpan) → month_span t year month ≡ Some s → (k : ℕ) → k < s.days → (s.first_day + k < t.days) × (day_at (first_number t + (s.first_day + k)) ≡ record { year = year; month = month; day = k + 1 })
  unfolding span month_span
  spans year month s e k h =
      let whole : whole_in_term t year month ≡ true = grind (arith, nat_tests) in
      let same : span year month ≡ s = grind (arith, nat_tests) in
      subst (λ (m : MonthSpan). k < m.days → (m.first_day + k < t.days) × (day_at (first_number t + (m.first_day + k)) ≡ record { year = year; month = month; day = k + 1 })) same
      (λ l. day_of_span year month k l whole) h

  whole : (year month : ℕ) → lawful (first_of_month year month) ≡ true → HoldsMonth t year month → whole_in_term t year month ≡ true
  unfolding whole_in_term
  whole year month l holds =
      let d = holds 1 (lawful_is (first_of_month year month) l).2 in
      let e = holds (month_length year month) (omega (arith, some_days year month)) in
      let f = day_in_month year month (month_length year month) in
      and_from _ _ l (and_from _ _ (le-leb _ _ d.0) (le-leb _ _ (omega (arith, e, f, some_days year month))))

pub month_laws : MonthLaws
month_laws = record { one_to_five = one_to_five; touched = touched; all_touched = all_touched; spans = spans; whole = whole }

-- the month of the last day is not before that of the first, and at most four after it
pub ruleset few_in_order = (in_order, few_months)
