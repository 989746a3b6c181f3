-- The calendar months that a term touches, and those that lie in it whole.
use Rattle.std.specs.Prelude.{◌≡◌, ℕ, ◌+◌, ◌-◌, ◌*◌, ◌/◌, ◌%◌, ◌<◌, Bool, true, if◌then◌else◌, ◌&&◌, Some, None, Option, nat_le, nat_lt}
use Rattle.calendar.specs.declared.terms.Term.{Term}
use Rattle.calendar.specs.declared.months.Month.{Month}
use Rattle.calendar.specs.declared.months.MonthSpan.{MonthSpan}
use Rattle.calendar.specs.Days.{Day, Within, month_length, lawful, day_at, day_number}
use Rattle.calendar.specs.Dates.{day_of}
use Rattle.calendar.specs.Terms.{first_number, last_number}

-- months counted from January 2000 as 0: the count of a day's month, and the month of a count
abbrev pub month_index : Day → ℕ
month_index d = 12 * (d.year - 2000) + (d.month - 1)

abbrev pub month_counted : ℕ → Month
month_counted n = record { year = 2000 + n / 12; month = n % 12 + 1 }

-- how many months the term touches, from that of its first day to that of its last
unfoldable pub touched_months : Term → ℕ
touched_months t = month_index (day_at (last_number t)) + 1 - month_index (day_of t.first)

-- the touched month at a place, counted from 0
unfoldable pub touched_month : Term → ℕ → Option Month
touched_month t place =
    if nat_lt place (touched_months t) then Some (month_counted (month_index (day_of t.first) + place)) else None

abbrev pub first_of_month : ℕ → ℕ → Day
first_of_month year month = record { year = year; month = month; day = 1 }

-- the month's first day is not before the term's first, and its last not after the term's last
unfoldable pub whole_in_term : Term → ℕ → ℕ → Bool
whole_in_term t year month =
    lawful (first_of_month year month)
    && (nat_le (first_number t) (day_number (first_of_month year month))
    && nat_le (day_number (first_of_month year month) + month_length year month) (first_number t + t.days))

-- where a whole month begins in the term, and how many days it has
unfoldable pub month_span : Term → ℕ → ℕ → Option MonthSpan
month_span t year month =
    if whole_in_term t year month
    then Some (record { first_day = day_number (first_of_month year month) - first_number t; days = month_length year month })
    else None

-- some day of the term lies in the month
abbrev pub Touches : Term → ℕ → ℕ → Type 0
Touches t year month =
    (k : ℕ) × (k < t.days) × ((day_at (first_number t + k)).year ≡ year) × ((day_at (first_number t + k)).month ≡ month)

-- each day of the month lies in the term
abbrev pub HoldsMonth : Term → ℕ → ℕ → Type 0
HoldsMonth t year month =
    (day : ℕ) → Within 1 (month_length year month) day → Within (first_number t) (last_number t) (day_number (record { year = year; month = month; day = day }))

-- What these mean for days. touched, all_touched: the places hold the months that some day of the term lies in, and no
-- other. spans: the days of a span are the month's, in order. whole: a month has a span where each of its days lies in the term.
pub record MonthLaws : Type 0 where
  pub one_to_five : (t : Term) → Within 1 5 (touched_months t)
  pub touched : (t : Term) (place : ℕ) (m : Month) → touched_month t place ≡ Some m → Touches t m.year m.month
  pub all_touched : (t : Term) (year month : ℕ) → Touches t year month → (place : ℕ) × (place < touched_months t) × (touched_month t place ≡ Some (record { year = year; month = month }))
  pub spans : (t : Term) (year month : ℕ) (s : MonthSpan) → month_span t year month ≡ Some s → (k : ℕ) → k < s.days → (s.first_day + k < t.days) × (day_at (first_number t + (s.first_day + k)) ≡ record { year = year; month = month; day = k + 1 })
  pub whole : (t : Term) (year month : ℕ) → lawful (first_of_month year month) ≡ true → HoldsMonth t year month → whole_in_term t year month ≡ true
