-- A date as a day of the calendar, its number, and what the calls that make dates answer.
use Rattle.std.specs.Prelude.{◌≡◌, ℕ, ◌+◌, ◌/◌, ◌%◌, ◌<◌, ◌≤◌, true, false, List, ◌∷◌, ◌++◌, Some, None, decimal, Option}
use Rattle.calendar.specs.declared.dates.Date.{Date}
use Rattle.calendar.specs.declared.months.Month.{Month}
use Rattle.calendar.specs.Days.{Day, Lawful, lawful, calendar_days, day_after, day_at, day_number}

abbrev pub day_of : Date → Day
day_of d = record { year = d.year; month = d.month; day = d.day }

abbrev pub number_of : Date → ℕ
number_of d = day_number (day_of d)

-- a number as text, in two digits or more
abbrev pub two_digits : ℕ → List ℕ
two_digits n = decimal (n / 10) ++ decimal (n % 10)

-- the month of a date
abbrev pub month_of : Date → Month
month_of d = record { year = d.year; month = d.month }

-- a month as text: the year, a hyphen (45), and the month in two digits
abbrev pub month_text : Month → List ℕ
month_text m = decimal m.year ++ (45 ∷ two_digits m.month)

-- a date as text: that of its month, a hyphen, and the day in two digits
abbrev pub date_text : Date → List ℕ
date_text d = month_text (month_of d) ++ (45 ∷ two_digits d.day)

-- the date of a day, where the day is lawful
abbrev pub DateOfDay : Day → Option Date → Type 0
DateOfDay w None = lawful w ≡ false
DateOfDay w (Some d) = (lawful w ≡ true) × (day_of d ≡ w)

-- the date of the day counted n, up to 2099-12-31
abbrev pub DateOfNumber : ℕ → Option Date → Type 0
DateOfNumber n None = calendar_days ≤ n
DateOfNumber n (Some d) = (n < calendar_days) × (day_of d ≡ day_at n) × (number_of d ≡ n)

-- the date after; 2099-12-31 has none
abbrev pub DateAfter : Date → Option Date → Type 0
DateAfter d None = number_of d + 1 ≡ calendar_days
DateAfter d (Some e) = (day_of e ≡ day_after (day_of d)) × (number_of e ≡ number_of d + 1)

-- Dates with equal days, or equal numbers, are equal: with the laws of days, dates and the numbers below 36525 match
-- one to one, in order.
pub record DateLaws : Type 0 where
  pub lawful : (d : Date) → Lawful (day_of d)
  pub number_below : (d : Date) → number_of d < calendar_days
  pub same_day : (d e : Date) → day_of d ≡ day_of e → d ≡ e
  pub same_number : (d e : Date) → number_of d ≡ number_of e → d ≡ e
