-- The calendar in whole numbers, from 2000-01-01 on: leap years, lengths of months, the day after a day, and day numbers.
use Rattle.std.specs.Prelude.{◌≡◌, ℕ, zero, suc, ◌+◌, ◌-◌, ◌%◌, ◌<◌, ◌≤◌, Bool, if◌then◌else◌, not, ◌&&◌, ◌||◌, ◌⊎◌, ◌==◌, nat_le, nat_lt}

-- days from 2000-01-01 to 2099-12-31
abbrev pub calendar_days : ℕ
calendar_days = 36525

-- low ≤ n ≤ high, as a fact and as a test
abbrev pub Within : ℕ → ℕ → ℕ → Type 0
Within low high n = (low ≤ n) × (n ≤ high)

abbrev pub within : ℕ → ℕ → ℕ → Bool
within low high n = nat_le low n && nat_le n high

-- a leap year divides by 4, and a full century by 400
abbrev pub leap : ℕ → Bool
leap year = year % 4 == 0 && (not (year % 100 == 0) || year % 400 == 0)

-- days of a month, 1 to 12, of a leap year (true) or a common one
abbrev pub length_of_month : Bool → ℕ → ℕ
length_of_month long month =
    if month == 2 then (if long then 29 else 28)
    else (if month == 4 || (month == 6 || (month == 9 || month == 11)) then 30 else 31)

unfoldable pub month_length : ℕ → ℕ → ℕ
month_length year month = length_of_month (leap year) month

-- a day of the calendar
pub record Day : Type 0 where
  pub year : ℕ
  pub month : ℕ
  pub day : ℕ

-- the days that a date can have: 2000-01-01 to 2099-12-31
abbrev pub Lawful : Day → Type 0
Lawful d = Within 2000 2099 d.year × Within 1 12 d.month × Within 1 (month_length d.year d.month) d.day

abbrev pub lawful : Day → Bool
lawful d = within 2000 2099 d.year && (within 1 12 d.month && within 1 (month_length d.year d.month) d.day)

-- the day after a day: the next of the month, or the first of the next month, or the first of January
abbrev pub day_after : Day → Day
day_after d =
    if nat_lt d.day (month_length d.year d.month)
    then record { year = d.year; month = d.month; day = d.day + 1 }
    else (if nat_lt d.month 12
    then record { year = d.year; month = d.month + 1; day = 1 }
    else record { year = d.year + 1; month = 1; day = 1 })

-- Days counted: day 0 is 2000-01-01, and each next number is the day after.
unfoldable pub day_at : ℕ → Day
day_at zero = record { year = 2000; month = 1; day = 1 }
day_at (suc n) = day_after (day_at n)

-- d comes before e: by year, then month, then day
abbrev pub Earlier : Day → Day → Type 0
Earlier d e =
    (d.year < e.year)
    ⊎ ((d.year ≡ e.year) × ((d.month < e.month) ⊎ ((d.month ≡ e.month) × (d.day < e.day))))

-- The same count by arithmetic: whole years, then whole months, then days.
-- days of the first k years from 2000 on
unfoldable pub length_of_years : ℕ → ℕ
length_of_years zero = 0
length_of_years (suc k) = length_of_years k + (if leap (2000 + k) then 366 else 365)

-- days of the first k months of a year
unfoldable pub length_of_months : Bool → ℕ → ℕ
length_of_months long zero = 0
length_of_months long (suc k) = length_of_months long k + length_of_month long (suc k)

unfoldable pub days_before_year : ℕ → ℕ
days_before_year year = length_of_years (year - 2000)

unfoldable pub days_before_month : ℕ → ℕ → ℕ
days_before_month year month = length_of_months (leap year) (month - 1)

unfoldable pub day_number : Day → ℕ
day_number d = days_before_year d.year + days_before_month d.year d.month + (d.day - 1)

-- What the two counts promise. Parts above use these, and not how days before a month are found.
-- number_at, at_number: number and day are each other's inverse. after: the day after has the next number.
-- last: no day is left after 2099-12-31. same: equal numbers are of equal days. earlier, numbers_earlier: order of days is order of numbers.
pub record DayLaws : Type 0 where
  pub lawful_at : (n : ℕ) → n < calendar_days → Lawful (day_at n)
  pub number_at : (n : ℕ) → n < calendar_days → day_number (day_at n) ≡ n
  pub at_number : (d : Day) → Lawful d → day_at (day_number d) ≡ d
  pub last : day_number (record { year = 2099; month = 12; day = 31 }) + 1 ≡ calendar_days
  pub number_below : (d : Day) → Lawful d → day_number d < calendar_days
  pub after : (d : Day) → Lawful d → day_number (day_after d) ≡ day_number d + 1
  pub same : (d e : Day) → Lawful d → Lawful e → day_number d ≡ day_number e → d ≡ e
  pub earlier : (d e : Day) → Lawful d → Lawful e → Earlier d e → day_number d < day_number e
  pub numbers_earlier : (d e : Day) → Lawful d → Lawful e → day_number d < day_number e → Earlier d e
