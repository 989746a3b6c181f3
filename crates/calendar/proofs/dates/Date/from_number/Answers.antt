use Rattle.std.proofs.Common.{◌≡◌, ℕ, ◌+◌, ◌-◌, ◌*◌, ◌/◌, None, arith}
use Rattle.calendar.specs.Days.{Day, Lawful, day_number}
use Rattle.calendar.proofs.Calendars.{month_over, year_found}
use Rattle.calendar.proofs.SameDates.{number_is, number_only}
use Rattle.calendar.proofs.dates.Date.from_number.Goals as goal

abbrev year : ℕ → ℕ
year n = 2000 + 4 * n / 1461

pub returns-then-number-ge-CALENDAR_DAYS : goal.returns-then-number-ge-CALENDAR_DAYS
returns-then-number-ge-CALENDAR_DAYS c = record { day = omega arith; back = number_only c.args.number None (omega arith) }

pub returns : goal.returns
unfolding day_number
returns c =
    let n : ℕ = c.args.number in
    let k : ℕ = c.from.result in
    let y = year_found k (omega arith) in
    let m = month_over (year k) c.month_of_day-month.result (omega arith) in
    let w : Day = record { year = year k; month = c.month_of_day-month.result; day = n - c.days_before_year.result - c.days_before-begin.result + 1 } in
    let l : Lawful w = omega arith in
    let h : day_number w ≡ n = omega arith in
    let p = number_is n w c.of.result l h c.of.ensures in
    record { day = p; back = number_only n c.of.result p }
