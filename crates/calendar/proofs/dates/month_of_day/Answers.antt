use Rattle.std.proofs.Common.{◌+◌, ◌<◌, ◌≤◌, rules}
use Rattle.std.proofs.lemmas.Iterator.{first_from_Range}
use Rattle.calendar.specs.Days.{days_before_month}
use Rattle.calendar.proofs.Calendars.{month_begun}
use Rattle.calendar.proofs.dates.month_of_day.Goals as goal

pub returns-clause-begun : goal.returns-clause-begun
returns-clause-begun c =
    let found =
    first_from_Range _ _ _ c.find.result (λ m. c.args.day_of_year < days_before_month c.args.year (m + 1)) (λ m. days_before_month c.args.year (m + 1) ≤ c.args.day_of_year) c.find.ensures.ran
    (λ x q k. search rules) (λ x q k. search rules) in
    rw c.unwrap_or.ensures (month_begun c.args.year c.args.day_of_year c.find.result found)
