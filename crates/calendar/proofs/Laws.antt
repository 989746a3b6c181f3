-- Proofs of the laws that specs/ states and that contracts name. Upper crates cite this file and specs/ alone.
use Rattle.calendar.specs.Rounding.{NearestLaws, HalfGoesUp, RoundUpLaws}
use Rattle.calendar.specs.Days.{DayLaws}
use Rattle.calendar.specs.Dates.{DateLaws}
use Rattle.calendar.specs.Terms.{TermLaws}
use Rattle.calendar.specs.Months.{MonthLaws}
use Rattle.calendar.proofs.Rounds as rounds
use Rattle.calendar.proofs.Calendars as calendars
use Rattle.calendar.proofs.SameDates as dates
use Rattle.calendar.proofs.DaysOfPlaces as places
use Rattle.calendar.proofs.MonthsOfTerm as months

pub nearest_laws : NearestLaws
nearest_laws = rounds.nearest_laws

pub half_goes_up : HalfGoesUp
half_goes_up = rounds.half_goes_up

pub round_up_laws : RoundUpLaws
round_up_laws = rounds.round_up_laws

pub day_laws : DayLaws
day_laws = calendars.day_laws

pub date_laws : DateLaws
date_laws = dates.date_laws

pub term_laws : TermLaws
term_laws = places.term_laws

pub month_laws : MonthLaws
month_laws = months.month_laws
