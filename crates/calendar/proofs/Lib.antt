mod Quotients
mod Rounds
mod Counts
mod Calendars
mod Texts
mod SameDates
mod DaysOfPlaces
mod MonthsOfTerm
pub mod Laws
