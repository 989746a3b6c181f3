-- A term: what is refused, and its hours, intervals and days by place, counted from 0 at 00:00 of the first day.
use Rattle.std.specs.Prelude.{◌≡◌, ℕ, ◌+◌, ◌-◌, ◌*◌, ◌/◌, ◌<◌, ◌≤◌, Bool, if◌then◌else◌, ◌&&◌, Some, None, Ok, Err, Option, Result, nat_le, nat_lt}
use Rattle.calendar.specs.declared.dates.Date.{Date}
use Rattle.calendar.specs.declared.spans.Span.{Span}
use Rattle.calendar.specs.declared.terms.Term.{Term}
use Rattle.calendar.specs.declared.terms.TermFault.{TermFault}
use Rattle.calendar.specs.declared.terms.TermFault.TheVariants.{DateOrDays}
use Rattle.calendar.specs.Days.{Day, within, lawful, calendar_days, day_at, day_number}
use Rattle.calendar.specs.Dates.{day_of, number_of}
use Rattle.calendar.specs.Spans.{places_a_day}

-- A term as it is asked for.
pub record TermDraft : Type 0 where
  pub first : Day
  pub days : ℕ

abbrev pub draft_of : Term → TermDraft
draft_of t = record { first = day_of t.first; days = t.days }

-- a lawful first day, 1 to 92 days, and the last of them not after 2099-12-31
unfoldable pub lawful_term : TermDraft → Bool
lawful_term t = lawful t.first && (within 1 92 t.days && nat_le (day_number t.first + t.days) calendar_days)

abbrev pub first_fault : TermDraft → Option TermFault
first_fault t = if lawful_term t then None else Some DateOrDays

-- a term is made exactly where there is no fault, with the first day and the days asked for
abbrev pub TermOf : TermDraft → Result Term TermFault → Type 0
TermOf t (Ok r) = (first_fault t ≡ None) × (draft_of r ≡ t)
TermOf t (Err f) = first_fault t ≡ Some f

abbrev pub fault_number : TermFault → ℕ
fault_number DateOrDays = 1

-- how many intervals, or hours, the term has
abbrev pub places_of : Span → Term → ℕ
places_of span t = places_a_day span * t.days

-- the day of the term in which a place lies, where a day has that many places
abbrev pub day_of_place : ℕ → Term → ℕ → Option ℕ
day_of_place places t place = if nat_lt place (places * t.days) then Some (place / places) else None

-- the day of the term in which an interval, or an hour, lies
abbrev pub term_day : Span → Term → ℕ → Option ℕ
term_day span = day_of_place (places_a_day span)

-- the number of the first day and of the last
abbrev pub first_number : Term → ℕ
first_number t = number_of t.first

abbrev pub last_number : Term → ℕ
last_number t = number_of t.first + (t.days - 1)

-- the date of a day of the term, counted from 0
abbrev pub DateOfTermDay : Term → ℕ → Option Date → Type 0
DateOfTermDay t day None = t.days ≤ day
DateOfTermDay t day (Some d) = (day < t.days) × (day_of d ≡ day_at (first_number t + day)) × (number_of d ≡ first_number t + day)

-- The places of a day follow one another: place p lies in day k exactly where k·places ≤ p < (k + 1)·places.
pub record TermLaws : Type 0 where
  pub in_day : (places : ℕ) (t : Term) (place day : ℕ) → 0 < places → day < t.days → day * places ≤ place → place < day * places + places → day_of_place places t place ≡ Some day
  pub day_has : (places : ℕ) (t : Term) (place day : ℕ) → 0 < places → day_of_place places t place ≡ Some day → (day < t.days) × (day * places ≤ place) × (place < day * places + places)
