-- How many intervals of 15 minutes, and how many hours, a day has.
use Rattle.std.specs.Prelude.{ℕ}
use Rattle.calendar.specs.declared.spans.Span.{Span}
use Rattle.calendar.specs.declared.spans.Span.TheVariants.{Interval, Hour}

abbrev pub places_a_day : Span → ℕ
places_a_day Interval = 96
places_a_day Hour = 24
