-- The six quantities of a minute, and the ranges that they have in a valid one.
use Rattle.std.specs.Prelude.{Bool, ◌&&◌, ℤ, pos, neg_ℤ, int_le, nat_le}
use Rattle.calendar.specs.Days.{within}
use Rattle.stack.specs.declared.quantities.Quantities.{Quantities}

-- low ≤ z ≤ high
abbrev pub within_ℤ : ℤ → ℤ → ℤ → Bool
within_ℤ low high z = int_le low z && int_le z high

-- CO2 0 to 30 % and moisture 0 to 40 % (in hundredths), speed 0 to 60 m/s (in cm/s), temperature −40 to 300 °C (in
-- tenths), static pressure −10000 to 10000 Pa, air pressure 500 to 1100 hPa
abbrev pub in_range : Quantities → Bool
in_range q =
    nat_le q.co2.0 3000
    && (nat_le q.moisture.0 4000
    && (nat_le q.speed.0 6000
    && (within_ℤ (neg_ℤ (pos 400)) (pos 3000) q.temperature.0
    && (within_ℤ (neg_ℤ (pos 10000)) (pos 10000) q.static_pressure.0
    && within 500 1100 q.air_pressure.0))))
