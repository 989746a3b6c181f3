-- How high each step can be: it grows with what goes into it.
use Rattle.std.proofs.Common.{◌≡◌, ℕ, suc, ◌+◌, ◌-◌, ◌*◌, ◌<◌, ◌≤◌, pos, ◌+ℤ◌, ◌≤ℤ◌, nat_abs, inl, inr, mul_assoc, mul_comm, add-mul, mul-suc, arith, rules, lit<}
use Rattle.std.proofs.lemmas.Nat.{mul-le}
use Rattle.std.proofs.lemmas.Int.{ints}
use Rattle.std.proofs.lemmas.Bool.{cases_lt}
use Rattle.calendar.specs.Rounding.{nearest_ℕ}
use Rattle.calendar.proofs.Laws.{nearest_laws}
use Rattle.stack.specs.declared.quantities.Quantities.{Quantities}
use Rattle.stack.specs.declared.means.Means.{Means}
use Rattle.stack.specs.declared.settings.Basis.{Basis}
use Rattle.stack.specs.declared.settings.Basis.TheVariants.{Wet, Dry}
use Rattle.stack.specs.declared.settings.StackSettings.{StackSettings}
use Rattle.calendar.specs.declared.spans.Span.{Span}
use Rattle.calendar.specs.declared.spans.Span.TheVariants.{Interval, Hour}
use Rattle.stack.specs.Steps.{hundreds_of_seconds, figure_limit, flow_of, at_zero_of, stack_pressure, at_standard_of, on_basis_of, co2_of, grams_of, w1, w2, w3, w4, w5, figure}
use Rattle.stack.proofs.Ranges.{Ranged, ranged}

-- less than a half above the limit is rounded to it, wherever a half goes
nearest_below : (a b limit : ℕ) → 0 < b → 2 * a < (2 * limit + 1) * b → nearest_ℕ a b ≤ limit
nearest_below a b limit z l = elim (cases_lt limit (nearest_ℕ a b)) [
  | inl h ↦
      let m = mul-le b (suc limit) b (nearest_ℕ a b) (omega arith) h in
      let n = nearest_laws.near_ℕ a b z in
      absurd (omega (arith, mul-suc b limit, mul_comm b limit, add-mul (2 * limit) 1 b, mul_assoc 2 limit b))
  | inr h ↦ h
]

-- the pressure in the stack is 40000 to 120000 Pa
pub pressure_range : (q : Quantities) → Ranged q → (pos 0 ≤ℤ stack_pressure q) × (stack_pressure q ≤ℤ pos 120000)
pressure_range q r = (omega (arith, ints), omega (arith, ints))

-- a product of two numbers up to h and m, divided
scaled : (w k d h m limit : ℕ) → 0 < d → w ≤ h → k ≤ m → 2 * (h * m) < (2 * limit + 1) * d → nearest_ℕ (w * k) d ≤ limit
scaled w k d h m limit z p q l = let e = mul-le w k h m p q in nearest_below (w * k) d limit z (omega arith)

product : (k a f v : ℕ) → a ≤ 20000 → f ≤ 20000 → v ≤ 6000 → k * (a * f) * v ≤ k * 400000000 * 6000
product k a f v p q r =
    mul-le (k * (a * f)) v (k * 400000000) 6000 (mul-le k (a * f) k 400000000 (omega arith) (mul-le a f 20000 20000 p q)) r

-- limits of the steps
pub record StepsLimit : Type 0 where
  pub of_w1 : ℕ
  pub of_w2 : ℕ
  pub of_w3 : ℕ
  pub of_w5 : ℕ

abbrev pub limits : Span → StepsLimit
limits Interval = record { of_w1 = 21600000000; of_w2 = 25308154506; of_w3 = 29972647824; of_w5 = 8991794347 }
limits Hour = record { of_w1 = 86400000000; of_w2 = 101232618026; of_w3 = 119890591297; of_w5 = 35967177389 }

-- that each limit follows from the one before, and that no product passes 64 bits, is computed
record Chain (span : Span) (l : StepsLimit) : Type 0 where
  first : 2 * (hundreds_of_seconds span * 400000000 * 6000) < (2 * l.of_w1 + 1) * 1000
  second : 2 * (l.of_w1 * 2730) < (2 * l.of_w2 + 1) * 2330
  third : 2 * (l.of_w2 * 120000) < (2 * l.of_w3 + 1) * 101325
  fourth : 2 * (l.of_w3 * 10000) < (2 * l.of_w3 + 1) * 10000
  fifth : 2 * (l.of_w3 * 3000) < (2 * l.of_w5 + 1) * 10000
  last : 2 * (l.of_w5 * 197) < (2 * figure_limit span + 1) * 100
  fits_w1 : l.of_w1 * 2730 < 18446744073709551616
  fits_w2 : l.of_w2 * 120000 < 18446744073709551616
  fits_w3 : l.of_w3 * 10000 < 18446744073709551616
  fits_w5 : l.of_w5 * 197 < 18446744073709551616

chain : (span : Span) → Chain span (limits span)
chain Interval = search rules
chain Hour = search rules

on_basis_high : (basis : Basis) (w h x : ℕ) → w ≤ h → 2 * (h * 10000) < (2 * h + 1) * 10000 → on_basis_of basis w x ≤ h
unfolding on_basis_of
on_basis_high Wet w h x a l = a
on_basis_high Dry w h x a l = scaled w (10000 - x) 10000 h 10000 h (lit< tt) a (omega arith) l

module _ (span : Span) (s : StackSettings) (q : Quantities) (r : Ranged q) where
  w1_high : w1 span s q ≤ (limits span).of_w1
  unfolding flow_of
  w1_high =
      let p = product (hundreds_of_seconds span) s.area s.speed_factor q.speed.0 s.area_in_range.1 s.factor_in_range.1 r.speed_high in
      nearest_below _ 1000 _ (lit< tt) (omega (arith, (chain span).first))

  -- 2730 / 2330 at most
  w2_high : w2 span s q ≤ (limits span).of_w2
  unfolding at_zero_of
  w2_high =
      let l = (limits span).of_w2 in
      let t = nat_abs (pos 2730 +ℤ q.temperature.0) in
      let g : 2330 ≤ t = omega (arith, ints) in
      let h = w1_high in
      let m = mul-le (2 * l + 1) 2330 (2 * l + 1) t (omega arith) g in
      nearest_below _ t l (omega arith) (omega (arith, (chain span).second))

  w3_high : w3 span s q ≤ (limits span).of_w3
  unfolding at_standard_of
  w3_high = let p = pressure_range q r in scaled _ _ 101325 _ 120000 _ (lit< tt) w2_high (omega (arith, ints)) (chain span).third

  w4_high : w4 span s q ≤ (limits span).of_w3
  w4_high = on_basis_high s.basis _ _ _ w3_high (chain span).fourth

  w5_high : w5 span s q ≤ (limits span).of_w5
  unfolding co2_of
  w5_high = scaled _ _ 10000 _ 3000 _ (lit< tt) w4_high r.co2_high (chain span).fifth

  pub figure_high : figure span s q ≤ figure_limit span
  unfolding grams_of
  figure_high = scaled _ 197 100 _ 197 _ (lit< tt) w5_high (omega arith) (chain span).last

-- a product of two numbers up to h and m fits where theirs does
fits : (w k h m : ℕ) → w ≤ h → k ≤ m → h * m < 18446744073709551616 → w * k < 18446744073709551616
fits w k h m p q l = let e = mul-le w k h m p q in omega arith

-- no product passes 64 bits: v is the volume that is multiplied
module _ (span : Span) (s : StackSettings) (m : Means) (v : ℕ) where
  r : Ranged m.quantities
  r = ranged m.quantities m.in_range

  pub at_zero_fits : v ≡ w1 span s m.quantities → v * 2730 < 18446744073709551616
  at_zero_fits e = rw e (fits _ 2730 _ 2730 (w1_high span s m.quantities r) (omega arith) (chain span).fits_w1)

  pub at_standard_fits : v ≡ w2 span s m.quantities → v * nat_abs (stack_pressure m.quantities) < 18446744073709551616
  at_standard_fits e = let p = pressure_range m.quantities r in rw e (fits _ _ _ 120000 (w2_high span s m.quantities r) (omega (arith, ints)) (chain span).fits_w2)

  pub on_basis_fits : v ≡ w3 span s m.quantities → v * (10000 - m.quantities.moisture.0) < 18446744073709551616
  on_basis_fits e = rw e (fits _ _ _ 10000 (w3_high span s m.quantities r) (omega arith) (chain span).fits_w3)

  pub co2_fits : v ≡ w4 span s m.quantities → v * m.quantities.co2.0 < 18446744073709551616
  co2_fits e = let k = r.co2_high in rw e (fits _ _ _ 10000 (w4_high span s m.quantities r) (omega arith) (chain span).fits_w3)

  pub grams_fits : v ≡ w5 span s m.quantities → v * 197 < 18446744073709551616
  grams_fits e = rw e (fits _ 197 _ 197 (w5_high span s m.quantities r) (omega arith) (chain span).fits_w5)

pub ruleset products_fit = (at_zero_fits, at_standard_fits, on_basis_fits, co2_fits, grams_fits)
