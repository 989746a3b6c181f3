-- Quotients of naturals and of integers by their products with the divisor.
use Rattle.std.proofs.Common.{◌≡◌, ℕ, zero, suc, ◌+◌, ◌*◌, ◌/◌, ◌<◌, ◌≤◌, ℤ, pos, negsuc, ◌+ℤ◌, ◌*ℤ◌, neg_ℤ, ◌≤ℤ◌, ◌<ℤ◌, sym, refl, ap, suc-mul, mul_comm, mul-suc, div-mul-le_self, arith}
use native.Mathlib.Nat.{div-add-mod, div-eq_of_lt-le}
use lib.IntN.{neg_ℤ-neg_ℤ}
use Rattle.std.specs.Int.{int_div_euclid}
use Rattle.std.proofs.lemmas.Nat.{mod_below, div_below, le-div}
use Rattle.std.proofs.lemmas.Int.{ints}
use Rattle.calendar.specs.Rounding.{floored}

pub quotient_is : (a d : ℕ) → 0 < d → (d * (a / d) ≤ a) × (a < d * (a / d) + d)
quotient_is a d h = (omega (arith, div-add-mod a d), omega (arith, div-add-mod a d, mod_below a d h))

pub quotient_only : (a d q : ℕ) → d * q ≤ a → a < d * q + d → a / d ≡ q
quotient_only a d q l u = div-eq_of_lt-le d (omega (arith, mul_comm d q)) (omega (arith, mul_comm d q, suc-mul q d))

quotient_grows : (a c d : ℕ) → 0 < d → a ≤ c → a / d ≤ c / d
quotient_grows a c d h l = le-div (a / d) c d h (omega (arith, div-mul-le_self a d))

pub floored_is : (z : ℤ) (d : ℕ) → 0 < d → ((pos d *ℤ floored z d) ≤ℤ z) × (z <ℤ (pos d *ℤ floored z d +ℤ pos d))
unfolding floored
floored_is (pos a) d h = let q = quotient_is a d h in (omega (arith, ints), omega (arith, ints))
floored_is (negsuc a) d h =
    let q = quotient_is a d h in let e = mul-suc d (a / d) in (omega (arith, ints), omega (arith, ints))

pub floored_only : (z r : ℤ) (d : ℕ) → 0 < d → (pos d *ℤ r) ≤ℤ z → z <ℤ (pos d *ℤ r +ℤ pos d) → floored z d ≡ r
unfolding floored
floored_only (pos a) (pos q) d h l u = ap pos (quotient_only a d q (omega (arith, ints)) (omega (arith, ints)))
floored_only (pos a) (negsuc q) d h l u = let e = mul-suc d q in absurd (omega (arith, ints))
floored_only (negsuc a) (pos q) d h l u = absurd (omega (arith, ints))
floored_only (negsuc a) (negsuc q) d h l u =
    let e = mul-suc d q in ap negsuc (quotient_only a d q (omega (arith, ints)) (omega (arith, ints)))

pub floored_grows : (y z : ℤ) (d : ℕ) → 0 < d → y ≤ℤ z → floored y d ≤ℤ floored z d
unfolding floored
floored_grows (pos a) (pos b) d h l = let q = quotient_grows a b d h (omega (arith, ints)) in omega (arith, ints)
floored_grows (pos a) (negsuc b) d h l = absurd (omega (arith, ints))
floored_grows (negsuc a) (pos b) d h l = omega (arith, ints)
floored_grows (negsuc a) (negsuc b) d h l = let q = quotient_grows b a d h (omega (arith, ints)) in omega (arith, ints)

pub floored_most : (z q : ℤ) (d : ℕ) → 0 < d → (pos d *ℤ q) ≤ℤ z → q ≤ℤ floored z d
unfolding floored
floored_most (pos a) (pos q) d h l = let k = le-div q a d h (omega (arith, ints, mul_comm d q)) in omega (arith, ints)
floored_most (pos a) (negsuc q) d h l = omega (arith, ints)
floored_most (negsuc a) (pos q) d h l = absurd (omega (arith, ints))
floored_most (negsuc a) (negsuc q) d h l =
    let e = mul_comm d (suc q) in let k = div_below a d (suc q) h (omega (arith, ints)) in omega (arith, ints)

-- what `div_euclid` answers
pub euclid_floors : (z y e : ℤ) (d : ℕ) → z ≡ y → e ≡ pos d → int_div_euclid z e ≡ floored y d
unfolding floored
euclid_floors z (pos a) e d p q = rw (p, q)
euclid_floors z (negsuc a) e d p q = rw (p, q)

pub mul_neg : (b : ℕ) (f : ℤ) → pos b *ℤ neg_ℤ f ≡ neg_ℤ (pos b *ℤ f)
mul_neg b (pos zero) = let e = mul_comm b 0 in omega (arith, ints)
mul_neg b (pos (suc n)) = refl
mul_neg b (negsuc n) = sym (neg_ℤ-neg_ℤ (pos (b * suc n)))
