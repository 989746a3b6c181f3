-- The laws of rounding.
use Rattle.std.proofs.Common.{◌≡◌, ℕ, zero, suc, ◌+◌, ◌*◌, ◌/◌, ◌%◌, ◌<◌, ◌≤◌, min, ℤ, pos, negsuc, ◌+ℤ◌, ◌*ℤ◌, neg_ℤ, nat_abs, ◌≤ℤ◌, ◌<ℤ◌, refl, ap, subst, add-zero, mul_assoc, mul_comm, le_antisymm, mul-le-mul_left, mul-suc, arith, w64, SFits}
use native.Mathlib.Nat.{div-add-mod, le_of_mul-le-mul_left, lt_of_mul-lt-mul_left}
use Rattle.std.proofs.Math.IntN.{*ℤ_comm}
use Rattle.std.proofs.lemmas.Nat.{mod_below}
use Rattle.std.proofs.lemmas.Int.{ints, to_z-of_z}
use Rattle.calendar.specs.Rounding.{floored, nearest_ℤ, nearest_ℕ, round_up_ℤ, round_up_ℕ, NearestLaws, HalfGoesUp, RoundUpLaws}
use Rattle.calendar.proofs.Quotients.{floored_is, floored_only, floored_grows, floored_most, mul_neg}

twice : (b : ℕ) (r : ℤ) → pos (2 * b) *ℤ r ≡ pos 2 *ℤ (pos b *ℤ r)
twice b (pos q) = ap pos (mul_assoc 2 b q)
twice b (negsuc q) = let e = mul_assoc 2 b (suc q) in omega (arith, ints)

-- an integer not below zero is its magnitude
same_natural : (z : ℤ) → pos 0 ≤ℤ z → z ≡ pos (nat_abs z)
same_natural (pos n) h = refl
same_natural (negsuc n) h = absurd (omega (arith, ints))

between_ℤ : (a : ℤ) (b : ℕ) → 0 < b → ((pos 2 *ℤ (pos b *ℤ nearest_ℤ a b)) ≤ℤ (pos 2 *ℤ a +ℤ pos b)) × ((pos 2 *ℤ a) <ℤ (pos 2 *ℤ (pos b *ℤ nearest_ℤ a b) +ℤ pos b))
unfolding nearest_ℤ
between_ℤ a b h =
    let p = floored_is (pos 2 *ℤ a +ℤ pos b) (2 * b) (omega arith) in
    let e = twice b (floored (pos 2 *ℤ a +ℤ pos b) (2 * b)) in
    (omega (arith, ints), omega (arith, ints))

only_ℤ : (a r : ℤ) (b : ℕ) → 0 < b → (pos 2 *ℤ (pos b *ℤ r)) ≤ℤ (pos 2 *ℤ a +ℤ pos b) → (pos 2 *ℤ a) <ℤ (pos 2 *ℤ (pos b *ℤ r) +ℤ pos b) → nearest_ℤ a b ≡ r
unfolding nearest_ℤ
only_ℤ a r b h l u =
    let e = twice b r in
    floored_only (pos 2 *ℤ a +ℤ pos b) r (2 * b) (omega arith) (omega (arith, ints)) (omega (arith, ints))

grows_ℤ : (a c : ℤ) (b : ℕ) → 0 < b → a ≤ℤ c → nearest_ℤ a b ≤ℤ nearest_ℤ c b
unfolding nearest_ℤ
grows_ℤ a c b h l = floored_grows (pos 2 *ℤ a +ℤ pos b) (pos 2 *ℤ c +ℤ pos b) (2 * b) (omega arith) (omega (arith, ints))

exact_ℤ : (q : ℤ) (b : ℕ) → 0 < b → nearest_ℤ (q *ℤ pos b) b ≡ q
exact_ℤ (pos q) b h = let e = mul_comm q b in only_ℤ (pos q *ℤ pos b) (pos q) b h (omega (arith, ints)) (omega (arith, ints))
exact_ℤ (negsuc q) b h = let e = mul_comm (suc q) b in only_ℤ (negsuc q *ℤ pos b) (negsuc q) b h (omega (arith, ints)) (omega (arith, ints))

at_most_ℤ : (a h : ℤ) (b : ℕ) → 0 < b → a ≤ℤ (h *ℤ pos b) → nearest_ℤ a b ≤ℤ h
at_most_ℤ a h b p l = subst (λ (z : ℤ). nearest_ℤ a b ≤ℤ z) (exact_ℤ h b p) (grows_ℤ a (h *ℤ pos b) b p l)

at_least_ℤ : (a h : ℤ) (b : ℕ) → 0 < b → (h *ℤ pos b) ≤ℤ a → h ≤ℤ nearest_ℤ a b
at_least_ℤ a h b p l = subst (λ (z : ℤ). z ≤ℤ nearest_ℤ a b) (exact_ℤ h b p) (grows_ℤ (h *ℤ pos b) a b p l)

natural : (a b : ℕ) → 0 < b → nearest_ℤ (pos a) b ≡ pos (nearest_ℕ a b)
unfolding nearest_ℕ
natural a b h = same_natural (nearest_ℤ (pos a) b) (at_least_ℤ (pos a) (pos 0) b h (omega (arith, ints)))

-- the laws of naturals, from those of integers
module _ (a b : ℕ) (h : 0 < b) where
  between_ℕ : (2 * (b * nearest_ℕ a b) ≤ 2 * a + b) × (2 * a < 2 * (b * nearest_ℕ a b) + b)
  between_ℕ =
      let p = subst (λ (z : ℤ). ((pos 2 *ℤ (pos b *ℤ z)) ≤ℤ (pos 2 *ℤ pos a +ℤ pos b)) × ((pos 2 *ℤ pos a) <ℤ (pos 2 *ℤ (pos b *ℤ z) +ℤ pos b))) (natural a b h) (between_ℤ (pos a) b h) in
      (omega (arith, ints), omega (arith, ints))

  only_ℕ : (r : ℕ) → 2 * (b * r) ≤ 2 * a + b → 2 * a < 2 * (b * r) + b → nearest_ℕ a b ≡ r
  unfolding nearest_ℕ
  only_ℕ r l u = ap nat_abs (only_ℤ (pos a) (pos r) b h (omega (arith, ints)) (omega (arith, ints)))

  grows_ℕ : (c : ℕ) → a ≤ c → nearest_ℕ a b ≤ nearest_ℕ c b
  grows_ℕ c l =
      let p = grows_ℤ (pos a) (pos c) b h (omega (arith, ints)) in
      let e = natural a b h in
      let f = natural c b h in
      omega (arith, ints)

  at_most_ℕ : (m : ℕ) → a ≤ m * b → nearest_ℕ a b ≤ m
  at_most_ℕ m l = let p = at_most_ℤ (pos a) (pos m) b h (omega (arith, ints)) in let e = natural a b h in omega (arith, ints)

  at_least_ℕ : (m : ℕ) → m * b ≤ a → m ≤ nearest_ℕ a b
  at_least_ℕ m l = let p = at_least_ℤ (pos a) (pos m) b h (omega (arith, ints)) in let e = natural a b h in omega (arith, ints)

exact_ℕ : (q b : ℕ) → 0 < b → nearest_ℕ (q * b) b ≡ q
unfolding nearest_ℕ
exact_ℕ q b h = ap nat_abs (exact_ℤ (pos q) b h)

pub nearest_laws : NearestLaws
nearest_laws = record {
  near_ℤ = λ a b h. let p = between_ℤ a b h in (p.0, omega (arith, ints));
  near_ℕ = λ a b h. let p = between_ℕ a b h in (p.0, omega arith);
  grows_ℤ = grows_ℤ;
  grows_ℕ = λ a c b h. grows_ℕ a b h c;
  exact_ℤ = exact_ℤ;
  exact_ℕ = exact_ℕ;
  at_most_ℤ = at_most_ℤ;
  at_most_ℕ = λ a m b h. at_most_ℕ a b h m;
  at_least_ℤ = at_least_ℤ;
  at_least_ℕ = λ a m b h. at_least_ℕ a b h m;
  natural = natural;
}

pub half_goes_up : HalfGoesUp
half_goes_up = record { between_ℤ = between_ℤ; between_ℕ = between_ℕ; only_ℤ = only_ℤ; only_ℕ = λ a r b h. only_ℕ a b h r }

covers_ℤ : (a : ℤ) (b : ℕ) → 0 < b → a ≤ℤ (pos b *ℤ round_up_ℤ a b)
unfolding round_up_ℤ
covers_ℤ a b h =
    let p = floored_is (neg_ℤ a) b h in
    let e = mul_neg b (floored (neg_ℤ a) b) in
    rw (mul_neg b (floored (neg_ℤ a) b)) (omega (arith, ints, p.0))

least_ℤ : (a r : ℤ) (b : ℕ) → 0 < b → a ≤ℤ (pos b *ℤ r) → round_up_ℤ a b ≤ℤ r
unfolding round_up_ℤ
least_ℤ a r b h l =
    let k = floored_most (neg_ℤ a) (neg_ℤ r) b h (rw (mul_neg b r) (omega (arith, ints))) in omega (arith, ints)

up_grows_ℤ : (a c : ℤ) (b : ℕ) → 0 < b → a ≤ℤ c → round_up_ℤ a b ≤ℤ round_up_ℤ c b
up_grows_ℤ a c b h l = least_ℤ a (round_up_ℤ c b) b h (let p = covers_ℤ c b h in omega (arith, ints))

-- by a divisor above 0 the order of products is that of the factors
cancel : (x y : ℤ) (b : ℕ) → 0 < b → (pos b *ℤ x) ≤ℤ (pos b *ℤ y) → x ≤ℤ y
cancel x y b h l = let k = floored_most (pos b *ℤ y) x b h l in let e = floored_only (pos b *ℤ y) y b h (omega (arith, ints)) (omega (arith, ints)) in omega (arith, ints)

antisym : (x y : ℤ) → x ≤ℤ y → y ≤ℤ x → x ≡ y
antisym x y l m = omega (arith, ints)

up_exact_ℤ : (q : ℤ) (b : ℕ) → 0 < b → round_up_ℤ (q *ℤ pos b) b ≡ q
up_exact_ℤ q b h =
    let e = *ℤ_comm q (pos b) in
    let c = covers_ℤ (q *ℤ pos b) b h in
    antisym (round_up_ℤ (q *ℤ pos b) b) q (least_ℤ (q *ℤ pos b) q b h (omega (arith, ints)))
    (cancel q (round_up_ℤ (q *ℤ pos b) b) b h (omega (arith, ints)))

up_natural : (a b : ℕ) → 0 < b → round_up_ℤ (pos a) b ≡ pos (round_up_ℕ a b)
unfolding round_up_ℕ
up_natural a b h = same_natural (round_up_ℤ (pos a) b) (cancel (pos 0) (round_up_ℤ (pos a) b) b h (let p = covers_ℤ (pos a) b h in let e = mul_comm b 0 in omega (arith, ints)))

module _ (a b : ℕ) (h : 0 < b) where
  covers_ℕ : a ≤ b * round_up_ℕ a b
  covers_ℕ =
      let p = subst (λ (z : ℤ). pos a ≤ℤ (pos b *ℤ z)) (up_natural a b h) (covers_ℤ (pos a) b h) in omega (arith, ints)

  pub least_ℕ : (r : ℕ) → a ≤ b * r → round_up_ℕ a b ≤ r
  least_ℕ r l = let p = least_ℤ (pos a) (pos r) b h (omega (arith, ints)) in let e = up_natural a b h in omega (arith, ints)

  up_grows_ℕ : (c : ℕ) → a ≤ c → round_up_ℕ a b ≤ round_up_ℕ c b
  up_grows_ℕ c l =
      let p = up_grows_ℤ (pos a) (pos c) b h (omega (arith, ints)) in
      let e = up_natural a b h in
      let f = up_natural c b h in
      omega (arith, ints)

up_exact_ℕ : (q b : ℕ) → 0 < b → round_up_ℕ (q * b) b ≡ q
unfolding round_up_ℕ
up_exact_ℕ q b h = ap nat_abs (up_exact_ℤ (pos q) b h)

pub round_up_laws : RoundUpLaws
round_up_laws = record {
  covers_ℤ = covers_ℤ;
  covers_ℕ = covers_ℕ;
  least_ℤ = least_ℤ;
  least_ℕ = λ a r b h. least_ℕ a b h r;
  grows_ℤ = up_grows_ℤ;
  grows_ℕ = λ a c b h. up_grows_ℕ a b h c;
  exact_ℤ = up_exact_ℤ;
  exact_ℕ = up_exact_ℕ;
  natural = up_natural;
}

-- a rounded i64 is an i64
pub nearest_fits : (a : ℤ) (b : ℕ) → 0 < b → SFits w64 a → SFits w64 (nearest_ℤ a b)
nearest_fits a b h f =
    let s = mul-le-mul_left 9223372036854775808 h in
    let l = at_most_ℤ a (pos 9223372036854775807) b h (omega (arith, ints)) in
    let g = at_least_ℤ a (negsuc 9223372036854775807) b h (omega (arith, ints)) in
    omega (arith, ints)

-- what `div_ceil` answers, by the rest m of the division
ceil_by_rest : (a b m : ℕ) → a % b ≡ m → 0 < b → a / b + min 1 m ≡ round_up_ℕ a b
ceil_by_rest a b zero e h =
    let c = covers_ℕ a b h in
    le_antisymm (le_of_mul-le-mul_left {m = a / b + 0} {n = round_up_ℕ a b} {k = b} (rw add-zero (omega (arith, div-add-mod a b))) h)
    (least_ℕ a b h (a / b + 0) (rw add-zero (omega (arith, div-add-mod a b))))
ceil_by_rest a b (suc m) e h =
    let c = covers_ℕ a b h in
    let l : a / b < round_up_ℕ a b = lt_of_mul-lt-mul_left b (omega (arith, div-add-mod a b)) in
    let u = least_ℕ a b h (suc (a / b)) (omega (arith, mul-suc b (a / b), div-add-mod a b, mod_below a b h)) in
    omega arith

pub ceil_rounds_up : (a b : ℕ) → 0 < b → a / b + min 1 (a % b) ≡ round_up_ℕ a b
ceil_rounds_up a b h = ceil_by_rest a b (a % b) refl h

-- a rounded u64 is a u64, and the rounded natural
pub nearest_natural : (a b : ℕ) → 0 < b → (nearest_ℤ (pos a) b ≡ pos (nearest_ℕ a b)) × (nearest_ℕ a b ≤ a)
nearest_natural a b h = (natural a b h, at_most_ℕ a b h a (omega (arith, mul-le-mul_left a h)))

-- what a dividend of 64 bits is rounded to
pub ruleset unsigned_quotients = (ints, to_z-of_z, nearest_natural)

pub ruleset signed_quotients = (ints, to_z-of_z, nearest_fits)
