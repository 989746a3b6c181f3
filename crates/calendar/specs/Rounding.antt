-- Rounding of a quotient a / b of whole numbers, b above 0, and the laws by which callers are proved.
use Rattle.std.specs.Prelude.{◌≡◌, ℕ, ◌+◌, ◌*◌, ◌/◌, ◌<◌, ◌≤◌, ℤ, pos, negsuc, ◌+ℤ◌, ◌*ℤ◌, neg_ℤ, ◌≤ℤ◌, ◌<ℤ◌, unsigned_abs, refl}

-- a / b rounded down, below zero too
unfoldable pub floored : ℤ → ℕ → ℤ
floored (pos a) b = pos (a / b)
floored (negsuc a) b = negsuc (a / b)

-- a / b rounded to the nearest: (2a + b) / 2b rounded down, so that a half goes up, below zero too
unfoldable pub nearest_ℤ : ℤ → ℕ → ℤ
nearest_ℤ a b = floored (pos 2 *ℤ a +ℤ pos b) (2 * b)

unfoldable pub nearest_ℕ : ℕ → ℕ → ℕ
nearest_ℕ a b = unsigned_abs (nearest_ℤ (pos a) b)

-- on naturals both are one
pub nearest_ℕ_is_nearest_ℤ : (a b : ℕ) → pos (nearest_ℕ a b) ≡ nearest_ℤ (pos a) b
unfolding nearest_ℕ nearest_ℤ floored
nearest_ℕ_is_nearest_ℤ a b = refl

-- a / b rounded up
unfoldable pub round_up_ℤ : ℤ → ℕ → ℤ
round_up_ℤ a b = neg_ℤ (floored (neg_ℤ a) b)

unfoldable pub round_up_ℕ : ℕ → ℕ → ℕ
round_up_ℕ a b = unsigned_abs (round_up_ℤ (pos a) b)

-- What rounding to the nearest keeps wherever a half goes: callers use these.
-- near: |2(b·r − a)| ≤ b for the rounded r. exact: at a multiple of b nothing is rounded.
-- at_most, at_least: a bound h·b on a is a bound h on the result. natural: on naturals both definitions are one.
pub record NearestLaws : Type 0 where
  pub near_ℤ : (a : ℤ) (b : ℕ) → 0 < b → ((pos 2 *ℤ (pos b *ℤ nearest_ℤ a b)) ≤ℤ (pos 2 *ℤ a +ℤ pos b)) × ((pos 2 *ℤ a) ≤ℤ (pos 2 *ℤ (pos b *ℤ nearest_ℤ a b) +ℤ pos b))
  pub near_ℕ : (a b : ℕ) → 0 < b → (2 * (b * nearest_ℕ a b) ≤ 2 * a + b) × (2 * a ≤ 2 * (b * nearest_ℕ a b) + b)
  pub grows_ℤ : (a c : ℤ) (b : ℕ) → 0 < b → a ≤ℤ c → nearest_ℤ a b ≤ℤ nearest_ℤ c b
  pub grows_ℕ : (a c b : ℕ) → 0 < b → a ≤ c → nearest_ℕ a b ≤ nearest_ℕ c b
  pub exact_ℤ : (q : ℤ) (b : ℕ) → 0 < b → nearest_ℤ (q *ℤ pos b) b ≡ q
  pub exact_ℕ : (q b : ℕ) → 0 < b → nearest_ℕ (q * b) b ≡ q
  pub at_most_ℤ : (a h : ℤ) (b : ℕ) → 0 < b → a ≤ℤ (h *ℤ pos b) → nearest_ℤ a b ≤ℤ h
  pub at_most_ℕ : (a h b : ℕ) → 0 < b → a ≤ h * b → nearest_ℕ a b ≤ h
  pub at_least_ℤ : (a h : ℤ) (b : ℕ) → 0 < b → (h *ℤ pos b) ≤ℤ a → h ≤ℤ nearest_ℤ a b
  pub at_least_ℕ : (a h b : ℕ) → 0 < b → h * b ≤ a → h ≤ nearest_ℕ a b
  pub natural : (a b : ℕ) → 0 < b → nearest_ℤ (pos a) b ≡ pos (nearest_ℕ a b)

-- Where a half goes: b(2r − 1) ≤ 2a < b(2r + 1), between two multiples of b, and no other r does that.
pub record HalfGoesUp : Type 0 where
  pub between_ℤ : (a : ℤ) (b : ℕ) → 0 < b → ((pos 2 *ℤ (pos b *ℤ nearest_ℤ a b)) ≤ℤ (pos 2 *ℤ a +ℤ pos b)) × ((pos 2 *ℤ a) <ℤ (pos 2 *ℤ (pos b *ℤ nearest_ℤ a b) +ℤ pos b))
  pub between_ℕ : (a b : ℕ) → 0 < b → (2 * (b * nearest_ℕ a b) ≤ 2 * a + b) × (2 * a < 2 * (b * nearest_ℕ a b) + b)
  pub only_ℤ : (a r : ℤ) (b : ℕ) → 0 < b → (pos 2 *ℤ (pos b *ℤ r)) ≤ℤ (pos 2 *ℤ a +ℤ pos b) → (pos 2 *ℤ a) <ℤ (pos 2 *ℤ (pos b *ℤ r) +ℤ pos b) → nearest_ℤ a b ≡ r
  pub only_ℕ : (a r b : ℕ) → 0 < b → 2 * (b * r) ≤ 2 * a + b → 2 * a < 2 * (b * r) + b → nearest_ℕ a b ≡ r

-- Rounding up: a ≤ b·r, and r is the least such number.
pub record RoundUpLaws : Type 0 where
  pub covers_ℤ : (a : ℤ) (b : ℕ) → 0 < b → a ≤ℤ (pos b *ℤ round_up_ℤ a b)
  pub covers_ℕ : (a b : ℕ) → 0 < b → a ≤ b * round_up_ℕ a b
  pub least_ℤ : (a r : ℤ) (b : ℕ) → 0 < b → a ≤ℤ (pos b *ℤ r) → round_up_ℤ a b ≤ℤ r
  pub least_ℕ : (a r b : ℕ) → 0 < b → a ≤ b * r → round_up_ℕ a b ≤ r
  pub grows_ℤ : (a c : ℤ) (b : ℕ) → 0 < b → a ≤ℤ c → round_up_ℤ a b ≤ℤ round_up_ℤ c b
  pub grows_ℕ : (a c b : ℕ) → 0 < b → a ≤ c → round_up_ℕ a b ≤ round_up_ℕ c b
  pub exact_ℤ : (q : ℤ) (b : ℕ) → 0 < b → round_up_ℤ (q *ℤ pos b) b ≡ q
  pub exact_ℕ : (q b : ℕ) → 0 < b → round_up_ℕ (q * b) b ≡ q
  pub natural : (a b : ℕ) → 0 < b → round_up_ℤ (pos a) b ≡ pos (round_up_ℕ a b)
