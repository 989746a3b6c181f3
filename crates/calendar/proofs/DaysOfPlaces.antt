-- The day of the term in which a place lies.
use Rattle.std.proofs.Common.{◌≡◌, ℕ, ◌+◌, ◌*◌, ◌/◌, ◌<◌, ◌≤◌, Some, subst, mul_comm, mul-le-mul_left, mul-suc, arith}
use Rattle.std.proofs.lemmas.Bool.Decides.{nat_tests}
use Rattle.std.proofs.lemmas.Nat.{div_below}
use Rattle.calendar.specs.declared.terms.Term.{Term}
use Rattle.calendar.specs.Terms.{day_of_place, TermLaws}
use Rattle.calendar.proofs.Quotients.{quotient_is, quotient_only}

in_day : (places : ℕ) (t : Term) (place day : ℕ) → 0 < places → day < t.days → day * places ≤ place → place < day * places + places → day_of_place places t place ≡ Some day
in_day places t place day h d l u =
    let c = mul_comm day places in
    let e : place / places ≡ day = quotient_only place places day (omega arith) (omega arith) in
    let w : place < places * t.days = omega (arith, mul-le-mul_left places d, mul-suc places day) in
    grind (arith, nat_tests)

day_has : (places : ℕ) (t : Term) (place day : ℕ) → 0 < places → day_of_place places t place ≡ Some day → (day < t.days) × (day * places ≤ place) × (place < day * places + places)
day_has places t place day h e =
    let w : place < places * t.days = grind (arith, nat_tests) in
    let f : place / places ≡ day = grind (arith, nat_tests) in
    let q = quotient_is place places h in
    let b = div_below place places t.days h (omega (arith, mul_comm places t.days)) in
    let c = mul_comm places (place / places) in
    subst (λ (n : ℕ). (n < t.days) × (n * places ≤ place) × (place < n * places + places)) f (b, omega arith, omega arith)

pub term_laws : TermLaws
term_laws = record { in_day = in_day; day_has = day_has }
