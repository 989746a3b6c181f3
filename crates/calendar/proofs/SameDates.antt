-- Dates with equal days are equal, and what the calls that make dates answer.
use Rattle.std.proofs.Common.{◌≡◌, ℕ, ◌+◌, ◌<◌, true, Some, None, Option, sym, ap, ◌∙◌, subst, inl, inr, arith}
use mathlib.Core.HLevel.{×_prop, ×₃_prop, Σ_prop_path}
use native.Mathlib.Bridge.{le_prop}
use Rattle.std.proofs.lemmas.Bool.{both_ways, cases_eq}
use Rattle.std.proofs.lemmas.Bool.Decides.{nat_tests}
use Rattle.calendar.specs.declared.dates.Date.{Date}
use Rattle.calendar.specs.Days.{Day, Lawful, lawful as lawful-test, calendar_days, day_after, day_at, day_number}
use Rattle.calendar.specs.Dates.{day_of, number_of, DateOfDay, DateOfNumber, DateAfter, DateLaws}
use Rattle.calendar.proofs.Calendars.{after_lawful, day_laws}

lawful : (d : Date) → Lawful (day_of d)
lawful d = (d.year_in_range, d.month_in_range, d.day_in_range)

made : (d : Day) × Lawful d → Date
made (d, l) = record { year = d.year; month = d.month; day = d.day; year_in_range = l.0; month_in_range = l.1; day_in_range = l.2 }

pub lawful_is : (w : Day) → lawful-test w ≡ true → Lawful w
lawful_is w e = grind (arith, nat_tests)

lawful_true : (w : Day) → Lawful w → lawful-test w ≡ true
lawful_true w l = grind (arith, nat_tests)

one_proof : (d : Day) → IsProp (Lawful d)
one_proof d = ×₃_prop (×_prop le_prop le_prop) (×_prop le_prop le_prop) (×_prop le_prop le_prop)

same_day : (d e : Date) → day_of d ≡ day_of e → d ≡ e
unfolding made lawful
same_day d e h = ap made (Σ_prop_path one_proof {u = (day_of d, lawful d)} {v = (day_of e, lawful e)} h)

pub number_below : (d : Date) → number_of d < calendar_days
number_below d = day_laws.number_below (day_of d) (lawful d)

pub date_laws : DateLaws
date_laws = record {
  lawful = lawful;
  number_below = number_below;
  same_day = same_day;
  same_number = λ d e h. same_day d e (day_laws.same (day_of d) (day_of e) (lawful d) (lawful e) h);
}

-- a date made of the day after is the date after
pub after_is : (d : Date) (w : Day) (r : Option Date) → day_after (day_of d) ≡ w → DateOfDay w r → DateAfter d r
after_is d w None h f =
    elim (cases_eq (number_of d + 1) calendar_days) [
      | inl last ↦ last
      | inr other ↦ absurd (both_ways (lawful-test w) f (lawful_true w (subst Lawful h (after_lawful (day_of d) (lawful d) (omega (arith, day_laws.number_below (day_of d) (lawful d)))))))
    ]
after_is d w (Some e) h (t, k) =
    (k ∙ sym h, ap day_number (k ∙ sym h) ∙ day_laws.after (day_of d) (lawful d))

-- a date made of the day with the number n is that of the day counted n
pub number_is : (n : ℕ) (w : Day) (r : Option Date) → Lawful w → day_number w ≡ n → DateOfDay w r → DateOfNumber n r
number_is n w None l h f = absurd (both_ways (lawful-test w) f (lawful_true w l))
number_is n w (Some d) l h (t, k) =
    (omega (arith, day_laws.number_below w l), k ∙ sym (day_laws.at_number w l) ∙ ap day_at h, ap day_number k ∙ h)

-- and no other date has that number
pub number_only : (n : ℕ) (r : Option Date) → DateOfNumber n r → (d : Date) → number_of d ≡ n → r ≡ Some d
number_only n None f d h = absurd (omega (arith, day_laws.number_below (day_of d) (lawful d)))
number_only n (Some e) (l, k, m) d h = ap Some (date_laws.same_number e d (m ∙ sym h))
