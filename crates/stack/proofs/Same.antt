-- Values of types with invariants are known by their other fields, and lawful ones are judged lawful again.
use Rattle.std.proofs.Common.{◌≡◌, ℕ, Bool, true, false, is_some, Some, None, Ok, refl, ap, ◌∙◌, arith}
use mathlib.Core.HLevel.{Σ_prop_path}
use Rattle.std.proofs.Props.{props}
use Rattle.std.proofs.lemmas.Bool.Decides.{nat_tests}
use Rattle.calendar.specs.Days.{Within}
use Rattle.stack.specs.declared.marks.Mark.{Mark}
use Rattle.stack.specs.declared.quantities.Quantities.{Quantities}
use Rattle.stack.specs.declared.readings.Reading.{Reading}
use Rattle.stack.specs.declared.means.Means.{Means}
use Rattle.stack.specs.declared.settings.Basis.{Basis}
use Rattle.stack.specs.declared.settings.Basis.TheVariants.{Wet, Dry}
use Rattle.stack.specs.declared.settings.StackSettings.{StackSettings}
use Rattle.stack.specs.Marks as marks
use Rattle.stack.specs.Quantities.{in_range}
use Rattle.stack.specs.Readings as readings
use Rattle.stack.specs.Settings as settings
use Rattle.stack.proofs.Letters.{mark_laws}

pub same_pair : {A B : Type 0} (x y : A) (a b : B) → x ≡ y → a ≡ b → ◌≡◌ {A = A × B} (x, a) (y, b)
same_pair x y a b e f = cc

-- a mark with numbers that are in range behind V
abbrev Sound : Mark × Quantities → Type 0
Sound p = marks.valid p.0 ≡ true → in_range p.1 ≡ true

abbrev reading : (p : Mark × Quantities) × Sound p → Reading
reading u = record { mark = u.0.0; quantities = u.0.1; in_range = u.1 }

same_reading : (r t : Reading) → readings.raw_of r ≡ readings.raw_of t → r ≡ t
same_reading r t e =
    let l : marks.letter_of r.mark ≡ marks.letter_of t.mark = ap (λ w. w.mark) e in
    let a = mark_laws.found r.mark in
    let b = mark_laws.found t.mark in
    let m : r.mark ≡ t.mark = cc in
    ap reading (Σ_prop_path {B = Sound} (λ p. hlevel props) {u = ((r.mark, r.quantities), r.in_range)} {v = ((t.mark, t.quantities), t.in_range)} (same_pair r.mark t.mark r.quantities t.quantities m (ap (λ w. w.quantities) e)))

reading_again : (r : Reading) → readings.first_fault (readings.raw_of r) ≡ None
reading_again r = ap (readings.fault_behind (readings.raw_of r)) (mark_laws.found r.mark) ∙ go (marks.valid r.mark) refl
  where
    go : (b : Bool) → marks.valid r.mark ≡ b → readings.fault_behind (readings.raw_of r) (Ok r.mark) ≡ None
    go true e = let i = r.in_range e in rw (e, i)
    go false e = rw e

pub reading_laws : readings.ReadingLaws
reading_laws = record { again = reading_again; same = same_reading }

abbrev means : (q : Quantities) × (in_range q ≡ true) → Means
means u = record { quantities = u.0; in_range = u.1 }

pub same_means : (m n : Means) → m.quantities ≡ n.quantities → m ≡ n
same_means m n e = ap means (Σ_prop_path (λ q. hlevel props) {u = (m.quantities, m.in_range)} {v = (n.quantities, n.in_range)} e)

-- an area and a factor in range
abbrev Sized : ℕ × ℕ → Type 0
Sized p = Within 1 20000 p.0 × Within 1 20000 p.1

abbrev settings_with : Basis → (p : ℕ × ℕ) × Sized p → StackSettings
settings_with b u = record { area = u.0.0; speed_factor = u.0.1; basis = b; area_in_range = u.1.0; factor_in_range = u.1.1 }

basis_found : (b : Basis) → settings.basis_of (settings.letter_of b) ≡ Some b
basis_found Wet = refl
basis_found Dry = refl

same_settings : (s t : StackSettings) → settings.draft_of s ≡ settings.draft_of t → s ≡ t
same_settings s t e =
    let l : settings.letter_of s.basis ≡ settings.letter_of t.basis = ap (λ d. d.basis) e in
    let a = basis_found s.basis in
    let b = basis_found t.basis in
    let m : s.basis ≡ t.basis = cc in
    let p = Σ_prop_path {B = Sized} (λ p. hlevel props) {u = ((s.area, s.speed_factor), (s.area_in_range, s.factor_in_range))} {v = ((t.area, t.speed_factor), (t.area_in_range, t.factor_in_range))} (same_pair s.area t.area s.speed_factor t.speed_factor (ap (λ d. d.area) e) (ap (λ d. d.speed_factor) e)) in
    ap (settings_with s.basis) p ∙ ap (λ b. settings_with b ((t.area, t.speed_factor), (t.area_in_range, t.factor_in_range))) m

settings_again : (s : StackSettings) → settings.first_fault (settings.draft_of s) ≡ None
settings_again s =
    let h : is_some (settings.basis_of (settings.letter_of s.basis)) ≡ true = ap is_some (basis_found s.basis) in
    let a = s.area_in_range in
    let f = s.factor_in_range in
    grind (arith, nat_tests)

pub settings_laws : settings.SettingsLaws
settings_laws = record { again = settings_again; same = same_settings }
