-- The letters of marks.
use Rattle.std.proofs.Common.{◌≡◌, ℕ, Ok, refl, arith}
use Rattle.std.proofs.lemmas.Bool.Decides.{nat_tests}
use Rattle.stack.specs.declared.marks.Mark.{Mark}
use Rattle.stack.specs.declared.marks.Mark.TheVariants.{Valid, Breakdown, Repair, NoQualityControl, CalibrationOverdue, OutOfSpecification, PlannedMaintenance, Calibration, OutOfControl}
use Rattle.stack.specs.Marks.{letter_of, mark_of, MarkLaws}

found : (m : Mark) → mark_of (letter_of m) ≡ Ok m
found Valid = refl
found Breakdown = refl
found Repair = refl
found NoQualityControl = refl
found CalibrationOverdue = refl
found OutOfSpecification = refl
found PlannedMaintenance = refl
found Calibration = refl
found OutOfControl = refl

letter : (c : ℕ) (m : Mark) → mark_of c ≡ Ok m → letter_of m ≡ c
letter c m e = grind (arith, nat_tests)

pub mark_laws : MarkLaws
mark_laws = record { found = found; letter = letter }
