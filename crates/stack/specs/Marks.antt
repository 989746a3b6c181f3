-- Marks and their letters.
use Rattle.std.specs.Prelude.{◌≡◌, ℕ, Bool, if◌then◌else◌, Ok, Err, Result, ◌==◌}
use Rattle.stack.specs.declared.marks.Mark.{Mark}
use Rattle.stack.specs.declared.marks.Mark.TheVariants.{Valid, Breakdown, Repair, NoQualityControl, CalibrationOverdue, OutOfSpecification, PlannedMaintenance, Calibration, OutOfControl}
use Rattle.stack.specs.declared.marks.MarkFault.{MarkFault}
use Rattle.stack.specs.declared.marks.MarkFault.TheVariants.{Unknown}

-- the letter of each mark, by its code
abbrev pub letter_of : Mark → ℕ
letter_of Valid = 86  -- V
letter_of Breakdown = 66  -- B
letter_of Repair = 82  -- R
letter_of NoQualityControl = 81  -- Q
letter_of CalibrationOverdue = 79  -- O
letter_of OutOfSpecification = 83  -- S
letter_of PlannedMaintenance = 80  -- P
letter_of Calibration = 67  -- C
letter_of OutOfControl = 76  -- L

-- V alone is valid
abbrev pub valid : Mark → Bool
valid m = letter_of m == letter_of Valid

-- the mark with a letter, where there is one
abbrev pub mark_of : ℕ → Result Mark MarkFault
mark_of c =
    if c == letter_of Valid then Ok Valid
    else (if c == letter_of Breakdown then Ok Breakdown
    else (if c == letter_of Repair then Ok Repair
    else (if c == letter_of NoQualityControl then Ok NoQualityControl
    else (if c == letter_of CalibrationOverdue then Ok CalibrationOverdue
    else (if c == letter_of OutOfSpecification then Ok OutOfSpecification
    else (if c == letter_of PlannedMaintenance then Ok PlannedMaintenance
    else (if c == letter_of Calibration then Ok Calibration
    else (if c == letter_of OutOfControl then Ok OutOfControl
    else Err Unknown))))))))

abbrev pub fault_number : MarkFault → ℕ
fault_number Unknown = 13

-- found: each mark is found by its letter. letter: what is found has the letter.
pub record MarkLaws : Type 0 where
  pub found : (m : Mark) → mark_of (letter_of m) ≡ Ok m
  pub letter : (c : ℕ) (m : Mark) → mark_of c ≡ Ok m → letter_of m ≡ c
