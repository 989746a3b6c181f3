-- How a raw reading is judged, and what an accepted one keeps.
use Rattle.std.specs.Prelude.{◌≡◌, ℕ, if◌then◌else◌, not, ◌&&◌, Some, None, Ok, Err, Option, Result}
use Rattle.stack.specs.declared.marks.Mark.{Mark}
use Rattle.stack.specs.declared.marks.MarkFault.{MarkFault}
use Rattle.stack.specs.declared.readings.RawReading.{RawReading}
use Rattle.stack.specs.declared.readings.Reading.{Reading}
use Rattle.stack.specs.declared.readings.ReadingFault.{ReadingFault}
use Rattle.stack.specs.declared.readings.ReadingFault.TheVariants.{Mark as UnknownMark, OutOfRange}
use Rattle.stack.specs.Marks as marks
use Rattle.stack.specs.Quantities.{in_range}

abbrev pub fault_number : ReadingFault → ℕ
fault_number (UnknownMark f) = marks.fault_number f
fault_number OutOfRange = 14

-- the fault of a reading, once its mark is judged: the numbers count only behind V
abbrev pub fault_behind : RawReading → Result Mark MarkFault → Option ReadingFault
fault_behind r (Err f) = Some (UnknownMark f)
fault_behind r (Ok m) = if marks.valid m && not (in_range r.quantities) then Some OutOfRange else None

abbrev pub first_fault : RawReading → Option ReadingFault
first_fault r = fault_behind r (marks.mark_of r.mark)

-- an accepted reading as it came
abbrev pub raw_of : Reading → RawReading
raw_of r = record { mark = marks.letter_of r.mark; quantities = r.quantities }

-- a reading is accepted exactly where there is no fault, as it came
abbrev pub ReadingOf : RawReading → Result Reading ReadingFault → Type 0
ReadingOf w (Ok r) = (first_fault w ≡ None) × (raw_of r ≡ w)
ReadingOf w (Err f) = first_fault w ≡ Some f

-- again: an accepted reading, sent as it came, is accepted again. same: readings that came alike are one.
pub record ReadingLaws : Type 0 where
  pub again : (r : Reading) → first_fault (raw_of r) ≡ None
  pub same : (r t : Reading) → raw_of r ≡ raw_of t → r ≡ t
