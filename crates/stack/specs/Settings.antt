-- Settings of a stack: what is refused, and what is kept.
use Rattle.std.specs.Prelude.{◌≡◌, ℕ, Bool, if◌then◌else◌, ◌&&◌, is_some, Some, None, Ok, Err, Option, Result, ◌==◌}
use Rattle.calendar.specs.Days.{within}
use Rattle.stack.specs.declared.settings.Basis.{Basis}
use Rattle.stack.specs.declared.settings.Basis.TheVariants.{Wet, Dry}
use Rattle.stack.specs.declared.settings.StackSettings.{StackSettings}
use Rattle.stack.specs.declared.settings.SettingsFault.{SettingsFault}
use Rattle.stack.specs.declared.settings.SettingsFault.TheVariants.{AreaFactorOrBasis}

-- the letters W and D, by their codes
abbrev pub letter_of : Basis → ℕ
letter_of Wet = 87
letter_of Dry = 68

abbrev pub basis_of : ℕ → Option Basis
basis_of c = if c == letter_of Wet then Some Wet else (if c == letter_of Dry then Some Dry else None)

-- Settings as they are asked for: square decimetres, ten-thousandths, a letter's code.
pub record SettingsDraft : Type 0 where
  pub area : ℕ
  pub speed_factor : ℕ
  pub basis : ℕ

abbrev pub draft_of : StackSettings → SettingsDraft
draft_of s = record { area = s.area; speed_factor = s.speed_factor; basis = letter_of s.basis }

abbrev pub lawful : SettingsDraft → Bool
lawful d = within 1 20000 d.area && (within 1 20000 d.speed_factor && is_some (basis_of d.basis))

abbrev pub first_fault : SettingsDraft → Option SettingsFault
first_fault d = if lawful d then None else Some AreaFactorOrBasis

-- settings are made exactly where there is no fault, with the values asked for
abbrev pub SettingsOf : SettingsDraft → Result StackSettings SettingsFault → Type 0
SettingsOf d (Ok s) = (first_fault d ≡ None) × (draft_of s ≡ d)
SettingsOf d (Err f) = first_fault d ≡ Some f

abbrev pub fault_number : SettingsFault → ℕ
fault_number AreaFactorOrBasis = 2

-- again: settings, asked for as they are, are made again. same: settings with equal values are one.
pub record SettingsLaws : Type 0 where
  pub again : (s : StackSettings) → first_fault (draft_of s) ≡ None
  pub same : (s t : StackSettings) → draft_of s ≡ draft_of t → s ≡ t
