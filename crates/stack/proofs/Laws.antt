-- Proofs of the laws that specs/ states and that contracts name. Upper crates cite this file and specs/ alone.
use Rattle.stack.specs.Marks.{MarkLaws}
use Rattle.stack.specs.Readings.{ReadingLaws}
use Rattle.stack.specs.Hours.{HourLaws}
use Rattle.stack.specs.Settings.{SettingsLaws}
use Rattle.stack.specs.Working.{WorkingLaws}
use Rattle.stack.proofs.Letters as letters
use Rattle.stack.proofs.Same as same
use Rattle.stack.proofs.Minutes as minutes
use Rattle.stack.proofs.Figures as figures

pub mark_laws : MarkLaws
mark_laws = letters.mark_laws

pub reading_laws : ReadingLaws
reading_laws = same.reading_laws

pub hour_laws : HourLaws
hour_laws = minutes.hour_laws

pub settings_laws : SettingsLaws
settings_laws = same.settings_laws

pub working_laws : WorkingLaws
working_laws = figures.working_laws
