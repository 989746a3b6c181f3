use Rattle.std.proofs.Common.{arith}
use Rattle.std.proofs.lemmas.Int.{ints, to_z-of_z}
use Rattle.calendar.specs.Rounding.{nearest_ℤ}
use Rattle.calendar.proofs.Quotients.{euclid_floors}
use Rattle.calendar.proofs.rounding.nearest_integer.Goals as goal

pub returns : goal.returns
unfolding nearest_ℤ
returns c = grind (arith, ints, to_z-of_z, euclid_floors)
