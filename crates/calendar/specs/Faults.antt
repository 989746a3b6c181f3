-- The text of a fault.
use Rattle.std.specs.Prelude.{ℕ, List, ◌++◌, decimal, codes}

-- as `fault 1`
abbrev pub fault_text : ℕ → List ℕ
fault_text number = codes "fault " ++ decimal number
