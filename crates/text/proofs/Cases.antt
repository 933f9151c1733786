-- The cases come out as stated, each computed.
use mathlib.Core.Path.{refl}
use Rattle.words.specs.Bits.{bit}
use Rattle.text.specs.Text.{numeral, vector}
use Rattle.text.specs.Lines.{line_with, refused_line}
use Rattle.text.specs.Cases.{Cases}

pub cases : Cases
unfolding bit numeral vector line_with refused_line
cases = record { line = refl; refusal = refl; greatest = refl }
