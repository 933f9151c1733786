-- A line of the sheet in document 01, a refusal and the greatest number, byte by byte. Computed in proofs/Cases.antt.
use Rattle.std.specs.Prelude.{◌≡◌, true, [], ◌∷◌}
use Rattle.text.specs.Text.{decimal}
use Rattle.text.specs.Lines.{line_of, refused_line}

-- each text is written out in ASCII codes
pub record Cases : Type 0 where
  -- `2 1 1011 1111 in`: health is bits 0, 2 and 3
  pub line : line_of 4 2 true 0 13 15
      ≡ 50 ∷ 32 ∷ 49 ∷ 32 ∷ 49 ∷ 48 ∷ 49 ∷ 49 ∷ 32 ∷ 49 ∷ 49 ∷ 49 ∷ 49 ∷ 32 ∷ 105 ∷ 110 ∷ 10 ∷ []
  -- `refused 14 at 7`
  pub refusal : refused_line 14 7
      ≡ 114 ∷ 101 ∷ 102 ∷ 117 ∷ 115 ∷ 101 ∷ 100 ∷ 32 ∷ 49 ∷ 52 ∷ 32 ∷ 97 ∷ 116 ∷ 32 ∷ 55 ∷ 10 ∷ []
  -- the greatest number takes all ten places
  pub greatest : decimal 4294967295 ≡ 52 ∷ 50 ∷ 57 ∷ 52 ∷ 57 ∷ 54 ∷ 55 ∷ 50 ∷ 57 ∷ 53 ∷ []
