-- What a module holds of views, at opening and after each step. (document 02, E11)
use Rattle.std.specs.Prelude.{ℕ, ◌≡◌, Bool, true, false, cond, not, ◌||◌, List, length, replicate}
use Rattle.words.specs.Bits.{full}
use Rattle.words.specs.Array.{array}
use Rattle.views.specs.ViewWord.{view_word}
use Rattle.views.specs.Adoption.{adoptable, adopted_from}
use Rattle.views.specs.declared.Views.{Views}

-- "At opening every view is full, those in the last read's view words too."
unfoldable pub full_views : ℕ → Views
full_views n = record { words = array n (λ j. view_word (full n)); earlier = full n; adopted = full n; out = false }

-- a setup without head bit 5 has no views
unfoldable pub no_views : Views
no_views = record { words = replicate 16 0; earlier = 0; adopted = 0; out = false }

-- at opening
unfoldable pub fresh_views : Bool → ℕ → Views
fresh_views true n = full_views n
fresh_views false n = no_views

-- After a step that votes on the view words `voted`, whose read has the view words `this` and before which the local view was `local`: "if any module
-- has none, the receiver takes itself out and stays out until opened anew. Out, .. its adopted view stays."
unfoldable pub views_after : ℕ → Views → List ℕ → List ℕ → ℕ → Views
views_after n v voted this local = record {
  words = this;
  earlier = local;
  adopted = cond (v.out || not (adoptable n voted)) v.adopted (adopted_from n voted);
  out = v.out || not (adoptable n voted);
}

-- as every value of the struct has it: an array of 16 view words
abbrev pub ShapedViews : Views → Type 0
ShapedViews v = length v.words ≡ 16
