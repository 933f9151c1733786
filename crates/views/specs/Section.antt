-- The words of the views at the end of a saved state with head bit 5: "the last read's N view words, kind and all (0 if unheard), the two latest local
-- views (the latest first, equal to the kind 10 word's), the adopted view, and 1 if out, else 0, the last four plain". (document 02, E11)
-- In an image of n modules, whose words are w or whose bytes are s, they stand from `at` on. Without head bit 5 there are none.
use Rattle.std.specs.Prelude.{ℕ, ◌+◌, ◌-◌, ◌^◌, Bool, true, false, not, ◌&&◌, ◌||◌, List, [], ◌∷◌, get_or, eqb, leb, ltb}
use Rattle.words.specs.Word.{word_at}
use Rattle.words.specs.Bits.{b2n}
use Rattle.words.specs.Array.{array, bounded}
use Rattle.words.specs.Verdict.{Test, single, each}
use Rattle.words.specs.Runs.{Run, one}
use Rattle.views.specs.ViewWord.{view_word_heard}
use Rattle.views.specs.Views.{no_views}
use Rattle.views.specs.declared.Views.{Views}

-- how many words there are
abbrev pub views_count : Bool → ℕ → ℕ
views_count true n = n + 4
views_count false n = 0

-- ---- tested

-- a view word as it is kept: 0, or one that is heard
unfoldable pub view_ok : ℕ → ℕ → Bool
view_ok n w = eqb w 0 || view_word_heard n w

-- number 8 at the first that is wrong; `view` is that of the kind 10 word
abbrev pub view_tests : Bool → (ℕ → ℕ) → ℕ → ℕ → ℕ → List Test
view_tests true w n view at =
    each n (λ j. view_ok n (w (at + j))) 8 at
    ∷ single (eqb (w (at + n)) view) 8 (at + n)
    ∷ single (ltb (w (at + n + 1)) (2 ^ n)) 8 (at + n + 1)
    ∷ single (ltb (w (at + n + 2)) (2 ^ n)) 8 (at + n + 2)
    ∷ single (leb (w (at + n + 3)) 1) 8 (at + n + 3)
    ∷ []
view_tests false w n view at = []

-- ---- read

unfoldable pub views_in : Bool → List ℕ → ℕ → ℕ → Views
views_in true s n at = record {
  words = array n (λ j. word_at s (at + j));
  earlier = word_at s (at + n + 1);
  adopted = word_at s (at + n + 2);
  out = eqb (word_at s (at + n + 3)) 1;
}
views_in false s n at = no_views

-- ---- written

-- `latest` is the local view
abbrev pub view_runs : Bool → ℕ → ℕ → Views → List Run
view_runs true n latest v =
    record { count = n; word = λ j. get_or v.words j 0 } ∷ one latest ∷ one v.earlier ∷ one v.adopted ∷ one (b2n v.out) ∷ []
view_runs false n latest v = []

-- the views have room in their words, and nothing stands in what no word shows: the view words from n on, and all where there are no words
unfoldable pub views_roomy : Bool → ℕ → Views → Bool
views_roomy true n v = bounded n (2 ^ 32 - 1) v.words && (ltb v.earlier (2 ^ 16) && ltb v.adopted (2 ^ 16))
views_roomy false n v = bounded 0 0 v.words && ((eqb v.earlier 0 && eqb v.adopted 0) && not v.out)
