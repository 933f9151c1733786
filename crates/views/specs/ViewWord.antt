-- View words: the second word that each module sends, of its local view, and how it is heard and aligned. (document 02, E11)
use Rattle.std.specs.Prelude.{ℕ, ◌+◌, ◌*◌, ◌/◌, ◌%◌, ◌^◌, Bool, true, false, cond, ◌&&◌, List, get_or, replicate, eqb, ltb}
use Rattle.words.specs.Word.{word_at, kind_unit}
use Rattle.words.specs.Bits.{bit}
use Rattle.words.specs.Array.{array}
use Rattle.rules.specs.Alignment.{from_previous}

-- "kind 10 with no bits but the N view bits"
abbrev pub view_word : ℕ → ℕ
view_word view = 10 * kind_unit + view

-- a word of that form: kind 10, no bit at N or above
unfoldable pub view_word_heard : ℕ → ℕ → Bool
view_word_heard n w = eqb (w / kind_unit) 10 && ltb (w % kind_unit) (2 ^ n)

-- "One controller bit covers a module's two words, and either word, if of another form, is missing by itself": the view word w of a module whose
-- controller bit is `on`, kind and all, or 0 where it is missing
unfoldable pub view_entry : ℕ → Bool → ℕ → ℕ
view_entry n on w = cond (on && view_word_heard n w) w 0

-- "a read has 2N words, syndromes first": how many words a read has, of a setup with and without head bit 5
abbrev pub read_words : Bool → ℕ → ℕ
read_words true n = n + n
read_words false n = n

-- the view words of such a read: that of module j + 1 stands at n + j
unfoldable pub views_read : ℕ → List ℕ → ℕ → List ℕ
views_read n read controller = array n (λ j. view_entry n (bit controller j) (word_at read (n + j)))

-- the same of any setup: without head bit 5 there are none
unfoldable pub views_seen : Bool → ℕ → List ℕ → ℕ → List ℕ
views_seen true n read controller = views_read n read controller
views_seen false n read controller = replicate 16 0

-- "aligned .. like syndromes": each view word from the previous read or from this one, by rule 3
unfoldable pub aligned_views : ℕ → Bool → ℕ → List ℕ → List ℕ → List ℕ
aligned_views n skew place previous this = array n (λ j. cond (from_previous skew place j) (get_or previous j 0) (get_or this j 0))
