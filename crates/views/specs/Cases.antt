-- View words and what is adopted from them, sentence by sentence (document 02, E11): what the definitions give, and what document 02 says. Computed in
-- proofs/Cases.antt.
use Rattle.std.specs.Prelude.{ℕ, ◌+◌, ◌*◌, ◌≡◌, Bool, true, false, ◌&&◌, List, [], ◌∷◌, ◌++◌, get_or, eqb}
use Rattle.words.specs.Word.{kind_unit, bytes_of}
use Rattle.words.specs.Bits.{b2n}
use Rattle.words.specs.Verdict.{first_refusal}
use Rattle.words.specs.Verdict.{Verdict}
use Rattle.views.specs.ViewWord.{view_word, view_entry, read_words, views_read, aligned_views}
use Rattle.views.specs.Adoption.{adoptable, adopted_from}
use Rattle.views.specs.Views.{full_views, no_views, views_after}
use Rattle.views.specs.Section.{views_count, view_tests}
use Rattle.views.specs.declared.Views.{Views}

-- ---- the table

-- one line
pub record Case : Type 0 where
  pub gives : ℕ
  pub says : ℕ

-- such a line
abbrev pub case : ℕ → ℕ → Case
case gives says = record { gives = gives; says = says }

-- in every line both are the same
abbrev pub right : List Case → Bool
right [] = true
right (c ∷ cs) = eqb c.gives c.says && right cs

-- the entries of a list from j on
abbrev pub entries : List ℕ → ℕ → List ℕ → List Case
entries l j [] = []
entries l j (v ∷ vs) = case (get_or l j 0) v ∷ entries l (j + 1) vs

-- ---- a view word

-- the view word of a view, and none
abbrev pub v : ℕ → ℕ
v view = view_word view

abbrev pub none : ℕ
none = 0

-- a word of kind 5, a bus word
abbrev pub bus_word_of : ℕ → ℕ
bus_word_of syndrome = 5 * kind_unit + syndrome

-- ---- which are heard
-- Of four modules: every view of four bits, kind and all, the empty one too. A word of another kind, one with a bit at N or above, and one whose
-- controller bit is 0 are missing, each by itself.
abbrev pub heard_cases : List Case
heard_cases =
    case (view_entry 4 true (v 11)) 2684354571
    ∷ case (view_entry 4 true (v 15)) (v 15)
    ∷ case (view_entry 4 true (v 0)) 2684354560
    ∷ case (view_entry 4 true (bus_word_of 11)) none
    ∷ case (view_entry 4 true (11 * kind_unit + 11)) none
    ∷ case (view_entry 4 true (v 16)) none
    ∷ case (view_entry 4 true (v 134217743)) none
    ∷ case (view_entry 4 false (v 11)) none
    ∷ []

-- ---- a read has 2N words, syndromes first, and one controller bit covers both words of a module
-- Three modules: the syndrome of module 1 is of another kind and its view word is heard; the view word of module 2 has a bit at N; the controller bit
-- of module 3 is 0.
abbrev pub read_of : List ℕ → List ℕ
read_of l = bytes_of 6 (λ i. get_or l i 0)

abbrev pub read_cases : List Case
read_cases =
    case (read_words true 3) 6
    ∷ case (read_words false 3) 3
    ∷ (entries (views_read 3 (read_of (v 7 ∷ bus_word_of 7 ∷ bus_word_of 7 ∷ v 6 ∷ v 8 ∷ v 5 ∷ [])) 3) 0 (v 6 ∷ none ∷ none ∷ none ∷ [])
    ++ entries (views_read 3 (read_of (v 7 ∷ bus_word_of 7 ∷ bus_word_of 7 ∷ v 6 ∷ v 7 ∷ v 5 ∷ [])) 7) 0 (v 6 ∷ v 7 ∷ v 5 ∷ none ∷ []))

-- ---- aligned like syndromes
-- Read place 2 of four modules, u = 1: modules 1 and 2 from the previous read, one that was missing there too. With u = 0 all from this one.
abbrev pub aligned_cases : List Case
aligned_cases =
    entries (aligned_views 4 true 2 (v 1 ∷ none ∷ v 3 ∷ v 4 ∷ []) (v 5 ∷ v 6 ∷ none ∷ v 8 ∷ [])) 0 (v 1 ∷ none ∷ none ∷ v 8 ∷ none ∷ [])
    ++ entries (aligned_views 4 false 2 (v 1 ∷ none ∷ v 3 ∷ v 4 ∷ []) (v 5 ∷ v 6 ∷ none ∷ v 8 ∷ [])) 0 (v 5 ∷ v 6 ∷ none ∷ v 8 ∷ none ∷ [])

-- ---- more than half of all N

-- n view words decide (1) or not (0)
abbrev pub decides : ℕ → List ℕ → ℕ → Case
decides n views says = case (b2n (adoptable n views)) says

-- they decide for this view
abbrev pub adopts : ℕ → List ℕ → ℕ → List Case
adopts n views view = decides n views 1 ∷ case (adopted_from n views) view ∷ []

-- Three of four and three of five are enough, two of four and two of five are not, even where all that are heard agree. A missing word counts for
-- neither value: it is no vote for a module and none against it.
abbrev pub half_cases : List Case
half_cases =
    decides 4 (v 15 ∷ v 15 ∷ none ∷ none ∷ []) 0
    ∷ decides 5 (v 31 ∷ none ∷ v 31 ∷ none ∷ none ∷ []) 0
    ∷ decides 4 (v 0 ∷ v 0 ∷ none ∷ none ∷ []) 0
    ∷ decides 4 (none ∷ none ∷ none ∷ none ∷ []) 0
    ∷ (adopts 4 (v 15 ∷ v 15 ∷ none ∷ v 15 ∷ []) 15 ++ (adopts 4 (v 0 ∷ none ∷ v 0 ∷ v 0 ∷ []) 0 ++ adopts 5 (v 31 ∷ none ∷ v 31 ∷ none ∷ v 31 ∷ []) 31))

-- ---- for each module
-- Each module by itself: 3 is adopted though two of the four sent another view. If one module has no value, none is adopted.
abbrev pub module_cases : List Case
module_cases =
    adopts 4 (v 1 ∷ v 3 ∷ v 3 ∷ v 2 ∷ []) 3
    ++ (decides 4 (v 15 ∷ v 15 ∷ v 7 ∷ v 7 ∷ []) 0
    ∷ decides 4 (v 15 ∷ v 15 ∷ v 7 ∷ none ∷ []) 0
    ∷ decides 4 (v 1 ∷ v 1 ∷ v 0 ∷ v 0 ∷ []) 0
    ∷ adopts 5 (v 30 ∷ v 29 ∷ v 27 ∷ v 23 ∷ v 15 ∷ []) 31)

-- ---- at opening

-- the earlier local view, the adopted view, and whether it is out
abbrev pub holds : Views → ℕ → ℕ → ℕ → List Case
holds h earlier adopted out = case h.earlier earlier ∷ case h.adopted adopted ∷ case (b2n h.out) out ∷ []

-- every view is full; without head bit 5 there are none
abbrev pub opened_cases : List Case
opened_cases =
    holds (full_views 4) 15 15 0
    ++ (entries (full_views 4).words 0 (v 15 ∷ v 15 ∷ v 15 ∷ v 15 ∷ none ∷ [])
    ++ (holds no_views 0 0 0 ++ entries no_views.words 0 (none ∷ none ∷ [])))

-- ---- after a step

-- four modules, after a step that votes on these view words, with these in its read, and with local view 13 before it
abbrev pub after : Views → List ℕ → Views
after h voted = views_after 4 h voted (v 14 ∷ none ∷ v 12 ∷ v 14 ∷ []) 13

-- words that decide for 14, and words of which module 4 has no value
abbrev pub enough : List ℕ
enough = v 14 ∷ none ∷ v 14 ∷ v 14 ∷ []

abbrev pub apart : List ℕ
apart = v 14 ∷ v 14 ∷ v 6 ∷ v 6 ∷ []

-- It adopts what they decide. If one module has no value it takes itself out, and the adopted view stays as a whole. Out, it stays out though the next
-- words would do, and its adopted view stays; it still keeps the view words of its read and its local view.
abbrev pub step_cases : List Case
step_cases =
    holds (after (full_views 4) enough) 13 14 0
    ++ (holds (after (full_views 4) apart) 13 15 1
    ++ (holds (after (after (full_views 4) enough) apart) 13 14 1
    ++ (holds (after (after (full_views 4) apart) enough) 13 15 1
    ++ (holds (after (after (after (full_views 4) enough) apart) enough) 13 14 1
    ++ entries (after (after (full_views 4) apart) enough).words 0 (v 14 ∷ none ∷ v 12 ∷ v 14 ∷ [])))))

-- every line is right
abbrev pub CasesRight : Type 0
CasesRight =
    right (heard_cases ++ (read_cases ++ (aligned_cases ++ (half_cases ++ (module_cases ++ (opened_cases ++ step_cases)))))) ≡ true

-- ---- number 8 in a saved state

-- two modules, whose part stands from word 3 on in these words, beside view 3 of the kind 10 word
abbrev pub answer : List ℕ → Verdict
answer l = first_refusal (view_tests true (λ i. get_or (9 ∷ 9 ∷ 9 ∷ l) i 0) 2 3 3)

-- number and index
abbrev pub answers : List ℕ → ℕ → ℕ → List Case
answers l number index = case (answer l).number number ∷ case (answer l).index index ∷ []

-- Accepted: view words or 0, the latest view of the kind 10 word, the others below 2^N, out 0 or 1. Refused at the first that is wrong: a view word of
-- another kind, one with a bit at N, another latest view, an earlier or an adopted view with a bit at N, out 2.
abbrev pub number_cases : List Case
number_cases =
    answers (v 3 ∷ v 0 ∷ 3 ∷ 2 ∷ 1 ∷ 0 ∷ []) 0 0
    ++ (answers (none ∷ none ∷ 3 ∷ 3 ∷ 3 ∷ 1 ∷ []) 0 0
    ++ (answers (bus_word_of 3 ∷ 1 ∷ 2 ∷ 4 ∷ 4 ∷ 2 ∷ []) 8 3
    ++ (answers (v 3 ∷ v 4 ∷ 2 ∷ 4 ∷ 4 ∷ 2 ∷ []) 8 4
    ++ (answers (v 3 ∷ v 3 ∷ 2 ∷ 4 ∷ 4 ∷ 2 ∷ []) 8 5
    ++ (answers (v 3 ∷ v 3 ∷ v 3 ∷ 3 ∷ 3 ∷ 0 ∷ []) 8 5
    ++ (answers (v 3 ∷ v 3 ∷ 3 ∷ 4 ∷ 4 ∷ 2 ∷ []) 8 6
    ++ (answers (v 3 ∷ v 3 ∷ 3 ∷ 3 ∷ 4 ∷ 2 ∷ []) 8 7
    ++ (answers (v 3 ∷ v 3 ∷ 3 ∷ 3 ∷ 3 ∷ 2 ∷ []) 8 8 ++ (case (views_count true 2) 6 ∷ case (views_count false 2) 0 ∷ [])))))))))

-- every line of them is right
abbrev pub NumbersRight : Type 0
NumbersRight = right number_cases ≡ true
