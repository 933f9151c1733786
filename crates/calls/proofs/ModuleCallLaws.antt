-- What a call from C answers and leaves in its output, put together from the answers of its parts.
use mathlib.Core.Path.{◌≡◌, refl, ap, ap₂, ◌∙◌, sym, subst}
use mathlib.Core.Bool.{Bool, true, false, cond, not, ◌||◌}
use mathlib.Core.List.{List}
use Prim.Native.Nat.{ℕ, ◌+◌, ◌-◌, ◌*◌, ◌^◌, ◌≤◌, ◌<◌}
use native.Mathlib.Omega.{arith}
use lib.Dec.{eqb, leb}
use lib.ListN.{length, get_or}
use lib.Pow.{pow_mono}
use borrow.Author.Tests.{eq-eqb, ne_eqb, eqb-true, eqb-false, not-true, not-false, lt-ltb, le-ltb, leb-true, leb-false}
use Rattle.words.specs.Word.{word_at}
use Rattle.words.specs.Runs.{put_run}
use Rattle.words.proofs.RunLaws.{put-ext}
use Rattle.words.specs.Bits.{bit, pack}
use Rattle.words.proofs.BitLaws.{bit-pack}
use Rattle.rules.specs.Hearing.{bus_word, reception_of, heard_row, cause_in}
use Rattle.rules.specs.declared.Reading.{Reading}
use Rattle.rules.specs.Hearing.{Reception}
use Rattle.rules.specs.Syndrome.{outgoing_of}
use Rattle.words.proofs.Truth.{cond-true, cond-false, cond_both}
use Rattle.words.specs.Verdict.{is_accepted, between, all_right}
use Rattle.setup.specs.Layout.{front_words}
use Rattle.setup.specs.Limits.{fades}
use Rattle.setup.specs.Setup.{size_in, partitionable_in, mark_in, fades_in, front_in, front_of, setup_of}
use Rattle.setup.proofs.BoundLaws.{front-most, read-fades}
use Rattle.words.proofs.VerdictLaws.{Passed, between_is}
use Rattle.setup.specs.Check.{check_setup}
use Rattle.words.specs.Verdict.{Verdict}
use Rattle.changes.specs.Books.{counted, books_after}
use Rattle.changes.proofs.TurnLaws.{turned-partitionable, turned-marks}
use Rattle.changes.proofs.ChangeWords.{read_left}
use Rattle.changes.proofs.SectionTests.{new-most}
use Rattle.views.specs.ViewWord.{view_word, read_words}
use Rattle.views.specs.Views.{no_views, views_after}
use Rattle.views.specs.Section.{view_tests, views_in}
use Rattle.views.specs.declared.Views.{Views}
use Rattle.views.proofs.ViewWords.{ViewWordsRight, passed-right}
use Rattle.image.specs.Layout.{own_at, latest_at, earlier_at, left_at, before_left, views_at, image_length}
use Rattle.image.specs.Words.{own_in, syndrome_in}
use Rattle.image.specs.Check.{left_in, image_tests, image_size, check_image}
use Rattle.image.proofs.ImageAnswers.{size_fits, by-words}
use Rattle.image.proofs.TailLaws.{ImageFits, image-pass, image-zero}
use Rattle.presence.specs.Valid.{Valid}
use Rattle.presence.specs.Step.{mark_of, read_length, judgement_for, outgoing_for, books_of, voted_views, views_for, outgoing_view, after_round, accepted_step, step_of}
use Rattle.presence.specs.Image.{image_of, state_of, state_length, room_for, room_after}
use Rattle.std.specs.Prelude.{Ok}
use Rattle.calls.specs.Answers.{word_of, cause_told}
use Rattle.calls.specs.Calls.{answer, called, refused_call, wrote, open_call, step_call, save_call, handed_out, outgoing_call, view_handed_out, outgoing_view_call, refused_cause, cause_call}
use Rattle.presence.specs.declared.State.{State}
use Rattle.calls.specs.declared.Answer.{Answer}
use Rattle.calls.specs.declared.WordAnswer.{WordAnswer}
use Rattle.calls.specs.declared.CauseAnswer.{CauseAnswer}
use Rattle.presence.specs.Step.{Stepped}
use Rattle.presence.proofs.ImageState.{view_in_lem, image-state, load-valid}
use Rattle.presence.proofs.RoundTrip.{written_read}

-- a refusal by the verdict v, answered by what was found of it
refused-by : {v w : Verdict} (out : List ℕ) → v ≡ w → called (answer v.number v.index 0) out ≡ refused_call w.number w.index out
unfolding refused_call
refused-by out e = ap (λ (x : Verdict). called (answer x.number x.index 0) out) e

-- what a copy of the first k words has written
pub from_first : {o : List ℕ} (out s : List ℕ) (k : ℕ) → o ≡ put_run out 0 k (λ j. word_at s (0 + j)) → o ≡ put_run out 0 k (word_at s)
from_first out s k e = e ∙ put-ext out 0 k _ _ (λ i h. ap (word_at s) (omega arith))

-- a setup that is read is of the form that its second word says
pub read-front : (s : List ℕ) → front_of (setup_of s) ≡ front_in (word_at s)
unfolding setup_of
read-front s = ap front_words (read-fades (fades_in (word_at s)) (word_at s))

pub read-form : (s : List ℕ) → fades (state_of s).setup.limits ≡ fades_in (word_at s)
unfolding state_of setup_of
read-form s = read-fades (fades_in (word_at s)) (word_at s)

-- an image with so many rounds left of a setup that is read
pub read-sized : (s : List ℕ) (left : ℕ)
    → image_length (front_in (word_at s)) (size_in (word_at s 0)) left (partitionable_in (word_at s 0))
    ≡ image_length (front_of (setup_of s)) (setup_of s).n left (setup_of s).partitionable
unfolding setup_of
read-sized s left = ap (λ (k : ℕ). image_length k (size_in (word_at s 0)) left (partitionable_in (word_at s 0))) (sym (read-front s))

-- whether the setup of a state that is read is partitionable is said by its head
pub parted-by : {w : ℕ} {t : Bool} (s : List ℕ) → w ≡ word_at s 0 → t ≡ bit w 5 → t ≡ partitionable_in (word_at s 0)
parted-by s e h = h ∙ ap partitionable_in e

pub read-parted : (s : List ℕ) → (state_of s).setup.partitionable ≡ partitionable_in (word_at s 0)
unfolding state_of setup_of
read-parted s = refl

-- the rounds left of a state that is read are those of its word
pub left_is : (s : List ℕ) → (state_of s).pending.left ≡ left_in s
unfolding state_of
left_is s = read_left s _ _

-- an accepted image has the length of its state's image
pub read_length_lem : (s : List ℕ) → (check_image s).number ≡ 0 → length s ≡ state_length (state_of s) (state_of s).pending.left
unfolding state_of
read_length_lem s z =
    (image-pass s z).size ∙ read-sized s (left_in s) ∙ ap (λ (left : ℕ). image_length (front_of (setup_of s)) (setup_of s).n left (setup_of s).partitionable) (sym (left_is s))

-- how long the image after a step is
pub after-long : {b t : Bool} {n front left rest long : ℕ} (s : List ℕ) → b ≡ fades_in (word_at s) → n ≡ size_in (word_at s 0) → front ≡ front_words b → left ≡ (state_of s).pending.left
    → rest ≡ left - 1 → t ≡ partitionable_in (word_at s 0) → long ≡ image_length front n rest t → long ≡ state_length (state_of s) ((state_of s).pending.left - 1)
unfolding state_of
after-long s eb en ef el er et e =
    e ∙ (λ i. image_length ((ef ∙ ap front_words eb) i) (en i) ((er ∙ ap (λ (x : ℕ). x - 1) el) i) (et i)) ∙ read-sized s ((state_of s).pending.left - 1)

-- and how long its read is
pub read-long : {t : Bool} {n k : ℕ} (s : List ℕ) → (state_of s).setup.n ≡ n → t ≡ partitionable_in (word_at s 0) → k ≡ read_words t n → k * 4 ≡ read_length (state_of s)
unfolding state_of setup_of
read-long s en et ek = ap (λ (m : ℕ). m * 4) (ek ∙ ap₂ read_words et (sym en))

-- ---- the word to put on the bus

-- The word that a step hands out is told by the state that it leaves: a marked module delays its syndrome once.
pub handed_out_lem : (st : State) (this : Reading) (seen causes : List ℕ) → (accepted_step st this seen causes).word ≡ handed_out (accepted_step st this seen causes).state
unfolding accepted_step outgoing_for outgoing_of handed_out after_round books_after counted mark_of
handed_out_lem st this seen causes =
    ap (λ (marks : ℕ). bus_word (cond (bit marks (st.own - 1)) st.latest (judgement_for st this).syndrome)) (sym (turned-marks (books_of st)))

-- and so is its view word
delayed : (t mark : Bool) (v : Views) (view : ℕ) → cond t (view_word (cond mark v.earlier view)) 0 ≡ cond t (view_word (cond mark (cond t v no_views).earlier view)) 0
delayed true mark v view = refl
delayed false mark v view = refl

pub view-handed-out : (st : State) (this : Reading) (seen causes : List ℕ) → (accepted_step st this seen causes).second ≡ view_handed_out (accepted_step st this seen causes).state
unfolding accepted_step outgoing_view view_handed_out after_round books_after counted mark_of views_for views_after
view-handed-out st this seen causes =
    let next = after_round st this seen in
    delayed st.setup.partitionable (bit st.setup.marks (st.own - 1)) (views_after st.setup.n st.views (voted_views st seen) seen st.counters.view) next.counters.view
    ∙ ap₂ (λ (t : Bool) (marks : ℕ). cond t (view_word (cond (bit marks (st.own - 1)) next.views.earlier next.counters.view)) 0)
    (sym (turned-partitionable (books_of st))) (sym (turned-marks (books_of st)))

-- the words before those of the modules, by the second word
pub front_by : {b : Bool} {front : ℕ} (s : List ℕ) → b ≡ fades_in (word_at s) → front ≡ front_words b → front ≡ front_in (word_at s)
front_by s f e = e ∙ ap front_words f

-- what reading a section of an accepted image asks
pub section-asked : {front n : ℕ} (s : List ℕ) → ImageFits s → front ≡ front_in (word_at s) → front ≤ 6 → n ≡ size_in (word_at s 0)
    → (front ≤ 6) × (n ≤ 16) × (before_left front n ≤ length s)
section-asked s f e most n = (most, omega (arith, f.front.most), omega (arith, f.size, e, n))

-- n is the size
module _ (s : List ℕ) (f : ImageFits s) {n front : ℕ} (en : n ≡ size_in (word_at s 0)) (ef : front ≡ front_in (word_at s)) where
  -- own is the own number, and wm the word of the module itself
  module _ {own : ℕ} (eo : own ≡ own_in (word_at s (own_at front n))) where
    own_is : own ≡ own_in (word_at s (own_at (front_in (word_at s)) (size_in (word_at s 0))))
    own_is = eo ∙ ap₂ (λ (k m : ℕ). own_in (word_at s (own_at k m))) ef en

    pub own-in-range : (1 ≤ own) × (own ≤ n)
    unfolding state_of setup_of
    own-in-range =
        let g = image-state s f in
        (omega (arith, own_is, g.first), omega (arith, own_is, g.last, en))

    -- the mark of a module, as its own word in the image has it
    pub mark_made : {wm : ℕ} {mark : Bool} → wm ≡ word_at s (front + own - 1) → mark ≡ bit wm 22 → mark ≡ mark_of (state_of s)
    unfolding mark_of state_of setup_of
    mark_made em eb =
        let r = own-in-range in
        let i : front + own - 1 ≡ front_in (word_at s) + (own - 1) = omega (arith, r.0, ef) in
        let h : own - 1 < size_in (word_at s 0) = omega (arith, r.0, r.1, en) in
        eb ∙ ap (λ (w : ℕ). bit w 22) (em ∙ ap (word_at s) i)
        ∙ sym (bit-pack (size_in (word_at s 0)) (λ j. mark_in (word_at s (front_in (word_at s) + j))) (own - 1) h)
        ∙ ap (λ (k : ℕ). bit (pack (size_in (word_at s 0)) (λ j. mark_in (word_at s (front_in (word_at s) + j)))) (k - 1)) own_is

  -- we and wl are the two syndromes
  pub word_made : {we wl r : ℕ} {mark : Bool} → mark ≡ mark_of (state_of s) → we ≡ syndrome_in (word_at s (earlier_at front n))
      → wl ≡ syndrome_in (word_at s (latest_at front n)) → r ≡ outgoing_of mark we wl → r ≡ handed_out (state_of s)
  unfolding handed_out outgoing_of state_of
  word_made {mark = mark} b ee el h =
      h
      ∙ ap₂ (λ (x y : ℕ). bus_word (cond mark x y)) (ee ∙ ap₂ (λ (k m : ℕ). syndrome_in (word_at s (earlier_at k m))) ef en)
      (el ∙ ap₂ (λ (k m : ℕ). syndrome_in (word_at s (latest_at k m))) ef en)
      ∙ ap (λ (x : Bool). bus_word (cond x (state_of s).earlier (state_of s).latest)) b

  -- ---- the view word

  -- of a setup with head bit 5: the views stand from `at` on
  module _ {left at : ℕ} (parted : partitionable_in (word_at s 0) ≡ true) (el : left ≡ word_at s (left_at front n)) (ea : at ≡ views_at front n left) where
    at-is : at ≡ views_at (front_in (word_at s)) (size_in (word_at s 0)) (left_in s)
    at-is = ea ∙ (λ i. views_at (ef i) (en i) ((el ∙ ap₂ (λ (k m : ℕ). word_at s (left_at k m)) ef en) i))

    right : ViewWordsRight (word_at s) n (state_of s).counters.view at
    unfolding state_of
    right =
        subst (λ (m : ℕ). ViewWordsRight (word_at s) m (state_of s).counters.view at) (sym en)
        (subst (λ (k : ℕ). ViewWordsRight (word_at s) (size_in (word_at s 0)) (state_of s).counters.view k) (sym at-is)
        (passed-right (word_at s) (size_in (word_at s 0)) _ _
        (subst (λ (b : Bool). Passed (view_tests b (word_at s) (size_in (word_at s 0)) (state_of s).counters.view (views_at (front_in (word_at s)) (size_in (word_at s 0)) (left_in s)))) parted
        (subst (λ (v : ℕ). Passed (view_tests (partitionable_in (word_at s 0)) (word_at s) (size_in (word_at s 0)) v (views_at (front_in (word_at s)) (size_in (word_at s 0)) (left_in s))))
        (sym (view_in_lem (fades_in (word_at s)) s (size_in (word_at s 0)))) f.tail.views))))

    -- there are so many words
    pub views-room : (at < 2 ^ 16) × ((at + n + 4) * 4 ≤ length s)
    views-room =
        let long : length s ≡ image_length (front_in (word_at s)) (size_in (word_at s 0)) (left_in s) true =
        f.size ∙ ap (image_length (front_in (word_at s)) (size_in (word_at s 0)) (left_in s)) parted
        in (
          omega (arith, at-is, new-most (size_in (word_at s 0)) (left_in s), front-most (fades_in (word_at s)), f.front.most),
          omega (arith, at-is, long, en),
        )

    pub view-small : {v we wl : ℕ} (mark : Bool) → we ≡ word_at s (at + n + 1) → wl ≡ word_at s (at + n) → v ≡ cond mark we wl → v < 2 ^ 28
    unfolding state_of setup_of
    view-small {v} {we} {wl} mark ee el' h =
        let small = pow_mono {i = n} {j = 28} (omega (arith, en, f.front.most)) in
        let r = right in
        let g = (image-state s f).view in
        let low : word_at s (at + n) < 2 ^ n = rw (r.newest, en) g in
        subst (λ (x : ℕ). x < 2 ^ 28) (sym h)
        (cond_both (λ (x : ℕ). x < 2 ^ 28) mark we wl (omega (arith, ee, r.earlier)) (omega (arith, el')))

    pub view_made : {we wl v r : ℕ} {mark : Bool} → mark ≡ mark_of (state_of s) → we ≡ word_at s (at + n + 1)
        → wl ≡ word_at s (at + n) → v ≡ cond mark we wl → r ≡ view_word v → r ≡ view_handed_out (state_of s)
    unfolding view_handed_out state_of views_in
    view_made {mark = mark} b ee el' ev h =
        let earlier : word_at s (at + n + 1) ≡ (state_of s).views.earlier =
        ap₂ (λ (k m : ℕ). word_at s (k + m + 1)) at-is en
        ∙ sym (ap (λ (b : Bool). (views_in b s (size_in (word_at s 0)) (views_at (front_in (word_at s)) (size_in (word_at s 0)) (left_in s))).earlier) parted)
        in
        h ∙ ap view_word (ev ∙ ap₂ (λ (x y : ℕ). cond mark x y) (ee ∙ earlier) (el' ∙ right.newest) ∙ ap (λ (x : Bool). cond x (state_of s).views.earlier (state_of s).counters.view) b)
        ∙ sym (cond-true _ _ (read-parted s ∙ parted))

-- a setup without head bit 5 has none
pub no-view-made : (s : List ℕ) → partitionable_in (word_at s 0) ≡ false → 0 ≡ view_handed_out (state_of s)
unfolding view_handed_out
no-view-made s e = sym (cond-false _ _ (read-parted s ∙ e))

-- what a call answers that is asked for a word: by the verdict on the image, and the word that is handed out
handed : Verdict → ℕ → WordAnswer
handed v word = record { number = v.number; index = v.index; word = cond (is_accepted v) word 0 }

module _ (image : List ℕ) {v : Verdict} (e : v ≡ check_image image) (word : ℕ) where
  handed-none : {r : WordAnswer} → (v.number ≡ 0 → ⊥) → r ≡ word_of v → r ≡ handed (check_image image) word
  unfolding handed
  handed-none f q =
      q ∙ (λ j. record { number = v.number; index = v.index; word = sym (cond-false word 0 (ne_eqb v.number 0 f)) j })
      ∙ ap (λ (x : Verdict). handed x word) e

  handed-made : {w : ℕ} → v.number ≡ 0 → w ≡ word → ◌≡◌ {A = WordAnswer} (record { number = 0; index = 0; word = w }) (handed (check_image image) word)
  unfolding handed
  handed-made z h =
      ap (λ (x : ℕ). record { number = 0; index = 0; word = x }) h
      ∙ ap (λ (x : Verdict). handed x word) (sym (image-zero image (ap (λ (x : Verdict). x.number) (sym e) ∙ z)))

module _ (image : List ℕ) {v : Verdict} (e : v ≡ check_image image) where
  pub outgoing-refused : {r : WordAnswer} → (v.number ≡ 0 → ⊥) → r ≡ word_of v → r ≡ outgoing_call image
  unfolding outgoing_call handed
  outgoing-refused f h = handed-none image e (handed_out (state_of image)) f h

  pub outgoing-made : {w : ℕ} → v.number ≡ 0 → w ≡ handed_out (state_of image) → ◌≡◌ {A = WordAnswer} (record { number = 0; index = 0; word = w }) (outgoing_call image)
  unfolding outgoing_call handed
  outgoing-made z h = handed-made image e (handed_out (state_of image)) z h

  pub outgoing-view-refused : {r : WordAnswer} → (v.number ≡ 0 → ⊥) → r ≡ word_of v → r ≡ outgoing_view_call image
  unfolding outgoing_view_call handed
  outgoing-view-refused f h = handed-none image e (view_handed_out (state_of image)) f h

  pub outgoing-view-made : {w : ℕ} → v.number ≡ 0 → w ≡ view_handed_out (state_of image) → ◌≡◌ {A = WordAnswer} (record { number = 0; index = 0; word = w }) (outgoing_view_call image)
  unfolding outgoing_view_call handed
  outgoing-view-made z h = handed-made image e (view_handed_out (state_of image)) z h

-- ---- opening

module _ (setup : List ℕ) (own : ℕ) (out : List ℕ) {v : Verdict} (e : v ≡ check_setup setup) where
  pub open-bad-setup : (v.number ≡ 0 → ⊥) → called (answer v.number v.index 0) out ≡ open_call setup own out
  unfolding open_call
  open-bad-setup f = refused-by out e ∙ sym (cond-false _ _ (ap is_accepted (sym e) ∙ ne_eqb v.number 0 f))

-- ---- an image that is checked

module _ (image out : List ℕ) {v : Verdict} (e : v ≡ check_image image) where
  -- ---- saving

  pub save-bad-image : (v.number ≡ 0 → ⊥) → called (answer v.number v.index 0) out ≡ save_call image out
  unfolding save_call
  save-bad-image f = refused-by out e ∙ sym (cond-false _ _ (ap is_accepted (sym e) ∙ ne_eqb v.number 0 f))

  pub save-no-room : v.number ≡ 0 → room_for (state_of image) out ≡ false → called (answer 9 0 0) out ≡ save_call image out
  unfolding save_call refused_call
  save-no-room z f = sym (cond-true _ _ (ap is_accepted (sym e) ∙ eq-eqb v.number 0 z) ∙ cond-false _ _ f)

  pub save-wrote : {r : Answer} {b : List ℕ} → r ≡ answer 0 0 0 → v.number ≡ 0 → room_for (state_of image) out ≡ true → b ≡ image_of (state_of image)
      → called r b ≡ save_call image out
  unfolding save_call wrote
  save-wrote q z t w =
      ap₂ called q w ∙ sym (cond-true _ _ (ap is_accepted (sym e) ∙ eq-eqb v.number 0 z) ∙ cond-true _ _ t)

  -- ---- step

  module _ (read : List ℕ) (controller : ℕ) where
    pub step-bad-image : (v.number ≡ 0 → ⊥) → called (answer v.number v.index 0) out ≡ step_call image read controller out
    unfolding step_call
    step-bad-image f = refused-by out e ∙ sym (cond-false _ _ (ap is_accepted (sym e) ∙ ne_eqb v.number 0 f))

    pub step-no-room : v.number ≡ 0 → room_after (state_of image) out ≡ false → called (answer 9 0 0) out ≡ step_call image read controller out
    unfolding step_call refused_call
    step-no-room z f = sym (cond-true _ _ (ap is_accepted (sym e) ∙ eq-eqb v.number 0 z) ∙ cond-false _ _ f)

    module _ (z : v.number ≡ 0) (room : room_after (state_of image) out ≡ true) {t : Stepped} (h : t ≡ step_of (state_of image) read controller) where
      within : cond (eqb (step_of (state_of image) read controller).number 0)
          (wrote (step_of (state_of image) read controller).health (step_of (state_of image) read controller).state)
          (refused_call (step_of (state_of image) read controller).number (step_of (state_of image) read controller).index out)
          ≡ step_call image read controller out
      unfolding step_call
      within = sym (cond-true _ _ (ap is_accepted (sym e) ∙ eq-eqb v.number 0 z) ∙ cond-true _ _ room)

      pub step-refused-call : (t.number ≡ 0 → ⊥) → called (answer t.number t.index 0) out ≡ step_call image read controller out
      unfolding refused_call
      step-refused-call f =
          ap (λ (x : Stepped). called (answer x.number x.index 0) out) h
          ∙ sym (cond-false _ _ (ap (λ (x : Stepped). eqb x.number 0) (sym h) ∙ ne_eqb t.number 0 f)) ∙ within

      pub step-wrote : {b : List ℕ} → t.number ≡ 0 → b ≡ image_of t.state → called (answer 0 0 t.health) b ≡ step_call image read controller out
      unfolding wrote
      step-wrote {b} n w =
          ap₂ (λ (x : Stepped) (y : List ℕ). called (answer 0 0 x.health) y) h (w ∙ ap (λ (x : Stepped). image_of x.state) h)
          ∙ sym (cond-true _ _ (ap (λ (x : Stepped). eqb x.number 0) (sym h) ∙ eq-eqb t.number 0 n)) ∙ within

-- ---- a step that reads its image at once

-- n is the size where head and length are right, and good says whether the words are
module _ (image : List ℕ) {n : ℕ} (e : n ≡ image_size image) (some : n ≡ 0 → ⊥) where
  module _ {good : Bool} (g : good ≡ all_right (image_tests image n)) where
    pub words-wrong : not good ≡ true → is_accepted (check_image image) ≡ false
    words-wrong t = sym (by-words image e some g) ∙ not-true good t

    pub words_right_lem : not good ≡ false → (check_image image).number ≡ 0
    words_right_lem f = eqb-true (check_image image).number 0 (sym (by-words image e some g) ∙ not-false good f)

  pub state-size : {k : State} → k ≡ state_of image → k.setup.n ≡ n
  unfolding state_of setup_of
  state-size h = ap (λ (x : State). x.setup.n) h ∙ sym (size_fits image e some).2

pub step-bad : (image read : List ℕ) (controller : ℕ) (out : List ℕ) {r : Answer}
    → r ≡ answer (check_image image).number (check_image image).index 0 → is_accepted (check_image image) ≡ false
    → called r out ≡ step_call image read controller out
step-bad image read controller out q f =
    ap (λ (x : Answer). called x out) q ∙ step-bad-image image out refl read controller (eqb-false (check_image image).number 0 f)

pub read-valid : (image : List ℕ) {k : State} → k ≡ state_of image → (check_image image).number ≡ 0 → Valid k
read-valid image h z = subst Valid (sym h) (load-valid image z)

-- ---- an accepted image and an output of its length

module _ (image out : List ℕ) (z : (check_image image).number ≡ 0) where
  pub same-room : (length out ≡ length image) → room_for (state_of image) out ≡ true
  unfolding room_for
  same-room l = eq-eqb (length out) _ (l ∙ read_length_lem image z)

  pub copy-no-room : (length out ≡ length image → ⊥) → room_for (state_of image) out ≡ false
  unfolding room_for
  copy-no-room f = ne_eqb (length out) _ (λ l. f (l ∙ sym (read_length_lem image z)))

  -- the output of a step
  pub after-room : {long : ℕ} → long ≡ state_length (state_of image) ((state_of image).pending.left - 1) → length out ≡ long → room_after (state_of image) out ≡ true
  unfolding room_after
  after-room e l = eq-eqb (length out) _ (l ∙ e)

  pub after-no-room : {long : ℕ} → long ≡ state_length (state_of image) ((state_of image).pending.left - 1) → (length out ≡ long → ⊥) → room_after (state_of image) out ≡ false
  unfolding room_after
  after-no-room e f = ne_eqb (length out) _ (λ l. f (l ∙ sym e))

  -- saving copies the bytes
  pub copy-wrote : {v : Verdict} {r : Answer} {b : List ℕ} → v ≡ check_image image → r ≡ answer 0 0 0 → ((i : ℕ) → get_or image i 0 < 256)
      → length out ≡ length image → b ≡ image → called r b ≡ save_call image out
  copy-wrote {v} {r} {b} e q small l w =
      save-wrote image out e q (ap (λ (x : Verdict). x.number) e ∙ z) (same-room l) (w ∙ sym (written_read image z small))

-- ---- reading one word

module _ (n controller word : ℕ) where
  pub cause-size : {r : CauseAnswer} → r ≡ refused_cause 2 → between 2 16 n ≡ false → r ≡ cause_call n controller word
  unfolding cause_call
  cause-size h f = h ∙ sym (cond-false _ _ f)

  module _ (t : between 2 16 n ≡ true) where
    pub cause-small : n < 32
    cause-small = let l = (between_is 2 16 n t).1 in omega arith

    pub cause-bit : {r : CauseAnswer} → r ≡ refused_cause 10 → leb controller 1 ≡ false → r ≡ cause_call n controller word
    unfolding cause_call
    cause-bit h f = let l = leb-false controller 1 f in h ∙ sym (cond-true _ _ t ∙ cond-false _ _ (le-ltb controller 2 (omega arith)))

    pub cause-heard : {r : Reception} → leb controller 1 ≡ true → r ≡ reception_of n (eqb controller 1) word → cause_told (Ok r) ≡ cause_call n controller word
    unfolding cause_call
    cause-heard l e =
        let h = leb-true controller 1 l in
        ap (λ (r : Reception). cause_told (Ok r)) e ∙ sym (cond-true _ _ t ∙ cond-true _ _ (lt-ltb controller 2 (omega arith)))
