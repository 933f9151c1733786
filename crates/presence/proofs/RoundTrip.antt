-- What is read is what was saved, and what is saved is what was read.
use mathlib.Core.Path.{◌≡◌, refl, ap, ap₂, ◌∙◌, sym, subst}
use mathlib.Core.Bool.{Bool, true, false, cond}
use mathlib.Core.List.{List, ◌++◌}
use Prim.Native.Nat.{ℕ, ◌+◌, ◌<◌}
use native.Mathlib.Omega.{arith}
use lib.ListN.{get_or}
use lib.Dec.{eqb}
use Rattle.words.specs.Word.{word_at, bytes_of}
use Rattle.words.specs.Runs.{total, runs_of, run_word}
use Rattle.words.specs.Verdict.{accepted}
use Rattle.words.proofs.Truth.{cond-true}
use Rattle.words.proofs.ArrayLaws.{array-length}
use Rattle.words.proofs.WordLaws.{word_lt}
use Rattle.words.proofs.ByteLaws.{word-front, bytes-join, bytes-own}
use Rattle.words.proofs.RunLaws.{Follows, follow-runs, runs-join}
use Rattle.words.proofs.RunJoinLaws.{follow-join, follow-moved}
use Rattle.setup.specs.Layout.{front_words, setup_words}
use Rattle.setup.specs.Limits.{fades}
use Rattle.setup.specs.Setup.{size_in, partitionable_in, fades_in, front_in, front_of, setup_of, setup_runs, setup_bytes, blank_setup}
use Rattle.setup.specs.Check.{check_setup, read_setup}
use Rattle.setup.specs.RoundTrip.{ShapedSetup}
use Rattle.setup.specs.declared.Setup.{Setup}
use Rattle.setup.specs.Check.{SetupRead}
use Rattle.setup.proofs.SetupLaws.{SetupFits, verdict-fits, fits-room}
use Rattle.setup.proofs.BoundLaws.{front-least, read-fades, fades-same}
use Rattle.setup.proofs.SetupWords.{written-length, written-fades, place-small}
use Rattle.setup.proofs.SetupCheckLaws.{WordsFit, setup-pass}
use Rattle.setup.proofs.SetupRoundTrip.{read_back}
use Rattle.setup.proofs.FrontLaws.{words_same, setup-same, setup-written}
use Rattle.rules.specs.Hearing.{reading_of}
use Rattle.changes.specs.Words.{new_count, pending_in, change_runs}
use Rattle.changes.specs.Books.{counted, books_after}
use Rattle.changes.proofs.PendingLaws.{nothing-shaped, of-shaped, read-shaped as pending-shaped}
use Rattle.changes.proofs.ChangeWords.{change-total, change-back, change-same, read_left}
use Rattle.changes.proofs.TurnLaws.{turned-shaped}
use Rattle.views.specs.ViewWord.{views_seen}
use Rattle.views.specs.Views.{no_views, views_after, ShapedViews}
use Rattle.views.specs.Section.{views_in, view_runs}
use Rattle.views.proofs.ViewWordLaws.{views-length}
use Rattle.views.proofs.ViewsLaws.{none-shaped, opened-shaped, views-shaped}
use Rattle.views.proofs.ViewWords.{views-back, views_same}
use Rattle.image.specs.Layout.{own_at, latest_at, earlier_at, accounts_at, left_at, views_at, image_words, image_length}
use Rattle.image.specs.Words.{view_in}
use Rattle.image.specs.Rows.{reading_in}
use Rattle.image.specs.Counters.{counters_in, counter_runs}
use Rattle.image.specs.Sections.{section_runs}
use Rattle.image.specs.Check.{check_image}
use Rattle.image.proofs.SingleWords.{own-made, syndrome-made}
use Rattle.image.proofs.RowLaws.{reading-back, rows_same}
use Rattle.image.proofs.CounterLaws.{accounts-back, accounts-same, zero-shaped, round-shaped, read-shaped}
use Rattle.image.proofs.BooksLaws.{turned-counters-shaped}
use Rattle.image.proofs.TailLaws.{TailFits, ImageFits, tail-pass, image-pass, image-ok}
use Rattle.presence.specs.Valid.{Valid}
use Rattle.presence.specs.Opening.{fresh, open_of}
use Rattle.presence.specs.Step.{seen_by, books_of, voted_views, views_for, after_round, accepted_step, step_of}
use Rattle.presence.specs.Change.{change_of}
use Rattle.presence.specs.Image.{state_runs, image_runs, image_of, state_of, state_length}
use Rattle.presence.specs.RoundTrip.{Shaped, RoundTrip}
use Rattle.presence.specs.declared.State.{State}
use Rattle.presence.specs.Step.{Stepped}
use Rattle.presence.proofs.SmallLaws.{Small, valid-small, valid-setup, valid-tail}
use Rattle.presence.proofs.StateWords.{views_of, Stands, Read, stands-bytes, words-partitionable, state-read, image-words, image-length, image-left, counters-total, state-total}
use Rattle.presence.proofs.LoadLaws.{state-by}
use Rattle.presence.proofs.ImageState.{load-valid}
use Rattle.presence.proofs.StateChangeLaws.{change-taken, change-valid}
use Rattle.presence.proofs.StateStepLaws.{step-accepted, step-valid, open-fresh, open-valid}

-- the image of a state is its setup's bytes, and those of its other words
image-parts : (st : State) → image_of st ≡ setup_bytes st.setup ++ runs_of (state_runs st)
unfolding image_of setup_bytes
image-parts st = runs-join (setup_runs st.setup) (state_runs st)

-- ---- an accepted image is saved as it was read

module _ (s : List ℕ) (e : (check_image s).number ≡ 0) where
  abbrev size : ℕ
  size = size_in (word_at s 0)

  abbrev form : Bool
  form = fades_in (word_at s)

  abbrev start : ℕ
  start = front_words form

  fit : ImageFits s
  fit = image-pass s e

  -- the words of the state, whose setup is of the form that the second word says
  read-runs : state_runs (state_of s) ≡ section_runs form size (state_of s).own (state_of s).counters (state_of s).previous (state_of s).latest (state_of s).earlier
      ++ (change_runs (state_of s).setup (state_of s).pending ++ views_of (state_of s))
  unfolding state_of setup_of
  read-runs =
      ap (λ (b : Bool). section_runs b size (state_of s).own (state_of s).counters (state_of s).previous (state_of s).latest (state_of s).earlier
      ++ (change_runs (state_of s).setup (state_of s).pending ++ views_of (state_of s))) (read-fades form (word_at s))

  read_view : (b : Bool) → (counters_in b s size).view ≡ view_in (word_at s (own_at (front_words b) size))
  unfolding counters_in
  read_view true = refl
  read_view false = refl

  sections-same : ((i : ℕ) → get_or s i 0 < 256) → Follows (word_at s) (own_at start size) (state_runs (state_of s))
  unfolding state_of setup_of Follows
  sections-same b =
      let t = fit.tail in
      let small = fit.front.most in
      subst (Follows (word_at s) (own_at start size)) (sym read-runs) (
        λ j h. rw (zero_of (own_at start size) j h, read_view form) (sym (own-made size (word_at s (own_at start size)) t.number t.own).word),
        (
          rows_same s start size small t.rows,
          (
            λ j h. rw (zero_of (latest_at start size) j h) (sym (syndrome-made size (word_at s (latest_at start size)) t.latest).0),
            (
              λ j h. rw (zero_of (earlier_at start size) j h) (sym (syndrome-made size (word_at s (earlier_at start size)) t.earlier).0),
              follow-join (word_at s) (accounts_at start size) (counter_runs form size (state_of s).counters) (change_runs (state_of s).setup (state_of s).pending ++ views_of (state_of s)) (accounts-same s small form (word_lt s b) t.counters)
                  (follow-moved (word_at s) (change_runs (state_of s).setup (state_of s).pending ++ views_of (state_of s)) (omega (arith, counters-total form size (state_of s).counters))
                  (follow-join (word_at s) (left_at start size) (change_runs (state_of s).setup (state_of s).pending) (views_of (state_of s)) (change-same s (left_at start size) fit.words small t.change)
                  (follow-moved (word_at s) (views_of (state_of s)) (omega (arith, change-total (state_of s).setup (state_of s).pending, ap (new_count size) (read_left s size (left_at start size))))
                  (subst (λ (x : ℕ). Follows (word_at s) (views_at start size (word_at s (left_at start size))) (view_runs (partitionable_in (word_at s 0)) size x (state_of s).views)) (sym (read_view form))
                  (views_same (partitionable_in (word_at s 0)) s (views_at start size (word_at s (left_at start size))) size _ small t.views))))),
            ),
          ),
        ),
      )
    where
      zero_of : (at j : ℕ) → j < 1 → at + j ≡ at
      zero_of at j h = omega arith

  pub written_read : ((i : ℕ) → get_or s i 0 < 256) → image_of (state_of s) ≡ s
  unfolding state_of setup_of
  written_read b =
      let first : setup_bytes (setup_of s) ≡ bytes_of (own_at start size) (word_at s) = setup-written s fit.front fit.words (omega (arith, fit.size)) b in
      let rest : runs_of (state_runs (state_of s)) ≡ bytes_of (total (state_runs (state_of s))) (λ i. word_at s (own_at start size + i)) =
      follow-runs (word_at s) (own_at start size) (state_runs (state_of s)) (sections-same b)
      in
      let left : (state_of s).pending.left ≡ word_at s (left_at start size) = read_left s size (left_at start size) in
      let k : own_at start size + total (state_runs (state_of s)) ≡ image_words start size (word_at s (left_at start size)) (partitionable_in (word_at s 0)) =
      omega (arith, state-total (state_of s), ap (new_count size) left)
      in
      image-parts (state_of s)
      ∙ ap (λ (x : List ℕ). x ++ runs_of (state_runs (state_of s))) first
      ∙ ap (λ (x : List ℕ). bytes_of (own_at start size) (word_at s) ++ x) rest
      ∙ sym (bytes-join (own_at start size) (total (state_runs (state_of s))) (word_at s))
      ∙ ap (λ (m : ℕ). bytes_of m (word_at s)) k
      ∙ bytes-own s (image_words start size (word_at s (left_at start size)) (partitionable_in (word_at s 0))) b fit.size

-- ---- a valid state is read back

module _ (st : State) (v : Valid st) (a : Shaped st) where
  abbrev n : ℕ
  n = st.setup.n

  fits : SetupFits st.setup
  fits = verdict-fits st.setup (valid-setup st v)

  small : Small st
  small = valid-small st v

  abbrev image : List ℕ
  image = image_of st

  words : Stands st (word_at image)
  words = stands-bytes st

  back : Read st (word_at image)
  back = state-read st (word_at image) fits small words

  abbrev front : List ℕ
  front = setup_bytes st.setup

  setup-read : read_setup front ≡ record { number = 0; index = 0; setup = st.setup }
  setup-read = read_back st.setup (valid-setup st v) a.setup

  front-accepted : (check_setup front).number ≡ 0
  unfolding read_setup
  front-accepted = ap (λ (x : SetupRead). x.number) setup-read

  front-setup : setup_of front ≡ st.setup
  unfolding read_setup
  front-setup =
      sym (cond-true (setup_of front) blank_setup (ap (λ (k : ℕ). eqb k 0) front-accepted)) ∙ ap (λ (x : SetupRead). x.setup) setup-read

  front-size : size_in (word_at front 0) ≡ n
  unfolding setup_of
  front-size = ap (λ (x : Setup). x.n) front-setup

  -- the form, by the second word
  front-form : fades_in (word_at front) ≡ fades st.setup.limits
  front-form = written-fades st.setup

  front-word : (i : ℕ) → i < setup_words (front_of st.setup) n → word_at front i ≡ word_at image i
  front-word i h =
      sym (ap (λ (x : List ℕ). word_at x i) (image-parts st) ∙ word-front front _ i (omega (arith, written-length st.setup)))

  same-words : (i : ℕ) → i < setup_words (front_in (word_at front)) n → word_at front i ≡ word_at image i
  same-words i h = front-word i (rw front-form at h)

  image-setup : setup_of image ≡ st.setup
  image-setup = sym (setup-same front image n same-words front-size) ∙ front-setup

  image-size : size_in (word_at image 0) ≡ n
  unfolding setup_of
  image-size = ap (λ (x : Setup). x.n) image-setup

  image-form : fades_in (word_at image) ≡ fades st.setup.limits
  image-form = fades-same (word_at image) (word_at front) (sym (front-word 1 (omega (arith, front-least (fades st.setup.limits))))) ∙ front-form

  image-parted : partitionable_in (word_at image 0) ≡ st.setup.partitionable
  image-parted = words-partitionable st fits words

  left_there : state_length st st.pending.left ≡ image_length (front_of st.setup) n (word_at image (left_at (front_of st.setup) n)) (partitionable_in (word_at image 0))
  left_there = ap₂ (λ (left : ℕ) (t : Bool). image_length (front_of st.setup) n left t) (sym (image-left st)) (sym image-parted)

  image-right : ImageFits image
  image-right =
      let b = setup-pass front front-accepted in
      let z = image-size in
      let y = front-size in
      let l = image-length st in
      let w : word_at front 0 ≡ word_at image 0 = front-word 0 (omega arith) in
      let t : TailFits (fades st.setup.limits) (word_at image) n =
      subst (λ (x : ℕ → ℕ). TailFits (fades st.setup.limits) x n) (sym (image-words st)) (tail-pass (fades st.setup.limits) (run_word (image_runs st)) n (valid-tail st v))
      in
      record {
        front =
            record {
              whole = omega arith;
              room = omega arith;
              head = rw w at b.front.head;
              least = omega (arith, fits.least);
              most = omega (arith, fits.most);
            };
        size = l ∙ left_there ∙ ap₂ (λ (b : Bool) (m : ℕ). image_length (front_words b) m (word_at image (left_at (front_words b) m)) (partitionable_in (word_at image 0))) (sym image-form) (sym z);
        words = subst (λ (m : ℕ). WordsFit image m) (sym z) (words_same front image n same-words (subst (λ (m : ℕ). WordsFit front m) y b.words));
        tail = subst (λ (b : Bool). TailFits b (word_at image) (size_in (word_at image 0))) (sym image-form) (subst (λ (m : ℕ). TailFits (fades st.setup.limits) (word_at image) m) (sym z) t);
      }

  counters-there : st.counters ≡ counters_in (fades st.setup.limits) image n
  counters-there =
      accounts-back (fades st.setup.limits) image n st.counters small.size small.counters a.counters words.counters back.before.view-there

  previous-there : st.previous ≡ reading_in image (front_of st.setup) n
  previous-there = reading-back image (front_of st.setup) n st.previous small.size small.rows a.rows words.rows

  pending-there : st.pending ≡ pending_in image n (left_at (front_of st.setup) n)
  pending-there =
      change-back image (left_at (front_of st.setup) n) st.setup st.pending small.size (place-small st.setup (fits-room st.setup fits)) small.pending a.pending words.change

  views-there : st.views ≡ views_in (partitionable_in (word_at image 0)) image n (views_at (front_of st.setup) n (word_at image (left_at (front_of st.setup) n)))
  views-there =
      views-back st.setup.partitionable image (views_at (front_of st.setup) n st.pending.left) n st.counters.view st.views small.size small.views a.views words.views
      ∙ ap₂ (λ (t : Bool) (left : ℕ). views_in t image n (views_at (front_of st.setup) n left)) (sym image-parted) (sym (image-left st))

  -- a saved state is accepted, and read back
  pub image-accepted : (check_image (image_of st) ≡ accepted) × (state_of (image_of st) ≡ st)
  image-accepted = (
    image-ok image image-right,
    sym (state-by image (sym image-size) (sym image-form) (sym image-setup) (sym back.own) counters-there previous-there (sym back.latest) (sym back.earlier) pending-there views-there),
  )

-- ---- the states that calls give

state-shaped : (s : List ℕ) → Shaped (state_of s)
unfolding state_of setup_of reading_in
state-shaped s = record {
  setup = record { places = array-length _ _; criticality = array-length _ _ };
  rows = array-length _ _;
  counters = read-shaped (fades_in (word_at s)) s (size_in (word_at s 0));
  pending = pending-shaped s (size_in (word_at s 0)) _;
  views = views-shaped (partitionable_in (word_at s 0)) s (size_in (word_at s 0)) _;
}

pub open-shaped : (s : Setup) (own : ℕ) → ShapedSetup s → (open_of s own).number ≡ 0 → Shaped (open_of s own).state
unfolding fresh
open-shaped s own shaped zero =
    subst Shaped (sym (open-fresh s own zero))
    (record { setup = shaped; rows = array-length _ _; counters = zero-shaped _; pending = nothing-shaped; views = opened-shaped s.partitionable s.n })

after-shaped : (st : State) (read : List ℕ) (controller : ℕ) → ShapedViews (views_for st (seen_by st read controller))
unfolding views_for views_seen views_after
after-shaped st read controller = go st.setup.partitionable
  where
    go : (b : Bool)
        → ShapedViews
        (cond b (views_after st.setup.n st.views (voted_views st (views_seen b st.setup.n read controller)) (views_seen b st.setup.n read controller) st.counters.view) no_views)
    go true = views-length st.setup.n read controller
    go false = none-shaped

pub step-shaped : (st : State) (read : List ℕ) (controller : ℕ) → Shaped st → (step_of st read controller).number ≡ 0
    → Shaped (step_of st read controller).state
unfolding accepted_step after_round books_after counted reading_of
step-shaped st read controller shaped zero =
    let (setup, pending) = turned-shaped (books_of st) shaped.setup shaped.pending in
    subst (λ (t : Stepped). Shaped t.state) (sym (step-accepted st read controller zero).1)
    (record { setup = setup; rows = array-length _ _; counters = round-shaped _ _ _ (turned-counters-shaped (books_of st) shaped.counters); pending = pending; views = after-shaped st read controller })

pub change-shaped : (st : State) (new : Setup) (lead : ℕ) → Shaped st → ShapedSetup new → (change_of st new lead).number ≡ 0 → Shaped (change_of st new lead).state
change-shaped st new lead shaped asked zero =
    subst Shaped (sym (change-taken st new lead zero).state)
    (record { setup = shaped.setup; rows = shaped.rows; counters = shaped.counters; pending = of-shaped new lead asked.criticality; views = shaped.views })

pub round_trip : RoundTrip
round_trip = record {
  written_read = λ st shaped v. image-accepted st v shaped;
  read-accepted = λ s e. (load-valid s e, state-shaped s);
  read-written = λ s b e. written_read s e b;
  opens = λ s own shaped zero. (open-valid s own zero, open-shaped s own shaped zero);
  keeps = λ st read controller shaped zero. (step-valid st read controller zero, step-shaped st read controller shaped zero);
  changes = λ st new lead shaped asked zero. (change-valid st new lead zero, change-shaped st new lead shaped asked zero);
}
