-- A round from image to image: what is lent holds the state of the image, and what is written is the state that the round leaves.
use mathlib.Core.Path.{◌≡◌, refl, ap, ap₂, ◌∙◌, sym, subst}
use mathlib.Core.Bool.{Bool, true, false, cond, not, ◌&&◌}
use mathlib.Core.List.{List, ◌∷◌, ◌++◌}
use Prim.Native.Nat.{ℕ, ◌+◌, ◌-◌, ◌*◌, ◌^◌, ◌<◌, ◌≤◌}
use native.Mathlib.Omega.{arith}
use lib.ListN.{get_or, length, drop}
use lib.Dec.{eqb, ltb}
use Rattle.words.specs.Word.{word_at}
use Rattle.words.specs.Array.{array, Filled}
use Rattle.words.specs.Runs.{one, put_runs}
use borrow.Author.Tests.{eqb-true, eqb-false}
use Rattle.words.proofs.Truth.{and_l, and_r}
use Rattle.words.proofs.ArrayLaws.{array_at, array-filled}
use Rattle.words.proofs.CountLaws.{any-ext}
use Rattle.words.proofs.WordLaws.{word_lt}
use Rattle.setup.specs.Layout.{front_words, setup_length}
use Rattle.setup.specs.Limits.{fades}
use Rattle.setup.specs.Setup.{size_in, place_in, fades_in, front_in, front_of, setup_of, setup_bytes}
use Rattle.setup.specs.declared.Limits.{Limits}
use Rattle.setup.proofs.BoundLaws.{front-most, read-fades}
use Rattle.rules.specs.Lag.{skewed}
use Rattle.rules.specs.Hearing.{reading_of, causes_of}
use Rattle.rules.specs.Alignment.{aligned_of}
use Rattle.rules.specs.Syndrome.{judgement_of}
use Rattle.rules.specs.declared.Reading.{Reading}
use Rattle.rules.proofs.SyndromeLaws.{health-lt}
use Rattle.accounts.specs.Round.{account_at}
use Rattle.accounts.proofs.RoundLaws.{Kept}
use Rattle.changes.specs.Adjust.{adjusted_of}
use Rattle.changes.specs.Books.{turned, counted, books_after}
use Rattle.changes.specs.Words.{change_runs}
use Rattle.changes.specs.declared.Books.{Books}
use Rattle.changes.proofs.TurnLaws.{turned-both, turned_left, turned-size, turned-partitionable, turned-fades, turned-setup-fits, turned-kept}
use Rattle.views.specs.ViewWord.{read_words, views_read, views_seen}
use Rattle.views.specs.Views.{views_after}
use Rattle.views.specs.Section.{views_in, view_runs}
use Rattle.views.specs.declared.Views.{Views}
use Rattle.image.specs.Layout.{own_at, left_at, views_at, image_length}
use Rattle.image.specs.Words.{own_word, syndrome_word}
use Rattle.image.specs.Rows.{row_run, reading_in}
use Rattle.image.specs.CounterSection.{values_in}
use Rattle.image.specs.Returns.{return_counts}
use Rattle.image.specs.Counters.{counters_in}
use Rattle.image.specs.Check.{check_image}
use Rattle.image.specs.Part.{first_of, second_of, CountersSmall, lent_runs, PartOf}
use Rattle.image.specs.declared.ImagePart.{ImagePart}
use Rattle.image.proofs.CounterLaws.{within-kept}
use Rattle.image.proofs.LentLaws.{lent-small, lent-first, lent-second, filled-lent}
use Rattle.image.proofs.TailLaws.{image-pass}
use Rattle.presence.specs.Step.{skew_of, place_of, own_syndrome, read_length, seen_by, aligned_for, judgement_for, books_of, after_round, refused_step, accepted_step, read_step, step_of}
use Rattle.presence.specs.Image.{state_runs, image_of, state_of, state_length}
use Rattle.presence.specs.declared.State.{State}
use Rattle.presence.specs.Step.{Stepped}
use Rattle.presence.proofs.ImageState.{view_in_lem, image-state}
use Rattle.presence.proofs.ValidLaws.{StateFits, fits-valid, after-fits}
use Rattle.presence.proofs.SmallLaws.{Small, valid-small}
use Rattle.presence.proofs.StateRoundLaws.{in-range, views-made, read_length_lem as read-nine, read-controller, read_taken, step-of}
use Rattle.presence.proofs.StateWords.{views_of}
use Rattle.presence.proofs.SaveLaws.{lent-state, image-written}
use Rattle.calls.specs.Held.{HeldBy, CountedBy, LentRange, kept_view, kept_first, kept_second, kept_returns}
use Rattle.calls.specs.Calls.{answer, called, step_call}
use Rattle.calls.specs.declared.Answer.{Answer}
use Rattle.calls.proofs.KeptLaws.{lent-range, KeptNext, kept_next}
use Rattle.calls.proofs.ModuleCallLaws.{read-front, read_length_lem, left_is, after-room, after-no-room, read-valid, step-no-room, step-refused-call, step-wrote}
use Rattle.calls.proofs.ImageTurnLaws.{read-filled}

returns-in : (b : Bool) (s : List ℕ) (n : ℕ) → (counters_in b s n).returns ≡ values_in s (front_words b) n return_counts
unfolding counters_in
returns-in true s n = refl
returns-in false s n = refl

-- what the words of an accepted image hold is its state, and its books
pub part_held : {part : ImagePart} {k l x y z : List ℕ} {n : ℕ} {b : Bool} (s : List ℕ) → ((i : ℕ) → get_or s i 0 < 256) → (check_image s).number ≡ 0 → n ≡ size_in (word_at s 0)
    → b ≡ fades_in (word_at s) → PartOf s b n part k l x y z → HeldBy (state_of s) part l × CountedBy (books_of (state_of s)) part.limits part.q k x y z
unfolding state_of setup_of skewed
part_held {part = part} {k = k} {l = l} {x = x} {y = y} {z = z} {b = b} s small ok e form f =
    let m = size_in (word_at s 0) in
    let t = fades_in (word_at s) in
    let fit = image-pass s ok in
    let few = fit.front.most in
    let g = subst (λ (d : Bool). PartOf s d m part k l x y z) form (subst (λ (i : ℕ). PartOf s b i part k l x y z) e f) in
    let back = sym (read-fades t (word_at s)) in (
      record {
        skew = g.skew ∙ any-ext m _ _ (λ j h. ap (λ (v : ℕ). not (eqb v m)) (sym (array_at m _ j h few)));
        own = g.own;
        view = g.view ∙ sym (view_in_lem t s m);
        heard = g.heard;
        latest = g.latest;
        earlier = g.earlier;
        rows = g.rows;
        left = g.left ∙ sym (left_is s);
      },
      record {
        limits = g.limits;
        q = g.q;
        criticality = g.criticality;
        first = g.first ∙ lent-first s m few (word_lt s small) t fit.tail.counters ∙ ap (λ (d : Bool). first_of d m (counters_in t s m)) back;
        second = g.second ∙ lent-second s m few (word_lt s small) t fit.tail.counters ∙ ap (λ (d : Bool). second_of d m (counters_in t s m)) back;
        returns = g.returns ∙ sym (returns-in t s m);
      },
    )

module _ (s : List ℕ) (ok : (check_image s).number ≡ 0) where
  abbrev st : State
  st = state_of s

  pub fits : StateFits st
  fits = image-state s (image-pass s ok)

  abbrev size : ℕ
  size = st.setup.n

  -- whether its setup fades
  abbrev form : Bool
  form = fades st.setup.limits

  abbrev start : ℕ
  start = front_words form

  -- what rule 8 counts with
  abbrev books : Books
  books = turned (books_of st)

  pub most : size ≤ 16
  most = fits.setup.most

  start_is : start ≡ front_in (word_at s)
  unfolding state_of
  start_is = read-front s

  -- size and form stay, and whether the setup is partitionable
  same_size : books.setup.n ≡ size
  same_size = turned-size (books_of st)

  same-form : fades books.setup.limits ≡ form
  same-form = turned-fades (books_of st) fits.pending

  same-parted : books.setup.partitionable ≡ st.setup.partitionable
  same-parted = turned-partitionable (books_of st)

  few : books.setup.n ≤ 16
  few = (turned-setup-fits (books_of st) fits.pending fits.setup).most

  -- the arrays of a state that is read
  filled-rows-read : Filled size st.previous.rows
  unfolding state_of setup_of reading_in
  filled-rows-read = array-filled _ _ most

  filled-held : Filled size st.setup.criticality
  unfolding state_of setup_of
  filled-held = array-filled _ _ most

  filled-arrays : Filled size (first_of form size st.counters) × Filled size (second_of form size st.counters) × Filled size st.counters.returns
  unfolding state_of setup_of
  filled-arrays = rw (read-fades (fades_in (word_at s)) (word_at s)) (filled-lent (fades_in (word_at s)) s (size_in (word_at s 0)) most)

  abbrev FilledBooks : Books → Type 0
  FilledBooks b =
      Filled size b.setup.criticality × Filled size (first_of (fades b.setup.limits) b.setup.n b.counters)
      × Filled size (second_of (fades b.setup.limits) b.setup.n b.counters) × Filled size b.counters.returns

  -- those of its books, and after a change that is due
  filled-before : FilledBooks (books_of st)
  filled-before = (filled-held, filled-arrays.0, filled-arrays.1, filled-arrays.2)

  filled-pending : Filled size st.pending.criticality
  unfolding state_of setup_of
  filled-pending = read-filled s (size_in (word_at s 0)) (left_at (front_in (word_at s)) (size_in (word_at s 0))) most

  filled-after : FilledBooks books
  unfolding adjusted_of
  filled-after =
      turned-both (books_of st) FilledBooks (λ _. (filled-pending, array-filled _ _ most, array-filled _ _ most, filled-arrays.2)) (λ _. filled-before)

  filled-by : {b : Books} {l : Limits} {m n : ℕ} {k x y z : List ℕ} → n ≡ size → FilledBooks b → CountedBy b l m k x y z
      → Filled n k × Filled n x × Filled n y × Filled n z
  filled-by en f h = rw (en, h.criticality, h.first, h.second, h.returns) f

  pub filled-counted : {l : Limits} {m n : ℕ} {k x y z : List ℕ} → n ≡ size → CountedBy (books_of st) l m k x y z → Filled n k × Filled n x × Filled n y × Filled n z
  filled-counted en h = filled-by en filled-before h

  -- the module's own read place, by its word
  pub place_is : {front own place : ℕ} → front ≡ start → own ≡ st.own → place ≡ place_in (word_at s (front + (own - 1))) → place ≡ place_of st
  unfolding place_of state_of setup_of
  place_is ef eo ep =
      ep ∙ ap₂ (λ (k i : ℕ). place_in (word_at s (k + (i - 1)))) (ef ∙ start_is) eo
      ∙ sym (array_at (size_in (word_at s 0)) _ _ (omega (arith, fits.first, fits.last)) most)

  pub length-is : length s ≡ state_length st st.pending.left
  length-is = read_length_lem s ok

  -- every account is as rounds leave it, by the limits that hold
  kept : (j : ℕ) → j < books.setup.n → Kept books.setup.limits (get_or books.setup.criticality j 0) (account_at books.counters j)
  kept j h =
      turned-kept (books_of st) fits.setup fits.pending (within-kept st.setup.limits st.setup st.counters most fits.counters) j
      (rw same_size at h)

  -- ---- what the parts of the round ask, n being the size and b the form

  module _ {part : ImagePart} {l : List ℕ} (h : HeldBy st part l) {n : ℕ} {b : Bool} (en : n ≡ size) (eb : b ≡ form) where
    pub own-place : {front : ℕ} → front ≡ front_words b → (front ≤ 6) × (part.own - 1 < 16) × ((front + (part.own - 1)) * 4 + 4 ≤ length s)
    own-place ef =
        let o = h.own in
        let a : part.own - 1 < size = omega (arith, fits.first, fits.last) in
        let f = ef ∙ ap front_words eb in
        (omega (arith, f, front-most form), omega (arith, most), omega (arith, length-is, f))

    pub small_size : n ≤ 16
    small_size = omega (arith, most)

    pub small-view : part.view < 2 ^ n
    small-view = rw (en, h.view) fits.view

    pub filled-rows : Filled n l
    filled-rows = rw (en, h.rows) filled-rows-read

  module _ {l : Limits} {m : ℕ} {k x y z : List ℕ} (h : CountedBy books l m k x y z) {n : ℕ} (en : n ≡ size) where
    pub filled-counters : Filled n k × Filled n x × Filled n y × Filled n z
    filled-counters = filled-by en filled-after h

    pub counted-range : (j : ℕ) → j < n → LentRange l m k x y z j
    counted-range =
        rw (en ∙ sym same_size, h.limits, h.q, h.criticality, h.first, h.second, h.returns)
        (λ j i. lent-range books.setup.limits books.setup.q books.setup.criticality books.setup.n books.counters j (in-range st fits j i))

  -- ---- the round

  module _ (read : List ℕ) (controller : ℕ) where
    abbrev this : Reading
    this = reading_of size read controller

    abbrev seen : List ℕ
    seen = seen_by st read controller

    abbrev next : State
    next = after_round st this seen

    -- the judgement of what is lent
    pub judged-is : {n view place before own : ℕ} {skew : Bool} {rows : List ℕ} → n ≡ size → view ≡ st.counters.view → skew ≡ skew_of st → place ≡ place_of st
        → before ≡ st.previous.heard → rows ≡ st.previous.rows → own ≡ cond skew st.earlier st.latest
        → judgement_of n view (aligned_of n skew place (record { heard = before; rows = rows }) (reading_of n read controller)) own ≡ judgement_for st this
    unfolding judgement_for aligned_for own_syndrome
    judged-is en ev es ep eb er eo = rw (eo, en, ev, es, ep, eb, er)

    pub health-small : (judgement_for st this).health < 2 ^ size
    unfolding judgement_for
    health-small = health-lt size _ _ _

    pub next_small : Small next
    next_small = valid-small next (fits-valid next (after-fits st read controller fits))

    -- how long the next image is
    next-length : {n left : ℕ} {b t : Bool} → n ≡ size → b ≡ form → t ≡ st.setup.partitionable → left ≡ st.pending.left
        → image_length (front_words b) n (left - 1) t ≡ state_length next next.pending.left
    unfolding after_round books_after counted
    next-length en eb et el =
        (λ i. image_length (front_words ((eb ∙ sym same-form) i)) ((en ∙ sym same_size) i) (((ap (λ (x : ℕ). x - 1) el) ∙ sym (turned_left (books_of st))) i) ((et ∙ sym same-parted) i))

    module _ {part : ImagePart} {rows₀ : List ℕ} (h : HeldBy st part rows₀) {n : ℕ} {b : Bool} (en : n ≡ size) (eb : b ≡ form) where
      -- the judgement, where `own` is picked and the read place read
      pub judged-held : {front place own : ℕ} → front ≡ front_words b → place ≡ place_in (word_at s (front + (part.own - 1)))
          → own ≡ cond part.skew part.earlier part.latest
          → judgement_of n part.view (aligned_of n part.skew place (record { heard = part.heard; rows = rows₀ }) (reading_of n read controller)) own ≡ judgement_for st this
      judged-held ef ep eo =
          judged-is en h.view h.skew (place_is (ef ∙ ap front_words eb) h.own ep) h.heard h.rows
          (eo ∙ ap₂ (λ (u v : ℕ). cond part.skew u v) h.earlier h.latest)

      -- the views that are held and those of this read, of a setup that is partitionable
      held-views : {front : ℕ} → front ≡ front_words b → st.setup.partitionable ≡ true → views_in true s n (views_at front n part.left) ≡ st.views
      unfolding state_of setup_of
      held-views ef t =
          (λ i. views_in (sym t i) s (en i) (views_at ((ef ∙ ap front_words eb ∙ start_is) i) (en i) ((h.left ∙ left_is s) i)))

      read-seen : st.setup.partitionable ≡ true → views_read n read controller ≡ seen
      unfolding views_seen
      read-seen t = ap (λ (m : ℕ). views_read m read controller) en ∙ ap (λ (d : Bool). views_seen d size read controller) (sym t)

      -- what writing them asks
      pub views-asked : {front long same : ℕ} {t : Bool} → front ≡ front_words b → t ≡ st.setup.partitionable → t ≡ true → length read ≡ read_words t n * 4
          → long ≡ image_length (front_words b) n (part.left - 1) t → same ≡ long
          → (front ≤ 6) × (n ≤ 16) × (length s ≡ image_length front n part.left true) × ((n + n) * 4 ≤ length read) × (same ≡ image_length front n (part.left - 1) true)
      views-asked ef et e l k e' = (
        omega (arith, ef, front-most b),
        omega (arith, most),
        length-is ∙ (λ i. image_length (sym (ef ∙ ap front_words eb) i) (sym en i) (sym h.left i) ((sym et ∙ e) i)),
        omega (arith, l ∙ ap (λ (d : Bool). read_words d n * 4) e),
        e' ∙ k ∙ ap₂ (λ (i : ℕ) (d : Bool). image_length i n (part.left - 1) d) (sym ef) e,
      )

      pub small-health : {health : ℕ} → health ≡ (judgement_for st this).health → health < 2 ^ n
      small-health e = rw (e, en) health-small

      module _ {lim : Limits} {m : ℕ} {k x y z : List ℕ} (c : CountedBy books lim m k x y z) {health view latest heard : ℕ} {x' y' z' rows : List ℕ}
          (eh : health ≡ (judgement_for st this).health) (el : latest ≡ (judgement_for st this).syndrome)
          (ed : heard ≡ (reading_of n read controller).heard) (er : rows ≡ (reading_of n read controller).rows)
          (ev : view ≡ kept_view lim n m health k x y z) (ex : x' ≡ kept_first lim n m health k x y z)
          (ey : y' ≡ kept_second lim n m health k x y z) (ez : z' ≡ kept_returns lim n m health k x y z) where
        after : KeptNext books.setup.limits books.setup (judgement_for st this).health books.counters
        after = kept_next books.setup (judgement_for st this).health books.counters few books.setup.limits refl kept

        here : n ≡ books.setup.n
        here = en ∙ sym same_size

        formed : b ≡ fades books.setup.limits
        formed = eb ∙ sym same-form

        -- the accounts of the next state
        view-next : view ≡ next.counters.view
        unfolding after_round books_after counted
        view-next = ev ∙ rw (eh, here, c.limits, c.q, c.criticality, c.first, c.second, c.returns) after.view

        first_next : x' ≡ first_of b n next.counters
        unfolding after_round books_after counted
        first_next = ex ∙ rw (formed, eh, here, c.limits, c.q, c.criticality, c.first, c.second, c.returns) after.first

        second-next : y' ≡ second_of b n next.counters
        unfolding after_round books_after counted
        second-next = ey ∙ rw (formed, eh, here, c.limits, c.q, c.criticality, c.first, c.second, c.returns) after.second

        returns-next : z' ≡ next.counters.returns
        unfolding after_round books_after counted
        returns-next = ez ∙ rw (eh, here, c.limits, c.q, c.criticality, c.first, c.second, c.returns) after.returns

        read_next : record { heard = heard; rows = rows } ≡ next.previous
        unfolding after_round
        read_next = rw (ed, er, en)

        -- what writing it asks
        pub small-next : ((part.own ≤ 16) × (view < 2 ^ 16) × (latest < 2 ^ 16) × (part.latest < 2 ^ 16))
            × (((j : ℕ) → j < n → get_or rows j 0 < 2 ^ 16) × CountersSmall b n x' y' z')
        unfolding after_round books_after counted
        small-next =
            let m = next_small in (
              (rw h.own m.own, rw view-next m.view, rw el m.latest, rw h.latest m.earlier),
              (
                rw (here, ap (λ (r : Reading). r.rows) read_next) m.rows.row,
                rw (first_next, second-next, returns-next, here, formed) (lent-small (fades books.setup.limits) books.setup.n next.counters m.counters),
              ),
            )

        -- and what is written after the words of the setup
        pub runs-next : {q q' q'' : List ℕ} (p : List ℕ) → q ≡ put_runs p (own_at (front_words b) n) (one (own_word part.own view) ∷ row_run n (record { heard = heard; rows = rows })
            ∷ one (syndrome_word latest) ∷ one (syndrome_word part.latest) ∷ lent_runs b n x' y' z')
            → q' ≡ put_runs q (left_at (front_words b) n) (change_runs books.setup books.pending)
            → q'' ≡ put_runs q' (views_at (front_words b) n next.pending.left) (views_of next)
            → q'' ≡ put_runs p (own_at (front_of next.setup) next.setup.n) (state_runs next)
        unfolding after_round books_after counted
        runs-next p e e' e'' =
            e'' ∙ rw (e', e, view-next, ap (λ (r : Reading). r.heard) read_next, ap (λ (r : Reading). r.rows) read_next, first_next, second-next, returns-next, el, h.own, h.latest, here, formed) (lent-state next refl refl refl few p)

        -- without head bit 5 no views are written
        pub none-put : {t : Bool} (q : List ℕ) → t ≡ st.setup.partitionable → t ≡ false → q ≡ put_runs q (views_at (front_words b) n next.pending.left) (views_of next)
        unfolding after_round books_after counted put_runs
        none-put {t} q et f =
            ap (λ (d : Bool). put_runs q (views_at (front_words b) n next.pending.left) (view_runs d next.setup.n next.counters.view next.views)) (sym f ∙ et ∙ sym same-parted)

        -- with it, those after the round
        pub some-put : {front place split : ℕ} {t : Bool} {q' : List ℕ} (q : List ℕ) → t ≡ st.setup.partitionable → t ≡ true → front ≡ front_words b
            → place ≡ place_in (word_at s (front + (part.own - 1))) → split ≡ cond part.skew place 0
            → q' ≡ put_runs q (views_at front n (part.left - 1)) (view_runs true n view (views_after n (views_in true s n (views_at front n part.left))
            (array n (λ j. cond (ltb j split) (get_or (views_in true s n (views_at front n part.left)).words j 0) (get_or (views_read n read controller) j 0)))
            (views_read n read controller) part.view))
            → q' ≡ put_runs q (views_at (front_words b) n next.pending.left) (views_of next)
        unfolding after_round books_after counted
        some-put {front} {place} {split} {t} {q'} q et e ef ep es eq =
            let parted : st.setup.partitionable ≡ true = sym et ∙ e in
            let held : Views = views_in true s n (views_at front n part.left) in
            let in-state : held ≡ st.views = held-views ef parted in
            let seen-is : views_read n read controller ≡ seen = read-seen parted in
            let after : views_after n held (array n (λ j. cond (ltb j split) (get_or held.words j 0) (get_or (views_read n read controller) j 0))) (views_read n read controller) part.view ≡ next.views =
            views-made st seen h.skew (place_is (ef ∙ ap front_words eb) h.own ep) es
            (λ i. views_after (en i) (in-state i) (array (en i) (λ j. cond (ltb j split) (get_or (in-state i).words j 0) (get_or (seen-is i) j 0))) (seen-is i) (h.view i)) parted
            in
            let left : part.left - 1 ≡ next.pending.left = ap (λ (x : ℕ). x - 1) h.left ∙ sym (turned_left (books_of st)) in
            eq ∙ (λ i. put_runs q (views_at (ef i) n (left i)) (view_runs ((sym parted ∙ sym same-parted) i) (here i) (view-next i) (after i)))

        -- the whole image
        pub image-next : {front : ℕ} {t : Bool} {p q q' q'' : List ℕ} (o : List ℕ) → front ≡ front_words b → t ≡ st.setup.partitionable
            → length o ≡ image_length (front_words b) n (part.left - 1) t
            → p ≡ setup_bytes books.setup ++ drop (setup_length front n) o
            → q ≡ put_runs p (own_at (front_words b) n) (one (own_word part.own view) ∷ row_run n (record { heard = heard; rows = rows })
            ∷ one (syndrome_word latest) ∷ one (syndrome_word part.latest) ∷ lent_runs b n x' y' z')
            → q' ≡ put_runs q (left_at front n) (change_runs books.setup books.pending)
            → q'' ≡ put_runs q' (views_at (front_words b) n next.pending.left) (views_of next)
            → q'' ≡ image_of (after_round st (reading_of n read controller) (views_seen t n read controller))
        unfolding after_round books_after counted
        image-next {front} {t} {p} {q} {q'} {q''} o ef et long ep eq eq' eq'' =
            image-written next o (setup_length front n) (ap₂ setup_length (ef ∙ ap front_words formed) here) refl
            (runs-next p eq (eq' ∙ ap (λ (i : ℕ). put_runs q (left_at i n) (change_runs books.setup books.pending)) ef) eq''
            ∙ ap (λ (x : List ℕ). put_runs x (own_at (front_of next.setup) next.setup.n) (state_runs next)) ep)
            (long ∙ next-length en eb et h.left)
            ∙ sym (λ i. image_of (after_round st (reading_of (en i) read controller) (views_seen (et i) (en i) read controller)))

-- ---- what a step answers

-- two lengths that are tested at once
pub both-lengths : (a b c d : ℕ) → eqb a b && eqb c d ≡ true → (a ≡ b) × (c ≡ d)
both-lengths a b c d t = (eqb-true a b (and_l (eqb a b) _ t), eqb-true c d (and_r (eqb a b) _ t))

module _ (s : List ℕ) (ok : (check_image s).number ≡ 0) (read : List ℕ) (controller : ℕ) (out : List ℕ) {n : ℕ} (en : (state_of s).setup.n ≡ n) where
  answered : {t : Stepped} → t ≡ read_step (state_of s) read controller → t ≡ step_of (state_of s) read controller
  answered h = step-of _ _ _ refl (read-valid s refl ok) h

  module _ {long wide : ℕ} (el : long ≡ state_length (state_of s) ((state_of s).pending.left - 1)) (ew : wide ≡ read_length (state_of s)) where
    pub step-nine : {r : Answer} → eqb (length out) long && eqb (length read) wide ≡ false → r ≡ answer 9 0 0
        → called r out ≡ step_call s read controller out
    unfolding refused_step
    step-nine {r} e q = ap (λ (x : Answer). called x out) q ∙ go (eqb (length out) long) refl e
      where
        go : (b : Bool) → eqb (length out) long ≡ b → b && eqb (length read) wide ≡ false
            → called (answer 9 0 0) out ≡ step_call s read controller out
        go false f t = step-no-room s out refl read controller ok (after-no-room s out ok el (eqb-false (length out) _ f))
        go true f t =
            step-refused-call s out refl read controller ok (after-room s out ok el (eqb-true (length out) _ f))
            (answered (read-nine (state_of s) read controller refl (λ l. eqb-false (length read) wide t (l ∙ sym ew)))) (λ e. omega (arith, e))

    module _ (room : length out ≡ long) (words : length read ≡ wide) where
      pub step-ten : {r : Answer} → 2 ^ n ≤ controller → r ≡ answer 10 0 0 → called r out ≡ step_call s read controller out
      unfolding refused_step
      step-ten {r} over q =
          ap (λ (x : Answer). called x out) q
          ∙ step-refused-call s out refl read controller ok (after-room s out ok el room)
          (answered (read-controller (state_of s) read controller refl (words ∙ ew) (subst (λ (m : ℕ). 2 ^ m ≤ controller) (sym en) over))) (λ e. omega (arith, e))

      pub step-made : {health : ℕ} {t : Bool} {b : List ℕ} → controller < 2 ^ n → t ≡ (state_of s).setup.partitionable → health ≡ (judgement_for (state_of s) (reading_of n read controller)).health
          → b ≡ image_of (after_round (state_of s) (reading_of n read controller) (views_seen t n read controller))
          → called (answer 0 0 health) b ≡ step_call s read controller out
      unfolding accepted_step
      step-made {health} {t} {b} below et eh eb =
          let this = reading_of (state_of s).setup.n read controller in
          let made = accepted_step (state_of s) this (seen_by (state_of s) read controller) (causes_of (state_of s).setup.n read controller) in
          let e : health ≡ made.health = eh ∙ ap (λ (m : ℕ). (judgement_for (state_of s) (reading_of m read controller)).health) (sym en) in
          ap (λ (v : ℕ). called (answer 0 0 v) b) e
          ∙ step-wrote s out refl read controller ok (after-room s out ok el room)
          (answered (read_taken (state_of s) read controller refl (words ∙ ew) (subst (λ (m : ℕ). controller < 2 ^ m) (sym en) below))) refl
          (eb ∙ ap₂ (λ (m : ℕ) (d : Bool). image_of (after_round (state_of s) (reading_of m read controller) (views_seen d m read controller))) (sym en) et)
