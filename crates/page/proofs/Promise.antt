-- What a page promises beside the equations of its calls.
use mathlib.Core.Path.{◌≡◌, refl, ap, ap₂, ◌∙◌, sym, subst}
use mathlib.Core.Logic.{◌≢◌, ◌↔◌, ⊎_elim}
use mathlib.Core.Bool.{Bool, true, false, not, ◌&&◌, ◌||◌}
use mathlib.Core.List.{List}
use Prim.Native.Nat.{ℕ, ◌≤◌, ◌<◌}
use native.Mathlib.Omega.{arith}
use lib.ListN.{length, get_or}
use lib.Dec.{eqb, ltb}
use borrow.Author.Tests.{eq-eqb, ne_eqb}
use Rattle.words.specs.Word.{word_at}
use Rattle.words.specs.Bits.{bit}
use Rattle.words.specs.Count.{any}
use Rattle.words.proofs.Truth.{which, cond-true, cond-false, or_r}
use Rattle.words.proofs.WordLaws.{read-put, read-put-other}
use Rattle.words.specs.Verdict.{is_accepted}
use Rattle.setup.specs.Setup.{setup_of}
use Rattle.setup.specs.declared.Limits.{Limits}
use Rattle.setup.specs.declared.Limits.TheVariants.{Counts}
use Rattle.accounts.specs.Round.{account_at, counters_of}
use Rattle.accounts.proofs.RoundLaws.{Kept}
use Rattle.rules.specs.Hearing.{reading_of, causes_of}
use Rattle.rules.specs.Causes.{cause_of}
use Rattle.rules.proofs.Causes.{of-read, hears, above as no-module}
use Rattle.changes.specs.Books.{turned}
use Rattle.changes.specs.declared.Books.{Books}
use Rattle.changes.proofs.TurnLaws.{turned-size, turned-setup-fits}
use Rattle.image.specs.Check.{check_image}
use Rattle.image.proofs.CounterLaws.{within-kept}
use Rattle.image.proofs.BooksLaws.{turned-accounts}
use Rattle.presence.specs.Opening.{open_of}
use Rattle.presence.specs.Step.{books_of, found_view, accepted_step, step_of}
use Rattle.presence.specs.Change.{with_pending, change_of}
use Rattle.presence.specs.Shown.{shown_view}
use Rattle.presence.proofs.RoundTrip.{round_trip}
use Rattle.changes.specs.declared.Pending.{Pending}
use Rattle.setup.proofs.SetupRoundTrip.{read-shaped}
use Rattle.presence.specs.Image.{state_of}
use Rattle.calls.specs.Calls.{open_call, step_call}
use Rattle.presence.specs.declared.State.{State}
use Rattle.presence.specs.Step.{Stepped}
use Rattle.presence.proofs.ValidLaws.{valid-fits}
use Rattle.presence.proofs.StateChangeLaws.{change-taken}
use Rattle.presence.proofs.StateStepLaws.{step-accepted}
use Rattle.presence.proofs.ImageState.{load-valid}
use Rattle.calls.proofs.CallAnswers.{open-writes, open-passed, step-writes, step-passed, change-writes, change-passed, save-writes, save-passed}
use Rattle.page.specs.Flags.{cleared}
use Rattle.page.specs.Page.{is_page, page_opened, cause_at, somebody_charged, raised, page_stepped, page_written, interrupt_on}
use Rattle.page.specs.Host.{write_call}
use Rattle.page.specs.Calls.{PageCalled, page_called, page_open_call, page_step_call}
use Rattle.page.specs.Refusals.{page-of-opening}
use Rattle.page.specs.Promise.{Paged, opens, steps, changes, saves, refused-image, refused-page, writes, Unnamed, here, stepped, not_opened, written, Promise}
use Rattle.page.proofs.PageCallLaws.{shown-back}
use Rattle.page.proofs.RaisedLaws.{raised-kept, raised-0, raised-1, raised-above, cleared-kept, cleared-bit, turns-on, on-by}
use Rattle.page.proofs.PageWords.{opened-1, written-1, opened-cause, word-0, word-1, word-2, word-other, cause-of}
use Rattle.page.proofs.HostLaws.{write-either, write-8, write-12, write-none}
use Rattle.page.proofs.PageStepLaws.{codes-of}
use Rattle.page.proofs.WithPageLaws.{lent, goes_on_lem, with-zero, with-either}
use Rattle.page.proofs.PageRefusals.{refusals}
use Rattle.page.proofs.ChargeLaws.{charged-grows}

-- ---- an accepted step

module _ (image read : List ℕ) (controller : ℕ) (out : List ℕ) where
  abbrev st : State
  st = state_of image

  abbrev s : Stepped
  s = step_of st read controller

  abbrev next : List ℕ → List ℕ
  next page = page_stepped st.setup.n (found_view st) s.health (shown_view s.state) s.causes page

  passes : (step_call image read controller out).answer.number ≡ 0 → is_accepted (check_image image) ≡ true
  passes z = eq-eqb (check_image image).number 0 (step-passed image read controller out z).0

  -- what becomes of a page
  step-either : (P : List ℕ → Type 0) (page : List ℕ) → P page → (length page ≡ 64 → P (next page)) → P (page_step_call image read controller out page).page
  unfolding page_step_call
  step-either P page p q = with-either _ (step_call image read controller out) out page (next page) P passes p q

  module _ (page : List ℕ) (z : (page_step_call image read controller out page).call.answer.number ≡ 0) where
    abbrev after : PageCalled
    after = page_step_call image read controller out page

    zero : (is_accepted (check_image image) && not (is_page page) ≡ false) × ((step_call image read controller out).answer.number ≡ 0)
    unfolding page_step_call
    zero = with-zero _ (step_call image read controller out) out page (next page) z

    long : length page ≡ 64
    long = lent _ (step_call image read controller out) out page (next page) (passes zero.1) zero.0

    made : after ≡ page_called (step_call image read controller out) (next page)
    unfolding page_step_call
    made =
        goes_on_lem _ (step_call image read controller out) out page (next page) zero.0
        ∙ ap (page_called (step_call image read controller out)) (cond-true (next page) page (eq-eqb _ 0 zero.1))

    same_step : after.call ≡ step_call image read controller out
    same_step = ap (λ (x : PageCalled). x.call) made

    page-is : after.page ≡ next page
    page-is = ap (λ (x : PageCalled). x.page) made

    health-is : after.call.answer.health ≡ s.health
    health-is = ap (λ (x : PageCalled). x.call.answer.health) made ∙ (step-writes image read controller out zero.1).1

    view-is : shown_view (state_of after.call.out) ≡ shown_view s.state
    view-is =
        let (ok, taken) = step-passed image read controller out zero.1 in
        let (valid, shaped) = round_trip.keeps st read controller (round_trip.read-accepted image ok).1 taken in
        ap (λ (x : PageCalled). shown_view (state_of x.call.out)) made
        ∙ (shown-back s.state valid shaped (step-writes image read controller out zero.1).0).1

    health-word : word_at after.page 0 ≡ after.call.answer.health
    health-word = ap (λ (x : List ℕ). word_at x 0) page-is ∙ word-0 _ _ _ _ _ page long ∙ sym health-is

    view-word : word_at after.page 1 ≡ shown_view (state_of after.call.out)
    view-word = ap (λ (x : List ℕ). word_at x 1) page-is ∙ word-1 _ _ _ _ _ page long ∙ sym view-is

    enable-stays : word_at after.page 3 ≡ word_at page 3
    enable-stays =
        ap (λ (x : List ℕ). word_at x 3) page-is
        ∙ word-other _ _ _ _ _ page long 3 (omega arith) (λ e. omega arith) (λ e. omega arith) (λ e. omega arith) (λ e. omega arith)

    above-stays : (i : ℕ) → 8 ≤ i → word_at after.page i ≡ word_at page i
    above-stays i h =
        ap (λ (x : List ℕ). word_at x i) page-is
        ∙ word-other _ _ _ _ _ page long i (omega arith) (λ e. omega arith) (λ e. omega arith) (λ e. omega arith) (λ e. omega arith)

    -- the causes are those of the read
    accepted : s.number ≡ 0
    accepted = (step-passed image read controller out zero.1).1

    causes-are : s.causes ≡ causes_of st.setup.n read controller
    unfolding accepted_step
    causes-are = ap (λ (x : Stepped). x.causes) (step-accepted st read controller accepted).1

    at_most : st.setup.n ≤ 16
    at_most = (valid-fits st (step-accepted st read controller accepted).0).setup.most

    cause-is : (j : ℕ) → j < 16 → cause_at after.page j ≡ get_or (causes_of st.setup.n read controller) j 0
    cause-is j h =
        ap (λ (x : List ℕ). cause_at x j) page-is
        ∙ cause-of _ _ _ _ s.causes page long
        (codes-of st.setup.n read controller at_most causes-are) j h
        ∙ ap (λ (x : List ℕ). get_or x j 0) causes-are

    cause-read : (j : ℕ) → j < st.setup.n → cause_at after.page j ≡ cause_of st.setup.n (bit controller j) (word_at read j)
    cause-read j h = let m = at_most in cause-is j (omega arith) ∙ of-read st.setup.n read controller j h m

    cause-above : (j : ℕ) → st.setup.n ≤ j → j < 16 → cause_at after.page j ≡ 0
    cause-above j h l = cause-is j l ∙ no-module st.setup.n read controller j h l

    cause-heard : (j : ℕ) → j < st.setup.n → (cause_at after.page j ≡ 0) ↔ (bit (reading_of st.setup.n read controller).heard j ≡ true)
    cause-heard j h =
        let m = at_most in
        let e = cause-is j (omega arith) in
        let z = hears st.setup.n read controller j h m in
        (λ c. z.0 (sym e ∙ c), λ c. e ∙ z.1 c)

    flags-are : word_at after.page 2 ≡ raised (word_at page 2) (not (eqb (word_at page 1) (shown_view s.state)))
        (somebody_charged st.setup.n (found_view st) s.health)
    flags-are = ap (λ (x : List ℕ). word_at x 2) page-is ∙ word-2 _ _ _ _ _ page long

    enabled : (j : ℕ) → j < 32 → bit (word_at after.page 2) j ≡ true → bit (word_at page 3) j ≡ true → interrupt_on after.page ≡ true
    enabled j h t u = turns-on after.page j h t (ap (λ (x : ℕ). bit x j) enable-stays ∙ u)

    -- whether the view differs from word 1, and whether somebody was charged
    abbrev moves : Bool
    moves = not (eqb (word_at page 1) (shown_view (state_of after.call.out)))

    abbrev charges : Bool
    charges = somebody_charged st.setup.n (found_view st) after.call.answer.health

    flags-by : word_at after.page 2 ≡ raised (word_at page 2) moves charges
    flags-by =
        flags-are
        ∙ ap₂ (λ (v h : ℕ). raised (word_at page 2) (not (eqb (word_at page 1) v)) (somebody_charged st.setup.n (found_view st) h)) (sym view-is)
        (sym health-is)

    change-is : bit (word_at after.page 2) 0 ≡ bit (word_at page 2) 0 || moves
    change-is = ap (λ (x : ℕ). bit x 0) flags-by ∙ raised-0 (word_at page 2) moves charges

    charge-is : bit (word_at after.page 2) 1 ≡ bit (word_at page 2) 1 || charges
    charge-is = ap (λ (x : ℕ). bit x 1) flags-by ∙ raised-1 (word_at page 2) moves charges

    others-are : (j : ℕ) → 2 ≤ j → j < 32 → bit (word_at after.page 2) j ≡ bit (word_at page 2) j
    others-are j h l = ap (λ (x : ℕ). bit x j) flags-by ∙ raised-above (word_at page 2) j moves charges h l

    change-set : word_at page 1 ≢ shown_view (state_of after.call.out) → bit (word_at after.page 2) 0 ≡ true
    change-set f = change-is ∙ or_r (bit (word_at page 2) 0) moves (ap not (ne_eqb _ _ f))

    charge-set : charges ≡ true → bit (word_at after.page 2) 1 ≡ true
    charge-set c = charge-is ∙ or_r (bit (word_at page 2) 1) charges c

-- ---- a page shows its module's view

module _ (setup : List ℕ) (own : ℕ) (out page : List ℕ) (z : (page_open_call setup own out page).call.answer.number ≡ 0) where
  abbrev opening : PageCalled
  opening = page_open_call setup own out page

  abbrev fresh : State
  fresh = (open_of (setup_of setup) own).state

  opens-zero : (eqb (open_call setup own out).answer.number 0 && not (is_page page) ≡ false) × ((open_call setup own out).answer.number ≡ 0)
  unfolding page_open_call
  opens-zero = with-zero _ (open_call setup own out) out page (page_opened fresh.setup.n (shown_view fresh)) z

  opens-made : opening ≡ page_called (open_call setup own out) (page_opened fresh.setup.n (shown_view fresh))
  unfolding page_open_call
  opens-made =
      goes_on_lem _ (open_call setup own out) out page (page_opened fresh.setup.n (shown_view fresh)) opens-zero.0
      ∙ ap (page_called (open_call setup own out)) (cond-true _ page (eq-eqb _ 0 opens-zero.1))

  same-opening : opening.call ≡ open_call setup own out
  same-opening = ap (λ (x : PageCalled). x.call) opens-made

  opened_view : word_at opening.page 1 ≡ shown_view (state_of opening.call.out)
  opened_view =
      let (ok, taken) = open-passed setup own out opens-zero.1 in
      let (valid, shaped) = round_trip.opens (setup_of setup) own (read-shaped setup ok) taken in
      ap (λ (x : PageCalled). word_at x.page 1) opens-made ∙ opened-1 fresh.setup.n (shown_view fresh)
      ∙ sym (ap (λ (x : PageCalled). shown_view (state_of x.call.out)) opens-made
      ∙ (shown-back fresh valid shaped (open-writes setup own out opens-zero.1)).1)

-- a pending change shows nothing
pending-shown : (st : State) (c : Pending) → shown_view (with_pending st c) ≡ shown_view st
unfolding shown_view
pending-shown st c = refl

shows : (image page : List ℕ) → Paged image page → word_at page 1 ≡ shown_view (state_of image)
unfolding page_step_call
shows _ _ (opens setup own out page z) = opened_view setup own out page z
shows _ _ (steps {image} {page} p read controller out z) = view-word image read controller out page z
shows _ page (changes {image} p new lead out z) =
    let (v, w, n) = change-passed image new lead out z in
    shows image page p
    ∙ sym ((shown-back (change_of (state_of image) (setup_of new) lead).state (round_trip.changes (state_of image) (setup_of new) lead (round_trip.read-accepted image v).1 (read-shaped new w) n).0
    (round_trip.changes (state_of image) (setup_of new) lead (round_trip.read-accepted image v).1 (read-shaped new w) n).1 (change-writes image new lead out z)).1
    ∙ ap shown_view (change-taken (state_of image) (setup_of new) lead n).state ∙ pending-shown (state_of image) _)
shows _ page (saves {image} p out z) =
    shows image page p
    ∙ sym (shown-back (state_of image) (round_trip.read-accepted image (save-passed image out z)).0 (round_trip.read-accepted image (save-passed image out z)).1 (save-writes image out z)).1
shows _ page (refused-image {image} p r) =
    shows image page p ∙ ap (λ (x : List ℕ). shown_view (state_of x)) (sym (refusals.unaltered image _ r))
shows image _ (refused-page {page = page} p r) = ap (λ (x : List ℕ). word_at x 1) (refusals.unaltered page _ r) ∙ shows image page p
shows image _ (writes {page = page} p offset value) =
    write-either page offset value (λ x. word_at x 1 ≡ shown_view (state_of image)) (shows image page p)
    (λ l. written-1 offset value page l ∙ shows image page p)

-- ---- a flag is lost only by a write that names it

module _ (j : ℕ) (h : j < 32) where
  abbrev Set : List ℕ → Type 0
  Set page = bit (word_at page 2) j ≡ true

  step_kept : (image read : List ℕ) (controller : ℕ) (out page : List ℕ) → Set page → Set (page_step_call image read controller out page).page
  step_kept image read controller out page t =
      step-either image read controller out Set page t
      (λ l. ap (λ (x : ℕ). bit x j) (word-2 _ _ _ _ _ page l) ∙ raised-kept (word_at page 2) j _ _ h t)

  written-kept : (offset value : ℕ) (page : List ℕ) → length page ≡ 64 → eqb offset 8 && bit value j ≡ false → Set page → Set (page_written offset value page)
  unfolding page_written
  written-kept offset value page l f t =
      ⊎_elim
      (λ (e : eqb offset 8 ≡ true).
      subst Set (sym (cond-true _ _ e))
      (ap (λ (x : ℕ). bit x j) (read-put page 2 (cleared (word_at page 2) value) (omega arith))
      ∙ cleared-kept (word_at page 2) value j h (sym (ap (λ (b : Bool). b && bit value j) e) ∙ f) t))
      (λ (e : eqb offset 8 ≡ false).
      subst Set (sym (cond-false _ _ e)) (ap (λ (x : ℕ). bit x j) (read-put-other page 3 2 value (omega arith) (λ i. omega arith)) ∙ t))
      (which (eqb offset 8))

  write_kept : (page : List ℕ) (offset value : ℕ) → eqb offset 8 && bit value j ≡ false → Set page → Set (write_call page offset value).page
  write_kept page offset value f t = write-either page offset value Set t (λ l. written-kept offset value page l f t)

  pub stays-set : (page now : List ℕ) → Unnamed j page now → Set page → Set now
  stays-set page _ here t = t
  stays-set page _ (stepped {now} u image read controller out) t = step_kept image read controller out now (stays-set page now u t)
  stays-set page _ (not_opened {now} u setup own out f) t = subst Set (sym (refusals.unaltered now _ (page-of-opening setup own out f))) (stays-set page now u t)
  stays-set page _ (written {now} u offset value f) t = write_kept now offset value f (stays-set page now u t)

-- ---- whom rule 8 charges

grew : (image : List ℕ) (p r health : ℕ) → (check_image image).number ≡ 0
    → let found : Books = turned (books_of (state_of image)) in
    found.setup.limits ≡ Counts p r
    → somebody_charged (state_of image).setup.n (found_view (state_of image)) health
    ≡ any (state_of image).setup.n
    (λ j. ltb (get_or found.counters.penalty j 0) (get_or (counters_of found.setup health found.counters).penalty j 0))
unfolding found_view
grew image p r health z e =
    let books = books_of (state_of image) in
    let found = turned books in
    let f = valid-fits (state_of image) (load-valid image z) in
    let s = turned-setup-fits books f.pending f.setup in
    let kept = within-kept found.setup.limits found.setup found.counters s.most (turned-accounts books f.setup f.pending f.counters) in
    subst
    (λ (n : ℕ).
    somebody_charged n found.counters.view health
    ≡ any n (λ j. ltb (get_or found.counters.penalty j 0) (get_or (counters_of found.setup health found.counters).penalty j 0)))
    (turned-size books)
    (charged-grows found.setup p r e found.counters health s
    (λ j h. (subst (λ (l : Limits). Kept l (get_or found.setup.criticality j 0) (account_at found.counters j)) e (kept j h)).0))

pub promise : Promise
promise = record {
  same-opening = same-opening;
  same_step = same_step;
  health = health-word;
  view = view-word;
  shown = shows;
  grew = grew;
  change-flag = change-is;
  charge-flag = charge-is;
  other-flags = others-are;
  enable-stays = enable-stays;
  other-words = above-stays;
  causes = cause-read;
  causes-above = cause-above;
  heard-exactly = cause-heard;
  no-causes = λ setup own out page z j h. ap (λ (x : PageCalled). cause_at x.page j) (opens-made setup own out page z) ∙ opened-cause _ _ j h;
  clears = λ page value l j h.
      ap (λ (x : List ℕ). bit (word_at x 2) j) (write-8 page value l)
      ∙ ap (λ (x : ℕ). bit x j) (read-put page 2 (cleared (word_at page 2) value) (omega arith)) ∙ cleared-bit (word_at page 2) value j h;
  clears-only = λ page value l i f.
      ap (λ (x : List ℕ). word_at x i) (write-8 page value l) ∙ read-put-other page 2 i (cleared (word_at page 2) value) (omega arith) f;
  stores = λ page value l. ap (λ (x : List ℕ). word_at x 3) (write-12 page value l) ∙ read-put page 3 value (omega arith);
  stores-only = λ page value l i f. ap (λ (x : List ℕ). word_at x i) (write-12 page value l) ∙ read-put-other page 3 i value (omega arith) f;
  elsewhere = write-none;
  on-exactly = λ page. (on-by page, λ s. turns-on page s.0 s.1 s.2 s.3);
  kept = λ j page now h u t. stays-set j h page now u t;
  stays_on = λ j page now h u t e. turns-on now j h (stays-set j h page now u t) e;
  changed = λ image read controller out page z f. enabled image read controller out page z 0 (omega arith) (change-set image read controller out page z f);
  charged = λ image read controller out page z c. enabled image read controller out page z 1 (omega arith) (charge-set image read controller out page z c);
}
