-- A valid state, field by field; a fresh module is valid, and a round keeps it so.
use mathlib.Core.Path.{◌≡◌, refl, ap, ◌∙◌, sym, subst}
use mathlib.Core.Bool.{Bool, true, false, cond}
use mathlib.Core.List.{List}
use Prim.Native.Nat.{ℕ, ◌+◌, ◌^◌, ◌<◌, ◌≤◌}
use native.Mathlib.Omega.{arith}
use lib.ListN.{get_or}
use lib.Pow.{pow_mono}
use borrow.Author.Tests.{lt-ltb}
use Rattle.words.specs.Bits.{bit, full}
use Rattle.words.specs.Verdict.{accepted, Test, single, outcome}
use Rattle.words.specs.Runs.{run_word}
use Rattle.words.specs.Verdict.{Verdict}
use Rattle.words.proofs.BitLaws.{pack-lt, full-lt, bit-full}
use Rattle.words.proofs.ArrayLaws.{clear_from, array_at, array-clear}
use Rattle.words.proofs.VerdictLaws.{Passed, and-then-next, single-ok}
use Rattle.setup.specs.Layout.{head_at, front_words}
use Rattle.setup.specs.Limits.{fades}
use Rattle.setup.specs.Setup.{partitionable_in, front_of}
use Rattle.setup.specs.Check.{setup_verdict}
use Rattle.setup.specs.declared.Setup.{Setup}
use Rattle.setup.proofs.SetupLaws.{SetupFits, verdict-fits, fits-verdict as setup-accepted}
use Rattle.rules.specs.Hearing.{reading_of}
use Rattle.accounts.specs.Round.{counters_of}
use Rattle.rules.proofs.SyndromeLaws.{syndrome-lt}
use Rattle.changes.specs.Pending.{pending_of}
use Rattle.changes.specs.Books.{turned, counted, books_after}
use Rattle.changes.specs.Frame.{frame_verdict}
use Rattle.changes.proofs.PendingLaws.{PendingFits, nothing-fits, frame-fits, fits-small as fits-pending}
use Rattle.changes.proofs.ChangeWords.{ModulesStand, change-stands, change-ok, change-pass}
use Rattle.changes.proofs.TurnLaws.{turned-size, turned-partitionable, turned-setup-fits, turned-pending-fits}
use Rattle.views.specs.ViewWord.{views_seen}
use Rattle.views.specs.Views.{no_views, views_after}
use Rattle.views.specs.Section.{view_tests}
use Rattle.views.proofs.ViewsLaws.{ViewsFit, small-views as fits-views, none-fits, opened-fits, read_fits, after-fits as views-fit}
use Rattle.views.proofs.ViewWords.{views-ok, views-pass}
use Rattle.image.specs.Layout.{own_at, left_at, views_at}
use Rattle.image.specs.Words.{view_in}
use Rattle.image.specs.Rows.{row_fits}
use Rattle.image.proofs.TailLaws.{TailFits, tail-pass, tail-ok}
use Rattle.image.proofs.SingleWords.{own-made, syndrome-made, own-number-right, own-right, syndrome-right}
use Rattle.image.proofs.RowLaws.{row_small, rows_ok, rows_pass, reading-fits}
use Rattle.image.proofs.CounterLaws.{AccountsWithin, accounts-small, accounts-ok, accounts-pass, zero-accounts, round-accounts}
use Rattle.image.proofs.BooksLaws.{turned-accounts}
use Rattle.presence.specs.Image.{image_runs}
use Rattle.presence.specs.Valid.{roomy, state_verdict, Valid}
use Rattle.presence.specs.Opening.{fresh}
use Rattle.presence.specs.Step.{seen_by, judgement_for, books_of, voted_views, views_for, after_round}
use Rattle.presence.specs.Change.{with_pending}
use Rattle.presence.specs.declared.State.{State}
use Rattle.presence.proofs.SmallLaws.{Small, small-roomy, valid-setup, valid-small, valid-tail}
use Rattle.presence.proofs.StateWords.{Stands, stands, words-partitionable, state-read}
use Rattle.presence.proofs.FrameLaws.{frame-pass, follows-lead}

pub record StateFits (st : State) : Type 0 where
  pub setup : SetupFits st.setup
  pub first : 1 ≤ st.own
  pub last : st.own ≤ st.setup.n
  pub view : st.counters.view < 2 ^ st.setup.n
  pub rows : (j : ℕ) → j < st.setup.n → row_fits st.setup.n (bit st.previous.heard j) (get_or st.previous.rows j 0) ≡ true
  pub latest : st.latest < 2 ^ st.setup.n
  pub earlier : st.earlier < 2 ^ st.setup.n
  pub counters : AccountsWithin st.setup.limits st.setup st.counters
  pub heard : st.previous.heard < 2 ^ st.setup.n
  pub no_rows : clear_from st.setup.n st.previous.rows ≡ true
  pub pending : PendingFits st.setup st.pending
  pub views : ViewsFit st.setup.partitionable st.setup.n st.views

-- the module words of a setup that counts
modules-stand : (st : State) {w : ℕ → ℕ} → Stands st w → ModulesStand w st.setup
modules-stand st {w} d e j h = ap (λ (b : Bool). w (front_words b + j)) (sym e) ∙ d.modules j h

-- the tests of the views, by the words and by the state
abbrev views_tests : State → (ℕ → ℕ) → List Test
views_tests st w =
    let front = front_of st.setup in
    view_tests (partitionable_in (w head_at)) w st.setup.n (view_in (w (own_at front st.setup.n))) (views_at front st.setup.n (w (left_at front st.setup.n)))

tests_same : (st : State) {w : ℕ → ℕ} → SetupFits st.setup → Small st → Stands st w
    → views_tests st w ≡ view_tests st.setup.partitionable w st.setup.n st.counters.view (views_at (front_of st.setup) st.setup.n st.pending.left)
tests_same st {w} f m d =
    let front = front_of st.setup in
    let t = words-partitionable st f d in
    let v = (state-read st w f m d).before.view-there in
    let l = (change-stands w (left_at front st.setup.n) st.setup st.pending d.change).left in
    λ i. view_tests (t i) w st.setup.n (v i) (views_at front st.setup.n (l i))

views-tests : (st : State) {w : ℕ → ℕ} → SetupFits st.setup → Small st → Stands st w → Passed (views_tests st w)
    → Passed (view_tests st.setup.partitionable w st.setup.n st.counters.view (views_at (front_of st.setup) st.setup.n st.pending.left))
views-tests st {w} f m d t = subst Passed (tests_same st f m d) t

tests-views : (st : State) {w : ℕ → ℕ} → SetupFits st.setup → Small st → Stands st w
    → Passed (view_tests st.setup.partitionable w st.setup.n st.counters.view (views_at (front_of st.setup) st.setup.n st.pending.left))
    → Passed (views_tests st w)
tests-views st {w} f m d t = subst Passed (sym (tests_same st f m d)) t

pub valid-fits : (st : State) → Valid st → StateFits st
valid-fits st e =
    let n = st.setup.n in
    let w = run_word (image_runs st) in
    let f = verdict-fits st.setup (valid-setup st e) in
    let m = valid-small st e in
    let d = stands st in
    let b = state-read st w f m d in
    let front = front_of st.setup in
    let t = tail-pass (fades st.setup.limits) w n (valid-tail st e) in
    let own = own-made n (w (own_at front n)) t.number t.own in
    record {
      setup = f;
      first = rw b.own at own.first;
      last = rw b.own at own.last;
      view = rw b.before.view-there at own.view;
      rows = rows_pass w front n st.previous m.rows d.rows t.rows;
      latest = rw b.latest at (syndrome-made n _ t.latest).1;
      earlier = rw b.earlier at (syndrome-made n _ t.earlier).1;
      counters = accounts-pass w st.setup.limits st.setup st.counters f.most m.counters d.counters b.before t.counters;
      heard = m.rows.heard;
      no_rows = m.rows.no_rows;
      pending = change-pass w (left_at front n) st.setup st.pending f (modules-stand st d) d.change m.pending t.change;
      views = views-pass st.setup.partitionable w (views_at front n st.pending.left) n st.counters.view _ st.views d.views m.views (views-tests st f m d t.views);
    }

below : (v n : ℕ) → v < 2 ^ n → n ≤ 16 → v < 2 ^ 16
below v n h l = omega (arith, pow_mono {i = n} {j = 16} l)

fits-small : (st : State) → StateFits st → Small st
fits-small st f =
    let n = st.setup.n in
    let k : n ≤ 16 = f.setup.most in
    record {
      size = k;
      own = omega (arith, f.last);
      view = below _ n f.view k;
      latest = below _ n f.latest k;
      earlier = below _ n f.earlier k;
      rows =
          record {
            row = λ j h. row_small n (bit st.previous.heard j) _ (f.rows j h) (pow_mono {i = n} {j = 16} k);
            heard = f.heard;
            no_rows = f.no_rows;
          };
      counters = accounts-small st.setup.limits st.setup st.counters f.setup.limits f.setup f.counters;
      pending = fits-pending st.setup st.pending f.setup f.pending;
      views = fits-views st.setup.partitionable n st.views k f.views;
    }

-- the words of its image are right
tail-fits : (st : State) → StateFits st → TailFits (fades st.setup.limits) (run_word (image_runs st)) st.setup.n
tail-fits st f =
    let n = st.setup.n in
    let w = run_word (image_runs st) in
    let m = fits-small st f in
    let d = stands st in
    let b = state-read st w f.setup m d in
    record {
      number = rw d.own (own-number-right st.own st.counters.view m.own m.view n f.first f.last);
      own = rw d.own (own-right st.own st.counters.view m.own m.view n f.view);
      rows = rows_ok w (front_of st.setup) n st.previous m.rows d.rows f.rows;
      latest = rw d.latest (syndrome-right n st.latest m.latest f.latest);
      earlier = rw d.earlier (syndrome-right n st.earlier m.earlier f.earlier);
      counters = accounts-ok w st.setup.limits st.setup st.counters f.setup.most m.counters d.counters b.before f.counters;
      change = change-ok w (left_at (front_of st.setup) n) st.setup st.pending f.setup (modules-stand st d) d.change f.pending;
      views =
          tests-views st f.setup m d
          (views-ok st.setup.partitionable w (views_at (front_of st.setup) n st.pending.left) n st.counters.view _ st.views d.views refl f.views);
    }

pub fits-verdict : (st : State) → StateFits st → state_verdict st ≡ accepted
unfolding state_verdict
fits-verdict st f =
    and-then-next (setup_verdict st.setup) _ (ap (λ (v : Verdict). v.number) (setup-accepted st.setup f.setup))
    ∙ and-then-next (outcome (single (roomy st) 8 0)) _ (ap (λ (v : Verdict). v.number) (single-ok (roomy st) 8 0 (small-roomy st (fits-small st f))))
    ∙ tail-ok (fades st.setup.limits) (run_word (image_runs st)) st.setup.n (tail-fits st f)

pub fits-valid : (st : State) → StateFits st → Valid st
fits-valid st f = ap (λ (v : Verdict). v.number) (fits-verdict st f)

-- ---- opening

pub fresh-fits : (s : Setup) (own : ℕ) → SetupFits s → 1 ≤ own → own ≤ s.n → StateFits (fresh s own)
unfolding fresh row_fits
fresh-fits s own f h l =
    record {
      setup = f;
      first = h;
      last = l;
      view = full-lt s.n;
      rows = λ j k.
          rw (bit-full s.n j k, array_at s.n (λ j. full s.n) j k f.most) (lt-ltb (full s.n) (2 ^ s.n) (full-lt s.n));
      latest = full-lt s.n;
      earlier = full-lt s.n;
      counters = zero-accounts s.limits s f.limits f;
      heard = full-lt s.n;
      no_rows = array-clear s.n (λ j. full s.n);
      pending = nothing-fits s;
      views = opened-fits s.partitionable s.n f.most;
    }

-- ---- a round

-- the views after it
views_after_lem : (st : State) (read : List ℕ) (controller : ℕ) → StateFits st
    → ViewsFit st.setup.partitionable st.setup.n (views_for st (seen_by st read controller))
unfolding views_for views_seen
views_after_lem st read controller f = go st.setup.partitionable f.views
  where
    go : (b : Bool) → ViewsFit b st.setup.n st.views
        → ViewsFit b st.setup.n
        (cond b (views_after st.setup.n st.views (voted_views st (views_seen b st.setup.n read controller)) (views_seen b st.setup.n read controller) st.counters.view) no_views)
    go true v = views-fit st.setup.n st.views _ _ _ f.view (read_fits st.setup.n read controller f.setup.most) v
    go false v = none-fits st.setup.n

pub after-fits : (st : State) (read : List ℕ) (controller : ℕ) → StateFits st
    → StateFits (after_round st (reading_of st.setup.n read controller) (seen_by st read controller))
unfolding after_round judgement_for reading_of books_after counted counters_of
after-fits st read controller f =
    let n = st.setup.n in
    let b = turned (books_of st) in
    let e : b.setup.n ≡ n = turned-size (books_of st) in
    let s : SetupFits b.setup = turned-setup-fits (books_of st) f.pending f.setup in
    record {
      setup = s;
      first = f.first;
      last = rw e f.last;
      view = pack-lt b.setup.n _;
      rows = λ j h. rw e (reading-fits n read controller j (rw e at h) f.setup.most);
      latest = rw e (syndrome-lt n _ _ _);
      earlier = rw e f.latest;
      counters = round-accounts b.setup.limits b.setup _ b.counters refl s.limits s (turned-accounts (books_of st) f.setup f.pending f.counters);
      heard = rw e (pack-lt n _);
      no_rows = rw e (array-clear n _);
      pending = turned-pending-fits (books_of st) f.pending;
      views = rw (turned-partitionable (books_of st), e) (views_after_lem st read controller f);
    }

-- ---- a change

pub change-fits : (st : State) (new : Setup) (lead : ℕ) → StateFits st → SetupFits new → (frame_verdict st.setup st.pending new lead).number ≡ 0
    → StateFits (with_pending st (pending_of new lead))
change-fits st new lead f g e =
    let (same, follows) = frame-pass st.setup st.pending new lead e in
    let (least, most) = follows-lead st.pending lead follows in
    record {
      setup = f.setup;
      first = f.first;
      last = f.last;
      view = f.view;
      rows = f.rows;
      latest = f.latest;
      earlier = f.earlier;
      counters = f.counters;
      heard = f.heard;
      no_rows = f.no_rows;
      pending = frame-fits st.setup new f.setup g same lead least most;
      views = f.views;
    }

-- ---- a change that takes effect

-- its limits and criticalities are small enough to add to
pub turn_small : (st : State) → StateFits st
    → ((st.setup.n ≤ 16) × (st.pending.p < 2 ^ 28)) × ((j : ℕ) → j < st.setup.n → get_or st.pending.criticality j 0 < 2 ^ 28)
turn_small st f =
    let m = fits-pending st.setup st.pending f.setup f.pending in
    ((f.setup.most, m.p), λ j h. omega (arith, m.criticality j h))
