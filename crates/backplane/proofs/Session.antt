-- The bench plays a session, and what it prints `in` is agreed.
use Prim.Native.Nat.{ℕ, zero, suc, ◌+◌, ◌-◌, ◌*◌, ◌%◌, ◌<◌, ◌≤◌}
use mathlib.Core.Path.{◌≡◌, refl, sym, ap, ap₂, ◌∙◌, subst}
use mathlib.Core.Bool.{Bool, true, false, cond, not, ◌&&◌}
use mathlib.Core.Logic.{◌≢◌}
use mathlib.Core.List.{List, []}
use native.Mathlib.Omega.{arith}
use native.Mathlib.Nat.{le_refl}
use lib.Dec.{eqb, ltb}
use lib.ListN.{get_or, length, replicate, length-replicate}
use borrow.Author.Tests.{eqb-true, eq-eqb, ne_eqb, ltb-true, lt-ltb, not-true}
use Rattle.words.specs.Bits.{bit, b2n}
use Rattle.words.specs.Count.{all}
use Rattle.words.proofs.Truth.{clash, and_l, and_r, and-true, and_false_r, cond-true, cond-false}
use Rattle.words.proofs.BitLaws.{bit-full}
use Rattle.words.proofs.ArrayLaws.{array_at}
use Rattle.words.proofs.CountLaws.{all-at}
use Rattle.words.proofs.LowestLaws.{lowest-le}
use Rattle.words.proofs.TableLaws.{table_at, updated-at, updated-length}
use Rattle.setup.specs.Setup.{setup_of}
use Rattle.setup.specs.Check.{setup_verdict}
use Rattle.setup.specs.declared.Setup.{Setup}
use Rattle.rules.specs.Lag.{skewed}
use Rattle.accounts.specs.declared.Counters.{Counters}
use Rattle.presence.specs.Opening.{blank, open_of}
use Rattle.presence.specs.Shown.{shown_view}
use Rattle.presence.specs.declared.State.{State}
use Rattle.script.specs.Check.{check_script}
use Rattle.script.specs.Cursor.{advanced, cursor_at}
use Rattle.script.specs.Told.{cast_of}
use Rattle.script.specs.Rounds.{rounds_of}
use Rattle.script.specs.Effect.{fate_in, told_in, told_view_in}
use Rattle.script.specs.declared.Cursor.{Cursor}
use Rattle.script.specs.declared.Events.{Events}
use Rattle.script.proofs.CastLaws.{only-cast, plays-all}
use Rattle.agreement.specs.Fault.{follows_in, first_follower, kept_over, limit}
use Rattle.agreement.specs.Session.{Offer, Session, Accepted, size, u, follows, RuleFollower, Partitionable, bit_in, word_in, view_word_in, view_word_sent, BoundViews, round, state, health, view_of, kept_by, kept}
use Rattle.agreement.specs.Life.{Life}
use Rattle.agreement.specs.Demand.{KeptTo}
use Rattle.agreement.specs.Existence.{Choice, NoChanges}
use Rattle.agreement.proofs.Steps.{small, setup-fits, held}
use Rattle.agreement.proofs.Demand.{demand-3}
use Rattle.agreement.proofs.Without.{common-without, life-without}
use Rattle.agreement.proofs.Existence.{existence}
use Rattle.adoption.proofs.AdoptedViews.{adopted-views}
use Rattle.bus.specs.Bus.{faultless, arrived}
use Rattle.bus.specs.Senders.{hearing_of, senders_in}
use Rattle.backplane.specs.Play.{state_at, opened_states, opened, sent_words, sent_views, stepped_states, answered_health, earlier, followers_view, counting_view, played}
use Rattle.backplane.specs.Run.{begun, goes_on, next_of, later, run_at}
use Rattle.backplane.specs.Session.{PlayedBy, HasSession, Carries, Hears, Holds, PlaysSession, InAgrees, ShownAlike}
use Rattle.backplane.specs.declared.Backplane.{Backplane}
use Rattle.backplane.proofs.StartLaws.{accepts, setup-read}
use Rattle.backplane.proofs.SessionLaws.{Tells, hears-bus, limit-as, carries, states-as, health-as}

-- ---- round by round

module _ (S : Session) (ok : Accepted S) (none : NoChanges S) where
  abbrev n : ℕ
  n = size S

  -- the backplane after round k, with what the next round needs of it
  record Shows (k : ℕ) (b : Backplane) : Type 0 where
    holds : Holds S k b
    cast : b.cast ≡ S.cast
    entries : length b.states ≡ 16
    before : Hears S (k - 1) b.before

  carries-first : Carries S 0 (faultless n)
  unfolding faultless bit_in word_in view_word_in
  carries-first = record {
    bits = λ i j hi hj. ap (λ (x : ℕ). bit x j) (array_at n _ i hi (small S ok)) ∙ bit-full n j hj;
    words = λ i j hi hj. let s = small S ok in table_at _ (i * 16 + j) (omega arith);
    views = λ p i j hi hj. let s = small S ok in table_at _ (i * 16 + j) (omega arith);
  }

  -- the view that a line shows, of states after round k
  shown-as : (k : ℕ) (states : List State) → ((i : ℕ) → i < n → state_at states i ≡ state S i k)
      → (i : ℕ) → i < n → shown_view (state_at states i) ≡ cond S.setup.partitionable (state S i k).views.adopted (view_of S i k)
  unfolding shown_view
  shown-as k states are i hi =
      ap shown_view (are i hi)
      ∙ ap (λ (b : Bool). cond b (state S i k).views.adopted (view_of S i k)) (held S ok i hi k).partitionable-is

  shows_first : (b : Backplane) → b ≡ opened S.setup S.cast → Shows 0 b
  unfolding opened opened_states state health all
  shows_first b e =
      let are : (i : ℕ) → i < n → state_at (opened_states S.setup) i ≡ state S i 0 = λ i hi.
      updated-at n _ (replicate 16 _) i blank hi (rw (length-replicate {A = State} 16 _) (small S ok)) in
      subst (Shows 0) (sym e) (record {
        holds =
            record {
              setup = refl;
              round = refl;
              states = are;
              shown = shown-as 0 (opened_states S.setup) are;
              health = λ i hi. array_at n _ i hi (small S ok);
              bus = carries-first;
              hearing = hears-bus S ok 0 (faultless n) carries-first;
              kept = refl;
            };
        cast = refl;
        entries = updated-length n _ (replicate 16 _) ∙ length-replicate {A = State} 16 (open_of S.setup 1).state;
        before = hears-bus S ok 0 (faultless n) carries-first;
      })

  -- how round k + 1 - u - 1 was heard
  earlier-hears : (k : ℕ) (b : Backplane) → Shows k b → Hears S (suc k - u S - 1) (earlier b)
  unfolding earlier
  earlier-hears k b h =
      subst (λ (x : Setup). Hears S (suc k - u S - 1) (cond (skewed x.n x.places) b.before b.hearing)) (sym h.holds.setup)
      (go (skewed n S.setup.places))
    where
      go : (t : Bool) → Hears S (suc k - b2n t - 1) (cond t b.before b.hearing)
      go true = let e : suc k - 1 - 1 ≡ k - 1 = omega arith in rw e h.before
      go false = let e : suc k - 0 - 1 ≡ k = omega arith in rw e h.holds.hearing

  -- the rule-followers' view, in states after round m
  view-as : (states : List State) (m : ℕ) → ((i : ℕ) → i < n → state_at states i ≡ state S i m) → followers_view n S.cast states ≡ view_of S (first_follower n (follows S)) m
  unfolding followers_view
  view-as states m are =
      let most = lowest-le (follows S) n in
      let least = (setup-fits S ok).least in
      ap (λ (x : State). x.counters.view) (are (first_follower n (follows S)) (omega arith))

  -- the view by which the rows of round k + 1 are counted is that at the end of round k + 1 + u - 1
  counting-as : (k : ℕ) (b : Backplane) → Shows k b → (after : List State) → ((i : ℕ) → i < n → state_at after i ≡ state S i (suc k))
      → counting_view b after ≡ view_of S (first_follower n (follows S)) (suc k + u S - 1)
  unfolding counting_view
  counting-as k b h after are =
      ap₂ (λ (x : Setup) (y : ℕ). cond (skewed x.n x.places) (followers_view x.n y after) (followers_view x.n y b.states)) h.holds.setup h.cast
      ∙ go (skewed n S.setup.places)
    where
      go : (t : Bool) → cond t (followers_view n S.cast after) (followers_view n S.cast b.states) ≡ view_of S (first_follower n (follows S)) (suc k + b2n t - 1)
      go true = let e : suc k ≡ suc k + 1 - 1 = omega arith in view-as after (suc k) are ∙ ap (λ (m : ℕ). view_of S (first_follower n (follows S)) m) e
      go false = let e : k ≡ suc k + 0 - 1 = omega arith in view-as b.states k h.holds.states ∙ ap (λ (m : ℕ). view_of S (first_follower n (follows S)) m) e

  shows-next : (k : ℕ) (b : Backplane) (e : Events) → Shows k b → Tells S ok k e → Shows (suc k) (played b e)
  unfolding played stepped_states all kept_by
  shows-next k b e h t =
      let s = h.holds.setup in
      let this = arrived b.setup.n (sent_words b.setup.n b.states) (sent_views b.setup.n b.states) e in
      let q : this ≡ arrived n (sent_words n b.states) (sent_views n b.states) e =
      ap (λ (x : Setup). arrived x.n (sent_words x.n b.states) (sent_views x.n b.states) e) s in
      let c : Carries S (suc k) this = subst (Carries S (suc k)) (sym q) (carries S ok k b.states h.holds.states e t) in
      let heard : Hears S (suc k) (hearing_of b.setup.n b.cast this) =
      subst (Hears S (suc k)) (sym (ap₂ (λ (x : Setup) (y : ℕ). hearing_of x.n y this) s h.cast)) (hears-bus S ok (suc k) this c) in
      let after = stepped_states b.setup b.states this b.bus in
      let are : (i : ℕ) → i < n → state_at after i ≡ state S i (suc k) = λ i hi.
      ap (λ (x : Setup). state_at (stepped_states x b.states this b.bus) i) s
      ∙ states-as S ok k b.states h.holds.states this b.bus c h.holds.bus none h.entries i hi in
      let view = counting_view b after in
      let limit : kept_over b.setup.n (follows_in b.cast) (bit view) (senders_in (hearing_of b.setup.n b.cast this)) (senders_in (earlier b)) ≡ kept S (suc k) =
      ap₂ (λ (x : Setup) (y : ℕ). kept_over x.n (follows_in y) (bit view) (senders_in (hearing_of b.setup.n b.cast this)) (senders_in (earlier b))) s h.cast
      ∙ limit-as S ok (suc k) (suc k - u S - 1) _ _ heard (earlier-hears k b h) view
      ∙ ap (λ (v : ℕ). limit n (follows S) (bit v) (round S (suc k)) (round S (suc k - u S - 1))) (counting-as k b h after are) in
      let one : suc k - 1 ≡ k = omega arith in
      record {
        holds =
            record {
              setup = s;
              round = ap (λ (x : ℕ). x + 1) h.holds.round ∙ omega arith;
              states = are;
              shown = shown-as (suc k) after are;
              health = λ i hi.
                  ap (λ (x : Setup). get_or (answered_health x b.states this b.bus) i 0) s
                  ∙ health-as S ok k b.states h.holds.states this b.bus c h.holds.bus none i hi;
              bus = c;
              hearing = heard;
              kept = ap₂ (λ (x y : Bool). x && y) h.holds.kept limit;
            };
        cast = h.cast;
        entries = updated-length b.setup.n _ b.states ∙ h.entries;
        before = rw one h.holds.hearing;
      }

module _ (s : List ℕ) (e : (check_script s).number ≡ 0) where
  -- ---- its session: every word as it was sent, but for the lies, which only the cast tells

  lies : ℕ → ℕ → ℕ → Bool
  lies k i j = ltb i 16 && (ltb j 16 && eqb (fate_in s k i j) 8)

  lies-cast : (k i j : ℕ) → lies k i j ≡ true → bit (cast_of s) j ≡ true
  unfolding lies
  lies-cast k i j t =
      let hi = ltb-true i 16 (and_l _ _ t) in
      let hj = ltb-true j 16 (and_l _ _ (and_r (ltb i 16) _ t)) in
      let f = eqb-true (fate_in s k i j) 8 (and_r (ltb j 16) _ (and_r (ltb i 16) _ t)) in
      let r : (i * 16 + j) % 16 ≡ j = omega arith in
      rw r at (only-cast s e k (i * 16 + j) (omega arith) f)

  choice : Choice
  choice = record {
    setup = setup_of s;
    accepted = accepts s e;
    cast = cast_of s;
    controller = λ k i j. not (eqb (fate_in s k i j) 7);
    lies = lies;
    told = told_in s;
    told-view = told_view_in s;
    offers = λ k i. [];
    cast-only = lies-cast;
  }

  told-lies : (k i j : ℕ) → i < 16 → j < 16 → fate_in s k i j ≡ 8 → lies k i j ≡ true
  unfolding lies
  told-lies k i j hi hj f = and-true _ _ (lt-ltb i 16 hi) (and-true _ _ (lt-ltb j 16 hj) (eq-eqb _ 8 f))

  no_lie : (k i j : ℕ) → fate_in s k i j ≢ 8 → lies k i j ≡ false
  unfolding lies
  no_lie k i j f = and_false_r (ltb i 16) _ (and_false_r (ltb j 16) _ (ne_eqb _ 8 f))

pub has-session : HasSession
unfolding choice
has-session s e =
    let (S, P) = existence (choice s e) in (
      S,
      record {
        setup = P.setup;
        accepted = ap (λ (x : Setup). (setup_verdict x).number) P.setup ∙ accepts s e;
        cast = P.cast;
        controller = λ k i j. ap (λ (f : ℕ → ℕ → ℕ → Bool). f k i j) P.controller;
        told = λ k i j hi hj f. P.told k i j (told-lies s e k i j hi hj f);
        as-sent = λ k i j hj f. P.as-sent k i j hj (no_lie s e (suc k) i j f);
        bound = P.bound;
        told-view = λ p k i j hi hj f. P.told-view k i j (told-lies s e k i j hi hj f);
        as-sent-view = λ p k i j hj f. P.as-sent-view k i j hj (no_lie s e (suc k) i j f);
        bound-views = P.bound-views;
        no-changes = λ k i. ap (λ (f : ℕ → ℕ → List Offer). f (suc k) i) P.offers;
      },
    )

-- what is sent binds the view words, since only the cast is told any
pub views-bound : (s : List ℕ) → (check_script s).number ≡ 0 → (S : Session) → size S ≤ 16 → S.cast ≡ cast_of s
    → (Partitionable S → (k i j : ℕ) → j < size S → fate_in s (suc k) i j ≢ 8 → S.view (suc k) i j ≡ view_word_sent S j (suc k))
    → (last : ℕ) → BoundViews S last
unfolding view_word_in
views-bound s e S few c sends last p zero i l pos hk fi fl t = absurd (omega arith)
views-bound s e S few c sends last p (suc k) i l pos hk fi fl t =
    sends p k i l fl.below
    (λ f.
    let hi = fi.below in
    let hl = fl.below in
    let r : (i * 16 + l) % 16 ≡ l = omega arith in
    let told : bit (cast_of s) l ≡ true = rw r at (only-cast s e (suc k) (i * 16 + l) (omega arith) f) in
    clash (bit S.cast l) (ap (λ (x : ℕ). bit x l) c ∙ told) (not-true _ fl.true-to))

-- ---- the run is the session, round by round

pub run-cursor : (s : List ℕ) (k : ℕ) → (run_at s k).cursor ≡ cursor_at s k
unfolding later begun next_of cursor_at
run-cursor s zero = refl
run-cursor s (suc k) = ap (advanced s) (run-cursor s k)

cursor-next : (s : List ℕ) (k : ℕ) → advanced s (run_at s k).cursor ≡ cursor_at s (suc k)
unfolding cursor_at
cursor-next s k = ap (advanced s) (run-cursor s k)

module _ (s : List ℕ) (e : (check_script s).number ≡ 0) (S : Session) (P : PlayedBy s S) where
  tells : (k : ℕ) → Tells S P.accepted k (cursor_at s (suc k)).events
  tells k =
      let h = small S P.accepted in
      record {
        lost = λ i j hi hj. P.controller (suc k) i j;
        told = λ i j hi hj f. P.told (suc k) i j (omega arith) (omega arith) f;
        as-sent = λ i j hi hj f. P.as-sent k i j hj f;
        told-view = λ p i j hi hj f. P.told-view p (suc k) i j (omega arith) (omega arith) f;
        as-sent-view = λ p i j hi hj f. P.as-sent-view p k i j hj f;
      }

  -- the next round is played, since the script has one
  goes_on_lem : (k : ℕ) → suc k ≤ rounds_of s → (b : Backplane) → Holds S k b → goes_on (cursor_at s (suc k)) b ≡ true
  unfolding goes_on
  goes_on_lem k hk b h =
      let p = plays-all s e in
      let r : b.round < 100000 = omega (arith, h.round, p.most) in
      and-true _ _ (ap not (p.playing (suc k) hk)) (lt-ltb _ 100000 r)

  next-is : (k : ℕ) → suc k ≤ rounds_of s → Shows S P.accepted P.no-changes k (run_at s k).backplane
      → (run_at s (suc k)).backplane ≡ played (run_at s k).backplane (cursor_at s (suc k)).events
  unfolding later next_of
  next-is k hk h =
      let b = (run_at s k).backplane in
      ap (λ (x : Cursor). cond (goes_on x b) (played b x.events) b) (cursor-next s k) ∙ cond-true _ _ (goes_on_lem k hk b h.holds)

  shows : (k : ℕ) → k ≤ rounds_of s → Shows S P.accepted P.no-changes k (run_at s k).backplane
  unfolding later begun
  shows zero hk = shows_first S P.accepted P.no-changes _ (ap₂ opened (setup-read s e ∙ sym P.setup) (sym P.cast))
  shows (suc k) hk =
      let h = shows k (omega arith) in
      subst (Shows S P.accepted P.no-changes (suc k)) (sym (next-is k hk h)) (shows-next S P.accepted P.no-changes k _ _ h (tells k))

pub plays-session : PlaysSession
plays-session s e S P k hk = (shows s e S P k hk).holds

-- ---- what is printed `in` is agreed: demand 3

kept-to : (S : Session) (k : ℕ) → all k (λ ρ. kept S (suc ρ)) ≡ true → KeptTo S k
kept-to S k e zero pos hρ = absurd (omega arith)
kept-to S k e (suc ρ) pos hρ = all-at k (λ x. kept S (suc x)) e ρ (omega arith)

pub in-agrees : InAgrees
in-agrees s e S P k pos hk t =
    let b = (run_at s k).backplane in
    let h = plays-session s e S P k hk in
    let lives : (i : ℕ) → Life S i k [] (state S i k) (health S i k) = λ i. life-without S P.no-changes i k in
    let A = demand-3.agreement S P.accepted k (P.bound k) (common-without S P.no-changes k) k pos (le_refl k) (kept-to S k (sym h.kept ∙ t)) in
    let view : (i i' : ℕ) → RuleFollower S i → RuleFollower S i' → view_of S i k ≡ view_of S i' k = λ i i' fi fi'.
    let (_, c, _) = A.agree i i' _ _ [] [] _ _ fi fi' (lives i) (lives i') in ap (λ (x : Counters). x.view) c in
    record {
      same = λ i i' fi fi'.
          let (q, _, _) = A.agree i i' _ _ [] [] _ _ fi fi' (lives i) (lives i') in (
            h.health i fi.below ∙ q ∙ sym (h.health i' fi'.below),
            ap (λ (x : State). x.counters.view) (h.states i fi.below)
                ∙ view i i' fi fi'
                ∙ ap (λ (x : State). x.counters.view) (sym (h.states i' fi'.below)),
          );
      same-printed = λ f i i' fi fi'.
          h.shown i fi.below ∙ cond-false _ _ f ∙ view i i' fi fi' ∙ sym (h.shown i' fi'.below ∙ cond-false _ _ f);
      charged = λ j hj un i fi. ap (λ (x : ℕ). bit x j) (h.health i fi.below) ∙ A.charged j hj un i _ [] _ fi (lives i);
      cleared = λ j fj here alike i fi. ap (λ (x : ℕ). bit x j) (h.health i fi.below) ∙ A.cleared j fj here alike i _ [] _ fi (lives i);
    }

-- ---- what is adopted from the same view words is the same: adoption's theorem

pub shown-alike : ShownAlike
shown-alike s e S P p k hk one i i' fi fi' o o' =
    let h = plays-session s e S P (suc k) hk in
    let life : (j : ℕ) → Life S j (suc k) [] (state S j (suc k)) (health S j (suc k)) = λ j. life-without S P.no-changes j (suc k) in
    h.shown i fi.below ∙ cond-true _ _ p
    ∙ adopted-views.one-view S P.accepted p k i i' _ _ [] [] _ _ one fi fi' (life i) (life i') o o'
    ∙ sym (h.shown i' fi'.below ∙ cond-true _ _ p)
