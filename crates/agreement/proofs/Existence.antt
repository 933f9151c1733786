-- For every choice there is a bound session: the one in which everybody sends what it handed out, but where the cast lies.
-- Its words are found round by round, since what is sent in a round rests on the rounds before it alone.
use Prim.Native.Nat.{ℕ, zero, suc, ◌-◌, ◌≤◌, ◌<◌}
use mathlib.Core.Path.{◌≡◌, refl, sym, ap, ap₂, ◌∙◌}
use mathlib.Core.Bool.{Bool, true, false, cond}
use mathlib.Core.Logic.{⊎_elim}
use mathlib.Core.List.{List, ◌++◌}
use native.Mathlib.Omega.{arith}
use native.Mathlib.Nat.{eq-or-lt_of_le, le_refl, not-suc-le-zero}
use borrow.Author.Tests.{not-true}
use lib.Dec.{ltb}
use lib.ListN.{get_or}
use Rattle.words.specs.Bits.{bit}
use Rattle.words.proofs.Truth.{clash, which, cond-true}
use Rattle.words.proofs.ByteLaws.{bytes-ext}
use Rattle.rules.specs.Hearing.{bus_word}
use Rattle.views.specs.ViewWord.{view_word}
use Rattle.presence.specs.Step.{step_of}
use Rattle.presence.specs.declared.State.{State}
use Rattle.agreement.specs.Session.{made, Session, RuleFollower, bit_in, word_in, view_word_in, read_round, read_bits, read_bytes, state, sent, view_word_sent, Bound, BoundViews}
use Rattle.agreement.specs.Existence.{Choice, Plays, Existence}
use Rattle.agreement.proofs.Aligned.{sent_is, view-sent-is}

read-le : (S : Session) (i k j : ℕ) → read_round S i k j ≤ k
unfolding read_round
read-le S i k j = go (ltb j (get_or S.setup.places i 0))
  where
    go : (b : Bool) → cond b k (k - 1) ≤ k
    go true = omega arith
    go false = omega arith

-- a word and a view word
record Both : Type 0 where
  word : ℕ
  view : ℕ

module _ (C : Choice) where
  open C use {setup, accepted, cast, controller, lies, told, told-view, offers, cast-only}

  -- the chosen session with these words, by round, receiver and sender
  abbrev with-words : (ℕ → ℕ → ℕ → Both) → Session
  with-words w =
      record { setup = setup; cast = cast; controller = controller; word = λ k i j. (w k i j).word; view = λ k i j. (w k i j).view; offers = offers }

  -- ---- a state rests on the rounds so far alone

  abbrev Same : ℕ → (ℕ → ℕ → ℕ → Both) → (ℕ → ℕ → ℕ → Both) → Type 0
  Same k w w' = (r i j : ℕ) → 0 < r → r ≤ k → w r i j ≡ w' r i j

  word-eq : (w w' : ℕ → ℕ → ℕ → Both) (k : ℕ) → Same k w w'
      → (r i j : ℕ) → r ≤ k → word_in (with-words w) r i j ≡ word_in (with-words w') r i j
  unfolding word_in
  word-eq w w' k e zero i j h = refl
  word-eq w w' k e (suc r) i j h = ap (λ (b : Both). b.word) (e (suc r) i j (omega arith) h)

  view-eq : (w w' : ℕ → ℕ → ℕ → Both) (k : ℕ) → Same k w w'
      → (r i j : ℕ) → r ≤ k → view_word_in (with-words w) r i j ≡ view_word_in (with-words w') r i j
  unfolding view_word_in
  view-eq w w' k e zero i j h = refl
  view-eq w w' k e (suc r) i j h = ap (λ (b : Both). b.view) (e (suc r) i j (omega arith) h)

  read-eq : (w w' : ℕ → ℕ → ℕ → Both) (k : ℕ) → Same k w w' → (i : ℕ) → read_bytes (with-words w) i k ≡ read_bytes (with-words w') i k
  unfolding read_round
  read-eq w w' k e i =
      let at : (j : ℕ) → read_round (with-words w) i k j ≤ k = read-le (with-words w) i k in
      ap₂ (λ (front back : List ℕ). cond setup.partitionable (front ++ back) front)
      (bytes-ext setup.n _ _ (λ j hj. word-eq w w' k e (read_round (with-words w) i k j) i j (at j)))
      (bytes-ext setup.n _ _ (λ j hj. view-eq w w' k e (read_round (with-words w) i k j) i j (at j)))

  state-eq : (w w' : ℕ → ℕ → ℕ → Both) (k : ℕ) → Same k w w' → (i : ℕ) → state (with-words w) i k ≡ state (with-words w') i k
  unfolding state bit_in read_round
  state-eq w w' zero e i = refl
  state-eq w w' (suc k) e i =
      ap₂ (λ (st : State) (read : List ℕ). (step_of (made (offers (suc k) i) st) read (read_bits (with-words w) i (suc k))).state)
      (state-eq w w' k (λ r i j p h. e r i j p (omega arith)) i)
      (read-eq w w' (suc k) e i)

  -- ---- the words, right up to round m; and right in every round

  spoken : State → ℕ → ℕ → ℕ → Both
  spoken st k i j = record {
    word = cond (lies k i j) (told k i j) (bus_word st.latest);
    view = cond (lies k i j) (told-view k i j) (cond setup.partitionable (view_word st.counters.view) 0);
  }

  upto : ℕ → ℕ → ℕ → ℕ → Both
  upto zero k i j = record { word = 0; view = 0 }
  upto (suc m) k i j = spoken (state (with-words (upto m)) j (k - 1)) k i j

  words : ℕ → ℕ → ℕ → Both
  words k i j = spoken (state (with-words (upto k)) j (k - 1)) k i j

  -- a state after round k is the same from the words right up to k on
  stable : (m k i : ℕ) → k ≤ m → state (with-words (upto m)) i k ≡ state (with-words (upto (suc m))) i k
  unfolding upto
  stable zero k i h = state-eq (upto 0) (upto 1) k (λ r i j p g. absurd (omega arith)) i
  stable (suc m) k i h =
      state-eq (upto (suc m)) (upto (suc (suc m))) k (λ r i j p g. ap (λ (st : State). spoken st r i j) (stable m (r - 1) j (omega arith))) i

  stable-le : (m m' k i : ℕ) → k ≤ m → m ≤ m' → state (with-words (upto m)) i k ≡ state (with-words (upto m')) i k
  stable-le m zero k i h g = let e : m ≡ 0 = omega arith in rw e
  stable-le m (suc m') k i h g =
      ⊎_elim (λ (e : m ≡ suc m'). rw e) (λ (l : m < suc m'). stable-le m m' k i h (omega arith) ∙ stable m' k i (omega arith)) (eq-or-lt_of_le g)

  words_are : (m r i j : ℕ) → 0 < r → r ≤ m → words r i j ≡ upto m r i j
  unfolding words upto
  words_are zero r i j p h = absurd (omega arith)
  words_are (suc m) r i j p h =
      let up = stable-le (r - 1) r (r - 1) j (omega arith) (omega arith) in
      let on = stable-le (r - 1) m (r - 1) j (omega arith) (omega arith) in
      ap (λ (st : State). spoken st r i j) (sym up ∙ on)

  abbrev session : Session
  session = with-words words

  state-is : (k i : ℕ) → state session i k ≡ state (with-words (upto k)) i k
  state-is k i = state-eq words (upto k) k (λ r i j p h. words_are k r i j p h) i

  -- ---- only the cast lies, so a rule-follower's word is the one it sent

  honest : (k i l : ℕ) → RuleFollower session l → lies k i l ≡ false
  honest k i l fl = ⊎_elim (λ t. clash (bit cast l) (cast-only k i l t) (not-true _ fl.true-to)) (λ f. f) (which (lies k i l))

  as-sent : (k i j : ℕ) → j < setup.n → lies (suc k) i j ≡ false → (words (suc k) i j).word ≡ sent session j (suc k)
  unfolding words spoken
  as-sent k i j hj f =
      let e : suc k - 1 ≡ k = omega arith in
      rw (f, e)
      (ap (λ (st : State). bus_word st.latest) (sym (stable k k j (le_refl k)) ∙ sym (state-is k j)) ∙ sym (sent_is session accepted j hj k))

  as-sent-view : (k i j : ℕ) → j < setup.n → lies (suc k) i j ≡ false → (words (suc k) i j).view ≡ view_word_sent session j (suc k)
  unfolding words spoken
  as-sent-view k i j hj f =
      let e : suc k - 1 ≡ k = omega arith in
      rw (f, e)
      (ap (λ (st : State). cond setup.partitionable (view_word st.counters.view) 0) (sym (stable k k j (le_refl k)) ∙ sym (state-is k j))
      ∙ sym (view-sent-is session accepted j hj k))

  bound : (last : ℕ) → Bound session last
  unfolding word_in
  bound last zero i l p h fi fl t = absurd (not-suc-le-zero p)
  bound last (suc k) i l p h fi fl t = as-sent k i l fl.below (honest (suc k) i l fl)

  bound-views : (last : ℕ) → BoundViews session last
  unfolding view_word_in
  bound-views last set zero i l p h fi fl t = absurd (not-suc-le-zero p)
  bound-views last set (suc k) i l p h fi fl t = as-sent-view k i l fl.below (honest (suc k) i l fl)

  plays : Plays C session
  unfolding words spoken
  plays = record {
    setup = refl;
    cast = refl;
    controller = refl;
    offers = refl;
    told = λ k i j t. cond-true _ _ t;
    told-view = λ k i j t. cond-true _ _ t;
    as-sent = as-sent;
    as-sent-view = as-sent-view;
    bound = bound;
    bound-views = bound-views;
  }

pub existence : Existence
existence C = (session C, plays C)
