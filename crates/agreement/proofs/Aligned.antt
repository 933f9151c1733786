-- What a module's state remembers of a session: after alignment every entry of step k is of round k - u; a word sent in a round holds the syndrome of
-- the round before, and a view word the local view.
use Prim.Native.Nat.{ℕ, zero, suc, ◌+◌, ◌-◌, ◌<◌}
use mathlib.Core.Path.{◌≡◌, sym, ap, ap₂, ◌∙◌}
use mathlib.Core.Bool.{Bool, true, false, cond, not}
use mathlib.Core.Logic.{◌⊎◌, inl, inr, ⊎_elim}
use mathlib.Core.List.{List}
use native.Mathlib.Omega.{arith}
use lib.Dec.{eqb, ltb}
use lib.ListN.{get_or}
use borrow.Author.Tests.{lt-ltb, eqb-true, not-false}
use Rattle.words.specs.Word.{word_at}
use Rattle.words.specs.Bits.{bit, full}
use Rattle.words.specs.Count.{any}
use Rattle.words.proofs.Truth.{which, cond-true, cond-false}
use Rattle.words.proofs.BitLaws.{bit-pack, bit-full, full-lt}
use Rattle.words.proofs.CountLaws.{any_none}
use Rattle.words.proofs.ArrayLaws.{array_at}
use Rattle.rules.specs.Lag.{skewed}
use Rattle.rules.specs.Hearing.{bus_word, entry_of}
use Rattle.rules.specs.Alignment.{from_previous}
use Rattle.rules.specs.Syndrome.{outgoing_of}
use Rattle.views.specs.ViewWord.{view_word}
use Rattle.presence.specs.Opening.{fresh}
use Rattle.presence.specs.Step.{skew_of, place_of, mark_of, own_syndrome, aligned_for, outgoing_for, outgoing_view, after_round}
use Rattle.rules.specs.Hearing.{Entry}
use Rattle.presence.specs.declared.State.{State}
use Rattle.rules.proofs.ReceptionLaws.{below-kind, row-of-bus, bus-heard, entry_row, reading-heard, reading-row}
use Rattle.rules.proofs.AlignmentLaws.{aligned-heard, aligned-row}
use Rattle.agreement.specs.Session.{Session, Accepted, size, u, bit_in, word_in, read_round, read_bits, read_bytes, state, handed, sent, view_word_handed, view_word_sent, view_of}
use Rattle.agreement.proofs.Steps.{reading, read_word, small, held, state-zero, state-suc, handed-suc, view-handed-suc, syndrome-suc}

-- rule 1, by cases
lag-cases : (n : ℕ) (places : List ℕ)
    → (skewed n places ≡ true) ⊎ ((skewed n places ≡ false) × ((j : ℕ) → j < n → get_or places j 0 ≡ n))
unfolding skewed
lag-cases n places =
    ⊎_elim (λ (t : any n (λ j. not (eqb (get_or places j 0) n)) ≡ true). inl t)
    (λ (f : any n (λ j. not (eqb (get_or places j 0) n)) ≡ false). inr (f, λ j h. eqb-true _ _ (not-false _ (any_none n _ f j h))))
    (which (any n (λ j. not (eqb (get_or places j 0) n))))

-- what became of the word of sender j in round k at receiver i
abbrev pub entry : Session → ℕ → ℕ → ℕ → Entry
entry S k i j = entry_of (size S) (bit_in S k i j) (word_in S k i j)

module _ (S : Session) (ok : Accepted S) where
  -- ---- before round 1

  pub start-hears : (i j : ℕ) → (entry S 0 i j).heard ≡ true
  unfolding bit_in word_in entry_of
  start-hears i j = bus-heard (size S) (full (size S)) (small S ok) (full-lt (size S))

  pub start-row : (i j : ℕ) → (entry S 0 i j).row ≡ full (size S)
  unfolding word_in
  start-row i j =
      entry_row (size S) (bit_in S 0 i j) (word_in S 0 i j) (start-hears i j)
      ∙ row-of-bus (full (size S)) (below-kind (size S) _ (small S ok) (full-lt (size S)))

  module _ (i : ℕ) (below : i < size S) where
    -- ---- this read, and the one before: each entry is of the round that rule 3 gives

    pub read-zero : (j : ℕ) → read_round S i 0 j ≡ 0
    unfolding read_round
    read-zero j = ⊎_elim (λ (t : ltb j (get_or S.setup.places i 0) ≡ true). rw t) (λ (f : ltb j (get_or S.setup.places i 0) ≡ false). rw f) (which _)

    read-entry : (k j : ℕ) → j < size S → entry_of (size S) (bit (read_bits S i k) j) (word_at (read_bytes S i k) j) ≡ entry S (read_round S i k j) i j
    read-entry k j hj = ap₂ (λ b w. entry_of (size S) b w) (bit-pack (size S) _ j hj) (read_word S i k j hj)

    this-heard : (k j : ℕ) → j < size S → bit (reading S i k).heard j ≡ (entry S (read_round S i k j) i j).heard
    this-heard k j hj = reading-heard (size S) _ _ j hj ∙ ap (λ (e : Entry). e.heard) (read-entry k j hj)

    this-row : (k j : ℕ) → j < size S → get_or (reading S i k).rows j 0 ≡ (entry S (read_round S i k j) i j).row
    this-row k j hj = reading-row (size S) _ _ j hj (small S ok) ∙ ap (λ (e : Entry). e.row) (read-entry k j hj)

    previous-heard : (k j : ℕ) → j < size S → bit (state S i k).previous.heard j ≡ (entry S (read_round S i k j) i j).heard
    unfolding fresh after_round
    previous-heard zero j hj =
        ap (λ (st : State). bit st.previous.heard j) (state-zero S ok i below)
        ∙ bit-full (size S) j hj ∙ sym (start-hears i j) ∙ ap (λ (m : ℕ). (entry S m i j).heard) (sym (read-zero j))
    previous-heard (suc k) j hj = ap (λ (st : State). bit st.previous.heard j) (state-suc S ok i below k) ∙ this-heard (suc k) j hj

    previous-row : (k j : ℕ) → j < size S → get_or (state S i k).previous.rows j 0 ≡ (entry S (read_round S i k j) i j).row
    unfolding fresh after_round
    previous-row zero j hj =
        ap (λ (st : State). get_or st.previous.rows j 0) (state-zero S ok i below)
        ∙ array_at (size S) _ j hj (small S ok) ∙ sym (start-row i j) ∙ ap (λ (m : ℕ). (entry S m i j).row) (sym (read-zero j))
    previous-row (suc k) j hj = ap (λ (st : State). get_or st.previous.rows j 0) (state-suc S ok i below k) ∙ this-row (suc k) j hj

    -- ---- rule 3: after alignment every entry is of the deciding round

    pub own-place : (k : ℕ) → place_of (state S i k) ≡ get_or S.setup.places i 0
    unfolding place_of
    own-place k =
        let h = held S ok i below k in
        let e : i + 1 - 1 ≡ i = omega arith in
        ap₂ (λ (p : List ℕ) (o : ℕ). get_or p (o - 1) 0) h.places-are h.own ∙ ap (λ (m : ℕ). get_or S.setup.places m 0) e

    pub own-skew : (k : ℕ) → skew_of (state S i k) ≡ skewed (size S) S.setup.places
    own-skew k = ap₂ skewed (held S ok i below k).size_is (held S ok i below k).places-are

    pub own-size : (k : ℕ) → (state S i k).setup.n ≡ size S
    own-size k = (held S ok i below k).size_is

    pub one-round : {A : Type 0} (k j : ℕ) → j < size S → (f : ℕ → A) (old new : A) → old ≡ f (read_round S i k j) → new ≡ f (read_round S i (suc k) j)
        → cond (from_previous (skewed (size S) S.setup.places) (get_or S.setup.places i 0) j) old new ≡ f (suc k - u S)
    unfolding read_round
    one-round k j hj f old new p q =
        ⊎_elim
        (λ (t : skewed (size S) S.setup.places ≡ true).
        let e : suc k - 1 ≡ k = omega arith in
        ⊎_elim (λ (b : ltb j (get_or S.setup.places i 0) ≡ true). cc) (λ (b : ltb j (get_or S.setup.places i 0) ≡ false). cc) (which _))
        (λ (z : (skewed (size S) S.setup.places ≡ false) × ((j : ℕ) → j < size S → get_or S.setup.places j 0 ≡ size S)).
        let e : suc k - 0 ≡ suc k = omega arith in
        let f' = z.0 in
        let b : ltb j (get_or S.setup.places i 0) ≡ true = lt-ltb j _ (omega (arith, z.1 i below)) in
        cc)
        (lag-cases (size S) S.setup.places)

    pub aligned-hears : (k j : ℕ) → j < size S
        → bit (aligned_for (state S i k) (reading S i (suc k))).heard j ≡ (entry S (suc k - u S) i j).heard
    unfolding aligned_for
    aligned-hears k j hj =
        let e = own-size k in
        let s = own-skew k in
        let p = own-place k in
        let a = aligned-heard (size S) (skewed (size S) S.setup.places) (get_or S.setup.places i 0) (state S i k).previous (reading S i (suc k)) j hj in
        let o = one-round k j hj (λ m. (entry S m i j).heard) _ _ (previous-heard k j hj) (this-heard (suc k) j hj) in
        cc

    pub aligned-rows : (k j : ℕ) → j < size S
        → get_or (aligned_for (state S i k) (reading S i (suc k))).rows j 0 ≡ (entry S (suc k - u S) i j).row
    unfolding aligned_for
    aligned-rows k j hj =
        let e = own-size k in
        let s = own-skew k in
        let p = own-place k in
        let a = aligned-row (size S) (skewed (size S) S.setup.places) (get_or S.setup.places i 0) (state S i k).previous (reading S i (suc k)) j hj (small S ok) in
        let o = one-round k j hj (λ m. (entry S m i j).row) _ _ (previous-row k j hj) (this-row (suc k) j hj) in
        cc

    -- ---- rule 4: the own syndrome that an empty vote falls back on is that of k - u - 1

    earlier-is : (k : ℕ) → (state S i k).earlier ≡ (state S i (k - 1)).latest
    unfolding fresh after_round
    earlier-is zero =
        ap (λ (st : State). st.earlier) (state-zero S ok i below) ∙ sym (ap (λ (st : State). st.latest) (state-zero S ok i below))
    earlier-is (suc k) =
        let e : k ≡ suc k - 1 = omega arith in
        ap (λ (st : State). st.earlier) (state-suc S ok i below k) ∙ ap (λ (m : ℕ). (state S i m).latest) e

    pub own_is : (k : ℕ) → own_syndrome (state S i k) ≡ (state S i (suc k - u S - 1)).latest
    unfolding own_syndrome
    own_is k =
        let s = own-skew k in
        ⊎_elim
        (λ (t : skewed (size S) S.setup.places ≡ true).
        let e : suc k - 1 - 1 ≡ k - 1 = omega arith in
        let b = earlier-is k in
        cc)
        (λ (z : (skewed (size S) S.setup.places ≡ false) × ((j : ℕ) → j < size S → get_or S.setup.places j 0 ≡ size S)).
        let f = z.0 in
        let e : suc k - 0 - 1 ≡ k = omega arith in
        cc)
        (lag-cases (size S) S.setup.places)

    -- ---- rule 7: a word sent in a round holds the syndrome of the round before (lemma 3 of document 002)

    own-mark : (k : ℕ) → mark_of (state S i k) ≡ bit S.setup.marks i
    unfolding mark_of
    own-mark k =
        let h = held S ok i below k in
        let e : i + 1 - 1 ≡ i = omega arith in
        ap₂ (λ (m o : ℕ). bit m (o - 1)) h.marks-are h.own ∙ ap (λ (m : ℕ). bit S.setup.marks m) e

    handed-is : (k : ℕ) → handed S i (suc k)
        ≡ bus_word (cond (bit S.setup.marks i) (state S i k).latest (state S i (suc k)).latest)
    unfolding outgoing_for outgoing_of
    handed-is k =
        let m = own-mark k in
        let l = syndrome-suc S ok i below k in
        handed-suc S ok i below k ∙ (cc)

    unmarked : (k : ℕ) → bit S.setup.marks i ≡ false → handed S i k ≡ bus_word (state S i k).latest
    unfolding handed fresh
    unmarked zero f = sym (ap (λ (st : State). bus_word st.latest) (state-zero S ok i below))
    unmarked (suc k) f = handed-is k ∙ (cc)

    pub sent_is : (k : ℕ) → sent S i (suc k) ≡ bus_word (state S i k).latest
    unfolding sent
    sent_is k =
        let e : suc k - 1 ≡ k = omega arith in
        ⊎_elim
        (λ (t : bit S.setup.marks i ≡ true). let h = handed-is k in cc)
        (λ (f : bit S.setup.marks i ≡ false). let h = unmarked k f in cc)
        (which _)

    -- ---- a view word sent in a round holds the local view of the round before (lemma 12 of document 002); without head bit 5 it is 0

    abbrev held_word : ℕ → ℕ
    held_word k = cond S.setup.partitionable (view_word (view_of S i k)) 0

    view-handed-is : (k : ℕ) → view_word_handed S i (suc k) ≡ cond (bit S.setup.marks i) (held_word k) (held_word (suc k))
    unfolding outgoing_view
    view-handed-is k =
        let m = own-mark k in
        let p = (held S ok i below k).partitionable-is in
        view-handed-suc S ok i below k ∙ go _ _ p _ _ m
      where
        go : (b b' : Bool) → b ≡ b' → (m m' : Bool) → m ≡ m'
            → cond b (view_word (cond m (view_of S i k) (view_of S i (suc k)))) 0 ≡ cond m' (cond b' (view_word (view_of S i k)) 0) (cond b' (view_word (view_of S i (suc k))) 0)
        go b true e m true f = rw (e, f)
        go b true e m false f = rw (e, f)
        go b false e m true f = rw e
        go b false e m false f = rw e

    view-unmarked : (k : ℕ) → bit S.setup.marks i ≡ false → view_word_handed S i k ≡ held_word k
    unfolding view_word_handed fresh
    view-unmarked zero f = sym (ap (λ (st : State). cond S.setup.partitionable (view_word st.counters.view) 0) (state-zero S ok i below))
    view-unmarked (suc k) f = view-handed-is k ∙ cond-false _ _ f

    pub view-sent-is : (k : ℕ) → view_word_sent S i (suc k) ≡ held_word k
    unfolding view_word_sent
    view-sent-is k =
        let e : suc k - 1 ≡ k = omega arith in
        ⊎_elim
        (λ (t : bit S.setup.marks i ≡ true). cond-true _ _ t ∙ view-handed-is k ∙ cond-true _ _ t)
        (λ (f : bit S.setup.marks i ≡ false). cond-false _ _ f ∙ ap (view_word_handed S i) e ∙ view-unmarked k f)
        (which _)
