-- Which events count, word after word: what a word adds to the rounds and to the events before it.
use mathlib.Core.Path.{◌≡◌, refl, ap, ◌∙◌, sym}
use mathlib.Core.Logic.{◌⊎◌, ⊎_elim}
use mathlib.Core.Bool.{Bool, true, false, cond, not, ◌&&◌, ◌||◌}
use mathlib.Core.List.{List}
use Prim.Native.Nat.{ℕ, zero, suc, ◌+◌, ◌-◌, ◌*◌, ◌≤◌, ◌<◌}
use native.Mathlib.Omega.{arith}
use native.Mathlib.Nat.{eq-or-lt_of_le, le_of_suc-le-suc}
use native.Mathlib.Numerals.{add-one}
use lib.Dec.{eqb, leb, ltb}
use lib.ListN.{get_or, get_or-replicate}
use borrow.Author.Tests.{eqb-true, eq-eqb, ltb-true, ltb-false, leb-true, le-leb, lt-leb}
use Rattle.words.specs.Word.{word_at}
use Rattle.words.specs.Bits.{bit}
use Rattle.words.proofs.Truth.{which, clash, and_l, and_r, and-true, and-false-l, not-neither, cond-true, cond-false}
use Rattle.script.specs.declared.Scan.{Scan}
use Rattle.script.specs.declared.Events.{Events}
use Rattle.script.specs.Words.{is_partitionable, kind_of, sender_in, receivers_in, rounds_in, told_words, due_after, is_play}
use Rattle.script.specs.Check.{scanned}
use Rattle.script.specs.Events.{none, with_event}
use Rattle.script.specs.Effect.{after_cast, due_at, told_at, lie_at, ToldWords, play_at, rounds_before, Counts, LieTells, Effect}
use Rattle.script.proofs.EventLaws.{entry-below, replaces}

module _ (s : List ℕ) where
  -- ---- the words up to the cast

  pub due-first : due_at s (after_cast s) ≡ 0
  unfolding due_at
  due-first =
      let e : after_cast s ≡ suc (after_cast s - 1) = omega arith in
      ap (due_at s) e ∙ cond-false _ _ (lt-leb (after_cast s) (after_cast s - 1) (omega arith))

  pub rounds-first : (w : ℕ) → w ≤ after_cast s → rounds_before s w ≡ 0
  unfolding rounds_before play_at
  rounds-first zero h = refl
  rounds-first (suc w) h =
      let z = rounds-first w (omega arith) in
      let f = and-false-l (leb (after_cast s) w) (is_play (due_at s w) (word_at s w)) (lt-leb (after_cast s) w h) in
      omega (arith, z, cond-false (rounds_in (word_at s w)) 0 f)

  -- ---- one word more

  pub rounds-play : (w : ℕ) → play_at s w ≡ true → rounds_before s (w + 1) ≡ rounds_before s w + rounds_in (word_at s w)
  unfolding rounds_before
  rounds-play w t = ap (rounds_before s) (add-one w) ∙ ap (λ (x : ℕ). rounds_before s w + x) (cond-true _ 0 t)

  pub rounds-other : (w : ℕ) → play_at s w ≡ false → rounds_before s (w + 1) ≡ rounds_before s w
  unfolding rounds_before
  rounds-other w f =
      let z : rounds_before s w + 0 ≡ rounds_before s w = omega arith in
      ap (rounds_before s) (add-one w) ∙ ap (λ (x : ℕ). rounds_before s w + x) (cond-false (rounds_in (word_at s w)) 0 f) ∙ z

  pub rounds-mono : (w v : ℕ) → w ≤ v → rounds_before s w ≤ rounds_before s v
  unfolding rounds_before
  rounds-mono w zero h =
      let e : w ≡ 0 = omega arith in
      rw e (omega arith)
  rounds-mono w (suc v) h =
      ⊎_elim
      (λ (e : w ≡ suc v). rw e (omega arith))
      (λ (l : w < suc v).
      let m = rounds-mono w v (le_of_suc-le-suc l) in
      omega (arith, m))
      (eq-or-lt_of_le h)

  due-next : (w : ℕ) → after_cast s ≤ w → due_at s (w + 1) ≡ due_after (is_partitionable s) (due_at s w) (word_at s w)
  unfolding due_at
  due-next w h = ap (due_at s) (add-one w) ∙ cond-true _ _ (le-leb (after_cast s) w h)

  -- the words after a lie: the first is a told word, and the second where the setup is partitionable
  module _ (w : ℕ) (h : after_cast s ≤ w) (p : told_at s w ≡ false) (k : kind_of (word_at s w) ≡ 8) where
    due-lie : due_at s (w + 1) ≡ told_words (is_partitionable s)
    unfolding due_after
    due-lie = due-next w h ∙ rw (not-neither (eqb (due_at s w) 0) p, eq-eqb (kind_of (word_at s w)) 8 k)

    pub told-next : told_at s (w + 1) ≡ true
    told-next = ap (λ (d : ℕ). not (eqb d 0)) due-lie ∙ go (is_partitionable s)
      where
        go : (b : Bool) → not (eqb (told_words b) 0) ≡ true
        go true = refl
        go false = refl

    pub told-second : told_at s (w + 2) ≡ is_partitionable s
    unfolding due_after
    told-second =
        let e : w + 2 ≡ w + 1 + 1 = omega arith in
        ap (told_at s) e
        ∙ ap (λ (d : ℕ). not (eqb d 0)) (due-next (w + 1) (omega arith) ∙ ap (λ (d : ℕ). due_after (is_partitionable s) d (word_at s (w + 1))) due-lie)
        ∙ go (is_partitionable s)
      where
        go : (b : Bool) → not (eqb (cond (eqb (told_words b) 0) (cond (eqb (kind_of (word_at s (w + 1))) 8) (told_words b) 0) (told_words b - 1)) 0) ≡ b
        go true = refl
        go false = refl

  -- ---- the scan of the check knows what stands before a word

  pub record Linked (at : ℕ) (sc : Scan) : Type 0 where
    pub after : after_cast s ≤ at
    pub due : sc.due ≡ due_at s at
    pub rounds : sc.rounds ≡ rounds_before s at

  module _ (at : ℕ) (sc : Scan) (l : Linked at sc) where
    abbrev w : ℕ
    w = word_at s at

    pub told_is : told_at s at ≡ not (eqb sc.due 0)
    told_is = ap (λ (d : ℕ). not (eqb d 0)) (sym l.due)

    play-is : play_at s at ≡ is_play sc.due w
    unfolding play_at
    play-is = rw (le-leb (after_cast s) at l.after, l.due)

    pub play-kind : eqb sc.due 0 ≡ true → play_at s at ≡ eqb (kind_of w) 9
    unfolding is_play
    play-kind z = play-is ∙ rw z

    rounds-next : cond (is_play sc.due w) (sc.rounds + rounds_in w) sc.rounds ≡ rounds_before s (at + 1)
    rounds-next =
        ⊎_elim
        (λ (t : play_at s at ≡ true). cond-true _ _ (sym play-is ∙ t) ∙ ap (λ (x : ℕ). x + rounds_in w) l.rounds ∙ sym (rounds-play at t))
        (λ (f : play_at s at ≡ false). cond-false _ _ (sym play-is ∙ f) ∙ l.rounds ∙ sym (rounds-other at f))
        (which (play_at s at))

    pub linked-next : Linked (at + 1) (scanned (is_partitionable s) sc w)
    unfolding scanned
    linked-next =
        let h = l.after in
        record {
          after = omega arith;
          due = ap (λ (d : ℕ). due_after (is_partitionable s) d w) l.due ∙ sym (due-next at h);
          rounds = rounds-next;
        }

  -- ---- the events before a word

  -- the events e are what the events before word m make of each word of round k
  abbrev pub Tells : ℕ → ℕ → Events → Type 0
  Tells k m e = (i j : ℕ) → i < 16 → j < 16 →
      Effect s k i j m (get_or e.fate (i * 16 + j) 0) (get_or e.told (i * 16 + j) 0) (get_or e.views (i * 16 + j) 0)

  -- no event counts so far
  pub tells_none : (k m : ℕ) → ((w : ℕ) → after_cast s ≤ w → w < m → k ≡ rounds_before s w + 1 → ⊥) → Tells k m none
  unfolding none
  tells_none k m h i j a b =
      record {
        last = λ w l c f. absurd (h w c.after l c.next);
        as-sent = λ f. get_or-replicate {A = ℕ} 256 (i * 16 + j) 0 0 (entry-below i j a b);
      }

  -- no event from word m on counts
  pub tells-past : (k m m' : ℕ) (e : Events) → m ≤ m' → ((w i j : ℕ) → m ≤ w → w < m' → Counts s k i j w → ⊥) → Tells k m e → Tells k m' e
  tells-past k m m' e h f t i j a b =
      record {
        last = λ w l c g. (t i j a b).last w (below w i j l c) c (λ v p q. g v p (omega arith));
        as-sent = λ g. (t i j a b).as-sent (λ w l c. g w (omega arith) c);
      }
    where
      below : (w i j : ℕ) → w < m' → Counts s k i j w → w < m
      below w i j l c =
          ⊎_elim (λ (x : ltb w m ≡ true). ltb-true w m x) (λ (x : ltb w m ≡ false). absurd (f w i j (ltb-false w m x) l c)) (which (ltb w m))

  -- the event w counts for round k
  module _ (k w t v : ℕ) (e : Events) (h : after_cast s ≤ w) (p : told_at s w ≡ false) (kind : (kind_of (word_at s w) ≡ 7) ⊎ (kind_of (word_at s w) ≡ 8))
      (r : k ≡ rounds_before s w + 1) (told : kind_of (word_at s w) ≡ 8 → LieTells s w t v) where
    abbrev here : ℕ → ℕ → Bool
    here i j = eqb (sender_in (word_at s w)) (j + 1) && bit (receivers_in (word_at s w)) i

    counts-here : (i j : ℕ) → here i j ≡ true → Counts s k i j w
    counts-here i j x =
        record {
          after = h;
          plain = p;
          kind = kind;
          sender = eqb-true (sender_in (word_at s w)) (j + 1) (and_l (eqb (sender_in (word_at s w)) (j + 1)) _ x);
          receiver = and_r (eqb (sender_in (word_at s w)) (j + 1)) _ x;
          next = r;
        }

    here-counts : (i j : ℕ) → Counts s k i j w → here i j ≡ true
    here-counts i j c = and-true (eqb (sender_in (word_at s w)) (j + 1)) _ (eq-eqb (sender_in (word_at s w)) (j + 1) c.sender) c.receiver

    -- what it tells, where the word at u is this event
    told_here : (u t' v' : ℕ) → u ≡ w → kind_of (word_at s u) ≡ 8 → t' ≡ t → v' ≡ v → LieTells s u t' v'
    told_here u t' v' q o x y =
        let l = told (rw q at o) in
        record {
          word = x ∙ l.word ∙ ap (λ (a : ℕ). word_at s (a + 1)) (sym q);
          view-word = λ b. y ∙ l.view-word b ∙ ap (λ (a : ℕ). word_at s (a + 2)) (sym q);
        }

    pub tells-event : Tells k w e → Tells k (w + 1) (with_event e (word_at s w) t v)
    tells-event g i j a b =
        let (x, y, y') = replaces e (word_at s w) t v i j a b in
        ⊎_elim
        (λ (z : here i j ≡ true).
        let c = counts-here i j z in
        record {
          last = λ u l d f. ⊎_elim
              (λ (q : u ≡ w). (
                x ∙ cond-true _ _ z ∙ ap (λ (a : ℕ). kind_of (word_at s a)) (sym q),
                λ o. told_here u _ _ q o (y ∙ cond-true _ _ z) (y' ∙ cond-true _ _ z),
              ))
              (λ (q : u < w). absurd (f w q (omega arith) c))
              (eq-or-lt_of_le (omega arith));
          as-sent = λ f. absurd (f w (omega arith) c);
        })
        (λ (z : here i j ≡ false).
        let not-here : Counts s k i j w → ⊥ = λ c. clash (here i j) (here-counts i j c) z in
        record {
          last = λ u l d f. ⊎_elim
              (λ (q : u ≡ w). absurd (not-here (rw (sym q) d)))
              (λ (q : u < w).
              let (m, n) = (g i j a b).last u q d (λ u' o o'. f u' o (omega arith)) in (
                x ∙ cond-false _ _ z ∙ m,
                λ o. let l = n o in
                    record { word = y ∙ cond-false _ _ z ∙ l.word; view-word = λ b. y' ∙ cond-false _ _ z ∙ l.view-word b },
              ))
              (eq-or-lt_of_le (omega arith));
          as-sent = λ f. x ∙ cond-false _ _ z ∙ (g i j a b).as-sent (λ v l d. f v (omega arith) d);
        })
        (which (here i j))

-- ---- which words are told words

-- how many are due after a word of a lie's kind or none, `after` the cast or not
abbrev due_behind : Bool → Bool → Bool → ℕ → ℕ
due_behind pairs after lie due = cond after (cond (eqb due 0) (cond lie (told_words pairs) 0) (due - 1)) 0

due-most : (s : List ℕ) (w : ℕ) → due_at s w ≤ 2
unfolding due_at due_after
due-most s zero = omega arith
due-most s (suc w) =
    go (is_partitionable s) (leb (after_cast s) w) (eqb (kind_of (word_at s w)) 8) (eqb (due_at s w) 0) (due_at s w) (due-most s w)
  where
    go : (p a l z : Bool) (d : ℕ) → d ≤ 2 → cond a (cond z (cond l (told_words p) 0) (d - 1)) 0 ≤ 2
    go true true true true d h = omega arith
    go false true true true d h = omega arith
    go p true false true d h = omega arith
    go p true l false d h = omega arith
    go p false l z d h = omega arith

-- two words, the first with `due` told words before it
two-words : (p a a' l l' : Bool) (due : ℕ) → due ≤ 2 → (a ≡ true → a' ≡ true)
    → not (eqb (due_behind p a' l' (due_behind p a l due)) 0)
    ≡ (a' && (not (not (eqb (due_behind p a l due) 0)) && l')) || (p && (a && (not (not (eqb due 0)) && l)))
two-words true false false l l' due h m = refl
two-words false false false l l' due h m = refl
two-words true false true l true due h m = refl
two-words false false true l true due h m = refl
two-words true false true l false due h m = refl
two-words false false true l false due h m = refl
two-words p true false l l' due h m = clash false (m refl) refl
two-words true true true true l' zero h m = refl
two-words false true true true l' zero h m = refl
two-words true true true false true zero h m = refl
two-words false true true false true zero h m = refl
two-words true true true false false zero h m = refl
two-words false true true false false zero h m = refl
two-words true true true l true (suc zero) h m = refl
two-words false true true l true (suc zero) h m = refl
two-words true true true l false (suc zero) h m = refl
two-words false true true l false (suc zero) h m = refl
two-words true true true l l' (suc (suc zero)) h m = refl
two-words false true true l l' (suc (suc zero)) h m = refl
two-words p true true l l' (suc (suc (suc due))) h m = absurd (omega arith)

pub told-words : ToldWords
unfolding due_at due_after
told-words s w =
    let e : w + 2 ≡ suc (suc w) = omega arith in
    let m : leb (after_cast s) w ≡ true → leb (after_cast s) (suc w) ≡ true =
    λ t. let h = leb-true (after_cast s) w t in
    le-leb (after_cast s) (suc w) (omega arith)
    in
    ap (told_at s) e
    ∙ two-words (is_partitionable s) (leb (after_cast s) w) (leb (after_cast s) (suc w)) (eqb (kind_of (word_at s w)) 8) (eqb (kind_of (word_at s (suc w))) 8)
    (due_at s w) (due-most s w) m
    ∙ ap (λ (x : ℕ). lie_at s x || (is_partitionable s && lie_at s w)) (sym (add-one w))
