-- Rule 2 of a renumbered word: it is heard, or not for the same cause, and its row is renumbered. So is a view word and its view.
use Prim.Native.Nat.{ℕ, zero, suc, ◌+◌, ◌-◌, ◌*◌, ◌/◌, ◌%◌, ◌^◌, ◌≤◌, ◌<◌}
use mathlib.Core.Path.{◌≡◌, refl, sym, ap, ap₂, ◌∙◌}
use mathlib.Core.Bool.{Bool, true, false, cond, not, ◌&&◌}
use native.Mathlib.Omega.{arith}
use native.Mathlib.Nat.{add_comm, mul_assoc, mod-lt}
use lib.Dec.{eqb, ltb}
use lib.Pow.{pow_pos, pow-add, split, high, low, shr-shr, mod-pow-add}
use borrow.Author.Tests.{eqb-true, eq-eqb, ltb-true, ltb-false, lt-ltb, le-ltb, ne_eqb}
use Rattle.words.specs.Bits.{bit}
use Rattle.words.proofs.Truth.{iff-eq}
use Rattle.words.proofs.BitLaws.{bit-low, bit-mod, bit-ext, pack-ext}
use Rattle.rules.specs.Hearing.{bus_word, reception_of, is_heard, heard_row, cause_in, entry_of}
use Rattle.rules.specs.Causes.{cause_of}
use Rattle.rules.specs.Hearing.{Reception}
use Rattle.std.specs.Prelude.{Ok, Err}
use Rattle.rules.specs.declared.Cause.TheVariants.{ControllerLoss, WrongKind, StrayBits}
use Rattle.rules.specs.Hearing.{Entry}
use Rattle.rules.proofs.ReceptionLaws.{word-lost, word-other, word-stray, word-clean, word-cases, below-kind}
use Rattle.views.specs.ViewWord.{view_word, view_word_heard, view_entry}
use Rattle.views.specs.Adoption.{is_there}
use Rattle.renumbering.specs.Renumbering.{Renumbering, vector_for, word_for}
use Rattle.renumbering.proofs.VectorForLaws.{vector-bit, vector-lt, vector-by, vector-zero}

-- a number c * E + r with r below E is below E exactly if c is 0
below : (c E r : ℕ) → r < E → ltb (c * E + r) E ≡ eqb c 0
below zero E r h = lt-ltb (0 * E + r) E (omega arith)
below (suc c) E r h = le-ltb (suc c * E + r) E (omega arith) ∙ sym (ne_eqb (suc c) 0 (omega arith))

-- ---- both tests of rule 2 look at the bits from n on alone

module _ (n : ℕ) (small : n ≤ 16) (q r : ℕ) (h : r < 2 ^ n) where
  high-kind : (q * 2 ^ n + r) / 2 ^ 28 ≡ q / 2 ^ (28 - n)
  high-kind =
      let e : n + (28 - n) ≡ 28 = omega arith in
      ap (λ (m : ℕ). (q * 2 ^ n + r) / 2 ^ m) (sym e) ∙ sym (shr-shr (q * 2 ^ n + r) n (28 - n)) ∙ ap (λ (y : ℕ). y / 2 ^ (28 - n)) (high q n h)

  high-rest : ltb ((q * 2 ^ n + r) % 2 ^ 28) (2 ^ n) ≡ eqb (q % 2 ^ (28 - n)) 0
  high-rest =
      let e : 28 - n + n ≡ 28 = omega arith in
      let rest : (q * 2 ^ n + r) % 2 ^ 28 ≡ q % 2 ^ (28 - n) * 2 ^ n + r
      = ap (λ (m : ℕ). (q * 2 ^ n + r) % 2 ^ m) (sym e) ∙ mod-pow-add (q * 2 ^ n + r) (28 - n) n
      ∙ ap₂ (λ (y z : ℕ). y % 2 ^ (28 - n) * 2 ^ n + z) (high q n h) (low q n h) in
      ap (λ (x : ℕ). ltb x (2 ^ n)) rest ∙ below (q % 2 ^ (28 - n)) (2 ^ n) r h

module _ (n : ℕ) (π : Renumbering n) where
  pub word-bit : (w j : ℕ) → j < n → bit (word_for n π w) j ≡ bit w (π.from j)
  unfolding word_for
  word-bit w j h =
      ap (λ (x : ℕ). bit x j) (add_comm (w / 2 ^ n * 2 ^ n) (vector_for n π w))
      ∙ bit-low (w / 2 ^ n) (vector_for n π w) n j h ∙ vector-bit n π w j h

  -- 0, where no view word is there
  pub word-zero : word_for n π 0 ≡ 0
  unfolding word_for
  word-zero =
      let e : 0 ≡ 0 * 2 ^ n + 0 = omega arith in
      let z : 0 / 2 ^ n ≡ 0 = ap (λ (x : ℕ). x / 2 ^ n) e ∙ high 0 n (pow_pos n) in
      ap₂ (λ (x y : ℕ). x * 2 ^ n + y) z (vector-zero n π) ∙ sym e

  -- what is read of a word, with its row renumbered
  unfoldable reception_for : Reception → Reception
  reception_for (Ok row) = Ok (vector_for n π row)
  reception_for (Err ControllerLoss) = Err ControllerLoss
  reception_for (Err WrongKind) = Err WrongKind
  reception_for (Err StrayBits) = Err StrayBits

  cause-same : (r : Reception) → cause_in (reception_for r) ≡ cause_in r
  unfolding reception_for cause_in
  cause-same (Ok row) = refl
  cause-same (Err ControllerLoss) = refl
  cause-same (Err WrongKind) = refl
  cause-same (Err StrayBits) = refl

  heard-same : (r : Reception) → is_heard (reception_for r) ≡ is_heard r
  unfolding reception_for is_heard
  heard-same (Ok row) = refl
  heard-same (Err ControllerLoss) = refl
  heard-same (Err WrongKind) = refl
  heard-same (Err StrayBits) = refl

  row_same : (r : Reception) → heard_row (reception_for r) ≡ vector_for n π (heard_row r)
  unfolding reception_for heard_row
  row_same (Ok row) = refl
  row_same (Err ControllerLoss) = sym (vector-zero n π)
  row_same (Err WrongKind) = sym (vector-zero n π)
  row_same (Err StrayBits) = sym (vector-zero n π)

  -- an entry, with its row renumbered
  abbrev pub entry_for : Entry → Entry
  entry_for e = record { heard = e.heard; row = vector_for n π e.row }

  module _ (small : n ≤ 16) where
    word-kind : (w : ℕ) → word_for n π w / 2 ^ 28 ≡ w / 2 ^ 28
    unfolding word_for
    word-kind w =
        high-kind n small (w / 2 ^ n) (vector_for n π w) (vector-lt n π w)
        ∙ sym (high-kind n small (w / 2 ^ n) (w % 2 ^ n) (mod-lt w (pow_pos n))) ∙ ap (λ (x : ℕ). x / 2 ^ 28) (split w n)

    word-rest : (w : ℕ) → ltb (word_for n π w % 2 ^ 28) (2 ^ n) ≡ ltb (w % 2 ^ 28) (2 ^ n)
    unfolding word_for
    word-rest w =
        high-rest n small (w / 2 ^ n) (vector_for n π w) (vector-lt n π w)
        ∙ sym (high-rest n small (w / 2 ^ n) (w % 2 ^ n) (mod-lt w (pow_pos n))) ∙ ap (λ (x : ℕ). ltb (x % 2 ^ 28) (2 ^ n)) (split w n)

    word_row : (w : ℕ) → word_for n π w % 2 ^ 28 < 2 ^ n → word_for n π w % 2 ^ 28 ≡ vector_for n π (w % 2 ^ 28)
    word_row w l =
        vector-by n π (w % 2 ^ 28) (word_for n π w % 2 ^ 28) l
        (λ j h. let b = π.from-below j h in
        bit-mod 28 (word_for n π w) j (omega arith) ∙ word-bit w j h ∙ sym (bit-mod 28 w (π.from j) (omega arith)))

    reception-for : (on : Bool) (w : ℕ) → reception_of n on (word_for n π w) ≡ reception_for (reception_of n on w)
    unfolding reception_for
    reception-for on w =
        word-cases n on w (λ r. reception_of n on (word_for n π w) ≡ reception_for r)
        (λ e. sym (word-lost n on (word_for n π w) e))
        (λ e k. sym (word-other n on (word_for n π w) e (λ z. k (sym (word-kind w) ∙ z))))
        (λ e k l. sym (word-stray n on (word_for n π w) e (word-kind w ∙ k) refl
        (ltb-false _ (2 ^ n) (word-rest w ∙ le-ltb (w % 2 ^ 28) (2 ^ n) l))))
        (λ e k l. let l' = ltb-true _ (2 ^ n) (word-rest w ∙ lt-ltb (w % 2 ^ 28) (2 ^ n) l) in
        sym (word-clean n on (word_for n π w) e (word-kind w ∙ k) refl l') ∙ ap Ok (word_row w l'))

    -- rule 2
    pub cause-for : (on : Bool) (w : ℕ) → cause_of n on (word_for n π w) ≡ cause_of n on w
    cause-for on w = ap cause_in (reception-for on w) ∙ cause-same (reception_of n on w)

    pub entry-for : (on : Bool) (w : ℕ) → entry_of n on (word_for n π w) ≡ entry_for (entry_of n on w)
    unfolding entry_of
    entry-for on w =
        let r = reception_of n on w in
        ap (λ (x : Reception). record { heard = is_heard x; row = heard_row x }) (reception-for on w)
        ∙ ap₂ (λ (b : Bool) (v : ℕ). record { heard = b; row = v }) (heard-same r) (row_same r)

    -- ---- the word of a syndrome, and that of a view

    kind-vector : (c v : ℕ) → v < 2 ^ n → vector_for n π (c * 2 ^ 28 + v) ≡ vector_for n π v
    unfolding vector_for
    kind-vector c v h =
        let e : (c * 2 ^ 28 + v) % 2 ^ 28 ≡ v = low c 28 (below-kind n v small h) in
        pack-ext n _ _ (λ j l. let b = π.from-below j l in
        sym (bit-mod 28 (c * 2 ^ 28 + v) (π.from j) (omega arith)) ∙ ap (λ (x : ℕ). bit x (π.from j)) e)

    kind-for : (c v : ℕ) → v < 2 ^ n → word_for n π (c * 2 ^ 28 + v) ≡ c * 2 ^ 28 + vector_for n π v
    unfolding word_for
    kind-for c v h =
        let e : 28 - n + n ≡ 28 = omega arith in
        let q = c * 2 ^ (28 - n) in
        let s : c * 2 ^ 28 ≡ q * 2 ^ n
        = ap (λ (m : ℕ). c * 2 ^ m) (sym e) ∙ ap (λ (x : ℕ). c * x) (pow-add 2 (28 - n) n) ∙ sym (mul_assoc c (2 ^ (28 - n)) (2 ^ n)) in
        let d : (c * 2 ^ 28 + v) / 2 ^ n ≡ q = ap (λ (x : ℕ). (x + v) / 2 ^ n) s ∙ high q n h in
        ap₂ (λ (x y : ℕ). x * 2 ^ n + y) d (kind-vector c v h) ∙ ap (λ (x : ℕ). x + vector_for n π v) (sym s)

    pub bus-for : (v : ℕ) → v < 2 ^ n → word_for n π (bus_word v) ≡ bus_word (vector_for n π v)
    unfolding bus_word
    bus-for v h = kind-for 5 v h

    pub view-word-for : (v : ℕ) → v < 2 ^ n → word_for n π (view_word v) ≡ view_word (vector_for n π v)
    view-word-for v h = kind-for 10 v h

    -- ---- a view word is heard as before

    pub view-heard-for : (w : ℕ) → view_word_heard n (word_for n π w) ≡ view_word_heard n w
    unfolding view_word_heard
    view-heard-for w = ap₂ (λ (k : ℕ) (b : Bool). eqb k 10 && b) (word-kind w) (word-rest w)

    pub view-entry-for : (on : Bool) (w : ℕ) → view_entry n on (word_for n π w) ≡ word_for n π (view_entry n on w)
    unfolding view_entry
    view-entry-for on w =
        ap (λ (b : Bool). cond (on && b) (word_for n π w) 0) (view-heard-for w) ∙ go (on && view_word_heard n w)
      where
        go : (b : Bool) → cond b (word_for n π w) 0 ≡ word_for n π (cond b w 0)
        go true = refl
        go false = sym word-zero

  -- ---- words that are renumbered alike were alike

  word-inj : (w v : ℕ) → word_for n π w ≡ word_for n π v → w ≡ v
  unfolding word_for
  word-inj w v e =
      let q : w / 2 ^ n ≡ v / 2 ^ n
      = sym (high (w / 2 ^ n) n (vector-lt n π w)) ∙ ap (λ (x : ℕ). x / 2 ^ n) e ∙ high (v / 2 ^ n) n (vector-lt n π v) in
      let r : vector_for n π w ≡ vector_for n π v
      = sym (low (w / 2 ^ n) n (vector-lt n π w)) ∙ ap (λ (x : ℕ). x % 2 ^ n) e ∙ low (v / 2 ^ n) n (vector-lt n π v) in
      let at : (x j : ℕ) → j < n → bit (x % 2 ^ n) j ≡ bit (vector_for n π x) (π.to j)
      = λ x j h. bit-mod n x j h ∙ ap (bit x) (sym (π.from-to j h)) ∙ sym (vector-bit n π x (π.to j) (π.to_below j h)) in
      let m : w % 2 ^ n ≡ v % 2 ^ n
      = bit-ext n (w % 2 ^ n) (v % 2 ^ n) (mod-lt w (pow_pos n)) (mod-lt v (pow_pos n))
      (λ j h. at w j h ∙ ap (λ (x : ℕ). bit x (π.to j)) r ∙ sym (at v j h)) in
      sym (split w n) ∙ ap₂ (λ (x y : ℕ). x * 2 ^ n + y) q m ∙ split v n

  pub word-eqb : (w v : ℕ) → eqb (word_for n π w) (word_for n π v) ≡ eqb w v
  word-eqb w v =
      iff-eq (eqb (word_for n π w) (word_for n π v)) (eqb w v) (λ t. eq-eqb w v (word-inj w v (eqb-true _ _ t)))
      (λ t. eq-eqb _ _ (ap (word_for n π) (eqb-true w v t)))

  pub word-there : (w : ℕ) → is_there (word_for n π w) ≡ is_there w
  word-there w = ap (λ (z : ℕ). not (eqb (word_for n π w) z)) (sym word-zero) ∙ ap not (word-eqb w 0)
