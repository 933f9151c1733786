-- Which view is adopted from renumbered view words: it goes by how many senders carry a value, so it is the adopted view renumbered.
use Prim.Native.Nat.{ℕ, ◌≤◌, ◌<◌}
use mathlib.Core.Path.{◌≡◌, refl, sym, ap, ap₂, ◌∙◌}
use mathlib.Core.Bool.{Bool, true, false, cond, not, ◌&&◌, ◌||◌, beq}
use mathlib.Core.List.{List}
use native.Mathlib.Omega.{arith}
use lib.ListN.{get_or, replicate, get_or-replicate}
use Rattle.words.specs.Bits.{bit, full}
use Rattle.words.specs.Array.{array}
use Rattle.words.proofs.BitLaws.{pack-ext, full-lt}
use Rattle.words.proofs.ArrayLaws.{array_at, array-ext, array-own, clear_of}
use Rattle.views.specs.ViewWord.{view_word}
use Rattle.views.specs.Adoption.{is_there, carriers, most_of, adoptable, adopted_from}
use Rattle.views.specs.Views.{full_views, no_views, fresh_views, views_after}
use Rattle.views.specs.declared.Views.{Views}
use Rattle.renumbering.specs.Renumbering.{Renumbering, vector_for, word_for, view_words_for}
use Rattle.renumbering.specs.States.{held_views_for}
use Rattle.renumbering.proofs.PermutationLaws.{count-renumbered, all-renumbered}
use Rattle.renumbering.proofs.VectorForLaws.{vector-pack, vector-full, vector-zero}
use Rattle.renumbering.proofs.WordForLaws.{word-bit, word-zero, word-there, view-word-for}

module _ (n : ℕ) (π : Renumbering n) where
  -- ---- what is adopted from these view words, and from the same under other numbers

  module _ (views views' : List ℕ) (same : (l : ℕ) → l < n → get_or views' l 0 ≡ word_for n π (get_or views (π.from l) 0)) where
    carriers-for : (j : ℕ) → j < n → (value : Bool) → carriers n views' j value ≡ carriers n views (π.from j) value
    unfolding carriers
    carriers-for j h value =
        count-renumbered n π _ _
        (λ l hl. ap (λ (w : ℕ). is_there w && beq (bit w j) value) (same l hl)
        ∙ ap₂ (λ (x y : Bool). x && beq y value) (word-there n π (get_or views (π.from l) 0)) (word-bit n π (get_or views (π.from l) 0) j h))

    most-for : (j : ℕ) → j < n → (value : Bool) → most_of n (carriers n views' j value) ≡ most_of n (carriers n views (π.from j) value)
    most-for j h value = ap (most_of n) (carriers-for j h value)

    adoptable-for : adoptable n views' ≡ adoptable n views
    unfolding adoptable
    adoptable-for = all-renumbered n π _ _ (λ j h. ap₂ (λ (x y : Bool). x || y) (most-for j h true) (most-for j h false))

    adopted-for : adopted_from n views' ≡ vector_for n π (adopted_from n views)
    unfolding adopted_from
    adopted-for = pack-ext n _ _ (λ j h. most-for j h true) ∙ sym (vector-pack n π (λ j. most_of n (carriers n views j true)))

    -- what is held after a step that votes on them
    pub views-after-for : (v : Views) (this : List ℕ) (local : ℕ)
        → views_after n (held_views_for n π v) views' (view_words_for n π this) (vector_for n π local) ≡ held_views_for n π (views_after n v views this local)
    unfolding views_after
    views-after-for v this local = λ i. record {
      words = view_words_for n π this;
      earlier = vector_for n π local;
      adopted = shown i;
      out = v.out || not (adoptable-for i);
    }
      where
        chosen : (b : Bool) → cond b (vector_for n π v.adopted) (vector_for n π (adopted_from n views)) ≡ vector_for n π (cond b v.adopted (adopted_from n views))
        chosen true = refl
        chosen false = refl

        shown : cond (v.out || not (adoptable n views')) (vector_for n π v.adopted) (adopted_from n views')
            ≡ vector_for n π (cond (v.out || not (adoptable n views)) v.adopted (adopted_from n views))
        shown =
            ap₂ (λ (b : Bool) (x : ℕ). cond (v.out || not b) (vector_for n π v.adopted) x) adoptable-for adopted-for
            ∙ chosen (v.out || not (adoptable n views))

  module _ (small : n ≤ 16) where
    -- ---- view words, entry by entry

    pub view-words-entry : (a : List ℕ) (j : ℕ) → j < n → get_or (view_words_for n π a) j 0 ≡ word_for n π (get_or a (π.from j) 0)
    unfolding view_words_for
    view-words-entry a j h = array_at n _ j h small

    pub view-words-pack : (f f' : ℕ → ℕ) → ((j : ℕ) → j < n → f' j ≡ word_for n π (f (π.from j))) → array n f' ≡ view_words_for n π (array n f)
    unfolding view_words_for
    view-words-pack f f' e =
        array-ext n _ _ (λ j h. e j h ∙ ap (word_for n π) (sym (array_at n f (π.from j) (π.from-below j h) small)))

    none-at : (j : ℕ) → j < 16 → ◌≡◌ {A = ℕ} (get_or (replicate 16 0) j 0) 0
    none-at j h = get_or-replicate {A = ℕ} 16 j 0 0 h

    pub view-words-none : replicate 16 0 ≡ view_words_for n π (replicate 16 0)
    unfolding view_words_for
    view-words-none =
        sym (array-own n (replicate 16 0) small refl (clear_of n (replicate 16 0) (λ i h l. none-at i l)))
        ∙ array-ext n _ _ (λ j h. let b = π.from-below j h in
        none-at j (omega arith) ∙ sym (ap (word_for n π) (none-at (π.from j) (omega arith)) ∙ word-zero n π))

    -- ---- without head bit 5, and at opening

    pub no-views-for : no_views ≡ held_views_for n π no_views
    unfolding no_views
    no-views-for =
        let z = sym (vector-zero n π) in
        λ i. record { words = view-words-none i; earlier = z i; adopted = z i; out = false }

    pub fresh-views-for : (b : Bool) → fresh_views b n ≡ held_views_for n π (fresh_views b n)
    unfolding fresh_views full_views
    fresh-views-for true =
        let f = sym (vector-full n π) in
        let w = ap view_word f ∙ sym (view-word-for n π small (full n) (full-lt n)) in
        λ i. record { words = view-words-pack (λ j. view_word (full n)) (λ j. view_word (full n)) (λ j h. w) i; earlier = f i; adopted = f i; out = false }
    fresh-views-for false = no-views-for
