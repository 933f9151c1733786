-- The view that rule 8 finds in a step from an image, and the one that is shown of it.
use mathlib.Core.Path.{◌≡◌, refl, ap, ap₂, ◌∙◌, sym}
use mathlib.Core.Bool.{Bool, true, false, cond, ◌&&◌, ◌||◌}
use mathlib.Core.List.{List}
use Prim.Native.Nat.{ℕ, ◌+◌, ◌-◌, ◌*◌, ◌%◌, ◌^◌, ◌<◌, ◌≤◌}
use native.Mathlib.Omega.{arith}
use lib.ListN.{length}
use lib.Dec.{leb}
use borrow.Author.Tests.{ne_eqb, le-leb}
use Rattle.words.specs.Word.{word_at, kind_unit, number_unit}
use Rattle.words.specs.Bits.{bit, pack}
use Rattle.words.specs.Array.{array}
use Rattle.words.proofs.Truth.{cond-false}
use Rattle.words.proofs.BitLaws.{pack-lt, pack-ext}
use Rattle.words.proofs.ArrayLaws.{array_at}
use Rattle.setup.specs.Layout.{front_words}
use Rattle.setup.specs.Setup.{size_in, partitionable_in, limit_in, criticality_in, fades_in, front_in, setup_of}
use Rattle.setup.proofs.BoundLaws.{front-most}
use Rattle.accounts.specs.Round.{account_at}
use Rattle.accounts.specs.declared.Account.{Account}
use Rattle.accounts.specs.declared.Counters.{Counters}
use Rattle.changes.specs.Adjust.{forgiven, settled, adjusted, adjusted_at, adjusted_of}
use Rattle.changes.specs.Words.{new_count, pending_in}
use Rattle.changes.specs.declared.Books.{Books}
use Rattle.changes.specs.declared.Pending.{Pending}
use Rattle.changes.proofs.TurnLaws.{turned-both, turned-changed, turned-unchanged}
use Rattle.changes.proofs.SectionTests.{new-most}
use Rattle.views.specs.Section.{views_count, views_in}
use Rattle.image.specs.Layout.{own_at, accounts_at, rewards_at, left_at, views_at, before_left}
use Rattle.image.specs.Words.{view_in}
use Rattle.image.specs.CounterSection.{counter_in}
use Rattle.image.specs.Counters.{counters_in}
use Rattle.image.specs.Check.{left_in, check_image}
use Rattle.image.proofs.TailLaws.{ImageFits, image-pass}
use Rattle.presence.specs.Step.{books_of, found_view}
use Rattle.presence.specs.Shown.{shown_view}
use Rattle.presence.specs.Image.{state_of}
use Rattle.presence.specs.declared.State.{State}
use Rattle.presence.proofs.ValidLaws.{StateFits, valid-fits}
use Rattle.presence.proofs.ImageState.{view_in_lem, load-valid}
use Rattle.calls.proofs.ModuleCallLaws.{left_is, read-form}
use Rattle.page.specs.Turned.{turned_in}

-- it has no bit at N or above
pub found-small : (st : State) → StateFits st → found_view st < 2 ^ st.setup.n
unfolding found_view adjusted_of
found-small st f = turned-both (books_of st) (λ (t : Books). t.counters.view < 2 ^ st.setup.n) (λ _. pack-lt st.setup.n _) (λ _. f.view)

-- where no change is due it is the state's own
found-own : (st : State) → (st.pending.left ≡ 1 → ⊥) → found_view st ≡ st.counters.view
unfolding found_view
found-own st f = ap (λ (t : Books). t.counters.view) (turned-unchanged (books_of st) f)

-- one turn of the search through an image's words, x and y being those of the penalty and the reward
pub turned_bit : {b : Bool} {view at p r x y : ℕ} (w : ℕ → ℕ) (n j : ℕ) → at ≡ left_at 3 n → view ≡ view_in (w (own_at 3 n)) → p ≡ limit_in (w (left_at 3 n + 1))
    → r ≡ limit_in (w (left_at 3 n + 2)) → b ≡ bit view j → x ≡ w (at - 3 * n + j) → y ≡ w (at - 2 * n + j)
    → b && (leb r (y % number_unit) || leb (x % number_unit) p) ≡ turned_in w n j
unfolding turned_in
turned_bit {b} {view} {at} {p} {r} {x} {y} w n j ea ev ep er eb ex ey =
    let i : at - 3 * n + j ≡ accounts_at 3 n + j = omega (arith, ea) in
    let k : at - 2 * n + j ≡ rewards_at 3 n + j = omega (arith, ea) in
    (λ l.
    (eb ∙ ap (λ (v : ℕ). bit v j) ev) l
    && (leb (er l) (((ey ∙ ap w k) l) % number_unit) || leb (((ex ∙ ap w i) l) % number_unit) (ep l)))

-- a limit, by its word
pub limit-by : {v at q : ℕ} (w : ℕ → ℕ) (n i : ℕ) → at ≡ left_at 3 n → v ≡ w (at + i) → q ≡ v % kind_unit → q ≡ limit_in (w (left_at 3 n + i))
limit-by w n i ea ev eq = eq ∙ ap (λ (x : ℕ). x % kind_unit) (ev ∙ ap (λ (k : ℕ). w (k + i)) ea)

-- who stays in the view by a change
adjusted-stays : (p r k : ℕ) (a : Account) → (adjusted p r k a).present ≡ a.present && (leb r a.reward || leb a.penalty p)
unfolding adjusted settled forgiven
adjusted-stays p r k a = go a.present (leb r a.reward) (leb a.penalty p) refl refl refl
  where
    go : (b c d : Bool) → a.present ≡ b → leb r a.reward ≡ c → leb a.penalty p ≡ d
        → (adjusted p r k a).present ≡ b && (c || d)
    go true true d x y z = rw (x, y, le-leb 0 p (omega arith))
    go true false true x y z = rw (x, y, z)
    go true false false x y z = rw (x, y, z)
    go false c d x y z = rw x

-- one module, by words
by-words : (s : List ℕ) → size_in (word_at s 0) ≤ 16 → (j : ℕ) → j < size_in (word_at s 0)
    → (adjusted_at (record {
      left = word_at s (left_at 3 (size_in (word_at s 0)));
      p = limit_in (word_at s (left_at 3 (size_in (word_at s 0)) + 1));
      r = limit_in (word_at s (left_at 3 (size_in (word_at s 0)) + 2));
      criticality = array (size_in (word_at s 0)) (λ i. criticality_in (word_at s (left_at 3 (size_in (word_at s 0)) + 3 + i)));
    }) (counters_in false s (size_in (word_at s 0))) j).present ≡ turned_in (word_at s) (size_in (word_at s 0)) j
unfolding adjusted_at account_at counters_in turned_in
by-words s few j h =
    let n = size_in (word_at s 0) in
    adjusted-stays _ _ _ _
    ∙ ap₂ (λ (x y : ℕ). bit (view_in (word_at s (own_at 3 n))) j && (leb (limit_in (word_at s (left_at 3 n + 2))) y || leb x (limit_in (word_at s (left_at 3 n + 1)))))
    (array_at n (λ i. counter_in (word_at s (accounts_at 3 n + i))) j h few) (array_at n (λ i. counter_in (word_at s (rewards_at 3 n + i))) j h few)

-- the view after a change that is due, by words
module _ (image : List ℕ) (ok : (check_image image).number ≡ 0) (one : (state_of image).pending.left ≡ 1) (f : fades_in (word_at image) ≡ false) where
  abbrev size : ℕ
  size = size_in (word_at image 0)

  few : size ≤ 16
  few = (image-pass image ok).front.most

  pending-is : (state_of image).pending ≡ record {
    left = word_at image (left_at 3 size);
    p = limit_in (word_at image (left_at 3 size + 1));
    r = limit_in (word_at image (left_at 3 size + 2));
    criticality = array size (λ j. criticality_in (word_at image (left_at 3 size + 3 + j)));
  }
  unfolding state_of pending_in
  pending-is =
      let e : word_at image (left_at (front_in (word_at image)) size) ≡ 1 = sym (left_is image) ∙ one in
      ap (λ (b : Bool). pending_in image size (left_at (front_words b) size)) f
      ∙ cond-false _ _ (ne_eqb (word_at image (left_at 3 size)) 0 (λ z. clash-one (sym (ap (λ (b : Bool). word_at image (left_at (front_words b) size)) f) ∙ e) z))
    where
      clash-one : {w : ℕ} → w ≡ 1 → w ≡ 0 → ⊥
      clash-one a b = omega arith

  counters-are : (state_of image).counters ≡ counters_in false image size
  unfolding state_of
  counters-are = ap (λ (b : Bool). counters_in b image size) f

  turned-words : found_view (state_of image) ≡ pack size (turned_in (word_at image) size)
  unfolding found_view adjusted_of state_of setup_of
  turned-words =
      ap (λ (t : Books). t.counters.view) (turned-changed (books_of (state_of image)) one)
      ∙ pack-ext size _ _ (λ j h. each j h)
    where
      each : (j : ℕ) → j < size → (adjusted_at (state_of image).pending (state_of image).counters j).present ≡ turned_in (word_at image) size j
      each j h =
          ap₂ (λ (c : Pending) (k : Counters). (adjusted_at c k j).present) pending-is counters-are
          ∙ by-words image few j h

-- n modules, whose words stand after the first `front`
module _ (image : List ℕ) (ok : (check_image image).number ≡ 0) where
  fits : ImageFits image
  fits = image-pass image ok

  module _ {front n : ℕ} (ef : front ≡ front_in (word_at image)) (en : n ≡ size_in (word_at image 0)) where
    pub bounds : (front ≤ 6) × (n ≤ 16)
    bounds = (omega (arith, ef, front-most (fades_in (word_at image))), omega (arith, en, fits.front.most))

    pub sections-room : before_left front n ≤ length image
    sections-room = omega (arith, fits.size, ef, en)

    pub left-room : {at : ℕ} → at ≡ left_at front n → at * 4 + 4 ≤ length image
    left-room e = omega (arith, fits.size, ef, en, e)

    view-is : view_in (word_at image (own_at front n)) ≡ (state_of image).counters.view
    unfolding state_of
    view-is =
        ap₂ (λ (i k : ℕ). view_in (word_at image (own_at i k))) ef en ∙ sym (view_in_lem (fades_in (word_at image)) image (size_in (word_at image 0)))

    pub found-held : {at w v : ℕ} → at ≡ left_at front n → w ≡ word_at image at → (w ≡ 1 → ⊥) → v ≡ view_in (word_at image (own_at front n)) → v ≡ found_view (state_of image)
    found-held ea ew f ev =
        ev ∙ view-is ∙ sym (found-own (state_of image) (λ z. f (ew ∙ ap (word_at image) (ea ∙ ap₂ left_at ef en) ∙ sym (left_is image) ∙ z)))

    -- a change is due, so the image counts
    pub due-counts : {at w : ℕ} → at ≡ left_at front n → w ≡ word_at image at → w ≡ 1 → ((state_of image).pending.left ≡ 1) × (fades_in (word_at image) ≡ false)
    due-counts ea ew z =
        let one : (state_of image).pending.left ≡ 1 = left_is image ∙ sym (ap (word_at image) (ea ∙ ap₂ left_at ef en)) ∙ sym ew ∙ z in
        let f = valid-fits (state_of image) (load-valid image ok) in
        (one, sym (read-form image) ∙ f.pending.counting (omega arith))

    pub due-room : {at w : ℕ} → at ≡ left_at front n → w ≡ word_at image at → w ≡ 1 → (n ≤ 16) × ((left_at 3 n + 3) * 4 ≤ length image)
    due-room ea ew z =
        let (one, f) = due-counts ea ew z in
        let front3 : front_words (fades_in (word_at image)) ≡ 3 = ap front_words f in
        let left : left_in image ≡ 1 = sym (left_is image) ∙ one in
        (bounds.1, omega (arith, fits.size, en, front3, ap (new_count (size_in (word_at image 0))) left))

    pub found-turned : {at w v : ℕ} → at ≡ left_at front n → w ≡ word_at image at → w ≡ 1 → v ≡ pack n (turned_in (word_at image) n) → v ≡ found_view (state_of image)
    found-turned ea ew z ev =
        let (one, f) = due-counts ea ew z in
        ev ∙ ap (λ (m : ℕ). pack m (turned_in (word_at image) m)) en ∙ sym (turned-words image ok one f)

    -- ---- the view that is shown

    pub head-room : 0 * 4 + 4 ≤ length image
    head-room = fits.front.room

    shown_by : shown_view (state_of image)
        ≡ cond (partitionable_in (word_at image 0)) (views_in (partitionable_in (word_at image 0)) image n (views_at front n (word_at image (left_at front n)))).adopted
        (view_in (word_at image (own_at front n)))
    unfolding shown_view state_of setup_of
    shown_by =
        ap₂ (λ (i k : ℕ). cond (partitionable_in (word_at image 0)) (views_in (partitionable_in (word_at image 0)) image k (views_at i k (word_at image (left_at i k)))).adopted
        (counters_in (fades_in (word_at image)) image (size_in (word_at image 0))).view) (sym ef) (sym en)
        ∙ ap (λ (v : ℕ). cond (partitionable_in (word_at image 0)) (views_in (partitionable_in (word_at image 0)) image n (views_at front n (word_at image (left_at front n)))).adopted v)
        (sym view-is)

    module _ {w : ℕ} {b : Bool} (ew : w ≡ word_at image 0) (eb : b ≡ bit w 5) where
      parted : b ≡ partitionable_in (word_at image 0)
      parted = eb ∙ ap (λ (x : ℕ). bit x 5) ew

      pub shown-local : {r : ℕ} → b ≡ false → r ≡ view_in (word_at image (own_at front n)) → r ≡ shown_view (state_of image)
      shown-local f e = e ∙ sym (shown_by ∙ cond-false _ _ (sym parted ∙ f))

      module _ {at left v : ℕ} (t : b ≡ true) (ea : at ≡ left_at front n) (el : left ≡ word_at image at) (ev : v ≡ views_at front n left) where
        place : v ≡ views_at front n (word_at image (left_at front n))
        place = ev ∙ ap (λ (k : ℕ). views_at front n k) (el ∙ ap (word_at image) ea)

        pub adopted-room : (v + n + 2) * 4 + 4 ≤ length image
        adopted-room =
            let here : v ≡ views_at (front_in (word_at image)) (size_in (word_at image 0)) (left_in image) = place ∙ ap₂ (λ (i k : ℕ). views_at i k (word_at image (left_at i k))) ef en in
            let some : views_count (partitionable_in (word_at image 0)) (size_in (word_at image 0)) ≡ size_in (word_at image 0) + 4 = ap (λ (x : Bool). views_count x (size_in (word_at image 0))) (sym parted ∙ t) in
            omega (arith, fits.size, here, some, en)

        pub adopted-small : v < 2 ^ 16
        adopted-small = omega (arith, ev, bounds.0, bounds.1, new-most n left)

        pub shown-adopted : {r : ℕ} → r ≡ word_at image (v + n + 2) → r ≡ shown_view (state_of image)
        unfolding views_in
        shown-adopted e =
            e ∙ ap (λ (k : ℕ). word_at image (k + n + 2)) place
            ∙ sym (shown_by
            ∙ ap (λ (x : Bool). cond x (views_in x image n (views_at front n (word_at image (left_at front n)))).adopted (view_in (word_at image (own_at front n)))) (sym parted ∙ t))
