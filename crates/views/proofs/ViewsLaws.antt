-- What a module holds of views, field by field: it has room in its words, and opening and step keep it as the tests of a saved state ask.
use Rattle.std.proofs.Common.{if◌then◌else◌}
use mathlib.Core.Path.{◌≡◌, refl, sym, ap, ◌∙◌}
use mathlib.Core.Bool.{Bool, true, false, cond, not, ◌&&◌, ◌||◌}
use mathlib.Core.Logic.{⊎_elim}
use mathlib.Core.List.{List}
use Prim.Native.Nat.{ℕ, ◌+◌, ◌-◌, ◌^◌, ◌<◌, ◌≤◌}
use native.Mathlib.Omega.{arith}
use lib.ListN.{get_or, length, replicate, length-replicate, get_or-replicate}
use lib.Pow.{pow_mono}
use lib.Dec.{eqb, ltb}
use borrow.Author.Tests.{eqb-true, eq-eqb, ltb-true, lt-ltb}
use Rattle.words.specs.Word.{word_at}
use Rattle.words.specs.Bits.{bit, full}
use Rattle.words.specs.Array.{array, bounded}
use Rattle.words.proofs.Truth.{and_l, and_r, and-true, or_cases, or_l, or_r, or-false-l, or-false-r, not-both, not-neither, cond-true, cond-false, cond_both}
use Rattle.words.proofs.BitLaws.{full-lt}
use Rattle.words.proofs.ArrayLaws.{clear_from, clear_of, array_at, array-own, array-length, array-clear, bounded_at, bounded-clear, bounded_of}
use Rattle.views.specs.ViewWord.{view_word, view_word_heard, view_entry, views_read}
use Rattle.views.specs.Adoption.{adoptable, adopted_from}
use Rattle.views.specs.Views.{full_views, no_views, fresh_views, views_after, ShapedViews}
use Rattle.views.specs.Section.{view_ok, views_in, views_roomy}
use Rattle.views.specs.declared.Views.{Views}
use Rattle.views.proofs.ViewWordLaws.{view-heard, heard-view, views-at, views-clear, views-length}
use Rattle.views.proofs.MajorityLaws.{adopted-lt, adoptable-ext, adopted-ext}

-- no view is held
abbrev pub Viewless : Views → Type 0
Viewless v = (v.earlier ≡ 0) × (v.adopted ≡ 0) × (v.out ≡ false) × (clear_from 0 v.words ≡ true)

-- ---- room in their words

pub record ViewRoom (n : ℕ) (v : Views) : Type 0 where
  pub word : (j : ℕ) → j < n → get_or v.words j 0 < 2 ^ 32
  pub earlier : v.earlier < 2 ^ 16
  pub adopted : v.adopted < 2 ^ 16
  pub clear : clear_from n v.words ≡ true

abbrev pub ViewsSmall : Bool → ℕ → Views → Type 0
ViewsSmall true n v = ViewRoom n v
ViewsSmall false n v = Viewless v

module _ (n : ℕ) (v : Views) where
  pub roomy-views : (b : Bool) → n ≤ 16 → views_roomy b n v ≡ true → ViewsSmall b n v
  unfolding views_roomy
  roomy-views true small t =
      let a = and_l (bounded n (2 ^ 32 - 1) v.words) _ t in
      let r = and_r (bounded n (2 ^ 32 - 1) v.words) _ t in
      record {
        word = λ j h. omega (arith, bounded_at n (2 ^ 32 - 1) v.words a j h small);
        earlier = ltb-true v.earlier (2 ^ 16) (and_l (ltb v.earlier (2 ^ 16)) _ r);
        adopted = ltb-true v.adopted (2 ^ 16) (and_r (ltb v.earlier (2 ^ 16)) _ r);
        clear = bounded-clear n (2 ^ 32 - 1) v.words a;
      }
  roomy-views false small t =
      let a = and_l (bounded 0 0 v.words) _ t in
      let r = and_r (bounded 0 0 v.words) _ t in
      let e = and_l (eqb v.earlier 0 && eqb v.adopted 0) _ r in (
        eqb-true v.earlier 0 (and_l (eqb v.earlier 0) _ e),
        eqb-true v.adopted 0 (and_r (eqb v.earlier 0) _ e),
        not-both v.out (and_r (eqb v.earlier 0 && eqb v.adopted 0) _ r),
        bounded-clear 0 0 v.words a,
      )

  pub views-roomy : (b : Bool) → ViewsSmall b n v → views_roomy b n v ≡ true
  unfolding views_roomy
  views-roomy true f =
      and-true (bounded n (2 ^ 32 - 1) v.words) _ (bounded_of n (2 ^ 32 - 1) v.words (λ j h. omega (arith, f.word j h)) f.clear)
      (and-true (ltb v.earlier (2 ^ 16)) _ (lt-ltb v.earlier (2 ^ 16) f.earlier) (lt-ltb v.adopted (2 ^ 16) f.adopted))
  views-roomy false (e, a, o, k) =
      and-true (bounded 0 0 v.words) _ (bounded_of 0 0 v.words (λ j h. absurd (omega arith)) k)
      (and-true (eqb v.earlier 0 && eqb v.adopted 0) _ (and-true (eqb v.earlier 0) _ (eq-eqb v.earlier 0 e) (eq-eqb v.adopted 0 a)) (ap not o))

-- ---- as the tests of a saved state ask

pub record ViewsRight (n : ℕ) (v : Views) : Type 0 where
  pub words : (j : ℕ) → j < n → view_ok n (get_or v.words j 0) ≡ true
  pub earlier : v.earlier < 2 ^ n
  pub adopted : v.adopted < 2 ^ n
  pub clear : clear_from n v.words ≡ true

abbrev pub ViewsFit : Bool → ℕ → Views → Type 0
ViewsFit true n v = ViewsRight n v
ViewsFit false n v = Viewless v

-- a view word that may be kept fits a word
pub ok-small : (n w : ℕ) → view_ok n w ≡ true → w < 2 ^ 32
unfolding view_ok
ok-small n w t =
    ⊎_elim (λ (z : eqb w 0 ≡ true). omega (arith, eqb-true w 0 z)) (λ (h : view_word_heard n w ≡ true). let e = (heard-view n w h).0 in omega arith)
    (or_cases (eqb w 0) (view_word_heard n w) t)

below : (v n : ℕ) → v < 2 ^ n → n ≤ 16 → v < 2 ^ 16
below v n h l = omega (arith, pow_mono {i = n} {j = 16} l)

pub small-views : (b : Bool) (n : ℕ) (v : Views) → n ≤ 16 → ViewsFit b n v → ViewsSmall b n v
small-views true n v small f = record {
  word = λ j h. ok-small n (get_or v.words j 0) (f.words j h);
  earlier = below v.earlier n f.earlier small;
  adopted = below v.adopted n f.adopted small;
  clear = f.clear;
}
small-views false n v small f = f

-- ---- at opening

full-ok : (n : ℕ) → n ≤ 16 → view_ok n (view_word (full n)) ≡ true
unfolding view_ok
full-ok n small = or_r (eqb (view_word (full n)) 0) _ (view-heard n (full n) small (full-lt n))

pub full-fits : (n : ℕ) → n ≤ 16 → ViewsFit true n (full_views n)
unfolding full_views
full-fits n small = record {
  words = λ j h. ap (view_ok n) (array_at n (λ j. view_word (full n)) j h small) ∙ full-ok n small;
  earlier = full-lt n;
  adopted = full-lt n;
  clear = array-clear n _;
}

pub none-fits : (n : ℕ) → ViewsFit false n no_views
unfolding no_views
none-fits n = (refl, refl, refl, clear_of 0 (replicate 16 0) (λ i h l. get_or-replicate {A = ℕ} 16 i 0 0 l))

pub opened-fits : (b : Bool) (n : ℕ) → n ≤ 16 → ViewsFit b n (fresh_views b n)
unfolding fresh_views
opened-fits true n small = full-fits n small
opened-fits false n small = none-fits n

-- no views are one value
pub none_is : (v : Views) → Viewless v → ShapedViews v → v ≡ no_views
unfolding no_views array
none_is v (e, a, o, k) l =
    let w : v.words ≡ replicate 16 0 = sym (array-own 0 v.words (omega arith) l k) in
    λ i. record { words = w i; earlier = e i; adopted = a i; out = o i }

-- ---- after a step

-- view words as a read keeps them
pub record ViewWordsFit (n : ℕ) (this : List ℕ) : Type 0 where
  pub each : (j : ℕ) → j < n → view_ok n (get_or this j 0) ≡ true
  pub clear : clear_from n this ≡ true
  pub shaped : length this ≡ 16

entry-ok : (n : ℕ) (on : Bool) (w : ℕ) → view_ok n (view_entry n on w) ≡ true
unfolding view_entry view_ok
entry-ok n on w = go (on && view_word_heard n w) refl
  where
    go : (b : Bool) → on && view_word_heard n w ≡ b → eqb (cond b w 0) 0 || view_word_heard n (cond b w 0) ≡ true
    go true t = or_r (eqb w 0) _ (and_r on _ t)
    go false f = refl

pub read_fits : (n : ℕ) (read : List ℕ) (controller : ℕ) → n ≤ 16 → ViewWordsFit n (views_read n read controller)
read_fits n read controller small = record {
  each = λ j h. ap (view_ok n) (views-at n read controller j h small) ∙ entry-ok n (bit controller j) (word_at read (n + j));
  clear = views-clear n read controller;
  shaped = views-length n read controller;
}

module _ (n : ℕ) (v : Views) (voted this : List ℕ) (local : ℕ) where
  pub after-fits : local < 2 ^ n → ViewWordsFit n this → ViewsFit true n v → ViewsFit true n (views_after n v voted this local)
  unfolding views_after
  after-fits h k f = record {
    words = k.each;
    earlier = h;
    adopted = cond_both (λ (x : ℕ). x < 2 ^ n) (v.out || not (adoptable n voted)) v.adopted (adopted_from n voted) f.adopted (adopted-lt n voted);
    clear = k.clear;
  }

  pub after-shaped : length this ≡ 16 → ShapedViews (views_after n v voted this local)
  unfolding views_after
  after-shaped h = h

  -- out stays out, and the adopted view stays
  pub out_stays : v.out ≡ true → ((views_after n v voted this local).out ≡ true) × ((views_after n v voted this local).adopted ≡ v.adopted)
  unfolding views_after
  out_stays t = (or_l v.out _ t, cond-true _ _ (or_l v.out _ t))

  -- what decides nothing leaves the adopted view as it was, and takes the module out
  pub undecided-stays : adoptable n voted ≡ false
      → ((views_after n v voted this local).out ≡ true) × ((views_after n v voted this local).adopted ≡ v.adopted)
  unfolding views_after
  undecided-stays f = (or_r v.out _ (ap not f), cond-true _ _ (or_r v.out _ (ap not f)))

  -- in after the step: in before it, and what was adopted is what the view words decide
  pub in-adopts : (views_after n v voted this local).out ≡ false
      → (v.out ≡ false) × (adoptable n voted ≡ true) × ((views_after n v voted this local).adopted ≡ adopted_from n voted)
  unfolding views_after
  in-adopts f = (or-false-l v.out _ f, not-neither (adoptable n voted) (or-false-r v.out _ f), cond-false _ _ f)

  -- in before it, and the view words decide: in after it, with that view
  pub adopts-in : v.out ≡ false → adoptable n voted ≡ true
      → ((views_after n v voted this local).out ≡ false) × ((views_after n v voted this local).adopted ≡ adopted_from n voted)
  unfolding views_after
  adopts-in o t =
      let e : v.out || not (adoptable n voted) ≡ false = (λ i. o i || not (t i)) in
      (e, cond-false _ _ e)

-- ---- the arrays have 16 entries

pub full-shaped : (n : ℕ) → ShapedViews (full_views n)
unfolding full_views
full-shaped n = array-length n _

pub none-shaped : ShapedViews no_views
unfolding no_views
none-shaped = length-replicate {A = ℕ} 16 0

pub opened-shaped : (b : Bool) (n : ℕ) → ShapedViews (fresh_views b n)
unfolding fresh_views
opened-shaped true n = full-shaped n
opened-shaped false n = none-shaped

pub views-shaped : (b : Bool) (x : List ℕ) (n at : ℕ) → ShapedViews (views_in b x n at)
unfolding views_in
views-shaped true x n at = array-length n _
views-shaped false x n at = none-shaped

-- ---- as the code makes them

pub full_by : {f w : ℕ} {words : List ℕ} (n : ℕ) → f ≡ full n → w ≡ view_word f → words ≡ array n (λ j. w)
    → ◌≡◌ {A = Views} (record { words = words; earlier = f; adopted = f; out = false }) (full_views n)
unfolding full_views
full_by {words = words} n e q a =
    let k : words ≡ array n (λ j. view_word (full n)) = a ∙ ap (λ (x : ℕ). array n (λ j. x)) (q ∙ ap view_word e) in
    λ i. record { words = k i; earlier = e i; adopted = e i; out = false }

-- what is adopted from view words whose first n entries are those that are voted on
pub after-by : {view : ℕ} {out : Bool} (n : ℕ) (v : Views) (voted others this : List ℕ) (local : ℕ)
    → ((l : ℕ) → l < n → get_or voted l 0 ≡ get_or others l 0) → out ≡ v.out || not (adoptable n voted)
    → view ≡ (if v.out || not (adoptable n voted) then v.adopted else adopted_from n voted)
    → ◌≡◌ {A = Views} (record { words = this; earlier = local; adopted = view; out = out }) (views_after n v others this local)
unfolding views_after
after-by n v voted others this local same o e =
    let d = adoptable-ext n voted others same in
    let x = adopted-ext n voted others same in
    (λ i. record { words = this; earlier = local; adopted = e i; out = o i })
    ∙ (λ i. record { words = this; earlier = local; adopted = cond (v.out || not (d i)) v.adopted (x i); out = v.out || not (d i) })

pub some-room : {b good : Bool} (n : ℕ) (v : Views) → b ≡ true → good ≡ bounded n (2 ^ 32 - 1) v.words
    → good && (ltb v.earlier (2 ^ 16) && ltb v.adopted (2 ^ 16)) ≡ views_roomy b n v
unfolding views_roomy
some-room n v t g = rw (t, g)

pub none-room : {b good : Bool} (n : ℕ) (v : Views) → b ≡ false → good ≡ bounded 0 0 v.words
    → good && ((eqb v.earlier 0 && eqb v.adopted 0) && not v.out) ≡ views_roomy b n v
unfolding views_roomy
none-room n v t g = rw (t, g)

-- the views that are read
pub read_by : {words : List ℕ} {earlier adopted : ℕ} {out : Bool} (s : List ℕ) (n at : ℕ) → words ≡ array n (λ j. word_at s (at + j))
    → earlier ≡ word_at s (at + n + 1) → adopted ≡ word_at s (at + n + 2) → out ≡ eqb (word_at s (at + n + 3)) 1
    → ◌≡◌ {A = Views} (record { words = words; earlier = earlier; adopted = adopted; out = out }) (views_in true s n at)
unfolding views_in
read_by s n at w e a o = λ i. record { words = w i; earlier = e i; adopted = a i; out = o i }
