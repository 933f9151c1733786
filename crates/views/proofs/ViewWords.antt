-- The words of the views at the end of a saved state: written, they pass and are read back; those that pass hold views that fit, and are the words
-- that these are written as.
use Rattle.std.proofs.Common.{◌≡◌, refl, sym, ap, ap₂, ◌∙◌, ⊎_elim, ℕ, ◌+◌, ◌^◌, ◌<◌, ◌≤◌, arith, Bool, true, false, cond, not, ◌||◌, if◌then◌else◌, eqb, ltb, List, length, get_or, eqb-true, eq-eqb, leb-true, le-leb, ltb-true, lt-ltb}
use borrow.Author.Tests.{eqb-false}
use Rattle.words.specs.Word.{word_at, put_word}
use Rattle.words.specs.Bits.{b2n}
use Rattle.words.specs.Array.{array, replaced}
use Rattle.words.specs.Runs.{total, put_run, put_runs}
use Rattle.words.proofs.Truth.{which}
use Rattle.words.proofs.BitLaws.{b2n-le}
use Rattle.words.proofs.ArrayLaws.{array_at, array-ext, array-own, array-clear}
use Rattle.words.proofs.RunLaws.{Follows, put-end, put_one}
use Rattle.words.proofs.VerdictLaws.{Passed}
use Rattle.views.specs.ViewWord.{views_read}
use Rattle.views.specs.Adoption.{adoptable, adopted_from}
use Rattle.views.specs.Views.{views_after, ShapedViews}
use Rattle.views.specs.Section.{views_count, view_ok, view_tests, views_in, view_runs}
use Rattle.views.specs.declared.Views.{Views}
use Rattle.views.proofs.ViewWordLaws.{replaced-same}
use Rattle.views.proofs.ViewsLaws.{ViewsSmall, ViewsFit, none-fits, none_is, after-by}

-- how many words there are
pub views-total : (b : Bool) (n latest : ℕ) (v : Views) → total (view_runs b n latest v) ≡ views_count b n
unfolding total
views-total true n latest v = omega arith
views-total false n latest v = refl

pub views-most : (b : Bool) (n : ℕ) → views_count b n ≤ n + 4
views-most true n = omega arith
views-most false n = omega arith

-- ---- the words w follow those of the views, word by word

pub record ViewsStand (w : ℕ → ℕ) (at n latest : ℕ) (v : Views) : Type 0 where
  pub words : (j : ℕ) → j < n → w (at + j) ≡ get_or v.words j 0
  pub newest : w (at + n) ≡ latest
  pub earlier : w (at + n + 1) ≡ v.earlier
  pub adopted : w (at + n + 2) ≡ v.adopted
  pub last : w (at + n + 3) ≡ b2n v.out

module _ (w : ℕ → ℕ) (at n latest : ℕ) (v : Views) where
  pub views-stand : Follows w at (view_runs true n latest v) → ViewsStand w at n latest v
  unfolding Follows
  views-stand (a, (b, (c, (d, (e, _))))) =
      let k₀ : at + n + 0 ≡ at + n = omega arith in
      let k₁ : at + n + 1 + 0 ≡ at + n + 1 = omega arith in
      let k₂ : at + n + 1 + 1 + 0 ≡ at + n + 2 = omega arith in
      let k₃ : at + n + 1 + 1 + 1 + 0 ≡ at + n + 3 = omega arith in
      record {
        words = a;
        newest = ap w (sym k₀) ∙ b 0 (omega arith);
        earlier = ap w (sym k₁) ∙ c 0 (omega arith);
        adopted = ap w (sym k₂) ∙ d 0 (omega arith);
        last = ap w (sym k₃) ∙ e 0 (omega arith);
      }

  pub stand-views : ViewsStand w at n latest v → Follows w at (view_runs true n latest v)
  unfolding Follows
  stand-views f = (
    f.words,
    (
      λ j h.
          let k : at + n + j ≡ at + n = omega arith in
          ap w k ∙ f.newest,
      (
        λ j h.
            let k : at + n + 1 + j ≡ at + n + 1 = omega arith in
            ap w k ∙ f.earlier,
        (
          λ j h.
              let k : at + n + 1 + 1 + j ≡ at + n + 2 = omega arith in
              ap w k ∙ f.adopted,
          (
            λ j h.
                let k : at + n + 1 + 1 + 1 + j ≡ at + n + 3 = omega arith in
                ap w k ∙ f.last,
            tt,
          ),
        ),
      ),
    ),
  )

-- ---- the words w pass, word by word

pub record ViewWordsRight (w : ℕ → ℕ) (n view at : ℕ) : Type 0 where
  pub words : (j : ℕ) → j < n → view_ok n (w (at + j)) ≡ true
  pub newest : w (at + n) ≡ view
  pub earlier : w (at + n + 1) < 2 ^ n
  pub adopted : w (at + n + 2) < 2 ^ n
  pub last : w (at + n + 3) ≤ 1

module _ (w : ℕ → ℕ) (n view at : ℕ) where
  pub passed-right : Passed (view_tests true w n view at) → ViewWordsRight w n view at
  unfolding Passed
  passed-right (a, (b, (c, (d, (e, _))))) = record {
    words = a;
    newest = eqb-true _ _ (b 0 (omega arith));
    earlier = ltb-true _ _ (c 0 (omega arith));
    adopted = ltb-true _ _ (d 0 (omega arith));
    last = leb-true _ 1 (e 0 (omega arith));
  }

  pub right-passed : ViewWordsRight w n view at → Passed (view_tests true w n view at)
  unfolding Passed
  right-passed f = (
    f.words,
    (
      λ _ _. eq-eqb _ _ f.newest,
      (λ _ _. lt-ltb _ _ f.earlier, (λ _ _. lt-ltb _ _ f.adopted, (λ _ _. le-leb _ 1 f.last, tt))),
    ),
  )

-- ---- written, they pass

pub views-ok : (b : Bool) (w : ℕ → ℕ) (at n latest view : ℕ) (v : Views) → Follows w at (view_runs b n latest v) → latest ≡ view → ViewsFit b n v
    → Passed (view_tests b w n view at)
unfolding Passed
views-ok true w at n latest view v follows e f =
    let t = views-stand w at n latest v follows in
    right-passed w n view at (record {
      words = λ j h. ap (view_ok n) (t.words j h) ∙ f.words j h;
      newest = t.newest ∙ e;
      earlier = rw t.earlier f.earlier;
      adopted = rw t.adopted f.adopted;
      last = rw t.last (b2n-le v.out);
    })
views-ok false w at n latest view v follows e f = tt

-- ---- where they pass, the views fit

pub views-pass : (b : Bool) (w : ℕ → ℕ) (at n latest view : ℕ) (v : Views) → Follows w at (view_runs b n latest v) → ViewsSmall b n v
    → Passed (view_tests b w n view at) → ViewsFit b n v
views-pass true w at n latest view v follows k passed =
    let t = views-stand w at n latest v follows in
    let f = passed-right w n view at passed in
    record {
      words = λ j h. ap (view_ok n) (sym (t.words j h)) ∙ f.words j h;
      earlier = rw t.earlier at f.earlier;
      adopted = rw t.adopted at f.adopted;
      clear = k.clear;
    }
views-pass false w at n latest view v follows k passed = k

-- ---- written, they are read back

out-back : (b : Bool) → eqb (b2n b) 1 ≡ b
out-back true = refl
out-back false = refl

pub views-back : (b : Bool) (x : List ℕ) (at n latest : ℕ) (v : Views) → n ≤ 16 → ViewsSmall b n v → ShapedViews v
    → Follows (word_at x) at (view_runs b n latest v) → v ≡ views_in b x n at
unfolding views_in
views-back true x at n latest v small k l follows =
    let t = views-stand (word_at x) at n latest v follows in
    let e : array n (λ j. word_at x (at + j)) ≡ v.words =
    array-ext n (λ j. word_at x (at + j)) (λ j. get_or v.words j 0) t.words ∙ array-own n v.words small l k.clear
    in
    let o : eqb (word_at x (at + n + 3)) 1 ≡ v.out = ap (λ (y : ℕ). eqb y 1) t.last ∙ out-back v.out in
    λ i. record { words = sym e i; earlier = sym t.earlier i; adopted = sym t.adopted i; out = sym o i }
views-back false x at n latest v small k l follows = none_is v k l

-- ---- words that pass

out-word : (w : ℕ) → w ≤ 1 → w ≡ b2n (eqb w 1)
out-word w h =
    ⊎_elim (λ (t : eqb w 1 ≡ true). eqb-true w 1 t ∙ sym (ap b2n t))
    (λ (f : eqb w 1 ≡ false).
    let z : w ≡ 0 = omega (arith, eqb-false w 1 f) in
    z ∙ sym (ap b2n f))
    (which (eqb w 1))

-- they are the words that the views are written as
pub views_same : (b : Bool) (x : List ℕ) (at n view : ℕ) → n ≤ 16 → Passed (view_tests b (word_at x) n view at)
    → Follows (word_at x) at (view_runs b n view (views_in b x n at))
unfolding views_in Follows
views_same true x at n view small passed =
    let f = passed-right (word_at x) n view at passed in
    stand-views (word_at x) at n view (views_in true x n at) (record {
      words = λ j h. sym (array_at n (λ k. word_at x (at + k)) j h small);
      newest = f.newest;
      earlier = refl;
      adopted = refl;
      last = out-word (word_at x (at + n + 3)) f.last;
    })
views_same false x at n view small passed = tt

-- the views that are read fit
pub read-views-fit : (b : Bool) (x : List ℕ) (at n view : ℕ) → n ≤ 16 → Passed (view_tests b (word_at x) n view at) → ViewsFit b n (views_in b x n at)
unfolding views_in
read-views-fit true x at n view small passed =
    let f = passed-right (word_at x) n view at passed in
    record {
      words = λ j h. ap (view_ok n) (array_at n (λ k. word_at x (at + k)) j h small) ∙ f.words j h;
      earlier = f.earlier;
      adopted = f.adopted;
      clear = array-clear n _;
    }
read-views-fit false x at n view small passed = none-fits n

-- and the latest view among them is that of the kind 10 word
pub read-latest : (x : List ℕ) (at n view : ℕ) → Passed (view_tests true (word_at x) n view at) → word_at x (at + n) ≡ view
read-latest x at n view passed = (passed-right (word_at x) n view at passed).newest

-- ---- as the code writes them

pub views-written : {a b c d e : List ℕ} {j last : ℕ} (o : List ℕ) (at n latest : ℕ) (v : Views) → j ≡ n → a ≡ put_run o at j (λ k. get_or v.words k 0)
    → b ≡ put_word a (at + n) latest → c ≡ put_word b (at + n + 1) v.earlier → d ≡ put_word c (at + n + 2) v.adopted → last ≡ b2n v.out
    → e ≡ put_word d (at + n + 3) last → e ≡ put_runs o at (view_runs true n latest v)
unfolding put_runs
views-written {a = a} {b = b} {c = c} {d = d} o at n latest v k ea eb ec ed l ee =
    let k₂ : at + n + 2 ≡ at + n + 1 + 1 = omega arith in
    let k₃ : at + n + 3 ≡ at + n + 1 + 1 + 1 = omega arith in
    let fa = put-end o at _ n (λ k. get_or v.words k 0) k ea in
    let fb = put_one a (at + n) latest eb ∙ ap (λ (x : List ℕ). put_run x (at + n) 1 (λ _. latest)) fa in
    let fc = put_one b (at + n + 1) v.earlier ec ∙ ap (λ (x : List ℕ). put_run x (at + n + 1) 1 (λ _. v.earlier)) fb in
    let fd = put_one c (at + n + 2) v.adopted ed ∙ ap₂ (λ (x : List ℕ) (p : ℕ). put_run x p 1 (λ _. v.adopted)) fc k₂ in
    put_one d (at + n + 3) (b2n v.out) (ee ∙ ap (put_word d (at + n + 3)) l) ∙ ap₂ (λ (x : List ℕ) (p : ℕ). put_run x p 1 (λ _. b2n v.out)) fd k₃

-- from the words of one saved state to those of the next
pub agreed-by : {a this e : List ℕ} {out : Bool} {view was : ℕ} {last : Bool} (voted o s read : List ℕ) (n at split controller local latest to : ℕ)
    → n ≤ 16 → length a ≡ 16 → a ≡ array n (λ j. word_at s (at + j)) → this ≡ views_read n read controller
    → voted ≡ replaced n (λ j. cond (ltb j split) (get_or a j 0) (get_or this j 0)) a → was ≡ word_at s (at + n + 2)
    → last ≡ eqb (word_at s (at + n + 3)) 1 → out ≡ last || not (adoptable n voted)
    → view ≡ (if last || not (adoptable n voted) then was else adopted_from n voted)
    → e ≡ put_runs o to (view_runs true n latest (record { words = this; earlier = local; adopted = view; out = out }))
    → e ≡ put_runs o to (view_runs true n latest (views_after n (views_in true s n at)
    (array n (λ j. cond (ltb j split) (get_or (views_in true s n at).words j 0) (get_or (views_read n read controller) j 0))) (views_read n read controller) local))
unfolding views_in
agreed-by {a = a} {this = this} {out = out} {view = view} voted o s read n at split controller local latest to small long ea et ev w l x y h =
    let f : ℕ → ℕ = λ j. cond (ltb j split) (get_or a j 0) (get_or this j 0) in
    let v = views_in true s n at in
    let z = after-by n v voted (array n f) this local (replaced-same n f a small long ev) (x ∙ (λ i. l i || not (adoptable n voted)))
    (y ∙ (λ i. if l i || not (adoptable n voted) then w i else adopted_from n voted))
    in
    h
    ∙ ap (λ (r : Views). put_runs o to (view_runs true n latest r))
    (z ∙ (λ i. views_after n v (array n (λ j. cond (ltb j split) (get_or (ea i) j 0) (get_or (et i) j 0))) (et i) local))
