-- The words of a setup and the sections of a state are its image.
use mathlib.Core.Path.{◌≡◌, refl, ap, ap₂, ◌∙◌, sym}
use mathlib.Core.Bool.{Bool, true, false}
use mathlib.Core.List.{List, ◌∷◌, ◌++◌}
use Prim.Native.Nat.{ℕ, ◌+◌, ◌≤◌}
use native.Mathlib.Omega.{arith}
use lib.ListN.{length, drop, length-drop}
use Rattle.words.specs.Runs.{one, total, put_runs}
use Rattle.words.proofs.RunLaws.{put-runs, runs-join}
use Rattle.words.proofs.RunJoinLaws.{put-join}
use Rattle.setup.specs.Layout.{front_words, setup_length}
use Rattle.setup.specs.Limits.{fades}
use Rattle.setup.specs.Setup.{front_of, setup_runs, setup_bytes}
use Rattle.setup.proofs.SetupWords.{written-length}
use Rattle.changes.specs.Words.{change_runs}
use Rattle.changes.proofs.ChangeWords.{change-total}
use Rattle.views.specs.Section.{view_runs}
use Rattle.image.specs.Layout.{own_at, left_at, views_at}
use Rattle.image.specs.Words.{own_word, syndrome_word}
use Rattle.image.specs.Rows.{row_run}
use Rattle.image.specs.Sections.{section_runs}
use Rattle.image.specs.Part.{first_of, second_of, CountersSmall, lent_runs}
use Rattle.image.proofs.CounterLaws.{AccountsSmall}
use Rattle.image.proofs.LentLaws.{lent_written, lent-small}
use Rattle.presence.specs.Image.{state_runs, image_of, state_length}
use Rattle.presence.specs.declared.State.{State}
use Rattle.presence.proofs.StateWords.{views_of, counters-total, state-total}

-- the sections, then the pending change, then the views
sections-join : (st : State) (o : List ℕ)
    → put_runs o (own_at (front_of st.setup) st.setup.n) (state_runs st)
    ≡ put_runs (put_runs (put_runs o (own_at (front_of st.setup) st.setup.n) (section_runs (fades st.setup.limits) st.setup.n st.own st.counters st.previous st.latest st.earlier))
    (left_at (front_of st.setup) st.setup.n) (change_runs st.setup st.pending)) (views_at (front_of st.setup) st.setup.n st.pending.left) (views_of st)
unfolding total
sections-join st o =
    let rs = section_runs (fades st.setup.limits) st.setup.n st.own st.counters st.previous st.latest st.earlier in
    let at = own_at (front_of st.setup) st.setup.n in
    let e : at + total rs ≡ left_at (front_of st.setup) st.setup.n = omega (arith, counters-total (fades st.setup.limits) st.setup.n st.counters) in
    let cs = change_runs st.setup st.pending in
    let left = left_at (front_of st.setup) st.setup.n in
    let g : left + total cs ≡ views_at (front_of st.setup) st.setup.n st.pending.left = omega (arith, change-total st.setup st.pending) in
    put-join o at rs (cs ++ views_of st)
    ∙ ap (λ (k : ℕ). put_runs (put_runs o at rs) k (cs ++ views_of st)) e
    ∙ put-join (put_runs o at rs) left cs (views_of st)
    ∙ ap (λ (k : ℕ). put_runs (put_runs (put_runs o at rs) left cs) k (views_of st)) g

-- accounts that are lent by the form of the setup: they have room, and what is written from them are the words of the state
module _ {b : Bool} {x y : List ℕ} (st : State) (f : b ≡ fades st.setup.limits) (ex : x ≡ first_of b st.setup.n st.counters)
    (ey : y ≡ second_of b st.setup.n st.counters) (l : st.setup.n ≤ 16) where
  pub accounts-lent : AccountsSmall (fades st.setup.limits) st.setup.n st.counters → CountersSmall b st.setup.n x y st.counters.returns
  accounts-lent m = rw (ex, ey, f) (lent-small (fades st.setup.limits) st.setup.n st.counters m)

  pub lent-front : (o : List ℕ)
      → put_runs (put_runs o (own_at (front_words b) st.setup.n) (one (own_word st.own st.counters.view) ∷ row_run st.setup.n st.previous
      ∷ one (syndrome_word st.latest) ∷ one (syndrome_word st.earlier) ∷ lent_runs b st.setup.n x y st.counters.returns))
      (left_at (front_words b) st.setup.n) (change_runs st.setup st.pending)
      ≡ put_runs (put_runs o (own_at (front_of st.setup) st.setup.n) (section_runs (fades st.setup.limits) st.setup.n st.own st.counters st.previous st.latest st.earlier))
      (left_at (front_of st.setup) st.setup.n) (change_runs st.setup st.pending)
  unfolding put_runs
  lent-front o = rw (ex, ey, f, lent_written (fades st.setup.limits) st.setup.n st.counters _ _ l)

  pub lent-state : (o : List ℕ)
      → put_runs (put_runs (put_runs o (own_at (front_words b) st.setup.n) (one (own_word st.own st.counters.view) ∷ row_run st.setup.n st.previous
      ∷ one (syndrome_word st.latest) ∷ one (syndrome_word st.earlier) ∷ lent_runs b st.setup.n x y st.counters.returns))
      (left_at (front_words b) st.setup.n) (change_runs st.setup st.pending)) (views_at (front_words b) st.setup.n st.pending.left) (views_of st)
      ≡ put_runs o (own_at (front_of st.setup) st.setup.n) (state_runs st)
  unfolding put_runs
  lent-state o =
      rw (ex, ey, f, lent_written (fades st.setup.limits) st.setup.n st.counters _ _ l)
      (sym (sections-join st o))

-- without views, what stands before them is all
pub no-views-put : (o : List ℕ) (at : ℕ) (st : State) → st.setup.partitionable ≡ false → o ≡ put_runs o at (views_of st)
unfolding put_runs
no-views-put o at st f = ap (λ (b : Bool). put_runs o at (view_runs b st.setup.n st.counters.view st.views)) (sym f)

-- with them, they are written last
pub views-put : (o : List ℕ) {at front : ℕ} {b : Bool} (st : State) → st.setup.partitionable ≡ true → b ≡ fades st.setup.limits → front ≡ front_words b
    → at ≡ views_at front st.setup.n st.pending.left
    → put_runs o at (view_runs true st.setup.n st.counters.view st.views)
    ≡ put_runs o (views_at (front_of st.setup) st.setup.n st.pending.left) (views_of st)
views-put o st t f e h =
    ap₂ (λ (i : ℕ) (b : Bool). put_runs o i (view_runs b st.setup.n st.counters.view st.views))
    (h ∙ ap (λ (x : ℕ). views_at x st.setup.n st.pending.left) (e ∙ ap front_words f)) (sym t)

pub image-written : (st : State) (o : List ℕ) {p q : List ℕ} (k : ℕ) → k ≡ setup_length (front_of st.setup) st.setup.n → p ≡ setup_bytes st.setup
    → q ≡ put_runs (p ++ drop k o) (own_at (front_of st.setup) st.setup.n) (state_runs st)
    → length o ≡ state_length st st.pending.left → q ≡ image_of st
unfolding image_of setup_bytes
image-written st o k e hp hq l =
    let at = own_at (front_of st.setup) st.setup.n in
    hq ∙ ap (λ (x : List ℕ). put_runs (x ++ drop k o) at (state_runs st)) hp
    ∙ put-runs (setup_bytes st.setup) (drop k o) at (state_runs st) (written-length st.setup) (length-drop k o ∙ omega (arith, state-total st))
    ∙ sym (runs-join (setup_runs st.setup) (state_runs st))

-- the words before the views, and then the views
pub front-written : (st : State) (o : List ℕ) {p q : List ℕ}
    → p ≡ put_runs (put_runs (setup_bytes st.setup ++ drop (setup_length (front_of st.setup) st.setup.n) o) (own_at (front_of st.setup) st.setup.n)
    (section_runs (fades st.setup.limits) st.setup.n st.own st.counters st.previous st.latest st.earlier))
    (left_at (front_of st.setup) st.setup.n) (change_runs st.setup st.pending)
    → q ≡ put_runs p (views_at (front_of st.setup) st.setup.n st.pending.left) (views_of st)
    → length o ≡ state_length st st.pending.left → q ≡ image_of st
front-written st o hp hq l =
    image-written st o (setup_length (front_of st.setup) st.setup.n) refl refl
    (hq ∙ ap (λ (x : List ℕ). put_runs x (views_at (front_of st.setup) st.setup.n st.pending.left) (views_of st)) hp ∙ sym (sections-join st _)) l
