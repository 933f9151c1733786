-- What an opening and a step answer, put together from the answers of their parts.
use Rattle.std.specs.Prelude.{Ok, Err}
use mathlib.Core.Path.{◌≡◌, refl, ap, ap₂, ◌∙◌, sym, subst}
use mathlib.Core.Bool.{Bool, true, false, cond}
use mathlib.Core.List.{List}
use Prim.Native.Nat.{ℕ, ◌-◌, ◌^◌, ◌<◌, ◌≤◌}
use native.Mathlib.Omega.{arith}
use lib.ListN.{get_or, length}
use lib.Dec.{ltb, eqb}
use borrow.Author.Tests.{eq-eqb, ne_eqb, lt-ltb, le-ltb}
use Rattle.words.specs.Bits.{full}
use Rattle.words.specs.Array.{array}
use Rattle.words.proofs.BitLaws.{pack-lt}
use Rattle.words.proofs.Truth.{cond-true, cond-false, cond_both}
use Rattle.words.specs.Verdict.{Verdict, verdict, accepted, is_accepted, single, outcome}
use Rattle.words.specs.Refusal.{code, refusal_told}
use Rattle.words.specs.declared.Refusal.{Refusal}
use Rattle.setup.specs.declared.Setup.{Setup}
use Rattle.words.proofs.VerdictLaws.{single-ok, single-refused}
use Rattle.words.proofs.RefusalLaws.{told-err}
use Rattle.rules.specs.Hearing.{reading_of, causes_of}
use Rattle.rules.proofs.ReceptionLaws.{below-kind}
use Rattle.rules.specs.Alignment.{aligned_of}
use Rattle.rules.specs.Syndrome.{judgement_of}
use Rattle.accounts.specs.Round.{account_at, counters_of}
use Rattle.accounts.specs.Range.{AccountRange}
use Rattle.accounts.proofs.RoundLaws.{kept-countable}
use Rattle.rules.specs.declared.Reading.{Reading}
use Rattle.accounts.specs.declared.Counters.{Counters}
use Rattle.rules.specs.declared.Judgement.{Judgement}
use Rattle.changes.specs.Pending.{nothing}
use Rattle.changes.specs.Books.{turned, counted, books_after}
use Rattle.changes.specs.declared.Books.{Books}
use Rattle.changes.specs.declared.Pending.{Pending}
use Rattle.changes.proofs.TurnLaws.{turned-setup-fits}
use Rattle.views.specs.ViewWord.{view_word}
use Rattle.views.specs.Views.{no_views, fresh_views, views_after}
use Rattle.views.proofs.ViewWordLaws.{split-aligned}
use Rattle.views.specs.declared.Views.{Views}
use Rattle.image.specs.Counters.{zero_counters}
use Rattle.image.proofs.CounterLaws.{within-kept, within-waits}
use Rattle.image.proofs.BooksLaws.{turned-accounts}
use Rattle.presence.specs.Valid.{state_verdict, Valid}
use Rattle.presence.specs.Opening.{fresh, blank, check_opening, open_of, opened_told}
use Rattle.presence.specs.Step.{skew_of, place_of, mark_of, own_syndrome, aligned_for, judgement_for, outgoing_for, books_of, voted_views, views_for, outgoing_view, read_length, seen_by, after_round, refused_step, accepted_step, read_step, step_of, Stepped, stepped_told}
use Rattle.presence.specs.declared.State.{State}
use Rattle.presence.proofs.ValidLaws.{StateFits, valid-fits}

-- ---- rules 1 and 3 to 6

pub judged-made : (st : State) (this : Reading) {skew : Bool} {place own : ℕ} {a : Reading} {j : Judgement}
    → skew ≡ skew_of st → place ≡ place_of st → a ≡ aligned_of st.setup.n skew place st.previous this
    → own ≡ cond skew st.earlier st.latest → j ≡ judgement_of st.setup.n st.counters.view a own → j ≡ judgement_for st this
unfolding judgement_for aligned_for own_syndrome
judged-made st this {skew} {place} {own} {a} {j} s p e o h =
    let a' : a ≡ aligned_of st.setup.n (skew_of st) (place_of st) st.previous this =
    e ∙ ap₂ (λ (x : Bool) (y : ℕ). aligned_of st.setup.n x y st.previous this) s p
    in
    let o' : own ≡ cond (skew_of st) st.earlier st.latest = o ∙ ap (λ (x : Bool). cond x st.earlier st.latest) s in
    h ∙ ap₂ (λ (x : Reading) (y : ℕ). judgement_of st.setup.n st.counters.view x y) a' o'

-- a valid state's own read place is at most N
pub place-small : (st : State) {r : ℕ} → StateFits st → r ≡ place_of st → r < 31
unfolding place_of
place-small st f e =
    let h : st.own - 1 < st.setup.n = omega (arith, f.first, f.last) in
    let w = f.setup.each (st.own - 1) h in
    omega (arith, w.within, f.setup.most)

-- ---- rule 8

pub after-made : (st : State) (this : Reading) (seen : List ℕ) {j : Judgement} {c : Counters} {b : Books} {v : Views} → j ≡ judgement_for st this
    → b ≡ turned (books_of st) → c ≡ counters_of b.setup j.health b.counters → v ≡ views_for st seen
    → ◌≡◌ {A = State}
    (record { setup = b.setup; own = st.own; counters = c; previous = this; latest = j.syndrome; earlier = st.latest; pending = b.pending; views = v }) (after_round st this seen)
unfolding after_round books_after counted
after-made st this seen {j} {c} {b} e f h g =
    let made : Books → Judgement → Counters → State =
    λ x k d. record { setup = x.setup; own = st.own; counters = d; previous = this; latest = k.syndrome; earlier = st.latest; pending = x.pending; views = views_for st seen }
    in
    (λ i. record { setup = b.setup; own = st.own; counters = c; previous = this; latest = j.syndrome; earlier = st.latest; pending = b.pending; views = g i })
    ∙ ap₂ (made b) e (h ∙ ap (λ (k : Judgement). counters_of b.setup k.health b.counters) e)
    ∙ ap (λ (x : Books). made x (judgement_for st this) (counters_of x.setup (judgement_for st this).health x.counters)) f

-- the accounts of a valid state are small enough to add to, after a change that is due has taken effect
pub in-range : (st : State) → StateFits st → (j : ℕ) → j < (turned (books_of st)).setup.n
    → AccountRange (turned (books_of st)).setup.limits (turned (books_of st)).setup.q (get_or (turned (books_of st)).setup.criticality j 0)
    (account_at (turned (books_of st)).counters j)
in-range st f j h =
    let b = turned (books_of st) in
    let l = b.setup.limits in
    let s = turned-setup-fits (books_of st) f.pending f.setup in
    let k = turned-accounts (books_of st) f.setup f.pending f.counters in
    kept-countable l b.setup.q _ _ s.limits s.q-most (s.each j h).most
    (within-waits l b.setup b.counters k j h) (within-kept l b.setup b.counters s.most k j h)

-- the same of books that are already turned
pub books-range : (st : State) {b : Books} → StateFits st → b ≡ turned (books_of st)
    → (b.setup.n ≤ 16)
    × ((j : ℕ) → j < b.setup.n → AccountRange b.setup.limits b.setup.q (get_or b.setup.criticality j 0) (account_at b.counters j))
books-range st f e =
    subst
    (λ (b : Books). (b.setup.n ≤ 16)
    × ((j : ℕ) → j < b.setup.n → AccountRange b.setup.limits b.setup.q (get_or b.setup.criticality j 0) (account_at b.counters j)))
    (sym e) ((turned-setup-fits (books_of st) f.pending f.setup).most, in-range st f)

-- ---- the views

pub views-none : (st : State) (seen : List ℕ) {v : Views} → v ≡ no_views → st.setup.partitionable ≡ false → v ≡ views_for st seen
unfolding views_for
views-none st seen e f = e ∙ sym (cond-false _ _ f)

pub views-made : (st : State) (seen : List ℕ) {v : Views} {skew : Bool} {place split : ℕ} → skew ≡ skew_of st → place ≡ place_of st → split ≡ cond skew place 0
    → v ≡ views_after st.setup.n st.views (array st.setup.n (λ j. cond (ltb j split) (get_or st.views.words j 0) (get_or seen j 0))) seen st.counters.view
    → st.setup.partitionable ≡ true → v ≡ views_for st seen
unfolding views_for voted_views
views-made st seen {v} {skew} {place} s p e h t =
    let k = e ∙ ap₂ (λ (b : Bool) (x : ℕ). cond b x 0) s p in
    h
    ∙ ap (λ (x : List ℕ). views_after st.setup.n st.views x seen st.counters.view) (split-aligned st.setup.n st.views.words seen (skew_of st) (place_of st) k)
    ∙ sym (cond-true _ _ t)

pub handed-none : (st : State) (view : ℕ) → st.setup.partitionable ≡ false → 0 ≡ outgoing_view st view
unfolding outgoing_view
handed-none st view f = sym (cond-false _ _ f)

pub handed-made : (st : State) (view : ℕ) {r v : ℕ} {mark : Bool} → mark ≡ mark_of st → v ≡ cond mark st.counters.view view → r ≡ view_word v
    → st.setup.partitionable ≡ true → r ≡ outgoing_view st view
unfolding outgoing_view
handed-made st view m h e t =
    e ∙ ap view_word (h ∙ ap (λ (b : Bool). cond b st.counters.view view) m) ∙ sym (cond-true _ _ t)

pub handed-small : (st : State) (view : ℕ) {v : ℕ} (mark : Bool) → Valid st → view < 2 ^ 28 → v ≡ cond mark st.counters.view view → v < 2 ^ 28
handed-small st view mark v h e =
    let f = valid-fits st v in
    subst (λ (x : ℕ). x < 2 ^ 28) (sym e)
    (cond_both (λ (x : ℕ). x < 2 ^ 28) mark st.counters.view view (below-kind st.setup.n _ f.setup.most f.view) h)

-- ---- the round

pub round-made : (st : State) (this : Reading) (seen causes : List ℕ) {j : Judgement} {word view : ℕ} {next : State} → j ≡ judgement_for st this
    → word ≡ outgoing_for st this → view ≡ outgoing_view st next.counters.view → next ≡ after_round st this seen
    → ◌≡◌ {A = Stepped} (record { number = 0; index = 0; health = j.health; accusations = j.accusations; word = word; second = view; causes = causes; state = next })
    (accepted_step st this seen causes)
unfolding accepted_step
round-made st this seen causes {j} {word} {view} {next} e w v n =
    let made : (k : Judgement) (x y : ℕ) (s : State) → Stepped =
    λ k x y s. record { number = 0; index = 0; health = k.health; accusations = k.accusations; word = x; second = y; causes = causes; state = s }
    in
    ap (λ (k : Judgement). made k word view next) e
    ∙ ap₂ (λ (x y : ℕ). made (judgement_for st this) x y next) w v
    ∙ ap (λ (s : State). made (judgement_for st this) (outgoing_for st this) (outgoing_view st s.counters.view) s) n

-- the local view after it is that of n modules
pub next_small : (st : State) (this : Reading) (seen : List ℕ) {next : State} → Valid st → next ≡ after_round st this seen → next.counters.view < 2 ^ 28
unfolding after_round books_after counted counters_of
next_small st this seen {next} v e =
    let n = (turned (books_of st)).setup.n in
    let most : n ≤ 16 = (turned-setup-fits (books_of st) (valid-fits st v).pending (valid-fits st v).setup).most in
    subst (λ (x : State). x.counters.view < 2 ^ 28) (sym e) (below-kind n _ most (pack-lt n _))

-- ---- a refusal

-- v is not accepted where x tells of it
pub refused-by : {v : Verdict} (x : Refusal) → refusal_told x ≡ v → is_accepted v ≡ false
refused-by x t = ap is_accepted (sym t) ∙ ne_eqb (code x.number) 0 (told-err {A = State} {r = Err x} refl)

-- one test was refused
refused-single : (x : Refusal) (ok : Bool) (number place : ℕ) → refusal_told x ≡ outcome (single ok number place)
    → (ok ≡ false) × (refusal_told x ≡ verdict number place)
refused-single x true number place h = absurd (told-err {A = State} {r = Err x} refl (ap (λ (v : Verdict). v.number) (h ∙ single-ok true number place refl)))
refused-single x false number place h = (refl, h ∙ single-refused false number place refl)

-- ---- 9 and 10

module _ (st : State) (read : List ℕ) (controller : ℕ) {r : Stepped} where
  pub read_length_lem : r ≡ refused_step st 9 0 → (length read ≡ read_length st → ⊥) → r ≡ read_step st read controller
  unfolding read_step
  read_length_lem h f = h ∙ sym (cond-false _ _ (ne_eqb (length read) (read_length st) f))

  pub read-controller : r ≡ refused_step st 10 0 → length read ≡ read_length st → 2 ^ st.setup.n ≤ controller → r ≡ read_step st read controller
  unfolding read_step
  read-controller h l c =
      h ∙ sym (cond-true _ _ (eq-eqb (length read) (read_length st) l) ∙ cond-false _ _ (le-ltb controller (2 ^ st.setup.n) c))

  pub read_taken : r ≡ accepted_step st (reading_of st.setup.n read controller) (seen_by st read controller) (causes_of st.setup.n read controller) → length read ≡ read_length st → controller < 2 ^ st.setup.n
      → r ≡ read_step st read controller
  unfolding read_step
  read_taken h l c =
      h ∙ sym (cond-true _ _ (eq-eqb (length read) (read_length st) l) ∙ cond-true _ _ (lt-ltb controller (2 ^ st.setup.n) c))

  -- ---- the state first

  pub step-goes : {v : Verdict} → v ≡ state_verdict st → v.number ≡ 0 → r ≡ read_step st read controller → r ≡ step_of st read controller
  unfolding step_of
  step-goes {v} e z h = h ∙ sym (cond-true _ _ (ap is_accepted (sym e) ∙ eq-eqb v.number 0 z))

-- as code refuses: x is the answer of the test
module _ (st : State) (read : List ℕ) (controller : ℕ) (x : Refusal) where
  refused-as : (number : ℕ) → refusal_told x ≡ verdict number 0 → stepped_told st (Err x) ≡ refused_step st number 0
  unfolding refused_step
  refused-as number h = ap (λ (v : Verdict). refused_step st v.number v.index) h

  pub read-short : refusal_told x ≡ outcome (single (eqb (length read) (read_length st)) 9 0) → stepped_told st (Err x) ≡ read_step st read controller
  unfolding read_step
  read-short h =
      let (f, t) = refused-single x (eqb (length read) (read_length st)) 9 0 h in
      refused-as 9 t ∙ sym (cond-false _ _ f)

  pub read-high : length read ≡ read_length st → refusal_told x ≡ outcome (single (ltb controller (2 ^ st.setup.n)) 10 0)
      → stepped_told st (Err x) ≡ read_step st read controller
  unfolding read_step
  read-high l h =
      let (f, t) = refused-single x (ltb controller (2 ^ st.setup.n)) 10 0 h in
      refused-as 10 t ∙ sym (cond-true _ _ (eq-eqb (length read) (read_length st) l) ∙ cond-false _ _ f)

  pub step-stops : refusal_told x ≡ state_verdict st → stepped_told st (Err x) ≡ step_of st read controller
  unfolding step_of refused_step
  step-stops t =
      ap (λ (v : Verdict). refused_step st v.number v.index) t ∙ sym (cond-false _ _ (refused-by x t))

-- a step of a valid state is one of that state as it was read
pub step-of : (st : State) {k : State} (read : List ℕ) (controller : ℕ) {t : Stepped} → k ≡ st → Valid k → t ≡ read_step k read controller
    → t ≡ step_of st read controller
step-of st {k} read controller {t} e v h =
    step-goes k read controller refl v h ∙ ap (λ (x : State). step_of x read controller) e

-- ---- opening

pub fresh-made : (s : Setup) (own : ℕ) {v : ℕ} {rows : List ℕ} {c : Counters} {p : Pending} {w : Views} → v ≡ full s.n → rows ≡ array s.n (λ j. v)
    → c ≡ zero_counters v → p ≡ nothing → w ≡ fresh_views s.partitionable s.n
    → ◌≡◌ {A = State} (record { setup = s; own = own; counters = c; previous = record { heard = v; rows = rows }; latest = v; earlier = v; pending = p; views = w }) (fresh s own)
unfolding fresh
fresh-made s own {v} {rows} {c} {p} e h k n f =
    let made : ℕ → List ℕ → Counters → State =
    λ x r d. record { setup = s; own = own; counters = d; previous = record { heard = x; rows = r }; latest = x; earlier = x; pending = nothing; views = fresh_views s.partitionable s.n }
    in
    (λ i. record { setup = s; own = own; counters = c; previous = record { heard = v; rows = rows }; latest = v; earlier = v; pending = n i; views = f i })
    ∙ ap (made v rows) k ∙ ap₂ (λ (x : ℕ) (r : List ℕ). made x r (zero_counters v)) e (h ∙ ap (λ (x : ℕ). array s.n (λ j. x)) e)
    ∙ ap (λ (x : ℕ). made (full s.n) (array s.n (λ j. full s.n)) (zero_counters x)) e

module _ (s : Setup) (own : ℕ) where
  pub open-refused : (x : Refusal) → refusal_told x ≡ check_opening s own → opened_told (Err x) ≡ open_of s own
  unfolding open_of
  open-refused x t =
      ap₂ (λ (v : Verdict) (y : State). record { number = v.number; index = v.index; state = y }) t (sym (cond-false (fresh s own) blank (refused-by x t)))

  pub open-done : {st : State} → accepted ≡ check_opening s own → st ≡ fresh s own → opened_told (Ok st) ≡ open_of s own
  unfolding open_of
  open-done t e =
      ap₂ (λ (v : Verdict) (y : State). record { number = v.number; index = v.index; state = y }) t
      (e ∙ sym (cond-true (fresh s own) blank (ap is_accepted (sym t))))
