-- A run put together from its cursor and its backplane, and its lines.
use Prim.Native.Nat.{ℕ, ◌≤◌}
use mathlib.Core.Path.{◌≡◌, refl, sym, ap, ap₂, ◌∙◌, subst}
use mathlib.Core.Bool.{true, false, cond}
use Rattle.std.proofs.Common.{Result, Ok, Err}
use mathlib.Core.List.{List}
use lib.ListN.{get_or}
use borrow.Author.Tests.{eq-eqb, ne_eqb}
use Rattle.words.specs.Array.{array}
use Rattle.words.proofs.Truth.{cond-true, cond-false}
use Rattle.words.proofs.ArrayLaws.{array_at}
use Rattle.words.specs.Verdict.{Verdict, verdict, is_accepted}
use Rattle.words.specs.Refusal.{refusal_told, told}
use Rattle.words.specs.declared.Refusal.{Refusal}
use Rattle.words.proofs.RefusalLaws.{told-on, told-ok, told-none, told-err}
use Rattle.presence.specs.Shown.{shown_view}
use Rattle.script.specs.Check.{check_script}
use Rattle.script.specs.Cursor.{advanced}
use Rattle.script.specs.declared.Cursor.{Cursor}
use Rattle.text.specs.Lines.{lines_of}
use Rattle.text.specs.Wrote.{Wrote}
use Rattle.text.proofs.LineLaws.{lines-ext}
use Rattle.backplane.specs.Play.{state_at, played}
use Rattle.backplane.specs.Run.{Started, begun, idle, start_of, start_told, goes_on, next_of, printed}
use Rattle.backplane.specs.declared.Backplane.{Backplane}
use Rattle.backplane.specs.declared.Run.{Run}

-- ---- starting

abbrev started : Verdict → Run → Started
started v r = record { number = v.number; index = v.index; run = r }

-- r is the answer of the check
module _ {A : Type 0} {r : Result A Refusal} (s : List ℕ) (h : told r ≡ check_script s) where
  pub start-refused : {e : Refusal} → r ≡ Err e → start_told (Err e) ≡ start_of s
  unfolding start_of
  start-refused i =
      let q = told-on i ∙ h in
      ap (λ (v : Verdict). started v idle) q
      ∙ ap (started (check_script s)) (sym (cond-false (begun s) idle (ap is_accepted (sym h) ∙ ne_eqb (told r).number 0 (told-err i))))

  pub start-begun : {x : A} {run : Run} → r ≡ Ok x → run ≡ begun s → start_told (Ok run) ≡ start_of s
  unfolding start_of
  start-begun i q =
      ap₂ started (sym (told-ok i) ∙ h) (q ∙ sym (cond-true (begun s) idle (ap is_accepted (sym h) ∙ eq-eqb (told r).number 0 (told-none i))))

-- what starting answers
pub start-number : (s : List ℕ) → (start_of s).number ≡ (check_script s).number
unfolding start_of
start-number s = refl

pub start-index : (s : List ℕ) → (start_of s).index ≡ (check_script s).index
unfolding start_of
start-index s = refl

pub start-run : (s : List ℕ) → (check_script s).number ≡ 0 → (start_of s).run ≡ begun s
unfolding start_of
start-run s e = cond-true (begun s) idle (eq-eqb (check_script s).number 0 e)

-- r is what starting has answered
module _ {r : Result Run Refusal} (s : List ℕ) (h : start_told r ≡ start_of s) where
  pub started-accepts : {x : Run} → r ≡ Ok x → (check_script s).number ≡ 0
  started-accepts i =
      sym (start-number s) ∙ sym (ap (λ (x : Started). x.number) h) ∙ ap (λ (x : Result Run Refusal). (start_told x).number) i

  pub started-run : {x : Run} → r ≡ Ok x → x ≡ begun s
  started-run i =
      sym (ap (λ (x : Result Run Refusal). (start_told x).run) i) ∙ ap (λ (x : Started). x.run) h ∙ start-run s (started-accepts i)

  pub started-refused : {e : Refusal} → r ≡ Err e → refusal_told e ≡ check_script s
  started-refused i =
      let e = sym (ap start_told i) ∙ h in
      ap₂ verdict (ap (λ (x : Started). x.number) e ∙ start-number s) (ap (λ (x : Started). x.index) e ∙ start-index s)

abbrev run : Cursor → Backplane → Run
run c b = record { cursor = c; backplane = b }

pub made : {c c' : Cursor} {b b' : Backplane} → c ≡ c' → b ≡ b' → run c b ≡ run c' b'
made e q = ap₂ run e q

-- ---- the next round

pub next-played : (s : List ℕ) (r : Run) {c : Cursor} {b : Backplane} → c ≡ advanced s r.cursor → goes_on c r.backplane ≡ true
    → b ≡ played r.backplane c.events → run c b ≡ next_of s r
unfolding next_of
next-played s r {c} {b} e t q =
    let b' = r.backplane in
    made e (q ∙ sym (cond-true (played b' c.events) b' t) ∙ ap (λ (x : Cursor). cond (goes_on x b') (played b' x.events) b') e)

pub next-over : (s : List ℕ) (r : Run) {c : Cursor} → c ≡ advanced s r.cursor → goes_on c r.backplane ≡ false
    → run c r.backplane ≡ next_of s r
unfolding next_of
next-over s r {c} e t =
    let b' = r.backplane in
    made e (sym (cond-false (played b' c.events) b' t) ∙ ap (λ (x : Cursor). cond (goes_on x b') (played b' x.events) b') e)

-- ---- the lines

pub printed-as : (b : Backplane) {view : List ℕ} → b.setup.n ≤ 16
    → view ≡ array b.setup.n (λ i. shown_view (state_at b.states i))
    → lines_of b.setup.n b.round b.kept (λ i. get_or b.health i 0) (λ i. get_or view i 0) b.setup.n ≡ printed b
unfolding printed
printed-as b h e =
    lines-ext b.setup.n b.round b.kept _ _ _ b.setup.n
    (λ i hi. ap (λ (x : List ℕ). get_or x i 0) e ∙ array_at b.setup.n _ i hi h)

-- the same of lines that were written at a place
pub wrote-printed : {old new : List ℕ} {at r : ℕ} (b : Backplane) {view : List ℕ} → b.setup.n ≤ 16
    → view ≡ array b.setup.n (λ i. shown_view (state_at b.states i))
    → Wrote old at (lines_of b.setup.n b.round b.kept (λ i. get_or b.health i 0) (λ i. get_or view i 0) b.setup.n) new r
    → Wrote old at (printed b) new r
wrote-printed {old} {new} {at} {r} b h e = subst (λ (t : List ℕ). Wrote old at t new r) (printed-as b h e)
