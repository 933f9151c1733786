-- Each test refuses by its number; what passes is the round.
use Rattle.std.proofs.Common.{◌≡◌, ℕ, ◌*◌, ◌≤◌, Result, Ok, Err, eqb, eqb-true, ltb, ltb-true, ap, ◌∙◌, arith, rules}
use Rattle.words.specs.Verdict.{Verdict, single, outcome}
use Rattle.words.specs.Refusal.{told}
use Rattle.words.specs.declared.Refusal.{Refusal}
use Rattle.words.proofs.RefusalLaws.{told-on, single-by, single-right}
use Rattle.views.specs.ViewWord.{read_words}
use Rattle.views.proofs.ViewWordLaws.{words-least, words-most}
use Rattle.presence.specs.Step.{read_length, accepted_step, stepped_told}
use Rattle.presence.specs.declared.State.{State}
use Rattle.presence.proofs.ValidLaws.{valid-fits}
use Rattle.presence.proofs.StateRoundLaws.{read-short, read-high, read_taken}
use Rattle.presence.proofs.State.stepped.Goals as goal

-- v is the answer of 9, for k bytes and m words
length-asked : {m : ℕ} {v : Verdict} (k : ℕ) (st : State) → m ≡ read_words st.setup.partitionable st.setup.n → v ≡ outcome (single (eqb k (m * 4)) 9 0)
    → v ≡ outcome (single (eqb k (read_length st)) 9 0)
length-asked k st e h = single-by 9 0 (ap (λ (x : ℕ). eqb k (x * 4)) e) h

-- r is that answer
module _ {m : ℕ} {r : Result (Unit {0}) Refusal} {x : Unit {0}} (k : ℕ) (st : State) (e : m ≡ read_words st.setup.partitionable st.setup.n)
    (h : told r ≡ outcome (single (eqb k (m * 4)) 9 0)) (i : r ≡ Ok x) where
  length-right : k ≡ read_length st
  length-right = eqb-true _ _ (single-right 9 0 (omega arith) (length-asked k st e h) i)

  -- a read of the right length has N words at least
  enough : st.setup.n * 4 ≤ k
  enough = omega (arith, length-right, words-least st.setup.partitionable st.setup.n)

pub read_words-requires : goal.read_words-requires
read_words-requires c = (valid-fits _ c.requires).setup.most

pub overflow_mul-whole : goal.overflow_mul-whole
overflow_mul-whole c =
    let s = (valid-fits _ c.requires).setup in
    omega (arith, c.read_words.ensures, words-most c.args.self.setup.partitionable c.args.self.setup.n, s.most)

pub returns-in_err-single : goal.returns-in_err-single
returns-in_err-single c =
    let q : c.from_residual.result ≡ Err c.in_err-single.field-0.0 = search rules in
    ap (stepped_told c.args.self) q
    ∙ read-short c.args.self _ c.args.controller _ (told-on c.in_err-single.was ∙ length-asked _ c.args.self c.read_words.ensures c.single.ensures)

pub power-requires : goal.power-requires
power-requires c =
    let f = valid-fits _ c.requires in
    let s = f.setup in
    omega arith

pub returns-in_err-single-2 : goal.returns-in_err-single-2
returns-in_err-single-2 c =
    let q : c.from_residual-in_err-single-2.result ≡ Err c.in_err-single-2.field-0.0 = search rules in
    ap (stepped_told c.args.self) q
    ∙ read-high c.args.self _ c.args.controller _ (length-right _ c.args.self c.read_words.ensures c.single.ensures c.in_ok-single.was)
    (told-on c.in_err-single-2.was ∙ single-by 10 0 (ap (ltb c.args.controller) c.power.ensures) c.single-2.ensures)

pub causes-causes-requires : goal.causes-causes-requires
causes-causes-requires c =
    ((valid-fits _ c.requires).setup.most, enough _ c.args.self c.read_words.ensures c.single.ensures c.in_ok-single.was)

pub views_seen-seen-requires : goal.views_seen-seen-requires
views_seen-seen-requires c =
    let l = length-right _ c.args.self c.read_words.ensures c.single.ensures c.in_ok-single.was in
    ((valid-fits _ c.requires).setup.most, omega (arith, l))

pub reading-this-requires : goal.reading-this-requires
reading-this-requires c =
    ((valid-fits _ c.requires).setup.most, enough _ c.args.self c.read_words.ensures c.single.ensures c.in_ok-single.was)

pub returns : goal.returns
returns c =
    let a = c.args in
    let r = c.reading-this.ensures in
    let v = c.views_seen-seen.ensures in
    let u = c.causes-causes.ensures in
    let h = single-right 10 0 (omega arith) (single-by 10 0 (ap (ltb a.controller) c.power.ensures) c.single-2.ensures) c.in_ok-single-2.was in
    read_taken _ _ _ (c.played.ensures ∙ (λ k. accepted_step a.self (r k) (v k) (u k)))
    (length-right _ a.self c.read_words.ensures c.single.ensures c.in_ok-single.was) (ltb-true _ _ h)
