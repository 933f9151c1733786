-- The check answers first; what it accepts is begun, from the part of the script that its setup was checked by, and the cast comes after it.
use Rattle.std.proofs.Common.{◌≡◌, ℕ, List, Result, Ok, Err, rules}
use mathlib.Core.Path.{ap, sym, ◌∙◌, ap₂}
use native.Mathlib.Omega.{arith}
use Rattle.words.specs.Word.{word_at}
use Rattle.words.specs.Verdict.{Verdict}
use Rattle.words.specs.Refusal.{told}
use Rattle.words.specs.declared.Refusal.{Refusal}
use Rattle.words.proofs.RefusalLaws.{told-none}
use Rattle.setup.specs.Check.{read_setup}
use Rattle.setup.specs.declared.Setup.{Setup}
use Rattle.script.specs.Words.{cast_in}
use Rattle.script.specs.Check.{check_script}
use Rattle.backplane.specs.Play.{opened}
use Rattle.backplane.specs.Run.{begun, start_told}
use Rattle.backplane.proofs.StartLaws.{whole_words, cast-there, few-read, read-goes, read-gives}
use Rattle.backplane.proofs.RunPartLaws.{made, start-refused, start-begun}
use Rattle.backplane.proofs.Run.start.Goals as goal

accepts : {A : Type 0} {r : Result A Refusal} {x : A} (s : List ℕ) → told r ≡ check_script s → r ≡ Ok x → (check_script s).number ≡ 0
accepts s h i = sym (ap (λ (v : Verdict). v.number) h) ∙ told-none i

pub returns-in_err-check : goal.returns-in_err-check
returns-in_err-check c =
    let q : c.from_residual.result ≡ Err c.in_err-check.field-0.0 = search rules in
    ap start_told q ∙ start-refused _ c.check.ensures c.in_err-check.was

-- what was accepted whole has a setup that is accepted
pub returns-in_err-setup : goal.returns-in_err-setup
returns-in_err-setup c =
    let e = accepts c.args.s.now c.check.ensures c.in_ok-check.was in
    absurd (read-goes _ e (c.read.ensures ∙ ap read_setup c.part.ensures) c.in_err-setup.was)

pub cast_at-requires : goal.cast_at-requires
cast_at-requires c = whole_words _ (accepts c.args.s.now c.check.ensures c.in_ok-check.was)

pub word_at-cast-requires : goal.word_at-cast-requires
word_at-cast-requires c =
    let h = cast-there _ (accepts c.args.s.now c.check.ensures c.in_ok-check.was) in
    omega (arith, h, c.cast_at.ensures.0)

pub start-cursor-requires : goal.start-cursor-requires
start-cursor-requires c = whole_words _ (accepts c.args.s.now c.check.ensures c.in_ok-check.was)

pub open-backplane-requires : goal.open-backplane-requires
open-backplane-requires c =
    let e = accepts c.args.s.now c.check.ensures c.in_ok-check.was in
    rw (ap (λ (x : Setup). x.n) (read-gives _ e (c.read.ensures ∙ ap read_setup c.part.ensures) c.in_ok-setup.was)) (few-read _ e)

pub returns : goal.returns
unfolding begun
returns c =
    let e = accepts c.args.s.now c.check.ensures c.in_ok-check.was in
    let setup = read-gives _ e (c.read.ensures ∙ ap read_setup c.part.ensures) c.in_ok-setup.was in
    let cast = c.word_at-cast.ensures ∙ ap (word_at c.args.s.now) c.cast_at.ensures.0 in
    start-begun _ c.check.ensures c.in_ok-check.was
    (made c.start-cursor.ensures (c.open-backplane.ensures ∙ ap₂ opened setup (ap cast_in cast)))
