-- The line of the refusal stands at the front of the buffer.
use mathlib.Core.Path.{◌≡◌, sym, ap, ◌∙◌}
use mathlib.Core.Bool.{false}
use mathlib.Core.List.{List}
use Prim.Native.Nat.{ℕ, ◌+◌}
use native.Mathlib.Omega.{arith}
use borrow.Author.Tests.{ne_eqb}
use Rattle.words.specs.Verdict.{Verdict, is_accepted}
use Rattle.words.specs.Refusal.{code, refusal_told}
use Rattle.words.specs.declared.Refusal.{Refusal}
use Rattle.words.proofs.RefusalLaws.{code-positive}
use Rattle.text.specs.Lines.{refused_line}
use Rattle.text.proofs.WroteLaws.{wrote-front}
use Rattle.script.specs.Check.{check_script}
use Rattle.backplane.specs.Output.{part_of}
use Rattle.backplane.proofs.OutputLaws.{part-refused, parts-one}
use Rattle.bench.proofs.write_refusal.Goals as goal

-- the script is refused
refuses : (s : List ℕ) (e : Refusal) → refusal_told e ≡ check_script s → is_accepted (check_script s) ≡ false
refuses s e h =
    let p = code-positive e.number in
    sym (ap is_accepted h) ∙ ne_eqb (code e.number) 0 (λ z. omega (arith, p, z))

-- the line is part 0, and nothing was written before it
pub with_part-requires : goal.with_part-requires
with_part-requires c =
    let s = c.args.script.now in
    let h = c.requires in
    let z = c.nothing.ensures.0 in
    let line = λ (v : Verdict). refused_line v.number v.index in
    let said = ap (λ (k : ℕ). refused_line k c.args.refusal.now.index) c.code.ensures in (
      omega (arith, z),
      wrote-front c.put_refusal-end.ensures.0 ∙ said ∙ ap line h ∙ sym (ap (part_of s) z ∙ part-refused _ (refuses s _ h)),
    )

pub returns : goal.returns
returns c =
    c.with_part.ensures.0 ∙ ap (λ (k : ℕ). k + 1) c.nothing.ensures.0 ∙ sym (parts-one _ (refuses c.args.script.now _ c.requires))
