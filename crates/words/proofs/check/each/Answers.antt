use Rattle.std.proofs.Common.{◌≡◌, ℕ, ◌<◌, ◌≤◌, true, subst, sym, ap, ◌∙◌, ⊎_elim, eq-or-lt_of_le, arith}
use Rattle.words.specs.Refusal.{code, refusal_told}
use Rattle.words.proofs.VerdictLaws.{each-right, each-wrong}
use Rattle.words.proofs.check.each.Goals as goal

pub loop-j-init : goal.loop-j-init
loop-j-init g c = λ k l. absurd (omega arith)

pub loop-j-preserved : goal.loop-j-preserved
loop-j-preserved g c = λ k l.
    let j = c.loop-j.j in
    let P : ℕ → Type 0 = λ x. g.F.Fn.post c.args.right (x, tt {0}) true in
    let m : k ≤ j = omega (arith, l) in
    ⊎_elim (λ (e : k ≡ j). subst P (sym e) c.if-not-right.ensures) (λ (h : k < j). c.loop-j.invariant k h) (eq-or-lt_of_le m)

pub returns-then-not-right : goal.returns-then-not-right
returns-then-not-right g c = λ ok h.
    let j = c.loop-j.j in
    ap refusal_told c.at.ensures
    ∙ sym (each-wrong c.args.n ok (code c.args.number) c.args.at j c.loop-j-test.true
    (λ k l. sym (h k true (omega (arith, c.loop-j-test.true)) (c.loop-j.invariant k l)))
    (sym (h j _ c.loop-j-test.true c.right.ensures) ∙ c.if-not-right.true))

pub returns : goal.returns
returns g c = λ ok h.
    sym (each-right c.args.n ok (code c.args.number) c.args.at (λ k l. sym (h k true l (c.loop-j.invariant k (omega (arith, l))))))
