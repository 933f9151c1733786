-- The kind 0 word, the factor, the limit: the first that is wrong is refused.
use Rattle.std.proofs.Common.{◌≡◌, Err, ℕ, eqb, ap, ◌∙◌, rules}
use Rattle.words.specs.Refusal.{told}
use Rattle.words.proofs.RefusalLaws.{first-stops, first-goes, first-last, single-by}
use Rattle.setup.specs.Limits.{factor_fits, limit_fits}
use Rattle.setup.proofs.bounds.check_fading.Goals as goal

pub returns-in_err-single : goal.returns-in_err-single
returns-in_err-single c =
    let z = ap (λ (w : ℕ). eqb w 0) c.word_at.ensures in
    let q : c.from_residual.result ≡ Err c.in_err-single.field-0.0 = search rules in
    ap told q ∙ first-stops _ _ (single-by 22 1 z c.single.ensures) c.in_err-single.was

pub returns-in_err-single-2 : goal.returns-in_err-single-2
returns-in_err-single-2 c =
    let z = ap (λ (w : ℕ). eqb w 0) c.word_at.ensures in
    let f = c.factor_fits-factor.ensures ∙ ap factor_fits c.double_at.ensures in
    let q : c.from_residual-in_err-single-2.result ≡ Err c.in_err-single-2.field-0.0 = search rules in
    ap told q
    ∙ first-goes _ _ (single-by 22 1 z c.single.ensures) c.in_ok-single.was
    (first-stops _ _ (single-by 22 2 f c.single-2.ensures) c.in_err-single-2.was)

pub returns : goal.returns
returns c =
    let z = ap (λ (w : ℕ). eqb w 0) c.word_at.ensures in
    let f = c.factor_fits-factor.ensures ∙ ap factor_fits c.double_at.ensures in
    let l = c.limit_fits-limit.ensures ∙ ap limit_fits c.double_at-2.ensures in
    first-goes _ _ (single-by 22 1 z c.single.ensures) c.in_ok-single.was
    (first-goes _ _ (single-by 22 2 f c.single-2.ensures) c.in_ok-single-2.was (first-last _ (single-by 22 4 l c.single-3.ensures)))
