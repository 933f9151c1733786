-- The rounds left, then the new words, of which there are none where nothing is left.
use Rattle.std.proofs.Common.{rules, arith, ◌≡◌, Err, ap, ◌∙◌, ℕ, ◌+◌}
use Rattle.words.specs.Word.{word_at}
use Rattle.words.specs.Verdict.{outcome, each}
use Rattle.words.specs.Refusal.{told}
use Rattle.words.proofs.RefusalLaws.{first-stops, first-goes, first-last, single-by}
use Rattle.changes.specs.Words.{new_count, left_ok, new_test}
use Rattle.changes.proofs.SectionTests.{new-most}
use Rattle.changes.proofs.section.check_change.Goals as goal

pub returns-in_err-single : goal.returns-in_err-single
returns-in_err-single c =
    let a = c.args in
    let q : c.from_residual.result ≡ Err c.in_err-single.field-0.0 = search rules in
    ap told q ∙ first-stops _ _ (single-by 8 a.at (c.left_ok.ensures ∙ ap (left_ok a.fades) c.word_at-left.ensures) c.single.ensures) c.in_err-single.was

pub check_new-requires : goal.check_new-requires
check_new-requires c =
    let e = c.new_count.ensures ∙ ap (new_count c.args.n) c.word_at-left.ensures in
    (omega (arith, c.requires.0, e, new-most c.args.n (word_at c.args.s.now c.args.at)), c.requires.1, omega (arith, c.requires.2, e))

pub returns : goal.returns
returns c =
    let a = c.args in
    let w = word_at a.s.now in
    let e = c.new_count.ensures ∙ ap (new_count a.n) c.word_at-left.ensures in
    first-goes _ _ (single-by 8 a.at (c.left_ok.ensures ∙ ap (left_ok a.fades) c.word_at-left.ensures) c.single.ensures) c.in_ok-single.was
    (first-last _ (c.check_new.ensures ∙ ap (λ (m : ℕ). outcome (each m (new_test w a.at) 8 (a.at + 1))) e))
