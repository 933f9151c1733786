-- The limits, then the module words by one number and by the other, each after the answer of those before.
use Rattle.std.proofs.Common.{◌≡◌, Err, ap, ◌∙◌, rules}
use Rattle.words.specs.Refusal.{told}
use Rattle.setup.proofs.SetupAnswerLaws.{words-limits, words-modules, words-marks}
use Rattle.setup.proofs.check.check_words.Goals as goal

pub returns-in_err-check_limits : goal.returns-in_err-check_limits
returns-in_err-check_limits c =
    let q : c.from_residual.result ≡ Err c.in_err-check_limits.field-0.0 = search rules in
    ap told q ∙ words-limits _ c.requires.2 c.front_words-front.ensures.0 _ c.check_limits.ensures c.in_err-check_limits.was

pub returns-in_err-check_modules : goal.returns-in_err-check_modules
returns-in_err-check_modules c =
    let q : c.from_residual-in_err-check_modules.result ≡ Err c.in_err-check_modules.field-0.0 = search rules in
    ap told q
    ∙ words-modules _ c.requires.2 c.front_words-front.ensures.0 _ c.check_limits.ensures c.in_ok-check_limits.was c.check_modules.ensures c.in_err-check_modules.was

pub returns : goal.returns
returns c =
    words-marks _ c.requires.2 c.front_words-front.ensures.0 _ c.check_limits.ensures c.in_ok-check_limits.was c.check_modules.ensures c.in_ok-check_modules.was c.check_marks.ensures
