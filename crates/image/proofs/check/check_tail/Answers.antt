-- The sections, the accounts, the change and the views in their turn: where one refuses, its answer is the whole answer.
use Rattle.std.proofs.Common.{◌≡◌, Err, ap, ◌∙◌, rules}
use Rattle.words.specs.Word.{word_at}
use Rattle.words.specs.Refusal.{told}
use Rattle.image.proofs.SectionLaws.{tail-sections, tail-accounts, tail-change, tail-views}
use Rattle.image.proofs.check.check_tail.Goals as goal

pub returns-in_err-check_sections : goal.returns-in_err-check_sections
returns-in_err-check_sections c =
    let q : c.from_residual.result ≡ Err c.in_err-check_sections.field-0.0 = search rules in
    ap told q
    ∙ tail-sections c.args.fades (word_at c.args.s.now) c.args.n c.front_words-front.ensures.0 c.check_sections.ensures c.in_err-check_sections.was

pub returns-in_err-check_accounts : goal.returns-in_err-check_accounts
returns-in_err-check_accounts c =
    let q : c.from_residual-in_err-check_accounts.result ≡ Err c.in_err-check_accounts.field-0.0 = search rules in
    ap told q
    ∙ tail-accounts c.args.fades (word_at c.args.s.now) c.args.n c.front_words-front.ensures.0 c.check_sections.ensures c.in_ok-check_sections.was
    c.check_accounts.ensures c.in_err-check_accounts.was

pub returns-in_err-check_change : goal.returns-in_err-check_change
returns-in_err-check_change c =
    let q : c.from_residual-in_err-check_change.result ≡ Err c.in_err-check_change.field-0.0 = search rules in
    ap told q
    ∙ tail-change c.args.fades (word_at c.args.s.now) c.args.n c.front_words-front.ensures.0 c.check_sections.ensures c.in_ok-check_sections.was
    c.check_accounts.ensures c.in_ok-check_accounts.was
    c.left_at.ensures c.check_change.ensures c.in_err-check_change.was

pub returns : goal.returns
returns c =
    tail-views c.args.fades (word_at c.args.s.now) c.args.n c.front_words-front.ensures.0 c.check_sections.ensures c.in_ok-check_sections.was
    c.check_accounts.ensures c.in_ok-check_accounts.was
    c.left_at.ensures c.check_change.ensures c.in_ok-check_change.was c.check_any_views.ensures
