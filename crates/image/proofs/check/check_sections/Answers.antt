-- The sections in their turn: where one refuses, its answer is the whole answer.
use Rattle.std.proofs.Common.{◌≡◌, Err, ap, ◌∙◌, rules}
use Rattle.words.specs.Word.{word_at}
use Rattle.words.specs.Refusal.{told}
use Rattle.image.proofs.SectionLaws.{sections-own, sections-rows, sections-latest, sections-earlier}
use Rattle.image.proofs.check.check_sections.Goals as goal

pub returns-in_err-check_own : goal.returns-in_err-check_own
returns-in_err-check_own c =
    let q : c.from_residual.result ≡ Err c.in_err-check_own.field-0.0 = search rules in
    ap told q
    ∙ sections-own (word_at c.args.s.now) c.args.front c.args.n c.check_own.ensures c.in_err-check_own.was

pub returns-in_err-check_rows : goal.returns-in_err-check_rows
returns-in_err-check_rows c =
    let q : c.from_residual-in_err-check_rows.result ≡ Err c.in_err-check_rows.field-0.0 = search rules in
    ap told q
    ∙ sections-rows (word_at c.args.s.now) c.args.front c.args.n c.check_own.ensures c.in_ok-check_own.was
    c.check_rows.ensures c.in_err-check_rows.was

pub returns-in_err-check_syndrome : goal.returns-in_err-check_syndrome
returns-in_err-check_syndrome c =
    let q : c.from_residual-in_err-check_syndrome.result ≡ Err c.in_err-check_syndrome.field-0.0 = search rules in
    ap told q
    ∙ sections-latest (word_at c.args.s.now) c.args.front c.args.n c.check_own.ensures c.in_ok-check_own.was
    c.check_rows.ensures c.in_ok-check_rows.was
    c.latest_at.ensures c.check_syndrome.ensures c.in_err-check_syndrome.was

pub returns : goal.returns
returns c =
    sections-earlier (word_at c.args.s.now) c.args.front c.args.n c.check_own.ensures c.in_ok-check_own.was
    c.check_rows.ensures c.in_ok-check_rows.was
    c.latest_at.ensures c.check_syndrome.ensures c.in_ok-check_syndrome.was c.earlier_at.ensures c.check_syndrome-2.ensures
