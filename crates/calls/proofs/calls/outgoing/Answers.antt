-- An accepted image tells its word; another is refused by its number.
use Rattle.std.proofs.Common.{◌≡◌, Err, sym, ap, ◌∙◌, rules}
use Rattle.words.specs.Verdict.{Verdict}
use Rattle.words.proofs.RefusalLaws.{told-none, told-err, told-on}
use Rattle.calls.proofs.AnswerLaws.{word-by}
use Rattle.calls.proofs.ModuleCallLaws.{outgoing-refused, outgoing-made}
use Rattle.calls.proofs.calls.outgoing.Goals as goal

pub returns-in_err-check_image : goal.returns-in_err-check_image
returns-in_err-check_image c =
    let q : c.from_residual.result ≡ Err c.in_err-check_image.field-0.0 = search rules in
    outgoing-refused _ c.check_image.ensures (told-err c.in_err-check_image.was) (word-by (told-on c.in_err-check_image.was) q)

pub word_in-requires : goal.word_in-requires
word_in-requires c = ap (λ (v : Verdict). v.number) (sym c.check_image.ensures) ∙ told-none c.in_ok-check_image.was

pub returns : goal.returns
returns c = outgoing-made _ c.check_image.ensures (told-none c.in_ok-check_image.was) c.word_in.ensures
