-- The number is tested first, then the rest of the word.
use Rattle.std.proofs.Common.{◌≡◌, Err, ap, ◌∙◌, rules}
use Rattle.words.specs.Word.{word_at}
use Rattle.words.specs.Refusal.{told}
use Rattle.words.proofs.RefusalLaws.{first-stops, first-goes, first-last}
use Rattle.image.specs.Words.{own_number_ok, own_ok}
use Rattle.image.proofs.SectionLaws.{word-tested}
use Rattle.image.proofs.check.check_own.Goals as goal

pub returns-in_err-single : goal.returns-in_err-single
returns-in_err-single c =
    let w = c.word_at-w.ensures ∙ ap (word_at _) c.own_at-at.ensures in
    let q : c.from_residual.result ≡ Err c.in_err-single.field-0.0 = search rules in
    ap told q ∙ first-stops _ _ (word-tested 7 (c.own_number_ok.ensures ∙ ap (own_number_ok _) w) c.own_at-at.ensures c.single.ensures) c.in_err-single.was

pub returns : goal.returns
returns c =
    let w = c.word_at-w.ensures ∙ ap (word_at _) c.own_at-at.ensures in
    first-goes _ _ (word-tested 7 (c.own_number_ok.ensures ∙ ap (own_number_ok _) w) c.own_at-at.ensures c.single.ensures) c.in_ok-single.was
    (first-last _ (word-tested 8 (c.own_ok.ensures ∙ ap (own_ok _) w) c.own_at-at.ensures c.single-2.ensures))
