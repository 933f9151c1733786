-- The view words, then the others one by one.
use Rattle.std.proofs.Common.{rules, ◌≡◌, Err, ap, ◌∙◌}
use Rattle.words.specs.Word.{word_at}
use Rattle.words.specs.Refusal.{told}
use Rattle.views.proofs.ViewTestLaws.{words-stop, latest-stops, earlier-stops, adopted-stops, views-told}
use Rattle.views.proofs.section.check_views.Goals as goal

pub returns-in_err-check_view_words : goal.returns-in_err-check_view_words
returns-in_err-check_view_words c =
    let a = c.args in
    let q : c.from_residual.result ≡ Err c.in_err-check_view_words.field-0.0 = search rules in
    ap told q ∙ words-stop (word_at a.s.now) a.n a.view a.at c.check_view_words.ensures c.in_err-check_view_words.was

pub returns-in_err-single : goal.returns-in_err-single
returns-in_err-single c =
    let a = c.args in
    let q : c.from_residual-in_err-single.result ≡ Err c.in_err-single.field-0.0 = search rules in
    ap told q ∙ latest-stops (word_at a.s.now) a.n a.view a.at c.check_view_words.ensures c.in_ok-check_view_words.was c.word_at.ensures c.single.ensures c.in_err-single.was

pub returns-in_err-single-2 : goal.returns-in_err-single-2
returns-in_err-single-2 c =
    let a = c.args in
    let q : c.from_residual-in_err-single-2.result ≡ Err c.in_err-single-2.field-0.0 = search rules in
    ap told q ∙ earlier-stops (word_at a.s.now) a.n a.view a.at c.check_view_words.ensures c.in_ok-check_view_words.was c.word_at.ensures c.single.ensures c.in_ok-single.was
    c.power-size.ensures c.word_at-2.ensures c.single-2.ensures c.in_err-single-2.was

pub returns-in_err-single-3 : goal.returns-in_err-single-3
returns-in_err-single-3 c =
    let a = c.args in
    let q : c.from_residual-in_err-single-3.result ≡ Err c.in_err-single-3.field-0.0 = search rules in
    ap told q ∙ adopted-stops (word_at a.s.now) a.n a.view a.at c.check_view_words.ensures c.in_ok-check_view_words.was c.word_at.ensures c.single.ensures c.in_ok-single.was
    c.power-size.ensures c.word_at-2.ensures c.single-2.ensures c.in_ok-single-2.was c.word_at-3.ensures c.single-3.ensures c.in_err-single-3.was

pub returns : goal.returns
returns c =
    let a = c.args in
    views-told (word_at a.s.now) a.n a.view a.at c.check_view_words.ensures c.in_ok-check_view_words.was c.word_at.ensures c.single.ensures c.in_ok-single.was
    c.power-size.ensures c.word_at-2.ensures c.single-2.ensures c.in_ok-single-2.was c.word_at-3.ensures c.single-3.ensures c.in_ok-single-3.was
    c.word_at-4.ensures c.single-4.ensures
