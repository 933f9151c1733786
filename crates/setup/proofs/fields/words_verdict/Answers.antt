-- The words are written, and checked.
use Rattle.std.proofs.Common.{ℕ, List, length, sym, ap, ◌∙◌, arith}
use Rattle.words.specs.Word.{word_at}
use Rattle.setup.specs.Layout.{front_words}
use Rattle.setup.specs.Setup.{fades_in}
use Rattle.setup.specs.Check.{check_words}
use Rattle.setup.proofs.SetupWords.{room-pass, written-length, written-fades}
use Rattle.setup.proofs.fields.words_verdict.Goals as goal

pub check_words-requires : goal.check_words-requires
check_words-requires c =
    let e = c.write_words.ensures in
    let l = ap length e ∙ written-length c.args.setup in
    let f = ap front_words c.fades.ensures in
    ((room-pass _ c.requires.0).most, omega (arith, l), c.fades.ensures ∙ sym (written-fades c.args.setup) ∙ ap (λ (x : List ℕ). fades_in (word_at x)) (sym e))

pub returns : goal.returns
returns c =
    let n = c.args.setup.n in
    c.check_words.ensures ∙ ap (λ (x : List ℕ). check_words x n) c.write_words.ensures
