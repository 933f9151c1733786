-- A pattern below that of infinity, by its high half alone.
use Rattle.std.proofs.Common.{◌≡◌, ℕ, ◌+◌, ◌*◌, ◌^◌, ◌<◌, ◌≤◌, true, false, ◌∙◌, arith}
use borrow.Author.Tests.{lt-ltb, le-ltb}
use Rattle.doubles.specs.Double.{of_words, non_negative}
use Rattle.doubles.proofs.DoubleLaws.{non-negative-bits}
use Rattle.image.specs.Scores.{score_fits}
use Rattle.image.proofs.scores.words_fit.Goals as goal

number-by-high : (high low : ℕ) → low < 2 ^ 32 → high < 0x7ff00000 → non_negative (of_words high low) ≡ true
unfolding of_words
number-by-high high low l h = non-negative-bits (high * 2 ^ 32 + low) ∙ lt-ltb _ _ (omega arith)

no-number-by-high : (high low : ℕ) → 0x7ff00000 ≤ high → non_negative (of_words high low) ≡ false
unfolding of_words
no-number-by-high high low h = non-negative-bits (high * 2 ^ 32 + low) ∙ le-ltb _ _ (omega arith)

pub returns-then-high-lt2146435072 : goal.returns-then-high-lt2146435072
unfolding score_fits
returns-then-high-lt2146435072 c =
    let a = c.args in
    rw (c.of_words.ensures, number-by-high a.high a.low (omega arith) c.if-high-lt2146435072.true)

pub returns : goal.returns
unfolding score_fits
returns c = rw (no-number-by-high c.args.high c.args.low c.if-high-lt2146435072.false)
