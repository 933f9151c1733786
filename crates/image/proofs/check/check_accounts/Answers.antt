-- By the form of the setup, one section after the other.
use Rattle.std.proofs.Common.{◌≡◌, ℕ, Bool, Err, sym, ap, ◌∙◌, rules}
use Rattle.words.specs.Word.{word_at}
use Rattle.words.specs.Verdict.{Verdict, first_refusal}
use Rattle.words.specs.Refusal.{told}
use Rattle.words.proofs.RefusalLaws.{first-stops, first-goes, first-last}
use Rattle.image.specs.Counters.{counter_tests}
use Rattle.image.proofs.check.check_accounts.Goals as goal

by-form : {b form : Bool} {v : Verdict} (w : ℕ → ℕ) (n : ℕ) → b ≡ form → v ≡ first_refusal (counter_tests form w n) → v ≡ first_refusal (counter_tests b w n)
by-form w n t e = e ∙ ap (λ (x : Bool). first_refusal (counter_tests x w n)) (sym t)

pub returns-in_err-check_scores : goal.returns-in_err-check_scores
returns-in_err-check_scores c =
    let q : c.from_residual.result ≡ Err c.in_err-check_scores.field-0.0 = search rules in
    ap told q ∙ by-form (word_at c.args.s.now) c.args.n c.if-fades.true (first-stops _ _ c.check_scores.ensures c.in_err-check_scores.was)

pub returns-then-fades : goal.returns-then-fades
returns-then-fades c =
    by-form (word_at c.args.s.now) c.args.n c.if-fades.true (first-goes _ _ c.check_scores.ensures c.in_ok-check_scores.was (first-last _ c.check_returns.ensures))
