-- Four words, each of four codes.
use Rattle.std.proofs.Common.{◌≡◌, ℕ, List, get_or, ◌+◌, ◌*◌, refl, ◌∙◌, arith}
use Rattle.words.specs.Runs.{put_run}
use Rattle.words.proofs.RunLaws.{put_step}
use Rattle.page.specs.Page.{four_codes, cause_word, put_causes}
use Rattle.page.proofs.registers.put_causes.Goals as goal

-- word i from its four codes, wherever their places come from
made : (causes : List ℕ) (i : ℕ) {w a b c d : ℕ} → w ≡ four_codes (get_or causes a 0) (get_or causes b 0) (get_or causes c 0) (get_or causes d 0)
    → a ≡ 4 * i → b ≡ 4 * i + 1 → c ≡ 4 * i + 2 → d ≡ 4 * i + 3 → w ≡ cause_word causes i
unfolding cause_word
made causes i e p q r s = rw (p, q, r, s) at e

pub loop-i-init : goal.loop-i-init
unfolding put_run
loop-i-init c = (omega arith, refl, refl)

pub loop-i-preserved : goal.loop-i-preserved
loop-i-preserved c =
    let l = c.loop-i in
    let e = made c.args.causes l.i c.cause_word-w.ensures (omega arith) (omega arith) (omega arith) (omega arith) in
    (omega arith, c.put_word.auto.s ∙ l.invariant.1, put_step c.args.page.now 4 l.i (cause_word c.args.causes) l.invariant.2 c.put_word.ensures e)

pub returns : goal.returns
unfolding put_run put_causes
returns c =
    let e : c.loop-i.i ≡ 4 = omega arith in
    rw e at c.loop-i.invariant.2
