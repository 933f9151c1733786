-- The answer for the struct, then the length; the bytes are written only where both accept.
use Rattle.std.proofs.Common.{◌≡◌, Err, ap, ◌∙◌, arith, rules}
use Rattle.words.specs.Refusal.{told}
use Rattle.words.proofs.RefusalLaws.{told-none, told-err, told-on, single-by, single-right}
use Rattle.presence.proofs.StateAnswers.{verdict-valid, save-refused, save-short, save-done, room-by, room-length}
use Rattle.presence.proofs.SmallLaws.{valid-setup, valid-roomy, valid-size}
use Rattle.presence.proofs.State.save.Goals as goal

pub returns-in_err-verdict : goal.returns-in_err-verdict
returns-in_err-verdict c =
    let q : c.from_residual.result ≡ Err c.in_err-verdict.field-0.0 = search rules in
    let r = save-refused _ c.args.out.now c.verdict.ensures (told-err c.in_err-verdict.was) in
    (ap told q ∙ told-on c.in_err-verdict.was ∙ r.0, r.1)

pub length-requires : goal.length-requires
length-requires c = valid-size _ (verdict-valid _ c.verdict.ensures (told-none c.in_ok-verdict.was))

pub returns-in_err-single : goal.returns-in_err-single
returns-in_err-single c =
    let q : c.from_residual-in_err-single.result ≡ Err c.in_err-single.field-0.0 = search rules in
    let h = single-by 9 0 (room-by c.args.self c.args.out.now c.length.ensures) c.single.ensures in
    let r = save-short _ c.args.out.now c.verdict.ensures h (told-none c.in_ok-verdict.was) (told-err c.in_err-single.was) in
    (ap told q ∙ told-on c.in_err-single.was ∙ r.0, r.1)

pub save_words-requires : goal.save_words-requires
save_words-requires c =
    let v = verdict-valid _ c.verdict.ensures (told-none c.in_ok-verdict.was) in
    let t = single-right 9 0 (omega arith) (single-by 9 0 (room-by c.args.self c.args.out.now c.length.ensures) c.single.ensures) c.in_ok-single.was in
    (valid-setup _ v, valid-roomy _ v, room-length c.args.self c.args.out.now t)

pub returns : goal.returns
returns c =
    let t = single-right 9 0 (omega arith) (single-by 9 0 (room-by c.args.self c.args.out.now c.length.ensures) c.single.ensures) c.in_ok-single.was in
    save-done _ c.args.out.now c.verdict.ensures c.save_words.ensures (told-none c.in_ok-verdict.was) t
