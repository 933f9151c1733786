-- The answer for the struct, then the length; the bytes are written only where both accept.
use Rattle.std.proofs.Common.{◌≡◌, ℕ, Err, eqb, eqb-true, length, refl, ap, ◌∙◌, arith, rules}
use Rattle.words.specs.Refusal.{told}
use Rattle.words.proofs.RefusalLaws.{told-none, told-err, told-on, single-by, single-right}
use Rattle.setup.proofs.SetupLaws.{verdict-room}
use Rattle.setup.proofs.SetupAnswerLaws.{struct-length, struct-fits, struct-verdict, write-refused, write-short, write_done}
use Rattle.setup.proofs.write.write.Goals as goal

pub returns-in_err-verdict : goal.returns-in_err-verdict
returns-in_err-verdict c =
    let q : c.from_residual.result ≡ Err c.in_err-verdict.field-0.0 = search rules in
    let r = write-refused _ c.args.out.now c.verdict.ensures (told-err c.in_err-verdict.was) in
    (ap told q ∙ told-on c.in_err-verdict.was ∙ r.0, r.1)

pub setup_length-requires : goal.setup_length-requires
setup_length-requires c =
    let f = struct-fits _ c.verdict.ensures (told-none c.in_ok-verdict.was) in
    let w = c.front_words.ensures.2 in
    omega (arith, f.most)

pub returns-in_err-single : goal.returns-in_err-single
returns-in_err-single c =
    let l = struct-length c.args.setup c.fades.ensures c.front_words.ensures.0 c.setup_length.ensures in
    let h = single-by 9 0 (ap (λ (k : ℕ). eqb (length c.args.out.now) k) l) c.single.ensures in
    let q : c.from_residual-in_err-single.result ≡ Err c.in_err-single.field-0.0 = search rules in
    let r = write-short _ c.args.out.now c.verdict.ensures h (told-none c.in_ok-verdict.was) (told-err c.in_err-single.was) in
    (ap told q ∙ told-on c.in_err-single.was ∙ r.0, r.1)

pub write_words-requires : goal.write_words-requires
write_words-requires c =
    let l = struct-length c.args.setup c.fades.ensures c.front_words.ensures.0 c.setup_length.ensures in
    let k : length c.args.out.now ≡ c.setup_length.result = eqb-true _ _ (single-right 9 0 (omega arith) c.single.ensures c.in_ok-single.was) in
    (verdict-room _ (struct-verdict _ c.verdict.ensures (told-none c.in_ok-verdict.was)), k ∙ l)

pub returns : goal.returns
returns c =
    let l = struct-length c.args.setup c.fades.ensures c.front_words.ensures.0 c.setup_length.ensures in
    let k : length c.args.out.now ≡ c.setup_length.result = eqb-true _ _ (single-right 9 0 (omega arith) c.single.ensures c.in_ok-single.was) in
    write_done _ _ c.verdict.ensures refl c.write_words.ensures (told-none c.in_ok-verdict.was) (k ∙ l)
