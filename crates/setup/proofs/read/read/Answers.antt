-- The answer of the check, with the setup where it accepts and the blank one where it refuses.
use Rattle.std.proofs.Common.{◌≡◌, Err, ap, ◌∙◌, arith, rules}
use Rattle.words.proofs.RefusalLaws.{told-none}
use Rattle.setup.specs.Check.{read_told}
use Rattle.setup.specs.Layout.{front_words}
use Rattle.setup.proofs.SetupAnswerLaws.{read-refused, read-accepted, bytes_fit}
use Rattle.setup.proofs.read.read.Goals as goal

pub returns-in_err-check : goal.returns-in_err-check
returns-in_err-check c =
    let q : c.from_residual.result ≡ Err c.in_err-check.field-0.0 = search rules in
    ap read_told q ∙ read-refused _ c.check.ensures c.in_err-check.was

pub fades_at-requires : goal.fades_at-requires
fades_at-requires c = (bytes_fit _ c.check.ensures (told-none c.in_ok-check.was)).front.whole

pub size_at-requires : goal.size_at-requires
size_at-requires c = (bytes_fit _ c.check.ensures (told-none c.in_ok-check.was)).front.room

pub load_setup-part-requires : goal.load_setup-part-requires
load_setup-part-requires c =
    let f = bytes_fit _ c.check.ensures (told-none c.in_ok-check.was) in
    let e = c.size_at.ensures in
    let form = c.fades_at.ensures in
    let w = ap front_words form in
    (omega (arith, f.front.most), omega (arith, f.size), e, form)

pub returns : goal.returns
returns c =
    read-accepted _ c.check.ensures c.in_ok-check.was c.load_setup-part.ensures.1
