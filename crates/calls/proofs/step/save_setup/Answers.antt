-- The words of an accepted image are in their one form, so that copies of them are what is written.
use native.Mathlib.Omega.{arith}
use Rattle.calls.proofs.ModuleCallLaws.{from_first}
use Rattle.calls.proofs.ImageTurnLaws.{sizes, setup-room, new-room, three-front, own-copied, new-copied}
use Rattle.calls.proofs.step.save_setup.Goals as goal

pub copy_run-requires : goal.copy_run-requires
copy_run-requires c =
    let a = c.requires in
    let room = setup-room _ a.0 a.1 a.2 in
    (omega arith, omega arith)

pub left_at-requires : goal.left_at-requires
left_at-requires c =
    let a = c.requires in
    sizes _ a.0 a.1 a.2

pub copy_run-requires-then-left-eq1 : goal.copy_run-requires-then-left-eq1
copy_run-requires-then-left-eq1 c =
    let a = c.requires in
    let due = c.if-left-eq1.true in
    let room = new-room _ a.0 a.1 a.2 a.3 c.left_at.ensures (λ z. omega arith) in
    let three = three-front _ a.0 a.2 a.3 due in
    (omega arith, omega (arith, c.copy_run.auto.out, a.4))

pub returns-then-left-eq1 : goal.returns-then-left-eq1
returns-then-left-eq1 c =
    let a = c.requires in
    new-copied _ a.0 (λ i. omega (arith, c.shared_slice_known-1.given i)) _ a.1 a.2 a.3 c.if-left-eq1.true a.4 c.left_at.ensures (from_first _ _ _ c.copy_run.ensures) c.copy_run-then-left-eq1.ensures

pub setup_words-requires : goal.setup_words-requires
setup_words-requires c =
    let a = c.requires in
    let k = sizes _ a.0 a.1 a.2 in
    (k.0, omega (arith, k.1))

pub copy_run-requires-2 : goal.copy_run-requires-2
copy_run-requires-2 c =
    let a = c.requires in
    let room = setup-room _ a.0 a.1 a.2 in
    let e = c.setup_words.ensures in
    (omega arith, omega arith)

pub returns : goal.returns
returns c =
    let a = c.requires in
    own-copied _ a.0 (λ i. omega (arith, c.shared_slice_known-1.given i)) _ a.1 a.2 a.3 c.if-left-eq1.false a.4 c.setup_words.ensures (from_first _ _ _ c.copy_run-2.ensures)
