-- The image, the new setup, the frame, the lead, the room, each in its turn; then the words are written.
use Rattle.std.proofs.Common.{◌≡◌, Err, refl, arith, rules}
use Rattle.words.proofs.RefusalLaws.{told-none, told-err, told-on, single-right}
use Rattle.calls.proofs.AnswerLaws.{wrong, done-by}
use Rattle.calls.proofs.FrameWordLaws.{held}
use Rattle.calls.proofs.ModuleCallLaws.{parted-by}
use Rattle.calls.proofs.ChangeCallLaws.{change-bad-image, image-is, change-bad-setup, change-other-frame, same-is, some-rounds, none-pending, change-long, change-no-lead, change-no-room, change-done, left-room, left_word, setup-of, size_of}
use Rattle.calls.proofs.calls.change.Goals as goal

pub returns-in_err-check_image : goal.returns-in_err-check_image
returns-in_err-check_image c =
    let q : c.from_residual.result ≡ Err c.in_err-check_image.field-0.0 = search rules in
    change-bad-image _ _ _ _ c.check_image.ensures (told-err c.in_err-check_image.was) (done-by (told-on c.in_err-check_image.was) q)

pub returns-in_err-check : goal.returns-in_err-check
returns-in_err-check c =
    let q : c.from_residual-in_err-check.result ≡ Err c.in_err-check.field-0.0 = search rules in
    change-bad-setup _ _ _ _ c.check_image.ensures (told-none c.in_ok-check_image.was) c.check.ensures (told-err c.in_err-check.was) (done-by (told-on c.in_err-check.was) q)

pub same_frame-requires : goal.same_frame-requires
same_frame-requires c =
    (image-is _ _ c.args.lead c.args.out.now c.check_image.ensures (told-none c.in_ok-check_image.was) c.check.ensures, setup-of _ c.check.ensures (told-none c.in_ok-check.was))

pub returns-in_err-single : goal.returns-in_err-single
returns-in_err-single c =
    let q : c.from_residual-in_err-single.result ≡ Err c.in_err-single.field-0.0 = search rules in
    let w = wrong 23 0 c.single.ensures c.in_err-single.was in
    change-other-frame _ _ _ _ c.check_image.ensures (told-none c.in_ok-check_image.was) c.check.ensures (told-none c.in_ok-check.was) c.same_frame.ensures w.0 (done-by w.1 q)

pub size_at-n-requires : goal.size_at-n-requires
size_at-n-requires c =
    let ok = image-is c.args.image.now c.args.bytes.now c.args.lead c.args.out.now c.check_image.ensures (told-none c.in_ok-check_image.was) c.check.ensures in
    (held _ c.args.bytes.now ok (setup-of _ c.check.ensures (told-none c.in_ok-check.was))).front.room

pub left_at-requires : goal.left_at-requires
left_at-requires c =
    let ok = image-is c.args.image.now c.args.bytes.now c.args.lead c.args.out.now c.check_image.ensures (told-none c.in_ok-check_image.was) c.check.ensures in
    let few = (held _ c.args.bytes.now ok (setup-of _ c.check.ensures (told-none c.in_ok-check.was))).front.most in
    let e = c.size_at-n.ensures in
    (omega arith, omega (arith, e, few))

pub word_at-left-requires : goal.word_at-left-requires
word_at-left-requires c =
    left-room _ _ c.args.lead c.args.out.now c.check_image.ensures (told-none c.in_ok-check_image.was) c.check.ensures (told-none c.in_ok-check.was) c.same_frame.ensures (single-right 23 0 (omega arith) c.single.ensures c.in_ok-single.was) c.size_at-n.ensures c.left_at.ensures

pub returns-in_err-single-2 : goal.returns-in_err-single-2
returns-in_err-single-2 c =
    let q : c.from_residual-in_err-single-2.result ≡ Err c.in_err-single-2.field-0.0 = search rules in
    let w = wrong 24 0 c.single-2.ensures c.in_err-single-2.was in
    change-no-lead _ _ _ _ c.check_image.ensures (told-none c.in_ok-check_image.was) c.check.ensures (told-none c.in_ok-check.was) c.same_frame.ensures (single-right 23 0 (omega arith) c.single.ensures c.in_ok-single.was) c.size_at-n.ensures (left_word _ _ c.left_at.ensures c.word_at-left.ensures) w.0 (done-by w.1 q)

pub word_at-requires : goal.word_at-requires
word_at-requires c =
    let ok = image-is c.args.image.now c.args.bytes.now c.args.lead c.args.out.now c.check_image.ensures (told-none c.in_ok-check_image.was) c.check.ensures in
    omega (arith, (held _ c.args.bytes.now ok (setup-of _ c.check.ensures (told-none c.in_ok-check.was))).front.room)

pub image_length-requires : goal.image_length-requires
image_length-requires c =
    let ok = image-is c.args.image.now c.args.bytes.now c.args.lead c.args.out.now c.check_image.ensures (told-none c.in_ok-check_image.was) c.check.ensures in
    let few = (held _ c.args.bytes.now ok (setup-of _ c.check.ensures (told-none c.in_ok-check.was))).front.most in
    let e = c.size_at-n.ensures in
    (omega arith, omega (arith, e, few))

pub returns-in_err-single-3 : goal.returns-in_err-single-3
returns-in_err-single-3 c =
    let q : c.from_residual-in_err-single-3.result ≡ Err c.in_err-single-3.field-0.0 = search rules in
    let w = wrong 9 0 c.single-3.ensures c.in_err-single-3.was in
    change-no-room _ _ _ _ c.check_image.ensures (told-none c.in_ok-check_image.was) c.check.ensures (told-none c.in_ok-check.was) c.same_frame.ensures (single-right 23 0 (omega arith) c.single.ensures c.in_ok-single.was) c.size_at-n.ensures (left_word _ _ c.left_at.ensures c.word_at-left.ensures) (single-right 24 0 (omega arith) c.single-2.ensures c.in_ok-single-2.was) (parted-by _ c.word_at.ensures c.bit_at.ensures) c.image_length.ensures w.0 (done-by w.1 q)

pub save_changed-requires : goal.save_changed-requires
save_changed-requires c =
    let ok = image-is c.args.image.now c.args.bytes.now c.args.lead c.args.out.now c.check_image.ensures (told-none c.in_ok-check_image.was) c.check.ensures in
    let good = setup-of _ c.check.ensures (told-none c.in_ok-check.was) in
    let same = same-is _ _ c.args.lead c.args.out.now c.check_image.ensures (told-none c.in_ok-check_image.was) c.check.ensures (told-none c.in_ok-check.was) c.same_frame.ensures (single-right 23 0 (omega arith) c.single.ensures c.in_ok-single.was) c.size_at-n.ensures (left_word _ _ c.left_at.ensures c.word_at-left.ensures) in
    let some = some-rounds _ _ _ c.args.out.now c.check_image.ensures (told-none c.in_ok-check_image.was) c.check.ensures (told-none c.in_ok-check.was) c.same_frame.ensures (single-right 23 0 (omega arith) c.single.ensures c.in_ok-single.was) c.size_at-n.ensures (left_word _ _ c.left_at.ensures c.word_at-left.ensures) (single-right 24 0 (omega arith) c.single-2.ensures c.in_ok-single-2.was) in
    let none = none-pending _ _ c.args.lead c.args.out.now c.check_image.ensures (told-none c.in_ok-check_image.was) c.check.ensures (told-none c.in_ok-check.was) c.same_frame.ensures (single-right 23 0 (omega arith) c.single.ensures c.in_ok-single.was) c.size_at-n.ensures (left_word _ _ c.left_at.ensures c.word_at-left.ensures) (single-right 24 0 (omega arith) c.single-2.ensures c.in_ok-single-2.was) in
    let long = change-long _ _ c.args.lead c.args.out.now c.check_image.ensures (told-none c.in_ok-check_image.was) c.check.ensures (told-none c.in_ok-check.was) c.same_frame.ensures (single-right 23 0 (omega arith) c.single.ensures c.in_ok-single.was) c.size_at-n.ensures (left_word _ _ c.left_at.ensures c.word_at-left.ensures) (single-right 24 0 (omega arith) c.single-2.ensures c.in_ok-single-2.was) (parted-by _ c.word_at.ensures c.bit_at.ensures) c.image_length.ensures (single-right 9 0 (omega arith) c.single-3.ensures c.in_ok-single-3.was) in
    record { image_value = (ok, good, size_of _ c.size_at-n.ensures, same, some, none, long); by_index = (λ i. omega (arith, c.shared_slice_known-1.given i), λ i. omega (arith, c.shared_slice_known-2-1.given i)) }

pub returns : goal.returns
returns c =
    change-done _ _ _ c.args.out.now c.check_image.ensures (told-none c.in_ok-check_image.was) c.check.ensures (told-none c.in_ok-check.was) c.same_frame.ensures (single-right 23 0 (omega arith) c.single.ensures c.in_ok-single.was) c.size_at-n.ensures (left_word _ _ c.left_at.ensures c.word_at-left.ensures) (single-right 24 0 (omega arith) c.single-2.ensures c.in_ok-single-2.was) (parted-by _ c.word_at.ensures c.bit_at.ensures) c.image_length.ensures (single-right 9 0 (omega arith) c.single-3.ensures c.in_ok-single-3.was) refl c.save_changed.ensures
