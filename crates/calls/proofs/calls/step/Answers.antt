-- An image that passes is read into lent arrays, a change that is due made on them, its round made, and the next image written.
use Rattle.std.proofs.Common.{◌≡◌, ℕ, ◌*◌, Bool, List, length, Err, ltb-true, ltb-false, refl, sym, ap, ◌∙◌, arith, rules}
use borrow.Author.Tests.{eqb-false, not-false}
use Rattle.words.specs.Word.{word_at}
use Rattle.words.proofs.ArrayLaws.{array-none}
use Rattle.words.proofs.RefusalLaws.{single-right}
use Rattle.setup.specs.Layout.{front_words}
use Rattle.setup.specs.Setup.{partitionable_in, fades_in, front_in}
use Rattle.views.proofs.ViewWordLaws.{words-most}
use Rattle.image.specs.Layout.{left_at, image_length}
use Rattle.image.specs.Check.{check_image}
use Rattle.image.proofs.ImageAnswers.{size-some, size-gone, size-refused, size_fits, size-return}
use Rattle.image.proofs.TailLaws.{image-pass}
use Rattle.calls.specs.Answers.{answer_of}
use Rattle.calls.proofs.AnswerLaws.{wrong, answer-by}
use Rattle.calls.proofs.ModuleCallLaws.{words-wrong, words_right_lem, parted-by, read-parted, read-form, read-long, after-long, state-size, step-bad}
use Rattle.calls.proofs.ImageStepLaws.{part_held, filled-counted, both-lengths, step-nine, step-ten, step-made}
use Rattle.calls.proofs.calls.step.Goals as goal

-- the length, by the form of the setup
by_form : {b : Bool} (s : List ℕ) (n : ℕ) → b ≡ fades_in (word_at s)
    → length s ≡ image_length (front_in (word_at s)) n (word_at s (left_at (front_in (word_at s)) n)) (partitionable_in (word_at s 0))
    → length s ≡ image_length (front_words b) n (word_at s (left_at (front_words b) n)) (partitionable_in (word_at s 0))
by_form s n e l = l ∙ ap (λ (x : Bool). image_length (front_words x) n (word_at s (left_at (front_words x) n)) (partitionable_in (word_at s 0))) (sym e)

pub refusal-requires : goal.refusal-requires
refusal-requires c =
    eqb-false (check_image c.args.image.now).number 0 (size-refused _ (size-gone _ c.in_default.ensures refl))

pub returns-in_default : goal.returns-in_default
returns-in_default c =
    let a = c.args in
    step-bad _ _ _ a.out.now (ap answer_of c.refusal.ensures) (size-refused _ (size-gone _ c.in_default.ensures refl))

pub fades_at-fades-requires : goal.fades_at-fades-requires
fades_at-fades-requires c = (size_fits _ (size-some _ c.in-Some.ensures refl).0 (size-some _ c.in-Some.ensures refl).1).3

pub load_image-part-requires : goal.load_image-part-requires
load_image-part-requires c =
    let (e, some) = size-some _ c.in-Some.ensures refl in
    let f = size_fits _ e some in
    let form = c.fades_at-fades.ensures in
    record { n_bound = (f.0, by_form _ c.in-Some.n form f.1, f.2, form, size-return _ e some); criticality_value = (array-none _, array-none _, array-none _, array-none _, array-none _) }

pub refusal-requires-then-not-part : goal.refusal-requires-then-not-part
refusal-requires-then-not-part c =
    let k = size-some _ c.in-Some.ensures refl in
    eqb-false (check_image c.args.image.now).number 0 (words-wrong _ k.0 k.1 c.load_image-part.ensures.0 c.if-not-part.true)

pub returns-then-not-part : goal.returns-then-not-part
returns-then-not-part c =
    let a = c.args in
    let k = size-some _ c.in-Some.ensures refl in
    step-bad _ _ _ a.out.now (ap answer_of c.refusal-then-not-part.ensures) (words-wrong _ k.0 k.1 c.load_image-part.ensures.0 c.if-not-part.true)

pub word_at-requires : goal.word_at-requires
word_at-requires c = omega (arith, (image-pass _ (words_right_lem _ (size-some _ c.in-Some.ensures refl).0 (size-some _ c.in-Some.ensures refl).1 c.load_image-part.ensures.0 c.if-not-part.false)).front.room)

pub image_length-long-requires : goal.image_length-long-requires
image_length-long-requires c =
    (c.front_words.ensures.2, (size_fits _ (size-some _ c.in-Some.ensures refl).0 (size-some _ c.in-Some.ensures refl).1).0)

pub read_words-requires : goal.read_words-requires
read_words-requires c = (size_fits _ (size-some _ c.in-Some.ensures refl).0 (size-some _ c.in-Some.ensures refl).1).0

pub overflow_mul-lent : goal.overflow_mul-lent
overflow_mul-lent c = omega (arith, (size_fits _ (size-some _ c.in-Some.ensures refl).0 (size-some _ c.in-Some.ensures refl).1).0, words-most c.bit_at-partitionable.result c.in-Some.n, c.read_words.ensures)

pub returns-in_err-single : goal.returns-in_err-single
returns-in_err-single c =
    let a = c.args in
    let (s, f) = size-some _ c.in-Some.ensures refl in
    let r = c.load_image-part.ensures in
    let good = c.if-not-part.false in
    let form = c.fades_at-fades.ensures in
    let z = size_fits _ s f in
    let o = words_right_lem _ s f r.0 good in
    let (h, k) = part_held _ (λ i. omega (arith, c.shared_slice_known-1.given i)) o z.2 form (r.1 (not-false _ good)) in
    let p = parted-by _ c.word_at.ensures c.bit_at-partitionable.ensures in
    let long = after-long _ form z.2 c.front_words.ensures.0 h.left c.left_after.ensures p c.image_length-long.ensures in
    let q : c.from_residual.result ≡ Err c.in_err-single.field-0.0 = search rules in
    let w = wrong 9 0 c.single.ensures c.in_err-single.was in
    step-nine _ o _ _ a.out.now (state-size _ s f refl) long (read-long _ (state-size _ s f refl) p c.read_words.ensures) w.0 (answer-by w.1 q)

pub power-requires : goal.power-requires
power-requires c =
    omega (arith, (size_fits _ (size-some _ c.in-Some.ensures refl).0 (size-some _ c.in-Some.ensures refl).1).0)

pub returns-in_err-single-2 : goal.returns-in_err-single-2
returns-in_err-single-2 c =
    let a = c.args in
    let (s, f) = size-some _ c.in-Some.ensures refl in
    let r = c.load_image-part.ensures in
    let good = c.if-not-part.false in
    let form = c.fades_at-fades.ensures in
    let z = size_fits _ s f in
    let o = words_right_lem _ s f r.0 good in
    let (h, k) = part_held _ (λ i. omega (arith, c.shared_slice_known-1.given i)) o z.2 form (r.1 (not-false _ good)) in
    let p = parted-by _ c.word_at.ensures c.bit_at-partitionable.ensures in
    let long = after-long _ form z.2 c.front_words.ensures.0 h.left c.left_after.ensures p c.image_length-long.ensures in
    let l = both-lengths _ _ _ _ (single-right 9 0 (omega arith) c.single.ensures c.in_ok-single.was) in
    let q : c.from_residual-in_err-single-2.result ≡ Err c.in_err-single-2.field-0.0 = search rules in
    let w = wrong 10 0 c.single-2.ensures c.in_err-single-2.was in
    step-ten _ o _ _ a.out.now (state-size _ s f refl) long (read-long _ (state-size _ s f refl) p c.read_words.ensures) l.0 l.1
    (rw c.power.ensures at (ltb-false _ _ w.0)) (answer-by w.1 q)

pub turned-limits-requires : goal.turned-limits-requires
turned-limits-requires c =
    let (s, f) = size-some _ c.in-Some.ensures refl in
    let r = c.load_image-part.ensures in
    let good = c.if-not-part.false in
    let form = c.fades_at-fades.ensures in
    let z = size_fits _ s f in
    let o = words_right_lem _ s f r.0 good in
    let (h, k) = part_held _ (λ i. omega (arith, c.shared_slice_known-1.given i)) o z.2 form (r.1 (not-false _ good)) in
    let n = sym (state-size _ s f refl) in
    let e = filled-counted _ o n k in
    record { image_value = (o, n, form ∙ sym (read-form _), h.left, h.view); filled = (e.0, e.1, e.2) }

pub played-health-requires : goal.played-health-requires
played-health-requires c =
    let (s, f) = size-some _ c.in-Some.ensures refl in
    let r = c.load_image-part.ensures in
    let good = c.if-not-part.false in
    let form = c.fades_at-fades.ensures in
    let z = size_fits _ s f in
    let o = words_right_lem _ s f r.0 good in
    let (h, k) = part_held _ (λ i. omega (arith, c.shared_slice_known-1.given i)) o z.2 form (r.1 (not-false _ good)) in
    let l = both-lengths _ _ _ _ (single-right 9 0 (omega arith) c.single.ensures c.in_ok-single.was) in
    record {
      image_value = (o, sym (state-size _ s f refl), form ∙ sym (read-form _), h, c.turned-limits.ensures _ _ k);
      partitionable_value = (
        parted-by _ c.word_at.ensures c.bit_at-partitionable.ensures ∙ sym (read-parted _),
        l.1 ∙ ap (λ (k : ℕ). k * 4) c.read_words.ensures,
        rw c.power.ensures at (ltb-true _ _ (single-right 10 0 (omega arith) c.single-2.ensures c.in_ok-single-2.was)),
        l.0 ∙ c.image_length-long.ensures ∙ (λ i. image_length (c.front_words.ensures.0 i) c.in-Some.n (c.left_after.ensures i) c.bit_at-partitionable.result),
      );
    }

pub returns : goal.returns
returns c =
    let a = c.args in
    let (s, f) = size-some _ c.in-Some.ensures refl in
    let r = c.load_image-part.ensures in
    let good = c.if-not-part.false in
    let form = c.fades_at-fades.ensures in
    let z = size_fits _ s f in
    let o = words_right_lem _ s f r.0 good in
    let (h, k) = part_held _ (λ i. omega (arith, c.shared_slice_known-1.given i)) o z.2 form (r.1 (not-false _ good)) in
    let p = parted-by _ c.word_at.ensures c.bit_at-partitionable.ensures in
    let long = after-long _ form z.2 c.front_words.ensures.0 h.left c.left_after.ensures p c.image_length-long.ensures in
    let l = both-lengths _ _ _ _ (single-right 9 0 (omega arith) c.single.ensures c.in_ok-single.was) in
    let q = c.played-health.ensures in
    step-made _ o _ _ a.out.now (state-size _ s f refl) long (read-long _ (state-size _ s f refl) p c.read_words.ensures) l.0 l.1
    (rw c.power.ensures at (ltb-true _ _ (single-right 10 0 (omega arith) c.single-2.ensures c.in_ok-single-2.was))) (p ∙ sym (read-parted _)) q.0 q.1
