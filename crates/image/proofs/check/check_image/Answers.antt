-- Numbers 1 and 2, then the length, then the setup, then the rest: where one refuses, its answer is the whole answer.
use Rattle.std.proofs.Common.{◌≡◌, ℕ, ◌≤◌, Bool, List, Err, ap, ◌∙◌, arith, rules, eqb-true, sym}
use Rattle.words.specs.Word.{word_at}
use Rattle.words.specs.Refusal.{told}
use Rattle.words.proofs.RefusalLaws.{told-none, single-right}
use Rattle.setup.specs.Layout.{front_words, setup_length}
use Rattle.setup.specs.Setup.{partitionable_in}
use Rattle.setup.proofs.SetupAnswerLaws.{head-fits}
use Rattle.image.specs.Layout.{left_at, image_length}
use Rattle.image.proofs.ImageAnswers.{image-head, image-short, image-words, image-tail}
use Rattle.image.proofs.check.check_image.Goals as goal

-- an image has room for its setup
front-room : {front k : ℕ} (b : Bool) (n : ℕ) (s : List ℕ) → front ≡ front_words b → k ≡ image_length front n (word_at s (left_at front n)) (partitionable_in (word_at s 0))
    → setup_length (front_words b) n ≤ k
front-room b n s e h = omega (arith, e)

by_form : {front k : ℕ} (b : Bool) (n : ℕ) (s : List ℕ) → front ≡ front_words b → k ≡ image_length front n (word_at s (left_at front n)) (partitionable_in (word_at s 0))
    → k ≡ image_length (front_words b) n (word_at s (left_at (front_words b) n)) (partitionable_in (word_at s 0))
by_form b n s e h = rw e at h

pub returns-in_err-check_head : goal.returns-in_err-check_head
returns-in_err-check_head c =
    let q : c.from_residual.result ≡ Err c.in_err-check_head.field-0.0 = search rules in
    ap told q ∙ image-head _ c.check_head.ensures c.in_err-check_head.was

pub size_at-n-requires : goal.size_at-n-requires
size_at-n-requires c = (head-fits _ c.check_head.ensures (told-none c.in_ok-check_head.was)).room

pub fades_at-fades-requires : goal.fades_at-fades-requires
fades_at-fades-requires c = (head-fits _ c.check_head.ensures (told-none c.in_ok-check_head.was)).whole

pub length_right-whole-requires : goal.length_right-whole-requires
length_right-whole-requires c =
    let f = head-fits _ c.check_head.ensures (told-none c.in_ok-check_head.was) in
    let e = c.size_at-n.ensures in
    (c.front_words.ensures.2, omega (arith, f.most))

pub returns-in_err-single : goal.returns-in_err-single
returns-in_err-single c =
    let q : c.from_residual-in_err-single.result ≡ Err c.in_err-single.field-0.0 = search rules in
    ap told q
    ∙ image-short _ c.check_head.ensures c.in_ok-check_head.was c.size_at-n.ensures c.fades_at-fades.ensures c.front_words.ensures.0 c.length_right-whole.ensures c.single.ensures
    c.in_err-single.was

pub check_words-requires : goal.check_words-requires
check_words-requires c =
    let f = head-fits _ c.check_head.ensures (told-none c.in_ok-check_head.was) in
    let e = c.size_at-n.ensures in
    let l = eqb-true _ _ (sym c.length_right-whole.ensures ∙ single-right 3 0 (omega arith) c.single.ensures c.in_ok-single.was) in
    (omega (arith, f.most), front-room c.fades_at-fades.result c.size_at-n.result _ c.front_words.ensures.0 l, c.fades_at-fades.ensures)

pub returns-in_err-check_words : goal.returns-in_err-check_words
returns-in_err-check_words c =
    let q : c.from_residual-in_err-check_words.result ≡ Err c.in_err-check_words.field-0.0 = search rules in
    ap told q
    ∙ image-words _ c.check_head.ensures c.in_ok-check_head.was c.size_at-n.ensures c.fades_at-fades.ensures c.front_words.ensures.0 c.length_right-whole.ensures c.single.ensures
    c.in_ok-single.was c.check_words.ensures c.in_err-check_words.was

pub check_tail-requires : goal.check_tail-requires
check_tail-requires c =
    let f = head-fits _ c.check_head.ensures (told-none c.in_ok-check_head.was) in
    let e = c.size_at-n.ensures in
    let l = eqb-true _ _ (sym c.length_right-whole.ensures ∙ single-right 3 0 (omega arith) c.single.ensures c.in_ok-single.was) in
    (omega (arith, f.most), by_form c.fades_at-fades.result c.size_at-n.result _ c.front_words.ensures.0 l)

pub returns : goal.returns
returns c =
    image-tail _ c.check_head.ensures c.in_ok-check_head.was c.size_at-n.ensures c.fades_at-fades.ensures c.front_words.ensures.0 c.length_right-whole.ensures c.single.ensures
    c.in_ok-single.was c.check_words.ensures c.in_ok-check_words.was c.check_tail.ensures
