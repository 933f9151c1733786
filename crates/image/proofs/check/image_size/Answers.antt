-- Each test in its turn: where all are passed, head and length are right.
use Rattle.std.proofs.Common.{ℕ, ◌/◌, eqb, sym, ap, ◌∙◌, true≢false, arith, eq-eqb, eqb-true}
use Rattle.words.specs.Word.{kind_unit}
use Rattle.setup.specs.Layout.{front_words}
use Rattle.setup.specs.Check.{head_ok}
use Rattle.setup.proofs.WordFields.{head-made}
use Rattle.image.specs.Check.{found_size}
use Rattle.image.proofs.ImageAnswers.{size_none, size-there, size-counted, length-by}
use Rattle.image.proofs.check.image_size.Goals as goal

pub returns-then-s-lt8 : goal.returns-then-s-lt8
returns-then-s-lt8 c = ap found_size (size_none _ (λ h l. let short = c.if-s-lt8.true in omega (arith, h.least, l)))

pub returns-then-not-head_ok : goal.returns-then-not-head_ok
returns-then-not-head_ok c =
    let e = c.head_ok.ensures in
    let w = c.word_at.ensures in
    ap found_size (size_none _ (λ h l. absurd (true≢false (sym h.head ∙ ap head_ok (sym w) ∙ sym e ∙ c.if-not-head_ok.true))))

pub length_right-requires : goal.length_right-requires
length_right-requires c =
    let ok = ap head_ok (sym c.word_at.ensures) ∙ sym c.head_ok.ensures ∙ c.if-not-head_ok.false in
    let m = (head-made _ ok).0 in
    (c.front_words.ensures.2, omega (arith, m.most, c.size_at-n.ensures))

pub returns-then-not-length_right : goal.returns-then-not-length_right
returns-then-not-length_right c =
    let n = c.size_at-n.ensures in
    let front = c.front_words.ensures.0 ∙ ap (λ (w : ℕ). front_words (eqb (w / kind_unit) 0)) c.word_at-2.ensures in
    ap found_size
    (size_none _ (λ h l. absurd (true≢false (sym (eq-eqb _ _ (l ∙ sym (length-by _ front n))) ∙ sym c.length_right.ensures ∙ c.if-not-length_right.true))))

pub returns : goal.returns
returns c =
    let ok = ap head_ok (sym c.word_at.ensures) ∙ sym c.head_ok.ensures ∙ c.if-not-head_ok.false in
    let m = (head-made _ ok).0 in
    let n = c.size_at-n.ensures in
    let front = c.front_words.ensures.0 ∙ ap (λ (w : ℕ). front_words (eqb (w / kind_unit) 0)) c.word_at-2.ensures in
    size-counted _ (omega (arith, m.least, n))
    ∙ ap found_size (n ∙ size-there _ ok (eqb-true _ _ (sym c.length_right.ensures ∙ c.if-not-length_right.false) ∙ length-by _ front n))
