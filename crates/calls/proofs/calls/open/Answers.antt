-- The setup, the own number and the length are tested; then its words are copied, and those of a fresh module written after them.
use Rattle.std.proofs.Common.{◌≡◌, ℕ, ◌≤◌, Err, eqb-true, refl, sym, ap, ◌∙◌, arith, rules}
use Rattle.words.specs.Verdict.{Verdict}
use Rattle.words.proofs.VerdictLaws.{between_is}
use Rattle.words.proofs.RefusalLaws.{told-none, told-err, told-on, single-right}
use Rattle.setup.specs.Layout.{front_words}
use Rattle.image.specs.Layout.{image_length}
use Rattle.image.proofs.SectionLaws.{accounts-written}
use Rattle.calls.specs.declared.Answer.{Answer}
use Rattle.calls.specs.Calls.{called}
use Rattle.calls.proofs.AnswerLaws.{wrong, done-by}
use Rattle.calls.proofs.ModuleCallLaws.{parted-by, open-bad-setup}
use Rattle.calls.proofs.ImageOpenLaws.{fits, full-small, rows-small, zeros-small, open-seven, open-nine, full_put, none-put, open_made}
use Rattle.calls.proofs.calls.open.Goals as goal

pub returns-in_err-check : goal.returns-in_err-check
returns-in_err-check c =
    let a = c.args in
    let q : c.from_residual.result ≡ Err c.in_err-check.field-0.0 = search rules in
    ap (λ (x : Answer). called x a.out.now) (done-by (told-on c.in_err-check.was) q) ∙ open-bad-setup _ _ _ c.check.ensures (told-err c.in_err-check.was)

pub size_at-n-requires : goal.size_at-n-requires
size_at-n-requires c =
    (fits _ (ap (λ (x : Verdict). x.number) (sym c.check.ensures) ∙ told-none c.in_ok-check.was)).front.room

pub fades_at-fades-requires : goal.fades_at-fades-requires
fades_at-fades-requires c =
    (fits _ (ap (λ (x : Verdict). x.number) (sym c.check.ensures) ∙ told-none c.in_ok-check.was)).front.whole

pub returns-in_err-single : goal.returns-in_err-single
returns-in_err-single c =
    let a = c.args in
    let q : c.from_residual-in_err-single.result ≡ Err c.in_err-single.field-0.0 = search rules in
    let w = wrong 7 0 c.single.ensures c.in_err-single.was in
    open-seven _ (ap (λ (x : Verdict). x.number) (sym c.check.ensures) ∙ told-none c.in_ok-check.was) a.own a.out.now c.size_at-n.ensures w.0 (done-by w.1 q)

pub word_at-requires : goal.word_at-requires
word_at-requires c =
    omega (arith, (fits _ (ap (λ (x : Verdict). x.number) (sym c.check.ensures) ∙ told-none c.in_ok-check.was)).front.room)

pub image_length-requires : goal.image_length-requires
image_length-requires c =
    let few = (fits _ (ap (λ (x : Verdict). x.number) (sym c.check.ensures) ∙ told-none c.in_ok-check.was)).front.most in
    (c.front_words-front.ensures.2, omega (arith, c.size_at-n.ensures))

pub returns-in_err-single-2 : goal.returns-in_err-single-2
returns-in_err-single-2 c =
    let a = c.args in
    let q : c.from_residual-in_err-single-2.result ≡ Err c.in_err-single-2.field-0.0 = search rules in
    let w = wrong 9 0 c.single-2.ensures c.in_err-single-2.was in
    open-nine _ (ap (λ (x : Verdict). x.number) (sym c.check.ensures) ∙ told-none c.in_ok-check.was) a.own a.out.now c.size_at-n.ensures (single-right 7 0 (omega arith) c.single.ensures c.in_ok-single.was) c.fades_at-fades.ensures c.front_words-front.ensures.0 (parted-by _ c.word_at.ensures c.bit_at-partitionable.ensures) c.image_length.ensures w.0 (done-by w.1 q)

pub filled-rows-requires : goal.filled-rows-requires
filled-rows-requires c =
    let few = (fits _ (ap (λ (x : Verdict). x.number) (sym c.check.ensures) ∙ told-none c.in_ok-check.was)).front.most in
    omega (arith, c.size_at-n.ensures)

pub copy_run-requires : goal.copy_run-requires
copy_run-requires c =
    let b = fits _ (ap (λ (x : Verdict). x.number) (sym c.check.ensures) ∙ told-none c.in_ok-check.was) in
    let n = c.size_at-n.ensures in
    let e = c.setup_words.ensures in
    let l = (eqb-true _ _ (single-right 9 0 (omega arith) c.single-2.ensures c.in_ok-single-2.was)) ∙ c.image_length.ensures in
    let f = c.front_words-front.ensures.0 ∙ ap front_words c.fades_at-fades.ensures in
    (omega (arith, b.size), omega arith)

pub save_sections-requires : goal.save_sections-requires
save_sections-requires c =
    let b = fits _ (ap (λ (x : Verdict). x.number) (sym c.check.ensures) ∙ told-none c.in_ok-check.was) in
    let few : c.size_at-n.result ≤ 16 = omega (arith, b.front.most, c.size_at-n.ensures) in
    let inside = between_is 1 c.size_at-n.result c.args.own (single-right 7 0 (omega arith) c.single.ensures c.in_ok-single.was) in
    let v = c.full_of-full.ensures in
    let small = full-small _ few v in
    let l = c.copy_run.auto.out ∙ (eqb-true _ _ (single-right 9 0 (omega arith) c.single-2.ensures c.in_ok-single-2.was)) ∙ c.image_length.ensures ∙ ap (λ (x : ℕ). image_length x c.size_at-n.result 0 c.bit_at-partitionable.result) c.front_words-front.ensures.0 in
    record { n_bound = (few, omega (arith, l), omega (arith, inside.1), small, small, small); by_index = rows-small _ few v c.filled-rows.ensures }

pub save_accounts-requires : goal.save_accounts-requires
save_accounts-requires c =
    let b = fits _ (ap (λ (x : Verdict). x.number) (sym c.check.ensures) ∙ told-none c.in_ok-check.was) in
    let few : c.size_at-n.result ≤ 16 = omega (arith, b.front.most, c.size_at-n.ensures) in
    let l = c.save_sections.auto.out ∙ c.copy_run.auto.out ∙ (eqb-true _ _ (single-right 9 0 (omega arith) c.single-2.ensures c.in_ok-single-2.was)) ∙ c.image_length.ensures ∙ ap (λ (x : ℕ). image_length x c.size_at-n.result 0 c.bit_at-partitionable.result) c.front_words-front.ensures.0 in
    (few, omega (arith, l), zeros-small c.fades_at-fades.result _ few)

pub left_at-requires : goal.left_at-requires
left_at-requires c =
    let few = (fits _ (ap (λ (x : Verdict). x.number) (sym c.check.ensures) ∙ told-none c.in_ok-check.was)).front.most in
    (c.front_words-front.ensures.2, omega (arith, c.size_at-n.ensures))

pub put_word-requires : goal.put_word-requires
put_word-requires c =
    let l = c.save_accounts.auto.out ∙ c.save_sections.auto.out ∙ c.copy_run.auto.out ∙ (eqb-true _ _ (single-right 9 0 (omega arith) c.single-2.ensures c.in_ok-single-2.was)) ∙ c.image_length.ensures in
    omega (arith, l, c.left_at.ensures)

pub views_at-requires : goal.views_at-requires
views_at-requires c =
    let few = (fits _ (ap (λ (x : Verdict). x.number) (sym c.check.ensures) ∙ told-none c.in_ok-check.was)).front.most in
    (c.front_words-front.ensures.2, omega (arith, c.size_at-n.ensures))

pub save_full-requires : goal.save_full-requires
save_full-requires c =
    let few = (fits _ (ap (λ (x : Verdict). x.number) (sym c.check.ensures) ∙ told-none c.in_ok-check.was)).front.most in
    let l = c.put_word.auto.s ∙ c.save_accounts.auto.out ∙ c.save_sections.auto.out ∙ c.copy_run.auto.out ∙ (eqb-true _ _ (single-right 9 0 (omega arith) c.single-2.ensures c.in_ok-single-2.was)) ∙ c.image_length.ensures ∙ ap (image_length c.front_words-front.result c.size_at-n.result 0) c.if-partitionable.true in
    let a = c.views_at.ensures in
    let f = c.front_words-front.ensures.2 in
    let n = c.size_at-n.ensures in
    (omega arith, c.full_of-full.ensures, omega arith, omega (arith, l))

pub returns-then-partitionable : goal.returns-then-partitionable
returns-then-partitionable c =
    let l = (eqb-true _ _ (single-right 9 0 (omega arith) c.single-2.ensures c.in_ok-single-2.was)) ∙ c.image_length.ensures in
    let v = c.full_of-full.result in
    let both = accounts-written c.fades_at-fades.result c.size_at-n.result c.args.own v
    (record { heard = v; rows = c.filled-rows.result }) v v _ _ _ _ c.save_sections.ensures c.save_accounts.ensures
    in
    let p = parted-by _ c.word_at.ensures c.bit_at-partitionable.ensures in
    open_made _ (ap (λ (x : Verdict). x.number) (sym c.check.ensures) ∙ told-none c.in_ok-check.was) c.args.own c.args.out.now c.size_at-n.ensures (single-right 7 0 (omega arith) c.single.ensures c.in_ok-single.was) c.fades_at-fades.ensures c.front_words-front.ensures.0 p
    (λ i. omega (arith, c.shared_slice_known-1.given i)) l c.full_of-full.ensures c.filled-rows.ensures c.setup_words.ensures c.copy_run.ensures both c.left_at.ensures c.put_word.ensures (full_put _ (ap (λ (x : Verdict). x.number) (sym c.check.ensures) ∙ told-none c.in_ok-check.was) c.args.own c.args.out.now c.size_at-n.ensures (single-right 7 0 (omega arith) c.single.ensures c.in_ok-single.was) c.fades_at-fades.ensures c.front_words-front.ensures.0 p _ c.if-partitionable.true c.full_of-full.ensures c.views_at.ensures c.save_full.ensures) refl

pub returns-else-partitionable : goal.returns-else-partitionable
returns-else-partitionable c =
    let l = (eqb-true _ _ (single-right 9 0 (omega arith) c.single-2.ensures c.in_ok-single-2.was)) ∙ c.image_length.ensures in
    let v = c.full_of-full.result in
    let both = accounts-written c.fades_at-fades.result c.size_at-n.result c.args.own v
    (record { heard = v; rows = c.filled-rows.result }) v v _ _ _ _ c.save_sections.ensures c.save_accounts.ensures
    in
    let p = parted-by _ c.word_at.ensures c.bit_at-partitionable.ensures in
    open_made _ (ap (λ (x : Verdict). x.number) (sym c.check.ensures) ∙ told-none c.in_ok-check.was) c.args.own c.args.out.now c.size_at-n.ensures (single-right 7 0 (omega arith) c.single.ensures c.in_ok-single.was) c.fades_at-fades.ensures c.front_words-front.ensures.0 p
    (λ i. omega (arith, c.shared_slice_known-1.given i)) l c.full_of-full.ensures c.filled-rows.ensures c.setup_words.ensures c.copy_run.ensures both c.left_at.ensures c.put_word.ensures (none-put _ (ap (λ (x : Verdict). x.number) (sym c.check.ensures) ∙ told-none c.in_ok-check.was) c.args.own c.args.out.now c.size_at-n.ensures (single-right 7 0 (omega arith) c.single.ensures c.in_ok-single.was) c.fades_at-fades.ensures c.front_words-front.ensures.0 p _ c.if-partitionable.false) refl
