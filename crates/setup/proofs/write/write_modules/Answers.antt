use Rattle.std.proofs.Common.{refl, ap, ◌∙◌, arith}
use Rattle.words.specs.Runs.{put_run}
use Rattle.words.proofs.RunLaws.{put_step}
use Rattle.setup.specs.Layout.{front_words}
use Rattle.setup.proofs.SetupWords.{room-pass, place-small, criticality-small, modules-written}
use Rattle.setup.proofs.write.write_modules.Goals as goal

pub loop-j-init : goal.loop-j-init
unfolding put_run
loop-j-init c = (omega arith, refl, refl)

pub bit_at-requires : goal.bit_at-requires
bit_at-requires c =
    let f = room-pass _ c.requires.0 in
    omega arith

pub offset_bounds-setup-j : goal.offset_bounds-setup-j
offset_bounds-setup-j c =
    let f = room-pass _ c.requires.0 in
    omega arith

pub bounds-setup-j : goal.bounds-setup-j
bounds-setup-j c =
    let f = room-pass _ c.requires.0 in
    omega arith

pub offset_bounds-setup-j-in-loop-j : goal.offset_bounds-setup-j-in-loop-j
offset_bounds-setup-j-in-loop-j c =
    let f = room-pass _ c.requires.0 in
    omega arith

pub bounds-setup-j-in-loop-j : goal.bounds-setup-j-in-loop-j
bounds-setup-j-in-loop-j c =
    let f = room-pass _ c.requires.0 in
    omega arith

pub module_word-w-requires : goal.module_word-w-requires
module_word-w-requires c =
    let f = room-pass _ c.requires.0 in
    let h = c.loop-j-test.true in
    (omega arith, place-small _ f _ h, criticality-small _ f _ h)

pub overflow_add-front : goal.overflow_add-front
overflow_add-front c =
    let f = room-pass _ c.requires.0 in
    omega arith

pub put_word-requires : goal.put_word-requires
put_word-requires c =
    let f = c.front_words-front.ensures.0 ∙ ap front_words c.fades.ensures in
    omega arith

pub loop-j-preserved : goal.loop-j-preserved
loop-j-preserved c =
    let l = c.loop-j in
    let put = c.put_word in
    let e = rw c.bit_at.ensures at c.module_word-w.ensures in
    let o = c.args.out.now in
    (omega arith, put.auto.s ∙ l.invariant.1, put_step o c.front_words-front.result l.j _ l.invariant.2 put.ensures e)

pub returns : goal.returns
returns c =
    let a = c.args in
    modules-written a.setup a.out.now c.fades.ensures c.front_words-front.ensures.0 (omega arith) c.loop-j.invariant.2
