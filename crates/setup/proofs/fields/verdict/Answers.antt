-- Whether there is room, then the answer for the words.
use Rattle.std.proofs.Common.{◌≡◌, Err, sym, ap, ◌∙◌, arith, rules, length-take-le}
use Rattle.words.specs.Refusal.{told}
use Rattle.words.proofs.RefusalLaws.{told-none, told-err, told-on}
use Rattle.setup.proofs.SetupAnswerLaws.{struct-length, room-none, room-is, room-stays, words-answer}
use Rattle.setup.proofs.fields.verdict.Goals as goal

pub returns-in_err-room_verdict : goal.returns-in_err-room_verdict
returns-in_err-room_verdict c =
    let q : c.from_residual.result ≡ Err c.in_err-room_verdict.field-0.0 = search rules in
    ap told q ∙ told-on c.in_err-room_verdict.was ∙ room-stays _ c.room_verdict.ensures (told-err c.in_err-room_verdict.was)

pub setup_length-k-requires : goal.setup_length-k-requires
setup_length-k-requires c =
    let f = room-is _ c.room_verdict.ensures (told-none c.in_ok-room_verdict.was) in
    let w = c.front_words.ensures.2 in
    omega (arith, f.most)

pub slice_bounds-out-end : goal.slice_bounds-out-end
slice_bounds-out-end c =
    let f = room-is _ c.room_verdict.ensures (told-none c.in_ok-room_verdict.was) in
    let w = c.front_words.ensures.2 in
    let e = c.setup_length-k.ensures in
    omega (arith, f.most)

pub slice_bounds-words_verdict-end : goal.slice_bounds-words_verdict-end
slice_bounds-words_verdict-end c =
    let f = room-is _ c.room_verdict.ensures (told-none c.in_ok-room_verdict.was) in
    let w = c.front_words.ensures.2 in
    let e = c.setup_length-k.ensures in
    sym (length-take-le _ _ (omega (arith, f.most)))

pub words_verdict-requires : goal.words_verdict-requires
words_verdict-requires c =
    let f = room-is _ c.room_verdict.ensures (told-none c.in_ok-room_verdict.was) in
    let e = c.setup_length-k.ensures in
    let b = c.front_words.ensures.2 in (
      room-none _ c.room_verdict.ensures (told-none c.in_ok-room_verdict.was),
      length-take-le _ _ (omega (arith, f.most)) ∙ struct-length c.args.setup c.fades.ensures c.front_words.ensures.0 e,
    )

pub returns : goal.returns
returns c =
    words-answer _ c.room_verdict.ensures (told-none c.in_ok-room_verdict.was) c.words_verdict.ensures
