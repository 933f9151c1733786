-- The head, the limits and the module words, each at its place, are the bytes of the setup.
use Rattle.std.proofs.Common.{ap, ◌∙◌, arith}
use Rattle.words.specs.Word.{put_word}
use Rattle.words.specs.Verdict.{Verdict}
use Rattle.setup.proofs.BoundLaws.{room-limits}
use Rattle.setup.proofs.SetupWords.{room-pass, words-written}
use Rattle.setup.proofs.write.write_words.Goals as goal

pub head_word-requires : goal.head_word-requires
head_word-requires c =
    let f = room-pass _ c.requires.0 in
    (omega (arith, f.q), f.most)

pub put_limits-requires : goal.put_limits-requires
put_limits-requires c =
    let f = room-pass _ c.requires.0 in
    (ap (λ (v : Verdict). v.number) (room-limits c.args.setup.limits f.limits), omega arith)

pub returns : goal.returns
returns c =
    words-written _ _ c.requires.1 (c.put_word.ensures ∙ ap (put_word _ 0) c.head_word.ensures) c.put_limits.ensures c.write_modules.ensures
