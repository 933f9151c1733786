-- The four bytes are summed lowest first, and the sum is turned round.
use Rattle.std.proofs.Common.{◌+◌, ◌*◌, ◌∙◌}
use Rattle.words.specs.Word.{word_at}
use Rattle.words.proofs.LittleLaws.{turned}
use Rattle.words.proofs.word.word_at.Goals as goal

pub returns : goal.returns
unfolding word_at
returns c =
    let b = c.type_inv.s in
    let i = c.args.i in
    c.swap_bytes.ensures ∙ rw c.from_le_bytes.ensures (turned (b (i * 4)).fits (b (i * 4 + 1)).fits (b (i * 4 + 2)).fits (b (i * 4 + 3)).fits)
