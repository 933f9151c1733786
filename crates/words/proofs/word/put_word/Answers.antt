-- The word is turned round, and its bytes stored lowest first.
use Rattle.std.proofs.Common.{◌≡◌, ℕ, ◌+◌, ◌*◌, ◌/◌, ◌%◌, ◌^◌, ◌<◌, List, [], ◌∷◌, ap, ◌∙◌, arith, set, slice_set, slice_index_or}
use Rattle.words.specs.Word.{put_word}
use Rattle.words.proofs.LittleLaws.{parts}
use Rattle.words.proofs.word.put_word.Goals as goal

pub returns : goal.returns
unfolding put_word
returns c =
    let w = c.args.w in
    let t : w / 2 ^ 24 % 2 ^ 8 ≡ w / 2 ^ 24 = omega (arith, c.ranges.w.fits) in
    let x : w / 2 ^ 24 < 256 = omega (arith, c.ranges.w.fits) in
    let m : c.swap_bytes.result ≡ w / 2 ^ 24 + w / 2 ^ 16 % 2 ^ 8 * 2 ^ 8 + w / 2 ^ 8 % 2 ^ 8 * 2 ^ 16 + w % 2 ^ 8 * 2 ^ 24 =
    c.swap_bytes.ensures ∙ omega (arith, t)
    in
    let bytes : c.to_le_bytes-bytes.result ≡ (w / 2 ^ 24) ∷ (w / 2 ^ 16 % 2 ^ 8) ∷ (w / 2 ^ 8 % 2 ^ 8) ∷ (w % 2 ^ 8) ∷ [] =
    c.to_le_bytes-bytes.ensures ∙ rw m (parts x (omega arith) (omega arith) (omega arith))
    in
    rw bytes
