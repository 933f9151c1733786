-- One word is a run of one.
use Rattle.words.proofs.RunLaws.{put_one}
use Rattle.image.proofs.word.save_word.Goals as goal

pub returns : goal.returns
returns c =
    put_one _ _ _ c.put_word.ensures
