-- The length is found from the limits.
use Rattle.presence.proofs.StateAnswers.{length-by}
use Rattle.presence.proofs.State.length.Goals as goal

pub image_length-requires : goal.image_length-requires
image_length-requires c = (c.front_words-front.ensures.2, c.requires)

pub returns : goal.returns
returns c = length-by c.args.self c.fades.ensures c.front_words-front.ensures.0 c.image_length.ensures
