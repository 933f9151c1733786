-- Shifted down, the next four are the first four.
use mathlib.Core.Path.{◌∙◌}
use Rattle.words.proofs.BitLaws.{pack-ext}
use Rattle.vote.proofs.FourLaws.{countable-shifted, decided-shifted}
use Rattle.vote.proofs.four.four_from.Goals as goal

pub four_votes-requires : goal.four_votes-requires
four_votes-requires c =
    (c.requires.0, λ j h. countable-shifted _ _ _ j c.requires.2 h _ (c.requires.3 j h))

pub returns : goal.returns
returns c =
    c.four_votes.ensures ∙ pack-ext 4 _ _ (λ j h. decided-shifted c.args.lanes c.args.voters c.args.at j c.requires.2 h c.args.present c.args.own)
