-- The parts are those of the rules, and N is at most 16.
use Rattle.presence.proofs.ValidLaws.{valid-fits}
use Rattle.presence.proofs.StateRoundLaws.{judged-made, place-small}
use Rattle.presence.proofs.State.judged.Goals as goal

pub is_skewed-skew-requires : goal.is_skewed-skew-requires
is_skewed-skew-requires c = (valid-fits _ c.requires).setup.most

pub aligned-aligned-requires : goal.aligned-aligned-requires
aligned-aligned-requires c =
    let f = valid-fits _ c.requires in
    (f.setup.most, place-small _ f c.place.ensures)

pub judgement-requires : goal.judgement-requires
judgement-requires c =
    let f = valid-fits _ c.requires in
    (f.setup.most, f.view)

pub returns : goal.returns
returns c =
    judged-made _ _ c.is_skewed-skew.ensures c.place.ensures c.aligned-aligned.ensures c.pick-own.ensures
    c.judgement.ensures
