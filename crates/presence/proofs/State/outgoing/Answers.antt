-- Both syndromes have no bits at N or above, so the word fits.
use mathlib.Core.Path.{ap₂, ◌∙◌, subst, sym}
use Prim.Native.Nat.{◌<◌, ◌^◌}
use mathlib.Core.Bool.{Bool}
use Rattle.rules.specs.Syndrome.{outgoing_of}
use Rattle.rules.specs.declared.Judgement.{Judgement}
use Rattle.rules.proofs.ReceptionLaws.{below-kind}
use Rattle.rules.proofs.SyndromeLaws.{syndrome-lt}
use Rattle.presence.specs.Step.{outgoing_for, judgement_for}
use Rattle.presence.proofs.ValidLaws.{valid-fits}
use Rattle.presence.proofs.State.outgoing.Goals as goal

pub outgoing-requires : goal.outgoing-requires
unfolding judgement_for
outgoing-requires c =
    let p = c.requires in
    let f = valid-fits _ p.valid in (
      below-kind _ _ f.setup.most f.latest,
      below-kind _ _ f.setup.most (subst (λ (j : Judgement). j.syndrome < 2 ^ c.args.self.setup.n) (sym p.j_value) (syndrome-lt _ _ _ _)),
    )

pub returns : goal.returns
unfolding outgoing_for
returns c =
    let a = c.args in
    c.outgoing.ensures
    ∙ ap₂ (λ (b : Bool) (j : Judgement). outgoing_of b a.self.latest j.syndrome) c.marked.ensures c.requires.j_value
