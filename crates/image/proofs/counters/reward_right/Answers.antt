-- The kind and the number, then whether the counter fits.
use Rattle.std.proofs.Common.{ℕ, ◌&&◌, ap, ◌∙◌, ap₂}
use Rattle.image.specs.CounterSection.{counter_in, counter_of, counter_ok}
use Rattle.image.specs.Counters.{reward_fits}
use Rattle.image.specs.declared.Basis.{Basis}
use Rattle.image.proofs.ReadLaws.{word-by}
use Rattle.image.proofs.counters.reward_right.Goals as goal

pub returns : goal.returns
unfolding counter_ok
returns c =
    let w = word-by _ _ c.rewards_at.ensures c.word_at-w.ensures in
    ap₂ ◌&&◌ (c.counter_of.ensures ∙ ap (counter_of 14 c.args.j) w)
    (c.reward_fits.ensures ∙ ap₂ (λ (b : Basis) (v : ℕ). reward_fits b.r b.penalty v) c.basis_in-b.ensures (ap counter_in w))
