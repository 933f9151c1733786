-- The kind and the number, then whether the counter fits.
use Rattle.std.proofs.Common.{ℕ, ◌&&◌, ap, ◌∙◌, ap₂}
use Rattle.image.specs.CounterSection.{counter_in, counter_of, counter_ok}
use Rattle.image.specs.Returns.{return_fits}
use Rattle.image.specs.declared.Basis.{Basis}
use Rattle.image.proofs.ReadLaws.{word-by}
use Rattle.image.proofs.counters.return_right.Goals as goal

pub returns : goal.returns
unfolding counter_ok
returns c =
    let w = word-by _ _ c.returns_at.ensures c.word_at-w.ensures in
    ap₂ ◌&&◌ (c.counter_of.ensures ∙ ap (counter_of 15 c.args.j) w)
    (c.return_fits.ensures ∙ ap₂ (λ (b : Basis) (v : ℕ). return_fits b.q b.present v) c.basis_in-b.ensures (ap counter_in w))
