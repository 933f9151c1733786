-- The second test implies the kind, so the number is tested with it.
use Rattle.std.proofs.Common.{ℕ, ◌&&◌, ap, ◌∙◌, ap₂}
use Rattle.words.specs.Verdict.{between}
use Rattle.image.proofs.SingleWords.{own-both}
use Rattle.image.proofs.word.own_right.Goals as goal

pub returns : goal.returns
returns c =
    let a = c.args in
    ap₂ ◌&&◌ c.own_ok.ensures (ap (λ (v : ℕ). between 1 a.n v) c.field-own.ensures) ∙ own-both a.n a.w
