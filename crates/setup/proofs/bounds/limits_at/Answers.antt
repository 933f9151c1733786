-- The words of the form are read.
use Rattle.std.proofs.Common.{ℕ, Bool, sym, ap, ◌∙◌, ap₂, arith}
use Rattle.words.specs.Word.{word_at}
use Rattle.setup.specs.Setup.{limit_in, limits_in}
use Rattle.setup.specs.declared.Limits.TheVariants.{Counts, Fading}
use Rattle.setup.proofs.BoundLaws.{fading-bytes, counts-bytes}
use Rattle.setup.proofs.bounds.limits_at.Goals as goal

pub double_at-requires : goal.double_at-requires
double_at-requires c =
    let h = fading-bytes c.if-fades.true c.requires in
    omega arith

pub double_at-requires-then-fades : goal.double_at-requires-then-fades
double_at-requires-then-fades c = fading-bytes c.if-fades.true c.requires

pub returns-then-fades : goal.returns-then-fades
unfolding limits_in
returns-then-fades c =
    let w = word_at c.args.s.now in
    ap₂ Fading c.double_at.ensures c.double_at-then-fades.ensures ∙ ap (λ (b : Bool). limits_in b w) (sym c.if-fades.true)

pub word_at-requires : goal.word_at-requires
word_at-requires c =
    let h = counts-bytes c.if-fades.false c.requires in
    omega arith

pub word_at-requires-2 : goal.word_at-requires-2
word_at-requires-2 c = counts-bytes c.if-fades.false c.requires

pub returns : goal.returns
unfolding limits_in
returns c =
    let w = word_at c.args.s.now in
    ap₂ (λ (x y : ℕ). Counts (limit_in x) (limit_in y)) c.word_at.ensures c.word_at-2.ensures ∙ ap (λ (b : Bool). limits_in b w) (sym c.if-fades.false)
