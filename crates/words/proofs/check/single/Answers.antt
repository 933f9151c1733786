use Rattle.std.proofs.Common.{ap, ◌∙◌, sym}
use Rattle.words.specs.Refusal.{code, refusal_told}
use Rattle.words.proofs.VerdictLaws.{single-ok, single-refused}
use Rattle.words.proofs.check.single.Goals as goal

pub returns-then-right : goal.returns-then-right
returns-then-right c = sym (single-ok _ (code c.args.number) c.args.at c.if-right.true)

pub returns : goal.returns
returns c = ap refusal_told c.at.ensures ∙ sym (single-refused _ (code c.args.number) c.args.at c.if-right.false)
