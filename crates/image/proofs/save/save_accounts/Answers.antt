-- By the form.
use Rattle.image.proofs.SectionLaws.{small_by, scores-written, counts-written}
use Rattle.image.proofs.save.save_accounts.Goals as goal

pub save_scores-requires : goal.save_scores-requires
save_scores-requires c =
    let f = c.if-fades.true in
    (c.requires.0, rw f at c.requires.1, small_by c.args.n c.args.first.now c.args.second.now c.args.returns.now f c.requires.2)

pub returns-then-fades : goal.returns-then-fades
returns-then-fades c =
    let a = c.args in
    scores-written a.n a.first.now a.second.now a.returns.now a.out.now c.if-fades.true c.save_scores.ensures

pub save_counters-requires : goal.save_counters-requires
save_counters-requires c =
    let f = c.if-fades.false in
    let small = small_by c.args.n c.args.first.now c.args.second.now c.args.returns.now f c.requires.2 in
    (c.requires.0, rw f at c.requires.1, small.0, small.1, small.2)

pub returns : goal.returns
returns c =
    let a = c.args in
    counts-written a.n a.first.now a.second.now a.returns.now a.out.now c.if-fades.false c.save_counters.ensures
