-- Each form by its own function.
use Rattle.std.proofs.Common.{get_or, sym, ap, ◌∙◌}
use Rattle.words.specs.Runs.{put_run}
use Rattle.setup.specs.Layout.{limit_words}
use Rattle.setup.specs.Limits.{fades}
use Rattle.setup.specs.Setup.{limit_list}
use Rattle.setup.specs.declared.Limits.{Limits}
use Rattle.setup.proofs.BoundLaws.{fading-bytes, counts-written}
use Rattle.setup.proofs.bounds.put_limits.Goals as goal

pub put_counts-requires : goal.put_counts-requires
put_counts-requires c =
    counts-written c.in-Counts.is c.requires.0 c.requires.1

pub put_fading-requires : goal.put_fading-requires
put_fading-requires c =
    fading-bytes (ap fades c.in-Fading.is) c.requires.1

pub returns-in-Counts : goal.returns-in-Counts
returns-in-Counts c =
    let o = c.args.out.now in
    c.put_counts.ensures ∙ ap (λ (l : Limits). put_run o 1 (limit_words (fades l)) (λ i. get_or (limit_list l) i 0)) (sym c.in-Counts.is)

pub returns-in-Fading : goal.returns-in-Fading
returns-in-Fading c =
    let o = c.args.out.now in
    c.put_fading.ensures ∙ ap (λ (l : Limits). put_run o 1 (limit_words (fades l)) (λ i. get_or (limit_list l) i 0)) (sym c.in-Fading.is)
