-- The words of full views, written as any views are.
use mathlib.Core.Path.{ap, ◌∙◌}
use mathlib.Core.Bool.{true}
use Rattle.words.specs.Runs.{put_runs}
use Rattle.views.specs.Section.{view_runs}
use Rattle.views.specs.declared.Views.{Views}
use Rattle.views.proofs.ViewsLaws.{full_by}
use Rattle.views.proofs.lent.save_full.Goals as goal

pub returns : goal.returns
returns c =
    c.save_view_words.ensures
    ∙ ap (λ (v : Views). put_runs c.args.out.now c.args.at (view_runs true c.args.n c.args.full v))
    (full_by c.args.n c.requires.1 c.view_word.ensures c.filled-words.ensures)
