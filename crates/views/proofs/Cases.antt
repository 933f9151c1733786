-- What view words give is what document 02 says: computed.
use mathlib.Core.Path.{refl}
use Rattle.words.specs.Word.{word_at, bytes_of}
use Rattle.words.specs.Bits.{bit, pack}
use Rattle.words.specs.Count.{count, all, lowest}
use Rattle.words.specs.Array.{array}
use Rattle.words.specs.Verdict.{and_then, outcome, then_tests}
use Rattle.views.specs.ViewWord.{view_word_heard, view_entry, views_read, aligned_views}
use Rattle.views.specs.Adoption.{carriers, adoptable, adopted_from}
use Rattle.views.specs.Views.{full_views, no_views, views_after}
use Rattle.views.specs.Section.{view_ok}
use Rattle.views.specs.Cases.{CasesRight, NumbersRight}

pub cases-right : CasesRight
unfolding word_at bytes_of bit pack count all array view_word_heard view_entry views_read aligned_views carriers adoptable adopted_from full_views no_views views_after
cases-right = refl

pub numbers-right : NumbersRight
unfolding lowest and_then outcome then_tests view_word_heard view_ok
numbers-right = refl
