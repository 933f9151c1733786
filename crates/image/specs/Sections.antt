-- The words of a saved state after those of its setup, section by section. (document 01, "What runs", kinds 10 to 14; document 02, E6, kind 15, and E9)
use Rattle.std.specs.Prelude.{ℕ, Bool, List, ◌∷◌}
use Rattle.words.specs.Runs.{Run, one}
use Rattle.accounts.specs.declared.Counters.{Counters}
use Rattle.rules.specs.declared.Reading.{Reading}
use Rattle.image.specs.Words.{own_word, syndrome_word}
use Rattle.image.specs.Rows.{row_run}
use Rattle.image.specs.Counters.{counter_runs}

-- the own number with the view, the previous read, the two latest syndromes, the latest first, and the accounts, of a setup that fades or counts
abbrev pub section_runs : Bool → ℕ → ℕ → Counters → Reading → ℕ → ℕ → List Run
section_runs fades n own counters previous latest earlier =
    one (own_word own counters.view)
    ∷ row_run n previous
    ∷ one (syndrome_word latest)
    ∷ one (syndrome_word earlier)
    ∷ counter_runs fades n counters
