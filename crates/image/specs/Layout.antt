-- Where the words of a saved state stand, of n modules and with `front` words before those of the modules, section after section.
-- (document 01, "What runs", kinds 10 to 14; document 02, E6, kind 15, E9, E10 and E11)
use Rattle.std.specs.Prelude.{ℕ, ◌+◌, ◌*◌, Bool}
use Rattle.setup.specs.Layout.{setup_words}
use Rattle.changes.specs.Words.{new_count}
use Rattle.views.specs.Section.{views_count}

-- after the setup's words: own number and view
abbrev pub own_at : ℕ → ℕ → ℕ
own_at front n = setup_words front n

-- the rows of the previous read
abbrev pub rows_at : ℕ → ℕ → ℕ
rows_at front n = own_at front n + 1

-- the latest syndrome
abbrev pub latest_at : ℕ → ℕ → ℕ
latest_at front n = rows_at front n + n

-- the syndrome before it
abbrev pub earlier_at : ℕ → ℕ → ℕ
earlier_at front n = latest_at front n + 1

-- the accounts: the penalties, or, where the setup fades, the scores, two words each
abbrev pub accounts_at : ℕ → ℕ → ℕ
accounts_at front n = earlier_at front n + 1

-- the rewards, after n penalties
abbrev pub rewards_at : ℕ → ℕ → ℕ
rewards_at front n = accounts_at front n + n

-- the return counts, after two words of account a module
abbrev pub returns_at : ℕ → ℕ → ℕ
returns_at front n = rewards_at front n + n

-- the rounds left until a pending change takes effect, 0 where none is pending; its new words follow
abbrev pub left_at : ℕ → ℕ → ℕ
left_at front n = returns_at front n + n

-- how many bytes stand before it
abbrev pub before_left : ℕ → ℕ → ℕ
before_left front n = left_at front n * 4

-- the views of a partitionable setup, after the rounds left and the new words
abbrev pub views_at : ℕ → ℕ → ℕ → ℕ
views_at front n left = left_at front n + 1 + new_count n left

-- how many words an image has, by the rounds left and whether its setup is partitionable
abbrev pub image_words : ℕ → ℕ → ℕ → Bool → ℕ
image_words front n left partitionable = views_at front n left + views_count partitionable n

-- and how many bytes
abbrev pub image_length : ℕ → ℕ → ℕ → Bool → ℕ
image_length front n left partitionable = image_words front n left partitionable * 4
