-- The accounts of the modules: their sections in their order, by counts or by scores, what all of them are read as and written as. (document 01,
-- "What runs", kinds 13 and 14; the return counts stand in Returns.antt, the scores in Scores.antt)
use Rattle.std.specs.Prelude.{◌≡◌, ℕ, ◌+◌, Bool, true, false, not, ◌&&◌, ◌||◌, List, [], ◌∷◌, map, length, replicate, ◌==◌, nat_le, nat_lt}
use Rattle.std.specs.Bool.{beq}
use mathlib.Core.List.{foldr}
use Rattle.words.specs.Word.{word_at}
use Rattle.words.specs.Verdict.{Test}
use Rattle.words.specs.Runs.{Run}
use Rattle.words.specs.Array.{bounded}
use Rattle.doubles.specs.Array.{zeros, clear_doubles}
use Rattle.setup.specs.Layout.{front_words}
use Rattle.accounts.specs.declared.Counters.{Counters}
use Rattle.image.specs.Layout.{own_at, accounts_at, rewards_at}
use Rattle.image.specs.Words.{view_in}
use Rattle.image.specs.CounterSection.{CounterSection, Each, section_test, values_in, section_run, section_roomy}
use Rattle.image.specs.Returns.{return_counts}
use Rattle.image.specs.Scores.{score_tests, scores_in, score_run}

-- a penalty, in 20..0 of its word: at most P + criticality; in the view exactly where it is not over P
abbrev pub penalty_fits : ℕ → ℕ → Bool → ℕ → Bool
penalty_fits p criticality present penalty = nat_le penalty (p + criticality) && beq present (nat_le penalty p)

-- kind 13
abbrev pub penalties : CounterSection
penalties =
    record { kind = 13; at = accounts_at; values = λ c. c.penalty; fits = λ b v. penalty_fits b.p b.criticality b.present v }

-- a reward, in 22..0 of its word: below R, and 0 where the penalty is 0
abbrev pub reward_fits : ℕ → ℕ → ℕ → Bool
reward_fits r penalty reward = nat_lt reward r && (reward == 0 || not (penalty == 0))

-- kind 14
abbrev pub rewards : CounterSection
rewards = record { kind = 14; at = rewards_at; values = λ c. c.reward; fits = λ b v. reward_fits b.r b.penalty v }

-- the sections of counters of a setup that counts, in the order of their places
abbrev pub counter_sections : List CounterSection
counter_sections = penalties ∷ rewards ∷ return_counts ∷ []

-- ---- of all sections, of a setup that fades or counts

-- number 8 at the first wrong word, section after section
abbrev pub counter_tests : Bool → (ℕ → ℕ) → ℕ → List Test
counter_tests true w n = score_tests w (front_words true) n ∷ section_test w (front_words true) n return_counts ∷ []
counter_tests false w n = map (section_test w (front_words false) n) counter_sections

-- read, with the view from the word of the own number; what the form does not have is 0
unfoldable pub counters_in : Bool → List ℕ → ℕ → Counters
counters_in true s n = record {
  view = view_in (word_at s (own_at (front_words true) n));
  penalty = replicate 16 0;
  reward = replicate 16 0;
  score = scores_in s (front_words true) n;
  returns = values_in s (front_words true) n return_counts;
}
counters_in false s n = record {
  view = view_in (word_at s (own_at (front_words false) n));
  penalty = values_in s (front_words false) n penalties;
  reward = values_in s (front_words false) n rewards;
  score = zeros;
  returns = values_in s (front_words false) n return_counts;
}

-- written
abbrev pub counter_runs : Bool → ℕ → Counters → List Run
counter_runs true n c = score_run n c ∷ section_run n c return_counts ∷ []
counter_runs false n c = map (section_run n c) counter_sections

-- no account has grown yet
abbrev pub zero_counters : ℕ → Counters
zero_counters view = record { view = view; penalty = replicate 16 0; reward = replicate 16 0; score = zeros; returns = replicate 16 0 }

-- the arrays have 16 entries, as those of the struct have
unfoldable pub ShapedCounters : Counters → Type 0
ShapedCounters c = Each (λ x. length (x.values c) ≡ 16) counter_sections × (length c.score ≡ 16)

-- every counter has room in its word, the scores are doubles, and what is not in use is 0: the entries from n on, and what the form does not have
unfoldable pub counters_roomy : Bool → ℕ → Counters → Bool
counters_roomy true n c = (bounded 0 0 c.penalty && bounded 0 0 c.reward) && (clear_doubles n c.score && section_roomy n c return_counts)
counters_roomy false n c = foldr (λ x roomy. section_roomy n c x && roomy) (clear_doubles 0 c.score) counter_sections
