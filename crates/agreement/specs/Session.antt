-- A session: an accepted setup, any cast, for each round, sender and rule-follower a controller bit and a word of any bits, and the changes of limits
-- that each module is offered between its steps; where the setup is partitionable, beside each word a view word. (document 01, "A session"; the fault
-- limit as document 02, E4, has it; changes by document 02, E10; view words by document 02, E11)
-- A module is its number less one here: i, j and l stand for modules i + 1, j + 1 and l + 1.
-- Rounds are 1, 2 and on. Round 0 stands for every round before 1, in which all hear all, with all-ones words and full views: so a difference of
-- rounds such as k - u - 1, which stops at 0, is right as it stands.
use Rattle.std.specs.Prelude.{ℕ, zero, suc, ◌+◌, ◌-◌, ◌≤◌, ◌<◌, ◌≡◌, Bool, true, cond, not, ◌&&◌, List, [], ◌∷◌, ◌++◌, ltb, get_or}
use Rattle.words.specs.Word.{bytes_of}
use Rattle.words.specs.Bits.{bit, pack, full}
use Rattle.setup.specs.Check.{setup_verdict}
use Rattle.setup.specs.declared.Setup.{Setup}
use Rattle.rules.specs.Lag.{lag}
use Rattle.rules.specs.Hearing.{bus_word, entry_of}
use Rattle.views.specs.ViewWord.{view_word, view_word_heard}
use Rattle.presence.specs.Opening.{open_of}
use Rattle.presence.specs.Step.{step_of}
use Rattle.presence.specs.Change.{change_of}
use Rattle.presence.specs.declared.State.{State}
use Rattle.presence.specs.Step.{Stepped}
use Rattle.agreement.specs.Fault.{Round, follows_in, first_follower, half, heard, limit}

-- a change that is offered: a whole setup with new P, R and criticalities, and how many rounds ahead it takes the old one's place
pub record Offer : Type 0 where
  pub setup : Setup
  pub lead : ℕ

-- one change after the other; a refused one leaves the state as it was
unfoldable pub made : List Offer → State → State
made [] st = st
made (o ∷ os) st = made os (change_of st o.setup o.lead).state

-- what a session holds; that its setup is accepted and its words are bound is said by `Accepted` and `Bound`
pub record Session : Type 0 where
  pub setup : Setup
  -- the rule-breakers, as a vector: bit j is module j + 1
  pub cast : ℕ
  -- by round, receiver and sender: the controller bit. What stands for round 0 is not looked at.
  pub controller : ℕ → ℕ → ℕ → Bool
  -- the word, of any bits, by the same
  pub word : ℕ → ℕ → ℕ → ℕ
  -- the view word, of any bits, by the same. It is looked at only where the setup is partitionable.
  pub view : ℕ → ℕ → ℕ → ℕ
  -- by round k and module: the changes, refused ones too, that it is offered after its step k - 1, for k = 1 its opening, and before its step k, in
  -- their order. What stands for round 0 is not looked at.
  pub offers : ℕ → ℕ → List Offer

module _ (S : Session) where
  -- the setup is one that opening accepts
  abbrev pub Accepted : Type 0
  Accepted = (setup_verdict S.setup).number ≡ 0

  -- its head bit 5 is set: each module also sends a view word (document 02, E11)
  abbrev pub Partitionable : Type 0
  Partitionable = S.setup.partitionable ≡ true

  -- N
  abbrev pub size : ℕ
  size = S.setup.n

  -- u, by rule 1
  abbrev pub u : ℕ
  u = lag size S.setup.places

  -- i is not in the cast
  abbrev pub follows : ℕ → Bool
  follows = follows_in S.cast

  -- i is one of the N modules, and not in the cast
  pub record RuleFollower (i : ℕ) : Type 0 where
    pub below : i < size
    pub true-to : follows i ≡ true

  -- ---- what is heard

  -- the controller bit that receiver i has of sender j in round k; before round 1 it is 1
  unfoldable pub bit_in : ℕ → ℕ → ℕ → Bool
  bit_in zero i j = true
  bit_in (suc k) i j = S.controller (suc k) i j

  -- the word that receiver i has of sender j in round k; before round 1 it is the all-ones word
  unfoldable pub word_in : ℕ → ℕ → ℕ → ℕ
  word_in zero i j = bus_word (full size)
  word_in (suc k) i j = S.word (suc k) i j

  -- the view word that receiver i has of sender j in round k; before round 1 it is that of the full view
  unfoldable pub view_word_in : ℕ → ℕ → ℕ → ℕ
  view_word_in zero i j = view_word (full size)
  view_word_in (suc k) i j = S.view (suc k) i j

  -- Receiver i hears the view word of sender j in round k. "One controller bit covers a module's two words, and either word, if of another form, is
  -- missing by itself."
  unfoldable pub hears_view : ℕ → ℕ → ℕ → Bool
  hears_view k i j = bit_in k i j && view_word_heard size (view_word_in k i j)

  -- round k as it is heard, by rule 2 on these bits and words; of view words the rules and the fault limit see nothing
  abbrev pub round : ℕ → Round
  round k = record { hears = λ i j. (entry_of size (bit_in k i j) (word_in k i j)).heard; word = word_in k }

  -- ---- what is read: rule 3

  -- the round from which module i has entry j in its read of round k: k where j + 1 is at most its read place, else k - 1
  unfoldable pub read_round : ℕ → ℕ → ℕ → ℕ
  read_round i k j = cond (ltb j (get_or S.setup.places i 0)) k (k - 1)

  -- the controller bits of module i's read of round k
  abbrev pub read_bits : ℕ → ℕ → ℕ
  read_bits i k = pack size (λ j. bit_in (read_round i k j) i j)

  -- the words of the same read, as the bytes that its step is lent
  abbrev pub syndrome_bytes : ℕ → ℕ → List ℕ
  syndrome_bytes i k = bytes_of size (λ j. word_in (read_round i k j) i j)

  -- its view words, each of the same round as the word of the same sender: "aligned and delayed like syndromes"
  abbrev pub view_bytes : ℕ → ℕ → List ℕ
  view_bytes i k = bytes_of size (λ j. view_word_in (read_round i k j) i j)

  -- the whole read: N words, and where the setup is partitionable "2N words, syndromes first"
  abbrev pub read_bytes : ℕ → ℕ → List ℕ
  read_bytes i k = cond S.setup.partitionable (syndrome_bytes i k ++ view_bytes i k) (syndrome_bytes i k)

  -- ---- what a module makes of it: opened with its own number, then one step a round, after the changes that it is offered before it

  -- what step k of module i answers, from the state st that it then holds
  abbrev pub answer_at : ℕ → ℕ → State → Stepped
  answer_at i k st = step_of st (read_bytes i k) (read_bits i k)

  -- the state of module i after its steps 1 to k; for k = 0 the one that its opening returned
  unfoldable pub state : ℕ → ℕ → State
  state i zero = (open_of S.setup (i + 1)).state
  state i (suc k) = (answer_at i (suc k) (made (S.offers (suc k) i) (state i k))).state

  -- the same, after the changes that lie before step k + 1: what that step is made from
  abbrev pub ready : ℕ → ℕ → State
  ready i k = made (S.offers (suc k) i) (state i k)

  -- the health vector that module i answers in step k; all ones before the first step
  unfoldable pub health : ℕ → ℕ → ℕ
  health i zero = full size
  health i (suc k) = (answer_at i (suc k) (ready i k)).health

  -- ---- which changes are accepted

  -- Module i accepts the change o after its step k, for k = 0 its opening, and before its step k + 1: those offered before it leave a state that
  -- accepts it.
  pub record Accepts (i k : ℕ) (o : Offer) : Type 0 where
    pub before : List Offer
    pub later : List Offer
    pub offered : S.offers (suc k) i ≡ before ++ (o ∷ later)
    pub taken : (change_of (made before (state i k)) o.setup o.lead).number ≡ 0

  -- Up to round `last`: every change that one rule-follower accepts is accepted by all of them, with the same words and lead, between the same two
  -- steps. Of refused changes nothing is asked.
  abbrev pub Common : ℕ → Type 0
  Common last = (k i i' : ℕ) (o : Offer) → k < last → RuleFollower i → RuleFollower i' → Accepts i k o → Accepts i' k o

  -- ---- what is sent

  -- the word that module i hands out in step k; before the first step the all-ones word
  unfoldable pub handed : ℕ → ℕ → ℕ
  handed i zero = bus_word (full size)
  handed i (suc k) = (answer_at i (suc k) (ready i k)).word

  -- the word that module i sends in round k: handed out in that round's step with the send mark, else in the step of the round before
  unfoldable pub sent : ℕ → ℕ → ℕ
  sent i k = cond (bit S.setup.marks i) (handed i k) (handed i (k - 1))

  -- The one thing that binds a session, up to round `last`: a heard word of a rule-follower is the one it handed out for that round.
  abbrev pub Bound : ℕ → Type 0
  Bound last = (k i l : ℕ) → 0 < k → k ≤ last → RuleFollower i → RuleFollower l → (round k).hears i l ≡ true → word_in k i l ≡ sent l k

  -- the view word that module i hands out in step k, its second word; before the first step that of the full view. There is none, 0, where the setup
  -- is not partitionable.
  unfoldable pub view_word_handed : ℕ → ℕ → ℕ
  view_word_handed i zero = cond S.setup.partitionable (view_word (full size)) 0
  view_word_handed i (suc k) = (answer_at i (suc k) (ready i k)).second

  -- the view word that module i sends in round k, handed out in the same step as its word
  unfoldable pub view_word_sent : ℕ → ℕ → ℕ
  view_word_sent i k = cond (bit S.setup.marks i) (view_word_handed i k) (view_word_handed i (k - 1))

  -- The same of view words, where the setup is partitionable: a heard view word of a rule-follower is the one it handed out for that round. Neither demand
  -- 3 nor what is promised of adopted views asks for it.
  abbrev pub BoundViews : ℕ → Type 0
  BoundViews last =
      Partitionable → (k i l : ℕ) → 0 < k → k ≤ last → RuleFollower i → RuleFollower l → hears_view k i l ≡ true → view_word_in k i l ≡ view_word_sent l k

  -- ---- the fault limit, by round

  -- no rule-follower hears sender j in round k
  abbrev pub unheard : ℕ → ℕ → Bool
  unheard k j = not (heard size follows (round k) j)

  -- two rule-followers differ in hearing sender j in round k, or both hear it with different words
  abbrev pub half_heard : ℕ → ℕ → Bool
  half_heard k j = half size follows (round k) j

  -- the view that module i holds at the end of round k; a change that is then pending has not touched it
  abbrev pub view_of : ℕ → ℕ → ℕ
  view_of i k = (state i k).counters.view

  -- the limit is kept for round ρ, over rounds ρ and ρ - u - 1, with N, s and b taken over the view that module i holds at the end of round ρ + u - 1
  unfoldable pub kept_by : ℕ → ℕ → Bool
  kept_by i ρ = limit size follows (bit (view_of i (ρ + u - 1))) (round ρ) (round (ρ - u - 1))

  -- The limit for round ρ by the rule-followers' view, which is that of the lowest of them: as long as the limit was kept for the rounds before ρ
  -- all of them hold the same (`one-view` of Demand.antt). Where there is none it does not matter whose view is taken, since then a and s are 0.
  abbrev pub kept : ℕ → Bool
  kept ρ = kept_by (first_follower size follows) ρ
