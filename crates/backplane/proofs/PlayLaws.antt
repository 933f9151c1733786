-- A backplane put together from what the functions of a round answer.
use Prim.Native.Nat.{ℕ, ◌+◌, ◌<◌, ◌≤◌}
use mathlib.Core.Path.{◌≡◌, refl, sym, ap, ap₂, ◌∙◌}
use mathlib.Core.Bool.{Bool, true, false, cond, ◌&&◌}
use mathlib.Core.List.{List, ◌++◌}
use Rattle.std.proofs.Common.{Result, Ok, Err}
use Rattle.std.specs.Result.{result_unwrap_or}
use Rattle.std.proofs.lemmas.List.{set-get_or}
use native.Mathlib.Omega.{arith}
use native.Mathlib.Nat.{le_refl}
use lib.ListN.{get_or, set, length, length-append, take}
use lib.Seq.{take-append_seam}
use Rattle.words.specs.Bits.{bit, full}
use Rattle.words.specs.Array.{array}
use Rattle.words.specs.Table.{updated}
use Rattle.words.specs.declared.Refusal.{Refusal}
use Rattle.words.proofs.ArrayLaws.{array-step, array-above}
use Rattle.words.proofs.TableLaws.{updated-step, updated-above, get_or-there}
use Rattle.setup.specs.declared.Setup.{Setup}
use Rattle.rules.specs.Lag.{skewed}
use Rattle.views.specs.ViewWord.{read_words}
use Rattle.presence.specs.Opening.{Opened, blank, opened_told}
use Rattle.presence.specs.declared.State.{State}
use Rattle.presence.specs.Step.{Stepped, stepped_told}
use Rattle.presence.specs.declared.Round.{Round}
use Rattle.script.specs.declared.Events.{Events}
use Rattle.agreement.specs.Fault.{follows_in, kept_over}
use Rattle.bus.specs.Bus.{faultless, arrived}
use Rattle.bus.specs.Senders.{hearing_of, senders_in}
use Rattle.backplane.specs.Play.{opened_states, opened, sent_words, sent_views, stepped_states, answered_health, earlier, followers_view, counting_view, played}
use Rattle.bus.specs.declared.Bus.{Bus}
use Rattle.bus.specs.declared.Hearing.{Hearing}
use Rattle.backplane.specs.declared.Backplane.{Backplane}

-- in turn i of a loop that steps the modules, module i + 1 is still as it was
pub not-yet-stepped : (i : ℕ) (f : ℕ → State) (before now : List State) (d : State) → now ≡ updated i f before → i < length before
    → get_or now i d ≡ get_or before i blank
not-yet-stepped i f before now d e h =
    ap (λ (l : List State). get_or l i d) e ∙ updated-above i f before i d (le_refl i) ∙ get_or-there before i d blank h

-- ---- the front part of a buffer that was filled

pub front_fits : {k : ℕ} (front rest : List ℕ) → length front ≡ k → k ≤ length (front ++ rest)
front_fits front rest e = rw (length-append front rest) (omega (arith, e))

pub front-taken : {k : ℕ} (front rest : List ℕ) → length front ≡ k → take k (front ++ rest) ≡ front
front-taken front rest e = rw (← e) (take-append_seam front rest)

-- a module that is opened, or blank where that is refused
opened_or : (r : Result State Refusal) → result_unwrap_or r blank ≡ (opened_told r).state
opened_or (Ok state) = refl
opened_or (Err e) = refl

pub opened-or : {state none : State} {o : Opened} (r : Result State Refusal) → state ≡ result_unwrap_or r none → none ≡ blank → opened_told r ≡ o → state ≡ o.state
opened-or r e b h = e ∙ ap (result_unwrap_or r) b ∙ opened_or r ∙ ap (λ (o : Opened). o.state) h

-- ---- a turn of the loop that steps the modules, in which the step of module i + 1 answers r

module _ (r : Result Round Refusal) (answer : ℕ → Stepped) (i : ℕ) (st : State) (e : stepped_told st r ≡ answer i) where
  -- it is accepted
  pub state-stepped : {now : List State} {x : Round} (before : List State) → r ≡ Ok x → now ≡ updated i (λ k. (answer k).state) before
      → set now i x.state ≡ updated (i + 1) (λ k. (answer k).state) before
  state-stepped before k h = updated-step i (λ k. (answer k).state) before h (ap (λ (t : Stepped). t.state) (ap (stepped_told st) (sym k) ∙ e))

  pub health-stepped : {now : List ℕ} {x : Round} → r ≡ Ok x → now ≡ array i (λ k. (answer k).health) → set now i x.health ≡ array (i + 1) (λ k. (answer k).health)
  health-stepped k h = array-step i (λ k. (answer k).health) h (ap (λ (t : Stepped). t.health) (ap (stepped_told st) (sym k) ∙ e))

  -- it is refused
  pub state-kept : {now : List State} {x : Refusal} (d : State) (before : List State) → r ≡ Err x → get_or now i d ≡ st → now ≡ updated i (λ k. (answer k).state) before
      → now ≡ updated (i + 1) (λ k. (answer k).state) before
  state-kept {now} {x} d before k g h =
      sym (set-get_or now i d) ∙ updated-step i (λ k. (answer k).state) before h (g ∙ ap (λ (t : Stepped). t.state) (ap (stepped_told st) (sym k) ∙ e))

  pub health-none : {now : List ℕ} {x : Refusal} → i < 16 → r ≡ Err x → now ≡ array i (λ k. (answer k).health) → now ≡ array (i + 1) (λ k. (answer k).health)
  health-none {now} l k h =
      let z : get_or now i 0 ≡ 0 = ap (λ (a : List ℕ). get_or a i 0) h ∙ array-above i (λ k. (answer k).health) i (le_refl i) l in
      sym (set-get_or now i 0) ∙ array-step i (λ k. (answer k).health) h (z ∙ ap (λ (t : Stepped). t.health) (ap (stepped_told st) (sym k) ∙ e))

-- a read has at most 32 words
pub read-most : (partitionable : Bool) (n : ℕ) → n ≤ 16 → read_words partitionable n ≤ 32
read-most true n h = omega arith
read-most false n h = omega arith

-- opened
module _ (s : Setup) (cast : ℕ) where
  abbrev first : List State → List ℕ → Bus → Hearing → Backplane
  first states health bus hearing = record {
    setup = s;
    cast = cast;
    round = 0;
    states = states;
    health = health;
    bus = bus;
    hearing = hearing;
    before = hearing;
    kept = true;
  }

  pub open_made : {states : List State} {health : List ℕ} {bus : Bus} {hearing : Hearing} → states ≡ opened_states s → health ≡ array s.n (λ i. full s.n)
      → bus ≡ faultless s.n → hearing ≡ hearing_of s.n cast bus → first states health bus hearing ≡ opened s cast
  unfolding opened
  open_made {states} {health} {bus} {hearing} e1 e2 e3 e4 =
      ap₂ (λ (x : List State) (y : List ℕ). first x y bus hearing) e1 e2
      ∙ ap₂ (λ (x : Bus) (y : Hearing). first (opened_states s) (array s.n (λ i. full s.n)) x y) e3 (e4 ∙ ap (hearing_of s.n cast) e3)

-- the view by which rows are counted, from the two that are at hand
pub counting-made : (b : Backplane) (after : List State) {skew : Bool} {x y r : ℕ} → r ≡ cond skew x y → skew ≡ skewed b.setup.n b.setup.places
    → x ≡ followers_view b.setup.n b.cast after → y ≡ followers_view b.setup.n b.cast b.states → r ≡ counting_view b after
unfolding counting_view
counting-made b after {skew} {x} {y} {r} e s p q =
    e ∙ ap (λ (t : Bool). cond t x y) s ∙ ap₂ (λ (v w : ℕ). cond (skewed b.setup.n b.setup.places) v w) p q

-- played
module _ (b : Backplane) (e : Events) where
  abbrev next : List State → List ℕ → Bus → Hearing → Bool → Backplane
  next states health bus hearing kept = record {
    setup = b.setup;
    cast = b.cast;
    round = b.round + 1;
    states = states;
    health = health;
    bus = bus;
    hearing = hearing;
    before = b.hearing;
    kept = b.kept && kept;
  }

  abbrev states : Bus → List State
  states x = stepped_states b.setup b.states x b.bus

  abbrev health : Bus → List ℕ
  health x = answered_health b.setup b.states x b.bus

  abbrev limit_of : ℕ → Hearing → Hearing → Bool
  limit_of view h h' = kept_over b.setup.n (follows_in b.cast) (bit view) (senders_in h) (senders_in h')

  abbrev this : Bus
  this = arrived b.setup.n (sent_words b.setup.n b.states) (sent_views b.setup.n b.states) e

  pub play-made : {stepped : List State} {answered : List ℕ} {sent views : List ℕ} {bus : Bus} {hearing then : Hearing} {view : ℕ} {kept : Bool}
      → sent ≡ sent_words b.setup.n b.states → views ≡ sent_views b.setup.n b.states → bus ≡ arrived b.setup.n sent views e
      → stepped ≡ stepped_states b.setup b.states bus b.bus → answered ≡ answered_health b.setup b.states bus b.bus → hearing ≡ hearing_of b.setup.n b.cast bus
      → view ≡ counting_view b stepped → then ≡ earlier b → kept ≡ limit_of view hearing then
      → next stepped answered bus hearing kept ≡ played b e
  unfolding played
  play-made {stepped} {answered} {sent} {views} {bus} {hearing} {then} {view} {kept} e0 e0' e1 e2 e3 e4 v e5 e6 =
      let n = b.setup.n in
      let q : bus ≡ this = e1 ∙ ap₂ (λ (x y : List ℕ). arrived n x y e) e0 e0' in
      let h : hearing ≡ hearing_of n b.cast this = e4 ∙ ap (hearing_of n b.cast) q in
      let w : view ≡ counting_view b (states this) = v ∙ ap (counting_view b) (e2 ∙ ap states q) in
      ap₂ (λ (x : List State) (y : List ℕ). next x y bus hearing kept) (e2 ∙ ap states q) (e3 ∙ ap health q)
      ∙ ap₂ (λ (x : Bus) (y : Hearing). next (states this) (health this) x y kept) q h
      ∙ ap (λ (x : Bool). next (states this) (health this) this (hearing_of n b.cast this) x) (e6 ∙ ap (λ (x : ℕ). limit_of x hearing then) w ∙ ap₂ (limit_of (counting_view b (states this))) h e5)
