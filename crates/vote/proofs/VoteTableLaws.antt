-- The vote table: its rule, for all entries together, and what an entry decides.
use Prim.Native.Nat.{ℕ, ◌+◌, ◌-◌, ◌*◌, ◌/◌, ◌%◌, ◌≤◌, ◌<◌}
use mathlib.Core.Path.{◌≡◌, refl, ap, ap₂, sym, subst, ◌∙◌}
use mathlib.Core.Logic.{◌⊎◌, inl, inr, ⊎_elim, ◌↔◌}
use mathlib.Core.Bool.{Bool, true, false, cond, ◌&&◌, ◌||◌}
use mathlib.Core.List.{List}
use native.Mathlib.Omega.{arith}
use lib.ListN.{get_or, length}
use lib.Dec.{eqb, leb}
use borrow.Author.Tests.{le-leb, leb-true, leb-false, eqb-true, eqb-false}
use Rattle.words.proofs.Truth.{which}
use Rattle.words.proofs.TableLaws.{table-length, table_at}
use Rattle.vote.specs.Vote.{decision}
use Rattle.vote.specs.VoteTable.{empty, impossible, good, bad, table_entry, vote_table, entry_at, TableRule}

-- the entry at place k
abbrev entry_of_place : ℕ → ℕ
entry_of_place k = table_entry (k / 16) (k % 16)

pub vote-table-length : length vote_table ≡ 256
unfolding vote_table
vote-table-length = table-length entry_of_place

entry-at : (votes ones : ℕ) → votes ≤ 15 → ones ≤ 15 → entry_at votes ones ≡ table_entry votes ones
unfolding vote_table
entry-at votes ones hv ho =
    let row : (votes * 16 + ones) / 16 ≡ votes = omega arith in
    let place : (votes * 16 + ones) % 16 ≡ ones = omega arith in
    table_at entry_of_place (votes * 16 + ones) (omega arith) ∙ ap₂ table_entry row place

-- what an entry says, with the own syndrome's bit where nobody votes
abbrev said : ℕ → Bool → Bool
said entry own = cond (eqb entry empty) own (eqb entry good)

said-decision : (votes ones : ℕ) (own : Bool) → ones ≤ votes → said (table_entry votes ones) own ≡ decision votes ones own
unfolding decision table_entry
said-decision votes ones own h = rw (le-leb ones votes h) (go (eqb votes 0) (leb (votes - ones) ones) own)
  where
    go : (none more own : Bool) → said (cond none empty (cond more good bad)) own ≡ cond none own more
    go true more own = refl
    go false true own = refl
    go false false own = refl

-- the same without a choice, as the code has it
pub said-by-tests : (entry : ℕ) (own : Bool) → ((eqb entry empty && own) || eqb entry good) ≡ said entry own
said-by-tests entry own = go (which (eqb entry empty))
  where
    here : (own : Bool) → ((eqb empty empty && own) || eqb empty good) ≡ said empty own
    here true = refl
    here false = refl

    go : (eqb entry empty ≡ true) ⊎ (eqb entry empty ≡ false) → ((eqb entry empty && own) || eqb entry good) ≡ said entry own
    go (inl e) = let at : entry ≡ empty = eqb-true entry empty e in subst (λ (x : ℕ). ((eqb x empty && own) || eqb x good) ≡ said x own) (sym at) (here own)
    go (inr e) = rw e refl

pub decided : {t : List ℕ} (votes ones : ℕ) (own : Bool) → t ≡ vote_table → votes ≤ 15 → ones ≤ votes
    → said (get_or t (votes * 16 + ones) 0) own ≡ decision votes ones own
decided votes ones own e hv ho =
    ap (λ (l : List ℕ). said (get_or l (votes * 16 + ones) 0) own) e
    ∙ ap (λ (x : ℕ). said x own) (entry-at votes ones hv (omega arith))
    ∙ said-decision votes ones own ho

-- ---- which pairs hold what

-- what an entry can be, and of which pairs
data Holds (votes ones : ℕ) : ℕ → Type 0 where
  is-empty : votes ≡ 0 → ones ≡ 0 → Holds votes ones empty
  is-impossible : votes < ones → Holds votes ones impossible
  is-good : 0 < votes → ones ≤ votes → votes - ones ≤ ones → Holds votes ones good
  is-bad : ones ≤ votes → ones < votes - ones → Holds votes ones bad

holds : (votes ones : ℕ) → Holds votes ones (table_entry votes ones)
unfolding table_entry
holds votes ones =
    ⊎_elim
    (λ (p : leb ones votes ≡ true).
    let le = leb-true ones votes p in
    ⊎_elim (λ (z : eqb votes 0 ≡ true). let e = eqb-true votes 0 z in rw (p, z) (is-empty e (omega arith)))
    (λ (s : eqb votes 0 ≡ false).
    let some : 0 < votes = some_of (eqb-false votes 0 s) in
    ⊎_elim (λ (g : leb (votes - ones) ones ≡ true). rw (p, s, g) (is-good some le (leb-true (votes - ones) ones g)))
    (λ (b : leb (votes - ones) ones ≡ false). rw (p, s, b) (is-bad le (leb-false (votes - ones) ones b))) (which (leb (votes - ones) ones)))
    (which (eqb votes 0)))
    (λ (f : leb ones votes ≡ false). rw f (is-impossible (leb-false ones votes f))) (which (leb ones votes))
  where
    some_of : (votes ≡ 0 → ⊥) → 0 < votes
    some_of h = omega arith

module _ {votes ones : ℕ} where
  holds-empty : {e : ℕ} → Holds votes ones e → (e ≡ empty) ↔ ((votes ≡ 0) × (ones ≡ 0))
  holds-empty (is-empty v o) = (λ h. (v, o), λ h. refl)
  holds-empty (is-impossible m) = (λ h. absurd (omega arith), λ h. absurd (omega arith))
  holds-empty (is-good s l m) = (λ h. absurd (omega arith), λ h. absurd (omega arith))
  holds-empty (is-bad l m) = (λ h. absurd (omega arith), λ h. absurd (omega arith))

  holds-impossible : {e : ℕ} → Holds votes ones e → (e ≡ impossible) ↔ (votes < ones)
  holds-impossible (is-empty v o) = (λ h. absurd (omega arith), λ h. absurd (omega arith))
  holds-impossible (is-impossible m) = (λ h. m, λ h. refl)
  holds-impossible (is-good s l m) = (λ h. absurd (omega arith), λ h. absurd (omega arith))
  holds-impossible (is-bad l m) = (λ h. absurd (omega arith), λ h. absurd (omega arith))

  holds-good : {e : ℕ} → Holds votes ones e → (e ≡ good) ↔ ((0 < votes) × (ones ≤ votes) × (votes - ones ≤ ones))
  holds-good (is-empty v o) = (λ h. absurd (omega arith), λ h. absurd (omega arith))
  holds-good (is-impossible m) = (λ h. absurd (omega arith), λ h. absurd (omega arith))
  holds-good (is-good s l m) = (λ h. (s, l, m), λ h. refl)
  holds-good (is-bad l m) = (λ h. absurd (omega arith), λ h. absurd (omega arith))

  holds-bad : {e : ℕ} → Holds votes ones e → (e ≡ bad) ↔ ((ones ≤ votes) × (ones < votes - ones))
  holds-bad (is-empty v o) = (λ h. absurd (omega arith), λ h. absurd (omega arith))
  holds-bad (is-impossible m) = (λ h. absurd (omega arith), λ h. absurd (omega arith))
  holds-bad (is-good s l m) = (λ h. absurd (omega arith), λ h. absurd (omega arith))
  holds-bad (is-bad l m) = (λ h. (l, m), λ h. refl)

  holds-one : {e : ℕ} → Holds votes ones e → (e ≡ empty) ⊎ ((e ≡ impossible) ⊎ ((e ≡ good) ⊎ (e ≡ bad)))
  holds-one (is-empty v o) = inl refl
  holds-one (is-impossible m) = inr (inl refl)
  holds-one (is-good s l m) = inr (inr (inl refl))
  holds-one (is-bad l m) = inr (inr (inr refl))

holds_at : (votes ones : ℕ) → votes < 16 → ones < 16 → Holds votes ones (entry_at votes ones)
holds_at votes ones hv ho = rw (entry-at votes ones (omega arith) (omega arith)) (holds votes ones)

pub table-rule : TableRule
table-rule = record {
  entries = vote-table-length;
  told-apart = (λ h. omega arith, λ h. omega arith, λ h. omega arith, λ h. omega arith, λ h. omega arith, λ h. omega arith);
  empty-at = λ votes ones hv ho. holds-empty (holds_at votes ones hv ho);
  impossible-at = λ votes ones hv ho. holds-impossible (holds_at votes ones hv ho);
  good-at = λ votes ones hv ho. holds-good (holds_at votes ones hv ho);
  bad-at = λ votes ones hv ho. holds-bad (holds_at votes ones hv ho);
  one-of-four = λ votes ones hv ho. holds-one (holds_at votes ones hv ho);
}
