-- The fault limit as the code counts it.
use Prim.Native.Nat.{ℕ, ◌+◌, ◌*◌}
use mathlib.Core.Path.{◌≡◌, refl, sym, ap₂, ◌∙◌}
use mathlib.Core.Bool.{Bool, true, false, not, ◌&&◌, ◌||◌}
use lib.Dec.{eqb, leb, ltb}
use Rattle.words.specs.Bits.{bit}
use Rattle.words.specs.Count.{count}
use Rattle.agreement.specs.Fault.{Senders, follows_in, half_in, breaker_in, unheard_in, within, kept_over}

not-not : (b : Bool) → not (not b) ≡ b
not-not true = refl
not-not false = refl

-- what is asked of module j + 1 in a turn: whether it is in the view, heard in the round and in the one before, half heard in either, in the cast
module _ (cast view : ℕ) (h h' : Senders) (j : ℕ) {counts here there half half' breaks : Bool} (v : counts ≡ bit view j)
    (p : here ≡ h.heard j) (p' : there ≡ h'.heard j) (q : half ≡ h.half j) (q' : half' ≡ h'.half j) (c : breaks ≡ bit cast j) where
  pub half-turn : half || half' ≡ half_in h h' j
  unfolding half_in
  half-turn = ap₂ (λ (x y : Bool). x || y) q q'

  breaker-is : not (half || half') && (breaks && (here || there)) ≡ breaker_in (follows_in cast) h h' j
  unfolding breaker_in
  breaker-is =
      ap₂ (λ (x y : Bool). not x && y) half-turn
      (ap₂ (λ (x y : Bool). x && y) (c ∙ sym (not-not (bit cast j))) (ap₂ (λ (x y : Bool). x || y) p p'))

  pub breaker-turn : counts && (not (half || half') && (breaks && (here || there))) ≡ bit view j && breaker_in (follows_in cast) h h' j
  breaker-turn = ap₂ (λ (x y : Bool). x && y) v breaker-is

  pub unheard-turn : counts && (not (half || half') && (not (not (half || half') && (breaks && (here || there))) && (not here || not there)))
      ≡ bit view j && unheard_in (follows_in cast) h h' j
  unfolding unheard_in
  unheard-turn =
      ap₂ (λ (x y : Bool). x && y) v
      (ap₂ (λ (x y : Bool). not x && y) half-turn
      (ap₂ (λ (x y : Bool). not x && y) breaker-is (ap₂ (λ (x y : Bool). not x || not y) p p')))

-- the counts after the last turn
pub kept-end : {n j m a s b : ℕ} (follows in_view : ℕ → Bool) (h h' : Senders) → j ≡ n → m ≡ count j in_view → a ≡ count j (half_in h h')
    → s ≡ count j (λ l. in_view l && breaker_in follows h h' l) → b ≡ count j (λ l. in_view l && unheard_in follows h h' l)
    → eqb (a + s) 0 || (leb a 1 && ltb (2 * a + 2 * s + b + 1) m) ≡ kept_over n follows in_view h h'
unfolding kept_over within
kept-end follows in_view h h' e em ea es eb = rw (em, ea, es, eb, e) refl
