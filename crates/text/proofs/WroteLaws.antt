-- Laws of text written at a place: a byte, nothing, and one text after another.
use mathlib.Core.Path.{◌≡◌, ap, ◌∙◌, sym}
use mathlib.Core.List.{List, [], ◌∷◌, ◌++◌, append-nil, append_assoc}
use Prim.Native.Nat.{ℕ, suc, ◌+◌, ◌<◌, ◌≤◌}
use native.Mathlib.Omega.{arith}
use native.Mathlib.Numerals.{add-one}
use lib.ListN.{length, take, drop, set, length-append, length-drop, take-append-drop}
use lib.Seq.{length-take-le, take_at, drop-append-add, drop-drop, set_split, append_snoc}
use Rattle.text.specs.Wrote.{Wrote}

-- no text
pub wrote_none : (o : List ℕ) (p : ℕ) → p ≤ length o → Wrote o p [] o p
wrote_none o p h =
    record {
      next = omega arith;
      room = h;
      bytes = sym (ap (λ (x : List ℕ). x ++ drop p o) (append-nil (take p o)) ∙ take-append-drop p o);
    }

-- one byte
pub wrote-byte : (o : List ℕ) (p b : ℕ) {r : ℕ} → p < length o → r ≡ p + 1 → Wrote o p (b ∷ []) (set o p b) r
wrote-byte o p b h e =
    record {
      next = e;
      room = omega arith;
      bytes = set_split o p b h ∙ sym (append_snoc (take p o) b (drop (suc p) o)) ∙ rw (e, add-one);
    }

module _ {a b : List ℕ} {p q : ℕ} {s : List ℕ} (w : Wrote a p s b q) where
  upto : length (take p a ++ s) ≡ q
  upto =
      let h : length (take p a) ≡ p = length-take-le p a (omega (arith, w.next, w.room)) in
      length-append (take p a) s ∙ omega (arith, h, w.next)

  -- what stands before the next place
  pub wrote-front : take q b ≡ take p a ++ s
  wrote-front = ap (take q) w.bytes ∙ take_at (take p a ++ s) (drop q a) q upto

  -- what stands after it
  pub wrote-rest : (k : ℕ) → drop (q + k) b ≡ drop (q + k) a
  wrote-rest k =
      ap (drop (q + k)) w.bytes
      ∙ ap (λ (x : ℕ). drop (x + k) (take p a ++ s ++ drop q a)) (sym upto)
      ∙ drop-append-add (take p a ++ s) (drop q a) k
      ∙ drop-drop k q a

  pub wrote-length : length b ≡ length a
  wrote-length =
      ap length w.bytes ∙ length-append (take p a ++ s) (drop q a) ∙ rw (upto, length-drop) (omega (arith, w.room))

  -- one text after another
  pub wrote_then : {c : List ℕ} {r : ℕ} {t : List ℕ} → Wrote b q t c r → Wrote a p (s ++ t) c r
  wrote_then {c} {r} {t} v =
      let joined : take q b ++ t ++ drop r b ≡ take p a ++ (s ++ t) ++ drop r a =
      rw (wrote-front, v.next, wrote-rest) (ap (λ (x : List ℕ). x ++ drop (q + length t) a) (append_assoc (take p a) s t))
      in
      record {
        next = rw length-append (omega (arith, w.next, v.next));
        room = omega (arith, v.room, wrote-length);
        bytes = v.bytes ∙ joined;
      }

  -- one byte more: a turn of a loop
  pub wrote-step : {t : List ℕ} {r : ℕ} (x : ℕ) → q < length b → t ≡ s ++ (x ∷ []) → r ≡ q + 1 → Wrote a p t (set b q x) r
  wrote-step x h e f = rw e (wrote_then (wrote-byte b q x h f))
