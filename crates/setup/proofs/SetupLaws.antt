-- What an accepted setup is, field by field.
use Rattle.std.proofs.Common.{◌≡◌, ℕ, ◌+◌, ◌*◌, ◌/◌, ◌^◌, ◌<◌, ◌≤◌, Bool, true, eqb, leb, get_or, refl, ap, ◌∙◌, subst, eq-eqb, le-leb, leb-true}
use Rattle.words.specs.Word.{word_at, number_unit}
use Rattle.words.specs.Bits.{bit}
use Rattle.words.specs.Verdict.{accepted, and_then, all_right}
use Rattle.words.specs.Verdict.{Verdict}
use Rattle.words.proofs.Truth.{and_l, and_r, and-true}
use Rattle.words.proofs.VerdictLaws.{between_is, between-of, and-then-next, and-then-pass}
use Rattle.setup.specs.Limits.{most_return_limit, most_criticality}
use Rattle.setup.specs.Setup.{front_in, setup_bytes}
use Rattle.setup.specs.Check.{module_fits, mark_fits, module_ok, mark_ok, setup_roomy, limit_tests, check_words, room_verdict, setup_verdict}
use Rattle.setup.specs.declared.Setup.{Setup}
use Rattle.setup.proofs.BoundLaws.{LimitsFit, fit-room, limits-right, right-fit}
use Rattle.setup.proofs.SetupCheckLaws.{WordsFit, words-pass, words-ok}
use Rattle.setup.proofs.SetupWords.{Room, room-pass, room-ok, stands, written-fades, fields_back}

-- one module of an accepted setup
pub record ModuleFits (n place criticality : ℕ) : Type 0 where
  pub within : place ≤ n
  pub least : 1 ≤ criticality
  pub most : criticality ≤ most_criticality

pub record SetupFits (s : Setup) : Type 0 where
  pub least : 2 ≤ s.n
  pub most : s.n ≤ 16
  pub q-most : s.q ≤ most_return_limit
  pub limits : LimitsFit s.limits
  pub each : (j : ℕ) → j < s.n → ModuleFits s.n (get_or s.places j 0) (get_or s.criticality j 0)
  pub roomy : setup_roomy s ≡ true
  pub marks : (j : ℕ) → j < s.n → mark_fits j (bit s.marks j) (get_or s.places j 0) ≡ true

pub module-is : (n place criticality : ℕ) → module_fits n place criticality ≡ true → ModuleFits n place criticality
unfolding module_fits
module-is n place criticality e =
    let c = between_is 1 most_criticality criticality (and_r (leb place n) _ e) in
    record { within = leb-true place n (and_l (leb place n) _ e); least = c.0; most = c.1 }

pub module-of : (n place criticality : ℕ) → ModuleFits n place criticality → module_fits n place criticality ≡ true
unfolding module_fits
module-of n place criticality f =
    and-true (leb place n) _ (le-leb place n f.within) (between-of 1 most_criticality criticality f.least f.most)

-- ---- an accepted setup

pub verdict-room : (s : Setup) → (setup_verdict s).number ≡ 0 → (room_verdict s).number ≡ 0
unfolding setup_verdict
verdict-room s e = (and-then-pass (room_verdict s) (check_words (setup_bytes s) s.n) e).0

pub verdict-fits : (s : Setup) → (setup_verdict s).number ≡ 0 → SetupFits s
unfolding setup_verdict module_ok mark_ok
verdict-fits s e =
    let (a, b) = and-then-pass (room_verdict s) (check_words (setup_bytes s) s.n) e in
    let m = room-pass s a in
    let w = words-pass (setup_bytes s) s.n b in
    let t = stands s in
    let k = fields_back s m in
    let right = subst (λ (b : Bool). all_right (limit_tests b (word_at (setup_bytes s))) ≡ true) (written-fades s) w.limits in
    record {
      least = m.least;
      most = m.most;
      q-most = m.q;
      limits = right-fit (word_at (setup_bytes s)) s.limits m.limits t.limits right;
      each = λ j h.
          module-is s.n _ _
          (rw (k.place j h, k.criticality j h) at (and_r (eqb (word_at (setup_bytes s) (front_in (word_at (setup_bytes s)) + j) / number_unit) (4 * 2 ^ 5 + (j + 1))) _ (w.each j h)));
      roomy = m.roomy;
      marks = λ j h. rw (k.mark j h, k.place j h) at (w.marks j h);
    }

pub fits-room : (s : Setup) → SetupFits s → Room s
fits-room s f = record { q = f.q-most; least = f.least; most = f.most; limits = fit-room s.limits f.limits; roomy = f.roomy }

-- its words pass
pub fits-words : (s : Setup) → SetupFits s → WordsFit (setup_bytes s) s.n
unfolding module_ok mark_ok
fits-words s f =
    let t = stands s in
    let k = fields_back s (fits-room s f) in
    record {
      limits = rw (written-fades s) (limits-right (word_at (setup_bytes s)) s.limits f.limits t.limits);
      each = λ j h.
          and-true (eqb (word_at (setup_bytes s) (front_in (word_at (setup_bytes s)) + j) / number_unit) (4 * 2 ^ 5 + (j + 1))) _ (eq-eqb _ _ (k.number j h))
          (rw (k.place j h, k.criticality j h) (module-of s.n _ _ (f.each j h)));
      marks = λ j h. rw (k.mark j h, k.place j h) (f.marks j h);
    }

pub fits-verdict : (s : Setup) → SetupFits s → setup_verdict s ≡ accepted
unfolding setup_verdict
fits-verdict s f =
    ap (λ (v : Verdict). and_then v (check_words (setup_bytes s) s.n)) (room-ok s (fits-room s f))
    ∙ and-then-next accepted (check_words (setup_bytes s) s.n) refl
    ∙ words-ok (setup_bytes s) s.n (fits-words s f)
