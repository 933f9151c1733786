-- Bytes whose first words are those of a setup: what holds of one holds of the other.
use Rattle.std.proofs.Common.{◌≡◌, ℕ, ◌+◌, ◌<◌, ◌≤◌, Bool, true, List, length, get_or, take, sym, refl, ap, ◌∙◌, subst, ap₂, arith, length-take-le, get_or-take}
use native.Mathlib.Decide.{dec_lt}
use lib.ListN.{get_or-eq_default}
use Rattle.words.specs.Word.{word_at, bytes_of}
use Rattle.words.proofs.ByteLaws.{bytes-ext}
use Rattle.words.specs.Bits.{pack}
use Rattle.words.specs.Array.{array}
use Rattle.words.proofs.BitLaws.{pack-ext}
use Rattle.words.proofs.ArrayLaws.{array-ext}
use Rattle.words.proofs.WordLaws.{read_take}
use Rattle.words.proofs.ByteLaws.{bytes-own}
use Rattle.words.specs.Verdict.{all_right}
use Rattle.setup.specs.Layout.{front_words, setup_words, setup_length}
use Rattle.setup.specs.Setup.{return_limit_in, partitionable_in, size_in, mark_in, place_in, criticality_in, fades_in, front_in, limits_in, setup_of, setup_bytes}
use Rattle.setup.specs.Check.{module_ok, mark_ok, limit_tests, length_in, check_setup}
use Rattle.words.specs.Verdict.{Verdict}
use Rattle.setup.proofs.BoundLaws.{front-least, limits-same, right-same, fades-same}
use Rattle.setup.proofs.SetupLaws.{SetupFits}
use Rattle.setup.proofs.SetupCheckLaws.{HeadFits, WordsFit, BytesFit, setup-ok}
use Rattle.setup.proofs.SetupRoundTrip.{read_fits, written_read}

module _ (a b : List ℕ) (n : ℕ) (same : (i : ℕ) → i < setup_words (front_in (word_at a)) n → word_at a i ≡ word_at b i) where
  -- both fade or both count
  pub form-same : fades_in (word_at a) ≡ fades_in (word_at b)
  form-same = fades-same (word_at a) (word_at b) (same 1 (omega (arith, front-least (fades_in (word_at a)))))

  module-same : (j : ℕ) → j < n → word_at a (front_in (word_at a) + j) ≡ word_at b (front_in (word_at b) + j)
  module-same j h = same (front_in (word_at a) + j) (omega arith) ∙ ap (λ (x : Bool). word_at b (front_words x + j)) form-same

  pub words_same : WordsFit a n → WordsFit b n
  words_same f =
      record {
        limits =
            subst (λ (x : Bool). all_right (limit_tests x (word_at b)) ≡ true) form-same
            (right-same (fades_in (word_at a)) (word_at a) (word_at b) (λ i h. same i (omega arith)) f.limits);
        each = λ j h. subst (λ (w : ℕ). module_ok n j w ≡ true) (module-same j h) (f.each j h);
        marks = λ j h. subst (λ (w : ℕ). mark_ok j w ≡ true) (module-same j h) (f.marks j h);
      }

  pub setup-same : size_in (word_at a 0) ≡ n → setup_of a ≡ setup_of b
  unfolding setup_of
  setup-same e =
      let first : word_at a 0 ≡ word_at b 0 = same 0 (omega arith) in
      let z : size_in (word_at b 0) ≡ n = ap size_in (sym first) ∙ e in
      let q : return_limit_in (word_at a 0) ≡ return_limit_in (word_at b 0) = ap return_limit_in first in
      let t : partitionable_in (word_at a 0) ≡ partitionable_in (word_at b 0) = ap partitionable_in first in
      let l : limits_in (fades_in (word_at a)) (word_at a) ≡ limits_in (fades_in (word_at b)) (word_at b) =
      limits-same (fades_in (word_at a)) (word_at a) (word_at b) (λ i h. same i (omega arith)) ∙ ap (λ (x : Bool). limits_in x (word_at b)) form-same
      in
      let m : pack n (λ j. mark_in (word_at a (front_in (word_at a) + j))) ≡ pack n (λ j. mark_in (word_at b (front_in (word_at b) + j))) =
      pack-ext n _ _ (λ j h. ap mark_in (module-same j h))
      in
      let p : array n (λ j. place_in (word_at a (front_in (word_at a) + j))) ≡ array n (λ j. place_in (word_at b (front_in (word_at b) + j))) =
      array-ext n _ _ (λ j h. ap place_in (module-same j h))
      in
      let c : array n (λ j. criticality_in (word_at a (front_in (word_at a) + j))) ≡ array n (λ j. criticality_in (word_at b (front_in (word_at b) + j))) =
      array-ext n _ _ (λ j h. ap criticality_in (module-same j h))
      in
      rw (e, z, q, t, l, m, p, c)

-- a byte of a front part, or none
take-small : (s : List ℕ) (k : ℕ) → k ≤ length s → ((i : ℕ) → get_or s i 0 < 256) → (i : ℕ) → get_or (take k s) i 0 < 256
take-small s k l b i = go (dec_lt i k)
  where
    go : Dec (i < k) → get_or (take k s) i 0 < 256
    go (yes p) = rw (get_or-take k s i 0 p) (b i)
    go (no p) =
        let h : length (take k s) ≤ i = omega (arith, length-take-le k s l) in
        rw (get_or-eq_default (take k s) 0 {n = i} h) (omega arith)

-- ---- the first words of bytes that pass the checks of their head and words

module _ (s : List ℕ) (f : HeadFits s) (w : WordsFit s (size_in (word_at s 0))) (room : length_in s ≤ length s) where
  abbrev size : ℕ
  size = size_in (word_at s 0)

  abbrev count : ℕ
  count = setup_words (front_in (word_at s)) size

  abbrev front : List ℕ
  front = take (length_in s) s

  front_same : (i : ℕ) → i < count → word_at front i ≡ word_at s i
  front_same i h = read_take s i (length_in s) (omega arith)

  same-front : (i : ℕ) → i < count → word_at s i ≡ word_at front i
  same-front i h = sym (front_same i h)

  front_fits : BytesFit front
  front_fits =
      let z : word_at front 0 ≡ word_at s 0 = front_same 0 (omega arith) in
      let l : length front ≡ length_in s = length-take-le (length_in s) s room in
      record {
        front =
            record {
              whole = omega arith;
              room = omega arith;
              head = rw z f.head;
              least = rw z f.least;
              most = rw z f.most;
            };
        size = l ∙ ap₂ setup_length (ap front_words (form-same s front size same-front)) (ap size_in (sym z));
        words = rw z (words_same s front size same-front w);
      }

  pub front-accepted : (check_setup front).number ≡ 0
  front-accepted = ap (λ (v : Verdict). v.number) (setup-ok front front_fits)

  pub front-setup : setup_of front ≡ setup_of s
  front-setup = sym (setup-same s front size same-front refl)

  -- the setup that is read is in range, and written as the same bytes
  pub setup-fits : SetupFits (setup_of s)
  setup-fits = subst SetupFits front-setup (read_fits front front-accepted)

  pub setup-written : ((i : ℕ) → get_or s i 0 < 256) → setup_bytes (setup_of s) ≡ bytes_of (setup_words (front_in (word_at s)) size) (word_at s)
  setup-written b =
      let l : length front ≡ length_in s = length-take-le (length_in s) s room in
      ap setup_bytes (sym front-setup)
      ∙ written_read front front-accepted (take-small s (length_in s) room b)
      ∙ sym (bytes-own front count (take-small s (length_in s) room b) l)
      ∙ bytes-ext count _ _ front_same
