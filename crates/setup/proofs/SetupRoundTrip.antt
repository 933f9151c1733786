-- What is read is what was written, and what is written is what was read.
use Rattle.std.proofs.Common.{◌≡◌, Ok, ℕ, ◌+◌, ◌*◌, ◌/◌, ◌^◌, ◌<◌, Bool, true, eqb, List, length, get_or, sym, refl, ap, ◌∙◌, subst, ap₂, arith, eqb-true}
use Rattle.words.specs.Word.{word_at, number_unit}
use Rattle.words.specs.Runs.{total}
use Rattle.words.specs.Bits.{bit, pack}
use Rattle.words.specs.Array.{array}
use Rattle.words.specs.Verdict.{accepted}
use Rattle.words.proofs.Truth.{and_l, and_r}
use Rattle.words.proofs.BitLaws.{bit-pack, pack-lt, pack-ext, pack-own}
use Rattle.words.proofs.ArrayLaws.{array_at, array-clear, array-ext, array-length, array-own, bounded-clear}
use Rattle.words.proofs.WordLaws.{word_lt}
use Rattle.words.proofs.ByteLaws.{bytes-own, bytes-ext}
use Rattle.words.proofs.RunLaws.{Follows, follow-runs}
use Rattle.setup.specs.declared.Setup.{Setup}
use Rattle.setup.specs.Layout.{limit_words, front_words, setup_length}
use Rattle.setup.specs.Limits.{fades}
use Rattle.setup.specs.Setup.{head_word, return_limit_in, partitionable_in, size_in, module_word, mark_in, place_in, criticality_in, fades_in, front_in, front_of, setup_of, setup_runs, setup_bytes}
use Rattle.setup.specs.Check.{module_fits, mark_fits, module_ok, mark_ok, check_setup, setup_verdict, read_setup}
use Rattle.setup.specs.RoundTrip.{ShapedSetup, SetupRoundTrip}
use Rattle.setup.proofs.WordFields.{head-made, head-right, module-made}
use Rattle.setup.proofs.BoundLaws.{LimitsStand, read-fades, limits-read, limits-written}
use Rattle.setup.proofs.SetupCheckLaws.{BytesFit, setup-pass, setup-ok, WordsFit}
use Rattle.setup.proofs.SetupWords.{room-head, roomy_of, marks-small, places-bounded, criticality-bounded, written-length, stands, written-fades, fields_back}
use Rattle.setup.proofs.SetupLaws.{SetupFits, module-is, verdict-fits, fits-verdict, fits-room, fits-words}
use Rattle.setup.proofs.SetupAnswerLaws.{read-accepted}

-- ---- bytes that pass the check

module _ (s : List ℕ) (e : (check_setup s).number ≡ 0) where
  abbrev size : ℕ
  size = size_in (word_at s 0)

  abbrev module_at : ℕ → ℕ
  module_at j = word_at s (front_in (word_at s) + j)

  fit : BytesFit s
  fit = setup-pass s e

  place_read : (j : ℕ) → j < size → get_or (array size (λ k. place_in (module_at k))) j 0 ≡ place_in (module_at j)
  place_read j h = array_at size (λ k. place_in (module_at k)) j h fit.front.most

  criticality-read : (j : ℕ) → j < size → get_or (array size (λ k. criticality_in (module_at k))) j 0 ≡ criticality_in (module_at j)
  criticality-read j h = array_at size (λ k. criticality_in (module_at k)) j h fit.front.most

  mark-read : (j : ℕ) → j < size → bit (pack size (λ k. mark_in (module_at k))) j ≡ mark_in (module_at j)
  mark-read j h = bit-pack size (λ k. mark_in (module_at k)) j h

  number-right : (j : ℕ) → j < size → module_at j / number_unit ≡ 4 * 2 ^ 5 + (j + 1)
  unfolding module_ok
  number-right j h = eqb-true (module_at j / number_unit) _ (and_l (eqb (module_at j / number_unit) (4 * 2 ^ 5 + (j + 1))) _ (fit.words.each j h))

  fields-right : (j : ℕ) → j < size → module_fits size (place_in (module_at j)) (criticality_in (module_at j)) ≡ true
  unfolding module_ok
  fields-right j h = and_r (eqb (module_at j / number_unit) (4 * 2 ^ 5 + (j + 1))) _ (fit.words.each j h)

  mark-right : (j : ℕ) → j < size → mark_fits j (mark_in (module_at j)) (place_in (module_at j)) ≡ true
  unfolding mark_ok
  mark-right j h = fit.words.marks j h

  place-low : (j : ℕ) → j < size → place_in (module_at j) < 2 ^ 5
  place-low j h = omega arith

  criticality-low : (j : ℕ) → j < size → criticality_in (module_at j) < 2 ^ 17
  criticality-low j h = omega arith

  -- the setup that is read is in range
  pub read_fits : SetupFits (setup_of s)
  unfolding setup_of
  read_fits =
      record {
        least = fit.front.least;
        most = fit.front.most;
        q-most = (head-made (word_at s 0) fit.front.head).0.limit;
        limits = limits-read (fades_in (word_at s)) (word_at s) fit.words.limits;
        each = λ j h. rw (place_read j h, criticality-read j h) (module-is size (place_in (module_at j)) (criticality_in (module_at j)) (fields-right j h));
        roomy =
            roomy_of (setup_of s) (pack-lt size _) (array-clear size _) (array-clear size _)
            (λ j h. rw (place_read j h) (place-low j h)) (λ j h. rw (criticality-read j h) (criticality-low j h));
        marks = λ j h. rw (mark-read j h, place_read j h) (mark-right j h);
      }

  pub read-verdict : setup_verdict (setup_of s) ≡ accepted
  read-verdict = fits-verdict (setup_of s) read_fits

  -- its arrays have 16 entries
  pub read-shaped : ShapedSetup (setup_of s)
  unfolding setup_of
  read-shaped = record { places = array-length _ _; criticality = array-length _ _ }

  module-same : (j : ℕ) → j < size
      → module_word j (bit (setup_of s).marks j) (get_or (setup_of s).places j 0) (get_or (setup_of s).criticality j 0) ≡ module_at j
  unfolding setup_of
  module-same j h = rw (mark-read j h, place_read j h, criticality-read j h) (module-made j (module_at j) (number-right j h))

  form : fades (setup_of s).limits ≡ fades_in (word_at s)
  unfolding setup_of
  form = read-fades (fades_in (word_at s)) (word_at s)

  limits-stand : ((i : ℕ) → word_at s i < 2 ^ 32) → LimitsStand (word_at s) (setup_of s).limits
  unfolding setup_of
  limits-stand b i h =
      limits-written (fades_in (word_at s)) (word_at s) b fit.words.limits i (subst (λ (x : Bool). i < limit_words x) form h)

  -- the setup that is read is written as the same bytes
  pub written_read : ((i : ℕ) → get_or s i 0 < 256) → setup_bytes (setup_of s) ≡ s
  unfolding setup_of setup_bytes Follows total
  written_read b =
      let h : head_word (return_limit_in (word_at s 0)) (partitionable_in (word_at s 0)) size ≡ word_at s 0 = (head-made (word_at s 0) fit.front.head).1 in
      let l : length s ≡ total (setup_runs (setup_of s)) * 4 = fit.size ∙ ap (λ (x : Bool). setup_length (front_words x) size) (sym form) ∙ count in
      follow-runs (word_at s) 0 (setup_runs (setup_of s))
      (λ j k. first j k (sym h), (limits-stand (word_lt s b), (λ j k. ap (λ (x : Bool). word_at s (front_words x + j)) form ∙ sym (module-same j k), tt)))
      ∙ bytes-ext (total (setup_runs (setup_of s))) _ (word_at s) (λ j k. ap (word_at s) (omega arith))
      ∙ bytes-own s (total (setup_runs (setup_of s))) b l
    where
      first : {w : ℕ} (j : ℕ) → j < 1 → word_at s 0 ≡ w → word_at s (0 + j) ≡ w
      first j k e =
          let z : 0 + j ≡ 0 = omega arith in
          ap (word_at s) z ∙ e

      count : setup_length (front_of (setup_of s)) size ≡ total (setup_runs (setup_of s)) * 4
      count = omega arith

-- ---- a setup that is accepted

module _ (s : Setup) (e : (setup_verdict s).number ≡ 0) where
  fits : SetupFits s
  fits = verdict-fits s e

  bytes-written : BytesFit (setup_bytes s)
  bytes-written =
      let f = fits in
      let l = written-length s in
      let z = (fields_back s (fits-room s f)).size in
      record {
        front =
            record {
              whole = omega arith;
              room = omega arith;
              head = rw (stands s).head (head-right s.q s.partitionable s.n (room-head s (fits-room s f)));
              least = omega arith;
              most = omega arith;
            };
        size = l ∙ ap₂ setup_length (ap front_words (sym (written-fades s))) (sym z);
        words = subst (λ (k : ℕ). WordsFit (setup_bytes s) k) (sym z) (fits-words s f);
      }

  setup-back : ShapedSetup s → setup_of (setup_bytes s) ≡ s
  unfolding setup_of
  setup-back shaped =
      let k = fields_back s (fits-room s fits) in
      let m : pack s.n (λ j. mark_in (word_at (setup_bytes s) (front_in (word_at (setup_bytes s)) + j))) ≡ s.marks =
      pack-ext s.n _ (bit s.marks) k.mark ∙ pack-own s.n s.marks (marks-small s fits.roomy)
      in
      let a : array s.n (λ j. place_in (word_at (setup_bytes s) (front_in (word_at (setup_bytes s)) + j))) ≡ s.places =
      array-ext s.n _ (λ j. get_or s.places j 0) k.place
      ∙ array-own s.n s.places fits.most shaped.places (bounded-clear s.n 31 s.places (places-bounded s fits.roomy))
      in
      let c : array s.n (λ j. criticality_in (word_at (setup_bytes s) (front_in (word_at (setup_bytes s)) + j))) ≡ s.criticality =
      array-ext s.n _ (λ j. get_or s.criticality j 0) k.criticality
      ∙ array-own s.n s.criticality fits.most shaped.criticality
      (bounded-clear s.n 131071 s.criticality (criticality-bounded s fits.roomy))
      in
      rw (k.size, k.q, k.partitionable, k.limits, m, a, c)

  -- a setup that is written is read back
  pub read_back : ShapedSetup s → read_setup (setup_bytes s) ≡ record { number = 0; index = 0; setup = s }
  read_back shaped = sym (read-accepted {r = Ok s} (setup_bytes s) (sym (setup-ok (setup_bytes s) bytes-written)) refl (sym (setup-back shaped)))

pub round_trip : SetupRoundTrip
round_trip = record {
  written_read = λ s shaped e. read_back s e shaped;
  read-accepted = λ s e. (read-verdict s e, read-shaped s e);
  read-written = λ s b e. written_read s e b;
}
