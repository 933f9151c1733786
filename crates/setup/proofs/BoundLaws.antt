-- The limits of a setup, counts or fading: how many words they take, which are accepted, and that what is written is read back.
use Rattle.std.proofs.Common.{◌≡◌, ℕ, zero, suc, ◌+◌, ◌*◌, ◌/◌, ◌%◌, ◌^◌, ◌<◌, ◌≤◌, Bool, true, false, ◌&&◌, eqb, List, length, get_or, sym, refl, ap, ◌∙◌, subst, ap₂, arith, ltb-true, lt-ltb, eq-eqb, ne_eqb, eqb-true}
use lib.ListN.{get_or-eq_default}
use lib.Ieee.{Float, lt, le}
use Rattle.words.specs.Word.{word_at, put_word, kind_unit}
use Rattle.words.specs.Runs.{put_run}
use Rattle.words.specs.Count.{all}
use Rattle.words.specs.Verdict.{accepted, first_refusal, all_right}
use Rattle.words.proofs.Truth.{and_l, and_r}
use Rattle.words.proofs.VerdictLaws.{and-end, Passed, numbered, all-passed, passed-all, tests-pass, tests-ok}
use Rattle.doubles.specs.Double.{double, of_words, high_word, low_word, non_negative, is_double}
use Rattle.doubles.proofs.DoubleLaws.{held, high-of-read, low-of-read, read-of-written, read_fits}
use Rattle.setup.specs.Layout.{limit_words, front_words}
use Rattle.setup.specs.Limits.{fades, factor_fits, limit_fits, most_penalty_limit, most_reward_limit, most_score_limit}
use Rattle.setup.specs.Setup.{limit_word, limit_in, fades_in, limits_in, limit_list}
use Rattle.setup.specs.Check.{limit_ok, limit_tests, limit_room}
use Rattle.setup.specs.declared.Limits.{Limits}
use Rattle.setup.specs.declared.Limits.TheVariants.{Counts, Fading}
use Rattle.setup.proofs.WordFields.{limit-made, limit-right, limit-back}

-- 3 or 6 words stand before those of the modules
pub front-least : (b : Bool) → 3 ≤ front_words b
front-least true = omega arith
front-least false = omega arith

pub front-most : (b : Bool) → front_words b ≤ 6
front-most true = omega arith
front-most false = omega arith

-- the bytes of limits whose form is known
pub fading-bytes : {b : Bool} {k : ℕ} → b ≡ true → front_words b * 4 ≤ k → 24 ≤ k
fading-bytes e h = rw e at h

pub counts-bytes : {b : Bool} {k : ℕ} → b ≡ false → front_words b * 4 ≤ k → 12 ≤ k
counts-bytes e h = rw e at h

-- where there is no second word it counts as 0
pub short-fades : (s : List ℕ) → length s % 4 ≡ 0 → length s < 8 → true ≡ fades_in (word_at s)
unfolding fades_in word_at
short-fades s m l = rw (absent 4 (omega arith), absent 5 (omega arith), absent 6 (omega arith), absent 7 (omega arith))
  where
    absent : (i : ℕ) → length s ≤ i → get_or s i 0 ≡ 0
    absent i h = get_or-eq_default s 0 {n = i} h

-- ---- what the tests of a factor and a limit say

module _ (factor : Float) (e : factor_fits factor ≡ true) where
  pub factor-non-negative : non_negative factor ≡ true
  unfolding factor_fits
  factor-non-negative = and_l (non_negative factor) _ e

  pub factor-most : le factor (double 1) ≡ true
  unfolding factor_fits
  factor-most = and_r (non_negative factor) _ e

module _ (limit : Float) (e : limit_fits limit ≡ true) where
  pub limit-non-negative : non_negative limit ≡ true
  unfolding limit_fits
  limit-non-negative = and_l (non_negative limit) _ e

  pub limit-least : lt (double 0) limit ≡ true
  unfolding limit_fits
  limit-least = and_l (lt (double 0) limit) _ (and_r (non_negative limit) _ e)

  pub limit-most : le limit (double most_score_limit) ≡ true
  unfolding limit_fits
  limit-most = and_r (lt (double 0) limit) _ (and_r (non_negative limit) _ e)

-- ---- limits that are accepted

pub record CountsFit (p r : ℕ) : Type 0 where
  pub p-least : 1 ≤ p
  pub p-most : p ≤ most_penalty_limit
  pub r-least : 1 ≤ r
  pub r-most : r ≤ most_reward_limit

pub record FadingFit (x y : Float) : Type 0 where
  pub factor : factor_fits x ≡ true
  pub limit : limit_fits y ≡ true
  pub factor-double : is_double x ≡ true
  pub limit-double : is_double y ≡ true

abbrev pub LimitsFit : Limits → Type 0
LimitsFit (Counts p r) = CountsFit p r
LimitsFit (Fading factor limit) = FadingFit factor limit

-- of limits whose form is known
pub counts-fit : {l : Limits} {p r : ℕ} → LimitsFit l → l ≡ Counts p r → CountsFit p r
counts-fit f e = subst LimitsFit e f

pub fading-fit : {l : Limits} {factor limit : Float} → LimitsFit l → l ≡ Fading factor limit → FadingFit factor limit
fading-fit f e = subst LimitsFit e f

-- ---- limits that have room in their words

abbrev pub LimitsRoom : Limits → Type 0
LimitsRoom (Counts p r) = (p < kind_unit) × (r < kind_unit)
LimitsRoom (Fading factor limit) = (is_double factor ≡ true) × (is_double limit ≡ true)

pub room-numbers : (l : Limits) → numbered (limit_room l) ≡ true
unfolding numbered
room-numbers (Counts p r) = refl
room-numbers (Fading factor limit) = refl

pub room-passed : (l : Limits) → Passed (limit_room l) → LimitsRoom l
unfolding Passed
room-passed (Counts p r) (a, (b, _)) = (ltb-true p kind_unit (a 0 (omega arith)), ltb-true r kind_unit (b 0 (omega arith)))
room-passed (Fading factor limit) (a, (b, _)) = (a 0 (omega arith), b 0 (omega arith))

pub passed-room : (l : Limits) → LimitsRoom l → Passed (limit_room l)
unfolding Passed
passed-room (Counts p r) (a, b) = (λ _ _. lt-ltb p kind_unit a, (λ _ _. lt-ltb r kind_unit b, tt))
passed-room (Fading factor limit) (a, b) = (λ _ _. a, (λ _ _. b, tt))

pub limits-room : (l : Limits) → (first_refusal (limit_room l)).number ≡ 0 → LimitsRoom l
limits-room l e = room-passed l (tests-pass (limit_room l) (room-numbers l) e)

pub room-limits : (l : Limits) → LimitsRoom l → first_refusal (limit_room l) ≡ accepted
room-limits l f = tests-ok (limit_room l) (passed-room l f)

pub fit-room : (l : Limits) → LimitsFit l → LimitsRoom l
fit-room (Counts p r) f = (omega (arith, f.p-most), omega (arith, f.r-most))
fit-room (Fading factor limit) f = (f.factor-double, f.limit-double)

-- ---- the tests of their words

pub limit-numbers : (b : Bool) (w : ℕ → ℕ) → numbered (limit_tests b w) ≡ true
unfolding numbered
limit-numbers true w = refl
limit-numbers false w = refl

-- one test after the other
pub record CountsRight (w : ℕ → ℕ) : Type 0 where
  pub p : limit_ok 2 most_penalty_limit (w 1) ≡ true
  pub r : limit_ok 3 most_reward_limit (w 2) ≡ true

pub record FadingRight (w : ℕ → ℕ) : Type 0 where
  pub form : w 1 ≡ 0
  pub factor : factor_fits (of_words (w 2) (w 3)) ≡ true
  pub limit : limit_fits (of_words (w 4) (w 5)) ≡ true

counts-right : (w : ℕ → ℕ) → all_right (limit_tests false w) ≡ true → CountsRight w
unfolding Passed
counts-right w e =
    let (p, (r, _)) = all-passed (limit_tests false w) e in
    record { p = p 0 (omega arith); r = r 0 (omega arith) }

fading-right : (w : ℕ → ℕ) → all_right (limit_tests true w) ≡ true → FadingRight w
unfolding Passed
fading-right w e =
    let (z, (f, (l, _))) = all-passed (limit_tests true w) e in
    record { form = eqb-true (w 1) 0 (z 0 (omega arith)); factor = f 0 (omega arith); limit = l 0 (omega arith) }

right-counts : (w : ℕ → ℕ) → CountsRight w → all_right (limit_tests false w) ≡ true
unfolding Passed
right-counts w f = passed-all (limit_tests false w) (λ _ _. f.p, (λ _ _. f.r, tt))

right-fading : (w : ℕ → ℕ) → FadingRight w → all_right (limit_tests true w) ≡ true
unfolding Passed
right-fading w f = passed-all (limit_tests true w) (λ _ _. eq-eqb (w 1) 0 f.form, (λ _ _. f.factor, (λ _ _. f.limit, tt)))

-- the same, as the code joins them
pub counts-by : {p r : Bool} (w : ℕ → ℕ) → p ≡ limit_ok 2 most_penalty_limit (w 1) → r ≡ limit_ok 3 most_reward_limit (w 2)
    → p && r ≡ all_right (limit_tests false w)
unfolding all_right all
counts-by w p r = ap₂ ◌&&◌ p (r ∙ sym (and-end _))

pub fading-by : {z f l : Bool} (w : ℕ → ℕ) → z ≡ eqb (w 1) 0 → f ≡ factor_fits (of_words (w 2) (w 3)) → l ≡ limit_fits (of_words (w 4) (w 5))
    → z && (f && l) ≡ all_right (limit_tests true w)
unfolding all_right all
fading-by w z f l = ap₂ ◌&&◌ z (ap₂ ◌&&◌ f (l ∙ sym (and-end _)))

-- the same words, the same outcome
pub limits-same : (b : Bool) (v w : ℕ → ℕ) → ((i : ℕ) → i < front_words b → v i ≡ w i) → limits_in b v ≡ limits_in b w
unfolding limits_in
limits-same true v w e =
    ap₂ Fading (ap₂ of_words (e 2 (omega arith)) (e 3 (omega arith))) (ap₂ of_words (e 4 (omega arith)) (e 5 (omega arith)))
limits-same false v w e = ap₂ Counts (ap limit_in (e 1 (omega arith))) (ap limit_in (e 2 (omega arith)))

pub right-same : (b : Bool) (v w : ℕ → ℕ) → ((i : ℕ) → i < front_words b → v i ≡ w i) → all_right (limit_tests b v) ≡ true
    → all_right (limit_tests b w) ≡ true
right-same true v w e t =
    let f = fading-right v t in
    right-fading w (record {
      form = sym (e 1 (omega arith)) ∙ f.form;
      factor = subst (λ (x : Float). factor_fits x ≡ true) (ap₂ of_words (e 2 (omega arith)) (e 3 (omega arith))) f.factor;
      limit = subst (λ (x : Float). limit_fits x ≡ true) (ap₂ of_words (e 4 (omega arith)) (e 5 (omega arith))) f.limit;
    })
right-same false v w e t =
    let f = counts-right v t in
    right-counts w (record {
      p = subst (λ (x : ℕ). limit_ok 2 most_penalty_limit x ≡ true) (e 1 (omega arith)) f.p;
      r = subst (λ (x : ℕ). limit_ok 3 most_reward_limit x ≡ true) (e 2 (omega arith)) f.r;
    })

pub fades-same : (v w : ℕ → ℕ) → v 1 ≡ w 1 → fades_in v ≡ fades_in w
unfolding fades_in
fades-same v w e = ap (λ (x : ℕ). eqb (x / kind_unit) 0) e

-- ---- limits that are read from words

pub read-fades : (b : Bool) (w : ℕ → ℕ) → fades (limits_in b w) ≡ b
unfolding limits_in
read-fades true w = refl
read-fades false w = refl

pub limits-read : (b : Bool) (w : ℕ → ℕ) → all_right (limit_tests b w) ≡ true → LimitsFit (limits_in b w)
unfolding limits_in
limits-read true w e =
    let f = fading-right w e in
    record { factor = f.factor; limit = f.limit; factor-double = read_fits (w 2) (w 3); limit-double = read_fits (w 4) (w 5) }
limits-read false w e =
    let f = counts-right w e in
    let p = limit-made 2 most_penalty_limit (w 1) (omega arith) f.p in
    let r = limit-made 3 most_reward_limit (w 2) (omega arith) f.r in
    record { p-least = p.least; p-most = p.most; r-least = r.least; r-most = r.most }

-- words that are right are those that the limits are written as
pub limits-written : (b : Bool) (w : ℕ → ℕ) → ((i : ℕ) → w i < 2 ^ 32) → all_right (limit_tests b w) ≡ true → (i : ℕ) → i < limit_words b
    → w (1 + i) ≡ get_or (limit_list (limits_in b w)) i 0
unfolding limits_in limit_list
limits-written true w small e =
    let f = fading-right w e in
    let a = factor-non-negative _ f.factor in
    let b = limit-non-negative _ f.limit in
    λ i h. go f a b i h
  where
    go : FadingRight w → non_negative (of_words (w 2) (w 3)) ≡ true → non_negative (of_words (w 4) (w 5)) ≡ true → (i : ℕ) → i < 5
        → w (1 + i) ≡ get_or (limit_list (limits_in true w)) i 0
    go f a b zero h = f.form
    go f a b (suc zero) h = sym (high-of-read (w 2) (w 3) (small 2) (small 3) a)
    go f a b (suc (suc zero)) h = sym (low-of-read (w 2) (w 3) (small 2) (small 3) a)
    go f a b (suc (suc (suc zero))) h = sym (high-of-read (w 4) (w 5) (small 4) (small 5) b)
    go f a b (suc (suc (suc (suc zero)))) h = sym (low-of-read (w 4) (w 5) (small 4) (small 5) b)
    go f a b (suc (suc (suc (suc (suc i))))) h = absurd (omega arith)
limits-written false w small e =
    let f = counts-right w e in
    λ i h. go f i h
  where
    go : CountsRight w → (i : ℕ) → i < 2 → w (1 + i) ≡ get_or (limit_list (limits_in false w)) i 0
    go f zero h = sym (limit-made 2 most_penalty_limit (w 1) (omega arith) f.p).word
    go f (suc zero) h = sym (limit-made 3 most_reward_limit (w 2) (omega arith) f.r).word
    go f (suc (suc i)) h = absurd (omega arith)

-- ---- words that limits are written as

module _ (w : ℕ → ℕ) where
  abbrev pub LimitsStand : Limits → Type 0
  LimitsStand l = (i : ℕ) → i < limit_words (fades l) → w (1 + i) ≡ get_or (limit_list l) i 0

  -- the second word says whether they fade
  pub fades-back : (l : Limits) → LimitsStand l → fades_in w ≡ fades l
  unfolding fades_in limit_list
  fades-back (Counts p r) e =
      let z : w 1 ≡ limit_word 2 p = e 0 (omega arith) in
      ne_eqb (w 1 / kind_unit) 0 (λ (k : w 1 / kind_unit ≡ 0). omega arith)
  fades-back (Fading factor limit) e =
      let z : w 1 ≡ 0 = e 0 (omega arith) in
      rw z

  factor-back : (factor limit : Float) → is_double factor ≡ true → LimitsStand (Fading factor limit) → of_words (w 2) (w 3) ≡ factor
  unfolding limit_list
  factor-back factor limit d e = ap₂ of_words (e 1 (omega arith)) (e 2 (omega arith)) ∙ read-of-written factor (held (is_double factor) d)

  limit-double-back : (factor limit : Float) → is_double limit ≡ true → LimitsStand (Fading factor limit) → of_words (w 4) (w 5) ≡ limit
  unfolding limit_list
  limit-double-back factor limit d e = ap₂ of_words (e 3 (omega arith)) (e 4 (omega arith)) ∙ read-of-written limit (held (is_double limit) d)

  -- they are read back
  pub limits-back : (l : Limits) → LimitsRoom l → LimitsStand l → limits_in (fades l) w ≡ l
  unfolding limits_in limit_list
  limits-back (Counts p r) (a, b) e =
      ap₂ Counts (ap limit_in (e 0 (omega arith)) ∙ limit-back 2 p a) (ap limit_in (e 1 (omega arith)) ∙ limit-back 3 r b)
  limits-back (Fading factor limit) (a, b) e =
      ap₂ Fading (factor-back factor limit a e) (limit-double-back factor limit b e)

  -- and right where they fit
  pub limits-right : (l : Limits) → LimitsFit l → LimitsStand l → all_right (limit_tests (fades l) w) ≡ true
  unfolding limit_list
  limits-right (Counts p r) f e =
      right-counts w (record {
        p = rw (e 0 (omega arith)) (limit-right 2 most_penalty_limit p f.p-least f.p-most);
        r = rw (e 1 (omega arith)) (limit-right 3 most_reward_limit r f.r-least f.r-most);
      })
  limits-right (Fading factor limit) f e =
      right-fading w (record {
        form = e 0 (omega arith);
        factor = rw (factor-back factor limit f.factor-double e) f.factor;
        limit = rw (limit-double-back factor limit f.limit-double e) f.limit;
      })

  pub right-fit : (l : Limits) → LimitsRoom l → LimitsStand l → all_right (limit_tests (fades l) w) ≡ true → LimitsFit l
  right-fit l room e t = subst LimitsFit (limits-back l room e) (limits-read (fades l) w t)

-- ---- limits that are written, word by word

-- the room that their words have, where the form is known
pub counts-written : {l : Limits} {p r k : ℕ} → l ≡ Counts p r → (first_refusal (limit_room l)).number ≡ 0 → front_words (fades l) * 4 ≤ k
    → (p < kind_unit) × (r < kind_unit) × (12 ≤ k)
counts-written {l} {p} {r} e z h =
    let (a, b) = limits-room (Counts p r) (rw e at z) in
    (a, b, counts-bytes (ap fades e) h)

pub counts-put : {x y : List ℕ} (o : List ℕ) (p r : ℕ) → x ≡ put_word o 1 (limit_word 2 p) → y ≡ put_word x 2 (limit_word 3 r)
    → y ≡ put_run o 1 (limit_words false) (λ i. get_or (limit_list (Counts p r)) i 0)
unfolding put_run limit_list
counts-put o p r a b = rw (b, a)

pub fading-put : {x y z : List ℕ} (o : List ℕ) (factor limit : Float) → x ≡ put_word o 1 0
    → y ≡ put_word (put_word x 2 (high_word factor)) 3 (low_word factor) → z ≡ put_word (put_word y 4 (high_word limit)) 5 (low_word limit)
    → z ≡ put_run o 1 (limit_words true) (λ i. get_or (limit_list (Fading factor limit)) i 0)
unfolding put_run limit_list
fading-put o factor limit a b c = rw (c, b, a)
