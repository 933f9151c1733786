-- The words of a page after an opening, a step and a write.
use mathlib.Core.Path.{◌≡◌, sym, ap, ◌∙◌, subst}
use mathlib.Core.Bool.{Bool, not}
use mathlib.Core.List.{List}
use Prim.Native.Nat.{ℕ, zero, suc, ◌+◌, ◌-◌, ◌*◌, ◌/◌, ◌%◌, ◌^◌, ◌≤◌, ◌<◌}
use native.Mathlib.Omega.{arith}
use native.Mathlib.Nat.{div-eq_of_lt}
use lib.ListN.{length, get_or}
use lib.Pow.{pow_pos}
use lib.Dec.{eqb}
use borrow.Author.Tests.{ne_eqb}
use Rattle.words.specs.Word.{word_at, put_word}
use Rattle.words.proofs.Truth.{cond_both, cond-false}
use Rattle.words.proofs.WordLaws.{length-put, read-put, read-put-other}
use Rattle.words.proofs.ByteLaws.{word_of}
use Rattle.page.specs.Flags.{cleared}
use Rattle.page.specs.Page.{opened_word, page_opened, four_codes, cause_word, put_causes, cause_at, somebody_charged, raised, page_stepped, page_written}

-- ---- an opening

pub opened-1 : (n view : ℕ) → word_at (page_opened n view) 1 ≡ view
unfolding page_opened opened_word
opened-1 n view = word_of 16 (opened_word n view) 1 (omega arith)

-- no causes
pub opened-cause : (n view j : ℕ) → j < 16 → cause_at (page_opened n view) j ≡ 0
unfolding page_opened opened_word cause_at
opened-cause n view j h =
    let e : word_at (page_opened n view) (4 + j / 4) ≡ 0 =
    word_of 16 (opened_word n view) (4 + j / 4) (omega arith)
    ∙ cond-false _ _ (ne_eqb (4 + j / 4) 0 (λ z. omega arith)) ∙ cond-false _ _ (ne_eqb (4 + j / 4) 1 (λ z. omega arith))
    in
    ap (λ (w : ℕ). w / 2 ^ (24 - 8 * (j % 4)) % 2 ^ 8) e ∙ ap (λ (x : ℕ). x % 2 ^ 8) (div-eq_of_lt (pow_pos (24 - 8 * (j % 4))))

-- ---- a write

pub written-1 : (offset value : ℕ) (page : List ℕ) → length page ≡ 64 → word_at (page_written offset value page) 1 ≡ word_at page 1
unfolding page_written
written-1 offset value page l =
    cond_both (λ (p : List ℕ). word_at p 1 ≡ word_at page 1) (eqb offset 8) _ _
    (read-put-other page 2 1 (cleared (word_at page 2) value) (omega arith) (λ e. omega arith))
    (read-put-other page 3 1 value (omega arith) (λ e. omega arith))

-- ---- a step

-- what holds of 0 to 3
below-four : (P : ℕ → Type 0) → P 0 → P 1 → P 2 → P 3 → (i : ℕ) → i < 4 → P i
below-four P a b c d zero h = a
below-four P a b c d (suc zero) h = b
below-four P a b c d (suc (suc zero)) h = c
below-four P a b c d (suc (suc (suc zero))) h = d
below-four P a b c d (suc (suc (suc (suc i)))) h = absurd (omega arith)

-- the words of the causes
module _ (causes page : List ℕ) (l : length page ≡ 64) where
  abbrev first : List ℕ
  first = put_word page 4 (cause_word causes 0)

  abbrev second : List ℕ
  second = put_word first 5 (cause_word causes 1)

  abbrev third : List ℕ
  third = put_word second 6 (cause_word causes 2)

  first-long : length first ≡ 64
  first-long = length-put page 4 (cause_word causes 0) ∙ l

  second-long : length second ≡ 64
  second-long = length-put first 5 (cause_word causes 1) ∙ first-long

  third-long : length third ≡ 64
  third-long = length-put second 6 (cause_word causes 2) ∙ second-long

  pub causes-other : (i : ℕ) → (i ≡ 4 → ⊥) → (i ≡ 5 → ⊥) → (i ≡ 6 → ⊥) → (i ≡ 7 → ⊥) → word_at (put_causes causes page) i ≡ word_at page i
  unfolding put_causes
  causes-other i n4 n5 n6 n7 =
      read-put-other third 7 i (cause_word causes 3) (omega (arith, third-long)) n7
      ∙ read-put-other second 6 i (cause_word causes 2) (omega (arith, second-long)) n6
      ∙ read-put-other first 5 i (cause_word causes 1) (omega (arith, first-long)) n5
      ∙ read-put-other page 4 i (cause_word causes 0) (omega arith) n4

  pub causes-word : (i : ℕ) → i < 4 → word_at (put_causes causes page) (4 + i) ≡ cause_word causes i
  unfolding put_causes
  causes-word =
      below-four (λ i. word_at (put_causes causes page) (4 + i) ≡ cause_word causes i)
      (read-put-other third 7 4 (cause_word causes 3) (omega (arith, third-long)) (λ e. omega arith)
      ∙ read-put-other second 6 4 (cause_word causes 2) (omega (arith, second-long)) (λ e. omega arith)
      ∙ read-put-other first 5 4 (cause_word causes 1) (omega (arith, first-long)) (λ e. omega arith)
      ∙ read-put page 4 (cause_word causes 0) (omega arith))
      (read-put-other third 7 5 (cause_word causes 3) (omega (arith, third-long)) (λ e. omega arith)
      ∙ read-put-other second 6 5 (cause_word causes 2) (omega (arith, second-long)) (λ e. omega arith)
      ∙ read-put first 5 (cause_word causes 1) (omega (arith, first-long)))
      (read-put-other third 7 6 (cause_word causes 3) (omega (arith, third-long)) (λ e. omega arith)
      ∙ read-put second 6 (cause_word causes 2) (omega (arith, second-long)))
      (read-put third 7 (cause_word causes 3) (omega (arith, third-long)))

-- a code is read back from its byte
code-back : (causes : List ℕ) (i : ℕ) → ((k : ℕ) → k < 4 → get_or causes (4 * i + k) 0 ≤ 3) → (m : ℕ) → m < 4
    → cause_word causes i / 2 ^ (24 - 8 * m) % 2 ^ 8 ≡ get_or causes (4 * i + m) 0
unfolding cause_word
code-back causes i small =
    let e : 4 * i + 0 ≡ 4 * i = omega arith in
    let a : get_or causes (4 * i) 0 ≤ 3 = subst (λ (k : ℕ). get_or causes k 0 ≤ 3) e (small 0 (omega arith)) in
    let b = small 1 (omega arith) in
    let c = small 2 (omega arith) in
    let d = small 3 (omega arith) in
    below-four (λ m. cause_word causes i / 2 ^ (24 - 8 * m) % 2 ^ 8 ≡ get_or causes (4 * i + m) 0)
    (top _ _ _ _ a b c d ∙ sym (ap (λ (k : ℕ). get_or causes k 0) e)) (next _ _ _ _ a b c d) (third _ _ _ _ a b c d) (last _ _ _ _ a b c d)
  where
    top : (a b c d : ℕ) → a ≤ 3 → b ≤ 3 → c ≤ 3 → d ≤ 3 → four_codes a b c d / 2 ^ 24 % 2 ^ 8 ≡ a
    top a b c d ha hb hc hd = omega arith

    next : (a b c d : ℕ) → a ≤ 3 → b ≤ 3 → c ≤ 3 → d ≤ 3 → four_codes a b c d / 2 ^ 16 % 2 ^ 8 ≡ b
    next a b c d ha hb hc hd = omega arith

    third : (a b c d : ℕ) → a ≤ 3 → b ≤ 3 → c ≤ 3 → d ≤ 3 → four_codes a b c d / 2 ^ 8 % 2 ^ 8 ≡ c
    third a b c d ha hb hc hd = omega arith

    last : (a b c d : ℕ) → a ≤ 3 → b ≤ 3 → c ≤ 3 → d ≤ 3 → four_codes a b c d / 2 ^ 0 % 2 ^ 8 ≡ d
    last a b c d ha hb hc hd = omega arith

pub code_of : (causes page : List ℕ) → length page ≡ 64 → ((k : ℕ) → k < 16 → get_or causes k 0 ≤ 3) → (j : ℕ) → j < 16
    → cause_at (put_causes causes page) j ≡ get_or causes j 0
unfolding cause_at
code_of causes page l small j h =
    let q : j / 4 < 4 = omega arith in
    let e : 4 * (j / 4) + j % 4 ≡ j = omega arith in
    ap (λ (w : ℕ). w / 2 ^ (24 - 8 * (j % 4)) % 2 ^ 8) (causes-word causes page l (j / 4) q)
    ∙ code-back causes (j / 4) (λ k hk. small (4 * (j / 4) + k) (omega arith)) (j % 4) (omega arith)
    ∙ ap (λ (k : ℕ). get_or causes k 0) e

module _ (n before health after : ℕ) (causes page : List ℕ) (l : length page ≡ 64) where
  abbrev changes : Bool
  changes = not (eqb (word_at page 1) after)

  abbrev flags : ℕ
  flags = raised (word_at page 2) changes (somebody_charged n before health)

  abbrev one : List ℕ
  one = put_word page 0 health

  abbrev two : List ℕ
  two = put_word one 1 after

  abbrev three : List ℕ
  three = put_word two 2 flags

  one-long : length one ≡ 64
  one-long = length-put page 0 health ∙ l

  two-long : length two ≡ 64
  two-long = length-put one 1 after ∙ one-long

  three-long : length three ≡ 64
  three-long = length-put two 2 flags ∙ two-long

  pub word-0 : word_at (page_stepped n before health after causes page) 0 ≡ health
  unfolding page_stepped
  word-0 =
      causes-other causes three three-long 0 (λ e. omega arith) (λ e. omega arith) (λ e. omega arith) (λ e. omega arith)
      ∙ read-put-other two 2 0 flags (omega (arith, two-long)) (λ e. omega arith) ∙ read-put-other one 1 0 after (omega (arith, one-long)) (λ e. omega arith)
      ∙ read-put page 0 health (omega arith)

  pub word-1 : word_at (page_stepped n before health after causes page) 1 ≡ after
  unfolding page_stepped
  word-1 =
      causes-other causes three three-long 1 (λ e. omega arith) (λ e. omega arith) (λ e. omega arith) (λ e. omega arith)
      ∙ read-put-other two 2 1 flags (omega (arith, two-long)) (λ e. omega arith) ∙ read-put one 1 after (omega (arith, one-long))

  pub word-2 : word_at (page_stepped n before health after causes page) 2 ≡ flags
  unfolding page_stepped
  word-2 =
      causes-other causes three three-long 2 (λ e. omega arith) (λ e. omega arith) (λ e. omega arith) (λ e. omega arith)
      ∙ read-put two 2 flags (omega (arith, two-long))

  -- enable, and the words after the causes
  pub word-other : (i : ℕ) → 3 ≤ i → (i ≡ 4 → ⊥) → (i ≡ 5 → ⊥) → (i ≡ 6 → ⊥) → (i ≡ 7 → ⊥)
      → word_at (page_stepped n before health after causes page) i ≡ word_at page i
  unfolding page_stepped
  word-other i h n4 n5 n6 n7 =
      causes-other causes three three-long i n4 n5 n6 n7
      ∙ read-put-other two 2 i flags (omega (arith, two-long)) (λ e. omega arith) ∙ read-put-other one 1 i after (omega (arith, one-long)) (λ e. omega arith)
      ∙ read-put-other page 0 i health (omega arith) (λ e. omega arith)

  pub cause-of : ((k : ℕ) → k < 16 → get_or causes k 0 ≤ 3) → (j : ℕ) → j < 16 → cause_at (page_stepped n before health after causes page) j ≡ get_or causes j 0
  unfolding page_stepped
  cause-of small j h = code_of causes three three-long small j h
