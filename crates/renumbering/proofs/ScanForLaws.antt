-- The check of a renumbered script goes as that of the script: no word is refused, and the plays have as many rounds.
use Prim.Native.Nat.{ℕ, zero, suc, ◌+◌, ◌-◌, ◌*◌, ◌/◌, ◌≤◌, ◌<◌}
use mathlib.Core.Path.{◌≡◌, refl, sym, ap, ap₂, ◌∙◌, subst}
use mathlib.Core.Bool.{Bool, true, false, cond, not}
use mathlib.Core.Logic.{◌⊎◌, inl, inr, ⊎_elim}
use mathlib.Core.List.{List, [], ◌∷◌}
use native.Mathlib.Omega.{arith}
use lib.Dec.{eqb, leb, ltb}
use lib.ListN.{length}
use borrow.Author.Tests.{lt-ltb, le-leb, not-true}
use Rattle.words.specs.Word.{word_at}
use Rattle.words.specs.Verdict.{verdict, accepted, single, and_then, outcome}
use Rattle.words.specs.Verdict.{Verdict}
use Rattle.words.proofs.Truth.{which, not-neither, cond-true, cond-false}
use Rattle.words.proofs.VerdictLaws.{Passed, and-then-next, single-ok, tests-ok}
use Rattle.setup.specs.Setup.{size_in, place_in}
use Rattle.setup.specs.Check.{check_words, check_front}
use Rattle.setup.proofs.SetupCheckLaws.{WordsFit, head_ok_lem, words-ok}
use Rattle.script.specs.Words.{cast_at, events_at, is_partitionable, most_bytes, kind_of, cast_in, cast_ok, event_ok, told_words}
use Rattle.script.specs.Check.{event_refusal, word_refusal, scanned, scan, unscanned, check_cast, check_play, check_script}
use Rattle.script.specs.Told.{cast_of}
use Rattle.script.specs.Rounds.{last_scan, rounds_of}
use Rattle.script.specs.Effect.{told_at}
use Rattle.script.specs.declared.Scan.{Scan}
use Rattle.script.proofs.ScanLaws.{scan_step}
use Rattle.script.proofs.AheadLaws.{Ahead, ahead-next, ahead-ends, scanned-told, scanned-event, refusal-told, refusal-play, refusal-event}
use Rattle.script.proofs.EffectLaws.{Linked, linked-next, told_is, play-kind, due-first, rounds-first}
use Rattle.renumbering.specs.Renumbering.{Renumbering, vector_for, word_for}
use Rattle.renumbering.specs.Scripts.{event_word_for, play_word_for, script_for}
use Rattle.renumbering.proofs.ScriptWordLaws.{cast-vector, cast_ok_lem, event-kind, taken-ok, event-taken}
use Rattle.renumbering.proofs.ScriptForLaws.{fits, few, cast-within, length', count', start, word-cast, word_after, size', partitionable', cast-at', events-at', head', words'}

module _ (s : List ℕ) (ok : (check_script s).number ≡ 0) (π : Renumbering (size_in (word_at s 0))) where
  abbrev n : ℕ
  n = size_in (word_at s 0)

  abbrev count : ℕ
  count = length s / 4

  abbrev s' : List ℕ
  s' = script_for n π s

  abbrev cast' : ℕ
  cast' = vector_for n π (cast_of s)

  -- all that comes after the cast
  abbrev Rest : ℕ → Scan → Type 0
  Rest at sc = Ahead s n (cast_of s) count (rounds_of s) at sc

  first : Rest (events_at s) unscanned
  unfolding rounds_of
  first = record { within = cast-within s ok π; taken = (fits s ok π).words; last = refl }

  first-linked : Linked s (events_at s) unscanned
  first-linked = record { after = omega arith; due = sym (due-first s); rounds = sym (rounds-first s (events_at s) (omega arith)) }

  -- ---- one word

  -- a told word, or a told view word
  pub record ToldWord (at : ℕ) : Type 0 where
    pub told : told_at s at ≡ true
    pub is : word_at s' at ≡ word_for n π (word_at s at)

  -- a play
  pub record PlayWord (at : ℕ) : Type 0 where
    pub plain : told_at s at ≡ false
    pub kind : eqb (kind_of (word_at s at)) 9 ≡ true
    pub is : word_at s' at ≡ word_at s at

  -- a loss or a lie
  pub record EventWord (at : ℕ) : Type 0 where
    pub plain : told_at s at ≡ false
    pub kind : eqb (kind_of (word_at s at)) 9 ≡ false
    pub taken : event_refusal n (cast_of s) (word_at s at) ≡ 0
    pub fits : event_ok n (word_at s at) ≡ true
    pub is : word_at s' at ≡ event_word_for n π (word_at s at)
    pub same_kind : kind_of (word_at s' at) ≡ kind_of (word_at s at)

  abbrev pub Sort : ℕ → Type 0
  Sort at = ToldWord at ⊎ (PlayWord at ⊎ EventWord at)

  module _ (at : ℕ) (sc : Scan) (h : at < count) (l : Linked s at sc) (a : Rest at sc) where
    abbrev w : ℕ
    w = word_at s at

    abbrev w' : ℕ
    w' = word_at s' at

    taken_here : word_refusal n (cast_of s) sc w ≡ 0
    taken_here = (ahead-next s n (cast_of s) count (rounds_of s) at sc h a).0

    -- whether a told word is due
    told_here : eqb sc.due 0 ≡ false → told_at s at ≡ true
    told_here f = told_is s at sc l ∙ ap not f

    plain_here : eqb sc.due 0 ≡ true → told_at s at ≡ false
    plain_here z = told_is s at sc l ∙ ap not z

    due-here : told_at s at ≡ true → eqb sc.due 0 ≡ false
    due-here t = not-true _ (sym (told_is s at sc l) ∙ t)

    none_here : told_at s at ≡ false → eqb sc.due 0 ≡ true
    none_here f = not-neither _ (sym (told_is s at sc l) ∙ f)

    event-here : eqb sc.due 0 ≡ true → eqb (kind_of w) 9 ≡ false → EventWord at
    unfolding play_word_for
    event-here d p =
        let z = sym (refusal-event sc w n (cast_of s) d p) ∙ taken_here in
        let o = taken-ok n π (few s ok π) (cast_of s) w z in
        let q : w' ≡ event_word_for n π w
        = word_after s ok π at l.after h ∙ cond-false _ _ (plain_here d) ∙ cond-false _ _ (play-kind s at sc l d ∙ p) in
        record { plain = plain_here d; kind = p; taken = z; fits = o; is = q; same_kind = ap kind_of q ∙ event-kind n π (few s ok π) w o }

    sort : Sort at
    unfolding play_word_for
    sort =
        ⊎_elim
        (λ (z : eqb sc.due 0 ≡ true).
        inr (⊎_elim
        (λ (p : eqb (kind_of w) 9 ≡ true).
        inl (record {
          plain = plain_here z;
          kind = p;
          is = word_after s ok π at l.after h ∙ cond-false _ _ (plain_here z) ∙ cond-true _ _ (play-kind s at sc l z ∙ p);
        }))
        (λ (p : eqb (kind_of w) 9 ≡ false). inr (event-here z p))
        (which (eqb (kind_of w) 9))))
        (λ (f : eqb sc.due 0 ≡ false).
        inl (record { told = told_here f; is = word_after s ok π at l.after h ∙ cond-true _ _ (told_here f) }))
        (which (eqb sc.due 0))

    -- the scan goes on as before
    scanned-same : Sort at → scanned (is_partitionable s') sc w' ≡ scanned (is_partitionable s) sc w
    scanned-same q = ap (λ (b : Bool). scanned b sc w') (partitionable' s ok π) ∙ go q
      where
        pairs : Bool
        pairs = is_partitionable s

        go : Sort at → scanned pairs sc w' ≡ scanned pairs sc w
        go (inl q) =
            let f = due-here q.told in
            scanned-told pairs sc w' f ∙ sym (scanned-told pairs sc w f)
        go (inr (inl q)) = ap (scanned pairs sc) q.is
        go (inr (inr q)) =
            let z = none_here q.plain in
            let e = q.same_kind in
            scanned-event pairs sc w' z (ap (λ (x : ℕ). eqb x 9) e ∙ q.kind)
            ∙ ap (λ (x : ℕ). record { due = cond (eqb x 8) (told_words pairs) 0; pending = true; rounds = sc.rounds }) e
            ∙ sym (scanned-event pairs sc w z q.kind)

    -- and refuses nothing
    taken-same : Sort at → word_refusal n cast' sc w' ≡ 0
    taken-same (inl q) = refusal-told sc w' n cast' (due-here q.told)
    taken-same (inr (inl q)) =
        let f = none_here q.plain in
        ap (word_refusal n cast' sc) q.is ∙ refusal-play sc w n cast' f q.kind ∙ sym (refusal-play sc w n (cast_of s) f q.kind) ∙ taken_here
    taken-same (inr (inr q)) =
        let f = none_here q.plain in
        refusal-event sc w' n cast' f (ap (λ (x : ℕ). eqb x 9) q.same_kind ∙ q.kind)
        ∙ ap (event_refusal n cast') q.is ∙ event-taken n π (few s ok π) (cast_of s) w q.taken

  -- ---- all words

  -- what the check of the script knew before word `at`
  record Known (at : ℕ) : Type 0 where
    scan : Scan
    linked : Linked s at scan
    rest : Rest at scan

  known : (m : ℕ) → events_at s + m ≤ count → Known (events_at s + m)
  known zero h =
      let e : events_at s + 0 ≡ events_at s = omega arith in
      rw e (record { scan = unscanned; linked = first-linked; rest = first })
  known (suc m) h =
      let at = events_at s + m in
      let e : events_at s + suc m ≡ at + 1 = omega arith in
      let k = known m (omega arith) in
      rw e
      (record {
        scan = scanned (is_partitionable s) k.scan (word_at s at);
        linked = linked-next s at k.scan k.linked;
        rest = (ahead-next s n (cast_of s) count (rounds_of s) at k.scan (omega arith) k.rest).1;
      })

  known_at : (at : ℕ) → events_at s ≤ at → at ≤ count → Known at
  known_at at l h =
      let e : events_at s + (at - events_at s) ≡ at = omega arith in
      subst Known e (known (at - events_at s) (omega arith))

  sort-known : (at : ℕ) → at < count → Known at → Sort at
  sort-known at h k = sort at k.scan h k.linked k.rest

  pub sort-at : (at : ℕ) → events_at s ≤ at → at < count → Sort at
  sort-at at l h = sort-known at h (known_at at l (omega arith))

  -- no told word is missing at the end
  end_known : Known count → told_at s count ≡ false
  end_known k =
      told_is s count k.scan k.linked ∙ ap (λ (d : ℕ). not (eqb d 0)) (ahead-ends s n (cast_of s) count (rounds_of s) k.scan k.rest).0

  pub told-end : told_at s count ≡ false
  told-end = end_known (known_at count (cast-within s ok π) (omega arith))

  scan-for : (words at : ℕ) (sc : Scan) → at + words ≡ count → Linked s at sc → Rest at sc
      → ((scan s' n cast' (count - at) at sc).number ≡ 0) × (last_scan s' words at sc ≡ last_scan s words at sc)
  unfolding scan last_scan
  scan-for zero at sc e l a =
      let z : count - at ≡ 0 = omega arith in
      (rw z (rw z at a.taken), refl)
  scan-for (suc words) at sc e l a =
      let h : at < count = omega arith in
      let q = sort at sc h l a in
      let b = (ahead-next s n (cast_of s) count (rounds_of s) at sc h a).1 in
      let same = scanned-same at sc h l a q in
      let (x, y) = scan-for words (at + 1) (scanned (is_partitionable s) sc (word_at s at)) (omega arith) (linked-next s at sc l) b in (
        ap (λ (v : Verdict). v.number)
            (scan_step s' n cast' count at sc h
            ∙ and-then-next (verdict _ at) _ (taken-same at sc h l a q)
            ∙ ap (scan s' n cast' (count - (at + 1)) (at + 1)) same)
            ∙ x,
        ap (last_scan s' words (at + 1)) same ∙ y,
      )

  whole-scan : ((scan s' n cast' (count - events_at s) (events_at s) unscanned).number ≡ 0)
      × (last_scan s' (count - events_at s) (events_at s) unscanned ≡ last_scan s (count - events_at s) (events_at s) unscanned)
  whole-scan =
      let c = cast-within s ok π in
      scan-for (count - events_at s) (events_at s) unscanned (omega arith) first-linked first

  pub rounds' : rounds_of s' ≡ rounds_of s
  unfolding rounds_of
  rounds' =
      ap₂ (λ (k c : ℕ). (last_scan s' (c - k) k unscanned).rounds) (events-at' s ok π) (count' s ok π)
      ∙ ap (λ (x : Scan). x.rounds) whole-scan.1

  cast-checked : check_cast s' n ≡ accepted
  unfolding check_cast Passed
  cast-checked =
      let c = cast-within s ok π in
      let k = count' s ok π in
      let e = cast-at' s ok π in
      tests-ok (single (ltb (cast_at s') (length s' / 4)) 14 (length s' / 4) ∷ single (cast_ok n (word_at s' (cast_at s'))) 12 (cast_at s') ∷ []) (
        λ _ _. lt-ltb (cast_at s') (length s' / 4) (omega arith),
        (
          λ _ _.
              ap (λ (i : ℕ). cast_ok n (word_at s' i)) e ∙ ap (cast_ok n) (word-cast s ok π)
              ∙ cast_ok_lem n π (few s ok π) (word_at s (cast_at s)) (fits s ok π).cast_ok,
          tt,
        ),
      )

  play-checked : (check_play s' n).number ≡ 0
  unfolding check_play
  play-checked =
      ap (λ (v : Verdict). v.number)
      (ap (λ (v : Verdict). and_then v (scan s' n (cast_in (word_at s' (cast_at s'))) (length s' / 4 - events_at s') (events_at s') unscanned)) cast-checked
      ∙ and-then-next accepted _ refl
      ∙ ap₂ (λ (c k : ℕ). scan s' n c (length s' / 4 - k) k unscanned)
      (ap (λ (i : ℕ). cast_in (word_at s' i)) (cast-at' s ok π) ∙ ap cast_in (word-cast s ok π) ∙ cast-vector n π (few s ok π) (word_at s (cast_at s))) (events-at' s ok π)
      ∙ ap (λ (m : ℕ). scan s' n cast' (m - events_at s) (events_at s) unscanned) (count' s ok π))
      ∙ whole-scan.0

  front-checked : ((j : ℕ) → j < n → place_in (word_at s (start s ok π + j)) ≡ n) → check_front s' ≡ accepted
  unfolding check_front
  front-checked straight =
      let m = size_in (word_at s' 0) in
      ap (λ (v : Verdict). and_then v (check_words s' m))
      (head_ok_lem s' _ (head' s ok π)
      (ap₂ (λ (x y : ℕ). leb (x * 4) y) (cast-at' s ok π) (length' s ok π) ∙ le-leb _ _ (fits s ok π).front.room))
      ∙ and-then-next accepted _ refl
      ∙ words-ok s' m (subst (WordsFit s') (sym (size' s ok π)) (words' s ok π straight))

  pub accepted' : ((j : ℕ) → j < n → place_in (word_at s (start s ok π + j)) ≡ n) → (check_script s').number ≡ 0
  unfolding check_script
  accepted' straight =
      let l = length' s ok π in
      ap (λ (v : Verdict). v.number)
      (and-then-next (outcome (single (leb (length s') most_bytes) 16 0)) _
      (ap (λ (v : Verdict). v.number)
      (single-ok (leb (length s') most_bytes) 16 0 (ap (λ (m : ℕ). leb m most_bytes) l ∙ le-leb (length s) most_bytes (fits s ok π).bytes)))
      ∙ ap (λ (v : Verdict). and_then v (check_play s' (size_in (word_at s' 0)))) (front-checked straight)
      ∙ and-then-next accepted _ refl
      ∙ ap (check_play s') (size' s ok π))
      ∙ play-checked
