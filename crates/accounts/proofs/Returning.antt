-- One module's account over rounds: out of the view it comes back after Q rounds running with health 1, and only then. What a round finds may be other
-- than what the round before left, and its limits may be new: a change of limits lies between (document 02, E10).
use mathlib.Core.Path.{◌≡◌, refl, sym, ap, ◌∙◌, subst}
use mathlib.Core.Bool.{Bool, true, false}
use Prim.Native.Nat.{ℕ, zero, suc, ◌+◌, ◌-◌, ◌≤◌, ◌<◌}
use native.Mathlib.Omega.{arith}
use native.Mathlib.Decide.{dec_lt}
use lib.Ieee.{Float}
use Rattle.words.proofs.Truth.{clash, cond-true, cond-false}
use Rattle.setup.specs.declared.Limits.{Limits}
use Rattle.setup.specs.declared.Limits.TheVariants.{Counts, Fading}
use Rattle.accounts.specs.declared.Account.{Account}
use Rattle.accounts.specs.Account.{counts, awaited, accounted}
use Rattle.accounts.specs.Fading.{scored, faded}
use Rattle.accounts.specs.Round.{accounted_by, returned_by}
use Rattle.accounts.proofs.AwaitedLaws.{awaited-grown, awaited-back, awaited-longer, awaited-back-by}
use Rattle.accounts.proofs.AccountLaws.{inside_both}

-- ---- one round of one module

-- where it does not return, by the limits of the setup
abbrev away_by : Limits → Account → ℕ → Account
away_by (Counts p r) a = counts false a.penalty a.reward
away_by (Fading factor limit) a = scored false a.score

-- both forms have what the laws of `awaited` ask
pub returned-on : (l : Limits) → (returned_by l).present ≡ true
returned-on (Counts p r) = refl
returned-on (Fading factor limit) = refl

returned-none : (l : Limits) → (returned_by l).returns ≡ 0
returned-none (Counts p r) = refl
returned-none (Fading factor limit) = refl

away-off : (l : Limits) (a : Account) (k : ℕ) → (away_by l a k).present ≡ false
away-off (Counts p r) a k = refl
away-off (Fading factor limit) a k = refl

away-some : (l : Limits) (a : Account) (k : ℕ) → (away_by l a k).returns ≡ k
away-some (Counts p r) a k = refl
away-some (Fading factor limit) a k = refl

-- out of the view it is awaited
out-counts : (p r q k : ℕ) (h : Bool) (a : Account) → a.present ≡ false
    → accounted p r q k h a ≡ awaited (returned_by (Counts p r)) (away_by (Counts p r) a) q h a.returns
unfolding accounted
out-counts p r q k h a e = cond-false _ _ e

out-fading : (factor limit : Float) (q : ℕ) (h : Bool) (a : Account) → a.present ≡ false
    → faded factor limit q h a ≡ awaited (returned_by (Fading factor limit)) (away_by (Fading factor limit) a) q h a.returns
unfolding faded
out-fading factor limit q h a e = cond-false _ _ e

out-next : (l : Limits) (q k : ℕ) (h : Bool) (a : Account) → a.present ≡ false → accounted_by l q k h a ≡ awaited (returned_by l) (away_by l a) q h a.returns
unfolding accounted_by
out-next (Counts p r) q k h a e = out-counts p r q k h a e
out-next (Fading factor limit) q k h a e = out-fading factor limit q h a e

-- in the view nothing is counted
none_inside : (l : Limits) (q k : ℕ) (h : Bool) (a : Account) → a.present ≡ true → (accounted_by l q k h a).returns ≡ 0
unfolding accounted_by accounted faded
none_inside (Counts p r) q k h a e =
    ap (λ (x : Account). x.returns) (cond-true _ _ e) ∙ inside_both p r q k h a (λ (x : Account). x.returns ≡ 0) (λ b x y. refl)
none_inside (Fading factor limit) q k h a e = ap (λ (x : Account). x.returns) (cond-true _ _ e)

module _ (l : Limits) (q k : ℕ) (h : Bool) (a : Account) where
  abbrev next : Account
  next = accounted_by l q k h a

  grown : 1 ≤ next.returns → (h ≡ true) × (a.present ≡ false) × (next.returns ≡ a.returns + 1)
  grown g = go a.present refl
    where
      go : (b : Bool) → a.present ≡ b → (h ≡ true) × (a.present ≡ false) × (next.returns ≡ a.returns + 1)
      go true e =
          let z : next.returns ≡ 0 = none_inside l q k h a e in
          absurd (omega arith)
      go false e =
          let z : next.returns ≡ (awaited (returned_by l) (away_by l a) q h a.returns).returns = ap (λ (x : Account). x.returns) (out-next l q k h a e) in
          let (good, one) =
          awaited-grown (returned_by l) (away_by l a) q h a.returns (returned-on l) (returned-none l) (away-off l a) (away-some l a) (omega arith)
          in
          (good, e, z ∙ one)

  module _ (out : a.present ≡ false) where
    back : h ≡ true → 1 ≤ q → q ≤ a.returns + 1 → next ≡ returned_by l
    back e w g =
        out-next l q k h a out
        ∙ awaited-back (returned_by l) (away_by l a) q h a.returns (returned-on l) (returned-none l) (away-off l a) (away-some l a) e w g

    longer : h ≡ true → 1 ≤ q → next.present ≡ false → next.returns ≡ a.returns + 1
    longer e w f =
        ap (λ (x : Account). x.returns) (out-next l q k h a out)
        ∙ awaited-longer (returned_by l) (away_by l a) q h a.returns (returned-on l) (returned-none l) (away-off l a) (away-some l a) e w
        (ap (λ (x : Account). x.present) (sym (out-next l q k h a out)) ∙ f)

    back_by : next.present ≡ true → (h ≡ true) × (1 ≤ q) × (q ≤ a.returns + 1)
    back_by e =
        awaited-back-by (returned_by l) (away_by l a) q h a.returns (returned-on l) (returned-none l) (away-off l a) (away-some l a)
        (ap (λ (x : Account). x.present) (sym (out-next l q k h a out)) ∙ e)

    -- what is counted is counted outside
    counted-away : 1 ≤ next.returns → next.present ≡ false
    counted-away g = go next.present refl
      where
        go : (b : Bool) → next.present ≡ b → b ≡ false
        go true e =
            let (good, w, most) = back_by e in
            let z : next.returns ≡ 0 = ap (λ (x : Account). x.returns) (back good w most) ∙ returned-none l in
            absurd (omega arith)
        go false e = refl

-- ---- the rounds of one module

-- Round m + 1 finds the module's account as `found m`: what was left of it after round m, `account m`, with the return count that it had. Limits and
-- charge are those that the round counts with.
module _ (q : ℕ) (l : ℕ → Limits) (k : ℕ → ℕ) (health : ℕ → Bool) (account found : ℕ → Account)
    (step : (m : ℕ) → account (suc m) ≡ accounted_by (l m) q (k m) (health (suc m)) (found m))
    (same_count : (m : ℕ) → (found m).returns ≡ (account m).returns) where
  stepped-view : (m : ℕ) → (account (suc m)).present ≡ (accounted_by (l m) q (k m) (health (suc m)) (found m)).present
  stepped-view m = ap (λ (x : Account). x.present) (step m)

  stepped-count : (m : ℕ) → (account (suc m)).returns ≡ (accounted_by (l m) q (k m) (health (suc m)) (found m)).returns
  stepped-count m = ap (λ (x : Account). x.returns) (step m)

  -- d rounds running with health 1, each found out of the view and left out of it, are counted
  run-counted : (m d : ℕ) → 1 ≤ q → ((i : ℕ) → i < d → (found (m + i)).present ≡ false)
      → ((i : ℕ) → i < d → (account (suc (m + i))).present ≡ false)
      → ((i : ℕ) → i < d → health (suc (m + i)) ≡ true) → d ≤ (account (m + d)).returns
  run-counted m zero w away out good = omega arith
  run-counted m (suc d) w away out good =
      let t = run-counted m d w (λ i h. away i (omega arith)) (λ i h. out i (omega arith)) (λ i h. good i (omega arith)) in
      let z : m + suc d ≡ suc (m + d) = omega arith in
      let e =
      stepped-count (m + d)
      ∙ longer (l (m + d)) q (k (m + d)) (health (suc (m + d))) (found (m + d)) (away d (omega arith)) (good d (omega arith)) w
      (sym (stepped-view (m + d)) ∙ out d (omega arith))
      in
      let s = same_count (m + d) in
      let c : (account (m + suc d)).returns ≡ (account (suc (m + d))).returns = ap (λ i. (account i).returns) z in
      omega arith

  -- what is counted are so many rounds running with health 1, each found out of the view and left out of it
  record Counted (i : ℕ) : Type 0 where
    away : (found i).present ≡ false
    healthy : health (suc i) ≡ true
    out : (account (suc i)).present ≡ false

  counted-run : (start : (account 0).returns ≡ 0) (m d : ℕ) → d ≤ (account m).returns → (d ≤ m) × ((i : ℕ) → i < m → m ≤ i + d → Counted i)
  counted-run start m zero t = (omega arith, λ i h g. absurd (omega arith))
  counted-run start zero (suc d) t = absurd (omega arith)
  counted-run start (suc m) (suc d) t =
      let c = stepped-count m in
      let some : 1 ≤ (accounted_by (l m) q (k m) (health (suc m)) (found m)).returns = omega arith in
      let (good, away, one) = grown (l m) q (k m) (health (suc m)) (found m) some in
      let s = same_count m in
      let e : (account (suc m)).returns ≡ (found m).returns + 1 = c ∙ one in
      let (n, before) = counted-run start m d (omega arith) in
      let this : Counted m = record {
        away = away;
        healthy = good;
        out = stepped-view m ∙ counted-away (l m) q (k m) (health (suc m)) (found m) away some;
      } in
      (omega arith, λ i h g. go this before i (dec_lt i m) h g)
    where
      go : Counted m → ((i : ℕ) → i < m → m ≤ i + d → Counted i) → (i : ℕ) → Dec (i < m) → i < suc m → suc m ≤ i + suc d → Counted i
      go this before i (yes t) h g = before i t (omega arith)
      go this before i (no n) h g =
          let e : m ≡ i = omega arith in
          subst Counted e this

  -- Q rounds running with health 1 up to round k + 1, each found out of the view and all but the last left out of it, bring it back
  pub comes_back : (r : ℕ) → 1 ≤ q → q ≤ suc r
      → ((m : ℕ) → suc r ≤ m + q → m ≤ r → (found m).present ≡ false)
      → ((m : ℕ) → suc (suc r) ≤ m + q → m ≤ r → (account m).present ≡ false)
      → ((m : ℕ) → suc r ≤ m + q → m ≤ r → health (suc m) ≡ true) → account (suc r) ≡ returned_by (l r)
  comes_back r w y away out good =
      let m = suc r - q in
      let d = q - 1 in
      let z : m + d ≡ r = omega arith in
      let t : d ≤ (account (m + d)).returns =
      run-counted m d w (λ i h. away (m + i) (omega arith) (omega arith)) (λ i h. out (suc (m + i)) (omega arith) (omega arith))
      (λ i h. good (m + i) (omega arith) (omega arith))
      in
      let e : (account (m + d)).returns ≡ (account r).returns = ap (λ i. (account i).returns) z in
      let s = same_count r in
      step r ∙ back (l r) q (k r) (health (suc r)) (found r) (away r (omega arith) (omega arith)) (good r (omega arith) (omega arith)) w (omega arith)

  -- so it comes back in no other round
  pub record CameBack (r : ℕ) : Type 0 where
    pub some : 1 ≤ q
    pub played : q ≤ suc r
    pub away : (m : ℕ) → suc r ≤ m + q → m ≤ r → (found m).present ≡ false
    pub out : (m : ℕ) → suc (suc r) ≤ m + q → m ≤ r → (account m).present ≡ false
    pub healthy : (m : ℕ) → suc r ≤ m + q → m ≤ r → health (suc m) ≡ true

  pub came-back : (start : (account 0).returns ≡ 0) (r : ℕ) → (found r).present ≡ false → (account (suc r)).present ≡ true → CameBack r
  came-back start r off on =
      let (good, w, most) = back_by (l r) q (k r) (health (suc r)) (found r) off (sym (stepped-view r) ∙ on) in
      let s = same_count r in
      let (y, before) = counted-run start r (q - 1) (omega arith) in
      record {
        some = w;
        played = omega arith;
        away = λ m f h. last (λ i. (found i).present ≡ false) m (dec_lt m r) off (λ g o. (before m g o).away) f h;
        out = λ m f h.
            let p : suc (m - 1) ≡ m = omega arith in
            subst (λ i. (account i).present ≡ false) p (before (m - 1) (omega arith) (omega arith)).out;
        healthy = λ m f h. last (λ i. health (suc i) ≡ true) m (dec_lt m r) good (λ g o. (before m g o).healthy) f h;
      }
    where
      last : (P : ℕ → Type 0) (m : ℕ) → Dec (m < r) → P r → (m < r → r ≤ m + (q - 1) → P m) → suc r ≤ m + q → m ≤ r → P m
      last P m (yes t) a b f h = b t (omega arith)
      last P m (no n) a b f h = let e : r ≡ m = omega arith in subst P e a

  -- it is back as a return leaves it
  pub as-returned : (r : ℕ) → (found r).present ≡ false → (account (suc r)).present ≡ true → account (suc r) ≡ returned_by (l r)
  as-returned r off on =
      let (good, w, most) = back_by (l r) q (k r) (health (suc r)) (found r) off (sym (stepped-view r) ∙ on) in
      step r ∙ back (l r) q (k r) (health (suc r)) (found r) off good w most

  -- with Q = 0 it comes back in no round
  pub never_back : q ≡ 0 → (m : ℕ) → (found m).present ≡ false → (account (suc m)).present ≡ false
  never_back z m off = go (account (suc m)).present refl
    where
      go : (b : Bool) → (account (suc m)).present ≡ b → b ≡ false
      go true e =
          let (good, w, most) = back_by (l m) q (k m) (health (suc m)) (found m) off (sym (stepped-view m) ∙ e) in
          absurd (omega arith)
      go false e = refl

  -- with health 0 neither
  pub bad-stays : (m : ℕ) → (found m).present ≡ false → health (suc m) ≡ false → (account (suc m)).present ≡ false
  bad-stays m off bad = go (account (suc m)).present refl
    where
      go : (b : Bool) → (account (suc m)).present ≡ b → b ≡ false
      go true e =
          let (good, w, most) = back_by (l m) q (k m) (health (suc m)) (found m) off (sym (stepped-view m) ∙ e) in
          clash (health (suc m)) good bad
      go false e = refl
