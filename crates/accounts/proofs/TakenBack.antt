-- A module that is out of the view comes back after Q rounds running with health 1, and only then.
use mathlib.Core.Path.{◌≡◌, refl, ap, ◌∙◌}
use mathlib.Core.Bool.{Bool, true, false}
use Prim.Native.Nat.{ℕ, zero, suc, ◌+◌, ◌-◌, ◌≤◌, ◌<◌}
use native.Mathlib.Omega.{arith}
use lib.ListN.{get_or}
use borrow.Author.Tests.{lt-leb}
use Rattle.words.specs.Bits.{bit}
use Rattle.setup.specs.declared.Setup.{Setup}
use Rattle.setup.specs.declared.Limits.TheVariants.{Counts}
use Rattle.accounts.specs.declared.Account.{Account}
use Rattle.accounts.specs.declared.Counters.{Counters}
use Rattle.accounts.specs.Account.{uncounted, charged, accounted}
use Rattle.accounts.specs.Round.{accounted_by, returned_by, account_at, accounted_at}
use Rattle.accounts.specs.TakenBack.{counters_after, in_view_after, NoneCounted, GoodRun, TakenBack}
use Rattle.accounts.proofs.RoundLaws.{accounted-at}
use Rattle.accounts.proofs.Returning.{returned-on, comes_back, came-back, as-returned, never_back}

module _ (s : Setup) (health : ℕ → ℕ) (c : Counters) (j : ℕ) (small : s.n ≤ 16) (hj : j < s.n) where
  abbrev account_of : ℕ → Account
  account_of m = account_at (counters_after s health c m) j

  abbrev healthy : ℕ → Bool
  healthy m = bit (health m) j

  abbrev charge : ℕ
  charge = get_or s.criticality j 0

  round : (m : ℕ) → account_of (suc m) ≡ accounted_by s.limits s.q charge (healthy (suc m)) (account_of m)
  unfolding counters_after accounted_at
  round m = accounted-at s (health (suc m)) (counters_after s health c m) small j hj

  -- the bit of the view is that of the account
  viewed : (m : ℕ) (b : Bool) → in_view_after s health c m j ≡ b → (account_of m).present ≡ b
  unfolding account_at
  viewed m b e = e

  shown : (m : ℕ) (b : Bool) → (account_of m).present ≡ b → in_view_after s health c m j ≡ b
  unfolding account_at
  shown m b e = e

  started : NoneCounted s c → (account_of 0).returns ≡ 0
  unfolding account_at counters_after
  started none = none j hj

  back : (k : ℕ) → GoodRun s health c k j → in_view_after s health c (suc k) j ≡ true
  back k g =
      shown (suc k) true
      (ap (λ (x : Account). x.present)
      (comes_back s.q (λ m. s.limits) (λ m. charge) healthy account_of account_of round (λ m. refl) k g.some g.played
      (λ m f h. viewed m false (g.away m f h)) (λ m f h. viewed m false (g.away m (omega arith) h)) g.healthy)
      ∙ returned-on s.limits)

  good-run : (k : ℕ) → NoneCounted s c → in_view_after s health c k j ≡ false → in_view_after s health c (suc k) j ≡ true → GoodRun s health c k j
  good-run k none out on =
      let b = came-back s.q (λ m. s.limits) (λ m. charge) healthy account_of account_of round (λ m. refl) (started none) k (viewed k false out)
      (viewed (suc k) true on) in
      record { some = b.some; played = b.played; away = λ m f h. shown m false (b.away m f h); healthy = b.healthy }

  returned : (k : ℕ) → in_view_after s health c k j ≡ false → in_view_after s health c (suc k) j ≡ true → account_of (suc k) ≡ returned_by s.limits
  returned k out on =
      as-returned s.q (λ m. s.limits) (λ m. charge) healthy account_of account_of round (λ m. refl) k (viewed k false out) (viewed (suc k) true on)

  left-again : (p r k : ℕ) → s.limits ≡ Counts p r → 1 ≤ charge → in_view_after s health c k j ≡ false → in_view_after s health c (suc k) j ≡ true
      → healthy (suc (suc k)) ≡ false → in_view_after s health c (suc (suc k)) j ≡ false
  unfolding accounted_by accounted charged
  left-again p r k form least out on bad =
      let e : (accounted p r s.q charge false (uncounted true p 0)).present ≡ false = lt-leb (p + charge) p (omega arith) in
      shown (suc (suc k)) false
      (ap (λ (x : Account). x.present) (round (suc k))
      ∙ ap (λ (x : Account). (accounted_by s.limits s.q charge (healthy (suc (suc k))) x).present) (returned k out on)
      ∙ (λ i. (accounted_by (form i) s.q charge (bad i) (returned_by (form i))).present)
      ∙ e)

  stays_out : s.q ≡ 0 → (k d : ℕ) → in_view_after s health c k j ≡ false → in_view_after s health c (k + d) j ≡ false
  stays_out z k zero out = let e : k + 0 ≡ k = omega arith in ap (λ i. in_view_after s health c i j) e ∙ out
  stays_out z k (suc d) out =
      let e : k + suc d ≡ suc (k + d) = omega arith in
      ap (λ i. in_view_after s health c i j) e
      ∙ shown (suc (k + d)) false
      (never_back s.q (λ m. s.limits) (λ m. charge) healthy account_of account_of round (λ m. refl) z (k + d) (viewed (k + d) false (stays_out z k d out)))

pub taken_back : TakenBack
taken_back = record {
  returns = λ s health c k j small none hj g. back s health c j small hj k g;
  only_then = λ s health c k j small none hj out on. good-run s health c j small hj k none out on;
  as-it-returns = λ s health c k j small hj out on. returned s health c j small hj k out on;
  leaves-at-once = λ s p r health c k j form small hj least out on bad. left-again s health c j small hj p r k form least out on bad;
  never = λ s health c k m j small hj z out l. ap (λ i. in_view_after s health c i j) (sum k m l) ∙ stays_out s health c j small hj z k (m - k) out;
}
  where
    sum : (k m : ℕ) → k ≤ m → m ≡ k + (m - k)
    sum k m l = omega arith
