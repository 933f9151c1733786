-- While the limit is kept the health vectors are one at all rule-followers; so is any account that is kept of them alone.
use Prim.Native.Nat.{ℕ, ◌+◌, ◌-◌, ◌≤◌, ◌<◌}
use mathlib.Core.Path.{◌≡◌, subst}
use mathlib.Core.Bool.{true}
use mathlib.Core.Logic.{inl, inr, ⊎_elim}
use native.Mathlib.Omega.{arith}
use native.Mathlib.Nat.{eq-zero-or-pos}
use Rattle.words.specs.Bits.{bit}
use Rattle.agreement.specs.Fault.{first_follower, limit}
use Rattle.agreement.specs.Session.{Session, Accepted, size, u, follows, round, Common, Bound, view_of, kept_by}
use Rattle.agreement.specs.Demand.{KeptTo}
use Rattle.agreement.specs.Ledger.{AnyAccount}
use Rattle.agreement.proofs.Protocol.{Agree, Kept}
use Rattle.agreement.proofs.Agreement.{agrees}
use Rattle.agreement.proofs.Shared.{protocol, ledger-eq}
use Rattle.agreement.proofs.Meets.{meets}

-- the limit by round is the limit by step
pub kept_step : (S : Session) (k : ℕ) → KeptTo S k → (m : ℕ) → m ≤ k → Kept (protocol S) m
unfolding kept_by
kept_step S k lim m h =
    ⊎_elim inl
    (λ (pos : 0 < m - u S).
    let e : m - u S + u S - 1 ≡ m - 1 = omega arith in
    let le : m - u S ≤ k - u S = omega arith in
    inr
    (subst (λ (r : ℕ). limit (size S) (follows S) (bit (view_of S (first_follower (size S) (follows S)) r)) (round S (m - u S)) (round S (m - u S - u S - 1)) ≡ true) e
    (lim (m - u S) pos le)))
    (eq-zero-or-pos (m - u S))

pub all-agree : (S : Session) → Accepted S → (last : ℕ) → Bound S last → Common S last → (k : ℕ) → k ≤ last → KeptTo S k
    → (m : ℕ) → m ≤ k → Agree (protocol S) m
all-agree S ok last bound common k hk lim = agrees (protocol S) last (meets S ok last bound common) k hk (kept_step S k lim)

pub any-account : AnyAccount
any-account A start account S ok last bound common k hk lim i i' fi fi' =
    ledger-eq S ok start account i i' fi fi' k (all-agree S ok last bound common k hk lim)
