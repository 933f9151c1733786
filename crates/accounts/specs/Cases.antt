-- Fading scores, sentence by sentence (document 02, E9), on the account of one module: what rule 8 gives, and what document 02 says.
-- Computed in proofs/Cases.antt.
use Rattle.std.specs.Prelude.{ℕ, ◌≡◌, Bool, true, false, ◌&&◌, List, [], ◌∷◌, ◌++◌, eqb, Float}
use Rattle.std.specs.Float.{binary64}
use Rattle.std.specs.Float.Ieee.{of_bits, to_bits}
use Rattle.words.specs.Bits.{b2n}
use Rattle.doubles.specs.Double.{double}
use Rattle.setup.specs.declared.Limits.{Limits}
use Rattle.setup.specs.declared.Limits.TheVariants.{Fading}
use Rattle.accounts.specs.Fading.{scored}
use Rattle.accounts.specs.Round.{accounted_by}
use Rattle.accounts.specs.declared.Account.{Account}

-- ---- the table

-- one line
pub record Case : Type 0 where
  pub gives : ℕ
  pub says : ℕ

-- such a line
abbrev pub case : ℕ → ℕ → Case
case gives says = record { gives = gives; says = says }

-- in every line both are the same
abbrev pub right : List Case → Bool
right [] = true
right (c ∷ cs) = eqb c.gives c.says && right cs

-- an account is in the view (1) or not (0), its score has these bits, and it has this return count; no penalty and no reward beside the score
abbrev pub held : Account → ℕ → ℕ → ℕ → List Case
held a present bits returns =
    case (b2n a.present) present ∷ case (to_bits binary64 a.score) bits ∷ case a.returns returns ∷ case a.penalty 0 ∷ case a.reward 0 ∷ []

-- ---- a module

-- a round with health 1 and one with health 0
abbrev pub well : Bool
well = true

abbrev pub ill : Bool
ill = false

-- the account after rounds of this health, one after the other, by these limits and a return limit; of a criticality
abbrev pub rounds_of : ℕ → Limits → ℕ → List Bool → Account → Account
rounds_of criticality limits q [] a = a
rounds_of criticality limits q (healthy ∷ rounds) a = rounds_of criticality limits q rounds (accounted_by limits q criticality healthy a)

-- from opening on, with criticality 1
abbrev pub after : Limits → ℕ → List Bool → Account
after limits q rounds = rounds_of 1 limits q rounds (scored true (double 0) 0)

-- 0.1, as near as a double is
abbrev pub tenth : Float
tenth = of_bits binary64 0x3FB9_9999_9999_999A

-- ---- a charge adds 1.0, a good round multiplies by the factor, each rounded once
-- Factor 0.1: at opening 0.0, three charges 3.0, a good round 0.30000000000000004, a charge 1.3, a good round 0.13.
abbrev pub charge_cases : List Case
charge_cases =
    held (after (Fading tenth (double 1000000)) 0 []) 1 0 0
    ++ (held (after (Fading tenth (double 1000000)) 0 (ill ∷ ill ∷ ill ∷ [])) 1 0x4008_0000_0000_0000 0
    ++ (held (after (Fading tenth (double 1000000)) 0 (ill ∷ ill ∷ ill ∷ well ∷ [])) 1 0x3FD3_3333_3333_3334 0
    ++ (held (after (Fading tenth (double 1000000)) 0 (ill ∷ ill ∷ ill ∷ well ∷ ill ∷ [])) 1 0x3FF4_CCCC_CCCC_CCCD 0
    ++ held (after (Fading tenth (double 1000000)) 0 (ill ∷ ill ∷ ill ∷ well ∷ ill ∷ well ∷ [])) 1 0x3FC0_A3D7_0A3D_70A4 0)))

-- ---- at or above the limit it leaves
-- Limit 3.0: in the view with 2.0, out with exactly 3.0; limit 2.5: out with 3.0.
abbrev pub leave_cases : List Case
leave_cases =
    held (after (Fading tenth (double 3)) 0 (ill ∷ ill ∷ [])) 1 0x4000_0000_0000_0000 0
    ++ (held (after (Fading tenth (double 3)) 0 (ill ∷ ill ∷ ill ∷ [])) 0 0x4008_0000_0000_0000 0
    ++ held (after (Fading tenth (of_bits binary64 0x4004_0000_0000_0000)) 0 (ill ∷ ill ∷ ill ∷ [])) 0 0x4008_0000_0000_0000 0)

-- ---- and the score freezes
-- Out with 3.0: a good and a bad round leave it, and with Q = 0 it stays out.
abbrev pub frozen_cases : List Case
frozen_cases =
    held (after (Fading tenth (double 3)) 0 (ill ∷ ill ∷ ill ∷ well ∷ [])) 0 0x4008_0000_0000_0000 0
    ++ (held (after (Fading tenth (double 3)) 0 (ill ∷ ill ∷ ill ∷ ill ∷ [])) 0 0x4008_0000_0000_0000 0
    ++ held (after (Fading tenth (double 3)) 0 (ill ∷ ill ∷ ill ∷ well ∷ well ∷ well ∷ [])) 0 0x4008_0000_0000_0000 0)

-- ---- a returning module starts at 0.0
-- Q = 2: one good round is counted, after two it is back; a bad round begins the count anew. Back, it is charged from 0.0 on.
abbrev pub return_cases : List Case
return_cases =
    held (after (Fading tenth (double 3)) 2 (ill ∷ ill ∷ ill ∷ well ∷ [])) 0 0x4008_0000_0000_0000 1
    ++ (held (after (Fading tenth (double 3)) 2 (ill ∷ ill ∷ ill ∷ well ∷ well ∷ [])) 1 0 0
    ++ (held (after (Fading tenth (double 3)) 2 (ill ∷ ill ∷ ill ∷ well ∷ ill ∷ [])) 0 0x4008_0000_0000_0000 0
    ++ (held (after (Fading tenth (double 3)) 2 (ill ∷ ill ∷ ill ∷ well ∷ ill ∷ well ∷ [])) 0 0x4008_0000_0000_0000 1
    ++ (held (after (Fading tenth (double 3)) 2 (ill ∷ ill ∷ ill ∷ well ∷ ill ∷ well ∷ well ∷ [])) 1 0 0
    ++ held (after (Fading tenth (double 3)) 2 (ill ∷ ill ∷ ill ∷ well ∷ well ∷ ill ∷ [])) 1 0x3FF0_0000_0000_0000 0))))

-- ---- a factor within 0 to 1
-- Factor 0.0: a good round clears the score, to 0.0 and not to minus zero. Factor 1.0: it leaves the score as it is.
abbrev pub factor_cases : List Case
factor_cases =
    held (after (Fading (double 0) (double 3)) 0 (ill ∷ ill ∷ well ∷ [])) 1 0 0
    ++ (held (after (Fading (double 1) (double 3)) 0 (ill ∷ ill ∷ well ∷ [])) 1 0x4000_0000_0000_0000 0
    ++ held (after (Fading (double 1) (double 3)) 0 (ill ∷ well ∷ ill ∷ well ∷ ill ∷ [])) 0 0x4008_0000_0000_0000 0)

-- ---- a charge adds 1.0, whatever the criticality
-- Two charges with criticality 100,000 give what they give with 1.
abbrev pub criticality_cases : List Case
criticality_cases =
    held (rounds_of 100000 (Fading tenth (double 3)) 0 (ill ∷ ill ∷ []) (scored true (double 0) 0)) 1 0x4000_0000_0000_0000 0
    ++ held (rounds_of 1 (Fading tenth (double 3)) 0 (ill ∷ ill ∷ []) (scored true (double 0) 0)) 1 0x4000_0000_0000_0000 0

-- every line is right
abbrev pub CasesRight : Type 0
CasesRight = right (charge_cases ++ (leave_cases ++ (frozen_cases ++ (return_cases ++ (factor_cases ++ criticality_cases))))) ≡ true
