-- How the rule-followers hear the senders of a round, as vectors. (document 01, "Fault limit"; agreement/specs/Fault.antt)
use Rattle.std.specs.Prelude.{ℕ}
use Rattle.words.specs.Bits.{bit, pack}
use Rattle.agreement.specs.Fault.{Senders, follows_in, half, heard}
use Rattle.bus.specs.Bus.{round_of}
use Rattle.bus.specs.declared.Bus.{Bus}
use Rattle.bus.specs.declared.Hearing.{Hearing}

-- the vectors of a round: which senders are half heard, and which are heard by some rule-follower
unfoldable pub hearing_of : ℕ → ℕ → Bus → Hearing
hearing_of n cast b = record {
  half = pack n (half n (follows_in cast) (round_of n b));
  heard = pack n (heard n (follows_in cast) (round_of n b));
}

-- what two such vectors say, as the fault limit asks it
abbrev pub senders_in : Hearing → Senders
senders_in h = record { half = bit h.half; heard = bit h.heard }
