-- A helper of the contracts of the inner functions of src/half_heard.rt; no public contract rests on it: that of `hearing` names document 01's own
-- definition (`hearing_of`, Senders.antt), and proofs/HalfHeardLaws.antt shows that both say the same.
-- How the code finds which senders are half heard: each rule-follower's word of a sender is compared with that of one rule-follower.
use Rattle.std.specs.Prelude.{ℕ, ◌+◌, ◌*◌, ◌/◌, ◌%◌, Bool, cond, not, ◌&&◌, List, eqb, get_or}
use Rattle.words.specs.Bits.{bit}
use Rattle.words.specs.Count.{any}
use Rattle.words.specs.Table.{table}
use Rattle.rules.specs.Hearing.{entry_of}

-- the word w where it is heard, else 0, which no heard word is
unfoldable pub heard_word : ℕ → Bool → ℕ → ℕ
heard_word n on w = cond (entry_of n on w).heard w 0

-- the same for every receiver and sender; the entry of receiver i + 1 and sender j + 1 stands at 16 * i + j
unfoldable pub heard_words : ℕ → List ℕ → List ℕ → List ℕ
heard_words n bits words = table (λ x. heard_word n (bit (get_or bits (x / 16) 0) (x % 16)) (get_or words x 0))

-- a rule-follower has another heard word of sender j + 1 than w
unfoldable pub otherwise : ℕ → ℕ → List ℕ → ℕ → ℕ → Bool
otherwise n cast heard j w = any n (λ i. not (bit cast i) && not (eqb (get_or heard (i * 16 + j) 0) w))
