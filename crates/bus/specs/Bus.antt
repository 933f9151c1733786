-- The bus of a round: what reaches each receiver from each sender, and what each module reads of it. (document 01, rules 3 and 7; document 02, E11)
use Rattle.std.specs.Prelude.{ℕ, ◌+◌, ◌*◌, ◌%◌, Bool, cond, not, List, [], ◌++◌, eqb, ltb, get_or}
use Rattle.words.specs.Word.{bytes_of}
use Rattle.words.specs.Bits.{bit, pack, full}
use Rattle.words.specs.Array.{array}
use Rattle.words.specs.Table.{table}
use Rattle.rules.specs.Hearing.{bus_word, entry_of}
use Rattle.views.specs.ViewWord.{view_word}
use Rattle.script.specs.declared.Events.{Events}
use Rattle.agreement.specs.Fault.{Round}
use Rattle.bus.specs.declared.Bus.{Bus}

-- ---- by receiver i + 1 and sender j + 1

-- the controller bit
abbrev pub bit_to : Bus → ℕ → ℕ → Bool
bit_to b i j = bit (get_or b.bits i 0) j

-- the word: its entry stands at 16 * i + j
abbrev pub word_to : Bus → ℕ → ℕ → ℕ
word_to b i j = get_or b.words (i * 16 + j) 0

-- the view word, at the same place
abbrev pub view_to : Bus → ℕ → ℕ → ℕ
view_to b i j = get_or b.views (i * 16 + j) 0

-- the round as it is heard: rule 2; the view words have no part in it ("the fault limit go by the syndromes alone")
unfoldable pub round_of : ℕ → Bus → Round
round_of n b = record { hears = λ i j. (entry_of n (bit_to b i j) (word_to b i j)).heard; word = word_to b }

-- ---- what reaches whom

-- in rounds before 1 all hear all, with all-ones words and words of the full view
unfoldable pub faultless : ℕ → Bus
faultless n = record {
  bits = array n (λ i. full n);
  words = table (λ x. bus_word (full n));
  views = table (λ x. view_word (full n));
}

-- what arrives at the entry x: what is told where the fate is a lie, else what its sender sent
abbrev pub arriving : List ℕ → List ℕ → List ℕ → ℕ → ℕ
arriving fate told sent x = cond (eqb (get_or fate x 0) 8) (get_or told x 0) (get_or sent (x % 16) 0)

-- The words and the view words sent by the modules, and the events: a lost word arrives with its controller bit clear, which covers its view word too;
-- a told word arrives in place of the one sent, and with it the told view word in place of the view word sent. Where the setup is not partitionable
-- nobody reads the view words: they are what the caller gives for them, and 0 where a word is told.
unfoldable pub arrived : ℕ → List ℕ → List ℕ → Events → Bus
arrived n sent sent_views e = record {
  bits = array n (λ i. pack n (λ j. not (eqb (get_or e.fate (i * 16 + j) 0) 7)));
  words = table (arriving e.fate e.told sent);
  views = table (arriving e.fate e.views sent_views);
}

-- ---- rule 3: the words of this round for j below the read place, and those of the round before for the others

-- what receiver i + 1 reads of sender j + 1, from the words or the view words of both rounds; its entry stands at 16 * i + j
abbrev pub entry_read : ℕ → ℕ → List ℕ → List ℕ → ℕ → ℕ
entry_read place i this before j = cond (ltb j place) (get_or this (i * 16 + j) 0) (get_or before (i * 16 + j) 0)

-- The words that receiver i + 1 reads, as bytes, from those of both rounds; "a read has 2N words, syndromes first" where the setup is partitionable:
-- then the view words follow, each of the same round as the word of its sender.
unfoldable pub words_read : Bool → ℕ → ℕ → ℕ → List ℕ → List ℕ → List ℕ → List ℕ → List ℕ
words_read partitionable n place i this before this_views before_views =
    bytes_of n (entry_read place i this before) ++ cond partitionable (bytes_of n (entry_read place i this_views before_views)) []

-- the controller bits of that read, from those of the receiver in both rounds
unfoldable pub bits_read : ℕ → ℕ → ℕ → ℕ → ℕ
bits_read n place this before = pack n (λ j. bit (cond (ltb j place) this before) j)
