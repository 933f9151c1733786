-- Run scripts and their verdicts: cases of numbers 1 to 5 and 12 to 15 of document 01's table of answers, of 22 of document 02, E9, of told words in
-- pairs, E11, and of their order. Then run scripts and what their events do in each round. Computed in proofs/Cases.antt.
use Rattle.std.specs.Prelude.{ℕ, ◌+◌, ◌-◌, ◌/◌, ◌%◌, ◌^◌, ◌≡◌, Bool, true, not, ◌&&◌, ◌||◌, List, [], ◌∷◌, ◌++◌, eqb, get_or, length, replicate}
use Rattle.words.specs.Word.{bytes_of}
use Rattle.words.specs.Verdict.{Verdict}
use Rattle.script.specs.Check.{check_script}
use Rattle.script.specs.Rounds.{rounds_of}
use Rattle.script.specs.Effect.{fate_in, told_in, told_view_in}

-- the words of a script, and the number and index of its verdict
pub record Case : Type 0 where
  pub words : List ℕ
  pub number : ℕ
  pub index : ℕ

-- the sheet's module words, then these words
abbrev pub modules_with : List ℕ → List ℕ
modules_with words = 0x4088_0001 ∷ 0x4108_0001 ∷ 0x4188_0001 ∷ 0x4208_0001 ∷ words

-- a setup of the sheet's limits and modules with this head, then these words
abbrev pub head_with : ℕ → List ℕ → List ℕ
head_with head words = head ∷ 0x2000_0001 ∷ 0x3000_0003 ∷ modules_with words

-- the sheet's setup, then these words
abbrev pub sheet_with : List ℕ → List ℕ
sheet_with words = head_with 0x1000_0004 words

-- a script of the sheet's setup and these words; with this verdict
abbrev pub run : List ℕ → ℕ → ℕ → Case
run words number index = record { words = sheet_with words; number = number; index = index }

-- the sheet's setup with head bit 5, a cast of module 2, then these words
abbrev pub torn_with : List ℕ → List ℕ
torn_with words = head_with 0x1000_0024 (0x6000_0002 ∷ words)

-- a script of these words; with this verdict. The first word after the cast stands at 8.
abbrev pub torn : List ℕ → ℕ → ℕ → Case
torn words number index = record { words = torn_with words; number = number; index = index }

-- the words between the head and the modules of a setup that fades: the kind 0 word, the factor and the limit by their bits; then these words
abbrev pub fading_limits : ℕ → ℕ → ℕ → List ℕ → List ℕ
fading_limits form factor limit words = form ∷ factor / 2 ^ 32 ∷ factor % 2 ^ 32 ∷ limit / 2 ^ 32 ∷ limit % 2 ^ 32 ∷ words

-- these words after the sheet's head
abbrev pub fading_front : ℕ → ℕ → ℕ → List ℕ → List ℕ
fading_front form factor limit words = 0x1000_0004 ∷ fading_limits form factor limit words

-- the bits of some doubles: 0.5, 1.0, 3.0 and 1,000,000.0
abbrev pub half : ℕ
half = 0x3FE0_0000_0000_0000

abbrev pub one : ℕ
one = 0x3FF0_0000_0000_0000

abbrev pub three : ℕ
three = 0x4008_0000_0000_0000

abbrev pub million : ℕ
million = 0x412E_8480_0000_0000

-- the sheet's modules in a setup with factor 0.5 and limit 3.0, then these words
abbrev pub fading_with : List ℕ → List ℕ
fading_with words = fading_front 0 half three (modules_with words)

-- the same with head bit 5
abbrev pub torn_fading_with : List ℕ → List ℕ
torn_fading_with words = 0x1000_0024 ∷ fading_limits 0 half three (modules_with words)

-- a script of the former setup and these words; with this verdict
abbrev pub fading : List ℕ → ℕ → ℕ → Case
fading words number index = record { words = fading_with words; number = number; index = index }

-- a script of a setup with this kind 0 word, factor and limit, a cast and a play; with this verdict
abbrev pub limits : ℕ → ℕ → ℕ → ℕ → ℕ → Case
limits form factor limit number index =
    record { words = fading_front form factor limit (modules_with (0x6000_0000 ∷ 0x9000_0001 ∷ [])); number = number; index = index }

-- the bytes of a script of these words
abbrev pub script_of : List ℕ → List ℕ
script_of ws = bytes_of (length ws) (λ i. get_or ws i 0)

-- the verdict on it
abbrev pub verdict_of : List ℕ → Verdict
verdict_of ws = check_script (script_of ws)

-- every case has the verdict that it names
abbrev pub right : List Case → Bool
right [] = true
right (c ∷ cs) =
    let v = verdict_of c.words in
    eqb v.number c.number && eqb v.index c.index && right cs

-- the cases, those of one number together
abbrev pub cases : List Case
cases =
    -- the sheet
    run (0x6000_0000 ∷ 0x7100_000F ∷ 0x9000_0002 ∷ []) 0 0
    -- 1: no word; 2: N = 17, Q = 1,000,001, a bit between Q and N; 3: fewer than N + 3 words, with Q = 0 and with Q = 1,000,000
    ∷ record { words = []; number = 1; index = 0 } ∷ record { words = 0x1000_0011 ∷ []; number = 2; index = 0 }
    ∷ record { words = 0x1F42_4104 ∷ []; number = 2; index = 0 } ∷ record { words = 0x1000_0044 ∷ []; number = 2; index = 0 }
    ∷ record { words = 0x1000_0084 ∷ []; number = 2; index = 0 } ∷ record { words = 0x1F42_4004 ∷ []; number = 3; index = 0 } ∷ record { words = 0x1000_0024 ∷ []; number = 3; index = 0 }
    ∷ record { words = 0x1000_0004 ∷ 0x2000_0001 ∷ 0x3000_0003 ∷ []; number = 3; index = 0 }
    -- a setup that fades is accepted, and the cast is looked for after its N + 6 words: no cast, no cast first, a lie by the cast and by another
    ∷ fading (0x6000_0000 ∷ 0x7100_000F ∷ 0x9000_0002 ∷ []) 0 0 ∷ fading [] 14 10 ∷ fading (0x9000_0001 ∷ []) 12 10
    ∷ fading (0x6000_0002 ∷ 0x8100_000F ∷ 0x5000_0000 ∷ 0x9000_0001 ∷ []) 0 0
    ∷ fading (0x6000_0004 ∷ 0x8100_000F ∷ 0x5000_0000 ∷ 0x9000_0001 ∷ []) 13 11
    -- 3: fewer than N + 6 words where the second is of kind 0: one fewer, also with a spare bit in it and with a limit of 0.0; N + 3 words; two words
    ∷ record { words = fading_front 0 half three (0x4088_0001 ∷ 0x4108_0001 ∷ 0x4188_0001 ∷ []); number = 3; index = 0 }
    ∷ record { words = fading_front 1 half three (0x4088_0001 ∷ 0x4108_0001 ∷ 0x4188_0001 ∷ []); number = 3; index = 0 }
    ∷ record { words = fading_front 0 half 0 (0x4088_0001 ∷ 0x4108_0001 ∷ 0x4188_0001 ∷ []); number = 3; index = 0 }
    ∷ record { words = fading_front 0 half three (0x4088_0001 ∷ []); number = 3; index = 0 }
    ∷ record { words = 0x1000_0004 ∷ 0 ∷ []; number = 3; index = 0 }
    -- factors of 0.0 and 1.0 are accepted, and limits of the least double above 0.0 and of 1,000,000.0
    ∷ limits 0 0 three 0 0 ∷ limits 0 one three 0 0 ∷ limits 0 half 1 0 0 ∷ limits 0 half million 0 0
    -- 22 at 1: spare bits in the kind 0 word, the lowest and the highest, also where factor and limit are wrong
    ∷ limits 1 half three 22 1 ∷ limits 0x0800_0000 half three 22 1 ∷ limits 1 (one + 1) 0 22 1
    -- 22 at 2: a factor of minus zero, minus 0.5, the next double above 1.0, infinite, no number, also where the limit is wrong
    ∷ limits 0 (2 ^ 63) three 22 2 ∷ limits 0 (2 ^ 63 + half) three 22 2 ∷ limits 0 (one + 1) three 22 2
    ∷ limits 0 0x7FF0_0000_0000_0000 three 22 2 ∷ limits 0 0x7FF8_0000_0000_0000 three 22 2 ∷ limits 0 (one + 1) 0 22 2
    -- 22 at 4: a limit of 0.0, minus zero, minus 3.0, the next double above 1,000,000.0, infinite, no number
    ∷ limits 0 half 0 22 4 ∷ limits 0 half (2 ^ 63) 22 4 ∷ limits 0 half (2 ^ 63 + three) 22 4 ∷ limits 0 half (million + 1) 22 4
    ∷ limits 0 half 0x7FF0_0000_0000_0000 22 4 ∷ limits 0 half 0x7FF8_0000_0000_0000 22 4
    -- 5 after 22: no module word at 6, with limits that are right and with a limit of 0.0
    ∷ record { words = fading_front 0 half three (0x6000_0000 ∷ 0x9000_0001 ∷ 0x9000_0001 ∷ 0x9000_0001 ∷ []); number = 5; index = 6 }
    ∷ record { words = fading_front 0 half 0 (0x6000_0000 ∷ 0x9000_0001 ∷ 0x9000_0001 ∷ 0x9000_0001 ∷ []); number = 22; index = 4 }
    -- 4 at 1: a second word that is neither of kind 2 nor of kind 0, with the N + 3 words of a setup that counts
    ∷ record { words = 0x1000_0004 ∷ 0x3000_0001 ∷ 0x3000_0003 ∷ modules_with []; number = 4; index = 1 }
    -- 14: no cast; no play; an event never played; a told word missing
    ∷ run [] 14 7 ∷ run (0x6000_0000 ∷ []) 14 8 ∷ run (0x6000_0000 ∷ 0x9000_0001 ∷ 0x7100_000F ∷ []) 14 10
    ∷ run (0x6000_0002 ∷ 0x8100_000F ∷ []) 14 9
    -- 12: no cast first, a second cast, a cast with a bit at N, a mask that is empty or has a bit at N, senders 0 and N + 1, spare bits, plays of 0 and 1,001
    ∷ run (0x9000_0001 ∷ []) 12 7 ∷ run (0x6000_0000 ∷ 0x6000_0000 ∷ 0x9000_0001 ∷ []) 12 8 ∷ run (0x6000_0010 ∷ 0x9000_0001 ∷ []) 12 7
    ∷ run (0x6000_0000 ∷ 0x7100_0000 ∷ 0x9000_0001 ∷ []) 12 8 ∷ run (0x6000_0000 ∷ 0x7100_0010 ∷ 0x9000_0001 ∷ []) 12 8
    ∷ run (0x6000_0000 ∷ 0x7000_000F ∷ 0x9000_0001 ∷ []) 12 8 ∷ run (0x6000_0000 ∷ 0x7280_000F ∷ 0x9000_0001 ∷ []) 12 8
    ∷ run (0x6000_0000 ∷ 0x7141_000F ∷ 0x9000_0001 ∷ []) 12 8
    ∷ run (0x6000_0000 ∷ 0x9000_0000 ∷ []) 12 8 ∷ run (0x6000_0000 ∷ 0x9000_03E9 ∷ []) 12 8
    -- 13: a lie by one outside the cast, also as the last word; one that is malformed is 12
    ∷ run (0x6000_0000 ∷ 0x8100_000F ∷ 0x5000_0000 ∷ 0x9000_0001 ∷ []) 13 8 ∷ run (0x6000_0000 ∷ 0x8100_000F ∷ []) 13 8
    ∷ run (0x6000_0000 ∷ 0x8100_0000 ∷ 0x5000_0000 ∷ 0x9000_0001 ∷ []) 12 8
    -- 15: 100,000 rounds are played, one more is not, nor are 101 plays of 1,000; 12 comes before it at one word
    ∷ run (0x6000_0000 ∷ replicate 100 0x9000_03E8) 0 0 ∷ run (0x6000_0000 ∷ replicate 100 0x9000_03E8 ++ (0x9000_0001 ∷ [])) 15 108
    ∷ run (0x6000_0000 ∷ replicate 101 0x9000_03E8) 15 108
    ∷ run (0x6000_0000 ∷ replicate 100 0x9000_03E8 ++ (0x9000_03E9 ∷ [])) 12 108
    -- a told word is taken as it is, whatever it looks like
    ∷ run (0x6000_0002 ∷ 0x8100_000F ∷ 0x6000_FFFF ∷ 0x9000_03E8 ∷ []) 0 0
    -- without head bit 5 only one is: a second one is refused as the word that it looks like
    ∷ run (0x6000_0002 ∷ 0x8100_000F ∷ 0x5000_0000 ∷ 0xA000_000F ∷ 0x9000_0001 ∷ []) 12 10
    -- with head bit 5 two are, whatever both look like: a bus word and a view word; a cast and a lie by one outside the cast; plays
    ∷ torn (0x8100_000F ∷ 0x5000_0000 ∷ 0xA000_000F ∷ 0x9000_0001 ∷ []) 0 0
    ∷ torn (0x8100_000F ∷ 0x6000_FFFF ∷ 0x8080_000F ∷ 0x9000_03E8 ∷ []) 0 0
    ∷ torn (0x8100_000F ∷ 0x9000_0000 ∷ 0x9000_0000 ∷ 0x9000_0001 ∷ []) 0 0
    -- a third one is not; a loss has none
    ∷ torn (0x8100_000F ∷ 0x5000_0000 ∷ 0xA000_000F ∷ 0xA000_000F ∷ 0x9000_0001 ∷ []) 12 11
    ∷ torn (0x7100_000F ∷ 0x9000_0001 ∷ []) 0 0 ∷ torn (0x7100_000F ∷ 0xA000_000F ∷ 0x9000_0001 ∷ []) 12 9
    -- 14 at the word count: both missing, the second missing, also where the first looks like a play or a play came before the lie; both there
    -- and no play; a told view word that looks like a play is none
    ∷ torn (0x8100_000F ∷ []) 14 9 ∷ torn (0x8100_000F ∷ 0x5000_0000 ∷ []) 14 10
    ∷ torn (0x8100_000F ∷ 0x9000_0001 ∷ []) 14 10 ∷ torn (0x9000_0001 ∷ 0x8100_000F ∷ 0x5000_0000 ∷ []) 14 11
    ∷ torn (0x8100_000F ∷ 0x5000_0000 ∷ 0xA000_000F ∷ []) 14 11 ∷ torn (0x8100_000F ∷ 0x5000_0000 ∷ 0x9000_0001 ∷ []) 14 11
    -- a lie by one outside the cast is 13 before that, a malformed one 12
    ∷ torn (0x8180_000F ∷ []) 13 8 ∷ torn (0x8100_0000 ∷ []) 12 8
    -- two lies after each other, with two told words each
    ∷ torn (0x8100_0001 ∷ 0x5000_0001 ∷ 0xA000_0001 ∷ 0x8100_0002 ∷ 0x5000_0002 ∷ 0xA000_0002 ∷ 0x9000_0001 ∷ []) 0 0
    -- the told words of a script whose setup fades and is partitionable
    ∷ record { words = torn_fading_with (0x6000_0002 ∷ 0x8100_000F ∷ 0x5000_0000 ∷ 0xA000_000F ∷ 0x9000_0001 ∷ []); number = 0; index = 0 }
    ∷ record { words = torn_fading_with (0x6000_0002 ∷ 0x8100_000F ∷ 0x5000_0000 ∷ []); number = 14; index = 13 }
    ∷ []

-- ---- what events do

-- what becomes in a round of the word from a sender to a receiver, both by number: 0 it arrives as sent, 7 it is lost, 8 the told word arrives, and in
-- place of its view word the told view word
pub record Word : Type 0 where
  pub round : ℕ
  pub sender : ℕ
  pub receiver : ℕ
  pub fate : ℕ
  pub told : ℕ
  pub view : ℕ

-- it arrives as sent
abbrev pub sent : ℕ → ℕ → ℕ → Word
sent round sender receiver = record { round = round; sender = sender; receiver = receiver; fate = 0; told = 0; view = 0 }

-- it is lost
abbrev pub lost : ℕ → ℕ → ℕ → Word
lost round sender receiver = record { round = round; sender = sender; receiver = receiver; fate = 7; told = 0; view = 0 }

-- this told word and this told view word arrive
abbrev pub tells_both : ℕ → ℕ → ℕ → ℕ → ℕ → Word
tells_both round sender receiver told view =
    record { round = round; sender = sender; receiver = receiver; fate = 8; told = told; view = view }

-- this told word arrives, and no told view word
abbrev pub tells : ℕ → ℕ → ℕ → ℕ → Word
tells round sender receiver told = tells_both round sender receiver told 0

-- a script, the rounds that it has, and what becomes of some words
pub record Play : Type 0 where
  pub words : List ℕ
  pub rounds : ℕ
  pub becomes : List Word

-- the sheet's setup with module 2 as cast, then these words
abbrev pub play : List ℕ → ℕ → List Word → Play
play words rounds becomes = record { words = sheet_with (0x6000_0002 ∷ words); rounds = rounds; becomes = becomes }

-- the sheet's setup with head bit 5 and module 2 as cast, then these words
abbrev pub torn_play : List ℕ → ℕ → List Word → Play
torn_play words rounds becomes = record { words = torn_with words; rounds = rounds; becomes = becomes }

-- each word has the fate that it is said to have, and the told word and told view word where these arrive
abbrev pub become : List ℕ → List Word → Bool
become s [] = true
become s (w ∷ ws) =
    eqb (fate_in s w.round (w.receiver - 1) (w.sender - 1)) w.fate
    && (not (eqb w.fate 8) || eqb (told_in s w.round (w.receiver - 1) (w.sender - 1)) w.told)
    && (not (eqb w.fate 8) || eqb (told_view_in s w.round (w.receiver - 1) (w.sender - 1)) w.view) && become s ws

-- every script is accepted, has the rounds that it is said to have, and so have its words their fates
abbrev pub heeded : List Play → Bool
heeded [] = true
heeded (p ∷ ps) =
    let s = script_of p.words in
    eqb (check_script s).number 0 && eqb (rounds_of s) p.rounds && become s p.becomes && heeded ps

-- scripts with events; 2 is the sender of each, and in one also 4
abbrev pub plays : List Play
plays =
    -- a loss before a play of 3 rounds counts in the first of them alone, and for its own sender
    play (0x7100_000F ∷ 0x9000_0003 ∷ []) 3 (lost 1 2 1 ∷ sent 1 1 1 ∷ sent 2 2 1 ∷ sent 3 2 1 ∷ [])
    -- one between two plays does not count in the first
    ∷ play (0x9000_0001 ∷ 0x7100_000F ∷ 0x9000_0002 ∷ []) 3 (sent 1 2 1 ∷ lost 2 2 1 ∷ sent 3 2 1 ∷ [])
    -- each play has its own events
    ∷ play (0x7100_000F ∷ 0x9000_0001 ∷ 0x8100_000F ∷ 0x5000_0001 ∷ 0x9000_0001 ∷ []) 2 (lost 1 2 1 ∷ tells 2 2 1 0x5000_0001 ∷ [])
    -- a later one replaces an earlier: a loss at module 1 a lie to modules 1 and 2, a lie to module 1 a loss at all, a lie another lie
    ∷ play (0x8100_0003 ∷ 0x5000_0001 ∷ 0x7100_0001 ∷ 0x9000_0001 ∷ []) 1 (lost 1 2 1 ∷ tells 1 2 2 0x5000_0001 ∷ sent 1 2 3 ∷ [])
    ∷ play (0x7100_000F ∷ 0x8100_0001 ∷ 0x5000_0001 ∷ 0x9000_0001 ∷ []) 1 (tells 1 2 1 0x5000_0001 ∷ lost 1 2 2 ∷ [])
    ∷ play (0x8100_0001 ∷ 0x5000_0001 ∷ 0x8100_0001 ∷ 0x5000_0002 ∷ 0x9000_0001 ∷ []) 1 (tells 1 2 1 0x5000_0002 ∷ [])
    -- a told word that looks like a play, a loss by module 1 or a lie is none
    ∷ play (0x8100_000F ∷ 0x9000_0005 ∷ 0x9000_0002 ∷ []) 2 (tells 1 2 1 0x9000_0005 ∷ sent 2 2 1 ∷ [])
    ∷ play (0x8100_000F ∷ 0x7080_000F ∷ 0x9000_0001 ∷ []) 1 (tells 1 2 1 0x7080_000F ∷ sent 1 1 1 ∷ [])
    ∷ play (0x8100_000F ∷ 0x8100_000F ∷ 0x9000_0001 ∷ []) 1 (tells 1 2 1 0x8100_000F ∷ [])
    -- the events of a script whose setup fades
    ∷ record {
      words = fading_with (0x6000_0002 ∷ 0x8100_0001 ∷ 0x5000_0001 ∷ 0x7200_0001 ∷ 0x9000_0002 ∷ []);
      rounds = 2;
      becomes = tells 1 2 1 0x5000_0001 ∷ lost 1 4 1 ∷ sent 1 2 2 ∷ sent 2 2 1 ∷ [];
    }
    -- with head bit 5 a lie tells two words, the told word first, to its receivers and in its round alone
    ∷ torn_play (0x8100_0003 ∷ 0x5000_0001 ∷ 0xA000_0003 ∷ 0x9000_0002 ∷ []) 2
    (tells_both 1 2 1 0x5000_0001 0xA000_0003 ∷ tells_both 1 2 2 0x5000_0001 0xA000_0003 ∷ sent 1 2 3 ∷ sent 1 1 1 ∷ sent 2 2 1 ∷ [])
    -- told words that look like plays, losses or lies are none, in either place
    ∷ torn_play (0x8100_000F ∷ 0x9000_0005 ∷ 0x9000_0006 ∷ 0x9000_0002 ∷ []) 2 (tells_both 1 2 1 0x9000_0005 0x9000_0006 ∷ sent 2 2 1 ∷ [])
    ∷ torn_play (0x8100_000F ∷ 0x8100_000F ∷ 0x7080_000F ∷ 0x9000_0001 ∷ []) 1 (tells_both 1 2 1 0x8100_000F 0x7080_000F ∷ sent 1 1 1 ∷ [])
    ∷ torn_play (0x8100_000F ∷ 0x7080_000F ∷ 0x8100_0001 ∷ 0x9000_0001 ∷ []) 1 (tells_both 1 2 1 0x7080_000F 0x8100_0001 ∷ sent 1 1 1 ∷ [])
    -- a later event replaces both words: a lie another lie, a loss at module 1 a lie to modules 1 and 2
    ∷ torn_play (0x8100_0001 ∷ 0x5000_0001 ∷ 0xA000_0001 ∷ 0x8100_0001 ∷ 0x5000_0002 ∷ 0xA000_0002 ∷ 0x9000_0001 ∷ []) 1
    (tells_both 1 2 1 0x5000_0002 0xA000_0002 ∷ [])
    ∷ torn_play (0x8100_0003 ∷ 0x5000_0001 ∷ 0xA000_0001 ∷ 0x7100_0001 ∷ 0x9000_0001 ∷ []) 1 (lost 1 2 1 ∷ tells_both 1 2 2 0x5000_0001 0xA000_0001 ∷ [])
    -- each play has its own
    ∷ torn_play (0x9000_0001 ∷ 0x8100_0001 ∷ 0 ∷ 0xFFFF_FFFF ∷ 0x9000_0001 ∷ []) 2 (sent 1 2 1 ∷ tells_both 2 2 1 0 0xFFFF_FFFF ∷ [])
    ∷ []

-- what is claimed: every script has its verdict, and every word its fate
pub record CasesRight : Type 0 where
  pub verdicts : right cases ≡ true
  pub fates : heeded plays ≡ true
