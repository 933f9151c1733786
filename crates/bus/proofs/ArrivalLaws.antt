-- What arrives at a receiver, and what it reads of it, entry by entry.
use Prim.Native.Nat.{ℕ, ◌+◌, ◌*◌, ◌%◌, ◌≤◌, ◌<◌}
use mathlib.Core.Path.{◌≡◌, refl, sym, ap, ◌∙◌}
use mathlib.Core.Bool.{Bool, true, false, cond, not}
use mathlib.Core.List.{List, [], ◌++◌, append-nil}
use native.Mathlib.Omega.{arith}
use lib.Dec.{eqb}
use lib.ListN.{get_or, length, drop, replicate, length-append, length-drop, length-replicate, get_or-replicate}
use Rattle.std.proofs.Common.{ext_get_or}
use Rattle.words.specs.Word.{word_at, bytes_of}
use Rattle.words.specs.Bits.{pack, full}
use Rattle.words.specs.Array.{array}
use Rattle.words.specs.Runs.{put_run}
use Rattle.words.specs.Table.{table}
use Rattle.words.proofs.ByteLaws.{bytes-length, bytes-all, word-front, word_of, word_after}
use Rattle.words.proofs.RunLaws.{put-run}
use Rattle.words.proofs.TableLaws.{table-length, table_at}
use Rattle.words.proofs.Truth.{cond-true, cond-false}
use Rattle.rules.specs.Hearing.{bus_word}
use Rattle.views.specs.ViewWord.{view_word, read_words}
use Rattle.script.specs.declared.Events.{Events}
use Rattle.bus.specs.Bus.{word_to, view_to, faultless, arriving, arrived, entry_read, words_read}

-- ---- what arrives

module _ (n : ℕ) (sent sent_views : List ℕ) (e : Events) (i j : ℕ) (hi : i < 16) (hj : j < 16) where
  abbrev lied : Bool
  lied = eqb (get_or e.fate (i * 16 + j) 0) 8

  arrives : (told from : List ℕ) → get_or (table (arriving e.fate told from)) (i * 16 + j) 0 ≡ cond lied (get_or told (i * 16 + j) 0) (get_or from j 0)
  arrives told from =
      let r : (i * 16 + j) % 16 ≡ j = omega arith in
      table_at (arriving e.fate told from) (i * 16 + j) (omega arith) ∙ ap (λ (x : ℕ). cond lied (get_or told (i * 16 + j) 0) (get_or from x 0)) r

  -- a told word in place of the one sent
  pub word-arrives : word_to (arrived n sent sent_views e) i j ≡ cond lied (get_or e.told (i * 16 + j) 0) (get_or sent j 0)
  unfolding arrived
  word-arrives = arrives e.told sent

  -- and with it a told view word
  pub view-arrives : view_to (arrived n sent sent_views e) i j ≡ cond lied (get_or e.views (i * 16 + j) 0) (get_or sent_views j 0)
  unfolding arrived
  view-arrives = arrives e.views sent_views

-- ---- the bus that the code has made

pub arrived-by : {bits words views : List ℕ} (n : ℕ) (sent sent_views : List ℕ) (e : Events)
    → bits ≡ array n (λ i. pack n (λ j. not (eqb (get_or e.fate (i * 16 + j) 0) 7))) → words ≡ table (arriving e.fate e.told sent)
    → views ≡ table (arriving e.fate e.views sent_views) → record { bits = bits; words = words; views = views } ≡ arrived n sent sent_views e
unfolding arrived
arrived-by n sent sent_views e p q r = rw (p, q, r)

-- the same number 256 times
table-same : (w : ℕ) → replicate 256 w ≡ table (λ x. w)
table-same w =
    ext_get_or 0 (replicate 256 w) (table (λ x. w)) (length-replicate {A = ℕ} 256 w ∙ sym (table-length (λ x. w)))
    (λ i h. let k : i < 256 = omega (arith, length-replicate {A = ℕ} 256 w) in get_or-replicate {A = ℕ} 256 i w 0 k ∙ sym (table_at (λ x. w) i k))

pub faultless-by : {ones word view : ℕ} {bits : List ℕ} (n : ℕ) → ones ≡ full n → bits ≡ array n (λ i. ones) → word ≡ bus_word ones
    → view ≡ view_word ones → record { bits = bits; words = replicate 256 word; views = replicate 256 view } ≡ faultless n
unfolding faultless
faultless-by {word = word} {view = view} n o p w v = rw (table-same word, table-same view, p, w, v, o)

-- ---- what is read

pub read-room : (partitionable : Bool) (n : ℕ) → n ≤ read_words partitionable n
read-room true n = omega arith
read-room false n = omega arith

pub read_twice : (partitionable : Bool) (n : ℕ) → partitionable ≡ true → read_words partitionable n ≡ n + n
read_twice partitionable n t = ap (λ (b : Bool). read_words b n) t

-- the words written alone, and with the view words after them
module _ {first : List ℕ} (partitionable : Bool) (o : List ℕ) (n : ℕ) (f g : ℕ → ℕ) (l : length o ≡ read_words partitionable n * 4)
    (p : first ≡ put_run o 0 n f) where
  put_front : first ≡ bytes_of n f ++ drop (n * 4) o
  put_front =
      let h = read-room partitionable n in
      p ∙ put-run [] o 0 n f refl (omega arith)

  pub put_alone : partitionable ≡ false → first ≡ bytes_of n f ++ cond partitionable (bytes_of n g) []
  put_alone e =
      let h : length o ≡ n * 4 = l ∙ ap (λ (b : Bool). read_words b n * 4) e in
      put_front ∙ bytes-all o n f h ∙ sym (ap (λ (s : List ℕ). bytes_of n f ++ s) (cond-false (bytes_of n g) [] e) ∙ append-nil (bytes_of n f))

  pub put_both : {both : List ℕ} → partitionable ≡ true → both ≡ put_run first n n g → both ≡ bytes_of n f ++ cond partitionable (bytes_of n g) []
  put_both e q =
      let h : length o ≡ (n + n) * 4 = l ∙ ap (λ (b : Bool). read_words b n * 4) e in
      let r = drop (n * 4) o in
      let d = length-drop (n * 4) o in
      let k : length r ≡ n * 4 = omega arith in
      q ∙ ap (λ (s : List ℕ). put_run s n n g) put_front ∙ put-run (bytes_of n f) r n n g (bytes-length n f) (omega arith)
      ∙ ap (λ (s : List ℕ). bytes_of n f ++ s) (bytes-all r n g k ∙ sym (cond-true (bytes_of n g) [] e))

-- a read has the words, and with a partitionable setup the view words after them
module _ (partitionable : Bool) (n place i : ℕ) (this before this_views before_views : List ℕ) where
  abbrev read : List ℕ
  read = words_read partitionable n place i this before this_views before_views

  abbrev words : List ℕ
  words = bytes_of n (entry_read place i this before)

  abbrev views : List ℕ
  views = bytes_of n (entry_read place i this_views before_views)

  -- as a session has it (readBytes, agreement/specs/Session.antt)
  pub read_is : read ≡ cond partitionable (words ++ views) words
  unfolding words_read
  read_is = go partitionable
    where
      go : (b : Bool) → words ++ cond b views [] ≡ cond b (words ++ views) words
      go true = refl
      go false = append-nil words

  pub read_length_lem : length read ≡ read_words partitionable n * 4
  unfolding words_read
  read_length_lem = length-append words _ ∙ go partitionable
    where
      go : (b : Bool) → length words + length (cond b views []) ≡ read_words b n * 4
      go true = omega (arith, bytes-length n (entry_read place i this before), bytes-length n (entry_read place i this_views before_views))
      go false = omega (arith, bytes-length n (entry_read place i this before))

  pub read_word : (j : ℕ) → j < n → word_at read j ≡ entry_read place i this before j
  unfolding words_read
  read_word j h =
      let l = bytes-length n (entry_read place i this before) in
      word-front words _ j (omega arith) ∙ word_of n (entry_read place i this before) j h

  pub read_view : partitionable ≡ true → (j : ℕ) → j < n → word_at read (n + j) ≡ entry_read place i this_views before_views j
  unfolding words_read
  read_view t j h =
      word_after words _ n j (bytes-length n (entry_read place i this before))
      ∙ ap (λ (s : List ℕ). word_at s j) (cond-true _ [] t) ∙ word_of n (entry_read place i this_views before_views) j h
