-- No state without a right head and length; else as the words say.
use Rattle.std.proofs.Common.{◌≡◌, ℕ, Bool, List, None, refl, sym, ◌∙◌, rules}
use Rattle.words.specs.Word.{word_at}
use Rattle.setup.specs.Layout.{front_words}
use Rattle.setup.specs.Setup.{partitionable_in, fades_in, front_in}
use Rattle.image.specs.Layout.{image_length, left_at}
use Rattle.image.proofs.ImageAnswers.{size-some, size-gone, size-refused, size_fits, size-return, by-words}
use Rattle.presence.specs.Image.{state_of}
use Rattle.presence.proofs.LoadLaws.{none-loaded, loaded-as}
use Rattle.presence.proofs.load.accepted.Goals as goal

-- the length, by the form
by_form : {b : Bool} {k : ℕ} (s : List ℕ) (n : ℕ) → b ≡ fades_in (word_at s) → k ≡ image_length (front_in (word_at s)) n (word_at s (left_at (front_in (word_at s)) n)) (partitionable_in (word_at s 0))
    → k ≡ image_length (front_words b) n (word_at s (left_at (front_words b) n)) (partitionable_in (word_at s 0))
by_form s n e h = rw e h

pub returns-in_err-n : goal.returns-in_err-n
returns-in_err-n c =
    let q : c.from_residual.result ≡ None = search rules in
    q ∙ none-loaded (state_of c.args.image.now) (sym (size-refused c.args.image.now (size-gone c.args.image.now c.image_size.ensures c.in_err-n.was)))

pub fades_at-requires : goal.fades_at-requires
fades_at-requires c =
    let (e, some) = size-some c.args.image.now c.image_size.ensures c.in_ok-n.was in
    (size_fits c.args.image.now e some).3

pub load-requires : goal.load-requires
load-requires c =
    let s = c.args.image.now in
    let (e, some) = size-some s c.image_size.ensures c.in_ok-n.was in
    let f = size_fits s e some in
    let form = c.fades_at.ensures in
    (f.0, by_form s c.in_ok-n.n form f.1, f.2, form, size-return s e some)

pub returns : goal.returns
returns c =
    let s = c.args.image.now in
    let (e, some) = size-some s c.image_size.ensures c.in_ok-n.was in
    loaded-as (state_of s) (by-words s e some refl) c.load.ensures
