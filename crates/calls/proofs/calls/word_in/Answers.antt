-- The mark of the module itself, and the two syndromes.
use Rattle.image.proofs.TailLaws.{image-pass}
use Rattle.calls.proofs.ModuleCallLaws.{front_by, section-asked, word_made}
use Rattle.calls.proofs.calls.word_in.Goals as goal

pub size_at-n-requires : goal.size_at-n-requires
size_at-n-requires c = (image-pass _ c.requires).front.room

pub fades_at-requires : goal.fades_at-requires
fades_at-requires c = (image-pass _ c.requires).front.whole

pub own_mark-mark-requires : goal.own_mark-mark-requires
own_mark-mark-requires c = (c.requires, front_by _ c.fades_at.ensures c.front_words-front.ensures.0, c.size_at-n.ensures)

pub earlier_in-earlier-requires : goal.earlier_in-earlier-requires
earlier_in-earlier-requires c =
    section-asked _ (image-pass _ c.requires) (front_by _ c.fades_at.ensures c.front_words-front.ensures.0) c.front_words-front.ensures.2 c.size_at-n.ensures

pub latest_in-latest-requires : goal.latest_in-latest-requires
latest_in-latest-requires c =
    section-asked _ (image-pass _ c.requires) (front_by _ c.fades_at.ensures c.front_words-front.ensures.0) c.front_words-front.ensures.2 c.size_at-n.ensures

pub returns : goal.returns
returns c =
    word_made _ (image-pass _ c.requires) c.size_at-n.ensures (front_by _ c.fades_at.ensures c.front_words-front.ensures.0) c.own_mark-mark.ensures
    c.earlier_in-earlier.ensures c.latest_in-latest.ensures c.outgoing.ensures
