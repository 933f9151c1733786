-- Every section at its place.
use Rattle.image.proofs.SectionLaws.{sections-written}
use Rattle.image.proofs.save.save_sections.Goals as goal

pub returns : goal.returns
returns c =
    let a = c.args in
    sections-written a.fades a.n a.own a.view (record { heard = a.heard; rows = a.rows.now }) a.latest a.earlier a.out.now c.front_words-front.ensures.0
    c.own_at.ensures c.own_word.ensures c.save_word.ensures c.rows_at.ensures c.save_rows.ensures
    c.latest_at.ensures c.syndrome_word.ensures c.save_word-2.ensures
    c.earlier_at.ensures c.syndrome_word-2.ensures c.save_word-3.ensures
