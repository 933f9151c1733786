-- Syndromes and views have no bit at N or above, so the words that hold them are heard.
use mathlib.Core.Path.{◌≡◌, ap, ◌∙◌, subst}
use mathlib.Core.Bool.{Bool, true}
use mathlib.Core.List.{List}
use Prim.Native.Nat.{ℕ, ◌^◌, ◌<◌}
use Rattle.words.proofs.Truth.{cond-true, cond_both}
use Rattle.rules.specs.Hearing.{word_heard, reading_of}
use Rattle.rules.proofs.ReceptionLaws.{bus-heard}
use Rattle.views.specs.ViewWord.{view_word, view_word_heard}
use Rattle.views.proofs.ViewWordLaws.{view-heard}
use Rattle.views.proofs.ViewsLaws.{ViewsFit}
use Rattle.presence.specs.Step.{mark_of, seen_by, outgoing_view, after_round, accepted_step, step_of}
use Rattle.presence.specs.Outgoing.{OutgoingHeard}
use Rattle.presence.specs.declared.State.{State}
use Rattle.presence.specs.Step.{Stepped}
use Rattle.presence.proofs.ValidLaws.{StateFits, valid-fits, after-fits}
use Rattle.presence.proofs.StateStepLaws.{outgoing-heard, after-size, step-accepted}

word-heard : (st : State) (read : List ℕ) (controller : ℕ) → (step_of st read controller).number ≡ 0
    → word_heard st.setup.n (step_of st read controller).word ≡ true
unfolding accepted_step
word-heard st read controller z =
    let (v, e) = step-accepted st read controller z in
    ap (λ (t : Stepped). word_heard st.setup.n t.word) e ∙ outgoing-heard st (reading_of st.setup.n read controller) (valid-fits st v)

-- the local view of a valid state, and the one before it where the setup is partitionable
latest-heard : (st : State) → StateFits st → view_word_heard st.setup.n (view_word st.counters.view) ≡ true
latest-heard st f = view-heard st.setup.n st.counters.view f.setup.most f.view

earlier-heard : (st : State) → st.setup.partitionable ≡ true → StateFits st → view_word_heard st.setup.n (view_word st.views.earlier) ≡ true
earlier-heard st t f =
    let g : ViewsFit true st.setup.n st.views = subst (λ (b : Bool). ViewsFit b st.setup.n st.views) t f.views in
    view-heard st.setup.n st.views.earlier f.setup.most g.earlier

view-word-heard : (st : State) (read : List ℕ) (controller : ℕ) → st.setup.partitionable ≡ true → (step_of st read controller).number ≡ 0
    → view_word_heard st.setup.n (step_of st read controller).second ≡ true
unfolding accepted_step outgoing_view
view-word-heard st read controller t z =
    let (v, e) = step-accepted st read controller z in
    let f = valid-fits st v in
    let next = after_round st (reading_of st.setup.n read controller) (seen_by st read controller) in
    let size : next.setup.n ≡ st.setup.n = after-size st (reading_of st.setup.n read controller) (seen_by st read controller) in
    let low : next.counters.view < 2 ^ st.setup.n = rw size at (after-fits st read controller f).view in
    ap (λ (s : Stepped). view_word_heard st.setup.n s.second) e
    ∙ ap (view_word_heard st.setup.n) (cond-true _ _ t)
    ∙ view-heard st.setup.n _ f.setup.most
    (cond_both (λ (x : ℕ). x < 2 ^ st.setup.n) (mark_of st) st.counters.view next.counters.view f.view low)

pub outgoing-words : OutgoingHeard
outgoing-words = record {
  stepped = word-heard;
  latest = λ st v. let f = valid-fits st v in bus-heard st.setup.n st.latest f.setup.most f.latest;
  earlier = λ st v. let f = valid-fits st v in bus-heard st.setup.n st.earlier f.setup.most f.earlier;
  view-stepped = view-word-heard;
  view-latest = λ st v. latest-heard st (valid-fits st v);
  view-earlier = λ st t v. earlier-heard st t (valid-fits st v);
}
