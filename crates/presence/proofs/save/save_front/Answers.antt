-- The setup, then the sections and the pending change.
use Rattle.setup.proofs.SetupWords.{place-small}
use Rattle.changes.proofs.PendingLaws.{pending-roomy}
use Rattle.changes.specs.Words.{change_runs}
use Rattle.words.specs.Runs.{put_runs}
use Rattle.presence.specs.Image.{state_length}
use native.Mathlib.Omega.{arith}
use mathlib.Core.Path.{◌≡◌, ap, sym, ◌∙◌, ap₂}
use mathlib.Core.Bool.{Bool}
use mathlib.Core.List.{◌++◌, List}
use Prim.Native.Nat.{ℕ, ◌≤◌}
use lib.ListN.{length, drop, take, length-append, length-drop}
use lib.Seq.{length-take-le}
use Rattle.setup.specs.Layout.{front_words, setup_length}
use Rattle.setup.specs.Limits.{fades}
use Rattle.setup.specs.Setup.{front_of}
use Rattle.setup.specs.declared.Setup.{Setup}
use Rattle.setup.proofs.SetupLaws.{verdict-fits, verdict-room, fits-room}
use Rattle.image.specs.Layout.{own_at, left_at}
use Rattle.image.specs.Sections.{section_runs}
use Rattle.image.proofs.SectionLaws.{accounts-written}
use Rattle.presence.proofs.SmallLaws.{roomy-small}
use Rattle.presence.proofs.SaveLaws.{accounts-lent, lent-front}
use Rattle.presence.proofs.save.save_front.Goals as goal

-- the length of the setup, as it is found from the limits
length-by : {b : Bool} {front k : ℕ} (s : Setup) → b ≡ fades s.limits → front ≡ front_words b → k ≡ setup_length front s.n
    → k ≡ setup_length (front_of s) s.n
length-by s f e k = k ∙ ap (λ (x : ℕ). setup_length x s.n) (e ∙ ap front_words f)

-- what stands behind the setup's words stays
whole : (x o : List ℕ) (k m : ℕ) → length x ≡ length (take k o) → k ≤ length o → length o ≡ m → length (x ++ drop k o) ≡ m
whole x o k m e h l = length-append x (drop k o) ∙ omega (arith, e, length-take-le k o h, length-drop k o)

pub setup_length-k-requires : goal.setup_length-k-requires
setup_length-k-requires c =
    let m = (verdict-fits _ c.requires.0).most in
    (c.front_words-front.ensures.2, omega arith)

pub left_at-requires : goal.left_at-requires
left_at-requires c =
    (c.front_words-front.ensures.2, (verdict-fits _ c.requires.0).most)

pub first_of-first-requires : goal.first_of-first-requires
first_of-first-requires c =
    (verdict-fits _ c.requires.0).most

pub second_of-second-requires : goal.second_of-second-requires
second_of-second-requires c =
    (verdict-fits _ c.requires.0).most

pub slice_bounds-write_words-end : goal.slice_bounds-write_words-end
slice_bounds-write_words-end c =
    let k = length-by c.args.state.setup c.fades-form.ensures c.front_words-front.ensures.0 c.setup_length-k.ensures in
    omega (arith, c.requires.2)

pub slice_bounds-write_words-end-2 : goal.slice_bounds-write_words-end-2
slice_bounds-write_words-end-2 c =
    let k = length-by c.args.state.setup c.fades-form.ensures c.front_words-front.ensures.0 c.setup_length-k.ensures in
    sym (length-take-le _ _ (omega (arith, c.requires.2)))

pub write_words-requires : goal.write_words-requires
write_words-requires c =
    let k = length-by c.args.state.setup c.fades-form.ensures c.front_words-front.ensures.0 c.setup_length-k.ensures in
    let a = c.requires in
    (verdict-room _ a.0, length-take-le _ _ (omega (arith, a.2)) ∙ k)

pub save_sections-requires : goal.save_sections-requires
save_sections-requires c =
    let k = length-by c.args.state.setup c.fades-form.ensures c.front_words-front.ensures.0 c.setup_length-k.ensures in
    let f = c.fades-form.ensures in
    let l = (verdict-fits _ c.requires.0).most in
    let m = roomy-small _ l c.requires.1 in
    let at = ap front_words f in
    record { n_bound = (l, omega (arith, c.requires.2), m.own, m.view, m.latest, m.earlier); by_index = m.rows.row }

pub save_accounts-requires : goal.save_accounts-requires
save_accounts-requires c =
    let k = length-by c.args.state.setup c.fades-form.ensures c.front_words-front.ensures.0 c.setup_length-k.ensures in
    let f = c.fades-form.ensures in
    let l = (verdict-fits _ c.requires.0).most in
    let m = roomy-small _ l c.requires.1 in
    let at = ap front_words f in
    let written : length (c.write_words.new.out ++ drop c.setup_length-k.result c.args.out.now) ≡ state_length c.args.state c.args.state.pending.left =
    whole c.write_words.new.out c.args.out.now c.setup_length-k.result _ c.write_words.auto.out (omega (arith, k, c.requires.2)) c.requires.2
    in
    let kept = c.save_sections.auto.out ∙ written in
    (l, omega (arith, kept), accounts-lent c.args.state f c.first_of-first.ensures c.second_of-second.ensures l m.counters)

pub save_change-requires : goal.save_change-requires
save_change-requires c =
    let k = length-by c.args.state.setup c.fades-form.ensures c.front_words-front.ensures.0 c.setup_length-k.ensures in
    let l = verdict-fits _ c.requires.0 in
    let m = roomy-small _ l.most c.requires.1 in
    let at = ap front_words c.fades-form.ensures in
    let written : length (c.write_words.new.out ++ drop c.setup_length-k.result c.args.out.now) ≡ state_length c.args.state c.args.state.pending.left =
    whole c.write_words.new.out c.args.out.now c.setup_length-k.result _ c.write_words.auto.out (omega (arith, k, c.requires.2)) c.requires.2
    in
    let kept = c.save_accounts.auto.out ∙ c.save_sections.auto.out ∙ written in
    let place = c.left_at.ensures in
    let front = c.front_words-front.ensures.0 in
    record { n_bound = (l.most, pending-roomy c.args.state.setup.n c.args.state.pending m.pending, omega (arith, place, l.most, c.front_words-front.ensures.2), omega (arith, kept, place, front)); by_index = place-small c.args.state.setup (fits-room c.args.state.setup l) }

pub returns : goal.returns
returns c =
    let k = length-by c.args.state.setup c.fades-form.ensures c.front_words-front.ensures.0 c.setup_length-k.ensures in
    let st = c.args.state in
    let f = c.fades-form.ensures in
    let l = (verdict-fits _ c.requires.0).most in
    let written = accounts-written c.fades-form.result st.setup.n st.own st.counters.view st.previous st.latest st.earlier
    c.first_of-first.result c.second_of-second.result st.counters.returns _ c.save_sections.ensures c.save_accounts.ensures
    in
    let place = c.left_at.ensures ∙ ap (λ (x : ℕ). left_at x st.setup.n) c.front_words-front.ensures.0 in
    let changed = c.save_change.ensures ∙ ap₂ (λ (x : List ℕ) (i : ℕ). put_runs x i (change_runs st.setup st.pending)) written place in
    let front : List ℕ → ℕ → List ℕ =
    λ x i. put_runs (put_runs (x ++ drop i c.args.out.now) (own_at (front_of st.setup) st.setup.n) (section_runs (fades st.setup.limits) st.setup.n st.own st.counters st.previous st.latest st.earlier))
    (left_at (front_of st.setup) st.setup.n) (change_runs st.setup st.pending)
    in
    changed
    ∙ lent-front st f c.first_of-first.ensures c.second_of-second.ensures l _
    ∙ ap₂ front c.write_words.ensures k
