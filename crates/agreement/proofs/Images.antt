-- An image in a life is the image of the state of a life: reading it back gives that state.
use Prim.Native.Nat.{ℕ, zero, suc, ◌+◌, ◌-◌, ◌*◌, ◌^◌, ◌≤◌, ◌<◌}
use mathlib.Core.Path.{◌≡◌, refl, sym, ap, ap₂, ◌∙◌, subst}
use mathlib.Core.Bool.{Bool, true, false, cond}
use mathlib.Core.List.{List, [], ◌∷◌}
use native.Mathlib.Omega.{arith}
use lib.ListN.{length}
use borrow.Author.Tests.{eq-eqb}
use Rattle.words.specs.Word.{word_at}
use Rattle.words.specs.Bits.{full}
use Rattle.words.proofs.Truth.{cond_both}
use Rattle.words.proofs.BitLaws.{pack-lt}
use Rattle.words.specs.Verdict.{accepted, is_accepted}
use Rattle.setup.specs.Layout.{front_words}
use Rattle.setup.specs.Setup.{partitionable_in, front_in, front_of, setup_of}
use Rattle.setup.specs.Check.{setup_verdict}
use Rattle.setup.specs.RoundTrip.{ShapedSetup}
use Rattle.words.specs.Verdict.{Verdict}
use Rattle.setup.specs.declared.Setup.{Setup}
use Rattle.setup.proofs.SetupRoundTrip.{round_trip as setups}
use Rattle.rules.specs.Hearing.{bus_word}
use Rattle.changes.specs.Pending.{pending_of}
use Rattle.changes.specs.declared.Pending.{Pending}
use Rattle.views.specs.ViewWord.{view_word, read_words}
use Rattle.views.specs.Views.{full_views, fresh_views}
use Rattle.image.specs.Layout.{image_length}
use Rattle.image.specs.Check.{left_in, image_length_in, check_image}
use Rattle.presence.specs.Opening.{fresh, open_of}
use Rattle.presence.specs.Step.{mark_of}
use Rattle.presence.specs.Change.{with_pending, change_of}
use Rattle.presence.specs.Image.{image_of, state_of, state_length, room_for}
use Rattle.calls.specs.Calls.{Called, handed_out, view_handed_out, open_call, step_call, change_call, outgoing_call, outgoing_view_call}
use Rattle.presence.specs.RoundTrip.{Shaped}
use Rattle.calls.specs.Refusals.{size_of}
use Rattle.presence.specs.declared.State.{State}
use Rattle.presence.specs.Step.{Stepped}
use Rattle.calls.specs.declared.WordAnswer.{WordAnswer}
use Rattle.presence.proofs.StateChangeLaws.{change-refused, change-taken}
use Rattle.calls.proofs.ModuleCallLaws.{read-sized, left_is, handed_out_lem, view-handed-out}
use Rattle.presence.proofs.RoundTrip.{round_trip as states}
use Rattle.calls.proofs.CallAnswers.{open-writes, step-writes, change-writes, change-passed, change-passes, save-writes}
use Rattle.calls.proofs.Refusals.{open-accepted, step-accepted, save-accepted}
use Rattle.page.proofs.PageRefusals.{refusals, open-accepted as page-open-accepted, step-accepted as page-step-accepted}
use Rattle.page.proofs.Promise.{promise}
use Rattle.agreement.specs.Session.{Offer, Session, Accepted, size, RuleFollower, read_bits, read_bytes, answer_at, state, ready, handed, view_word_handed, Common, Bound}
use Rattle.agreement.specs.Life.{Life, opens, steps, changes}
use Rattle.agreement.specs.Demand.{KeptTo}
use Rattle.agreement.specs.Images.{ImageLife, opens as image-opens, steps as image-steps, changes as image-changes, skips, page-opens, page-steps, saves, refused, SetUp, length_with, Opens, Kept, ImageAgreement, Demand3C}
use Rattle.agreement.proofs.Steps.{reading, read_length_lem, Held, ready_held, state-zero, taken, life, life-held}
use Rattle.agreement.proofs.Demand.{when-between, demand-3}

-- the view word of a fresh module is that of the full view, marked or not
full-either : (mark : Bool) (n : ℕ) → cond mark (full n) (full n) ≡ full n
full-either true n = refl
full-either false n = refl

full-handed : (b mark : Bool) (n : ℕ) → cond b (view_word (cond mark (fresh_views b n).earlier (full n))) 0 ≡ cond b (view_word (full n)) 0
unfolding fresh_views full_views
full-handed true mark n = ap view_word (full-either mark n)
full-handed false mark n = refl

fresh-view : (s : Setup) (own : ℕ) → view_handed_out (fresh s own) ≡ cond s.partitionable (view_word (full s.n)) 0
unfolding view_handed_out fresh
fresh-view s own = full-handed s.partitionable (mark_of (fresh s own)) s.n

module _ (S : Session) (setup : List ℕ) (set-up : SetUp S setup) where
  pub ok : Accepted S
  ok =
      ap (λ (s : Setup). (setup_verdict s).number) set-up.same
      ∙ ap (λ (v : Verdict). v.number) (setups.read-accepted setup set-up.accepted).0

  setup-shaped : ShapedSetup S.setup
  setup-shaped = subst ShapedSetup (sym set-up.same) (setups.read-accepted setup set-up.accepted).1

  setup-size : size_of setup ≡ size S
  unfolding setup_of
  setup-size = ap (λ (s : Setup). s.n) (sym set-up.same)

  module _ (i : ℕ) (below : i < size S) where
    -- an image in a life, and the state that it is the image of
    record Is (k : ℕ) (os : List Offer) (image : List ℕ) (h : ℕ) : Type 0 where
      state-of : State
      written : image ≡ image_of state-of
      lives : Life S i k os state-of h
      shaped : Shaped state-of

    -- a state of a life is read back from its image
    both : (k h : ℕ) (os : List Offer) (st : State) → Life S i k os st h → Shaped st → (check_image (image_of st) ≡ accepted) × (state_of (image_of st) ≡ st)
    both k h os st l sh = states.written_read st sh ((demand-3.served S ok i below).valid k h os st l)

    read_back : (k h : ℕ) (os : List Offer) (image : List ℕ) → (x : Is k os image h) → state_of image ≡ x.state-of
    read_back k h os image x = ap state_of x.written ∙ (both k h os x.state-of x.lives x.shaped).1

    -- ---- each call

    opened-is : (image out : List ℕ) → image ≡ (open_call setup (i + 1) out).out → (open_call setup (i + 1) out).answer.number ≡ 0
        → Is 0 (S.offers 1 i) image (full (size S))
    opened-is image out e z = record {
      state-of = (open_of S.setup (i + 1)).state;
      written = e ∙ open-writes setup (i + 1) out z ∙ ap (λ (s : Setup). image_of (open_of s (i + 1)).state) (sym set-up.same);
      lives = opens;
      shaped = (states.opens S.setup (i + 1) setup-shaped (demand-3.served S ok i below).opened).1;
    }

    stepped-is : (k g h : ℕ) (before image out : List ℕ) → Is k [] before g
        → image ≡ (step_call before (read_bytes S i (suc k)) (read_bits S i (suc k)) out).out
        → h ≡ (step_call before (read_bytes S i (suc k)) (read_bits S i (suc k)) out).answer.health
        → (step_call before (read_bytes S i (suc k)) (read_bits S i (suc k)) out).answer.number ≡ 0
        → Is (suc k) (S.offers (suc (suc k)) i) image h
    stepped-is k g h before image out x e q z =
        let st = x.state-of in
        let b = read_back k g [] before x in
        let (w, y) = step-writes before (read_bytes S i (suc k)) (read_bits S i (suc k)) out z in
        record {
          state-of = (answer_at S i (suc k) st).state;
          written = e ∙ w ∙ ap (λ (s : State). image_of (answer_at S i (suc k) s).state) b;
          lives =
              subst (λ (v : ℕ). Life S i (suc k) (S.offers (suc (suc k)) i) (answer_at S i (suc k) st).state v)
              (sym (q ∙ y ∙ ap (λ (s : State). (answer_at S i (suc k) s).health) b)) (steps x.lives);
          shaped =
              (states.keeps st (read_bytes S i (suc k)) (read_bits S i (suc k)) x.shaped ((demand-3.served S ok i below).stepped k g [] st x.lives)).1;
        }

    changed-is : (k h : ℕ) (o : Offer) (os : List Offer) (before new out : List ℕ) → setup_of new ≡ o.setup → Is k (o ∷ os) before h
        → (change_call before new o.lead out).answer.number ≡ 0 → Is k os (change_call before new o.lead out).out h
    changed-is k h o os before new out q x z =
        let st = x.state-of in
        let b = read_back k h (o ∷ os) before x in
        let (good, right, taken-so) = change-passed before new o.lead out z in
        let t : (change_of st o.setup o.lead).number ≡ 0 =
        ap₂ (λ (s : State) (y : Setup). (change_of s y o.lead).number) (sym b) (sym q) ∙ taken-so in
        record {
          state-of = (change_of st o.setup o.lead).state;
          written =
              change-writes before new o.lead out z ∙ ap₂ (λ (s : State) (y : Setup). image_of (change_of s y o.lead).state) b q;
          lives = changes x.lives;
          shaped = (states.changes st o.setup o.lead x.shaped (subst ShapedSetup q (setups.read-accepted new right).1) t).1;
        }

    skipped-is : (k h : ℕ) (o : Offer) (os : List Offer) (image : List ℕ) → Is k (o ∷ os) image h
        → ((change_of (state_of image) o.setup o.lead).number ≡ 0 → ⊥) → Is k os image h
    skipped-is k h o os image x f =
        let st = x.state-of in
        let b = read_back k h (o ∷ os) image x in
        let same = change-refused st o.setup o.lead (λ z. f (ap (λ (s : State). (change_of s o.setup o.lead).number) b ∙ z)) in
        record { state-of = st; written = x.written; lives = subst (λ (s : State). Life S i k os s h) same (changes x.lives); shaped = x.shaped }

    image-is : (k h : ℕ) (os : List Offer) (image : List ℕ) → ImageLife S setup i k os image h → Is k os image h
    image-is k h os image (image-opens out z) = opened-is image out refl z
    image-is k h os image (image-steps {k = m} {h = g} {image = before} out l z) = stepped-is m g h before image out (image-is m g [] before l) refl refl z
    image-is k h os image (image-changes {image = before} {o = o} new out q l z) =
        changed-is k h o os before new out q (image-is k h (o ∷ os) before l) z
    image-is k h os image (skips {o = o} l f) = skipped-is k h o os image (image-is k h (o ∷ os) image l) f
    image-is k h os image (page-opens out page z) =
        let e = promise.same-opening setup (i + 1) out page z in
        opened-is image out (ap (λ (c : Called). c.out) e) (ap (λ (c : Called). c.answer.number) (sym e) ∙ z)
    image-is k h os image (page-steps {k = m} {h = g} {image = before} out page l z) =
        let e = promise.same_step before (read_bytes S i (suc m)) (read_bits S i (suc m)) out page z in
        stepped-is m g h before image out (image-is m g [] before l) (ap (λ (c : Called). c.out) e) (ap (λ (c : Called). c.answer.health) e)
        (ap (λ (c : Called). c.answer.number) (sym e) ∙ z)
    image-is k h os image (saves {image = before} out l z) =
        let x = image-is k h os before l in
        record {
          state-of = x.state-of;
          written = save-writes before out z ∙ ap image_of (read_back k h os before x);
          lives = x.lives;
          shaped = x.shaped;
        }
    image-is k h os image (refused {image = before} l r) =
        let x = image-is k h os before l in
        record { state-of = x.state-of; written = refusals.unaltered before image r ∙ x.written; lives = x.lives; shaped = x.shaped }

    -- ---- what is done with it

    -- the word that the state tells is the one that its step handed out
    handed-is : (k : ℕ) → handed_out (state S i k) ≡ handed S i k
    unfolding state handed handed_out fresh
    handed-is zero =
        ap handed_out (state-zero S ok i below)
        ∙ ap bus_word (cond_both (λ v. v ≡ full (size S)) (mark_of (fresh S.setup (i + 1))) (full (size S)) (full (size S)) refl refl)
    handed-is (suc k) =
        let e = taken S ok i below (suc k) (ready S i k) (ready_held S ok i below k) in
        ap (λ (t : Stepped). handed_out t.state) e ∙ sym (handed_out_lem (ready S i k) (reading S i (suc k)) _ _) ∙ ap (λ (t : Stepped). t.word) (sym e)

    -- and so is the view word
    view-handed-is : (k : ℕ) → view_handed_out (state S i k) ≡ view_word_handed S i k
    unfolding state view_word_handed
    view-handed-is zero = ap view_handed_out (state-zero S ok i below) ∙ fresh-view S.setup (i + 1)
    view-handed-is (suc k) =
        let e = taken S ok i below (suc k) (ready S i k) (ready_held S ok i below k) in
        ap (λ (t : Stepped). view_handed_out t.state) e ∙ sym (view-handed-out (ready S i k) (reading S i (suc k)) _ _)
        ∙ ap (λ (t : Stepped). t.second) (sym e)

    view-same : (st : State) (p : Pending) → view_handed_out (with_pending st p) ≡ view_handed_out st
    unfolding view_handed_out mark_of
    view-same st p = refl

    -- what is pending has no part in it
    handed-same : (st : State) (p : Pending) → handed_out (with_pending st p) ≡ handed_out st
    unfolding handed_out mark_of
    handed-same st p = refl

    module _ (k h : ℕ) (os : List Offer) (image : List ℕ) (l : ImageLife S setup i k os image h) where
      is : Is k os image h
      is = image-is k h os image l

      st-is : state_of image ≡ is.state-of
      st-is = read_back k h os image is

      lives : Life S i k os (state_of image) h
      lives = subst (λ (x : State). Life S i k os x h) (sym st-is) is.lives

      holding : Held S i (state_of image)
      holding = life-held S ok i below k h os (state_of image) lives

      passes : check_image image ≡ accepted
      passes = ap check_image is.written ∙ (both k h os is.state-of is.lives is.shaped).0

      good : (check_image image).number ≡ 0
      good = ap (λ (v : Verdict). v.number) passes

      sized : size_of image ≡ size S
      unfolding state_of setup_of
      sized = holding.size_is

      parted : partitionable_in (word_at image 0) ≡ S.setup.partitionable
      unfolding state_of setup_of
      parted = holding.partitionable-is

      read_whole : length (read_bytes S i (suc k)) ≡ read_words (partitionable_in (word_at image 0)) (size_of image) * 4
      read_whole = read_length_lem S i (suc k) ∙ ap₂ (λ (b : Bool) (n : ℕ). read_words b n * 4) (sym parted) (sym sized)

      bits_below : read_bits S i (suc k) < 2 ^ size_of image
      bits_below = subst (λ (n : ℕ). read_bits S i (suc k) < 2 ^ n) (sym sized) (pack-lt (size S) _)

      -- the lengths of the session are those that the image asks for
      room : (left : ℕ) → length_with S left ≡ state_length (state_of image) left
      room left =
          let f = holding.fades-is in
          let n = holding.size_is in
          let p = holding.partitionable-is in
          λ x. image_length (front_words (sym f x)) (sym n x) left (sym p x)

      room_in : (left : ℕ) → length_with S left ≡ image_length (front_in (word_at image)) (size_of image) left (partitionable_in (word_at image 0))
      unfolding state_of
      room_in left = room left ∙ sym (read-sized image left)

      room-left : length_with S (state_of image).pending.left ≡ image_length_in image
      room-left = room_in (state_of image).pending.left ∙ ap (λ (m : ℕ). image_length (front_in (word_at image)) (size_of image) m (partitionable_in (word_at image 0))) (left_is image)

      room_after_lem : length_with S ((state_of image).pending.left - 1) ≡ image_length (front_in (word_at image)) (size_of image) (left_in image - 1) (partitionable_in (word_at image 0))
      room_after_lem =
          room_in ((state_of image).pending.left - 1) ∙ ap (λ (m : ℕ). image_length (front_in (word_at image)) (size_of image) (m - 1) (partitionable_in (word_at image 0))) (left_is image)

      room-changed : (new : List ℕ) (lead : ℕ) (out : List ℕ) → (change_of (state_of image) (setup_of new) lead).number ≡ 0 → length out ≡ length_with S lead
          → room_for (change_of (state_of image) (setup_of new) lead).state out ≡ true
      unfolding room_for pending_of
      room-changed new lead out z e =
          let t = change-taken (state_of image) (setup_of new) lead z in
          ap (λ (s : State). room_for s out) t.state ∙ eq-eqb _ _ (e ∙ room lead)

      told : Verdict → ℕ → WordAnswer
      told v w = record { number = v.number; index = v.index; word = cond (is_accepted v) w 0 }

      outgoing : outgoing_call image ≡ record { number = 0; index = 0; word = handed S i k }
      unfolding outgoing_call told
      outgoing =
          ap (λ (v : Verdict). told v (handed_out (state_of image))) passes
          ∙ ap (told accepted)
          (ap handed_out (when-between S i k h (state_of image) os (life S ok i below k h os (state_of image) lives))
          ∙ handed-same (state S i k) (state_of image).pending ∙ handed-is k)

      outgoing-view : outgoing_view_call image ≡ record { number = 0; index = 0; word = view_word_handed S i k }
      unfolding outgoing_view_call told
      outgoing-view =
          ap (λ (v : Verdict). told v (view_handed_out (state_of image))) passes
          ∙ ap (told accepted)
          (ap view_handed_out (when-between S i k h (state_of image) os (life S ok i below k h os (state_of image) lives))
          ∙ view-same (state S i k) (state_of image).pending ∙ view-handed-is k)

      kept : Kept S i k os image h
      kept =
          record {
            life = lives;
            one_form = is.written ∙ ap image_of (sym st-is);
            stepped = λ out e. step-accepted image (read_bytes S i (suc k)) (read_bits S i (suc k)) out good (e ∙ room_after_lem) read_whole bits_below;
            page-stepped = λ out page e p.
                page-step-accepted image (read_bytes S i (suc k)) (read_bits S i (suc k)) out page good (e ∙ room_after_lem) read_whole bits_below p;
            changed = λ new lead out right z e. change-passes image new lead out good right z (room-changed new lead out z e);
            saved = λ out e.
                let z = save-accepted image out good (e ∙ room-left) in
                (z, save-writes image out z ∙ ap image_of st-is ∙ sym is.written);
            outgoing = outgoing;
            outgoing-view = outgoing-view;
          }

    opens-so : Opens S setup i
    opens-so =
        let most : i + 1 ≤ size_of setup = omega (arith, setup-size) in
        let room : length_with S 0 ≡ image_length (front_in (word_at setup)) (size_of setup) 0 (partitionable_in (word_at setup 0)) =
        ap (λ (s : Setup). image_length (front_of s) s.n 0 s.partitionable) set-up.same ∙ sym (read-sized setup 0)
        in
        record {
          alone = λ out e. open-accepted setup (i + 1) out set-up.accepted (omega arith) most (e ∙ room);
          with-page = λ out page e p. page-open-accepted setup (i + 1) out page set-up.accepted (omega arith) most (e ∙ room) p;
        }

module _ (S : Session) (setup : List ℕ) (set-up : SetUp S setup) where
  of-life : (i k h : ℕ) (os : List Offer) (image : List ℕ) → RuleFollower S i → ImageLife S setup i k os image h → Life S i k os (state_of image) h
  of-life i k h os image f l = (kept S setup set-up i f.below k h os image l).life

  agreement : (last : ℕ) → Bound S last → Common S last → (k : ℕ) → 0 < k → k ≤ last → KeptTo S k → ImageAgreement S setup k
  agreement last bound common k pos hk lim =
      let a = demand-3.agreement S (ok S setup set-up) last bound common k pos hk lim in
      record {
        agree = λ i i' h h' os os' image image' f f' l l'.
            a.agree i i' h h' os os' _ _ f f' (of-life i k h os image f l) (of-life i' k h' os' image' f' l');
        after-step = λ i i' h h' image image' f f' l l'.
            a.after-step i i' h h' _ _ f f' (of-life i k h _ image f l) (of-life i' k h' _ image' f' l');
        charged = λ j hj un i h os image f l. a.charged j hj un i h os _ f (of-life i k h os image f l);
        cleared = λ j fj here alike i h os image f l. a.cleared j fj here alike i h os _ f (of-life i k h os image f l);
      }

  before-step : (last : ℕ) → Bound S last → Common S last → (k : ℕ) → k < last → KeptTo S k
      → (i i' h h' : ℕ) (image image' : List ℕ) → RuleFollower S i → RuleFollower S i'
      → ImageLife S setup i k [] image h → ImageLife S setup i' k [] image' h' → (state_of image).pending ≡ (state_of image').pending
  before-step last bound common k hk lim i i' h h' image image' f f' l l' =
      demand-3.before-step S (ok S setup set-up) last bound common k hk lim i i' h h' _ _ f f' (of-life i k h [] image f l) (of-life i' k h' [] image' f' l')

pub demand-3-c : Demand3C
demand-3-c = record { opened = opens-so; kept = kept; agreement = agreement; before-step = before-step }
