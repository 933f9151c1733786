-- Images renumbered, proved: an image in a life is that of a state in a life.
use Prim.Native.Nat.{ℕ, ◌<◌}
use mathlib.Core.Path.{◌≡◌, sym, ap, ◌∙◌}
use mathlib.Core.List.{List}
use borrow.Author.Tests.{eq-eqb}
use Rattle.words.specs.Verdict.{Verdict}
use Rattle.words.proofs.Truth.{cond-true}
use Rattle.setup.specs.Setup.{setup_of, setup_bytes}
use Rattle.setup.specs.Check.{check_setup, setup_verdict, read_setup}
use Rattle.setup.specs.declared.Setup.{Setup}
use Rattle.setup.specs.Check.{SetupRead}
use Rattle.setup.proofs.SetupRoundTrip.{round_trip as setups}
use Rattle.presence.specs.Image.{image_of}
use Rattle.calls.specs.declared.WordAnswer.{WordAnswer}
use Rattle.agreement.specs.Session.{Session, Accepted, size}
use Rattle.agreement.specs.Images.{SetUp}
use Rattle.agreement.proofs.Images.{demand-3-c}
use Rattle.renumbering.specs.Renumbering.{word_for}
use Rattle.renumbering.specs.States.{setup_for}
use Rattle.renumbering.specs.SameSession.{SameSession}
use Rattle.renumbering.specs.SameImages.{RenumbersImages}
use Rattle.renumbering.proofs.SetupForLaws.{shaped', accepted'}
use Rattle.renumbering.proofs.SameSession.{renumbers-sessions}

-- a setup that is accepted as a struct is read back from its bytes
bytes-accepted : (s : Setup) → read_setup (setup_bytes s) ≡ record { number = 0; index = 0; setup = s } → (check_setup (setup_bytes s)).number ≡ 0
unfolding read_setup
bytes-accepted s e = ap (λ (x : SetupRead). x.number) e

bytes_back : (s : Setup) → read_setup (setup_bytes s) ≡ record { number = 0; index = 0; setup = s } → s ≡ setup_of (setup_bytes s)
unfolding read_setup
bytes_back s e = sym (ap (λ (x : SetupRead). x.setup) e) ∙ cond-true _ _ (eq-eqb _ 0 (bytes-accepted s e))

module _ (S : Session) (setup : List ℕ) (up : SetUp S setup) where
  pub accepted-setup : Accepted S
  accepted-setup =
      ap (λ (s : Setup). (setup_verdict s).number) up.same
      ∙ ap (λ (v : Verdict). v.number) (setups.read-accepted setup up.accepted).0

pub renumbers-images : RenumbersImages
renumbers-images S setup up unoffered z π S' r =
    let ok = accepted-setup S setup up in
    let p : SameSession S π S' = renumbers-sessions.same S ok unoffered z π S' r in
    let s' = setup_for (size S) π S.setup in
    let e = setups.written_read s' (shaped' S.setup π) (accepted' S.setup π ok z) in
    record {
      set-up = record { accepted = bytes-accepted s' e; same = r.setup ∙ bytes_back s' e };
      same = λ setup' up' i k h h' os os' image image' below l l'.
          let kept = demand-3-c.kept S setup up i below k h os image l in
          let kept' = demand-3-c.kept S' setup' up' (π.to i) (below' up' i below) k h' os' image' l' in
          let (q, v) = p.same i k h h' os os' _ _ below kept.life kept'.life in
          (kept'.one_form ∙ ap image_of q, v);
      outgoing = λ setup' up' i k h h' os os' image image' below l l'.
          let kept = demand-3-c.kept S setup up i below k h os image l in
          let kept' = demand-3-c.kept S' setup' up' (π.to i) (below' up' i below) k h' os' image' l' in
          ap (λ (x : WordAnswer). x.word) kept'.outgoing ∙ p.handed i k below
          ∙ ap (word_for (size S) π) (sym (ap (λ (x : WordAnswer). x.word) kept.outgoing));
      outgoing-view = λ setup' up' i k h h' os os' image image' below l l'.
          let kept = demand-3-c.kept S setup up i below k h os image l in
          let kept' = demand-3-c.kept S' setup' up' (π.to i) (below' up' i below) k h' os' image' l' in
          ap (λ (x : WordAnswer). x.word) kept'.outgoing-view ∙ p.view-handed i k below
          ∙ ap (word_for (size S) π) (sym (ap (λ (x : WordAnswer). x.word) kept.outgoing-view));
    }
  where
    below' : {setup' : List ℕ} → SetUp S' setup' → (i : ℕ) → i < size S → π.to i < size S'
    below' up' i h = rw (ap (λ (s : Setup). s.n) r.setup) (π.to_below i h)
