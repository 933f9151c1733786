-- Rules 4 to 8 and a whole round of a renumbered module, where u is 0.
use Prim.Native.Nat.{ℕ, ◌+◌, ◌-◌, ◌≤◌, ◌<◌}
use mathlib.Core.Path.{◌≡◌, sym, ap, ap₂, ◌∙◌}
use mathlib.Core.Bool.{Bool, true, false, cond, not, ◌&&◌, beq}
use mathlib.Core.List.{List}
use lib.ListN.{get_or}
use Rattle.words.specs.Bits.{bit, pack}
use Rattle.words.specs.Count.{any}
use Rattle.words.specs.Array.{array}
use Rattle.words.proofs.BitLaws.{pack-ext}
use Rattle.setup.specs.declared.Setup.{Setup}
use Rattle.rules.specs.Lag.{skewed}
use Rattle.rules.specs.Alignment.{from_previous, aligned_of}
use Rattle.vote.specs.Vote.{vote_of}
use Rattle.rules.specs.Accusation.{differs_at}
use Rattle.rules.specs.Syndrome.{voters_of, judgement_of}
use Rattle.accounts.specs.Round.{accounted_by, account_at, accounted_at, counters_of}
use Rattle.rules.specs.declared.Reading.{Reading}
use Rattle.accounts.specs.declared.Account.{Account}
use Rattle.accounts.specs.declared.Counters.{Counters}
use Rattle.rules.proofs.AlignmentLaws.{aligned-heard, aligned-row}
use Rattle.rules.proofs.SyndromeLaws.{voter-bit, health-lt, syndrome-lt, health-bit, syndrome-bit}
use Rattle.changes.specs.Pending.{nothing, counted_down}
use Rattle.changes.specs.Books.{turned, counted, books_after}
use Rattle.views.specs.ViewWord.{aligned_views}
use Rattle.views.specs.Views.{no_views, views_after}
use Rattle.views.specs.declared.Views.{Views}
use Rattle.views.proofs.ViewWordLaws.{aligned_at}
use Rattle.presence.specs.Step.{own_syndrome, aligned_for, judgement_for, voted_views, views_for, after_round}
use Rattle.presence.specs.declared.State.{State}
use Rattle.renumbering.specs.Renumbering.{Renumbering, vector_for, array_for, rows_for, word_for, view_words_for}
use Rattle.renumbering.specs.States.{setup_for, reading_for, counters_for, held_views_for, state_for}
use Rattle.renumbering.proofs.PermutationLaws.{eqb-renumbered, any-renumbered, tally-renumbered}
use Rattle.renumbering.proofs.VectorForLaws.{zeros-for, vector-bit, vector-by, vector-pack, array-entry, rows-entry, array-pack, doubles-entry, doubles-pack}
use Rattle.renumbering.proofs.ViewForLaws.{view-words-entry, views-after-for, no-views-for}

-- with u = 0 nothing comes from the previous read
module _ (n : ℕ) (skew : Bool) (place : ℕ) (previous this : Reading) (straight : skew ≡ false) (j : ℕ) (h : j < n) where
  straight-heard : bit (aligned_of n skew place previous this).heard j ≡ bit this.heard j
  straight-heard =
      aligned-heard n skew place previous this j h
      ∙ ap (λ (b : Bool). cond (from_previous b place j) (bit previous.heard j) (bit this.heard j)) straight

  straight-row : n ≤ 16 → get_or (aligned_of n skew place previous this).rows j 0 ≡ get_or this.rows j 0
  straight-row small =
      aligned-row n skew place previous this j h small
      ∙ ap (λ (b : Bool). cond (from_previous b place j) (get_or previous.rows j 0) (get_or this.rows j 0)) straight

straight-views : (n : ℕ) (skew : Bool) (place : ℕ) (previous this : List ℕ) → skew ≡ false → (j : ℕ) → j < n → n ≤ 16
    → get_or (aligned_views n skew place previous this) j 0 ≡ get_or this j 0
straight-views n skew place previous this straight j h small =
    aligned_at n previous this skew place j h small
    ∙ ap (λ (b : Bool). cond (from_previous b place j) (get_or previous j 0) (get_or this j 0)) straight

module _ (n : ℕ) (π : Renumbering n) (small : n ≤ 16) where
  -- ---- what is renumbered bit by bit

  abbrev pub Vector : ℕ → ℕ → Type 0
  Vector v v' = (j : ℕ) → j < n → bit v' j ≡ bit v (π.from j)

  abbrev pub Rows : List ℕ → List ℕ → Type 0
  Rows rows rows' = (l h : ℕ) → l < n → h < n → bit (get_or rows' l 0) h ≡ bit (get_or rows (π.from l) 0) (π.from h)

  pub rows-bits : (rows : List ℕ) → Rows rows (rows_for n π rows)
  rows-bits rows l h hl hh = ap (λ (r : ℕ). bit r h) (rows-entry n π small rows l hl) ∙ vector-bit n π _ h hh

  -- ---- rules 4 to 6
  module _ (view view' : ℕ) (a a' : Reading) (own own' : ℕ) (sees : Vector view view') (hears : Vector a.heard a'.heard)
      (rows : Rows a.rows a'.rows) (owns : Vector own own') where
    voters-for : Vector (voters_of n view a) (voters_of n view' a')
    voters-for j h =
        voter-bit n view' a' j h ∙ ap₂ (λ (x y : Bool). x && y) (sees j h) (hears j h) ∙ sym (voter-bit n view a (π.from j) (π.from-below j h))

    vote-for : (j : ℕ) → j < n → vote_of n (voters_of n view' a') a'.rows own' j ≡ vote_of n (voters_of n view a) a.rows own (π.from j)
    unfolding vote_of
    vote-for j h =
        tally-renumbered n π _ _ _ _ _ _
        (λ l hl. ap₂ (λ (x y : Bool). not x && y) (eqb-renumbered n π l j hl h) (voters-for l hl))
        (λ l hl. rows l j hl h) (owns j h)

    pub health-for : (judgement_of n view' a' own').health ≡ vector_for n π (judgement_of n view a own).health
    health-for =
        vector-by n π _ _ (health-lt n view' a' own')
        (λ j h. health-bit n view' a' own' j h ∙ vote-for j h ∙ sym (health-bit n view a own (π.from j) (π.from-below j h)))

    differs-for : (j : ℕ) → j < n
        → any n (differs_at (get_or a'.rows j 0) (judgement_of n view' a' own').health j)
        ≡ any n (differs_at (get_or a.rows (π.from j) 0) (judgement_of n view a own).health (π.from j))
    unfolding differs_at
    differs-for j h =
        any-renumbered n π _ _
        (λ l hl. ap₂ (λ (x y : Bool). not x && not y) (eqb-renumbered n π l j hl h)
        (ap₂ beq (rows j l h hl) (ap (λ (v : ℕ). bit v l) health-for ∙ vector-bit n π _ l hl)))

    pub syndrome-for : (judgement_of n view' a' own').syndrome ≡ vector_for n π (judgement_of n view a own).syndrome
    syndrome-for =
        vector-by n π _ _ (syndrome-lt n view' a' own')
        (λ j h. syndrome-bit n view' a' own' j h small
        ∙ ap₂ (λ (x y : Bool). x && not y) (hears j h) (ap₂ (λ (x y : Bool). x && y) (voters-for j h) (differs-for j h))
        ∙ sym (syndrome-bit n view a own (π.from j) (π.from-below j h) small))

-- ---- rule 8
module _ (s : Setup) (π : Renumbering s.n) (small : s.n ≤ 16) where
  account-for : (c : Counters) (j : ℕ) → j < s.n → account_at (counters_for s.n π c) j ≡ account_at c (π.from j)
  unfolding account_at
  account-for c j h = λ i. record {
    present = vector-bit s.n π c.view j h i;
    penalty = array-entry s.n π small c.penalty j h i;
    reward = array-entry s.n π small c.reward j h i;
    score = doubles-entry s.n π small c.score j h i;
    returns = array-entry s.n π small c.returns j h i;
  }

  accounted-for : (health : ℕ) (c : Counters) (j : ℕ) → j < s.n
      → accounted_at (setup_for s.n π s) (vector_for s.n π health) (counters_for s.n π c) j ≡ accounted_at s health c (π.from j)
  unfolding accounted_at
  accounted-for health c j h =
      let e = array-entry s.n π small s.criticality j h in
      let b = vector-bit s.n π health j h in
      let a = account-for c j h in
      ap (λ (k : ℕ). accounted_by s.limits s.q k (bit (vector_for s.n π health) j) (account_at (counters_for s.n π c) j)) e
      ∙ ap₂ (λ (x : Bool) (y : Account). accounted_by s.limits s.q (get_or s.criticality (π.from j) 0) x y) b a

  -- one number of every account
  counter-for : (f : Account → ℕ) (health : ℕ) (c : Counters)
      → array s.n (λ j. f (accounted_at (setup_for s.n π s) (vector_for s.n π health) (counters_for s.n π c) j))
      ≡ array_for s.n π (array s.n (λ j. f (accounted_at s health c j)))
  counter-for f health c = array-pack s.n π small (λ j. f (accounted_at s health c j)) _ (λ j h. ap f (accounted-for health c j h))

  pub counters-for : (health : ℕ) (c : Counters)
      → counters_of (setup_for s.n π s) (vector_for s.n π health) (counters_for s.n π c) ≡ counters_for s.n π (counters_of s health c)
  unfolding counters_of
  counters-for health c = λ i. record {
    view = seen i;
    penalty = counter-for (λ a. a.penalty) health c i;
    reward = counter-for (λ a. a.reward) health c i;
    score =
        doubles-pack s.n π small (λ j. (accounted_at s health c j).score) _ (λ j h. ap (λ (a : Account). a.score) (accounted-for health c j h)) i;
    returns = counter-for (λ a. a.returns) health c i;
  }
    where
      seen : pack s.n (λ j. (accounted_at (setup_for s.n π s) (vector_for s.n π health) (counters_for s.n π c) j).present)
          ≡ vector_for s.n π (pack s.n (λ j. (accounted_at s health c j).present))
      seen =
          pack-ext s.n _ _ (λ j h. ap (λ (a : Account). a.present) (accounted-for health c j h))
          ∙ sym (vector-pack s.n π (λ j. (accounted_at s health c j).present))

  -- ---- a round, where u is 0 before and after, and nothing is pending
  module _ (straight : skewed s.n s.places ≡ false) (straight' : skewed s.n (array_for s.n π s.places) ≡ false)
      (own : ℕ) (c : Counters) (previous : Reading) (latest earlier : ℕ) (v : Views) (this : Reading) (seen : List ℕ) where
    abbrev before : State
    before = record { setup = s; own = own; counters = c; previous = previous; latest = latest; earlier = earlier; pending = nothing; views = v }

    abbrev before' : State
    before' = state_for s.n π before

    abbrev this' : Reading
    this' = reading_for s.n π this

    abbrev seen' : List ℕ
    seen' = view_words_for s.n π seen

    aligned-hears : Vector s.n π small (aligned_for before this).heard (aligned_for before' this').heard
    unfolding aligned_for
    aligned-hears j h =
        straight-heard s.n _ _ _ _ straight' j h ∙ vector-bit s.n π this.heard j h
        ∙ sym (straight-heard s.n _ _ _ _ straight (π.from j) (π.from-below j h))

    aligned-rows : Rows s.n π small (aligned_for before this).rows (aligned_for before' this').rows
    unfolding aligned_for
    aligned-rows l h hl hh =
        ap (λ (r : ℕ). bit r h) (straight-row s.n _ _ _ _ straight' l hl small) ∙ rows-bits s.n π small this.rows l h hl hh
        ∙ sym (ap (λ (r : ℕ). bit r (π.from h)) (straight-row s.n _ _ _ _ straight (π.from l) (π.from-below l hl) small))

    own-for : Vector s.n π small (own_syndrome before) (own_syndrome before')
    unfolding own_syndrome
    own-for j h =
        ap (λ (b : Bool). bit (cond b (vector_for s.n π earlier) (vector_for s.n π latest)) j) straight' ∙ vector-bit s.n π latest j h
        ∙ sym (ap (λ (b : Bool). bit (cond b earlier latest) (π.from j)) straight)

    judged-health : (judgement_for before' this').health ≡ vector_for s.n π (judgement_for before this).health
    unfolding judgement_for
    judged-health = health-for s.n π small _ _ _ _ _ _ (vector-bit s.n π c.view) aligned-hears aligned-rows own-for

    judged-syndrome : (judgement_for before' this').syndrome ≡ vector_for s.n π (judgement_for before this).syndrome
    unfolding judgement_for
    judged-syndrome = syndrome-for s.n π small _ _ _ _ _ _ (vector-bit s.n π c.view) aligned-hears aligned-rows own-for

    recounted : counters_of (setup_for s.n π s) (judgement_for before' this').health (counters_for s.n π c)
        ≡ counters_for s.n π (counters_of s (judgement_for before this).health c)
    recounted =
        ap (λ (h : ℕ). counters_of (setup_for s.n π s) h (counters_for s.n π c)) judged-health
        ∙ counters-for (judgement_for before this).health c

    -- the view words that it votes on, and what it then holds of views
    voted-for : (l : ℕ) → l < s.n → get_or (voted_views before' seen') l 0 ≡ word_for s.n π (get_or (voted_views before seen) (π.from l) 0)
    unfolding voted_views
    voted-for l h =
        straight-views s.n _ _ _ _ straight' l h small ∙ view-words-entry s.n π small seen l h
        ∙ ap (word_for s.n π) (sym (straight-views s.n _ _ _ _ straight (π.from l) (π.from-below l h) small))

    views-for : views_for before' seen' ≡ held_views_for s.n π (views_for before seen)
    unfolding views_for
    views-for = go s.partitionable
      where
        go : (b : Bool)
            → cond b (views_after s.n (held_views_for s.n π v) (voted_views before' seen') seen' (vector_for s.n π c.view)) no_views
            ≡ held_views_for s.n π (cond b (views_after s.n v (voted_views before seen) seen c.view) no_views)
        go true = views-after-for s.n π (voted_views before seen) (voted_views before' seen') voted-for v seen c.view
        go false = no-views-for s.n π small

    -- the state after the round, and the health vector
    pub round-for : (after_round before' this' seen' ≡ state_for s.n π (after_round before this seen))
        × ((judgement_for before' this').health ≡ vector_for s.n π (judgement_for before this).health)
    unfolding after_round books_after counted turned counted_down nothing
    round-for = (
      λ i. record {
        setup = setup_for s.n π s;
        own = π.to (own - 1) + 1;
        counters = recounted i;
        previous = this';
        latest = judged-syndrome i;
        earlier = vector_for s.n π latest;
        pending = record { left = 0; p = 0; r = 0; criticality = zeros-for s.n π small i };
        views = views-for i;
      },
      judged-health,
    )
