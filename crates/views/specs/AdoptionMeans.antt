-- What is adopted, in other words. Proved in proofs/MajorityLaws.antt. (document 02, E11)
use Rattle.std.specs.Prelude.{ℕ, ◌*◌, ◌^◌, ◌<◌, ◌≡◌, Bool, true, ◌&&◌, List}
use Rattle.words.specs.Bits.{bit}
use Rattle.words.specs.Count.{count}
use Rattle.views.specs.Adoption.{carriers, adoptable, adopted_from}

-- more than half of all n senders carry, of each module, its value in the view v
abbrev pub Carried : ℕ → List ℕ → ℕ → Type 0
Carried n views v = (j : ℕ) → j < n → n < 2 * carriers n views j (bit v j)

pub record AdoptionMeans : Type 0 where
  -- the view that is adopted is so carried
  pub carried : (n : ℕ) (views : List ℕ) → adoptable n views ≡ true → Carried n views (adopted_from n views)
  -- and one that is so carried is adopted, so that there is at most one
  pub adopted : (n : ℕ) (views : List ℕ) (v : ℕ) → v < 2 ^ n → Carried n views v → (adoptable n views ≡ true) × (adopted_from n views ≡ v)
  -- whatever two sets of more than half of all n senders are, some sender is in both
  pub common : (n : ℕ) (p q : ℕ → Bool) → n < 2 * count n p → n < 2 * count n q → (l : ℕ) × (l < n) × (p l && q l ≡ true)
