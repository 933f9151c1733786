-- What is asked of a new module word, in other words. Proved in proofs/NewMeaning.antt. (document 02, E10)
use Rattle.std.specs.Prelude.{ℕ, ◌≡◌, true}
use Rattle.setup.specs.Setup.{mark_in, place_in}
use Rattle.setup.specs.Check.{module_ok, mark_ok}
use Rattle.changes.specs.Words.{new_module_ok}

-- of the word of module j + 1 in a change of n modules, beside the setup's own word, which numbers 5 and 6 accept
pub record NewWordMeans : Type 0 where
  -- one that passes is accepted by 5 and 6 as well, and has the own word's read place and send mark
  pub passes : (n j own new : ℕ) → module_ok n j own ≡ true → mark_ok j own ≡ true → new_module_ok own new ≡ true
      → (module_ok n j new ≡ true) × (mark_ok j new ≡ true) × (place_in new ≡ place_in own) × (mark_in new ≡ mark_in own)
  -- and every such word passes
  pub all_pass : (n j own new : ℕ) → module_ok n j own ≡ true → mark_ok j own ≡ true → module_ok n j new ≡ true → mark_ok j new ≡ true
      → place_in new ≡ place_in own → mark_in new ≡ mark_in own → new_module_ok own new ≡ true
