-- What a call with a page leaves, by what the same call without one has answered.
use mathlib.Core.Path.{◌≡◌, ap, ◌∙◌, sym, subst}
use mathlib.Core.Logic.{⊎_elim}
use mathlib.Core.Bool.{Bool, true, false, cond, not, ◌&&◌}
use mathlib.Core.List.{List}
use Prim.Native.Nat.{ℕ}
use native.Mathlib.Omega.{arith}
use lib.ListN.{length}
use lib.Dec.{eqb}
use borrow.Author.Tests.{eq-eqb, ne_eqb, eqb-true}
use Rattle.words.proofs.Truth.{which, clash, cond-true, cond-false, and-false-l, and_false_r, and-true}
use Rattle.calls.specs.Calls.{Called, refused_call}
use Rattle.page.specs.Page.{is_page}
use Rattle.page.specs.Calls.{PageCalled, page_called, with_page}

module _ (passed : Bool) (c : Called) (out page next : List ℕ) where
  -- a page of another length is seen once what goes before 9 has passed
  abbrev pub stops : Bool
  stops = passed && not (is_page page)

  pub goes_on_lem : stops ≡ false → with_page passed c out page next ≡ page_called c (cond (eqb c.answer.number 0) next page)
  unfolding with_page
  goes_on_lem f = cond-false _ _ f

  pub stopped : stops ≡ true → with_page passed c out page next ≡ page_called (refused_call 9 0 out) page
  unfolding with_page
  stopped t = cond-true _ _ t

  fits : length page ≡ 64 → stops ≡ false
  fits l = and_false_r passed (not (is_page page)) (ap not (eq-eqb (length page) 64 l))

  pub with-accepted : length page ≡ 64 → c.answer.number ≡ 0 → page_called c next ≡ with_page passed c out page next
  with-accepted l z = ap (page_called c) (sym (cond-true next page (eq-eqb c.answer.number 0 z))) ∙ sym (goes_on_lem (fits l))

  stays : stops ≡ false → (c.answer.number ≡ 0 → ⊥) → page_called c page ≡ with_page passed c out page next
  stays f z = ap (page_called c) (sym (cond-false next page (ne_eqb c.answer.number 0 z))) ∙ sym (goes_on_lem f)

  pub with-refused : length page ≡ 64 → (c.answer.number ≡ 0 → ⊥) → page_called c page ≡ with_page passed c out page next
  with-refused l z = stays (fits l) z

  pub with-before : passed ≡ false → (c.answer.number ≡ 0 → ⊥) → page_called c page ≡ with_page passed c out page next
  with-before f z = stays (and-false-l passed (not (is_page page)) f) z

  pub with-nine : passed ≡ true → (length page ≡ 64 → ⊥) → page_called (refused_call 9 0 out) page ≡ with_page passed c out page next
  with-nine t f = sym (stopped (and-true passed (not (is_page page)) t (ap not (ne_eqb (length page) 64 f))))

  -- ---- the same, from what the call with a page has answered

  pub lent : passed ≡ true → stops ≡ false → length page ≡ 64
  lent t f =
      ⊎_elim (λ (p : is_page page ≡ true). eqb-true (length page) 64 p)
      (λ (p : is_page page ≡ false). clash stops (and-true passed (not (is_page page)) t (ap not p)) f) (which (is_page page))

  pub with-zero : (with_page passed c out page next).call.answer.number ≡ 0 → (stops ≡ false) × (c.answer.number ≡ 0)
  unfolding refused_call
  with-zero z =
      ⊎_elim
      (λ (t : stops ≡ true). absurd (nine (ap (λ (x : PageCalled). x.call.answer.number) (sym (stopped t)) ∙ z)))
      (λ (f : stops ≡ false). (f, ap (λ (x : PageCalled). x.call.answer.number) (sym (goes_on_lem f)) ∙ z))
      (which stops)
    where
      nine : ◌≡◌ {A = ℕ} 9 0 → ⊥
      nine e = omega arith

  -- the page stays, or it is of 64 bytes and becomes the next
  pub with-either : (P : List ℕ → Type 0) → (c.answer.number ≡ 0 → passed ≡ true) → P page → (length page ≡ 64 → P next)
      → P (with_page passed c out page next).page
  with-either P h p q =
      ⊎_elim (λ (t : stops ≡ true). subst (λ (x : PageCalled). P x.page) (sym (stopped t)) p)
      (λ (f : stops ≡ false). subst (λ (x : PageCalled). P x.page) (sym (goes_on_lem f))
      (⊎_elim
      (λ (z : eqb c.answer.number 0 ≡ true).
      subst P (sym (cond-true next page z)) (q (lent (h (eqb-true c.answer.number 0 z)) f)))
      (λ (z : eqb c.answer.number 0 ≡ false). subst P (sym (cond-false next page z)) p) (which (eqb c.answer.number 0))))
      (which stops)
