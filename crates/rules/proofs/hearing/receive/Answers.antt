-- What is heard passes all three tests; else the first that fails is the cause.
use Rattle.std.proofs.Common.{◌≡◌, ◌/◌, ◌%◌, ◌^◌, true, ◌&&◌, eqb, rules, ltb-true, ltb-false, eqb-true, eq-eqb}
use Rattle.words.proofs.Truth.{and_l, and_r}
use Rattle.rules.proofs.ReceptionLaws.{word-lost, word-other, word-stray, word-clean}
use Rattle.rules.proofs.hearing.receive.Goals as goal

pub returns-then-heard : goal.returns-then-heard
returns-then-heard c =
    let h = c.if-heard.true in
    word-clean _ _ _ (and_l c.args.on _ (and_l (c.args.on && eqb (c.args.w / 2 ^ 28) 5) _ h)) (eqb-true (c.args.w / 2 ^ 28) 5 (and_r c.args.on _ (and_l (c.args.on && eqb (c.args.w / 2 ^ 28) 5) _ h))) c.power.ensures
    (ltb-true (c.args.w % 2 ^ 28) c.power.result (and_r (c.args.on && eqb (c.args.w / 2 ^ 28) 5) _ h))

pub returns-then-not-on : goal.returns-then-not-on
returns-then-not-on c = word-lost _ _ _ c.if-not-on.true

pub returns-then-w-ne5 : goal.returns-then-w-ne5
returns-then-w-ne5 c = word-other _ _ _ (search rules) c.if-w-ne5.true

pub returns : goal.returns
returns c =
    let t : c.args.on ≡ true = search rules in
    let k : eqb (c.args.w / 2 ^ 28) 5 ≡ true = eq-eqb (c.args.w / 2 ^ 28) 5 c.if-w-ne5.false in
    word-stray _ _ _ t c.if-w-ne5.false c.power.ensures
    (ltb-false (c.args.w % 2 ^ 28) c.power.result (rw (t, k) at c.if-heard.false))
