use Rattle.std.proofs.Common.{◌≡◌, ℕ, ◌+◌, ◌<◌, ◌&&◌, not, eqb, Bool, true, false, List, [], ◌∷◌, length, get_or, drop, Option, Some, sym, ap, ◌∙◌, arith}
use Rattle.std.specs.List.{slice_get}
use Rattle.std.specs.Option.{option_eq}
use Rattle.std.proofs.lemmas.List.{at_drop_more, at_drop_all}
use Rattle.std.proofs.lemmas.Option.{slice_get-get_or}
use Rattle.caja_units.specs.Units.{same_units}
use Rattle.cajita_names.proofs.words.spells.Goals as goal

-- the units at one place decide, and then what is behind them
same_units-drop : (us bs : List ℕ) (i : ℕ) (t : Bool) → i < length us → i < length bs → eqb (get_or us i 0) (get_or bs i 0) ≡ t → same_units (drop i us) (drop i bs) ≡ (t && same_units (drop (i + 1) us) (drop (i + 1) bs))
same_units-drop us bs i t h g e =
    at_drop_more (λ l. same_units l (drop i bs)) us i 0 h
    ∙ at_drop_more (λ l. same_units (get_or us i 0 ∷ drop (i + 1) us) l) bs i 0 g
    ∙ ap (λ b. b && same_units (drop (i + 1) us) (drop (i + 1) bs)) e

by_not : (b r : Bool) → r ≡ not b → b ≡ not r
by_not true r e = ap not (sym e)
by_not false r e = ap not (sym e)

-- what the test `r` of one unit says
told : (us bs : List ℕ) (i u : ℕ) (o : Option ℕ) (r : Bool) → i < length us → i < length bs → o ≡ slice_get us i → u ≡ get_or bs i 0 → r ≡ not (option_eq eqb o (Some u)) → same_units (drop i us) (drop i bs) ≡ (not r && same_units (drop (i + 1) us) (drop (i + 1) bs))
told us bs i u o r h g at is e =
    same_units-drop us bs i (not r) h g
    (by_not _ r (e ∙ ap (λ x. not (option_eq eqb x (Some u))) (at ∙ slice_get-get_or us i 0 h) ∙ ap (λ b. not (eqb (get_or us i 0) b)) is))

pub returns-then-ne : goal.returns-then-ne
returns-then-ne c =
    let us = c.args.text.now in
    let bs = c.args.word.now in
    let i = c.loop-i.i in
    let e = told us bs i c.from.result c.at.result c.ne.result (omega arith) (omega arith) c.at.ensures.is (c.from.ensures ∙ ap (λ l. get_or l i 0) c.as_bytes-word.ensures.value) c.ne.ensures in
    sym (sym c.loop-i.invariant ∙ e ∙ ap (λ r. not r && same_units (drop (i + 1) us) (drop (i + 1) bs)) c.if-ne.true)

pub loop-i-preserved : goal.loop-i-preserved
loop-i-preserved c =
    let us = c.args.text.now in
    let bs = c.args.word.now in
    let i = c.loop-i.i in
    let e = told us bs i c.from.result c.at.result c.ne.result (omega arith) (omega arith) c.at.ensures.is (c.from.ensures ∙ ap (λ l. get_or l i 0) c.as_bytes-word.ensures.value) c.ne.ensures in
    sym (sym c.loop-i.invariant ∙ e ∙ ap (λ r. not r && same_units (drop (i + 1) us) (drop (i + 1) bs)) c.if-ne.false)

pub returns : goal.returns
returns c =
    let us = c.args.text.now in
    let bs = c.args.word.now in
    let i = c.loop-i.i in
    sym (sym c.loop-i.invariant ∙ at_drop_all (λ l. same_units l (drop i bs)) us i (omega arith) ∙ at_drop_all (same_units []) bs i (omega arith))
