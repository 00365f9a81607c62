use Rattle.std.proofs.Common.{◌≡◌, ◌-◌, ◌∷◌, [], suc, length, sym, ◌∙◌, arith}
use Rattle.std.proofs.lemmas.Result.{IfOk-weaker}
use Rattle.node_deeds.proofs.Visits.{walk-zero, walk-all}
use Rattle.node_deeds.proofs.walking.at_and_below.Goals as goal

pub returns-then-count-eq0 : goal.returns-then-count-eq0
returns-then-count-eq0 c =
    let none : length c.args.document.now.rows ≡ 0 = omega (arith, c.if-count-eq0.true, c.count-count.ensures) in
    c.new.ensures.items ∙ sym (walk-zero (length c.args.document.now.rows) c.args.document.now (c.args.n ∷ []) none)

pub returns : goal.returns
returns c =
    let more : length c.args.document.now.rows ≡ suc (c.count-count.result - 1) = omega (arith, c.if-count-eq0.false, c.count-count.ensures) in
    IfOk-weaker c.walk.result _ _ (λ v is. is ∙ walk-all (length c.args.document.now.rows) (c.count-count.result - 1) c.args.document.now c.args.n more) c.walk.ensures
