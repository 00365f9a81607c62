use Rattle.std.proofs.Common.{◌^◌, [], ◌∷◌, ◌++◌, map, reverse, refl, sym, ap, ◌∙◌, arith}
use Rattle.es3_tree.specs.Tree as t
use Rattle.es3_tree.specs.PlacedView.{expr}
use Rattle.es3_grammar.specs.Levels.{own}
use Rattle.es3_grammar.specs.Plain.{deep}
use Rattle.es3_ops.specs.Views.{depth_of, infix_join}
use Rattle.es3_ops.proofs.Nested.{operand_below}
use Rattle.es3_ops.proofs.Adding.{Adds, adds_fit, adds_nest, adds_keep}
use Rattle.es3_ops.proofs.grouping.Ops.add.Goals as goal

pub measured-depth-requires : goal.measured-depth-requires
measured-depth-requires c =
    let o = c.args.self.now in
    let z = c.unwrap-last.result in
    let d = deep t.expr (expr z) in
    let a : Adds o z o.waiting.items d = record { last_is = sym c.take.ensures.value ∙ c.unwrap-last.ensures; waiting_is = refl; depth_is = refl } in
    omega (arith, operand_below (reverse (map depth_of o.waiting.items)) d (own (infix_join c.args.op)) (2 ^ 32) (adds_fit o z o.waiting.items d c.args.op a c.requires.fits))

pub wait_behind-requires-clause-fits : goal.wait_behind-requires-clause-fits
wait_behind-requires-clause-fits c =
    adds_fit c.args.self.now c.unwrap-last.result c.reserve.new.self.items c.measured-depth.result c.args.op
    (record { last_is = sym c.take.ensures.value ∙ c.unwrap-last.ensures; waiting_is = c.reserve.ensures.items; depth_is = c.measured-depth.ensures })
    c.requires.fits

pub invariant_of-self-2 : goal.invariant_of-self-2
invariant_of-self-2 c = record {
  kept =
      adds_keep c.args.self.now c.unwrap-last.result c.reserve.new.self.items c.wait_behind.new.waiting.items c.measured-depth.result c.args.op c.push.new.self.items
      (record { last_is = sym c.take.ensures.value ∙ c.unwrap-last.ensures; waiting_is = c.reserve.ensures.items; depth_is = c.measured-depth.ensures })
      (let pushed = rw c.unwrap.ensures at c.push.ensures.items in pushed ∙ ap (λ l. l ++ (c.unwrap-last.result, c.args.op) ∷ []) c.reserve-2.ensures.items)
      c.wait_behind.ensures.waits;
}

pub returns-clause-nests : goal.returns-clause-nests
returns-clause-nests c x y one g =
    c.wait_behind.ensures.depth
    ∙ adds_nest c.args.self.now c.unwrap-last.result c.reserve.new.self.items c.measured-depth.result c.args.op x y
    (record { last_is = sym c.take.ensures.value ∙ c.unwrap-last.ensures; waiting_is = c.reserve.ensures.items; depth_is = c.measured-depth.ensures })
    one g
