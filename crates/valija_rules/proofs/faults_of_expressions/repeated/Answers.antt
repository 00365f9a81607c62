use Rattle.std.proofs.Common.{ap, ◌∙◌, option_map, is_some, arith}
use Rattle.cajita_rules.specs.Found.{fault_of}
use Rattle.valija_rules.proofs.Among.{found-there, repeated-turn, found-more}
use Rattle.valija_rules.proofs.faults_of_expressions.repeated.Goals as goal

pub loop-i-preserved : goal.loop-i-preserved
loop-i-preserved c =
    let f = c.index-fields-i.result in
    let within = c.loop-i-test.true in (
      repeated-turn c.args.fields.now c.loop-i.i f c.is_some.result (option_map fault_of c.loop-i.found) (option_map fault_of c.in_ok-here.here) _ (omega (arith, within))
          c.index-fields-i.is (c.is_some.ensures ∙ found-there c.get.result ∙ ap is_some c.get.ensures ∙ c.loop-i.invariant.1 f.0.text) c.in_ok-here.ensures.told c.picked-found.ensures ∙ c.loop-i.invariant.0,
      found-more c.args.fields.now c.loop-i.i f _ c.loop-i.before c.insert.new.self (omega (arith, within)) c.index-fields-i.is c.in_ok-insert.ensures.ok c.loop-i.invariant.1,
    )
