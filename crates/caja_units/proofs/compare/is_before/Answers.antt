use Rattle.std.proofs.Common.{sym, ◌∙◌, arith}
use Rattle.caja_units.proofs.Compared.{comes_before-same, comes_before-differs, comes_before-longer, comes_before-end, no_read-within}
use Rattle.caja_units.proofs.compare.is_before.Goals as goal

pub returns-in_default : goal.returns-in_default
returns-in_default c =
    sym (comes_before-longer c.args.one.now c.args.other.now c.loop-i.i (sym c.at-in-loop-i.ensures ∙ c.in_default.is-1)) ∙ c.loop-i.invariant

pub returns-in_default-2 : goal.returns-in_default-2
returns-in_default-2 c = absurd (no_read-within c.args.one.now c.loop-i.i (omega arith) (sym c.at.ensures ∙ c.in_default.is-0))

pub returns-then-unit-there : goal.returns-then-unit-there
returns-then-unit-there c =
    sym (comes_before-differs c.args.one.now c.args.other.now c.loop-i.i c.in-Some-Some.unit c.in-Some-Some.there
    (sym c.at.ensures ∙ c.in-Some-Some.is-0) (sym c.at-in-loop-i.ensures ∙ c.in-Some-Some.is-1) c.if-unit-there.true) ∙ c.loop-i.invariant

pub loop-i-preserved : goal.loop-i-preserved
loop-i-preserved c =
    sym (comes_before-same c.args.one.now c.args.other.now c.loop-i.i c.in-Some-Some.unit c.in-Some-Some.there
    (sym c.at.ensures ∙ c.in-Some-Some.is-0) (sym c.at-in-loop-i.ensures ∙ c.in-Some-Some.is-1) c.if-unit-there.false) ∙ c.loop-i.invariant

pub returns : goal.returns
returns c =
    rw (c.len.ensures, c.len-2.ensures) (sym (comes_before-end c.args.one.now c.args.other.now c.loop-i.i (omega arith)) ∙ c.loop-i.invariant)
