use Rattle.std.proofs.Common.{◌≡◌, ◌-◌, ◌++◌, arith, rules}
use Rattle.std.proofs.lemmas.Result.{err_from_is_err_and}
use Rattle.es3_convert.specs.Conversions.{text_within}
use Rattle.es3_convert.specs.Texts.{before_item}
use Rattle.es3_convert.proofs.Arrays.{rest_text-more, rest_text-fault, text_within-object, text_within-plain}
use Rattle.es3_convert.proofs.text.+text.Goals as goal

pub array_text-returns-in_err-item : goal.array_text-returns-in_err-item
array_text-returns-in_err-item t c =
    let p = err_from_is_err_and c.from_residual-in_err-item.result c.from_residual-in_err-item.ensures.1 in
    rw (p.1, p.2) (rest_text-fault c.in_ok-count.count c.loop-index.index (text_within (c.args.nested - 1) c.args.h.now) c.args.separator.now c.args.h.now c.args.o c.loop-index.units.items _ _ (omega arith) c.loop-index.invariant c.in_err-item.ensures)

pub array_text-loop-index-preserved : goal.array_text-loop-index-preserved
array_text-loop-index-preserved t c =
    let more = rest_text-more c.in_ok-count.count c.loop-index.index (text_within (c.args.nested - 1) c.args.h.now) c.args.separator.now c.args.h.now c.args.o c.loop-index.units.items c.in_ok-item.item _ (omega arith) c.loop-index.invariant c.in_ok-item.ensures in
    let pushed : c.push_item.new.units.items ≡ c.loop-index.units.items ++ (before_item c.loop-index.index c.args.separator.now ++ c.in_ok-item.item) = search rules in
    rw pushed more

pub text_within-returns-in-Obj : goal.text_within-returns-in-Obj
text_within-returns-in-Obj t c = rw (c.in-Obj.is, text_within-object c.args.nested c.args.h.now c.in-Obj.o) c.object_text.ensures

pub text_within-returns-in_default : goal.text_within-returns-in_default
text_within-returns-in_default t c =
    rw (text_within-plain c.args.nested c.args.h.now c.args.v.now c.in_default.not-Obj) (search rules)
