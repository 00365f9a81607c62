use Rattle.std.proofs.Common.{◌≡◌, ◌∷◌, ◌++◌, [], true, false, subst, rules}
use Rattle.std.specs.Vec.Iter.{into_iter_items}
use Rattle.caja_units.specs.Units.{is_hidden}
use Rattle.es3_heap.specs.Objects.{object_at, props_of}
use Rattle.es3_heap.specs.Properties.{find, value_of}
use Rattle.freeze_marks.specs.Records.{has_key}
use Rattle.freeze_marks.proofs.Public.{Gathered, hidden_next, public_next}
use Rattle.freeze_marks.proofs.records.public_pairs.Goals as goal

pub loop-key-preserved-in-Continue-branch-2 : goal.loop-key-preserved-in-Continue-branch-2
loop-key-preserved-in-Continue-branch-2 c =
    let props = props_of (object_at c.args.h.now c.args.o) in
    let pairs = c.loop-key.pairs.items in
    let key = c.in-Some.key in
    let rest = into_iter_items c.next.new.self in
    let next : into_iter_items c.loop-key.key-iterator ≡ key ∷ rest = search rules in
    let seen : is_hidden key ≡ false = search rules in
    let new : has_key key pairs ≡ false = search rules in
    let pushed : c.push_own.new.pairs.items ≡ pairs ++ (key, value_of (find key props)) ∷ [] = search rules in
    public_next props pairs c.push_own.new.pairs.items key rest (subst (Gathered props pairs) next c.loop-key.invariant) seen new pushed

pub loop-key-preserved : goal.loop-key-preserved
loop-key-preserved c =
    let props = props_of (object_at c.args.h.now c.args.o) in
    let pairs = c.loop-key.pairs.items in
    let key = c.in-Some.key in
    let rest = into_iter_items c.next.new.self in
    let next : into_iter_items c.loop-key.key-iterator ≡ key ∷ rest = search rules in
    let hidden : is_hidden key ≡ true = search rules in
    hidden_next props pairs key rest (subst (Gathered props pairs) next c.loop-key.invariant) hidden
