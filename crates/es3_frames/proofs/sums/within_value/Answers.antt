use Rattle.std.proofs.Common.{refl, true, false}
use Rattle.std.specs.Prelude.{◌≡◌, max, map}
use Rattle.std.proofs.Common.{ap, ◌∙◌, arith}
use Rattle.es3_tree.specs.Tree as t
use Rattle.es3_grammar.specs.Plain.{deep}
use Rattle.es3_grammar.specs.Sums.{capped}
use Rattle.es3_grammar.specs.Frames.{items_of}
use Rattle.es3_frames.specs.Lists.{item_of}
use Rattle.es3_frames.specs.declared.parts.Items.{Items}
use Rattle.es3_frames.proofs.Rows.{items_mapped}
use Rattle.es3_frames.proofs.sums.within_value.Goals as goal

listed : (its : Items) → its.depth ≡ capped (deep t.items (items_of (map item_of its.list.items)))
listed its = its.right ∙ ap (λ x. capped (deep t.items x)) (items_mapped its.list.items)

pub returns-then-in_for : goal.returns-then-in_for
returns-then-in_for c =
    let right : c.args.items.now.depth ≡ capped (deep t.items (items_of (map item_of c.args.items.now.list.items))) = listed c.args.items.now in
    let deeper : c.max.result ≡ capped (max (deep t.items (items_of (map item_of c.args.items.now.list.items))) 1) = omega arith in
    rw c.if-in_for.true (λ k h. c.round_part.ensures k.behind _ false true h.behind_is deeper refl refl)

pub returns-else-in_for : goal.returns-else-in_for
returns-else-in_for c = rw c.if-in_for.false (λ k h. c.within_end.ensures k _ h (listed c.args.items.now))
