use Rattle.std.proofs.Common.{map, ap, sym, ◌∙◌, arith}
use Rattle.std.specs.List.{slice_range}
use Rattle.es3_objects.specs.declared.value.Value.TheVariants as v
use Rattle.builtin_string.proofs.Standing.{next_piece, last_piece, pieces_more, pieces_end, split_some}
use Rattle.builtin_string.proofs.pieces.pieces_between.Goals as goal

pub slice-requires-clause-order : goal.slice-requires-clause-order
slice-requires-clause-order c =
    (next_piece c.args.separator.now c.args.text.now c.loop-place.from c.in-Some.place c.requires c.loop-place.invariant.within (sym c.index_of.ensures ∙ c.in-Some.is)).order

pub slice-requires-clause-within : goal.slice-requires-clause-within
slice-requires-clause-within c =
    let piece = next_piece c.args.separator.now c.args.text.now c.loop-place.from c.in-Some.place c.requires c.loop-place.invariant.within (sym c.index_of.ensures ∙ c.in-Some.is) in
    omega (arith, piece.within)

pub overflow_add-from : goal.overflow_add-from
overflow_add-from c =
    let piece = next_piece c.args.separator.now c.args.text.now c.loop-place.from c.in-Some.place c.requires c.loop-place.invariant.within (sym c.index_of.ensures ∙ c.in-Some.is) in
    omega (arith, piece.within, c.len.ensures.count, c.len-count.ensures.count, c.len-count.ensures.bound)

pub loop-place-smaller : goal.loop-place-smaller
loop-place-smaller c =
    let piece = next_piece c.args.separator.now c.args.text.now c.loop-place.from c.in-Some.place c.requires c.loop-place.invariant.within (sym c.index_of.ensures ∙ c.in-Some.is) in
    omega (arith, piece.order, piece.within, piece.some, c.len.ensures.count)

pub loop-place-preserved : goal.loop-place-preserved
loop-place-preserved c =
    let piece = next_piece c.args.separator.now c.args.text.now c.loop-place.from c.in-Some.place c.requires c.loop-place.invariant.within (sym c.index_of.ensures ∙ c.in-Some.is) in
    record {
      within = omega (arith, piece.within, c.len.ensures.count);
      pieces = rw c.len.ensures.count (pieces_more c.loop-place.pieces.items _ _ _ _ _ _ c.loop-place.invariant.pieces piece.piece c.in_ok-push.ensures.items c.in_ok-slice.ensures);
    }

pub returns : goal.returns
returns c =
    let piece = last_piece c.args.separator.now c.args.text.now c.loop-place.from c.requires c.loop-place.invariant.within (sym c.index_of.ensures ∙ c.in_default.is) in
    pieces_end c.loop-place.pieces.items _ _ _ _ _ c.loop-place.invariant.pieces piece c.in_ok-push-2.ensures.items (c.in_ok-slice-2.ensures ∙ ap (slice_range c.args.text.now c.loop-place.from) c.len-count.ensures.count)
    ∙ ap (map v.Text) (split_some c.args.separator.now c.args.text.now c.requires)
