use Rattle.std.proofs.Common.{◌∙◌, ◌++◌, ap, false, []}
use Rattle.es3_tree.specs.Tree as t
use Rattle.es3_tree.specs.View.{of_stmts}
use Rattle.es3_printed.specs.Text.{onto}
use Rattle.es3_printed.specs.Tokens.{bare}
use Rattle.es3_printer.specs.Pieces.{pending}
use Rattle.es3_printer.specs.declared.piece.Piece.TheVariants.{Statements}
use Rattle.es3_printer.proofs.Stacked.{begun, taken, lighter}
use Rattle.es3_printer.proofs.print_program.Goals as goal

pub loop-piece-init : goal.loop-piece-init
unfolding bare
loop-piece-init c =
    ap (λ z. onto z (pending c.put.new.rest.items)) c.new-out.ensures.items
    ∙ begun c.put.new.rest.items (Statements c.deref.result) (bare t.stmts false (of_stmts c.args.p.now.body.items)) []
    (c.in_ok-put.ensures.tokens ∙ ap (λ z. (bare t.stmts false (of_stmts c.deref.result.now) ++ []) ++ pending z) c.new-rest.ensures.items)
    (ap (λ z. bare t.stmts false (of_stmts z)) c.deref.ensures.value)

pub loop-piece-smaller : goal.loop-piece-smaller
loop-piece-smaller c = lighter c.loop-piece.rest.items c.pop.new.self.items c.print_piece.new.rest.items c.in-Some.piece c.in-Some.ensures.items c.in_ok-print_piece.ensures.less

pub loop-piece-preserved : goal.loop-piece-preserved
loop-piece-preserved c = taken c.loop-piece.rest.items c.pop.new.self.items c.print_piece.new.rest.items c.in-Some.piece c.loop-piece.out.items c.print_piece.new.out.items _ c.in-Some.ensures.items c.in_ok-print_piece.ensures.text c.loop-piece.invariant
