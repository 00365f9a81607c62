-- Each part that takes temporaries has a token of its own: there are no more writes in a part, and in the functions in it, than tokens that spell it.
use Rattle.std.proofs.Common.{ℕ, suc, ◌+◌, ◌≤◌, List, length, arith, length-append}
use Rattle.es3_tree.specs.Tree as t
use Rattle.es3_tree.specs.Tree.{Sort}
use Rattle.es3_tree.specs.Placed.{Placed}
use Rattle.es3_grammar.specs.Spots.{Spot}
use Rattle.es3_grammar.specs.Levels.{E, Join, an_op, an_and, an_or, an_assign, a_comma, joined}
use Rattle.es3_grammar.specs.Grammar.{Bars, Spells, s_this, s_null, s_true, s_false, s_num, s_text, s_name, s_paren, s_array, s_array_comma, s_object, s_function, s_dot, s_index, s_call, s_new_call, s_new, s_postfix, s_prefix_step, s_prefix, s_join, s_choice, s_no_exprs, s_some_exprs, s_one_expr, s_more_exprs, s_no_fields, s_some_fields, s_one_field, s_more_fields, s_func, s_block, s_var, s_empty, s_expression, s_one_item, s_more_items, s_no_value, s_value, s_if, s_else, s_do, s_while, s_for, s_for_in, s_no_first, s_first_var, s_first_expr, s_no_expr, s_some_expr, s_loop_var, s_loop_expr, s_continue, s_break, s_return, s_with, s_switch, s_no_cases, s_case, s_default, s_label, s_throw, s_catch, s_finally, s_catch_finally, s_no_stmts, s_more_stmts, s_declaration, s_script}
use Rattle.source_sizes.specs.Sizes.{writes, inner_writes}

-- an operator between two parts writes once at most
joined_writes : (j : Join) (x y : E) → writes t.expr (joined j x y) + inner_writes t.expr (joined j x y) ≤ suc ((writes t.expr x + inner_writes t.expr x) + (writes t.expr y + inner_writes t.expr y))
unfolding writes inner_writes
joined_writes (an_op op) x y = omega arith
joined_writes an_and x y = omega arith
joined_writes an_or x y = omega arith
joined_writes (an_assign op) x y = omega arith
joined_writes a_comma x y = omega arith

spelled : {s : Sort} {b : Bars} {l : ℕ} {x : Placed s} {u : List Spot} → Spells s b l x u → writes s x + inner_writes s x ≤ length u
unfolding writes inner_writes
spelled (s_this b l a _) = omega arith
spelled (s_null b l a _) = omega arith
spelled (s_true b l a _) = omega arith
spelled (s_false b l a _) = omega arith
spelled (s_num b l a n _) = omega arith
spelled (s_text b l a us _) = omega arith
spelled (s_name b l n _) = omega arith
spelled (s_paren b l a d x u _ p) = simp length-append (omega (arith, spelled p))
spelled (s_array b l a d xs u _ p) = simp length-append (omega (arith, spelled p))
spelled (s_array_comma b l a d e xs u _ p) = simp length-append (omega (arith, spelled p))
spelled (s_object b l a d fs u _ p) = simp length-append (omega (arith, spelled p))
spelled (s_function b l a n ps ss u _ p) = omega (arith, spelled p)
spelled (s_dot b l a x n u _ p) = simp length-append (omega (arith, spelled p))
spelled (s_index b l a d x y u v _ p q) = simp length-append (omega (arith, spelled p, spelled q))
spelled (s_call b l a d x xs u v _ _ p q) = simp length-append (omega (arith, spelled p, spelled q))
spelled (s_new_call b l a d e x xs u v _ p q) = simp length-append (omega (arith, spelled p, spelled q))
spelled (s_new b l a x u _ p) = omega (arith, spelled p)
spelled (s_postfix b l a up x u _ _ p) = simp length-append (omega (arith, spelled p))
spelled (s_prefix_step b l a up x u _ _ p) = omega (arith, spelled p)
spelled (s_prefix b l a op x u _ p) = omega (arith, spelled p)
spelled (s_join b l a j c x y u v _ _ _ p q) = simp length-append (omega (arith, spelled p, spelled q, joined_writes j x y))
spelled (s_choice b l a d x y z u v w _ p q h) = simp length-append (omega (arith, spelled p, spelled q, spelled h))
spelled s_no_exprs = omega arith
spelled (s_some_exprs xs u p) = omega (arith, spelled p)
spelled (s_one_expr x u p) = omega (arith, spelled p)
spelled (s_more_exprs a x xs u v p q) = simp length-append (omega (arith, spelled p, spelled q))
spelled s_no_fields = omega arith
spelled (s_some_fields fs u p) = omega (arith, spelled p)
spelled (s_one_field a c n x u _ p) = omega (arith, spelled p)
spelled (s_more_fields a d c n x fs u v _ p q) = simp length-append (omega (arith, spelled p, spelled q))
spelled (s_func a d e f g n ps ss u v _ p) = simp length-append (omega (arith, spelled p))
spelled (s_block a d ss u p) = simp length-append (omega (arith, spelled p))
spelled (s_var a c is u p _) = simp length-append (omega (arith, spelled p))
spelled (s_empty a) = omega arith
spelled (s_expression c x u p _ _) = simp length-append (omega (arith, spelled p))
spelled (s_one_item b n m u p) = omega (arith, spelled p)
spelled (s_more_items b a n m is u v p q) = simp length-append (omega (arith, spelled p, spelled q))
spelled (s_no_value b) = omega arith
spelled (s_value b a x u p) = omega (arith, spelled p)
spelled (s_if a d e x s u v p q) = simp length-append (omega (arith, spelled p, spelled q))
spelled (s_else a d e f x s r u v w p q _ h) = simp length-append (omega (arith, spelled p, spelled q, spelled h))
spelled (s_do a d e f c s x u v p q _) = simp length-append (omega (arith, spelled p, spelled q))
spelled (s_while a d e x s u v p q) = simp length-append (omega (arith, spelled p, spelled q))
spelled (s_for a d e f g r m n s u v w q p h k o) = simp length-append (omega (arith, spelled p, spelled h, spelled k, spelled o))
spelled (s_for_in a d e f r x s u v w p q h) = simp length-append (omega (arith, spelled p, spelled q, spelled h))
spelled s_no_first = omega arith
spelled (s_first_var a is u p) = omega (arith, spelled p)
spelled (s_first_expr x u p) = omega (arith, spelled p)
spelled s_no_expr = omega arith
spelled (s_some_expr x u p) = omega (arith, spelled p)
spelled (s_loop_var a n) = omega arith
spelled (s_loop_expr x u _ p) = omega (arith, spelled p)
spelled (s_continue a c n _) = simp length-append (omega arith)
spelled (s_break a c n _) = simp length-append (omega arith)
spelled (s_return a c m u p _) = simp length-append (omega (arith, spelled p))
spelled (s_with a d e x s u v p q) = simp length-append (omega (arith, spelled p, spelled q))
spelled (s_switch a d e f g x cs u v p q _) = simp length-append (omega (arith, spelled p, spelled q))
spelled s_no_cases = omega arith
spelled (s_case a d x ss cs u v w p q h) = simp length-append (omega (arith, spelled p, spelled q, spelled h))
spelled (s_default a d ss cs v w p q) = simp length-append (omega (arith, spelled p, spelled q))
spelled (s_label a n s u p) = omega (arith, spelled p)
spelled (s_throw a c x u p _) = simp length-append (omega (arith, spelled p))
spelled (s_catch a d e f g h i j ss n hs u v p q) = simp length-append (omega (arith, spelled p, spelled q))
spelled (s_finally a d e f g h ss ls u v p q) = simp length-append (omega (arith, spelled p, spelled q))
spelled (s_catch_finally a d e f g h i j k l m ss n hs ls u v w p q o) = simp length-append (omega (arith, spelled p, spelled q, spelled o))
spelled (s_no_stmts l) = omega arith
spelled (s_more_stmts l s ss u v p q) = simp length-append (omega (arith, spelled p, spelled q))
spelled (s_declaration a n ps body ss u v p q) = simp length-append (omega (arith, spelled p, spelled q))
spelled (s_script ss u p) = omega (arith, spelled p)

pub all_writes_have_tokens : (s : Sort) (b : Bars) (l : ℕ) (x : Placed s) (u : List Spot) → Spells s b l x u → writes s x + inner_writes s x ≤ length u
all_writes_have_tokens s b l x u h = spelled h

pub writes_have_tokens : (s : Sort) (b : Bars) (l : ℕ) (x : Placed s) (u : List Spot) → Spells s b l x u → writes s x ≤ length u
writes_have_tokens s b l x u h = omega (arith, spelled h)
