-- Each part of a program: what it is lowered to nests at most six times as deep as the part, and eight more.
use Rattle.std.proofs.Common.{true, false, Some, None, refl}
use Rattle.es3_tree.specs.Tree as t
use Rattle.es3_tree.specs.Placed as p
use Rattle.es3_tree.specs.Placed.{Placed}
use Rattle.es3_tree.specs.declared.UnOp.TheVariants.{Delete, Typeof}
use Rattle.valija_nesting.proofs.Lowered.{Part, Lines, Target}
use Rattle.valija_nesting.proofs.Expressions.{this_form, null_form, bool_form, num_form, text_form, name_form, array_form, object_form, function_form, named_form, dot_form, index_form, call_dot_form, call_index_form, new_form, delete_dot_form, delete_index_form, type_of_form, binary_form, and_form, or_form, choice_form, comma_form, no_exprs_form, more_exprs_form, no_fields_form, more_fields_form, no_expr_form, some_expr_form, call_form, unary_form}
use Rattle.valija_nesting.proofs.Assignments.{step_name_form, step_dot_form, step_dot_behind_form, step_index_form, step_index_behind_form, assign_name_form, assign_dot_form, assign_index_form, operate_name_form, operate_dot_form, operate_index_form, step_form, assign_form}
use Rattle.valija_nesting.proofs.Statements.{block_form, var_form, empty_form, expression_form, branch_form, while_form, do_form, for_form, for_in_form, continue_form, break_form, return_form, with_form, switch_form, label_form, throw_form, try_form, declare_form, no_items_form, more_items_form, no_stmt_form, some_stmt_form, no_block_form, some_block_form, no_first_form, first_var_form, first_expr_form, no_cases_form, more_cases_form, no_handler_form, some_handler_form, loop_var_form, loop_name_form, loop_dot_form, loop_index_form, loop_form, no_stmts_form, declared_form, nameless_form, more_stmts_form}

-- of a function, its body
abbrev pub FuncBody : Placed t.func → Type 0
FuncBody (p.fun name ps body at) = Lines body

abbrev pub Within : (k : t.Sort) → Placed k → Type 0
Within t.expr x = Part t.expr x
Within t.exprs x = Part t.exprs x
Within t.fields x = Part t.fields x
Within t.maybe_expr x = Part t.maybe_expr x
Within t.stmt x = Part t.stmt x
Within t.stmts x = Lines x
Within t.items x = Part t.items x
Within t.maybe_stmt x = Part t.maybe_stmt x
Within t.maybe_block x = Part t.maybe_block x
Within t.first x = Part t.first x
Within t.loop_target x = Target x
Within t.cases x = Part t.cases x
Within t.handler x = Part t.handler x
Within t.func x = FuncBody x
Within t.program x = Unit {0}

pub part : (k : t.Sort) (x : Placed k) → Within k x
part _ (p.this at) = this_form at
part _ p.null = null_form
part _ (p.bool c) = bool_form c
part _ (p.num n) = num_form n
part _ (p.text us) = text_form us
part _ (p.name x) = name_form x
part _ (p.array es) = array_form es (part _ es)
part _ (p.object fs) = object_form fs (part _ fs)
part _ (p.function (p.fun None ps body at)) = function_form ps body at (part _ body)
part _ (p.function (p.fun (Some x) ps body at)) = named_form x ps body at (part _ body)
part _ (p.dot e k) = dot_form e k (part _ e)
part _ (p.index e k) = index_form e k (part _ e) (part _ k)
part _ (p.call (p.dot e k) es) = call_dot_form e k es (part _ e) (part _ es)
part _ (p.call (p.index e k) es) = call_index_form e k es (part _ e) (part _ k) (part _ es)
part _ (p.call e es) = call_form e es refl (part _ e) (part _ es)
part _ (p.new e es) = new_form e es (part _ e) (part _ es)
part _ (p.unary Delete (p.dot e k) at) = delete_dot_form e k at (part _ e)
part _ (p.unary Delete (p.index e k) at) = delete_index_form e k at (part _ e) (part _ k)
part _ (p.unary Delete e at) = unary_form Delete e at refl (part _ e)
part _ (p.unary Typeof (p.name x) at) = type_of_form x at
part _ (p.unary op e at) = unary_form op e at refl (part _ e)
part _ (p.binary op e k) = binary_form op e k (part _ e) (part _ k)
part _ (p.and e k) = and_form e k (part _ e) (part _ k)
part _ (p.or e k) = or_form e k (part _ e) (part _ k)
part _ (p.choice e k o) = choice_form e k o (part _ e) (part _ k) (part _ o)
part _ (p.comma e k) = comma_form e k (part _ e) (part _ k)
part _ (p.step up pre (p.name x)) = step_name_form up pre x
part _ (p.step up true (p.dot e k)) = step_dot_form up e k (part _ e)
part _ (p.step up false (p.dot e k)) = step_dot_behind_form up e k (part _ e)
part _ (p.step up true (p.index e k)) = step_index_form up e k (part _ e) (part _ k)
part _ (p.step up false (p.index e k)) = step_index_behind_form up e k (part _ e) (part _ k)
part _ (p.step up pre e) = step_form up pre e refl (part _ e)
part _ (p.assign None (p.name x) v) = assign_name_form x v (part _ v)
part _ (p.assign None (p.dot e k) v) = assign_dot_form e k v (part _ e) (part _ v)
part _ (p.assign None (p.index e k) v) = assign_index_form e k v (part _ e) (part _ k) (part _ v)
part _ (p.assign (Some op) (p.name x) v) = operate_name_form op x v (part _ v)
part _ (p.assign (Some op) (p.dot e k) v) = operate_dot_form op e k v (part _ e) (part _ v)
part _ (p.assign (Some op) (p.index e k) v) = operate_index_form op e k v (part _ e) (part _ k) (part _ v)
part _ (p.assign op e v) = assign_form op e v refl (part _ e) (part _ v)
part _ p.no_exprs = no_exprs_form
part _ (p.more_exprs e es) = more_exprs_form e es (part _ e) (part _ es)
part _ p.no_fields = no_fields_form
part _ (p.more_fields k e rest) = more_fields_form k e rest (part _ e) (part _ rest)
part _ p.no_expr = no_expr_form
part _ (p.some_expr e) = some_expr_form e (part _ e)
part _ (p.block ss) = block_form ss (part _ ss)
part _ (p.var is) = var_form is (part _ is)
part _ p.empty = empty_form
part _ (p.expression e) = expression_form e (part _ e)
part _ (p.branch e x m) = branch_form e x m (part _ e) (part _ x) (part _ m)
part _ (p.while_loop e x) = while_form e x (part _ e) (part _ x)
part _ (p.do_loop x e) = do_form x e (part _ x) (part _ e)
part _ (p.for_loop i m n x) = for_form i m n x (part _ i) (part _ m) (part _ n) (part _ x)
part _ (p.for_in i e x) = for_in_form i e x (part _ i) (part _ e) (part _ x)
part _ (p.continue l at) = continue_form l at
part _ (p.break l at) = break_form l at
part _ (p.return m at) = return_form m at (part _ m)
part _ (p.with_object e x at) = with_form e x at (part _ e) (part _ x)
part _ (p.switch e cs) = switch_form e cs (part _ e) (part _ cs)
part _ (p.label l x) = label_form l x (part _ x)
part _ (p.throw e) = throw_form e (part _ e)
part _ (p.try ss c m) = try_form ss c m (part _ ss) (part _ c) (part _ m)
part _ (p.declare g) = declare_form g
part _ p.no_items = no_items_form
part _ (p.more_items x m is) = more_items_form x m is (part _ m) (part _ is)
part _ p.no_stmt = no_stmt_form
part _ (p.some_stmt x) = some_stmt_form x (part _ x)
part _ p.no_block = no_block_form
part _ (p.some_block ss) = some_block_form ss (part _ ss)
part _ p.no_first = no_first_form
part _ (p.first_var is) = first_var_form is (part _ is)
part _ (p.first_expr e) = first_expr_form e (part _ e)
part _ p.no_cases = no_cases_form
part _ (p.more_cases m ss cs) = more_cases_form m ss cs (part _ m) (part _ ss) (part _ cs)
part _ p.no_handler = no_handler_form
part _ (p.some_handler x ss) = some_handler_form x ss (part _ ss)
part _ (p.loop_var x) = loop_var_form x
part _ (p.loop_expr (p.name x)) = loop_name_form x
part _ (p.loop_expr (p.dot e k)) = loop_dot_form e k (part _ e)
part _ (p.loop_expr (p.index e k)) = loop_index_form e k (part _ e) (part _ k)
part _ (p.loop_expr e) = loop_form e refl (part _ e)
part _ p.no_stmts = no_stmts_form
part _ (p.more_stmts (p.declare (p.fun (Some n) ps body at)) ss) = declared_form n ps body at ss (part _ body) (part _ ss)
part _ (p.more_stmts (p.declare (p.fun None ps body at)) ss) = nameless_form ps body at ss (part _ ss)
part _ (p.more_stmts x ss) = more_stmts_form x ss refl (part _ x) (part _ ss)
part _ (p.fun name ps body at) = part _ body
part _ (p.script ss) = tt
