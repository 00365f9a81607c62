-- Each jump has its target, and no label stands within a statement of the same label (ES3 12.7 to 12.9, 12.12): in a program apart from its places, and in a module
-- of Cajita. Labels and jumps are a function's own.
use Rattle.std.specs.Prelude.{ℕ, ◌&&◌, not, Bool, true, false, List, Option, Some, None}
use Rattle.es3_tree.specs.Tree as t
use Rattle.es3_labels.specs.Around.{Around, in_program, in_function, in_loop, in_switch, in_label, has_loop, has_break, has_label, has_loop_label, has_function}
use Rattle.cajita_tree.specs.Tree as c

-- where a target that may be absent is: a `continue` goes on with a loop, a `break` leaves a loop, a `switch` or the statement of its label
abbrev pub continues : Around → Option (List ℕ) → Bool
continues a None = has_loop a
continues a (Some l) = has_loop_label a l

abbrev pub breaks : Around → Option (List ℕ) → Bool
breaks a None = has_break a
breaks a (Some l) = has_label a l

-- a loop, behind labels or not (12.6, 12.12)
abbrev pub is_loop : t.Tree t.stmt → Bool
is_loop (t.while_loop e x) = true
is_loop (t.do_loop x e) = true
is_loop (t.for_loop i e u x) = true
is_loop (t.for_in i e x) = true
is_loop (t.label l x) = is_loop x
is_loop x = false

-- each jump of a part has its target, and each label is new there; what has no parts has no jump
unfoldable pub targeted : Around → (s : t.Sort) → t.Tree s → Bool
targeted a _ (t.array es) = targeted a _ es
targeted a _ (t.object fs) = targeted a _ fs
targeted a _ (t.function f) = targeted a _ f
targeted a _ (t.dot e k) = targeted a _ e
targeted a _ (t.index e f) = targeted a _ e && targeted a _ f
targeted a _ (t.call e es) = targeted a _ e && targeted a _ es
targeted a _ (t.new e es) = targeted a _ e && targeted a _ es
targeted a _ (t.unary op e) = targeted a _ e
targeted a _ (t.step up before e) = targeted a _ e
targeted a _ (t.binary op e f) = targeted a _ e && targeted a _ f
targeted a _ (t.and e f) = targeted a _ e && targeted a _ f
targeted a _ (t.or e f) = targeted a _ e && targeted a _ f
targeted a _ (t.choice e f g) = (targeted a _ e && targeted a _ f) && targeted a _ g
targeted a _ (t.assign op e f) = targeted a _ e && targeted a _ f
targeted a _ (t.comma e f) = targeted a _ e && targeted a _ f
targeted a _ (t.more_exprs e es) = targeted a _ e && targeted a _ es
targeted a _ (t.more_fields k e fs) = targeted a _ e && targeted a _ fs
targeted a _ (t.some_expr e) = targeted a _ e
targeted a _ (t.block xs) = targeted a _ xs
targeted a _ (t.var is) = targeted a _ is
targeted a _ (t.expression e) = targeted a _ e
targeted a _ (t.branch e x y) = (targeted a _ e && targeted a _ x) && targeted a _ y
targeted a _ (t.while_loop e x) = targeted a _ e && targeted (in_loop a) _ x
targeted a _ (t.do_loop x e) = targeted (in_loop a) _ x && targeted a _ e
targeted a _ (t.for_loop i e u x) = ((targeted a _ i && targeted a _ e) && targeted a _ u) && targeted (in_loop a) _ x
targeted a _ (t.for_in i e x) = (targeted a _ i && targeted a _ e) && targeted (in_loop a) _ x
targeted a _ (t.continue l) = continues a l
targeted a _ (t.break l) = breaks a l
targeted a _ (t.return e) = has_function a && targeted a _ e
targeted a _ (t.with_object e x) = targeted a _ e && targeted a _ x
targeted a _ (t.switch e cs) = targeted a _ e && targeted (in_switch a) _ cs
targeted a _ (t.label l x) = not (has_label a l) && targeted (in_label l (is_loop x) a) _ x
targeted a _ (t.throw e) = targeted a _ e
targeted a _ (t.try xs h f) = (targeted a _ xs && targeted a _ h) && targeted a _ f
targeted a _ (t.declare f) = targeted a _ f
targeted a _ (t.more_stmts x xs) = targeted a _ x && targeted a _ xs
targeted a _ (t.more_items x e is) = targeted a _ e && targeted a _ is
targeted a _ (t.some_stmt x) = targeted a _ x
targeted a _ (t.some_block xs) = targeted a _ xs
targeted a _ (t.first_var is) = targeted a _ is
targeted a _ (t.first_expr e) = targeted a _ e
targeted a _ (t.loop_expr e) = targeted a _ e
targeted a _ (t.more_cases e xs cs) = (targeted a _ e && targeted a _ xs) && targeted a _ cs
targeted a _ (t.some_handler x xs) = targeted a _ xs
targeted a _ (t.fun name params body) = targeted in_function _ body
targeted a _ (t.script xs) = targeted in_program _ xs
targeted a _ _ = true

-- the same of a resolved part
abbrev pub is_resolved_loop : c.Tree c.stmt → Bool
is_resolved_loop (c.while_loop e x) = true
is_resolved_loop (c.do_loop x e) = true
is_resolved_loop (c.for_loop i e u x) = true
is_resolved_loop (c.for_in i e x) = true
is_resolved_loop (c.label l x) = is_resolved_loop x
is_resolved_loop x = false

unfoldable pub resolved_targeted : Around → (s : c.Sort) → c.Tree s → Bool
resolved_targeted a _ (c.array es) = resolved_targeted a _ es
resolved_targeted a _ (c.record_of fs) = resolved_targeted a _ fs
resolved_targeted a _ (c.function f) = resolved_targeted a _ f
resolved_targeted a _ (c.read e k) = resolved_targeted a _ e && resolved_targeted a _ k
resolved_targeted a _ (c.call e es) = resolved_targeted a _ e && resolved_targeted a _ es
resolved_targeted a _ (c.method e k es) = (resolved_targeted a _ e && resolved_targeted a _ k) && resolved_targeted a _ es
resolved_targeted a _ (c.new e es) = resolved_targeted a _ e && resolved_targeted a _ es
resolved_targeted a _ (c.delete e k) = resolved_targeted a _ e && resolved_targeted a _ k
resolved_targeted a _ (c.step up before x) = resolved_targeted a _ x
resolved_targeted a _ (c.assign op x e) = resolved_targeted a _ x && resolved_targeted a _ e
resolved_targeted a _ (c.unary op e) = resolved_targeted a _ e
resolved_targeted a _ (c.binary op e f) = resolved_targeted a _ e && resolved_targeted a _ f
resolved_targeted a _ (c.and e f) = resolved_targeted a _ e && resolved_targeted a _ f
resolved_targeted a _ (c.or e f) = resolved_targeted a _ e && resolved_targeted a _ f
resolved_targeted a _ (c.choice e f g) = (resolved_targeted a _ e && resolved_targeted a _ f) && resolved_targeted a _ g
resolved_targeted a _ (c.comma e f) = resolved_targeted a _ e && resolved_targeted a _ f
resolved_targeted a _ (c.more_exprs e es) = resolved_targeted a _ e && resolved_targeted a _ es
resolved_targeted a _ (c.more_fields k e fs) = resolved_targeted a _ e && resolved_targeted a _ fs
resolved_targeted a _ (c.computed e) = resolved_targeted a _ e
resolved_targeted a _ (c.member e k) = resolved_targeted a _ e && resolved_targeted a _ k
resolved_targeted a _ (c.some_expr e) = resolved_targeted a _ e
resolved_targeted a _ (c.block xs) = resolved_targeted a _ xs
resolved_targeted a _ (c.var is) = resolved_targeted a _ is
resolved_targeted a _ (c.expression e) = resolved_targeted a _ e
resolved_targeted a _ (c.branch e x y) = (resolved_targeted a _ e && resolved_targeted a _ x) && resolved_targeted a _ y
resolved_targeted a _ (c.while_loop e x) = resolved_targeted a _ e && resolved_targeted (in_loop a) _ x
resolved_targeted a _ (c.do_loop x e) = resolved_targeted (in_loop a) _ x && resolved_targeted a _ e
resolved_targeted a _ (c.for_loop i e u x) = ((resolved_targeted a _ i && resolved_targeted a _ e) && resolved_targeted a _ u) && resolved_targeted (in_loop a) _ x
resolved_targeted a _ (c.for_in i e x) = (resolved_targeted a _ i && resolved_targeted a _ e) && resolved_targeted (in_loop a) _ x
resolved_targeted a _ (c.continue l) = continues a l
resolved_targeted a _ (c.break l) = breaks a l
resolved_targeted a _ (c.return e) = has_function a && resolved_targeted a _ e
resolved_targeted a _ (c.switch e cs) = resolved_targeted a _ e && resolved_targeted (in_switch a) _ cs
resolved_targeted a _ (c.label l x) = not (has_label a l) && resolved_targeted (in_label l (is_resolved_loop x) a) _ x
resolved_targeted a _ (c.throw e) = resolved_targeted a _ e
resolved_targeted a _ (c.try xs h f) = (resolved_targeted a _ xs && resolved_targeted a _ h) && resolved_targeted a _ f
resolved_targeted a _ (c.more_stmts x xs) = resolved_targeted a _ x && resolved_targeted a _ xs
resolved_targeted a _ (c.more_items x e is) = resolved_targeted a _ e && resolved_targeted a _ is
resolved_targeted a _ (c.some_stmt x) = resolved_targeted a _ x
resolved_targeted a _ (c.some_block xs) = resolved_targeted a _ xs
resolved_targeted a _ (c.first_var is) = resolved_targeted a _ is
resolved_targeted a _ (c.first_expr e) = resolved_targeted a _ e
resolved_targeted a _ (c.more_cases e xs cs) = (resolved_targeted a _ e && resolved_targeted a _ xs) && resolved_targeted a _ cs
resolved_targeted a _ (c.some_handler x xs) = resolved_targeted a _ xs
resolved_targeted a _ (c.fun name params args body) = resolved_targeted in_function _ body
resolved_targeted a _ (c.more_funcs f fs) = resolved_targeted a _ f && resolved_targeted a _ fs
resolved_targeted a _ (c.a_body fs vars xs) = resolved_targeted a _ fs && resolved_targeted a _ xs
resolved_targeted a _ (c.a_module imports body) = resolved_targeted in_program _ body
resolved_targeted a _ _ = true
