-- Jumps without their targets, and labels inside a statement of the same label (ES3 12.7 to 12.9, 12.12). Labels and jumps are a function's own.
use Rattle.std.specs.Prelude.{ℕ, Bool, true, false, List, [], ◌∷◌, ◌++◌, Option, Some, None, nat_lt, if◌then◌else◌}
use Rattle.es3_tree.specs.Tree as t
use Rattle.es3_tree.specs.Placed as p
use Rattle.es3_tree.specs.Placed.{Placed, Word}
use Rattle.es3_labels.specs.Around.{Around, in_program, in_function, in_loop, in_switch, in_label, has_loop, has_break, has_label, has_loop_label, has_function}

-- the byte of the source where the jump or the inner label begins, and the text of that label, or none for a jump
pub record Misplaced : Type 0 where
  pub at : ℕ
  pub text : List ℕ

-- a jump that begins at the byte, unless its target is there
abbrev pub jump : Bool → ℕ → List Misplaced
jump there at = if there then [] else record { at = at; text = [] } ∷ []

-- a label, if a statement around it has the same
abbrev pub again : Bool → Word → List Misplaced
again there l = if there then record { at = l.at; text = l.text } ∷ [] else []

-- a loop, behind labels or not (12.6, 12.12)
abbrev pub is_loop : Placed t.stmt → Bool
is_loop (p.while_loop e s) = true
is_loop (p.do_loop s e) = true
is_loop (p.for_loop a x y s) = true
is_loop (p.for_in a e s) = true
is_loop (p.label l s) = is_loop s
is_loop s = false

-- where a target that may be absent is: a `continue`, a `break`
abbrev pub continues : Around → Option Word → Bool
continues a None = has_loop a
continues a (Some l) = has_loop_label a l.text

abbrev pub breaks : Around → Option Word → Bool
breaks a None = has_break a
breaks a (Some l) = has_label a l.text

-- those of a part, in source order
unfoldable pub misplaced : Around → (s : t.Sort) → Placed s → List Misplaced
misplaced a _ (p.this at) = []
misplaced a _ p.null = []
misplaced a _ (p.bool b) = []
misplaced a _ (p.num n) = []
misplaced a _ (p.text u) = []
misplaced a _ (p.name x) = []
misplaced a _ (p.array xs) = misplaced a _ xs
misplaced a _ (p.object fs) = misplaced a _ fs
misplaced a _ (p.function f) = misplaced a _ f
misplaced a _ (p.dot x k) = misplaced a _ x
misplaced a _ (p.index x y) = misplaced a _ x ++ misplaced a _ y
misplaced a _ (p.call x xs) = misplaced a _ x ++ misplaced a _ xs
misplaced a _ (p.new x xs) = misplaced a _ x ++ misplaced a _ xs
misplaced a _ (p.unary op x at) = misplaced a _ x
misplaced a _ (p.step up before x) = misplaced a _ x
misplaced a _ (p.binary op x y) = misplaced a _ x ++ misplaced a _ y
misplaced a _ (p.and x y) = misplaced a _ x ++ misplaced a _ y
misplaced a _ (p.or x y) = misplaced a _ x ++ misplaced a _ y
misplaced a _ (p.choice x y z) = (misplaced a _ x ++ misplaced a _ y) ++ misplaced a _ z
misplaced a _ (p.assign op x y) = misplaced a _ x ++ misplaced a _ y
misplaced a _ (p.comma x y) = misplaced a _ x ++ misplaced a _ y
misplaced a _ p.no_exprs = []
misplaced a _ (p.more_exprs x xs) = misplaced a _ x ++ misplaced a _ xs
misplaced a _ p.no_fields = []
misplaced a _ (p.more_fields k x fs) = misplaced a _ x ++ misplaced a _ fs
misplaced a _ p.no_expr = []
misplaced a _ (p.some_expr x) = misplaced a _ x
misplaced a _ (p.block ss) = misplaced a _ ss
misplaced a _ (p.var is) = misplaced a _ is
misplaced a _ p.empty = []
misplaced a _ (p.expression x) = misplaced a _ x
misplaced a _ (p.branch x s m) = (misplaced a _ x ++ misplaced a _ s) ++ misplaced a _ m
misplaced a _ (p.while_loop x s) = misplaced a _ x ++ misplaced (in_loop a) _ s
misplaced a _ (p.do_loop s x) = misplaced (in_loop a) _ s ++ misplaced a _ x
misplaced a _ (p.for_loop i x y s) = ((misplaced a _ i ++ misplaced a _ x) ++ misplaced a _ y) ++ misplaced (in_loop a) _ s
misplaced a _ (p.for_in i x s) = (misplaced a _ i ++ misplaced a _ x) ++ misplaced (in_loop a) _ s
misplaced a _ (p.continue l at) = jump (continues a l) at
misplaced a _ (p.break l at) = jump (breaks a l) at
misplaced a _ (p.return m at) = jump (has_function a) at ++ misplaced a _ m
misplaced a _ (p.with_object x s at) = misplaced a _ x ++ misplaced a _ s
misplaced a _ (p.switch x cs) = misplaced a _ x ++ misplaced (in_switch a) _ cs
misplaced a _ (p.label l s) = again (has_label a l.text) l ++ misplaced (in_label l.text (is_loop s) a) _ s
misplaced a _ (p.throw x) = misplaced a _ x
misplaced a _ (p.try ss h m) = (misplaced a _ ss ++ misplaced a _ h) ++ misplaced a _ m
misplaced a _ (p.declare f) = misplaced a _ f
misplaced a _ p.no_stmts = []
misplaced a _ (p.more_stmts s ss) = misplaced a _ s ++ misplaced a _ ss
misplaced a _ p.no_items = []
misplaced a _ (p.more_items x m is) = misplaced a _ m ++ misplaced a _ is
misplaced a _ p.no_stmt = []
misplaced a _ (p.some_stmt s) = misplaced a _ s
misplaced a _ p.no_block = []
misplaced a _ (p.some_block ss) = misplaced a _ ss
misplaced a _ p.no_first = []
misplaced a _ (p.first_var is) = misplaced a _ is
misplaced a _ (p.first_expr x) = misplaced a _ x
misplaced a _ (p.loop_var x) = []
misplaced a _ (p.loop_expr x) = misplaced a _ x
misplaced a _ p.no_cases = []
misplaced a _ (p.more_cases m ss cs) = (misplaced a _ m ++ misplaced a _ ss) ++ misplaced a _ cs
misplaced a _ p.no_handler = []
misplaced a _ (p.some_handler x ss) = misplaced a _ ss
misplaced a _ (p.fun name params body at) = misplaced in_function _ body
misplaced a _ (p.script ss) = misplaced in_program _ ss

-- of two the one that stands earlier, the front one where both stand at the same byte
abbrev pub earlier : Option Misplaced → Option Misplaced → Option Misplaced
earlier None n = n
earlier (Some m) None = Some m
earlier (Some m) (Some n) = if nat_lt n.at m.at then Some n else Some m

-- the one that stands first
abbrev pub first : List Misplaced → Option Misplaced
first [] = None
first (m ∷ ms) = earlier (Some m) (first ms)

-- that of a program
abbrev pub first_of : Placed t.program → Option Misplaced
first_of p = first (misplaced in_program t.program p)
