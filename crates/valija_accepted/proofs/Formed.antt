-- What the grammar says of a tree that tokens spell: a function is declared directly in a body, under a name (ES3 13, 14).
use Rattle.std.proofs.Common.{◌≡◌, ℕ, List, Some, None, refl}
use Rattle.es3_tree.specs.Tree as t
use Rattle.es3_tree.specs.Placed as p
use Rattle.es3_tree.specs.Placed.{Placed, Word}
use Rattle.es3_grammar.specs.Spots.{Spot}
use Rattle.es3_grammar.specs.Levels.{E, Join, an_op, an_and, an_or, an_assign, a_comma, joined}
use Rattle.es3_grammar.specs.Grammar.{Bars, free, Spells, s_this, s_null, s_true, s_false, s_num, s_text, s_name, s_paren, s_array, s_array_comma, s_object, s_function, s_dot, s_index, s_call, s_new_call, s_new, s_postfix, s_prefix_step, s_prefix, s_join, s_choice, s_no_exprs, s_some_exprs, s_one_expr, s_more_exprs, s_no_fields, s_some_fields, s_one_field, s_more_fields, s_func, s_block, s_var, s_empty, s_expression, s_one_item, s_more_items, s_no_value, s_value, s_if, s_else, s_do, s_while, s_for, s_for_in, s_no_first, s_first_var, s_first_expr, s_no_expr, s_some_expr, s_loop_var, s_loop_expr, s_continue, s_break, s_return, s_with, s_switch, s_no_cases, s_case, s_default, s_label, s_throw, s_catch, s_finally, s_catch_finally, s_no_stmts, s_more_stmts, s_declaration, s_script}

abbrev mutual
  pub Formed : (s : t.Sort) → Placed s → Type 0
  Formed _ (p.array es) = Formed _ es
  Formed _ (p.object fs) = Formed _ fs
  Formed _ (p.function f) = Formed _ f
  Formed _ (p.dot e k) = Formed _ e
  Formed _ (p.index e f) = Formed _ e × Formed _ f
  Formed _ (p.call e es) = Formed _ e × Formed _ es
  Formed _ (p.new e es) = Formed _ e × Formed _ es
  Formed _ (p.unary op e at) = Formed _ e
  Formed _ (p.step up before e) = Formed _ e
  Formed _ (p.binary op e f) = Formed _ e × Formed _ f
  Formed _ (p.and e f) = Formed _ e × Formed _ f
  Formed _ (p.or e f) = Formed _ e × Formed _ f
  Formed _ (p.choice e f g) = (Formed _ e × Formed _ f) × Formed _ g
  Formed _ (p.assign op e f) = Formed _ e × Formed _ f
  Formed _ (p.comma e f) = Formed _ e × Formed _ f
  Formed _ (p.more_exprs e es) = Formed _ e × Formed _ es
  Formed _ (p.more_fields k e fs) = Formed _ e × Formed _ fs
  Formed _ (p.some_expr e) = Formed _ e
  Formed _ (p.block ss) = Formed _ ss
  Formed _ (p.var is) = Formed _ is
  Formed _ (p.expression e) = Formed _ e
  Formed _ (p.branch e x m) = (Formed _ e × Formed _ x) × Formed _ m
  Formed _ (p.while_loop e x) = Formed _ e × Formed _ x
  Formed _ (p.do_loop x e) = Formed _ x × Formed _ e
  Formed _ (p.for_loop i e f x) = ((Formed _ i × Formed _ e) × Formed _ f) × Formed _ x
  Formed _ (p.for_in i e x) = (Formed _ i × Formed _ e) × Formed _ x
  Formed _ (p.return m at) = Formed _ m
  Formed _ (p.with_object e x at) = Formed _ e × Formed _ x
  Formed _ (p.switch e cs) = Formed _ e × Formed _ cs
  Formed _ (p.label l x) = Formed _ x
  Formed _ (p.throw e) = Formed _ e
  Formed _ (p.try ss h m) = (Formed _ ss × Formed _ h) × Formed _ m
  Formed _ (p.declare f) = ⊥
  Formed _ (p.more_stmts x ss) = Formed _ x × Formed _ ss
  Formed _ (p.more_items x m is) = Formed _ m × Formed _ is
  Formed _ (p.some_stmt x) = Formed _ x
  Formed _ (p.some_block ss) = Formed _ ss
  Formed _ (p.first_var is) = Formed _ is
  Formed _ (p.first_expr e) = Formed _ e
  Formed _ (p.loop_expr e) = Formed _ e
  Formed _ (p.more_cases m ss cs) = (Formed _ m × Formed _ ss) × Formed _ cs
  Formed _ (p.some_handler x ss) = Formed _ ss
  Formed _ (p.fun name ps body at) = FormedBody body
  Formed _ (p.script ss) = FormedBody ss
  Formed _ x = Unit {0}

  -- of a body's own statements each declares a function with a name, or declares none
  pub FormedBody : Placed t.stmts → Type 0
  FormedBody p.no_stmts = Unit {0}
  FormedBody (p.more_stmts (p.declare (p.fun (Some n) ps body at)) ss) = FormedBody body × FormedBody ss
  FormedBody (p.more_stmts (p.declare (p.fun None ps body at)) ss) = ⊥
  FormedBody (p.more_stmts x ss) = Formed _ x × FormedBody ss

another : (x : Placed t.stmt) (ss : Placed t.stmts) → Formed t.stmt x → FormedBody ss → FormedBody (p.more_stmts x ss)
another (p.declare f) ss h k = absurd h
another x ss h k = (h, k)

-- what may stand in a block may be a body
pub as_body : (ss : Placed t.stmts) → Formed t.stmts ss → FormedBody ss
as_body p.no_stmts h = tt
as_body (p.more_stmts x ss) h = another x ss h.0 (as_body ss h.1)

-- ---- what derivations say

join_formed : (j : Join) (x y : E) → Formed t.expr x → Formed t.expr y → Formed t.expr (joined j x y)
join_formed (an_op op) x y h k = (h, k)
join_formed an_and x y h k = (h, k)
join_formed an_or x y h k = (h, k)
join_formed (an_assign op) x y h k = (h, k)
join_formed a_comma x y h k = (h, k)

-- of a list of statements in a block, which is of the level 0, and of a body
record Lines (l : ℕ) (xs : Placed t.stmts) : Type 0 where
  in_block : l ≡ 0 → Formed t.stmts xs
  in_body : FormedBody xs

abbrev Said : (s : t.Sort) → ℕ → Placed s → Type 0
Said t.stmts l x = Lines l x
Said s l x = Formed s x

line : (l : ℕ) (x : Placed t.stmt) (ss : Placed t.stmts) → Formed t.stmt x → Lines l ss → Lines l (p.more_stmts x ss)
line l x ss h k = record { in_block = λ e. (h, k.in_block e); in_body = another x ss h k.in_body }

declaration : (n : Word) (ps : List Word) (body ss : Placed t.stmts) (a : ℕ) → FormedBody body → Lines 1 ss → Lines 1 (p.more_stmts (p.declare (p.fun (Some n) ps body a)) ss)
declaration n ps body ss a h k = record { in_block = λ e. absurd cc; in_body = (h, k.in_body) }

in_a_block : {ss : Placed t.stmts} → Lines 0 ss → Formed t.stmts ss
in_a_block h = h.in_block refl

formed : {s : t.Sort} {b : Bars} {l : ℕ} {x : Placed s} {u : List Spot} → Spells s b l x u → Said s l x
formed (s_this b l a m) = tt
formed (s_null b l a m) = tt
formed (s_true b l a m) = tt
formed (s_false b l a m) = tt
formed (s_num b l a n m) = tt
formed (s_text b l a us m) = tt
formed (s_name b l n m) = tt
formed (s_paren b l a d x u m h) = formed h
formed (s_array b l a d xs u m h) = formed h
formed (s_array_comma b l a d e xs u m h) = formed h
formed (s_object b l a d fs u m h) = formed h
formed (s_function b l a n ps ss u m h) = formed h
formed (s_dot b l a x n u m h) = formed h
formed (s_index b l a d x y u v m h k) = (formed h, formed k)
formed (s_call b l a d x xs u v m e h k) = (formed h, formed k)
formed (s_new_call b l a d e x xs u v m h k) = (formed h, formed k)
formed (s_new b l a x u m h) = (formed h, tt)
formed (s_postfix b l a up x u m e h) = formed h
formed (s_prefix_step b l a up x u m e h) = formed h
formed (s_prefix b l a op x u m h) = formed h
formed (s_join b l a j c x y u v m e takes h k) = join_formed j x y (formed h) (formed k)
formed (s_choice b l a d x y z u v w m h k i) = ((formed h, formed k), formed i)
formed s_no_exprs = tt
formed (s_some_exprs xs u h) = formed h
formed (s_one_expr x u h) = (formed h, tt)
formed (s_more_exprs a x xs u v h k) = (formed h, formed k)
formed s_no_fields = tt
formed (s_some_fields fs u h) = formed h
formed (s_one_field a c n x u e h) = (formed h, tt)
formed (s_more_fields a d c n x fs u v e h k) = (formed h, formed k)
formed (s_func a d e f g n ps ss u v names h) = let k : Lines 1 ss = formed h in k.in_body
formed (s_no_value b) = tt
formed (s_value b a x u h) = formed h
formed s_no_expr = tt
formed (s_some_expr x u h) = formed h
formed (s_one_item b n m u h) = (formed h, tt)
formed (s_more_items b a n m is u v h k) = (formed h, formed k)
formed s_no_first = tt
formed (s_first_var a is u h) = formed h
formed (s_first_expr x u h) = formed h
formed (s_loop_var a n) = tt
formed (s_loop_expr x u e h) = formed h
formed (s_block a d ss u h) = in_a_block (formed h)
formed (s_var a c is u h e) = formed h
formed (s_empty a) = tt
formed (s_expression c x u h g e) = formed h
formed (s_if a d e x s u v h k) = ((formed h, formed k), tt)
formed (s_else a d e f x s r u v w h k o l) = ((formed h, formed k), formed l)
formed (s_do a d e f c s x u v h k g) = (formed h, formed k)
formed (s_while a d e x s u v h k) = (formed h, formed k)
formed (s_for a d e f g r m n s u v w q h k l o) = (((formed h, formed k), formed l), formed o)
formed (s_for_in a d e f r x s u v w h k l) = ((formed h, formed k), formed l)
formed (s_continue a c n e) = tt
formed (s_break a c n e) = tt
formed (s_return a c m u h e) = formed h
formed (s_with a d e x s u v h k) = (formed h, formed k)
formed (s_switch a d e f g x cs u v h k o) = (formed h, formed k)
formed (s_label a n s u h) = formed h
formed (s_throw a c x u h e) = formed h
formed (s_catch a d e f g h i j ss n hs u v k l) = ((in_a_block (formed k), in_a_block (formed l)), tt)
formed (s_finally a d e f g h ss ls u v k l) = ((in_a_block (formed k), tt), in_a_block (formed l))
formed (s_catch_finally a d e f g h i j k l m ss n hs ls u v w o q r) = ((in_a_block (formed o), in_a_block (formed q)), in_a_block (formed r))
formed s_no_cases = tt
formed (s_case a d x ss cs u v w h k l) = ((formed h, in_a_block (formed k)), formed l)
formed (s_default a d ss cs v w k l) = ((tt, in_a_block (formed k)), formed l)
formed (s_no_stmts l) = record { in_block = λ e. tt; in_body = tt }
formed (s_more_stmts l s ss u v h k) = line l s ss (formed h) (formed k)
formed (s_declaration a n ps body ss u v h k) = declaration n ps body ss a (formed h) (formed k)
formed (s_script ss u h) = let k : Lines 1 ss = formed h in k.in_body

pub formed_script : {body : Placed t.stmts} {u : List Spot} → Spells t.program free 0 (p.script body) u → FormedBody body
formed_script h = formed h
