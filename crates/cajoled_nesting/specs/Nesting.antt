-- How deep the program nests that stands for a module of Cajita, form by form, and how deep the module does.
use Rattle.std.specs.Prelude.{ℕ, zero, suc, ◌+◌, max, Bool, true, false, List, [], ◌∷◌, Some, None}
use Rattle.es3_tree.specs.declared.BinOp.TheVariants as bin
use Rattle.cajita_tree.specs.Tree as c
use Rattle.cajita_rewrite.specs.Rewrite.{temps, declared, others}

-- `___.f(..)`, where the arguments nest so deep
abbrev pub guard : ℕ → ℕ
guard n = 1 + max 2 n

-- `___.func(N);` for each declared function; `var N=___.readImport(IMPORTS___,"N");` for each import
abbrev pub marked : c.Tree c.funcs → ℕ
marked c.no_funcs = 0
marked (c.more_funcs (c.fun None params args body) fs) = marked fs
marked (c.more_funcs (c.fun (Some x) params args body) fs) = max 4 (marked fs)

abbrev pub imported : List (List ℕ) → ℕ
imported [] = 0
imported (x ∷ xs) = max 4 (imported xs)

-- the `var` at the head of a body: `a___=___.args(arguments)`, its temporaries, and the names that no `var` of it declares
abbrev pub name_head : List (List ℕ) → ℕ
name_head [] = 0
name_head (x ∷ xs) = 1

abbrev pub temp_head : ℕ → ℕ → ℕ
temp_head zero n = n
temp_head (suc k) n = 1

abbrev pub head : Bool → c.Tree c.body → ℕ
head true body = 4
head false (c.a_body fs vars xs) = temp_head (temps c.stmts xs) (name_head (others vars (declared c.stmts xs)))

-- what stands for a part nests so deep; the truth value says whether the part stands directly in the module
unfoldable pub deep : Bool → (s : c.Sort) → c.Tree s → ℕ
deep m _ c.null = 1
deep m _ (c.bool b) = 1
deep m _ (c.num n) = 1
deep m _ (c.text u) = 1
deep m _ (c.name x) = 1
deep m _ c.args = 1
deep m _ (c.array es) = guard (1 + deep false _ es)
deep m _ (c.record_of fs) = guard (1 + deep false _ fs)
deep m _ (c.function f) = guard (1 + deep false _ f)
deep m _ (c.read e k) = guard (max (deep false _ e) (deep false _ k))
deep m _ (c.call e es) = 1 + max (guard (deep false _ e)) (deep false _ es)
deep m _ (c.method e k es) = guard (max (deep false _ e) (max (deep false _ k) (1 + deep false _ es)))
deep m _ (c.new e es) = guard (max (deep false _ e) (1 + deep false _ es))
deep m _ (c.delete e k) = guard (max (deep false _ e) (deep false _ k))
deep m _ (c.step up before (c.variable x)) = 2
deep m _ (c.step up true (c.member e (c.fixed k))) = max 7 (2 + deep false _ e)
deep m _ (c.step up true (c.member e (c.computed f))) = max 7 (max (3 + deep false _ e) (4 + deep false _ f))
deep m _ (c.step up false (c.member e (c.fixed k))) = max 8 (4 + deep false _ e)
deep m _ (c.step up false (c.member e (c.computed f))) = max 8 (max (5 + deep false _ e) (6 + deep false _ f))
deep m _ (c.assign op (c.variable x) e) = 1 + max 1 (deep false _ e)
deep m _ (c.assign None (c.member e k) v) = guard (max (deep false _ e) (max (deep false _ k) (deep false _ v)))
deep m _ (c.assign (Some op) (c.member e (c.fixed k)) v) = max 6 (max (2 + deep false _ e) (3 + deep false _ v))
deep m _ (c.assign (Some op) (c.member e (c.computed f)) v) = max 6 (max (3 + deep false _ e) (max (4 + deep false _ f) (3 + deep false _ v)))
deep m _ (c.unary op e) = 1 + deep false _ e
deep m _ (c.binary bin.InObject a b) = guard (max (deep false _ a) (deep false _ b))
deep m _ (c.binary bin.InstanceOf a b) = guard (max (deep false _ a) (deep false _ b))
deep m _ (c.binary op a b) = 1 + max (deep false _ a) (deep false _ b)
deep m _ (c.and a b) = 1 + max (deep false _ a) (deep false _ b)
deep m _ (c.or a b) = 1 + max (deep false _ a) (deep false _ b)
deep m _ (c.choice a b d) = 1 + max (deep false _ a) (max (deep false _ b) (deep false _ d))
deep m _ (c.comma a b) = 1 + max (deep false _ a) (deep false _ b)
deep m _ c.no_exprs = 0
deep m _ (c.more_exprs e es) = max (deep false _ e) (deep false _ es)
deep m _ c.no_fields = 0
deep m _ (c.more_fields k e rest) = max 1 (max (deep false _ e) (deep false _ rest))
deep m _ (c.fixed k) = 1
deep m _ (c.computed e) = deep false _ e
deep m _ (c.variable x) = 1
deep m _ (c.member e k) = 1
deep m _ c.no_expr = 0
deep m _ (c.some_expr e) = deep false _ e
deep m _ (c.block xs) = 1 + deep false _ xs
deep m _ (c.var is) = 1 + deep false _ is
deep m _ c.empty = 1
deep true _ (c.expression e) = 2 + max 1 (deep false _ e)
deep false _ (c.expression e) = 1 + deep false _ e
deep m _ (c.branch e x y) = 1 + max (deep false _ e) (max (deep false _ x) (deep false _ y))
deep m _ (c.while_loop e x) = 1 + max (deep false _ e) (deep false _ x)
deep m _ (c.do_loop x e) = 1 + max (deep false _ x) (deep false _ e)
deep m _ (c.for_loop i e u x) = 1 + max (deep false _ i) (max (deep false _ e) (max (deep false _ u) (deep false _ x)))
deep m _ (c.for_in (c.variable x) e b) = max 8 (max (4 + deep false _ e) (4 + deep false _ b))
deep m _ (c.for_in (c.member o k) e b) = max 8 (max (4 + deep false _ e) (max (4 + deep false _ b) (6 + max (deep false _ o) (deep false _ k))))
deep m _ (c.continue l) = 1
deep m _ (c.break l) = 1
deep m _ (c.return e) = 1 + deep false _ e
deep m _ (c.switch e cs) = 1 + max (deep false _ e) (deep false _ cs)
deep m _ (c.label l x) = 1 + deep false _ x
deep m _ (c.throw e) = 1 + deep false _ e
deep m _ (c.try xs h f) = 1 + max (deep false _ xs) (max (deep false _ h) (deep false _ f))
deep m _ c.no_stmts = 0
deep m _ (c.more_stmts x xs) = max (deep m _ x) (deep m _ xs)
deep m _ c.no_items = 0
deep m _ (c.more_items x e is) = max (deep false _ e) (deep false _ is)
deep m _ c.no_stmt = 0
deep m _ (c.some_stmt x) = deep false _ x
deep m _ c.no_block = 0
deep m _ (c.some_block xs) = deep false _ xs
deep m _ c.no_first = 0
deep m _ (c.first_var is) = deep false _ is
deep m _ (c.first_expr e) = deep false _ e
deep m _ c.no_cases = 0
deep m _ (c.more_cases e xs cs) = max (deep false _ e) (max (deep false _ xs) (deep false _ cs))
deep m _ c.no_handler = 0
deep m _ (c.some_handler x xs) = deep false _ xs
deep m _ (c.fun name params args body) = 1 + max (head args body) (deep false _ body)
deep m _ c.no_funcs = 0
deep m _ (c.more_funcs f fs) = max (1 + deep false _ f) (deep false _ fs)
deep m _ (c.a_body fs vars xs) = max (deep false _ fs) (max (marked fs) (deep m _ xs))
deep m _ (c.a_module imports body) = 4 + max 2 (max (imported imports) (deep true _ body))

-- the greatest number of expressions (ES3 11), statements (12) and functions (13) on one path into the part itself, as it is written
unfoldable pub depth : (s : c.Sort) → c.Tree s → ℕ
depth _ c.null = 1
depth _ (c.bool b) = 1
depth _ (c.num n) = 1
depth _ (c.text u) = 1
depth _ (c.name x) = 1
depth _ c.args = 1
depth _ (c.array es) = 1 + depth _ es
depth _ (c.record_of fs) = 1 + depth _ fs
depth _ (c.function f) = 1 + depth _ f
depth _ (c.read e k) = 1 + max (depth _ e) (depth _ k)
depth _ (c.call e es) = 1 + max (depth _ e) (depth _ es)
depth _ (c.method e k es) = 1 + max (1 + max (depth _ e) (depth _ k)) (depth _ es)
depth _ (c.new e es) = 1 + max (depth _ e) (depth _ es)
depth _ (c.delete e k) = 2 + max (depth _ e) (depth _ k)
depth _ (c.step up before x) = 1 + depth _ x
depth _ (c.assign op x e) = 1 + max (depth _ x) (depth _ e)
depth _ (c.unary op e) = 1 + depth _ e
depth _ (c.binary op a b) = 1 + max (depth _ a) (depth _ b)
depth _ (c.and a b) = 1 + max (depth _ a) (depth _ b)
depth _ (c.or a b) = 1 + max (depth _ a) (depth _ b)
depth _ (c.choice a b d) = 1 + max (depth _ a) (max (depth _ b) (depth _ d))
depth _ (c.comma a b) = 1 + max (depth _ a) (depth _ b)
depth _ c.no_exprs = 0
depth _ (c.more_exprs e es) = max (depth _ e) (depth _ es)
depth _ c.no_fields = 0
depth _ (c.more_fields k e rest) = max (depth _ e) (depth _ rest)
depth _ (c.fixed k) = 0
depth _ (c.computed e) = depth _ e
depth _ (c.variable x) = 0
depth _ (c.member e k) = 1 + max (depth _ e) (depth _ k)
depth _ c.no_expr = 0
depth _ (c.some_expr e) = depth _ e
depth _ (c.block xs) = 1 + depth _ xs
depth _ (c.var is) = 1 + depth _ is
depth _ c.empty = 1
depth _ (c.expression e) = 1 + depth _ e
depth _ (c.branch e x y) = 1 + max (depth _ e) (max (depth _ x) (depth _ y))
depth _ (c.while_loop e x) = 1 + max (depth _ e) (depth _ x)
depth _ (c.do_loop x e) = 1 + max (depth _ x) (depth _ e)
depth _ (c.for_loop i e u x) = 1 + max (depth _ i) (max (depth _ e) (max (depth _ u) (depth _ x)))
depth _ (c.for_in x e b) = 1 + max (depth _ x) (max (depth _ e) (depth _ b))
depth _ (c.continue l) = 1
depth _ (c.break l) = 1
depth _ (c.return e) = 1 + depth _ e
depth _ (c.switch e cs) = 1 + max (depth _ e) (depth _ cs)
depth _ (c.label l x) = 1 + depth _ x
depth _ (c.throw e) = 1 + depth _ e
depth _ (c.try xs h f) = 1 + max (depth _ xs) (max (depth _ h) (depth _ f))
depth _ c.no_stmts = 0
depth _ (c.more_stmts x xs) = max (depth _ x) (depth _ xs)
depth _ c.no_items = 0
depth _ (c.more_items x e is) = max (depth _ e) (depth _ is)
depth _ c.no_stmt = 0
depth _ (c.some_stmt x) = depth _ x
depth _ c.no_block = 0
depth _ (c.some_block xs) = depth _ xs
depth _ c.no_first = 0
depth _ (c.first_var is) = depth _ is
depth _ (c.first_expr e) = depth _ e
depth _ c.no_cases = 0
depth _ (c.more_cases e xs cs) = max (depth _ e) (max (depth _ xs) (depth _ cs))
depth _ c.no_handler = 0
depth _ (c.some_handler x xs) = depth _ xs
depth _ (c.fun name params args body) = 1 + depth _ body
depth _ c.no_funcs = 0
depth _ (c.more_funcs f fs) = max (1 + depth _ f) (depth _ fs)
depth _ (c.a_body fs vars xs) = max (depth _ fs) (depth _ xs)
depth _ (c.a_module imports body) = depth _ body
