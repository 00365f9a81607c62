-- The rewriting of Cajita modules to guarded ES3 programs: each form of the source as the form that stands for it.
use Rattle.std.specs.Prelude.{ℕ, ◌+◌, Bool, true, false, List, [], ◌∷◌, ◌++◌, Some, None, codes}
use Rattle.es3_tree.specs.declared.BinOp.TheVariants as bin
use Rattle.es3_tree.specs.declared.UnOp.TheVariants as un
use Rattle.es3_tree.specs.Tree as t
use Rattle.es3_tree.specs.Tree.{Tree}
use Rattle.cajita_tree.specs.Tree as c
pub use Rattle.rewrite_parts.specs.Parts.{runtime_name, imports_name, result_name, arguments_copy, runtime_call, single, pair, triple, key_call, temp_name, temp, set_temp, with_temp, with_temps, by_one, joined, items_joined, others, name_items, temp_items, args_items, var_stmts, key_of, keys_first, keys_loop}

-- what a rewritten part is
abbrev pub of_sort : c.Sort → t.Sort
of_sort c.expr = t.expr
of_sort c.exprs = t.exprs
of_sort c.fields = t.exprs
of_sort c.key = t.expr
of_sort c.target = t.expr
of_sort c.maybe_expr = t.maybe_expr
of_sort c.stmt = t.stmt
of_sort c.stmts = t.stmts
of_sort c.items = t.items
of_sort c.maybe_stmt = t.maybe_stmt
of_sort c.maybe_block = t.maybe_block
of_sort c.first = t.first
of_sort c.cases = t.cases
of_sort c.handler = t.handler
of_sort c.func = t.func
of_sort c.funcs = t.stmts
of_sort c.body = t.stmts
of_sort c.program = t.program

-- `var N=___.readImport(IMPORTS___,"N");` for each import
abbrev pub import_stmts : List (List ℕ) → Tree t.stmts → Tree t.stmts
import_stmts [] rest = rest
import_stmts (x ∷ xs) rest =
    t.more_stmts (t.var (t.more_items x (t.some_expr (runtime_call (codes "readImport") (pair (t.name imports_name) (t.text x)))) t.no_items)) (import_stmts xs rest)

-- `return moduleResult___;`
abbrev pub result_stmts : Tree t.stmts
result_stmts = t.more_stmts (t.return (t.some_expr (t.name result_name))) t.no_stmts

-- `___.loadModule(function(___,IMPORTS___){..});`
abbrev pub load_stmt : Tree t.stmts → Tree t.stmt
load_stmt body = t.expression (runtime_call (codes "loadModule") (single (t.function (t.fun None (runtime_name ∷ imports_name ∷ []) body))))

-- how many temporaries the forms of a part need; a function has its own
abbrev pub of_key : c.Tree c.key → ℕ
of_key (c.fixed k) = 0
of_key (c.computed e) = 1

abbrev pub of_target : ℕ → c.Tree c.target → ℕ
of_target n (c.variable x) = 0
of_target n (c.member e k) = n + of_key k

abbrev pub temps : (s : c.Sort) → c.Tree s → ℕ
temps _ (c.array es) = temps _ es
temps _ (c.record_of fs) = temps _ fs
temps _ (c.read e k) = temps _ e + temps _ k
temps _ (c.call e es) = temps _ e + temps _ es
temps _ (c.method e k es) = temps _ e + (temps _ k + temps _ es)
temps _ (c.new e es) = temps _ e + temps _ es
temps _ (c.delete e k) = temps _ e + temps _ k
temps _ (c.step up true x) = of_target 1 x + temps _ x
temps _ (c.step up false x) = of_target 2 x + temps _ x
temps _ (c.assign None x e) = temps _ x + temps _ e
temps _ (c.assign (Some op) x e) = of_target 1 x + (temps _ x + temps _ e)
temps _ (c.unary op e) = temps _ e
temps _ (c.binary op a b) = temps _ a + temps _ b
temps _ (c.and a b) = temps _ a + temps _ b
temps _ (c.or a b) = temps _ a + temps _ b
temps _ (c.choice a b d) = temps _ a + (temps _ b + temps _ d)
temps _ (c.comma a b) = temps _ a + temps _ b
temps _ (c.more_exprs e es) = temps _ e + temps _ es
temps _ (c.more_fields k e fs) = temps _ e + temps _ fs
temps _ (c.computed e) = temps _ e
temps _ (c.member e k) = temps _ e + temps _ k
temps _ (c.some_expr e) = temps _ e
temps _ (c.block xs) = temps _ xs
temps _ (c.var is) = temps _ is
temps _ (c.expression e) = temps _ e
temps _ (c.branch e x y) = temps _ e + (temps _ x + temps _ y)
temps _ (c.while_loop e x) = temps _ e + temps _ x
temps _ (c.do_loop x e) = temps _ x + temps _ e
temps _ (c.for_loop i e u x) = temps _ i + (temps _ e + (temps _ u + temps _ x))
temps _ (c.for_in x e b) = 3 + (temps _ x + (temps _ e + temps _ b))
temps _ (c.return e) = temps _ e
temps _ (c.switch e cs) = temps _ e + temps _ cs
temps _ (c.label l x) = temps _ x
temps _ (c.throw e) = temps _ e
temps _ (c.try xs h f) = temps _ xs + (temps _ h + temps _ f)
temps _ (c.more_stmts x xs) = temps _ x + temps _ xs
temps _ (c.more_items x e is) = temps _ e + temps _ is
temps _ (c.some_stmt x) = temps _ x
temps _ (c.some_block xs) = temps _ xs
temps _ (c.first_var is) = temps _ is
temps _ (c.first_expr e) = temps _ e
temps _ (c.more_cases e xs cs) = temps _ e + (temps _ xs + temps _ cs)
temps _ (c.some_handler x xs) = temps _ xs
temps _ (c.a_body fs vars xs) = temps _ xs
temps _ _ = 0

-- the names that statements declare by `var` outside the heads of `for (var x in ..)`
abbrev pub declared : (s : c.Sort) → c.Tree s → List (List ℕ)
declared _ (c.block xs) = declared _ xs
declared _ (c.var is) = declared _ is
declared _ (c.branch e x y) = declared _ x ++ declared _ y
declared _ (c.while_loop e x) = declared _ x
declared _ (c.do_loop x e) = declared _ x
declared _ (c.for_loop i e u x) = declared _ i ++ declared _ x
declared _ (c.for_in x e b) = declared _ b
declared _ (c.switch e cs) = declared _ cs
declared _ (c.label l x) = declared _ x
declared _ (c.try xs h f) = declared _ xs ++ (declared _ h ++ declared _ f)
declared _ (c.more_stmts x xs) = declared _ x ++ declared _ xs
declared _ (c.more_items x e is) = x ∷ declared _ is
declared _ (c.some_stmt x) = declared _ x
declared _ (c.some_block xs) = declared _ xs
declared _ (c.first_var is) = declared _ is
declared _ (c.more_cases e xs cs) = declared _ xs ++ declared _ cs
declared _ (c.some_handler x xs) = declared _ xs
declared _ _ = []

-- what stands at the head of a body: its temporaries, and the names that no `var` of it declares
abbrev pub head_items : c.Tree c.body → Tree t.items
head_items (c.a_body fs vars xs) = temp_items 0 (temps _ xs) (name_items (others vars (declared _ xs)) t.no_items)

-- `___.func(N);` for each declared function
abbrev pub func_mark : c.Tree c.func → Tree t.stmts → Tree t.stmts
func_mark (c.fun None params args body) rest = rest
func_mark (c.fun (Some x) params args body) rest = t.more_stmts (t.expression (runtime_call (codes "func") (single (t.name x)))) rest

abbrev pub marks : c.Tree c.funcs → Tree t.stmts → Tree t.stmts
marks c.no_funcs rest = rest
marks (c.more_funcs f fs) rest = func_mark f (marks fs rest)

-- the rewriting: the first truth value says whether the part stands directly in the module, the number is that of the first temporary that is free;
-- what is written to has no form of its own: what writes to it says how
unfoldable pub rewritten : Bool → (s : c.Sort) → ℕ → c.Tree s → Tree (of_sort s)
rewritten m _ n c.null = t.null
rewritten m _ n (c.bool b) = t.bool b
rewritten m _ n (c.num a) = t.num a
rewritten m _ n (c.text u) = t.text u
rewritten m _ n (c.name x) = t.name x
rewritten m _ n c.args = t.name arguments_copy
rewritten m _ n (c.array es) = runtime_call (codes "initializeArray") (single (t.array (rewritten false _ n es)))
rewritten m _ n (c.record_of fs) = runtime_call (codes "initializeMap") (single (t.array (rewritten false _ n fs)))
rewritten m _ n (c.function f) = runtime_call (codes "func") (single (t.function (rewritten false _ 0 f)))
rewritten m _ n (c.read e k) = runtime_call (codes "readPub") (pair (rewritten false _ n e) (rewritten false _ (n + temps _ e) k))
rewritten m _ n (c.call e es) = t.call (runtime_call (codes "asSimpleFunc") (single (rewritten false _ n e))) (rewritten false _ (n + temps _ e) es)
rewritten m _ n (c.method e k es) =
    runtime_call (codes "callPub") (triple (rewritten false _ n e) (rewritten false _ (n + temps _ e) k) (t.array (rewritten false _ (n + (temps _ e + temps _ k)) es)))
rewritten m _ n (c.new e es) = runtime_call (codes "construct") (pair (rewritten false _ n e) (t.array (rewritten false _ (n + temps _ e) es)))
rewritten m _ n (c.delete e k) = runtime_call (codes "deletePub") (pair (rewritten false _ n e) (rewritten false _ (n + temps _ e) k))
rewritten m _ n (c.step up before (c.variable x)) = t.step up before (t.name x)
rewritten m _ n (c.step up true (c.member e (c.fixed k))) =
    with_temp n (rewritten false _ (n + 1) e) (runtime_call (codes "setPub") (triple (temp n) (t.text k) (by_one up (t.unary un.Plus (runtime_call (codes "readPub") (pair (temp n) (t.text k)))))))
rewritten m _ n (c.step up true (c.member e (c.computed f))) =
    with_temps n (rewritten false _ (n + 2) e) (key_call (rewritten false _ (n + 2 + temps _ e) f))
    (runtime_call (codes "setPub") (triple (temp n) (temp (n + 1)) (by_one up (t.unary un.Plus (runtime_call (codes "readPub") (pair (temp n) (temp (n + 1))))))))
rewritten m _ n (c.step up false (c.member e (c.fixed k))) =
    t.comma (with_temps n (rewritten false _ (n + 2) e) (t.unary un.Plus (runtime_call (codes "readPub") (pair (temp n) (t.text k))))
    (runtime_call (codes "setPub") (triple (temp n) (t.text k) (by_one up (temp (n + 1)))))) (temp (n + 1))
rewritten m _ n (c.step up false (c.member e (c.computed f))) =
    t.comma (t.comma (with_temps n (rewritten false _ (n + 3) e) (key_call (rewritten false _ (n + 3 + temps _ e) f))
    (set_temp (n + 2) (t.unary un.Plus (runtime_call (codes "readPub") (pair (temp n) (temp (n + 1)))))))
    (runtime_call (codes "setPub") (triple (temp n) (temp (n + 1)) (by_one up (temp (n + 2)))))) (temp (n + 2))
rewritten m _ n (c.assign op (c.variable x) e) = t.assign op (t.name x) (rewritten false _ n e)
rewritten m _ n (c.assign None (c.member e k) v) =
    runtime_call (codes "setPub") (triple (rewritten false _ n e) (rewritten false _ (n + temps _ e) k) (rewritten false _ (n + (temps _ e + temps _ k)) v))
rewritten m _ n (c.assign (Some op) (c.member e (c.fixed k)) v) =
    with_temp n (rewritten false _ (n + 1) e)
    (runtime_call (codes "setPub") (triple (temp n) (t.text k) (t.binary op (runtime_call (codes "readPub") (pair (temp n) (t.text k))) (rewritten false _ (n + 1 + temps _ e) v))))
rewritten m _ n (c.assign (Some op) (c.member e (c.computed f)) v) =
    with_temps n (rewritten false _ (n + 2) e) (key_call (rewritten false _ (n + 2 + temps _ e) f))
    (runtime_call (codes "setPub") (triple (temp n) (temp (n + 1)) (t.binary op (runtime_call (codes "readPub") (pair (temp n) (temp (n + 1)))) (rewritten false _ (n + 2 + (temps _ e + temps _ f)) v))))
rewritten m _ n (c.unary op e) = t.unary op (rewritten false _ n e)
rewritten m _ n (c.binary bin.InObject a b) = runtime_call (codes "inPub") (pair (rewritten false _ n a) (rewritten false _ (n + temps _ a) b))
rewritten m _ n (c.binary bin.InstanceOf a b) = runtime_call (codes "instanceOf") (pair (rewritten false _ n a) (rewritten false _ (n + temps _ a) b))
rewritten m _ n (c.binary op a b) = t.binary op (rewritten false _ n a) (rewritten false _ (n + temps _ a) b)
rewritten m _ n (c.and a b) = t.and (rewritten false _ n a) (rewritten false _ (n + temps _ a) b)
rewritten m _ n (c.or a b) = t.or (rewritten false _ n a) (rewritten false _ (n + temps _ a) b)
rewritten m _ n (c.choice a b d) = t.choice (rewritten false _ n a) (rewritten false _ (n + temps _ a) b) (rewritten false _ (n + (temps _ a + temps _ b)) d)
rewritten m _ n (c.comma a b) = t.comma (rewritten false _ n a) (rewritten false _ (n + temps _ a) b)
rewritten m _ n c.no_exprs = t.no_exprs
rewritten m _ n (c.more_exprs e es) = t.more_exprs (rewritten false _ n e) (rewritten false _ (n + temps _ e) es)
rewritten m _ n c.no_fields = t.no_exprs
rewritten m _ n (c.more_fields k e rest) = t.more_exprs (t.text k) (t.more_exprs (rewritten false _ n e) (rewritten false _ (n + temps _ e) rest))
rewritten m _ n (c.fixed k) = t.text k
rewritten m _ n (c.computed e) = rewritten false _ n e
rewritten m _ n (c.variable x) = t.null
rewritten m _ n (c.member e k) = t.null
rewritten m _ n c.no_expr = t.no_expr
rewritten m _ n (c.some_expr e) = t.some_expr (rewritten false _ n e)
rewritten m _ n (c.block xs) = t.block (rewritten false _ n xs)
rewritten m _ n (c.var is) = t.var (rewritten false _ n is)
rewritten m _ n c.empty = t.empty
rewritten true _ n (c.expression e) = t.expression (t.assign None (t.name result_name) (rewritten false _ n e))
rewritten false _ n (c.expression e) = t.expression (rewritten false _ n e)
rewritten m _ n (c.branch e x y) = t.branch (rewritten false _ n e) (rewritten false _ (n + temps _ e) x) (rewritten false _ (n + (temps _ e + temps _ x)) y)
rewritten m _ n (c.while_loop e x) = t.while_loop (rewritten false _ n e) (rewritten false _ (n + temps _ e) x)
rewritten m _ n (c.do_loop x e) = t.do_loop (rewritten false _ n x) (rewritten false _ (n + temps _ x) e)
rewritten m _ n (c.for_loop i e u x) =
    t.for_loop (rewritten false _ n i) (rewritten false _ (n + temps _ i) e) (rewritten false _ (n + (temps _ i + temps _ e)) u) (rewritten false _ (n + (temps _ i + (temps _ e + temps _ u))) x)
rewritten m _ n (c.for_in (c.variable x) e b) =
    keys_loop n (rewritten false _ (n + 3) e) (t.expression (t.assign None (t.name x) (key_of n))) (rewritten false _ (n + 3 + temps _ e) b)
rewritten m _ n (c.for_in (c.member o k) e b) =
    keys_loop n (rewritten false _ (n + 3 + (temps _ o + temps _ k)) e)
    (t.expression (runtime_call (codes "setPub") (triple (rewritten false _ (n + 3) o) (rewritten false _ (n + 3 + temps _ o) k) (key_of n))))
    (rewritten false _ (n + 3 + (temps _ o + (temps _ k + temps _ e))) b)
rewritten m _ n (c.continue l) = t.continue l
rewritten m _ n (c.break l) = t.break l
rewritten m _ n (c.return e) = t.return (rewritten false _ n e)
rewritten m _ n (c.switch e cs) = t.switch (rewritten false _ n e) (rewritten false _ (n + temps _ e) cs)
rewritten m _ n (c.label l x) = t.label l (rewritten false _ n x)
rewritten m _ n (c.throw e) = t.throw (rewritten false _ n e)
rewritten m _ n (c.try xs h f) = t.try (rewritten false _ n xs) (rewritten false _ (n + temps _ xs) h) (rewritten false _ (n + (temps _ xs + temps _ h)) f)
rewritten m _ n c.no_stmts = t.no_stmts
rewritten m _ n (c.more_stmts s rest) = t.more_stmts (rewritten m _ n s) (rewritten m _ (n + temps _ s) rest)
rewritten m _ n c.no_items = t.no_items
rewritten m _ n (c.more_items x e rest) = t.more_items x (rewritten false _ n e) (rewritten false _ (n + temps _ e) rest)
rewritten m _ n c.no_stmt = t.no_stmt
rewritten m _ n (c.some_stmt x) = t.some_stmt (rewritten false _ n x)
rewritten m _ n c.no_block = t.no_block
rewritten m _ n (c.some_block xs) = t.some_block (rewritten false _ n xs)
rewritten m _ n c.no_first = t.no_first
rewritten m _ n (c.first_var is) = t.first_var (rewritten false _ n is)
rewritten m _ n (c.first_expr e) = t.first_expr (rewritten false _ n e)
rewritten m _ n c.no_cases = t.no_cases
rewritten m _ n (c.more_cases e xs cs) = t.more_cases (rewritten false _ n e) (rewritten false _ (n + temps _ e) xs) (rewritten false _ (n + (temps _ e + temps _ xs)) cs)
rewritten m _ n c.no_handler = t.no_handler
rewritten m _ n (c.some_handler x xs) = t.some_handler x (rewritten false _ n xs)
rewritten m _ n (c.fun name params args body) = t.fun name params (var_stmts (args_items args (head_items body)) (rewritten false _ 0 body))
rewritten m _ n c.no_funcs = t.no_stmts
rewritten m _ n (c.more_funcs f fs) = t.more_stmts (t.declare (rewritten false _ 0 f)) (rewritten false _ 0 fs)
rewritten m _ n (c.a_body fs vars xs) = joined (rewritten false _ 0 fs) (marks fs (rewritten m _ 0 xs))
rewritten m _ n (c.a_module imports body) =
    t.script (t.more_stmts (load_stmt (t.more_stmts (t.var (t.more_items result_name t.no_expr (head_items body))) (import_stmts imports (joined (rewritten true _ 0 body) result_stmts)))) t.no_stmts)

-- the program of a module
abbrev pub program_of : c.Tree c.program → Tree t.program
program_of m = rewritten false c.program 0 m
