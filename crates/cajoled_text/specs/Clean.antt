-- Modules that tokens can spell once they are rewritten: names, numbers, texts and keys are tokens, and forms stand where ES3 lets them, as in the tree of a source
-- that was read (ES3 7.6, 7.8, 11.13, 12.2, 12.5, 12.11, 12.14, 13).
use Rattle.std.specs.Prelude.{◌≡◌, ℕ, Bool, true, false, not, List, [], ◌∷◌, Option, Some, None}
use Rattle.es3_tree.specs.Token.{name, num, text}
use Rattle.es3_tree.specs.declared.BinOp.{BinOp}
use Rattle.es3_tree.specs.declared.BinOp.TheVariants as bin
use Rattle.es3_tokens.specs.Back.{IsToken}
use Rattle.cajita_tree.specs.Tree as c

abbrev pub AreNames : List (List ℕ) → Type 0
AreNames [] = Unit {0}
AreNames (x ∷ xs) = IsToken (name x) × AreNames xs

-- a name that may be absent: a function's, a label
abbrev pub IsMaybeName : Option (List ℕ) → Type 0
IsMaybeName None = Unit {0}
IsMaybeName (Some x) = IsToken (name x)

-- an operator that stands before the sign of an assignment, or none (11.13)
abbrev pub IsAssigning : Option BinOp → Type 0
IsAssigning None = Unit {0}
IsAssigning (Some bin.Mul) = Unit {0}
IsAssigning (Some bin.Div) = Unit {0}
IsAssigning (Some bin.Rem) = Unit {0}
IsAssigning (Some bin.Add) = Unit {0}
IsAssigning (Some bin.Sub) = Unit {0}
IsAssigning (Some bin.Shl) = Unit {0}
IsAssigning (Some bin.Shr) = Unit {0}
IsAssigning (Some bin.Ushr) = Unit {0}
IsAssigning (Some bin.BitAnd) = Unit {0}
IsAssigning (Some bin.BitXor) = Unit {0}
IsAssigning (Some bin.BitOr) = Unit {0}
IsAssigning op = ⊥

-- 12.2: a declaration of variables declares one
abbrev pub HasItems : c.Tree c.items → Type 0
HasItems c.no_items = ⊥
HasItems (c.more_items x e rest) = Unit {0}

-- 12.5: the statement ends in an `if` without `else`; none such stands before `else`
abbrev pub is_open : c.Tree c.stmt → Bool
is_open (c.branch e x c.no_stmt) = true
is_open (c.branch e x (c.some_stmt y)) = is_open y
is_open (c.while_loop e x) = is_open x
is_open (c.for_loop i e u x) = is_open x
is_open (c.for_in x e b) = is_open b
is_open (c.label l x) = is_open x
is_open x = false

abbrev pub EndsBefore : c.Tree c.maybe_stmt → c.Tree c.stmt → Type 0
EndsBefore c.no_stmt x = Unit {0}
EndsBefore (c.some_stmt y) x = is_open x ≡ false

-- 12.11: at most one clause is `default`
abbrev pub has_default : c.Tree c.cases → Bool
has_default c.no_cases = false
has_default (c.more_cases c.no_expr xs cs) = true
has_default (c.more_cases (c.some_expr e) xs cs) = has_default cs

abbrev pub one_default : c.Tree c.cases → Bool
one_default c.no_cases = true
one_default (c.more_cases c.no_expr xs cs) = not (has_default cs)
one_default (c.more_cases (c.some_expr e) xs cs) = one_default cs

-- 12.14: something stands behind the block of a `try`
abbrev pub HasEnd : c.Tree c.handler → c.Tree c.maybe_block → Type 0
HasEnd c.no_handler c.no_block = ⊥
HasEnd h f = Unit {0}

-- 13: a declared function has a name
abbrev pub HasName : c.Tree c.func → Type 0
HasName (c.fun None params args body) = ⊥
HasName (c.fun (Some x) params args body) = Unit {0}

unfoldable pub Clean : (s : c.Sort) → c.Tree s → Type 0
Clean _ c.null = Unit {0}
Clean _ (c.bool b) = Unit {0}
Clean _ (c.num n) = IsToken (num n)
Clean _ (c.text us) = IsToken (text us)
Clean _ (c.name x) = IsToken (name x)
Clean _ c.args = Unit {0}
Clean _ (c.array es) = Clean _ es
Clean _ (c.record_of fs) = Clean _ fs
Clean _ (c.function f) = Clean _ f
Clean _ (c.read e k) = Clean _ e × Clean _ k
Clean _ (c.call e es) = Clean _ e × Clean _ es
Clean _ (c.method e k es) = Clean _ e × Clean _ k × Clean _ es
Clean _ (c.new e es) = Clean _ e × Clean _ es
Clean _ (c.delete e k) = Clean _ e × Clean _ k
Clean _ (c.step up before x) = Clean _ x
Clean _ (c.assign op x e) = IsAssigning op × Clean _ x × Clean _ e
Clean _ (c.unary op e) = Clean _ e
Clean _ (c.binary op x y) = Clean _ x × Clean _ y
Clean _ (c.and x y) = Clean _ x × Clean _ y
Clean _ (c.or x y) = Clean _ x × Clean _ y
Clean _ (c.choice x y z) = Clean _ x × Clean _ y × Clean _ z
Clean _ (c.comma x y) = Clean _ x × Clean _ y
Clean _ c.no_exprs = Unit {0}
Clean _ (c.more_exprs e es) = Clean _ e × Clean _ es
Clean _ c.no_fields = Unit {0}
Clean _ (c.more_fields k e rest) = IsToken (text k) × Clean _ e × Clean _ rest
Clean _ (c.fixed k) = IsToken (text k)
Clean _ (c.computed e) = Clean _ e
Clean _ (c.variable x) = IsToken (name x)
Clean _ (c.member e k) = Clean _ e × Clean _ k
Clean _ c.no_expr = Unit {0}
Clean _ (c.some_expr e) = Clean _ e
Clean _ (c.block xs) = Clean _ xs
Clean _ (c.var is) = HasItems is × Clean _ is
Clean _ c.empty = Unit {0}
Clean _ (c.expression e) = Clean _ e
Clean _ (c.branch e x y) = Clean _ e × Clean _ x × Clean _ y × EndsBefore y x
Clean _ (c.while_loop e x) = Clean _ e × Clean _ x
Clean _ (c.do_loop x e) = Clean _ x × Clean _ e
Clean _ (c.for_loop i e u x) = Clean _ i × Clean _ e × Clean _ u × Clean _ x
Clean _ (c.for_in x e b) = Clean _ x × Clean _ e × Clean _ b
Clean _ (c.continue l) = IsMaybeName l
Clean _ (c.break l) = IsMaybeName l
Clean _ (c.return e) = Clean _ e
Clean _ (c.switch e cs) = Clean _ e × Clean _ cs × (one_default cs ≡ true)
Clean _ (c.label l x) = IsToken (name l) × Clean _ x
Clean _ (c.throw e) = Clean _ e
Clean _ (c.try xs h f) = Clean _ xs × Clean _ h × Clean _ f × HasEnd h f
Clean _ c.no_stmts = Unit {0}
Clean _ (c.more_stmts x xs) = Clean _ x × Clean _ xs
Clean _ c.no_items = Unit {0}
Clean _ (c.more_items x e rest) = IsToken (name x) × Clean _ e × Clean _ rest
Clean _ c.no_stmt = Unit {0}
Clean _ (c.some_stmt x) = Clean _ x
Clean _ c.no_block = Unit {0}
Clean _ (c.some_block xs) = Clean _ xs
Clean _ c.no_first = Unit {0}
Clean _ (c.first_var is) = HasItems is × Clean _ is
Clean _ (c.first_expr e) = Clean _ e
Clean _ c.no_cases = Unit {0}
Clean _ (c.more_cases e xs cs) = Clean _ e × Clean _ xs × Clean _ cs
Clean _ c.no_handler = Unit {0}
Clean _ (c.some_handler x xs) = IsToken (name x) × Clean _ xs
Clean _ (c.fun x params args body) = IsMaybeName x × AreNames params × Clean _ body
Clean _ c.no_funcs = Unit {0}
Clean _ (c.more_funcs f fs) = HasName f × Clean _ f × Clean _ fs
Clean _ (c.a_body fs vars xs) = Clean _ fs × AreNames vars × Clean _ xs
Clean _ (c.a_module imports body) = AreNames imports × Clean _ body
