-- What is known of a module that was accepted: its names are declared, and no name or key is one that the rewriting or the interpreter uses itself.
use Rattle.std.specs.Prelude.{◌≡◌, ℕ, ◌<◌, Bool, true, false, not, ◌||◌, ◌&&◌, List, [], ◌∷◌, Option, Some, None, codes}
use Rattle.std.specs.List.{list_any}
use Rattle.caja_units.specs.Units.{same_units, is_hidden}
use Rattle.es3_language.specs.Meaning.{is_arguments}
use Rattle.es3_tree.specs.declared.UnOp.{UnOp}
use Rattle.es3_tree.specs.declared.UnOp.TheVariants as un
use Rattle.es3_tree.specs.declared.BinOp.{BinOp}
use Rattle.row_simulation.specs.OperatorLaw.{IsOfValues}
use Rattle.cajita_tree.specs.Tree as c
use Rattle.cajita_rewrite.specs.Rewrite.{temps, declared, arguments_copy}
use Rattle.cajita_meaning.specs.Asking.{func_name}
use Rattle.cajita_simulation.specs.Jumps.{no_jumps, function_jumps, Targets}

abbrev pub is_among : List (List ℕ) → List ℕ → Bool
is_among names x = list_any (same_units x) names

-- a name that a module may declare
pub record GuestName (x : List ℕ) : Type 0 where
  pub open_name : is_hidden x ≡ false
  pub own_name : is_arguments x ≡ false

-- a key that a record may have
pub record GuestKey (k : List ℕ) : Type 0 where
  pub open_key : is_hidden k ≡ false
  pub no_text : same_units (codes "toString") k ≡ false
  pub no_value : same_units (codes "valueOf") k ≡ false

-- names, by whether each is one of them
abbrev pub Names : Type 0
Names = List ℕ → Bool

-- what a body adds to the names around it: its parameters and its variables
abbrev pub inner : List (List ℕ) → List (List ℕ) → Names → Names
inner params vars names x = (is_among params x || is_among vars x) || names x

-- the functions that a body declares
abbrev pub is_declared : c.Tree c.funcs → List ℕ → Bool
is_declared c.no_funcs x = false
is_declared (c.more_funcs f fs) x = same_units x (func_name f) || is_declared fs x

-- what is around the statements of a body: its parameters, its variables and its functions, the copy of `arguments` where it reads that, and the names around it
abbrev pub within : List (List ℕ) → List (List ℕ) → c.Tree c.funcs → Bool → Names → Names
within params vars fs args names x = (args && same_units x arguments_copy) || (is_declared fs x || inner params vars names x)

-- each declared function has a name that a module may use, and that is no parameter's, no variable's and no other function's
abbrev pub NewFunc : List (List ℕ) → List (List ℕ) → c.Tree c.func → c.Tree c.funcs → Type 0
NewFunc params names (c.fun None ps args body) fs = ⊥
NewFunc params names (c.fun (Some x) ps args body) fs = GuestName x × (is_among params x ≡ false) × (is_among names x ≡ false) × (is_declared fs x ≡ false)

abbrev pub NewFuncs : List (List ℕ) → List (List ℕ) → c.Tree c.funcs → Type 0
NewFuncs params names c.no_funcs = Unit {0}
NewFuncs params names (c.more_funcs f fs) = NewFunc params names f fs × NewFuncs params names fs

-- each name once
abbrev pub AreDistinct : List (List ℕ) → Type 0
AreDistinct [] = Unit {0}
AreDistinct (x ∷ xs) = (is_among xs x ≡ false) × AreDistinct xs

-- an assignment by an operator, and an operator before a value: `delete` of a value isn't written
abbrev pub Assigns : Option BinOp → Type 0
Assigns None = Unit {0}
Assigns (Some op) = IsOfValues op

abbrev pub Converts : UnOp → Type 0
Converts un.Delete = ⊥
Converts op = Unit {0}

-- without the own name of a function expression, which isn't written
abbrev pub without : List ℕ → Names → Names
without x names y = not (same_units y x) && names y

-- a part over names that may be read and names that may be written; no other form is accepted yet
abbrev pub Guest : Names → Names → (s : c.Sort) → c.Tree s → Type 0
Guest vars free _ c.null = Unit {0}
Guest vars free _ (c.bool b) = Unit {0}
Guest vars free _ (c.num n) = Unit {0}
Guest vars free _ (c.text us) = Unit {0}
Guest vars free _ (c.name x) = (vars x ≡ true) × GuestName x
Guest vars free _ c.args = vars arguments_copy ≡ true
Guest vars free _ (c.array es) = Guest vars free _ es
Guest vars free _ (c.record_of fs) = Guest vars free _ fs
Guest vars free _ (c.function (c.fun None params args body)) = Guest vars free _ (c.fun None params args body)
Guest vars free _ (c.function (c.fun (Some x) params args body)) = GuestName x × Guest (inner [] (x ∷ []) vars) (without x free) _ (c.fun (Some x) params args body)
Guest vars free _ (c.read e k) = Guest vars free _ e × Guest vars free _ k
Guest vars free _ (c.call e es) = Guest vars free _ e × Guest vars free _ es
Guest vars free _ (c.method e k es) = Guest vars free _ e × Guest vars free _ k × Guest vars free _ es
Guest vars free _ (c.new e es) = Guest vars free _ e × Guest vars free _ es
Guest vars free _ (c.delete e k) = Guest vars free _ e × Guest vars free _ k
Guest vars free _ (c.step up before x) = Guest vars free _ x
Guest vars free _ (c.assign None (c.member e k) v) = Guest vars free _ e × Guest vars free _ k × Guest vars free _ v
Guest vars free _ (c.assign (Some op) (c.member e k) v) = IsOfValues op × Guest vars free _ e × Guest vars free _ k × Guest vars free _ v
Guest vars free _ (c.assign op (c.variable x) e) = Assigns op × Guest vars free _ (c.variable x) × Guest vars free _ e
Guest vars free _ (c.unary op e) = Converts op × Guest vars free _ e
Guest vars free _ (c.binary op a b) = Guest vars free _ a × Guest vars free _ b
Guest vars free _ (c.and a b) = Guest vars free _ a × Guest vars free _ b
Guest vars free _ (c.or a b) = Guest vars free _ a × Guest vars free _ b
Guest vars free _ (c.choice a b d) = Guest vars free _ a × Guest vars free _ b × Guest vars free _ d
Guest vars free _ (c.comma a b) = Guest vars free _ a × Guest vars free _ b
Guest vars free _ c.no_exprs = Unit {0}
Guest vars free _ (c.more_exprs e es) = Guest vars free _ e × Guest vars free _ es
Guest vars free _ c.no_fields = Unit {0}
Guest vars free _ (c.more_fields k e rest) = GuestKey k × Guest vars free _ e × Guest vars free _ rest
Guest vars free _ (c.fixed k) = Unit {0}
Guest vars free _ (c.computed e) = Guest vars free _ e
Guest vars free _ (c.variable x) = (vars x ≡ true) × (free x ≡ true) × GuestName x
Guest vars free _ (c.member e k) = Guest vars free _ e × Guest vars free _ k
Guest vars free _ c.no_expr = Unit {0}
Guest vars free _ (c.some_expr e) = Guest vars free _ e
Guest vars free _ (c.block xs) = Guest vars free _ xs
Guest vars free _ (c.var is) = Guest vars free _ is
Guest vars free _ c.empty = Unit {0}
Guest vars free _ (c.expression e) = Guest vars free _ e
Guest vars free _ (c.branch e x y) = Guest vars free _ e × Guest vars free _ x × Guest vars free _ y
Guest vars free _ (c.while_loop e x) = Guest vars free _ e × Guest vars free _ x
Guest vars free _ (c.do_loop x e) = Guest vars free _ x × Guest vars free _ e
Guest vars free _ (c.for_loop i e u x) = Guest vars free _ i × Guest vars free _ e × Guest vars free _ u × Guest vars free _ x
Guest vars free _ (c.for_in x e b) = Guest vars free _ x × Guest vars free _ e × Guest vars free _ b
Guest vars free _ (c.continue l) = Unit {0}
Guest vars free _ (c.break l) = Unit {0}
Guest vars free _ (c.return e) = Guest vars free _ e
Guest vars free _ (c.switch e cs) = Guest vars free _ e × Guest vars free _ cs
Guest vars free _ (c.label l x) = Guest vars free _ x
Guest vars free _ (c.throw e) = Guest vars free _ e
Guest vars free _ (c.try xs h f) = Guest vars free _ xs × Guest vars free _ h × Guest vars free _ f
Guest vars free _ c.no_items = Unit {0}
Guest vars free _ (c.more_items x e rest) = (vars x ≡ true) × (free x ≡ true) × GuestName x × Guest vars free _ e × Guest vars free _ rest
Guest vars free _ c.no_stmts = Unit {0}
Guest vars free _ (c.more_stmts s rest) = Guest vars free _ s × Guest vars free _ rest
Guest vars free _ c.no_funcs = Unit {0}
Guest vars free _ (c.more_funcs f fs) = Guest vars free _ f × Guest vars free _ fs
-- a function: its parameters, each once, and its variables have names that a module may use, each variable that a statement declares is among them, its temporaries have
-- names of their own, its jumps are its own, and the functions that it declares have names of their own
Guest vars free _ (c.fun name params args (c.a_body fs names list)) =
    ((x : List ℕ) → is_among params x ≡ true → GuestName x) × ((x : List ℕ) → is_among names x ≡ true → GuestName x) × AreDistinct params × ((x : List ℕ) → is_among (declared c.stmts list) x ≡ true → is_among names x ≡ true)
    × (temps c.stmts list < 18446744073709551616) × Targets function_jumps [] c.stmts list × NewFuncs params names fs
    × Guest (within params names fs args vars) (within params names fs args free) _ fs × Guest (within params names fs args vars) (within params names fs args free) _ list
Guest vars free _ c.no_stmt = Unit {0}
Guest vars free _ (c.some_stmt x) = Guest vars free _ x
Guest vars free _ c.no_block = Unit {0}
Guest vars free _ (c.some_block xs) = Guest vars free _ xs
Guest vars free _ c.no_first = Unit {0}
Guest vars free _ (c.first_var is) = Guest vars free _ is
Guest vars free _ (c.first_expr e) = Guest vars free _ e
Guest vars free _ c.no_cases = Unit {0}
Guest vars free _ (c.more_cases e xs cs) = Guest vars free _ e × Guest vars free _ xs × Guest vars free _ cs
Guest vars free _ c.no_handler = Unit {0}
Guest vars free _ (c.some_handler x xs) = GuestName x × Guest (inner [] (x ∷ []) vars) (inner [] (x ∷ []) free) _ xs
Guest vars free _ _ = ⊥

-- what a module's functions and statements may name: its imports, its variables and its functions; imports aren't written
abbrev pub module_names : List (List ℕ) → List (List ℕ) → c.Tree c.funcs → Names
module_names imports vars fs = within [] vars fs false (is_among imports)

abbrev pub module_free : List (List ℕ) → c.Tree c.funcs → Names
module_free vars fs = within [] vars fs false (λ x. false)

-- a module: each variable that its statements declare is among its variables, whose names a module may use, as those of its imports and its functions; its temporaries have
-- names of their own, and each of its jumps has its target
pub data GuestModule : c.Tree c.program → Type 0 where
  a_guest : (imports vars : List (List ℕ)) (fs : c.Tree c.funcs) (list : c.Tree c.stmts) → ((x : List ℕ) → is_among (declared c.stmts list) x ≡ true → is_among vars x ≡ true) → ((x : List ℕ) → is_among imports x ≡ true → GuestName x) → ((x : List ℕ) → is_among vars x ≡ true → GuestName x) → temps c.stmts list < 18446744073709551616
      → Targets no_jumps [] c.stmts list → NewFuncs imports vars fs → Guest (module_names imports vars fs) (module_free vars fs) c.funcs fs → Guest (module_names imports vars fs) (module_free vars fs) c.stmts list → GuestModule (c.a_module imports (c.a_body fs vars list))
