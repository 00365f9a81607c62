-- What a running text changes: objects, scopes, and the functions that it made (ES3 10).
use Rattle.std.specs.Prelude.{ℕ, List, [], ◌∷◌, ◌++◌, Option, Some, None, is_some, length, slice_get, slice_set, codes, pos, if◌then◌else◌}
use Rattle.caja_units.specs.Units.{same_units}
use Rattle.es3_tree.specs.Tree as t
use Rattle.es3_objects.specs.declared.value.Value.{Value}
use Rattle.es3_objects.specs.declared.value.Value.TheVariants.{Undefined, Num, Obj}
use Rattle.es3_objects.specs.declared.value.Class.TheVariants as class
use Rattle.es3_objects.specs.declared.value.FuncKind.TheVariants.{Code as CodeKind}
use Rattle.es3_objects.specs.declared.value.Proto.TheVariants as proto
use Rattle.es3_heap.specs.Objects.{Objects, fixed_attrs, hidden_attrs, kept_attrs}
use Rattle.es3_heap.specs.Properties.{define, length_key}
use Rattle.es3_heap.specs.Making.{proto_id, made, made_function}

-- the names of a scope and their values, in the order in which they were bound
abbrev pub Names : Type 0
Names = List (List ℕ × Value)

-- 10.1.4: what a scope belongs to
pub data Owner : Type 0 where
  -- 10.1.6: a call: the function that is called, its parameters, and the arguments
  activation : Value → List (List ℕ) → List Value → Owner
  -- 13: a function expression, whose own name is never written
  own_name : Owner
  -- 12.14: a `catch`
  caught : Owner
  -- 12.10: a `with`: its object has the names, and the scope has none
  with_object_of : ℕ → Owner

pub record Scope : Type 0 where
  pub owner : Owner
  pub names : Names

-- 13.2: a function that a text made: its parameters, the names that its body declares by `var`, the functions that it declares, its body, and
-- the scopes around it
pub record Code : Type 0 where
  pub params : List (List ℕ)
  pub vars : List (List ℕ)
  pub functions : List (t.Tree t.func)
  pub body : t.Tree t.stmts
  pub chain : List ℕ

-- 10.1.8: an arguments object, the activation that it belongs to, and which item has the value of which parameter
pub record Shared : Type 0 where
  pub object : ℕ
  pub scope : ℕ
  pub items : List (List ℕ × List ℕ)

pub record Store : Type 0 where
  pub heap : Objects
  pub scopes : List Scope
  pub codes : List Code
  -- 10.1.5: the global object
  pub globals : ℕ
  pub shared : List Shared

abbrev pub with_heap : Store → Objects → Store
with_heap s h = record s { heap = h }

-- names

-- the value of a name in a scope
abbrev pub name_value : List ℕ → Names → Option Value
name_value x [] = None
name_value x ((y, v) ∷ rest) = if same_units x y then Some v else name_value x rest

abbrev pub scope_at : Option Scope → Names
scope_at None = []
scope_at (Some scope) = scope.names

-- a value for a name, in the place of the one that it had, or bound last
abbrev pub with_name : List ℕ → Value → Names → Names
with_name x v [] = (x, v) ∷ []
with_name x v ((y, w) ∷ rest) = if same_units x y then (y, v) ∷ rest else (y, w) ∷ with_name x v rest

-- 10.1.3: the parameters with the arguments, undefined where there is none; the last of two alike counts
abbrev pub with_params : List (List ℕ) → List Value → Names → Names
with_params [] vs names = names
with_params (x ∷ xs) [] names = with_params xs [] (with_name x Undefined names)
with_params (x ∷ xs) (v ∷ vs) names = with_params xs vs (with_name x v names)

-- 10.1.3: a declared name that isn't bound yet is undefined
abbrev pub with_vars : List (List ℕ) → Names → Names
with_vars [] names = names
with_vars (x ∷ xs) names = with_vars xs (if is_some (name_value x names) then names else names ++ (x, Undefined) ∷ [])

-- the names that an activation begins with, but for the functions that are declared in it
abbrev pub first_names : Code → List Value → Names
first_names c vs = with_vars c.vars (with_params c.params vs [])

-- scopes

-- a new scope, the last
abbrev pub with_scope : Owner → Names → Store → Store
with_scope owner names s = record s { scopes = s.scopes ++ record { owner = owner; names = names } ∷ [] }

-- other names in a scope
abbrev pub renamed : Option Scope → Names → Scope
renamed None names = record { owner = caught; names = names }
renamed (Some scope) names = record scope { names = names }

-- a value for a name of the scope of a number
abbrev pub with_slot : ℕ → List ℕ → Value → Store → Store
with_slot c x v s = record s { scopes = slice_set s.scopes c (renamed (slice_get s.scopes c) (with_name x v (scope_at (slice_get s.scopes c)))) }

-- functions

-- 13.2: a function object for the code of a text: its `length`, and a `prototype` whose `constructor` it is
abbrev pub new_function : ℕ → ℕ → ℕ → Objects → Objects
new_function code params maker h =
    let f = length h.list in
    let counted = define (made_function (CodeKind code) maker h) f length_key (Num (pos params)) fixed_attrs in
    let p = length counted.list in
    let prototype = define (made class.Object (Some (proto_id proto.Object)) counted) p (codes "constructor") (Obj f) hidden_attrs in
    define prototype f (codes "prototype") (Obj p) kept_attrs

-- 13.2: a new function of a module with these scopes around it: its object is the next one
abbrev pub with_code : Code → ℕ → Store → Store
with_code c maker s = record s { heap = new_function (length s.codes) (length c.params) maker s.heap; codes = s.codes ++ c ∷ [] }
