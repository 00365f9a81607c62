-- The parts of a call, as data.
use Rattle.std.specs.Prelude.{ℕ, List, [], ◌∷◌, Option, Some, None, length, codes}
use Rattle.es3_tree.specs.Tree as t
use Rattle.es3_objects.specs.declared.value.Value.{Value}
use Rattle.es3_objects.specs.declared.value.Value.TheVariants.{Undefined, Obj}
use Rattle.es3_objects.specs.declared.value.Class.TheVariants as class
use Rattle.es3_objects.specs.declared.value.FuncKind.{FuncKind}
use Rattle.es3_heap.specs.Objects.{Callable, Objects}
use Rattle.es3_heap.specs.Properties.{get}
use Rattle.es3_heap.specs.Making.{made}
use Rattle.es3_language.specs.Store.{Code, Scope, Store, activation, own_name, first_names, with_code, with_scope}
use Rattle.es3_language.specs.Hoisting.{code_of}
use Rattle.es3_language.specs.Tasks.{Completion, Plan}
use Rattle.es3_language.specs.Expressions.{body_end, new_end, made_proto}

-- what a call runs, and the module that made the function
abbrev pub callable_parts : Callable → FuncKind × ℕ
callable_parts c = (c.kind, c.maker)

-- 10.1.3: an argument, or undefined where there is none
abbrev pub value_at : Option Value → Value
value_at None = Undefined
value_at (Some v) = v

-- 10.1.6: the scope that a call begins with, but for the functions that are declared in it
abbrev pub first_scope : Code → Value → List Value → Scope
first_scope c f vs = record { owner = activation f c.params vs; names = first_names c vs }

-- the innermost scope of a chain
abbrev pub innermost : List ℕ → ℕ
innermost [] = 0
innermost (c ∷ cs) = c

-- what follows the body of a function: 13.2.1, or 13.2.2 where the call is to make an object
abbrev pub call_end : Option ℕ → Completion → Store → Plan
call_end None = body_end
call_end (Some o) = new_end o

-- 13: a function with a name of its own, in a scope with that name
abbrev pub named_function : t.Tree t.func → List ℕ → List ℕ → ℕ → Store → Store
named_function f x chain maker s = with_code (code_of f (length s.scopes ∷ chain)) maker (with_scope own_name ((x, Obj (length s.heap.list)) ∷ []) s)

-- 13.2.2: with the object that a function of a text makes
abbrev pub made_by : ℕ → Objects → Objects
made_by f h = made class.Object (Some (made_proto (get h f (codes "prototype")))) h
