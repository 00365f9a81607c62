-- The plain form of what the texts made.
use Rattle.std.specs.Prelude.{ℕ, List, map}
use Rattle.std.specs.declared.rc.Rc.{Rc}
use Rattle.std.specs.Global.{Global}
use Rattle.es3_tree.specs.Tree as t
use Rattle.es3_heap.specs.Objects.{Objects}
use Rattle.es3_language.specs.Store as s
use Rattle.es3_moves.specs.Code.{names_of, plain_stmts, plain_func}
use Rattle.es3_moves.specs.Where.{plain_chain}
use Rattle.es3_moves.specs.declared.code.FuncCode.{FuncCode}
use Rattle.es3_moves.specs.declared.texts.Owner.{Owner}
use Rattle.es3_moves.specs.declared.texts.Owner.TheVariants.{Activation, OwnName, Caught, WithObject}
use Rattle.es3_moves.specs.declared.texts.Scope.{Scope}
use Rattle.es3_moves.specs.declared.texts.SharedItem.{SharedItem}
use Rattle.es3_moves.specs.declared.texts.Shared.{Shared}
use Rattle.es3_moves.specs.declared.texts.Closure.{Closure}
use Rattle.es3_moves.specs.declared.texts.Texts.{Texts}

abbrev pub plain_owner : Owner → s.Owner
plain_owner (Activation f xs vs) = s.activation f (names_of xs.value.items) vs.items
plain_owner OwnName = s.own_name
plain_owner Caught = s.caught
plain_owner (WithObject o) = s.with_object_of o

abbrev pub plain_scope : Scope → s.Scope
plain_scope x = record { owner = plain_owner x.owner; names = x.names }

abbrev pub plain_item : SharedItem → List ℕ × List ℕ
plain_item x = (x.key, x.name.value)

abbrev pub plain_share : Shared → s.Shared
plain_share g = record { object = g.object; scope = g.scope; items = map plain_item g.items.items }

abbrev pub funcs_of : List (Rc FuncCode Global) → List (t.Tree t.func)
funcs_of = map (λ f. plain_func f.value)

abbrev pub plain_code : Closure → s.Code
plain_code c = record {
  params = names_of c.params.value.items;
  vars = names_of c.vars.items;
  functions = funcs_of c.functions.items;
  body = plain_stmts c.body.value.items;
  chain = plain_chain c.chain.value;
}

-- the scopes and the functions, each by its place, and the arguments objects
abbrev pub plain_scopes : Texts → List s.Scope
plain_scopes t = map plain_scope t.scopes.items

abbrev pub plain_codes : Texts → List s.Code
plain_codes t = map plain_code t.codes.items

abbrev pub plain_shared : Texts → List s.Shared
plain_shared t = map plain_share t.shared.items

-- what a running text changes: the objects, and what the texts made
abbrev pub store_of : Objects → Texts → s.Store
store_of h t = record { heap = h; scopes = plain_scopes t; codes = plain_codes t; globals = t.globals; shared = plain_shared t }
