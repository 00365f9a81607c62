-- What the program's values say: a declaration, what is declared around a part, and what a name is there.
pub use Rattle.cajita_names.specs.DeclarationViews.{role_of, declaration_of}
use Rattle.std.specs.Prelude.{◌++◌}
use Rattle.cajita_names.specs.declared.scope.Binding.{Binding as BindingPart}
use Rattle.cajita_names.specs.declared.scope.Binding.TheVariants as n
use Rattle.cajita_names.specs.declared.scope.Scope.{Scope as ScopePart}
use Rattle.cajita_names.specs.declared.scope.Scope.TheBlock as b
use Rattle.cajita_names.specs.Rules.{fixed_names}
use Rattle.cajita_names.specs.Scope.{Scope, in_module, in_function, in_catch, in_named, Binding, changing, settled, imported, unbound}

-- a module has the fixed names beside those that are granted; the pointer before a scope around is ignored
abbrev pub scope_of : ScopePart → Scope
scope_of (b.Module ds grants) = in_module ds.now (grants.now ++ fixed_names)
scope_of (b.Function' ds p s) = in_function ds.now (scope_of s)
scope_of (b.Catch' x p s) = in_catch x.now (scope_of s)
scope_of (b.Named' x p s) = in_named x.now (scope_of s)

abbrev pub binding_of : BindingPart → Binding
binding_of n.Changing = changing
binding_of n.Settled = settled
binding_of n.Imported = imported
binding_of n.Unbound = unbound
