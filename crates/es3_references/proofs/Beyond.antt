-- A name that isn't among the names of a scope.
use Rattle.std.proofs.Common.{◌≡◌, ℕ, List, Option, Some, None, refl}
use Rattle.std.specs.Prelude.{is_some, cond}
use Rattle.es3_heap.specs.Properties.{lookup}
use Rattle.es3_language.specs.Store.{Owner, activation, own_name, caught, with_object_of, Scope, Store}
use Rattle.es3_language.specs.Arguments.{arguments_name}
use Rattle.es3_language.specs.References.{Ref, own_arguments, in_object, in_owner, in_with, arguments_of, arguments_at}
use Rattle.es3_references.specs.Owners.{Beyond, its_arguments, its_object, beyond, beyond_owner}

-- what follows is asked of the scopes further out, by what the scope has beside its names
abbrev pub elsewhere : Beyond → Store → List ℕ → Ref → Ref
elsewhere (its_object o) s x further = cond (is_some (lookup s.heap o x)) (in_object o x) further
elsewhere b s x further = further

abbrev pub elsewhere_arguments : Beyond → ℕ → Store → Ref → Ref
elsewhere_arguments its_arguments c s further = own_arguments c
elsewhere_arguments b c s further = elsewhere b s arguments_name further

in_owner-elsewhere : (w : Owner) (s : Store) (x : List ℕ) (further : Ref) → in_owner w s x further ≡ elsewhere (beyond_owner w) s x further
in_owner-elsewhere (activation f xs vs) s x further = refl
in_owner-elsewhere own_name s x further = refl
in_owner-elsewhere caught s x further = refl
in_owner-elsewhere (with_object_of o) s x further = refl

pub in_with_elsewhere : (scope : Option Scope) (s : Store) (x : List ℕ) (further : Ref) → in_with scope s x further ≡ elsewhere (beyond scope) s x further
in_with_elsewhere None s x further = refl
in_with_elsewhere (Some scope) s x further = in_owner-elsewhere scope.owner s x further

arguments_of-elsewhere : (w : Owner) (c : ℕ) (s : Store) (further : Ref) → arguments_of w c s further ≡ elsewhere_arguments (beyond_owner w) c s further
arguments_of-elsewhere (activation f xs vs) c s further = refl
arguments_of-elsewhere own_name c s further = refl
arguments_of-elsewhere caught c s further = refl
arguments_of-elsewhere (with_object_of o) c s further = refl

pub arguments_at_elsewhere : (scope : Option Scope) (c : ℕ) (s : Store) (further : Ref) → arguments_at scope c s further ≡ elsewhere_arguments (beyond scope) c s further
arguments_at_elsewhere None c s further = refl
arguments_at_elsewhere (Some scope) c s further = arguments_of-elsewhere scope.owner c s further
