-- A name that is found in a scope: how it is read, and what it is as a reference.
use Rattle.std.proofs.Common.{◌≡◌, ℕ, false, List, Some, refl}
use Rattle.es3_language.specs.Store.{Store, name_value}
use Rattle.es3_language.specs.References.{slot, resolve, reference}
use Rattle.es3_language.specs.Meaning as Target
use Rattle.es3_language.specs.Meaning.{is_arguments}
use Rattle.cajita_simulation.proofs.Relation.{EsValue, names_at}

-- it is read there
pub slot_plan : (x : List ℕ) (env : Target.Env) (s : Store) (c : ℕ) (e : EsValue) → is_arguments x ≡ false → resolve env.chain s x ≡ slot c x → name_value x (names_at s c) ≡ Some e → Target.name_value_plan x env s ≡ Target.give e s
slot_plan x env s c e own at there = rw (own, at, there) refl

-- and so it is as a reference
pub slot_target : (x : List ℕ) (env : Target.Env) (s : Store) (c : ℕ) → is_arguments x ≡ false → resolve env.chain s x ≡ slot c x → Target.found_plan (reference env.chain s x) s ≡ Target.found_plan (slot c x) s
slot_target x env s c own at = rw (own, at) refl
