-- A step up a chain of prototypes (ES3 15.3.5.3).
use Rattle.std.proofs.Common.{◌≡◌, ℕ, suc, Option, Some, refl}
use Rattle.std.proofs.lemmas.Bool.{ne_eqb}
use Rattle.es3_heap.specs.Objects.{Objects, object_at, proto_of}
use Rattle.es3_language.specs.Operators.{is_in_chain}

-- where an object isn't the one that is looked for, its prototype is next
pub is_in_chain-above : (n m : ℕ) (h : Objects) (next up : Option ℕ) (o p : ℕ) → n ≡ suc m → next ≡ Some o → (o ≡ p → ⊥) → up ≡ proto_of (object_at h o) → is_in_chain n h next p ≡ is_in_chain m h up p
is_in_chain-above n m h next up o p more here other above = rw (more, here, above, ne_eqb o p other) refl
