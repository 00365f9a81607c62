-- A step up a chain of prototypes.
use Rattle.std.proofs.Common.{◌≡◌, ℕ, suc, false, List, [], ◌∷◌, ◌++◌, append_assoc, Option, Some, None, Bor, refl, ◌∙◌}
use Rattle.std.specs.Option.{option_copied, is_some}
use Rattle.property_tables.specs.declared.field.Field.{Field}
use Rattle.es3_objects.specs.declared.value.Value.{Value}
use Rattle.es3_objects.specs.declared.value.Attrs.{Attrs}
use Rattle.es3_heap.specs.Objects.{Objects, object_at, proto_of}
use Rattle.es3_objects.proofs.Listed.{seen}
use Rattle.es3_heap.specs.Properties.{own, lookup_from}
use Rattle.es3_heap.specs.Enumerating.{added_keys, keys_from}

nothing_seen : (k : List ℕ) (r : Option (Bor (Field Value Attrs))) → is_some r ≡ false → seen k (option_copied r) ≡ None
nothing_seen k None h = refl
nothing_seen k (Some p) h = cc

-- where an object has no property of the key, its prototype is next
pub lookup_from-above : (n m : ℕ) (h : Objects) (o : ℕ) (k : List ℕ) (r : Option (Bor (Field Value Attrs))) → n ≡ suc m → own h o k ≡ seen k (option_copied r) → is_some r ≡ false → lookup_from n h (Some o) k ≡ lookup_from m h (proto_of (object_at h o)) k
lookup_from-above n m h o k r more here none =
    let missing : own h o k ≡ None = here ∙ nothing_seen k r none in
    rw (more, missing) refl

-- the keys that an object adds, and then those of the prototypes above it
pub keys-above : (n m : ℕ) (h : Objects) (all keys keys' : List (List ℕ)) (below below' seen : List ℕ) (above next : Option ℕ) (o : ℕ) → n ≡ suc m
    → all ≡ keys ++ keys_from n h below above
    → above ≡ Some o
    → seen ≡ below
    → keys' ≡ keys ++ added_keys h seen o
    → below' ≡ below ++ o ∷ []
    → next ≡ proto_of (object_at h o)
    → all ≡ keys' ++ keys_from m h below' next
keys-above n m h all keys keys' below below' seen above next o more is some same added longer up =
    is ∙ rw (some, more, added, same, longer, up, append_assoc) refl
