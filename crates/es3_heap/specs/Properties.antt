-- Reading, writing and deleting properties (ES3 8.6.2.1 to 8.6.2.5): recursions over an object and the prototypes above it.
pub use Rattle.es3_objects.specs.Properties.{find, value_of, may_write, written, defined, length_key, length_of, revalued, at_least, lengthened, may_delete, without}
use Rattle.std.specs.Prelude.{ℕ, zero, suc, Bool, List, Option, Some, None, length, if◌then◌else◌}
use Rattle.es3_objects.specs.declared.value.Value.{Value}
use Rattle.es3_objects.specs.declared.value.Attrs.{Attrs}
use Rattle.es3_objects.specs.Objects.{Property, Object}
use Rattle.es3_heap.specs.Objects.{Objects, object_at, props_of, proto_of, class_of, replaced}

-- 8.6.2: an object's own property
abbrev pub own : Objects → ℕ → List ℕ → Option Property
own h o k = find k (props_of (object_at h o))

abbrev pub or_else : Option Property → Option Property → Option Property
or_else None q = q
or_else (Some p) q = Some p

-- the property of a key of an object or of the first prototype above it that has one; a chain is no longer than the objects are many
abbrev pub lookup_from : ℕ → Objects → Option ℕ → List ℕ → Option Property
lookup_from n h None k = None
lookup_from zero h (Some o) k = None
lookup_from (suc n) h (Some o) k = or_else (own h o k) (lookup_from n h (proto_of (object_at h o)) k)

abbrev pub lookup : Objects → ℕ → List ℕ → Option Property
lookup h o k = lookup_from (length h.list) h (Some o) k

-- 8.6.2.1: [[Get]]
abbrev pub get : Objects → ℕ → List ℕ → Value
get h o k = value_of (lookup h o k)

-- 8.6.2.3: [[CanPut]]
abbrev pub can_put : Objects → ℕ → List ℕ → Bool
can_put h o k = may_write (lookup h o k)

abbrev pub with_props : Objects → ℕ → Option Object → List Property → Objects
with_props h n None ps = h
with_props h n (Some o) ps = replaced h n (record { class = o.class; proto = o.proto; callable = o.callable; tag = o.tag; props = ps })

-- 8.6.2.2, 15.4.5.1: [[Put]], which does nothing where [[CanPut]] is false
abbrev pub put : Objects → ℕ → List ℕ → Value → Objects
put h o k v =
    if can_put h o k then with_props h o (object_at h o) (lengthened (class_of (object_at h o)) k (written k v (props_of (object_at h o))))
    else h

-- a property as the standard's tables give it, whatever was there
abbrev pub define : Objects → ℕ → List ℕ → Value → Attrs → Objects
define h o k v a = with_props h o (object_at h o) (defined k v a (props_of (object_at h o)))

abbrev pub can_delete : Objects → ℕ → List ℕ → Bool
can_delete h o k = may_delete (own h o k)

-- 8.6.2.5: [[Delete]], which does nothing where the property may not go
abbrev pub delete : Objects → ℕ → List ℕ → Objects
delete h o k = with_props h o (object_at h o) (without k (props_of (object_at h o)))
