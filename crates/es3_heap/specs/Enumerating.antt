-- The keys of an object, and those that `for in` visits (ES3 12.6.4).
use Rattle.std.specs.Prelude.{ℕ, zero, suc, Bool, not, ◌&&◌, List, [], ◌∷◌, ◌++◌, Option, Some, None, map, is_some, length}
use Rattle.std.specs.List.{filter, list_any}
use Rattle.es3_heap.specs.Objects.{Objects, object_at, props_of, proto_of}
use Rattle.es3_heap.specs.Properties.{own}

-- all own keys, in the order in which the properties were made
abbrev pub own_keys : Objects → ℕ → List (List ℕ)
own_keys h o = map (λ p. p.key) (props_of (object_at h o))

-- whether one of some objects has an own property of the key, enumerable or not
abbrev pub shadowed : Objects → List ℕ → List ℕ → Bool
shadowed h below k = list_any (λ o. is_some (own h o k)) below

-- the keys that an object adds to those of the objects below it in a chain: those without DontEnum, but none that one of them has
abbrev pub added_keys : Objects → List ℕ → ℕ → List (List ℕ)
added_keys h below o = map (λ p. p.key) (filter (λ p. not p.attrs.dont_enum && not (shadowed h below p.key)) (props_of (object_at h o)))

-- 12.6.4: the keys of an object and of the prototypes above it; a chain is no longer than the objects are many
abbrev pub keys_from : ℕ → Objects → List ℕ → Option ℕ → List (List ℕ)
keys_from n h below None = []
keys_from zero h below (Some o) = []
keys_from (suc n) h below (Some o) = added_keys h below o ++ keys_from n h (below ++ o ∷ []) (proto_of (object_at h o))

abbrev pub keys : Objects → ℕ → List (List ℕ)
keys h o = keys_from (length h.list) h [] (Some o)
