-- Live objects: an object that something names is one of the store's (ES3 8.6). Nothing is ever taken out of a store, so what is live stays live.
use Rattle.std.specs.Prelude.{◌≡◌, ℕ, ◌<◌, ◌≤◌, Option, Some, None, All, length}
use Rattle.es3_objects.specs.declared.value.Value.{Value}
use Rattle.es3_objects.specs.declared.value.Value.TheVariants.{Obj}
use Rattle.es3_heap.specs.Objects.{Property, Object, Objects, object_at, class_of, callable_of}

-- a value, where there are so many objects
abbrev pub IsLive : ℕ → Value → Type 0
IsLive n (Obj o) = o < n
IsLive n v = Unit {0}

-- a number of an object, where there is one
abbrev pub IsLiveId : ℕ → Option ℕ → Type 0
IsLiveId n None = Unit {0}
IsLiveId n (Some o) = o < n

-- an object that names only live ones: its prototype, and the values of its properties
pub record HoldsLive (n : ℕ) (o : Object) : Type 0 where
  pub proto : IsLiveId n o.proto
  pub values : All (λ (p : Property). IsLive n p.value) o.props

-- a store's objects: the ten prototypes are there, and each object names only live ones
pub record AreClosed (h : Objects) : Type 0 where
  pub prototypes : 10 ≤ length h.list
  pub objects : All (HoldsLive (length h.list)) h.list

-- a store's objects, later: none is gone, and those that were there are of the same class and run the same when they are called
pub record Later (h h' : Objects) : Type 0 where
  pub more : length h.list ≤ length h'.list
  pub classes : (o : ℕ) → o < length h.list → class_of (object_at h' o) ≡ class_of (object_at h o)
  pub functions : (o : ℕ) → o < length h.list → callable_of (object_at h' o) ≡ callable_of (object_at h o)
