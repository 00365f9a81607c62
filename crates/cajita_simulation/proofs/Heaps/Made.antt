-- A new object, its name in the log, and the properties that it is given while it is the last.
use Rattle.std.proofs.Common.{◌≡◌, ℕ, true, List, [], ◌∷◌, ◌++◌, length, ap}
use Rattle.std.specs.Prelude.{slice_get, slice_set}
use Rattle.std.proofs.Math.Seq.{set-append_seam}
use Rattle.es3_objects.specs.declared.value.Value.{Value}
use Rattle.es3_objects.specs.declared.value.Attrs.{Attrs}
use Rattle.es3_objects.specs.declared.value.Tag.{Tag}
use Rattle.es3_objects.specs.declared.value.Tag.TheVariants as tag
use Rattle.es3_heap.specs.Objects.{Property, Object, Objects, with_object, replaced}
use Rattle.es3_heap.specs.Properties.{defined, define}
use Rattle.es3_heap.specs.Making.{count_at, raised, is_untagged, named}
use Rattle.es3_heap.proofs.Laws.{object_at-with_object}

-- the object with another name, and with other properties
abbrev pub tagged : Object → Tag → Object
tagged o t = record { class = o.class; proto = o.proto; callable = o.callable; tag = t; props = o.props }

abbrev pub with_properties : Object → List Property → Object
with_properties o ps = record { class = o.class; proto = o.proto; callable = o.callable; tag = o.tag; props = ps }

-- a new last object, and these counts
abbrev pub grown : Objects → Object → List ℕ → Objects
grown h x counts = record { list = h.list ++ x ∷ []; counts = counts }

-- the next name of a module
abbrev pub next_name : Objects → ℕ → Tag
next_name h m = tag.Made m (count_at (slice_get h.counts m))

-- a new object with the next name of a module
abbrev pub with_named : Objects → Object → ℕ → Objects
with_named h o m = grown h (tagged o (next_name h m)) (slice_set h.counts m (raised (count_at (slice_get h.counts m))))

-- the last object, replaced
pub replaced_new : (h : Objects) (o x : Object) → replaced (with_object h o) (length h.list) x ≡ with_object h x
replaced_new h o x = ap (λ list. let g : Objects = record { list = list; counts = h.counts } in g) (set-append_seam h.list o [] x)

pub named_new : (h : Objects) (o : Object) (m : ℕ) → o.tag ≡ tag.None → named (with_object h o) (length h.list) m ≡ with_named h o m
named_new h o m bare =
    let x = tagged o (next_name h m) in
    let free : is_untagged o.tag ≡ true = ap is_untagged bare in
    rw (object_at-with_object h o, free) (ap (λ list. let g : Objects = record { list = list; counts = slice_set h.counts m (raised (count_at (slice_get h.counts m))) } in g) (set-append_seam h.list o [] x))

pub defined_new : (h : Objects) (o : Object) (k : List ℕ) (v : Value) (a : Attrs) → define (with_object h o) (length h.list) k v a ≡ with_object h (with_properties o (defined k v a o.props))
defined_new h o k v a = rw (object_at-with_object h o) (replaced_new h o (with_properties o (defined k v a o.props)))
