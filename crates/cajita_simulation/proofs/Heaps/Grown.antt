-- A store with one object more: what stands at each place, which objects have names in the log, and the next name.
use Rattle.std.proofs.Common.{◌≡◌, ◌≢◌, ℕ, suc, ◌<◌, List, [], ◌∷◌, Option, Some, None, length, refl, ap, ◌∙◌, ◌⊎◌, inl, inr, arith}
use Rattle.std.specs.Prelude.{slice_get}
use Rattle.std.proofs.lemmas.List.{length-append}
use Rattle.std.proofs.lemmas.Option.{slice_get_within}
use Rattle.es3_objects.specs.declared.value.Tag.TheVariants as tag
use Rattle.es3_heap.specs.Objects.{Object, Objects, object_at, tag_of}
use Rattle.es3_heap.specs.Making.{count_at, raised}
use Rattle.cajita_simulation.proofs.Heaps.Lists.{slice_get-set, slice_get-set-other, slice_get-push, slice_get-push-other, slice_get-push-cases}
use Rattle.cajita_simulation.proofs.Heaps.Made.{grown, next_name, with_named}

pub length-grown : (h : Objects) (x : Object) (counts : List ℕ) → length (grown h x counts).list ≡ suc (length h.list)
length-grown h x counts = omega (arith, length-append h.list (x ∷ []))

pub grown_last : (h : Objects) (x : Object) (counts : List ℕ) → object_at (grown h x counts) (length h.list) ≡ Some x
grown_last h x counts = slice_get-push h.list x

-- an object that is there stays
pub grown_kept : (h : Objects) (x : Object) (counts : List ℕ) (i : ℕ) (o : Object) → object_at h i ≡ Some o → object_at (grown h x counts) i ≡ Some o
grown_kept h x counts i o there = slice_get-push-other h.list i x (slice_get_within h.list i o there) ∙ there

-- an object that is there was there, or is the new one
pub grown_cases : (h : Objects) (x : Object) (counts : List ℕ) (i : ℕ) (o : Object) → object_at (grown h x counts) i ≡ Some o → (object_at h i ≡ Some o) ⊎ ((i ≡ length h.list) × (x ≡ o))
grown_cases h x counts i o there = slice_get-push-cases h.list x i o there

-- a name in the log is that of an object
pub named_object : (found : Option Object) (m n : ℕ) → tag_of found ≡ tag.Made m n → (o : Object) × (found ≡ Some o) × (o.tag ≡ tag.Made m n)
named_object None m n is = cc
named_object (Some o) m n is = (o, refl, is)

pub tag_kept : (h : Objects) (x : Object) (counts : List ℕ) (i m n : ℕ) → tag_of (object_at h i) ≡ tag.Made m n → tag_of (object_at (grown h x counts) i) ≡ tag.Made m n
tag_kept h x counts i m n is =
    let o = named_object (object_at h i) m n is in
    rw (grown_kept h x counts i o.0 o.1) o.2

-- an object that has a name had it, or is the new one
pub tag_cases : (h : Objects) (x : Object) (counts : List ℕ) (i m n : ℕ) → tag_of (object_at (grown h x counts) i) ≡ tag.Made m n → (tag_of (object_at h i) ≡ tag.Made m n) ⊎ ((i ≡ length h.list) × (x.tag ≡ tag.Made m n))
tag_cases h x counts i m n is =
    let o = named_object (object_at (grown h x counts) i) m n is in
    elim (grown_cases h x counts i o.0 o.1) [
      | inl there ↦ inl (rw there o.2)
      | inr new ↦ inr (new.0, rw new.1 o.2)
    ]

-- what a module's next name is, and the count after it
pub next_name_is : (h : Objects) (m n : ℕ) → slice_get h.counts m ≡ Some n → next_name h m ≡ tag.Made m n
next_name_is h m n counted = rw counted refl

pub count_next : (h : Objects) (o : Object) (m n : ℕ) → slice_get h.counts m ≡ Some n → n < 4294967295 → slice_get (with_named h o m).counts m ≡ Some (suc n)
count_next h o m n counted few =
    let one : raised (count_at (slice_get h.counts m)) ≡ suc n = rw counted (omega arith) in
    slice_get-set h.counts m n _ counted ∙ ap (λ (k : ℕ). let found : Option ℕ = Some k in found) one

pub count_other : (h : Objects) (o : Object) (m j : ℕ) → j ≢ m → slice_get (with_named h o m).counts j ≡ slice_get h.counts j
count_other h o m j ne = slice_get-set-other h.counts m j _ ne
