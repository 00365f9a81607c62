-- A store whose first objects are those that a page begins with: what keeps them, and what is read of them.
use Rattle.std.proofs.Common.{◌≡◌, ℕ, zero, suc, ◌<◌, ◌≤◌, List, [], ◌∷◌, Some, length, refl, ◌∙◌, arith, lit<}
use Rattle.std.proofs.lemmas.List.{length-append}
use Rattle.es3_heap.specs.Objects.{Property, Object, Objects, object_at, with_object}
use Rattle.es3_heap.specs.Properties.{own, lookup_from, get}
use Rattle.heap_rows.specs.Opening.{first, first_count}
use Rattle.cajita_simulation.proofs.Heaps.Lists.{slice_get-push-other}
use Rattle.cajita_simulation.proofs.Heaps.Made.{grown, with_named}

pub record IsOpened (h : Objects) : Type 0 where
  pub first : (i : ℕ) → i < first_count → object_at h i ≡ object_at first i
  pub large : first_count ≤ length h.list

pub first-opened : IsOpened first
unfolding first
first-opened = record { first = λ i less. refl; large = lit< tt }

-- a new last object keeps them, whatever is counted
pub opened_grown : (h : Objects) (x : Object) (counts : List ℕ) → IsOpened h → IsOpened (grown h x counts)
opened_grown h x counts is = record {
  first = λ i less. slice_get-push-other h.list i x (omega (arith, is.large)) ∙ is.first i less;
  large = omega (arith, is.large, length-append h.list (x ∷ []));
}

pub opened_kept : (h : Objects) (o : Object) → IsOpened h → IsOpened (with_object h o)
opened_kept h o is = opened_grown h o h.counts is

pub opened_kept-named : (h : Objects) (o : Object) (m : ℕ) → IsOpened h → IsOpened (with_named h o m)
opened_kept-named h o m is = opened_grown h _ _ is

pub first_at : (h : Objects) (i : ℕ) (x : Object) → IsOpened h → i < first_count → object_at first i ≡ Some x → object_at h i ≡ Some x
first_at h i x is less there = is.first i less ∙ there

-- an object's own property is found
pub lookup_from-own : (n : ℕ) (h : Objects) (o : ℕ) (k : List ℕ) (p : Property) → 0 < n → own h o k ≡ Some p → lookup_from n h (Some o) k ≡ Some p
lookup_from-own zero h o k p some here = absurd (omega arith)
lookup_from-own (suc n) h o k p some here = rw here refl

-- of the first objects the own properties are read as they were
pub get_first : (h : Objects) (i : ℕ) (k : List ℕ) (p : Property) → IsOpened h → i < first_count → own first i k ≡ Some p → get h i k ≡ p.value
get_first h i k p is less here =
    let same : own h i k ≡ Some p = rw (is.first i less) here in
    rw (lookup_from-own (length h.list) h i k p (omega (arith, is.large)) same) refl
