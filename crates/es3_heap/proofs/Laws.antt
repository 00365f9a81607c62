-- What a write leaves at an object and at the others.
use Rattle.std.proofs.Common.{◌≡◌, ◌≢◌, ℕ, zero, suc, ◌<◌, true, false, List, [], ◌∷◌, ◌++◌, Option, Some, None, length, set, cond, refl, ap, ◌∙◌, arith}
use Rattle.std.specs.Prelude.{slice_get}
use Rattle.std.proofs.Math.ListN.{length-set}
use Rattle.std.proofs.lemmas.Option.{slice_get_within}
use Rattle.es3_objects.specs.declared.value.Value.{Value}
use Rattle.es3_objects.specs.declared.value.Attrs.{Attrs}
use Rattle.es3_objects.specs.Reading.{property}
use Rattle.es3_objects.proofs.Laws.{attrs_of, find-written, find-lengthened}
use Rattle.es3_heap.specs.Objects.{Property, Object, Objects, class_of, props_of, object_at, with_object}
use Rattle.es3_heap.specs.Properties.{own, get, value_of, lookup_from, lengthened, written, with_props, can_put, put, define, delete}

-- elements of a list, by places

slice_get-set : {X : Type 0} (xs : List X) (i : ℕ) (x y : X) → slice_get xs i ≡ Some x → slice_get (set xs i y) i ≡ Some y
slice_get-set [] i x y h = cc
slice_get-set (z ∷ zs) zero x y h = refl
slice_get-set (z ∷ zs) (suc i) x y h = slice_get-set zs i x y h

slice_get-set-other : {X : Type 0} (xs : List X) (n i : ℕ) (y : X) → n ≢ i → slice_get (set xs i y) n ≡ slice_get xs n
slice_get-set-other [] n i y ne = refl
slice_get-set-other (z ∷ zs) zero zero y ne = absurd (ne refl)
slice_get-set-other (z ∷ zs) zero (suc i) y ne = refl
slice_get-set-other (z ∷ zs) (suc n) zero y ne = refl
slice_get-set-other (z ∷ zs) (suc n) (suc i) y ne = slice_get-set-other zs n i y (λ e. ne (ap suc e))

slice_get-push : {X : Type 0} (xs : List X) (y : X) → slice_get (xs ++ y ∷ []) (length xs) ≡ Some y
slice_get-push [] y = refl
slice_get-push (z ∷ zs) y = slice_get-push zs y

slice_get-push-other : {X : Type 0} (xs : List X) (n : ℕ) (y : X) → n < length xs → slice_get (xs ++ y ∷ []) n ≡ slice_get xs n
slice_get-push-other [] n y h = absurd (omega arith)
slice_get-push-other (z ∷ zs) zero y h = refl
slice_get-push-other (z ∷ zs) (suc n) y h = slice_get-push-other zs n y (omega arith)

-- a new object is the last, and the others are as they were
pub object_at-with_object : (h : Objects) (x : Object) → object_at (with_object h x) (length h.list) ≡ Some x
object_at-with_object h x = slice_get-push h.list x

pub object_at-with_object-other : (h : Objects) (n : ℕ) (x : Object) → n < length h.list → object_at (with_object h x) n ≡ object_at h n
object_at-with_object-other h n x less = slice_get-push-other h.list n x less

-- the properties that a write leaves
abbrev props_after : Objects → ℕ → List ℕ → Value → List Property
props_after h o k v = lengthened (class_of (object_at h o)) k (written k v (props_of (object_at h o)))

-- a write leaves other objects as they were
with_props-other : (h : Objects) (o n : ℕ) (x : Option Object) (ps : List Property) → n ≢ o → object_at (with_props h o x ps) n ≡ object_at h n
with_props-other h o n None ps ne = refl
with_props-other h o n (Some x) ps ne = slice_get-set-other h.list n o _ ne

pub object_at-put-other : (h : Objects) (o n : ℕ) (k : List ℕ) (v : Value) → n ≢ o → object_at (put h o k v) n ≡ object_at h n
object_at-put-other h o n k v ne =
    elim (can_put h o k) as (λ b. object_at (cond b (with_props h o (object_at h o) (props_after h o k v)) h) n ≡ object_at h n) [
      | true ↦ with_props-other h o n (object_at h o) (props_after h o k v) ne
      | false ↦ refl
    ]

pub object_at-define-other : (h : Objects) (o n : ℕ) (k : List ℕ) (v : Value) (a : Attrs) → n ≢ o → object_at (define h o k v a) n ≡ object_at h n
object_at-define-other h o n k v a ne = with_props-other h o n (object_at h o) _ ne

-- a write makes no object
length-with_props : (h : Objects) (o : ℕ) (x : Option Object) (ps : List Property) → length (with_props h o x ps).list ≡ length h.list
length-with_props h o None ps = refl
length-with_props h o (Some x) ps = length-set h.list o _

pub length-put : (h : Objects) (o : ℕ) (k : List ℕ) (v : Value) → length (put h o k v).list ≡ length h.list
length-put h o k v =
    elim (can_put h o k) as (λ b. length (cond b (with_props h o (object_at h o) (props_after h o k v)) h).list ≡ length h.list) [
      | true ↦ length-with_props h o (object_at h o) (props_after h o k v)
      | false ↦ refl
    ]

pub length-define : (h : Objects) (o : ℕ) (k : List ℕ) (v : Value) (a : Attrs) → length (define h o k v a).list ≡ length h.list
length-define h o k v a = length-with_props h o (object_at h o) _

-- 8.6.2.2: a property that may be written has the value that was written, and the attributes that it had
pub own-put : (h : Objects) (o : ℕ) (k : List ℕ) (v : Value) (x : Object) → object_at h o ≡ Some x → can_put h o k ≡ true → own (put h o k v) o k ≡ Some (property k v (attrs_of (own h o k)))
own-put h o k v x there may =
    rw (may, there) (rw (slice_get-set h.list o x _ there) (find-lengthened x.class k (written k v x.props) ∙ find-written k v x.props))

lookup_from-own : (n : ℕ) (h : Objects) (o : ℕ) (k : List ℕ) (p : Property) → 0 < n → own h o k ≡ Some p → lookup_from n h (Some o) k ≡ Some p
lookup_from-own zero h o k p some here = absurd (omega arith)
lookup_from-own (suc n) h o k p some here = rw here refl

-- 8.6.2.1, 8.6.2.2: what was written is read
pub get-put : (h : Objects) (o : ℕ) (k : List ℕ) (v : Value) (x : Object) → object_at h o ≡ Some x → can_put h o k ≡ true → get (put h o k v) o k ≡ v
get-put h o k v x there may =
    let within = slice_get_within h.list o x there in
    ap value_of (lookup_from-own _ (put h o k v) o k _ (omega (arith, within, length-put h o k v)) (own-put h o k v x there may))

pub length-delete : (h : Objects) (o : ℕ) (k : List ℕ) → length (delete h o k).list ≡ length h.list
length-delete h o k = length-with_props h o (object_at h o) _
