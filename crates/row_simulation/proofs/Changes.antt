-- What is left of the correspondence when an object that a module made changes, and when one is made.
use Rattle.std.proofs.Common.{◌≡◌, ◌≢◌, ℕ, zero, suc, ◌+◌, ◌≤◌, ◌<◌, true, false, List, [], ◌∷◌, ◌++◌, length, Option, Some, None, cond, refl, sym, ap, ◌∙◌, subst, arith}
use Rattle.std.specs.Prelude.{slice_get, slice_set, nat_eq}
use Rattle.std.proofs.lemmas.Option.{slice_get_within, none-some}
use Rattle.std.proofs.lemmas.List.{length-append}
use Rattle.std.proofs.lemmas.Bool.Decides.{nat_tests}
use Rattle.es3_objects.specs.declared.value.Class.TheVariants as class
use Rattle.es3_objects.specs.declared.value.Tag.{Tag}
use Rattle.es3_objects.specs.declared.value.Tag.TheVariants as tag
use Rattle.es3_heap.specs.Objects as heap
use Rattle.es3_heap.specs.Objects.{Property, Objects, object_at, replaced, with_object}
use Rattle.es3_heap.specs.Properties.{find}
use Rattle.es3_heap.specs.Making.{count_at, raised, named, is_untagged}
use Rattle.es3_heap.proofs.Laws.{object_at-with_object}
use Rattle.rows.specs.Rows as r
use Rattle.cajita_meaning.specs.World.{Name, made_name, built_name, facet_name, Object, World, with_list, with_last, with_made}
use Rattle.heap_rows.specs.Marks.{read_mark, set_mark}
use Rattle.row_simulation.proofs.Names.{name_there, name_at, known_name, made_known}
use Rattle.row_simulation.proofs.Relation.{Named, tag_of_name, Is, IsNamed, Stands, IsMarked, ObjectsAre, Keeps, NoNewNode, named_keep}

-- lists

pub get-set : {X : Type 0} (xs : List X) (i : ℕ) (x y : X) → slice_get xs i ≡ Some x → slice_get (slice_set xs i y) i ≡ Some y
get-set [] i x y there = cc
get-set (z ∷ zs) zero x y there = refl
get-set (z ∷ zs) (suc i) x y there = get-set zs i x y there

pub get-set-other : {X : Type 0} (xs : List X) (i j : ℕ) (y : X) → j ≢ i → slice_get (slice_set xs i y) j ≡ slice_get xs j
get-set-other [] i j y ne = refl
get-set-other (z ∷ zs) zero zero y ne = absurd (ne refl)
get-set-other (z ∷ zs) (suc i) zero y ne = refl
get-set-other (z ∷ zs) zero (suc j) y ne = refl
get-set-other (z ∷ zs) (suc i) (suc j) y ne = get-set-other zs i j y (λ e. ne (ap suc e))

pub set-set : {X : Type 0} (xs : List X) (i : ℕ) (x y : X) → slice_set (slice_set xs i x) i y ≡ slice_set xs i y
set-set [] i x y = refl
set-set (z ∷ zs) zero x y = refl
set-set (z ∷ zs) (suc i) x y = ap (λ l. z ∷ l) (set-set zs i x y)

length-of-set : {X : Type 0} (xs : List X) (i : ℕ) (y : X) → length (slice_set xs i y) ≡ length xs
length-of-set [] i y = refl
length-of-set (z ∷ zs) zero y = refl
length-of-set (z ∷ zs) (suc i) y = ap suc (length-of-set zs i y)

-- by whether two numbers are the same
pub by_number : (i j : ℕ) (P : Type 0) → (i ≡ j → P) → (i ≢ j → P) → P
by_number i j P same other = elim (nat_eq i j) as (λ b. nat_eq i j ≡ b → P) [
  | true ↦ λ e. same (grind (arith, nat_tests))
  | false ↦ λ e. other (λ f. grind (arith, nat_tests))
] refl

-- an object with other properties

abbrev pub with_properties : heap.Object → List Property → heap.Object
with_properties o ps = record { class = o.class; proto = o.proto; callable = o.callable; tag = o.tag; props = ps }

abbrev pub revised : Objects → ℕ → heap.Object → List Property → Objects
revised h i o ps = replaced h i (with_properties o ps)

pub revised_there : (h : Objects) (i : ℕ) (o : heap.Object) (ps : List Property) → object_at h i ≡ Some o → object_at (revised h i o ps) i ≡ Some (with_properties o ps)
revised_there h i o ps there = get-set h.list i o (with_properties o ps) there

pub revised_other : (h : Objects) (i j : ℕ) (o : heap.Object) (ps : List Property) → j ≢ i → object_at (revised h i o ps) j ≡ object_at h j
revised_other h i j o ps ne = get-set-other h.list i j (with_properties o ps) ne

pub revised_twice : (h : Objects) (i : ℕ) (o : heap.Object) (ps qs : List Property) → replaced (revised h i o ps) i (with_properties o qs) ≡ revised h i o qs
revised_twice h i o ps qs = ap (λ l. let g : Objects = record { list = l; counts = h.counts } in g) (set-set h.list i (with_properties o ps) (with_properties o qs))

-- what doesn't look at properties is as it was
revised_part : {X : Type 0} (f : Option heap.Object → X) → ((o : heap.Object) (ps : List Property) → f (Some (with_properties o ps)) ≡ f (Some o)) → (h : Objects) (i j : ℕ) (o : heap.Object) (ps : List Property) → object_at h i ≡ Some o → f (object_at (revised h i o ps) j) ≡ f (object_at h j)
revised_part f blind h i j o ps there =
    by_number j i (f (object_at (revised h i o ps) j) ≡ f (object_at h j))
    (λ same. ap (λ k. f (object_at (revised h i o ps) k)) same ∙ ap f (revised_there h i o ps there) ∙ blind o ps ∙ ap f (sym there) ∙ ap (λ k. f (object_at h k)) (sym same))
    (λ other. ap f (revised_other h i j o ps other))

pub revised_tag : (h : Objects) (i j : ℕ) (o : heap.Object) (ps : List Property) → object_at h i ≡ Some o → heap.tag_of (object_at (revised h i o ps) j) ≡ heap.tag_of (object_at h j)
revised_tag h i j o ps there = revised_part heap.tag_of (λ o ps. refl) h i j o ps there

-- the object that changes has a name and is no function
pub revised_keeps : (h : Objects) (n : Name) (i : ℕ) (o : heap.Object) (ps : List Property) → Named h n i → object_at h i ≡ Some o → (o.class ≡ class.Function → ⊥) → Keeps h (revised h i o ps)
revised_keeps h n i o ps name there no_function = record {
  named = λ k j p. revised_tag h i j o ps there ∙ p;
  bare = λ j lt e k. revised_other h i j o ps (λ same. name_there n (sym e ∙ ap (λ l. heap.tag_of (object_at h l)) same ∙ name));
  plain = λ j lt e k. (revised_tag h i j o ps there ∙ e, revised_part heap.class_of (λ o ps. refl) h i j o ps there ∙ k);
  functions = λ j lt e. revised_other h i j o ps (λ same. no_function (sym (ap (λ l. heap.class_of (object_at h l)) same ∙ ap heap.class_of there) ∙ e));
  long = let l = length-of-set h.list i (with_properties o ps) in omega (arith, l);
  counted = λ m. omega arith;
  older = λ m k j t lt. sym (revised_tag h i j o ps there) ∙ t;
}

pub revised_no_node : (h : Objects) (i : ℕ) (o : heap.Object) (ps : List Property) → object_at h i ≡ Some o → NoNewNode h (revised h i o ps)
revised_no_node h i o ps there = record { older = λ root k j t. sym (revised_tag h i j o ps there) ∙ t }

-- the world's side

same_module : (n : ℕ) → nat_eq n n ≡ true
same_module n = grind (arith, nat_tests)

list_there : {A : Type 0} (m : ℕ) (xs : List A) (lists : ℕ → List A) → with_list m xs lists m ≡ xs
list_there m xs lists = rw (same_module m) refl

list_other : {A : Type 0} (m n : ℕ) (xs : List A) (lists : ℕ → List A) → n ≢ m → with_list m xs lists n ≡ lists n
list_other m n xs lists ne =
    let cases = elim (nat_eq n m) as (λ b. nat_eq n m ≡ b → cond b xs (lists n) ≡ lists n) [
      | true ↦ λ e. absurd (ne (grind (arith, nat_tests)))
      | false ↦ λ e. refl
    ] in cases refl

pub made_there : (w : World) (a b : ℕ) (o o' : Object) → slice_get (w.objects a) b ≡ Some o → slice_get ((with_made a b o' w).objects a) b ≡ Some o'
made_there w a b o o' known = rw (list_there a (slice_set (w.objects a) b o') w.objects) (get-set (w.objects a) b o o' known)

pub made_other : (w : World) (a b c d : ℕ) (o' : Object) → (a ≡ c → b ≡ d → ⊥) → slice_get ((with_made a b o' w).objects c) d ≡ slice_get (w.objects c) d
made_other w a b c d o' apart =
    by_number c a (slice_get ((with_made a b o' w).objects c) d ≡ slice_get (w.objects c) d)
    (λ same. subst (λ n. slice_get ((with_made a b o' w).objects n) d ≡ slice_get (w.objects n) d) (sym same) (rw (list_there a (slice_set (w.objects a) b o') w.objects) (get-set-other (w.objects a) b d o' (λ e. apart (sym same) (sym e)))))
    (λ other. ap (λ l. slice_get l d) (list_other a c (slice_set (w.objects a) b o') w.objects other))

pub made_length : (w : World) (a b c : ℕ) (o' : Object) → length ((with_made a b o' w).objects c) ≡ length (w.objects c)
made_length w a b c o' =
    by_number c a (length ((with_made a b o' w).objects c) ≡ length (w.objects c))
    (λ same. subst (λ n. length ((with_made a b o' w).objects n) ≡ length (w.objects n)) (sym same) (rw (list_there a (slice_set (w.objects a) b o') w.objects) (length-of-set (w.objects a) b o')))
    (λ other. ap length (list_other a c (slice_set (w.objects a) b o') w.objects other))

-- what a named object is, in a world in which another one has changed
pub made_still : (w : World) (h : Objects) (a b : ℕ) (o' : Object) (k : Name) (c : heap.Object) → (k ≡ made_name a b → ⊥) → IsNamed w.objects h k c → IsNamed (with_made a b o' w).objects h k c
made_still w h a b o' (made_name d e) c ne is = record { object = is.object; known = made_other w a b d e o' (λ x y. ne (ap (λ n. made_name n e) (sym x) ∙ ap (made_name a) (sym y))) ∙ is.known; is = is.is }
made_still w h a b o' k c ne is = is

-- an object with a name, no function, has other properties, and the world may have another object of this name
pub objects_revised : {first : Objects} {places : r.Native → ℕ} {m : ℕ} {h : Objects} (objects objects' : ℕ → List Object) → ObjectsAre first places objects h m → (n : Name) (i : ℕ) (c : heap.Object) (ps : List Property)
    → Named h n i → name_at (tag_of_name n) ≡ Some n → object_at h i ≡ Some c → (c.class ≡ class.Function → ⊥) → IsNamed objects' h n (with_properties c ps)
    → ((k : Name) (o : heap.Object) → (k ≡ n → ⊥) → IsNamed objects h k o → IsNamed objects' h k o) → ((k : ℕ) → length (objects' k) ≡ length (objects k))
    → ((k : List ℕ) (p : Property) → find (read_mark k) ps ≡ Some p → c.class ≡ class.Object)
    → ((k : List ℕ) (p : Property) → find (set_mark k) ps ≡ Some p → c.class ≡ class.Object)
    → ObjectsAre first places objects' (revised h i c ps) m
objects_revised {first = first} {m = m} {h = h} objects objects' old n i c ps name known there no_function is others counts marks_read marks_set = record {
  each = λ k j t. let u : Named h k j = sym (revised_tag h i j c ps there) ∙ t in by_number j i (Stands objects' g k j) (λ same. here k j same u) (λ ne. away k j ne u);
  once = λ k j l t u. old.once k j l (sym (revised_tag h i j c ps there) ∙ t) (sym (revised_tag h i l c ps there) ∙ u);
  natives = λ f common. keeps.named (built_name f) _ (old.natives f common);
  reads = λ j k p e. by_number j i (IsMarked g j) (λ same. marked j same (marks_read k p (sym (ap (λ q. find (read_mark k) (heap.props_of q)) (ap (object_at g) same ∙ revised_there h i c ps there)) ∙ e))) (λ ne. unmoved j ne (old.reads j k p (sym (ap (λ q. find (read_mark k) (heap.props_of q)) (revised_other h i j c ps ne)) ∙ e)));
  sets = λ j k p e. by_number j i (IsMarked g j) (λ same. marked j same (marks_set k p (sym (ap (λ q. find (set_mark k) (heap.props_of q)) (ap (object_at g) same ∙ revised_there h i c ps there)) ∙ e))) (λ ne. unmoved j ne (old.sets j k p (sym (ap (λ q. find (set_mark k) (heap.props_of q)) (revised_other h i j c ps ne)) ∙ e)));
  above = λ j p e. old.above j p (sym (revised_part heap.proto_of (λ o ps. refl) h i j c ps there) ∙ e);
  count = λ k lt. old.count k lt ∙ ap (λ n. let q : Option ℕ = Some n in q) (sym (counts k));
  few = λ k. subst (λ n. n ≤ m) (sym (counts k)) (old.few k);
  opened = λ j lt. revised_other h i j c ps (λ same. old.unnamed j n lt (ap (λ l. heap.tag_of (object_at h l)) same ∙ name)) ∙ old.opened j lt;
  unnamed = λ j k lt t. old.unnamed j k lt (sym (revised_tag h i j c ps there) ∙ t);
  large = subst (λ n. length first.list ≤ n) (sym (length-of-set h.list i (with_properties c ps))) old.large;
}
  where
    g : Objects
    g = revised h i c ps

    keeps : Keeps h (revised h i c ps)
    keeps = revised_keeps h n i c ps name there no_function

    marked : (j : ℕ) → j ≡ i → c.class ≡ class.Object → IsMarked (revised h i c ps) j
    marked j same object = record { name = n; named = revised_tag h i j c ps there ∙ ap (λ l. heap.tag_of (object_at h l)) same ∙ name; class = revised_part heap.class_of (λ o ps. refl) h i j c ps there ∙ ap (λ l. heap.class_of (object_at h l)) same ∙ ap heap.class_of there ∙ object }

    unmoved : (j : ℕ) → j ≢ i → IsMarked h j → IsMarked (revised h i c ps) j
    unmoved j ne x = record { name = x.name; named = ap heap.tag_of (revised_other h i j c ps ne) ∙ x.named; class = ap heap.class_of (revised_other h i j c ps ne) ∙ x.class }

    here : (k : Name) (j : ℕ) → j ≡ i → Named h k j → Stands objects' (revised h i c ps) k j
    here k j same t =
        let alike : k ≡ n = known_name n k known (sym t ∙ ap (λ l. heap.tag_of (object_at h l)) same ∙ name) in
        record {
          stored = with_properties c ps;
          there = ap (object_at (revised h i c ps)) same ∙ revised_there h i c ps there;
          is = subst (λ q. IsNamed objects' (revised h i c ps) q (with_properties c ps)) (sym alike) (named_keep objects' (revised_keeps h n i c ps name there no_function) n (with_properties c ps) is);
        }

    away : (k : Name) (j : ℕ) → j ≢ i → Named h k j → Stands objects' (revised h i c ps) k j
    away k j ne t =
        let s = old.each k j t in
        record {
          stored = s.stored;
          there = revised_other h i j c ps ne ∙ s.there;
          is = named_keep objects' (revised_keeps h n i c ps name there no_function) k s.stored (others k s.stored (λ e. ne (old.once n j i (t ∙ ap tag_of_name e) name)) s.is);
        }

-- a new object with the next name of the running module

pub cases_at : {A : Type 0} (xs : List A) (x : A) (i : ℕ) (P : Option A → Type 0) → (i < length xs → P (slice_get xs i)) → (i ≡ length xs → P (Some x)) → P None → P (slice_get (xs ++ x ∷ []) i)
cases_at [] x zero P a b c = b refl
cases_at [] x (suc i) P a b c = c
cases_at (y ∷ ys) x zero P a b c = a (omega arith)
cases_at (y ∷ ys) x (suc i) P a b c = cases_at ys x i P (λ lt. a (omega arith)) (λ e. b (ap suc e)) c

pub get-push : {X : Type 0} (xs : List X) (y : X) → slice_get (xs ++ y ∷ []) (length xs) ≡ Some y
get-push [] y = refl
get-push (z ∷ zs) y = get-push zs y

pub get-push-other : {X : Type 0} (xs : List X) (j : ℕ) (y : X) → j < length xs → slice_get (xs ++ y ∷ []) j ≡ slice_get xs j
get-push-other [] j y less = absurd (omega arith)
get-push-other (z ∷ zs) zero y less = refl
get-push-other (z ∷ zs) (suc j) y less = get-push-other zs j y (omega arith)

abbrev pub tagged : heap.Object → Tag → heap.Object
tagged o t = record { class = o.class; proto = o.proto; callable = o.callable; tag = t; props = o.props }

abbrev pub with_named : Objects → heap.Object → ℕ → Objects
with_named h o m = record { list = h.list ++ tagged o (tag.Made m (count_at (slice_get h.counts m))) ∷ []; counts = slice_set h.counts m (raised (count_at (slice_get h.counts m))) }

set-last : {X : Type 0} (xs : List X) (x y : X) → slice_set (xs ++ x ∷ []) (length xs) y ≡ xs ++ y ∷ []
set-last [] x y = refl
set-last (z ∷ zs) x y = ap (λ l. z ∷ l) (set-last zs x y)

pub named_new : (h : Objects) (o : heap.Object) (m : ℕ) → o.tag ≡ tag.None → named (with_object h o) (length h.list) m ≡ with_named h o m
named_new h o m bare =
    let free : is_untagged o.tag ≡ true = ap is_untagged bare in
    rw (object_at-with_object h o, free) (ap (λ list. let g : Objects = record { list = list; counts = slice_set h.counts m (raised (count_at (slice_get h.counts m))) } in g) (set-last h.list o _))

pub last_there : {A : Type 0} (m : ℕ) (x : A) (lists : ℕ → List A) → with_last m x lists m ≡ lists m ++ x ∷ []
last_there m x lists = rw (same_module m) refl

pub last_other : {A : Type 0} (m n : ℕ) (x : A) (lists : ℕ → List A) → n ≢ m → with_last m x lists n ≡ lists n
last_other m n x lists ne =
    let cases = elim (nat_eq n m) as (λ b. nat_eq n m ≡ b → cond b (lists n ++ x ∷ []) (lists n) ≡ lists n) [
      | true ↦ λ e. absurd (ne (grind (arith, nat_tests)))
      | false ↦ λ e. refl
    ] in cases refl

pub last_kept : {A : Type 0} (m n i : ℕ) (x y : A) (lists : ℕ → List A) → slice_get (lists n) i ≡ Some y → slice_get (with_last m x lists n) i ≡ Some y
last_kept m n i x y lists there = elim (nat_eq n m) as (λ b. slice_get (cond b (lists n ++ x ∷ []) (lists n)) i ≡ Some y) [
  | true ↦ get-push-other (lists n) i x (slice_get_within (lists n) i y there) ∙ there
  | false ↦ there
]

-- what has a name is there
pub named_within : (h : Objects) (n : Name) (i : ℕ) → Named h n i → i < length h.list
named_within h n i e =
    let cases = elim (slice_get h.list i) as (λ o. slice_get h.list i ≡ o → heap.tag_of o ≡ tag_of_name n → i < length h.list) [
      | None ↦ λ is t. absurd (name_there n t)
      | Some o ↦ λ is t. slice_get_within h.list i o is
    ] in cases refl e

made_apart : (m n d k : ℕ) → tag.Made m n ≡ tag.Made d k → (m ≡ d) × (n ≡ k)
made_apart m n d k e = (cc, cc)

-- the next number of a module is none that it has given
pub next_number : (h : Objects) (by m k : ℕ) → tag.Made by (count_at (slice_get h.counts by)) ≡ tag.Made m k → k < count_at (slice_get h.counts m) → ⊥
next_number h by m k e lt =
    let same = made_apart by (count_at (slice_get h.counts by)) m k e in
    let number : count_at (slice_get h.counts m) ≡ k = ap (λ n. count_at (slice_get h.counts n)) (sym same.0) ∙ same.1 in
    omega (arith, lt, number)

-- a count that hasn't come to its end
pub grown : (h : Objects) (by m : ℕ) → count_at (slice_get h.counts by) < 4294967295 → count_at (slice_get h.counts m) ≤ count_at (slice_get (slice_set h.counts by (raised (count_at (slice_get h.counts by)))) m)
grown h by m few =
    by_number m by (count_at (slice_get h.counts m) ≤ count_at (slice_get (slice_set h.counts by n) m))
    (λ same. subst (λ j. count_at (slice_get h.counts j) ≤ count_at (slice_get (slice_set h.counts by (raised (count_at (slice_get h.counts by)))) j)) (sym same) (here (slice_get h.counts by) refl))
    (λ other. let e = ap count_at (get-set-other h.counts by m n other) in omega (arith, e))
  where
    n : ℕ
    n = raised (count_at (slice_get h.counts by))

    here : (o : Option ℕ) → slice_get h.counts by ≡ o → count_at (slice_get h.counts by) ≤ count_at (slice_get (slice_set h.counts by (raised (count_at (slice_get h.counts by)))) by)
    here None e = let z = ap count_at e in omega (arith, z)
    here (Some k) e = let z = ap count_at (get-set h.counts by k (raised (count_at (slice_get h.counts by))) e) in omega (arith, z, few)

pub named_keeps : (h : Objects) (x : heap.Object) (by : ℕ) → count_at (slice_get h.counts by) < 4294967295 → Keeps h (with_named h x by)
named_keeps h x by few = record {
  named = λ n i p. ap heap.tag_of (get-push-other h.list i _ (named_within h n i p)) ∙ p;
  bare = λ i lt e k. get-push-other h.list i _ lt;
  plain = λ i lt e k. (ap heap.tag_of (get-push-other h.list i _ lt) ∙ e, ap heap.class_of (get-push-other h.list i _ lt) ∙ k);
  functions = λ i lt e. get-push-other h.list i _ lt;
  long = let l = length-append h.list (tagged x (tag.Made by (count_at (slice_get h.counts by))) ∷ []) in omega (arith, l);
  counted = λ m. grown h by m few;
  older = λ m k i t lt. cases_at h.list (tagged x (tag.Made by (count_at (slice_get h.counts by)))) i (λ q. heap.tag_of q ≡ tag.Made m k → Named h (made_name m k) i) (λ less f. f) (λ at f. absurd (next_number h by m k f lt)) (λ f. absurd (name_there (made_name m k) f)) t;
}

made_no_facet : (m n root k : ℕ) → tag.Made m n ≡ tag.Facet root k → ⊥
made_no_facet m n root k e = cc

pub named_no_node : (h : Objects) (x : heap.Object) (by : ℕ) → NoNewNode h (with_named h x by)
named_no_node h x by = record {
  older = λ root k i t. cases_at h.list (tagged x (tag.Made by (count_at (slice_get h.counts by)))) i (λ q. heap.tag_of q ≡ tag.Facet root k → Named h (facet_name root k) i) (λ less f. f) (λ at f. absurd (made_no_facet by (count_at (slice_get h.counts by)) root k f)) (λ f. absurd (name_there (facet_name root k) f)) t;
}

-- what stood there stands there
pub before : (h : Objects) (x : heap.Object) (by i : ℕ) → i < length h.list → object_at (with_named h x by) i ≡ object_at h i
before h x by i lt = get-push-other h.list i _ lt

-- a new object that isn't marked, with the name that the world gives
pub record IsNew (first : Objects) (x : heap.Object) : Type 0 where
  pub bare : x.tag ≡ tag.None
  pub above : (p : ℕ) → x.proto ≡ Some p → p < length first.list
  pub reads : (k : List ℕ) → find (read_mark k) x.props ≡ None
  pub sets : (k : List ℕ) → find (set_mark k) x.props ≡ None

-- what a named object is, in a world that has one more
pub named_grown : (by : ℕ) (q : Object) (objects : ℕ → List Object) (h : Objects) (k : Name) (c : heap.Object) → IsNamed objects h k c → IsNamed (with_last by q objects) h k c
named_grown by q objects h (made_name a b) c is = record { object = is.object; known = last_kept by a b q is.object objects is.known; is = is.is }
named_grown by q objects h k c is = is

-- where steps are left, a module's count can rise
pub room : {first : Objects} {places : r.Native → ℕ} {m : ℕ} {objects : ℕ → List Object} {h : Objects} (by : ℕ) → by < 64 → suc m ≤ 4294967295 → ObjectsAre first places objects h m → count_at (slice_get h.counts by) < 4294967295
room by below few old = let f = old.few by in let same = ap count_at (old.count by below) in omega (arith, f, same, few)

pub objects_made : {first : Objects} {places : r.Native → ℕ} {m : ℕ} {h : Objects} (by : ℕ) (objects : ℕ → List Object) → by < 64 → ObjectsAre first places objects h m → (o : Object) (x : heap.Object) → suc m ≤ 4294967295 → IsNew first x → Is (with_named h x by) o (tagged x (tag.Made by (count_at (slice_get h.counts by)))) → ObjectsAre first places (with_last by o objects) (with_named h x by) (suc m)
objects_made {first = first} {m = m} {h = h} by objects below old o x few new is = record {
  each = λ k i t. cases_at h.list y i (λ q. heap.tag_of q ≡ tag_of_name k → Stands (with_last by o objects) g k i) (λ lt t. older k i lt (old.each k i t)) (λ at t. newest k i at t) (λ t. absurd (name_there k t)) t;
  once = λ k i j t u. one k i j t u;
  natives = λ f common. keeps.named (built_name f) _ (old.natives f common);
  reads = λ i k p e. cases_at h.list y i (λ q. find (read_mark k) (heap.props_of q) ≡ Some p → IsMarked g i) (λ lt f. marked_still i lt (old.reads i k p f)) (λ at f. absurd (none-some p (sym (new.reads k) ∙ f))) (λ f. absurd (none-some p f)) e;
  sets = λ i k p e. cases_at h.list y i (λ q. find (set_mark k) (heap.props_of q) ≡ Some p → IsMarked g i) (λ lt f. marked_still i lt (old.sets i k p f)) (λ at f. absurd (none-some p (sym (new.sets k) ∙ f))) (λ f. absurd (none-some p f)) e;
  above = λ i p e. cases_at h.list y i (λ q. heap.proto_of q ≡ Some p → p < length first.list) (λ lt f. old.above i p f) (λ at f. new.above p f) (λ f. absurd (none-some p f)) e;
  count = λ k lt. by_number k by (slice_get (slice_set h.counts by (raised (count_at (slice_get h.counts by)))) k ≡ Some (length (with_last by o objects k)))
      (λ same. subst (λ n. slice_get (slice_set h.counts by (raised (count_at (slice_get h.counts by)))) n ≡ Some (length (with_last by o objects n))) (sym same)
      (get-set h.counts by (length (objects by)) (raised (count_at (slice_get h.counts by))) (old.count by below) ∙ ap (λ n. let q : Option ℕ = Some n in q) (ap raised number ∙ raise ∙ sym longer)))
      (λ ne. get-set-other h.counts by k (raised (count_at (slice_get h.counts by))) ne ∙ old.count k lt ∙ ap (λ l. let q : Option ℕ = Some (length l) in q) (sym (last_other by k o objects ne)));
  few = λ k. by_number k by (length (with_last by o objects k) ≤ suc m) (λ same. subst (λ n. length (with_last by o objects n) ≤ suc m) (sym same) (let f = old.few by in omega (arith, longer, f))) (λ ne. subst (λ l. length l ≤ suc m) (sym (last_other by k o objects ne)) (let f = old.few k in omega (arith, f)));
  opened = λ i lt. before h x by i (omega (arith, lt, old.large)) ∙ old.opened i lt;
  unnamed = λ i k lt t. old.unnamed i k lt (ap heap.tag_of (sym (before h x by i (omega (arith, lt, old.large)))) ∙ t);
  large = let l = length-append h.list (y ∷ []) in omega (arith, l, old.large);
}
  where
    y : heap.Object
    y = tagged x (tag.Made by (count_at (slice_get h.counts by)))

    g : Objects
    g = with_named h x by

    keeps : Keeps h (with_named h x by)
    keeps = named_keeps h x by (room by below few old)

    number : count_at (slice_get h.counts by) ≡ length (objects by)
    number = ap count_at (old.count by below)

    longer : length (with_last by o objects by) ≡ length (objects by) + 1
    longer = ap length (last_there by o objects) ∙ length-append (objects by) (o ∷ [])

    raise : raised (length (objects by)) ≡ length (objects by) + 1
    raise = let f = old.few by in omega (arith, f, few)

    older : (k : Name) (i : ℕ) → i < length h.list → Stands objects h k i → Stands (with_last by o objects) (with_named h x by) k i
    older k i lt s = record { stored = s.stored; there = before h x by i lt ∙ s.there; is = named_keep (with_last by o objects) (named_keeps h x by (room by below few old)) k s.stored (named_grown by o objects h k s.stored s.is) }

    -- the new object's name
    new_name : (k : Name) → tag.Made by (count_at (slice_get h.counts by)) ≡ tag_of_name k → k ≡ made_name by (count_at (slice_get h.counts by))
    new_name k t = known_name (made_name by (count_at (slice_get h.counts by))) k (made_known by (count_at (slice_get h.counts by))) (sym t)

    newest : (k : Name) (i : ℕ) → i ≡ length h.list → tag.Made by (count_at (slice_get h.counts by)) ≡ tag_of_name k → Stands (with_last by o objects) (with_named h x by) k i
    newest k i at t = record {
      stored = tagged x (tag.Made by (count_at (slice_get h.counts by)));
      there = rw at (get-push h.list _);
      is = subst (λ q. IsNamed (with_last by o objects) (with_named h x by) q (tagged x (tag.Made by (count_at (slice_get h.counts by))))) (sym (new_name k t))
          (record { object = o; known = rw (last_there by o objects, ap count_at (old.count by below)) (get-push (objects by) o); is = is });
    }

    marked_still : (i : ℕ) → i < length h.list → IsMarked h i → IsMarked (with_named h x by) i
    marked_still i lt q = record { name = q.name; named = ap heap.tag_of (before h x by i lt) ∙ q.named; class = ap heap.class_of (before h x by i lt) ∙ q.class }

    -- the next name isn't taken
    taken : (k : Name) (i : ℕ) → Named h k i → tag.Made by (count_at (slice_get h.counts by)) ≡ tag_of_name k → ⊥
    taken k i t u =
        let s = old.each (made_name by (count_at (slice_get h.counts by))) i (t ∙ ap tag_of_name (new_name k u)) in
        let lt : count_at (slice_get h.counts by) < length (objects by) = slice_get_within (objects by) _ s.is.object s.is.known in
        let same : count_at (slice_get h.counts by) ≡ length (objects by) = ap count_at (old.count by below) in
        omega (arith, lt, same)

    one : (k : Name) (i j : ℕ) → Named (with_named h x by) k i → Named (with_named h x by) k j → i ≡ j
    one k i j t u =
        cases_at h.list (tagged x (tag.Made by (count_at (slice_get h.counts by)))) i (λ q. heap.tag_of q ≡ tag_of_name k → i ≡ j)
        (λ lt f. cases_at h.list (tagged x (tag.Made by (count_at (slice_get h.counts by)))) j (λ q. heap.tag_of q ≡ tag_of_name k → i ≡ j) (λ lt2 f2. old.once k i j f f2) (λ at2 f2. absurd (taken k i f f2)) (λ f2. absurd (name_there k f2)) u)
        (λ at f. cases_at h.list (tagged x (tag.Made by (count_at (slice_get h.counts by)))) j (λ q. heap.tag_of q ≡ tag_of_name k → i ≡ j) (λ lt2 f2. absurd (taken k j f2 f)) (λ at2 f2. at ∙ sym at2) (λ f2. absurd (name_there k f2)) u)
        (λ f. absurd (name_there k f)) t
