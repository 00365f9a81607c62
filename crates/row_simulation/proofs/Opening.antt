-- The opening of a page and the empty world correspond.
use Rattle.std.proofs.Common.{◌≡◌, ℕ, zero, suc, ◌+◌, ◌-◌, ◌<◌, Bool, true, false, List, [], ◌∷◌, ◌++◌, length, Option, Some, None, cond, refl, sym, ap, ◌∙◌, subst, arith}
use Rattle.std.specs.Prelude.{slice_get, codes, nat_eq, nat_lt, replicate, get_or}
use Rattle.std.proofs.lemmas.Option.{none-some}
use Rattle.std.proofs.lemmas.List.{length-append}
use Rattle.std.proofs.lemmas.Bool.Decides.{nat_tests}
use Rattle.caja_units.specs.Units.{is_hidden}
use Rattle.es3_objects.specs.declared.value.Class.TheVariants as class
use Rattle.es3_objects.specs.declared.value.FuncKind.{FuncKind}
use Rattle.es3_objects.specs.declared.value.Tag.{Tag}
use Rattle.es3_objects.specs.declared.value.Tag.TheVariants as tag
use Rattle.es3_heap.specs.Objects as heap
use Rattle.es3_heap.specs.Objects.{object_at}
use Rattle.es3_heap.specs.Properties.{find}
use Rattle.rows.specs.Rows as r
use Rattle.rows.specs.Names.{Tools, of_cajita, of_math, tools, sort_of, code_of}
use Rattle.cajita_meaning.specs.World.{Name, made_name, cell_name, own_name, built_name, tools_name, facet_name, forward_name, empty_world}
use Rattle.cajita_meaning.specs.Doing.{tool_pairs}
use Rattle.heap_rows.specs.Marks.{read_mark, set_mark}
use Rattle.heap_rows.specs.Natives.{number_of, kind_by, kind_of, tag_of_native, tag_of_tools, is_common}
use Rattle.heap_rows.specs.Doing.{sort_seen, guests}
use Rattle.heap_rows.specs.Opening.{first, first_count, common, place_of, place_of_tools, opened}
use Rattle.heap_rows.proofs.Made as made
use Rattle.heap_rows.proofs.Made.{native_object, native_objects, entries, frozen_entries, record_object}
use Rattle.row_simulation.proofs.First.{AllFrom, each_at, both_from, hidden_functions, first_list, first_list_is, first_list_count, first_many, IsUnnamed, up_few, all_unnamed, by_first}
use Rattle.row_simulation.proofs.Frozen.{frozen_props, all_guests, first_guest, no_read, no_set, frozen_are}
use Rattle.row_simulation.proofs.Names.{code_of_tag, native_back, name_there, known_name, tools_known}
use Rattle.row_simulation.proofs.Relation.{Named, tag_of_name, PairsAre, Once, IsRecord, IsNative, IsNamed, Stands, ObjectsAre}

-- the objects of the opening, one by one

places_of : List (List ℕ × r.Native) → List (List ℕ × ℕ)
places_of [] = []
places_of ((k, f) ∷ rest) = (k, place_of f) ∷ places_of rest

tools_object : Tools → heap.Object
tools_object t = record { class = class.Object; proto = Some 0; callable = None; tag = tag_of_tools t; props = frozen_props (places_of (tools t)) }

tools_object_is : (t : Tools) → record_object t ≡ tools_object t
unfolding entries frozen_entries record_object frozen_props places_of tools_object
tools_object_is of_cajita = refl
tools_object_is of_math = refl

opened_is : opened ≡ record { list = first_list ++ (tools_object of_cajita ∷ tools_object of_math ∷ native_objects common); counts = replicate 64 0 }
opened_is =
    made.opened_is
    ∙ ap (λ h. made.stored h.counts (h.list ++ record_object of_cajita ∷ record_object of_math ∷ native_objects common)) first_list_is
    ∙ ap (λ o. made.stored (replicate 64 0) (first_list ++ o ∷ record_object of_math ∷ native_objects common)) (tools_object_is of_cajita)
    ∙ ap (λ o. made.stored (replicate 64 0) (first_list ++ tools_object of_cajita ∷ o ∷ native_objects common)) (tools_object_is of_math)

get_front : {X : Type 0} (xs ys : List X) (i : ℕ) → i < length xs → slice_get (xs ++ ys) i ≡ slice_get xs i
get_front [] ys i lt = absurd (omega (arith, lt))
get_front (x ∷ xs) ys zero lt = refl
get_front (x ∷ xs) ys (suc i) lt = get_front xs ys i (omega (arith, lt))

get_replicated : (m n : ℕ) → n < m → slice_get {X = ℕ} (replicate m 0) n ≡ Some 0
get_replicated zero n lt = absurd (omega (arith, lt))
get_replicated (suc m) zero lt = refl
get_replicated (suc m) (suc n) lt = get_replicated m n (omega (arith, lt))

-- where the functions are

pub natives_there : (f : r.Native) → is_common f ≡ true → Named opened (built_name f) (place_of f)
unfolding first_list hidden_functions native_object native_objects frozen_props places_of tools_object
natives_there r.say e = cc
natives_there r.later e = cc
natives_there r.get e = cc
natives_there r.set e = cc
natives_there r.forward_get e = cc
natives_there r.forward_set e = cc
natives_there (r.service k) e = cc
natives_there (r.makes r.error) e = rw opened_is refl
natives_there f e = rw opened_is refl

pub tools_there : (t : Tools) → Named opened (tools_name t) (place_of_tools t)
unfolding first_list hidden_functions tools_object
tools_there of_cajita = rw opened_is refl
tools_there of_math = rw opened_is refl

all_common : List (List ℕ × r.Native) → Bool
all_common [] = true
all_common ((k, f) ∷ rest) = cond (is_common f) (all_common rest) false

first_common : (b : Bool) (rest : Bool) → cond b rest false ≡ true → (b ≡ true) × (rest ≡ true)
first_common true rest e = (refl, e)
first_common false rest e = cc

tool_pairs_are : (l : List (List ℕ × r.Native)) → all_guests (places_of l) ≡ true → all_common l ≡ true → PairsAre opened (tool_pairs l) (guests (frozen_props (places_of l)))
unfolding all_guests all_common frozen_props places_of
tool_pairs_are [] a c = tt
tool_pairs_are ((k, f) ∷ rest) a c =
    let g = first_guest (is_hidden k) (all_guests (places_of rest)) a in
    let d = first_common (is_common f) (all_common rest) c in
    rw g.0 (refl, natives_there f d.0, tool_pairs_are rest g.1 d.1)

tools_guests : (t : Tools) → all_guests (places_of (tools t)) ≡ true
unfolding all_guests places_of
tools_guests of_cajita = refl
tools_guests of_math = refl

tools_common : (t : Tools) → all_common (tools t) ≡ true
unfolding all_common
tools_common of_cajita = refl
tools_common of_math = refl

tools_once : (t : Tools) → Once (frozen_props (places_of (tools t)))
unfolding frozen_props places_of
tools_once of_cajita = (refl, (refl, (refl, (refl, (refl, (refl, (refl, (refl, tt))))))))
tools_once of_math = (refl, (refl, (refl, (refl, (refl, (refl, (refl, tt)))))))

tools_plain : (t : Tools) → (find (codes "toString") (frozen_props (places_of (tools t))) ≡ None) × (find (codes "valueOf") (frozen_props (places_of (tools t))) ≡ None)
unfolding frozen_props places_of
tools_plain of_cajita = (refl, refl)
tools_plain of_math = (refl, refl)

tools_are : (t : Tools) → IsRecord opened true (tool_pairs (tools t)) (tools_object t)
unfolding tools_object
tools_are t = record {
  class = refl;
  no_call = refl;
  proto = refl;
  props = frozen_are opened (tool_pairs (tools t)) (places_of (tools t)) (tools_guests t) (tools_once t) (tools_plain t).0 (tools_plain t).1 (tool_pairs_are (tools t) (tools_guests t) (tools_common t));
}

-- a function is of its kind, whatever name it is known by

kind_seen : (f : r.Native) → sort_seen false (Some (record { kind = kind_of f; maker = 0 })) ≡ r.a_function (sort_of f)
kind_seen (r.makes r.error) = refl
kind_seen f = refl

native_is : (f : r.Native) → IsNative (sort_of f) (kind_of f) (native_object f)
unfolding native_object
native_is f = record { is = record { class = refl; proto = refl; kind = kind_seen f; no_text = refl; no_value = refl }; callable = refl }

sort_or : Option r.Native → r.Sort
sort_or None = r.simple
sort_or (Some f) = sort_of f

sort_by : Tag → r.Sort
sort_by (tag.Built n) = sort_or (slice_get common (n - 2))
sort_by t = r.simple

sort_back : (f : r.Native) → sort_by (tag_of_native f) ≡ sort_of f
unfolding sort_by sort_or
sort_back (r.makes r.error) = refl
sort_back (r.service k) = refl
sort_back f = refl

number_by : Tag → ℕ
number_by (tag.Built n) = n
number_by t = 58

number_back : (f : r.Native) → number_by (tag_of_native f) ≡ number_of f
unfolding number_by
number_back (r.makes r.error) = refl
number_back (r.service k) = refl
number_back f = refl

kind_at : Tag → FuncKind
kind_at t = kind_by (number_by t) (sort_by t)

kind_back : (f : r.Native) → kind_at (tag_of_native f) ≡ kind_of f
unfolding kind_at
kind_back f = ap (λ n. kind_by n (sort_by (tag_of_native f))) (number_back f) ∙ ap (kind_by (number_of f)) (sort_back f)

common_by : Tag → Bool
common_by (tag.Built n) = nat_lt n 52
common_by t = false

common_back : (f : r.Native) → common_by (tag_of_native f) ≡ is_common f
unfolding common_by
common_back (r.makes r.error) = refl
common_back (r.service k) = refl
common_back f = refl

-- what a native function's name may be
native_named : (f : r.Native) → is_common f ≡ true → (n : Name) → tag_of_native f ≡ tag_of_name n → IsNamed empty_world.objects opened n (native_object f)
unfolding code_of_tag
native_named f common (built_name g) e = (
  sym (common_back g) ∙ sym (ap common_by e) ∙ common_back f ∙ common,
  subst (λ s. IsNative s (kind_of g) (native_object f)) (sym (sort_back f) ∙ ap sort_by e ∙ sort_back g) (subst (λ k. IsNative (sort_of f) k (native_object f)) (sym (kind_back f) ∙ ap kind_at e ∙ kind_back g) (native_is f)),
)
native_named f common (made_name a b) e = let x : 3 ∷ code_of f ≡ 0 ∷ a ∷ b ∷ [] = sym (native_back f) ∙ ap code_of_tag e in let y : 3 ≡ 0 = ap (λ l. get_or l 0 9) x in absurd (omega (arith, y))
native_named f common (cell_name a zero) e = let x : 3 ∷ code_of f ≡ 1 ∷ a ∷ 0 ∷ [] = sym (native_back f) ∙ ap code_of_tag e in let y : 3 ≡ 1 = ap (λ l. get_or l 0 9) x in absurd (omega (arith, y))
native_named f common (cell_name a (suc b)) e = let x : 3 ∷ code_of f ≡ 1 ∷ a ∷ suc b ∷ [] = sym (native_back f) ∙ ap code_of_tag e in let y : 3 ≡ 1 = ap (λ l. get_or l 0 9) x in absurd (omega (arith, y))
native_named f common (own_name a b) e = let x : 3 ∷ code_of f ≡ 2 ∷ a ∷ b ∷ [] = sym (native_back f) ∙ ap code_of_tag e in let y : 3 ≡ 2 = ap (λ l. get_or l 0 9) x in absurd (omega (arith, y))
native_named f common (tools_name of_cajita) e = let x : 3 ∷ code_of f ≡ 4 ∷ 0 ∷ [] = sym (native_back f) ∙ ap code_of_tag e in let y : 3 ≡ 4 = ap (λ l. get_or l 0 9) x in absurd (omega (arith, y))
native_named f common (tools_name of_math) e = let x : 3 ∷ code_of f ≡ 4 ∷ 1 ∷ [] = sym (native_back f) ∙ ap code_of_tag e in let y : 3 ≡ 4 = ap (λ l. get_or l 0 9) x in absurd (omega (arith, y))
native_named f common (facet_name a b) e = let x : 3 ∷ code_of f ≡ 5 ∷ a ∷ b ∷ [] = sym (native_back f) ∙ ap code_of_tag e in let y : 3 ≡ 5 = ap (λ l. get_or l 0 9) x in absurd (omega (arith, y))
native_named f common (forward_name a b c d) e = let x : 3 ∷ code_of f ≡ [] = sym (native_back f) ∙ ap code_of_tag e in let y : 3 ≡ 9 = ap (λ l. get_or l 0 9) x in absurd (omega (arith, y))

tools_named : (t : Tools) (n : Name) → tag_of_tools t ≡ tag_of_name n → IsNamed empty_world.objects opened n (tools_object t)
tools_named t n e = subst (λ k. IsNamed empty_world.objects opened k (tools_object t)) (sym (known_name (tools_name t) n (tools_known t) (sym e))) (tools_are t)

-- what holds of each object at its place

spot : Tag → ℕ
spot (tag.Built n) = n + 30
spot t = 0

record IsOpen (i : ℕ) (o : heap.Object) : Type 0 where
  pub named : (n : Name) → o.tag ≡ tag_of_name n → IsNamed empty_world.objects opened n o
  pub placed : (n : Name) → o.tag ≡ tag_of_name n → spot o.tag ≡ i
  pub reads : (k : List ℕ) → find (read_mark k) o.props ≡ None
  pub sets : (k : List ℕ) → find (set_mark k) o.props ≡ None
  pub above : (p : ℕ) → o.proto ≡ Some p → p < first_count

unnamed_open : (i : ℕ) (o : heap.Object) → IsUnnamed i o → IsOpen i o
unnamed_open i o is = record { named = λ n e. absurd (name_there n (sym is.untagged ∙ e)); placed = λ n e. absurd (name_there n (sym is.untagged ∙ e)); reads = is.reads; sets = is.sets; above = is.above }

all_unnamed_open : (i : ℕ) (l : List heap.Object) → AllFrom IsUnnamed i l → AllFrom IsOpen i l
unfolding AllFrom
all_unnamed_open i [] a = tt
all_unnamed_open i (o ∷ os) a = (unnamed_open i o a.0, all_unnamed_open (suc i) os a.1)

native_open : (f : r.Native) → is_common f ≡ true → (i : ℕ) → spot (tag_of_native f) ≡ i → IsOpen i (native_object f)
unfolding native_object
native_open f common i at = record { named = λ n e. native_named f common n e; placed = λ n e. at; reads = λ k. refl; sets = λ k. refl; above = λ p e. up_few 1 p (omega arith) e }

tools_open : (t : Tools) (i : ℕ) → spot (tag_of_tools t) ≡ i → IsOpen i (tools_object t)
unfolding tools_object
tools_open t i at = record { named = λ n e. tools_named t n e; placed = λ n e. at; reads = λ k. no_read (places_of (tools t)) (tools_guests t) k; sets = λ k. no_set (places_of (tools t)) (tools_guests t) k; above = λ p e. up_few 0 p (omega arith) e }

in_order : ℕ → List r.Native → Bool
in_order i [] = true
in_order i (f ∷ fs) = cond (nat_eq (spot (tag_of_native f)) i) (cond (is_common f) (in_order (suc i) fs) false) false

natives_open : (i : ℕ) (fs : List r.Native) → in_order i fs ≡ true → AllFrom IsOpen i (native_objects fs)
unfolding AllFrom in_order native_objects
natives_open i [] e = tt
natives_open i (f ∷ fs) e =
    let x = first_common (nat_eq (spot (tag_of_native f)) i) (cond (is_common f) (in_order (suc i) fs) false) e in
    let y = x.0 in
    let c = first_common (is_common f) (in_order (suc i) fs) x.1 in
    (native_open f c.0 i (grind (arith, nat_tests)), natives_open (suc i) fs c.1)

common_in_order : in_order 32 common ≡ true
unfolding in_order spot
common_in_order = refl

later_open : AllFrom IsOpen 30 (tools_object of_cajita ∷ tools_object of_math ∷ native_objects common)
unfolding AllFrom spot
later_open = (tools_open of_cajita 30 refl, (tools_open of_math 31 refl, natives_open 32 common common_in_order))

all_open : AllFrom IsOpen 0 (first_list ++ (tools_object of_cajita ∷ tools_object of_math ∷ native_objects common))
all_open = both_from IsOpen 0 first_list _ (all_unnamed_open 0 first_list all_unnamed) (subst (λ n. AllFrom IsOpen n (tools_object of_cajita ∷ tools_object of_math ∷ native_objects common)) (let l = first_list_count in omega (arith, l)) later_open)

open_at : (i : ℕ) (o : heap.Object) → object_at opened i ≡ Some o → IsOpen i o
open_at i o e = subst (λ k. IsOpen k o) (omega arith) (each_at IsOpen 0 _ all_open i o (ap (λ h. object_at h i) (sym opened_is) ∙ e))

-- by whether there is an object
by_object : (i : ℕ) (P : Option heap.Object → Type 0) → P None → ((o : heap.Object) → object_at opened i ≡ Some o → IsOpen i o → P (Some o)) → P (object_at opened i)
by_object i P none some = elim (object_at opened i) as (λ q. object_at opened i ≡ q → P q) [
  | None ↦ λ e. none
  | Some o ↦ λ e. some o e (open_at i o e)
] refl

-- the objects without names

same_first : (i : ℕ) → i < first_count → object_at opened i ≡ object_at first i
same_first i lt =
    ap (λ h. object_at h i) opened_is ∙ get_front first_list (tools_object of_cajita ∷ tools_object of_math ∷ native_objects common) i (let l = first_list_count in omega (arith, l, lt))
    ∙ sym (ap (λ h. object_at h i) first_list_is)

-- the place of a name
one_at : (n : Name) (i : ℕ) → Named opened n i → spot (tag_of_name n) ≡ i
one_at n i e = by_object i (λ q. heap.tag_of q ≡ tag_of_name n → spot (tag_of_name n) ≡ i) (λ f. absurd (name_there n f)) (λ o known x f. ap spot (sym f) ∙ x.placed n f) e

unnamed_first : (i : ℕ) (n : Name) → i < first_count → Named opened n i → ⊥
unnamed_first i n lt e = by_first i (λ q. heap.tag_of q ≡ tag_of_name n → ⊥) (λ f. name_there n f) (λ o is f. name_there n (sym is.untagged ∙ f)) (ap heap.tag_of (ap (λ h. object_at h i) (sym first_list_is) ∙ sym (same_first i lt)) ∙ e)

-- no module and no cell has anything there
pub no_own : (m i j : ℕ) → Named opened (own_name m i) j → ⊥
unfolding spot
no_own m i j e = let at : 0 ≡ j = one_at (own_name m i) j e in unnamed_first j (own_name m i) (omega (arith, at)) e

pub no_cell : (c i j : ℕ) → Named opened (cell_name c i) j → ⊥
unfolding spot
no_cell c i j e = let at : 0 ≡ j = one_at (cell_name c i) j e in unnamed_first j (cell_name c i) (omega (arith, at)) e

-- nor is there a node
pub no_facet : (root k j : ℕ) → Named opened (facet_name root k) j → ⊥
unfolding spot
no_facet root k j e = let at : 0 ≡ j = one_at (facet_name root k) j e in unnamed_first j (facet_name root k) (omega (arith, at)) e

pub opened_corresponds : ObjectsAre first place_of empty_world.objects opened 0
opened_corresponds = record {
  each = λ n i e. stands n i e;
  once = λ n i j e f. one n i j e f;
  natives = natives_there;
  reads = λ i k p e. absurd (by_object i (λ q. find (read_mark k) (heap.props_of q) ≡ Some p → ⊥) (λ f. none-some p f) (λ o there x f. none-some p (sym (x.reads k) ∙ f)) e);
  sets = λ i k p e. absurd (by_object i (λ q. find (set_mark k) (heap.props_of q) ≡ Some p → ⊥) (λ f. none-some p f) (λ o there x f. none-some p (sym (x.sets k) ∙ f)) e);
  above = λ i p e. by_object i (λ q. heap.proto_of q ≡ Some p → p < length first.list) (λ f. absurd (none-some p f)) (λ o there x f. few p (x.above p f)) e;
  count = λ n lt. ap (λ h. slice_get h.counts n) opened_is ∙ get_replicated 64 n lt;
  few = λ n. omega arith;
  opened = λ i lt. same_first i (known i lt);
  unnamed = λ i n lt e. unnamed_first i n (known i lt) e;
  large = let many = first_many in let l = ap (λ h. length h.list) opened_is in let m = length-append first_list (tools_object of_cajita ∷ tools_object of_math ∷ native_objects common) in let k = first_list_count in omega (arith, many, l, m, k);
}
  where
    few : (p : ℕ) → p < first_count → p < length first.list
    few p lt = let many = first_many in omega (arith, many, lt)

    known : (i : ℕ) → i < length first.list → i < first_count
    known i lt = let many = first_many in omega (arith, many, lt)

    stands : (n : Name) (i : ℕ) → Named opened n i → Stands empty_world.objects opened n i
    stands n i e = by_object i (λ q. object_at opened i ≡ q → heap.tag_of q ≡ tag_of_name n → Stands empty_world.objects opened n i) (λ there f. absurd (name_there n f)) (λ o known x there f. record { stored = o; there = there; is = x.named n f }) refl e

    one : (n : Name) (i j : ℕ) → Named opened n i → Named opened n j → i ≡ j
    one n i j e f = sym (one_at n i e) ∙ one_at n j f
