-- A page that begins with modules and cells: each object with a name that is added leaves what corresponds.
use Rattle.std.proofs.Common.{◌≡◌, ℕ, zero, suc, ◌+◌, ◌<◌, true, List, [], ◌∷◌, ◌++◌, length, Option, Some, refl, ap, ◌∙◌, subst, arith}
use Rattle.std.specs.Prelude.{codes}
use Rattle.std.proofs.lemmas.List.{length-append}
use Rattle.es3_objects.specs.declared.value.FuncKind.TheVariants.{Simple}
use Rattle.es3_objects.specs.declared.value.Tag.{Tag}
use Rattle.es3_objects.specs.declared.value.Tag.TheVariants as tag
use Rattle.es3_heap.specs.Objects as heap
use Rattle.es3_heap.specs.Objects.{Objects, with_object}
use Rattle.rows.specs.Rows as r
use Rattle.cajita_meaning.specs.World.{Name, cell_name, own_name, facet_name, Object, empty_world}
use Rattle.cajita_meaning.specs.Doing.{get_and_set}
use Rattle.heap_rows.specs.Natives.{own_number, cell_number}
use Rattle.heap_rows.specs.Opening.{first, first_count, place_of, opened, named_function, own_function, cell_function, cell_record, with_module, with_cell, with_modules, begun, empty_page}
use Rattle.row_simulation.specs.RowLaw.{PagesAre}
use Rattle.row_simulation.proofs.Frozen.{frozen_props, all_guests, no_read, no_set, frozen_are}
use Rattle.row_simulation.proofs.Names.{name_at, own_known, cell_known}
use Rattle.row_simulation.proofs.Relation.{Named, tag_of_name, PropsAre, IsNative, IsNamed, ObjectsAre}
use Rattle.row_simulation.proofs.Changes.{get-push, get-push-other}
use Rattle.row_simulation.proofs.Fresh.{Fresh, IsFresh, named_added, fresh_still, was_or_is}
use Rattle.row_simulation.proofs.First.{first_many, up_few}
use Rattle.row_simulation.proofs.Opening.{opened_corresponds, no_own, no_cell, no_facet}

-- the new objects

pub proto_few : (q p : ℕ) → q < first_count → (let x : Option ℕ = Some q in x) ≡ Some p → p < length first.list
proto_few q p lt e = let f = up_few q p lt e in let many = first_many in omega (arith, f, many)

function_is : (number : ℕ) (t : Tag) → IsNative r.simple (Simple number) (named_function (Simple number) t)
function_is number t = record { is = record { class = refl; proto = refl; kind = refl; no_text = refl; no_value = refl }; callable = refl }

function_fresh : (objects : ℕ → List Object) (h : Objects) (n : Name) (number : ℕ) → name_at (tag_of_name n) ≡ Some n → Fresh h n → IsNamed objects h n (named_function (Simple number) (tag_of_name n)) → ((m k : ℕ) → tag_of_name n ≡ tag.Made m k → ⊥) → IsFresh first objects h n (named_function (Simple number) (tag_of_name n))
function_fresh objects h n number known fresh is unmade = record { known = known; tagged = refl; fresh = fresh; is = is; above = λ p e. proto_few 1 p (omega arith) e; reads = λ k. refl; sets = λ k. refl; unmade = unmade }

pub own_unmade : (n i m k : ℕ) → tag.Own n i ≡ tag.Made m k → ⊥
own_unmade n i m k e = cc

cell_unmade : (c i m k : ℕ) → tag.Cell c i ≡ tag.Made m k → ⊥
cell_unmade c i m k e = cc

-- a cell's record

cell_props : ℕ → List (List ℕ × ℕ)
cell_props at = (codes "get", at) ∷ (codes "set", at + 1) ∷ []

cell_guests : (at : ℕ) → all_guests (cell_props at) ≡ true
unfolding all_guests cell_props
cell_guests at = refl

props_are : (h : Objects) (c at : ℕ) → Named h (cell_name c 1) at → Named h (cell_name c 2) (at + 1) → PropsAre h true (get_and_set (cell_name c 1) (cell_name c 2)) (frozen_props (cell_props at))
unfolding frozen_props cell_props
props_are h c at a b = frozen_are h (get_and_set (cell_name c 1) (cell_name c 2)) (cell_props at) (cell_guests at) (refl, (refl, (refl, tt))) refl refl (refl, a, (refl, b, tt))

record_fresh : (objects : ℕ → List Object) (h : Objects) (c at : ℕ) → Named h (cell_name c 1) at → Named h (cell_name c 2) (at + 1) → Fresh h (cell_name c 0) → IsFresh first objects h (cell_name c 0) (cell_record c at)
unfolding frozen_props cell_props
record_fresh objects h c at a b fresh = record {
  known = cell_known c 0;
  tagged = refl;
  fresh = fresh;
  is = record { class = refl; no_call = refl; proto = refl; props = props_are h c at a b };
  above = λ p e. proto_few 0 p (omega arith) e;
  reads = λ k. no_read (cell_props at) (cell_guests at) k;
  sets = λ k. no_set (cell_props at) (cell_guests at) k;
  unmade = λ m k e. cell_unmade c 0 m k e;
}

-- the relation, and how far names go

record Begins (n k : ℕ) (h : Objects) : Type 0 where
  objects : ObjectsAre first place_of empty_world.objects h 0
  modules : (m i j : ℕ) → Named h (own_name m i) j → m < n
  cells : (c i j : ℕ) → Named h (cell_name c i) j → c < k
  nodes : (root i j : ℕ) → Named h (facet_name root i) j → ⊥

own_apart : (m i d j : ℕ) → tag.Own m i ≡ tag.Own d j → (m ≡ d) × (i ≡ j)
own_apart m i d j e = (cc, cc)

cell_apart : (m i d j : ℕ) → tag.Cell m i ≡ tag.Cell d j → (m ≡ d) × (i ≡ j)
cell_apart m i d j e = (cc, cc)

own_no_facet : (m i d j : ℕ) → tag.Own m i ≡ tag.Facet d j → ⊥
own_no_facet m i d j e = cc

own_no_cell : (m i d j : ℕ) → tag.Own m i ≡ tag.Cell d j → ⊥
own_no_cell m i d j e = cc

-- a module's `say` and `later`
module_begins : {n k : ℕ} {h : Objects} → Begins n k h → Begins (suc n) k (with_module n h)
module_begins {n = n} {k = k} {h = h} b = record {
  objects = named_added first_added (own_name n 1) _ (function_fresh empty_world.objects h1 (own_name n 1) (own_number n 1) (own_known n 1) (fresh_still h (own_function n 0) (own_name n 1) (fresh 1) (λ e. let q = (own_apart n 0 n 1 e).1 in omega (arith, q))) (omega arith, function_is (own_number n 1) (tag.Own n 1)) (own_unmade n 1));
  modules = λ m i j t. was_or_is h1 (own_function n 1) (own_name m i) (m < suc n) (λ j t. was_or_is h (own_function n 0) (own_name m i) (m < suc n) (λ j t. let q = b.modules m i j t in omega (arith, q)) (λ e. let q = (own_apart n 0 m i e).0 in omega (arith, q)) j t) (λ e. let q = (own_apart n 1 m i e).0 in omega (arith, q)) j t;
  cells = λ c i j t. was_or_is h1 (own_function n 1) (cell_name c i) (c < k) (λ j t. was_or_is h (own_function n 0) (cell_name c i) (c < k) (λ j t. b.cells c i j t) (λ e. absurd (own_no_cell n 0 c i e)) j t) (λ e. absurd (own_no_cell n 1 c i e)) j t;
  nodes = λ root i j t. was_or_is h1 (own_function n 1) (facet_name root i) ⊥ (λ j t. was_or_is h (own_function n 0) (facet_name root i) ⊥ (λ j t. b.nodes root i j t) (λ e. own_no_facet n 0 root i e) j t) (λ e. own_no_facet n 1 root i e) j t;
}
  where
    h1 : Objects
    h1 = with_object h (own_function n 0)

    fresh : (i : ℕ) → Fresh h (own_name n i)
    fresh i j t = let q = b.modules n i j t in omega (arith, q)

    first_added : ObjectsAre first place_of empty_world.objects (with_object h (own_function n 0)) 0
    first_added = named_added b.objects (own_name n 0) _ (function_fresh empty_world.objects h (own_name n 0) (own_number n 0) (own_known n 0) (fresh 0) (omega arith, function_is (own_number n 0) (tag.Own n 0)) (own_unmade n 0))

cell_no_facet : (m i d j : ℕ) → tag.Cell m i ≡ tag.Facet d j → ⊥
cell_no_facet m i d j e = cc

cell_no_own : (m i d j : ℕ) → tag.Cell m i ≡ tag.Own d j → ⊥
cell_no_own m i d j e = cc

-- a cell
module _ {n k : ℕ} {h : Objects} (b : Begins n k h) where
  fresh : (i : ℕ) → Fresh h (cell_name k i)
  fresh i j t = let q = b.cells k i j t in omega (arith, q)

  apart_at : (i j : ℕ) → (i ≡ j → ⊥) → tag.Cell k i ≡ tag.Cell k j → ⊥
  apart_at i j ne e = ne (cell_apart k i k j e).1

  one_more : length (with_object h (cell_function k 1)).list ≡ length h.list + 1
  one_more = length-append h.list (cell_function k 1 ∷ [])

  got_there : Named (with_object (with_object h (cell_function k 1)) (cell_function k 2)) (cell_name k 1) (length h.list)
  got_there = ap heap.tag_of (get-push-other (h.list ++ cell_function k 1 ∷ []) (length h.list) (cell_function k 2) (let l = one_more in omega (arith, l)) ∙ get-push h.list (cell_function k 1))

  set_there : Named (with_object (with_object h (cell_function k 1)) (cell_function k 2)) (cell_name k 2) (length h.list + 1)
  set_there = subst (Named (with_object (with_object h (cell_function k 1)) (cell_function k 2)) (cell_name k 2)) one_more (ap heap.tag_of (get-push (h.list ++ cell_function k 1 ∷ []) (cell_function k 2)))

  with_get : ObjectsAre first place_of empty_world.objects (with_object h (cell_function k 1)) 0
  with_get = named_added b.objects (cell_name k 1) _ (function_fresh empty_world.objects h (cell_name k 1) (cell_number k 1) (cell_known k 1) (fresh 1) (omega arith, function_is (cell_number k 1) (tag.Cell k 1)) (cell_unmade k 1))

  fresh_one : (i : ℕ) → (1 ≡ i → ⊥) → Fresh (with_object h (cell_function k 1)) (cell_name k i)
  fresh_one i ne = fresh_still h (cell_function k 1) (cell_name k i) (fresh i) (apart_at 1 i ne)

  with_set : ObjectsAre first place_of empty_world.objects (with_object (with_object h (cell_function k 1)) (cell_function k 2)) 0
  with_set = named_added with_get (cell_name k 2) _ (function_fresh empty_world.objects (with_object h (cell_function k 1)) (cell_name k 2) (cell_number k 2) (cell_known k 2) (fresh_one 2 (λ e. omega (arith, e))) (omega arith, function_is (cell_number k 2) (tag.Cell k 2)) (cell_unmade k 2))

  with_all : ObjectsAre first place_of empty_world.objects (with_cell k h) 0
  with_all = named_added with_set (cell_name k 0) _ (record_fresh empty_world.objects _ k (length h.list) got_there set_there
      (fresh_still (with_object h (cell_function k 1)) (cell_function k 2) (cell_name k 0) (fresh_one 0 (λ e. omega (arith, e))) (apart_at 2 0 (λ e. omega (arith, e)))))

  -- what holds of the names that were there, and of the three new ones
  of_cell : (q : Name) (P : Type 0) → ((j : ℕ) → Named h q j → P) → ((i : ℕ) → tag.Cell k i ≡ tag_of_name q → P) → (j : ℕ) → Named (with_cell k h) q j → P
  of_cell q P was is j t =
      was_or_is (with_object (with_object h (cell_function k 1)) (cell_function k 2)) (cell_record k (length h.list)) q P
      (λ j t. was_or_is (with_object h (cell_function k 1)) (cell_function k 2) q P
      (λ j t. was_or_is h (cell_function k 1) q P was (is 1) j t) (is 2) j t) (is 0) j t

  cell_begins : Begins n (suc k) (with_cell k h)
  cell_begins = record {
    objects = with_all;
    modules = λ m i j t. of_cell (own_name m i) (m < n) (λ j t. b.modules m i j t) (λ a e. absurd (cell_no_own k a m i e)) j t;
    cells = λ c i j t. of_cell (cell_name c i) (c < suc k) (λ j t. let q = b.cells c i j t in omega (arith, q)) (λ a e. let q = (cell_apart k a c i e).0 in omega (arith, q)) j t;
    nodes = λ root i j t. of_cell (facet_name root i) ⊥ (λ j t. b.nodes root i j t) (λ a e. cell_no_facet k a root i e) j t;
  }

modules_begin : (n : ℕ) → Begins n 0 (with_modules n opened)
modules_begin zero = record { objects = opened_corresponds; modules = λ m i j t. absurd (no_own m i j t); cells = λ c i j t. absurd (no_cell c i j t); nodes = λ root i j t. no_facet root i j t }
modules_begin (suc n) = module_begins (modules_begin n)

cells_begin : (n k : ℕ) → Begins n k (begun n k)
cells_begin n zero = modules_begin n
cells_begin n (suc k) = cell_begins (cells_begin n k)

pub begun_corresponds : (n k : ℕ) → ObjectsAre first place_of empty_world.objects (begun n k) 0
begun_corresponds n k = (cells_begin n k).objects

-- a page that keeps nothing, where no object stands for a node
pub empty_pages : (h : Objects) → ((root k i : ℕ) → Named h (facet_name root k) i → ⊥) → PagesAre h empty_world empty_page
empty_pages h none = record {
  cells = λ c. tt;
  queues = λ m. tt;
  nodes = λ root. refl;
  within = λ root. tt;
  facets = λ root k lt. absurd (omega (arith, lt));
  as_many = λ root. refl;
  known = λ root k i t. absurd (none root k i t);
  handlers = λ root. tt;
}

pub page_corresponds : (n k : ℕ) → PagesAre (begun n k) empty_world empty_page
page_corresponds n k = empty_pages (begun n k) (λ root i j t. (cells_begin n k).nodes root i j t)
