-- Where the objects stand that a page begins with, and that they stay there.
use Rattle.std.proofs.Common.{◌≡◌, ℕ, zero, suc, ◌+◌, ◌*◌, ◌<◌, false, [], ◌∷◌, ◌++◌, length, sym, ap, subst, arith}
use Rattle.std.proofs.lemmas.List.{length-append}
use Rattle.html_kept.specs.Table.{no_urls}
use Rattle.doc_nodes.specs.Rows.{Doc}
use Rattle.doc_laws.specs.Reached.{Reached}
use Rattle.doc_views.specs.Clear.{IsClear}
use Rattle.doc_views.proofs.Views.{count_is_seen}
use Rattle.es3_objects.specs.declared.value.Value.TheVariants as es
use Rattle.es3_objects.specs.declared.value.Tag.TheVariants as tag
use Rattle.es3_heap.specs.Objects as heap
use Rattle.es3_heap.specs.Objects.{Objects, with_object}
use Rattle.cajita_meaning.specs.World.{Name, Value, object, own_name, cell_name, built_name, tools_name, facet_name}
use Rattle.heap_rows.specs.Opening.{runtime_id, first_say, opened, cell_function, cell_record, with_module, with_cell, with_modules, begun}
use Rattle.heap_rows.proofs.Made.{opened_long, module_long}
use Rattle.page_natives.specs.Natives.{new_kept, page_of}
use Rattle.module_loader.specs.Turns.{say_place, cell_place, page_objects, page_lent}
use Rattle.row_simulation.specs.Correspond.{Keeps}
use Rattle.row_simulation.proofs.Relation.{val_still}
use Rattle.row_simulation.proofs.Row.{keeps_refl, keeps_trans}
use Rattle.row_simulation.proofs.Changes.{by_number, get-push}
use Rattle.row_simulation.proofs.Added.{added_keeps}
use Rattle.row_simulation.proofs.Opening.{natives_there, tools_there}
use Rattle.row_simulation.proofs.Imported.{module_there, say_keeps, later_keeps}
use Rattle.cajita_simulation.specs.Places.{PagePlaces}
use Rattle.cajita_simulation.specs.Sides.{Lasts}
use Rattle.cajita_simulation.proofs.Relation.{EsValue, Named, Val}
use Rattle.cajita_simulation.proofs.Load.Rooted.{page_is}

pub places_last : (modules cells : ℕ) (doc : Doc) (a b : Objects) → Lasts a b → PagePlaces modules cells doc a → PagePlaces modules cells doc b
places_last modules cells doc a b l p = record {
  tools = λ t. l (tools_name t) _ (p.tools t);
  says = λ m lt. l (own_name m 0) _ (p.says m lt);
  delays = λ m lt. l (own_name m 1) _ (p.delays m lt);
  records = λ c lt. l (cell_name c 0) _ (p.records c lt);
  roots = λ root has. let there = p.roots root has in (there.0, l (facet_name root 0) there.0 there.1);
}

pub values_last : (a b : Objects) → Lasts a b → (v : Value) (e : EsValue) → Val a v e → Val b v e
values_last a b l v e p = val_still {a = a} {b = b} (record { named = l }) v e p

-- modules

module_keeps : (m : ℕ) (h : Objects) → Keeps h (with_module m h)
module_keeps m h = keeps_trans (say_keeps h m) (later_keeps h m)

modules_long : (n : ℕ) → length (with_modules n opened).list ≡ say_place n
modules_long zero = let l = opened_long in omega (arith, l)
modules_long (suc n) = let l = modules_long n in let k = module_long n (with_modules n opened) in omega (arith, l, k)

modules_keep : (n : ℕ) → Keeps opened (with_modules n opened)
modules_keep zero = keeps_refl
modules_keep (suc n) = keeps_trans (modules_keep n) (module_keeps n (with_modules n opened))

-- a module's own functions
record OwnThere (h : Objects) (m : ℕ) : Type 0 where
  says : Named h (own_name m 0) (say_place m)
  delays : Named h (own_name m 1) (say_place m + 1)

own_keep : {a b : Objects} (m : ℕ) → Keeps a b → OwnThere a m → OwnThere b m
own_keep m k o = record { says = k.named (own_name m 0) _ o.says; delays = k.named (own_name m 1) _ o.delays }

own_there : (n m : ℕ) → m < n → OwnThere (with_modules n opened) m
own_there zero m lt = absurd (omega (arith, lt))
own_there (suc n) m lt =
    let before = with_modules n opened in
    by_number m n (OwnThere (with_modules (suc n) opened) m)
    (λ same.
    let f = module_there before n (λ f common. (modules_keep n).named (built_name f) _ (natives_there f common)) (λ t. (modules_keep n).named (tools_name t) _ (tools_there t)) in
    let here : OwnThere (with_modules (suc n) opened) n = record { says = subst (Named (with_modules (suc n) opened) (own_name n 0)) (modules_long n) f.says; delays = subst (λ i. Named (with_modules (suc n) opened) (own_name n 1) (i + 1)) (modules_long n) f.delays } in
    subst (OwnThere (with_modules (suc n) opened)) (sym same) here)
    (λ other. own_keep m (module_keeps n before) (own_there n m (omega (arith, lt, other))))

-- cells

module _ (c : ℕ) (h : Objects) where
  two_more : length (with_object (with_object h (cell_function c 1)) (cell_function c 2)).list ≡ length h.list + 2
  two_more = let a = length-append h.list (cell_function c 1 ∷ []) in let b = length-append (h.list ++ cell_function c 1 ∷ []) (cell_function c 2 ∷ []) in omega (arith, a, b)

  three_more : length (with_cell c h).list ≡ length h.list + 3
  three_more = let a = two_more in let b = length-append (with_object (with_object h (cell_function c 1)) (cell_function c 2)).list (cell_record c (length h.list) ∷ []) in omega (arith, a, b)

  cell_unmade : (i m k : ℕ) → tag.Cell c i ≡ tag.Made m k → ⊥
  cell_unmade i m k e = cc

  cell_keeps : Keeps h (with_cell c h)
  cell_keeps =
      keeps_trans (added_keeps h (cell_function c 1) (cell_unmade 1))
      (keeps_trans (added_keeps (with_object h (cell_function c 1)) (cell_function c 2) (cell_unmade 2))
      (added_keeps (with_object (with_object h (cell_function c 1)) (cell_function c 2)) (cell_record c (length h.list)) (cell_unmade 0)))

  record_there : Named (with_cell c h) (cell_name c 0) (length h.list + 2)
  record_there = subst (Named (with_cell c h) (cell_name c 0)) two_more (ap heap.tag_of (get-push (with_object (with_object h (cell_function c 1)) (cell_function c 2)).list (cell_record c (length h.list))))

cells_long : (n k : ℕ) → length (begun n k).list ≡ first_say + 2 * n + 3 * k
cells_long n zero = let l = modules_long n in omega (arith, l)
cells_long n (suc k) = let l = cells_long n k in let t = three_more k (begun n k) in omega (arith, l, t)

cells_keep : (n k : ℕ) → Keeps (with_modules n opened) (begun n k)
cells_keep n zero = keeps_refl
cells_keep n (suc k) = keeps_trans (cells_keep n k) (cell_keeps k (begun n k))

record_at : (n k c : ℕ) → c < k → Named (begun n k) (cell_name c 0) (cell_place n c)
record_at n zero c lt = absurd (omega (arith, lt))
record_at n (suc k) c lt =
    by_number c k (Named (begun n (suc k)) (cell_name c 0) (cell_place n c))
    (λ same.
    let place : length (begun n k).list + 2 ≡ cell_place n k = let l = cells_long n k in omega (arith, l) in
    subst (λ i. Named (begun n (suc k)) (cell_name i 0) (cell_place n i)) (sym same) (subst (Named (begun n (suc k)) (cell_name k 0)) place (record_there k (begun n k))))
    (λ other. (cell_keeps k (begun n k)).named (cell_name c 0) _ (record_at n k c (omega (arith, lt, other))))

-- an object that stands for a name
object_at : (h : Objects) (o : Name) (e : EsValue) → Val h (object o) e → (i : ℕ) × Named h o i
object_at h o (es.Obj i) is = (i, is)
object_at h o _ is = absurd is

pub places_begin : (modules cells : ℕ) (doc : Doc) → Reached doc → IsClear doc → PagePlaces modules cells doc (page_objects modules cells doc)
places_begin modules cells doc reached clear =
    let is = page_is modules cells doc reached clear in
    let pages = is.pages false no_urls in
    record {
      tools = λ t. is.keeps.named (tools_name t) _ ((cells_keep modules cells).named (tools_name t) _ ((modules_keep modules).named (tools_name t) _ (tools_there t)));
      says = λ m lt. is.keeps.named (own_name m 0) _ (own_keep m (cells_keep modules cells) (own_there modules m lt)).says;
      delays = λ m lt. is.keeps.named (own_name m 1) _ (own_keep m (cells_keep modules cells) (own_there modules m lt)).delays;
      records = λ c lt. is.keeps.named (cell_name c 0) _ (record_at modules cells c lt);
      roots = λ root has.
          let many : 0 < length ((page_of (new_kept runtime_id false (page_lent modules cells doc) no_urls)).nodes root) =
          let same = ap length (pages.nodes root) in let count = count_is_seen doc root in omega (arith, same, count, has) in
          object_at (page_objects modules cells doc) (facet_name root 0) _ (pages.facets root 0 many);
    }
