-- Where a page begins, nothing was made and nothing ran: both sides are related.
use Rattle.std.proofs.Common.{◌≡◌, ◌<◌, ◌⊎◌, inl, inr, ℕ, zero, suc, Bool, List, [], length, refl, sym, ◌∙◌, subst, arith}
use Rattle.std.specs.Prelude.{get_or, replicate}
use Rattle.std.proofs.lemmas.Option.{none-some}
use Rattle.html_grammar.specs.Trees.{none}
use Rattle.html_kept.specs.Table.{Answers, no_urls}
use Rattle.es3_heap.specs.Objects.{Objects}
use Rattle.doc_nodes.specs.Rows.{Doc}
use Rattle.doc_nodes.specs.Changes.{empty}
use Rattle.doc_laws.specs.Reached.{Reached, IsGrantable}
use Rattle.doc_laws.proofs.Joined.{clean-reached}
use Rattle.doc_views.specs.Seen.{nodes_seen, Stands}
use Rattle.doc_views.specs.Clear.{IsClear}
use Rattle.doc_views.specs.Came.{IsRuled}
use Rattle.doc_views.proofs.Clean.{clean_is_clear}
use Rattle.rows.specs.Document.{Node}
use Rattle.rows.specs.Nodes.{Rules}
use Rattle.cajita_meaning.specs.World.{empty_world}
use Rattle.cajita_meaning.specs.Imports.{imported}
use Rattle.heap_rows.specs.Opening.{first, place_of, opened_for_one, globals_id, runtime_id, imports_id}
use Rattle.node_rows.specs.Whole.{IsWhole}
use Rattle.page_natives.specs.Nodes.{no_nodes}
use Rattle.page_natives.specs.Natives.{Kept, new_kept, first_kept, imports_of, page_of}
use Rattle.module_loader.specs.Page.{first_store}
use Rattle.module_loader.specs.Turns.{page_objects, page_lent, page_store}
use Rattle.row_simulation.specs.Correspond.{ObjectsAre}
use Rattle.row_simulation.specs.RowLaw.{PagesAre}
use Rattle.heap_rows.proofs.Made.{one_long}
use Rattle.row_simulation.proofs.Imported.{one_corresponds, one_page, one_imported}
use Rattle.cajita_simulation.specs.Places.{world_of, ImportsAre}
use Rattle.cajita_simulation.specs.Related.{KnowsPage, IsBare}
use Rattle.cajita_simulation.proofs.Relation.{Between}
use Rattle.cajita_simulation.proofs.Load.Rooted.{page_is}

-- a store of these objects, in which nothing ran
begins_with : {rules : Rules} (nodes : ℕ → List Node) (h : Objects) → ObjectsAre first place_of (world_of nodes).objects h 0 → (y : Kept) → PagesAre h (world_of nodes) (page_of y) → KnowsPage rules y → y.told ≡ [] → Between rules (world_of nodes) [] 0 [] (record { heap = h; scopes = []; codes = []; globals = globals_id; shared = [] }) y 0
begins_with nodes h objects y pages knows told = record {
  steps = omega arith;
  items = sym told;
  objects = objects;
  pages = pages;
  closures = λ m n f chain known. absurd (none-some _ known);
  waiters = λ m. tt;
  scopes = record {
    same = λ c m n tag. absurd (none-some _ tag);
    once = λ c d t e f. absurd (none-some _ e);
    known = λ c m n tag. absurd (none-some _ tag);
    count = refl;
    temps = λ c x hidden. tt;
    runtime = λ c e there. absurd (none-some _ there);
    are = λ c. tt;
    shared = tt;
  };
  globals = refl;
  kept = knows;
}

-- the natives of a page that begins have 64 places for what is imported, and its document; where no root has nodes, none has nodes there
pub begins : (rules : Rules) (modules cells : ℕ) (touching : Bool) (doc : Doc) (a : Answers) → Reached doc → IsClear doc → IsBare doc ⊎ IsRuled a rules → Between rules (world_of (nodes_seen doc)) [] 0 [] (page_store modules cells doc) (new_kept runtime_id touching (page_lent modules cells doc) a) 0
begins rules modules cells touching doc a reached clear ruled =
    let is = page_is modules cells doc reached clear in
    let pages = is.pages touching a in
    begins_with (nodes_seen doc) (page_objects modules cells doc) is.objects (new_kept runtime_id touching (page_lent modules cells doc) a) pages
    (record { runtime = refl; imports = refl; whole = is.whole; ruled = by_facts ruled (λ root. sym (pages.nodes root)) }) refl
  where
    by_facts : IsBare doc ⊎ IsRuled a rules → ((root : ℕ) → nodes_seen (page_lent modules cells doc).doc root ≡ nodes_seen doc root) → IsBare (page_lent modules cells doc).doc ⊎ IsRuled a rules
    by_facts (inl bare) same = inl (λ root. same root ∙ bare root)
    by_facts (inr r) same = inr r

-- where a document has no rows, nothing stands in it
nothing_stands : (n r k : ℕ) → Stands (empty 0) n r k → ⊥
nothing_stands zero r k is = cc
nothing_stands (suc n) r k is = cc

pub no_nodes_whole : IsWhole no_nodes
no_nodes_whole =
    let grants : IsGrantable [] none = record { once = λ r. omega arith; apart = refl } in
    record { doc = clean-reached [] none grants; clear = clean_is_clear no_urls [] none grants tt; objects = λ n r k is. absurd (nothing_stands n r k is); handlers = tt }

pub begins_one : (rules : Rules) → Between rules empty_world [] 0 [] first_store first_kept 0
begins_one rules =
    begins_with (λ root. []) opened_for_one one_corresponds first_kept
    (record { cells = one_page.cells; queues = one_page.queues; nodes = one_page.nodes; within = one_page.within; facets = one_page.facets; as_many = one_page.as_many; known = one_page.known; handlers = one_page.handlers })
    (record { runtime = refl; imports = refl; whole = no_nodes_whole; ruled = inl (λ root. refl) }) refl

same_in : (n x i : ℕ) → get_or (replicate n x) i x ≡ x
same_in zero x i = refl
same_in (suc n) x zero = refl
same_in (suc n) x (suc i) = same_in n x i

-- each module's place has an object that is there
pub own_there : (by : ℕ) → imports_of by first_kept < length first_store.heap.list
own_there zero =
    let e : imports_of 0 first_kept ≡ imports_id = refl in
    let l = one_long in
    subst (λ o. o < length first_store.heap.list) (sym e) (omega (arith, l))
own_there (suc by) =
    let e : imports_of (suc by) first_kept ≡ runtime_id = same_in 63 runtime_id by in
    let l = one_long in
    subst (λ o. o < length first_store.heap.list) (sym e) (omega (arith, l))

pub imports_begin : (names : List (List ℕ)) → ImportsAre first_store.heap first_kept 0 names (imported 0 names)
imports_begin names = record { there = own_there 0; values = one_imported names }
