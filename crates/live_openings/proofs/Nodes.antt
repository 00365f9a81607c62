-- The objects of nodes keep a store closed, and so the store in which a page begins names live objects alone.
use Rattle.std.proofs.Common.{ℕ, zero, suc, [], All, length, Option, Some, None, le_trans}
use Rattle.std.proofs.lemmas.List.Elements.{All-nil}
use Rattle.doc_nodes.specs.Rows.{Doc, nodes_of, node_with}
use Rattle.es3_heap.specs.Objects.{Objects}
use Rattle.es3_live.specs.Live.{IsLive, IsLiveId, AreClosed}
use Rattle.es3_live.proofs.Writing.{Grown, same_objects, grown_trans}
use Rattle.heap_rows.specs.Opening.{built_ins_there, begun}
use Rattle.dom_facets.specs.Facets.{Made, made_with, with_new, node_facets, root_facets}
use Rattle.dom_handlers.specs.declared.kinds.Handler.{Handler}
use Rattle.page_natives.specs.NodeKeeps.{LiveLent, new_facet_live}
use Rattle.module_loader.specs.Turns.{page_objects, page_lent}
use Rattle.live_openings.proofs.Page.{begun_there, begun_closed}

record LiveMade (h : Objects) (m : Made) : Type 0 where
  pub grown : Grown h m.heap
  pub facets : All (IsLiveId (length m.heap.list)) m.facets

with_new_live : (h : Objects) (o : Option ℕ) (d : Doc) (m : Made) → LiveMade h m → LiveMade h (with_new o d m)
with_new_live h None d m live = live
with_new_live h (Some n) d m live = let f = new_facet_live n d m.heap m.facets live.grown.closed live.facets in record { grown = grown_trans live.grown f.grown; facets = f.facets }

nodes_live : (h : Objects) (root k : ℕ) (d : Doc) (m : Made) → LiveMade h m → LiveMade h (node_facets root k d m)
unfolding node_facets
nodes_live h root zero d m live = live
nodes_live h root (suc k) d m live = with_new_live h (node_with d root k) d (node_facets root k d m) (nodes_live h root k d m live)

roots_live : (h : Objects) (roots : ℕ) (d : Doc) (m : Made) → LiveMade h m → LiveMade h (root_facets roots d m)
unfolding root_facets
roots_live h zero d m live = live
roots_live h (suc r) d m live = nodes_live h r (length (nodes_of d.roots r)) d (root_facets r d m) (roots_live h r d m live)

page_live : (modules cells : ℕ) (d : Doc) → LiveMade (begun modules cells) (root_facets (length d.roots) d (made_with (begun modules cells) []))
page_live modules cells d =
    let h = begun modules cells in
    roots_live h (length d.roots) d (made_with h []) (record { grown = same_objects h (begun_closed modules cells); facets = All-nil (IsLiveId (length h.list)) })

pub page_closed : (modules cells : ℕ) (d : Doc) → AreClosed (page_objects modules cells d)
page_closed modules cells d = (page_live modules cells d).grown.closed

pub page_there : (modules cells : ℕ) (d : Doc) → built_ins_there (page_objects modules cells d)
page_there modules cells d = le_trans (begun_there modules cells) (page_live modules cells d).grown.later.more

pub lent_live : (modules cells : ℕ) (d : Doc) → LiveLent (length (page_objects modules cells d).list) (page_lent modules cells d)
lent_live modules cells d = record { facets = (page_live modules cells d).facets; handlers = All-nil (λ (x : Handler). IsLive (length (page_objects modules cells d).list) x.function) }
