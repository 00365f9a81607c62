-- What a module or a text comes to in the store that it begins in names live objects alone.
use Rattle.std.proofs.Common.{ℕ, ◌<◌, Bool, false, All, length, arith}
use Rattle.std.proofs.lemmas.List.Elements.{All-nil, All-replicate, All-set}
use Rattle.es3_tree.specs.Tree as t
use Rattle.es3_kept.specs.Kept.{KeptRun}
use Rattle.es3_kept.proofs.Meaning.{program_kept}
use Rattle.es3_kept.proofs.Rows.{new_store_live}
use Rattle.es3_heap.specs.Objects.{Objects}
use Rattle.heap_rows.specs.Opening.{built_ins_there, runtime_id, globals_id, imports_id, opened_for_one}
use Rattle.heap_rows.proofs.Made.{one_long}
use Rattle.es3_live.specs.Live.{IsLive, IsLiveId}
use Rattle.html_kept.specs.Table.{Answers, no_urls}
use Rattle.doc_nodes.specs.Rows.{Doc}
use Rattle.dom_handlers.specs.declared.kinds.Handler.{Handler}
use Rattle.tamed_dom.specs.Lent.{Lent}
use Rattle.page_natives.specs.Nodes.{no_nodes}
use Rattle.page_natives.specs.NodeKeeps.{LiveLent, lent_more}
use Rattle.page_natives.specs.Natives.{kept_fits, new_kept, first_kept}
use Rattle.page_natives.specs.Keeps.{page_keeps_live}
use Rattle.module_loader.specs.Page.{first_store, module_run}
use Rattle.module_loader.specs.Turns.{page_objects, page_lent}
use Rattle.global_names.specs.Opening.{with_global_names, text_globals}
use Rattle.live_openings.specs.Texts.{text_run}
use Rattle.live_openings.proofs.Page.{one_there, one_closed}
use Rattle.live_openings.proofs.Nodes.{lent_live}
use Rattle.live_openings.proofs.Text.{text_later, text_there, text_globals_there, text_closed}

-- natives as they begin keep the runtime alone, with what is lent of a document
new_fits : (touching : Bool) (y : Lent) (a : Answers) (h : Objects) → built_ins_there h → LiveLent (length h.list) y → kept_fits (new_kept runtime_id touching y a) h
new_fits touching y a h there live = record {
  runtime = omega (arith, there);
  imports = All-replicate (λ o. o < length h.list) 64 runtime_id (omega (arith, there));
  built_ins = there;
  cells = All-nil (IsLive (length h.list));
  waiting = All-nil (All (IsLive (length h.list)));
  facets = live.facets;
  handlers = live.handlers;
}

none_live : (n : ℕ) → LiveLent n no_nodes
none_live n = record { facets = All-nil (IsLiveId n); handlers = All-nil (λ (x : Handler). IsLive n x.function) }

-- the object of what it may import is among those that a page of one module begins with
page_fits : kept_fits first_kept opened_for_one
page_fits =
    let fits = new_fits false no_nodes no_urls opened_for_one one_there (none_live (length opened_for_one.list)) in
    let long = one_long in record {
      runtime = fits.runtime;
      imports = All-set (λ o. o < length opened_for_one.list) (new_kept runtime_id false no_nodes no_urls).imports 0 imports_id (omega (arith, long)) fits.imports;
      built_ins = fits.built_ins;
      cells = fits.cells;
      waiting = fits.waiting;
      facets = fits.facets;
      handlers = fits.handlers;
    }

page_globals_there : globals_id < length opened_for_one.list
page_globals_there = let long = one_long in omega (arith, long)

pub module_kept : (p : t.Tree t.program) (by n : ℕ) → KeptRun kept_fits opened_for_one (module_run p by n)
module_kept p by n = program_kept page_keeps_live p by first_store first_kept n (new_store_live opened_for_one globals_id one_closed page_globals_there) page_fits

pub text_run_kept : (modules cells : ℕ) (d : Doc) (touching : Bool) (a : Answers) (p : t.Tree t.program) (by n : ℕ) → KeptRun kept_fits (with_global_names (page_objects modules cells d)) (text_run modules cells d touching a p by n)
text_run_kept modules cells d touching a p by n =
    let h = with_global_names (page_objects modules cells d) in
    let z = new_kept runtime_id touching (page_lent modules cells d) a in
    program_kept page_keeps_live p by _ z n (new_store_live h (text_globals (page_objects modules cells d)) (text_closed modules cells d) (text_globals_there modules cells d))
    (new_fits touching (page_lent modules cells d) a h (text_there modules cells d) (lent_more (page_lent modules cells d) (text_later modules cells d).more (lent_live modules cells d)))
