-- What a page comes to by either meaning over the trees that its HTML is cleaned to, and what that shows: a log, a document, and how the page ended.
use Rattle.std.specs.Prelude.{ℕ, Bool, List, length}
use Rattle.plans.specs.Plans.{over, stopped, out, kept_of}
use Rattle.page_deeds.specs.Deeds.{Deed}
use Rattle.es3_tree.specs.Tree as t
use Rattle.html_grammar.specs.Tables as tables
use Rattle.html_grammar.specs.Tables.{void}
use Rattle.html_grammar.specs.Trees.{many, Tree}
use Rattle.html_kept.specs.Table.{Answers, attr_value, listed}
use Rattle.doc_nodes.specs.Rows.{Doc}
use Rattle.doc_views.specs.Seen.{nodes_seen}
use Rattle.rows.specs.Document.{Node}
use Rattle.rows.specs.Rows.{undefined}
use Rattle.rows.specs.Nodes.{Rules}
use Rattle.cajita_tree.specs.Tree as c
use Rattle.heap_rows.specs.Doing.{heard}
use Rattle.heap_rows.specs.Opening.{runtime_id}
use Rattle.page_log.specs.Log.{log}
use Rattle.page_natives.specs.Natives.{new_kept}
use Rattle.module_loader.specs.Turns.{page_lent, page_store}
use Rattle.row_simulation.specs.RowLaw.{shown}
use Rattle.cajita_page.specs.DirectPage as direct
use Rattle.cajita_page.specs.DirectPage.{direct_page}
use Rattle.es3_language.specs.Store.{Store}
use Rattle.page_runner.specs.Page as es3
use Rattle.page_runner.specs.Page.{es3_page}
use Rattle.page_runner.specs.Texts.{texts_store}
use Rattle.page_runner.specs.Outcome.{log_of, end_of, html_of, fault_end}
use Rattle.page_runner.specs.declared.running.End.{End}
use Rattle.page_runner.specs.declared.running.End.TheVariants.{Done, Steps}
use Rattle.page_manifest.specs.Page.{Page}
use Rattle.page_manifest.specs.Deeds.{deeds}
use Rattle.page_roots.specs.Roots.{roots_of, number_in}
use Rattle.page_binding.specs.Nodes.{node_of}
use Rattle.page_documents.specs.Documents.{page_urls, page_doc}
use Rattle.manifest_deeds.specs.Names.{page_names}

-- the rules by which modules change the document: the tables of cleaned HTML, with what is answered for URLs. There are no services
abbrev pub rules_by : Answers → Rules
rules_by a = record { cleaned = attr_value a; listed = tables.is_in listed; no_content = tables.is_in void; services = λ k xs. undefined }

-- with what is answered for the page's URLs
abbrev pub page_rules : Page → Rules
page_rules p = rules_by (page_urls p)

-- what a page is to do, where its ids name nodes of this document
abbrev pub deeds_in : {P : Type 0} → Doc → Page → List P → List (Deed P)
deeds_in d p ps = deeds (number_in (roots_of p)) (node_of d) p ps

-- ---- the interpreter's meaning, of a program for each module, with so many steps; touches are told where they are asked for

abbrev pub run_in : (ℕ → ℕ → Doc → Store) → Page → Doc → List (t.Tree t.program) → Bool → ℕ → es3.Run
run_in opened p d ps touching s =
    es3_page (length p.modules) (deeds_in d p ps) (opened (length p.modules) (length p.cells) d) (new_kept runtime_id touching (page_lent (length p.modules) (length p.cells) d) (page_urls p)) s

-- programs that stand for modules
abbrev pub programs_run : Page → Tree many → List (t.Tree t.program) → Bool → ℕ → es3.Run
programs_run p ts ps touching s = run_in page_store p (page_doc p ts) ps touching s

-- texts that run as they stand, among the global names of the standard
abbrev pub texts_run : Page → Tree many → List (t.Tree t.program) → Bool → ℕ → es3.Run
texts_run p ts ps touching s = run_in texts_store p (page_doc p ts) ps touching s

-- ---- the direct meaning, of the modules themselves, and of the nodes of the document's roots

abbrev pub sources_run : Page → Tree many → List (c.Tree c.program) → ℕ → direct.Run
sources_run p ts ms n = direct_page (page_rules p) (nodes_seen (page_doc p ts)) (deeds_in (page_doc p ts) p ms) n

-- ---- what they show

abbrev pub programs_log : Page → Tree many → List (t.Tree t.program) → Bool → ℕ → List ℕ
programs_log p ts ps touching s = log_of (page_names p) (programs_run p ts ps touching s)

abbrev pub programs_end : Page → Tree many → List (t.Tree t.program) → Bool → ℕ → End
programs_end p ts ps touching s = end_of (programs_run p ts ps touching s)

-- the document as it stands then, and its text
abbrev pub programs_doc : Page → Tree many → List (t.Tree t.program) → Bool → ℕ → Doc
programs_doc p ts ps touching s = (kept_of (programs_run p ts ps touching s)).dom.doc

abbrev pub programs_html : Page → Tree many → List (t.Tree t.program) → Bool → ℕ → List ℕ
programs_html p ts ps touching s = html_of (programs_run p ts ps touching s)

abbrev pub sources_log : Page → Tree many → List (c.Tree c.program) → Bool → ℕ → List ℕ
sources_log p ts ms touching n = log (page_names p) (heard touching (shown (kept_of (sources_run p ts ms n))))

abbrev pub direct_end : direct.Run → End
direct_end (over r w z n) = Done
direct_end (stopped f w z n) = fault_end f
direct_end (out w z n) = Steps

abbrev pub sources_end : Page → Tree many → List (c.Tree c.program) → ℕ → End
sources_end p ts ms n = direct_end (sources_run p ts ms n)

-- the nodes of each root as they are then
abbrev pub direct_nodes : direct.Run → ℕ → List Node
direct_nodes (over r w z n) = w.nodes
direct_nodes (stopped f w z n) = w.nodes
direct_nodes (out w z n) = w.nodes

abbrev pub sources_nodes : Page → Tree many → List (c.Tree c.program) → ℕ → ℕ → List Node
sources_nodes p ts ms n = direct_nodes (sources_run p ts ms n)
