-- The page that is run for the page of a manifest, and what is written of it.
use Rattle.std.proofs.Common.{◌≡◌, ℕ, List, ◌++◌, map, Bool, Result, Ok, length, sym, ap, subst, ◌∙◌, append_assoc}
use Rattle.std.specs.Global.{Vec}
use Rattle.html_grammar.specs.Trees.{Tree, many}
use Rattle.html_kept.specs.Table.{Answers}
use Rattle.doc_nodes.specs.Rows.{Doc}
use Rattle.es3_tree.specs.Tree as t
use Rattle.es3_language.specs.Store.{Store}
use Rattle.heap_rows.specs.Opening.{runtime_id}
use Rattle.page_log.specs.Items.{names_of}
use Rattle.page_natives.specs.Natives.{new_kept}
use Rattle.module_loader.specs.Turns.{page_lent}
use Rattle.page_manifest.specs.Page.{Page, Style as Told}
use Rattle.page_manifest.specs.View.{style}
use Rattle.page_manifest.specs.declared.Style.{Style}
use Rattle.page_manifest.specs.Deeds.{deeds}
use Rattle.page_roots.specs.Roots.{roots_of, number_in}
use Rattle.page_binding.specs.Nodes.{node_of}
use Rattle.page_documents.specs.Answered.{Has}
use Rattle.page_documents.specs.Documents.{page_urls, page_doc, styles_outcome, document_outcome}
use Rattle.page_documents.specs.declared.PageDocument.{PageDocument}
use Rattle.manifest_deeds.specs.Names.{page_names}
use Rattle.page_runner.specs.Page.{Deed, Run, es3_page}
use Rattle.page_runner.specs.Deeds.{deeds_of}
use Rattle.page_runner.specs.Outcome.{log_of, html_of, end_of, rule_of, run_from, Shows}
use Rattle.page_runner.specs.declared.running.Page.{Page as Plan}
use Rattle.page_runner.specs.declared.running.Outcome.{Outcome}
use Rattle.page_meaning.specs.PageRuns.{run_in}
use Rattle.caja_cli.specs.Output.{style_parts, styles_written, framed_groups, framed_html, end_line, run_parts}

abbrev Programs : Type 0
Programs = List (t.Tree t.program)

-- the document that was found is that of the trees
pub its_document : (p : Page) (ts : Tree many) (found : PageDocument) → Has p found → document_outcome p ≡ Ok ts → found.document ≡ page_doc p ts
its_document p ts found h e = let same : h.trees ≡ ts = ok_is h.trees ts (sym h.outcome ∙ e) in h.document ∙ ap (page_doc p) same
  where
    ok_is : {E : Type 0} (a b : Tree many) → ◌≡◌ {A = Result (Tree many) E} (Ok a) (Ok b) → a ≡ b
    ok_is a b e = cc

-- what the page that is run shows, is what the page of the manifest comes to over its document
module _
    (opened : ℕ → ℕ → Doc → Store) (p : Page) (d : Doc) (plan : Plan) (qs : Programs) (touching : Bool) (steps : ℕ) (o : Outcome)
    (done : deeds_of plan.deeds.items ≡ deeds (number_in (roots_of p)) (node_of d) p qs) (names : names_of plan.names ≡ page_names p) (modules : plan.modules ≡ length p.modules)
    (cells : plan.cells ≡ length p.cells) (document : plan.document ≡ d) (urls : rule_of plan ≡ page_urls p) where
  from : ℕ → ℕ → Doc → Answers → List Deed → Run
  from m c d a ds = es3_page m ds (opened m c d) (new_kept runtime_id touching (page_lent m c d) a) steps

  same_run : run_from plan (opened plan.modules plan.cells plan.document) touching steps ≡ run_in opened p d qs touching steps
  unfolding from
  same_run =
      ap (λ m. from m plan.cells plan.document (rule_of plan) (deeds_of plan.deeds.items)) modules
      ∙ ap (λ c. from (length p.modules) c plan.document (rule_of plan) (deeds_of plan.deeds.items)) cells
      ∙ ap (λ d. from (length p.modules) (length p.cells) d (rule_of plan) (deeds_of plan.deeds.items)) document
      ∙ ap (λ a. from (length p.modules) (length p.cells) d a (deeds_of plan.deeds.items)) urls
      ∙ ap (from (length p.modules) (length p.cells) d (page_urls p)) done

  shown_in : Shows (names_of plan.names) (run_from plan (opened plan.modules plan.cells plan.document) touching steps) o → Shows (page_names p) (run_in opened p d qs touching steps) o
  shown_in shows = subst (λ r. Shows (page_names p) r o) same_run (subst (λ n. Shows n (run_from plan (opened plan.modules plan.cells plan.document) touching steps) o) names shows)

pub shown :
    (opened : ℕ → ℕ → Doc → Store) (p : Page) (ts : Tree many) (found : PageDocument) (plan : Plan) (ps qs : Programs) (touching : Bool) (steps : ℕ) (o : Outcome) → Has p found → document_outcome p ≡ Ok ts
    → deeds_of plan.deeds.items ≡ deeds (number_in (roots_of p)) (node_of found.document) p ps → ps ≡ qs → names_of plan.names ≡ page_names p → plan.modules ≡ length p.modules → plan.cells ≡ length p.cells
    → plan.document ≡ found.document → rule_of plan ≡ page_urls p
    → Shows (names_of plan.names) (run_from plan (opened plan.modules plan.cells plan.document) touching steps) o → Shows (page_names p) (run_in opened p (page_doc p ts) qs touching steps) o
shown opened p ts found plan ps qs touching steps o has e done same names modules cells document urls shows =
    let its : found.document ≡ page_doc p ts = its_document p ts found has e in
    let all : deeds_of plan.deeds.items ≡ deeds (number_in (roots_of p)) (node_of (page_doc p ts)) p qs =
    done ∙ ap (deeds (number_in (roots_of p)) (node_of found.document) p) same ∙ ap (λ (d : Doc). deeds (number_in (roots_of p)) (node_of d) p qs) its in
    shown_in opened p (page_doc p ts) plan qs touching steps o all names modules cells (document ∙ its) urls shows

-- what is written for its sheets
abbrev pub its_styles : Page → List ℕ
its_styles p = styles_written p.styles (styles_outcome p)

pub styles_are : (p : Page) (found : PageDocument) (before out : List ℕ) (styles : List Style) (texts : List (Vec ℕ)) → Has p found → map style styles ≡ p.styles → texts ≡ found.styles.items
    → out ≡ before ++ style_parts (map style styles) (map (λ text. text.items) texts) → out ≡ before ++ its_styles p
styles_are p found before out styles texts h same are is =
    is ∙ ap (λ (ss : List Told). before ++ style_parts ss (map (λ text. text.items) texts)) same
    ∙ ap (λ (ts : List (Vec ℕ)). before ++ style_parts p.styles (map (λ text. text.items) ts)) are
    ∙ ap (λ y. before ++ styles_written p.styles y) (sym h.styles)

-- what was written of it, from its pieces
pub parts_of :
    (framed : Bool) (p : Page) (r : Run) (o : Outcome) (texts before out : List ℕ) → Shows (page_names p) r o → before ≡ texts ++ (its_styles p ++ framed_groups framed p)
    → out ≡ (before ++ o.log.items) ++ (framed_html framed o.html.items ++ end_line o.end) → out ≡ texts ++ run_parts framed p r
parts_of framed p r o texts before out shows e all =
    let groups : List ℕ = its_styles p ++ framed_groups framed p in
    let html : List ℕ = framed_html framed (html_of r) in
    let last : List ℕ = end_line (end_of r) in
    let log : List ℕ = log_of (page_names p) r in
    all ∙ ap (λ b. (b ++ o.log.items) ++ (framed_html framed o.html.items ++ end_line o.end)) e
    ∙ ap (λ l. ((texts ++ groups) ++ l) ++ (framed_html framed o.html.items ++ end_line o.end)) shows.log
    ∙ ap (λ l. ((texts ++ groups) ++ log) ++ (framed_html framed l ++ end_line o.end)) shows.html
    ∙ ap (λ d. ((texts ++ groups) ++ log) ++ (html ++ end_line d)) shows.ended ∙ ap (λ l. l ++ (html ++ last)) (append_assoc texts groups log) ∙ append_assoc texts (groups ++ log) (html ++ last)
    ∙ ap (λ l. texts ++ l) (sym (append_assoc (groups ++ log) html last))
