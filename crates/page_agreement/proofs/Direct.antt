-- Two pages that agree on a group, each in the direct meaning: where both do all their deeds, the group has the same lines, and its roots have the same nodes.
use Rattle.std.proofs.Common.{◌≡◌, ℕ, true, false, Bool, List, Some, All, Contains, refl, sym, ap, ◌∙◌, subst}
use Rattle.std.specs.Prelude.{slice_get, codes}
use Rattle.std.proofs.lemmas.Bool.{true≢false, false_from_ne_true}
use Rattle.std.proofs.lemmas.Option.{get_or_from_slice_get}
use Rattle.caja_units.specs.Utf8.{utf8_of}
use Rattle.plans.specs.Plans.{over, stopped, out, kept_of}
use Rattle.html_grammar.specs.Trees.{many, Tree}
use Rattle.acts.specs.Laws as acts
use Rattle.doc_nodes.specs.Rows.{Doc}
use Rattle.doc_views.specs.Seen.{nodes_seen}
use Rattle.rows.specs.Nodes.{Rules}
use Rattle.heap_rows.specs.Doing.{heard}
use Rattle.cajita_meaning.specs.Direct.{Item}
use Rattle.cajita_laws.specs.Parts.{Group, items_of}
use Rattle.cajita_page.specs.DirectPage.{Run, direct_page}
use Rattle.row_simulation.specs.RowLaw.{shown}
use Rattle.page_isolation.specs.Agree.{Agrees, SameNodes}
use Rattle.page_isolation.specs.Promises.{SameWorlds}
use Rattle.page_isolation.proofs.Isolates.{pages_isolate, pages_keep_apart}
use Rattle.page_log.specs.Log.{name_in, log}
use Rattle.cell_numbers.specs.Renumbering.{Renumbering, items_anew, deeds_anew, nodes_anew, page_anew, group_anew}
use Rattle.cell_numbers.specs.Names.{IsNamed, BothJoin}
use Rattle.cell_numbers.specs.Cells.{cells_in, roots_in}
use Rattle.cell_numbers.proofs.Names.{numbers_join}
use Rattle.cell_numbers.proofs.Pages.{pages_anew}
use Rattle.page_manifest.specs.Page.{Page}
use Rattle.page_manifest.specs.Valid.{IsValid}
use Rattle.page_roots.specs.Roots.{granted_roots, roots_of, number_in}
use Rattle.page_binding.specs.Nodes.{node_of}
use Rattle.page_documents.specs.Documents.{page_doc}
use Rattle.manifest_deeds.specs.Names.{page_names}
use Rattle.page_ids.specs.Ids.{IsAtNode}
use Rattle.page_meaning.specs.PageRuns.{direct_nodes}
use Rattle.page_agreement.specs.Agree.{IsRootOf, AgreeOn}
use Rattle.page_agreement.specs.Lines.{has_root, group_log}
use Rattle.page_agreement.proofs.Roots.{roots_once, root_named}
use Rattle.page_agreement.proofs.Groups.{the_group, root_true}
use Rattle.page_agreement.proofs.Once.{named_once}
use Rattle.page_agreement.proofs.Agrees.{Program, listed, InStep, page_deeds, root_over, like_root, root_anew, like_in, pages_agree}
use Rattle.page_agreement.proofs.Targets.{targets_agree}
use Rattle.page_agreement.proofs.Own.{IsOver, TellAlike, over_anew, items_joined, speaks_of_own}
use Rattle.page_agreement.proofs.Shown.{its_lines, Known, SpeaksOf, same_log}

-- a name that a list has at a place
shown_name : (names : List (List ℕ)) (c : ℕ) (name : List ℕ) → IsNamed names c name → name_in names c ≡ utf8_of name
shown_name names c name is = ap utf8_of (get_or_from_slice_get names c name (codes "?") is)

-- the nodes of a root of a group are the same at the end of two pages that are both over
nodes_at_end : (g : Group) (a b : Run) → IsOver a → IsOver b → SameWorlds g a b → (r : ℕ) → g.roots r ≡ true → direct_nodes a r ≡ direct_nodes b r
nodes_at_end g (over r w z n) (over r' v y m) h k same root own = same.0.nodes root own
nodes_at_end g (over r w z n) (stopped f v y m) h k same root own = absurd k
nodes_at_end g (over r w z n) (out v y m) h k same root own = absurd k
nodes_at_end g (stopped f w z n) b h k same root own = absurd h
nodes_at_end g (out w z n) b h k same root own = absurd h

-- with the roots numbered anew
nodes_renumbered : (f : Renumbering) (a : Run) (r : ℕ) → direct_nodes (page_anew f a) r ≡ direct_nodes a (f.roots.back r)
nodes_renumbered f (over r w z n) root = refl
nodes_renumbered f (stopped fault w z n) root = refl
nodes_renumbered f (out w z n) root = refl

-- a page over a document, with the programs of its modules
abbrev pub run_of : Rules → Page → Doc → List Program → ℕ → Run
run_of rules p d ss n = direct_page rules (nodes_seen d) (page_deeds p (node_of d) ss) n

-- what is known of a page over its document
pub record IsOpen (p : Page) (ts : Tree many) : Type 0 where
  pub valid : IsValid p
  pub events : All (IsAtNode p (page_doc p ts)) p.events

module _ (p : Page) (ts : Tree many) (q : Page) (us : Tree many) (is : IsOpen p ts) (is' : IsOpen q us) (g : List ℕ) (agree : AgreeOn p ts q us g) (rules : Rules) (ss rs : List Program)
    (same : (i : ℕ) (s r : Program) → Contains g i → slice_get ss i ≡ Some s → slice_get rs i ≡ Some r → s ≡ r) (left : InStep p.modules p.modules ss ss) (both : InStep p.modules q.modules ss rs) (n k : ℕ)
    (h : IsOver (run_of rules p (page_doc p ts) ss n)) (h' : IsOver (run_of rules q (page_doc q us) rs k)) where
  abbrev here : Run
  here = run_of rules p (page_doc p ts) ss n

  abbrev there : Run
  there = run_of rules q (page_doc q us) rs k

  abbrev numbering : Renumbering
  numbering = record {
    cells = (numbers_join q.cells p.cells (named_once q.cells is'.valid.cells_once) (named_once p.cells is.valid.cells_once)).0;
    roots = (numbers_join (granted_roots q) (granted_roots p) (roots_once q) (roots_once p)).0;
  }

  module _ (f : Renumbering) (joins : BothJoin (listed q) (listed p) f) where
    roots_alike : (r : ℕ) → has_root p g r ≡ has_root q g (f.roots.back r)
    roots_alike r = at (has_root p g r) refl
      where
        own : has_root p g r ≡ true → has_root q g (f.roots.back r) ≡ true
        own e = let l = like_root p ts q us g agree f joins r e in subst (λ s. has_root q g s ≡ true) (sym l.back) (root_true q g l.id l.there)

        other : has_root p g r ≡ false → has_root q g (f.roots.back r) ≡ true → ⊥
        other fails e = true≢false (sym (root_anew p ts q us g agree f joins (f.roots.back r) e) ∙ ap (has_root p g) (f.roots.anew_back r) ∙ fails)

        at : (b : Bool) → has_root p g r ≡ b → has_root p g r ≡ has_root q g (f.roots.back r)
        at true e = e ∙ sym (own e)
        at false e = e ∙ sym (false_from_ne_true (has_root q g (f.roots.back r)) (other e))

    tell_alike : TellAlike (the_group p g) (group_anew f (the_group q g))
    tell_alike = record { modules = λ m. refl; roots = roots_alike }

    begins_alike : SameNodes (the_group p g) (nodes_seen (page_doc p ts)) (nodes_anew f (nodes_seen (page_doc q us)))
    begins_alike r own =
        let l = like_root p ts q us g agree f joins r own in
        ap (nodes_seen (page_doc p ts)) (sym l.number) ∙ agree.nodes l.id l.here ∙ ap (nodes_seen (page_doc q us)) (sym l.back)

    agrees : Agrees (the_group p g) (page_deeds p (node_of (page_doc p ts)) ss) (deeds_anew f (page_deeds q (node_of (page_doc q us)) rs))
    agrees =
        pages_agree p ts q us g agree f joins is.valid ss rs same (node_of (page_doc p ts)) (node_of (page_doc q us))
        (targets_agree p ts q us g agree f joins p.events is.events (subst (All (IsAtNode q (page_doc q us))) (sym agree.events) is'.events)) both

    abbrev there_anew : Run
    there_anew = direct_page rules (nodes_anew f (nodes_seen (page_doc q us))) (deeds_anew f (page_deeds q (node_of (page_doc q us)) rs)) k

    is_anew : there_anew ≡ page_anew f there
    is_anew = pages_anew f rules (nodes_seen (page_doc q us)) (page_deeds q (node_of (page_doc q us)) rs) k

    items : items_of true (the_group p g) (kept_of here) ≡ items_anew f (items_of true (the_group q g) (kept_of there))
    items =
        items_joined (the_group p g) (the_group q g) f tell_alike rules (nodes_seen (page_doc q us)) here k (page_deeds q (node_of (page_doc q us)) rs) h h'
        (pages_isolate rules (the_group p g) (nodes_seen (page_doc p ts)) (nodes_anew f (nodes_seen (page_doc q us))) begins_alike (page_deeds p (node_of (page_doc p ts)) ss) (deeds_anew f (page_deeds q (node_of (page_doc q us)) rs)) agrees n k)

    known_cells : Known (page_names p).cells (page_names q).cells (the_group p g).cells f.cells.anew
    known_cells = record { same = same_name }
      where
        same_name : (c : ℕ) → (the_group p g).cells (f.cells.anew c) ≡ true → name_in p.cells (f.cells.anew c) ≡ name_in q.cells c
        same_name c e =
            let l = like_in p ts q us g agree f joins (f.cells.anew c) e in
            let like : l.its_like.like ≡ c = sym (f.cells.back_anew l.its_like.like) ∙ ap f.cells.back l.anew ∙ f.cells.back_anew c in
            shown_name p.cells (f.cells.anew c) l.its_like.name l.its_like.here ∙ sym (shown_name q.cells c l.its_like.name (subst (λ d. IsNamed q.cells d l.its_like.name) like l.its_like.there))

    known_roots : Known (page_names p).roots (page_names q).roots (has_root p g) f.roots.anew
    known_roots = record { same = same_name }
      where
        same_name : (r : ℕ) → has_root p g (f.roots.anew r) ≡ true → name_in (granted_roots p) (f.roots.anew r) ≡ name_in (granted_roots q) r
        same_name r e =
            let l = like_root p ts q us g agree f joins (f.roots.anew r) e in
            let like : number_in (roots_of q) l.id ≡ r = sym l.back ∙ f.roots.back_anew r in
            let named = subst (λ s. IsNamed (granted_roots p) s l.id) l.number (root_named p l.here.by l.here.its_module l.id l.here.at l.here.granted) in
            let named_too = subst (λ s. IsNamed (granted_roots q) s l.id) like (root_named q l.there.by l.there.its_module l.id l.there.at l.there.granted) in
            shown_name (granted_roots p) (f.roots.anew r) l.id named ∙ sym (shown_name (granted_roots q) r l.id named_too)

    lines_with : (touching : Bool) → group_log p g (heard touching (shown (kept_of here))) ≡ group_log q g (heard touching (shown (kept_of there)))
    lines_with touching =
        let y : List Item = items_of true (the_group q g) (kept_of there) in
        let own = speaks_of_own p is.valid g agree.here rules (nodes_seen (page_doc p ts)) (node_of (page_doc p ts)) ss left n h in
        let speaks : SpeaksOf (page_names p) (page_names q) agree.names f (has_root p g) (the_group p g).cells known_roots known_cells y = record {
          cells = subst (λ l. acts.All (λ c. (the_group p g).cells c ≡ true) (cells_in l)) items own.cells;
          roots = subst (λ l. acts.All (λ r. has_root p g r ≡ true) (roots_in l)) items own.roots;
        } in
        ap (log (page_names p)) (its_lines p g (the_group p g).cells touching (kept_of here))
        ∙ ap (λ l. log (page_names p) (heard touching (shown l))) items
        ∙ same_log (page_names p) (page_names q) agree.names f (has_root p g) (the_group p g).cells known_roots known_cells touching y speaks
        ∙ sym (ap (log (page_names q)) (its_lines q g (the_group q g).cells touching (kept_of there)))

    nodes_with : (id : List ℕ) → IsRootOf p g id → direct_nodes here (number_in (roots_of p) id) ≡ direct_nodes there (number_in (roots_of q) id)
    nodes_with id root =
        let r : ℕ = number_in (roots_of p) id in
        let own = root_true p g id root in
        let also : IsOver there_anew = subst IsOver (sym is_anew) (over_anew f there h') in
        let apart = pages_keep_apart rules (the_group p g) (nodes_seen (page_doc p ts)) (nodes_anew f (nodes_seen (page_doc q us))) begins_alike (page_deeds p (node_of (page_doc p ts)) ss) (deeds_anew f (page_deeds q (node_of (page_doc q us)) rs)) agrees n k in
        nodes_at_end (the_group p g) here there_anew h also apart r own ∙ ap (λ x. direct_nodes x r) is_anew ∙ nodes_renumbered f there r ∙ ap (direct_nodes there) (numbers_back id root)
      where
        numbers_back : (id : List ℕ) (root : IsRootOf p g id) → f.roots.back (number_in (roots_of p) id) ≡ number_in (roots_of q) id
        numbers_back id root =
            let over = root_over p ts q us g agree id root in
            ap f.roots.back (sym (joins.roots (number_in (roots_of q) id) (number_in (roots_of p) id) id (root_named q over.by over.its_module id over.at over.granted) (root_named p root.by root.its_module id root.at root.granted)))
            ∙ f.roots.back_anew (number_in (roots_of q) id)

  abbrev joined : BothJoin (listed q) (listed p) numbering
  joined = record {
    cells = (numbers_join q.cells p.cells (named_once q.cells is'.valid.cells_once) (named_once p.cells is.valid.cells_once)).1;
    roots = (numbers_join (granted_roots q) (granted_roots p) (roots_once q) (roots_once p)).1;
  }

  pub same_lines : (touching : Bool) → group_log p g (heard touching (shown (kept_of here))) ≡ group_log q g (heard touching (shown (kept_of there)))
  same_lines touching = lines_with numbering joined touching

  pub same_nodes : (id : List ℕ) → IsRootOf p g id → direct_nodes here (number_in (roots_of p) id) ≡ direct_nodes there (number_in (roots_of q) id)
  same_nodes id root = nodes_with numbering joined id root
