-- Accepted pages that agree on a group give it the same lines and texts.
use Rattle.std.proofs.Common.{◌≡◌, ◌≤◌, ℕ, zero, suc, Bool, List, [], ◌∷◌, Option, Some, None, Ok, Result, Contains, refl, sym, ap, ap₂, ◌∙◌, subst}
use Rattle.std.specs.Prelude.{map, option_map, slice_get}
use Rattle.std.proofs.lemmas.Option.{slice_get-map}
use Rattle.plans.specs.Plans.{kept_of}
use Rattle.html_grammar.specs.Trees.{many, Tree}
use Rattle.html_urls.specs.Answers.{for_documents}
use Rattle.url.specs.Parts.{Parts}
use Rattle.url_rule.specs.Table.{Row}
use Rattle.rows.specs.Nodes.{Rules}
use Rattle.heap_rows.specs.Doing.{heard}
use Rattle.row_simulation.specs.RowLaw.{shown}
use Rattle.cajita_page.specs.DirectPage.{Run}
use Rattle.doc_laws.specs.Reached.{Reached}
use Rattle.doc_views.specs.Clear.{IsClear}
use Rattle.root_texts.specs.Texts.{text_at}
use Rattle.root_texts.proofs.Printed.{roots_are_printed}
use Rattle.cajita_simulation.specs.Alike.{most_page_steps}
use Rattle.page_manifest.specs.Page.{Grants, Language, cajita, valija, es3, Module, Page}
use Rattle.page_roots.specs.Roots.{roots_of, number_in}
use Rattle.page_documents.specs.Documents.{IsDocument, page_doc}
use Rattle.page_cajole.specs.declared.dialects.Dialect.{Dialect}
use Rattle.page_cajole.specs.declared.dialects.Dialect.TheVariants.{Cajita, Valija}
use Rattle.page_cajole.specs.Dialects.{module_in}
use Rattle.page_cajole.specs.Cajoled.{statements}
use Rattle.page_cajole.specs.Pages.{Runnable, Refusal, granted_names, module_outcome, page_outcome}
use Rattle.page_cajole.proofs.Outcomes as pages
use Rattle.page_meaning.specs.PageRuns.{rules_by, page_rules, programs_doc, sources_run, direct_nodes as told_nodes}
use Rattle.page_meaning.specs.Sources.{InDialect, SpellsModule}
use Rattle.page_meaning.specs.Meant.{SpellModules, IsPage}
use Rattle.page_meaning.proofs.Sources.{is_source}
use Rattle.page_meaning.proofs.Meant.{is_meant}
use Rattle.page_agreement.specs.Agree.{IsAt, IsRootOf, AllSameGranted, AgreeOn}
use Rattle.page_agreement.specs.Lines.{group_log}
use Rattle.page_agreement.specs.Isolated.{programs_in, written_nodes, direct_nodes, written_text, TextsDone, SourcesDone, SameByMeaning, SameWritten, SameMeant, SameFor, IsIsolated}
use Rattle.page_agreement.proofs.Groups.{member_below}
use Rattle.page_agreement.proofs.Agrees.{Program, InStep, there_is}
use Rattle.page_agreement.proofs.Direct.{IsOpen, run_of, same_lines, same_nodes}
use Rattle.page_agreement.proofs.Own.{IsOver}
use Rattle.page_agreement.proofs.Told.{sources_over, tells_the_same}

-- a source spells one module at most
one_in_dialect : (dialect : Dialect) (granted : List (List ℕ)) (source : List ℕ) (s r : Program) → SpellsModule dialect granted source s → SpellsModule dialect granted source r → s ≡ r
one_in_dialect dialect granted source s r a b =
    let tree = (is_source dialect granted source).one a.tree b.tree a.spelled b.spelled in
    let same : Some s ≡ Some r = sym a.resolved ∙ ap (λ k. module_in dialect granted (statements k)) tree ∙ b.resolved in
    cc

abbrev SpellsIn : Language → List (List ℕ) → List ℕ → Program → Type 0
SpellsIn l granted source s = InDialect l (λ d. SpellsModule d granted source s)

one_module : (l : Language) (granted : List (List ℕ)) (source : List ℕ) (s r : Program) → SpellsIn l granted source s → SpellsIn l granted source r → s ≡ r
one_module cajita granted source s r a b = one_in_dialect Cajita granted source s r a b
one_module valija granted source s r a b = one_in_dialect Valija granted source s r a b
one_module es3 granted source s r a b = absurd a

spelled_at : (ms : List Module) (ss : List Program) → SpellModules ms ss → (i : ℕ) (m : Module) (s : Program) → slice_get ms i ≡ Some m → slice_get ss i ≡ Some s → SpellsIn m.language (granted_names m) m.source s
spelled_at [] [] h i m s at is = absurd cc
spelled_at [] (r ∷ ss) h i m s at is = absurd h
spelled_at (n ∷ ms) [] h i m s at is = absurd h
spelled_at (n ∷ ms) (r ∷ ss) h zero m s at is =
    let module_same : n ≡ m = cc in
    let program_same : r ≡ s = cc in
    subst (λ (k : Module). SpellsIn k.language (granted_names k) k.source s) module_same (subst (SpellsIn n.language (granted_names n) n.source) program_same h.0)
spelled_at (n ∷ ms) (r ∷ ss) h (suc i) m s at is = spelled_at ms ss h.1 i m s at is

-- as many modules as names, and as programs

in_step : (ms ns : List Module) (ss rs : List Program) → map (λ (m : Module). m.name) ms ≡ map (λ (m : Module). m.name) ns → SpellModules ms ss → SpellModules ns rs → InStep ms ns ss rs
in_step [] [] [] [] names h k = tt
in_step [] [] [] (r ∷ rs) names h k = absurd k
in_step [] [] (s ∷ ss) rs names h k = absurd h
in_step [] (n ∷ ns) ss rs names h k = absurd cc
in_step (m ∷ ms) [] ss rs names h k = absurd cc
in_step (m ∷ ms) (n ∷ ns) [] rs names h k = absurd h
in_step (m ∷ ms) (n ∷ ns) (s ∷ ss) [] names h k = absurd k
in_step (m ∷ ms) (n ∷ ns) (s ∷ ss) (r ∷ rs) names h k = let rest : map (λ (m : Module). m.name) ms ≡ map (λ (m : Module). m.name) ns = cc in in_step ms ns ss rs rest h.1 k.1

-- the same grants have the same names
names_same : (p q : Page) (gs hs : Grants) → AllSameGranted p q gs hs → map (λ g. g.0) gs ≡ map (λ g. g.0) hs
names_same p q [] [] s = refl
names_same p q ((x, g) ∷ gs) ((y, h) ∷ hs) s = ap₂ (λ (k : List ℕ) (l : List (List ℕ)). k ∷ l) s.0 (names_same p q gs hs s.2)
names_same p q [] (h ∷ hs) s = absurd s
names_same p q (g ∷ gs) [] s = absurd s

-- what runs for a module, by what becomes of it
the_same_runs : (o o' : Option Runnable) (a b : Result Runnable Refusal) → Some a ≡ option_map Ok o → Some b ≡ option_map Ok o' → a ≡ b → o ≡ o'
the_same_runs None o' a b h k e = absurd cc
the_same_runs (Some r) None a b h k e = absurd cc
the_same_runs (Some r) (Some s) a b h k e = let same : r ≡ s = cc in ap Some same

runs_at : (p : Page) (rs : List Runnable) → page_outcome p ≡ Ok rs → (i : ℕ) (m : Module) → IsAt p i m → Some (module_outcome m) ≡ option_map Ok (slice_get rs i)
runs_at p rs e i m at =
    ap (option_map module_outcome) (sym at) ∙ sym (slice_get-map module_outcome p.modules i) ∙ ap (λ l. slice_get l i) (((pages.is_cajoled_page p).where_accepted rs).0 e) ∙ slice_get-map Ok rs i

-- what is known of a page over its document
is_open : (p : Page) (ts : Tree many) → IsPage p → IsDocument p ts → IsOpen p ts
is_open p ts is doc = record { valid = is.valid; events = ((is_meant p is).named ts doc).events }

-- two pages with one table and one base have the same rules
rules_same : (p q : Page) → p.rule ≡ q.rule → p.base ≡ q.base → page_rules p ≡ page_rules q
rules_same p q rule base = ap (λ (rs : List Row). rules_by (for_documents rs p.base)) rule ∙ ap (λ (b : Option Parts). rules_by (for_documents q.rule b)) base

-- what is written of a root hangs on its nodes
its_text : (p : Page) (ts : Tree many) (rs : List Runnable) (touching : Bool) (s : ℕ) (id : List ℕ) → Reached (programs_doc p ts (programs_in rs) touching s) × IsClear (programs_doc p ts (programs_in rs) touching s)
    → written_text p ts rs touching s id ≡ text_at (written_nodes p ts rs touching s id) 0
its_text p ts rs touching s id whole = roots_are_printed (programs_doc p ts (programs_in rs) touching s) (number_in (roots_of p) id) whole.0 whole.1

module _ (p : Page) (ts : Tree many) (q : Page) (us : Tree many) (g : List ℕ) (agree : AgreeOn p ts q us g) (is : IsPage p) (is' : IsPage q) (doc : IsDocument p ts) (doc' : IsDocument q us) where
  -- a module of the group, in both pages
  record InBoth (i : ℕ) : Type 0 where
    left : Module
    right : Module
    here : IsAt p i left
    there : IsAt q i right

  in_both : (i : ℕ) → Contains g i → InBoth i
  in_both i member =
      let m = there_is p.modules i (member_below p g agree.here i member) in
      let n = there_is q.modules i (member_below q g agree.there i member) in
      record { left = m.0; right = n.0; here = m.1; there = n.1 }

  granted_same : (i : ℕ) → Contains g i → (b : InBoth i) → granted_names b.left ≡ granted_names b.right
  granted_same i member b = names_same p q b.left.grants b.right.grants (agree.modules i b.left b.right member b.here b.there).grants

  same_sources : (ls ms : List Program) → SpellModules p.modules ls → SpellModules q.modules ms → (i : ℕ) (s r : Program) → Contains g i → slice_get ls i ≡ Some s → slice_get ms i ≡ Some r → s ≡ r
  same_sources ls ms h k i s r member at at' =
      let b = in_both i member in
      let a = agree.modules i b.left b.right member b.here b.there in
      one_module b.right.language (granted_names b.right) b.right.source s r
      (subst (λ l. SpellsIn l (granted_names b.right) b.right.source s) a.language
      (subst (λ x. SpellsIn b.left.language x b.right.source s) (granted_same i member b) (subst (λ x. SpellsIn b.left.language (granted_names b.left) x s) a.source (spelled_at p.modules ls h i b.left s b.here at))))
      (spelled_at q.modules ms k i b.right r b.there at')

  direct_same : (ls ms : List Program) → SpellModules p.modules ls → SpellModules q.modules ms → (touching : Bool) (n k : ℕ) → SourcesDone p ts ls n → SourcesDone q us ms k → SameMeant g p ts q us ls ms touching n k
  direct_same ls ms h h' touching n k done done' =
      let left = in_step p.modules p.modules ls ls refl h h in
      let both = in_step p.modules q.modules ls ms agree.names h h' in
      let o = sources_over (sources_run p ts ls n) done in
      let o' = sources_over (sources_run q us ms k) done' in
      let run : sources_run q us ms k ≡ run_of (page_rules p) q (page_doc q us) ms k = ap (λ (r : Rules). run_of r q (page_doc q us) ms k) (sym (rules_same p q agree.rule agree.base)) in
      let ended : IsOver (run_of (page_rules p) q (page_doc q us) ms k) = subst IsOver run o' in
      record {
        lines =
            same_lines p ts q us (is_open p ts is doc) (is_open q us is' doc') g agree (page_rules p) ls ms (same_sources ls ms h h') left both n k o ended touching
            ∙ ap (λ (r : Run). group_log q g (heard touching (shown (kept_of r)))) (sym run);
        nodes = λ id root.
            same_nodes p ts q us (is_open p ts is doc) (is_open q us is' doc') g agree (page_rules p) ls ms (same_sources ls ms h h') left both n k o ended id root
            ∙ ap (λ (r : Run). told_nodes r (number_in (roots_of q) id)) (sym run);
      }

  module _ (rs ss : List Runnable) (e : page_outcome p ≡ Ok rs) (e' : page_outcome q ≡ Ok ss) where
    same_texts : (i : ℕ) → Contains g i → slice_get rs i ≡ slice_get ss i
    same_texts i member =
        let b = in_both i member in
        let a = agree.modules i b.left b.right member b.here b.there in
        the_same_runs (slice_get rs i) (slice_get ss i) (module_outcome b.left) (module_outcome b.right) (runs_at p rs e i b.left b.here) (runs_at q ss e' i b.right b.there)
        ((pages.is_cajoled_page p).alone b.left b.right a.language a.source (granted_same i member b))

    same_by_meaning : (ms : List Program) → SpellModules q.modules ms → (touching : Bool) (s n : ℕ) → s ≤ most_page_steps → TextsDone p ts rs touching s → SourcesDone q us ms n → SameByMeaning g p ts q us rs ms touching s n
    same_by_meaning ms h touching s n le done done' =
        let a = tells_the_same p is ts doc rs e touching s le done in
        let d = direct_same a.sources ms a.spelled h touching a.steps n a.done done' in
        let nodes : (id : List ℕ) → IsRootOf p g id → written_nodes p ts rs touching s id ≡ direct_nodes q us ms n id = λ id root. a.nodes (number_in (roots_of p) id) ∙ d.nodes id root in
        record { lines = ap (group_log p g) a.told ∙ d.lines; nodes = nodes; printed = λ id root. its_text p ts rs touching s id a.whole ∙ ap (λ l. text_at l 0) (nodes id root) }

    same_written : (touching : Bool) (s k : ℕ) → s ≤ most_page_steps → k ≤ most_page_steps → TextsDone p ts rs touching s → TextsDone q us ss touching k → SameWritten g p ts q us rs ss touching s k
    same_written touching s k le le' done done' =
        let b = tells_the_same q is' us doc' ss e' touching k le' done' in
        let m = same_by_meaning b.sources b.spelled touching s b.steps le done b.done in
        record {
          lines = m.lines ∙ sym (ap (group_log q g) b.told);
          nodes = λ id root. m.nodes id root ∙ sym (b.nodes (number_in (roots_of q) id));
          printed = λ id root. m.printed id root ∙ sym (its_text q us ss touching k id b.whole ∙ ap (λ l. text_at l 0) (b.nodes (number_in (roots_of q) id)));
        }

    same_for : SameFor g p ts q us rs ss
    same_for = record { meant = same_by_meaning; written = same_written; direct = direct_same; texts = same_texts }

pub isolated : (p : Page) → IsPage p → IsIsolated p
isolated p is ts doc q us doc' g agree is' rs ss e e' = same_for p ts q us g agree is is' doc doc' rs ss e e'
