-- A page that is accepted is meant: each of its modules is, and the page of their programs shows what they mean.
use Rattle.std.proofs.Common.{inr, ◌≡◌, ◌≤◌, ℕ, suc, ◌+◌, Bool, true, false, ◌||◌, List, [], ◌∷◌, ◌++◌, All, Some, Ok, length, refl, sym, ap, subst, ◌∙◌, arith}
use Rattle.std.specs.Prelude.{IsTrue, map, slice_get}
use Rattle.std.proofs.lemmas.List.Elements.{All-nil, All-cons, All-head, All-tail}
use Rattle.std.proofs.lemmas.Option.{slice_get_within, get_or_from_slice_get}
use Rattle.html_grammar.specs.Trees.{many, Tree}
use Rattle.doc_nodes.specs.Rows.{Doc}
use Rattle.doc_views.specs.Came.{IsRuled}
use Rattle.es3_tree.specs.Tree as t
use Rattle.es3_printed.specs.Tokens.{printed}
use Rattle.es3_printed.specs.Back.{IsReadBack}
use Rattle.cajita_tree.specs.Tree as c
use Rattle.cajita_rewrite.specs.Rewrite.{program_of}
use Rattle.caja_units.specs.Units.{is_hidden}
use Rattle.caja_units.proofs.Texts.{same_units-from_equal}
use Rattle.event_script.specs.Events.{Asked, a_call, a_click, an_input, a_tick, deed_of}
use Rattle.manifest_names.specs.Names.{is_grant_name}
use Rattle.page_manifest.specs.Page.{Granted, the_cell, the_result, the_plain, the_root, Grants, Language, cajita, valija, es3, as_it_stands, Module, Page}
use Rattle.page_manifest.specs.Valid.{IsGranted, IsModule, IsAsked, FewArguments}
use Rattle.page_manifest.specs.Deeds.{given, all_given, loads, events}
use Rattle.page_roots.specs.Roots.{Roots, roots_of, granted_roots, number_in}
use Rattle.page_binding.specs.Nodes.{node_of}
use Rattle.page_documents.specs.Documents.{page_urls, page_doc}
use Rattle.page_documents.specs.Ready.{HasNode, IsReady}
use Rattle.page_documents.proofs.Ready.{documents_are_ready}
use Rattle.page_ids.proofs.Ids.{ids_are_nodes}
use Rattle.page_cajole.specs.declared.dialects.Dialect.{Dialect}
use Rattle.page_cajole.specs.declared.dialects.Dialect.TheVariants.{Cajita, Valija}
use Rattle.page_cajole.specs.Cajoled as cajole
use Rattle.page_cajole.specs.Cajoled.{Outcome, outcome}
use Rattle.page_cajole.specs.Pages.{Runnable, granted_names, source_outcome, by_outcome, module_outcome, page_outcome}
use Rattle.page_cajole.proofs.Outcomes as pages
use Rattle.cajita_simulation.specs.Alike.{most_deeds}
use Rattle.cajita_simulation.specs.Guest.{is_among, GuestModule}
use Rattle.accepted_modules.proofs.Granted.{granted_guests}
use Rattle.page_simulation.specs.Pages.{IsThere, GrantsFit, DeedFits, DeedsFit}
use Rattle.page_simulation.specs.Correct.{PageCorrect}
use Rattle.page_simulation.proofs.Theorem.{correct}
use Rattle.page_meaning.specs.PageRuns.{page_rules, deeds_in}
use Rattle.page_meaning.specs.Means.{SourcesMean}
use Rattle.page_meaning.specs.Sources.{InDialect, SpellsModule, IsSource}
use Rattle.page_meaning.specs.Meant.{runnable_of, SpellModules, PageMeant, IsPage, IsMeant}
use Rattle.page_meaning.proofs.Sources.{accepted_source, is_source}
use Rattle.page_meaning.proofs.Theorem.{sources_mean, told_cut}
use Rattle.page_meaning.proofs.Causes.{causes}
use Rattle.page_meaning.proofs.Reach.{reaches}

-- what is granted fits a page of so many cells

among : (x : List ℕ) → is_among (x ∷ []) x ≡ true
among x = ap (λ b. b || false) (same_units-from_equal x x refl)

hidden_never : (x : List ℕ) → IsTrue (is_grant_name x) → is_hidden x ≡ false
hidden_never x h = (granted_guests (x ∷ []) (All-cons (λ s. IsTrue (is_grant_name s)) x [] h (All-nil (λ s. IsTrue (is_grant_name s)))) x (among x)).open_name

abbrev AreGrantNames : List (List ℕ) → Type 0
AreGrantNames names = All (λ s. IsTrue (is_grant_name s)) names

module _ (roots : Roots) (d : Doc) where
  abbrev Held : Grants → Type 0
  Held gs = All (λ g. HasNode d roots g.1) gs

  there : (cells i : ℕ) (g : Granted) → IsGranted cells i g → HasNode d roots g → IsThere cells d (given (number_in roots) g)
  there cells i (the_cell k) h held = h
  there cells i (the_result k) h held = tt
  there cells i (the_plain v) h held = tt
  there cells i (the_root id) h held = held

  grants_fit : (cells i : ℕ) (gs : Grants) → AreGrantNames (map (λ g. g.0) gs) → All (λ g. IsGranted cells i g.1) gs → Held gs → GrantsFit cells d (all_given (number_in roots) gs)
  grants_fit cells i [] names each held = tt
  grants_fit cells i ((x, g) ∷ gs) names each held =
      let its_name = All-head (λ s. IsTrue (is_grant_name s)) x (map (λ g. g.0) gs) names in
      let is_there = there cells i g (All-head (λ g. IsGranted cells i g.1) (x, g) gs each) (All-head (λ g. HasNode d roots g.1) (x, g) gs held) in
      (hidden_never x its_name, is_there, grants_fit cells i gs (All-tail (λ s. IsTrue (is_grant_name s)) x (map (λ g. g.0) gs) names) (All-tail (λ g. IsGranted cells i g.1) (x, g) gs each) (All-tail (λ g. HasNode d roots g.1) (x, g) gs held))

  -- what is known of each module: the names of its grants, and that they fit
  record ModuleFits (cells : ℕ) (m : Module) : Type 0 where
    names : AreGrantNames (granted_names m)
    fit : GrantsFit cells d (all_given (number_in roots) m.grants)

  module_fits : (cells i : ℕ) (m : Module) → IsModule cells i m → Held m.grants → ModuleFits cells m
  module_fits cells i m is held = record { names = is.spelled; fit = grants_fit cells i m.grants is.spelled is.granted held }

  abbrev EachFits : ℕ → List Module → Type 0
  EachFits cells ms = (j : ℕ) (m : Module) → slice_get ms j ≡ Some m → ModuleFits cells m

-- ---- modules

record OfOutcome (o : Outcome) (r : Runnable) : Type 0 where
  program : t.Tree t.program
  outcome : o ≡ cajole.cajoled program
  runs : r ≡ record { text = printed program; program = program }

of_outcome : (dialect : Dialect) (o : Outcome) (r : Runnable) → by_outcome dialect o ≡ Ok r → OfOutcome o r
of_outcome dialect (cajole.uncut number at) r e = absurd cc
of_outcome dialect (cajole.unread number at) r e = absurd cc
of_outcome dialect (cajole.broken number at) r e = absurd cc
of_outcome dialect (cajole.cajoled p) r e = record { program = p; outcome = refl; runs = cc }

-- the module of a source of a dialect for which this runs: it is spelled there, is read back, and is a guest
record ModuleAccepted (l : Language) (granted : List (List ℕ)) (source : List ℕ) (r : Runnable) : Type 0 where
  its_module : c.Tree c.program
  spelled : InDialect l (λ d. SpellsModule d granted source its_module)
  runs : r ≡ runnable_of its_module
  back : IsReadBack (program_of its_module)
  guest : GuestModule its_module

in_dialect : (dialect : Dialect) (granted : List (List ℕ)) (source : List ℕ) (r : Runnable) → AreGrantNames granted → by_outcome dialect (outcome dialect granted source) ≡ Ok r
    → (m : c.Tree c.program) × SpellsModule dialect granted source m × (r ≡ runnable_of m) × IsReadBack (program_of m) × GuestModule m
in_dialect dialect granted source r names e =
    let o = of_outcome dialect (outcome dialect granted source) r e in
    let a = accepted_source dialect granted names source o.program o.outcome in
    (a.its_module, a.spelled, o.runs ∙ ap (λ (q : t.Tree t.program). let x : Runnable = record { text = printed q; program = q } in x) a.program, a.back, a.guest)

of_source : (l : Language) (granted : List (List ℕ)) (source : List ℕ) (r : Runnable) → AreGrantNames granted → as_it_stands l ≡ false → source_outcome l granted source ≡ Ok r → ModuleAccepted l granted source r
of_source cajita granted source r names is e = let a = in_dialect Cajita granted source r names e in record { its_module = a.0; spelled = a.1; runs = a.2; back = a.3; guest = a.4 }
of_source valija granted source r names is e = let a = in_dialect Valija granted source r names e in record { its_module = a.0; spelled = a.1; runs = a.2; back = a.3; guest = a.4 }
of_source es3 granted source r names is e = absurd cc

module _ (roots : Roots) (d : Doc) where
  -- each module is a guest, and what it is granted fits
  abbrev Guests : ℕ → List Module → List (c.Tree c.program) → Type 0
  Guests cells [] [] = Unit {0}
  Guests cells (m ∷ ms) (s ∷ ss) = GuestModule s × GrantsFit cells d (all_given (number_in roots) m.grants) × Guests cells ms ss
  Guests cells ms ss = ⊥

  record AllAccepted (cells : ℕ) (ms : List Module) (rs : List Runnable) : Type 0 where
    sources : List (c.Tree c.program)
    spelled : SpellModules ms sources
    runs : rs ≡ map runnable_of sources
    back : All (λ m. IsReadBack (program_of m)) sources
    guests : Guests cells ms sources

  all_accepted : (cells : ℕ) (ms : List Module) (rs : List Runnable) → EachFits roots d cells ms → All (λ m. as_it_stands m.language ≡ false) ms → map module_outcome ms ≡ map Ok rs → AllAccepted cells ms rs
  all_accepted cells [] [] each lang e = record { sources = []; spelled = tt; runs = refl; back = All-nil (λ m. IsReadBack (program_of m)); guests = tt }
  all_accepted cells [] (r ∷ rs) each lang e = absurd cc
  all_accepted cells (m ∷ ms) [] each lang e = absurd cc
  all_accepted cells (m ∷ ms) (r ∷ rs) each lang e =
      let first : module_outcome m ≡ Ok r = cc in
      let rest : map module_outcome ms ≡ map Ok rs = cc in
      let its = each 0 m refl in
      let a = of_source m.language (granted_names m) m.source r its.names (All-head (λ m. as_it_stands m.language ≡ false) m ms lang) first in
      let others = all_accepted cells ms rs (λ j n is. each (suc j) n is) (All-tail (λ m. as_it_stands m.language ≡ false) m ms lang) rest in
      record {
        sources = a.its_module ∷ others.sources;
        spelled = (a.spelled, others.spelled);
        runs = ap (λ x. x ∷ rs) a.runs ∙ ap (λ l. runnable_of a.its_module ∷ l) others.runs;
        back = All-cons (λ m. IsReadBack (program_of m)) a.its_module others.sources a.back others.back;
        guests = (a.guest, its.fit, others.guests);
      }

-- ---- deeds

one_more : (i : ℕ) → suc i ≡ i + 1
one_more i = omega arith

module _ (roots : Roots) (d : Doc) (modules cells : ℕ) where
  event_fits : (j k : ℕ) (e : Asked) (es : List Asked) → j + length (e ∷ es) ≤ most_deeds → IsAsked modules e → FewArguments (e ∷ es) → DeedFits modules cells d j (deed_of (node_of d) k e)
  event_fits j k (a_call m key args) es room asked few = (omega (arith, room), asked, few.0)
  event_fits j k (a_click id) es room asked few = omega (arith, room)
  event_fits j k (an_input id us) es room asked few = omega (arith, room)
  event_fits j k (a_tick m) es room asked few = (omega (arith, room), asked)

  few_behind : (e : Asked) (es : List Asked) → FewArguments (e ∷ es) → FewArguments es
  few_behind (a_call m key args) es few = few.1
  few_behind (a_click id) es few = few
  few_behind (an_input id us) es few = few
  few_behind (a_tick m) es few = few

  events_fit : (j k : ℕ) (es : List Asked) → j + length es ≤ most_deeds → All (IsAsked modules) es → FewArguments es → DeedsFit modules cells d j (events (node_of d) k es)
  events_fit j k [] room asked few = tt
  events_fit j k (e ∷ es) room asked few =
      (event_fits j k e es room (All-head (IsAsked modules) e es asked) few, events_fit (suc j) (k + 1) es (omega (arith, room)) (All-tail (IsAsked modules) e es asked) (few_behind e es few))

  loads_fit : (i : ℕ) (ms : List Module) (ss : List (c.Tree c.program)) → modules ≤ 64 → i + length ms ≡ modules → Guests roots d cells ms ss → (es : List Asked) → DeedsFit modules cells d modules (events (node_of d) 0 es)
      → DeedsFit modules cells d i (loads (number_in roots) i ms ss ++ events (node_of d) 0 es)
  loads_fit i [] [] few is guests es rest = let same : modules ≡ i = omega (arith, is) in subst (λ j. DeedsFit modules cells d j (events (node_of d) 0 es)) same rest
  loads_fit i [] (s ∷ ss) few is guests es rest = absurd guests
  loads_fit i (m ∷ ms) [] few is guests es rest = absurd guests
  loads_fit i (m ∷ ms) (s ∷ ss) few is guests es rest =
      ((omega (arith, is, few), omega (arith, is), guests.0, guests.1), subst (λ j. DeedsFit modules cells d (suc i) (loads (number_in roots) j ms ss ++ events (node_of d) 0 es)) (one_more i) (loads_fit (suc i) ms ss few (omega (arith, is)) guests.2 es rest))

deeds_fit : (d : Doc) (p : Page) (ss : List (c.Tree c.program)) → IsPage p → Guests (roots_of p) d (length p.cells) p.modules ss → DeedsFit (length p.modules) (length p.cells) d 0 (deeds_in d p ss)
deeds_fit d p ss is guests =
    let few_modules : length p.modules ≤ 64 = is.valid.few_modules in
    let few_events : length p.events ≤ 10000 = is.valid.few_events in
    loads_fit (roots_of p) d (length p.modules) (length p.cells) 0 p.modules ss few_modules (omega arith) guests p.events
    (events_fit (roots_of p) d (length p.modules) (length p.cells) (length p.modules) 0 p.events (omega (arith, few_modules, few_events)) is.valid.events is.few)

-- ---- pages

-- the rules of a page are the tables of its document
is_ruled : (p : Page) → IsRuled (page_urls p) (page_rules p)
is_ruled p = record { cleaned = λ tag name v. refl; listed_tags = λ tag. refl; no_content = λ tag. refl }

-- one of the elements for each of which something holds
at_place : {X : Type 0} (P : X → Type 0) (xs : List X) (i : ℕ) (x : X) → All P xs → slice_get xs i ≡ Some x → P x
at_place P xs i x each at = subst P (get_or_from_slice_get xs i x x at) (each i x (slice_get_within xs i x at))

-- the document of a page, and what its modules are granted there
module _ (p : Page) (is : IsPage p) (ts : Tree many) (ready : IsReady p ts) where
  each_fits : EachFits (roots_of p) (page_doc p ts) (length p.cells) p.modules
  each_fits j m at = module_fits (roots_of p) (page_doc p ts) (length p.cells) j m (is.valid.modules j m at) (at_place (λ m. Held (roots_of p) (page_doc p ts) m.grants) p.modules j m ready.granted at)

  all_fit : (ss : List (c.Tree c.program)) → Guests (roots_of p) (page_doc p ts) (length p.cells) p.modules ss → DeedsFit (length p.modules) (length p.cells) (page_doc p ts) 0 (deeds_in (page_doc p ts) p ss)
  all_fit ss guests = deeds_fit (page_doc p ts) p ss is guests

  does : (ss : List (c.Tree c.program)) → Guests (roots_of p) (page_doc p ts) (length p.cells) p.modules ss → (touching : Bool)
      → PageCorrect (page_rules p) (length p.modules) (length p.cells) (page_doc p ts) (page_urls p) touching (deeds_in (page_doc p ts) p ss)
  does ss guests touching =
      correct (page_rules p) (length p.modules) (length p.cells) is.valid.few_modules (page_doc p ts) (page_urls p) ready.reached ready.clear (inr (is_ruled p)) touching (deeds_in (page_doc p ts) p ss) (all_fit ss guests)

  page_meant : (rs : List Runnable) → page_outcome p ≡ Ok rs → PageMeant p ts rs
  page_meant rs e =
      let a = all_accepted (roots_of p) (page_doc p ts) (length p.cells) p.modules rs each_fits is.cajoled (((pages.is_cajoled_page p).where_accepted rs).0 e) in
      let means : (touching : Bool) → SourcesMean p ts a.sources touching = λ touching. sources_mean p ts a.sources touching (does a.sources a.guests touching) in
      record {
        sources = a.sources;
        spelled = a.spelled;
        runs = a.runs;
        back = a.back;
        means = means;
        causes = λ touching n few. causes p ts a.sources touching (means touching) n few;
        reaches = reaches p ts a.sources (told_cut p ts a.sources true (does a.sources a.guests true));
      }

source_in : (l : Language) (granted : List (List ℕ)) (source : List ℕ) → as_it_stands l ≡ false → InDialect l (λ d. IsSource d granted source)
source_in cajita granted source is = is_source Cajita granted source
source_in valija granted source is = is_source Valija granted source
source_in es3 granted source is = absurd cc

abbrev IsItsSource : Module → Type 0
IsItsSource m = InDialect m.language (λ d. IsSource d (granted_names m) m.source)

all_sources : (ms : List Module) → All (λ m. as_it_stands m.language ≡ false) ms → All IsItsSource ms
all_sources [] lang = All-nil IsItsSource
all_sources (m ∷ ms) lang =
    All-cons IsItsSource m ms (source_in m.language (granted_names m) m.source (All-head (λ m. as_it_stands m.language ≡ false) m ms lang)) (all_sources ms (All-tail (λ m. as_it_stands m.language ≡ false) m ms lang))

pub is_meant : (p : Page) → IsPage p → IsMeant p
is_meant p is = record {
  sources = all_sources p.modules is.cajoled;
  cajoled = pages.is_cajoled_page p;
  named = λ ts doc. ids_are_nodes p ts (granted_roots p) doc.bound;
  where_accepted = λ ts doc rs e. page_meant p is ts (documents_are_ready p ts doc) rs e;
}
