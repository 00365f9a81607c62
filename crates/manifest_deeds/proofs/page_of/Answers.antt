use Rattle.std.proofs.Common.{◌≡◌, ℕ, List, [], ◌++◌, All, length, map, rules, sym, ap, subst, ◌∙◌}
use Rattle.std.proofs.lemmas.List.{length-map}
use Rattle.es3_tree.specs.View.{program}
use Rattle.event_script.specs.Events.{asked}
use Rattle.page_manifest.specs.Deeds.{deeds, events}
use Rattle.page_manifest.specs.View.{page, module_spec}
use Rattle.page_runner.specs.Deeds.{deeds_of, DeedFits}
use Rattle.page_roots.specs.Roots.{Roots, number_in, roots_of, granted_roots}
use Rattle.page_binding.specs.Nodes.{node_of}
use Rattle.std.specs.Map.{keys_of}
use Rattle.manifest_deeds.proofs.Fit.{all_fit}
use Rattle.manifest_deeds.proofs.Named.{told_names}
use Rattle.manifest_deeds.proofs.page_of.Goals as goal

pub returns-clause-names : goal.returns-clause-names
returns-clause-names c =
    let ms = c.args.manifest.modules.items in
    let same : c.in_ok-module_names.field-0.items ≡ map (λ m. m.name) (map module_spec ms) = c.in_ok-module_names.ensures ∙ ap (λ l. map (λ m. m.name) l) c.deref.ensures.value ∙ sym (told_names ms) in
    let roots : c.in_ok-ids.field-0.items ≡ granted_roots (page c.args.manifest) = c.in_ok-ids.ensures ∙ ap keys_of c.requires.found.roots in
    ap (λ (l : List (List ℕ)). record { modules = l; cells = c.args.manifest.cells.items; roots = c.in_ok-ids.field-0.items }) same
    ∙ ap (λ (l : List (List ℕ)). record { modules = map (λ m. m.name) (map module_spec ms); cells = c.args.manifest.cells.items; roots = l }) roots

pub returns-clause-deeds : goal.returns-clause-deeds
returns-clause-deeds c =
    let told = page c.args.manifest in
    let programs = map program c.args.programs.items in
    let done : deeds_of c.add_events.new.list.items ≡ deeds (number_in c.args.found.roots) (node_of c.args.found.document) told programs = c.in_ok-add_events.ensures ∙ ap (λ l. l ++ events (node_of c.args.found.document) 0 (map asked c.args.manifest.events.items)) c.in_ok-list.ensures in
    done ∙ ap (λ (rs : Roots). deeds (number_in rs) (node_of c.args.found.document) told programs) c.requires.found.roots

pub returns-clause-fit : goal.returns-clause-fit
returns-clause-fit c =
    let told = page c.args.manifest in
    let programs = map program c.args.programs.items in
    let done : deeds_of c.add_events.new.list.items ≡ deeds (number_in c.args.found.roots) (node_of c.args.found.document) told programs = c.in_ok-add_events.ensures ∙ ap (λ l. l ++ events (node_of c.args.found.document) 0 (map asked c.args.manifest.events.items)) c.in_ok-list.ensures in
    let count : c.len-count.result ≡ length told.modules = search (rules, length-map) in
    subst (λ n. All (DeedFits n) c.add_events.new.list.items) (sym count) (all_fit (number_in c.args.found.roots) (node_of c.args.found.document) told programs c.add_events.new.list.items c.requires.valid done)
