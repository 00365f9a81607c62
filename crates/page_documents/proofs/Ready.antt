-- What holds of the document with which a page begins.
use Rattle.std.proofs.Common.{◌≡◌, ℕ, suc, Bool, true, false, true≢false, List, [], ◌∷◌, ◌++◌, Option, Some, None, Ok, refl, sym, ap, ◌∙◌, subst}
use Rattle.std.specs.Prelude.{All, is_some, if◌then◌else◌}
use Rattle.std.specs.Map.{keys_of}
use Rattle.std.specs.Option.{unwrap_or}
use Rattle.std.proofs.lemmas.Bool.{or_cases, or_right}
use Rattle.std.proofs.lemmas.List.Elements.{All-nil, All-cons, All-head, All-tail}
use Rattle.std.proofs.lemmas.Iterator.Adapters.{position_from-zero}
use Rattle.std.specs.List.{position_from}
use Rattle.html_grammar.specs.Trees.{Tree, many}
use Rattle.html_kept.specs.OfTable.{OfTable}
use Rattle.html_kept.proofs.Back.{cleaned_of_table}
use Rattle.caja_units.specs.Units.{same_units}
use Rattle.caja_units.proofs.Texts.{same_units-equal}
use Rattle.es3_tokens.specs.Tokens.{is_one_of}
use Rattle.doc_nodes.specs.Changes.{granted}
use Rattle.doc_laws.specs.Reached.{IsGrantable}
use Rattle.doc_laws.proofs.Joined.{clean-reached}
use Rattle.doc_views.proofs.Clean.{clean_is_clear}
use Rattle.page_manifest.specs.Faults.{Fault, twice, unknown_grant}
use Rattle.page_manifest.specs.Bound.{unless, once_each}
use Rattle.page_manifest.specs.Page.{Granted, the_cell, the_result, the_plain, the_root, Grants, Module, Page}
use Rattle.page_manifest.proofs.Validity.{steps}
use Rattle.page_roots.specs.Roots.{Roots, place_of, with_root, with_grant, with_grants, with_modules, roots_of, granted_roots, number_in}
use Rattle.page_binding.specs.Spots.{spots_in, ids_of}
use Rattle.page_binding.specs.Bound.{first_missing, is_there, bind}
use Rattle.page_binding.proofs.Names.{either_way, itself, one_of-left, one_of-push, same_both, same_functions}
use Rattle.page_binding.proofs.Least.{is_root}
use Rattle.page_binding.proofs.Bind.{bound_is}
use Rattle.page_documents.specs.Html.{Cleans}
use Rattle.page_documents.specs.Documents.{page_urls, page_doc}
use Rattle.page_documents.specs.Ready.{HasNode, DocumentsAreReady}
use Rattle.page_documents.proofs.Html.{is_html}
use Rattle.page_documents.proofs.Begun.{clean_count, clean_begins}
use Rattle.page_documents.proofs.Spotted.{begins_there}

-- ---- each id that a module is granted is among the roots

abbrev Among : List ℕ → Roots → Type 0
Among id roots = is_one_of id (keys_of roots) ≡ true

keys_push : (roots : Roots) (r : List ℕ × ℕ) → keys_of (roots ++ r ∷ []) ≡ keys_of roots ++ r.0 ∷ []
keys_push [] r = refl
keys_push (x ∷ roots) r = ap (λ l. x.0 ∷ l) (keys_push roots r)

root_keeps : (m : ℕ) (id : List ℕ) (roots : Roots) (x : List ℕ) → Among x roots → Among x (with_root m id roots)
root_keeps m id roots x h =
    elim (is_some (place_of roots id)) as (λ b. Among x (if b then roots else roots ++ (id, m) ∷ [])) [
      | true ↦ h
      | false ↦ ap (is_one_of x) (keys_push roots (id, m)) ∙ one_of-left x (keys_of roots) (id ∷ []) h
    ]

root_is : (m : ℕ) (id : List ℕ) (roots : Roots) → Among id (with_root m id roots)
root_is m id roots = at (is_some (place_of roots id)) refl
  where
    at : (b : Bool) → is_some (place_of roots id) ≡ b → Among id (if b then roots else roots ++ (id, m) ∷ [])
    at true there = sym (is_root roots id) ∙ there
    at false new = ap (is_one_of id) (keys_push roots (id, m)) ∙ one_of-push id id (keys_of roots) ∙ or_right (is_one_of id (keys_of roots)) (same_units id id) (itself id)

grant_keeps : (m : ℕ) (g : Granted) (roots : Roots) (x : List ℕ) → Among x roots → Among x (with_grant m g roots)
grant_keeps m (the_root id) roots x h = root_keeps m id roots x h
grant_keeps m (the_cell k) roots x h = h
grant_keeps m (the_result k) roots x h = h
grant_keeps m (the_plain v) roots x h = h

grants_keep : (m : ℕ) (gs : Grants) (roots : Roots) (x : List ℕ) → Among x roots → Among x (with_grants m gs roots)
grants_keep m [] roots x h = h
grants_keep m (g ∷ gs) roots x h = grants_keep m gs (with_grant m g.1 roots) x (grant_keeps m g.1 roots x h)

modules_keep : (m : ℕ) (ms : List Module) (roots : Roots) (x : List ℕ) → Among x roots → Among x (with_modules m ms roots)
modules_keep m [] roots x h = h
modules_keep m (q ∷ qs) roots x h = modules_keep (suc m) qs (with_grants m q.grants roots) x (grants_keep m q.grants roots x h)

-- what is granted is no root, or one of the roots
abbrev IsAmong : Roots → Granted → Type 0
IsAmong roots (the_root id) = Among id roots
IsAmong roots (the_cell k) = Unit {0}
IsAmong roots (the_result k) = Unit {0}
IsAmong roots (the_plain v) = Unit {0}

abbrev AllAmong : Roots → Grants → Type 0
AllAmong roots gs = All (λ g. IsAmong roots g.1) gs

-- those before are among them all
abbrev Leads : Roots → Roots → Type 0
Leads roots all = (x : List ℕ) → Among x roots → Among x all

grant_among : (m : ℕ) (g : Granted) (roots all : Roots) → Leads (with_grant m g roots) all → IsAmong all g
grant_among m (the_root id) roots all leads = leads id (root_is m id roots)
grant_among m (the_cell k) roots all leads = tt
grant_among m (the_result k) roots all leads = tt
grant_among m (the_plain v) roots all leads = tt

grants_among : (m : ℕ) (gs : Grants) (roots all : Roots) → Leads (with_grants m gs roots) all → AllAmong all gs
grants_among m [] roots all leads = All-nil (λ g. IsAmong all g.1)
grants_among m (g ∷ gs) roots all leads =
    let now = with_grant m g.1 roots in
    All-cons (λ g. IsAmong all g.1) g gs (grant_among m g.1 roots all (λ x h. leads x (grants_keep m gs now x h))) (grants_among m gs now all leads)

modules_among : (m : ℕ) (ms : List Module) (roots all : Roots) → Leads (with_modules m ms roots) all → All (λ q. AllAmong all q.grants) ms
modules_among m [] roots all leads = All-nil (λ q. AllAmong all q.grants)
modules_among m (q ∷ qs) roots all leads =
    let now = with_grants m q.grants roots in
    All-cons (λ q. AllAmong all q.grants) q qs (grants_among m q.grants roots all (λ x h. leads x (modules_keep (suc m) qs now x h))) (modules_among (suc m) qs now all leads)

-- ---- each root was found

unless_none : {A : Type 0} (o : Option ℕ) (fault : ℕ → Fault) (a b : A) → unless o fault a ≡ Ok b → o ≡ None
unless_none None fault a b e = refl
unless_none (Some k) fault a b e = absurd cc

here_or_behind : (test : List ℕ → Bool) (r : List ℕ × ℕ) (rest : Roots) (id : List ℕ) (b : Bool) → test r.0 ≡ b → (if b then first_missing test rest else Some r.1) ≡ None → Among id (r ∷ rest)
    → (first_missing test rest ≡ None → Among id rest → test id ≡ true) → test id ≡ true
here_or_behind test r rest id true here none h behind = either_way (or_cases (same_units id r.0) (is_one_of id (keys_of rest)) h) (λ same. ap test (same_units-equal id r.0 same) ∙ here) (behind none)
here_or_behind test r rest id false here none h behind = absurd cc

found : (test : List ℕ → Bool) (roots : Roots) (id : List ℕ) → first_missing test roots ≡ None → Among id roots → test id ≡ true
found test [] id none h = absurd (true≢false (sym h))
found test (r ∷ rest) id none h = here_or_behind test r rest id (test r.0) refl none h (λ e k. found test rest id e k)

missing_none : (p : Page) (ts : Tree many) → bind p ts ≡ Ok (granted_roots p) → first_missing (is_there (spots_in ts)) (roots_of p) ≡ None
missing_none p ts e =
    let ss = spots_in ts in
    let first = steps (unless (once_each (ids_of ss)) (λ _. (twice, 0)) ss) _ (granted_roots p) e in
    let second = steps (unless (first_missing (is_there ss) (roots_of p)) (λ m. (unknown_grant, m)) ss) _ (granted_roots p) first.after in
    unless_none (first_missing (is_there ss) (roots_of p)) (λ m. (unknown_grant, m)) ss second.first second.found

-- ---- and so has a node

some_is : (o : Option ℕ) → is_some o ≡ true → o ≡ Some (unwrap_or o 0)
some_is None h = absurd (true≢false (sym h))
some_is (Some k) h = refl

granted_is : (roots : Roots) (id : List ℕ) → Among id roots → granted (keys_of roots) (Some id) ≡ Some (number_in roots id)
granted_is roots id h =
    position_from-zero (λ g. same_units g id) (keys_of roots)
    ∙ ap (λ test. position_from test 0 (keys_of roots)) (same_functions (λ g. same_units g id) (same_units id) (λ g. same_both g id))
    ∙ some_is (place_of roots id) (is_root roots id ∙ h)

module _ (p : Page) (ts : Tree many) (bound : bind p ts ≡ Ok (granted_roots p)) where
  has_node : (g : Granted) → IsAmong (roots_of p) g → HasNode (page_doc p ts) (roots_of p) g
  has_node (the_root id) h =
      let k = number_in (roots_of p) id in
      clean_begins (granted_roots p) k ts (begins_there (granted_roots p) k id (granted_is (roots_of p) id h) many ts [] (found (is_there (spots_in ts)) (roots_of p) id (missing_none p ts bound) h))
  has_node (the_cell k) h = tt
  has_node (the_result k) h = tt
  has_node (the_plain v) h = tt

  have_nodes : (gs : Grants) → AllAmong (roots_of p) gs → All (λ g. HasNode (page_doc p ts) (roots_of p) g.1) gs
  have_nodes [] h = All-nil (λ g. HasNode (page_doc p ts) (roots_of p) g.1)
  have_nodes (g ∷ gs) h =
      All-cons (λ g. HasNode (page_doc p ts) (roots_of p) g.1) g gs (has_node g.1 (All-head (λ g. IsAmong (roots_of p) g.1) g gs h)) (have_nodes gs (All-tail (λ g. IsAmong (roots_of p) g.1) g gs h))

  all_have : (ms : List Module) → All (λ q. AllAmong (roots_of p) q.grants) ms → All (λ m. All (λ g. HasNode (page_doc p ts) (roots_of p) g.1) m.grants) ms
  all_have [] h = All-nil (λ m. All (λ g. HasNode (page_doc p ts) (roots_of p) g.1) m.grants)
  all_have (m ∷ ms) h =
      All-cons (λ m. All (λ g. HasNode (page_doc p ts) (roots_of p) g.1) m.grants) m ms (have_nodes m.grants (All-head (λ q. AllAmong (roots_of p) q.grants) m ms h)) (all_have ms (All-tail (λ q. AllAmong (roots_of p) q.grants) m ms h))

  of_table : Cleans (page_urls p) p.html ts → OfTable (page_urls p) many ts
  of_table c = subst (λ us. OfTable (page_urls p) many us) (sym c.kept) (cleaned_of_table (page_urls p) c.source)

pub documents_are_ready : DocumentsAreReady
documents_are_ready p ts doc =
    let grantable : IsGrantable (granted_roots p) ts = (bound_is p ts (granted_roots p) doc.bound).grantable in
    record {
      reached = clean-reached (granted_roots p) ts grantable;
      clear = clean_is_clear (page_urls p) (granted_roots p) ts grantable (of_table p ts doc.bound (((is_html (page_urls p) p.html).where_cleaned ts).0 doc.clean));
      count = clean_count (granted_roots p) ts;
      granted = all_have p ts doc.bound p.modules (modules_among 0 p.modules [] (roots_of p) (λ x h. h));
    }
