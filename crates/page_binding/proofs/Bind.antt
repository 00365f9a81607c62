-- The first fault, by the table of the document's ids.
use Rattle.std.proofs.Common.{◌≡◌, ℕ, Bool, true, false, true≢false, List, [], length, Option, Some, None, Result, Ok, Err, refl, sym, ap, ◌∙◌, subst}
use Rattle.std.specs.Result.{is_ok}
use Rattle.std.specs.Map.{keys_of}
use Rattle.html_grammar.specs.Trees.{many, Tree}
use Rattle.html_tree.specs.declared.Html.{Html}
use Rattle.html_tree.specs.Views.{trees}
use Rattle.page_manifest.specs.Answers.{Answers}
use Rattle.page_manifest.specs.declared.PageError.{PageError}
use Rattle.page_manifest.specs.declared.PageError.TheVariants as refused
use Rattle.event_script.specs.Events.{Asked}
use Rattle.page_manifest.specs.Faults.{Found, Fault, chain, twice, unknown_grant, overlap, unknown_target}
use Rattle.page_manifest.specs.Bound.{unless, once_each}
use Rattle.page_manifest.specs.Page.{Style, Page}
use Rattle.page_manifest.proofs.Validity.{ok_is, no_ok, steps}
use Rattle.page_roots.specs.Roots.{Roots, roots_of, granted_roots}
use Rattle.page_binding.specs.Spots.{Spot, spots_in, ids_of}
use Rattle.page_binding.specs.Bound.{first_missing, first_bare, first_overlap, first_lost, is_met, is_there, is_inside, can_click, can_input, bind}
use Rattle.page_binding.specs.Table.{Table, walked, is_held, overlap_from, takes_click, takes_input, tested}
use Rattle.doc_laws.specs.Reached.{IsGrantable}
use Rattle.page_binding.specs.Binding.{IsBound, BoundIsGrantable}
use Rattle.page_binding.proofs.Names.{same_functions}
use Rattle.page_binding.proofs.Walked.{all_told, walk_is}
use Rattle.page_binding.proofs.Found.{held_is, click_is, input_is}
use Rattle.page_binding.proofs.Once.{not_around_itself}
use Rattle.page_binding.proofs.Overlaps.{overlaps_are}
use Rattle.page_binding.proofs.Grantable.{grantable}

-- a test that found nothing
unless_is : {A : Type 0} (o : Option ℕ) (fault : ℕ → Fault) (a b : A) → unless o fault a ≡ Ok b → (o ≡ None) × (a ≡ b)
unless_is None fault a b e = (refl, ok_is a b e)
unless_is (Some k) fault a b e = no_ok (fault k) b e

-- what the first test leaves doesn't matter behind it
any_left : {A B C : Type 0} (o : Option ℕ) (fault : ℕ → Fault) (a : A) (b : B) (next : Found C) → chain (unless o fault a) (λ _. next) ≡ chain (unless o fault b) (λ _. next)
any_left None fault a b next = refl
any_left (Some k) fault a b next = refl

abbrev after_once : Roots → List Spot → List Style → List Asked → Found (List (List ℕ))
after_once roots ss styles es =
    chain (unless (first_missing (is_there ss) roots) (λ m. (unknown_grant, m)) ss) (λ _.
    chain (unless (first_bare (is_there ss) 0 styles) (λ i. (unknown_grant, i)) ss) (λ _.
    chain (unless (first_overlap (is_inside ss) [] roots) (λ m. (overlap, m)) ss) (λ _.
    unless (first_lost (can_click ss (keys_of roots)) (can_input ss (keys_of roots)) 0 es) (λ k. (unknown_target, k)) (keys_of roots))))

tested_is : (roots : Roots) (ts : Tree many) (styles : List Style) (es : List Asked) → once_each (ids_of (spots_in ts)) ≡ None → after_once roots (spots_in ts) styles es ≡ tested roots (all_told roots (spots_in ts)) styles es
tested_is roots ts styles es once =
    let ss = spots_in ts in
    let t = all_told roots ss in
    let there : is_held t ≡ is_there ss = same_functions (is_held t) (is_there ss) (λ id. held_is roots id ss) in
    let click : takes_click roots t ≡ can_click ss (keys_of roots) = same_functions (takes_click roots t) (can_click ss (keys_of roots)) (λ id. click_is roots id ss) in
    let input : takes_input roots t ≡ can_input ss (keys_of roots) = same_functions (takes_input roots t) (can_input ss (keys_of roots)) (λ id. input_is roots id ss) in
    let over : overlap_from roots t (length roots) 0 roots ≡ first_overlap (is_inside ss) [] roots = overlaps_are roots ss (not_around_itself ts once) in
    let last : Option ℕ → Found (List (List ℕ)) = λ o. unless o (λ k. (unknown_target, k)) (keys_of roots) in
    let middle : Option ℕ → Option ℕ → Found (List (List ℕ)) = λ o q. chain (unless o (λ m. (overlap, m)) ss) (λ _. last q) in
    let clothed : (List ℕ → Bool) → Option ℕ → Option ℕ → Found (List (List ℕ)) = λ f o q. chain (unless (first_bare f 0 styles) (λ i. (unknown_grant, i)) ss) (λ _. middle o q) in
    let first : (List ℕ → Bool) → Option ℕ → Option ℕ → Found (List (List ℕ)) = λ f o q. chain (unless (first_missing f roots) (λ m. (unknown_grant, m)) ss) (λ _. clothed f o q) in
    let lost = first_lost (can_click ss (keys_of roots)) (can_input ss (keys_of roots)) 0 es in
    let found = first_lost (takes_click roots t) (takes_input roots t) 0 es in
    let same : lost ≡ found = ap (λ f. first_lost f (can_input ss (keys_of roots)) 0 es) (sym click) ∙ ap (λ f. first_lost (takes_click roots t) f 0 es) (sym input) in
    let passed = overlap_from roots t (length roots) 0 roots in
    let missing = first_missing (is_held t) roots in
    let bare = first_bare (is_held t) 0 styles in
    ap (first (is_there ss) (first_overlap (is_inside ss) [] roots)) same
    ∙ ap (λ o. first (is_there ss) o found) (sym over)
    ∙ ap (λ f. first f passed found) (sym there)
    ∙ any_left missing (λ m. (unknown_grant, m)) ss t (clothed (is_held t) passed found)
    ∙ ap (λ n. chain (unless missing (λ m. (unknown_grant, m)) t) (λ _. n)) (any_left bare (λ i. (unknown_grant, i)) ss t (middle passed found))
    ∙ ap (λ n. chain (unless missing (λ m. (unknown_grant, m)) t) (λ _. chain (unless bare (λ i. (unknown_grant, i)) t) (λ _. n))) (any_left passed (λ m. (overlap, m)) ss t (last found))

-- the walk came to a table
pub bind_by_table : (p : Page) (ts : Tree many) (roots : Roots) (t : Table) → roots ≡ roots_of p → walked roots many ts (length roots) [] ≡ Ok t → bind p ts ≡ tested roots t p.styles p.events
bind_by_table p ts roots t are walk =
    let ss = spots_in ts in
    let u = unless_is (once_each (ids_of ss)) (λ _. (twice, 0)) (all_told roots ss) t (sym (walk_is roots ts) ∙ walk) in
    ap (λ o. chain (unless o (λ _. (twice, 0)) ss) (λ _. after_once (roots_of p) ss p.styles p.events)) u.0
    ∙ ap (λ r. after_once r ss p.styles p.events) (sym are)
    ∙ tested_is roots ts p.styles p.events u.0
    ∙ ap (λ x. tested roots x p.styles p.events) u.1

refusal : {A : Type 0} (f g : Fault) → ◌≡◌ {A = Found A} (Err f) (Err g) → f ≡ g
refusal f g e = cc

twice_at : {A B C : Type 0} (o : Option ℕ) (a : A) (f : Fault) (b : B) (next : B → Found C) → unless o (λ _. (twice, 0)) a ≡ Err f → chain (unless o (λ _. (twice, 0)) b) next ≡ Err f
twice_at None a f b next e = absurd (true≢false (ap is_ok e))
twice_at {A} (Some k) a f b next e = ap Err (refusal {A = A} (twice, 0) f e)

-- the walk came to an id a second time
pub bind_twice : (p : Page) (ts : Tree many) (roots : Roots) (f : Fault) → walked roots many ts (length roots) [] ≡ Err f → bind p ts ≡ Err f
bind_twice p ts roots f walk =
    twice_at (once_each (ids_of (spots_in ts))) (all_told roots (spots_in ts)) f (spots_in ts) (λ _. after_once (roots_of p) (spots_in ts) p.styles p.events) (sym (walk_is roots ts) ∙ walk)

-- ---- what the program answers

module _ (p : Page) (list html : List Html) (roots : Roots) (t : Table) (same : list ≡ html) (are : roots ≡ roots_of p) (walk : walked roots many (trees list) (length roots) [] ≡ Ok t) where
  pub by_table : bind p (trees html) ≡ tested roots t p.styles p.events
  by_table = bind_by_table p (trees html) roots t are (ap (λ l. walked roots many (trees l) (length roots) []) (sym same) ∙ walk)

-- the walk stopped
pub walk_stops : (p : Page) (list html : List Html) (roots : Roots) (e : PageError) → list ≡ html → Answers (λ (x : Table). x) (Err e) (walked roots many (trees list) (length roots) []) → Answers (λ (r : Roots). keys_of r) (Err e) (bind p (trees html))
walk_stops p list html roots (refused.Fault n i) same h = bind_twice p (trees html) roots (n, i) (ap (λ l. walked roots many (trees l) (length roots) []) (sym same) ∙ h)
walk_stops p list html roots refused.Memory same h = tt

pub bound_is : BoundIsGrantable
bound_is p ts ids e =
    let ss = spots_in ts in
    let a = steps (unless (once_each (ids_of ss)) (λ _. (twice, 0)) ss) (λ _. after_once (roots_of p) ss p.styles p.events) ids e in
    let b = steps (unless (first_missing (is_there ss) (roots_of p)) (λ m. (unknown_grant, m)) ss) _ ids a.after in
    let s = steps (unless (first_bare (is_there ss) 0 p.styles) (λ i. (unknown_grant, i)) ss) _ ids b.after in
    let c = steps (unless (first_overlap (is_inside ss) [] (roots_of p)) (λ m. (overlap, m)) ss) _ ids s.after in
    let once = (unless_is (once_each (ids_of ss)) (λ _. (twice, 0)) ss a.first a.found).0 in
    let out = (unless_is (first_overlap (is_inside ss) [] (roots_of p)) (λ m. (overlap, m)) ss c.first c.found).0 in
    let same = (unless_is (first_lost (can_click ss (granted_roots p)) (can_input ss (granted_roots p)) 0 p.events) (λ k. (unknown_target, k)) (granted_roots p) ids c.after).1 in
    record { roots = sym same; grantable = subst (λ l. IsGrantable l ts) same (grantable (roots_of p) ts once out) }
