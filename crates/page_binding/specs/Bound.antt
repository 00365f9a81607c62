-- How the ids that a page speaks of are looked for in its document: the first fault, or the ids of the granted roots.
use Rattle.std.specs.Prelude.{ℕ, ◌+◌, List, [], ◌∷◌, ◌++◌, Bool, true, false, ◌||◌, ◌&&◌, Option, None, Some, is_some, codes, if◌then◌else◌}
use Rattle.std.specs.List.{list_any}
use Rattle.html_grammar.specs.Trees.{many, Tree}
use Rattle.caja_units.specs.Units.{same_units}
use Rattle.es3_tokens.specs.Tokens.{is_one_of}
use Rattle.event_script.specs.Events.{Asked, a_call, a_click, an_input, a_tick}
use Rattle.page_manifest.specs.Faults.{Found, chain, twice, unknown_grant, overlap, unknown_target}
use Rattle.page_manifest.specs.Bound.{unless, once_each}
use Rattle.page_manifest.specs.Page.{Style, Page}
use Rattle.page_roots.specs.Roots.{Roots, roots_of, granted_roots}
use Rattle.page_binding.specs.Spots.{Spot, spots_in, ids_of, spot_of, around}

-- the module that is first granted a root, of the first root that isn't there
abbrev pub first_missing : (List ℕ → Bool) → Roots → Option ℕ
first_missing is_there [] = None
first_missing is_there (r ∷ rest) = if is_there r.0 then first_missing is_there rest else Some r.1

-- the first sheet whose element isn't there, of those from sheet i on
abbrev pub first_bare : (List ℕ → Bool) → ℕ → List Style → Option ℕ
first_bare is_there i [] = None
first_bare is_there i (s ∷ ss) = if is_there s.root then first_bare is_there (i + 1) ss else Some i

-- of the first root that stands inside one of those before it, or around one
abbrev pub first_overlap : (List ℕ → List ℕ → Bool) → List (List ℕ) → Roots → Option ℕ
first_overlap is_inside before [] = None
first_overlap is_inside before (r ∷ rest) =
    if list_any (λ e. is_inside r.0 e || is_inside e r.0) before then Some r.1 else first_overlap is_inside (before ++ r.0 ∷ []) rest

-- what an event asks for is there
abbrev pub is_met : (click input : List ℕ → Bool) → Asked → Bool
is_met click input (a_call m key args) = true
is_met click input (a_click id) = click id
is_met click input (an_input id us) = input id
is_met click input (a_tick m) = true

-- the first event that isn't met, of those from event k on
abbrev pub first_lost : (click input : List ℕ → Bool) → ℕ → List Asked → Option ℕ
first_lost click input k [] = None
first_lost click input k (e ∷ es) = if is_met click input e then first_lost click input (k + 1) es else Some k

module _ (ss : List Spot) where
  abbrev pub is_there : List ℕ → Bool
  is_there id = is_some (spot_of ss id)

  -- one element stands inside another
  abbrev pub is_inside : List ℕ → List ℕ → Bool
  is_inside a b = is_one_of b (around ss a)

  -- an element is one of some roots, or stands inside one
  abbrev pub is_under : List (List ℕ) → List ℕ → Bool
  is_under roots id = is_one_of id roots || list_any (λ b. is_one_of b roots) (around ss id)

abbrev pub is_input : Option Spot → Bool
is_input None = false
is_input (Some s) = same_units s.tag (codes "input")

-- an element that may be clicked; and one into which a text may be put, an `input`
abbrev pub can_click : List Spot → List (List ℕ) → List ℕ → Bool
can_click ss roots id = is_there ss id && is_under ss roots id

abbrev pub can_input : List Spot → List (List ℕ) → List ℕ → Bool
can_input ss roots id = can_click ss roots id && is_input (spot_of ss id)

-- each id stands once, each granted root is there, each sheet's element is, each root overlaps none before it, and each event is met
abbrev pub bind : Page → Tree many → Found (List (List ℕ))
bind p ts =
    let ss = spots_in ts in
    let roots = granted_roots p in
    chain (unless (once_each (ids_of ss)) (λ _. (twice, 0)) ss) (λ _.
    chain (unless (first_missing (is_there ss) (roots_of p)) (λ m. (unknown_grant, m)) ss) (λ _.
    chain (unless (first_bare (is_there ss) 0 p.styles) (λ i. (unknown_grant, i)) ss) (λ _.
    chain (unless (first_overlap (is_inside ss) [] (roots_of p)) (λ m. (overlap, m)) ss) (λ _.
    unless (first_lost (can_click ss roots) (can_input ss roots) 0 p.events) (λ k. (unknown_target, k)) roots))))
