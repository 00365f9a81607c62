-- The page that a manifest tells of: each name that it speaks of is found among those of its cells or modules. Ids are looked for in the document, once it is read.
use Rattle.std.specs.Prelude.{ℕ, ◌+◌, List, [], ◌∷◌, ◌++◌, map, Option, None, Some, Ok, Err, nat_lt, if◌then◌else◌}
use Rattle.url_rule.specs.Table.{Row}
use Rattle.es3_tokens.specs.Tokens.{is_one_of, place_in}
use Rattle.event_script.specs.Events.{Asked, a_call, a_click, an_input, a_tick}
use Rattle.page_manifest.specs.Faults.{Found, chain, twice, unknown_grant, later_module, unknown_target}
use Rattle.page_manifest.specs.Walk.{traverse}
use Rattle.page_manifest.specs.Page.{Granted, the_cell, the_result, the_plain, the_root, Module, Page}
use Rattle.page_manifest.specs.Named.{Wish, for_root, for_cell, for_module, for_plain, Told, Plan, for_call, for_click, for_input, for_tick, Manifest}

-- the first place, from i on, of a name that stands before it, behind those that came before
abbrev pub repeated : List (List ℕ) → ℕ → List (List ℕ) → Option ℕ
repeated before i [] = None
repeated before i (n ∷ names) = if is_one_of n before then Some i else repeated (before ++ n ∷ []) (i + 1) names

abbrev pub once_each : List (List ℕ) → Option ℕ
once_each names = repeated [] 0 names

abbrev pub unless : {A : Type 0} → Option ℕ → (ℕ → ℕ × ℕ) → A → Found A
unless None fault a = Ok a
unless (Some i) fault a = Err (fault i)

-- no name of a list stands twice: the place of the later one
abbrev pub names_once : List (List ℕ) → Found (List (List ℕ))
names_once names = unless (once_each names) (λ i. (twice, i)) names

abbrev pub wish_names : Told → List (List ℕ)
wish_names m = map (λ w. w.0) m.wishes

-- no two grants of module i have one name
abbrev pub wishes_once : ℕ → Told → Found (List (List ℕ))
wishes_once i m = unless (once_each (wish_names m)) (λ _. (twice, i)) (wish_names m)

-- the number of a name, or a fault
abbrev pub number_of : ℕ → ℕ → Option ℕ → Found ℕ
number_of fault i None = Err (fault, i)
number_of fault i (Some k) = Ok k

module _ (cells modules : List (List ℕ)) where
  -- what module i is granted
  abbrev pub granted : ℕ → Wish → Found Granted
  granted i (for_root id) = Ok (the_root id)
  granted i (for_cell c) = chain (number_of unknown_grant i (place_in cells c)) (λ k. Ok (the_cell k))
  granted i (for_module m) = chain (number_of unknown_grant i (place_in modules m)) (λ k. if nat_lt k i then Ok (the_result k) else Err (later_module, i))
  granted i (for_plain v) = Ok (the_plain v)

  abbrev pub bound_wish : ℕ → List ℕ × Wish → Found (List ℕ × Granted)
  bound_wish i w = chain (granted i w.1) (λ g. Ok (w.0, g))

  abbrev pub bound_module : ℕ → Told → Found Module
  bound_module i m =
      chain (traverse (λ _. bound_wish i) 0 m.wishes) (λ gs.
      Ok (record { name = m.name; language = m.language; source = m.source; grants = gs }))

-- what event k asks for
abbrev pub bound_event : List (List ℕ) → ℕ → Plan → Found Asked
bound_event modules k (for_call m key vs) = chain (number_of unknown_target k (place_in modules m)) (λ n. Ok (a_call n key vs))
bound_event modules k (for_click id) = Ok (a_click id)
bound_event modules k (for_input id us) = Ok (an_input id us)
bound_event modules k (for_tick m) = chain (number_of unknown_target k (place_in modules m)) (λ n. Ok (a_tick n))

abbrev pub names_of : List Told → List (List ℕ)
names_of ms = map (λ m. m.name) ms

-- each name stands once
abbrev pub all_once : Manifest → Found (List (List (List ℕ)))
all_once p =
    chain (names_once p.cells) (λ _.
    chain (names_once (names_of p.modules)) (λ _.
    traverse wishes_once 0 p.modules))

-- the page of an embedder whose rule has this table
abbrev pub bound : List Row → Manifest → Found Page
bound rule p =
    chain (all_once p) (λ _.
    chain (traverse (bound_module p.cells (names_of p.modules)) 0 p.modules) (λ ms.
    chain (traverse (bound_event (names_of p.modules)) 0 p.events) (λ es.
    Ok (record { rule = rule; base = p.base; html = p.html; styles = p.styles; cells = p.cells; modules = ms; events = es }))))
