-- What a page whose ids are found is known by: no id stands twice, each root is there, and so is what each event asks for.
use Rattle.std.proofs.Common.{◌≡◌, ℕ, ◌+◌, Bool, true, false, List, [], ◌∷◌, Option, Some, None, Ok, refl, sym, ap, ◌∙◌}
use Rattle.std.specs.Prelude.{All, if◌then◌else◌}
use Rattle.std.specs.Map.{keys_of}
use Rattle.std.proofs.lemmas.Bool.{true≢false, or_cases}
use Rattle.std.proofs.lemmas.List.Elements.{All-nil, All-cons}
use Rattle.caja_units.specs.Units.{same_units}
use Rattle.caja_units.proofs.Texts.{same_units-equal}
use Rattle.html_grammar.specs.Trees.{many, Tree}
use Rattle.es3_tokens.specs.Tokens.{is_one_of}
use Rattle.event_script.specs.Events.{Asked}
use Rattle.page_manifest.specs.Faults.{Fault, Found, chain, twice, unknown_grant, overlap, unknown_target}
use Rattle.page_manifest.specs.Bound.{unless, once_each}
use Rattle.page_manifest.specs.Page.{Page}
use Rattle.page_roots.specs.Roots.{Roots, roots_of, granted_roots}
use Rattle.page_binding.specs.Spots.{spots_in, ids_of}
use Rattle.page_binding.specs.Bound.{first_missing, first_bare, first_overlap, is_met, first_lost, is_there, is_inside, can_click, can_input, bind}
use Rattle.page_binding.proofs.Names.{either_way}

-- a test that found nothing, and what follows it
passes : {A B : Type 0} (o : Option ℕ) (fault : ℕ → Fault) (a : A) (next : A → Found B) (b : B) → chain (unless o fault a) next ≡ Ok b → (o ≡ None) × (next a ≡ Ok b)
passes None fault a next b e = (refl, e)
passes (Some k) fault a next b e = absurd cc

last_passes : {A : Type 0} (o : Option ℕ) (fault : ℕ → Fault) (a b : A) → unless o fault a ≡ Ok b → o ≡ None
last_passes None fault a b e = refl
last_passes (Some k) fault a b e = absurd cc

all_there : (f : List ℕ → Bool) (rs : Roots) → first_missing f rs ≡ None → (id : List ℕ) → is_one_of id (keys_of rs) ≡ true → f id ≡ true
all_there f [] h id here = absurd (true≢false (sym here))
all_there f (r ∷ rs) h id here = at (f r.0) refl h (all_there f rs)
  where
    at : (b : Bool) → f r.0 ≡ b → (if b then first_missing f rs else Some r.1) ≡ None → (first_missing f rs ≡ None → (id : List ℕ) → is_one_of id (keys_of rs) ≡ true → f id ≡ true) → f id ≡ true
    at true e g rest = either_way (or_cases (same_units id r.0) (is_one_of id (keys_of rs)) here) (λ same. ap f (same_units-equal id r.0 same) ∙ e) (λ behind. rest g id behind)
    at false e g rest = absurd cc

module _ (click input : List ℕ → Bool) where
  abbrev IsMet : Asked → Type 0
  IsMet e = is_met click input e ≡ true

  all_met : (k : ℕ) (es : List Asked) → first_lost click input k es ≡ None → All IsMet es
  all_met k [] h = All-nil IsMet
  all_met k (e ∷ es) h = at (is_met click input e) refl h (all_met (k + 1) es)
    where
      at : (b : Bool) → is_met click input e ≡ b → (if b then first_lost click input (k + 1) es else Some k) ≡ None → (first_lost click input (k + 1) es ≡ None → All IsMet es) → All IsMet (e ∷ es)
      at true m g rest = All-cons IsMet e es m (rest g)
      at false m g rest = absurd cc

pub record IsFound (p : Page) (ts : Tree many) : Type 0 where
  pub once : once_each (ids_of (spots_in ts)) ≡ None
  pub there : (id : List ℕ) → is_one_of id (granted_roots p) ≡ true → is_there (spots_in ts) id ≡ true
  pub met : All (λ e. is_met (can_click (spots_in ts) (granted_roots p)) (can_input (spots_in ts) (granted_roots p)) e ≡ true) p.events

pub is_found : (p : Page) (ts : Tree many) (ids : List (List ℕ)) → bind p ts ≡ Ok ids → IsFound p ts
is_found p ts ids e =
    let ss = spots_in ts in
    let roots = granted_roots p in
    let click = can_click ss roots in
    let input = can_input ss roots in
    let lost = unless (first_lost click input 0 p.events) (λ k. (unknown_target, k)) roots in
    let apart = chain (unless (first_overlap (is_inside ss) [] (roots_of p)) (λ m. (overlap, m)) ss) (λ _. lost) in
    let clothed = chain (unless (first_bare (is_there ss) 0 p.styles) (λ i. (unknown_grant, i)) ss) (λ _. apart) in
    let there = chain (unless (first_missing (is_there ss) (roots_of p)) (λ m. (unknown_grant, m)) ss) (λ _. clothed) in
    let first = passes (once_each (ids_of ss)) (λ _. (twice, 0)) ss (λ _. there) ids e in
    let second = passes (first_missing (is_there ss) (roots_of p)) (λ m. (unknown_grant, m)) ss (λ _. clothed) ids first.1 in
    let sheets = passes (first_bare (is_there ss) 0 p.styles) (λ i. (unknown_grant, i)) ss (λ _. apart) ids second.1 in
    let third = passes (first_overlap (is_inside ss) [] (roots_of p)) (λ m. (overlap, m)) ss (λ _. lost) ids sheets.1 in
    let fourth = last_passes (first_lost click input 0 p.events) (λ k. (unknown_target, k)) roots ids third.1 in
    record { once = first.0; there = all_there (is_there ss) (roots_of p) second.0; met = all_met click input 0 p.events fourth }
