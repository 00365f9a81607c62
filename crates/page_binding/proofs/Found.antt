-- What is found in the table of a document's ids is what is found among its spots.
use Rattle.std.proofs.Common.{◌≡◌, ℕ, ◌≤◌, Bool, true, false, ◌||◌, ◌&&◌, List, [], ◌∷◌, length, take, map, cond, Option, Some, None, option_map, refl, sym, ap, ◌∙◌, arith}
use Rattle.std.specs.Prelude.{nat_lt, is_some}
use Rattle.std.specs.List.{list_any}
use Rattle.std.specs.Map.{lookup, keys_of}
use Rattle.std.proofs.lemmas.List.{take_all, length-map}
use Rattle.caja_units.specs.Units.{same_units}
use Rattle.es3_tokens.specs.Tokens.{is_one_of}
use Rattle.page_roots.specs.Roots.{Roots, place_of}
use Rattle.page_binding.specs.Spots.{Spot, spot_of, around, around_it}
use Rattle.page_binding.specs.Bound.{is_there, is_under, is_input, can_click, can_input}
use Rattle.page_binding.specs.Table.{least_of, least_at, is_held, is_owned, takes_text, takes_click, takes_input}
use Rattle.page_binding.specs.declared.table.Held.{Held}
use Rattle.page_binding.proofs.Least.{least, least_below, is_root}
use Rattle.page_binding.proofs.Walked.{told, all_told}

abbrev held : Roots → Spot → Held
held roots s = (told roots s).1

module _ (roots : Roots) where
  found : (id : List ℕ) (ss : List Spot) → lookup (same_units id) (all_told roots ss) ≡ option_map (held roots) (spot_of ss id)
  found id [] = refl
  found id (s ∷ ss) =
      elim (same_units id s.id) as (λ b. cond b (Some (held roots s)) (lookup (same_units id) (all_told roots ss)) ≡ option_map (held roots) (cond b (Some s) (spot_of ss id))) [
        | true ↦ refl
        | false ↦ found id ss
      ]

  there_in : (o : Option Spot) → is_some (option_map (held roots) o) ≡ is_some o
  there_in None = refl
  there_in (Some s) = refl

  pub held_is : (id : List ℕ) (ss : List Spot) → is_held (all_told roots ss) id ≡ is_there ss id
  held_is id ss = ap is_some (found id ss) ∙ there_in (spot_of ss id)

  least_in : (o : Option Spot) → least_of roots (option_map (held roots) o) ≡ least roots (around_it o)
  least_in None = refl
  least_in (Some s) = refl

  pub least_is : (id : List ℕ) (ss : List Spot) → least_at roots (all_told roots ss) id ≡ least roots (around ss id)
  least_is id ss = ap (least_of roots) (found id ss) ∙ least_in (spot_of ss id)

  -- one of all roots is around, where the first one around is one
  under_is : (path : List (List ℕ)) → nat_lt (least roots path) (length roots) ≡ list_any (λ b. is_one_of b (keys_of roots)) path
  under_is path =
      let many : length (keys_of roots) ≤ length roots = omega (arith, length-map roots (λ (e : List ℕ × ℕ). e.0)) in
      least_below roots path (length roots) (omega arith)
      ∙ ap (λ l. list_any (λ b. is_one_of b l) path) (take_all (length roots) (keys_of roots) many)

  owned_in : (id : List ℕ) (o : Option Spot) → is_owned roots id (option_map (held roots) o) ≡ (is_some o && (is_one_of id (keys_of roots) || list_any (λ b. is_one_of b (keys_of roots)) (around_it o)))
  owned_in id None = refl
  owned_in id (Some s) = ap (λ b. b || nat_lt (least roots s.around) (length roots)) (is_root roots id) ∙ ap (λ b. is_one_of id (keys_of roots) || b) (under_is s.around)

  pub click_is : (id : List ℕ) (ss : List Spot) → takes_click roots (all_told roots ss) id ≡ can_click ss (keys_of roots) id
  click_is id ss = ap (is_owned roots id) (found id ss) ∙ owned_in id (spot_of ss id)

  text_in : (o : Option Spot) → takes_text (option_map (held roots) o) ≡ is_input o
  text_in None = refl
  text_in (Some s) = refl

  pub input_is : (id : List ℕ) (ss : List Spot) → takes_input roots (all_told roots ss) id ≡ can_input ss (keys_of roots) id
  input_is id ss =
      ap (λ b. b && takes_text (lookup (same_units id) (all_told roots ss))) (click_is id ss)
      ∙ ap (λ b. can_click ss (keys_of roots) id && b) (ap (takes_text) (found id ss) ∙ text_in (spot_of ss id))
