-- Names that stand apart are new to a record.
use Rattle.std.proofs.Common.{◌≡◌, ℕ, List, [], ◌∷◌, ◌++◌, All, map, refl, sym, ap, ◌∙◌, subst, append_assoc}
use Rattle.std.specs.Prelude.{◌||◌}
use Rattle.std.specs.List.{list_any}
use Rattle.std.proofs.lemmas.List.{map-append}
use Rattle.std.proofs.lemmas.List.Elements.{All-tail}
use Rattle.caja_units.specs.Units.{same_units}
use Rattle.es3_objects.specs.declared.value.Value.{Value}
use Rattle.freeze_marks.specs.Records.{has_key, AreNew}
use Rattle.heap_rows.specs.Opening.{fixed_values}
use Rattle.tamed_dom.specs.Lent.{Lent}
use Rattle.module_loader.specs.Turns.{Results, say_place, granted_value, granted_pairs}
use Rattle.page_runner.specs.Deeds.{grant_of, grants_of, GrantFits, AreApart, fixed_names}
use Rattle.page_runner.specs.declared.deeds.Grant.{Grant}

abbrev names : List (List ℕ × Value) → List (List ℕ)
names ps = map (λ p. p.0) ps

any_name : (k : List ℕ) (ps : List (List ℕ × Value)) → has_key k ps ≡ list_any (same_units k) (names ps)
any_name k [] = refl
any_name k (p ∷ ps) = ap (λ b. same_units k p.0 || b) (any_name k ps)

apart_are_new : (modules : ℕ) (r : Results) (z : Lent) (before : List (List ℕ × Value)) (gs : List (List ℕ × Grant)) → AreApart (names before) (map (λ g. g.0) gs) → AreNew before (granted_pairs modules r z (grants_of gs))
apart_are_new modules r z before [] apart = tt
apart_are_new modules r z before (g ∷ gs) apart =
    let p : List ℕ × Value = (g.0, granted_value modules r z (grant_of g.1)) in
    (any_name g.0 before ∙ apart.0, apart_are_new modules r z (before ++ p ∷ []) gs (subst (λ ns. AreApart ns (map (λ q. q.0) gs)) (sym (map-append (λ (q : List ℕ × Value). q.0) before (p ∷ []))) apart.1))

pub granted_are_new : (modules : ℕ) (r : Results) (z : Lent) (owner : ℕ) (gs : List (List ℕ × Grant)) → AreApart fixed_names (map (λ g. g.0) gs) → AreNew (fixed_values (say_place owner)) (granted_pairs modules r z (grants_of gs))
granted_are_new modules r z owner gs apart = apart_are_new modules r z (fixed_values (say_place owner)) gs apart

-- one more grant

pub one_more : (modules : ℕ) (r : Results) (z : Lent) (vs ws : List (List ℕ × Value)) (q rest : List (List ℕ × Grant)) (x : List ℕ) (g : Grant) (v : Value) (all : List (List ℕ × Value)) → vs ++ granted_pairs modules r z (grants_of q) ≡ all → q ≡ (x, g) ∷ rest
    → v ≡ granted_value modules r z (grant_of g) → ws ≡ vs ++ (x, v) ∷ [] → ws ++ granted_pairs modules r z (grants_of rest) ≡ all
one_more modules r z vs ws q rest x g v all so_far steps is pushed =
    ap (λ l. l ++ granted_pairs modules r z (grants_of rest)) pushed
    ∙ append_assoc vs ((x, v) ∷ []) (granted_pairs modules r z (grants_of rest))
    ∙ ap (λ u. vs ++ ((x, u) ∷ granted_pairs modules r z (grants_of rest))) is
    ∙ ap (λ l. vs ++ granted_pairs modules r z (grants_of l)) (sym steps)
    ∙ so_far

pub others_fit : (q rest : List (List ℕ × Grant)) (x : List ℕ) (g : Grant) → q ≡ (x, g) ∷ rest → All (λ p. GrantFits p.1) q → All (λ p. GrantFits p.1) rest
others_fit q rest x g steps fit = All-tail (λ (p : List ℕ × Grant). GrantFits p.1) (x, g) rest (subst (All (λ (p : List ℕ × Grant). GrantFits p.1)) steps fit)
