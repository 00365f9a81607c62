-- The keys of names, and of those that an object adds to others.
use Rattle.std.proofs.Common.{◌≡◌, ℕ, true, false, not, ◌&&◌, cond, map, filter, List, [], ◌∷◌, refl, ap}
use Rattle.es3_objects.specs.declared.properties.Name.{Name}
use Rattle.es3_objects.specs.Objects.{Property}
use Rattle.es3_objects.specs.Held.{names_of}
use Rattle.es3_heap.specs.Objects.{Objects}
use Rattle.es3_heap.specs.Enumerating.{shadowed}

pub keys-named : (ps : List Property) → map (λ (n : Name). n.key) (names_of ps) ≡ map (λ (p : Property). p.key) ps
keys-named [] = refl
keys-named (p ∷ ps) = ap (λ l. p.key ∷ l) (keys-named ps)

pub added-named : (h : Objects) (below : List ℕ) (ps : List Property) → map (λ (n : Name). n.key) (filter (λ (n : Name). not n.attrs.dont_enum && not (shadowed h below n.key)) (names_of ps)) ≡ map (λ (p : Property). p.key) (filter (λ (p : Property). not p.attrs.dont_enum && not (shadowed h below p.key)) ps)
added-named h below [] = refl
added-named h below (p ∷ ps) =
    let n : Name = record { key = p.key; attrs = p.attrs } in
    let rest = added-named h below ps in
    elim (not p.attrs.dont_enum && not (shadowed h below p.key)) as (λ b. map (λ (n : Name). n.key) (cond b (n ∷ filter (λ (n : Name). not n.attrs.dont_enum && not (shadowed h below n.key)) (names_of ps)) (filter (λ (n : Name). not n.attrs.dont_enum && not (shadowed h below n.key)) (names_of ps))) ≡ map (λ (p : Property). p.key) (cond b (p ∷ filter (λ (p : Property). not p.attrs.dont_enum && not (shadowed h below p.key)) ps) (filter (λ (p : Property). not p.attrs.dont_enum && not (shadowed h below p.key)) ps))) [
      | true ↦ ap (λ l. p.key ∷ l) rest
      | false ↦ rest
    ]
