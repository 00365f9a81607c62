-- The roots that a page grants: no id stands twice among them, and the number of an id that a module is granted is its place.
use Rattle.std.proofs.Common.{◌≡◌, ◌⊎◌, inl, inr, ℕ, zero, suc, ◌+◌, Bool, true, false, List, [], ◌∷◌, ◌++◌, Some, cond, refl, sym, ap, ◌∙◌, subst, arith, ⊎_elim, length}
use Rattle.std.specs.Prelude.{slice_get, is_some, if◌then◌else◌}
use Rattle.std.specs.List.{position_from}
use Rattle.std.specs.Map.{keys_of}
use Rattle.std.specs.Option.{unwrap_or}
use Rattle.std.proofs.lemmas.Bool.{true≢false, false≢true}
use Rattle.std.proofs.lemmas.List.{map-append}
use Rattle.caja_units.specs.Units.{same_units}
use Rattle.caja_units.proofs.Texts.{same_units-equal, same_units-from_equal}
use Rattle.cell_numbers.specs.Names.{IsNamed, AreNamedOnce}
use Rattle.page_manifest.specs.Page.{Granted, the_cell, the_result, the_plain, the_root, Grants, Module, Page}
use Rattle.page_roots.specs.Roots.{Roots, place_of, with_root, with_grant, with_grants, with_modules, roots_of, granted_roots, number_in}
use Rattle.page_agreement.specs.Agree.{IsAt, IsGrantedIn}

-- names in a list

abbrev IsIn : List (List ℕ) → List ℕ → Type 0
IsIn names x = (c : ℕ) × IsNamed names c x

the_name : {x y : List ℕ} → Some x ≡ Some y → x ≡ y
the_name e = cc

left : (xs ys : List (List ℕ)) (c : ℕ) (x : List ℕ) → IsNamed xs c x → IsNamed (xs ++ ys) c x
left [] ys c x e = absurd cc
left (y ∷ xs) ys zero x e = e
left (y ∷ xs) ys (suc c) x e = left xs ys c x e

last : (xs : List (List ℕ)) (x : List ℕ) → IsNamed (xs ++ x ∷ []) (length xs) x
last [] x = refl
last (y ∷ xs) x = last xs x

-- one that stands in a longer list stands in the list, or is the last
record IsLast (xs : List (List ℕ)) (y : List ℕ) (c : ℕ) (x : List ℕ) : Type 0 where
  place : c ≡ length xs
  name : y ≡ x

behind : (z : List ℕ) (xs : List (List ℕ)) (y : List ℕ) (c : ℕ) (x : List ℕ) → IsLast xs y c x → IsLast (z ∷ xs) y (suc c) x
behind z xs y c x l = record { place = ap suc l.place; name = l.name }

in_either : (xs : List (List ℕ)) (y : List ℕ) (c : ℕ) (x : List ℕ) → IsNamed (xs ++ y ∷ []) c x → IsNamed xs c x ⊎ IsLast xs y c x
in_either [] y zero x e = inr (record { place = refl; name = the_name e })
in_either [] y (suc c) x e = absurd cc
in_either (z ∷ xs) y zero x e = inl e
in_either (z ∷ xs) y (suc c) x e = ⊎_elim (λ h. inl h) (λ l. inr (behind z xs y c x l)) (in_either xs y c x e)

once_more : (xs : List (List ℕ)) (y : List ℕ) → AreNamedOnce xs → ((c : ℕ) → IsNamed xs c y → ⊥) → AreNamedOnce (xs ++ y ∷ [])
once_more xs y once new c d x e f = ⊎_elim (λ h. ⊎_elim (λ k. once c d x h k) (λ l. absurd (new c (subst (IsNamed xs c) (sym l.name) h))) (in_either xs y d x f)) (λ l. ⊎_elim (λ k. absurd (new d (subst (IsNamed xs d) (sym l.name) k))) (λ m. l.place ∙ sym m.place) (in_either xs y d x f)) (in_either xs y c x e)

-- a name that is there is found
record IsFound (id : List ℕ) (k : ℕ) (names : List (List ℕ)) : Type 0 where
  place : ℕ
  found : position_from (same_units id) k names ≡ Some (k + place)
  named : IsNamed names place id

finds : (id : List ℕ) (k : ℕ) (names : List (List ℕ)) (c : ℕ) → IsNamed names c id → IsFound id k names
finds id k [] c e = absurd cc
finds id k (x ∷ names) c e = at (λ d is. finds id (k + 1) names d is) (same_units id x) refl c e
  where
    further : IsFound id (k + 1) names → same_units id x ≡ false → IsFound id k (x ∷ names)
    further f fails =
        let same : k + 1 + f.place ≡ k + suc f.place = omega arith in
        record { place = suc f.place; found = ap (λ b. cond b (Some k) (position_from (same_units id) (k + 1) names)) fails ∙ f.found ∙ ap Some same; named = f.named }

    at : ((d : ℕ) → IsNamed names d id → IsFound id (k + 1) names) → (b : Bool) → same_units id x ≡ b → (d : ℕ) → IsNamed (x ∷ names) d id → IsFound id k (x ∷ names)
    at rest true holds d is =
        let same : k ≡ k + 0 = omega arith in
        record { place = 0; found = ap (λ b. cond b (Some k) (position_from (same_units id) (k + 1) names)) holds ∙ ap Some same; named = ap Some (sym (same_units-equal id x holds)) }
    at rest false fails zero is = absurd (true≢false (sym (same_units-from_equal id x (sym (the_name is))) ∙ fails))
    at rest false fails (suc d) is = further (rest d is) fails

is_there : (id : List ℕ) (k : ℕ) (names : List (List ℕ)) → is_some (position_from (same_units id) k names) ≡ true → IsIn names id
is_there id k [] e = absurd (false≢true e)
is_there id k (x ∷ names) e = at (λ h. is_there id (k + 1) names h) (same_units id x) refl e
  where
    at : (is_some (position_from (same_units id) (k + 1) names) ≡ true → IsIn names id) → (b : Bool) → same_units id x ≡ b → is_some (cond b (Some k) (position_from (same_units id) (k + 1) names)) ≡ true → IsIn (x ∷ names) id
    at rest true holds h = (0, ap Some (sym (same_units-equal id x holds)))
    at rest false fails h = let c = rest h in (suc c.0, c.1)

place_named : (roots : Roots) (id : List ℕ) → IsIn (keys_of roots) id → IsNamed (keys_of roots) (number_in roots id) id
place_named roots id is =
    let f = finds id 0 (keys_of roots) is.0 is.1 in
    let same : number_in roots id ≡ f.place = ap (λ o. unwrap_or o 0) f.found ∙ (let z : 0 + f.place ≡ f.place = omega arith in z) in
    subst (λ n. IsNamed (keys_of roots) n id) (sym same) f.named

place_found : (roots : Roots) (id : List ℕ) → IsIn (keys_of roots) id → place_of roots id ≡ Some (number_in roots id)
place_found roots id is = let f = finds id 0 (keys_of roots) is.0 is.1 in f.found ∙ ap Some (sym (ap (λ o. unwrap_or o 0) f.found))

-- with a root more

abbrev Keys : Roots → List (List ℕ)
Keys roots = keys_of roots

keys_more : (m : ℕ) (id : List ℕ) (roots : Roots) → keys_of (roots ++ (id, m) ∷ []) ≡ Keys roots ++ id ∷ []
keys_more m id roots = map-append (λ e. e.0) roots ((id, m) ∷ [])

-- whatever holds with the root where it was there, and where it is new
with_either : (P : Roots → Type 0) (m : ℕ) (id : List ℕ) (roots : Roots) → (IsIn (Keys roots) id → P roots) → (((c : ℕ) → IsNamed (Keys roots) c id → ⊥) → P (roots ++ (id, m) ∷ [])) → P (with_root m id roots)
with_either P m id roots old new = at (is_some (place_of roots id)) refl
  where
    none : is_some (place_of roots id) ≡ false → (c : ℕ) → IsNamed (Keys roots) c id → ⊥
    none fails c is = true≢false (sym (ap is_some (finds id 0 (Keys roots) c is).found) ∙ fails)

    at : (b : Bool) → is_some (place_of roots id) ≡ b → P (if b then roots else roots ++ (id, m) ∷ [])
    at true holds = old (is_there id 0 (Keys roots) holds)
    at false fails = new (none fails)

root_keeps : (m : ℕ) (id : List ℕ) (roots : Roots) (x : List ℕ) → IsIn (Keys roots) x → IsIn (Keys (with_root m id roots)) x
root_keeps m id roots x is = with_either (λ r. IsIn (Keys r) x) m id roots (λ there. is) (λ new. subst (λ names. IsIn names x) (sym (keys_more m id roots)) (is.0, left (Keys roots) (id ∷ []) is.0 x is.1))

root_has : (m : ℕ) (id : List ℕ) (roots : Roots) → IsIn (Keys (with_root m id roots)) id
root_has m id roots = with_either (λ r. IsIn (Keys r) id) m id roots (λ there. there) (λ new. subst (λ names. IsIn names id) (sym (keys_more m id roots)) (length (Keys roots), last (Keys roots) id))

root_once : (m : ℕ) (id : List ℕ) (roots : Roots) → AreNamedOnce (Keys roots) → AreNamedOnce (Keys (with_root m id roots))
root_once m id roots once = with_either (λ r. AreNamedOnce (Keys r)) m id roots (λ there. once) (λ new. subst AreNamedOnce (sym (keys_more m id roots)) (once_more (Keys roots) id once new))

-- with all that a module is granted

grant_keeps : (m : ℕ) (t : Granted) (roots : Roots) (x : List ℕ) → IsIn (Keys roots) x → IsIn (Keys (with_grant m t roots)) x
grant_keeps m (the_root id) roots x is = root_keeps m id roots x is
grant_keeps m (the_cell k) roots x is = is
grant_keeps m (the_result k) roots x is = is
grant_keeps m (the_plain v) roots x is = is

grant_once : (m : ℕ) (t : Granted) (roots : Roots) → AreNamedOnce (Keys roots) → AreNamedOnce (Keys (with_grant m t roots))
grant_once m (the_root id) roots once = root_once m id roots once
grant_once m (the_cell k) roots once = once
grant_once m (the_result k) roots once = once
grant_once m (the_plain v) roots once = once

grants_keep : (m : ℕ) (gs : Grants) (roots : Roots) (x : List ℕ) → IsIn (Keys roots) x → IsIn (Keys (with_grants m gs roots)) x
grants_keep m [] roots x is = is
grants_keep m ((y, t) ∷ gs) roots x is = grants_keep m gs (with_grant m t roots) x (grant_keeps m t roots x is)

grants_have : (m : ℕ) (gs : Grants) (roots : Roots) (id : List ℕ) → IsGrantedIn (the_root id) gs → IsIn (Keys (with_grants m gs roots)) id
grants_have m [] roots id h = absurd h
grants_have m ((y, t) ∷ gs) roots id h =
    ⊎_elim (λ e. grants_keep m gs (with_grant m t roots) id (subst (λ s. IsIn (Keys (with_grant m s roots)) id) (sym e) (root_has m id roots))) (λ k. grants_have m gs (with_grant m t roots) id k) h

grants_once : (m : ℕ) (gs : Grants) (roots : Roots) → AreNamedOnce (Keys roots) → AreNamedOnce (Keys (with_grants m gs roots))
grants_once m [] roots once = once
grants_once m ((y, t) ∷ gs) roots once = grants_once m gs (with_grant m t roots) (grant_once m t roots once)

-- with all that modules are granted

modules_keep : (m : ℕ) (ms : List Module) (roots : Roots) (x : List ℕ) → IsIn (Keys roots) x → IsIn (Keys (with_modules m ms roots)) x
modules_keep m [] roots x is = is
modules_keep m (q ∷ ms) roots x is = modules_keep (suc m) ms (with_grants m q.grants roots) x (grants_keep m q.grants roots x is)

modules_have : (m : ℕ) (ms : List Module) (roots : Roots) (id : List ℕ) (j : ℕ) (n : Module) → slice_get ms j ≡ Some n → IsGrantedIn (the_root id) n.grants → IsIn (Keys (with_modules m ms roots)) id
modules_have m [] roots id j n at h = absurd cc
modules_have m (q ∷ ms) roots id zero n at h =
    let same : q ≡ n = cc in
    modules_keep (suc m) ms (with_grants m q.grants roots) id (grants_have m q.grants roots id (subst (λ (k : Module). IsGrantedIn (the_root id) k.grants) (sym same) h))
modules_have m (q ∷ ms) roots id (suc j) n at h = modules_have (suc m) ms (with_grants m q.grants roots) id j n at h

modules_once : (m : ℕ) (ms : List Module) (roots : Roots) → AreNamedOnce (Keys roots) → AreNamedOnce (Keys (with_modules m ms roots))
modules_once m [] roots once = once
modules_once m (q ∷ ms) roots once = modules_once (suc m) ms (with_grants m q.grants roots) (grants_once m q.grants roots once)

none_once : AreNamedOnce []
none_once c d x e f = absurd cc

-- of a page

pub roots_once : (p : Page) → AreNamedOnce (granted_roots p)
roots_once p = modules_once 0 p.modules [] none_once

pub root_named : (p : Page) (i : ℕ) (m : Module) (id : List ℕ) → IsAt p i m → IsGrantedIn (the_root id) m.grants → IsNamed (granted_roots p) (number_in (roots_of p) id) id
root_named p i m id at h = place_named (roots_of p) id (modules_have 0 p.modules [] id i m at h)

pub root_placed : (p : Page) (i : ℕ) (m : Module) (id : List ℕ) → IsAt p i m → IsGrantedIn (the_root id) m.grants → place_of (roots_of p) id ≡ Some (number_in (roots_of p) id)
root_placed p i m id at h = place_found (roots_of p) id (modules_have 0 p.modules [] id i m at h)
