-- Names among others, and what no fault says of a word.
use Rattle.std.proofs.Common.{◌≡◌, ℕ, Bool, true, false, List, [], ◌∷◌, ◌++◌, cond, refl, sym, ap, ◌∙◌, subst}
use Rattle.std.specs.Prelude.{codes, ◌||◌, ◌&&◌, not}
use Rattle.std.specs.Cmp.Lexicographic.{same_text}
use Rattle.std.proofs.lemmas.List.Folds.{list_any-append}
use Rattle.caja_units.specs.Units.{same_units, is_hidden}
use Rattle.es3_objects.proofs.Keys.{same_key-refl}
use Rattle.es3_tree.specs.Placed.{Word}
use Rattle.cajita_names.specs.Rules.{fixed_names}
use Rattle.cajita_names.specs.Once.{once_after}
use Rattle.cajita_rules.specs.Faults.{Fault, hidden, reserved, declared}
use Rattle.cajita_simulation.specs.Guest.{is_among, Names, GuestName, GuestKey}

-- tests

pub not_true : (b : Bool) → not b ≡ true → b ≡ false
not_true true e = absurd cc
not_true false e = refl

pub or_left : (a b : Bool) → (a || b) ≡ false → a ≡ false
or_left true b e = absurd cc
or_left false b e = refl

pub or_right : (a b : Bool) → (a || b) ≡ false → b ≡ false
or_right true b e = absurd cc
or_right false b e = e

pub right_there : (a b : Bool) → b ≡ true → (a || b) ≡ true
right_there true b e = refl
right_there false b e = e

pub left_there : (a b : Bool) → a ≡ true → (a || b) ≡ true
left_there true b e = refl
left_there false b e = absurd cc

pub both_true : (a b : Bool) → (a && b) ≡ true → (a ≡ true) × (b ≡ true)
both_true true b e = (refl, e)
both_true false b e = absurd cc

pub never : {A : Type 0} → false ≡ true → A
never e = absurd cc

-- parts of lists

pub no_front : {A : Type 0} (fs gs : List A) → fs ++ gs ≡ [] → fs ≡ []
no_front [] gs e = refl
no_front (f ∷ fs) gs e = absurd cc

pub no_back : {A : Type 0} (fs gs : List A) → fs ++ gs ≡ [] → gs ≡ []
no_back [] gs e = e
no_back (f ∷ fs) gs e = absurd cc

-- the names of a list are all of these
abbrev pub AllIn : List (List ℕ) → Names → Type 0
AllIn xs names = (k : List ℕ) → is_among xs k ≡ true → names k ≡ true

pub all_front : (xs ys : List (List ℕ)) (names : Names) → AllIn (xs ++ ys) names → AllIn xs names
all_front xs ys names f k there = f k (list_any-append (same_units k) xs ys ∙ left_there _ _ there)

pub all_back : (xs ys : List (List ℕ)) (names : Names) → AllIn (xs ++ ys) names → AllIn ys names
all_back xs ys names f k there = f k (list_any-append (same_units k) xs ys ∙ right_there _ _ there)

pub either : {A : Type 0} (a b : Bool) → (a || b) ≡ true → (a ≡ true → A) → (b ≡ true → A) → A
either true b e f g = f refl
either false b e f g = g e

pub all_both : (xs ys : List (List ℕ)) (names : Names) → AllIn xs names → AllIn ys names → AllIn (xs ++ ys) names
all_both xs ys names f g k there = either (is_among xs k) (is_among ys k) (sym (list_any-append (same_units k) xs ys) ∙ there) (f k) (g k)

-- what no fault says of a word

pub none_there : (b : Bool) (f : Fault) → cond b (f ∷ []) [] ≡ [] → b ≡ false
none_there true f e = absurd cc
none_there false f e = refl

not_hidden : (x : Word) → hidden x ≡ [] → is_hidden x.text ≡ false
not_hidden x e = none_there (is_hidden x.text) _ e

other_way : (x y : List ℕ) → same_units x y ≡ false → same_units y x ≡ false
other_way x y e =
    let cases = elim (same_units y x) as (λ b. same_units y x ≡ b → b ≡ false) [
      | true ↦ λ is. let same : same_units x y ≡ true = subst (λ z. same_units x z ≡ true) (sym (same_text y x (sym is))) (same_key-refl x) in cc (sym same ∙ e)
      | false ↦ λ is. refl
    ] in cases refl

pub guest_key : (x : Word) → hidden x ++ reserved x ≡ [] → GuestKey x.text
guest_key x clean =
    let none = none_there _ _ (no_back (hidden x) _ clean) in
    record {
      open_key = not_hidden x (no_front _ _ clean);
      no_text = other_way x.text (codes "toString") (or_left _ _ none);
      no_value = other_way x.text (codes "valueOf") (or_left _ _ (or_right (same_units x.text (codes "toString")) _ none));
    }

pub guest_used : (x : Word) → same_units x.text (codes "arguments") ≡ false → hidden x ≡ [] → GuestName x.text
guest_used x bare clean = record { open_name = not_hidden x clean; own_name = bare }

pub guest_declared : (x : Word) → declared x ≡ [] → GuestName x.text
guest_declared x clean = guest_used x (none_there _ _ (no_back _ _ clean)) (no_front _ _ (no_front _ _ clean))

-- the same name is as good

pub guest_same : (k x : List ℕ) → same_units k x ≡ true → GuestName x → GuestName k
guest_same k x same g = subst GuestName (sym (same_text k x (sym same))) g

abbrev EachGuest : List (List ℕ) → Type 0
EachGuest [] = Unit {0}
EachGuest (x ∷ xs) = GuestName x × EachGuest xs

each_guest : (xs : List (List ℕ)) → EachGuest xs → (k : List ℕ) → is_among xs k ≡ true → GuestName k
each_guest [] p k there = never there
each_guest (x ∷ xs) p k there = either (same_units k x) (is_among xs k) there (λ same. guest_same k x same p.0) (each_guest xs p.1 k)

pub fixed_guest : (k : List ℕ) → is_among fixed_names k ≡ true → GuestName k
fixed_guest k there = each_guest fixed_names (b refl refl, (b refl refl, (b refl refl, (b refl refl, (b refl refl, (b refl refl, (b refl refl, (b refl refl, (b refl refl, (b refl refl, (b refl refl, tt))))))))))) k there
  where
    b : {x : List ℕ} → is_hidden x ≡ false → same_units x (codes "arguments") ≡ false → GuestName x
    b p q = record { open_name = p; own_name = q }

-- those that are granted, where these are such, and the fixed ones
pub known_guest : (grants : List (List ℕ)) → ((k : List ℕ) → is_among grants k ≡ true → GuestName k) → (k : List ℕ) → is_among (grants ++ fixed_names) k ≡ true → GuestName k
known_guest grants each k there = either (is_among grants k) (is_among fixed_names k) (sym (list_any-append (same_units k) grants fixed_names) ∙ there) (each k) (fixed_guest k)

-- each name once is the same names

or_false : (a : Bool) → (a || false) ≡ a
or_false true = refl
or_false false = refl

or_true : (b : Bool) → true ≡ (b || true)
or_true true = refl
or_true false = refl

or_assoc : (a b d : Bool) → ((a || b) || d) ≡ (a || (b || d))
or_assoc true b d = refl
or_assoc false b d = refl

absorbed : (a b : Bool) → (a ≡ true → b ≡ true) → (b || a) ≡ b
absorbed true b f = sym (or_true b) ∙ sym (f refl)
absorbed false b f = or_false b

pub once_same : (seen xs : List (List ℕ)) (k : List ℕ) → is_among (once_after seen xs) k ≡ (is_among seen k || is_among xs k)
once_same seen [] k = sym (or_false (is_among seen k))
once_same seen (x ∷ xs) k =
    let there : is_among seen x ≡ true → same_units k x ≡ true → is_among seen k ≡ true = λ seen_x same. subst (λ z. is_among seen z ≡ true) (sym (same_text k x (sym same))) seen_x in
    let cases = elim (is_among seen x) as (λ b. is_among seen x ≡ b → is_among (once_after (cond b seen (seen ++ x ∷ [])) xs) k ≡ (is_among seen k || (same_units k x || is_among xs k))) [
      | true ↦ λ is. once_same seen xs k ∙ ap (λ b. b || is_among xs k) (sym (absorbed (same_units k x) (is_among seen k) (there is))) ∙ or_assoc (is_among seen k) (same_units k x) (is_among xs k)
      | false ↦ λ is. once_same (seen ++ x ∷ []) xs k ∙ ap (λ b. b || is_among xs k) (list_any-append (same_units k) seen (x ∷ []) ∙ ap (λ b. is_among seen k || b) (or_false (same_units k x))) ∙ or_assoc (is_among seen k) (same_units k x) (is_among xs k)
    ] in cases refl
