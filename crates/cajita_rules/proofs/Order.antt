-- The first of some faults: of a list in two parts, and as the lists of a program are gone over.
use Rattle.std.proofs.Common.{◌≡◌, ℕ, ◌+◌, ◌<◌, List, [], ◌∷◌, ◌++◌, length, get_or, drop, Option, Some, None, Bool, true, false, cond, option_map, refl, sym, ap, subst, ◌∙◌, arith}
use Rattle.std.specs.Prelude.{Result, Ok}
use Rattle.caja_units.specs.declared.Memory.{Memory}
use Rattle.std.proofs.lemmas.Bool.Decides.{nat_tests}
use Rattle.std.proofs.lemmas.List.{at_drop_more}
use Rattle.cajita_rules.specs.Faults.{Fault, is_before, inserted, ordered, first}
use Rattle.cajita_rules.specs.declared.found.Found.{Found}
use Rattle.cajita_rules.specs.Found.{fault_of, first_in, earlier_of, IsFirst}

before-before : (a b c : Fault) → is_before b a ≡ true → is_before c b ≡ true → is_before c a ≡ true
before-before a b c h g = grind (arith, nat_tests)

after-after : (a b c : Fault) → is_before b a ≡ false → is_before c b ≡ false → is_before c a ≡ false
after-after a b c h g = grind (arith, nat_tests)

both-ways : {C : Type 0} (b : Bool) → b ≡ true → b ≡ false → C
both-ways true h g = absurd cc
both-ways false h g = absurd cc

three : (a b c : Fault) (p : Bool) → is_before b a ≡ p → (q : Bool) → is_before c b ≡ q → (r : Bool) → is_before c a ≡ r
    → earlier_of (earlier_of (Some a) (Some b)) (Some c) ≡ earlier_of (Some a) (earlier_of (Some b) (Some c))
three a b c true h true g true i = simp (h, g, i) refl
three a b c true h true g false i = both-ways (is_before c a) (before-before a b c h g) i
three a b c true h false g r i = simp (h, g) refl
three a b c false h true g r i = simp (h, g) refl
three a b c false h false g false i = simp (h, g, i) refl
three a b c false h false g true i = both-ways (is_before c a) i (after-after a b c h g)

pub with_none : (a : Option Fault) → earlier_of a None ≡ a
with_none None = refl
with_none (Some a) = refl

pub earlier-assoc : (a b c : Option Fault) → earlier_of (earlier_of a b) c ≡ earlier_of a (earlier_of b c)
earlier-assoc None b c = refl
earlier-assoc (Some a) None c = refl
earlier-assoc (Some a) (Some b) None = with_none (earlier_of (Some a) (Some b))
earlier-assoc (Some a) (Some b) (Some c) = three a b c (is_before b a) refl (is_before c b) refl (is_before c a) refl

pub first-more : (x : Fault) (fs : List Fault) → first (inserted x fs) ≡ earlier_of (Some x) (first fs)
first-more x [] = refl
first-more x (y ∷ ys) = go (is_before y x)
  where
    go : (b : Bool) → first (cond b (y ∷ inserted x ys) (x ∷ y ∷ ys)) ≡ cond b (Some y) (Some x)
    go true = refl
    go false = refl

-- the first of a list is the first of its two parts
pub append_first : (xs ys : List Fault) → first_in (xs ++ ys) ≡ earlier_of (first_in xs) (first_in ys)
append_first [] ys = refl
append_first (x ∷ xs) ys =
    first-more x (ordered (xs ++ ys))
    ∙ ap (earlier_of (Some x)) (append_first xs ys)
    ∙ sym (earlier-assoc (Some x) (first_in xs) (first_in ys))
    ∙ ap (λ o. earlier_of o (first_in ys)) (sym (first-more x (ordered xs)))

-- with one part more
pub one-more : (found here more : Option Fault) (fs gs all : List Fault) → here ≡ first_in fs → more ≡ earlier_of found here → all ≡ fs ++ gs → earlier_of more (first_in gs) ≡ earlier_of found (first_in all)
one-more found here more fs gs all at is parts =
    ap (λ o. earlier_of o (first_in gs)) (is ∙ ap (earlier_of found) at)
    ∙ earlier-assoc found (first_in fs) (first_in gs)
    ∙ ap (earlier_of found) (sym (append_first fs gs) ∙ ap first_in (sym parts))

-- a list gone over up to i, with the element there
pub turn : {A : Type 0} (all : List A → List Fault) (fs : List Fault) (xs : List A) (i : ℕ) (x : A) (found here more : Option Fault) → i < length xs → x ≡ get_or xs i x
    → all (x ∷ drop (i + 1) xs) ≡ fs ++ all (drop (i + 1) xs) → here ≡ first_in fs → more ≡ earlier_of found here
    → earlier_of more (first_in (all (drop (i + 1) xs))) ≡ earlier_of found (first_in (all (drop i xs)))
turn all fs xs i x found here more h is parts at now =
    one-more found here more fs (all (drop (i + 1) xs)) (all (drop i xs)) at now
    (at_drop_more all xs i x h ∙ ap (λ z. all (z ∷ drop (i + 1) xs)) (sym is) ∙ parts)

some-none : {C : Type 0} (o : Option Fault) (x : Fault) → earlier_of (Some x) o ≡ None → C
some-none None x e = absurd cc
some-none (Some y) x e = go (is_before y x) e
  where
    go : {C : Type 0} (b : Bool) → cond b (Some y) (Some x) ≡ None → C
    go true e = absurd cc
    go false e = absurd cc

-- where there is no first one, there is none
pub none_at_all : (fs : List Fault) → first_in fs ≡ None → fs ≡ []
none_at_all [] e = refl
none_at_all (x ∷ fs) e = some-none (first_in fs) x (sym (first-more x (ordered fs)) ∙ e)

-- of the firsts of two lists the earlier one is the first of both
pub of_parts : {front behind : Result (Option Found) Memory} (f g both : Option Found) → front ≡ Ok f → behind ≡ Ok g
    → option_map fault_of both ≡ earlier_of (option_map fault_of f) (option_map fault_of g) → (fs gs : List Fault)
    → IsFirst front fs → IsFirst behind gs → IsFirst (Ok both) (fs ++ gs)
of_parts f g both front behind is fs gs a b =
    let here : option_map fault_of f ≡ first_in fs = (subst (λ r. IsFirst r fs) front a).told in
    let there : option_map fault_of g ≡ first_in gs = (subst (λ r. IsFirst r gs) behind b).told in
    record { told = is ∙ ap (λ o. earlier_of o (option_map fault_of g)) here ∙ ap (earlier_of (first_in fs)) there ∙ sym (append_first fs gs) }

-- of the faults of a whole, which are those of its parts
pub as_one : {r : Result (Option Found) Memory} {whole fs : List Fault} → whole ≡ fs → IsFirst r fs → IsFirst r whole
as_one {r} e h = subst (IsFirst r) (sym e) h
