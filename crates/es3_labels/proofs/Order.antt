-- The first of some jumps and labels: of a list in two parts, and as the lists of a program are gone over.
use Rattle.std.proofs.Common.{◌≡◌, ℕ, ◌+◌, ◌<◌, List, [], ◌∷◌, ◌++◌, length, get_or, drop, Option, Some, None, refl, sym, ap, ◌∙◌, arith}
use Rattle.std.proofs.lemmas.List.{at_drop_more}
use Rattle.std.proofs.lemmas.Bool.Decides.{nat_tests}
use Rattle.es3_labels.specs.Misplaced.{Misplaced, earlier, first}

pub with_none : (a : Option Misplaced) → earlier a None ≡ a
with_none None = refl
with_none (Some a) = refl

pub earlier-assoc : (a b c : Option Misplaced) → earlier (earlier a b) c ≡ earlier a (earlier b c)
earlier-assoc None b c = refl
earlier-assoc (Some a) None c = refl
earlier-assoc (Some a) (Some b) None = with_none (earlier (Some a) (Some b))
earlier-assoc (Some a) (Some b) (Some c) = grind (arith, nat_tests)

-- the first of a list is the first of its two parts
pub first-append : (xs ys : List Misplaced) → first (xs ++ ys) ≡ earlier (first xs) (first ys)
first-append [] ys = refl
first-append (x ∷ xs) ys = ap (earlier (Some x)) (first-append xs ys) ∙ sym (earlier-assoc (Some x) (first xs) (first ys))

-- of the firsts of two lists the earlier one is the first of both
pub of_parts : (both front behind : Option Misplaced) (ms ns : List Misplaced) → both ≡ earlier front behind → front ≡ first ms → behind ≡ first ns → both ≡ first (ms ++ ns)
of_parts both front behind ms ns is f g = is ∙ ap (λ o. earlier o behind) f ∙ ap (earlier (first ms)) g ∙ sym (first-append ms ns)

-- with one part more
pub one-more : (found here more : Option Misplaced) (ms ns all : List Misplaced) → here ≡ first ms → more ≡ earlier found here → all ≡ ms ++ ns → earlier more (first ns) ≡ earlier found (first all)
one-more found here more ms ns all at is parts =
    ap (λ o. earlier o (first ns)) (is ∙ ap (earlier found) at)
    ∙ earlier-assoc found (first ms) (first ns)
    ∙ ap (earlier found) (sym (first-append ms ns) ∙ ap first (sym parts))

-- a list gone over up to i, with the element there
pub turn : {A : Type 0} (all : List A → List Misplaced) (ms : List Misplaced) (xs : List A) (i : ℕ) (x : A) (found here more : Option Misplaced) → i < length xs → x ≡ get_or xs i x
    → all (x ∷ drop (i + 1) xs) ≡ ms ++ all (drop (i + 1) xs) → here ≡ first ms → more ≡ earlier found here
    → earlier more (first (all (drop (i + 1) xs))) ≡ earlier found (first (all (drop i xs)))
turn all ms xs i x found here more h is parts at now =
    one-more found here more ms (all (drop (i + 1) xs)) (all (drop i xs)) at now
    (at_drop_more all xs i x h ∙ ap (λ z. all (z ∷ drop (i + 1) xs)) (sym is) ∙ parts)
