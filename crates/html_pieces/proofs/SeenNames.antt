-- Names of attributes, of which the first are looked through and the others stand in a set.
use Rattle.std.proofs.Common.{◌≡◌, ℕ, zero, suc, ◌<◌, ◌≤◌, Bool, true, false, ◌&&◌, ◌||◌, not, List, [], ◌∷◌, ◌++◌, refl, sym, ap, ◌∙◌, arith, nat_eq, length, take, drop, cond}
use Rattle.std.specs.Prelude.{if◌then◌else◌}
use Rattle.std.proofs.lemmas.Bool.Decides.{nat_tests}
use Rattle.caja_units.specs.Units.{same_units}
use Rattle.html_grammar.specs.Tables.{is_in}
use Rattle.html_tree.specs.declared.Attr.{Attr}
use Rattle.html_pieces.specs.Views.{names_of}

equal_back : (a b : ℕ) → nat_eq a b ≡ nat_eq b a
equal_back a b = by_eq (nat_eq a b) refl
  where
    by_eq : (t : Bool) → nat_eq a b ≡ t → t ≡ nat_eq b a
    by_eq true h = let e : a ≡ b = grind (arith, nat_tests) in sym (let g : nat_eq b a ≡ true = grind (arith, nat_tests) in g)
    by_eq false h = sym (let n : (a ≡ b → ⊥) = grind (arith, nat_tests) in let g : nat_eq b a ≡ false = grind (arith, nat_tests) in g)

pub same_back : (us vs : List ℕ) → same_units us vs ≡ same_units vs us
same_back [] [] = refl
same_back [] (v ∷ vs) = refl
same_back (u ∷ us) [] = refl
same_back (u ∷ us) (v ∷ vs) = ap (λ b. b && same_units us vs) (equal_back u v) ∙ ap (λ b. nat_eq v u && b) (same_back us vs)

in_both : (xs ys : List (List ℕ)) (n : List ℕ) → is_in (xs ++ ys) n ≡ (is_in xs n || is_in ys n)
unfolding is_in
in_both [] ys n = refl
in_both (x ∷ xs) ys n = by_same (same_units n x) (is_in (xs ++ ys) n) (is_in xs n) (in_both xs ys n)
  where
    by_same : (b c d : Bool) → c ≡ (d || is_in ys n) → (if b then true else c) ≡ ((if b then true else d) || is_in ys n)
    by_same true c d e = refl
    by_same false c d e = e

in_one : (y n : List ℕ) → is_in (y ∷ []) n ≡ same_units n y
unfolding is_in
in_one y n = by_same (same_units n y)
  where
    by_same : (b : Bool) → (if b then true else false) ≡ b
    by_same true = refl
    by_same false = refl

split : {A : Type 0} (k : ℕ) (xs : List A) → take k xs ++ drop k xs ≡ xs
split zero xs = refl
split (suc k) [] = refl
split {A} (suc k) (x ∷ xs) = ap (λ (ys : List A). x ∷ ys) (split k xs)

in_split : (k : ℕ) (xs : List (List ℕ)) (n : List ℕ) → is_in xs n ≡ (is_in (take k xs) n || is_in (drop k xs) n)
in_split k xs n = ap (λ (ys : List (List ℕ)). is_in ys n) (sym (split k xs)) ∙ in_both (take k xs) (drop k xs) n

or_true : (a b : Bool) → b ≡ true → (a || b) ≡ true
or_true true b e = refl
or_true false b e = e

or_false : (a b : Bool) → b ≡ false → (a || b) ≡ a
or_false true b e = refl
or_false false b e = e

names_taken : (k : ℕ) (xs : List Attr) → names_of (take k xs) ≡ take k (names_of xs)
names_taken zero xs = refl
names_taken (suc k) [] = refl
names_taken (suc k) (x ∷ xs) = ap (λ (ns : List (List ℕ)). x.name ∷ ns) (names_taken k xs)

true_from_not : (b : Bool) → false ≡ not b → b ≡ true
true_from_not true e = refl
true_from_not false e = absurd cc

false_from_not : (b : Bool) → true ≡ not b → b ≡ false
false_from_not true e = absurd cc
false_from_not false e = refl

-- a name that the set has
pub stands_behind : (xs : List (List ℕ)) (n : List ℕ) (added has : Bool) → added ≡ not has → has ≡ is_in (drop 16 xs) n → added ≡ false → true ≡ is_in xs n
stands_behind xs n added has e f g = sym (in_split 16 xs n ∙ or_true (is_in (take 16 xs) n) (is_in (drop 16 xs) n) (sym f ∙ true_from_not has (sym g ∙ e)))

-- one that it hasn't
pub stands_before : (attrs : List Attr) (w : List Attr) (n : List ℕ) (added has r : Bool) → added ≡ not has → has ≡ is_in (drop 16 (names_of attrs)) n → added ≡ true → w ≡ take 16 attrs → r ≡ is_in (names_of w) n → r ≡ is_in (names_of attrs) n
stands_before attrs w n added has r e f g h i =
    i ∙ ap (λ (w : List Attr). is_in (names_of w) n) h ∙ ap (λ (ns : List (List ℕ)). is_in ns n) (names_taken 16 attrs)
    ∙ sym (in_split 16 (names_of attrs) n ∙ or_false (is_in (take 16 (names_of attrs)) n) (is_in (drop 16 (names_of attrs)) n) (sym f ∙ false_from_not has (sym g ∙ e)))

drop_more : (k : ℕ) (xs : List (List ℕ)) (n : List ℕ) → k ≤ length xs → drop k (xs ++ n ∷ []) ≡ drop k xs ++ n ∷ []
drop_more zero xs n le = refl
drop_more (suc k) [] n le = absurd (omega arith)
drop_more (suc k) (x ∷ xs) n le = drop_more k xs n (omega arith)

drop_nil : (k : ℕ) → drop {A = List ℕ} k [] ≡ []
drop_nil zero = refl
drop_nil (suc k) = refl

drop_few : (k : ℕ) (xs : List (List ℕ)) (n : List ℕ) → length xs < k → drop k (xs ++ n ∷ []) ≡ drop k xs
drop_few zero xs n lt = absurd (omega arith)
drop_few (suc k) [] n lt = drop_nil k
drop_few (suc k) (x ∷ xs) n lt = drop_few k xs n (omega arith)

length-names : (xs : List Attr) → length (names_of xs) ≡ length xs
length-names [] = refl
length-names (x ∷ xs) = ap suc (length-names xs)

pub few_names : (xs : List Attr) (n : List ℕ) → length xs < 16 → drop 16 (names_of xs) ≡ drop 16 (names_of xs ++ n ∷ [])
few_names xs n lt = sym (drop_few 16 (names_of xs) n (let e = length-names xs in omega (arith, e, lt)))

-- the set with one name more
pub one_name_more : (xs : List Attr) (k n v : List ℕ) (new old : Bool) → 16 ≤ length xs → k ≡ n → new ≡ cond (same_units k v) true old → old ≡ is_in (drop 16 (names_of xs)) v → new ≡ is_in (drop 16 (names_of xs ++ n ∷ [])) v
one_name_more xs k n v new old le e f g =
    f ∙ ap (λ (k : List ℕ). cond (same_units k v) true old) e ∙ swap (same_units n v) old ∙ ap (λ b. b || same_units n v) g
    ∙ ap (λ b. is_in (drop 16 (names_of xs)) v || b) (same_back n v ∙ sym (in_one n v)) ∙ sym (in_both (drop 16 (names_of xs)) (n ∷ []) v)
    ∙ ap (λ (ns : List (List ℕ)). is_in ns v) (sym (drop_more 16 (names_of xs) n (let z = length-names xs in omega (arith, z, le))))
  where
    swap : (b c : Bool) → cond b true c ≡ (c || b)
    swap true true = refl
    swap true false = refl
    swap false true = refl
    swap false false = refl

-- no attribute, and an empty set
pub no_names : (xs : List Attr) (b : Bool) (v : List ℕ) → xs ≡ [] → b ≡ false → b ≡ is_in (drop 16 (names_of xs)) v
unfolding is_in
no_names xs b v e f = f ∙ sym (ap (λ (ys : List Attr). is_in (drop 16 (names_of ys)) v) e)
