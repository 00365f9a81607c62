-- Items of arguments objects, one after another.
use Rattle.std.proofs.Common.{◌≡◌, ℕ, zero, suc, ◌+◌, ◌<◌, ◌≤◌, ◌-◌, Bool, true, false, not, nat_lt, cond, List, [], ◌∷◌, ◌++◌, length, get_or, set, drop, take, Option, Some, None, refl, sym, ap, ◌∙◌, arith, append_assoc, length-drop, drop-cons}
use Rattle.std.specs.Prelude.{map}
use Rattle.std.specs.List.{position, position_or_len, remove}
use Rattle.std.proofs.Math.Seq.{drop-nil}
use Rattle.std.proofs.lemmas.List.{append-nil, length-map, map-set, get_or-map, take_more_set, drop-set-lt, drop_all, take_all, drop-map}
use Rattle.std.proofs.lemmas.Bool.Decides.{nat_tests}
use Rattle.std.specs.declared.rc.Rc.{Rc}
use Rattle.std.specs.Global.{Global}
use Rattle.caja_units.specs.Units.{same_units}
use Rattle.caja_units.specs.Index.{number_units}
use Rattle.es3_objects.specs.declared.value.Value.{Value}
use Rattle.es3_heap.specs.Objects.{Objects, hidden_attrs}
use Rattle.es3_heap.specs.Properties.{define}
use Rattle.es3_language.specs.Store as store
use Rattle.es3_language.specs.Store.{Names, name_value}
use Rattle.es3_language.specs.Arguments.{value_or, comes_again, with_items, without_item, unshared}
use Rattle.es3_moves.specs.declared.texts.SharedItem.{SharedItem}
use Rattle.es3_moves.specs.declared.texts.Shared.{Shared}
use Rattle.es3_moves.specs.Code.{units_of, names_of}
use Rattle.es3_moves.specs.Texts.{plain_item, plain_share}
use Rattle.es3_references.specs.Shares.{own_parameter, bound_value, item_value, item_of, shared_front, one_unshared}

-- the item of a key

abbrev pub is_for : List ℕ → SharedItem → Bool
is_for k i = same_units k i.key

abbrev place : List ℕ → List SharedItem → ℕ
place k xs = position_or_len (is_for k) xs

one_more : (n : ℕ) → 1 + n ≡ suc n
one_more n = omega arith

without-within : (k : List ℕ) (xs : List SharedItem) → place k xs < length xs → map plain_item (remove xs (place k xs)) ≡ without_item k (map plain_item xs)
without-within k [] h = absurd (omega arith)
without-within k (x ∷ xs) h =
    let cases = elim (same_units k x.key) as (λ b. cond (not b) (1 + place k xs) 0 < suc (length xs) → map plain_item (remove (x ∷ xs) (cond (not b) (1 + place k xs) 0)) ≡ cond b (map plain_item xs) (plain_item x ∷ without_item k (map plain_item xs))) [
      | true ↦ λ less. refl
      | false ↦ λ less. rw (one_more (place k xs)) (ap (λ l. plain_item x ∷ l) (without-within k xs (omega arith)))
    ] in cases h

without-past : (k : List ℕ) (xs : List SharedItem) → length xs ≤ place k xs → map plain_item xs ≡ without_item k (map plain_item xs)
without-past k [] h = refl
without-past k (x ∷ xs) h =
    let cases = elim (same_units k x.key) as (λ b. suc (length xs) ≤ cond (not b) (1 + place k xs) 0 → plain_item x ∷ map plain_item xs ≡ cond b (map plain_item xs) (plain_item x ∷ without_item k (map plain_item xs))) [
      | true ↦ λ less. absurd (omega arith)
      | false ↦ λ less. ap (λ l. plain_item x ∷ l) (without-past k xs (omega arith))
    ] in cases h

position_some : (k : List ℕ) (xs : List SharedItem) (at : ℕ) → position (is_for k) xs ≡ Some at → (place k xs ≡ at) × (place k xs < length xs)
position_some k xs at e =
    let cases = elim (nat_lt (place k xs) (length xs)) as (λ b. nat_lt (place k xs) (length xs) ≡ b → cond b (Some (place k xs)) None ≡ Some at → (place k xs ≡ at) × (place k xs < length xs)) [
      | true ↦ λ is h. (cc, grind (arith, nat_tests))
      | false ↦ λ is h. cc
    ] in cases refl e

position_none : (k : List ℕ) (xs : List SharedItem) → position (is_for k) xs ≡ None → length xs ≤ place k xs
position_none k xs e =
    let cases = elim (nat_lt (place k xs) (length xs)) as (λ b. nat_lt (place k xs) (length xs) ≡ b → ◌≡◌ {A = Option ℕ} (cond b (Some (place k xs)) None) None → length xs ≤ place k xs) [
      | true ↦ λ is h. cc
      | false ↦ λ is h. grind (arith, nat_tests)
    ] in cases refl e

pub some_without : (k : List ℕ) (xs : List SharedItem) (at : ℕ) → position (is_for k) xs ≡ Some at → map plain_item (remove xs at) ≡ without_item k (map plain_item xs)
some_without k xs at e =
    let here = position_some k xs at e in
    ap (λ n. map plain_item (remove xs n)) (sym here.0) ∙ without-within k xs here.1

pub none_without : (k : List ℕ) (xs : List SharedItem) → position (is_for k) xs ≡ None → map plain_item xs ≡ without_item k (map plain_item xs)
none_without k xs e = without-past k xs (position_none k xs e)

-- one more item of an arguments object

abbrev items_from : ℕ → ℕ → List (List ℕ) → List Value → Names → Objects → Objects
items_from o i xs vs names h = with_items o i xs vs names h

bound-own : (again : Bool) (x : List ℕ) (v : Value) (names : Names) → cond again v (value_or v (name_value x names)) ≡ bound_value (cond again None (Some x)) v names
bound-own true x v names = refl
bound-own false x v names = refl

items_next : (o k i : ℕ) (xs : List (List ℕ)) (vs : List Value) (v : Value) (names : Names) (h : Objects) → i < length vs → v ≡ get_or vs i v → items_from o k (drop i xs) (drop i vs) names h ≡ items_from o (k + 1) (drop (suc i) xs) (drop (suc i) vs) names (define h o (number_units k) (item_value xs i v names) hidden_attrs)
items_next o k i xs [] v names h lt e = absurd (omega arith)
items_next o k zero [] (w ∷ vs) v names h lt e = ap (λ u. with_items o (k + 1) [] vs names (define h o (number_units k) u hidden_attrs)) (sym e)
items_next o k zero (x ∷ xs) (w ∷ vs) v names h lt e =
    ap (λ u. with_items o (k + 1) xs vs names (define h o (number_units k) (cond (comes_again x xs) u (value_or u (name_value x names))) hidden_attrs)) (sym e)
    ∙ ap (λ u. with_items o (k + 1) xs vs names (define h o (number_units k) u hidden_attrs)) (bound-own (comes_again x xs) x v names)
items_next o k (suc i) [] (w ∷ vs) v names h lt e =
    ap (λ l. items_from o k l (drop i vs) names h) (sym (drop-nil i))
    ∙ items_next o k i [] vs v names h (omega arith) e
    ∙ ap (λ l. with_items o (k + 1) [] (drop (suc i) vs) names (define h o (number_units k) (bound_value (own_parameter l) v names) hidden_attrs)) (drop-nil i)
items_next o k (suc i) (x ∷ xs) (w ∷ vs) v names h lt e = items_next o k i xs vs v names h (omega arith) e

pub items_more : (o i : ℕ) (xs : List (List ℕ)) (vs : List Value) (v u : Value) (key : List ℕ) (names : Names) (h h' all : Objects) → i < length vs → v ≡ get_or vs i v → u ≡ item_value xs i v names → key ≡ number_units i → h' ≡ define h o key u hidden_attrs → with_items o i (drop i xs) (drop i vs) names h ≡ all → with_items o (i + 1) (drop (i + 1) xs) (drop (i + 1) vs) names h' ≡ all
items_more o i xs vs v u key names h h' all lt e f is g inv =
    let one : i + 1 ≡ suc i = omega arith in
    ap (λ n. with_items o (i + 1) (drop n xs) (drop n vs) names h') one
    ∙ ap (λ m. with_items o (i + 1) (drop (suc i) xs) (drop (suc i) vs) names m) (g ∙ ap (λ w. define h o key w hidden_attrs) f ∙ ap (λ q. define h o q (item_value xs i v names) hidden_attrs) is)
    ∙ sym (items_next o i i xs vs v names h lt e)
    ∙ inv

pub items_done : (o i : ℕ) (xs : List (List ℕ)) (vs : List Value) (names : Names) (h all : Objects) → length vs ≤ i → with_items o i (drop i xs) (drop i vs) names h ≡ all → h ≡ all
items_done o i xs vs names h all le inv = ap (λ l. with_items o i (drop i xs) l names h) (sym (drop_all i vs le)) ∙ inv

-- the parameter at an index, which counts unless its name comes again

pub own_at : (i : ℕ) (ps : List (Rc (List ℕ) Global)) (p : Rc (List ℕ) Global) (x : List ℕ) (again : Bool) → i < length ps → p ≡ get_or ps i p → x ≡ p.value → again ≡ comes_again x (names_of (take (length ps - (i + 1)) (drop (i + 1) ps))) → cond again None (Some p.value) ≡ own_parameter (drop i (names_of ps))
own_at i ps p x again lt is named e =
    let one : i + 1 ≡ suc i = omega arith in
    let all : length (drop (i + 1) ps) ≤ length ps - (i + 1) = grind (arith, length-drop) in
    let behind = ap (λ l. comes_again x (names_of l)) (take_all (length ps - (i + 1)) (drop (i + 1) ps) all) ∙ ap (λ n. comes_again x (names_of (drop n ps))) one ∙ ap (λ y. comes_again y (names_of (drop (suc i) ps))) named in
    ap (λ b. cond b None (Some p.value)) (e ∙ behind)
    ∙ ap own_parameter (sym (drop-map units_of i ps ∙ ap names_of (drop-cons ps i p lt ∙ ap (λ q. q ∷ drop (suc i) ps) (sym is))))

-- the items that have the values of parameters, one more

front_next : (k i n : ℕ) (xs : List (List ℕ)) → i < n → shared_front k (drop i xs) (n - i) ≡ item_of k (own_parameter (drop i xs)) ++ shared_front (k + 1) (drop (suc i) xs) (n - suc i)
front_next k i zero xs m = absurd (omega arith)
front_next k zero (suc n) [] m = refl
front_next k (suc i) (suc n) [] m = refl
front_next k zero (suc n) (x ∷ xs) m =
    let all : suc n - 0 ≡ suc n = omega arith in
    let rest : suc n - suc zero ≡ n = omega arith in
    ap (λ j. shared_front k (x ∷ xs) j) all ∙ ap (λ j. item_of k (own_parameter (x ∷ xs)) ++ shared_front (k + 1) xs j) (sym rest)
front_next k (suc i) (suc n) (x ∷ xs) m =
    let here : suc n - suc i ≡ n - i = omega arith in
    let rest : suc n - suc (suc i) ≡ n - suc i = omega arith in
    ap (λ j. shared_front k (drop i xs) j) here
    ∙ front_next k i n xs (omega arith)
    ∙ ap (λ j. item_of k (own_parameter (drop i xs)) ++ shared_front (k + 1) (drop (suc i) xs) j) (sym rest)

front_none : (k : ℕ) (xs : List (List ℕ)) → shared_front k xs 0 ≡ []
front_none k [] = refl
front_none k (x ∷ xs) = refl

pub front_more : (i n : ℕ) (xs : List (List ℕ)) (done more all : List (List ℕ × List ℕ)) → i < n → more ≡ done ++ item_of i (own_parameter (drop i xs)) → done ++ shared_front i (drop i xs) (n - i) ≡ all → more ++ shared_front (i + 1) (drop (i + 1) xs) (n - (i + 1)) ≡ all
front_more i n xs done more all m f inv =
    let one : i + 1 ≡ suc i = omega arith in
    ap (λ j. more ++ shared_front (i + 1) (drop j xs) (n - j)) one
    ∙ ap (λ l. l ++ shared_front (i + 1) (drop (suc i) xs) (n - suc i)) f
    ∙ append_assoc done (item_of i (own_parameter (drop i xs))) (shared_front (i + 1) (drop (suc i) xs) (n - suc i))
    ∙ ap (λ l. done ++ l) (sym (front_next i i n xs m))
    ∙ inv

pub front_full : (i n : ℕ) (xs : List (List ℕ)) (done all : List (List ℕ × List ℕ)) → n ≤ i → done ++ shared_front i (drop i xs) (n - i) ≡ all → done ≡ all
front_full i n xs done all le inv =
    let none : n - i ≡ 0 = omega arith in
    sym (append-nil done)
    ∙ ap (λ l. done ++ l) (sym (ap (λ j. shared_front i (drop i xs) j) none ∙ front_none i (drop i xs)))
    ∙ inv

pub front_done : (i n : ℕ) (xs : List (List ℕ)) (done all : List (List ℕ × List ℕ)) → length xs ≤ i → done ++ shared_front i (drop i xs) (n - i) ≡ all → done ≡ all
front_done i n xs done all le inv =
    sym (append-nil done)
    ∙ ap (λ l. done ++ shared_front i l (n - i)) (sym (drop_all i xs le))
    ∙ inv

-- the arguments objects, one more of them without an item

shares_next : (o : ℕ) (k : List ℕ) (i : ℕ) (xs : List store.Shared) (d : store.Shared) → i < length xs → unshared o k (drop i xs) ≡ one_unshared o k (get_or xs i d) ∷ unshared o k (drop (suc i) xs)
shares_next o k i [] d lt = absurd (omega arith)
shares_next o k zero (x ∷ xs) d lt = refl
shares_next o k (suc i) (x ∷ xs) d lt = shares_next o k i xs d (omega arith)

pub shares_more : (o : ℕ) (k : List ℕ) (i : ℕ) (xs : List Shared) (y d : Shared) (all : List store.Shared) → i < length xs → plain_share y ≡ one_unshared o k (plain_share (get_or xs i d)) → take i (map plain_share xs) ++ unshared o k (drop i (map plain_share xs)) ≡ all → take (i + 1) (map plain_share (set xs i y)) ++ unshared o k (drop (i + 1) (map plain_share (set xs i y))) ≡ all
shares_more o k i xs y d all lt is inv =
    let one : i + 1 ≡ suc i = omega arith in
    let ys = map plain_share xs in
    let within : i < length ys = rw (length-map xs plain_share) lt in
    ap (λ l. take (i + 1) l ++ unshared o k (drop (i + 1) l)) (map-set plain_share xs i y)
    ∙ ap (λ l. l ++ unshared o k (drop (i + 1) (set ys i (plain_share y)))) (take_more_set ys i (plain_share y) within)
    ∙ ap (λ l. (take i ys ++ plain_share y ∷ []) ++ unshared o k l) (drop-set-lt (i + 1) ys i (plain_share y) (omega arith))
    ∙ ap (λ j. (take i ys ++ plain_share y ∷ []) ++ unshared o k (drop j ys)) one
    ∙ append_assoc (take i ys) (plain_share y ∷ []) (unshared o k (drop (suc i) ys))
    ∙ ap (λ g. take i ys ++ g ∷ unshared o k (drop (suc i) ys)) (is ∙ ap (λ g. one_unshared o k g) (sym (get_or-map plain_share xs i d (plain_share d) lt)))
    ∙ ap (λ l. take i ys ++ l) (sym (shares_next o k i ys (plain_share d) within))
    ∙ inv

pub shares_done : (o : ℕ) (k : List ℕ) (i : ℕ) (xs : List Shared) (all : List store.Shared) → length xs ≤ i → take i (map plain_share xs) ++ unshared o k (drop i (map plain_share xs)) ≡ all → map plain_share xs ≡ all
shares_done o k i xs all le inv =
    let past : length (map plain_share xs) ≤ i = rw (length-map xs plain_share) le in
    sym (append-nil (map plain_share xs))
    ∙ ap (λ l. l ++ []) (sym (take_all i (map plain_share xs) past))
    ∙ ap (λ l. take i (map plain_share xs) ++ unshared o k l) (sym (drop_all i (map plain_share xs) past))
    ∙ inv
