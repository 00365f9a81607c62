-- What the guard `args` answers for an arguments object: an array of the arguments, as long as no parameter was written.
use Rattle.std.proofs.Common.{◌≡◌, ℕ, ◌+◌, ◌≤◌, ◌<◌, true, false, List, [], ◌∷◌, length, Option, Some, None, cond, refl, sym, ap, ◌∙◌, arith}
use Rattle.std.specs.Prelude.{pos, nat_lt, codes}
use Rattle.std.proofs.lemmas.Bool.Decides.{nat_tests}
use Rattle.caja_units.specs.Units.{same_units, is_hidden}
use Rattle.caja_units.specs.Index.{number_units}
use Rattle.es3_objects.specs.declared.value.Value.{Value}
use Rattle.es3_objects.specs.declared.value.Value.TheVariants.{Num, Obj}
use Rattle.es3_heap.specs.Objects.{Property, Objects, hidden_attrs, with_object}
use Rattle.es3_heap.specs.Properties.{find, own, value_of, defined, length_key}
use Rattle.es3_objects.proofs.Keys.{same_key-refl}
use Rattle.es3_objects.proofs.Laws.{find-defined, find-defined-other}
use Rattle.es3_heap.proofs.Laws.{object_at-with_object}
use Rattle.es3_convert.specs.Conversions.{items_from, array_items}
use Rattle.es3_language.specs.Store.{Names, name_value}
use Rattle.es3_language.specs.Arguments.{comes_again, value_or}
use Rattle.rows.specs.Guards as rules
use Rattle.heap_rows.specs.Marks.{read_mark, set_mark}
use Rattle.heap_rows.specs.Opening.{first}
use Rattle.guard_runtime.specs.Guards.{by_row, on_list, counted_items, is_length, items_of, args}
use Rattle.row_simulation.specs.Correspond.{IsPlain}
use Rattle.row_simulation.proofs.Keys.{apart_too, hidden_read, hidden_set}
use Rattle.row_simulation.proofs.First.{first_many, up_few}
use Rattle.row_simulation.proofs.Changes.{IsNew}
use Rattle.row_simulation.proofs.Arrays.{index_seen}
use Rattle.cajita_simulation.specs.Guest.{AreDistinct}
use Rattle.cajita_simulation.proofs.Heaps.Arrays.{other_key, index-not_length, index-other}
use Rattle.cajita_simulation.proofs.Heaps.Arguments.{argument_items, counted, arguments_object}

-- the parameters have the values of their arguments
abbrev pub ParamsAre : List (List ℕ) → List Value → Names → Type 0
ParamsAre [] vs names = Unit {0}
ParamsAre (x ∷ xs) [] names = Unit {0}
ParamsAre (x ∷ xs) (v ∷ vs) names = (name_value x names ≡ Some v) × ParamsAre xs vs names

turned : (a b : List ℕ) → same_units a b ≡ false → same_units b a ≡ false
turned a b apart = other_key b a (λ e. cc (sym (same_key-refl a) ∙ ap (same_units a) (sym e) ∙ apart))

-- a key that is none of the indices has what it had
pub items_beside : (k : List ℕ) (i : ℕ) (xs : List (List ℕ)) (vs : List Value) (names : Names) (ps : List Property) → i + length vs < 4294967296 → ((j : ℕ) → i ≤ j → j < 4294967295 → same_units k (number_units j) ≡ false) → find k (argument_items i xs vs names ps) ≡ find k ps
items_beside k i xs [] names ps few apart = refl
items_beside k i [] (v ∷ vs) names ps few apart = items_beside k (i + 1) [] vs names (defined (number_units i) v hidden_attrs ps) (omega (arith, few)) (λ j from small. apart j (omega (arith, from)) small) ∙ find-defined-other k (number_units i) v hidden_attrs ps (apart i (omega arith) (omega (arith, few)))
items_beside k i (x ∷ xs) (v ∷ vs) names ps few apart =
    let u : Value = cond (comes_again x xs) v (value_or v (name_value x names)) in
    items_beside k (i + 1) xs vs names (defined (number_units i) u hidden_attrs ps) (omega (arith, few)) (λ j from small. apart j (omega (arith, from)) small) ∙ find-defined-other k (number_units i) u hidden_attrs ps (apart i (omega arith) (omega (arith, few)))

-- each index has its item
item_there : (i : ℕ) (xs : List (List ℕ)) (vs : List Value) (names : Names) (v : Value) (ps : List Property) → (i + 1) + length vs < 4294967296 → value_of (find (number_units i) (argument_items (i + 1) xs vs names (defined (number_units i) v hidden_attrs ps))) ≡ v
item_there i xs vs names v ps few =
    ap value_of (items_beside (number_units i) (i + 1) xs vs names (defined (number_units i) v hidden_attrs ps) few (λ j from small. turned (number_units j) (number_units i) (index-other i j small (omega (arith, from)))) ∙ find-defined (number_units i) v hidden_attrs ps)

items_are_from : (i : ℕ) (xs : List (List ℕ)) (vs : List Value) (names : Names) (ps : List Property) (h : Objects) (o : ℕ) → i + length vs < 4294967296 → AreDistinct xs → ParamsAre xs vs names → ((k : List ℕ) → own h o k ≡ find k (argument_items i xs vs names ps)) → items_from (length vs) i h o ≡ vs
items_are_from i xs [] names ps h o few once are these = refl
items_are_from i [] (v ∷ vs) names ps h o few once are these =
    let here : value_of (own h o (number_units i)) ≡ v = ap value_of (these (number_units i)) ∙ item_there i [] vs names v ps (omega (arith, few)) in
    let rest : items_from (length vs) (i + 1) h o ≡ vs = items_are_from (i + 1) [] vs names (defined (number_units i) v hidden_attrs ps) h o (omega (arith, few)) once tt these in
    rw (here, rest) refl
items_are_from i (x ∷ xs) (v ∷ vs) names ps h o few once are these =
    let u : Value = cond (comes_again x xs) v (value_or v (name_value x names)) in
    let is : u ≡ v = rw (once.0, are.0) refl in
    let here : value_of (own h o (number_units i)) ≡ v = ap value_of (these (number_units i)) ∙ item_there i xs vs names u ps (omega (arith, few)) ∙ is in
    let rest : items_from (length vs) (i + 1) h o ≡ vs = items_are_from (i + 1) xs vs names (defined (number_units i) u hidden_attrs ps) h o (omega (arith, few)) once.1 are.1 these in
    rw (here, rest) refl

-- its length is how many arguments there are
length_there : (f : Value) (xs : List (List ℕ)) (vs : List Value) (names : Names) (h : Objects) → length vs < 4294967296 → value_of (own (with_object h (arguments_object f xs vs names)) (length h.list) length_key) ≡ Num (pos (length vs))
length_there f xs vs names h few =
    let o = arguments_object f xs vs names in
    let there : own (with_object h o) (length h.list) length_key ≡ find length_key o.props = rw (object_at-with_object h o) refl in
    ap value_of (there ∙ items_beside length_key 0 xs vs names (counted f (length vs)) (omega (arith, few)) (λ j from small. turned (number_units j) length_key (index-not_length j small)))

pub items_are : (f : Value) (xs : List (List ℕ)) (vs : List Value) (names : Names) (h : Objects) → AreDistinct xs → ParamsAre xs vs names → length vs < 4294967296 → items_of (with_object h (arguments_object f xs vs names)) (Obj (length h.list)) ≡ Some vs
items_are f xs vs names h once are few =
    let o = arguments_object f xs vs names in
    let g = with_object h o in
    let n = length h.list in
    let counts = length_there f xs vs names h few in
    let short : nat_lt (length vs) 4294967296 ≡ true = grind (arith, nat_tests) in
    let listed : array_items g n ≡ vs = rw counts (items_are_from 0 xs vs names (counted f (length vs)) g n (omega (arith, few)) once are (λ k. rw (object_at-with_object h o) refl)) in
    let known : items_of g (Obj n) ≡ counted_items true g n = ap (λ v. counted_items (is_length v) g n) counts ∙ ap (λ b. counted_items b g n) short in
    known ∙ ap (λ l. let q : Option (List Value) = Some l in q) listed

-- so the guard makes an array of them
pub args_are : (by : ℕ) (f : Value) (xs : List (List ℕ)) (vs : List Value) (names : Names) (h : Objects) → AreDistinct xs → ParamsAre xs vs names → length vs < 4294967296 → (let g = with_object h (arguments_object f xs vs names) in args by (Obj (length h.list)) g ≡ by_row (rules.args (length vs)) by vs g)
args_are by f xs vs names h once are few =
    let g = with_object h (arguments_object f xs vs names) in
    ap (λ l. on_list l by g (λ us. by_row (rules.args (length us)) by us g)) (items_are f xs vs names h once are few)

-- it has no name, and stands behind the first objects where the others do
pub arguments_plain : (f : Value) (xs : List (List ℕ)) (vs : List Value) (names : Names) (h : Objects) → length first.list ≤ length h.list → IsPlain first (with_object h (arguments_object f xs vs names)) (length h.list)
arguments_plain f xs vs names h large = record { object = arguments_object f xs vs names; there = object_at-with_object h (arguments_object f xs vs names); tag = refl; class = refl; large = large }

-- no mark stands on it
unmarked : (m : List ℕ) (f : Value) (xs : List (List ℕ)) (vs : List Value) (names : Names) → length vs < 4294967296 → is_hidden m ≡ true → find m (arguments_object f xs vs names).props ≡ None
unmarked m f xs vs names few hidden =
    items_beside m 0 xs vs names (counted f (length vs)) (omega (arith, few)) (λ j from small. apart_too (number_units j) m (index_seen j (omega (arith, small))) hidden)
    ∙ find-defined-other m length_key (Num (pos (length vs))) hidden_attrs (defined (codes "callee") f hidden_attrs []) (apart_too length_key m refl hidden)
    ∙ find-defined-other m (codes "callee") f hidden_attrs [] (apart_too (codes "callee") m refl hidden)

pub arguments_are_new : (f : Value) (xs : List (List ℕ)) (vs : List Value) (names : Names) → length vs < 4294967296 → IsNew first (arguments_object f xs vs names)
arguments_are_new f xs vs names few = record {
  bare = refl;
  above = λ p e. let up = up_few 0 p (omega arith) e in let many = first_many in omega (arith, up, many);
  reads = λ k. unmarked (read_mark k) f xs vs names few (hidden_read k);
  sets = λ k. unmarked (set_mark k) f xs vs names few (hidden_set k);
}
