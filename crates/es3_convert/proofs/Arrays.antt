-- The text of an array, an item after another.
use Rattle.std.proofs.Common.{◌≡◌, ℕ, zero, suc, ◌+◌, ◌-◌, ◌<◌, ◌≤◌, List, [], ◌∷◌, ◌++◌, Result, Ok, Err, Some, take, refl, ap, ◌∙◌, arith, append_assoc, add-one}
use Rattle.std.specs.Prelude.{slice_get}
use Rattle.std.proofs.lemmas.List.{take_more, append-nil}
use Rattle.std.proofs.lemmas.Option.{slice_get_within, get_or_from_slice_get}
use Rattle.plans.specs.Plans.{Fault}
use Rattle.caja_units.specs.Index.{number_units}
use Rattle.es3_objects.specs.declared.value.Value.{Value}
use Rattle.es3_objects.specs.declared.value.Value.TheVariants as v
use Rattle.es3_objects.specs.declared.value.Stop.{Stop}
use Rattle.es3_heap.specs.Objects.{Objects}
use Rattle.es3_heap.specs.Properties.{own, value_of, length_of, length_key}
use Rattle.es3_convert.specs.Answers.{Answers}
use Rattle.es3_convert.specs.Conversions.{and_then, primitive_text, items_from, array_items, item_text, tail_text, joined, text_within}
use Rattle.es3_heap.proofs.Items.{items_from-item}
use Rattle.es3_convert.proofs.Faults.{and_then-fault}
use Rattle.es3_convert.specs.Texts.{before_item, rest_text, array_text, object_text}

-- one unit more of a text that is appended
pub unit-pushed : (before us units : List ℕ) (i u : ℕ) → units ≡ before ++ take i us → slice_get us i ≡ Some u → units ++ u ∷ [] ≡ before ++ take (i + 1) us
unit-pushed before us units i u h e =
    let within = slice_get_within us i u e in
    rw (take_more us i 0 within, get_or_from_slice_get us i u 0 e, h, append_assoc) refl

-- an item, and what is left behind it
rest_text-item : (i : ℕ) (text : Value → Result (List ℕ) Fault) (sep : List ℕ) (x : Value) (xs : List Value) → rest_text i text sep (x ∷ xs) ≡ and_then (item_text text x) (λ us. and_then (tail_text text sep xs) (λ ws. Ok (before_item i sep ++ (us ++ ws))))
rest_text-item zero text sep x xs = refl
rest_text-item (suc i) text sep x xs = refl

behind : (before us mid : List ℕ) (tail : Result (List ℕ) Fault) → and_then (and_then tail (λ ws. Ok (mid ++ (us ++ ws)))) (λ ws. Ok (before ++ ws)) ≡ and_then tail (λ ws. Ok ((before ++ (mid ++ us)) ++ ws))
behind before us mid (Ok ws) = ap (λ all. let r : Result (List ℕ) Fault = Ok all in r) (simp append_assoc)
behind before us mid (Err f) = refl

-- a turn of the loop: the text of the item at an index is appended, behind what stands before it
pub rest_text-more : (n i : ℕ) (text : Value → Result (List ℕ) Fault) (sep : List ℕ) (h : Objects) (o : ℕ) (before us : List ℕ) (all : Result (List ℕ) Fault) → i < n
    → all ≡ and_then (rest_text i text sep (items_from (n - i) i h o)) (λ ws. Ok (before ++ ws))
    → item_text text (value_of (own h o (number_units i))) ≡ Ok us
    → all ≡ and_then (rest_text (i + 1) text sep (items_from (n - (i + 1)) (i + 1) h o)) (λ ws. Ok ((before ++ (before_item i sep ++ us)) ++ ws))
rest_text-more n i text sep h o before us all less is item =
    let rest = items_from (n - (i + 1)) (i + 1) h o in
    let x = value_of (own h o (number_units i)) in
    let next : rest_text (i + 1) text sep rest ≡ tail_text text sep rest = rw add-one refl in
    is ∙ rw (items_from-item n i h o less, rest_text-item i text sep x rest, item, next) (behind before us (before_item i sep) (tail_text text sep rest))

-- a fault of an item is the fault of its array
pub rest_text-fault : (n i : ℕ) (text : Value → Result (List ℕ) Fault) (sep : List ℕ) (h : Objects) (o : ℕ) (before : List ℕ) (all : Result (List ℕ) Fault) (e : Stop) → i < n
    → all ≡ and_then (rest_text i text sep (items_from (n - i) i h o)) (λ ws. Ok (before ++ ws))
    → Answers {A = List ℕ} (Err e) (item_text text (value_of (own h o (number_units i))))
    → Answers {A = List ℕ} (Err e) all
rest_text-fault n i text sep h o before all e less is item =
    let rest = items_from (n - (i + 1)) (i + 1) h o in
    let x = value_of (own h o (number_units i)) in
    rw (is, items_from-item n i h o less, rest_text-item i text sep x rest) (and_then-fault e _ _ (and_then-fault e (item_text text x) _ item))

-- behind the last item nothing is left
pub rest_text-none : (i : ℕ) (text : Value → Result (List ℕ) Fault) (sep : List ℕ) → rest_text i text sep [] ≡ Ok []
rest_text-none zero text sep = refl
rest_text-none (suc i) text sep = refl

pub rest_text-end : (n i : ℕ) (text : Value → Result (List ℕ) Fault) (sep : List ℕ) (h : Objects) (o : ℕ) (before : List ℕ) (all : Result (List ℕ) Fault) → n ≤ i
    → all ≡ and_then (rest_text i text sep (items_from (n - i) i h o)) (λ ws. Ok (before ++ ws))
    → all ≡ Ok before
rest_text-end n i text sep h o before all past is =
    let none : n - i ≡ 0 = omega arith in
    is ∙ rw (none, rest_text-none i text sep) (ap (λ us. let r : Result (List ℕ) Fault = Ok us in r) (append-nil before))

and_then-Ok : (r : Result (List ℕ) Fault) → r ≡ and_then r (λ ws. Ok ([] ++ ws))
and_then-Ok (Ok ws) = refl
and_then-Ok (Err f) = refl

-- before the first item
pub array_text-begins : (d : ℕ) (sep : List ℕ) (h : Objects) (o n : ℕ) → 0 < d → n ≡ length_of (value_of (own h o length_key))
    → array_text d sep h o ≡ and_then (rest_text 0 (text_within (d - 1) h) sep (items_from (n - 0) 0 h o)) (λ ws. Ok ([] ++ ws))
array_text-begins zero sep h o n some is = absurd (omega arith)
array_text-begins (suc d) sep h o n some is =
    let less : suc d - 1 ≡ d = omega arith in
    let whole : n - 0 ≡ n = omega arith in
    rw (less, whole, is) (and_then-Ok (joined (text_within d h) sep (array_items h o)))

-- the text of an object
pub text_within-object : (d : ℕ) (h : Objects) (o : ℕ) → text_within d h (v.Obj o) ≡ object_text d h o
unfolding text_within
text_within-object zero h o = refl
text_within-object (suc d) h o = refl

-- the text of a value that is no object
pub text_within-plain : (d : ℕ) (h : Objects) (x : Value) → ((o : ℕ) → x ≡ v.Obj o → ⊥) → text_within d h x ≡ Ok (primitive_text x)
unfolding text_within
text_within-plain zero h v.Undefined plain = refl
text_within-plain zero h v.Null plain = refl
text_within-plain zero h (v.Bool b) plain = refl
text_within-plain zero h (v.Num n) plain = refl
text_within-plain zero h (v.Text us) plain = refl
text_within-plain zero h (v.Obj o) plain = absurd (plain o refl)
text_within-plain (suc d) h v.Undefined plain = refl
text_within-plain (suc d) h v.Null plain = refl
text_within-plain (suc d) h (v.Bool b) plain = refl
text_within-plain (suc d) h (v.Num n) plain = refl
text_within-plain (suc d) h (v.Text us) plain = refl
text_within-plain (suc d) h (v.Obj o) plain = absurd (plain o refl)
