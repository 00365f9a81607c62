-- What the rows of the methods of arrays come to.
use Rattle.std.proofs.Common.{◌≡◌, ℕ, suc, ◌-◌, List, [], ◌∷◌, ◌++◌, length, Result, Ok, Err, refl, sym, ap, ◌∙◌, subst, append_assoc, arith}
use Rattle.std.specs.Prelude.{ℤ, pos, false, map, reverse, take, drop, slice_get, codes, is_some}
use Rattle.std.specs.List.{flat_map}
use Rattle.std.proofs.lemmas.List.{append-nil, map-append, take-map, drop-map}
use Rattle.std.proofs.lemmas.Grind.{reverse_onto}
use Rattle.plans.specs.Plans.{Fault}
use Rattle.es3_objects.specs.declared.value.Value.{Value}
use Rattle.es3_objects.specs.declared.value.Value.TheVariants as v
use Rattle.es3_objects.specs.declared.value.Class.{Class}
use Rattle.es3_objects.specs.declared.value.Class.TheVariants as class
use Rattle.es3_heap.specs.Objects.{Objects, object_at, class_of, callable_of}
use Rattle.es3_heap.specs.Properties.{own}
use Rattle.es3_convert.specs.Conversions.{array_items, and_then, text_within, joined}
use Rattle.rows.specs.Rows as r
use Rattle.rows.specs.Rows.{Row, Handle, Sight, handles, held, ends}
use Rattle.rows.specs.Arguments as rows
use Rattle.rows.specs.Arrays as arrays
use Rattle.rows.specs.Arrays.{gathered, items_or_it, part}
use Rattle.rows.specs.Arguments.{place}
use Rattle.heap_rows.specs.Marks.{simple_mark}
use Rattle.heap_rows.specs.Doing.{Done, value_in, see, see_object, sort_seen, does, with_result, joined_of}
use Rattle.heap_rows.specs.Opening.{place_of, empty_page}
use Rattle.row_outcomes.specs.Comes.{row_done}
use Rattle.row_outcomes.specs.Arguments.{argument, number_argument, text_argument, told, after}
use Rattle.row_outcomes.specs.Arrays.{new_array}
use Rattle.row_outcomes.proofs.Arguments.{handle_now, now, told_after, Stands, Leaves, number_or_leaves, text_or_leaves}
use Rattle.row_outcomes.proofs.Arrays.{Stand, stand_now, stand_behind, stand_both, items_stand, arguments_stand, argument_stands, same_count, new_array_leaves}
use Rattle.builtin_array.specs.Receivers.{array_of, array_of_class, open_array_of, on_receiver}
use Rattle.builtin_array.specs.Arrays.{items_or, spread, concat, join, slice, counted, push, unshift, taken, pop, shift, turn}
use Rattle.builtin_array.proofs.Arrays.{IsNoArray, function_seen, comes, on_array_is, on_open_array_is, IsOpen, changed}

-- the items of the receiver, and the arguments before them
own_items : (this : Value) (args : List Value) (h : Objects) (o : ℕ) → Stand (this ∷ (args ++ array_items h o)) (handles (suc (length args)) (array_items h o)) (array_items h o)
own_items this args h o = items_stand (this ∷ args) (array_items h o) (suc (length args)) refl

own_arguments : (this : Value) (args : List Value) (h : Objects) (o : ℕ) → Stand (this ∷ (args ++ array_items h o)) (rows.arguments (suc (length args))) args
own_arguments this args h o = stand_behind (this ∷ args) (array_items h o) (rows.arguments (suc (length args))) args (arguments_stand this args)

-- concat

seen_alone : (x : Handle) (s : Sight) → IsNoArray s → items_or_it x s ≡ x ∷ []
seen_alone x (r.an_array frozen xs) is = absurd is
seen_alone x s is = refl

alone : (vs more : List Value) (x : Handle) (z : Value) → Stands vs x z → Stand (vs ++ more) (x ∷ []) (z ∷ [])
alone vs more x z stands = λ extra. rw (append_assoc vs more extra, stands (more ++ extra)) refl

object_stands : (vs : List Value) (x : Handle) (h : Objects) (o : ℕ) (c : Class) → Stands vs x (v.Obj o)
    → Stand (vs ++ (see_object (length vs) h o c).values) (items_or_it x (see_object (length vs) h o c).sight) (items_or h (v.Obj o) (array_of_class c o))
object_stands vs x h o class.Object stands = alone vs (see_object (length vs) h o class.Object).values x (v.Obj o) stands
object_stands vs x h o class.Array stands = items_stand vs (array_items h o) (length vs) refl
object_stands vs x h o class.Function stands =
    let seen = sort_seen (is_some (own h o simple_mark)) (callable_of (object_at h o)) in
    subst (λ l. Stand (vs ++ []) l (v.Obj o ∷ [])) (sym (seen_alone x seen (function_seen (is_some (own h o simple_mark)) (callable_of (object_at h o))))) (alone vs [] x (v.Obj o) stands)
object_stands vs x h o class.Error stands = alone vs [] x (v.Obj o) stands
object_stands vs x h o class.Node stands = alone vs [] x (v.Obj o) stands

value_stands : (vs : List Value) (x : Handle) (h : Objects) (z : Value) → Stands vs x z → Stand (vs ++ (see h (length vs) z).values) (items_or_it x (see h (length vs) z).sight) (spread h z)
value_stands vs x h v.Undefined stands = alone vs [] x v.Undefined stands
value_stands vs x h v.Null stands = alone vs [] x v.Null stands
value_stands vs x h (v.Bool b) stands = alone vs [] x (v.Bool b) stands
value_stands vs x h (v.Num n) stands = alone vs [] x (v.Num n) stands
value_stands vs x h (v.Text us) stands = alone vs [] x (v.Text us) stands
value_stands vs x h (v.Obj o) stands = object_stands vs x h o (class_of (object_at h o)) stands

-- what is done with the gathered items, behind all that is seen on the way
gathered_is : (by : ℕ) (h : Objects) (vs : List Value) (xs : List Handle) (zs : List Value) (go : List Handle → Row) (d : Done) → Stand vs xs zs
    → ((ys : List Handle) (more : List Value) → Stand (vs ++ more) ys (flat_map (spread h) zs) → (does place_of by (go ys) (vs ++ more) h empty_page []).done ≡ d)
    → (does place_of by (gathered xs go) vs h empty_page []).done ≡ d
gathered_is by h vs [] [] go d stand each = subst (λ l. (does place_of by (go []) l h empty_page []).done ≡ d) (append-nil vs) (each [] [] (λ more. refl))
gathered_is by h vs [] (z ∷ zs) go d stand each = absurd (cc (stand []))
gathered_is by h vs (x ∷ xs) [] go d stand each = absurd (cc (stand []))
gathered_is by h vs (x ∷ xs) (z ∷ zs) go d stand each =
    let first : Stands vs x z = λ more. cc (stand more) in
    let others : Stand vs xs zs = λ more. cc (stand more) in
    let seen = see h (length vs) z in
    subst (λ w. (does place_of by (gathered xs (λ ys. go (items_or_it x (see h (length vs) w).sight ++ ys))) (vs ++ (see h (length vs) w).values) h empty_page []).done ≡ d) (sym (handle_now vs x z first))
    (gathered_is by h (vs ++ seen.values) xs zs (λ ys. go (items_or_it x seen.sight ++ ys)) d (stand_behind vs seen.values xs zs others) (λ ys more rest.
    let own = stand_behind (vs ++ seen.values) more (items_or_it x seen.sight) (spread h z) (value_stands vs x h z first) in
    let both = stand_both ((vs ++ seen.values) ++ more) (items_or_it x seen.sight) ys (spread h z) (flat_map (spread h) zs) own rest in
    let same = append_assoc vs seen.values more in
    subst (λ l. (does place_of by (go (items_or_it x seen.sight ++ ys)) l h empty_page []).done ≡ d) (sym same)
    (each (items_or_it x seen.sight ++ ys) (seen.values ++ more) (subst (λ l. Stand l (items_or_it x seen.sight ++ ys) (flat_map (spread h) (z ∷ zs))) same both))))

pub concat-is : (by : ℕ) (this : Value) (args : List Value) (h : Objects) → row_done r.concat by this args h ≡ on_receiver (array_of h this) by h (λ o. concat by args o h)
concat-is by this args h =
    let n = suc (length args) in
    on_array_is by this args h (λ xs. gathered (rows.arguments n) (λ ys. ends (r.makes_array false (xs ++ ys)))) (λ o. concat by args o h) (λ o is array.
    let items = array_items h o in
    let vs = this ∷ (args ++ items) in
    gathered_is by h vs (rows.arguments n) args (λ ys. ends (r.makes_array false (handles n items ++ ys))) (concat by args o h) (own_arguments this args h o) (λ ys more rest.
    now by (vs ++ more) h (ends (r.makes_array false (handles n items ++ ys))) (concat by args o h)
    (new_array_leaves by (vs ++ more) h (handles n items ++ ys) (items ++ flat_map (spread h) args)
    (stand_both (vs ++ more) (handles n items) ys items (flat_map (spread h) args) (stand_behind vs more (handles n items) items (own_items this args h o)) rest))))

-- join

joined_array : (h : Objects) (this : Value) (o : ℕ) (s : List ℕ) → this ≡ v.Obj o → class_of (object_at h o) ≡ class.Array → joined_of h this s ≡ joined (text_within 31 h) s (array_items h o)
joined_array h this o s is array = rw (is, array) refl

joined_after : (by : ℕ) (vs : List Value) (h : Objects) (t : Result (List ℕ) Fault)
    → (with_result t h empty_page [] (λ us. does place_of by (ends (r.answers (r.text us))) vs h empty_page [])).done ≡ told (and_then t (λ us. Ok (v.Text us))) h
joined_after by vs h (Ok us) = refl
joined_after by vs h (Err f) = refl

pub join-is : (by : ℕ) (this : Value) (args : List Value) (h : Objects) → row_done r.join by this args h ≡ on_receiver (array_of h this) by h (λ o. told (join args o h) h)
join-is by this args h =
    let n = suc (length args) in
    on_array_is by this args h (λ xs. rows.text_or (codes ",") (rows.argument 0 n) (λ s. r.as_joined (held 0) s (λ us. ends (r.answers (r.text us))))) (λ o. told (join args o h) h) (λ o is array.
    let answer : List ℕ → Result Value Fault = λ s. and_then (joined (text_within 31 h) s (array_items h o)) (λ us. Ok (v.Text us)) in
    now by (this ∷ (args ++ array_items h o)) h (rows.text_or (codes ",") (rows.argument 0 n) (λ s. r.as_joined (held 0) s (λ us. ends (r.answers (r.text us))))) (after (text_argument (codes ",") (argument 0 args) h) h (λ s. told (answer s) h))
    (text_or_leaves by (this ∷ (args ++ array_items h o)) h (codes ",") (rows.argument 0 n) (argument 0 args) (λ s. r.as_joined (held 0) s (λ us. ends (r.answers (r.text us)))) (λ s. told (answer s) h) (argument_stands this args (array_items h o) 0)
    (λ s more. rw (joined_array h this o s is array) (joined_after by (this ∷ ((args ++ array_items h o) ++ more)) h (joined (text_within 31 h) s (array_items h o)))))
    ∙ told_after (text_argument (codes ",") (argument 0 args) h) h answer)

-- slice

part_stands : (vs : List Value) (a b : ℕ) (xs : List Handle) (zs : List Value) → Stand vs xs zs → Stand vs (part a b xs) (part a b zs)
part_stands vs a b xs zs stand = λ more. sym (take-map (value_in place_of (vs ++ more)) (b - a) (drop a xs)) ∙ ap (take (b - a)) (sym (drop-map (value_in place_of (vs ++ more)) a xs) ∙ ap (drop a) (stand more))

places_after : (by n : ℕ) (xs : List Value) (h : Objects) (a b : Result ℤ Fault)
    → after a h (λ i. after b h (λ j. new_array by h (part (place n i) (place n j) xs))) ≡ after {A = ℕ × ℕ} (and_then {B = ℕ × ℕ} a (λ i. and_then {B = ℕ × ℕ} b (λ j. Ok (place n i, place n j)))) h (λ p. new_array by h (part p.0 p.1 xs))
places_after by n xs h (Ok i) (Ok j) = refl
places_after by n xs h (Ok i) (Err f) = refl
places_after by n xs h (Err f) b = refl

slice_leaves : (by : ℕ) (this : Value) (args items : List Value) (h : Objects) (xs : List Handle) → Stand (this ∷ (args ++ items)) xs items
    → Leaves by (this ∷ (args ++ items)) h (rows.number_or (pos 0) (rows.argument 0 (suc (length args))) (λ a. rows.number_or (pos (length items)) (rows.argument 1 (suc (length args))) (λ b. ends (r.makes_array false (part (place (length items) a) (place (length items) b) xs)))))
    (after (number_argument (pos 0) (argument 0 args) h) h (λ a. after (number_argument (pos (length items)) (argument 1 args) h) h (λ b. new_array by h (part (place (length items) a) (place (length items) b) items))))
slice_leaves by this args items h xs stand =
    let n = suc (length args) in
    let l = length items in
    let vs = this ∷ (args ++ items) in
    number_or_leaves by vs h (pos 0) (rows.argument 0 n) (argument 0 args) (λ a. rows.number_or (pos l) (rows.argument 1 n) (λ b. ends (r.makes_array false (part (place l a) (place l b) xs)))) (λ a. after (number_argument (pos l) (argument 1 args) h) h (λ b. new_array by h (part (place l a) (place l b) items))) (argument_stands this args items 0) (λ a.
    number_or_leaves by vs h (pos l) (rows.argument 1 n) (argument 1 args) (λ b. ends (r.makes_array false (part (place l a) (place l b) xs))) (λ b. new_array by h (part (place l a) (place l b) items)) (argument_stands this args items 1) (λ b.
    new_array_leaves by vs h (part (place l a) (place l b) xs) (part (place l a) (place l b) items) (part_stands vs (place l a) (place l b) xs items stand)))

pub slice-is : (by : ℕ) (this : Value) (args : List Value) (h : Objects) → row_done r.slice by this args h ≡ on_receiver (array_of h this) by h (λ o. slice by args o h)
slice-is by this args h =
    let n = suc (length args) in
    on_array_is by this args h (λ xs. rows.number_or (pos 0) (rows.argument 0 n) (λ a. rows.number_or (pos (length xs)) (rows.argument 1 n) (λ b. ends (r.makes_array false (part (place (length xs) a) (place (length xs) b) xs))))) (λ o. slice by args o h) (λ o is array.
    let items = array_items h o in
    let vs = this ∷ (args ++ items) in
    let xs = handles n items in
    let stand = own_items this args h o in
    subst (λ l. (does place_of by (rows.number_or (pos 0) (rows.argument 0 n) (λ a. rows.number_or (pos l) (rows.argument 1 n) (λ b. ends (r.makes_array false (part (place l a) (place l b) xs))))) vs h empty_page []).done ≡ slice by args o h) (sym (same_count vs xs items stand))
    (now by vs h (rows.number_or (pos 0) (rows.argument 0 n) (λ a. rows.number_or (pos (length items)) (rows.argument 1 n) (λ b. ends (r.makes_array false (part (place (length items) a) (place (length items) b) xs)))))
    (after (number_argument (pos 0) (argument 0 args) h) h (λ a. after (number_argument (pos (length items)) (argument 1 args) h) h (λ b. new_array by h (part (place (length items) a) (place (length items) b) items))))
    (slice_leaves by this args items h xs stand)
    ∙ places_after by (length items) items h (number_argument (pos 0) (argument 0 args) h) (number_argument (pos (length items)) (argument 1 args) h)))

-- push and unshift

counted_is : (by : ℕ) (this : Value) (vs : List Value) (h : Objects) (o : ℕ) (xs : List Handle) (zs : List Value) → IsOpen this h o → Stand (this ∷ vs) xs zs
    → comes by (ends (r.sets_items (held 0) xs (r.number (pos (length xs))))) this vs h ≡ counted o zs h
counted_is by this vs h o xs zs is stand = changed by this vs h o xs zs (r.number (pos (length xs))) (v.Num (pos (length zs))) is (stand_now (this ∷ vs) xs zs stand) (ap (λ n. v.Num (pos n)) (same_count (this ∷ vs) xs zs stand))

pub push-is : (by : ℕ) (this : Value) (args : List Value) (h : Objects) → row_done r.push by this args h ≡ on_receiver (open_array_of h this) by h (λ o. push args o h)
push-is by this args h =
    let n = suc (length args) in
    on_open_array_is by this args h (λ xs. r.sets_items (held 0) (xs ++ rows.arguments n) (r.number (pos (length (xs ++ rows.arguments n))))) (λ o. push args o h) (λ o is.
    let items = array_items h o in
    counted_is by this (args ++ items) h o (handles n items ++ rows.arguments n) (items ++ args) is
    (stand_both (this ∷ (args ++ items)) (handles n items) (rows.arguments n) items args (own_items this args h o) (own_arguments this args h o)))

pub unshift-is : (by : ℕ) (this : Value) (args : List Value) (h : Objects) → row_done r.unshift by this args h ≡ on_receiver (open_array_of h this) by h (λ o. unshift args o h)
unshift-is by this args h =
    let n = suc (length args) in
    on_open_array_is by this args h (λ xs. r.sets_items (held 0) (rows.arguments n ++ xs) (r.number (pos (length (rows.arguments n ++ xs))))) (λ o. unshift args o h) (λ o is.
    let items = array_items h o in
    counted_is by this (args ++ items) h o (rows.arguments n ++ handles n items) (args ++ items) is
    (stand_both (this ∷ (args ++ items)) (rows.arguments n) (handles n items) args items (own_arguments this args h o) (own_items this args h o)))

-- shift

first_taken : (by : ℕ) (this : Value) (vs : List Value) (h : Objects) (o : ℕ) (xs : List Handle) (zs : List Value) → IsOpen this h o → map (value_in place_of (this ∷ vs)) xs ≡ zs
    → comes by (ends (arrays.without_first xs)) this vs h ≡ taken o (slice_get zs 0) (drop 1 zs) h
first_taken by this vs h o [] [] is stand = refl
first_taken by this vs h o [] (z ∷ zs) is stand = absurd (cc stand)
first_taken by this vs h o (x ∷ xs) [] is stand = absurd (cc stand)
first_taken by this vs h o (x ∷ xs) (z ∷ zs) is stand = changed by this vs h o xs zs x z is (cc stand) (cc stand)

pub shift-is : (by : ℕ) (this : Value) (args : List Value) (h : Objects) → row_done r.shift by this args h ≡ on_receiver (open_array_of h this) by h (λ o. shift o h)
shift-is by this args h =
    let n = suc (length args) in
    on_open_array_is by this args h arrays.without_first (λ o. shift o h) (λ o is.
    let items = array_items h o in
    first_taken by this (args ++ items) h o (handles n items) items is (stand_now (this ∷ (args ++ items)) (handles n items) items (own_items this args h o)))

-- pop

last_taken : (by : ℕ) (this : Value) (vs : List Value) (h : Objects) (o : ℕ) (before xs : List Handle) (front zs : List Value) → IsOpen this h o → map (value_in place_of (this ∷ vs)) before ≡ front → map (value_in place_of (this ∷ vs)) xs ≡ zs
    → comes by (ends (arrays.without_last before xs)) this vs h ≡ taken o (slice_get zs (length zs - 1)) (front ++ take (length zs - 1) zs) h
last_taken by this vs h o before [] front [] is ahead stand = refl
last_taken by this vs h o before [] front (z ∷ zs) is ahead stand = absurd (cc stand)
last_taken by this vs h o before (x ∷ xs) front [] is ahead stand = absurd (cc stand)
last_taken by this vs h o before (x ∷ []) front (z ∷ []) is ahead stand = rw (append-nil front) (changed by this vs h o before front x z is ahead (cc stand))
last_taken by this vs h o before (x ∷ []) front (z ∷ w ∷ zs) is ahead stand = absurd (cc stand)
last_taken by this vs h o before (x ∷ y ∷ xs) front (z ∷ []) is ahead stand = absurd (cc stand)
last_taken by this vs h o before (x ∷ y ∷ xs) front (z ∷ w ∷ zs) is ahead stand =
    let f = value_in place_of (this ∷ vs) in
    let one : f x ≡ z = cc stand in
    let others : map f (y ∷ xs) ≡ w ∷ zs = cc stand in
    let less : suc (suc (length zs)) - 1 ≡ suc (suc (length zs) - 1) = omega arith in
    rw (less, sym (append_assoc front (z ∷ []) (take (suc (length zs) - 1) (w ∷ zs))))
    (last_taken by this vs h o (before ++ x ∷ []) (y ∷ xs) (front ++ z ∷ []) (w ∷ zs) is (rw (map-append f before (x ∷ []), ahead, one) refl) others)

pub pop-is : (by : ℕ) (this : Value) (args : List Value) (h : Objects) → row_done r.pop by this args h ≡ on_receiver (open_array_of h this) by h (λ o. pop o h)
pop-is by this args h =
    let n = suc (length args) in
    on_open_array_is by this args h (arrays.without_last []) (λ o. pop o h) (λ o is.
    let items = array_items h o in
    last_taken by this (args ++ items) h o [] (handles n items) [] items is refl (stand_now (this ∷ (args ++ items)) (handles n items) items (own_items this args h o)))

-- reverse

map-reverse : {A B : Type 0} (f : A → B) (xs : List A) → map f (reverse xs) ≡ reverse (map f xs)
map-reverse f [] = refl
map-reverse f (x ∷ xs) = ap (map f) (reverse_onto xs x []) ∙ map-append f (reverse xs) (x ∷ []) ∙ ap (λ l. l ++ f x ∷ []) (map-reverse f xs) ∙ sym (reverse_onto (map f xs) (f x) [])

pub turn-is : (by : ℕ) (this : Value) (args : List Value) (h : Objects) → row_done r.turn by this args h ≡ on_receiver (open_array_of h this) by h (λ o. turn o h)
turn-is by this args h =
    let n = suc (length args) in
    on_open_array_is by this args h (λ xs. r.sets_items (held 0) (reverse xs) (held 0)) (λ o. turn o h) (λ o is.
    let items = array_items h o in
    let f = value_in place_of (this ∷ (args ++ items)) in
    changed by this (args ++ items) h o (reverse (handles n items)) (reverse items) (held 0) (v.Obj o) is
    (map-reverse f (handles n items) ∙ ap reverse (stand_now (this ∷ (args ++ items)) (handles n items) items (own_items this args h o))) is.value)
