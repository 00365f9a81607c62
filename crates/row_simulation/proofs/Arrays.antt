-- Changes of arrays, and new ones.
use Rattle.std.proofs.Common.{◌≡◌, ℕ, zero, suc, ◌+◌, ◌<◌, Bool, true, false, List, [], ◌∷◌, ◌++◌, length, Option, Some, None, cond, refl, sym, ap, ◌∙◌, subst, arith}
use Rattle.std.specs.Prelude.{slice_get, codes, map, is_some, nat_lt}
use Rattle.std.specs.Str.Parse.{AllDigits}
use Rattle.std.specs.List.{filter}
use Rattle.std.proofs.lemmas.Option.{none-some}
use Rattle.std.proofs.lemmas.List.{append-nil, length-map}
use Rattle.std.proofs.lemmas.Fmt.{decimal_is_IsNumeral}
use Rattle.std.proofs.lemmas.Str.Parse.{digit_from_value}
use Rattle.std.proofs.lemmas.Bool.Decides.{nat_tests}
use Rattle.caja_units.specs.Units.{is_hidden}
use Rattle.caja_units.specs.Index.{number_units}
use Rattle.es3_objects.specs.declared.value.Value.TheVariants as es
use Rattle.es3_objects.specs.declared.value.Class.TheVariants as class
use Rattle.es3_objects.specs.declared.value.Tag.TheVariants as tag
use Rattle.es3_objects.specs.declared.value.Attrs.{Attrs}
use Rattle.es3_heap.specs.Objects as heap
use Rattle.es3_heap.specs.Objects.{Property, Objects, object_at, hidden_attrs}
use Rattle.es3_heap.specs.Properties.{find, defined, length_key}
use Rattle.es3_heap.specs.Making.{length_property, item_properties, array_object}
use Rattle.es3_heap.specs.Items.{set_items, items_set}
use Rattle.es3_language.specs.Natives.{value_reply}
use Rattle.rows.specs.Rows as r
use Rattle.rows.specs.Rows.{Handle, Native}
use Rattle.cajita_meaning.specs.World.{Name, made_name, cell_name, own_name, built_name, tools_name, facet_name, forward_name, Value, object, Object, a_record, an_array, a_closure, an_error, World, with_made}
use Rattle.cajita_meaning.specs.Doing as direct
use Rattle.heap_rows.specs.Marks.{read_mark, set_mark, frozen_mark, is_set_mark, is_frozen, freeze, without_set_marks}
use Rattle.heap_rows.specs.Doing as es3
use Rattle.row_simulation.proofs.Keys.{not_true, ends_as, apart_too, hidden_read, hidden_set, read_frozen, set_frozen, set_mark_hidden}
use Rattle.row_simulation.proofs.Items.{closed_is}
use Rattle.row_simulation.proofs.ItemsSet.{items_set_are}
use Rattle.row_simulation.proofs.Relation.{EsValue, Named, Val, Vals, closing, IsArray, Is, IsNamed, ObjectsAre, val_keep, facet_class}
use Rattle.row_simulation.proofs.Names.{made_known, cell_known, tools_known}
use Rattle.row_simulation.specs.Among.{IsHandleAmong, AreHandlesAmong}
use Rattle.row_simulation.proofs.SetMarks.{stays, MarksGo, others_stay}
use Rattle.row_simulation.proofs.Props.{props_frozen}
use Rattle.row_simulation.proofs.Row.{by_value, EndIs, keeps_refl, objects_step, handle_is, handles_are, EndLaw}
use Rattle.row_simulation.proofs.Sights.{frozen_no_index, closing_found}
use Rattle.row_simulation.proofs.Changes.{revised, revised_keeps, revised_no_node, made_there, made_length, made_still, objects_revised, IsNew}
use Rattle.row_simulation.specs.RowLaw.{IsFirst}
use Rattle.row_simulation.proofs.Ends.{quiet, shown_got, shown_all, same_end, makes_law}
use Rattle.row_simulation.proofs.Writes.{Changed, unchanged, same_made, revised_same, OnKept, define_at, freeze_record}

-- an index ends in a digit

no_digits : (t : List ℕ) (rest : List ℕ) → AllDigits 10 (t ++ 95 ∷ rest) → ⊥
no_digits [] rest d = let k = digit_from_value 95 d.0 in omega (arith, k)
no_digits (x ∷ t) rest d = no_digits t rest d.1

pub index_seen : (i : ℕ) → i < 4294967296 → is_hidden (number_units i) ≡ false
index_seen i few =
    not_true _ (λ e. no_digits _ (95 ∷ []) (subst (AllDigits 10) (ends_as (number_units i) (codes "__") e) (decimal_is_IsNumeral i (omega (arith, few))).0.1))

-- past the items: a hidden key, and one that is set last

past_items : (m : List ℕ) (i : ℕ) (vs : List EsValue) (rest : List Property) → is_hidden m ≡ true → i + length vs < 4294967296 → find m (item_properties i vs ++ rest) ≡ find m rest
past_items m i [] rest hidden few = refl
past_items m i (v ∷ vs) rest hidden few = rw (apart_too (number_units i) m (index_seen i (omega (arith, few))) hidden) (past_items m (i + 1) vs rest hidden (omega (arith, few)))

last_defined : (m : List ℕ) (v : EsValue) (a : Attrs) (i : ℕ) (vs : List EsValue) (rest : List Property) → is_hidden m ≡ true → i + length vs < 4294967296 → defined m v a (item_properties i vs ++ rest) ≡ item_properties i vs ++ defined m v a rest
last_defined m v a i [] rest hidden few = refl
last_defined m v a i (x ∷ vs) rest hidden few = rw (apart_too (number_units i) m (index_seen i (omega (arith, few))) hidden) (ap (λ l. record { key = number_units i; value = x; attrs = Rattle.es3_heap.specs.Objects.plain_attrs } ∷ l) (last_defined m v a (i + 1) vs rest hidden (omega (arith, few))))

abbrev array_props : Bool → List EsValue → List Property
array_props frozen vs = length_property (length vs) ∷ (item_properties 0 vs ++ closing frozen)

no_read : (frozen : Bool) (vs : List EsValue) (k : List ℕ) → length vs < 4294967296 → find (read_mark k) (array_props frozen vs) ≡ None
no_read frozen vs k few = rw (apart_too length_key (read_mark k) refl (hidden_read k), past_items (read_mark k) 0 vs (closing frozen) (hidden_read k) (omega (arith, few))) (last frozen)
  where
    last : (frozen : Bool) → find (read_mark k) (closing frozen) ≡ None
    last true = rw (read_frozen k) refl
    last false = refl

no_set : (frozen : Bool) (vs : List EsValue) (k : List ℕ) → length vs < 4294967296 → find (set_mark k) (array_props frozen vs) ≡ None
no_set frozen vs k few = rw (apart_too length_key (set_mark k) refl (hidden_set k), past_items (set_mark k) 0 vs (closing frozen) (hidden_set k) (omega (arith, few))) (last frozen)
  where
    last : (frozen : Bool) → find (set_mark k) (closing frozen) ≡ None
    last true = rw (set_frozen k) refl
    last false = refl

-- new arrays

new_props : (frozen : Bool) (vs : List EsValue) → length vs < 4294967296 → (es3.frozen_if frozen (array_object vs)).props ≡ array_props frozen vs
new_props true vs few =
    rw (apart_too length_key frozen_mark refl refl) (ap (λ l. length_property (length vs) ∷ l) (ap (defined frozen_mark (es.Bool true) hidden_attrs) (sym (append-nil (item_properties 0 vs))) ∙ last_defined frozen_mark (es.Bool true) hidden_attrs 0 vs [] refl (omega (arith, few))))
new_props false vs few = ap (λ l. length_property (length vs) ∷ l) (sym (append-nil (item_properties 0 vs)))

same_parts : (frozen : Bool) (vs : List EsValue) → (let o = es3.frozen_if frozen (array_object vs) in (o.class ≡ class.Array) × (o.proto ≡ Some 2) × (o.tag ≡ tag.None) × (o.callable ≡ None))
same_parts true vs = (refl, refl, refl, refl)
same_parts false vs = (refl, refl, refl, refl)

pub array_new : {first : Objects} → IsFirst first → (frozen : Bool) (vs : List EsValue) → length vs < 4294967296 → IsNew first (es3.frozen_if frozen (array_object vs))
array_new f frozen vs few =
    let parts = same_parts frozen vs in
    record {
      bare = parts.2;
      above = λ p e. let q : 2 ≡ p = number_in p (sym parts.1 ∙ e) in omega (arith, q, f.some);
      reads = λ k. ap (find (read_mark k)) (new_props frozen vs few) ∙ no_read frozen vs k few;
      sets = λ k. ap (find (set_mark k)) (new_props frozen vs few) ∙ no_set frozen vs k few;
    }
  where
    number_in : (p : ℕ) → (let q : Option ℕ = Some 2 in q) ≡ Some p → 2 ≡ p
    number_in p e = cc

pub array_is : (h : Objects) (frozen : Bool) (vs : List Value) (es : List EsValue) → length es < 4294967296 → Vals h vs es → Is h (an_array frozen vs) (es3.frozen_if frozen (array_object es))
array_is h frozen vs es few p = let parts = same_parts frozen es in record { class = parts.0; no_call = parts.3; proto = parts.1; items = es; props = new_props frozen es few; few = few; are = p }

pub by_length : (n : ℕ) (P : Bool → Type 0) → (n < 4294967296 → P true) → P false → P (nat_lt n 4294967296)
by_length n P few many = elim (nat_lt n 4294967296) as (λ b. nat_lt n 4294967296 ≡ b → P b) [
  | true ↦ λ e. few (grind (arith, nat_tests))
  | false ↦ λ e. many
] refl

pub array_law : {first : Objects} {places : Native → ℕ} (by : ℕ) → by < 64 → IsFirst first → (frozen : Bool) (xs : List Handle) → AreHandlesAmong xs → EndLaw first places by (r.makes_array frozen xs)
array_law {first = first} {places = places} by below f frozen xs a s es w h z y m few p o is =
    let vs = map (direct.value_of s.values) xs in
    let us = map (es3.value_in places es) xs in
    by_length (length xs) (λ b. EndIs first places h m (cond b (direct.makes direct.gives by (an_array frozen vs) w (z ++ direct.got_all by s xs)) (direct.too_long w z)) (cond b (es3.makes value_reply by (es3.frozen_if frozen (array_object us)) h y) (es3.too_long h y)))
    (λ short. let n : length us < 4294967296 = subst (λ k. k < 4294967296) (sym (length-map xs (es3.value_in places es))) short in
    makes_law by below direct.gives value_reply (λ g v e q. q) (an_array frozen vs) _ w h _ y m few (array_new f frozen us n) (array_is h frozen vs us n (handles_are o xs a s.values es p)) o (quiet z _ y is (shown_all by s xs)))
    (same_end (record { reply = refl; objects = objects_step o; items = is; keeps = keeps_refl }))

-- an array's items

set_props : (vs us : List EsValue) → length vs < 4294967296 → length us < 4294967296 → items_set us (array_props false vs) ≡ array_props false us
set_props vs us few few' =
    ap (λ ps. items_set us (length_property (length vs) ∷ ps)) (append-nil (item_properties 0 vs))
    ∙ items_set_are (length vs) vs us few few'
    ∙ ap (λ ps. length_property (length us) ∷ ps) (sym (append-nil (item_properties 0 us)))

array_no_function : {h : Objects} {frozen : Bool} {vs : List Value} {c : heap.Object} → IsArray h frozen vs c → c.class ≡ class.Function → ⊥
array_no_function is e = let clash = sym is.class ∙ e in cc

revised_array : {first : Objects} {places : Native → ℕ} {m : ℕ} {h : Objects} (w : World) → ObjectsAre first places w.objects h m → (a b i : ℕ) (c : heap.Object) (frozen frozen' : Bool) (vs ws : List Value) (us : List EsValue) → heap.tag_of (object_at h i) ≡ tag.Made a b → object_at h i ≡ Some c → slice_get (w.objects a) b ≡ Some (an_array frozen vs) → IsArray h frozen vs c → length us < 4294967296 → Vals h ws us → Changed first places m h (with_made a b (an_array frozen' ws) w).objects (revised h i c (array_props frozen' us))
revised_array {h = h} w old a b i c frozen frozen' vs ws us name there known is few p = record {
  left = objects_revised w.objects (with_made a b (an_array frozen' ws) w).objects old (made_name a b) i c (array_props frozen' us) name (made_known a b) there (array_no_function is)
      (record { object = an_array frozen' ws; known = made_there w a b (an_array frozen vs) (an_array frozen' ws) known; is = record { class = is.class; no_call = is.no_call; proto = is.proto; items = us; props = refl; few = few; are = p } })
      (λ k o ne x. made_still w h a b (an_array frozen' ws) k o ne x) (λ k. made_length w a b k (an_array frozen' ws)) (λ k q e. absurd (none-some q (sym (no_read frozen' us k few) ∙ e))) (λ k q e. absurd (none-some q (sym (no_set frozen' us k few) ∙ e)));
  keeps = revised_keeps h (made_name a b) i c (array_props frozen' us) name there (array_no_function is);
  no_node = revised_no_node h i c (array_props frozen' us) there;
}

array_closed : (h : Objects) (i : ℕ) (c : heap.Object) (frozen : Bool) (vs : List Value) → object_at h i ≡ Some c → IsArray h frozen vs c → is_frozen h i ≡ frozen
array_closed h i c frozen vs there is = ap is_some (closed_is h i c is.items (closing frozen) frozen_mark is.few frozen_no_index refl there is.props) ∙ closing_found frozen

set_array : {first : Objects} {places : Native → ℕ} {m : ℕ} {h : Objects} (w : World) → ObjectsAre first places w.objects h m → (a b i : ℕ) (c : heap.Object) (frozen : Bool) (vs ws : List Value) (us : List EsValue) → length us < 4294967296 → Vals h ws us → heap.tag_of (object_at h i) ≡ tag.Made a b → object_at h i ≡ Some c → slice_get (w.objects a) b ≡ Some (an_array frozen vs) → IsArray h frozen vs c → Changed first places m h (with_made a b (direct.with_items ws (an_array frozen vs)) w).objects (cond (is_frozen h i) h (set_items h i us))
set_array w old a b i c true vs ws us few p name there known is = rw (array_closed _ i c true vs there is) (same_made w a b (an_array true vs) known old)
set_array {first = first} {places = places} {m = m} {h = h} w old a b i c false vs ws us few p name there known is =
    rw (array_closed h i c false vs there is, there, is.props) (subst (λ l. Changed first places m h (with_made a b (an_array false ws) w).objects (revised h i c l)) (sym (set_props is.items us is.few few)) (revised_array w old a b i c false false vs ws us name there known is few p))

-- a change of arrays, on both sides
on_array : {first : Objects} {places : Native → ℕ} {m : ℕ} {h : Objects} (w : World) → ObjectsAre first places w.objects h m → (ws : List Value) (us : List EsValue) → length us < 4294967296 → Vals h ws us → (v : Value) (e : EsValue) → Val h v e → Changed first places m h (direct.changed (direct.with_items ws) v w).objects (es3.on_object e h (λ i. es3.of_array (heap.class_of (object_at h i)) (cond (is_frozen h i) h (set_items h i us)) h))
on_array {first = first} {places = places} {m = m} {h = h} w old ws us few q =
    by_value h (λ v e. Changed first places m h (direct.changed (direct.with_items ws) v w).objects (es3.on_object e h (λ i. es3.of_array (heap.class_of (object_at h i)) (cond (is_frozen h i) h (set_items h i us)) h)))
    (unchanged old) (unchanged old) (λ a. unchanged old) (λ n. unchanged old) (λ us. unchanged old)
    (λ n i p. let s = old.each n i p in subst (λ g. Changed first places m h (direct.changed (direct.with_items ws) (object n) w).objects (es3.of_array (heap.class_of g) (cond (is_frozen h i) h (set_items h i us)) h)) (sym s.there) (by_name n i p s.stored s.there s.is))
  where
    by_object : (a b i : ℕ) → heap.tag_of (object_at h i) ≡ tag.Made a b → (o : Object) → slice_get (w.objects a) b ≡ Some o → (c : heap.Object) → object_at h i ≡ Some c → Is h o c → Changed first places m h (with_made a b (direct.with_items ws o) w).objects (es3.of_array c.class (cond (is_frozen h i) h (set_items h i us)) h)
    by_object a b i p (a_record frozen ps) known c there is = rw is.class (same_made w a b (a_record frozen ps) known old)
    by_object a b i p (an_array frozen vs) known c there is = rw is.class (set_array w old a b i c frozen vs ws us few q p there known is)
    by_object a b i p (a_closure f chain) known c there is = rw is.class (same_made w a b (a_closure f chain) known old)
    by_object a b i p (an_error maker message) known c there is = rw is.class (same_made w a b (an_error maker message) known old)

    by_name : (n : Name) (i : ℕ) → Named h n i → (c : heap.Object) → object_at h i ≡ Some c → IsNamed w.objects h n c → Changed first places m h (direct.changed (direct.with_items ws) (object n) w).objects (es3.of_array c.class (cond (is_frozen h i) h (set_items h i us)) h)
    by_name (made_name a b) i p c there is = rw is.known (by_object a b i p is.object is.known c there is.is)
    by_name (cell_name a zero) i p c there is = rw is.class (unchanged old)
    by_name (cell_name a (suc b)) i p c there is = rw is.1.is.class (unchanged old)
    by_name (own_name a b) i p c there is = rw is.1.is.class (unchanged old)
    by_name (built_name f) i p c there is = rw is.1.is.class (unchanged old)
    by_name (tools_name t) i p c there is = rw is.class (unchanged old)
    by_name (facet_name root k) i p c there is = rw (facet_class root k c is) (unchanged old)
    by_name (forward_name a b d e) i p c there is = absurd is

pub items_law : {first : Objects} {places : Native → ℕ} (by : ℕ) (x : Handle) (xs : List Handle) (v : Handle) → IsHandleAmong x × AreHandlesAmong xs × IsHandleAmong v → EndLaw first places by (r.sets_items x xs v)
items_law {first = first} {places = places} by x xs v a s es w h z y m few p o is =
    let ws = map (direct.value_of s.values) xs in
    let us = map (es3.value_in places es) xs in
    by_length (length xs) (λ b. EndIs first places h m (cond b (direct.answered by v s (direct.changed (direct.with_items ws) (direct.value_of s.values x) w) z) (direct.too_long w z)) (cond b (es3.gives (es3.value_in places es v) (es3.on_object (es3.value_in places es x) h (λ i. es3.of_array (heap.class_of (object_at h i)) (cond (is_frozen h i) h (set_items h i us)) h)) y) (es3.too_long h y)))
    (λ short. let n : length us < 4294967296 = subst (λ k. k < 4294967296) (sym (length-map xs (es3.value_in places es))) short in
    let c = on_array w o ws us n (handles_are o xs a.1 s.values es p) (direct.value_of s.values x) (es3.value_in places es x) (handle_is o x a.0 s.values es p) in
    record { done = record { reply = val_keep c.keeps (direct.value_of s.values v) (es3.value_in places es v) (handle_is o v a.2 s.values es p); objects = objects_step c.left; items = quiet z _ y is (shown_got by s v); keeps = c.keeps }; no_node = c.no_node })
    (same_end (record { reply = refl; objects = objects_step o; items = is; keeps = keeps_refl }))

-- freezing

item_no_mark : (i : ℕ) → i < 4294967296 → is_set_mark (number_units i) ≡ false
item_no_mark i few = not_true _ (λ e. cc (sym (index_seen i few) ∙ set_mark_hidden (number_units i) e))

stay_items : (i : ℕ) (vs : List EsValue) (rest : List Property) → i + length vs < 4294967296 → filter stays (item_properties i vs ++ rest) ≡ item_properties i vs ++ filter stays rest
stay_items i [] rest few = refl
stay_items i (v ∷ vs) rest few =
    rw (item_no_mark i (omega (arith, few))) (ap (λ l. record { key = number_units i; value = v; attrs = Rattle.es3_heap.specs.Objects.plain_attrs } ∷ l) (stay_items (i + 1) vs rest (omega (arith, few))))

items_go : (i : ℕ) (vs : List EsValue) (rest : List Property) → i + length vs < 4294967296 → MarksGo rest → MarksGo (item_properties i vs ++ rest)
items_go i [] rest few go = go
items_go i (v ∷ vs) rest few go = ((λ set. refl), items_go (i + 1) vs rest (omega (arith, few)) go)

closing_go : (frozen : Bool) → MarksGo (closing frozen)
closing_go true = ((λ set. refl), tt)
closing_go false = tt

array_go : (frozen : Bool) (vs : List EsValue) → length vs < 4294967296 → MarksGo (array_props frozen vs)
array_go frozen vs few = ((λ set. cc), items_go 0 vs (closing frozen) (omega (arith, few)) (closing_go frozen))

frozen_props : (frozen : Bool) (vs : List EsValue) → length vs < 4294967296 → defined frozen_mark (es.Bool true) hidden_attrs (without_set_marks (array_props frozen vs)) ≡ array_props true vs
frozen_props frozen vs few =
    ap (defined frozen_mark (es.Bool true) hidden_attrs) (others_stay (array_props frozen vs) (array_go frozen vs few) ∙ ap (λ l. length_property (length vs) ∷ l) (stay_items 0 vs (closing frozen) (omega (arith, few)))) ∙ rw (apart_too length_key frozen_mark refl refl) (ap (λ l. length_property (length vs) ∷ l) (last_defined frozen_mark (es.Bool true) hidden_attrs 0 vs (filter stays (closing frozen)) refl (omega (arith, few)) ∙ ap (λ l. item_properties 0 vs ++ l) (last frozen)))
  where
    last : (frozen : Bool) → defined frozen_mark (es.Bool true) hidden_attrs (filter stays (closing frozen)) ≡ closing true
    last true = refl
    last false = refl

freeze_at : (h : Objects) (i : ℕ) (c : heap.Object) → object_at h i ≡ Some c → freeze h i ≡ revised h i c (defined frozen_mark (es.Bool true) hidden_attrs (without_set_marks c.props))
freeze_at h i c there = rw there (define_at h i c (without_set_marks c.props) frozen_mark (es.Bool true) hidden_attrs there)

freeze_array : {first : Objects} {places : Native → ℕ} {m : ℕ} {h : Objects} (w : World) → ObjectsAre first places w.objects h m → (a b i : ℕ) (c : heap.Object) (frozen : Bool) (vs : List Value) → heap.tag_of (object_at h i) ≡ tag.Made a b → object_at h i ≡ Some c → slice_get (w.objects a) b ≡ Some (an_array frozen vs) → IsArray h frozen vs c → Changed first places m h (with_made a b (an_array true vs) w).objects (freeze h i)
freeze_array {first = first} {places = places} {m = m} {h = h} w old a b i c frozen vs name there known is =
    subst (λ g. Changed first places m h (with_made a b (an_array true vs) w).objects g) (sym (freeze_at h i c there))
    (subst (λ l. Changed first places m h (with_made a b (an_array true vs) w).objects (revised h i c l)) (sym (ap (λ l. defined frozen_mark (es.Bool true) hidden_attrs (without_set_marks l)) is.props ∙ frozen_props frozen is.items is.few))
    (revised_array w old a b i c frozen true vs vs is.items name there known is is.few is.are))

-- a record that is always frozen is frozen again
freeze_kept : {first : Objects} {places : Native → ℕ} {m : ℕ} {h : Objects} (w : World) → ObjectsAre first places w.objects h m → OnKept first places m h w (λ i. freeze h i)
freeze_kept {first = first} {places = places} {m = m} {h = h} w old n i c ps name known there is back =
    subst (λ g. Changed first places m h w.objects g) (sym (freeze_at h i c there)) (revised_same w.objects old n i c true ps _ name known there is back (props_frozen is.props))

freezes_it : {first : Objects} {places : Native → ℕ} {m : ℕ} {h : Objects} (w : World) → ObjectsAre first places w.objects h m → (v : Value) (e : EsValue) → Val h v e → Changed first places m h (direct.changed direct.as_frozen v w).objects (es3.on_object e h (λ i. es3.of_either (heap.class_of (object_at h i)) (freeze h i) h))
freezes_it {first = first} {places = places} {m = m} {h = h} w old =
    by_value h (λ v e. Changed first places m h (direct.changed direct.as_frozen v w).objects (es3.on_object e h (λ i. es3.of_either (heap.class_of (object_at h i)) (freeze h i) h)))
    (unchanged old) (unchanged old) (λ a. unchanged old) (λ n. unchanged old) (λ us. unchanged old)
    (λ n i p. let s = old.each n i p in subst (λ g. Changed first places m h (direct.changed direct.as_frozen (object n) w).objects (es3.of_either (heap.class_of g) (freeze h i) h)) (sym s.there) (by_name n i p s.stored s.there s.is))
  where
    by_object : (a b i : ℕ) → heap.tag_of (object_at h i) ≡ tag.Made a b → (o : Object) → slice_get (w.objects a) b ≡ Some o → (c : heap.Object) → object_at h i ≡ Some c → Is h o c → Changed first places m h (with_made a b (direct.as_frozen o) w).objects (es3.of_either c.class (freeze h i) h)
    by_object a b i p (a_record frozen ps) known c there is = rw is.class (freeze_record w old a b i c frozen ps p there known is)
    by_object a b i p (an_array frozen vs) known c there is = rw is.class (freeze_array w old a b i c frozen vs p there known is)
    by_object a b i p (a_closure f chain) known c there is = rw is.class (same_made w a b (a_closure f chain) known old)
    by_object a b i p (an_error maker message) known c there is = rw is.class (same_made w a b (an_error maker message) known old)

    by_name : (n : Name) (i : ℕ) → Named h n i → (c : heap.Object) → object_at h i ≡ Some c → IsNamed w.objects h n c → Changed first places m h (direct.changed direct.as_frozen (object n) w).objects (es3.of_either c.class (freeze h i) h)
    by_name (made_name a b) i p c there is = rw is.known (by_object a b i p is.object is.known c there is.is)
    by_name (cell_name a zero) i p c there is = rw is.class (freeze_kept w old (cell_name a zero) i c _ p (cell_known a zero) there is (λ x r. r))
    by_name (cell_name a (suc b)) i p c there is = rw is.1.is.class (unchanged old)
    by_name (own_name a b) i p c there is = rw is.1.is.class (unchanged old)
    by_name (built_name f) i p c there is = rw is.1.is.class (unchanged old)
    by_name (tools_name t) i p c there is = rw is.class (freeze_kept w old (tools_name t) i c _ p (tools_known t) there is (λ x r. r))
    by_name (facet_name root k) i p c there is = rw (facet_class root k c is) (unchanged old)
    by_name (forward_name a b d e) i p c there is = absurd is

pub freezes_law : {first : Objects} {places : Native → ℕ} (by : ℕ) (x : Handle) → IsHandleAmong x → EndLaw first places by (r.freezes x)
freezes_law {places = places} by x a s es w h z y m few p o is =
    let c = freezes_it w o (direct.value_of s.values x) (es3.value_in places es x) (handle_is o x a s.values es p) in
    record { done = record { reply = val_keep c.keeps (direct.value_of s.values x) (es3.value_in places es x) (handle_is o x a s.values es p); objects = objects_step c.left; items = quiet z _ y is (shown_got by s x); keeps = c.keeps }; no_node = c.no_node }
