-- Texts and numbers of values that correspond, where the objects of guests have the built-in conversions.
use Rattle.std.proofs.Common.{◌≡◌, ℕ, zero, suc, ◌<◌, length, Bool, true, false, List, [], ◌∷◌, ◌++◌, Option, Some, None, Result, Ok, Err, cond, refl, sym, ap, ◌∙◌, subst, arith, lit<}
use Rattle.std.specs.Prelude.{◌-◌, codes, ℤ, option_map}
use Rattle.std.proofs.lemmas.Option.{slice_get_within}
use Rattle.plans.specs.Plans.{Fault, depth_fault}
use Rattle.es3_tokens.specs.TextNumber.{text_number}
use Rattle.es3_objects.specs.declared.value.Value.TheVariants as es
use Rattle.es3_objects.specs.declared.value.Proto.{Proto}
use Rattle.es3_objects.specs.declared.value.Proto.TheVariants as proto
use Rattle.es3_heap.specs.Objects as heap
use Rattle.es3_heap.specs.Objects.{Property, Objects, object_at}
use Rattle.es3_heap.specs.Properties.{find, own, or_else, lookup, lookup_from}
use Rattle.es3_heap.specs.Making.{proto_id}
use Rattle.caja_units.specs.Index.{array_index}
use Rattle.std.specs.Fmt.{digits}
use Rattle.es3_convert.specs.Conversions as convert
use Rattle.es3_convert.specs.Conversions.{text_within, to_string, value_of_object, is_numbered, is_built_in, converts, class_text, array_items}
use Rattle.es3_convert.specs.Numbers as convert_number
use Rattle.rows.specs.Rows as r
use Rattle.rows.specs.Names.{sort_of}
use Rattle.cajita_meaning.specs.World.{Name, made_name, cell_name, own_name, built_name, tools_name, facet_name, forward_name, Value, undefined, null, truth, number, text, object, Pairs, Object, a_record, an_array, a_closure, an_error, World}
use Rattle.cajita_meaning.specs.Doing as direct
use Rattle.heap_rows.specs.Doing as es3
use Rattle.row_simulation.specs.Correspond.{EsValue, Named, Val, Vals, IsRecord, IsFunction, Is, IsNamed, ObjectsAre, closing}
use Rattle.row_simulation.specs.RowLaw.{Conversions, IsFirst, proto_above}
use Rattle.row_simulation.proofs.Items.{array_items_are, closed_is}
use Rattle.row_simulation.proofs.Relation.{facet_class}
use Rattle.row_simulation.proofs.Sights.{seen_alike}

-- named objects have no conversion of their own making, nor has a prototype below that of Object, whose conversions are the built-in ones: so no conversion runs code

abbrev Plainly : Objects → Type 0
Plainly h = (n : Name) (i : ℕ) → Named h n i → converts h i ≡ true

module _ {first : Objects} {places : r.Native → ℕ} {m : ℕ} {objects : ℕ → List Object} {h : Objects} (f : IsFirst first) (o : ObjectsAre first places objects h m) where
  -- a key that no other of the first objects has is looked up in the prototype of Object
  module _ (k : List ℕ) (none : (i : ℕ) → 0 < i → own first i k ≡ None) where
    from_top : (n : ℕ) → lookup_from (suc n) h (Some 0) k ≡ own first 0 k
    from_top n = rw (o.opened 0 (omega (arith, f.some)), f.above proto.Object) (or_none (own first 0 k))
      where
        or_none : (q : Option Property) → or_else q None ≡ q
        or_none None = refl
        or_none (Some p) = refl

    past : (p : Proto) → 0 < proto_id p → proto_id p < 10 → (n : ℕ) → lookup_from (suc n) h (Some (proto_id p)) k ≡ lookup_from n h (proto_above p) k
    past p some few n = rw (o.opened (proto_id p) (omega (arith, few, f.some)), none (proto_id p) some, f.above p) refl

    from_prototype : (p : Proto) (n : ℕ) → lookup_from (suc (suc (suc n))) h (Some (proto_id p)) k ≡ own first 0 k
    from_prototype proto.Object n = from_top (suc (suc n))
    from_prototype proto.TypeError n = past proto.TypeError (lit< tt) (lit< tt) (suc (suc n)) ∙ past proto.Error (lit< tt) (lit< tt) (suc n) ∙ from_top n
    from_prototype proto.RangeError n = past proto.RangeError (lit< tt) (lit< tt) (suc (suc n)) ∙ past proto.Error (lit< tt) (lit< tt) (suc n) ∙ from_top n
    from_prototype p n = past p (lit< tt) (lit< tt) (suc (suc n)) ∙ from_top (suc n)

    from_object : (i : ℕ) (c : heap.Object) (p : Proto) → object_at h i ≡ Some c → c.proto ≡ Some (proto_id p) → own h i k ≡ None → lookup h i k ≡ own first 0 k
    from_object i c p there up here =
        let n = length h.list - 4 in
        let more : length h.list ≡ suc (suc (suc (suc n))) = omega (arith, f.some, o.large) in
        rw (more, here, there, up) (from_prototype p n)

  -- a built-in function stays one
  built_in : (n : ℕ) (x : EsValue) → is_built_in n first x ≡ true → is_built_in n h x ≡ true
  built_in n (es.Obj i) e =
      elim (object_at first i) as (λ q. object_at first i ≡ q → is_numbered n (option_map (λ c. c.kind) (heap.callable_of q)) ≡ true → is_built_in n h (es.Obj i) ≡ true) [
        | None ↦ λ there is. cc
        | Some c ↦ λ there is. rw (o.opened i (slice_get_within first.list i c there), there) is
      ] refl e
  built_in n x e = cc

text_no_index : array_index (codes "toString") ≡ None
unfolding array_index digits
text_no_index = refl

value_no_index : array_index (codes "valueOf") ≡ None
unfolding array_index digits
value_no_index = refl

none_closing : (frozen : Bool) → (find (codes "toString") (closing frozen) ≡ None) × (find (codes "valueOf") (closing frozen) ≡ None)
none_closing true = (refl, refl)
none_closing false = (refl, refl)

-- a named object is below a prototype, and has no conversion of its own
record IsPlain (h : Objects) (i : ℕ) (c : heap.Object) : Type 0 where
  up : Proto
  above : c.proto ≡ Some (proto_id up)
  no_text : own h i (codes "toString") ≡ None
  no_value : own h i (codes "valueOf") ≡ None

function_plain : (h : Objects) (i : ℕ) (c : heap.Object) (sort : r.Sort) → object_at h i ≡ Some c → IsFunction sort c → IsPlain h i c
function_plain h i c sort there is = record { up = proto.Function; above = is.proto; no_text = rw there is.no_text; no_value = rw there is.no_value }

record_plain : (h : Objects) (i : ℕ) (c : heap.Object) (frozen : Bool) (ps : Pairs) → object_at h i ≡ Some c → IsRecord h frozen ps c → IsPlain h i c
record_plain h i c frozen ps there is = record { up = proto.Object; above = is.proto; no_text = rw there is.props.no_text; no_value = rw there is.props.no_value }

named_plain : (objects : ℕ → List Object) (h : Objects) (n : Name) (i : ℕ) (c : heap.Object) → object_at h i ≡ Some c → IsNamed objects h n c → IsPlain h i c
named_plain objects h (made_name a b) i c there is = by_object is.object is.is
  where
    by_object : (q : Object) → Is h q c → IsPlain h i c
    by_object (a_record frozen ps) is = record_plain h i c frozen ps there is
    by_object (an_array frozen vs) is = record {
      up = proto.Array;
      above = is.proto;
      no_text = closed_is h i c is.items (closing frozen) (codes "toString") is.few text_no_index refl there is.props ∙ (none_closing frozen).0;
      no_value = closed_is h i c is.items (closing frozen) (codes "valueOf") is.few value_no_index refl there is.props ∙ (none_closing frozen).1;
    }
    by_object (a_closure f chain) is = function_plain h i c r.closure there is
    by_object (an_error maker message) is = record { up = es3.proto_of maker; above = is.proto; no_text = rw there is.no_text; no_value = rw there is.no_value }
named_plain objects h (cell_name k zero) i c there is = record_plain h i c true _ there is
named_plain objects h (cell_name k (suc l)) i c there is = function_plain h i c r.simple there is.1.is
named_plain objects h (own_name k l) i c there is = function_plain h i c r.simple there is.1.is
named_plain objects h (built_name f) i c there is = function_plain h i c (sort_of f) there is.1.is
named_plain objects h (tools_name t) i c there is = record_plain h i c true _ there is
named_plain objects h (facet_name root k) i c there is =
    let t : object_at h i ≡ Some (es3.facet_object root k) = there ∙ ap (λ o. let q : Option heap.Object = Some o in q) is in
    record { up = proto.Node; above = ap (λ (o : heap.Object). o.proto) is; no_text = rw t refl; no_value = rw t refl }
named_plain objects h (forward_name k l d e) i c there is = absurd is

plainly : {first : Objects} {places : r.Native → ℕ} {m : ℕ} {objects : ℕ → List Object} {h : Objects} → IsFirst first → ObjectsAre first places objects h m → Plainly h
plainly {objects = objects} {h = h} f o n i p =
    let s = o.each n i p in
    let q = named_plain objects h n i s.stored s.there s.is in
    let text = from_object f o (codes "toString") f.no_text i s.stored q.up s.there q.above q.no_text in
    let value = from_object f o (codes "valueOf") f.no_value i s.stored q.up s.there q.above q.no_value in
    rw (text, value, built_in f o to_string _ f.text, built_in f o value_of_object _ f.value) refl

-- a text, or the same fault
abbrev Texts : (Value → Result (List ℕ) Fault) → (EsValue → Result (List ℕ) Fault) → Objects → Type 0
Texts f g h = (v : Value) (e : EsValue) → Val h v e → g e ≡ f v

item_same : (f : Value → Result (List ℕ) Fault) (g : EsValue → Result (List ℕ) Fault) (h : Objects) → Texts f g h → (v : Value) (e : EsValue) → Val h v e → convert.item_text g e ≡ direct.item_text f v
item_same f g h t undefined es.Undefined p = refl
item_same f g h t null es.Null p = refl
item_same f g h t (truth a) (es.Bool b) p = t (truth a) (es.Bool b) p
item_same f g h t (number a) (es.Num b) p = t (number a) (es.Num b) p
item_same f g h t (text a) (es.Text b) p = t (text a) (es.Text b) p
item_same f g h t (object a) (es.Obj b) p = t (object a) (es.Obj b) p
item_same f g h t _ _ p = absurd p

same_then : {A B : Type 0} (a : Result A Fault) (go go' : A → Result B Fault) → ((x : A) → go' x ≡ go x) → convert.and_then a go' ≡ direct.and_then a go
same_then (Ok x) go go' f = f x
same_then (Err e) go go' f = refl

tail_same : (f : Value → Result (List ℕ) Fault) (g : EsValue → Result (List ℕ) Fault) (h : Objects) → Texts f g h → (sep : List ℕ) (vs : List Value) (es : List EsValue) → Vals h vs es → convert.tail_text g sep es ≡ direct.tail_text f sep vs
tail_same f g h t sep [] [] p = refl
tail_same f g h t sep (v ∷ vs) (e ∷ es) p =
    ap (λ a. convert.and_then a (λ us. convert.and_then (convert.tail_text g sep es) (λ ws. let q : Result (List ℕ) Fault = Ok (sep ++ (us ++ ws)) in q))) (item_same f g h t v e p.0)
    ∙ same_then (direct.item_text f v) _ _ (λ us. ap (λ a. convert.and_then a (λ ws. let q : Result (List ℕ) Fault = Ok (sep ++ (us ++ ws)) in q)) (tail_same f g h t sep vs es p.1) ∙ same_then (direct.tail_text f sep vs) _ _ (λ ws. refl))
tail_same f g h t sep _ _ p = absurd p

joined_same : (f : Value → Result (List ℕ) Fault) (g : EsValue → Result (List ℕ) Fault) (h : Objects) → Texts f g h → (sep : List ℕ) (vs : List Value) (es : List EsValue) → Vals h vs es → convert.joined g sep es ≡ direct.joined f sep vs
joined_same f g h t sep [] [] p = refl
joined_same f g h t sep (v ∷ vs) (e ∷ es) p =
    ap (λ a. convert.and_then a (λ us. convert.and_then (convert.tail_text g sep es) (λ ws. let q : Result (List ℕ) Fault = Ok (us ++ ws) in q))) (item_same f g h t v e p.0)
    ∙ same_then (direct.item_text f v) _ _ (λ us. ap (λ a. convert.and_then a (λ ws. let q : Result (List ℕ) Fault = Ok (us ++ ws) in q)) (tail_same f g h t sep vs es p.1) ∙ same_then (direct.tail_text f sep vs) _ _ (λ ws. refl))
joined_same f g h t sep _ _ p = absurd p

if_same : (a b : Result (List ℕ) Fault) (x : r.Sight) → a ≡ b → es3.joined_if a x ≡ direct.joined_if b x
if_same a b (r.an_array frozen xs) e = e
if_same a b x e = refl

-- the text of an object by its kind, where the texts of an array are the same
kind_same : (h : Objects) (w : World) (n : Name) (i : ℕ) (c : heap.Object) → object_at h i ≡ Some c → IsNamed w.objects h n c → (a b : Result (List ℕ) Fault) → (Vals h (direct.see_object w 0 n).values (array_items h i) → a ≡ b) → class_text a c.class ≡ direct.sight_text b (direct.see_object w 0 n).sight
kind_same h w (made_name k l) i c there is a b array =
    subst (λ q. class_text a c.class ≡ direct.sight_text b (direct.see_made 0 q).sight) (sym is.known) (by_object is.object is.is (subst (λ q. Vals h (direct.see_made 0 q).values (array_items h i) → a ≡ b) is.known array))
  where
    by_object : (q : Object) → Is h q c → (Vals h (direct.see_made 0 (Some q)).values (array_items h i) → a ≡ b) → class_text a c.class ≡ direct.sight_text b (direct.see_made 0 (Some q)).sight
    by_object (a_record frozen ps) is array = rw is.class refl
    by_object (an_array frozen vs) is array =
        let items = array_items_are h i c is.items (closing frozen) is.few there is.props in
        rw is.class (array (subst (λ l. Vals h vs l) (sym items) is.are))
    by_object (a_closure f chain) is array = rw is.class refl
    by_object (an_error maker message) is array = rw is.class refl
kind_same h w (cell_name k zero) i c there is a b array = rw is.class refl
kind_same h w (cell_name k (suc l)) i c there is a b array = rw is.1.is.class refl
kind_same h w (own_name k l) i c there is a b array = rw is.1.is.class refl
kind_same h w (built_name f) i c there is a b array = rw is.1.is.class refl
kind_same h w (tools_name t) i c there is a b array = rw is.class refl
kind_same h w (facet_name root k) i c there is a b array = rw (facet_class root k c is) refl
kind_same h w (forward_name k l d e) i c there is a b array = absurd is

text_same : {first : Objects} {places : r.Native → ℕ} {m : ℕ} {h : Objects} (n : ℕ) (w : World) → ObjectsAre first places w.objects h m → Plainly h → Texts (direct.text_within n w) (text_within n h) h
unfolding text_within direct.text_within
text_same zero w o plain undefined es.Undefined p = refl
text_same zero w o plain null es.Null p = refl
text_same zero w o plain (truth a) (es.Bool b) p = ap (λ x. let q : Result (List ℕ) Fault = Ok (cond x (codes "true") (codes "false")) in q) (sym p)
text_same zero w o plain (number a) (es.Num b) p = ap (λ x. let q : Result (List ℕ) Fault = Ok (Rattle.caja_units.specs.Number.number_text x) in q) (sym p)
text_same zero w o plain (text a) (es.Text b) p = ap (λ x. let q : Result (List ℕ) Fault = Ok x in q) (sym p)
text_same zero w o plain (object n) (es.Obj i) p = let s = o.each n i p in rw (plain n i p) (subst (λ q. class_text (Err depth_fault) (heap.class_of q) ≡ direct.sight_text (Err depth_fault) (direct.see_object w 0 n).sight) (sym s.there) (kind_same _ w n i s.stored s.there s.is (Err depth_fault) (Err depth_fault) (λ x. refl)))
text_same (suc k) w o plain undefined es.Undefined p = refl
text_same (suc k) w o plain null es.Null p = refl
text_same (suc k) w o plain (truth a) (es.Bool b) p = ap (λ x. let q : Result (List ℕ) Fault = Ok (cond x (codes "true") (codes "false")) in q) (sym p)
text_same (suc k) w o plain (number a) (es.Num b) p = ap (λ x. let q : Result (List ℕ) Fault = Ok (Rattle.caja_units.specs.Number.number_text x) in q) (sym p)
text_same (suc k) w o plain (text a) (es.Text b) p = ap (λ x. let q : Result (List ℕ) Fault = Ok x in q) (sym p)
text_same {h = h} (suc k) w o plain (object n) (es.Obj i) p =
    let s = o.each n i p in
    let a = convert.joined (text_within k h) (codes ",") (array_items h i) in
    let b = direct.joined (direct.text_within k w) (codes ",") (direct.see_object w 0 n).values in
    rw (plain n i p) (subst (λ q. class_text a (heap.class_of q) ≡ direct.sight_text b (direct.see_object w 0 n).sight) (sym s.there)
    (kind_same _ w n i s.stored s.there s.is a b (λ x. joined_same (direct.text_within k w) (text_within k h) h (text_same k w o plain) (codes ",") (direct.see_object w 0 n).values (array_items h i) x)))
text_same n w o plain _ _ p = absurd p

found_same : (o : Option ℤ) → convert_number.found_number o ≡ direct.found_number o
found_same None = refl
found_same (Some n) = refl

number_same : {first : Objects} {places : r.Native → ℕ} {m : ℕ} {h : Objects} (w : World) → ObjectsAre first places w.objects h m → Plainly h → (v : Value) (e : EsValue) → Val h v e → convert_number.number_of h e ≡ direct.number_of w v
unfolding direct.text_within
number_same w o plain undefined es.Undefined p = refl
number_same w o plain null es.Null p = refl
number_same w o plain (truth true) (es.Bool true) p = refl
number_same w o plain (truth false) (es.Bool false) p = refl
number_same w o plain (truth true) (es.Bool false) p = cc
number_same w o plain (truth false) (es.Bool true) p = cc
number_same w o plain (number a) (es.Num b) p = ap (λ x. let q : Result ℤ Fault = Ok x in q) (sym p)
number_same w o plain (text a) (es.Text b) p = found_same (text_number b) ∙ ap (λ x. direct.found_number (text_number x)) (sym p)
number_same w o plain (object n) (es.Obj i) p =
    ap (λ t. convert.and_then t (λ us. convert_number.found_number (text_number us))) (text_same 32 w o plain (object n) (es.Obj i) p)
    ∙ same_then (direct.text_within 32 w (object n)) _ _ (λ us. found_same (text_number us))
number_same w o plain _ _ p = absurd p

joined_of_same : {first : Objects} {places : r.Native → ℕ} {m : ℕ} {h : Objects} (w : World) → ObjectsAre first places w.objects h m → Plainly h → (v : Value) (e : EsValue) (sep : List ℕ) → Val h v e → es3.joined_of h e sep ≡ direct.joined_of w v sep
joined_of_same {h = h} w o plain v e sep p =
    let a = seen_alike w o 0 v e p in
    ap (λ x. es3.joined_if (convert.joined (text_within 31 h) sep (es3.see h 0 e).values) x) (sym a.sight)
    ∙ if_same _ _ (direct.see w 0 v).sight (joined_same (direct.text_within 31 w) (text_within 31 h) h (text_same 31 w o plain) sep (direct.see w 0 v).values (es3.see h 0 e).values a.values)

-- conversions of values that correspond are the same
pub conversions : (first : Objects) (places : r.Native → ℕ) → IsFirst first → (w : World) (h : Objects) (m : ℕ) → ObjectsAre first places w.objects h m → Conversions w h
conversions first places f w h m o = let plain = plainly f o in record { texts = λ v e p. text_same 32 w o plain v e p; joins = λ v e sep p. joined_of_same w o plain v e sep p; numbers = λ v e p. number_same w o plain v e p }
