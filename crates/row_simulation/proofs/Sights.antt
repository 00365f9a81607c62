-- What is seen of values that correspond.
use Rattle.std.proofs.Common.{◌≡◌, ℕ, zero, suc, ◌+◌, Bool, true, false, List, [], ◌∷◌, Option, Some, None, refl, sym, ap, ◌∙◌, subst}
use Rattle.std.specs.Prelude.{codes, map, is_some}
use Rattle.std.specs.Fmt.{digits}
use Rattle.caja_units.specs.Index.{array_index}
use Rattle.es3_objects.specs.declared.value.Value.TheVariants as es
use Rattle.es3_heap.specs.Objects as heap
use Rattle.es3_heap.specs.Objects.{Objects}
use Rattle.es3_heap.specs.Properties.{find, own}
use Rattle.rows.specs.Rows as r
use Rattle.rows.specs.Rows.{handles, keyed_handles}
use Rattle.rows.specs.Guards.{maker_name}
use Rattle.cajita_meaning.specs.World.{Name, made_name, cell_name, own_name, built_name, tools_name, facet_name, forward_name, Value, undefined, null, truth, number, text, object, Pairs, Object, a_record, an_array, a_closure, an_error, World}
use Rattle.cajita_meaning.specs.Doing as direct
use Rattle.heap_rows.specs.Marks.{frozen_mark}
use Rattle.heap_rows.specs.Doing as es3
use Rattle.row_simulation.proofs.Items.{array_items_are, closed_is}
use Rattle.row_simulation.proofs.Relation.{EsValue, Val, Vals, PairsAre, IsRecord, IsFunction, closing, value_is, Is, IsNamed, ObjectsAre}
use Rattle.row_simulation.specs.Among.{AreHandlesAmong, ArePairsAmong, IsSortAmong, IsSightAmong}

-- the same is seen, and the values in it correspond
pub record Alike (h : Objects) (a : direct.Seen) (b : es3.Seen) : Type 0 where
  pub sight : a.sight ≡ b.sight
  pub values : Vals h a.values b.values

handles_same : (h : Objects) (n : ℕ) (vs : List Value) (es : List EsValue) → Vals h vs es → handles n vs ≡ handles n es
handles_same h n [] [] p = refl
handles_same h n (v ∷ vs) (e ∷ es) p = ap (λ l. r.held n ∷ l) (handles_same h (n + 1) vs es p.1)
handles_same h n _ _ p = absurd p

keyed_same : (h : Objects) (n : ℕ) (ps : Pairs) (qs : List (List ℕ × EsValue)) → PairsAre h ps qs → keyed_handles n ps ≡ keyed_handles n qs
keyed_same h n [] [] p = refl
keyed_same h n ((k, v) ∷ ps) ((j, e) ∷ qs) p = rw (p.0, keyed_same h (n + 1) ps qs p.2) refl
keyed_same h n _ _ p = absurd p

pub pair_values : (h : Objects) (ps : Pairs) (qs : List (List ℕ × EsValue)) → PairsAre h ps qs → Vals h (map (λ p. p.1) ps) (map (λ q. q.1) qs)
pair_values h [] [] p = tt
pair_values h ((k, v) ∷ ps) ((j, e) ∷ qs) p = (p.1, pair_values h ps qs p.2)
pair_values h _ _ p = absurd p

pub frozen_no_index : array_index frozen_mark ≡ None
unfolding array_index digits
frozen_no_index = refl

pub closing_found : (frozen : Bool) → is_some (find frozen_mark (closing frozen)) ≡ frozen
closing_found true = refl
closing_found false = refl

text_there : (o : Option heap.Property) (us : List ℕ) → value_is o (es.Text us) → es3.text_in (Rattle.es3_heap.specs.Properties.value_of o) ≡ us
text_there None us p = absurd p
text_there (Some q) us p = ap es3.text_in p

record_alike : (h : Objects) (n i : ℕ) (frozen : Bool) (ps : Pairs) (c : heap.Object) → heap.object_at h i ≡ Some c → IsRecord h frozen ps c → Alike h (direct.see_record frozen n ps) (es3.see_object n h i c.class)
record_alike h n i frozen ps c there is =
    rw (is.class, there) (record {
      sight = rw (is.props.closed, keyed_same h n ps (es3.guests c.props) is.props.pairs) refl;
      values = pair_values h ps (es3.guests c.props) is.props.pairs;
    })

object_alike : (h : Objects) (n i : ℕ) (o : Object) (c : heap.Object) → heap.object_at h i ≡ Some c → Is h o c → Alike h (direct.see_made n (Some o)) (es3.see_object n h i c.class)
object_alike h n i (a_record frozen ps) c there is = record_alike h n i frozen ps c there is
object_alike h n i (an_array frozen vs) c there is =
    let items = array_items_are h i c is.items (closing frozen) is.few there is.props in
    let closed : is_some (own h i frozen_mark) ≡ frozen = ap is_some (closed_is h i c is.items (closing frozen) frozen_mark is.few frozen_no_index refl there is.props) ∙ closing_found frozen in
    rw (is.class, items, closed) (record {
      sight = ap (λ l. r.an_array frozen l) (handles_same h n vs is.items is.are);
      values = is.are;
    })
object_alike h n i (a_closure f chain) c there is = rw (is.class, there) (record { sight = sym is.kind; values = tt })
object_alike h n i (an_error maker message) c there is =
    rw (is.class, there, text_there (find (codes "name") c.props) (maker_name maker) is.has_name, text_there (find (codes "message") c.props) message is.has_message) (record { sight = refl; values = tt })

function_alike : (h : Objects) (n i : ℕ) (sort : r.Sort) (c : heap.Object) → heap.object_at h i ≡ Some c → IsFunction sort c → Alike h (direct.only (r.a_function sort)) (es3.see h n (es.Obj i))
function_alike h n i sort c there is = rw (there, is.class, there) (record { sight = sym is.kind; values = tt })

record_seen : (h : Objects) (n i : ℕ) (ps : Pairs) (c : heap.Object) → heap.object_at h i ≡ Some c → IsRecord h true ps c → Alike h (direct.see_record true n ps) (es3.see h n (es.Obj i))
record_seen h n i ps c there is = subst (λ q. Alike h (direct.see_record true n ps) (es3.see_object n h i (heap.class_of q))) (sym there) (record_alike h n i true ps c there is)

-- a named object
named_alike : (w : World) (h : Objects) (n : ℕ) (k : Name) (i : ℕ) (c : heap.Object) → heap.object_at h i ≡ Some c → IsNamed w.objects h k c → Alike h (direct.see_object w n k) (es3.see h n (es.Obj i))
named_alike w h n (made_name a b) i c there is =
    rw is.known (subst (λ q. Alike h (direct.see_made n (Some is.object)) (es3.see_object n h i (heap.class_of q))) (sym there) (object_alike h n i is.object c there is.is))
named_alike w h n (cell_name a zero) i c there is = record_seen h n i _ c there is
named_alike w h n (cell_name a (suc b)) i c there is = function_alike h n i r.simple c there is.1.is
named_alike w h n (own_name a b) i c there is = function_alike h n i r.simple c there is.1.is
named_alike w h n (built_name f) i c there is = function_alike h n i (Rattle.rows.specs.Names.sort_of f) c there is.1.is
named_alike w h n (tools_name t) i c there is = record_seen h n i _ c there is
named_alike w h n (facet_name root k) i c there is = let t : heap.object_at h i ≡ Some (es3.facet_object root k) = there ∙ ap (λ o. let q : Option heap.Object = Some o in q) is in subst (λ q. Alike h (direct.only r.a_node) (es3.see_object n h i (heap.class_of q))) (sym t) (record { sight = refl; values = tt })
named_alike w h n (forward_name a b d e) i c there is = absurd is

pub seen_alike : {first : Objects} {places : r.Native → ℕ} {m : ℕ} {h : Objects} (w : World) → ObjectsAre first places w.objects h m → (n : ℕ) (v : Value) (e : EsValue) → Val h v e → Alike h (direct.see w n v) (es3.see h n e)
seen_alike w o n undefined es.Undefined p = record { sight = refl; values = tt }
seen_alike w o n null es.Null p = record { sight = refl; values = tt }
seen_alike w o n (truth a) (es.Bool b) p = record { sight = ap r.a_truth p; values = tt }
seen_alike w o n (number a) (es.Num b) p = record { sight = ap r.a_number p; values = tt }
seen_alike w o n (text a) (es.Text b) p = record { sight = ap r.a_text p; values = tt }
seen_alike {h = h} w o n (object k) (es.Obj i) p = let s = o.each k i p in named_alike w h n k i s.stored s.there s.is
seen_alike w o n _ _ p = absurd p

-- what is seen is among objects: handles of what was seen are held, and no one sees forwarders

pub handles_among : {V : Type 0} (n : ℕ) (vs : List V) → AreHandlesAmong (handles n vs)
handles_among n [] = tt
handles_among n (v ∷ vs) = (tt, handles_among (n + 1) vs)

keyed_among : (n : ℕ) (ps : Pairs) → ArePairsAmong (keyed_handles n ps)
keyed_among n [] = tt
keyed_among n ((k, v) ∷ ps) = (tt, keyed_among (n + 1) ps)

made_among : (n : ℕ) (o : Object) → IsSightAmong (direct.see_made n (Some o)).sight
made_among n (a_record frozen ps) = keyed_among n ps
made_among n (an_array frozen vs) = handles_among n vs
made_among n (a_closure f chain) = tt
made_among n (an_error maker message) = tt

built_among : (f : r.Native) → IsSortAmong (Rattle.rows.specs.Names.sort_of f)
built_among (r.makes maker) = tt
built_among f = tt

named_among : (w : World) (h : Objects) (n : ℕ) (k : Name) (c : heap.Object) → IsNamed w.objects h k c → IsSightAmong (direct.see_object w n k).sight
named_among w h n (made_name a b) c is = rw is.known (made_among n is.object)
named_among w h n (cell_name a zero) c is = keyed_among n (direct.get_and_set (cell_name a 1) (cell_name a 2))
named_among w h n (cell_name a (suc b)) c is = tt
named_among w h n (own_name a b) c is = tt
named_among w h n (built_name f) c is = built_among f
named_among w h n (tools_name t) c is = keyed_among n (direct.tool_pairs (Rattle.rows.specs.Names.tools t))
named_among w h n (facet_name root k) c is = tt
named_among w h n (forward_name a b d e) c is = absurd is

pub seen_among : {first : Objects} {places : r.Native → ℕ} {m : ℕ} {h : Objects} (w : World) → ObjectsAre first places w.objects h m → (n : ℕ) (v : Value) (e : EsValue) → Val h v e → IsSightAmong (direct.see w n v).sight
seen_among {h = h} w o n (object k) (es.Obj i) p = let s = o.each k i p in named_among w h n k s.stored s.is
seen_among w o n undefined e p = tt
seen_among w o n null e p = tt
seen_among w o n (truth a) e p = tt
seen_among w o n (number a) e p = tt
seen_among w o n (text a) e p = tt
seen_among w o n (object k) _ p = absurd p
