-- A new record with the keys and values of another one.
use Rattle.std.proofs.Common.{◌≡◌, ℕ, zero, suc, ◌<◌, Bool, true, false, List, [], ◌∷◌, Option, Some, None, cond, refl, sym, ap, ◌∙◌, subst, arith}
use Rattle.std.specs.Prelude.{codes, map, is_some}
use Rattle.std.proofs.lemmas.Option.{none-some}
use Rattle.caja_units.specs.Units.{same_units, is_hidden}
use Rattle.es3_objects.specs.declared.value.Value.TheVariants as es
use Rattle.es3_heap.specs.Objects as heap
use Rattle.es3_heap.specs.Objects.{Property, Objects, object_at, plain_attrs, hidden_attrs}
use Rattle.es3_heap.specs.Properties.{find, defined}
use Rattle.es3_objects.proofs.Laws.{find-defined-other}
use Rattle.es3_language.specs.Natives.{value_reply}
use Rattle.rows.specs.Rows as r
use Rattle.rows.specs.Rows.{Handle, Native}
use Rattle.cajita_meaning.specs.World.{Name, made_name, cell_name, own_name, built_name, tools_name, facet_name, forward_name, Value, Pairs, Object, a_record, an_array, a_closure, an_error, World}
use Rattle.cajita_meaning.specs.Doing as direct
use Rattle.heap_rows.specs.Marks.{read_mark, set_mark, frozen_mark}
use Rattle.heap_rows.specs.Doing as es3
use Rattle.heap_rows.specs.Doing.{guests}
use Rattle.row_simulation.proofs.Keys.{apart, apart_too, hidden_read, hidden_set, read_frozen, set_frozen, set_mark_hidden}
use Rattle.row_simulation.proofs.Relation.{EsValue, Val, PairsAre, Once, PropsAre, IsRecord, Is, IsNamed, ObjectsAre, facet_class}
use Rattle.row_simulation.specs.Among.{IsHandleAmong}
use Rattle.row_simulation.proofs.Row.{by_value, handle_is, EndLaw}
use Rattle.row_simulation.proofs.SetMarks.{all_stay}
use Rattle.row_simulation.proofs.Props.{props_frozen}
use Rattle.row_simulation.proofs.Changes.{IsNew}
use Rattle.row_simulation.specs.RowLaw.{IsFirst}
use Rattle.row_simulation.proofs.Ends.{quiet, shown_values, makes_law}

-- the keys of a copy are those of the record, each once

copied_find : (k : List ℕ) (ps : List Property) → is_hidden k ≡ false → (p : Property) → find k (es3.copied (guests ps)) ≡ Some p → (q : Property) × (find k ps ≡ Some q) × (p.attrs ≡ plain_attrs)
copied_find k [] guest p e = absurd (none-some p e)
copied_find k (q ∷ ps) guest p e =
    let cases = elim (is_hidden q.key) as (λ b. is_hidden q.key ≡ b → find k (es3.copied (cond b (guests ps) ((q.key, q.value) ∷ guests ps))) ≡ Some p → (x : Property) × (cond (same_units k q.key) (Some q) (find k ps) ≡ Some x) × (p.attrs ≡ plain_attrs)) [
      | true ↦ λ hidden e. rw (apart k q.key guest hidden) (copied_find k ps guest p e)
      | false ↦ λ seen e. elim (same_units k q.key) as (λ b. cond b (Some (record { key = q.key; value = q.value; attrs = plain_attrs })) (find k (es3.copied (guests ps))) ≡ Some p → (x : Property) × (cond b (Some q) (find k ps) ≡ Some x) × (p.attrs ≡ plain_attrs)) [
        | true ↦ λ e. let same : record { key = q.key; value = q.value; attrs = plain_attrs } ≡ p = cc in (q, refl, ap (λ x. x.attrs) (sym same))
        | false ↦ λ e. copied_find k ps guest p e
      ] e
    ] in cases refl e

copied_hidden : (k : List ℕ) (ps : List Property) → is_hidden k ≡ true → find k (es3.copied (guests ps)) ≡ None
copied_hidden k [] hidden = refl
copied_hidden k (q ∷ ps) hidden =
    let cases = elim (is_hidden q.key) as (λ b. is_hidden q.key ≡ b → find k (es3.copied (cond b (guests ps) ((q.key, q.value) ∷ guests ps))) ≡ None) [
      | true ↦ λ x. copied_hidden k ps hidden
      | false ↦ λ seen. rw (apart_too q.key k seen hidden) (copied_hidden k ps hidden)
    ] in cases refl

none_copied : (k : List ℕ) (ps : List Property) → is_hidden k ≡ false → find k ps ≡ None → find k (es3.copied (guests ps)) ≡ None
none_copied k ps guest e =
    let cases = elim (find k (es3.copied (guests ps))) as (λ o. find k (es3.copied (guests ps)) ≡ o → o ≡ None) [
      | None ↦ λ x. refl
      | Some p ↦ λ x. let y = copied_find k ps guest p x in absurd (none-some y.0 (sym e ∙ y.1))
    ] in cases refl

copied_guests : (ps : List Property) → guests (es3.copied (guests ps)) ≡ guests ps
copied_guests [] = refl
copied_guests (q ∷ ps) =
    let cases = elim (is_hidden q.key) as (λ b. is_hidden q.key ≡ b → guests (es3.copied (cond b (guests ps) ((q.key, q.value) ∷ guests ps))) ≡ cond b (guests ps) ((q.key, q.value) ∷ guests ps)) [
      | true ↦ λ x. copied_guests ps
      | false ↦ λ seen. rw seen (ap (λ l. (q.key, q.value) ∷ l) (copied_guests ps))
    ] in cases refl

copied_once : (ps : List Property) → Once ps → Once (es3.copied (guests ps))
copied_once [] o = tt
copied_once (q ∷ ps) o =
    let cases = elim (is_hidden q.key) as (λ b. is_hidden q.key ≡ b → Once (es3.copied (cond b (guests ps) ((q.key, q.value) ∷ guests ps)))) [
      | true ↦ λ x. copied_once ps o.1
      | false ↦ λ seen. (none_copied q.key ps seen o.0, copied_once ps o.1)
    ] in cases refl

copy_props : {h : Objects} {frozen : Bool} {ps : Pairs} {props : List Property} → PropsAre h frozen ps props → PropsAre h false ps (es3.copied (guests props))
copy_props {h = h} {ps = ps} {props = props} r = record {
  pairs = subst (λ l. PairsAre h ps l) (sym (copied_guests props)) r.pairs;
  closed = ap is_some (copied_hidden frozen_mark props refl);
  reads = λ k p e. absurd (none-some p (sym (copied_hidden (read_mark k) props (hidden_read k)) ∙ e));
  sets = λ k p e. absurd (none-some p (sym (copied_hidden (set_mark k) props (hidden_set k)) ∙ e));
  plain = λ k p guest e. (copied_find k props guest p e).2;
  marks = λ k p hidden e. absurd (none-some p (sym (copied_hidden k props hidden) ∙ e));
  once = copied_once props r.once;
  no_text = none_copied (codes "toString") props refl r.no_text;
  no_value = none_copied (codes "valueOf") props refl r.no_value;
}

pub empty_props : (h : Objects) → PropsAre h false [] []
empty_props h = record { pairs = tt; closed = refl; reads = λ k p e. absurd (none-some p e); sets = λ k p e. absurd (none-some p e); plain = λ k p g e. absurd (none-some p e); marks = λ k p g e. absurd (none-some p e); once = tt; no_text = refl; no_value = refl }

-- the public properties of what may be a record
copy_of : {first : Objects} {places : Native → ℕ} {m : ℕ} {h : Objects} (w : World) → ObjectsAre first places w.objects h m → (v : Value) (e : EsValue) → Val h v e → PropsAre h false (direct.pairs_of w v) (es3.copied (es3.pairs_of h e))
copy_of {h = h} w o =
    by_value h (λ v e. PropsAre h false (direct.pairs_of w v) (es3.copied (es3.pairs_of h e))) (empty_props h) (empty_props h) (λ a. empty_props h) (λ n. empty_props h) (λ us. empty_props h)
    (λ n i p. let s = o.each n i p in subst (λ q. PropsAre h false (direct.object_pairs w n) (es3.copied (es3.pairs_in (heap.class_of q) h i))) (sym s.there) (by_name n i s.stored s.there s.is))
  where
    of_record : (i : ℕ) (frozen : Bool) (ps : Pairs) (c : heap.Object) → object_at h i ≡ Some c → IsRecord h frozen ps c → PropsAre h false ps (es3.copied (es3.pairs_in c.class h i))
    of_record i frozen ps c there is = rw (is.class, there) (copy_props is.props)

    by_object : (i : ℕ) (q : Object) (c : heap.Object) → object_at h i ≡ Some c → Is h q c → PropsAre h false (direct.pairs_in (Some q)) (es3.copied (es3.pairs_in c.class h i))
    by_object i (a_record frozen ps) c there is = of_record i frozen ps c there is
    by_object i (an_array frozen vs) c there is = rw is.class (empty_props h)
    by_object i (a_closure f chain) c there is = rw is.class (empty_props h)
    by_object i (an_error maker message) c there is = rw is.class (empty_props h)

    by_name : (n : Name) (i : ℕ) (c : heap.Object) → object_at h i ≡ Some c → IsNamed w.objects h n c → PropsAre h false (direct.object_pairs w n) (es3.copied (es3.pairs_in c.class h i))
    by_name (made_name a b) i c there is = rw is.known (by_object i is.object c there is.is)
    by_name (cell_name a zero) i c there is = of_record i true _ c there is
    by_name (cell_name a (suc b)) i c there is = rw is.1.is.class (empty_props h)
    by_name (own_name a b) i c there is = rw is.1.is.class (empty_props h)
    by_name (built_name f) i c there is = rw is.1.is.class (empty_props h)
    by_name (tools_name t) i c there is = of_record i true _ c there is
    by_name (facet_name root k) i c there is = rw (facet_class root k c is) (empty_props h)
    by_name (forward_name a b d e) i c there is = absurd is

-- a copy has no mark but that of a frozen one: all attributes are plain, and those of a mark are hidden ones
plain_apart : plain_attrs ≡ hidden_attrs → ⊥
plain_apart e = let b : false ≡ true = ap (λ a. a.dont_enum) e in cc

all_plain : (l : List (List ℕ × EsValue)) (k : List ℕ) (p : Property) → find k (es3.copied l) ≡ Some p → p.attrs ≡ plain_attrs
all_plain [] k p e = absurd (none-some p e)
all_plain ((j, x) ∷ l) k p e = elim (same_units k j) as (λ b. cond b (Some (record { key = j; value = x; attrs = plain_attrs })) (find k (es3.copied l)) ≡ Some p → p.attrs ≡ plain_attrs) [
  | true ↦ λ e. let same : record { key = j; value = x; attrs = plain_attrs } ≡ p = cc in ap (λ q. q.attrs) (sym same)
  | false ↦ λ e. all_plain l k p e
] e

unmarked : {h : Objects} {ps : Pairs} (l : List (List ℕ × EsValue)) → PropsAre h false ps (es3.copied l) → (k : List ℕ) → is_hidden k ≡ true → find k (es3.copied l) ≡ None
unmarked l c k hidden =
    let cases = elim (find k (es3.copied l)) as (λ o. find k (es3.copied l) ≡ o → o ≡ None) [
      | None ↦ λ e. refl
      | Some p ↦ λ e. absurd (plain_apart (sym (all_plain l k p e) ∙ c.marks k p hidden e))
    ] in cases refl

pub proto_zero : (p : ℕ) → (let q : Option ℕ = Some 0 in q) ≡ Some p → 0 ≡ p
proto_zero p e = cc

record_new : {first : Objects} {h : Objects} → IsFirst first → (frozen : Bool) (ps : Pairs) (l : List (List ℕ × EsValue)) → PropsAre h false ps (es3.copied l) → IsNew first (es3.frozen_if frozen (es3.record_object (es3.copied l)))
record_new f true ps l c = record {
  bare = refl;
  above = λ p e. let q = proto_zero p e in omega (arith, q, f.some);
  reads = λ k. find-defined-other (read_mark k) frozen_mark (es.Bool true) hidden_attrs (es3.copied l) (read_frozen k) ∙ unmarked l c (read_mark k) (hidden_read k);
  sets = λ k. find-defined-other (set_mark k) frozen_mark (es.Bool true) hidden_attrs (es3.copied l) (set_frozen k) ∙ unmarked l c (set_mark k) (hidden_set k);
}
record_new f false ps l c = record {
  bare = refl;
  above = λ p e. let q = proto_zero p e in omega (arith, q, f.some);
  reads = λ k. unmarked l c (read_mark k) (hidden_read k);
  sets = λ k. unmarked l c (set_mark k) (hidden_set k);
}

record_is : (h : Objects) (frozen : Bool) (ps : Pairs) (l : List (List ℕ × EsValue)) → PropsAre h false ps (es3.copied l) → Is h (a_record frozen ps) (es3.frozen_if frozen (es3.record_object (es3.copied l)))
record_is h true ps l c = record { class = refl; no_call = refl; proto = refl; props = subst (λ q. PropsAre h true ps (defined frozen_mark (es.Bool true) hidden_attrs q)) (all_stay (es3.copied l) (λ k set. unmarked l c k (set_mark_hidden k set))) (props_frozen c) }
record_is h false ps l c = record { class = refl; no_call = refl; proto = refl; props = c }

pub copies_law : {first : Objects} {places : Native → ℕ} (by : ℕ) → by < 64 → IsFirst first → (frozen : Bool) (x : Handle) → IsHandleAmong x → EndLaw first places by (r.copies_record frozen x)
copies_law {places = places} by below f frozen x a s es w h z y m few p o is =
    let v = direct.value_of s.values x in
    let e = es3.value_in places es x in
    let c = copy_of w o v e (handle_is o x a s.values es p) in
    makes_law by below direct.gives value_reply (λ g v e q. q) (a_record frozen (direct.pairs_of w v)) _ w h _ y m few (record_new f frozen (direct.pairs_of w v) (es3.pairs_of h e) c) (record_is h frozen (direct.pairs_of w v) (es3.pairs_of h e) c) o (quiet z _ y is (shown_values by (direct.way_into s x) (map (λ p. p.1) (direct.pairs_of w v))))
