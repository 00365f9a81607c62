-- Changes of records: a mark is granted, a key is written or goes, a record is frozen.
use Rattle.std.proofs.Common.{◌≡◌, ℕ, zero, suc, Bool, true, false, List, [], ◌∷◌, length, Option, Some, None, cond, refl, sym, ap, ◌∙◌, subst, arith}
use Rattle.std.specs.Prelude.{slice_get, slice_set, codes, is_some, not, nat_eq, ◌||◌, ◌&&◌}
use Rattle.std.proofs.lemmas.Option.{none-some}
use Rattle.std.proofs.lemmas.Bool.Decides.{nat_tests}
use Rattle.caja_units.specs.Units.{same_units, is_hidden}
use Rattle.es3_objects.specs.declared.value.Value.TheVariants as es
use Rattle.es3_objects.specs.declared.value.Class.TheVariants as class
use Rattle.es3_objects.specs.declared.value.Proto.TheVariants as proto
use Rattle.es3_objects.specs.declared.value.Tag.TheVariants as tag
use Rattle.es3_heap.specs.Objects as heap
use Rattle.es3_heap.specs.Objects.{Property, Objects, object_at, hidden_attrs, plain_attrs}
use Rattle.es3_heap.specs.Properties.{find, own, or_else, may_write, lookup_from, can_put, written, defined, without, put, define, delete}
use Rattle.rows.specs.Rows as r
use Rattle.rows.specs.Rows.{Handle, Native}
use Rattle.rows.specs.Public.{is_bad}
use Rattle.cajita_meaning.specs.World.{Name, made_name, cell_name, own_name, built_name, tools_name, facet_name, forward_name, Value, object, Pairs, Object, a_record, an_array, a_closure, an_error, World, value_at, with_value, with_list, with_made}
use Rattle.cajita_meaning.specs.Doing as direct
use Rattle.heap_rows.specs.Marks.{read_mark, set_mark, frozen_mark, grant_read, grant_set, drop_marks, freeze, is_frozen, without_set_marks}
use Rattle.heap_rows.specs.Doing as es3
use Rattle.heap_rows.specs.Doing.{guests}
use Rattle.row_simulation.proofs.Keys.{apart}
use Rattle.row_simulation.specs.Among.{IsHandleAmong}
use Rattle.row_simulation.proofs.Names.{name_at, made_known, cell_known, tools_known}
use Rattle.row_simulation.proofs.Relation.{EsValue, tag_of_name, Named, Val, PairsAre, PropsAre, IsRecord, Is, IsNamed, ObjectsAre, Keeps, NoNewNode, val_keep, facet_class}
use Rattle.row_simulation.proofs.Row.{by_value, keeps_refl, no_node_refl, objects_step, handle_is, EndLaw}
use Rattle.row_simulation.proofs.Props.{swapped, by_key, props_read, props_written, props_set, props_frozen, props_dropped, has_new}
use Rattle.row_simulation.proofs.Changes.{with_properties, revised, revised_there, revised_twice, revised_keeps, revised_no_node, made_there, made_length, made_still, objects_revised}
use Rattle.row_simulation.specs.RowLaw.{IsFirst}
use Rattle.row_simulation.proofs.Ends.{quiet, shown_got}

-- a world with the same object in its place

set_same : {X : Type 0} (xs : List X) (i : ℕ) (x : X) → slice_get xs i ≡ Some x → slice_set xs i x ≡ xs
set_same [] i x e = refl
set_same (z ∷ zs) zero x e = let same : z ≡ x = cc in ap (λ q. q ∷ zs) (sym same)
set_same (z ∷ zs) (suc i) x e = ap (λ l. z ∷ l) (set_same zs i x e)

list_same : {A : Type 0} (m : ℕ) (lists : ℕ → List A) → with_list m (lists m) lists ≡ lists
list_same m lists = Rattle.std.proofs.Math.Path.fun_ext (λ n.
    let cases = elim (nat_eq n m) as (λ b. nat_eq n m ≡ b → cond b (lists m) (lists n) ≡ lists n) [
      | true ↦ λ e. let same : n ≡ m = grind (arith, nat_tests) in ap lists (sym same)
      | false ↦ λ e. refl
    ] in cases refl)

pub same_objects : (w : World) (a b : ℕ) (o : Object) → slice_get (w.objects a) b ≡ Some o → (with_made a b o w).objects ≡ w.objects
same_objects w a b o known = ap (λ l. with_list a l w.objects) (set_same (w.objects a) b o known) ∙ list_same a w.objects

-- what a change leaves
pub record Changed (first : Objects) (places : Native → ℕ) (m : ℕ) (h : Objects) (objects : ℕ → List Object) (g : Objects) : Type 0 where
  pub left : ObjectsAre first places objects g m
  pub keeps : Keeps h g
  pub no_node : NoNewNode h g

pub unchanged : {first : Objects} {places : Native → ℕ} {m : ℕ} {h : Objects} {objects : ℕ → List Object} → ObjectsAre first places objects h m → Changed first places m h objects h
unchanged o = record { left = o; keeps = keeps_refl; no_node = no_node_refl }

pub same_made : {first : Objects} {places : Native → ℕ} {m : ℕ} {h : Objects} (w : World) (a b : ℕ) (o : Object) → slice_get (w.objects a) b ≡ Some o → ObjectsAre first places w.objects h m → Changed first places m h (with_made a b o w).objects h
same_made {first = first} {places = places} {m = m} {h = h} w a b o known old = subst (λ l. Changed first places m h l h) (sym (same_objects w a b o known)) (unchanged old)

record_no_function : {h : Objects} {frozen : Bool} {ps : Pairs} {c : heap.Object} → IsRecord h frozen ps c → c.class ≡ class.Function → ⊥
record_no_function is e = let clash = sym is.class ∙ e in cc

-- a record that has other properties
pub revised_record : {first : Objects} {places : Native → ℕ} {m : ℕ} {h : Objects} (w : World) → ObjectsAre first places w.objects h m → (a b i : ℕ) (c : heap.Object) (frozen frozen' : Bool) (ps qs : Pairs) (props : List Property) → heap.tag_of (object_at h i) ≡ tag.Made a b → object_at h i ≡ Some c → slice_get (w.objects a) b ≡ Some (a_record frozen ps) → IsRecord h frozen ps c → PropsAre h frozen' qs props → Changed first places m h (with_made a b (a_record frozen' qs) w).objects (revised h i c props)
revised_record {h = h} w old a b i c frozen frozen' ps qs props name there known is new = record {
  left = objects_revised w.objects (with_made a b (a_record frozen' qs) w).objects old (made_name a b) i c props name (made_known a b) there (record_no_function is)
      (record { object = a_record frozen' qs; known = made_there w a b (a_record frozen ps) (a_record frozen' qs) known; is = record { class = is.class; no_call = is.no_call; proto = is.proto; props = new } })
      (λ k o ne x. made_still w h a b (a_record frozen' qs) k o ne x) (λ k. made_length w a b k (a_record frozen' qs)) (λ k p e. is.class) (λ k p e. is.class);
  keeps = revised_keeps h (made_name a b) i c props name there (record_no_function is);
  no_node = revised_no_node h i c props there;
}

-- a record that is the same to modules
pub revised_same : {first : Objects} {places : Native → ℕ} {m : ℕ} {h : Objects} (objects : ℕ → List Object) → ObjectsAre first places objects h m → (n : Name) (i : ℕ) (c : heap.Object) (frozen : Bool) (ps : Pairs) (props : List Property) → Named h n i → name_at (tag_of_name n) ≡ Some n → object_at h i ≡ Some c → IsRecord h frozen ps c → ((x : heap.Object) → IsRecord h frozen ps x → IsNamed objects h n x) → PropsAre h frozen ps props → Changed first places m h objects (revised h i c props)
revised_same {h = h} objects old n i c frozen ps props name known there is back new = record {
  left = objects_revised objects objects old n i c props name known there (record_no_function is) (back (with_properties c props) (record { class = is.class; no_call = is.no_call; proto = is.proto; props = new })) (λ k o ne x. x) (λ k. refl) (λ k p e. is.class) (λ k p e. is.class);
  keeps = revised_keeps h n i c props name there (record_no_function is);
  no_node = revised_no_node h i c props there;
}

-- properties that are defined and deleted of an object that is there

pub define_at : (h : Objects) (i : ℕ) (c : heap.Object) (ps : List Property) (k : List ℕ) (v : EsValue) (a : Rattle.es3_objects.specs.declared.value.Attrs.Attrs) → object_at h i ≡ Some c → define (revised h i c ps) i k v a ≡ revised h i c (defined k v a ps)
define_at h i c ps k v a there = rw (revised_there h i c ps there) (revised_twice h i c ps (defined k v a ps))

delete_at : (h : Objects) (i : ℕ) (c : heap.Object) (ps : List Property) (k : List ℕ) → object_at h i ≡ Some c → delete (revised h i c ps) i k ≡ revised h i c (without k ps)
delete_at h i c ps k there = rw (revised_there h i c ps there) (revised_twice h i c ps (without k ps))

pub define_first : (h : Objects) (i : ℕ) (c : heap.Object) (k : List ℕ) (v : EsValue) (a : Rattle.es3_objects.specs.declared.value.Attrs.Attrs) → object_at h i ≡ Some c → define h i k v a ≡ revised h i c (defined k v a c.props)
define_first h i c k v a there = rw there refl

delete_first : (h : Objects) (i : ℕ) (c : heap.Object) (k : List ℕ) → object_at h i ≡ Some c → delete h i k ≡ revised h i c (without k c.props)
delete_first h i c k there = rw there refl

-- a key that a guest may write is written

above_free : {first : Objects} {places : Native → ℕ} {m : ℕ} {objects : ℕ → List Object} {h : Objects} → IsFirst first → ObjectsAre first places objects h m → (n : ℕ) (k : List ℕ) → may_write (lookup_from n h (Some 0) k) ≡ true
above_free f o zero k = refl
above_free {first = first} {h = h} f o (suc n) k =
    rw (o.opened 0 (omega (arith, f.some)), f.above proto.Object) (or_none (own first 0 k) (f.free k))
  where
    or_none : (q : Option Property) → may_write q ≡ true → may_write (or_else q None) ≡ true
    or_none None e = refl
    or_none (Some p) e = e

may_put : {first : Objects} {places : Native → ℕ} {m : ℕ} {objects : ℕ → List Object} {h : Objects} → IsFirst first → ObjectsAre first places objects h m → (i : ℕ) (c : heap.Object) (k : List ℕ) → object_at h i ≡ Some c → c.proto ≡ Some 0 → ((p : Property) → find k c.props ≡ Some p → p.attrs ≡ plain_attrs) → can_put h i k ≡ true
may_put {first = first} {h = h} f o i c k there up plain =
    from_there (length h.list)
  where
    from_there : (n : ℕ) → may_write (lookup_from n h (Some i) k) ≡ true
    from_there zero = refl
    from_there (suc n) =
        let cases = elim (find k c.props) as (λ q. find k c.props ≡ q → may_write (or_else q (lookup_from n h (Some 0) k)) ≡ true) [
          | None ↦ λ e. above_free f o n k
          | Some p ↦ λ e. ap (λ a. not a.read_only) (plain p e)
        ] in rw (there, up) (cases refl)

pub put_at : {first : Objects} {places : Native → ℕ} {m : ℕ} {objects : ℕ → List Object} {h : Objects} → IsFirst first → ObjectsAre first places objects h m → (i : ℕ) (c : heap.Object) (k : List ℕ) (v : EsValue) → object_at h i ≡ Some c → c.class ≡ class.Object → c.proto ≡ Some 0 → ((p : Property) → find k c.props ≡ Some p → p.attrs ≡ plain_attrs) → put h i k v ≡ revised h i c (written k v c.props)
put_at f o i c k v there class up plain = rw (may_put f o i c k there up plain, there, class) refl

-- whether keys are bad

not_bad : (k : List ℕ) → is_bad k ≡ false → (is_hidden k ≡ false) × (same_units k (codes "toString") ≡ false) × (same_units k (codes "valueOf") ≡ false)
not_bad k e =
    let cases = elim (is_hidden k) as (λ a. (a || same_units k (codes "toString") || same_units k (codes "valueOf")) ≡ false → (a ≡ false) × (same_units k (codes "toString") ≡ false) × (same_units k (codes "valueOf") ≡ false)) [
      | true ↦ λ x. cc
      | false ↦ λ x. elim (same_units k (codes "toString")) as (λ b. (b || same_units k (codes "valueOf")) ≡ false → (false ≡ false) × (b ≡ false) × (same_units k (codes "valueOf") ≡ false)) [
        | true ↦ λ x. cc
        | false ↦ λ x. (refl, refl, x)
      ] x
    ] in cases e

-- a record's key gets a value
write_record : {first : Objects} {places : Native → ℕ} {m : ℕ} {h : Objects} (w : World) → IsFirst first → ObjectsAre first places w.objects h m → (a b i : ℕ) (c : heap.Object) (frozen : Bool) (ps : Pairs) (k : List ℕ) (v : Value) (e : EsValue) → Val h v e → heap.tag_of (object_at h i) ≡ tag.Made a b → object_at h i ≡ Some c → slice_get (w.objects a) b ≡ Some (a_record frozen ps) → IsRecord h frozen ps c → Changed first places m h (with_made a b (direct.with_key k v (a_record frozen ps)) w).objects (cond (is_frozen h i || is_bad k) h (grant_set (put h i k e) i k))
write_record {first = first} {places = places} {m = m} {h = h} w f old a b i c true ps k v e is name there known rec =
    rw (there, rec.props.closed) (same_made w a b (a_record true ps) known old)
write_record {first = first} {places = places} {m = m} {h = h} w f old a b i c false ps k v e is name there known rec =
    let closed : is_frozen h i ≡ false = rw there rec.props.closed in
    let cases = elim (is_bad k) as (λ bad. is_bad k ≡ bad → Changed first places m h (with_made a b (cond bad (a_record false ps) (a_record false (with_value k v ps))) w).objects (cond bad h (grant_set (put h i k e) i k))) [
      | true ↦ λ bad. same_made w a b (a_record false ps) known old
      | false ↦ λ good.
          let ok = not_bad k good in
          let stored = put_at f old i c k e there rec.class rec.proto (λ p x. rec.props.plain k p ok.0 x) in
          subst (λ g. Changed first places m h (with_made a b (a_record false (with_value k v ps)) w).objects g)
          (sym (ap (λ g. grant_set g i k) stored ∙ define_at h i c (written k e c.props) (set_mark k) (es.Bool true) hidden_attrs there))
          (revised_record w old a b i c false false ps (with_value k v ps) _ name there known rec
          (props_set k (has_new k v ps) (props_written k v e ok.0 (swapped k (codes "toString") ok.1) (swapped k (codes "valueOf") ok.2) is rec.props)))
    ] in
    rw closed (cases refl)

-- and goes
drop_record : {first : Objects} {places : Native → ℕ} {m : ℕ} {h : Objects} (w : World) → ObjectsAre first places w.objects h m → (a b i : ℕ) (c : heap.Object) (frozen : Bool) (ps : Pairs) (k : List ℕ) → heap.tag_of (object_at h i) ≡ tag.Made a b → object_at h i ≡ Some c → slice_get (w.objects a) b ≡ Some (a_record frozen ps) → IsRecord h frozen ps c → Changed first places m h (with_made a b (direct.without_key k (a_record frozen ps)) w).objects (cond (is_frozen h i || is_bad k) h (drop_marks (delete h i k) i k))
drop_record {first = first} {places = places} {m = m} {h = h} w old a b i c true ps k name there known rec =
    rw (there, rec.props.closed) (same_made w a b (a_record true ps) known old)
drop_record {first = first} {places = places} {m = m} {h = h} w old a b i c false ps k name there known rec =
    let closed : is_frozen h i ≡ false = rw there rec.props.closed in
    let cases = elim (is_bad k) as (λ bad. is_bad k ≡ bad → Changed first places m h (with_made a b (cond bad (a_record false ps) (a_record false (direct.dropped k ps))) w).objects (cond bad h (drop_marks (delete h i k) i k))) [
      | true ↦ λ bad. same_made w a b (a_record false ps) known old
      | false ↦ λ good.
          let ok = not_bad k good in
          subst (λ g. Changed first places m h (with_made a b (a_record false (direct.dropped k ps)) w).objects g)
          (sym (ap (λ g. drop_marks g i k) (delete_first h i c k there) ∙ ap (λ g. delete g i (set_mark k)) (delete_at h i c (without k c.props) (read_mark k) there) ∙ delete_at h i c (without (read_mark k) (without k c.props)) (set_mark k) there))
          (revised_record w old a b i c false false ps (direct.dropped k ps) _ name there known rec (props_dropped k ok.0 rec.props))
    ] in
    rw closed (cases refl)

-- a record is frozen
pub freeze_record : {first : Objects} {places : Native → ℕ} {m : ℕ} {h : Objects} (w : World) → ObjectsAre first places w.objects h m → (a b i : ℕ) (c : heap.Object) (frozen : Bool) (ps : Pairs) → heap.tag_of (object_at h i) ≡ tag.Made a b → object_at h i ≡ Some c → slice_get (w.objects a) b ≡ Some (a_record frozen ps) → IsRecord h frozen ps c → Changed first places m h (with_made a b (a_record true ps) w).objects (freeze h i)
freeze_record {first = first} {places = places} {m = m} {h = h} w old a b i c frozen ps name there known rec =
    subst (λ g. Changed first places m h (with_made a b (a_record true ps) w).objects g)
    (sym (rw there (define_at h i c (without_set_marks c.props) frozen_mark (es.Bool true) hidden_attrs there)))
    (revised_record w old a b i c frozen true ps ps _ name there known rec (props_frozen rec.props))

-- a mark for reading is granted
guests_has : (h : Objects) (k : List ℕ) (ps : Pairs) (props : List Property) (p : Property) → is_hidden k ≡ false → PairsAre h ps (guests props) → find k props ≡ Some p → is_some (value_at k ps) ≡ true
guests_has h k ps [] p guest pairs e = absurd (none-some p e)
guests_has h k ps (q ∷ props) p guest pairs e =
    let cases = elim (is_hidden q.key) as (λ b. is_hidden q.key ≡ b → PairsAre h ps (cond b (guests props) ((q.key, q.value) ∷ guests props)) → is_some (value_at k ps) ≡ true) [
      | true ↦ λ hidden pairs. guests_has h k ps props p guest pairs (subst (λ b. cond b (Some q) (find k props) ≡ Some p) (apart k q.key guest hidden) e)
      | false ↦ λ seen pairs. shown_one ps pairs (λ rest pairs other. guests_has h k rest props p guest pairs (subst (λ b. cond b (Some q) (find k props) ≡ Some p) other e))
    ] in cases refl pairs
  where
    shown_one : (ps : Pairs) → PairsAre h ps ((q.key, q.value) ∷ guests props) → ((rest : Pairs) → PairsAre h rest (guests props) → same_units k q.key ≡ false → is_some (value_at k rest) ≡ true) → is_some (value_at k ps) ≡ true
    shown_one [] pairs go = absurd pairs
    shown_one ((j, u) ∷ rest) pairs go = subst (λ i. is_some (cond (same_units k i) (Some u) (value_at k rest)) ≡ true) (sym pairs.0) (by_key k q.key (λ b. is_some (cond b (Some u) (value_at k rest)) ≡ true) (λ same. refl) (λ other. go rest pairs.2 other))

read_record : {first : Objects} {places : Native → ℕ} {m : ℕ} {h : Objects} (w : World) → ObjectsAre first places w.objects h m → (n : Name) (i : ℕ) (c : heap.Object) (frozen : Bool) (ps : Pairs) (k : List ℕ) → Named h n i → name_at (tag_of_name n) ≡ Some n → object_at h i ≡ Some c → IsRecord h frozen ps c → ((x : heap.Object) → IsRecord h frozen ps x → IsNamed w.objects h n x) → Changed first places m h w.objects (cond (is_some (own h i k) && not (is_hidden k)) (grant_read h i k) h)
read_record {first = first} {places = places} {m = m} {h = h} w old n i c frozen ps k name known there rec back =
    let cases = elim (own h i k) as (λ q. own h i k ≡ q → Changed first places m h w.objects (cond (is_some q && not (is_hidden k)) (grant_read h i k) h)) [
      | None ↦ λ e. unchanged old
      | Some p ↦ λ e. elim (is_hidden k) as (λ b. is_hidden k ≡ b → Changed first places m h w.objects (cond (not b) (grant_read h i k) h)) [
        | true ↦ λ hidden. unchanged old
        | false ↦ λ guest.
            let mine : find k c.props ≡ Some p = ap (λ o. find k (heap.props_of o)) (sym there) ∙ e in
            subst (λ g. Changed first places m h w.objects g) (sym (define_first h i c (read_mark k) (es.Bool true) hidden_attrs there))
            (revised_same w.objects old n i c frozen ps _ name known there rec back (props_read k (guests_has h k ps c.props p guest rec.props.pairs mine) rec.props))
      ] refl
    ] in cases refl

-- a change of records, on both sides: of one that a module made, and of one that is always frozen
abbrev pub OnMade : Objects → (Native → ℕ) → ℕ → Objects → World → (Object → Object) → (ℕ → Objects) → Type 0
OnMade first places m h w change g = (a b i : ℕ) (c : heap.Object) (frozen : Bool) (ps : Pairs) → heap.tag_of (object_at h i) ≡ tag.Made a b → object_at h i ≡ Some c → slice_get (w.objects a) b ≡ Some (a_record frozen ps) → IsRecord h frozen ps c → Changed first places m h (with_made a b (change (a_record frozen ps)) w).objects (g i)

abbrev pub OnKept : Objects → (Native → ℕ) → ℕ → Objects → World → (ℕ → Objects) → Type 0
OnKept first places m h w g = (n : Name) (i : ℕ) (c : heap.Object) (ps : Pairs) → Named h n i → name_at (tag_of_name n) ≡ Some n → object_at h i ≡ Some c → IsRecord h true ps c → ((x : heap.Object) → IsRecord h true ps x → IsNamed w.objects h n x) → Changed first places m h w.objects (g i)

pub on_record : {first : Objects} {places : Native → ℕ} {m : ℕ} {h : Objects} (w : World) → ObjectsAre first places w.objects h m → (change : Object → Object) (g : ℕ → Objects) → OnMade first places m h w change g → OnKept first places m h w g
    → ((frozen : Bool) (vs : List Value) → change (an_array frozen vs) ≡ an_array frozen vs) → ((f : Rattle.cajita_tree.specs.Tree.Tree Rattle.cajita_tree.specs.Tree.func) (chain : List ℕ) → change (a_closure f chain) ≡ a_closure f chain) → ((maker : r.Maker) (message : List ℕ) → change (an_error maker message) ≡ an_error maker message)
    → (v : Value) (e : EsValue) → Val h v e → Changed first places m h (direct.changed change v w).objects (es3.on_object e h (λ i. es3.of_record (heap.class_of (object_at h i)) (g i) h))
on_record {first = first} {places = places} {m = m} {h = h} w old change g law kept array closure error =
    by_value h (λ v e. Changed first places m h (direct.changed change v w).objects (es3.on_object e h (λ i. es3.of_record (heap.class_of (object_at h i)) (g i) h)))
    (unchanged old) (unchanged old) (λ a. unchanged old) (λ n. unchanged old) (λ us. unchanged old)
    (λ n i p. let s = old.each n i p in subst (λ q. Changed first places m h (direct.changed change (object n) w).objects (es3.of_record (heap.class_of q) (g i) h)) (sym s.there) (by_name n i p s.stored s.there s.is))
  where
    by_object : (a b i : ℕ) → heap.tag_of (object_at h i) ≡ tag.Made a b → (o : Object) → slice_get (w.objects a) b ≡ Some o → (c : heap.Object) → object_at h i ≡ Some c → Is h o c → Changed first places m h (with_made a b (change o) w).objects (es3.of_record c.class (g i) h)
    by_object a b i p (a_record frozen ps) known c there is = rw is.class (law a b i c frozen ps p there known is)
    by_object a b i p (an_array frozen vs) known c there is = rw (is.class, array frozen vs) (same_made w a b (an_array frozen vs) known old)
    by_object a b i p (a_closure f chain) known c there is = rw (is.class, closure f chain) (same_made w a b (a_closure f chain) known old)
    by_object a b i p (an_error maker message) known c there is = rw (is.class, error maker message) (same_made w a b (an_error maker message) known old)

    by_name : (n : Name) (i : ℕ) → Named h n i → (c : heap.Object) → object_at h i ≡ Some c → IsNamed w.objects h n c → Changed first places m h (direct.changed change (object n) w).objects (es3.of_record c.class (g i) h)
    by_name (made_name a b) i p c there is = rw is.known (by_object a b i p is.object is.known c there is.is)
    by_name (cell_name a zero) i p c there is = rw is.class (kept (cell_name a zero) i c _ p (cell_known a zero) there is (λ x r. r))
    by_name (cell_name a (suc b)) i p c there is = rw is.1.is.class (unchanged old)
    by_name (own_name a b) i p c there is = rw is.1.is.class (unchanged old)
    by_name (built_name f) i p c there is = rw is.1.is.class (unchanged old)
    by_name (tools_name t) i p c there is = rw is.class (kept (tools_name t) i c _ p (tools_known t) there is (λ x r. r))
    by_name (facet_name root k) i p c there is = rw (facet_class root k c is) (unchanged old)
    by_name (forward_name a b d e) i p c there is = absurd is

-- the ends

pub writes_law : {first : Objects} {places : Native → ℕ} (by : ℕ) → IsFirst first → (x : Handle) (k : List ℕ) (y : Handle) → IsHandleAmong x × IsHandleAmong y → EndLaw first places by (r.writes_key x k y)
writes_law {places = places} by f x k v a s es w h z y m few p o is =
    let u = direct.value_of s.values v in
    let e = es3.value_in places es v in
    let q = handle_is o v a.1 s.values es p in
    let c = on_record w o (direct.with_key k u) (λ i. cond (is_frozen h i || is_bad k) h (grant_set (put h i k e) i k)) (λ a b i c frozen ps name there known rec. write_record w f o a b i c frozen ps k u e q name there known rec) (λ n i c ps name known there rec back. rw (there, rec.props.closed) (unchanged o)) (λ frozen vs. refl) (λ g chain. refl) (λ maker message. refl) (direct.value_of s.values x) (es3.value_in places es x) (handle_is o x a.0 s.values es p) in
    record { done = record { reply = val_keep c.keeps u e q; objects = objects_step c.left; items = quiet z _ y is (shown_got by s v); keeps = c.keeps }; no_node = c.no_node }

pub drops_law : {first : Objects} {places : Native → ℕ} (by : ℕ) (x : Handle) (k : List ℕ) → IsHandleAmong x → EndLaw first places by (r.drops_key x k)
drops_law {places = places} by x k a s es w h z y m few p o is =
    let c = on_record w o (direct.without_key k) (λ i. cond (is_frozen h i || is_bad k) h (drop_marks (delete h i k) i k)) (λ a b i c frozen ps name there known rec. drop_record w o a b i c frozen ps k name there known rec) (λ n i c ps name known there rec back. rw (there, rec.props.closed) (unchanged o)) (λ frozen vs. refl) (λ g chain. refl) (λ maker message. refl) (direct.value_of s.values x) (es3.value_in places es x) (handle_is o x a s.values es p) in
    record { done = record { reply = refl; objects = objects_step c.left; items = is; keeps = c.keeps }; no_node = c.no_node }

-- nothing changes in the world where a mark is granted
same_changed : (w : World) (v : Value) → (direct.changed (λ o. o) v w).objects ≡ w.objects
same_changed w (object (made_name a b)) =
    let cases = elim (slice_get (w.objects a) b) as (λ q. slice_get (w.objects a) b ≡ q → (direct.changed_object (λ o. o) a b q w).objects ≡ w.objects) [
      | None ↦ λ e. refl
      | Some o ↦ λ e. same_objects w a b o e
    ] in cases refl
same_changed w v = refl

pub reads_law : {first : Objects} {places : Native → ℕ} (by : ℕ) (x : Handle) (k : List ℕ) (v : Handle) → IsHandleAmong x × IsHandleAmong v → EndLaw first places by (r.reads_key x k v)
reads_law {first = first} {places = places} by x k v a s es w h z y m few p o is =
    let q = handle_is o v a.1 s.values es p in
    let g = λ (i : ℕ). cond (is_some (own h i k) && not (is_hidden k)) (grant_read h i k) h in
    let c = on_record w o (λ o. o) g (λ a b i c frozen ps name there known rec. subst (λ l. Changed first places m h l (g i)) (sym (same_objects w a b (a_record frozen ps) known)) (read_record w o (made_name a b) i c frozen ps k name (made_known a b) there rec (λ x r. record { object = a_record frozen ps; known = known; is = r }))) (λ n i c ps name known there rec back. read_record w o n i c true ps k name known there rec back) (λ frozen vs. refl) (λ g chain. refl) (λ maker message. refl) (direct.value_of s.values x) (es3.value_in places es x) (handle_is o x a.0 s.values es p) in
    let d = subst (λ l. Changed first places m h l (es3.on_object (es3.value_in places es x) h (λ i. es3.of_record (heap.class_of (object_at h i)) (g i) h))) (same_changed w (direct.value_of s.values x)) c in
    record { done = record { reply = val_keep d.keeps (direct.value_of s.values v) (es3.value_in places es v) q; objects = objects_step d.left; items = quiet z _ y is (shown_got by s v); keeps = d.keeps }; no_node = d.no_node }
