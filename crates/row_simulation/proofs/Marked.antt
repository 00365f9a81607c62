-- What is known where a mark is found: it is the own one of a record, whose property of that key is its value.
use Rattle.std.proofs.Common.{◌≡◌, ℕ, zero, suc, ◌<◌, Bool, true, false, List, [], ◌∷◌, length, Some, None, cond, refl, sym, ap, ◌∙◌, subst}
use Rattle.std.specs.Prelude.{slice_get, is_some}
use Rattle.std.proofs.lemmas.Option.{none-some}
use Rattle.caja_units.specs.Units.{same_units, is_hidden}
use Rattle.es3_objects.specs.declared.value.Class.TheVariants as class
use Rattle.es3_heap.specs.Objects as heap
use Rattle.es3_heap.specs.Objects.{Property, Objects}
use Rattle.es3_heap.specs.Properties.{find, own, or_else, lookup_from, lookup}
use Rattle.rows.specs.Rows as r
use Rattle.cajita_meaning.specs.World.{Name, made_name, cell_name, own_name, built_name, tools_name, facet_name, forward_name, Value, Pairs, Object, a_record, an_array, a_closure, an_error, World, value_at}
use Rattle.cajita_meaning.specs.Doing as direct
use Rattle.heap_rows.specs.Marks.{read_mark}
use Rattle.heap_rows.specs.Doing.{guests}
use Rattle.row_simulation.proofs.Keys.{apart}
use Rattle.row_simulation.proofs.Relation.{Named, Val, PairsAre, IsRecord, Is, IsNamed, IsMarked, ObjectsAre, facet_class}

-- no prototype has a mark, so a mark is found on the object itself

abbrev pub Marks : Objects → List ℕ → Type 0
Marks h mark = (i : ℕ) (p : Property) → own h i mark ≡ Some p → IsMarked h i

none_above : {first : Objects} {places : r.Native → ℕ} {m : ℕ} {objects : ℕ → List Object} {h : Objects} → ObjectsAre first places objects h m → (mark : List ℕ) → Marks h mark → (n o : ℕ) (p : Property) → o < length first.list → lookup_from n h (Some o) mark ≡ Some p → ⊥
none_above a mark has zero o p lt e = none-some p e
none_above {first = first} {h = h} a mark has (suc n) o p lt e =
    let cases = elim (own h o mark) as (λ q. own h o mark ≡ q → or_else q (lookup_from n h (heap.proto_of (heap.object_at h o)) mark) ≡ Some p → ⊥) [
      | Some q ↦ λ is f. let x = has o q is in a.unnamed o x.name lt x.named
      | None ↦ λ is f. elim (heap.proto_of (heap.object_at h o)) as (λ q. heap.proto_of (heap.object_at h o) ≡ q → lookup_from n h q mark ≡ Some p → ⊥) [
        | None ↦ λ up g. none-some p g
        | Some j ↦ λ up g. none_above a mark has n j p (a.above o j up) g
      ] refl f
    ] in cases refl e

-- a mark that is found is the object's own one
pub mark_own : {first : Objects} {places : r.Native → ℕ} {m : ℕ} {objects : ℕ → List Object} {h : Objects} → ObjectsAre first places objects h m → (mark : List ℕ) → Marks h mark → (n i : ℕ) (p : Property) → lookup_from n h (Some i) mark ≡ Some p → own h i mark ≡ Some p
mark_own a mark has zero i p e = absurd (none-some p e)
mark_own {h = h} a mark has (suc n) i p e =
    let cases = elim (own h i mark) as (λ q. or_else q (lookup_from n h (heap.proto_of (heap.object_at h i)) mark) ≡ Some p → q ≡ Some p) [
      | Some q ↦ λ f. f
      | None ↦ λ f. elim (heap.proto_of (heap.object_at h i)) as (λ q. heap.proto_of (heap.object_at h i) ≡ q → lookup_from n h q mark ≡ Some p → None ≡ Some p) [
        | None ↦ λ up g. g
        | Some j ↦ λ up g. absurd (none_above a mark has n j p (a.above i j up) g)
      ] refl f
    ] in cases e

-- a key that a guest may name is looked for past the hidden ones

pub value_guests : (h : Objects) (k : List ℕ) (ps : Pairs) (props : List Property) → is_hidden k ≡ false → PairsAre h ps (guests props) → is_some (value_at k ps) ≡ true → (v : Value) × (p : Property) × (value_at k ps ≡ Some v) × (find k props ≡ Some p) × Val h v p.value
value_guests h k [] [] guest pairs has = cc
value_guests h k ps (p ∷ props) guest pairs has =
    let cases = elim (is_hidden p.key) as (λ b. is_hidden p.key ≡ b → PairsAre h ps (cond b (guests props) ((p.key, p.value) ∷ guests props)) → (v : Value) × (q : Property) × (value_at k ps ≡ Some v) × (find k (p ∷ props) ≡ Some q) × Val h v q.value) [
      | true ↦ λ hidden pairs. rw (apart k p.key guest hidden) (value_guests h k ps props guest pairs has)
      | false ↦ λ seen pairs. here ps pairs has (λ rest pairs has. value_guests h k rest props guest pairs has)
    ] in cases refl pairs
  where
    here : (ps : Pairs) → PairsAre h ps ((p.key, p.value) ∷ guests props) → is_some (value_at k ps) ≡ true → ((rest : Pairs) → PairsAre h rest (guests props) → is_some (value_at k rest) ≡ true → (v : Value) × (q : Property) × (value_at k rest ≡ Some v) × (find k props ≡ Some q) × Val h v q.value) → (v : Value) × (q : Property) × (value_at k ps ≡ Some v) × (find k (p ∷ props) ≡ Some q) × Val h v q.value
    here [] pairs has go = absurd pairs
    here ((j, u) ∷ rest) pairs has go =
        let cases = elim (same_units k p.key) as (λ b. is_some (cond b (Some u) (value_at k rest)) ≡ true → (v : Value) × (q : Property) × (cond b (Some u) (value_at k rest) ≡ Some v) × (cond b (Some p) (find k props) ≡ Some q) × Val h v q.value) [
          | true ↦ λ has. (u, p, refl, refl, pairs.1)
          | false ↦ λ has. go rest pairs.2 has
        ] in
        subst (λ i. (v : Value) × (q : Property) × (cond (same_units k i) (Some u) (value_at k rest) ≡ Some v) × (cond (same_units k p.key) (Some p) (find k props) ≡ Some q) × Val h v q.value) (sym pairs.0) (cases (subst (λ i. is_some (cond (same_units k i) (Some u) (value_at k rest)) ≡ true) pairs.0 has))
value_guests h k _ [] guest pairs has = absurd pairs

-- an own property is got
own_got : (n : ℕ) (h : Objects) (i : ℕ) (k : List ℕ) (p : Property) → own h i k ≡ Some p → lookup_from (suc n) h (Some i) k ≡ Some p
own_got n h i k p here = rw here refl

-- a record that a module made and that isn't frozen
pub record IsOpen (w : World) (n : Name) (ps : Pairs) : Type 0 where
  pub maker : ℕ
  pub number : ℕ
  pub name : n ≡ made_name maker number
  pub known : slice_get (w.objects maker) number ≡ Some (a_record false ps)

-- a named object of the class of records is a record of the world
pub record RecordAt (w : World) (h : Objects) (n : Name) (i : ℕ) : Type 0 where
  pub frozen : Bool
  pub pairs : Pairs
  pub seen : (j : ℕ) → direct.see_object w j n ≡ direct.see_record frozen j pairs
  pub stored : heap.Object
  pub there : heap.object_at h i ≡ Some stored
  pub is : IsRecord h frozen pairs stored
  -- what may change is one that a module made
  pub open_one : frozen ≡ false → IsOpen w n pairs

pub record_at : {first : Objects} {places : r.Native → ℕ} {m : ℕ} {h : Objects} (w : World) → ObjectsAre first places w.objects h m → (n : Name) (i : ℕ) → Named h n i → heap.class_of (heap.object_at h i) ≡ class.Object → RecordAt w h n i
record_at {h = h} w a n i named plain =
    let s = a.each n i named in
    of_name n s.stored s.there (ap heap.class_of (sym s.there) ∙ plain) s.is
  where
    of_made : (b c : ℕ) (stored : heap.Object) → heap.object_at h i ≡ Some stored → stored.class ≡ class.Object → (o : Object) → slice_get (w.objects b) c ≡ Some o → Is h o stored → RecordAt w h (made_name b c) i
    of_made b c stored there plain (a_record frozen ps) known is = record { frozen = frozen; pairs = ps; seen = λ j. ap (direct.see_made j) known; stored = stored; there = there; is = is; open_one = λ e. record { maker = b; number = c; name = refl; known = subst (λ q. slice_get (w.objects b) c ≡ Some (a_record q ps)) e known } }
    of_made b c stored there plain (an_array frozen vs) known is = cc (sym plain ∙ is.class)
    of_made b c stored there plain (a_closure f chain) known is = cc (sym plain ∙ is.class)
    of_made b c stored there plain (an_error maker message) known is = cc (sym plain ∙ is.class)

    of_name : (n : Name) (stored : heap.Object) → heap.object_at h i ≡ Some stored → stored.class ≡ class.Object → IsNamed w.objects h n stored → RecordAt w h n i
    of_name (made_name b c) stored there plain is = of_made b c stored there plain is.object is.known is.is
    of_name (cell_name b zero) stored there plain is = record { frozen = true; pairs = _; seen = λ j. refl; stored = stored; there = there; is = is; open_one = λ e. cc }
    of_name (cell_name b (suc c)) stored there plain is = cc (sym plain ∙ is.1.is.class)
    of_name (own_name b c) stored there plain is = cc (sym plain ∙ is.1.is.class)
    of_name (built_name f) stored there plain is = cc (sym plain ∙ is.1.is.class)
    of_name (tools_name t) stored there plain is = record { frozen = true; pairs = _; seen = λ j. refl; stored = stored; there = there; is = is; open_one = λ e. cc }
    of_name (facet_name root k) stored there plain is = cc (sym plain ∙ facet_class root k stored is)
    of_name (forward_name b c d e) stored there plain is = absurd is

-- an object on which the mark for reading a key is found: its property is the value of that key
pub record ReadAt (w : World) (h : Objects) (n : Name) (i : ℕ) (k : List ℕ) : Type 0 where
  pub at : RecordAt w h n i
  pub value : Value
  pub has : value_at k at.pairs ≡ Some value
  pub property : Property
  pub stored : own h i k ≡ Some property
  pub same : Val h value property.value

pub read_at : {first : Objects} {places : r.Native → ℕ} {m : ℕ} {h : Objects} (w : World) → ObjectsAre first places w.objects h m → (n : Name) (i : ℕ) (k : List ℕ) (p : Property) → Named h n i → is_hidden k ≡ false → lookup h i (read_mark k) ≡ Some p → ReadAt w h n i k
read_at {h = h} w a n i k p named guest found =
    let mine = mark_own a (read_mark k) (λ j q e. a.reads j k q e) (length h.list) i p found in
    let x = record_at w a n i named (a.reads i k p mine).class in
    let own_of = λ (j : List ℕ). ap (λ o. find j (heap.props_of o)) x.there in
    let v = value_guests h k x.pairs x.stored.props guest x.is.props.pairs (x.is.props.reads k p (sym (own_of (read_mark k)) ∙ mine)).1 in
    record { at = x; value = v.0; has = v.2; property = v.1; stored = own_of k ∙ v.3; same = v.4 }
