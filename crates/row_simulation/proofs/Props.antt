-- The properties of a record, after each change of them.
use Rattle.std.proofs.Common.{◌≡◌, ℕ, Bool, true, false, List, [], ◌∷◌, Option, Some, None, cond, refl, sym, ap, ◌∙◌, subst}
use Rattle.std.specs.Prelude.{codes, is_some, not}
use Rattle.std.specs.List.{filter}
use Rattle.std.specs.Cmp.Lexicographic.{same_text}
use Rattle.std.proofs.lemmas.Option.{none-some}
use Rattle.caja_units.specs.Units.{same_units, is_hidden}
use Rattle.es3_objects.specs.declared.value.Value.TheVariants as es
use Rattle.es3_objects.specs.declared.value.Attrs.{Attrs}
use Rattle.es3_heap.specs.Objects.{Property, Objects, plain_attrs, hidden_attrs}
use Rattle.es3_heap.specs.Properties.{find, written, defined, without}
use Rattle.es3_objects.proofs.Keys.{same_key-refl}
use Rattle.es3_objects.proofs.Laws.{attrs_of, find-written, find-written-other, find-defined, find-defined-other}
use Rattle.cajita_meaning.specs.World.{Value, Pairs, value_at, with_value}
use Rattle.cajita_meaning.specs.Doing.{dropped}
use Rattle.heap_rows.specs.Marks.{read_mark, set_mark, frozen_mark, is_set_mark, without_set_marks}
use Rattle.heap_rows.specs.Doing.{guests}
use Rattle.row_simulation.proofs.Keys.{not_true, apart, apart_too, hidden_read, hidden_set, read_set, set_read, read_frozen, set_frozen, frozen_read, frozen_set, read_read, set_set, set_is_set, read_is_no_set, set_mark_hidden}
use Rattle.row_simulation.proofs.Relation.{EsValue, Val, PairsAre, Once, PropsAre}
use Rattle.row_simulation.proofs.SetMarks.{stays, MarksGo, others_stay, marks_go}

pub swapped : (j k : List ℕ) → same_units j k ≡ false → same_units k j ≡ false
swapped j k e = not_true _ (λ s. cc (sym e ∙ ap (λ i. same_units i k) (sym (same_text k j (sym s))) ∙ same_key-refl k))

-- by whether two keys are alike
pub by_key : (j k : List ℕ) (P : Bool → Type 0) → (j ≡ k → P true) → (same_units j k ≡ false → P false) → P (same_units j k)
by_key j k P same other = elim (same_units j k) as (λ b. same_units j k ≡ b → P b) [
  | true ↦ λ e. same (same_text j k (sym e))
  | false ↦ λ e. other e
] refl

-- what module sees

guests_marked : (m : List ℕ) (e : EsValue) (a : Attrs) (ps : List Property) → is_hidden m ≡ true → guests (defined m e a ps) ≡ guests ps
guests_marked m e a [] hidden = rw hidden refl
guests_marked m e a (p ∷ ps) hidden =
    by_key m p.key (λ b. guests (cond b (record { key = m; value = e; attrs = a } ∷ ps) (p ∷ defined m e a ps)) ≡ guests (p ∷ ps))
    (λ same. rw (hidden, sym (ap is_hidden same) ∙ hidden) refl)
    (λ other. ap (λ l. cond (is_hidden p.key) l ((p.key, p.value) ∷ l)) (guests_marked m e a ps hidden))

pub pairs_written : (h : Objects) (k : List ℕ) (v : Value) (e : EsValue) (ps : Pairs) (props : List Property) → is_hidden k ≡ false → Val h v e → PairsAre h ps (guests props) → PairsAre h (with_value k v ps) (guests (written k e props))
pairs_written h k v e [] [] guest is p = rw guest (refl, is, tt)
pairs_written h k v e ps (q ∷ props) guest is p =
    let cases = elim (is_hidden q.key) as (λ b. is_hidden q.key ≡ b → PairsAre h ps (cond b (guests props) ((q.key, q.value) ∷ guests props)) → PairsAre h (with_value k v ps) (guests (cond (same_units k q.key) (record { key = q.key; value = e; attrs = q.attrs } ∷ props) (q ∷ written k e props)))) [
      | true ↦ λ hidden p. rw (apart k q.key guest hidden, hidden) (pairs_written h k v e ps props guest is p)
      | false ↦ λ seen p. shown_one ps seen p (λ rest p. pairs_written h k v e rest props guest is p)
    ] in cases refl p
  where
    shown_one : (ps : Pairs) → is_hidden q.key ≡ false → PairsAre h ps ((q.key, q.value) ∷ guests props) → ((rest : Pairs) → PairsAre h rest (guests props) → PairsAre h (with_value k v rest) (guests (written k e props))) → PairsAre h (with_value k v ps) (guests (cond (same_units k q.key) (record { key = q.key; value = e; attrs = q.attrs } ∷ props) (q ∷ written k e props)))
    shown_one [] seen p go = absurd p
    shown_one ((j, u) ∷ rest) seen p go =
        let cases = by_key k q.key (λ b. PairsAre h (cond b ((q.key, v) ∷ rest) ((q.key, u) ∷ with_value k v rest)) (guests (cond b (record { key = q.key; value = e; attrs = q.attrs } ∷ props) (q ∷ written k e props)))) (λ same. rw seen (refl, is, p.2)) (λ other. rw seen (refl, p.1, go rest p.2)) in
        subst (λ i. PairsAre h (cond (same_units k i) ((i, v) ∷ rest) ((i, u) ∷ with_value k v rest)) (guests (cond (same_units k q.key) (record { key = q.key; value = e; attrs = q.attrs } ∷ props) (q ∷ written k e props)))) (sym p.0) cases
pairs_written h k v e _ [] guest is p = absurd p

-- keys of pairs

pub has_written : (j k : List ℕ) (v : Value) (ps : Pairs) → is_some (value_at j ps) ≡ true → is_some (value_at j (with_value k v ps)) ≡ true
has_written j k v [] has = cc
has_written j k v ((i, u) ∷ ps) has =
    by_key k i (λ b. is_some (value_at j (cond b ((i, v) ∷ ps) ((i, u) ∷ with_value k v ps))) ≡ true)
    (λ same. elim (same_units j i) as (λ b. is_some (cond b (Some u) (value_at j ps)) ≡ true → is_some (cond b (Some v) (value_at j ps)) ≡ true) [
      | true ↦ λ x. refl
      | false ↦ λ x. x
    ] has)
    (λ other. elim (same_units j i) as (λ b. is_some (cond b (Some u) (value_at j ps)) ≡ true → is_some (cond b (Some u) (value_at j (with_value k v ps))) ≡ true) [
      | true ↦ λ x. refl
      | false ↦ λ x. has_written j k v ps x
    ] has)

pub has_new : (k : List ℕ) (v : Value) (ps : Pairs) → is_some (value_at k (with_value k v ps)) ≡ true
has_new k v [] = rw (same_key-refl k) refl
has_new k v ((i, u) ∷ ps) =
    by_key k i (λ b. is_some (value_at k (cond b ((i, v) ∷ ps) ((i, u) ∷ with_value k v ps))) ≡ true)
    (λ same. rw same (rw (same_key-refl i) refl))
    (λ other. rw other (has_new k v ps))

-- each key once

once_defined : (k : List ℕ) (e : EsValue) (a : Attrs) (ps : List Property) → Once ps → Once (defined k e a ps)
once_defined k e a [] o = (refl, tt)
once_defined k e a (p ∷ ps) o =
    by_key k p.key (λ b. Once (cond b (record { key = k; value = e; attrs = a } ∷ ps) (p ∷ defined k e a ps)))
    (λ same. (ap (λ i. find i ps) same ∙ o.0, o.1))
    (λ other. (find-defined-other p.key k e a ps (swapped k p.key other) ∙ o.0, once_defined k e a ps o.1))

once_written : (k : List ℕ) (e : EsValue) (ps : List Property) → Once ps → Once (written k e ps)
once_written k e [] o = (refl, tt)
once_written k e (p ∷ ps) o =
    by_key k p.key (λ b. Once (cond b (record { key = p.key; value = e; attrs = p.attrs } ∷ ps) (p ∷ written k e ps)))
    (λ same. o)
    (λ other. (find-written-other p.key k e ps (swapped k p.key other) ∙ o.0, once_written k e ps o.1))

some_same : (p q : Property) → (let x : Option Property = Some p in x) ≡ Some q → p ≡ q
some_same p q e = cc

-- a mark for reading, where the key is there
pub props_read : {h : Objects} {frozen : Bool} {ps : Pairs} {props : List Property} (k : List ℕ) → is_some (value_at k ps) ≡ true → PropsAre h frozen ps props → PropsAre h frozen ps (defined (read_mark k) (es.Bool true) hidden_attrs props)
props_read {h = h} {frozen = frozen} {ps = ps} {props = props} k has r =
    let m = read_mark k in
    let after = defined m (es.Bool true) hidden_attrs props in
    record {
      pairs = subst (λ l. PairsAre h ps l) (sym (guests_marked m (es.Bool true) hidden_attrs props (hidden_read k))) r.pairs;
      closed = ap is_some (find-defined-other frozen_mark m (es.Bool true) hidden_attrs props (frozen_read k)) ∙ r.closed;
      reads = λ j p e. by_read j p e;
      sets = λ j p e. r.sets j p (sym (find-defined-other (set_mark j) m (es.Bool true) hidden_attrs props (set_read j k)) ∙ e);
      plain = λ j p guest e. r.plain j p guest (sym (find-defined-other j m (es.Bool true) hidden_attrs props (apart j m guest (hidden_read k))) ∙ e);
      marks = λ j p hidden e. by_hidden j p hidden e;
      once = once_defined m (es.Bool true) hidden_attrs props r.once;
      no_text = find-defined-other (codes "toString") m (es.Bool true) hidden_attrs props (apart (codes "toString") m refl (hidden_read k)) ∙ r.no_text;
      no_value = find-defined-other (codes "valueOf") m (es.Bool true) hidden_attrs props (apart (codes "valueOf") m refl (hidden_read k)) ∙ r.no_value;
    }
  where
    by_read : (j : List ℕ) (p : Property) → find (read_mark j) (defined (read_mark k) (es.Bool true) hidden_attrs props) ≡ Some p → (p.value ≡ es.Bool true) × (is_some (value_at j ps) ≡ true)
    by_read j p e = elim (same_units (read_mark j) (read_mark k)) as (λ b. same_units (read_mark j) (read_mark k) ≡ b → (p.value ≡ es.Bool true) × (is_some (value_at j ps) ≡ true)) [
      | true ↦ λ s. let same = read_read j k s in (ap (λ q. q.value) (some_same p _ (sym e ∙ ap (λ i. find (read_mark i) (defined (read_mark k) (es.Bool true) hidden_attrs props)) same ∙ find-defined (read_mark k) (es.Bool true) hidden_attrs props)), ap (λ i. is_some (value_at i ps)) same ∙ has)
      | false ↦ λ s. r.reads j p (sym (find-defined-other (read_mark j) (read_mark k) (es.Bool true) hidden_attrs props s) ∙ e)
    ] refl

    by_hidden : (j : List ℕ) (p : Property) → is_hidden j ≡ true → find j (defined (read_mark k) (es.Bool true) hidden_attrs props) ≡ Some p → p.attrs ≡ hidden_attrs
    by_hidden j p hidden e = by_key j (read_mark k) (λ b. p.attrs ≡ hidden_attrs)
        (λ same. ap (λ q. q.attrs) (some_same p _ (sym e ∙ ap (λ i. find i (defined (read_mark k) (es.Bool true) hidden_attrs props)) same ∙ find-defined (read_mark k) (es.Bool true) hidden_attrs props)))
        (λ s. r.marks j p hidden (sym (find-defined-other j (read_mark k) (es.Bool true) hidden_attrs props s) ∙ e))

-- a key that gets a value, where the record isn't frozen
pub props_written : {h : Objects} {ps : Pairs} {props : List Property} (k : List ℕ) (v : Value) (e : EsValue) → is_hidden k ≡ false → same_units (codes "toString") k ≡ false → same_units (codes "valueOf") k ≡ false → Val h v e → PropsAre h false ps props → PropsAre h false (with_value k v ps) (written k e props)
props_written {h = h} {ps = ps} {props = props} k v e guest text value is r = record {
  pairs = pairs_written h k v e ps props guest is r.pairs;
  closed = ap is_some (find-written-other frozen_mark k e props (apart_too k frozen_mark guest refl)) ∙ r.closed;
  reads = λ j p f. let x = r.reads j p (sym (find-written-other (read_mark j) k e props (apart_too k (read_mark j) guest (hidden_read j))) ∙ f) in (x.0, has_written j k v ps x.1);
  sets = λ j p f. let x = r.sets j p (sym (find-written-other (set_mark j) k e props (apart_too k (set_mark j) guest (hidden_set j))) ∙ f) in (x.0, has_written j k v ps x.1, x.2);
  plain = λ j p seen f. by_plain j p seen f;
  marks = λ j p hidden f. r.marks j p hidden (sym (find-written-other j k e props (apart_too k j guest hidden)) ∙ f);
  once = once_written k e props r.once;
  no_text = find-written-other (codes "toString") k e props text ∙ r.no_text;
  no_value = find-written-other (codes "valueOf") k e props value ∙ r.no_value;
}
  where
    attrs_plain : (o : Option Property) → ((p : Property) → o ≡ Some p → p.attrs ≡ plain_attrs) → attrs_of o ≡ plain_attrs
    attrs_plain None f = refl
    attrs_plain (Some p) f = f p refl

    by_plain : (j : List ℕ) (p : Property) → is_hidden j ≡ false → find j (written k e props) ≡ Some p → p.attrs ≡ plain_attrs
    by_plain j p seen f = by_key j k (λ b. p.attrs ≡ plain_attrs)
        (λ same. ap (λ q. q.attrs) (some_same p _ (sym f ∙ ap (λ i. find i (written k e props)) same ∙ find-written k e props)) ∙ attrs_plain (find k props) (λ q g. r.plain k q guest g))
        (λ other. r.plain j p seen (sym (find-written-other j k e props other) ∙ f))

-- a mark for writing, where the key is there and the record isn't frozen
pub props_set : {h : Objects} {ps : Pairs} {props : List Property} (k : List ℕ) → is_some (value_at k ps) ≡ true → PropsAre h false ps props → PropsAre h false ps (defined (set_mark k) (es.Bool true) hidden_attrs props)
props_set {h = h} {ps = ps} {props = props} k has r =
    let m = set_mark k in
    record {
      pairs = subst (λ l. PairsAre h ps l) (sym (guests_marked m (es.Bool true) hidden_attrs props (hidden_set k))) r.pairs;
      closed = ap is_some (find-defined-other frozen_mark m (es.Bool true) hidden_attrs props (frozen_set k)) ∙ r.closed;
      reads = λ j p e. r.reads j p (sym (find-defined-other (read_mark j) m (es.Bool true) hidden_attrs props (read_set j k)) ∙ e);
      sets = λ j p e. by_set j p e;
      plain = λ j p guest e. r.plain j p guest (sym (find-defined-other j m (es.Bool true) hidden_attrs props (apart j m guest (hidden_set k))) ∙ e);
      marks = λ j p hidden e. by_hidden j p hidden e;
      once = once_defined m (es.Bool true) hidden_attrs props r.once;
      no_text = find-defined-other (codes "toString") m (es.Bool true) hidden_attrs props (apart (codes "toString") m refl (hidden_set k)) ∙ r.no_text;
      no_value = find-defined-other (codes "valueOf") m (es.Bool true) hidden_attrs props (apart (codes "valueOf") m refl (hidden_set k)) ∙ r.no_value;
    }
  where
    by_set : (j : List ℕ) (p : Property) → find (set_mark j) (defined (set_mark k) (es.Bool true) hidden_attrs props) ≡ Some p → (p.value ≡ es.Bool true) × (is_some (value_at j ps) ≡ true) × (false ≡ false)
    by_set j p e = elim (same_units (set_mark j) (set_mark k)) as (λ b. same_units (set_mark j) (set_mark k) ≡ b → (p.value ≡ es.Bool true) × (is_some (value_at j ps) ≡ true) × (false ≡ false)) [
      | true ↦ λ s. let same = set_set j k s in (ap (λ q. q.value) (some_same p _ (sym e ∙ ap (λ i. find (set_mark i) (defined (set_mark k) (es.Bool true) hidden_attrs props)) same ∙ find-defined (set_mark k) (es.Bool true) hidden_attrs props)), ap (λ i. is_some (value_at i ps)) same ∙ has, refl)
      | false ↦ λ s. r.sets j p (sym (find-defined-other (set_mark j) (set_mark k) (es.Bool true) hidden_attrs props s) ∙ e)
    ] refl

    by_hidden : (j : List ℕ) (p : Property) → is_hidden j ≡ true → find j (defined (set_mark k) (es.Bool true) hidden_attrs props) ≡ Some p → p.attrs ≡ hidden_attrs
    by_hidden j p hidden e = by_key j (set_mark k) (λ b. p.attrs ≡ hidden_attrs)
        (λ same. ap (λ q. q.attrs) (some_same p _ (sym e ∙ ap (λ i. find i (defined (set_mark k) (es.Bool true) hidden_attrs props)) same ∙ find-defined (set_mark k) (es.Bool true) hidden_attrs props)))
        (λ s. r.marks j p hidden (sym (find-defined-other j (set_mark k) (es.Bool true) hidden_attrs props s) ∙ e))

-- freezing

find_kept : (j : List ℕ) (ps : List Property) → is_set_mark j ≡ false → find j (filter stays ps) ≡ find j ps
find_kept j [] free = refl
find_kept j (p ∷ ps) free =
    by_key j p.key (λ b. find j (filter stays (p ∷ ps)) ≡ cond b (Some p) (find j ps))
    (λ same. let there : is_set_mark p.key ≡ false = ap is_set_mark (sym same) ∙ free in rw (there, same, same_key-refl p.key) refl)
    (λ other. elim (is_set_mark p.key) as (λ b. find j (cond (not b) (p ∷ filter stays ps) (filter stays ps)) ≡ find j ps) [
      | true ↦ find_kept j ps free
      | false ↦ rw other (find_kept j ps free)
    ])

find_gone : (j : List ℕ) (ps : List Property) → is_set_mark j ≡ true → find j (filter stays ps) ≡ None
find_gone j [] set = refl
find_gone j (p ∷ ps) set =
    by_key j p.key (λ b. find j (filter stays (p ∷ ps)) ≡ None)
    (λ same. let there : is_set_mark p.key ≡ true = ap is_set_mark (sym same) ∙ set in rw there (find_gone j ps set))
    (λ other. elim (is_set_mark p.key) as (λ b. find j (cond (not b) (p ∷ filter stays ps) (filter stays ps)) ≡ None) [
      | true ↦ find_gone j ps set
      | false ↦ rw other (find_gone j ps set)
    ])

guests_kept : (ps : List Property) → guests (filter stays ps) ≡ guests ps
guests_kept [] = refl
guests_kept (p ∷ ps) =
    let cases = elim (is_set_mark p.key) as (λ b. is_set_mark p.key ≡ b → guests (cond (not b) (p ∷ filter stays ps) (filter stays ps)) ≡ guests (p ∷ ps)) [
      | true ↦ λ e. rw (set_mark_hidden p.key e) (guests_kept ps)
      | false ↦ λ e. ap (λ l. cond (is_hidden p.key) l ((p.key, p.value) ∷ l)) (guests_kept ps)
    ] in cases refl

once_kept : (ps : List Property) → Once ps → Once (filter stays ps)
once_kept [] o = tt
once_kept (p ∷ ps) o =
    let cases = elim (is_set_mark p.key) as (λ b. is_set_mark p.key ≡ b → Once (cond (not b) (p ∷ filter stays ps) (filter stays ps))) [
      | true ↦ λ e. once_kept ps o.1
      | false ↦ λ e. (find_kept p.key ps e ∙ o.0, once_kept ps o.1)
    ] in cases refl

pub guest_no_set : (k : List ℕ) → is_hidden k ≡ false → is_set_mark k ≡ false
guest_no_set k guest = not_true _ (λ e. cc (sym guest ∙ set_mark_hidden k e))

-- each mark may be deleted
pub props_go : {h : Objects} {frozen : Bool} {ps : Pairs} {props : List Property} → PropsAre h frozen ps props → MarksGo props
props_go {props = props} r = marks_go props r.once (λ k p set found. ap (λ a. a.dont_delete) (r.marks k p (set_mark_hidden k set) found))

pub props_frozen : {h : Objects} {frozen : Bool} {ps : Pairs} {props : List Property} → PropsAre h frozen ps props → PropsAre h true ps (defined frozen_mark (es.Bool true) hidden_attrs (without_set_marks props))
props_frozen {h = h} {ps = ps} {props = props} r =
    let l = filter stays props in
    subst (λ q. PropsAre h true ps (defined frozen_mark (es.Bool true) hidden_attrs q)) (sym (others_stay props (props_go r))) (record {
      pairs = subst (λ q. PairsAre h ps q) (sym (guests_marked frozen_mark (es.Bool true) hidden_attrs l refl ∙ guests_kept props)) r.pairs;
      closed = ap is_some (find-defined frozen_mark (es.Bool true) hidden_attrs l);
      reads = λ j p e. r.reads j p (sym (find-defined-other (read_mark j) frozen_mark (es.Bool true) hidden_attrs l (read_frozen j) ∙ find_kept (read_mark j) props (read_is_no_set j)) ∙ e);
      sets = λ j p e. absurd (none-some p (sym (find-defined-other (set_mark j) frozen_mark (es.Bool true) hidden_attrs l (set_frozen j) ∙ find_gone (set_mark j) props (set_is_set j)) ∙ e));
      plain = λ j p guest e. r.plain j p guest (sym (find-defined-other j frozen_mark (es.Bool true) hidden_attrs l (apart j frozen_mark guest refl) ∙ find_kept j props (guest_no_set j guest)) ∙ e);
      marks = λ j p hidden e. by_hidden j p hidden e;
      once = once_defined frozen_mark (es.Bool true) hidden_attrs l (once_kept props r.once);
      no_text = find-defined-other (codes "toString") frozen_mark (es.Bool true) hidden_attrs l refl ∙ find_kept (codes "toString") props refl ∙ r.no_text;
      no_value = find-defined-other (codes "valueOf") frozen_mark (es.Bool true) hidden_attrs l refl ∙ find_kept (codes "valueOf") props refl ∙ r.no_value;
    })
  where
    by_hidden : (j : List ℕ) (p : Property) → is_hidden j ≡ true → find j (defined frozen_mark (es.Bool true) hidden_attrs (filter stays props)) ≡ Some p → p.attrs ≡ hidden_attrs
    by_hidden j p hidden e = by_key j frozen_mark (λ b. p.attrs ≡ hidden_attrs)
        (λ same. ap (λ q. q.attrs) (some_same p _ (sym e ∙ ap (λ i. find i (defined frozen_mark (es.Bool true) hidden_attrs (filter stays props))) same ∙ find-defined frozen_mark (es.Bool true) hidden_attrs (filter stays props))))
        (λ s. let cases = elim (is_set_mark j) as (λ b. is_set_mark j ≡ b → p.attrs ≡ hidden_attrs) [
          | true ↦ λ set. absurd (none-some p (sym (find-defined-other j frozen_mark (es.Bool true) hidden_attrs (filter stays props) s ∙ find_gone j props set) ∙ e))
          | false ↦ λ free. r.marks j p hidden (sym (find-defined-other j frozen_mark (es.Bool true) hidden_attrs (filter stays props) s ∙ find_kept j props free) ∙ e)
        ] in cases refl)

-- deleting

find-without-other : (j k : List ℕ) (ps : List Property) → same_units j k ≡ false → find j (without k ps) ≡ find j ps
find-without-other j k [] ne = refl
find-without-other j k (p ∷ ps) ne =
    by_key k p.key (λ b. find j (cond b (cond p.attrs.dont_delete (p ∷ ps) ps) (p ∷ without k ps)) ≡ find j (p ∷ ps))
    (λ same. elim p.attrs.dont_delete as (λ b. find j (cond b (p ∷ ps) ps) ≡ find j (p ∷ ps)) [
      | true ↦ refl
      | false ↦ let other : same_units j p.key ≡ false = ap (same_units j) (sym same) ∙ ne in rw other refl
    ])
    (λ other. ap (λ l. cond (same_units j p.key) (Some p) l) (find-without-other j k ps ne))

abbrev Goes : List ℕ → List Property → Type 0
Goes k ps = (p : Property) → find k ps ≡ Some p → p.attrs.dont_delete ≡ false

find-without-same : (k : List ℕ) (ps : List Property) → Once ps → Goes k ps → find k (without k ps) ≡ None
find-without-same k [] o goes = refl
find-without-same k (p ∷ ps) o goes =
    by_key k p.key (λ b. find k (cond b (cond p.attrs.dont_delete (p ∷ ps) ps) (p ∷ without k ps)) ≡ None)
    (λ same. rw (goes p (rw (same, same_key-refl p.key) refl)) (ap (λ i. find i ps) same ∙ o.0))
    (λ other. rw other (find-without-same k ps o.1 (λ q e. goes q (rw other e))))

none_without : (j k : List ℕ) (ps : List Property) → find j ps ≡ None → find j (without k ps) ≡ None
none_without j k [] e = refl
none_without j k (p ∷ ps) e =
    let rest : find j ps ≡ None = none_rest e in
    by_key k p.key (λ b. find j (cond b (cond p.attrs.dont_delete (p ∷ ps) ps) (p ∷ without k ps)) ≡ None)
    (λ same. elim p.attrs.dont_delete as (λ b. find j (cond b (p ∷ ps) ps) ≡ None) [
      | true ↦ e
      | false ↦ rest
    ])
    (λ other. rw (apart_head e) (none_without j k ps rest))
  where
    none_rest : find j (p ∷ ps) ≡ None → find j ps ≡ None
    none_rest e = elim (same_units j p.key) as (λ b. cond b (Some p) (find j ps) ≡ None → find j ps ≡ None) [
      | true ↦ λ x. absurd (none-some p (sym x))
      | false ↦ λ x. x
    ] e

    apart_head : find j (p ∷ ps) ≡ None → same_units j p.key ≡ false
    apart_head e = elim (same_units j p.key) as (λ b. cond b (Some p) (find j ps) ≡ None → b ≡ false) [
      | true ↦ λ x. absurd (none-some p (sym x))
      | false ↦ λ x. refl
    ] e

once_without : (k : List ℕ) (ps : List Property) → Once ps → Once (without k ps)
once_without k [] o = tt
once_without k (p ∷ ps) o =
    by_key k p.key (λ b. Once (cond b (cond p.attrs.dont_delete (p ∷ ps) ps) (p ∷ without k ps)))
    (λ same. elim p.attrs.dont_delete as (λ b. Once (cond b (p ∷ ps) ps)) [
      | true ↦ o
      | false ↦ o.1
    ])
    (λ other. (none_without p.key k ps o.0, once_without k ps o.1))

-- what is found after a deletion was there, and is another one
left_over : (j k : List ℕ) (ps : List Property) (p : Property) → Once ps → Goes k ps → find j (without k ps) ≡ Some p → (same_units j k ≡ false) × (find j ps ≡ Some p)
left_over j k ps p o goes e =
    let other : same_units j k ≡ false = not_true _ (λ s. none-some p (sym (find-without-same k ps o goes) ∙ ap (λ i. find i (without k ps)) (sym (same_text j k (sym s))) ∙ e)) in
    (other, sym (find-without-other j k ps other) ∙ e)

guests_unmarked : (m : List ℕ) (ps : List Property) → is_hidden m ≡ true → guests (without m ps) ≡ guests ps
guests_unmarked m [] hidden = refl
guests_unmarked m (p ∷ ps) hidden =
    by_key m p.key (λ b. guests (cond b (cond p.attrs.dont_delete (p ∷ ps) ps) (p ∷ without m ps)) ≡ guests (p ∷ ps))
    (λ same. elim p.attrs.dont_delete as (λ b. guests (cond b (p ∷ ps) ps) ≡ guests (p ∷ ps)) [
      | true ↦ refl
      | false ↦ rw (sym (ap is_hidden same) ∙ hidden) refl
    ])
    (λ other. ap (λ l. cond (is_hidden p.key) l ((p.key, p.value) ∷ l)) (guests_unmarked m ps hidden))

pub pairs_dropped : (h : Objects) (k : List ℕ) (ps : Pairs) (props : List Property) → is_hidden k ≡ false → Goes k props → PairsAre h ps (guests props) → PairsAre h (dropped k ps) (guests (without k props))
pairs_dropped h k [] [] guest goes p = tt
pairs_dropped h k ps (q ∷ props) guest goes p =
    let cases = elim (is_hidden q.key) as (λ b. is_hidden q.key ≡ b → PairsAre h ps (cond b (guests props) ((q.key, q.value) ∷ guests props)) → PairsAre h (dropped k ps) (guests (cond (same_units k q.key) (cond q.attrs.dont_delete (q ∷ props) props) (q ∷ without k props)))) [
      | true ↦ λ hidden p. let other = apart k q.key guest hidden in rw (other, hidden) (pairs_dropped h k ps props guest (λ x e. goes x (rw other e)) p)
      | false ↦ λ seen p. shown_one ps seen p (λ rest other p. pairs_dropped h k rest props guest (λ x e. goes x (rw other e)) p)
    ] in cases refl p
  where
    shown_one : (ps : Pairs) → is_hidden q.key ≡ false → PairsAre h ps ((q.key, q.value) ∷ guests props) → ((rest : Pairs) → same_units k q.key ≡ false → PairsAre h rest (guests props) → PairsAre h (dropped k rest) (guests (without k props))) → PairsAre h (dropped k ps) (guests (cond (same_units k q.key) (cond q.attrs.dont_delete (q ∷ props) props) (q ∷ without k props)))
    shown_one [] seen p go = absurd p
    shown_one ((j, u) ∷ rest) seen p go =
        let cases = by_key k q.key (λ b. PairsAre h (cond b rest ((q.key, u) ∷ dropped k rest)) (guests (cond b (cond q.attrs.dont_delete (q ∷ props) props) (q ∷ without k props)))) (λ same. rw (goes q (rw (same, same_key-refl q.key) refl)) p.2) (λ other. rw seen (refl, p.1, go rest other p.2)) in
        subst (λ i. PairsAre h (cond (same_units k i) rest ((i, u) ∷ dropped k rest)) (guests (cond (same_units k q.key) (cond q.attrs.dont_delete (q ∷ props) props) (q ∷ without k props)))) (sym p.0) cases
pairs_dropped h k _ [] guest goes p = absurd p

has_dropped : (j k : List ℕ) (ps : Pairs) → same_units j k ≡ false → is_some (value_at j ps) ≡ true → is_some (value_at j (dropped k ps)) ≡ true
has_dropped j k [] other has = cc
has_dropped j k ((i, u) ∷ ps) other has =
    by_key k i (λ b. is_some (value_at j (cond b ps ((i, u) ∷ dropped k ps))) ≡ true)
    (λ same. let ne : same_units j i ≡ false = ap (same_units j) (sym same) ∙ other in without_head ne has)
    (λ ne. elim (same_units j i) as (λ b. is_some (cond b (Some u) (value_at j ps)) ≡ true → is_some (cond b (Some u) (value_at j (dropped k ps))) ≡ true) [
      | true ↦ λ x. refl
      | false ↦ λ x. has_dropped j k ps other x
    ] has)
  where
    without_head : same_units j i ≡ false → is_some (value_at j ((i, u) ∷ ps)) ≡ true → is_some (value_at j ps) ≡ true
    without_head ne has = subst (λ b. is_some (cond b (Some u) (value_at j ps)) ≡ true) ne has

read_mark_differs : (j k : List ℕ) → same_units (read_mark j) (read_mark k) ≡ false → same_units j k ≡ false
read_mark_differs j k e = not_true _ (λ s. cc (sym e ∙ ap (λ i. same_units (read_mark i) (read_mark k)) (same_text j k (sym s)) ∙ same_key-refl (read_mark k)))

set_mark_differs : (j k : List ℕ) → same_units (set_mark j) (set_mark k) ≡ false → same_units j k ≡ false
set_mark_differs j k e = not_true _ (λ s. cc (sym e ∙ ap (λ i. same_units (set_mark i) (set_mark k)) (same_text j k (sym s)) ∙ same_key-refl (set_mark k)))

-- a key that goes, with its marks
pub props_dropped : {h : Objects} {frozen : Bool} {ps : Pairs} {props : List Property} (k : List ℕ) → is_hidden k ≡ false → PropsAre h frozen ps props → PropsAre h frozen (dropped k ps) (without (set_mark k) (without (read_mark k) (without k props)))
props_dropped {h = h} {frozen = frozen} {ps = ps} {props = props} k guest r =
    record {
      pairs = subst (λ l. PairsAre h (dropped k ps) l) (sym (guests_unmarked (set_mark k) b (hidden_set k) ∙ guests_unmarked (read_mark k) a (hidden_read k))) (pairs_dropped h k ps props guest goes_key r.pairs);
      closed = ap is_some (find-without-other frozen_mark (set_mark k) b (frozen_set k) ∙ find-without-other frozen_mark (read_mark k) a (frozen_read k) ∙ find-without-other frozen_mark k props (apart_too k frozen_mark guest refl)) ∙ r.closed;
      reads = λ j p e. let x = left (read_mark j) p e in let y = r.reads j p x.2 in (y.0, has_dropped j k ps (read_mark_differs j k x.1) y.1);
      sets = λ j p e. let x = left (set_mark j) p e in let y = r.sets j p x.2 in (y.0, has_dropped j k ps (set_mark_differs j k x.0) y.1, y.2);
      plain = λ j p g e. r.plain j p g (left j p e).2;
      marks = λ j p g e. r.marks j p g (left j p e).2;
      once = once_without (set_mark k) b (once_without (read_mark k) a (once_without k props r.once));
      no_text = none_without (codes "toString") (set_mark k) b (none_without (codes "toString") (read_mark k) a (none_without (codes "toString") k props r.no_text));
      no_value = none_without (codes "valueOf") (set_mark k) b (none_without (codes "valueOf") (read_mark k) a (none_without (codes "valueOf") k props r.no_value));
    }
  where
    a : List Property
    a = without k props

    b : List Property
    b = without (read_mark k) (without k props)

    goes_key : Goes k props
    goes_key p e = ap (λ x. x.dont_delete) (r.plain k p guest e)

    goes_mark : (m : List ℕ) → is_hidden m ≡ true → Goes m props
    goes_mark m hidden p e = ap (λ x. x.dont_delete) (r.marks m p hidden e)

    left : (j : List ℕ) (p : Property) → find j (without (set_mark k) (without (read_mark k) (without k props))) ≡ Some p → (same_units j (set_mark k) ≡ false) × (same_units j (read_mark k) ≡ false) × (find j props ≡ Some p)
    left j p e =
        let none_b : Goes (set_mark k) (without (read_mark k) (without k props)) = λ q f. goes_mark (set_mark k) (hidden_set k) q (sym (find-without-other (set_mark k) (read_mark k) (without k props) (set_read k k) ∙ find-without-other (set_mark k) k props (apart_too k (set_mark k) guest (hidden_set k))) ∙ f) in
        let none_a : Goes (read_mark k) (without k props) = λ q f. goes_mark (read_mark k) (hidden_read k) q (sym (find-without-other (read_mark k) k props (apart_too k (read_mark k) guest (hidden_read k))) ∙ f) in
        let x = left_over j (set_mark k) (without (read_mark k) (without k props)) p (once_without (read_mark k) (without k props) (once_without k props r.once)) none_b e in
        let y = left_over j (read_mark k) (without k props) p (once_without k props r.once) none_a x.1 in
        let z = left_over j k props p r.once (λ q f. ap (λ t. t.dont_delete) (r.plain k q guest f)) y.1 in
        (x.0, y.0, z.1)
