-- Objects without a name change, as the items of arguments objects do where parameters are written: the objects that have names correspond as before.
use Rattle.std.proofs.Common.{◌≡◌, ℕ, ◌<◌, true, false, List, length, Option, Some, None, cond, refl, sym, ap, ◌∙◌, subst, ◌⊎◌, inl, inr, arith}
use Rattle.std.specs.Prelude.{slice_get, slice_set, is_some}
use Rattle.std.specs.Cmp.Lexicographic.{same_text}
use Rattle.std.proofs.lemmas.List.{length-set}
use Rattle.caja_units.specs.Units.{same_units}
use Rattle.es3_objects.specs.declared.value.Value.{Value}
use Rattle.es3_objects.specs.declared.value.Tag.TheVariants as tag
use Rattle.es3_objects.specs.declared.value.Class.TheVariants as class
use Rattle.es3_heap.specs.Objects as heap
use Rattle.es3_heap.specs.Objects.{Property, Objects, replaced}
use Rattle.es3_heap.specs.Properties.{own, put, can_put, find, lengthened, written, with_props}
use Rattle.es3_objects.proofs.Laws.{find-written-other}
use Rattle.rows.specs.Rows as r
use Rattle.cajita_meaning.specs.World.{Name, built_name, facet_name, Object}
use Rattle.heap_rows.specs.Marks.{read_mark, set_mark}
use Rattle.row_simulation.specs.Correspond.{IsPlain}
use Rattle.row_simulation.proofs.Names.{name_there}
use Rattle.row_simulation.proofs.Relation.{Named, IsMarked, ObjectsAre, Keeps, NoNewNode, named_keep}
use Rattle.row_simulation.proofs.Changes.{by_number, get-set, get-set-other}

-- it has other values now, and no other keys
pub record Changed (first h g : Objects) (i : ℕ) : Type 0 where
  pub before : IsPlain first h i
  pub after : heap.Object
  pub there : heap.object_at g i ≡ Some after
  pub tag : after.tag ≡ tag.None
  pub class : after.class ≡ class.Object
  pub proto : after.proto ≡ before.object.proto
  pub keys : (k : List ℕ) → is_some (find k after.props) ≡ true → is_some (find k before.object.props) ≡ true

pub record Quiet (first h g : Objects) : Type 0 where
  pub counts : g.counts ≡ h.counts
  pub long : length g.list ≡ length h.list
  pub each : (i : ℕ) → (heap.object_at g i ≡ heap.object_at h i) ⊎ Changed first h g i

pub quiet_refl : {first h : Objects} → Quiet first h h
quiet_refl = record { counts = refl; long = refl; each = λ i. inl refl }

pub plain_after : {first h g : Objects} (i : ℕ) → Quiet first h g → IsPlain first h i → IsPlain first g i
plain_after {first = first} {h = h} {g = g} i q p = elim (q.each i) as (λ o. IsPlain first g i) [
  | inl same ↦ record { object = p.object; there = same ∙ p.there; tag = p.tag; class = p.class; large = p.large }
  | inr new ↦ record { object = new.after; there = new.there; tag = new.tag; class = new.class; large = p.large }
]

same_object : (h : Objects) (i : ℕ) (a b : heap.Object) → heap.object_at h i ≡ Some a → heap.object_at h i ≡ Some b → a ≡ b
same_object h i a b e f = some_same a b (sym e ∙ f)
  where
    some_same : (a b : heap.Object) → (let o : Option heap.Object = Some a in o) ≡ Some b → a ≡ b
    some_same a b e = cc

pub quiet_trans : {first f g h : Objects} → Quiet first f g → Quiet first g h → Quiet first f h
quiet_trans {first = first} {f = f} {g = g} {h = h} p q = record {
  counts = q.counts ∙ p.counts;
  long = q.long ∙ p.long;
  each = λ i. elim (p.each i) as (λ o. (heap.object_at h i ≡ heap.object_at f i) ⊎ Changed first f h i) [
    | inl same ↦ elim (q.each i) as (λ o. (heap.object_at h i ≡ heap.object_at f i) ⊎ Changed first f h i) [
      | inl same2 ↦ inl (same2 ∙ same)
      | inr new ↦ inr (record {
        before = record { object = new.before.object; there = sym same ∙ new.before.there; tag = new.before.tag; class = new.before.class; large = new.before.large };
        after = new.after;
        there = new.there;
        tag = new.tag;
        class = new.class;
        proto = new.proto;
        keys = new.keys;
      })
    ]
    | inr old ↦ elim (q.each i) as (λ o. (heap.object_at h i ≡ heap.object_at f i) ⊎ Changed first f h i) [
      | inl same2 ↦ inr (record { before = old.before; after = old.after; there = same2 ∙ old.there; tag = old.tag; class = old.class; proto = old.proto; keys = old.keys })
      | inr new ↦
          let alike = same_object g i new.before.object old.after new.before.there old.there in
          inr (record {
            before = old.before;
            after = new.after;
            there = new.there;
            tag = new.tag;
            class = new.class;
            proto = new.proto ∙ ap (λ (o : heap.Object). o.proto) alike ∙ old.proto;
            keys = λ k is. old.keys k (subst (λ (o : heap.Object). is_some (find k o.props) ≡ true) alike (new.keys k is));
          })
    ]
  ];
}

-- what has a name is what it was

named_same : {first h g : Objects} (q : Quiet first h g) (n : Name) (i : ℕ) → Named h n i → heap.object_at g i ≡ heap.object_at h i
named_same {h = h} {g = g} q n i named = elim (q.each i) as (λ o. heap.object_at g i ≡ heap.object_at h i) [
  | inl same ↦ same
  | inr new ↦ absurd (name_there n (sym new.before.tag ∙ sym (ap heap.tag_of new.before.there) ∙ named))
]

named_back : {first h g : Objects} (q : Quiet first h g) (n : Name) (i : ℕ) → Named g n i → Named h n i
named_back {h = h} q n i named = elim (q.each i) as (λ o. Named h n i) [
  | inl same ↦ ap heap.tag_of (sym same) ∙ named
  | inr new ↦ absurd (name_there n (sym new.tag ∙ sym (ap heap.tag_of new.there) ∙ named))
]

apart : class.Object ≡ class.Array → ⊥
apart e = cc

apart_too : class.Object ≡ class.Function → ⊥
apart_too e = cc

pub quiet_keeps : {first h g : Objects} → Quiet first h g → Keeps h g
quiet_keeps {h = h} {g = g} q = record {
  named = λ n i t. ap heap.tag_of (named_same q n i t) ∙ t;
  bare = λ i lt e k. elim (q.each i) as (λ o. heap.object_at g i ≡ heap.object_at h i) [
    | inl same ↦ same
    | inr new ↦ absurd (apart (sym new.before.class ∙ sym (ap heap.class_of new.before.there) ∙ k))
  ];
  plain = λ i lt e k. elim (q.each i) as (λ o. (heap.tag_of (heap.object_at g i) ≡ tag.None) × (heap.class_of (heap.object_at g i) ≡ class.Object)) [
    | inl same ↦ (ap heap.tag_of same ∙ e, ap heap.class_of same ∙ k)
    | inr new ↦ (ap heap.tag_of new.there ∙ new.tag, ap heap.class_of new.there ∙ new.class)
  ];
  functions = λ i lt k. elim (q.each i) as (λ o. heap.object_at g i ≡ heap.object_at h i) [
    | inl same ↦ same
    | inr new ↦ absurd (apart_too (sym new.before.class ∙ sym (ap heap.class_of new.before.there) ∙ k))
  ];
  long = omega (arith, q.long);
  counted = λ m. let e = ap (λ cs. Rattle.es3_heap.specs.Making.count_at (slice_get cs m)) q.counts in omega (arith, e);
  older = λ m k i t lt. named_back q (Rattle.cajita_meaning.specs.World.made_name m k) i t;
}

pub quiet_no_node : {first h g : Objects} → Quiet first h g → NoNewNode h g
quiet_no_node q = record { older = λ root k i t. named_back q (facet_name root k) i t }

marked_after : {first h g : Objects} (q : Quiet first h g) (i : ℕ) → IsMarked h i → IsMarked g i
marked_after q i m = let same = named_same q m.name i m.named in record { name = m.name; named = ap heap.tag_of same ∙ m.named; class = ap heap.class_of same ∙ m.class }

-- a mark stands on an object that has a name
mark_after : {first h g : Objects} (q : Quiet first h g) (i : ℕ) (k : List ℕ) (p : Property) → ((p : Property) → own h i k ≡ Some p → IsMarked h i) → own g i k ≡ Some p → IsMarked g i
mark_after {h = h} {g = g} q i k p f is = elim (q.each i) as (λ o. IsMarked g i) [
  | inl same ↦ marked_after q i (f p (ap (λ o. find k (heap.props_of o)) (sym same) ∙ is))
  | inr new ↦
      let was = some_there (find k new.before.object.props) (new.keys k (ap is_some (ap (λ o. find k (heap.props_of o)) (sym new.there) ∙ is))) in
      marked_after q i (f was.0 (ap (λ o. find k (heap.props_of o)) new.before.there ∙ was.1))
]
  where
    some_there : (o : Option Property) → is_some o ≡ true → (p : Property) × (o ≡ Some p)
    some_there None e = cc
    some_there (Some p) e = (p, refl)

pub objects_quiet : {first : Objects} {places : r.Native → ℕ} {objects : ℕ → List Object} {h g : Objects} {m : ℕ} → Quiet first h g → ObjectsAre first places objects h m → ObjectsAre first places objects g m
objects_quiet {first = first} {objects = objects} {h = h} {g = g} q o = record {
  each = λ n i t. let was = named_back q n i t in let s = o.each n i was in record { stored = s.stored; there = named_same q n i was ∙ s.there; is = named_keep objects (quiet_keeps q) n s.stored s.is };
  once = λ n i j t u. o.once n i j (named_back q n i t) (named_back q n j u);
  natives = λ f common. (quiet_keeps q).named (built_name f) _ (o.natives f common);
  reads = λ i k p is. mark_after q i (read_mark k) p (λ p e. o.reads i k p e) is;
  sets = λ i k p is. mark_after q i (set_mark k) p (λ p e. o.sets i k p e) is;
  above = λ i p is. elim (q.each i) as (λ u. p < length first.list) [
    | inl same ↦ o.above i p (ap heap.proto_of (sym same) ∙ is)
    | inr new ↦ o.above i p (ap heap.proto_of new.before.there ∙ sym new.proto ∙ sym (ap heap.proto_of new.there) ∙ is)
  ];
  count = λ n lt. ap (λ cs. slice_get cs n) q.counts ∙ o.count n lt;
  few = o.few;
  opened = λ i lt. elim (q.each i) as (λ u. heap.object_at g i ≡ heap.object_at first i) [
    | inl same ↦ same ∙ o.opened i lt
    | inr new ↦ absurd (let l = new.before.large in omega (arith, lt, l))
  ];
  unnamed = λ i n lt t. o.unnamed i n lt (named_back q n i t);
  large = let l = o.large in omega (arith, q.long, l);
}

-- 8.6.2.2: such an object is written, where it has the key

written_keys : (k j : List ℕ) (v : Value) (ps : List Property) → is_some (find k ps) ≡ true → is_some (find j (written k v ps)) ≡ true → is_some (find j ps) ≡ true
written_keys k j v ps there is =
    let cases = elim (same_units j k) as (λ b. same_units j k ≡ b → is_some (find j ps) ≡ true) [
      | true ↦ λ same. ap (λ l. is_some (find l ps)) (same_text j k (sym same)) ∙ there
      | false ↦ λ other. ap is_some (sym (find-written-other j k v ps other)) ∙ is
    ] in cases refl

pub quiet_put : {first : Objects} (h : Objects) (i : ℕ) (k : List ℕ) (v : Value) → IsPlain first h i → is_some (own h i k) ≡ true → Quiet first h (put h i k v)
quiet_put {first = first} h i k v p there =
    let o = p.object in
    let x : heap.Object = record { class = o.class; proto = o.proto; callable = o.callable; tag = o.tag; props = written k v o.props } in
    let has : is_some (find k o.props) ≡ true = ap (λ u. is_some (find k (heap.props_of u))) (sym p.there) ∙ there in
    let new : Quiet first h (replaced h i x) = record {
      counts = refl;
      long = length-set h.list i x;
      each = λ j. by_number j i ((slice_get (slice_set h.list i x) j ≡ slice_get h.list j) ⊎ Changed first h (replaced h i x) j)
          (λ same. inr (subst (λ l. Changed first h (replaced h i x) l) (sym same) (record { before = p; after = x; there = get-set h.list i o x p.there; tag = p.tag; class = p.class; proto = refl; keys = λ l is. written_keys k l v o.props has is })))
          (λ other. inl (get-set-other h.list i j x other));
    } in
    elim (can_put h i k) as (λ b. Quiet first h (cond b (with_props h i (heap.object_at h i) (lengthened (heap.class_of (heap.object_at h i)) k (written k v (heap.props_of (heap.object_at h i))))) h)) [
      | false ↦ quiet_refl
      | true ↦ rw p.there (subst (λ c. Quiet first h (replaced h i (record { class = o.class; proto = o.proto; callable = o.callable; tag = o.tag; props = lengthened c k (written k v o.props) }))) (sym p.class) new)
    ]
