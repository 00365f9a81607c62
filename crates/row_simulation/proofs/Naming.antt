-- What is left of the correspondence when a function without a name gets the next name of a module where it stands.
use Rattle.std.proofs.Common.{◌≡◌, ◌≢◌, ℕ, suc, ◌+◌, ◌≤◌, ◌<◌, List, [], ◌∷◌, length, Option, Some, None, sym, ap, ◌∙◌, subst, arith}
use Rattle.std.specs.Prelude.{slice_get, slice_set}
use Rattle.std.proofs.lemmas.Option.{slice_get_within, none-some}
use Rattle.std.proofs.lemmas.List.{length-append, length-set}
use Rattle.es3_objects.specs.declared.value.Class.TheVariants as class
use Rattle.es3_objects.specs.declared.value.Tag.TheVariants as tag
use Rattle.es3_heap.specs.Objects as heap
use Rattle.es3_heap.specs.Objects.{Objects, object_at}
use Rattle.es3_heap.specs.Properties.{find}
use Rattle.es3_heap.specs.Making.{count_at, raised}
use Rattle.rows.specs.Rows as r
use Rattle.cajita_meaning.specs.World.{Name, made_name, built_name, facet_name, Object, with_last}
use Rattle.heap_rows.specs.Marks.{read_mark, set_mark}
use Rattle.row_simulation.proofs.Names.{name_there, known_name, made_known}
use Rattle.row_simulation.proofs.Relation.{Named, tag_of_name, Is, Stands, IsMarked, ObjectsAre, Keeps, NoNewNode, StillNamed, named_still}
use Rattle.row_simulation.proofs.Changes.{get-set, get-set-other, get-push, by_number, tagged, last_there, last_other, next_number, grown, IsNew, named_grown}

-- another object at a place, with the next name of a module
abbrev pub named_where : Objects → ℕ → heap.Object → ℕ → Objects
named_where h i x by = record { list = slice_set h.list i (tagged x (tag.Made by (count_at (slice_get h.counts by)))); counts = slice_set h.counts by (raised (count_at (slice_get h.counts by))) }

module _ (h : Objects) (i : ℕ) (was x : heap.Object) (by : ℕ) (there : object_at h i ≡ Some was) (bare : was.tag ≡ tag.None) where
  abbrev y : heap.Object
  y = tagged x (tag.Made by (count_at (slice_get h.counts by)))

  abbrev g : Objects
  g = named_where h i x by

  pub where_named : object_at (named_where h i x by) i ≡ Some (tagged x (tag.Made by (count_at (slice_get h.counts by))))
  where_named = get-set h.list i was y there

  pub where_other : (j : ℕ) → j ≢ i → object_at (named_where h i x by) j ≡ object_at h j
  where_other j ne = get-set-other h.list i j y ne

  unnamed_there : (n : Name) → Named h n i → ⊥
  unnamed_there n p = name_there n (sym bare ∙ sym (ap heap.tag_of there) ∙ p)

  pub where_still : StillNamed h (named_where h i x by)
  where_still = record { named = λ n j p. by_number j i (Named g n j) (λ same. absurd (unnamed_there n (subst (Named h n) same p))) (λ ne. ap heap.tag_of (where_other j ne) ∙ p) }

  -- what was kept up to here, where the function wasn't there yet
  pub where_keeps : {a : Objects} → Keeps a h → length a.list ≤ i → count_at (slice_get h.counts by) < 4294967295 → Keeps a (named_where h i x by)
  where_keeps {a = a} k new few = record {
    named = λ n j p. where_still.named n j (k.named n j p);
    bare = λ j lt e q. where_other j (λ same. omega (arith, lt, new, same)) ∙ k.bare j lt e q;
    plain = λ j lt e q. let p = k.plain j lt e q in let o = where_other j (λ same. omega (arith, lt, new, same)) in (ap heap.tag_of o ∙ p.0, ap heap.class_of o ∙ p.1);
    functions = λ j lt e. where_other j (λ same. omega (arith, lt, new, same)) ∙ k.functions j lt e;
    long = let l = length-set h.list i y in let m = k.long in omega (arith, l, m);
    counted = λ m. let c = k.counted m in let d = grown h by m few in omega (arith, c, d);
    older = λ m n j t lt. by_number j i (Named a (made_name m n) j)
        (λ same. absurd (next_number h by m n (sym (ap heap.tag_of (ap (object_at g) same ∙ where_named)) ∙ t) (let c = k.counted m in omega (arith, lt, c))))
        (λ ne. k.older m n j (sym (ap heap.tag_of (where_other j ne)) ∙ t) lt);
  }

  made_no_facet : (m n root k : ℕ) → tag.Made m n ≡ tag.Facet root k → ⊥
  made_no_facet m n root k e = cc

  pub where_no_node : {a : Objects} → NoNewNode a h → NoNewNode a (named_where h i x by)
  where_no_node {a = a} o = record {
    older = λ root k j t. by_number j i (Named a (facet_name root k) j)
        (λ same. absurd (made_no_facet by (count_at (slice_get h.counts by)) root k (sym (ap heap.tag_of (ap (object_at g) same ∙ where_named)) ∙ t)))
        (λ ne. o.older root k j (sym (ap heap.tag_of (where_other j ne)) ∙ t));
  }

  module _ {first : Objects} {places : r.Native → ℕ} {m : ℕ} (objects : ℕ → List Object) (o : Object) (below : by < 64) (large : length first.list ≤ i) (few : suc m ≤ 4294967295) (old : ObjectsAre first places objects h m) (new : IsNew first x) (is : Is (named_where h i x by) o (tagged x (tag.Made by (count_at (slice_get h.counts by))))) where
    number : count_at (slice_get h.counts by) ≡ length (objects by)
    number = ap count_at (old.count by below)

    longer : length (with_last by o objects by) ≡ length (objects by) + 1
    longer = ap length (last_there by o objects) ∙ length-append (objects by) (o ∷ [])

    raise : raised (length (objects by)) ≡ length (objects by) + 1
    raise = let f = old.few by in omega (arith, f, few)

    older : (k : Name) (j : ℕ) → j ≢ i → Stands objects h k j → Stands (with_last by o objects) (named_where h i x by) k j
    older k j ne s = record { stored = s.stored; there = where_other j ne ∙ s.there; is = named_still (with_last by o objects) where_still k s.stored (named_grown by o objects h k s.stored s.is) }

    new_name : (k : Name) → tag.Made by (count_at (slice_get h.counts by)) ≡ tag_of_name k → k ≡ made_name by (count_at (slice_get h.counts by))
    new_name k t = known_name (made_name by (count_at (slice_get h.counts by))) k (made_known by (count_at (slice_get h.counts by))) (sym t)

    newest : (k : Name) (j : ℕ) → j ≡ i → tag.Made by (count_at (slice_get h.counts by)) ≡ tag_of_name k → Stands (with_last by o objects) (named_where h i x by) k j
    newest k j at t = record {
      stored = tagged x (tag.Made by (count_at (slice_get h.counts by)));
      there = ap (object_at g) at ∙ where_named;
      is = subst (λ q. Rattle.row_simulation.proofs.Relation.IsNamed (with_last by o objects) (named_where h i x by) q (tagged x (tag.Made by (count_at (slice_get h.counts by))))) (sym (new_name k t))
          (record { object = o; known = rw (last_there by o objects, number) (get-push (objects by) o); is = is });
    }

    taken : (k : Name) (j : ℕ) → Named h k j → tag.Made by (count_at (slice_get h.counts by)) ≡ tag_of_name k → ⊥
    taken k j t u =
        let s = old.each (made_name by (count_at (slice_get h.counts by))) j (t ∙ ap tag_of_name (new_name k u)) in
        let lt : count_at (slice_get h.counts by) < length (objects by) = slice_get_within (objects by) _ s.is.object s.is.known in
        omega (arith, lt, number)

    -- the name that is borne at a place
    here : (k : Name) (j : ℕ) → j ≡ i → Named (named_where h i x by) k j → tag.Made by (count_at (slice_get h.counts by)) ≡ tag_of_name k
    here k j same t = sym (ap heap.tag_of (ap (object_at g) same ∙ where_named)) ∙ t

    away : (k : Name) (j : ℕ) → j ≢ i → Named (named_where h i x by) k j → Named h k j
    away k j ne t = sym (ap heap.tag_of (where_other j ne)) ∙ t

    marked_still : (j : ℕ) → j ≢ i → IsMarked h j → IsMarked (named_where h i x by) j
    marked_still j ne q = record { name = q.name; named = where_still.named q.name j q.named; class = ap heap.class_of (where_other j ne) ∙ q.class }

    pub objects_where : ObjectsAre first places (with_last by o objects) (named_where h i x by) (suc m)
    objects_where = record {
      each = λ k j t. by_number j i (Stands (with_last by o objects) g k j) (λ same. newest k j same (here k j same t)) (λ ne. older k j ne (old.each k j (away k j ne t)));
      once = λ k j l t u. by_number j i (j ≡ l)
          (λ same. by_number l i (j ≡ l) (λ same2. same ∙ sym same2) (λ ne2. absurd (taken k l (away k l ne2 u) (here k j same t))))
          (λ ne. by_number l i (j ≡ l) (λ same2. absurd (taken k j (away k j ne t) (here k l same2 u))) (λ ne2. old.once k j l (away k j ne t) (away k l ne2 u)));
      natives = λ f common. where_still.named (built_name f) _ (old.natives f common);
      reads = λ j k p e. by_number j i (IsMarked g j)
          (λ same. absurd (none-some p (sym (new.reads k) ∙ sym (ap (λ q. find (read_mark k) (heap.props_of q)) (ap (object_at g) same ∙ where_named)) ∙ e)))
          (λ ne. marked_still j ne (old.reads j k p (sym (ap (λ q. find (read_mark k) (heap.props_of q)) (where_other j ne)) ∙ e)));
      sets = λ j k p e. by_number j i (IsMarked g j)
          (λ same. absurd (none-some p (sym (new.sets k) ∙ sym (ap (λ q. find (set_mark k) (heap.props_of q)) (ap (object_at g) same ∙ where_named)) ∙ e)))
          (λ ne. marked_still j ne (old.sets j k p (sym (ap (λ q. find (set_mark k) (heap.props_of q)) (where_other j ne)) ∙ e)));
      above = λ j p e. by_number j i (p < length first.list)
          (λ same. new.above p (sym (ap heap.proto_of (ap (object_at g) same ∙ where_named)) ∙ e))
          (λ ne. old.above j p (sym (ap heap.proto_of (where_other j ne)) ∙ e));
      count = λ k lt. by_number k by (slice_get (slice_set h.counts by (raised (count_at (slice_get h.counts by)))) k ≡ Some (length (with_last by o objects k)))
          (λ same. subst (λ n. slice_get (slice_set h.counts by (raised (count_at (slice_get h.counts by)))) n ≡ Some (length (with_last by o objects n))) (sym same)
          (get-set h.counts by (length (objects by)) (raised (count_at (slice_get h.counts by))) (old.count by below) ∙ ap (λ n. let q : Option ℕ = Some n in q) (ap raised number ∙ raise ∙ sym longer)))
          (λ ne. get-set-other h.counts by k (raised (count_at (slice_get h.counts by))) ne ∙ old.count k lt ∙ ap (λ l. let q : Option ℕ = Some (length l) in q) (sym (last_other by k o objects ne)));
      few = λ k. by_number k by (length (with_last by o objects k) ≤ suc m) (λ same. subst (λ n. length (with_last by o objects n) ≤ suc m) (sym same) (let f = old.few by in omega (arith, longer, f))) (λ ne. subst (λ l. length l ≤ suc m) (sym (last_other by k o objects ne)) (let f = old.few k in omega (arith, f)));
      opened = λ j lt. where_other j (λ same. omega (arith, lt, large, same)) ∙ old.opened j lt;
      unnamed = λ j k lt t. old.unnamed j k lt (away k j (λ same. omega (arith, lt, large, same)) t);
      large = let l = length-set h.list i y in let q = old.large in omega (arith, l, q);
    }

    -- it has the name that the world gives
    pub where_given : Named (named_where h i x by) (made_name by (length (objects by))) i
    where_given = ap heap.tag_of where_named ∙ ap (tag.Made by) number
