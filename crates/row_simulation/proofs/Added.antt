-- A new object without a name leaves what corresponds: the array of keys that a loop over keys goes through, or what a module may import.
use Rattle.std.proofs.Common.{◌≡◌, ℕ, suc, ◌<◌, List, [], ◌∷◌, length, Some, sym, ap, ◌∙◌, arith}
use Rattle.std.proofs.lemmas.Option.{none-some}
use Rattle.std.proofs.lemmas.List.{length-append}
use Rattle.es3_objects.specs.declared.value.Tag.TheVariants as tag
use Rattle.es3_heap.specs.Objects as heap
use Rattle.es3_heap.specs.Objects.{Objects, object_at, with_object}
use Rattle.es3_heap.specs.Properties.{find}
use Rattle.rows.specs.Rows as r
use Rattle.cajita_meaning.specs.World.{Name, made_name, built_name, facet_name, Object}
use Rattle.heap_rows.specs.Marks.{read_mark, set_mark}
use Rattle.row_simulation.proofs.Names.{name_there}
use Rattle.row_simulation.proofs.Relation.{Named, tag_of_name, Stands, IsMarked, ObjectsAre, Keeps, NoNewNode, named_keep}
use Rattle.row_simulation.proofs.Row.{objects_step}
use Rattle.row_simulation.proofs.Changes.{IsNew, cases_at, get-push-other, named_within}

-- no module made it
pub added_keeps : (h : Objects) (x : heap.Object) → ((m k : ℕ) → x.tag ≡ tag.Made m k → ⊥) → Keeps h (with_object h x)
added_keeps h x unmade = record {
  named = λ n i p. ap heap.tag_of (get-push-other h.list i x (named_within h n i p)) ∙ p;
  bare = λ i lt e k. get-push-other h.list i x lt;
  plain = λ i lt e k. (ap heap.tag_of (get-push-other h.list i x lt) ∙ e, ap heap.class_of (get-push-other h.list i x lt) ∙ k);
  functions = λ i lt e. get-push-other h.list i x lt;
  long = let l = length-append h.list (x ∷ []) in omega (arith, l);
  counted = λ m. omega arith;
  older = λ m k i t lt. cases_at h.list x i (λ q. heap.tag_of q ≡ tag.Made m k → Named h (made_name m k) i) (λ less f. f) (λ at f. absurd (unmade m k f)) (λ f. absurd (name_there (made_name m k) f)) t;
}

-- and it is no node
pub added_no_node : (h : Objects) (x : heap.Object) → ((root k : ℕ) → x.tag ≡ tag.Facet root k → ⊥) → NoNewNode h (with_object h x)
added_no_node h x other = record { older = λ root k i t. cases_at h.list x i (λ q. heap.tag_of q ≡ tag.Facet root k → Named h (facet_name root k) i) (λ less f. f) (λ at f. absurd (other root k f)) (λ f. absurd (name_there (facet_name root k) f)) t }

-- one that awaits its name
pub awaiting_keeps : (h : Objects) (x : heap.Object) → x.tag ≡ tag.None → Keeps h (with_object h x)
awaiting_keeps h x bare = added_keeps h x (λ m k e. name_there (made_name m k) (sym bare ∙ e))

pub awaiting_no_node : (h : Objects) (x : heap.Object) → x.tag ≡ tag.None → NoNewNode h (with_object h x)
awaiting_no_node h x bare = added_no_node h x (λ root k e. name_there (facet_name root k) (sym bare ∙ e))

module _ {first : Objects} {places : r.Native → ℕ} {m : ℕ} (objects : ℕ → List Object) (h : Objects) (x : heap.Object) (old : ObjectsAre first places objects h m) (new : IsNew first x) where
  there : (i : ℕ) → i < length h.list → object_at (with_object h x) i ≡ object_at h i
  there i lt = get-push-other h.list i x lt

  -- what has a name was there before
  was : (n : Name) (i : ℕ) → Named (with_object h x) n i → i < length h.list
  was n i t = cases_at h.list x i (λ q. heap.tag_of q ≡ tag_of_name n → i < length h.list) (λ lt f. lt) (λ at f. absurd (name_there n (sym new.bare ∙ f))) (λ f. absurd (name_there n f)) t

  had : (n : Name) (i : ℕ) → Named (with_object h x) n i → Named h n i
  had n i t = ap heap.tag_of (sym (there i (was n i t))) ∙ t

  marked_still : (i : ℕ) → i < length h.list → IsMarked h i → IsMarked (with_object h x) i
  marked_still i lt q = record { name = q.name; named = ap heap.tag_of (there i lt) ∙ q.named; class = ap heap.class_of (there i lt) ∙ q.class }

  stands_still : (n : Name) (i : ℕ) → i < length h.list → Stands objects h n i → Stands objects (with_object h x) n i
  stands_still n i lt s = record { stored = s.stored; there = there i lt ∙ s.there; is = named_keep objects (awaiting_keeps h x new.bare) n s.stored s.is }

  pub objects_with : ObjectsAre first places objects (with_object h x) m
  objects_with = record {
    each = λ n i t. stands_still n i (was n i t) (old.each n i (had n i t));
    once = λ n i j t u. old.once n i j (had n i t) (had n j u);
    natives = λ f common. (awaiting_keeps h x new.bare).named (built_name f) _ (old.natives f common);
    reads = λ i k p e. cases_at h.list x i (λ q. find (read_mark k) (heap.props_of q) ≡ Some p → IsMarked (with_object h x) i) (λ lt f. marked_still i lt (old.reads i k p f)) (λ at f. absurd (none-some p (sym (new.reads k) ∙ f))) (λ f. absurd (none-some p f)) e;
    sets = λ i k p e. cases_at h.list x i (λ q. find (set_mark k) (heap.props_of q) ≡ Some p → IsMarked (with_object h x) i) (λ lt f. marked_still i lt (old.sets i k p f)) (λ at f. absurd (none-some p (sym (new.sets k) ∙ f))) (λ f. absurd (none-some p f)) e;
    above = λ i p e. cases_at h.list x i (λ q. heap.proto_of q ≡ Some p → p < length first.list) (λ lt f. old.above i p f) (λ at f. new.above p f) (λ f. absurd (none-some p f)) e;
    count = old.count;
    few = old.few;
    opened = λ i lt. there i (omega (arith, lt, old.large)) ∙ old.opened i lt;
    unnamed = λ i n lt t. old.unnamed i n lt (had n i t);
    large = let l = length-append h.list (x ∷ []) in omega (arith, l, old.large);
  }

  pub objects_added : ObjectsAre first places objects (with_object h x) (suc m)
  objects_added = objects_step objects_with
