-- One more object, with a name that none has, leaves what corresponds.
use Rattle.std.proofs.Common.{◌≡◌, ℕ, ◌<◌, List, [], ◌∷◌, length, Some, None, sym, ap, ◌∙◌, subst, arith}
use Rattle.std.proofs.lemmas.Option.{none-some}
use Rattle.std.proofs.lemmas.List.{length-append}
use Rattle.es3_objects.specs.declared.value.Tag.TheVariants as tag
use Rattle.es3_heap.specs.Objects as heap
use Rattle.es3_heap.specs.Objects.{Objects, object_at, with_object}
use Rattle.es3_heap.specs.Properties.{find}
use Rattle.rows.specs.Rows as r
use Rattle.cajita_meaning.specs.World.{Name, built_name, Object}
use Rattle.heap_rows.specs.Marks.{read_mark, set_mark}
use Rattle.row_simulation.proofs.Names.{name_there, name_at, known_name}
use Rattle.row_simulation.proofs.Relation.{Named, tag_of_name, IsNamed, Stands, IsMarked, ObjectsAre, Keeps, named_keep}
use Rattle.row_simulation.proofs.Changes.{cases_at, get-push, get-push-other}
use Rattle.row_simulation.proofs.Added.{added_keeps}

abbrev pub Fresh : Objects → Name → Type 0
Fresh h n = (i : ℕ) → Named h n i → ⊥

pub record IsFresh (first : Objects) (objects : ℕ → List Object) (h : Objects) (n : Name) (x : heap.Object) : Type 0 where
  pub known : name_at (tag_of_name n) ≡ Some n
  pub tagged : x.tag ≡ tag_of_name n
  pub fresh : Fresh h n
  pub is : IsNamed objects h n x
  pub above : (p : ℕ) → x.proto ≡ Some p → p < length first.list
  pub reads : (k : List ℕ) → find (read_mark k) x.props ≡ None
  pub sets : (k : List ℕ) → find (set_mark k) x.props ≡ None
  pub unmade : (m k : ℕ) → x.tag ≡ tag.Made m k → ⊥

pub named_added : {first : Objects} {places : r.Native → ℕ} {m : ℕ} {objects : ℕ → List Object} {h : Objects} → ObjectsAre first places objects h m → (n : Name) (x : heap.Object) → IsFresh first objects h n x → ObjectsAre first places objects (with_object h x) m
named_added {first = first} {objects = objects} {h = h} old n x new = record {
  each = λ k i t. cases_at h.list x i (λ q. heap.tag_of q ≡ tag_of_name k → Stands objects (with_object h x) k i) (λ lt f. still k i lt (old.each k i f)) (λ at f. newest k i at f) (λ f. absurd (name_there k f)) t;
  once = λ k i j t u. one k i j t u;
  natives = λ f common. keeps.named (built_name f) _ (old.natives f common);
  reads = λ i k p e. cases_at h.list x i (λ q. find (read_mark k) (heap.props_of q) ≡ Some p → IsMarked (with_object h x) i) (λ lt f. marked_still i lt (old.reads i k p f)) (λ at f. absurd (none-some p (sym (new.reads k) ∙ f))) (λ f. absurd (none-some p f)) e;
  sets = λ i k p e. cases_at h.list x i (λ q. find (set_mark k) (heap.props_of q) ≡ Some p → IsMarked (with_object h x) i) (λ lt f. marked_still i lt (old.sets i k p f)) (λ at f. absurd (none-some p (sym (new.sets k) ∙ f))) (λ f. absurd (none-some p f)) e;
  above = λ i p e. cases_at h.list x i (λ q. heap.proto_of q ≡ Some p → p < length first.list) (λ lt f. old.above i p f) (λ at f. new.above p f) (λ f. absurd (none-some p f)) e;
  count = old.count;
  few = old.few;
  opened = λ i lt. there i (omega (arith, lt, old.large)) ∙ old.opened i lt;
  unnamed = λ i k lt t. old.unnamed i k lt (ap heap.tag_of (sym (there i (omega (arith, lt, old.large)))) ∙ t);
  large = let l = length-append h.list (x ∷ []) in omega (arith, l, old.large);
}
  where
    keeps : Keeps h (with_object h x)
    keeps = added_keeps h x new.unmade

    there : (i : ℕ) → i < length h.list → object_at (with_object h x) i ≡ object_at h i
    there i lt = get-push-other h.list i x lt

    still : (k : Name) (i : ℕ) → i < length h.list → Stands objects h k i → Stands objects (with_object h x) k i
    still k i lt s = record { stored = s.stored; there = there i lt ∙ s.there; is = named_keep objects (added_keeps h x new.unmade) k s.stored s.is }

    newest : (k : Name) (i : ℕ) → i ≡ length h.list → x.tag ≡ tag_of_name k → Stands objects (with_object h x) k i
    newest k i at t =
        let alike : k ≡ n = known_name n k new.known (sym t ∙ new.tagged) in
        record { stored = x; there = rw at (get-push h.list x); is = subst (λ q. IsNamed objects (with_object h x) q x) (sym alike) (named_keep objects (added_keeps h x new.unmade) n x new.is) }

    marked_still : (i : ℕ) → i < length h.list → IsMarked h i → IsMarked (with_object h x) i
    marked_still i lt q = record { name = q.name; named = ap heap.tag_of (there i lt) ∙ q.named; class = ap heap.class_of (there i lt) ∙ q.class }

    taken : (k : Name) (i : ℕ) → Named h k i → x.tag ≡ tag_of_name k → ⊥
    taken k i t u = new.fresh i (t ∙ sym u ∙ new.tagged)

    one : (k : Name) (i j : ℕ) → Named (with_object h x) k i → Named (with_object h x) k j → i ≡ j
    one k i j t u =
        cases_at h.list x i (λ q. heap.tag_of q ≡ tag_of_name k → i ≡ j)
        (λ lt f. cases_at h.list x j (λ q. heap.tag_of q ≡ tag_of_name k → i ≡ j) (λ lt2 f2. old.once k i j f f2) (λ at2 f2. absurd (taken k i f f2)) (λ f2. absurd (name_there k f2)) u)
        (λ at f. cases_at h.list x j (λ q. heap.tag_of q ≡ tag_of_name k → i ≡ j) (λ lt2 f2. absurd (taken k j f2 f)) (λ at2 f2. at ∙ sym at2) (λ f2. absurd (name_there k f2)) u)
        (λ f. absurd (name_there k f)) t

-- a name stays fresh where another one comes
pub fresh_still : (h : Objects) (x : heap.Object) (n : Name) → Fresh h n → (x.tag ≡ tag_of_name n → ⊥) → Fresh (with_object h x) n
fresh_still h x n fresh other i t = cases_at h.list x i (λ q. heap.tag_of q ≡ tag_of_name n → ⊥) (λ lt f. fresh i f) (λ at f. other f) (λ f. name_there n f) t

-- a name that was there, or that of the new object
pub was_or_is : (h : Objects) (x : heap.Object) (n : Name) (P : Type 0) → ((j : ℕ) → Named h n j → P) → (x.tag ≡ tag_of_name n → P) → (j : ℕ) → Named (with_object h x) n j → P
was_or_is h x n P was is j t = cases_at h.list x j (λ q. heap.tag_of q ≡ tag_of_name n → P) (λ lt f. was j f) (λ at f. is f) (λ f. absurd (name_there n f)) t
