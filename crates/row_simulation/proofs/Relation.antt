-- What persists of values, properties and objects that correspond.
use Rattle.std.proofs.Common.{◌≡◌, List, [], ◌∷◌, ℕ, zero, suc, Bool, ap}
use Rattle.es3_objects.specs.declared.value.Value.TheVariants as es
use Rattle.es3_objects.specs.declared.value.Class.TheVariants as class
use Rattle.es3_heap.specs.Objects as heap
use Rattle.es3_heap.specs.Objects.{Property, Objects}
use Rattle.cajita_meaning.specs.World.{Value, undefined, null, truth, number, text, object, Pairs, Object, a_record, an_array, a_closure, an_error, Name, made_name, cell_name, own_name, built_name, tools_name, facet_name, forward_name}
use Rattle.heap_rows.specs.Doing.{facet_object}
pub use Rattle.row_simulation.specs.Correspond.{EsValue, tag_of_name, Named, Val, Vals, PairsAre, Once, PropsAre, IsRecord, closing, IsArray, IsFunction, IsNative, value_is, IsError, Is, IsMade, IsNamed, Stands, IsMarked, ObjectsAre, Keeps, NoNewNode}

-- names of objects are still theirs
pub record StillNamed (a b : Objects) : Type 0 where
  pub named : (n : Name) (i : ℕ) → Named a n i → Named b n i

still : {a b : Objects} → Keeps a b → StillNamed a b
still k = record { named = k.named }

pub val_still : {a b : Objects} → StillNamed a b → (v : Value) (e : EsValue) → Val a v e → Val b v e
val_still k undefined es.Undefined p = tt
val_still k null es.Null p = tt
val_still k (truth x) (es.Bool y) p = p
val_still k (number x) (es.Num y) p = p
val_still k (text x) (es.Text y) p = p
val_still k (object n) (es.Obj i) p = k.named n i p
val_still k _ _ p = absurd p

pub vals_still : {a b : Objects} → StillNamed a b → (vs : List Value) (es : List EsValue) → Vals a vs es → Vals b vs es
vals_still k [] [] p = tt
vals_still k (v ∷ vs) (e ∷ es) p = (val_still k v e p.0, vals_still k vs es p.1)
vals_still k _ _ p = absurd p

pub pairs_still : {a b : Objects} → StillNamed a b → (ps : Pairs) (qs : List (List ℕ × EsValue)) → PairsAre a ps qs → PairsAre b ps qs
pairs_still k [] [] p = tt
pairs_still k ((x, v) ∷ ps) ((y, e) ∷ qs) p = (p.0, val_still k v e p.1, pairs_still k ps qs p.2)
pairs_still k _ _ p = absurd p

pub props_still : {a b : Objects} {frozen : Bool} {ps : Pairs} {props : List Property} → StillNamed a b → PropsAre a frozen ps props → PropsAre b frozen ps props
props_still k p = record { pairs = pairs_still k _ _ p.pairs; closed = p.closed; reads = p.reads; sets = p.sets; plain = p.plain; marks = p.marks; once = p.once; no_text = p.no_text; no_value = p.no_value }

record_still : {a b : Objects} {frozen : Bool} {ps : Pairs} {o : heap.Object} → StillNamed a b → IsRecord a frozen ps o → IsRecord b frozen ps o
record_still k p = record { class = p.class; no_call = p.no_call; proto = p.proto; props = props_still k p.props }

pub is_still : {a b : Objects} → StillNamed a b → (o : Object) (c : heap.Object) → Is a o c → Is b o c
is_still k (a_record frozen ps) c p = record_still k p
is_still k (an_array frozen vs) c p = record { class = p.class; no_call = p.no_call; proto = p.proto; items = p.items; props = p.props; few = p.few; are = vals_still k vs p.items p.are }
is_still k (a_closure f chain) c p = p
is_still k (an_error maker message) c p = p

pub named_still : {a b : Objects} (objects : ℕ → List Object) → StillNamed a b → (n : Name) (o : heap.Object) → IsNamed objects a n o → IsNamed objects b n o
named_still objects k (made_name m n) o p = record { object = p.object; known = p.known; is = is_still k p.object o p.is }
named_still objects k (cell_name c zero) o p = record_still k p
named_still objects k (cell_name c (suc i)) o p = p
named_still objects k (own_name m i) o p = p
named_still objects k (built_name f) o p = p
named_still objects k (tools_name t) o p = record_still k p
named_still objects k (facet_name root i) o p = p
named_still objects k (forward_name m p c i) o q = absurd q

-- the object of a node is of its class
pub facet_class : (root k : ℕ) (o : heap.Object) → o ≡ facet_object root k → o.class ≡ class.Node
facet_class root k o is = ap (λ (o : heap.Object). o.class) is

-- so where all persists

pub val_keep : {a b : Objects} → Keeps a b → (v : Value) (e : EsValue) → Val a v e → Val b v e
val_keep k v e p = val_still (still k) v e p

pub vals_keep : {a b : Objects} → Keeps a b → (vs : List Value) (es : List EsValue) → Vals a vs es → Vals b vs es
vals_keep k vs es p = vals_still (still k) vs es p

pub pairs_keep : {a b : Objects} → Keeps a b → (ps : Pairs) (qs : List (List ℕ × EsValue)) → PairsAre a ps qs → PairsAre b ps qs
pairs_keep k ps qs p = pairs_still (still k) ps qs p

pub props_keep : {a b : Objects} {frozen : Bool} {ps : Pairs} {props : List Property} → Keeps a b → PropsAre a frozen ps props → PropsAre b frozen ps props
props_keep k p = props_still (still k) p

pub is_keep : {a b : Objects} → Keeps a b → (o : Object) (c : heap.Object) → Is a o c → Is b o c
is_keep k o c p = is_still (still k) o c p

pub named_keep : {a b : Objects} (objects : ℕ → List Object) → Keeps a b → (n : Name) (o : heap.Object) → IsNamed objects a n o → IsNamed objects b n o
named_keep objects k n o p = named_still objects (still k) n o p
