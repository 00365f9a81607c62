-- When the objects of ES3 stand for those of a world.
use Rattle.std.specs.Prelude.{◌≡◌, ℕ, zero, suc, ◌≤◌, ◌<◌, Bool, true, false, List, [], ◌∷◌, ◌++◌, length, Option, Some, None}
use Rattle.std.specs.Prelude.{slice_get, codes, is_some}
use Rattle.caja_units.specs.Units.{is_hidden}
use Rattle.es3_objects.specs.declared.value.Value as es_value
use Rattle.es3_objects.specs.declared.value.Value.TheVariants as es
use Rattle.es3_objects.specs.declared.value.Class.TheVariants as class
use Rattle.es3_objects.specs.declared.value.FuncKind.{FuncKind}
use Rattle.es3_objects.specs.declared.value.FuncKind.TheVariants as kind
use Rattle.es3_objects.specs.declared.value.Proto.TheVariants as proto
use Rattle.es3_objects.specs.declared.value.Tag.{Tag}
use Rattle.es3_objects.specs.declared.value.Tag.TheVariants as tag
use Rattle.es3_heap.specs.Objects as heap
use Rattle.es3_heap.specs.Objects.{Property, Objects, plain_attrs, hidden_attrs}
use Rattle.es3_heap.specs.Properties.{find, own}
use Rattle.es3_heap.specs.Making.{proto_id, length_property, item_properties, count_at}
use Rattle.rows.specs.Rows as r
use Rattle.rows.specs.Names.{sort_of, tools}
use Rattle.rows.specs.Guards.{maker_name}
use Rattle.cajita_meaning.specs.World.{Name, made_name, cell_name, own_name, built_name, tools_name, facet_name, forward_name, Value, undefined, null, truth, number, text, object, Pairs, Object, a_record, an_array, a_closure, an_error, value_at}
use Rattle.cajita_meaning.specs.Doing.{get_and_set, tool_pairs}
use Rattle.heap_rows.specs.Marks.{read_mark, set_mark, frozen_mark, simple_mark}
use Rattle.heap_rows.specs.Natives.{tag_of_native, tag_of_tools, is_common, kind_of, own_number, cell_number}
use Rattle.heap_rows.specs.Doing.{guests, sort_seen, proto_of, facet_object}

abbrev pub EsValue : Type 0
EsValue = es_value.Value

-- the name of an object in the log, on the other side
abbrev pub tag_of_name : Name → Tag
tag_of_name (made_name m n) = tag.Made m n
tag_of_name (cell_name c n) = tag.Cell c n
tag_of_name (own_name m n) = tag.Own m n
tag_of_name (built_name f) = tag_of_native f
tag_of_name (tools_name t) = tag_of_tools t
tag_of_name (facet_name r n) = tag.Facet r n
tag_of_name (forward_name m p c n) = tag.Forward m p (Some n)

abbrev pub Named : Objects → Name → ℕ → Type 0
Named h n i = heap.tag_of (heap.object_at h i) ≡ tag_of_name n

abbrev pub Val : Objects → Value → EsValue → Type 0
Val h undefined es.Undefined = Unit {0}
Val h null es.Null = Unit {0}
Val h (truth a) (es.Bool b) = a ≡ b
Val h (number a) (es.Num b) = a ≡ b
Val h (text a) (es.Text b) = a ≡ b
Val h (object n) (es.Obj i) = Named h n i
Val h _ _ = ⊥

abbrev pub Vals : Objects → List Value → List EsValue → Type 0
Vals h [] [] = Unit {0}
Vals h (v ∷ vs) (e ∷ es) = Val h v e × Vals h vs es
Vals h _ _ = ⊥

abbrev pub PairsAre : Objects → Pairs → List (List ℕ × EsValue) → Type 0
PairsAre h [] [] = Unit {0}
PairsAre h ((k, v) ∷ ps) ((j, e) ∷ qs) = (k ≡ j) × Val h v e × PairsAre h ps qs
PairsAre h _ _ = ⊥

-- each key once
abbrev pub Once : List Property → Type 0
Once [] = Unit {0}
Once (p ∷ ps) = (find p.key ps ≡ None) × Once ps

-- the properties of a record: its public keys are the pairs, in order, and all others are marks; a mark for reading stands where the key is, one for
-- writing where besides the record isn't frozen
pub record PropsAre (h : Objects) (frozen : Bool) (ps : Pairs) (props : List Property) : Type 0 where
  pub pairs : PairsAre h ps (guests props)
  pub closed : is_some (find frozen_mark props) ≡ frozen
  pub reads : (k : List ℕ) (p : Property) → find (read_mark k) props ≡ Some p → (p.value ≡ es.Bool true) × (is_some (value_at k ps) ≡ true)
  pub sets : (k : List ℕ) (p : Property) → find (set_mark k) props ≡ Some p → (p.value ≡ es.Bool true) × (is_some (value_at k ps) ≡ true) × (frozen ≡ false)
  pub plain : (k : List ℕ) (p : Property) → is_hidden k ≡ false → find k props ≡ Some p → p.attrs ≡ plain_attrs
  pub marks : (k : List ℕ) (p : Property) → is_hidden k ≡ true → find k props ≡ Some p → p.attrs ≡ hidden_attrs
  pub once : Once props
  pub no_text : find (codes "toString") props ≡ None
  pub no_value : find (codes "valueOf") props ≡ None

-- what is no function isn't called
pub record IsRecord (h : Objects) (frozen : Bool) (ps : Pairs) (o : heap.Object) : Type 0 where
  pub class : o.class ≡ class.Object
  pub no_call : o.callable ≡ None
  pub proto : o.proto ≡ Some (proto_id proto.Object)
  pub props : PropsAre h frozen ps o.props

-- the mark of a frozen array stands last
abbrev pub closing : Bool → List Property
closing true = record { key = frozen_mark; value = es.Bool true; attrs = hidden_attrs } ∷ []
closing false = []

-- an array has no holes
pub record IsArray (h : Objects) (frozen : Bool) (vs : List Value) (o : heap.Object) : Type 0 where
  pub class : o.class ≡ class.Array
  pub no_call : o.callable ≡ None
  pub proto : o.proto ≡ Some (proto_id proto.Array)
  pub items : List EsValue
  pub props : o.props ≡ length_property (length items) ∷ (item_properties 0 items ++ closing frozen)
  pub few : length items < 4294967296
  pub are : Vals h vs items

pub record IsFunction (sort : r.Sort) (o : heap.Object) : Type 0 where
  pub class : o.class ≡ class.Function
  pub proto : o.proto ≡ Some (proto_id proto.Function)
  pub kind : sort_seen (is_some (find simple_mark o.props)) o.callable ≡ r.a_function sort
  pub no_text : find (codes "toString") o.props ≡ None
  pub no_value : find (codes "valueOf") o.props ≡ None

-- a function that no module made: by its kind it is known what does what it does
pub record IsNative (sort : r.Sort) (k : FuncKind) (o : heap.Object) : Type 0 where
  pub is : IsFunction sort o
  pub callable : o.callable ≡ Some (record { kind = k; maker = 0 })

abbrev pub value_is : Option Property → EsValue → Type 0
value_is None e = ⊥
value_is (Some p) e = p.value ≡ e

pub record IsError (maker : r.Maker) (message : List ℕ) (o : heap.Object) : Type 0 where
  pub class : o.class ≡ class.Error
  pub no_call : o.callable ≡ None
  pub proto : o.proto ≡ Some (proto_id (proto_of maker))
  pub has_name : value_is (find (codes "name") o.props) (es.Text (maker_name maker))
  pub has_message : value_is (find (codes "message") o.props) (es.Text message)
  pub no_text : find (codes "toString") o.props ≡ None
  pub no_value : find (codes "valueOf") o.props ≡ None

-- a closure's code is left to the law of function expressions
abbrev pub Is : Objects → Object → heap.Object → Type 0
Is h (a_record frozen ps) o = IsRecord h frozen ps o
Is h (an_array frozen vs) o = IsArray h frozen vs o
Is h (a_closure f chain) o = IsFunction r.closure o
Is h (an_error maker message) o = IsError maker message o

pub record IsMade (objects : List Object) (h : Objects) (number : ℕ) (o : heap.Object) : Type 0 where
  pub object : Object
  pub known : slice_get objects number ≡ Some object
  pub is : Is h object o

-- what a named object is. Forwarders and services of a host aren't among these objects: none has such a name
abbrev pub IsNamed : (ℕ → List Object) → Objects → Name → heap.Object → Type 0
IsNamed objects h (made_name m n) o = IsMade (objects m) h n o
IsNamed objects h (cell_name c zero) o = IsRecord h true (get_and_set (cell_name c 1) (cell_name c 2)) o
IsNamed objects h (cell_name c (suc i)) o = (i < 2) × IsNative r.simple (kind.Simple (cell_number c (suc i))) o
IsNamed objects h (own_name m i) o = (i < 2) × IsNative r.simple (kind.Simple (own_number m i)) o
IsNamed objects h (built_name f) o = (is_common f ≡ true) × IsNative (sort_of f) (kind_of f) o
IsNamed objects h (tools_name t) o = IsRecord h true (tool_pairs (tools t)) o
IsNamed objects h (facet_name r k) o = o ≡ facet_object r k
IsNamed objects h (forward_name m p c i) o = ⊥

pub record Stands (objects : ℕ → List Object) (h : Objects) (n : Name) (i : ℕ) : Type 0 where
  pub stored : heap.Object
  pub there : heap.object_at h i ≡ Some stored
  pub is : IsNamed objects h n stored

-- an object that may have marks of keys: it has a name, and is no array, function or error
pub record IsMarked (h : Objects) (i : ℕ) : Type 0 where
  pub name : Name
  pub named : Named h name i
  pub class : heap.class_of (heap.object_at h i) ≡ class.Object

-- Named objects stand for those of the world, each of which has one place; `first` are those without names, the prototypes among them, which stay as they are;
-- `places` says where the common built-ins are. A module has named no more objects than steps were taken.
pub record ObjectsAre (first : Objects) (places : r.Native → ℕ) (objects : ℕ → List Object) (h : Objects) (m : ℕ) : Type 0 where
  pub each : (n : Name) (i : ℕ) → Named h n i → Stands objects h n i
  pub once : (n : Name) (i j : ℕ) → Named h n i → Named h n j → i ≡ j
  pub natives : (f : r.Native) → is_common f ≡ true → Named h (built_name f) (places f)
  pub reads : (i : ℕ) (k : List ℕ) (p : Property) → own h i (read_mark k) ≡ Some p → IsMarked h i
  pub sets : (i : ℕ) (k : List ℕ) (p : Property) → own h i (set_mark k) ≡ Some p → IsMarked h i
  pub above : (i p : ℕ) → heap.proto_of (heap.object_at h i) ≡ Some p → p < length first.list
  -- of 64 modules, how many objects each has named
  pub count : (n : ℕ) → n < 64 → slice_get h.counts n ≡ Some (length (objects n))
  pub few : (n : ℕ) → length (objects n) ≤ m
  pub opened : (i : ℕ) → i < length first.list → heap.object_at h i ≡ heap.object_at first i
  pub unnamed : (i : ℕ) (n : Name) → i < length first.list → Named h n i → ⊥
  pub large : length first.list ≤ length h.list

-- what persists: the names of objects; an array without a name, and a function, stay as they are, and another object without a name stays one of its class; none goes
-- away, no count falls, and no older name of a module comes to another object
pub record Keeps (a b : Objects) : Type 0 where
  pub named : (n : Name) (i : ℕ) → Named a n i → Named b n i
  pub bare : (i : ℕ) → i < length a.list → heap.tag_of (heap.object_at a i) ≡ tag.None → heap.class_of (heap.object_at a i) ≡ class.Array → heap.object_at b i ≡ heap.object_at a i
  pub plain : (i : ℕ) → i < length a.list → heap.tag_of (heap.object_at a i) ≡ tag.None → heap.class_of (heap.object_at a i) ≡ class.Object → (heap.tag_of (heap.object_at b i) ≡ tag.None) × (heap.class_of (heap.object_at b i) ≡ class.Object)
  pub functions : (i : ℕ) → i < length a.list → heap.class_of (heap.object_at a i) ≡ class.Function → heap.object_at b i ≡ heap.object_at a i
  pub long : length a.list ≤ length b.list
  pub counted : (m : ℕ) → count_at (slice_get a.counts m) ≤ count_at (slice_get b.counts m)
  pub older : (m k i : ℕ) → Named b (made_name m k) i → k < count_at (slice_get a.counts m) → Named a (made_name m k) i

-- and where no node is made: each object that stands for a node did so before
pub record NoNewNode (a b : Objects) : Type 0 where
  pub older : (root k i : ℕ) → Named b (facet_name root k) i → Named a (facet_name root k) i

-- an object without a name, of the class Object, behind the first ones
pub record IsPlain (first h : Objects) (i : ℕ) : Type 0 where
  pub object : heap.Object
  pub there : heap.object_at h i ≡ Some object
  pub tag : object.tag ≡ tag.None
  pub class : object.class ≡ class.Object
  pub large : length first.list ≤ i
