-- What a row does among the objects of ES3.
use Rattle.std.specs.Prelude.{ℕ, Bool, true, false, ◌||◌, ◌&&◌, List, [], ◌∷◌, ◌++◌, Option, Some, None, Result, Ok, Err, is_some, not, length, nat_lt, nat_eq, slice_get, codes, map, option_map, if◌then◌else◌}
use Rattle.plans.specs.Plans.{Fault, number_fault}
use Rattle.page_deeds.specs.Deeds.{Label}
use Rattle.page_deeds.specs.Shown.{Ended}
use Rattle.caja_units.specs.Units.{is_hidden}
use Rattle.es3_objects.specs.declared.value.Value.{Value}
use Rattle.es3_objects.specs.declared.value.Value.TheVariants as v
use Rattle.es3_objects.specs.declared.value.Class.{Class}
use Rattle.es3_objects.specs.declared.value.Class.TheVariants as class
use Rattle.es3_objects.specs.declared.value.FuncKind.{FuncKind}
use Rattle.es3_objects.specs.declared.value.FuncKind.TheVariants as kind
use Rattle.es3_objects.specs.declared.value.Tag.{Tag}
use Rattle.es3_objects.specs.declared.value.Tag.TheVariants as tag
use Rattle.es3_objects.specs.declared.value.Proto.{Proto}
use Rattle.es3_objects.specs.declared.value.Proto.TheVariants as proto
use Rattle.es3_heap.specs.Objects.{Property, Callable, Object, Objects, plain_attrs, hidden_attrs, object_at, props_of, class_of, callable_of, tag_of, with_object}
use Rattle.es3_heap.specs.Properties.{own, value_of, put, delete, defined}
use Rattle.es3_heap.specs.Items.{set_items}
use Rattle.es3_heap.specs.Making.{proto_id, array_object, error_object, named as with_name}
use Rattle.es3_convert.specs.Conversions.{text_of, array_items, text_within, joined}
use Rattle.es3_convert.specs.Numbers.{number_of}
use Rattle.es3_convert.specs.Comparisons.{strictly_equal}
use Rattle.es3_language.specs.Natives.{Reply, value_reply, throw_reply, invoke_reply, stop_reply}
use Rattle.rows.specs.Branches.{branch, around as nodes_around}
use Rattle.rows.specs.Document as doc
use Rattle.rows.specs.Document.{Node, Change}
use Rattle.rows.specs.Rows as r
use Rattle.rows.specs.Rows.{Handle, Sight, Ending, Touch, Row, handles, keyed_handles, Maker}
use Rattle.rows.specs.Public.{is_bad}
use Rattle.rows.specs.Names.{is_of_text}
use Rattle.rows.specs.Guards.{maker_name}
use Rattle.heap_rows.specs.Marks.{is_frozen, grant_read, grant_set, drop_marks, freeze, simple_mark, frozen_mark}
use Rattle.heap_rows.specs.Natives.{receiver_of, maker_at}

-- what the log prints: an object with a name is touched, a module says a text, a node of a root changed; a turn of a page ended so, or there was nothing to do
pub data Told : Type 0 where
  touched : ℕ → Touch → Tag → List (List ℕ) → Told
  said : ℕ → List ℕ → Told
  changed_node : ℕ → ℕ → Change → Told
  ended : Label → Ended Tag → Told

-- touches are printed where they are asked for, and all else always
abbrev pub heard : Bool → List Told → List Told
heard touching [] = []
heard touching (touched m t g k ∷ l) = if touching then touched m t g k ∷ heard touching l else heard touching l
heard touching (said m us ∷ l) = said m us ∷ heard touching l
heard touching (changed_node root k c ∷ l) = changed_node root k c ∷ heard touching l
heard touching (ended x e ∷ l) = ended x e ∷ heard touching l

abbrev pub or_nothing : Option Value → Value
or_nothing None = v.Undefined
or_nothing (Some x) = x

abbrev pub method_in : (r.Native → ℕ) → Value → r.Native → Value
method_in fs (v.Obj o) f = v.Obj (fs f)
method_in fs (v.Text us) f = if is_of_text f then v.Obj (fs f) else v.Undefined
method_in fs x f = v.Undefined

-- a handle's value: a built-in function stands where the page has put it
abbrev pub value_in : (r.Native → ℕ) → List Value → Handle → Value
value_in fs vs r.undefined = v.Undefined
value_in fs vs r.null = v.Null
value_in fs vs (r.truth b) = v.Bool b
value_in fs vs (r.number n) = v.Num n
value_in fs vs (r.text us) = v.Text us
value_in fs vs (r.method_of o f) = method_in fs (value_in fs vs o) f
value_in fs vs (r.held n) = or_nothing (slice_get vs n)

-- what is seen of a value, and the values that it has

pub record Seen : Type 0 where
  pub sight : Sight
  pub values : List Value

abbrev pub only : Sight → Seen
only s = record { sight = s; values = [] }

-- the properties that a module sees, in order
abbrev pub guests : List Property → List (List ℕ × Value)
guests [] = []
guests (p ∷ ps) = if is_hidden p.key then guests ps else (p.key, p.value) ∷ guests ps

-- a function of a text is one for modules where it has its mark
abbrev pub sort_seen : Bool → Option Callable → Sight
sort_seen simple None = r.a_stranger true
sort_seen simple (Some c) = by_kind c.kind
  where
    by_kind : FuncKind → Sight
    by_kind (kind.Code n) = if simple then r.a_function r.closure else r.a_stranger true
    by_kind (kind.Simple n) = r.a_function r.simple
    by_kind (kind.Constructor n) = r.a_function (r.constructor (maker_at n))
    by_kind (kind.Exophoric n w) = r.a_function (r.exophoric (receiver_of w))

abbrev pub text_in : Value → List ℕ
text_in (v.Text us) = us
text_in x = []

abbrev pub see_object : ℕ → Objects → ℕ → Class → Seen
see_object n h o class.Object = record { sight = r.a_record (is_frozen h o) (keyed_handles n (guests (props_of (object_at h o)))); values = map (λ p. p.1) (guests (props_of (object_at h o))) }
see_object n h o class.Array = record { sight = r.an_array (is_frozen h o) (handles n (array_items h o)); values = array_items h o }
see_object n h o class.Function = only (sort_seen (is_some (own h o simple_mark)) (callable_of (object_at h o)))
see_object n h o class.Error = only (r.an_error (text_in (value_of (own h o (codes "name")))) (text_in (value_of (own h o (codes "message")))))
see_object n h o class.Node = only r.a_node

abbrev pub see : Objects → ℕ → Value → Seen
see h n v.Undefined = only r.nothing
see h n v.Null = only r.a_null
see h n (v.Bool b) = only (r.a_truth b)
see h n (v.Num i) = only (r.a_number i)
see h n (v.Text us) = only (r.a_text us)
see h n (v.Obj o) = see_object n h o (class_of (object_at h o))

-- how a row ends

pub record Done : Type 0 where
  pub reply : Reply
  pub heap : Objects
  pub items : List Told

abbrev pub proto_of : Maker → Proto
proto_of r.error = proto.Error
proto_of r.type_error = proto.TypeError
proto_of r.range_error = proto.RangeError

-- a new object with the next name of the running module, frozen or not
abbrev pub frozen_if : Bool → Object → Object
frozen_if true o = record { class = o.class; proto = o.proto; callable = o.callable; tag = o.tag; props = defined frozen_mark (v.Bool true) hidden_attrs o.props }
frozen_if false o = o

abbrev pub makes : (Value → Reply) → ℕ → Object → Objects → List Told → Done
makes give by o h y = record { reply = give (v.Obj (length h.list)); heap = with_name (with_object h o) (length h.list) by; items = y }

-- a copy of a record's public properties
abbrev pub copied : List (List ℕ × Value) → List Property
copied [] = []
copied ((k, x) ∷ ps) = record { key = k; value = x; attrs = plain_attrs } ∷ copied ps

abbrev pub pairs_in : Class → Objects → ℕ → List (List ℕ × Value)
pairs_in class.Object h o = guests (props_of (object_at h o))
pairs_in c h o = []

abbrev pub pairs_of : Objects → Value → List (List ℕ × Value)
pairs_of h (v.Obj o) = pairs_in (class_of (object_at h o)) h o
pairs_of h x = []

abbrev pub record_object : List Property → Object
record_object ps = record { class = class.Object; proto = Some (proto_id proto.Object); callable = None; tag = tag.None; props = ps }

-- a change of what is a record, and of what is an array
abbrev pub of_record : Class → Objects → Objects → Objects
of_record class.Object g h = g
of_record c g h = h

abbrev pub of_array : Class → Objects → Objects → Objects
of_array class.Array g h = g
of_array c g h = h

abbrev pub of_either : Class → Objects → Objects → Objects
of_either class.Object g h = g
of_either class.Array g h = g
of_either c g h = h

abbrev pub on_object : Value → Objects → (ℕ → Objects) → Objects
on_object (v.Obj o) h change = change o
on_object x h change = h

abbrev pub gives : Value → Objects → List Told → Done
gives x h y = record { reply = value_reply x; heap = h; items = y }

abbrev pub too_long : Objects → List Told → Done
too_long h y = record { reply = stop_reply number_fault; heap = h; items = y }

abbrev pub finish : (r.Native → ℕ) → ℕ → Ending → List Value → Objects → List Told → Done
finish fs by (r.answers x) vs h y = gives (value_in fs vs x) h y
finish fs by (r.throws message) vs h y = makes throw_reply by (error_object proto.TypeError (codes "TypeError") message) h y
finish fs by (r.faults f) vs h y = record { reply = stop_reply f; heap = h; items = y }
finish fs by (r.lists ks) vs h y = if nat_lt (length ks) r.most_items then record { reply = value_reply (v.Obj (length h.list)); heap = with_object h (array_object (map v.Text ks)); items = y } else too_long h y
finish fs by (r.calls recorded f t xs) vs h y = record { reply = invoke_reply recorded (value_in fs vs f) (value_in fs vs t) (map (value_in fs vs) xs); heap = h; items = y }
finish fs by (r.makes_array frozen xs) vs h y = if nat_lt (length xs) r.most_items then makes value_reply by (frozen_if frozen (array_object (map (value_in fs vs) xs))) h y else too_long h y
finish fs by (r.copies_record frozen x) vs h y = makes value_reply by (frozen_if frozen (record_object (copied (pairs_of h (value_in fs vs x))))) h y
finish fs by (r.makes_error maker message) vs h y = makes value_reply by (error_object (proto_of maker) (maker_name maker) message) h y
finish fs by (r.reads_key o k x) vs h y = gives (value_in fs vs x) (on_object (value_in fs vs o) h (λ i. of_record (class_of (object_at h i)) (if is_some (own h i k) && not (is_hidden k) then grant_read h i k else h) h)) y
finish fs by (r.writes_key o k x) vs h y = gives (value_in fs vs x) (on_object (value_in fs vs o) h (λ i. of_record (class_of (object_at h i)) (if is_frozen h i || is_bad k then h else grant_set (put h i k (value_in fs vs x)) i k) h)) y
finish fs by (r.drops_key o k) vs h y = gives (v.Bool true) (on_object (value_in fs vs o) h (λ i. of_record (class_of (object_at h i)) (if is_frozen h i || is_bad k then h else drop_marks (delete h i k) i k) h)) y
finish fs by (r.sets_items o xs x) vs h y = if nat_lt (length xs) r.most_items then gives (value_in fs vs x) (on_object (value_in fs vs o) h (λ i. of_array (class_of (object_at h i)) (if is_frozen h i then h else set_items h i (map (value_in fs vs) xs)) h)) y else too_long h y
finish fs by (r.freezes o) vs h y = gives (value_in fs vs o) (on_object (value_in fs vs o) h (λ i. of_either (class_of (object_at h i)) (freeze h i) h)) y

-- a row

abbrev pub told_of : ℕ → Touch → Tag → List (List ℕ) → List Told
told_of by t tag.None k = []
told_of by t g k = touched by t g k ∷ []

abbrev pub touched_value : ℕ → Touch → Value → Objects → List (List ℕ) → List Told
touched_value by t (v.Obj o) h k = told_of by t (tag_of (object_at h o)) k
touched_value by t x h k = []

-- the texts of an array's items with a text between
abbrev pub joined_if : Result (List ℕ) Fault → Sight → Result (List ℕ) Fault
joined_if array (r.an_array frozen xs) = array
joined_if array s = Ok []

abbrev pub joined_of : Objects → Value → List ℕ → Result (List ℕ) Fault
joined_of h x sep = joined_if (joined (text_within 31 h) sep (see h 0 x).values) (see h 0 x).sight

-- what is called when something happens to a node of a root: its number, what happens, the function
pub record Handler : Type 0 where
  pub on : ℕ
  pub what : List ℕ
  pub does : Value

-- what a page keeps beside its objects: cells, queues; of each root its nodes by their numbers, the object that stands for each of them, and its handlers
pub record Page : Type 0 where
  pub cells : ℕ → Value
  pub queues : ℕ → List Value
  pub nodes : ℕ → List Node
  pub facets : ℕ → List ℕ
  pub handlers : ℕ → List Handler

pub record Came : Type 0 where
  pub done : Done
  pub page : Page

abbrev pub kept_by : Tag → Page → Value
kept_by (tag.Cell c i) g = g.cells c
kept_by t g = v.Undefined

abbrev pub keeping_by : Tag → Value → Page → Page
keeping_by (tag.Cell c i) x g = record { cells = λ n. if nat_eq n c then x else g.cells n; queues = g.queues; nodes = g.nodes; facets = g.facets; handlers = g.handlers }
keeping_by t x g = g

abbrev pub queueing_by : Tag → Value → Page → Page
queueing_by (tag.Own m i) f g = record { cells = g.cells; queues = λ n. if nat_eq n m then g.queues m ++ f ∷ [] else g.queues n; nodes = g.nodes; facets = g.facets; handlers = g.handlers }
queueing_by t f g = g

abbrev pub named : Objects → Value → Tag
named h (v.Obj o) = tag_of (object_at h o)
named h x = tag.None

abbrev pub saying_by : Tag → List ℕ → List Told
saying_by (tag.Own m i) us = said m us ∷ []
saying_by t us = []

-- a node of a root, and the object that stands for it: each node has one from its beginning, and no property
abbrev pub facet_object : ℕ → ℕ → Object
facet_object root k = record { class = class.Node; proto = Some (proto_id proto.Node); callable = None; tag = tag.Facet root k; props = [] }

-- the object of a root's node
abbrev pub facet_at : List ℕ → ℕ → Value
facet_at os k = or_nothing (option_map v.Obj (slice_get os k))

abbrev pub facets_at : List ℕ → List ℕ → List Value
facets_at os ks = map (facet_at os) ks

-- a node that is there, and those around it
pub record Around : Type 0 where
  pub branch : r.Branch
  pub values : List Value

abbrev pub around_node : ℕ → Tag → Page → Option Around
around_node n (tag.Facet root k) g = if nat_lt k (length (g.nodes root)) then Some (record { branch = branch n k (g.nodes root); values = facets_at (g.facets root) (nodes_around (g.nodes root) k) }) else None
around_node n t g = None

abbrev pub around : Objects → Page → ℕ → Value → Option Around
around h g n x = around_node n (named h x) g

-- the objects, with what the page keeps
pub record Kept : Type 0 where
  pub heap : Objects
  pub page : Page

abbrev pub with_of : {A : Type 0} → ℕ → A → (ℕ → A) → ℕ → A
with_of root a f r = if nat_eq r root then a else f r

-- other nodes of a root in the place of its own; there is one more at most, which gets its object
abbrev pub renoded : ℕ → List Node → Objects → Page → Kept
renoded root ns h g = by (nat_lt (length (g.nodes root)) (length ns))
  where
    by : Bool → Kept
    by true = record {
      heap = with_object h (facet_object root (length (g.nodes root)));
      page = record { cells = g.cells; queues = g.queues; nodes = with_of root ns g.nodes; facets = with_of root (g.facets root ++ length h.list ∷ []) g.facets; handlers = g.handlers };
    }
    by false = record { heap = h; page = record { cells = g.cells; queues = g.queues; nodes = with_of root ns g.nodes; facets = g.facets; handlers = g.handlers } }

abbrev pub noding_by : Tag → (ℕ → List Node → List Node) → Objects → Page → Kept
noding_by (tag.Facet root k) f h g = renoded root (f k (g.nodes root)) h g
noding_by t f h g = record { heap = h; page = g }

abbrev pub node_told_by : Tag → Change → List Told
node_told_by (tag.Facet root k) c = changed_node root k c ∷ []
node_told_by t c = []

abbrev pub new_node_by : Tag → Objects → Value
new_node_by (tag.Facet root k) h = v.Obj (length h.list)
new_node_by t h = v.Undefined

abbrev pub listening_by : Tag → List ℕ → Value → Page → Page
listening_by (tag.Facet root k) us f g = record { cells = g.cells; queues = g.queues; nodes = g.nodes; facets = g.facets; handlers = with_of root (g.handlers root ++ record { on = k; what = us; does = f } ∷ []) g.handlers }
listening_by t us f g = g

abbrev pub settle : (r.Native → ℕ) → r.Settling → List Value → Objects → Page → List Told → Came
settle fs (r.answers_kept x) vs h g y = record { done = gives (kept_by (named h (value_in fs vs x)) g) h y; page = g }
settle fs (r.keeps x z) vs h g y = record { done = gives v.Undefined h y; page = keeping_by (named h (value_in fs vs x)) (value_in fs vs z) g }
settle fs (r.says x us) vs h g y = record { done = gives v.Undefined h (y ++ saying_by (named h (value_in fs vs x)) us); page = g }
settle fs (r.queues x f) vs h g y = record { done = gives v.Undefined h y; page = queueing_by (named h (value_in fs vs x)) (value_in fs vs f) g }
settle fs (r.changes_node x c z) vs h g y =
    let t = named h (value_in fs vs x) in
    let k = noding_by t (doc.changed c) h g in
    record { done = gives (value_in fs vs z) k.heap (y ++ node_told_by t c); page = k.page }
settle fs (r.adds_node x o) vs h g y =
    let t = named h (value_in fs vs x) in
    let k = noding_by t (λ i ns. ns ++ o ∷ []) h g in
    record { done = gives (new_node_by t h) k.heap y; page = k.page }
settle fs (r.listens x us f) vs h g y = record { done = gives v.Undefined h y; page = listening_by (named h (value_in fs vs x)) us (value_in fs vs f) g }

abbrev pub with_result : {A : Type 0} → Result A Fault → Objects → Page → List Told → (A → Came) → Came
with_result (Ok x) h g y go = go x
with_result (Err f) h g y go = record { done = record { reply = stop_reply f; heap = h; items = y }; page = g }

abbrev pub same_root_by : Tag → Tag → Bool
same_root_by (tag.Facet root k) (tag.Facet other j) = nat_eq root other
same_root_by t u = false

abbrev pub with_branch : Option Around → (Around → Came) → Came → Came
with_branch (Some b) go other = go b
with_branch None go other = other

-- what a row comes to, done by a module, with these values in hand; fs has the places of the built-in functions
abbrev pub does : (r.Native → ℕ) → ℕ → Row → List Value → Objects → Page → List Told → Came
does fs by (r.ends e) vs h g y = record { done = finish fs by e vs h y; page = g }
does fs by (r.settles e) vs h g y = settle fs e vs h g y
does fs by (r.as_text x go) vs h g y = with_result (text_of h (value_in fs vs x)) h g y (λ us. does fs by (go us) vs h g y)
does fs by (r.as_number x go) vs h g y = with_result (number_of h (value_in fs vs x)) h g y (λ n. does fs by (go n) vs h g y)
does fs by (r.as_joined x sep go) vs h g y = with_result (joined_of h (value_in fs vs x) sep) h g y (λ us. does fs by (go us) vs h g y)
does fs by (r.as_same x z go) vs h g y = does fs by (go (strictly_equal (value_in fs vs x) (value_in fs vs z))) vs h g y
does fs by (r.as_same_root x z go) vs h g y = does fs by (go (same_root_by (named h (value_in fs vs x)) (named h (value_in fs vs z)))) vs h g y
does fs by (r.looks x go) vs h g y = let seen = see h (length vs) (value_in fs vs x) in does fs by (go seen.sight) (vs ++ seen.values) h g y
does fs by (r.branches x go other) vs h g y = with_branch (around h g (length vs) (value_in fs vs x)) (λ b. does fs by (go b.branch) (vs ++ b.values) h g y) (does fs by other vs h g y)
does fs by (r.touches t x k next) vs h g y = does fs by next vs h g (y ++ touched_value by t (value_in fs vs x) h k)
