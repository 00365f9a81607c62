-- What a row does in a world.
use Rattle.std.specs.Prelude.{ℕ, zero, suc, ◌+◌, ℤ, pos, Bool, true, false, ◌||◌, List, [], ◌∷◌, ◌++◌, Option, Some, None, Result, Ok, Err, length, nat_lt, nat_eq, slice_get, codes, map, not, if◌then◌else◌}
use Rattle.plans.specs.Plans.{Fault, number_fault, depth_fault}
use Rattle.page_deeds.specs.Deeds.{Label}
use Rattle.page_deeds.specs.Shown.{Ended}
use Rattle.caja_units.specs.Units.{same_units}
use Rattle.caja_units.specs.Number.{number_text}
use Rattle.rows.specs.Rows as r
use Rattle.rows.specs.Rows.{Handle, Sight, Native, Ending, Touch, Row, handles, keyed_handles}
use Rattle.rows.specs.Names.{tools, sort_of, is_of_text}
use Rattle.rows.specs.Public.{is_bad}
use Rattle.rows.specs.Branches.{branch, around as nodes_around}
use Rattle.rows.specs.Document as doc
use Rattle.rows.specs.Document.{Node, Change}
use Rattle.rows.specs.Guards.{maker_name}
use Rattle.es3_tokens.specs.TextNumber.{text_number}
use Rattle.std.specs.Ordering.{int_eq}
use Rattle.cajita_meaning.specs.World.{Name, made_name, cell_name, own_name, built_name, tools_name, forward_name, facet_name, Value, undefined, null, truth, number, text, object, Pairs, Object, a_record, an_array, a_closure, an_error, World, name_code, next_name, with_made, with_object, with_value, with_cell, with_queue, with_nodes, with_handlers, is_among}

-- how a form ends: an expression gives a value, a statement comes to its end with or without one, jumps or returns, and each may throw
pub data Completion : Type 0 where
  gave : Value → Completion
  normal : Option Value → Completion
  broke : Option (List ℕ) → Completion
  continued : Option (List ℕ) → Completion
  returned : Value → Completion
  threw : Value → Completion

-- what is told of a module's doings: it made an object; it got an object out of another; it touched one, at a key where there is one; an object went from one module to another
pub data Item : Type 0 where
  made : ℕ → Name → Item
  got : ℕ → Name → Name → Item
  touched : ℕ → Touch → Name → List (List ℕ) → Item
  passed : ℕ → ℕ → Name → Item
  -- a module was granted an object; it said a text
  granted : ℕ → Name → Item
  said : ℕ → List ℕ → Item
  was_revoked : ℕ → ℕ → Item
  -- a node of a root changed
  changed_node : ℕ → ℕ → Change → Item
  -- a turn of a page ended so, or there was nothing to do
  ended : Label → Ended Name → Item

-- the values that a row holds, and for each the objects through which it was seen, outermost first; none where it was given
pub record Held : Type 0 where
  pub values : List Value
  pub ways : List (List Name)

abbrev pub given : List Value → Held
given vs = record { values = vs; ways = map (λ v. []) vs }

abbrev pub or_nothing : Option Value → Value
or_nothing None = undefined
or_nothing (Some v) = v

abbrev pub or_given : Option (List Name) → List Name
or_given None = []
or_given (Some ns) = ns

-- a method is read out of an object, or is one of texts, out of a text
abbrev pub method_value : Value → Native → Value
method_value (object o) f = object (built_name f)
method_value (text us) f = if is_of_text f then object (built_name f) else undefined
method_value v f = undefined

abbrev pub value_of : List Value → Handle → Value
value_of vs r.undefined = undefined
value_of vs r.null = null
value_of vs (r.truth b) = truth b
value_of vs (r.number n) = number n
value_of vs (r.text us) = text us
value_of vs (r.method_of x f) = method_value (value_of vs x) f
value_of vs (r.held n) = or_nothing (slice_get vs n)

abbrev pub names_of : Value → List Name
names_of (object o) = o ∷ []
names_of v = []

abbrev pub way_of : Held → Handle → List Name
way_of s (r.held n) = or_given (slice_get s.ways n)
way_of s (r.method_of x f) = way_of s x ++ names_of (value_of s.values x)
way_of s x = []

-- what is seen of a value, and the values that it has

pub record Seen : Type 0 where
  pub sight : Sight
  pub values : List Value

abbrev pub only : Sight → Seen
only s = record { sight = s; values = [] }

abbrev pub see_record : Bool → ℕ → Pairs → Seen
see_record frozen n ps = record { sight = r.a_record frozen (keyed_handles n ps); values = map (λ p. p.1) ps }

abbrev pub see_made : ℕ → Option Object → Seen
see_made n None = only (r.a_stranger false)
see_made n (Some (a_record frozen ps)) = see_record frozen n ps
see_made n (Some (an_array frozen vs)) = record { sight = r.an_array frozen (handles n vs); values = vs }
see_made n (Some (a_closure f chain)) = only (r.a_function r.closure)
see_made n (Some (an_error maker message)) = only (r.an_error (maker_name maker) message)

-- the record of a cell, or of what forwards to one
abbrev pub get_and_set : Name → Name → Pairs
get_and_set a b = (codes "get", object a) ∷ (codes "set", object b) ∷ []

abbrev pub tool_pairs : List (List ℕ × Native) → Pairs
tool_pairs [] = []
tool_pairs ((k, f) ∷ rest) = (k, object (built_name f)) ∷ tool_pairs rest

-- nodes of a root
abbrev pub facets : ℕ → List ℕ → List Value
facets root [] = []
facets root (k ∷ ks) = object (facet_name root k) ∷ facets root ks

abbrev pub see_object : World → ℕ → Name → Seen
see_object w n (made_name m i) = see_made n (slice_get (w.objects m) i)
see_object w n (built_name f) = only (r.a_function (sort_of f))
see_object w n (tools_name t) = see_record true n (tool_pairs (tools t))
see_object w n (facet_name root k) = only r.a_node
see_object w n (own_name m i) = only (r.a_function r.simple)
see_object w n (cell_name c zero) = see_record true n (get_and_set (cell_name c 1) (cell_name c 2))
see_object w n (cell_name c (suc i)) = only (r.a_function r.simple)
see_object w n (forward_name m p c zero) = see_record true n (get_and_set (forward_name m p c 1) (forward_name m p c 2))
see_object w n (forward_name m p c (suc i)) = only (r.a_function (r.forwarder (is_among p (w.revoked m))))

abbrev pub see : World → ℕ → Value → Seen
see w n undefined = only r.nothing
see w n null = only r.a_null
see w n (truth b) = only (r.a_truth b)
see w n (number i) = only (r.a_number i)
see w n (text us) = only (r.a_text us)
see w n (object o) = see_object w n o

-- a node and those around it

pub record Around : Type 0 where
  pub branch : r.Branch
  pub values : List Value

abbrev pub around_node : ℕ → ℕ → ℕ → List Node → Option Around
around_node n root k ns = Some (record { branch = branch n k ns; values = facets root (nodes_around ns k) })

abbrev pub around : World → ℕ → Value → Option Around
around w n (object (facet_name root k)) = around_node n root k (w.nodes root)
around w n v = None

-- whether two values are nodes of one root
abbrev pub same_root : Value → Value → Bool
same_root (object (facet_name root k)) (object (facet_name other j)) = nat_eq root other
same_root u v = false

-- texts and numbers

abbrev pub and_then : {A B : Type 0} → Result A Fault → (A → Result B Fault) → Result B Fault
and_then (Ok x) go = go x
and_then (Err f) go = Err f

-- what an item gives to the text of its array: nothing for undefined and null
abbrev pub item_text : (Value → Result (List ℕ) Fault) → Value → Result (List ℕ) Fault
item_text text_of undefined = Ok []
item_text text_of null = Ok []
item_text text_of v = text_of v

abbrev pub tail_text : (Value → Result (List ℕ) Fault) → List ℕ → List Value → Result (List ℕ) Fault
tail_text text_of sep [] = Ok []
tail_text text_of sep (v ∷ vs) = and_then (item_text text_of v) (λ us. and_then (tail_text text_of sep vs) (λ ws. Ok (sep ++ (us ++ ws))))

abbrev pub joined : (Value → Result (List ℕ) Fault) → List ℕ → List Value → Result (List ℕ) Fault
joined text_of sep [] = Ok []
joined text_of sep (v ∷ vs) = and_then (item_text text_of v) (λ us. and_then (tail_text text_of sep vs) (λ ws. Ok (us ++ ws)))

abbrev pub sight_text : Result (List ℕ) Fault → Sight → Result (List ℕ) Fault
sight_text array (r.an_array frozen xs) = array
sight_text array (r.a_function sort) = Ok (codes "[object Function]")
sight_text array s = Ok (codes "[object Object]")

-- the text of a value, where n arrays may still be nested in one another
unfoldable pub text_within : ℕ → World → Value → Result (List ℕ) Fault
text_within n w undefined = Ok (codes "undefined")
text_within n w null = Ok (codes "null")
text_within n w (truth b) = Ok (if b then codes "true" else codes "false")
text_within n w (number i) = Ok (number_text i)
text_within n w (text us) = Ok us
text_within zero w (object o) = sight_text (Err depth_fault) (see_object w 0 o).sight
text_within (suc n) w (object o) = sight_text (joined (text_within n w) (codes ",") (see_object w 0 o).values) (see_object w 0 o).sight

abbrev pub text_of : World → Value → Result (List ℕ) Fault
text_of w v = text_within 32 w v

-- the texts of an array's items with a text between; of anything else, none
abbrev pub joined_if : Result (List ℕ) Fault → Sight → Result (List ℕ) Fault
joined_if array (r.an_array frozen xs) = array
joined_if array s = Ok []

abbrev pub joined_of : World → Value → List ℕ → Result (List ℕ) Fault
joined_of w v sep = joined_if (joined (text_within 31 w) sep (see w 0 v).values) (see w 0 v).sight

abbrev pub found_number : Option ℤ → Result ℤ Fault
found_number None = Err number_fault
found_number (Some n) = Ok n

abbrev pub number_of : World → Value → Result ℤ Fault
number_of w undefined = Err number_fault
number_of w null = Ok (pos 0)
number_of w (truth b) = Ok (if b then pos 1 else pos 0)
number_of w (number n) = Ok n
number_of w v = and_then (text_of w v) (λ us. found_number (text_number us))

-- 11.9.6: whether two values are the same
abbrev pub same_truth : Bool → Bool → Bool
same_truth a b = if a then b else not b

abbrev pub strictly_equal : Value → Value → Bool
strictly_equal undefined undefined = true
strictly_equal null null = true
strictly_equal (truth a) (truth b) = same_truth a b
strictly_equal (number a) (number b) = int_eq a b
strictly_equal (text us) (text vs) = same_units us vs
strictly_equal (object a) (object b) = same_units (name_code a) (name_code b)
strictly_equal u v = false

-- how a row ends

pub data Outcome : Type 0 where
  gives : Value → Outcome
  throws : Value → Outcome
  stops : Fault → Outcome
  lists : List (List ℕ) → Outcome
  -- whether it is recorded, the function, the receiver, the arguments
  calls : Bool → Value → Value → List Value → Outcome

pub record Done : Type 0 where
  pub outcome : Outcome
  pub world : World
  pub items : List Item

-- what is handed on is got, where it was seen in an object: each object on the way out of the one before it
abbrev pub got_along : ℕ → List Name → Name → List Item
got_along by [] o = []
got_along by (h ∷ []) o = got by h o ∷ []
got_along by (h ∷ k ∷ way) o = got by h k ∷ got_along by (k ∷ way) o

abbrev pub got_from : ℕ → List Name → Value → List Item
got_from by way (object o) = got_along by way o
got_from by way v = []

abbrev pub got_one : ℕ → Held → Handle → List Item
got_one by s x = got_from by (way_of s x) (value_of s.values x)

abbrev pub got_all : ℕ → Held → List Handle → List Item
got_all by s [] = []
got_all by s (x ∷ xs) = got_one by s x ++ got_all by s xs

abbrev pub got_values : ℕ → List Name → List Value → List Item
got_values by way [] = []
got_values by way (v ∷ vs) = got_from by way v ++ got_values by way vs

-- the way to what a value has in it
abbrev pub way_into : Held → Handle → List Name
way_into s x = way_of s x ++ names_of (value_of s.values x)

-- the keys and values of a record
abbrev pub pairs_in : Option Object → Pairs
pairs_in (Some (a_record frozen ps)) = ps
pairs_in o = []

abbrev pub object_pairs : World → Name → Pairs
object_pairs w (made_name m i) = pairs_in (slice_get (w.objects m) i)
object_pairs w (tools_name t) = tool_pairs (tools t)
object_pairs w (cell_name c zero) = get_and_set (cell_name c 1) (cell_name c 2)
object_pairs w (forward_name m p c zero) = get_and_set (forward_name m p c 1) (forward_name m p c 2)
object_pairs w n = []

abbrev pub pairs_of : World → Value → Pairs
pairs_of w (object o) = object_pairs w o
pairs_of w v = []

-- a new object of the running module
abbrev pub makes : (Value → Outcome) → ℕ → Object → World → List Item → Done
makes give by o w z = record { outcome = give (object (next_name by w)); world = with_object by o w; items = z ++ made by (next_name by w) ∷ [] }

-- a change of an object that a module made
abbrev pub changed_object : (Object → Object) → ℕ → ℕ → Option Object → World → World
changed_object change m i None w = w
changed_object change m i (Some o) w = with_made m i (change o) w

abbrev pub changed : (Object → Object) → Value → World → World
changed change (object (made_name m i)) w = changed_object change m i (slice_get (w.objects m) i) w
changed change v w = w

abbrev pub with_key : List ℕ → Value → Object → Object
with_key k v (a_record frozen ps) = if frozen || is_bad k then a_record frozen ps else a_record frozen (with_value k v ps)
with_key k v o = o

abbrev pub dropped : List ℕ → Pairs → Pairs
dropped k [] = []
dropped k ((j, v) ∷ ps) = if same_units k j then ps else (j, v) ∷ dropped k ps

abbrev pub without_key : List ℕ → Object → Object
without_key k (a_record frozen ps) = if frozen || is_bad k then a_record frozen ps else a_record frozen (dropped k ps)
without_key k o = o

abbrev pub with_items : List Value → Object → Object
with_items vs (an_array frozen ws) = if frozen then an_array frozen ws else an_array frozen vs
with_items vs o = o

abbrev pub as_frozen : Object → Object
as_frozen (a_record frozen ps) = a_record true ps
as_frozen (an_array frozen vs) = an_array true vs
as_frozen o = o

-- an array is no longer than indices reach; the program answers that memory is wanting long before
abbrev pub too_long : World → List Item → Done
too_long w z = record { outcome = stops number_fault; world = w; items = z }

-- a value is answered, and the world is this
abbrev pub answered : ℕ → Handle → Held → World → List Item → Done
answered by x s w z = record { outcome = gives (value_of s.values x); world = w; items = z ++ got_one by s x }

-- what the cell of a function keeps, and another value in it
abbrev pub kept_in : Value → World → Value
kept_in (object (cell_name c i)) w = w.cells c
kept_in (object (forward_name m p c i)) w = w.cells c
kept_in v w = undefined

abbrev pub keeping : Value → Value → World → World
keeping (object (cell_name c i)) v w = with_cell c v w
keeping (object (forward_name m p c i)) v w = with_cell c v w
keeping u v w = w

-- the module whose own function it is says a text, gets something behind its queue
abbrev pub saying : Value → List ℕ → List Item
saying (object (own_name m i)) us = said m us ∷ []
saying v us = []

abbrev pub queueing : Value → Value → World → World
queueing (object (own_name m i)) f w = with_queue m (w.queues m ++ f ∷ []) w
queueing v f w = w

-- what is put there goes to that module, but for what a module made: a closure is called as its maker's
abbrev pub to_wait : ℕ → ℕ → List Name → Value → List Item
to_wait by m way (object (made_name k n)) = []
to_wait by m way (object o) = got_along by way o ++ passed by m o ∷ []
to_wait by m way v = []

abbrev pub handing_over : ℕ → Value → List Name → Value → List Item
handing_over by (object (own_name m i)) way f = to_wait by m way f
handing_over by v way f = []

-- a change of a node; a new one, which has its root's next number; a handler

abbrev pub noding : Value → (ℕ → List Node → List Node) → World → World
noding (object (facet_name root k)) f w = with_nodes root (f k (w.nodes root)) w
noding v f w = w

abbrev pub node_told : Value → Change → List Item
node_told (object (facet_name root k)) c = changed_node root k c ∷ []
node_told v c = []

abbrev pub new_node : Value → World → Value
new_node (object (facet_name root k)) w = object (facet_name root (length (w.nodes root)))
new_node v w = undefined

abbrev pub listening : Value → List ℕ → Value → World → World
listening (object (facet_name root k)) us f w = with_handlers root (w.handlers root ++ record { on = k; what = us; does = f } ∷ []) w
listening v us f w = w

abbrev pub finish : ℕ → Ending → Held → World → List Item → Done
finish by (r.answers x) s w z = answered by x s w z
finish by (r.throws message) s w z = makes throws by (an_error r.type_error message) w z
finish by (r.faults f) s w z = record { outcome = stops f; world = w; items = z }
finish by (r.lists ks) s w z = if nat_lt (length ks) r.most_items then record { outcome = lists ks; world = w; items = z } else too_long w z
finish by (r.calls recorded f t xs) s w z = record { outcome = calls recorded (value_of s.values f) (value_of s.values t) (map (value_of s.values) xs); world = w; items = z ++ got_all by s (f ∷ t ∷ xs) }
finish by (r.makes_array frozen xs) s w z = if nat_lt (length xs) r.most_items then makes gives by (an_array frozen (map (value_of s.values) xs)) w (z ++ got_all by s xs) else too_long w z
finish by (r.copies_record frozen x) s w z = let ps = pairs_of w (value_of s.values x) in makes gives by (a_record frozen ps) w (z ++ got_values by (way_into s x) (map (λ p. p.1) ps))
finish by (r.makes_error maker message) s w z = makes gives by (an_error maker message) w z
finish by (r.reads_key o k x) s w z = answered by x s w z
finish by (r.writes_key o k x) s w z = answered by x s (changed (with_key k (value_of s.values x)) (value_of s.values o) w) z
finish by (r.drops_key o k) s w z = record { outcome = gives (truth true); world = changed (without_key k) (value_of s.values o) w; items = z }
finish by (r.sets_items o xs x) s w z = if nat_lt (length xs) r.most_items then answered by x s (changed (with_items (map (value_of s.values) xs)) (value_of s.values o) w) z else too_long w z
finish by (r.freezes o) s w z = answered by o s (changed as_frozen (value_of s.values o) w) z

abbrev pub settle : ℕ → r.Settling → Held → World → List Item → Done
settle by (r.answers_kept x) s w z = let v = kept_in (value_of s.values x) w in record { outcome = gives v; world = w; items = z ++ got_from by (way_into s x) v }
settle by (r.keeps x y) s w z = record { outcome = gives undefined; world = keeping (value_of s.values x) (value_of s.values y) w; items = z }
settle by (r.says x us) s w z = record { outcome = gives undefined; world = w; items = z ++ saying (value_of s.values x) us }
settle by (r.queues x f) s w z = record { outcome = gives undefined; world = queueing (value_of s.values x) (value_of s.values f) w; items = z ++ handing_over by (value_of s.values x) (way_of s f) (value_of s.values f) }
settle by (r.changes_node x c y) s w z = answered by y s (noding (value_of s.values x) (doc.changed c) w) (z ++ node_told (value_of s.values x) c)
settle by (r.adds_node x o) s w z = let v = new_node (value_of s.values x) w in record { outcome = gives v; world = noding (value_of s.values x) (λ k ns. ns ++ o ∷ []) w; items = z ++ got_from by (way_into s x) v }
settle by (r.listens x us f) s w z = record { outcome = gives undefined; world = listening (value_of s.values x) us (value_of s.values f) w; items = z }

-- a row

abbrev pub and_seen : Held → List Name → List Value → Held
and_seen s way vs = record { values = s.values ++ vs; ways = s.ways ++ map (λ v. way) vs }

-- an object is touched; where it was seen in another one, it is got first
abbrev pub touching : ℕ → Touch → List Name → Value → List (List ℕ) → List Item
touching by t way (object o) k = got_along by way o ++ touched by t o k ∷ []
touching by t way v k = []

-- what a conversion gives, or the fault
abbrev pub with_result : {A : Type 0} → Result A Fault → World → List Item → (A → Done) → Done
with_result (Ok x) w z go = go x
with_result (Err f) w z go = record { outcome = stops f; world = w; items = z }

-- what a node and those around it give, or what is done otherwise
abbrev pub with_branch : Option Around → (Around → Done) → Done → Done
with_branch (Some b) go other = go b
with_branch None go other = other

-- what a row comes to: it is done by a module, with these values in hand and these items told
abbrev pub does : ℕ → Row → Held → World → List Item → Done
does by (r.ends e) s w z = finish by e s w z
does by (r.settles e) s w z = settle by e s w z
does by (r.as_text x go) s w z = with_result (text_of w (value_of s.values x)) w z (λ us. does by (go us) s w z)
does by (r.as_number x go) s w z = with_result (number_of w (value_of s.values x)) w z (λ n. does by (go n) s w z)
does by (r.as_joined x sep go) s w z = with_result (joined_of w (value_of s.values x) sep) w z (λ us. does by (go us) s w z)
does by (r.as_same x y go) s w z = does by (go (strictly_equal (value_of s.values x) (value_of s.values y))) s w z
does by (r.as_same_root x y go) s w z = does by (go (same_root (value_of s.values x) (value_of s.values y))) s w z
does by (r.looks x go) s w z = let seen = see w (length s.values) (value_of s.values x) in does by (go seen.sight) (and_seen s (way_into s x) seen.values) w z
does by (r.branches x go other) s w z = with_branch (around w (length s.values) (value_of s.values x)) (λ b. does by (go b.branch) (and_seen s (way_into s x) b.values) w z) (does by other s w z)
does by (r.touches t x k next) s w z = does by next s w (z ++ touching by t (way_of s x) (value_of s.values x) k)
