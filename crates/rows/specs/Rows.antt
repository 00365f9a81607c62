-- What a guard or a built-in does, told once for the source and for its text. A row looks at what it is given and then ends, once; only an end changes something.
-- It has no value in its hands: a handle is a plain value, or the number of one that it was given or saw. So it can hand on nothing else.
use Rattle.std.specs.Prelude.{ℕ, ℤ, Bool, List, [], ◌∷◌, ◌+◌, Option}
use Rattle.plans.specs.Plans.{Fault}
use Rattle.rows.specs.Document.{Node, Change}

-- the constructors of errors
pub data Maker : Type 0 where
  error type_error range_error : Maker

-- the built-in functions
pub data Native : Type 0 where
  -- of `cajita`
  freeze is_frozen copy snapshot is_array is_record keys : Native
  -- of `Math`
  abs floor ceil round max min : Native
  -- by names of their own
  number_from text_from truth_from : Native
  makes : Maker → Native
  -- methods of functions
  call apply : Native
  -- of texts
  char_at char_code_at index_of last_index_of slice_text substring split concat_text : Native
  -- of arrays
  concat join slice push unshift pop shift turn : Native
  -- of nodes
  get_tag_name get_parent_node get_child_nodes get_element_by_id get_attribute set_attribute get_text set_text create_element create_text_node append_child remove_child on : Native
  -- of the host, by its number
  service : ℕ → Native
  -- a module's own
  say later : Native
  -- of a cell, and of what forwards to a cell
  get set forward_get forward_set : Native

pub data Handle : Type 0 where
  undefined null : Handle
  truth : Bool → Handle
  number : ℤ → Handle
  text : List ℕ → Handle
  -- a method of a value: a built-in function that is read out of it
  method_of : Handle → Native → Handle
  -- a value that the row was given, or saw in another one
  held : ℕ → Handle

-- what a built-in method wants of its receiver
pub data Receiver : Type 0 where
  of_array of_open_array of_text of_function of_node : Receiver

-- what kind of function it is: one of a module; one that forwards until it is revoked; or a built-in
pub data Sort : Type 0 where
  closure simple : Sort
  forwarder : Bool → Sort
  -- what `new` calls, and the error that it makes, if it makes one
  constructor : Option Maker → Sort
  exophoric : Receiver → Sort

-- what is seen of a node by its own methods: its number in its root; other nodes by handles. `below` has the nodes at and below it with their ids, `above` the numbers of
-- those at and above it, and `numbers` those of its children
pub record Branch : Type 0 where
  pub number : ℕ
  pub tag : List ℕ
  pub text : List ℕ
  pub attributes : List (List ℕ × List ℕ)
  pub parent : List Handle
  pub children : List Handle
  pub below : List (Option (List ℕ) × Handle)
  pub above : List ℕ
  pub numbers : List ℕ

-- what is seen of a value: its kind, and what a record or an array has, by handles; first of all whether it is frozen
pub data Sight : Type 0 where
  nothing a_null : Sight
  a_truth : Bool → Sight
  a_number : ℤ → Sight
  a_text : List ℕ → Sight
  a_record : Bool → List (List ℕ × Handle) → Sight
  an_array : Bool → List Handle → Sight
  a_function : Sort → Sight
  an_error : List ℕ → List ℕ → Sight
  a_node : Sight
  -- an object that is none of these, and whether it is a function: one of a text that no guard has seen. No module of Cajita has one
  a_stranger : Bool → Sight

-- how a row ends
pub data Ending : Type 0 where
  answers : Handle → Ending
  -- a new TypeError with this message
  throws : List ℕ → Ending
  faults : Fault → Ending
  -- keys are listed, in an array that has no name
  lists : List (List ℕ) → Ending
  -- a call in its place, which is recorded or not: the function, the receiver, the arguments
  calls : Bool → Handle → Handle → List Handle → Ending
  -- a new array, record or error of the running module; frozen or not
  makes_array : Bool → List Handle → Ending
  -- a new record with the keys and values of another one
  copies_record : Bool → Handle → Ending
  makes_error : Maker → List ℕ → Ending
  -- the value of a record's key is answered
  reads_key : Handle → List ℕ → Handle → Ending
  -- a record's key gets a value, which is answered
  writes_key : Handle → List ℕ → Handle → Ending
  -- a record loses a key
  drops_key : Handle → List ℕ → Ending
  -- an array gets these items, and something is answered
  sets_items : Handle → List Handle → Handle → Ending
  -- a record or an array is frozen, and answered
  freezes : Handle → Ending

-- how a row ends in what a page keeps beside its objects: cells, queues, nodes. Each is found by a function or a node that the row holds
pub data Settling : Type 0 where
  -- what the cell of this function keeps is answered; it keeps something else
  answers_kept : Handle → Settling
  keeps : Handle → Handle → Settling
  -- the module whose own function this is says a text, or puts something behind its queue
  says : Handle → List ℕ → Settling
  queues : Handle → Handle → Settling
  -- a node changes, and something is answered
  changes_node : Handle → Change → Handle → Settling
  -- a new node of this one's root is answered
  adds_node : Handle → Node → Settling
  -- what is called when something happens to a node
  listens : Handle → List ℕ → Handle → Settling

-- what is recorded of an object with a name
pub data Touch : Type 0 where
  to_get to_set to_delete to_has to_keys to_new to_call : Touch

pub data Row : Type 0 where
  ends : Ending → Row
  settles : Settling → Row
  -- the text, or the number, of a value, or a fault
  as_text : Handle → (List ℕ → Row) → Row
  as_number : Handle → (ℤ → Row) → Row
  -- the texts of an array's items, joined by a text
  as_joined : Handle → List ℕ → (List ℕ → Row) → Row
  -- whether two values are the same (11.9.6)
  as_same : Handle → Handle → (Bool → Row) → Row
  looks : Handle → (Sight → Row) → Row
  -- whether two values are nodes of one root
  as_same_root : Handle → Handle → (Bool → Row) → Row
  -- a node is looked at with those around it; what isn't one goes the other way
  branches : Handle → (Branch → Row) → Row → Row
  -- a touch, at a key where there is one
  touches : Touch → Handle → List (List ℕ) → Row → Row

-- the numbers of values that are held one after another

abbrev pub handles : {V : Type 0} → ℕ → List V → List Handle
handles n [] = []
handles n (v ∷ vs) = held n ∷ handles (n + 1) vs

abbrev pub keyed_handles : {V : Type 0} → ℕ → List (List ℕ × V) → List (List ℕ × Handle)
keyed_handles n [] = []
keyed_handles n ((k, v) ∷ ps) = (k, held n) ∷ keyed_handles (n + 1) ps

-- arrays are shorter than this (ES3 15.4)
abbrev pub most_items : ℕ
most_items = 4294967296
