-- Rows that do nothing but what is done among the objects of ES3.
use Rattle.std.specs.Prelude.{◌≡◌, ℕ, ℤ, Bool, true, List, [], ◌∷◌, Option, None}
use Rattle.es3_tree.specs.declared.BinOp.{BinOp}
use Rattle.es3_tree.specs.declared.UnOp.{UnOp}
use Rattle.rows.specs.Rows as r
use Rattle.rows.specs.Rows.{Handle, Sight, Branch, Ending, Settling, Row}
use Rattle.rows.specs.Guards as guards
use Rattle.rows.specs.Events as events
use Rattle.rows.specs.Operators as operators
use Rattle.rows.specs.Operators.{binary_row, unary_row}
use Rattle.rows.specs.Nodes.{Rules}
use Rattle.rows.specs.Table.{row_of}
use Rattle.heap_rows.specs.Natives.{is_common}

-- a method is one of the common built-ins
abbrev pub IsHandleAmong : Handle → Type 0
IsHandleAmong (r.method_of x f) = IsHandleAmong x × (is_common f ≡ true)
IsHandleAmong x = Unit {0}

abbrev pub AreHandlesAmong : List Handle → Type 0
AreHandlesAmong [] = Unit {0}
AreHandlesAmong (x ∷ xs) = IsHandleAmong x × AreHandlesAmong xs

abbrev pub ArePairsAmong : List (List ℕ × Handle) → Type 0
ArePairsAmong [] = Unit {0}
ArePairsAmong ((k, x) ∷ ps) = IsHandleAmong x × ArePairsAmong ps

-- what is seen among objects is no forwarder
abbrev pub IsSortAmong : r.Sort → Type 0
IsSortAmong (r.forwarder revoked) = ⊥
IsSortAmong sort = Unit {0}

abbrev pub IsSightAmong : Sight → Type 0
IsSightAmong (r.a_record frozen ps) = ArePairsAmong ps
IsSightAmong (r.an_array frozen xs) = AreHandlesAmong xs
IsSightAmong (r.a_function sort) = IsSortAmong sort
IsSightAmong s = Unit {0}

abbrev pub IsEndAmong : Ending → Type 0
IsEndAmong (r.answers x) = IsHandleAmong x
IsEndAmong (r.throws message) = Unit {0}
IsEndAmong (r.faults f) = Unit {0}
IsEndAmong (r.lists ks) = Unit {0}
IsEndAmong (r.calls recorded f t xs) = IsHandleAmong f × IsHandleAmong t × AreHandlesAmong xs
IsEndAmong (r.makes_array frozen xs) = AreHandlesAmong xs
IsEndAmong (r.copies_record frozen x) = IsHandleAmong x
IsEndAmong (r.makes_error maker message) = Unit {0}
IsEndAmong (r.reads_key o k x) = IsHandleAmong o × IsHandleAmong x
IsEndAmong (r.writes_key o k x) = IsHandleAmong o × IsHandleAmong x
IsEndAmong (r.drops_key o k) = IsHandleAmong o
IsEndAmong (r.sets_items o xs x) = IsHandleAmong o × AreHandlesAmong xs × IsHandleAmong x
IsEndAmong (r.freezes o) = IsHandleAmong o

abbrev pub IsSettlingAmong : Settling → Type 0
IsSettlingAmong (r.answers_kept x) = IsHandleAmong x
IsSettlingAmong (r.keeps x y) = IsHandleAmong x × IsHandleAmong y
IsSettlingAmong (r.says x us) = IsHandleAmong x
IsSettlingAmong (r.queues x f) = IsHandleAmong x × IsHandleAmong f
IsSettlingAmong (r.changes_node x c y) = IsHandleAmong x × IsHandleAmong y
IsSettlingAmong (r.adds_node x o) = IsHandleAmong x × (o.parent ≡ None) × (o.children ≡ [])
IsSettlingAmong (r.listens x us f) = IsHandleAmong x × IsHandleAmong f

-- a node with those around it
abbrev pub AreIdsAmong : List (Option (List ℕ) × Handle) → Type 0
AreIdsAmong [] = Unit {0}
AreIdsAmong ((id, x) ∷ xs) = IsHandleAmong x × AreIdsAmong xs

pub record IsBranchAmong (b : Branch) : Type 0 where
  pub parent : AreHandlesAmong b.parent
  pub children : AreHandlesAmong b.children
  pub below : AreIdsAmong b.below

-- whatever is seen, the row goes on among objects
abbrev pub IsAmongObjects : Row → Type 0
IsAmongObjects (r.ends e) = IsEndAmong e
IsAmongObjects (r.settles e) = IsSettlingAmong e
IsAmongObjects (r.as_text x go) = IsHandleAmong x × ((us : List ℕ) → IsAmongObjects (go us))
IsAmongObjects (r.as_number x go) = IsHandleAmong x × ((n : ℤ) → IsAmongObjects (go n))
IsAmongObjects (r.as_joined x sep go) = IsHandleAmong x × ((us : List ℕ) → IsAmongObjects (go us))
IsAmongObjects (r.as_same x y go) = IsHandleAmong x × IsHandleAmong y × ((b : Bool) → IsAmongObjects (go b))
IsAmongObjects (r.looks x go) = IsHandleAmong x × ((s : Sight) → IsSightAmong s → IsAmongObjects (go s))
IsAmongObjects (r.as_same_root x y go) = IsHandleAmong x × IsHandleAmong y × ((b : Bool) → IsAmongObjects (go b))
IsAmongObjects (r.branches x go other) = IsHandleAmong x × ((b : Branch) → IsBranchAmong b → IsAmongObjects (go b)) × IsAmongObjects other
IsAmongObjects (r.touches t x k next) = IsHandleAmong x × IsAmongObjects next

-- what the services of the host answer is among objects
abbrev pub AreAnswersAmong : Rules → Type 0
AreAnswersAmong rules = (k : ℕ) (xs : List Handle) → AreHandlesAmong xs → IsHandleAmong (rules.services k xs)

-- the rows of the tables: of each built-in, of each operator, of each guard; and of a call by the page itself
pub record AreTablesAmong : Type 0 where
  pub built_ins : (rules : Rules) → AreAnswersAmong rules → (f : r.Native) (n : ℕ) → IsAmongObjects (row_of rules f n)
  pub binary : (op : BinOp) → IsAmongObjects (binary_row op)
  pub unary : (op : UnOp) → IsAmongObjects (unary_row op)
  pub next_number : (up : Bool) → IsAmongObjects (operators.next_number up)
  pub to_number : IsAmongObjects operators.to_number
  pub read_pub : (n : ℕ) → IsAmongObjects (guards.read_pub n)
  pub set_pub : (n : ℕ) → IsAmongObjects (guards.set_pub n)
  pub delete_pub : (n : ℕ) → IsAmongObjects (guards.delete_pub n)
  pub in_pub : IsAmongObjects guards.in_pub
  pub keys_pub : IsAmongObjects guards.keys_pub
  pub call_pub : (n : ℕ) → IsAmongObjects (guards.call_pub n)
  pub as_simple_func : IsAmongObjects guards.as_simple_func
  pub plain_call : (n : ℕ) → IsAmongObjects (guards.plain_call n)
  pub construct : (n : ℕ) → IsAmongObjects (guards.construct n)
  pub key : IsAmongObjects guards.key
  pub args : (n : ℕ) → IsAmongObjects (guards.args n)
  pub initialize_array : (n : ℕ) → IsAmongObjects (guards.initialize_array n)
  pub call_key : (k : List ℕ) (n : ℕ) → IsAmongObjects (events.call_key k n)
