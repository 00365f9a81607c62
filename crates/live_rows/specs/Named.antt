-- The built-in functions that a row names in what it answers, writes or keeps: methods that it reads out of values.
use Rattle.std.specs.Prelude.{ℕ, ℤ, Bool, List, Option, All}
use Rattle.rows.specs.Rows as r
use Rattle.rows.specs.Rows.{Native, Handle, Sight, Branch, Sort, Ending, Settling, Row}

abbrev pub HandleNames : (Native → Type 0) → Handle → Type 0
HandleNames P (r.method_of x f) = P f
HandleNames P x = Unit {0}

abbrev pub HandlesName : (Native → Type 0) → List Handle → Type 0
HandlesName P xs = All (HandleNames P) xs

-- what is seen among objects: values that are held, and no forwarder

abbrev pub IsHeld : Handle → Type 0
IsHeld (r.held n) = Unit {0}
IsHeld x = ⊥

abbrev pub IsSeenSort : Sort → Type 0
IsSeenSort (r.forwarder revoked) = ⊥
IsSeenSort sort = Unit {0}

abbrev pub IsSeen : Sight → Type 0
IsSeen (r.a_record frozen ps) = All (λ (p : List ℕ × Handle). IsHeld p.1) ps
IsSeen (r.an_array frozen xs) = All IsHeld xs
IsSeen (r.a_function sort) = IsSeenSort sort
IsSeen s = Unit {0}

-- a node with those around it
pub record IsSeenBranch (b : Branch) : Type 0 where
  pub parent : All IsHeld b.parent
  pub children : All IsHeld b.children
  pub below : All (λ (p : Option (List ℕ) × Handle). IsHeld p.1) b.below

-- how it ends

abbrev pub EndNames : (Native → Type 0) → Ending → Type 0
EndNames P (r.answers x) = HandleNames P x
EndNames P (r.calls recorded f t xs) = HandleNames P f × HandleNames P t × HandlesName P xs
EndNames P (r.makes_array frozen xs) = HandlesName P xs
EndNames P (r.reads_key o k x) = HandleNames P x
EndNames P (r.writes_key o k x) = HandleNames P x
EndNames P (r.sets_items o xs x) = HandlesName P xs × HandleNames P x
EndNames P (r.freezes o) = HandleNames P o
EndNames P e = Unit {0}

abbrev pub SettlingNames : (Native → Type 0) → Settling → Type 0
SettlingNames P (r.keeps x z) = HandleNames P z
SettlingNames P (r.queues x f) = HandleNames P f
SettlingNames P (r.changes_node x c z) = HandleNames P z
SettlingNames P (r.listens x us f) = HandleNames P f
SettlingNames P e = Unit {0}

-- whatever is seen, the row names these built-in functions alone
abbrev pub RowNames : (Native → Type 0) → Row → Type 0
RowNames P (r.ends e) = EndNames P e
RowNames P (r.settles e) = SettlingNames P e
RowNames P (r.as_text x go) = (us : List ℕ) → RowNames P (go us)
RowNames P (r.as_number x go) = (n : ℤ) → RowNames P (go n)
RowNames P (r.as_joined x sep go) = (us : List ℕ) → RowNames P (go us)
RowNames P (r.as_same x z go) = (b : Bool) → RowNames P (go b)
RowNames P (r.looks x go) = HandleNames P x × ((s : Sight) → IsSeen s → RowNames P (go s))
RowNames P (r.as_same_root x z go) = (b : Bool) → RowNames P (go b)
RowNames P (r.branches x go other) = HandleNames P x × ((b : Branch) → IsSeenBranch b → RowNames P (go b)) × RowNames P other
RowNames P (r.touches t x k next) = RowNames P next
