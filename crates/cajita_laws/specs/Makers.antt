-- What a closure does, it does as the module that made it, whoever calls it.
use Rattle.std.specs.Prelude.{◌≡◌, ℕ, Bool, false, List, Some, nat_eq, slice_get}
use Rattle.acts.specs.Acts.{answer, fault, telling, stepping, calling}
use Rattle.cajita_tree.specs.Tree as c
use Rattle.cajita_meaning.specs.World.{made_name, Value, object, a_closure, World}
use Rattle.cajita_meaning.specs.Asking.{Completion, Reply, call_reply}

-- v is w but for objects and variables of the module k
pub record ChangesOnly (k : ℕ) (w v : World) : Type 0 where
  pub objects : (j : ℕ) → nat_eq j k ≡ false → v.objects j ≡ w.objects j
  pub scopes : (j : ℕ) → nat_eq j k ≡ false → v.scopes j ≡ w.scopes j
  pub cells : v.cells ≡ w.cells
  pub queues : v.queues ≡ w.queues
  pub revoked : v.revoked ≡ w.revoked
  pub nodes : v.nodes ≡ w.nodes
  pub handlers : v.handlers ≡ w.handlers

-- in the world w, an answer changes only what is the module k's, and all that it enters runs as k
abbrev pub DoneAs : ℕ → World → Reply → Type 0
DoneAs k w (answer a vs v) = ChangesOnly k w v
DoneAs k w (fault f v) = ChangesOnly k w v
DoneAs k w (telling i q) = DoneAs k w q
DoneAs k w (stepping v q) = ChangesOnly k w v × DoneAs k v q
DoneAs k w (calling t v back) = (t.by ≡ k) × ChangesOnly k w v × ((e : Completion) (u : World) → DoneAs k u (back e u))

-- the call of a closure, by any module
abbrev pub ClosureIsItsMakers : Type 0
ClosureIsItsMakers = (calls : ℕ) (recorded : Bool) (k n : ℕ) (f : c.Tree c.func) (chain : List ℕ) (t : Value) (vs : List Value) (m : ℕ) (w : World) → slice_get (w.objects k) n ≡ Some (a_closure f chain) → DoneAs k w (call_reply calls recorded (object (made_name k n)) t vs m w)
