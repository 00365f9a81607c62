-- Members that are read and written in one form: `++`, `--`, and assignments by an operator.
use Rattle.std.proofs.Common.{ℕ, Bool}
use Rattle.es3_tree.specs.Tree as t
use Rattle.es3_tree.specs.Placed.{Placed, Word}
use Rattle.es3_tree.specs.declared.BinOp.{BinOp}
use Rattle.es3_labels.specs.Around.{Around}
use Rattle.cajita_names.specs.Scope.{Scope}
use Rattle.valija_forms.specs.Forms.{holds, holds_key, stepped_before, stepped_behind, compounded, stepped_outer, stepped_outer_behind}
use Rattle.valija_accepted.proofs.Scopes.{Home, Holds}
use Rattle.valija_accepted.proofs.Parts.{IsClean}
use Rattle.valija_accepted.proofs.Asking.{get_clean, set_clean, outer_clean, set_outer_clean, binary_clean, comma_clean, key_clean, as_number_clean, one_by_clean, kept_clean, keeps_clean}

module _ {r : Scope} {a : Around} where
  pub holds_clean : {i : ℕ} {o : Placed t.expr} → Holds r i → IsClean r a t.expr o → IsClean r a t.expr (holds i o)
  holds_clean h k = keeps_clean h k

  pub holds_key_clean : {i j : ℕ} {o k : Placed t.expr} → Holds r i → Holds r j → IsClean r a t.expr o → IsClean r a t.expr k → IsClean r a t.expr (holds_key i j o k)
  holds_key_clean h g o k = comma_clean (keeps_clean h o) (keeps_clean g (key_clean k))

  pub stepped_before_clean : {h o k : Placed t.expr} (up : Bool) → Home r → IsClean r a t.expr h → IsClean r a t.expr o → IsClean r a t.expr k → IsClean r a t.expr (stepped_before up h o k)
  stepped_before_clean up home h o k = comma_clean h (set_clean home o k (one_by_clean up (as_number_clean (get_clean home o k))))

  pub stepped_behind_clean : {i : ℕ} {h o k : Placed t.expr} (up : Bool) → Home r → Holds r i → IsClean r a t.expr h → IsClean r a t.expr o → IsClean r a t.expr k → IsClean r a t.expr (stepped_behind up i h o k)
  stepped_behind_clean up home there h o k = comma_clean (comma_clean (comma_clean h (keeps_clean there (as_number_clean (get_clean home o k)))) (set_clean home o k (one_by_clean up (kept_clean there)))) (kept_clean there)

  pub compounded_clean : {h o k x : Placed t.expr} (op : BinOp) → Home r → IsClean r a t.expr h → IsClean r a t.expr o → IsClean r a t.expr k → IsClean r a t.expr x → IsClean r a t.expr (compounded op h o k x)
  compounded_clean op home h o k x = comma_clean h (set_clean home o k (binary_clean op (get_clean home o k) x))

  pub stepped_outer_clean : (up : Bool) (x : Word) → Home r → IsClean r a t.expr (stepped_outer up x)
  stepped_outer_clean up x home = set_outer_clean x home (one_by_clean up (as_number_clean (outer_clean x home)))

  pub stepped_outer_behind_clean : {i : ℕ} (up : Bool) (x : Word) → Home r → Holds r i → IsClean r a t.expr (stepped_outer_behind up i x)
  stepped_outer_behind_clean up x home there = comma_clean (comma_clean (keeps_clean there (as_number_clean (outer_clean x home))) (set_outer_clean x home (one_by_clean up (kept_clean there)))) (kept_clean there)
