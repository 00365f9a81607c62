-- Everything that a module does lies in what it has: a law a question, one for all rows, and none a form.
use Rattle.std.proofs.Common.{ℕ, false, List, [], ◌∷◌, ◌++◌, Option, Some, None, sym, subst}
use Rattle.std.specs.Prelude.{length, codes}
use Rattle.std.proofs.lemmas.List.{append-nil, append_assoc}
use Rattle.acts.specs.Acts.{answer}
use Rattle.acts.specs.Laws.{IfThere, IsKept}
use Rattle.cajita_tree.specs.Tree as c
use Rattle.rows.specs.Nodes.{Rules}
use Rattle.cajita_meaning.specs.World as W
use Rattle.cajita_meaning.specs.World.{Value, object, a_closure, World}
use Rattle.cajita_meaning.specs.Doing as d
use Rattle.cajita_meaning.specs.Asking as A
use Rattle.cajita_meaning.specs.Asking.{first}
use Rattle.cajita_meaning.specs.Direct.{Item, forms}
use Rattle.cajita_laws.specs.Reach.{Had, Known, Invariant, HaveTextMethods}
use Rattle.cajita_laws.proofs.Made.{all_first}
use Rattle.cajita_laws.proofs.Scopes.{lookup_has, assigned_has, with_vars_has, with_params_has}
use Rattle.cajita_laws.proofs.Invariant.{noted, reach, object_made, made_known, scopes_changed, scope_added}
use Rattle.cajita_laws.proofs.RowReach.{Gained, IsReached, row_begun}
use Rattle.cajita_laws.proofs.CallReach.{Keeps as KeepsFor, made_kept, error_kept, functions_kept, call_kept}

module _ (rules : Rules) (had : Had) (methods : HaveTextMethods had) where
  abbrev Keeps : ℕ → A.Reply → List Item → Type 0
  Keeps m r z = KeepsFor rules had m r z

  -- rows

  -- what a row told was reached when it told it
  pub telling_kept : (m : ℕ) (is : List Item) (q : A.Reply) (z : List Item) → Keeps m q (z ++ is) → Keeps m (A.telling_all is q) z
  telling_kept m [] q z h = subst (Keeps m q) (append-nil z) h
  telling_kept m (i ∷ is) q z h = telling_kept m is q (noted i z) (subst (Keeps m q) (sym (append_assoc z (i ∷ []) is)) h)

  -- a row ends with what its module has
  outcome_kept : (calls m : ℕ) (o : d.Outcome) (w : World) (z : List Item) → Invariant had w z → Gained had methods m z o → Keeps m (A.outcome_reply calls m o w) z
  outcome_kept calls m (d.gives v) w z i h = (i, (h, tt))
  outcome_kept calls m (d.throws v) w z i h = (i, (h, tt))
  outcome_kept calls m (d.stops f) w z i h = i
  outcome_kept calls m (d.lists ks) w z i h = (i, tt)
  outcome_kept calls m (d.calls recorded f t vs) w z i h = call_kept rules had calls recorded f t vs m w z i h

  done_kept : (calls m : ℕ) (e : d.Done) (z : List Item) → IsReached had methods m z e → Keeps m (A.done_reply calls m e) z
  done_kept calls m e z h = telling_kept m e.items (A.outcome_reply calls m e.outcome e.world) z (outcome_kept calls m e.outcome e.world (z ++ e.items) h.inv h.gained)

  -- variables and function expressions

  found_kept : (o : Option Value) (m : ℕ) (w : World) (z : List Item) → Invariant had w z → IfThere (Known had z m) o → Keeps m (A.found_reply o m w) z
  found_kept None m w z i h = error_kept rules had (codes "unbound") m w z i
  found_kept (Some u) m w z i h = (i, (h, tt))

  constant_known : (z : List Item) (m : ℕ) (k : A.Constant) → Known had z m (A.constant_value k)
  constant_known z m A.a_null = tt
  constant_known z m (A.a_truth b) = tt
  constant_known z m (A.a_number n) = tt
  constant_known z m (A.a_text us) = tt

  -- a function expression with a name of its own: the scope around it has what is made
  expression_kept : (f : c.Tree c.func) (chain : List ℕ) (m : ℕ) (w : World) (z : List Item) → Invariant had w z → Keeps m (A.closure_reply f chain m w) z
  expression_kept (c.fun None params args body) chain m w z i = made_kept rules had (a_closure (c.fun None params args body) chain) m w z i
  expression_kept (c.fun (Some x) params args body) chain m w z i =
      let n = W.next_name m w in
      let h = made_known had w z m in
      (scope_added had m ((x, object n) ∷ []) (object_made had (a_closure (c.fun (Some x) params args body) (W.next_scope m w ∷ chain)) m i) (h, tt), (h, tt))

  -- what the world answers keeps the invariant, whatever is asked
  pub answers_reach : IsKept (forms rules) noted (reach rules had)
  answers_reach (A.row calls q) m vs w z run i h = done_kept calls m (d.does m (q (length vs)) (d.given vs) w []) z (row_begun had methods m (q (length vs)) vs w z i h)
  answers_reach (A.the_value k) m vs w z run i h = (i, (constant_known z m k, tt))
  answers_reach (A.variable chain x) m vs w z run i h = found_kept (A.lookup chain (w.scopes m) x) m w z i (lookup_has (Known had z m) chain (w.scopes m) x (i.scopes m))
  answers_reach (A.written chain x) m vs w z run i h =
      (scopes_changed had m (A.assigned chain x (first vs) (w.scopes m)) i (assigned_has (Known had z m) chain x (first vs) (w.scopes m) (all_first (Known had z m) tt vs h) (i.scopes m)), tt)
  answers_reach (A.scope params vars) m vs w z run i h =
      (scope_added had m (W.with_vars vars (W.with_params params vs [])) i (with_vars_has (Known had z m) tt vars (W.with_params params vs []) (with_params_has (Known had z m) tt params vs [] h tt)), tt)
  answers_reach (A.functions fs chain) m vs w z run i h = functions_kept rules had fs (A.innermost chain) chain m m w z (λ w'. answer A.good [] w') i (λ v y j. (j, tt))
  answers_reach (A.a_record_of ks) m vs w z run i h = made_kept rules had (W.a_record false (W.with_values (A.paired ks vs) [])) m w z i
  answers_reach (A.a_closure_of f chain) m vs w z run i h = expression_kept f chain m w z i
  answers_reach A.truth_is m vs w z run i h = (i, tt)
