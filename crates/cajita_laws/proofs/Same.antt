-- A group's turn does the same in two worlds that are alike for the group, and leaves the others' part: a law a question, one for all rows, and none a form.
use Rattle.std.proofs.Common.{◌≡◌, ℕ, true, false, List, [], ◌∷◌, ◌++◌, Option, Some, None, refl, sym, ap, subst}
use Rattle.std.specs.Prelude.{codes, length}
use Rattle.std.proofs.lemmas.List.{append-nil, append_assoc}
use Rattle.acts.specs.Acts.{answer, telling}
use Rattle.acts.specs.Laws.{All, IfThere, AreTwins}
use Rattle.cajita_tree.specs.Tree as c
use Rattle.rows.specs.Core.{seen_true}
use Rattle.rows.specs.Nodes.{Rules}
use Rattle.cajita_meaning.specs.World as W
use Rattle.cajita_meaning.specs.World.{made_name, Value, object, Pairs, a_closure, World}
use Rattle.cajita_meaning.specs.Doing as d
use Rattle.cajita_meaning.specs.Asking as A
use Rattle.cajita_meaning.specs.Asking.{first}
use Rattle.cajita_meaning.specs.Direct.{Item, made, forms}
use Rattle.cajita_laws.specs.Parts.{Group, Own, OwnPairs, Alike}
use Rattle.cajita_laws.proofs.Made.{all_first}
use Rattle.cajita_laws.proofs.Scopes.{lookup_has, assigned_has, with_values_has, with_vars_has, with_params_has}
use Rattle.cajita_laws.proofs.Invariant.{noted}
use Rattle.cajita_laws.proofs.Alike.{twins, told, with_object_alike, with_scope_alike, with_scopes_alike}
use Rattle.cajita_laws.proofs.RowSame.{OwnOutcome, SameDone, see_same, row_begun_same}
use Rattle.cajita_laws.proofs.CallSame.{Same as SameFor, made_same, error_same, functions_same, call_same}

module _ (rules : Rules) (g : Group) (u : World) (x : List Item) where
  abbrev Same : A.Reply → List Item → A.Reply → List Item → Type 0
  Same r z q y = SameFor rules g u x r z q y

  -- rows

  -- what a row told is told in both
  pub telling_same : (is : List Item) (r q : A.Reply) (z y : List Item) → Same r (z ++ is) q (y ++ is) → Same (A.telling_all is r) z (A.telling_all is q) y
  telling_same [] r q z y h = subst (λ l. Same r l q y) (append-nil z) (subst (λ l. Same r (z ++ []) q l) (append-nil y) h)
  telling_same (i ∷ is) r q z y h =
      telling_same is r q (noted i z) (noted i y) (subst (λ l. Same r l q (noted i y ++ is)) (sym (append_assoc z (i ∷ []) is)) (subst (λ l. Same r (z ++ i ∷ is) q l) (sym (append_assoc y (i ∷ []) is)) h))

  -- a row ends alike
  outcome_same : (calls m : ℕ) (run : g.modules m ≡ true) (o : d.Outcome) (w : World) (z : List Item) (v : World) (y : List Item) → OwnOutcome g u x m run o → Alike g u x w z v y → Same (A.outcome_reply calls m o w) z (A.outcome_reply calls m o v) y
  outcome_same calls m run (d.gives p) w z v y h a = (refl, refl, (h, tt), a)
  outcome_same calls m run (d.throws p) w z v y h a = (refl, refl, (h, tt), a)
  outcome_same calls m run (d.stops f) w z v y h a = (refl, a)
  outcome_same calls m run (d.lists ks) w z v y h a = (refl, refl, tt, a)
  outcome_same calls m run (d.calls recorded f t vs) w z v y h a = call_same rules g u x calls recorded f t vs m w z v y h run a

  done_same : (calls m : ℕ) (run : g.modules m ≡ true) (p q : d.Done) (z y : List Item) → SameDone g u x m run z y p q → Same (A.done_reply calls m p) z (A.done_reply calls m q) y
  done_same calls m run p q z y h =
      subst (λ o. Same (A.done_reply calls m p) z (A.telling_all q.items (A.outcome_reply calls m o q.world)) y) h.outcome
      (subst (λ is. Same (A.done_reply calls m p) z (A.telling_all is (A.outcome_reply calls m p.outcome q.world)) y) h.items
      (telling_same p.items (A.outcome_reply calls m p.outcome p.world) (A.outcome_reply calls m p.outcome q.world) z y
      (outcome_same calls m run p.outcome p.world (z ++ p.items) q.world (y ++ p.items) h.own (subst (λ is. Alike g u x p.world (z ++ p.items) q.world (y ++ is)) (sym h.items) h.alike))))

  -- variables, literals and function expressions

  found_same : (o : Option Value) (m : ℕ) (w : World) (z : List Item) (v : World) (y : List Item) → IfThere (Own g) o → g.modules m ≡ true → Alike g u x w z v y → Same (A.found_reply o m w) z (A.found_reply o m v) y
  found_same None m w z v y h run a = error_same rules g u x (codes "unbound") m w z v y run a
  found_same (Some p) m w z v y h run a = (refl, refl, (h, tt), a)

  own_constant : (k : A.Constant) → Own g (A.constant_value k)
  own_constant A.a_null = tt
  own_constant (A.a_truth b) = tt
  own_constant (A.a_number n) = tt
  own_constant (A.a_text us) = tt

  paired_own : (ks : List (List ℕ)) (vs : List Value) → All (Own g) vs → OwnPairs g (A.paired ks vs)
  paired_own [] vs h = tt
  paired_own (k ∷ ks) [] h = tt
  paired_own (k ∷ ks) (p ∷ vs) h = (h.0, paired_own ks vs h.1)

  scope_same : (names : Pairs) (m : ℕ) (w : World) (z : List Item) (v : World) (y : List Item) → OwnPairs g names → g.modules m ≡ true → Alike g u x w z v y → Same (answer (A.scope_number (W.next_scope m w)) [] (W.with_scope m names w)) z (answer (A.scope_number (W.next_scope m v)) [] (W.with_scope m names v)) y
  scope_same names m w z v y own run a = (ap (λ l. A.scope_number (length l)) (a.same.scopes m run), refl, tt, with_scope_alike g u x names m own run a)

  -- a function expression with a name of its own: the scope around it has what is made
  expression_same : (f : c.Tree c.func) (chain : List ℕ) (m : ℕ) (w : World) (z : List Item) (v : World) (y : List Item) → g.modules m ≡ true → Alike g u x w z v y → Same (A.closure_reply f chain m w) z (A.closure_reply f chain m v) y
  expression_same (c.fun None params args body) chain m w z v y run a = made_same rules g u x (a_closure (c.fun None params args body) chain) m w z v y tt run a
  expression_same (c.fun (Some k) params args body) chain m w z v y run a =
      let o = λ (i : ℕ). a_closure (c.fun (Some k) params args body) (i ∷ chain) in
      let reply = λ (i j : ℕ) (q : World). telling (made m (made_name m j)) (A.good_value (object (made_name m j)) (W.with_object m (o i) (W.with_scope m ((k, object (made_name m j)) ∷ []) q))) in
      let i = W.next_scope m w in
      let j = length (w.objects m) in
      subst (λ e. Same (reply i j w) z (reply e (length (v.objects m)) v) y) (ap length (a.same.scopes m run))
      (subst (λ e. Same (reply i j w) z (reply i e v) y) (ap length (a.same.objects m run))
      (refl, refl, (run, tt), told g u x (made m (made_name m j)) run (with_object_alike g u x (o i) m tt run (with_scope_alike g u x ((k, object (made_name m j)) ∷ []) m (run, tt) run a))))

  -- what the world answers is the same, whatever is asked
  pub answers_same : AreTwins (forms rules) noted (twins rules g u x)
  answers_same (A.row calls q) m vs w z v y run own a =
      done_same calls m run (d.does m (q (length vs)) (d.given vs) w []) (d.does m (q (length vs)) (d.given vs) v []) z y (row_begun_same g u x m run (q (length vs)) vs w v z y own a)
  answers_same (A.the_value k) m vs w z v y run own a = (refl, refl, (own_constant k, tt), a)
  answers_same (A.variable chain n) m vs w z v y run own a =
      subst (λ l. Same (A.found_reply (A.lookup chain (w.scopes m) n) m w) z (A.found_reply (A.lookup chain l n) m v) y) (a.same.scopes m run)
      (found_same (A.lookup chain (w.scopes m) n) m w z v y (lookup_has (Own g) chain (w.scopes m) n (a.closed.scopes m run)) run a)
  answers_same (A.written chain n) m vs w z v y run own a =
      (refl, refl, tt, with_scopes_alike g u x (A.assigned chain n (first vs)) m (λ h. assigned_has (Own g) chain n (first vs) (w.scopes m) (all_first (Own g) tt vs own) h) run a)
  answers_same (A.scope params vars) m vs w z v y run own a =
      scope_same (W.with_vars vars (W.with_params params vs [])) m w z v y (with_vars_has (Own g) tt vars (W.with_params params vs []) (with_params_has (Own g) tt params vs [] own tt)) run a
  answers_same (A.functions fs chain) m vs w z v y run own a = functions_same rules g u x fs (A.innermost chain) chain m w z v y (λ q. answer A.good [] q) run a (λ w2 z2 v2 y2 l. (refl, refl, tt, l))
  answers_same (A.a_record_of ks) m vs w z v y run own a = made_same rules g u x (W.a_record false (W.with_values (A.paired ks vs) [])) m w z v y (with_values_has (Own g) (A.paired ks vs) [] (paired_own ks vs own) tt) run a
  answers_same (A.a_closure_of f chain) m vs w z v y run own a = expression_same f chain m w z v y run a
  answers_same A.truth_is m vs w z v y run own a =
      (ap (λ s. A.decided (seen_true s.sight)) (see_same g u x m run 0 (first vs) w v z y (all_first (Own g) tt vs own) a.same), refl, tt, a)
