-- Calls: what is passed is had by who gave it, and then by who takes it; a closure runs as the module that made it.
use Rattle.std.proofs.Common.{ℕ, zero, suc, Bool, true, false, List, [], ◌∷◌, Option, Some, None}
use Rattle.std.specs.Prelude.{◌+◌, nat_lt, if◌then◌else◌, slice_get, codes, length}
use Rattle.plans.specs.Plans.{depth_fault}
use Rattle.acts.specs.Acts.{answer, fault}
use Rattle.acts.specs.Laws.{All, Replies}
use Rattle.acts.proofs.Keeps.{all_map}
use Rattle.cajita_tree.specs.Tree as c
use Rattle.rows.specs.Rows as r
use Rattle.rows.specs.Rows.{Native, to_call}
use Rattle.rows.specs.Names.{sort_of, is_exophoric}
use Rattle.rows.specs.Nodes.{Rules}
use Rattle.cajita_meaning.specs.World as W
use Rattle.cajita_meaning.specs.World.{Name, made_name, cell_name, own_name, built_name, forward_name, Value, undefined, object, Object, a_closure, World}
use Rattle.cajita_meaning.specs.Asking as A
use Rattle.cajita_meaning.specs.Direct.{Item, made, touched, passed, Completion, gave, normal, returned, threw, forms, values_of}
use Rattle.cajita_laws.specs.Reach.{IsIn, Had, have, Known, IsMore, Invariant}
use Rattle.cajita_laws.proofs.Had.{gain_new, no_more, more_behind, more_onward, known_more, in_noted}
use Rattle.cajita_laws.proofs.Scopes.{picked, with_vars_has, with_params_has, declared_has}
use Rattle.cajita_laws.proofs.Invariant.{noted, reach, item_told, object_made, made_known, scopes_changed, scope_added}

module _ (rules : Rules) (had : Had) where
  -- an answer to the module m keeps the invariant, and gives it what it then has
  abbrev pub Keeps : ℕ → A.Reply → List Item → Type 0
  Keeps m r z = Replies (forms rules) noted (reach rules had) (λ y u. Known had y m u) r z

  -- what a module has it keeps
  pub all_more : {z y : List Item} (m : ℕ) (vs : List Value) → IsMore z y → All (Known had z m) vs → All (Known had y m) vs
  all_more {z = z} {y = y} m vs l h = all_map (Known had z m) (Known had y m) (λ u q. known_more had z y m u l q) vs h

  -- objects that are made

  -- a module makes an object, which it then has
  pub making_kept : (by m : ℕ) (o : Object) (w : World) (z : List Item) (go : Value → World → A.Reply) → Invariant had w z → (let n = W.next_name m w in Invariant had (W.with_object m o w) (noted (made m n) z) → Known had (noted (made m n) z) m (object n) → Keeps by (go (object n) (W.with_object m o w)) (noted (made m n) z)) → Keeps by (A.making o m w go) z
  making_kept by m o w z go i f = f (object_made had o m i) (made_known had w z m)

  pub made_kept : (o : Object) (m : ℕ) (w : World) (z : List Item) → Invariant had w z → Keeps m (A.made_reply o m w) z
  made_kept o m w z i = making_kept m m o w z A.good_value i (λ j h. (j, (h, tt)))

  pub error_kept : (message : List ℕ) (m : ℕ) (w : World) (z : List Item) → Invariant had w z → Keeps m (A.error_reply message m w) z
  error_kept message m w z i = making_kept m m (W.an_error r.type_error message) w z (λ u w'. answer A.bad (u ∷ []) w') i (λ j h. (j, (h, tt)))

  -- what is passed, and what comes back

  -- what is passed is had by who gave it, and then by who takes it
  pub passing_kept : (n a b : ℕ) (vs : List Value) (q : A.Reply) (w : World) (z : List Item) → Invariant had w z → All (Known had z a) vs → ((y : List Item) → IsMore z y → Invariant had w y → All (Known had y b) vs → Keeps n q y) → Keeps n (A.passing a b vs q) z
  passing_kept n a b [] q w z i h go = go z (no_more z) i tt
  passing_kept n a b (object o ∷ vs) q w z i h go =
      let t = passed a b o in
      passing_kept n a b vs q w (noted t z) (item_told had t tt i h.0) (all_more a vs (more_behind z (t ∷ [])) h.1)
      (λ y l j g. go y (more_onward z (noted t z) y (more_behind z (t ∷ [])) l) j (known_more had (noted t z) y b (object o) l (in_noted had z t b o (gain_new b o (have had z))), g))
  passing_kept n a b (v ∷ vs) q w z i h go = passing_kept n a b vs q w z i h.1 (λ y l j g. go y l j (tt, g))

  -- what a closure returned or threw goes to who called it
  returned_kept : (by m : ℕ) (e : Completion) (w : World) (z : List Item) → Invariant had w z → All (Known had z m) (values_of e) → Keeps by (A.returned_reply by m e w) z
  returned_kept by m (returned v) w z i h = passing_kept by m by (v ∷ []) (A.good_value v w) w z i h (λ y l j g. (j, g))
  returned_kept by m (threw v) w z i h = passing_kept by m by (v ∷ []) (answer A.bad (v ∷ []) w) w z i h (λ y l j g. (j, g))
  returned_kept by m e w z i h = (i, (tt, tt))

  -- the statements of a closure

  after_kept : (by m : ℕ) (e : Completion) (w : World) (z : List Item) (go : World → A.Reply) → Invariant had w z → All (Known had z m) (values_of e) → Keeps by (go w) z → Keeps by (A.after_statement by m e w go) z
  after_kept by m (normal o) w z go i h f = f
  after_kept by m e w z go i h f = returned_kept by m e w z i h

  statements_kept : (xs : c.Tree c.stmts) (a : A.Around) (m by : ℕ) (w : World) (z : List Item) → Invariant had w z → Keeps by (A.statements_reply xs a m by w) z
  statements_kept c.no_stmts a m by w z i = (i, (tt, tt))
  statements_kept (c.more_stmts x rest) a m by w z i =
      (i, tt, tt, λ e v y l j h. after_kept by m e v y (λ u. A.statements_reply rest a m by u) j h (statements_kept rest a m by v y j))

  stepping_kept : (n : ℕ) (by : ℕ) (q : A.Reply) (w : World) (z : List Item) → Invariant had w z → Keeps by q z → Keeps by (A.stepping_all n w q) z
  stepping_kept zero by q w z i h = h
  stepping_kept (suc n) by q w z i h = (i, stepping_kept n by q w z i h)

  -- what is done in each world and with each list of items in which the invariant holds
  abbrev Goes : ℕ → (World → A.Reply) → Type 0
  Goes by go = (w : World) (z : List Item) → Invariant had w z → Keeps by (go w) z

  -- each declared function is made, and bound in a scope of its module
  pub functions_kept : (fs : c.Tree c.funcs) (n : ℕ) (chain : List ℕ) (m by : ℕ) (w : World) (z : List Item) (go : World → A.Reply) → Invariant had w z → Goes by go → Keeps by (A.functions_made fs n chain m w go) z
  functions_kept c.no_funcs n chain m by w z go i f = f w z i
  functions_kept (c.more_funcs g gs) n chain m by w z go i f =
      making_kept by m (a_closure g chain) w z (λ v u. A.functions_made gs n chain m (W.declare m n (A.func_name g) v u) go) i (λ j h.
      functions_kept gs n chain m by _ _ go (scopes_changed had m _ j (declared_has (Known had (noted (made m (W.next_name m w)) z) m) n (A.func_name g) _ (w.scopes m) h (j.scopes m))) f)

  arguments_kept : (b : Bool) (vs : List Value) (n m by : ℕ) (w : World) (z : List Item) (go : World → A.Reply) → Invariant had w z → Goes by go → Keeps by (A.arguments_made b vs n m w go) z
  arguments_kept false vs n m by w z go i f = f w z i
  arguments_kept true vs n m by w z go i f =
      making_kept by m (W.an_array true vs) w z (λ v u. go (W.declare m n (codes "arguments") v u)) i (λ j h.
      f _ _ (scopes_changed had m _ j (declared_has (Known had (noted (made m (W.next_name m w)) z) m) n (codes "arguments") _ (w.scopes m) h (j.scopes m))))

  -- the names of a body are bound to what its module was passed
  pub body_kept : (b : c.Tree c.body) (params : List (List ℕ)) (args : Bool) (vs : List Value) (n : ℕ) (a : A.Around) (m by : ℕ) (w : World) (z : List Item) → Invariant had w z → All (Known had z m) vs → Keeps by (A.body_reply b params args vs n a m by w) z
  body_kept (c.a_body fs vars xs) params args vs n a m by w z i h =
      let names = W.with_vars vars (W.with_params params vs []) in
      let go : World → A.Reply = λ v. A.statements_reply xs a m by v in
      let made : World → A.Reply = λ v. A.functions_made fs n a.chain m v go in
      stepping_kept (length params + ((if args then 1 else 0) + (length vars + A.count_of fs))) by (A.arguments_made args vs n m (W.with_scope m names w) made) w z i
      (arguments_kept args vs n m by (W.with_scope m names w) z made (scope_added had m names i (with_vars_has (Known had z m) tt vars (W.with_params params vs []) (with_params_has (Known had z m) tt params vs [] h tt))) (λ v y j.
      functions_kept fs n a.chain m by v y go j (λ u x k. statements_kept xs a m by u x k)))

  -- the entry of a closure, whoever called it
  pub entry_kept : (f : c.Tree c.func) (chain : List ℕ) (m : ℕ) (vs : List Value) (calls by : ℕ) (w : World) (z : List Item) → Invariant had w z → All (Known had z by) vs → Keeps by (A.entry_reply f chain m vs calls by w) z
  entry_kept (c.fun name params args body) chain m vs calls by w z i h =
      let n = W.next_scope m w in
      let a : A.Around = record { chain = n ∷ chain; calls = calls + 1 } in
      picked (λ q. Keeps by q z) (nat_lt calls 1000) (A.passing by m vs (A.body_reply body params args vs n a m by w)) (fault depth_fault w)
      (passing_kept by by m vs (A.body_reply body params args vs n a m by w) w z i h (λ y l j g. body_kept body params args vs n a m by w y j g))
      i

  -- calls of any function

  native_kept : (by : ℕ) (e : Completion) (w : World) (z : List Item) → Invariant had w z → All (Known had z by) (values_of e) → Keeps by (A.native_reply e w) z
  native_kept by (gave v) w z i h = (i, h)
  native_kept by (threw v) w z i h = (i, h)
  native_kept by e w z i h = (i, (tt, tt))

  refused_kept : (m : ℕ) (w : World) (z : List Item) → Invariant had w z → Keeps m (A.not_a_function m w) z
  refused_kept m w z i = error_kept (codes "not a function") m w z i

  touching_kept : (b : Bool) (m : ℕ) (n : Name) (q : A.Reply) (w : World) (z : List Item) → Invariant had w z → IsIn n (have had z m) → ((y : List Item) → IsMore z y → Invariant had w y → Keeps m q y) → Keeps m (A.touching_call b m n q) z
  touching_kept true m n q w z i l go = let t = touched m to_call n [] in go (noted t z) (more_behind z (t ∷ [])) (item_told had t tt i l)
  touching_kept false m n q w z i l go = go z (no_more z) i

  closure_kept : (calls : ℕ) (b : Bool) (o : Option Object) (m n : ℕ) (vs : List Value) (by : ℕ) (w : World) (z : List Item) → Invariant had w z → IsIn (made_name m n) (have had z by) → All (Known had z by) vs → Keeps by (A.closure_call calls b o m n vs by w) z
  closure_kept calls b (Some (a_closure f chain)) m n vs by w z i l h = touching_kept b by (made_name m n) (A.entry_reply f chain m vs calls by w) w z i l (λ y k j. entry_kept f chain m vs calls by w y j (all_more by vs k h))
  closure_kept calls b o m n vs by w z i l h = refused_kept by w z i

  -- a call that is not recorded touches nothing
  pub unrecorded_kept : (calls : ℕ) (o : Option Object) (m n : ℕ) (vs : List Value) (by : ℕ) (w : World) (z : List Item) → Invariant had w z → All (Known had z by) vs → Keeps by (A.closure_call calls false o m n vs by w) z
  unrecorded_kept calls (Some (a_closure f chain)) m n vs by w z i h = entry_kept f chain m vs calls by w z i h
  unrecorded_kept calls o m n vs by w z i h = refused_kept by w z i

  -- a built-in is given its receiver or itself, and runs as who called it
  native_call_kept : (calls : ℕ) (b : Bool) (f : Option Native) (n : Name) (t : Value) (vs : List Value) (by : ℕ) (w : World) (z : List Item) → Invariant had w z → IsIn n (have had z by) → All (Known had z by) (t ∷ vs) → Keeps by (A.native_call calls b f n t vs by w) z
  native_call_kept calls b None n t vs by w z i l h = refused_kept by w z i
  native_call_kept calls b (Some f) n t vs by w z i l h =
      touching_kept b by n _ w z i l (λ y k j. (j, tt, (picked (Known had y by) (is_exophoric (sort_of f)) t (object n) (known_more had z y by t k h.0) (known_more had z y by (object n) k l), all_more by vs k h.1), λ e u x p g a. native_kept by e u x g a))

  -- the call of any function that the module has
  pub call_kept : (calls : ℕ) (b : Bool) (f t : Value) (vs : List Value) (by : ℕ) (w : World) (z : List Item) → Invariant had w z → All (Known had z by) (f ∷ t ∷ vs) → Keeps by (A.call_reply calls b f t vs by w) z
  call_kept calls b (object (made_name m n)) t vs by w z i h = closure_kept calls b (slice_get (w.objects m) n) m n vs by w z i h.0 h.1.1
  call_kept calls b (object n) t vs by w z i h = native_call_kept calls b (A.native_at n) n t vs by w z i h.0 h.1
  call_kept calls b v t vs by w z i h = refused_kept by w z i
