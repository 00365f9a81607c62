-- Calls of a group's functions by its modules: alike in two worlds that are alike for the group.
use Rattle.std.proofs.Common.{◌≡◌, ℕ, zero, suc, Bool, true, false, List, [], ◌∷◌, Option, Some, None, refl, ap, subst}
use Rattle.std.specs.Prelude.{◌+◌, nat_lt, if◌then◌else◌, slice_get, slice_set, codes, length}
use Rattle.plans.specs.Plans.{depth_fault}
use Rattle.acts.specs.Acts.{answer, fault, telling, calling}
use Rattle.acts.specs.Laws.{All, SameReplies}
use Rattle.cajita_tree.specs.Tree as c
use Rattle.rows.specs.Rows as r
use Rattle.rows.specs.Rows.{Native, to_call}
use Rattle.rows.specs.Names.{sort_of, is_exophoric}
use Rattle.rows.specs.Nodes.{Rules}
use Rattle.cajita_meaning.specs.World as W
use Rattle.cajita_meaning.specs.World.{Name, made_name, cell_name, own_name, built_name, forward_name, Value, undefined, object, Object, a_closure, World}
use Rattle.cajita_meaning.specs.Asking as A
use Rattle.cajita_meaning.specs.Direct.{Item, made, touched, passed, Completion, gave, normal, returned, threw, forms, values_of}
use Rattle.cajita_laws.specs.Parts.{Group, OwnName, Own, OwnObject, Alike}
use Rattle.cajita_laws.proofs.Scopes.{picked, with_vars_has, with_params_has, declared_has}
use Rattle.cajita_laws.proofs.Invariant.{noted}
use Rattle.cajita_laws.proofs.Alike.{twins, told, with_object_alike, with_scope_alike, with_scopes_alike}

module _ (rules : Rules) (g : Group) (u : World) (x : List Item) where
  -- two answers are the same for the group, and leave the others' part
  abbrev pub Same : A.Reply → List Item → A.Reply → List Item → Type 0
  Same r z q y = SameReplies (forms rules) noted (twins rules g u x) r z q y

  -- objects that are made

  -- the next name is the same in both worlds
  pub making_same : (o : Object) (m : ℕ) (w : World) (z : List Item) (v : World) (y : List Item) (go back : Value → World → A.Reply) → OwnObject g o → g.modules m ≡ true → Alike g u x w z v y → ((n : Name) → OwnName g n → Alike g u x (W.with_object m o w) (noted (made m n) z) (W.with_object m o v) (noted (made m n) y) → Same (go (object n) (W.with_object m o w)) (noted (made m n) z) (back (object n) (W.with_object m o v)) (noted (made m n) y)) → Same (A.making o m w go) z (A.making o m v back) y
  making_same o m w z v y go back own run a f =
      subst (λ k. Same (A.making o m w go) z (telling (made m (made_name m k)) (back (object (made_name m k)) (W.with_object m o v))) y) (ap length (a.same.objects m run))
      (f (W.next_name m w) run (told g u x (made m (W.next_name m w)) run (with_object_alike g u x o m own run a)))

  pub made_same : (o : Object) (m : ℕ) (w : World) (z : List Item) (v : World) (y : List Item) → OwnObject g o → g.modules m ≡ true → Alike g u x w z v y → Same (A.made_reply o m w) z (A.made_reply o m v) y
  made_same o m w z v y own run a = making_same o m w z v y A.good_value A.good_value own run a (λ n mine l. (refl, refl, (mine, tt), l))

  pub error_same : (message : List ℕ) (m : ℕ) (w : World) (z : List Item) (v : World) (y : List Item) → g.modules m ≡ true → Alike g u x w z v y → Same (A.error_reply message m w) z (A.error_reply message m v) y
  error_same message m w z v y run a = making_same (W.an_error r.type_error message) m w z v y (λ p q. answer A.bad (p ∷ []) q) (λ p q. answer A.bad (p ∷ []) q) tt run a (λ n mine l. (refl, refl, (mine, tt), l))

  -- what is passed, and what comes back

  -- an object is sent by the group
  abbrev pub Sends : ℕ → Value → Type 0
  Sends a (object o) = g.modules a ≡ true
  Sends a p = Unit {0}

  pub sends : (a : ℕ) (p : Value) → g.modules a ≡ true → Sends a p
  sends a (object o) run = run
  sends a p run = tt

  pub all_sent : (a : ℕ) (vs : List Value) → g.modules a ≡ true → All (Sends a) vs
  all_sent a [] run = tt
  all_sent a (p ∷ vs) run = (sends a p run, all_sent a vs run)

  pub passing_same : (a b : ℕ) (vs : List Value) (r q : A.Reply) (w : World) (z : List Item) (v : World) (y : List Item) → All (Sends a) vs → Alike g u x w z v y → ((z' y' : List Item) → Alike g u x w z' v y' → Same r z' q y') → Same (A.passing a b vs r) z (A.passing a b vs q) y
  passing_same a b [] r q w z v y run l go = go z y l
  passing_same a b (object o ∷ vs) r q w z v y run l go = passing_same a b vs r q w (noted (passed a b o) z) v (noted (passed a b o) y) run.1 (told g u x (passed a b o) run.0 l) go
  passing_same a b (p ∷ vs) r q w z v y run l go = passing_same a b vs r q w z v y run.1 l go

  returned_same : (by m : ℕ) (e : Completion) (w : World) (z : List Item) (v : World) (y : List Item) → g.modules m ≡ true → All (Own g) (values_of e) → Alike g u x w z v y → Same (A.returned_reply by m e w) z (A.returned_reply by m e v) y
  returned_same by m (returned p) w z v y run own a = passing_same m by (p ∷ []) (A.good_value p w) (A.good_value p v) w z v y (all_sent m (p ∷ []) run) a (λ z' y' l. (refl, refl, own, l))
  returned_same by m (threw p) w z v y run own a = passing_same m by (p ∷ []) (answer A.bad (p ∷ []) w) (answer A.bad (p ∷ []) v) w z v y (all_sent m (p ∷ []) run) a (λ z' y' l. (refl, refl, own, l))
  returned_same by m e w z v y run own a = (refl, refl, (tt, tt), a)

  -- the statements of a closure

  after_same : (by m : ℕ) (e : Completion) (w : World) (z : List Item) (v : World) (y : List Item) (go back : World → A.Reply) → g.modules m ≡ true → All (Own g) (values_of e) → Alike g u x w z v y → Same (go w) z (back v) y → Same (A.after_statement by m e w go) z (A.after_statement by m e v back) y
  after_same by m (normal o) w z v y go back run own a f = f
  after_same by m e w z v y go back run own a f = returned_same by m e w z v y run own a

  statements_same : (xs : c.Tree c.stmts) (a : A.Around) (m by : ℕ) (w : World) (z : List Item) (v : World) (y : List Item) → g.modules m ≡ true → Alike g u x w z v y → Same (A.statements_reply xs a m by w) z (A.statements_reply xs a m by v) y
  statements_same c.no_stmts a m by w z v y run l = (refl, refl, (tt, tt), l)
  statements_same (c.more_stmts s rest) a m by w z v y run l =
      (refl, l, run, tt, λ e w2 z2 v2 y2 l2 own. after_same by m e w2 z2 v2 y2 (λ q. A.statements_reply rest a m by q) (λ q. A.statements_reply rest a m by q) run own l2 (statements_same rest a m by w2 z2 v2 y2 run l2))

  stepping_same : (n : ℕ) (r q : A.Reply) (w : World) (z : List Item) (v : World) (y : List Item) → Alike g u x w z v y → Same r z q y → Same (A.stepping_all n w r) z (A.stepping_all n v q) y
  stepping_same zero r q w z v y l h = h
  stepping_same (suc n) r q w z v y l h = (l, stepping_same n r q w z v y l h)

  -- what is done alike in two worlds that are alike
  abbrev Goes : (World → A.Reply) → Type 0
  Goes go = (w : World) (z : List Item) (v : World) (y : List Item) → Alike g u x w z v y → Same (go w) z (go v) y

  -- a name of the group's is bound in both worlds
  declared_alike : {w : World} {z : List Item} {v : World} {y : List Item} (m n : ℕ) (k : List ℕ) (p : Value) → Own g p → g.modules m ≡ true → Alike g u x w z v y → Alike g u x (W.declare m n k p w) z (W.declare m n k p v) y
  declared_alike {w = w} m n k p own run a = with_scopes_alike g u x (λ ss. slice_set ss n (W.with_value k p (W.scope_at (slice_get ss n)))) m (λ h. declared_has (Own g) n k p (w.scopes m) own h) run a

  pub functions_same : (fs : c.Tree c.funcs) (n : ℕ) (chain : List ℕ) (m : ℕ) (w : World) (z : List Item) (v : World) (y : List Item) (go : World → A.Reply) → g.modules m ≡ true → Alike g u x w z v y → Goes go → Same (A.functions_made fs n chain m w go) z (A.functions_made fs n chain m v go) y
  functions_same c.no_funcs n chain m w z v y go run a f = f w z v y a
  functions_same (c.more_funcs d ds) n chain m w z v y go run a f =
      let next : Value → World → A.Reply = λ p q. A.functions_made ds n chain m (W.declare m n (A.func_name d) p q) go in
      making_same (a_closure d chain) m w z v y next next tt run a (λ k own l.
      functions_same ds n chain m _ _ _ _ go run (declared_alike m n (A.func_name d) (object k) own run l) f)

  arguments_same : (b : Bool) (vs : List Value) (n m : ℕ) (w : World) (z : List Item) (v : World) (y : List Item) (go : World → A.Reply) → All (Own g) vs → g.modules m ≡ true → Alike g u x w z v y → Goes go → Same (A.arguments_made b vs n m w go) z (A.arguments_made b vs n m v go) y
  arguments_same false vs n m w z v y go own run a f = f w z v y a
  arguments_same true vs n m w z v y go own run a f =
      let next : Value → World → A.Reply = λ p q. go (W.declare m n (codes "arguments") p q) in
      making_same (W.an_array true vs) m w z v y next next own run a (λ k mine l. f _ _ _ _ (declared_alike m n (codes "arguments") (object k) mine run l))

  pub body_same : (b : c.Tree c.body) (params : List (List ℕ)) (args : Bool) (vs : List Value) (n : ℕ) (a : A.Around) (m by : ℕ) (w : World) (z : List Item) (v : World) (y : List Item) → All (Own g) vs → g.modules m ≡ true → Alike g u x w z v y → Same (A.body_reply b params args vs n a m by w) z (A.body_reply b params args vs n a m by v) y
  body_same (c.a_body fs vars xs) params args vs n a m by w z v y own run al =
      let names = W.with_vars vars (W.with_params params vs []) in
      let go : World → A.Reply = λ q. A.statements_reply xs a m by q in
      let made : World → A.Reply = λ q. A.functions_made fs n a.chain m q go in
      stepping_same (length params + ((if args then 1 else 0) + (length vars + A.count_of fs))) (A.arguments_made args vs n m (W.with_scope m names w) made) (A.arguments_made args vs n m (W.with_scope m names v) made) w z v y al
      (arguments_same args vs n m (W.with_scope m names w) z (W.with_scope m names v) y made own run (with_scope_alike g u x names m (with_vars_has (Own g) tt vars (W.with_params params vs []) (with_params_has (Own g) tt params vs [] own tt)) run al) (λ w1 z1 v1 y1 l1.
      functions_same fs n a.chain m w1 z1 v1 y1 go run l1 (λ w2 z2 v2 y2 l2. statements_same xs a m by w2 z2 v2 y2 run l2)))

  -- the entry of a closure of the group, called by a module of the group or without objects
  pub entry_same : (f : c.Tree c.func) (chain : List ℕ) (m : ℕ) (vs : List Value) (calls by : ℕ) (w : World) (z : List Item) (v : World) (y : List Item) → All (Own g) vs → g.modules m ≡ true → All (Sends by) vs → Alike g u x w z v y → Same (A.entry_reply f chain m vs calls by w) z (A.entry_reply f chain m vs calls by v) y
  entry_same (c.fun name params args body) chain m vs calls by w z v y own mine run a =
      let around : ℕ → A.Around = λ n. record { chain = n ∷ chain; calls = calls + 1 } in
      let inside : ℕ → World → A.Reply = λ n q. A.body_reply body params args vs n (around n) m by q in
      let reply : ℕ → World → A.Reply = λ n q. A.passing by m vs (inside n q) in
      let n = W.next_scope m w in
      elim (nat_lt calls 1000) as (λ b. Same (if b then reply n w else fault depth_fault w) z (if b then reply (W.next_scope m v) v else fault depth_fault v) y) [
        | true ↦ subst (λ k. Same (reply n w) z (reply k v) y) (ap length (a.same.scopes m mine))
            (passing_same by m vs (inside n w) (inside n v) w z v y run a (λ z' y' l. body_same body params args vs n (around n) m by w z' v y' own mine l))
        | false ↦ (refl, a)
      ]

  -- calls of any function

  native_same : (e : Completion) (w : World) (z : List Item) (v : World) (y : List Item) → All (Own g) (values_of e) → Alike g u x w z v y → Same (A.native_reply e w) z (A.native_reply e v) y
  native_same (gave p) w z v y own a = (refl, refl, own, a)
  native_same (threw p) w z v y own a = (refl, refl, own, a)
  native_same e w z v y own a = (refl, refl, (tt, tt), a)

  refused_same : (m : ℕ) (w : World) (z : List Item) (v : World) (y : List Item) → g.modules m ≡ true → Alike g u x w z v y → Same (A.not_a_function m w) z (A.not_a_function m v) y
  refused_same m w z v y run a = error_same (codes "not a function") m w z v y run a

  touching_same : (b : Bool) (m : ℕ) (n : Name) (r q : A.Reply) (w : World) (z : List Item) (v : World) (y : List Item) → g.modules m ≡ true → Alike g u x w z v y → ((z' y' : List Item) → Alike g u x w z' v y' → Same r z' q y') → Same (A.touching_call b m n r) z (A.touching_call b m n q) y
  touching_same true m n r q w z v y run a go = go (noted (touched m to_call n []) z) (noted (touched m to_call n []) y) (told g u x (touched m to_call n []) run a)
  touching_same false m n r q w z v y run a go = go z y a

  closure_same : (calls : ℕ) (b : Bool) (o : Option Object) (m n : ℕ) (vs : List Value) (by : ℕ) (w : World) (z : List Item) (v : World) (y : List Item) → g.modules m ≡ true → All (Own g) vs → g.modules by ≡ true → Alike g u x w z v y → Same (A.closure_call calls b o m n vs by w) z (A.closure_call calls b o m n vs by v) y
  closure_same calls b (Some (a_closure f chain)) m n vs by w z v y mine own run a =
      touching_same b by (made_name m n) (A.entry_reply f chain m vs calls by w) (A.entry_reply f chain m vs calls by v) w z v y run a (λ z' y' l. entry_same f chain m vs calls by w z' v y' own mine (all_sent by vs run) l)
  closure_same calls b o m n vs by w z v y mine own run a = refused_same by w z v y run a

  native_call_same : (calls : ℕ) (b : Bool) (f : Option Native) (n : Name) (t : Value) (vs : List Value) (by : ℕ) (w : World) (z : List Item) (v : World) (y : List Item) → OwnName g n → All (Own g) (t ∷ vs) → g.modules by ≡ true → Alike g u x w z v y → Same (A.native_call calls b f n t vs by w) z (A.native_call calls b f n t vs by v) y
  native_call_same calls b None n t vs by w z v y mine own run a = refused_same by w z v y run a
  native_call_same calls b (Some f) n t vs by w z v y mine own run a =
      let us = (if is_exophoric (sort_of f) then t else object n) ∷ vs in
      let go : World → A.Reply = λ q. calling (Rattle.acts.specs.Acts.task (A.a_native f calls) by us) q A.native_reply in
      touching_same b by n (go w) (go v) w z v y run a
      (λ z' y' l. (refl, l, run, (picked (Own g) (is_exophoric (sort_of f)) t (object n) own.0 mine, own.1), λ e w3 z3 v3 y3 l3 h3. native_same e w3 z3 v3 y3 h3 l3))

  -- the call of any function of the group's
  pub call_same : (calls : ℕ) (b : Bool) (f t : Value) (vs : List Value) (by : ℕ) (w : World) (z : List Item) (v : World) (y : List Item) → All (Own g) (f ∷ t ∷ vs) → g.modules by ≡ true → Alike g u x w z v y → Same (A.call_reply calls b f t vs by w) z (A.call_reply calls b f t vs by v) y
  call_same calls b (object (made_name m n)) t vs by w z v y h run a =
      subst (λ l. Same (A.closure_call calls b (slice_get (w.objects m) n) m n vs by w) z (A.closure_call calls b (slice_get l n) m n vs by v) y) (a.same.objects m h.0)
      (closure_same calls b (slice_get (w.objects m) n) m n vs by w z v y h.0 h.1.1 run a)
  call_same calls b (object n) t vs by w z v y h run a = native_call_same calls b (A.native_at n) n t vs by w z v y h.0 h.1 run a
  call_same calls b p t vs by w z v y h run a = refused_same by w z v y run a
