-- What a closure does, it does as the module that made it.
use Rattle.std.proofs.Common.{ℕ, zero, suc, Bool, true, false, List, [], ◌∷◌, ◌++◌, refl, sym, ap, ◌∙◌, subst}
use Rattle.std.specs.Prelude.{◌+◌, nat_lt, if◌then◌else◌, slice_get, slice_set, codes, length}
use Rattle.plans.specs.Plans.{depth_fault}
use Rattle.acts.specs.Acts.{answer, fault}
use Rattle.cajita_tree.specs.Tree as c
use Rattle.cajita_meaning.specs.World as W
use Rattle.cajita_meaning.specs.World.{made_name, Value, undefined, object, Pairs, Object, a_closure, World}
use Rattle.cajita_meaning.specs.Asking as A
use Rattle.cajita_meaning.specs.Direct.{Completion, normal, returned, threw}
use Rattle.cajita_laws.specs.Makers.{ChangesOnly, DoneAs, ClosureIsItsMakers}
use Rattle.cajita_laws.proofs.Scopes.{picked}

module _ (k : ℕ) where
  -- changes of what is the module's

  unchanged : (w : World) → ChangesOnly k w w
  unchanged w = record { objects = λ j is. refl; scopes = λ j is. refl; cells = refl; queues = refl; revoked = refl; nodes = refl; handlers = refl }

  object_more : (w v : World) (o : Object) → ChangesOnly k w v → ChangesOnly k w (W.with_object k o v)
  object_more w v o h = record { objects = λ j is. ap (λ b. if b then v.objects j ++ o ∷ [] else v.objects j) is ∙ h.objects j is; scopes = h.scopes; cells = h.cells; queues = h.queues; revoked = h.revoked; nodes = h.nodes; handlers = h.handlers }

  scope_more : (w v : World) (names : Pairs) → ChangesOnly k w v → ChangesOnly k w (W.with_scope k names v)
  scope_more w v names h = record { objects = h.objects; scopes = λ j is. ap (λ b. if b then v.scopes j ++ names ∷ [] else v.scopes j) is ∙ h.scopes j is; cells = h.cells; queues = h.queues; revoked = h.revoked; nodes = h.nodes; handlers = h.handlers }

  declared : (w v : World) (n : ℕ) (x : List ℕ) (p : Value) → ChangesOnly k w v → ChangesOnly k w (W.declare k n x p v)
  declared w v n x p h = record { objects = h.objects; scopes = λ j is. ap (λ b. if b then slice_set (v.scopes k) n (W.with_value x p (W.scope_at (slice_get (v.scopes k) n))) else v.scopes j) is ∙ h.scopes j is; cells = h.cells; queues = h.queues; revoked = h.revoked; nodes = h.nodes; handlers = h.handlers }

  -- answers

  -- what is only told changes nothing
  passing_as : (a b : ℕ) (vs : List Value) (w : World) (q : A.Reply) → DoneAs k w q → DoneAs k w (A.passing a b vs q)
  passing_as a b [] w q h = h
  passing_as a b (object o ∷ vs) w q h = passing_as a b vs w q h
  passing_as a b (v ∷ vs) w q h = passing_as a b vs w q h

  returned_as : (m : ℕ) (e : Completion) (w : World) → DoneAs k w (A.returned_reply m k e w)
  returned_as m (returned v) w = passing_as k m (v ∷ []) w (A.good_value v w) (unchanged w)
  returned_as m (threw v) w = passing_as k m (v ∷ []) w (answer A.bad (v ∷ []) w) (unchanged w)
  returned_as m e w = unchanged w

  after_as : (m : ℕ) (e : Completion) (w : World) (go : World → A.Reply) → DoneAs k w (go w) → DoneAs k w (A.after_statement m k e w go)
  after_as m (normal o) w go h = h
  after_as m e w go h = returned_as m e w

  -- each statement is entered as the maker's
  statements_as : (xs : c.Tree c.stmts) (a : A.Around) (m : ℕ) (w v : World) → ChangesOnly k w v → DoneAs k w (A.statements_reply xs a k m v)
  statements_as c.no_stmts a m w v h = h
  statements_as (c.more_stmts x rest) a m w v h = (refl, h, λ e u. after_as m e u (λ q. A.statements_reply rest a k m q) (statements_as rest a m u u (unchanged u)))

  stepping_as : (n : ℕ) (w : World) (q : A.Reply) → DoneAs k w q → DoneAs k w (A.stepping_all n w q)
  stepping_as zero w q h = h
  stepping_as (suc n) w q h = (unchanged w, stepping_as n w q h)

  functions_as : (fs : c.Tree c.funcs) (n : ℕ) (chain : List ℕ) (w v : World) (go : World → A.Reply) → ChangesOnly k w v → ((u : World) → ChangesOnly k w u → DoneAs k w (go u)) → DoneAs k w (A.functions_made fs n chain k v go)
  functions_as c.no_funcs n chain w v go h f = f v h
  functions_as (c.more_funcs d ds) n chain w v go h f =
      functions_as ds n chain w _ go (declared w (W.with_object k (a_closure d chain) v) n (A.func_name d) (object (W.next_name k v)) (object_more w v (a_closure d chain) h)) f

  arguments_as : (b : Bool) (vs : List Value) (n : ℕ) (w v : World) (go : World → A.Reply) → ChangesOnly k w v → ((u : World) → ChangesOnly k w u → DoneAs k w (go u)) → DoneAs k w (A.arguments_made b vs n k v go)
  arguments_as false vs n w v go h f = f v h
  arguments_as true vs n w v go h f = f _ (declared w (W.with_object k (W.an_array true vs) v) n (codes "arguments") (object (W.next_name k v)) (object_more w v (W.an_array true vs) h))

  body_as : (b : c.Tree c.body) (params : List (List ℕ)) (args : Bool) (vs : List Value) (n : ℕ) (a : A.Around) (m : ℕ) (w : World) → DoneAs k w (A.body_reply b params args vs n a k m w)
  body_as (c.a_body fs vars xs) params args vs n a m w =
      let names = W.with_vars vars (W.with_params params vs []) in
      let go : World → A.Reply = λ u. A.statements_reply xs a k m u in
      let made : World → A.Reply = λ u. A.functions_made fs n a.chain k u go in
      stepping_as (length params + ((if args then 1 else 0) + (length vars + A.count_of fs))) w (A.arguments_made args vs n k (W.with_scope k names w) made)
      (arguments_as args vs n w (W.with_scope k names w) made (scope_more w w names (unchanged w)) (λ u h.
      functions_as fs n a.chain w u go h (λ v g. statements_as xs a m w v g)))

  entry_as : (f : c.Tree c.func) (chain : List ℕ) (vs : List Value) (calls m : ℕ) (w : World) → DoneAs k w (A.entry_reply f chain k vs calls m w)
  entry_as (c.fun name params args body) chain vs calls m w =
      let n = W.next_scope k w in
      let a : A.Around = record { chain = n ∷ chain; calls = calls + 1 } in
      picked (DoneAs k w) (nat_lt calls 1000) (A.passing m k vs (A.body_reply body params args vs n a k m w)) (fault depth_fault w)
      (passing_as m k vs w (A.body_reply body params args vs n a k m w) (body_as body params args vs n a m w))
      (unchanged w)

  touching_as : (b : Bool) (m n : ℕ) (w : World) (q : A.Reply) → DoneAs k w q → DoneAs k w (A.touching_call b m (made_name k n) q)
  touching_as true m n w q h = h
  touching_as false m n w q h = h

pub closure_is_its_makers : ClosureIsItsMakers
closure_is_its_makers calls recorded k n f chain t vs m w is =
    subst (λ o. DoneAs k w (A.closure_call calls recorded o k n vs m w)) (sym is) (touching_as k recorded m n w (A.entry_reply f chain k vs calls m w) (entry_as k f chain vs calls m w))
