-- Calls of functions, and what is made: the world's answers are the same, anew.
use Rattle.std.proofs.Common.{◌≡◌, ℕ, zero, suc, Bool, true, false, List, [], ◌∷◌, Option, Some, None, refl, sym, ap, subst}
use Rattle.std.specs.Prelude.{◌+◌, map, option_map, nat_lt, if◌then◌else◌, slice_get, codes, length}
use Rattle.std.proofs.lemmas.List.{length-map}
use Rattle.std.proofs.lemmas.Option.{slice_get-map}
use Rattle.plans.specs.Plans.{depth_fault}
use Rattle.acts.specs.Acts.{task, answer, fault, calling}
use Rattle.cajita_tree.specs.Tree as c
use Rattle.rows.specs.Rows as r
use Rattle.rows.specs.Rows.{Native, to_call}
use Rattle.rows.specs.Names.{sort_of, is_exophoric}
use Rattle.cajita_meaning.specs.World as W
use Rattle.cajita_meaning.specs.World.{Name, made_name, cell_name, forward_name, Value, undefined, object, Object, a_closure, an_array, an_error, World}
use Rattle.cajita_meaning.specs.Asking as A
use Rattle.cajita_meaning.specs.Direct.{Item, made, Completion, gave, normal, returned, threw}
use Rattle.cell_numbers.specs.Renumbering.{Renumbering, name_anew, value_anew, values_anew, pairs_anew, object_anew, world_anew, item_anew, completion_anew}
use Rattle.cell_numbers.specs.Mapped.{Maps, MappedReply}
use Rattle.cell_numbers.proofs.Lists.{picked_mapped}
use Rattle.cell_numbers.proofs.Worlds.{with_object_anew, with_scope_anew, new_scope_anew, declare_anew}

-- what becomes of values, endings, worlds and items
abbrev pub maps : Renumbering → Maps Value Completion World Item
maps f = record { value = value_anew f; ending = completion_anew f; store = world_anew f; item = item_anew f }

-- the second answer is the first one, anew
abbrev pub Anew : Renumbering → A.Reply → A.Reply → Type 0
Anew f r q = MappedReply (maps f) r q

module _ (f : Renumbering) where
  abbrev anew : Value → Value
  anew v = value_anew f v

  abbrev world : World → World
  world w = world_anew f w

  -- objects that are made

  pub making_anew : (o : Object) (m : ℕ) (w : World) (go back : Value → World → A.Reply) → ((n : ℕ) → Anew f (go (object (made_name m n)) (W.with_object m o w)) (back (object (made_name m n)) (world (W.with_object m o w)))) → Anew f (A.making o m w go) (A.making (object_anew f o) m (world w) back)
  making_anew o m w go back h =
      let n = length (w.objects m) in
      let e = length-map (w.objects m) (object_anew f) in (
        ap (λ k. made m (made_name m k)) e,
        subst (λ k. Anew f (go (object (made_name m n)) (W.with_object m o w)) (back (object (made_name m k)) (W.with_object m (object_anew f o) (world w)))) (sym e)
            (subst (λ v. Anew f (go (object (made_name m n)) (W.with_object m o w)) (back (object (made_name m n)) v)) (sym (with_object_anew f m o w)) (h n)),
      )

  pub made_anew : (o : Object) (m : ℕ) (w : World) → Anew f (A.made_reply o m w) (A.made_reply (object_anew f o) m (world w))
  made_anew o m w = making_anew o m w A.good_value A.good_value (λ n. (refl, refl, refl))

  pub error_anew : (message : List ℕ) (m : ℕ) (w : World) → Anew f (A.error_reply message m w) (A.error_reply message m (world w))
  error_anew message m w = making_anew (an_error r.type_error message) m w (λ v u. answer A.bad (v ∷ []) u) (λ v u. answer A.bad (v ∷ []) u) (λ n. (refl, refl, refl))

  -- a function expression with a name of its own has a scope around it
  pub expression_anew : (g : c.Tree c.func) (chain : List ℕ) (m : ℕ) (w : World) → Anew f (A.closure_reply g chain m w) (A.closure_reply g chain m (world w))
  expression_anew (c.fun None params args body) chain m w = made_anew (a_closure (c.fun None params args body) chain) m w
  expression_anew (c.fun (Some x) params args body) chain m w =
      let o = λ (i : ℕ). a_closure (c.fun (Some x) params args body) (i ∷ chain) in
      let at = λ (i j : ℕ) (u : World). A.made_reply (o i) m (W.with_scope m ((x, object (made_name m j)) ∷ []) u) in
      let i = length (w.scopes m) in
      let j = length (w.objects m) in
      subst (λ k. Anew f (at i j w) (at k (length (map (object_anew f) (w.objects m))) (world w))) (sym (length-map (w.scopes m) (pairs_anew f)))
      (subst (λ k. Anew f (at i j w) (at i k (world w))) (sym (length-map (w.objects m) (object_anew f)))
      (subst (λ u. Anew f (at i j w) (A.made_reply (o i) m u)) (sym (with_scope_anew f m ((x, object (made_name m j)) ∷ []) w)) (made_anew (o i) m (W.with_scope m ((x, object (made_name m j)) ∷ []) w))))

  -- what is passed, and what comes back

  pub passing_anew : (a b : ℕ) (vs : List Value) (r q : A.Reply) → Anew f r q → Anew f (A.passing a b vs r) (A.passing a b (values_anew f vs) q)
  passing_anew a b [] r q h = h
  passing_anew a b (object o ∷ vs) r q h = (refl, passing_anew a b vs r q h)
  passing_anew a b (v ∷ vs) r q h = passing_anew a b vs r q h

  returned_anew : (by m : ℕ) (e : Completion) (w : World) → Anew f (A.returned_reply by m e w) (A.returned_reply by m (completion_anew f e) (world w))
  returned_anew by m (returned v) w = passing_anew m by (v ∷ []) (A.good_value v w) (A.good_value (anew v) (world w)) (refl, refl, refl)
  returned_anew by m (threw v) w = passing_anew m by (v ∷ []) (answer A.bad (v ∷ []) w) (answer A.bad (anew v ∷ []) (world w)) (refl, refl, refl)
  returned_anew by m e w = (refl, refl, refl)

  -- the statements of a closure

  after_anew : (by m : ℕ) (e : Completion) (w : World) (go back : World → A.Reply) → Anew f (go w) (back (world w)) → Anew f (A.after_statement by m e w go) (A.after_statement by m (completion_anew f e) (world w) back)
  after_anew by m (normal o) w go back h = h
  after_anew by m e w go back h = returned_anew by m e w

  statements_anew : (xs : c.Tree c.stmts) (a : A.Around) (m by : ℕ) (w : World) → Anew f (A.statements_reply xs a m by w) (A.statements_reply xs a m by (world w))
  statements_anew c.no_stmts a m by w = (refl, refl, refl)
  statements_anew (c.more_stmts x rest) a m by w =
      (refl, refl, λ e u. after_anew by m e u (λ v. A.statements_reply rest a m by v) (λ v. A.statements_reply rest a m by v) (statements_anew rest a m by u))

  stepping_anew : (n : ℕ) (w : World) (r q : A.Reply) → Anew f r q → Anew f (A.stepping_all n w r) (A.stepping_all n (world w) q)
  stepping_anew zero w r q h = h
  stepping_anew (suc n) w r q h = (refl, stepping_anew n w r q h)

  pub functions_anew : (fs : c.Tree c.funcs) (n : ℕ) (chain : List ℕ) (m : ℕ) (w : World) (go back : World → A.Reply) → ((u : World) → Anew f (go u) (back (world u))) → Anew f (A.functions_made fs n chain m w go) (A.functions_made fs n chain m (world w) back)
  functions_anew c.no_funcs n chain m w go back h = h w
  functions_anew (c.more_funcs g fs) n chain m w go back h =
      let x = A.func_name g in
      let next = λ (to : World → A.Reply) (v : Value) (u : World). A.functions_made fs n chain m (W.declare m n x v u) to in
      making_anew (a_closure g chain) m w (next go) (next back)
      (λ k. let v = object (made_name m k) in let u = W.with_object m (a_closure g chain) w in
      subst (λ t. Anew f (next go v u) (A.functions_made fs n chain m t back)) (sym (declare_anew f m n x v u)) (functions_anew fs n chain m (W.declare m n x v u) go back h))

  arguments_anew : (b : Bool) (vs : List Value) (n m : ℕ) (w : World) (go back : World → A.Reply) → ((u : World) → Anew f (go u) (back (world u))) → Anew f (A.arguments_made b vs n m w go) (A.arguments_made b (values_anew f vs) n m (world w) back)
  arguments_anew false vs n m w go back h = h w
  arguments_anew true vs n m w go back h =
      let x = codes "arguments" in
      making_anew (an_array true vs) m w (λ v u. go (W.declare m n x v u)) (λ v u. back (W.declare m n x v u))
      (λ k. let v = object (made_name m k) in let u = W.with_object m (an_array true vs) w in
      subst (λ t. Anew f (go (W.declare m n x v u)) (back t)) (sym (declare_anew f m n x v u)) (h (W.declare m n x v u)))

  pub body_anew : (b : c.Tree c.body) (params : List (List ℕ)) (args : Bool) (vs : List Value) (n : ℕ) (a : A.Around) (m by : ℕ) (w : World) → Anew f (A.body_reply b params args vs n a m by w) (A.body_reply b params args (values_anew f vs) n a m by (world w))
  body_anew (c.a_body fs vars xs) params args vs n a m by w =
      let u = W.with_scope m (W.with_vars vars (W.with_params params vs [])) w in
      let next = λ (v : World). A.functions_made fs n a.chain m v (λ v2. A.statements_reply xs a m by v2) in
      stepping_anew (length params + ((if args then 1 else 0) + (length vars + A.count_of fs))) w (A.arguments_made args vs n m u next) (A.arguments_made args (values_anew f vs) n m (W.with_scope m (W.with_vars vars (W.with_params params (values_anew f vs) [])) (world w)) next)
      (subst (λ t. Anew f (A.arguments_made args vs n m u next) (A.arguments_made args (values_anew f vs) n m t next)) (sym (new_scope_anew f vars params vs m w))
      (arguments_anew args vs n m u next next (λ v. functions_anew fs n a.chain m v (λ v2. A.statements_reply xs a m by v2) (λ v2. A.statements_reply xs a m by v2) (λ v2. statements_anew xs a m by v2))))

  pub entry_anew : (g : c.Tree c.func) (chain : List ℕ) (m : ℕ) (vs : List Value) (calls by : ℕ) (w : World) → Anew f (A.entry_reply g chain m vs calls by w) (A.entry_reply g chain m (values_anew f vs) calls by (world w))
  entry_anew (c.fun name params args body) chain m vs calls by w =
      let at = λ (n : ℕ) (us : List Value) (u : World). A.body_reply body params args us n (record { chain = n ∷ chain; calls = calls + 1 }) m by u in
      let n = W.next_scope m w in
      let k = W.next_scope m (world w) in
      let us = values_anew f vs in
      elim (nat_lt calls 1000) as (λ b. Anew f (if b then A.passing by m vs (at n vs w) else fault depth_fault w) (if b then A.passing by m us (at k us (world w)) else fault depth_fault (world w))) [
        | true ↦ passing_anew by m vs (at n vs w) (at k us (world w)) (subst (λ i. Anew f (at n vs w) (at i us (world w))) (sym (length-map (w.scopes m) (pairs_anew f))) (body_anew body params args vs n (record { chain = n ∷ chain; calls = calls + 1 }) m by w))
        | false ↦ (refl, refl)
      ]

  -- calls of any function

  native_reply_anew : (e : Completion) (w : World) → Anew f (A.native_reply e w) (A.native_reply (completion_anew f e) (world w))
  native_reply_anew (gave v) w = (refl, refl, refl)
  native_reply_anew (threw v) w = (refl, refl, refl)
  native_reply_anew e w = (refl, refl, refl)

  touching_anew : (b : Bool) (by : ℕ) (n : Name) (r q : A.Reply) → Anew f r q → Anew f (A.touching_call b by n r) (A.touching_call b by (name_anew f n) q)
  touching_anew false by n r q h = h
  touching_anew true by n r q h = (refl, h)

  closure_anew : (calls : ℕ) (b : Bool) (o : Option Object) (m n : ℕ) (vs : List Value) (by : ℕ) (w : World) → Anew f (A.closure_call calls b o m n vs by w) (A.closure_call calls b (option_map (object_anew f) o) m n (values_anew f vs) by (world w))
  closure_anew calls b (Some (a_closure g chain)) m n vs by w = touching_anew b by (made_name m n) (A.entry_reply g chain m vs calls by w) (A.entry_reply g chain m (values_anew f vs) calls by (world w)) (entry_anew g chain m vs calls by w)
  closure_anew calls b o m n vs by w = error_anew (codes "not a function") by w

  -- a cell's functions do what they did
  pub native_at_anew : (n : Name) → A.native_at (name_anew f n) ≡ A.native_at n
  native_at_anew (cell_name k zero) = refl
  native_at_anew (cell_name k (suc zero)) = refl
  native_at_anew (cell_name k (suc (suc i))) = refl
  native_at_anew (forward_name m p k zero) = refl
  native_at_anew (forward_name m p k (suc zero)) = refl
  native_at_anew (forward_name m p k (suc (suc i))) = refl
  native_at_anew n = refl

  -- the values that it gets: a receiver, or itself
  pub received_anew : (g : Native) (n : Name) (t : Value) → (if is_exophoric (sort_of g) then anew t else object (name_anew f n)) ≡ anew (if is_exophoric (sort_of g) then t else object n)
  received_anew g n t = picked_mapped anew (is_exophoric (sort_of g)) t (object n)

  native_anew : (calls : ℕ) (b : Bool) (o : Option Native) (n : Name) (t : Value) (vs : List Value) (by : ℕ) (w : World) → Anew f (A.native_call calls b o n t vs by w) (A.native_call calls b o (name_anew f n) (anew t) (values_anew f vs) by (world w))
  native_anew calls b None n t vs by w = error_anew (codes "not a function") by w
  native_anew calls b (Some g) n t vs by w =
      let at = λ (v : Value) (us : List Value) (u : World). calling (task (A.a_native g calls) by (v ∷ us)) u A.native_reply in
      touching_anew b by n (at (if is_exophoric (sort_of g) then t else object n) vs w) (at (if is_exophoric (sort_of g) then anew t else object (name_anew f n)) (values_anew f vs) (world w))
      (ap (λ v. task (A.a_native g calls) by (v ∷ values_anew f vs)) (received_anew g n t), refl, λ e u. native_reply_anew e u)

  pub call_anew : (calls : ℕ) (b : Bool) (g t : Value) (vs : List Value) (by : ℕ) (w : World) → Anew f (A.call_reply calls b g t vs by w) (A.call_reply calls b (anew g) (anew t) (values_anew f vs) by (world w))
  call_anew calls b (object (made_name m n)) t vs by w =
      subst (λ o. Anew f (A.closure_call calls b (slice_get (w.objects m) n) m n vs by w) (A.closure_call calls b o m n (values_anew f vs) by (world w))) (sym (slice_get-map (object_anew f) (w.objects m) n)) (closure_anew calls b (slice_get (w.objects m) n) m n vs by w)
  call_anew calls b (object n) t vs by w =
      subst (λ o. Anew f (A.native_call calls b (A.native_at n) n t vs by w) (A.native_call calls b o (name_anew f n) (anew t) (values_anew f vs) by (world w))) (sym (native_at_anew n)) (native_anew calls b (A.native_at n) n t vs by w)
  call_anew calls b g t vs by w = error_anew (codes "not a function") by w
