-- The head of a body that names `arguments`: the interpreter makes the arguments object, and of its items the frozen array that is `a___`.
use Rattle.std.proofs.Common.{◌≡◌, ℕ, suc, ◌+◌, ◌*◌, ◌≤◌, Bool, true, false, List, [], ◌∷◌, ◌++◌, length, Some, None, cond, refl, sym, ap, ◌∙◌, subst, arith}
use Rattle.std.specs.Prelude.{codes, slice_get, is_some, nat_eq, ◌||◌}
use Rattle.std.proofs.Math.Seq.{set-append_seam}
use Rattle.std.proofs.lemmas.Bool.Decides.{nat_tests}
use Rattle.caja_units.specs.Units.{same_units}
use Rattle.plans.specs.Plans.{bind}
use Rattle.matching.proofs.Rules.{right_enter}
use Rattle.es3_tree.specs.Tree as t
use Rattle.es3_objects.specs.declared.value.Value.TheVariants as es
use Rattle.es3_heap.specs.Objects.{Objects, Object, with_object}
use Rattle.es3_heap.specs.Making.{array_object}
use Rattle.es3_language.specs.Store as store
use Rattle.es3_language.specs.Store.{Store, Names, Owner, activation, name_value, with_name, with_heap, with_slot, with_scope}
use Rattle.es3_language.specs.Arguments.{arguments_name, comes_again, shared_items, put_items, put_shared, with_arguments_object, with_arguments, made_at, is_fixed}
use Rattle.es3_language.specs.References.{slot, own_arguments, member, reference, write}
use Rattle.es3_language.specs.Expressions.{read_plan, read_arguments}
use Rattle.es3_language.specs.Meaning as Target
use Rattle.cajita_rewrite.specs.Rewrite.{runtime_name, single, var_stmts, args_items, arguments_copy}
use Rattle.cajita_meaning.specs.Direct.{Item}
use Rattle.heap_rows.specs.Doing.{frozen_if}
use Rattle.heap_rows.specs.Opening.{runtime_id}
use Rattle.page_natives.specs.Natives.{Kept, page_table}
use Rattle.cajita_simulation.specs.Alike.{heard_by}
use Rattle.cajita_simulation.specs.Guest as Guest
use Rattle.cajita_simulation.specs.Guest.{is_among}
use Rattle.cajita_simulation.specs.Scopes.{SharedAre}
use Rattle.cajita_simulation.proofs.Doing as Source
use Rattle.cajita_simulation.proofs.Heaps.Lists.{slice_get-push}
use Rattle.cajita_simulation.proofs.Heaps.Names.{name_value-with_name}
use Rattle.cajita_simulation.proofs.Heaps.Made.{with_named}
use Rattle.cajita_simulation.proofs.Heaps.Opened.{IsOpened, opened_kept}
use Rattle.cajita_simulation.proofs.Heaps.Guards.{args-guard}
use Rattle.cajita_simulation.proofs.Heaps.Silent.{args-silent}
use Rattle.cajita_simulation.proofs.Heaps.Arguments.{arguments_object, arguments_new}
use Rattle.cajita_simulation.proofs.Relation.{EsValue, Here, env_of, Tags, names_at, In}
use Rattle.cajita_simulation.proofs.Laws.{Cont', M}
use Rattle.cajita_simulation.proofs.Entering.{names_new}
use Rattle.cajita_simulation.proofs.Calls.{runtime_at, callee_at, guard_at}
use Rattle.cajita_simulation.proofs.Calling.Entering.{inside}

-- the array that `args` makes
abbrev pub frozen_array : List EsValue → Object
frozen_array qs = frozen_if true (array_object qs)

-- objects that share values with parameters: the new one
abbrev pub entry_of : ℕ → ℕ → List (List ℕ) → List EsValue → store.Shared
entry_of object act params qs = record { object = object; scope = act; items = shared_items 0 params qs }

-- no other name's value is one of its items

either_no : (a b : Bool) → (a || b) ≡ false → (a ≡ false) × (b ≡ false)
either_no true b e = cc
either_no false b e = (refl, e)

items_other : (o i : ℕ) (xs : List (List ℕ)) (qs : List EsValue) (x : List ℕ) (v : EsValue) (h : Objects) → is_among xs x ≡ false → put_items o (shared_items i xs qs) x v h ≡ h
items_other o i [] qs x v h out = refl
items_other o i (y ∷ ys) [] x v h out = refl
items_other o i (y ∷ ys) (q ∷ qs) x v h out =
    let parts = either_no (same_units x y) (is_among ys x) out in
    elim (comes_again y ys) as (λ b. put_items o (cond b (shared_items (i + 1) ys qs) ((Rattle.caja_units.specs.Index.number_units i, y) ∷ shared_items (i + 1) ys qs)) x v h ≡ h) [
      | true ↦ items_other o (i + 1) ys qs x v h parts.1
      | false ↦ ap (λ b. put_items o (shared_items (i + 1) ys qs) x v (cond b (Rattle.es3_language.specs.Arguments.put_item o (Rattle.caja_units.specs.Index.number_units i) v h) h)) parts.0 ∙ items_other o (i + 1) ys qs x v h parts.1
    ]

put_other : (l : List store.Shared) (a : Objects) (n o : ℕ) (xs : List (List ℕ)) (qs : List EsValue) (x : List ℕ) (v : EsValue) (h : Objects) → SharedAre a n l → is_among xs x ≡ false → put_shared (l ++ entry_of o n xs qs ∷ []) n x v h ≡ h
put_other [] a n o xs qs x v h p out =
    let same : nat_eq n n ≡ true = grind (arith, nat_tests) in
    ap (λ b. cond b (put_items o (shared_items 0 xs qs) x v h) h) same ∙ items_other o 0 xs qs x v h out
put_other (e ∷ l) a n o xs qs x v h p out =
    let other : nat_eq e.scope n ≡ false = let lt = p.1 in grind (arith, nat_tests, lt) in
    ap (λ b. cond b (put_items e.object e.items x v h) (put_shared (l ++ entry_of o n xs qs ∷ []) n x v h)) other ∙ put_other l a n o xs qs x v h p.2 out

slot_last : (owner : Owner) (names : Names) (x : List ℕ) (v : EsValue) (s : Store) → with_slot (length s.scopes) x v (with_scope owner names s) ≡ with_scope owner (with_name x v names) s
slot_last owner names x v s =
    let scope : store.Scope = record { owner = owner; names = names } in
    rw (slice_get-push s.scopes scope) (ap (λ (l : List store.Scope). let q : Store = record s { scopes = l } in q) (set-append_seam s.scopes scope [] (record { owner = owner; names = with_name x v names })))

module _ (f : EsValue) (params : List (List ℕ)) (qs : List EsValue) (all : Names) (s : Store) where
  abbrev object : EsValue
  object = es.Obj (length s.heap.list)

  abbrev owner : Owner
  owner = activation f params qs

  -- with the arguments object
  abbrev pub read_store : Store
  read_store = record s { heap = with_object s.heap (arguments_object f params qs all); shared = s.shared ++ entry_of (length s.heap.list) (length s.scopes) params qs ∷ [] }

  abbrev pub copied : EsValue
  copied = es.Obj (length (with_object s.heap (arguments_object f params qs all)).list)

  abbrev one_name : Names
  one_name = with_name arguments_name (es.Obj (length s.heap.list)) all

  abbrev pub args_names : Names
  args_names = with_name arguments_copy (es.Obj (length (with_object s.heap (arguments_object f params qs all)).list)) (with_name arguments_name (es.Obj (length s.heap.list)) all)

  -- and with the array
  abbrev pub args_store : ℕ → Store
  args_store by = with_heap read_store (with_named (with_object s.heap (arguments_object f params qs all)) (frozen_array qs) by)

  -- 10.1.8: `arguments` is read for the first time
  arguments_read : (env : Target.Env) (out : List ℕ) → env.chain ≡ length s.scopes ∷ out → name_value arguments_name all ≡ None → Target.name_value_plan arguments_name env (with_scope owner all s) ≡ Target.give object (with_scope owner one_name read_store)
  arguments_read env out chained none =
      let act = length s.scopes in
      let s0 = with_scope owner all s in
      let s2 = with_scope owner one_name read_store in
      let scope : store.Scope = record { owner = owner; names = all } in
      let there : slice_get s0.scopes act ≡ Some scope = slice_get-push s.scopes scope in
      let found : reference env.chain s0 arguments_name ≡ own_arguments act = ap (λ l. reference l s0 arguments_name) chained ∙ rw (there, none) refl in
      let entries = s.shared ++ entry_of (length s.heap.list) act params qs ∷ [] in
      let made : with_arguments act s0 ≡ with_slot act arguments_name object (record s0 { heap = with_arguments_object f params qs all s.heap; shared = entries }) = ap (λ o. cond (is_some (name_value arguments_name (store.scope_at o))) s0 (made_at o act s0)) there ∙ ap (λ o. cond (is_some o) s0 (made_at (Some scope) act s0)) none in
      let heaps : with_slot act arguments_name object (record s0 { heap = with_arguments_object f params qs all s.heap; shared = entries }) ≡ with_slot act arguments_name object (with_scope owner all read_store) = ap (λ (h : Objects). with_slot act arguments_name object (record s0 { heap = h; shared = entries })) (arguments_new f params qs all s.heap) in
      let all_made : with_arguments act s0 ≡ s2 = made ∙ heaps ∙ slot_last owner all arguments_name object read_store in
      let bound : name_value arguments_name (names_at s2 act) ≡ Some object = ap (name_value arguments_name) (names_new owner one_name read_store) ∙ name_value-with_name arguments_name object all in
      ap (λ r. read_plan env r s0) found ∙ ap (λ q. read_arguments act env q Target.give) all_made ∙ rw bound refl

  -- the array is written
  args_written : (a : Objects) (by : ℕ) (out : List ℕ) → SharedAre a (length s.scopes) s.shared → is_among params arguments_copy ≡ false → name_value arguments_copy all ≡ Some es.Undefined → write (reference (length s.scopes ∷ out) (with_scope owner all s) arguments_copy) copied (with_scope owner one_name (args_store by)) ≡ with_scope owner args_names (args_store by)
  args_written a by out shared apart bound =
      let act = length s.scopes in
      let s0 = with_scope owner all s in
      let sB = with_scope owner one_name (args_store by) in
      let scope : store.Scope = record { owner = owner; names = all } in
      let there : slice_get s0.scopes act ≡ Some scope = slice_get-push s.scopes scope in
      let found : reference (act ∷ out) s0 arguments_copy ≡ slot act arguments_copy = rw (there, bound) refl in
      let fixed : is_fixed (slice_get sB.scopes act) ≡ false = ap is_fixed (slice_get-push s.scopes (record { owner = owner; names = one_name })) in
      ap (λ r. write r copied sB) found
      ∙ ap (λ b. cond b sB (with_slot act arguments_copy copied (with_heap sB (put_shared sB.shared act arguments_copy copied sB.heap)))) fixed
      ∙ ap (λ (h : Objects). with_slot act arguments_copy copied (with_heap sB h)) (put_other s.shared a act (length s.heap.list) params qs arguments_copy copied sB.heap shared apart)
      ∙ slot_last owner one_name arguments_copy copied (args_store by)

  -- what the guard answers: the frozen array of the arguments, which has the module's next name
  abbrev pub Answers : Target.Env → Type 0
  Answers env = (q : Store) (y : Kept) → q.heap ≡ with_object s.heap (arguments_object f params qs all) → Target.task_plan page_table (Target.native_call 67 (es.Obj runtime_id) (es.Obj (length s.heap.list) ∷ []) env) q y ≡ Target.give (es.Obj (length (with_object s.heap (arguments_object f params qs all)).list)) (with_heap q (with_named (with_object s.heap (arguments_object f params qs all)) (frozen_array qs) env.by))

  -- `var a___=___.args(arguments),..;`
  pub args_head : (H : Here) (by number : ℕ) (known free : Guest.Names) (direct out : List ℕ) (this : ℕ) (a : Objects) {d : ℕ} {g : Tags} (rest : t.Tree t.items) (stmts : t.Tree t.stmts) {p : Source.Plan} {z : List Item} {n : ℕ} {y : Kept} {m : ℕ} (end' : Cont') (next' : Cont')
      → let J = inside H by number (length s.scopes) known free direct out this in
      In J g (with_scope owner all s) → ((c : ℕ) (e : EsValue) → name_value runtime_name (names_at (with_scope owner all s) c) ≡ Some e → e ≡ es.Obj runtime_id) → IsOpened s.heap → SharedAre a (length s.scopes) s.shared
      → name_value arguments_name all ≡ None → name_value arguments_copy all ≡ Some es.Undefined → is_among params arguments_copy ≡ false → (suc m ≤ 4294967295 → Answers (env_of J)) → ((q : Store) → Target.var_items rest (env_of J) q ≡ Target.var_items t.no_items (env_of J) q) → suc (suc (suc (suc (suc m)))) ≤ 64 * n → heard_by y z ≡ y.told
      → (suc (suc (suc (suc (suc (suc m))))) ≤ 4294967295 → M J d p z n (bind (Target.list true stmts None (env_of J) (with_scope owner args_names (args_store by)) end') next') y (suc (suc (suc (suc (suc (suc m)))))))
      → M J d p z n (bind (Target.list true (var_stmts (args_items true rest) stmts) None (env_of J) (with_scope owner all s) end') next') y m
  args_head H by number known free direct out this a {d = d} rest stmts {p = p} {z = z} {n = n} {y = y} {m = m} end' next' here runtime opened shared none bound apart answers no_values fits items x =
      let J = inside H by number (length s.scopes) known free direct out this in
      let s0 = with_scope owner all s in
      let s1 = with_scope owner one_name read_store in
      let sB = with_scope owner one_name (args_store by) in
      let chain = length s.scopes ∷ out in
      let last : Cont' = λ e2 s3. bind (Target.list_rest true stmts None (env_of J) end' e2 s3) next' in
      let waits : Cont' = λ e s3. bind (Target.on_value_of (λ v1 s2. Target.var_items rest (env_of J) (write (reference chain s0 arguments_copy) v1 s2)) e s3) last in
      right_enter (right_enter (callee_at J (codes "args") (single (t.name arguments_name)) waits (runtime_at here runtime)
      (right_enter (subst (λ q. M J d p z n (bind q (λ e s3. bind (Target.on_value_of (Target.after_argument (Target.called (member (es.Obj runtime_id) (codes "args"))) [] t.no_exprs (env_of J)) e s3) waits)) y (suc (suc (suc (suc (suc m)))))) (sym (arguments_read (env_of J) out refl none))
      (guard_at J args-guard args-silent (object ∷ []) s1 waits (opened_kept s.heap (arguments_object f params qs all) opened) fits items (λ small.
      subst (λ q. M J d p z n (bind q waits) y (suc (suc (suc (suc (suc (suc m))))))) (sym (answers (omega (arith, small)) s1 y refl))
      (subst (λ q. M J d p z n (bind (Target.var_items rest (env_of J) q) last) y (suc (suc (suc (suc (suc (suc m))))))) (sym (args_written a by out shared apart bound))
      (subst (λ q. M J d p z n (bind q last) y (suc (suc (suc (suc (suc (suc m))))))) (sym (no_values (with_scope owner args_names (args_store by))))
      (x small)))))))))
