-- The call of a closure: both enter it, run its statements, and go back.
use Rattle.std.proofs.Common.{Bool, ◌≡◌, ℕ, zero, suc, ◌+◌, ◌*◌, ◌≤◌, ◌<◌, true, false, List, [], ◌∷◌, ◌++◌, length, Option, None, cond, refl, sym, subst, arith, ap, ◌∙◌}
use Rattle.std.specs.Prelude.{nat_lt}
use Rattle.plans.specs.Plans.{bind, depth_fault, stops, enter}
use Rattle.acts.specs.Acts.{replied, answer, fault, task_plan}
use Rattle.matching.proofs.Rules.{right_enter, left_tick, left_told, both_stop, both_cut, both_enter}
use Rattle.es3_tree.specs.Tree as t
use Rattle.es3_objects.specs.declared.value.Value.TheVariants as es
use Rattle.es3_heap.specs.Objects as heap
use Rattle.es3_language.specs.Store.{Store, Names, activation, with_vars, with_params, with_scope, with_heap}
use Rattle.es3_language.specs.Hoisting.{functions_of}
use Rattle.es3_language.specs.Expressions.{apply_callable, with_functions, open_code, this_of}
use Rattle.es3_language.specs.Meaning as Target
use Rattle.cajita_tree.specs.Tree as c
use Rattle.cajita_rewrite.specs.Rewrite.{rewritten, temps, declared, others, temp_items, name_items, var_stmts, marks}
use Rattle.cajita_meaning.specs.World as World
use Rattle.cajita_meaning.specs.World.{Value, Pairs, next_scope, World as State, made_name}
use Rattle.cajita_meaning.specs.Asking as Asking
use Rattle.cajita_meaning.specs.Asking.{passing, stepping_all, count_of, functions_made, entry_reply, statements_reply, returned_reply, good_value, arguments_made}
use Rattle.cajita_meaning.specs.Direct.{Item, passed, made}
use Rattle.heap_rows.specs.Doing.{heard}
use Rattle.row_simulation.specs.RowLaw.{shown}
use Rattle.page_natives.specs.Natives.{Kept}
use Rattle.cajita_simulation.specs.Guest.{Guest, within}
use Rattle.cajita_simulation.specs.Jumps.{function_jumps}
use Rattle.cajita_simulation.proofs.Doing as Source
use Rattle.cajita_simulation.proofs.Doing.{good, bad}
use Rattle.cajita_simulation.proofs.Relation.{StandsIn, RelAt, EsValue, Vals, Here, env_of, Tags, Temps, names_at, tag_of_scope, ScopeIs, AreScopes, Captured, In, CodeIs, Related, Rel, Stays, stays_refl, stays_trans, stays_step, more, rel_less, related_steps, objects_step}
use Rattle.cajita_simulation.proofs.Scopes.{in_stays, captured_stays}
use Rattle.cajita_simulation.proofs.Writes.{Covers}
use Rattle.cajita_simulation.proofs.Told.{shown_quiet}
use Rattle.cajita_simulation.proofs.Changes.{rel_told, related_told, shaped_heap}
use Rattle.cajita_simulation.specs.Alike.{heard_by}
use Rattle.cajita_simulation.proofs.Laws.{NextAt, Targets, bare, nested, value_from, NextEffect, effect_from, EffectEntered, Cont, Cont', M, Room, room_part, steps_hold}
use Rattle.cajita_simulation.proofs.Rows.{Going}
use Rattle.cajita_simulation.proofs.Forms.List.{Effects, behind'}
use Rattle.cajita_simulation.proofs.Entering.{names_new, scopes_are, scope_runtime}
use Rattle.cajita_simulation.proofs.Calls.{opened_of}
use Rattle.cajita_simulation.proofs.Declaring.Stores.{bare_store, named_store, bound_names, functions_first, all_codes}
use Rattle.cajita_simulation.proofs.Declaring.Names.{Placed, placed, bound_pairs, objects_world, world_is, scope_declared}
use Rattle.cajita_simulation.proofs.Declaring.Relation.{one_each, one_each_is, Few, shaped_named, scope_alike, related_declared, stays_declared, shaped_bare, opened_bare, closures_older}
use Rattle.cajita_simulation.proofs.Declaring.Marks.{Entered, six, six_is, marks_match, declares_match}
use Rattle.cajita_simulation.proofs.Calling.Names.{NewNames, ScopeNames, heads, behind_head, statements, own_names, new_names, functions_are, scope_names, call_alike, own_heads, names_more, call_alike_own, arguments_unbound, copy_undefined, copy_apart}
use Rattle.cajita_simulation.proofs.Calling.Entering.{inside, declares, declares_room, declares_covers, captured_enter, in_enter, new_scopes, rel_back}
use Rattle.cajita_simulation.proofs.Calling.Laws.{ClosureAt}
use Rattle.cajita_simulation.proofs.Calling.Reading.{inner_store, shaped_inner, shaped_whole, await_here, begun_here, array_named, item_plain, alike_here, placed_more, related_here}
use Rattle.cajita_simulation.proofs.Calling.Head.{args_names, args_head}
use Rattle.cajita_simulation.proofs.Calling.ArgsGuard.{args_answer}
use Rattle.cajita_simulation.proofs.Calling.Params.{params_there}
use Rattle.cajita_simulation.proofs.Declaring.Granting.{awaiting_match}
use Rattle.cajita_simulation.proofs.Declaring.Awaiting.{Begun}
use Rattle.es3_language.specs.Arguments.{arguments_name}
use Rattle.row_simulation.proofs.Changes.{last_kept}

-- names are bound, each with a step of the direct meaning
ticked : (H : Here) {d : ℕ} (count : ℕ) (w : State) (p : Asking.Reply) (go : Going) (next : Cont) {z : List Item} (n : ℕ) {q : Target.Plan} {y : Kept} {m : ℕ} → ((n' : ℕ) → n' ≡ n + count → M H d (bind (replied p go) next) z n' q y m) → M H d (bind (replied (stepping_all count w p) go) next) z n q y m
ticked H zero w p go next n f = f n (omega arith)
ticked H (suc count) w p go next n f = left_tick (ticked H count w p go next (suc n) (λ n' same. f n' (omega (arith, same))))

-- what is told where values go from one module to another
pub passed_match : {form : Bool} {H : Here} {T : Temps} {d k : ℕ} (a b : ℕ) (us : List Value) (p : Asking.Reply) (go : Going) (next : Cont) {w : State} {z : List Item} {n : ℕ} {g : Tags} {s : Store} {q : Target.Plan} {y : Kept} {m : ℕ} → RelAt form H T k w z n g s y m → ((z' : List Item) → RelAt form H T k w z' n g s y m → M H d (bind (replied p go) next) z' n q y m) → M H d (bind (replied (passing a b us p) go) next) z n q y m
passed_match a b [] p go next r f = f _ r
passed_match a b (World.object o ∷ us) p go next r f = left_told (passed_match a b us p go next (rel_told (passed a b o ∷ []) refl r) f)
passed_match a b (World.undefined ∷ us) p go next r f = passed_match a b us p go next r f
passed_match a b (World.null ∷ us) p go next r f = passed_match a b us p go next r f
passed_match a b (World.truth c ∷ us) p go next r f = passed_match a b us p go next r f
passed_match a b (World.number c ∷ us) p go next r f = passed_match a b us p go next r f
passed_match a b (World.text c ∷ us) p go next r f = passed_match a b us p go next r f

-- what goes on after the statements of a closure of the module m, in the module that called it, by how they ended
abbrev body_next : ℕ → ℕ → Going → Cont → Cont
body_next by m go next (Source.normal v) w = bind (go good (World.undefined ∷ []) w) next
body_next by m go next e w = bind (replied (returned_reply by m e w) go) next

-- what goes on behind a statement of a closure
abbrev rest_next : Here → ℕ → c.Tree c.stmts → Going → Cont → Cont
rest_next J by xs go next e w = bind (replied (Asking.after_statement by J.by e w (λ w1. statements_reply xs J.around J.by by w1)) go) next

abbrev rest_next' : Here → t.Tree t.stmts → Option EsValue → Cont' → Cont' → Cont'
rest_next' J rest acc' end' next' e s = bind (Target.list_rest true rest acc' (env_of J) end' e s) next'

own_after : {J : Here} {T : Temps} (by : ℕ) (xs : c.Tree c.stmts) (rest : t.Tree t.stmts) (acc' : Option EsValue) {a k : ℕ} {w : State} {g : Tags} {s : Store} {i l : ℕ} (go : Going) (end' : Cont') (next : Cont) (next' : Cont') → i ≤ l → NextEffect bare function_jumps J T a k w g s i (body_next by J.by go next) (behind' end' next')
    → ((c1 : ℕ) → c1 ≤ a → (acc1 : Option EsValue) (w1 : State) (z1 : List Item) (n1 : ℕ) (g1 : Tags) (s1 : Store) (y1 : Kept) (m1 : ℕ) → Rel J T (suc k) w1 z1 n1 g1 s1 y1 m1 → Stays w g s i w1 g1 s1 m1 → M J c1 (bind (replied (statements_reply xs J.around J.by by w1) go) next) z1 n1 (bind (Target.list true rest acc1 (env_of J) s1 end') next') y1 m1)
    → NextEffect nested function_jumps J T a (suc k) w g s l (rest_next J by xs go next) (rest_next' J rest acc' end' next')
own_after by xs rest acc' go end' next next' le x f = record {
  finishes = record {
    on = λ c1 less v v' w1 z1 n1 g1 s1 y1 m1 r1 k1. f c1 less (Target.later v' acc') w1 z1 n1 g1 s1 y1 m1 r1 (stays_trans (stays_step le) k1);
    breaks = λ c1 less l out v' w1 z1 n1 g1 s1 y1 m1 r1 k1. absurd (no_jump out);
    continues = λ c1 less l out v' w1 z1 n1 g1 s1 y1 m1 r1 k1. absurd (no_jump out);
  };
  returns = λ out. record { on = λ c1 less v e w1 z1 n1 g1 s1 y1 m1 is r1 k1. (x.returns out).on c1 less v e w1 z1 n1 g1 s1 y1 m1 is (rel_less (omega arith) r1) (stays_trans (stays_step le) k1) };
  throws = record { on = λ c1 less v e w1 z1 n1 g1 s1 y1 m1 is r1 k1. x.throws.on c1 less v e w1 z1 n1 g1 s1 y1 m1 is (rel_less (omega arith) r1) (stays_trans (stays_step le) k1) };
}
  where
    no_jump : false ≡ true → ⊥
    no_jump e = cc

-- the statements of a closure
own_match : {J : Here} {T : Temps} {d : ℕ} (by : ℕ) (law : Effects J d) (xs : c.Tree c.stmts) → Guest J.vars J.free c.stmts xs → Targets function_jumps [] c.stmts xs → (b : ℕ) (acc' : Option EsValue) (a k : ℕ) {w : State} {z : List Item} {n : ℕ} {g : Tags} {s : Store} {y : Kept} {m : ℕ} (go : Going) (end' : Cont') (next : Cont) (next' : Cont') → a < d → Room J T b (temps c.stmts xs) → Rel J T k w z n g s y m → NextEffect bare function_jumps J T a k w g s m (body_next by J.by go next) (behind' end' next')
    → M J a (bind (replied (statements_reply xs J.around J.by by w) go) next) z n (bind (Target.list true (rewritten false c.stmts b xs) acc' (env_of J) s end') next') y m
unfolding rewritten
own_match by law c.no_stmts guest to b acc' a k go end' next next' lt room r x = x.finishes.on a (omega arith) tt acc' _ _ _ _ _ _ _ r stays_refl
own_match {J = J} {T = T} by law (c.more_stmts u xs) guest to b acc' a k go end' next next' lt room r x =
    (law b u guest.0).on {J = function_jumps} [] to.0 lt (room_part (omega arith) (omega arith) room) r
    (own_after by xs (rewritten false c.stmts (b + temps c.stmt u) xs) acc' go end' next next' (omega arith) x (λ c1 le acc1 w1 z1 n1 g1 s1 y1 m1 r1 k1.
    own_match by law xs guest.1 to.1 (b + temps c.stmt u) acc1 c1 k go end' next next' (omega arith) (room_part (omega arith) (omega arith) room) (rel_less (omega arith) r1) (effect_from {j = k} {k = k} le (omega arith) k1 x)))

-- the `var` statement at the head of a body gives no values

abbrev NoValues : t.Tree t.items → Type 0
NoValues t.no_items = Unit {0}
NoValues (t.more_items x t.no_expr rest) = NoValues rest
NoValues (t.more_items x (t.some_expr e) rest) = ⊥

no_values : (is : t.Tree t.items) (env : Target.Env) (s : Store) → NoValues is → Target.var_items is env s ≡ Target.var_items t.no_items env s
no_values t.no_items env s p = refl
no_values (t.more_items x t.no_expr rest) env s p = no_values rest env s p
no_values (t.more_items x (t.some_expr e) rest) env s p = absurd p

names_none : (xs : List (List ℕ)) → NoValues (name_items xs t.no_items)
names_none [] = tt
names_none (x ∷ xs) = names_none xs

temps_none : (i q : ℕ) (is : t.Tree t.items) → NoValues is → NoValues (temp_items i q is)
temps_none i zero is p = p
temps_none i (suc q) is p = temps_none (suc i) q is p

-- the head takes a step where it has names
abbrev Paid : t.Tree t.items → ℕ → ℕ → Type 0
Paid t.no_items m m' = m' ≡ m
Paid is m m' = Unit {0}

head_match : (H : Here) {d : ℕ} (is : t.Tree t.items) → NoValues is → (rest : t.Tree t.stmts) (s : Store) {p : Source.Plan} {z : List Item} {n : ℕ} {y : Kept} {m : ℕ} (end' : Cont') (next' : Cont') → ((m' : ℕ) → m ≤ m' → m' ≤ suc m → Paid is m m' → M H d p z n (bind (Target.list true rest None (env_of H) s end') next') y m') → M H d p z n (bind (Target.list true (var_stmts is rest) None (env_of H) s end') next') y m
head_match H t.no_items none rest s end' next' f = f _ (omega arith) (omega arith) refl
head_match H {d = d} (t.more_items x e is) none rest s {p = p} {z = z} {n = n} {y = y} {m = m} end' next' f =
    right_enter (subst (λ q. M H d p z n (bind q (λ e1 s1. bind (Target.list_rest true rest None (env_of H) end' e1 s1) next')) y (suc m)) (sym (no_values (t.more_items x e is) (env_of H) s none)) (f (suc m) (omega arith) (omega arith) tt))

-- a head, and the first statement behind it, where the direct meaning enters the statement first: its step pays for both
first_match : (J : Here) {d : ℕ} (is : t.Tree t.items) → NoValues is → (u : Source.Task) (x : t.Tree t.stmt) (rest : t.Tree t.stmts) (w : State) (s : Store) {z : List Item} {n : ℕ} {y : Kept} {m : ℕ} (next : Cont) (end' : Cont') (next' : Cont') → m ≤ 64 * n → heard_by y z ≡ y.told
    → ((a m' : ℕ) → d ≡ suc a → suc m ≤ m' → m' ≤ suc (suc m) → M J a (bind (task_plan (Source.forms J.rules) u w) next) z (suc n) (bind (Target.stmt_plan x [] (env_of J) s) (rest_next' J rest None end' next')) y m')
    → M J d (enter u w next) z n (bind (Target.list true (var_stmts is (t.more_stmts x rest)) None (env_of J) s end') next') y m
first_match J {d = zero} t.no_items none u x rest w s next end' next' fits items f = both_cut fits items
first_match J {d = zero} (t.more_items a e is) none u x rest w s next end' next' fits items f = both_cut fits items
first_match J {d = suc d} t.no_items none u x rest w s {m = m} next end' next' fits items f = both_enter (f d (suc m) refl (omega arith) (omega arith))
first_match J {d = suc d} (t.more_items a e is) none u x rest w s {z = z} {n = n} {y = y} {m = m} next end' next' fits items f =
    both_enter (subst (λ q. M J d (bind (task_plan (Source.forms J.rules) u w) next) z (suc n) (bind q (λ e1 s1. bind (Target.list_rest true (t.more_stmts x rest) None (env_of J) end' e1 s1) next')) y (suc m)) (sym (no_values (t.more_items a e is) (env_of J) s none))
    (right_enter (f d (suc (suc m)) refl (omega arith) (omega arith))))

-- a place of the same page
abbrev at_page : Here → Here → Here
at_page H J = record J { rules = H.rules; turn = H.turn }

-- how the statements of a closure end, and what its call then gives
body_ends : {form : Bool} {H : Here} (J : Here) {T U : Temps} {a k : ℕ} {w w' : State} {g g' : Tags} {s s' : Store} {m m' : ℕ} (go : Going) (next : Cont) (next' : Cont') → Covers T U → AreScopes s → StandsIn form H g s → Stays w g s m w' g' s' m' → NextAt form H T a k w g s m (Source.called_next go next) next' → NextEffect bare function_jumps (at_page H J) U a k w' g' s' m' (body_next H.by J.by go next) (behind' Target.body_end next')
body_ends {form = form} {H = H} J {T = T} go next next' f are here keep x = record {
  finishes = record {
    on = λ c1 le v v' w1 z1 n1 g1 s1 y1 m1 r1 k1. x.gives.on c1 le World.undefined es.Undefined w1 z1 n1 g1 s1 y1 m1 tt (rel_back refl f are here (stays_trans keep k1) r1) (stays_trans keep k1);
    breaks = λ c1 le l out v' w1 z1 n1 g1 s1 y1 m1 r1 k1. absurd (no_jump out);
    continues = λ c1 le l out v' w1 z1 n1 g1 s1 y1 m1 r1 k1. absurd (no_jump out);
  };
  returns = λ out. record { on = λ c1 le v e w1 z1 n1 g1 s1 y1 m1 is r1 k1. passed_match {H = H} {T = T} J.by H.by (v ∷ []) (good_value v w1) go next (rel_back refl f are here (stays_trans keep k1) r1) (λ z2 r2. x.gives.on c1 le v e w1 z2 n1 g1 s1 y1 m1 is r2 (stays_trans keep k1)) };
  throws = record { on = λ c1 le v e w1 z1 n1 g1 s1 y1 m1 is r1 k1. passed_match {H = H} {T = T} J.by H.by (v ∷ []) (answer bad (v ∷ []) w1) go next (rel_back refl f are here (stays_trans keep k1) r1) (λ z2 r2. x.throws.on c1 le v e w1 z2 n1 g1 s1 y1 m1 is r2 (stays_trans keep k1)) };
}
  where
    no_jump : false ≡ true → ⊥
    no_jump e = cc

-- a closure's body in its scope, without what goes to its module
abbrev pub entered_reply : c.Tree c.func → List ℕ → ℕ → List Value → Here → State → Asking.Reply
entered_reply (c.fun name params args body) direct by us H w =
    Asking.body_reply body params args us (next_scope by w) (record { chain = next_scope by w ∷ direct; calls = H.around.calls + 1 }) by H.by w

-- the laws of statements that both sides have entered
abbrev pub Entries : Here → ℕ → Type 0
Entries J d = (b : ℕ) (x : c.Tree c.stmt) → Guest J.vars J.free c.stmt x → EffectEntered J d b (temps c.stmt x) x (rewritten false c.stmt b x)

-- a closure that doesn't read `arguments`
module _ (form : Bool) (H : Here) (T : Temps) (by i : ℕ) (name : Option (List ℕ)) (params names : List (List ℕ)) (fs : c.Tree c.funcs) (xs : c.Tree c.stmts) (direct : List ℕ) (this : EsValue) (us : List Value) (qs : List EsValue) (w : State) {g : Tags} {s : Store} (code : CodeIs by g s (c.fun name params false (c.a_body fs names xs)) direct i) where
  abbrev count : ℕ
  count = length params + (0 + (length names + count_of fs))

  abbrev chain : List ℕ
  chain = length s.scopes ∷ code.chain

  abbrev outer : List ℕ
  outer = next_scope by w ∷ direct

  abbrev inner : Here
  inner = inside H by (next_scope by w) (length s.scopes) (within params names fs false code.vars) (within params names fs false code.free) direct code.chain (this_of this s)

  abbrev all_names : Names
  all_names = bound_names fs (length s.heap.list) (with_vars (own_names false fs names xs) (with_params params qs []))

  abbrev scoped : Store
  scoped = with_scope (activation (es.Obj i) params qs) all_names s

  abbrev first_pairs : Pairs
  first_pairs = World.with_vars names (World.with_params params us [])

  abbrev pairs : Pairs
  pairs = bound_pairs fs outer by w.objects first_pairs

  abbrev tags : Tags
  tags = g ++ tag_of_scope by (next_scope by w) ∷ []

  abbrev scopes_new : ScopeNames all_names code.vars code.free (within params names fs false code.vars) (within params names fs false code.free) (temps c.stmts xs)
  scopes_new = scope_names fs (length s.heap.list) qs (new_names _ _ false fs names xs code.guest.8 code.guest.1 code.guest.3 params code.guest.0) code.guest.6 code.vars code.free

  abbrev done : State → Asking.Reply
  done w2 = statements_reply xs inner.around by H.by w2

  abbrev source : Asking.Reply
  source = functions_made fs (next_scope by w) outer by (World.with_scope by first_pairs w) done

  captured_here : {k : ℕ} {z : List Item} {n : ℕ} {y : Kept} {m : ℕ} → RelAt form H T k w z n g s y m → Captured inner.vars inner.free by tags outer chain scoped
  captured_here r = captured_enter by (next_scope by w) g s (es.Obj i) params qs scopes_new r.all.scopes.count r.all.scopes.are code.captured

  stands_here : {k : ℕ} {z : List Item} {n : ℕ} {y : Kept} {m : ℕ} → RelAt form H T k w z n g s y m → In inner tags scoped
  stands_here r = in_enter by (next_scope by w) g s (es.Obj i) params qs scopes_new H (this_of this s) (captured_here r)

  few_before : {m m1 : ℕ} → m ≤ m1 → Few fs (one_each fs m1) → Few fs m
  few_before {m = m} {m1 = m1} from few = λ j lt. let h = few j lt in let ones = one_each_is fs m1 in omega (arith, h, ones, from)

  -- where its statements begin, with j steps in hand
  begins_here : {k j : ℕ} {z z2 : List Item} {n n' : ℕ} {y : Kept} {m m1 : ℕ} → by < 64 → Vals s.heap us qs → RelAt form H T k w z n g s y m → m ≤ m1 → six fs (one_each fs m1) + j ≤ 64 * n' → shown z2 ≡ shown z → Few fs (one_each fs m1)
      → Rel inner (declares (length s.scopes) (temps c.stmts xs) T) j (World.with_scope by pairs (objects_world fs outer by w)) z2 n' tags (named_store fs chain by scoped) y (six fs (one_each fs m1))
  begins_here {j = j} {z = z} {n' = n'} {y = y} {m = m} {m1 = m1} below is r from fits told named =
      let ones = one_each_is fs m in
      let ones1 = one_each_is fs m1 in
      let sixes = six_is fs (one_each fs m1) in
      let few = few_before from named in
      let news = new_names _ _ false fs names xs code.guest.8 code.guest.1 code.guest.3 params code.guest.0 in
      let firsts = with_vars (own_names false fs names xs) (with_params params qs []) in
      let alike : ScopeIs (named_store fs chain by s).heap pairs all_names = λ x shown. scope_alike params names fs g s by outer chain below few r.all.objects code.guest.6 x first_pairs firsts (call_alike s.heap us qs news is x shown) in
      let scopes = new_scopes by (next_scope by w) g (named_store fs chain by s) (es.Obj i) params qs scopes_new T pairs alike in
      let begun : Related H.rules T 0 w z n' g s y m = related_steps (omega arith) (omega (arith, fits, ones1, sixes, from)) r.all in
      let both = related_declared {k = 0} fs by outer chain below few (omega (arith, fits, ones, ones1, sixes, from)) scopes (captured_here r) code.guest.7 begun in
      let are : AreScopes scoped = scopes_are (activation (es.Obj i) params qs) all_names s tt r.all.scopes.are in
      record { all = related_told told (related_steps (omega (arith, ones, ones1, sixes, from)) fits both); here = in_stays (shaped_named fs chain by tags scoped) are are (stands_here r) }

  -- and what then goes on
  ends_here : {k j a : ℕ} {z : List Item} {n : ℕ} {y : Kept} {m m1 : ℕ} (go : Going) (next : Cont) (next' : Cont') → by < 64 → RelAt form H T k w z n g s y m → m ≤ m1 → Few fs (one_each fs m1) → NextAt form H T a j w g s m (Source.called_next go next) next'
      → NextEffect bare function_jumps inner (declares (length s.scopes) (temps c.stmts xs) T) a j (World.with_scope by pairs (objects_world fs outer by w)) tags (named_store fs chain by scoped) (six fs (one_each fs m1)) (body_next H.by by go next) (behind' Target.body_end next')
  ends_here {m = m} {m1 = m1} go next next' below r from named x =
      let ones1 = one_each_is fs m1 in
      let sixes = six_is fs (one_each fs m1) in
      body_ends {H = H} inner go next next' (declares_covers (temps c.stmts xs) T r.all.scopes) r.all.scopes.are r.here (stays_declared fs by outer chain pairs (activation (es.Obj i) params qs) all_names below (few_before from named) r.all.objects (omega (arith, ones1, sixes, from))) x

  -- both enter it, and bind its names
  opened_match : {k a : ℕ} {z : List Item} {n : ℕ} {y : Kept} {m : ℕ} (go : Going) (next : Cont) (next' : Cont') → nat_lt H.around.calls 1000 ≡ true → RelAt form H T k w z n g s y m
      → ((z' : List Item) (n' : ℕ) → RelAt form H T k w z' n g s y m → n' ≡ n + count → M H a (bind (replied source go) next) z' n' (bind (Target.list true (statements false fs names xs) None (env_of inner) (bare_store fs chain by scoped) Target.body_end) next') y m)
      → M H a (bind (replied (entered_reply (c.fun name params false (c.a_body fs names xs)) direct by us H w) go) next) z n (bind (apply_callable (heap.callable_of (heap.object_at s.heap i)) (es.Obj i) this qs (env_of H) s) next') y m
  unfolding rewritten
  opened_match {k = k} {a = a} {z = z} {n = n} {y = y} {m = m} go next next' allowed r f =
      let f0 = c.fun name params false (c.a_body fs names xs) in
      let owner = activation (es.Obj i) params qs in
      let firsts = with_vars (own_names false fs names xs) (with_params params qs []) in
      let target : List (t.Tree t.func) → Target.Plan = λ l. Target.list true (statements false fs names xs) None (env_of inner) (with_functions l (length s.scopes) chain by (with_scope owner firsts s)) Target.body_end in
      let ends : Store → Target.Plan = λ s1. Target.list true (statements false fs names xs) None (env_of inner) s1 Target.body_end in
      let goes : (z' : List Item) → RelAt form H T k w z' n g s y m → (n' : ℕ) → n' ≡ n + count → M H a (bind (replied source go) next) z' n' (bind (target (functions_of (statements false fs names xs))) next') y m = λ z' r0 n' same.
      subst (λ l. M H a (bind (replied source go) next) z' n' (bind (target l) next') y m) (sym (functions_are _ _ false fs names xs code.guest.8))
      (subst (λ s1. M H a (bind (replied source go) next) z' n' (bind (ends s1) next') y m) (sym (functions_first fs owner firsts chain by s)) (f z' n' r0 same)) in
      let goes_in : M H a (bind (replied (stepping_all count w source) go) next) z n (bind (target (functions_of (statements false fs names xs))) next') y m = ticked H count w source go next n (λ n' same. goes z r n' same) in
      let entered = entered_reply f0 direct by us H w in
      subst (λ o. M H a (bind (replied entered go) next) z n (bind (apply_callable o (es.Obj i) this qs (env_of H) s) next') y m) (sym code.callable)
      (subst (λ o. M H a (bind (replied entered go) next) z n (bind (open_code o by (es.Obj i) (this_of this s) qs H.around.calls s Target.body_end) next') y m) (sym code.code)
      (subst (λ b. M H a (bind (replied entered go) next) z n (bind (cond b (target (functions_of (statements false fs names xs))) (stops depth_fault s)) next') y m) (sym allowed) goes_in))

  -- where its names, each a step of the direct meaning, pay for its head, or it has none
  counted_match : {d k a : ℕ} {z : List Item} {n : ℕ} {y : Kept} {m : ℕ} (go : Going) (next : Cont) (next' : Cont') → a < d → by < 64 → nat_lt H.around.calls 1000 ≡ true → Effects inner d → Vals s.heap us qs → ((m1 : ℕ) → m1 ≤ suc m → Paid (heads false names xs) m m1 → m1 ≤ m + count) → RelAt form H T k w z n g s y m → NextAt form H T a k w g s m (Source.called_next go next) next'
      → M H a (bind (replied (entered_reply (c.fun name params false (c.a_body fs names xs)) direct by us H w) go) next) z n (bind (apply_callable (heap.callable_of (heap.object_at s.heap i)) (es.Obj i) this qs (env_of H) s) next') y m
  unfolding rewritten
  counted_match {k = k} {a = a} {n = n} {y = y} {m = m} go next next' lt below allowed effects is enough r x = opened_match go next next' allowed r (λ z' n' r0 same.
      let body = rewritten false c.stmts 0 xs in
      let q = temps c.stmts xs in
      let are : AreScopes scoped = scopes_are (activation (es.Obj i) params qs) all_names s tt r.all.scopes.are in
      let firsts = with_vars (own_names false fs names xs) (with_params params qs []) in
      let entered : Entered inner tags scoped = record { here = stands_here r; are = are; runtime = scope_runtime (activation (es.Obj i) params qs) all_names s scopes_new.runtime r.all.scopes.runtime; opened = opened_of r.all.objects } in
      let there : Placed fs (length s.heap.list) (names_at scoped (length s.scopes)) = subst (λ l. Placed fs (length s.heap.list) l) (sym (names_new (activation (es.Obj i) params qs) all_names s)) (placed params names fs (length s.heap.list) firsts code.guest.6) in
      head_match inner (heads false names xs) (temps_none 0 q _ (names_none (others names (declared c.stmts xs)))) (behind_head fs xs) (bare_store fs chain by scoped) Target.body_end next' (λ m1 from to paid.
      let ones1 = one_each_is fs m1 in
      let sixes = six_is fs (one_each fs m1) in
      let few = enough m1 to paid in
      let fits : six fs (one_each fs m1) + k ≤ 64 * n' = omega (arith, r0.all.steps, same, ones1, sixes, few) in
      declares_match H.rules H.turn (env_of inner) fs (marks fs body) None (bare_store fs chain by scoped) Target.body_end next'
      (marks_match {J = inner} params names fs body None (next_scope by w) outer chain code.chain (World.with_scope by first_pairs w) done go next Target.body_end next' refl code.guest.6 entered there (omega (arith, fits)) r0.all.items (λ acc z2 told named.
      subst (λ v. M H a (bind (replied (done v) go) next) z2 n' (bind (Target.list true body acc (env_of inner) (named_store fs chain by scoped) Target.body_end) next') y (six fs (one_each fs m1))) (sym (world_is fs outer by first_pairs w))
      (own_match {J = inner} H.by effects xs code.guest.8 code.guest.5 0 acc a k go Target.body_end next next' lt (declares_room {H = inner} q T code.guest.4) (begins_here below is r0 from fits told named) (ends_here go next next' below r0 from named x))))))

-- a closure that binds no name, and has statements
bare_match : {form : Bool} {H : Here} {T : Temps} {d k a : ℕ} (by i : ℕ) (name : Option (List ℕ)) (u : c.Tree c.stmt) (xs : c.Tree c.stmts) (direct : List ℕ) (this : EsValue) (us : List Value) (qs : List EsValue) {w : State} {z : List Item} {n : ℕ} {g : Tags} {s : Store} {y : Kept} {m : ℕ} (code : CodeIs by g s (c.fun name [] false (c.a_body c.no_funcs [] (c.more_stmts u xs))) direct i) (go : Going) (next : Cont) (next' : Cont') → a < d → by < 64 → nat_lt H.around.calls 1000 ≡ true
    → ((J : Here) → J.by < 64 → Effects J d) → ((J : Here) → J.by < 64 → Entries J d) → Vals s.heap us qs → RelAt form H T k w z n g s y m → NextAt form H T a k w g s m (Source.called_next go next) next'
    → M H a (bind (replied (entered_reply (c.fun name [] false (c.a_body c.no_funcs [] (c.more_stmts u xs))) direct by us H w) go) next) z n (bind (apply_callable (heap.callable_of (heap.object_at s.heap i)) (es.Obj i) this qs (env_of H) s) next') y m
unfolding rewritten
bare_match {form = form} {H = H} {T = T} {k = k} {a = a} by i name u xs direct this us qs {w = w} {n = n} {g = g} {s = s} {y = y} {m = m} code go next next' lt below allowed effects entries is r x =
    let list = c.more_stmts u xs in
    let J = inner form H T by i name [] [] c.no_funcs list direct this us qs w code in
    let S = scoped form H T by i name [] [] c.no_funcs list direct this us qs w code in
    let U = declares (length s.scopes) (temps c.stmts list) T in
    let tags1 = tags form H T by i name [] [] c.no_funcs list direct this us qs w code in
    let w1 = World.with_scope by [] w in
    let room : Room J U 0 (temps c.stmts list) = declares_room {H = J} (temps c.stmts list) T code.guest.4 in
    opened_match form H T by i name [] [] c.no_funcs list direct this us qs w code go next next' allowed r (λ z' n' r0 same.
    first_match J (heads false [] list) (temps_none 0 (temps c.stmts list) _ (names_none (others [] (declared c.stmts list)))) (Source.effect_of u [] J) (rewritten false c.stmt 0 u) (rewritten false c.stmts (0 + temps c.stmt u) xs) w1 S (rest_next J H.by xs go next) Target.body_end next' (omega (arith, r0.all.steps, same)) r0.all.items (λ a1 m1 less from to.
    let none : Few c.no_funcs m1 = λ j few. absurd (omega (arith, few)) in
    let r1 : Rel J U (more k) w1 z' (suc n') tags1 S y m1 = begins_here form H T by i name [] [] c.no_funcs list direct this us qs w code {k = k} {j = more k} {z = z'} {z2 = z'} {n = n} {n' = suc n'} {m = m} {m1 = m1} below is r0 (omega (arith, from)) (omega (arith, r0.all.steps, same, to)) refl none in
    let x1 : NextAt form H T a1 k w g s m (Source.called_next go next) next' = value_from {j = k} {k = k} (omega (arith, less)) (omega arith) stays_refl x in
    let after : NextEffect bare function_jumps J U a1 k w1 tags1 S m1 (body_next H.by by go next) (behind' Target.body_end next') = ends_here form H T by i name [] [] c.no_funcs list direct this us qs w code {k = k} {j = k} {a = a1} {m = m} {m1 = m1} go next next' below r0 (omega (arith, from)) none x1 in
    (entries J below 0 u code.guest.8.0).on {J = function_jumps} [] code.guest.5.0 (omega (arith, less, lt)) (room_part (omega arith) (omega arith) room) r1
    (own_after H.by xs (rewritten false c.stmts (0 + temps c.stmt u) xs) None go Target.body_end next next' (omega arith) after (λ c1 le acc1 w2 z2 n2 g2 s2 y2 m2 r2 k2.
    own_match {J = J} H.by (effects J below) xs code.guest.8.1 code.guest.5.1 (0 + temps c.stmt u) acc1 c1 k go Target.body_end next next' (omega (arith, le, less, lt)) (room_part (omega arith) (omega arith) room) (rel_less (omega arith) r2) (effect_from {j = k} {k = k} le (omega arith) k2 after)))))

-- a closure's code is entered: a call leaves as many steps in hand as it began with
entered_match : {form : Bool} {H : Here} {T : Temps} {d k : ℕ} → ((J : Here) → J.by < 64 → Effects J d) → ((J : Here) → J.by < 64 → Entries J d) → (a by i : ℕ) (f : c.Tree c.func) (direct : List ℕ) (this : EsValue) (us : List Value) (qs : List EsValue) {w : State} {z : List Item} {n : ℕ} {g : Tags} {s : Store} {y : Kept} {m : ℕ} (go : Going) (next : Cont) (next' : Cont') → a < d → by < 64 → CodeIs by g s f direct i → Vals s.heap us qs → (m ≤ 4294967295 → length qs < 4294967296) → nat_lt H.around.calls 1000 ≡ true → RelAt form H T k w z n g s y m → NextAt form H T a k w g s m (Source.called_next go next) next'
    → M H a (bind (replied (entered_reply f direct by us H w) go) next) z n (bind (apply_callable (heap.callable_of (heap.object_at s.heap i)) (es.Obj i) this qs (env_of H) s) next') y m
unfolding rewritten
entered_match {form = form} {H = H} {T = T} effects entries a by i (c.fun name (p ∷ params) false (c.a_body fs names xs)) direct this us qs {w = w} go next next' lt below code is few allowed r x =
    counted_match form H T by i name (p ∷ params) names fs xs direct this us qs w code go next next' lt below allowed (effects (inner form H T by i name (p ∷ params) names fs xs direct this us qs w code) below) is (λ m1 to paid. omega (arith, to)) r x
entered_match {form = form} {H = H} {T = T} effects entries a by i (c.fun name [] false (c.a_body fs (p ∷ names) xs)) direct this us qs {w = w} go next next' lt below code is few allowed r x =
    counted_match form H T by i name [] (p ∷ names) fs xs direct this us qs w code go next next' lt below allowed (effects (inner form H T by i name [] (p ∷ names) fs xs direct this us qs w code) below) is (λ m1 to paid. omega (arith, to)) r x
entered_match {form = form} {H = H} {T = T} effects entries a by i (c.fun name [] false (c.a_body (c.more_funcs f fs) [] xs)) direct this us qs {w = w} go next next' lt below code is few allowed r x =
    counted_match form H T by i name [] [] (c.more_funcs f fs) xs direct this us qs w code go next next' lt below allowed (effects (inner form H T by i name [] [] (c.more_funcs f fs) xs direct this us qs w code) below) is (λ m1 to paid. omega (arith, to)) r x
entered_match {form = form} {H = H} {T = T} effects entries a by i (c.fun name [] false (c.a_body c.no_funcs [] c.no_stmts)) direct this us qs {w = w} go next next' lt below code is few allowed r x =
    counted_match form H T by i name [] [] c.no_funcs c.no_stmts direct this us qs w code go next next' lt below allowed (effects (inner form H T by i name [] [] c.no_funcs c.no_stmts direct this us qs w code) below) is (λ m1 to paid. omega (arith, paid)) r x
entered_match effects entries a by i (c.fun name [] false (c.a_body c.no_funcs [] (c.more_stmts u xs))) direct this us qs go next next' lt below code is few allowed r x =
    bare_match by i name u xs direct this us qs code go next next' lt below allowed effects entries is r x
entered_match {form = form} {H = H} {T = T} {k = k} effects entries a by i (c.fun name params true (c.a_body fs names xs)) direct this us qs {w = w} {z = z} {n = n} {g = g} {s = s} {y = y} {m = m} go next next' lt below code is few allowed r x =
    let f = c.fun name params true (c.a_body fs names xs) in
    let q = temps c.stmts xs in
    let guest = code.guest in
    let vars' = own_names true fs names xs in
    let news : NewNames true params names vars' q = new_names _ _ true fs names xs guest.8 guest.1 guest.3 params guest.0 in
    let act = length s.scopes in
    let place = length s.heap.list in
    let number = next_scope by w in
    let chain = length s.scopes ∷ code.chain in
    let outer = next_scope by w ∷ direct in
    let vars1 = within params names fs true code.vars in
    let free1 = within params names fs true code.free in
    let J = inside H by number act vars1 free1 direct code.chain (this_of this s) in
    let firsts = with_vars vars' (with_params params qs []) in
    let all = bound_names fs (length s.heap.list) firsts in
    let new : ScopeNames all code.vars code.free vars1 free1 q = scope_names fs (length s.heap.list) qs news guest.6 code.vars code.free in
    let owner = activation (es.Obj i) params qs in
    let scoped = with_scope owner all s in
    let first_pairs = World.with_vars names (World.with_params params us []) in
    let tag = tag_of_scope by number in
    let tags = g ++ tag_of_scope by number ∷ [] in
    let captured : Captured vars1 free1 by tags outer chain scoped = captured_enter by number g s (es.Obj i) params qs new r.all.scopes.count r.all.scopes.are code.captured in
    let stands : In J tags scoped = in_enter by number g s (es.Obj i) params qs new H (this_of this s) captured in
    let are : AreScopes scoped = scopes_are owner all s tt r.all.scopes.are in
    let count = length params + (1 + (length names + count_of fs)) in
    let done : State → Asking.Reply = λ w2. statements_reply xs J.around by H.by w2 in
    let arr = World.an_array true us in
    let v = World.object (World.next_name by w) in
    let pairs1 = World.with_value arguments_name v first_pairs in
    let w1 = World.with_object by arr w in
    let w2 = World.with_scope by pairs1 w1 in
    let world1 : World.declare by number arguments_name v (World.with_object by arr (World.with_scope by first_pairs w)) ≡ w2 = ap (λ scopes. let u : State = record { objects = w1.objects; scopes = scopes; cells = w.cells; queues = w.queues; revoked = w.revoked; nodes = w.nodes; handlers = w.handlers } in u) (scope_declared by arguments_name v first_pairs w.scopes) in
    let source : Asking.Reply = arguments_made true us number by (World.with_scope by first_pairs w) (λ w3. functions_made fs number outer by w3 done) in
    let target : List (t.Tree t.func) → Target.Plan = λ l. Target.list true (statements true fs names xs) None (env_of J) (with_functions l act chain by (with_scope owner firsts s)) Target.body_end in
    let body = rewritten false c.stmts 0 xs in
    let sb = bare_store fs chain by s in
    let sF = inner_store fs by outer chain (es.Obj i) params us qs all tag w g s in
    let names1 = args_names (es.Obj i) params qs all sb in
    let S = with_scope owner names1 sF in
    let hB = sF.heap in
    let new2 : ScopeNames names1 code.vars code.free vars1 free1 q = names_more _ _ new in
    let captured2 : Captured vars1 free1 by tags outer chain S = captured_enter by number g sF (es.Obj i) params qs new2 r.all.scopes.count r.all.scopes.are (captured_stays (shaped_inner fs by outer chain (es.Obj i) params us qs all tag w g s hB) r.all.scopes.are r.all.scopes.are code.captured) in
    let stands2 : In J tags S = in_enter by number g sF (es.Obj i) params qs new2 H (this_of this s) captured2 in
    let are2 : AreScopes S = scopes_are owner names1 sF tt r.all.scopes.are in
    let marked : (z' : List Item) (n' : ℕ) → RelAt form H T k w z' n g s y m → n' ≡ n + count → (z1 : List Item) → shown z1 ≡ shown z' → suc (suc (suc (suc (suc (suc m))))) ≤ 4294967295 → M H a (bind (replied (functions_made fs number outer by w2 done) go) next) z1 n' (bind (Target.list true (behind_head fs xs) None (env_of J) S Target.body_end) next') y (suc (suc (suc (suc (suc (suc m)))))) =
    λ z' n' r0 same z1 told small.
    let m6 = suc (suc (suc (suc (suc (suc m))))) in
    let ones = one_each_is fs m6 in
    let sixes = six_is fs (one_each fs m6) in
    let long : length qs < 4294967296 = few (omega (arith, small)) in
    let begun0 = begun_here fs by outer chain (es.Obj i) params us qs all tag w g s below (omega (arith, small)) long is r.all.objects r.all.scopes.are r.all.closures in
    let begun1 : Begun w2.objects s.heap tags S (one_each fs m6) = record { objects = objects_step (omega (arith, ones)) begun0.objects; keeps = begun0.keeps; no_node = begun0.no_node; closures = begun0.closures } in
    declares_match H.rules H.turn (env_of J) fs (marks fs body) None S Target.body_end next'
    (awaiting_match {J = J} params names S s.heap fs body None number place outer chain code.chain w2 done go next {h = hB} Target.body_end next' below refl guest.6 stands2 are2 (scope_runtime owner names1 sF new2.runtime r.all.scopes.runtime) captured2 guest.7 (await_here fs by outer chain (es.Obj i) params us qs all tag w g s) (subst (λ l. Placed fs place l) (sym (names_new owner names1 sF)) (placed_more params names fs place _ _ all guest.6 (placed params names fs place firsts guest.6))) (omega arith) r.all.objects.large begun1 (omega (arith, r0.all.steps, same, ones, sixes)) (ap (heard y.touching) told ∙ r0.all.items) (λ acc z2 h' told2 begun2 given later.
    let pairs = bound_pairs fs outer by w1.objects pairs1 in
    let S2 = with_heap S h' in
    let array = later.still.named (made_name by (length (w.objects by))) _ (array_named fs by outer chain (es.Obj i) params us qs all tag w g s below (omega (arith, small)) long is r.all.objects) in
    let alike : ScopeIs h' pairs names1 = alike_here fs by outer chain (es.Obj i) params us qs all tag w g s params names place first_pairs firsts s.heap v _ _ h' guest.6 begun2.keeps array (λ x shown. call_alike_own s.heap us qs news is x shown) given in
    let scopes = new_scopes by number g (record s { heap = h'; codes = all_codes fs chain s.codes }) (es.Obj i) params qs new2 T pairs alike in
    let before : Related H.rules T 0 w z2 n' g s y m = related_told (told2 ∙ told) (related_steps (omega arith) (omega (arith, r0.all.steps, same)) r0.all) in
    let plain = later.plain _ (item_plain fs by outer chain (es.Obj i) params us qs all tag w g s below (omega (arith, small)) long is r.all.objects) in
    let both = related_here {k = k} fs by outer chain (es.Obj i) params us qs all h' (omega (arith, r0.all.steps, same, ones, sixes)) scopes plain begun2 before in
    let r1 : Rel J (declares act q T) k (World.with_scope by pairs (objects_world fs outer by w1)) z2 n' tags S2 y (six fs (one_each fs m6)) = record { all = both; here = in_stays (shaped_heap tags S h') are2 are2 stands2 } in
    let stays : Stays w g s m (World.with_scope by pairs (objects_world fs outer by w1)) tags S2 (six fs (one_each fs m6)) = record {
      heap = record { objects = begun2.keeps; more = omega (arith, ones, sixes) };
      shaped = shaped_whole fs by outer chain (es.Obj i) params us qs all tag w g s h';
      closed = record { closures = λ a l o chain' e. closures_older fs outer by w1.objects a l (World.a_closure o chain') (last_kept by a l arr (World.a_closure o chain') w.objects e) };
    } in
    subst (λ u. M H a (bind (replied (done u) go) next) z2 n' (bind (Target.list true body acc (env_of J) S2 Target.body_end) next') y (six fs (one_each fs m6))) (sym (world_is fs outer by pairs1 w1))
    (own_match {J = J} H.by (effects J below) xs guest.8 guest.5 0 acc a k go Target.body_end next next' lt (declares_room {H = J} q T guest.4) r1
    (body_ends {H = H} J go next next' (declares_covers q T r.all.scopes) r.all.scopes.are r.here stays x)))) in
    let ends : Store → Target.Plan = λ s1. Target.list true (statements true fs names xs) None (env_of J) s1 Target.body_end in
    let entered : (z' : List Item) → RelAt form H T k w z' n g s y m → (n' : ℕ) → n' ≡ n + count → M H a (bind (replied source go) next) z' n' (bind (ends (with_scope owner all sb)) next') y m = λ z' r0 n' same.
    let told = shown_quiet z' (made by (World.next_name by w) ∷ []) refl in
    left_told {p = bind (replied (functions_made fs number outer by (World.declare by number arguments_name v (World.with_object by arr (World.with_scope by first_pairs w))) done) go) next}
    (subst (λ u. M H a (bind (replied (functions_made fs number outer by u done) go) next) (z' ++ made by (World.next_name by w) ∷ []) n' (bind (ends (with_scope owner all sb)) next') y m) (sym world1)
    (args_head (es.Obj i) params qs all sb H by number vars1 free1 direct code.chain (this_of this s) s.heap (own_heads names xs) (behind_head fs xs) Target.body_end next'
    (in_stays (shaped_bare fs chain by tags scoped) are are stands) (scope_runtime owner all s new.runtime r.all.scopes.runtime) (opened_bare fs chain by s.codes s.heap (opened_of r.all.objects)) r.all.scopes.shared
    (arguments_unbound fs place qs news guest.6) (copy_undefined fs place qs news guest.6 refl) (copy_apart fs place qs news guest.6)
    (λ one q1 y1 there. args_answer (es.Obj i) params qs all sb.heap guest.2 (params_there params names fs place vars' qs guest.2 guest.6) (few (omega (arith, one))) (env_of J) q1 y1 there)
    (λ s1. no_values (own_heads names xs) (env_of J) s1 (temps_none 0 q _ (names_none (others names (declared c.stmts xs)))))
    (omega (arith, r0.all.steps, same)) (ap (heard y.touching) told ∙ r0.all.items) (λ small. marked z' n' r0 same (z' ++ made by (World.next_name by w) ∷ []) told small))) in
    let goes : (z' : List Item) → RelAt form H T k w z' n g s y m → (n' : ℕ) → n' ≡ n + count → M H a (bind (replied source go) next) z' n' (bind (target (functions_of (statements true fs names xs))) next') y m = λ z' r0 n' same.
    subst (λ l. M H a (bind (replied source go) next) z' n' (bind (target l) next') y m) (sym (functions_are _ _ true fs names xs guest.8))
    (subst (λ s1. M H a (bind (replied source go) next) z' n' (bind (ends s1) next') y m) (sym (functions_first fs owner firsts chain by s)) (entered z' r0 n' same)) in
    let goes_in : M H a (bind (replied (stepping_all count w source) go) next) z n (bind (target (functions_of (statements true fs names xs))) next') y m = ticked H count w source go next n (λ n' same. goes z r n' same) in
    let inside_it = entered_reply f direct by us H w in
    subst (λ o. M H a (bind (replied inside_it go) next) z n (bind (apply_callable o (es.Obj i) this qs (env_of H) s) next') y m) (sym code.callable)
    (subst (λ o. M H a (bind (replied inside_it go) next) z n (bind (open_code o by (es.Obj i) (this_of this s) qs H.around.calls s Target.body_end) next') y m) (sym code.code)
    (subst (λ b. M H a (bind (replied inside_it go) next) z n (bind (cond b (target (functions_of (statements true fs names xs))) (stops depth_fault s)) next') y m) (sym allowed) goes_in))

-- what is given goes to the closure's module first, where no more calls are open than may be
closure_match : {form : Bool} {H : Here} {T : Temps} {d k : ℕ} → ((J : Here) → J.by < 64 → Effects J d) → ((J : Here) → J.by < 64 → Entries J d) → (a by i : ℕ) (f : c.Tree c.func) (direct : List ℕ) (this : EsValue) (us : List Value) (qs : List EsValue) {w : State} {z : List Item} {n : ℕ} {g : Tags} {s : Store} {y : Kept} {m : ℕ} (go : Going) (next : Cont) (next' : Cont') → a < d → by < 64 → CodeIs by g s f direct i → Vals s.heap us qs → (m ≤ 4294967295 → length qs < 4294967296) → RelAt form H T k w z n g s y m → NextAt form H T a k w g s m (Source.called_next go next) next'
    → M H a (bind (replied (entry_reply f direct by us H.around.calls H.by w) go) next) z n (bind (apply_callable (heap.callable_of (heap.object_at s.heap i)) (es.Obj i) this qs (env_of H) s) next') y m
closure_match {H = H} effects entries a by i (c.fun name params args body) direct this us qs {w = w} {z = z} {n = n} {s = s} {y = y} {m = m} go next next' lt below code is few r x =
    let f = c.fun name params args body in
    let source : Bool → Asking.Reply = λ b. cond b (passing H.by by us (entered_reply f direct by us H w)) (fault depth_fault w) in
    let target : Target.Plan = apply_callable (heap.callable_of (heap.object_at s.heap i)) (es.Obj i) this qs (env_of H) s in
    let by_test : (b : Bool) → nat_lt H.around.calls 1000 ≡ b → M H a (bind (replied (source b) go) next) z n (bind target next') y m = λ b. elim b as (λ b. nat_lt H.around.calls 1000 ≡ b → M H a (bind (replied (source b) go) next) z n (bind target next') y m) [
      | false ↦ λ closed.
          subst (λ o. M H a (bind (replied (source false) go) next) z n (bind (apply_callable o (es.Obj i) this qs (env_of H) s) next') y m) (sym code.callable)
          (subst (λ o. M H a (bind (replied (source false) go) next) z n (bind (open_code o by (es.Obj i) (this_of this s) qs H.around.calls s Target.body_end) next') y m) (sym code.code)
          (rw closed (both_stop (steps_hold r) (refl, tt, r.all.items))))
      | true ↦ λ allowed. passed_match H.by by us (entered_reply f direct by us H w) go next r (λ z' r0. entered_match effects entries a by i f direct this us qs go next next' lt below code is few allowed r0 x)
    ] in by_test (nat_lt H.around.calls 1000) refl

-- both enter a closure whose module has been told what it is given, with fewer than d tasks
pub record EntryAt (form : Bool) (H : Here) (d : ℕ) : Type 0 where
  pub on : {T : Temps} {a k : ℕ} (by i : ℕ) (f : c.Tree c.func) (direct : List ℕ) (this : EsValue) (us : List Value) (qs : List EsValue) {w : State} {z : List Item} {n : ℕ} {g : Tags} {s : Store} {y : Kept} {m : ℕ} (go : Going) (next : Cont) (next' : Cont') → a < d → by < 64 → CodeIs by g s f direct i → Vals s.heap us qs → (m ≤ 4294967295 → length qs < 4294967296) → nat_lt H.around.calls 1000 ≡ true → RelAt form H T k w z n g s y m → NextAt form H T a k w g s m (Source.called_next go next) next'
      → M H a (bind (replied (entered_reply f direct by us H w) go) next) z n (bind (apply_callable (heap.callable_of (heap.object_at s.heap i)) (es.Obj i) this qs (env_of H) s) next') y m

pub closure_law : {d : ℕ} → ((J : Here) → J.by < 64 → Effects J d) → ((J : Here) → J.by < 64 → Entries J d) → {form : Bool} (H : Here) → ClosureAt form H d
closure_law effects entries H = record { on = λ by i f direct this us qs go next next' lt below code is few r x. closure_match effects entries _ by i f direct this us qs go next next' lt below code is few r x }

pub entry_law : {d : ℕ} → ((J : Here) → J.by < 64 → Effects J d) → ((J : Here) → J.by < 64 → Entries J d) → {form : Bool} (H : Here) → EntryAt form H d
entry_law effects entries H = record { on = λ by i f direct this us qs go next next' lt below code is few allowed r x. entered_match effects entries _ by i f direct this us qs go next next' lt below code is few allowed r x }
