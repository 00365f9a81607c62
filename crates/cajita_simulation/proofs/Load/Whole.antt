-- The load of a module and the run of its program are matched, at any related state.
use Rattle.std.proofs.Common.{◌≡◌, ℕ, zero, suc, ◌+◌, ◌*◌, ◌<◌, Bool, true, List, [], ◌∷◌, length, Option, Some, None, cond, refl, sym, ap, ◌∙◌, subst, arith}
use Rattle.std.specs.Prelude.{is_some, false, nat_eq, map, codes, ◌||◌}
use Rattle.std.proofs.lemmas.Bool.Decides.{nat_tests}
use Rattle.plans.specs.Plans.{ends, enter, bind}
use Rattle.acts.specs.Acts.{Places, plan_of, given_at, keep, put, answer, replied}
use Rattle.matching.specs.Sides.{Match}
use Rattle.matching.proofs.Rules.{both_end, both_cut, both_enter, right_enter, left_tick}
use Rattle.es3_tree.specs.Tree as t
use Rattle.caja_units.specs.Units.{is_hidden}
use Rattle.es3_language.specs.Store.{Store, Names, name_value, first_names}
use Rattle.es3_language.specs.Meaning as Target
use Rattle.cajita_tree.specs.Tree as c
use Rattle.rows.specs.Nodes.{Rules}
use Rattle.cajita_rewrite.specs.Rewrite.{rewritten, joined, marks, temps, temp_name, runtime_name, imports_name, runtime_call, single, head_items, import_stmts, program_of, load_stmt, result_name, result_stmts}
use Rattle.cajita_meaning.specs.World.{Value, World, undefined, with_scope, next_scope}
use Rattle.cajita_meaning.specs.Asking.{Reply, good, first, count_of, functions_made}
use Rattle.cajita_meaning.specs.Direct as Direct
use Rattle.cajita_meaning.specs.Direct.{Item}
use Rattle.heap_rows.specs.Opening.{globals_id}
use Rattle.es3_heap.specs.Properties.{own, value_of}
use Rattle.cajita_simulation.proofs.Heaps.Opened.{IsOpened}
use Rattle.cajita_simulation.proofs.Heaps.Functions.{opened_kept-function}
use Rattle.page_natives.specs.Natives.{Kept, imports_of}
use Rattle.cajita_simulation.specs.Guest.{is_among, is_declared, module_free, Guest}
use Rattle.cajita_simulation.specs.Sides.{Lasts, GivenIs}
use Rattle.cajita_simulation.proofs.Doing as Source
use Rattle.cajita_simulation.proofs.Relation.{Turn, EsValue, Vals, Here, env_of, Tags, Temps, declared, holds, SlotIs, Between, SharedAre, In, Rel, names_at, related_steps, related_between}
use Rattle.cajita_simulation.proofs.Calls.{opened_of}
use Rattle.cajita_simulation.proofs.Slots.{slot_plan}
use Rattle.cajita_simulation.proofs.Laws.{no_jumps, Targets, Cont', sides, after, HasResult, Room}
use Rattle.cajita_simulation.proofs.Forms.Own.{Owns, last_of, ListEnd, own_match}
use Rattle.cajita_simulation.proofs.Changes.{related_told}
use Rattle.cajita_simulation.proofs.Rows.{Going}
use Rattle.cajita_simulation.proofs.Entering.{names_new, scopes_are}
use Rattle.cajita_simulation.proofs.Declaring.Stores.{bound_names}
use Rattle.cajita_simulation.proofs.Declaring.Names.{Placed, placed, functions_bound, functions_other, world_is}
use Rattle.cajita_simulation.proofs.Declaring.Relation.{one_each, one_each_is, Few, opened_bare}
use Rattle.cajita_simulation.proofs.Declaring.Marks.{Entered, six, six_is, marks_match, declares_match}
use Rattle.cajita_simulation.proofs.Load.Names.{Module, Declares, own_stmts, behind_imports, module_body, module_vars, statements, own_names, vars_known, vars_bound, runtime_there, imports_there}
use Rattle.cajita_simulation.proofs.Load.Bound.{temp_is, known, GuestNames, no_function, opens, module_placed}
use Rattle.cajita_simulation.proofs.Load.Entering.{module_code, first_values, made_store, functions_store, owner_of, place_first, module_store, inner, after_load, enters}
use Rattle.cajita_simulation.proofs.Load.Opening.{here, first_temps, first_pairs, bound_world, bound_tags, scope_names, scoped_store, read_store, begun_store, in_begins, begins_runtime, opening}
use Rattle.cajita_simulation.proofs.Load.Imports.{read_all}

-- a step for each name that is bound
ticked : (rules : Rules) (turn : Turn) (by : ℕ) {d : ℕ} (count : ℕ) (act : Source.Act) (at : Places Value) (w : World) (next : Source.Completion → World → Source.Plan) {z : List Item} (n : ℕ) {q : Target.Plan} {y : Kept} {m : ℕ} → ((n' : ℕ) → n' ≡ n + count → Match (sides rules turn) d (bind (plan_of (Source.forms rules) by 1 at act w) next) z n' q y m) → Match (sides rules turn) d (bind (plan_of (Source.forms rules) by 1 at (Direct.steps count act) w) next) z n q y m
ticked rules turn by zero act at w next n f = f n (omega arith)
ticked rules turn by (suc count) act at w next n f = left_tick (ticked rules turn by count act at w next (suc n) (λ n' same. f n' (omega (arith, same))))

-- what waits in the program while the module is loaded
abbrev pub waiting : ℕ → Store → Cont'
waiting by s e s' = Target.list_rest false t.no_stmts None (Target.outermost by s) ends e s'

-- the module's result is held in its slot: undefined, where no expression statement was evaluated
result_held : (H : Here) (T : Temps) (acc : Option Value) → T H.act result_name ≡ holds undefined → after H T acc H.act result_name ≡ holds (first (last_of acc))
result_held H T None is = is
result_held H T (Some v) is = let same : nat_eq H.act H.act ≡ true = grind (arith, nat_tests) in ap (λ b. cond b (holds v) (T H.act result_name)) same

-- the module's result is read
result_plan : (H : Here) (g : Tags) (s : Store) (e : EsValue) → In H g s → name_value result_name (names_at s H.act) ≡ Some e → Target.name_value_plan result_name (env_of H) s ≡ Target.give e s
result_plan H g s e is there = slot_plan result_name (env_of H) s H.act e refl (is.temps result_name refl (ap is_some there)) there

-- the end of the module's statements: `return moduleResult___;`, or what was thrown
module_ends : (H : Here) (T : Temps) (by : ℕ) (s0 : Store) {d i : ℕ} {w0 : World} {g0 : Tags} {s1 : Store} → T H.act result_name ≡ holds undefined → H.turn.load ≡ true → Lasts H.turn.began s1.heap → ListEnd H T d 40 w0 g0 s1 i Target.body_end ends (after_load (waiting by s0)) result_stmts
module_ends H T by s0 is load lasts = record {
  on = λ a le acc acc' w z n g s y m r keep.
      let held = subst (SlotIs s H.act result_name) (result_held H T acc is) (r.all.scopes.temps H.act result_name refl) in
      right_enter (right_enter
      (subst (λ q. Match (sides H.rules H.turn) a (ends (Source.gave (first (last_of acc))) w) z n (bind q (λ e s1. bind (Target.on_value_of Target.to_returned e s1) (λ e1 s2. bind (Target.on_each true acc' e1 s2 (λ v s3. Target.list true t.no_stmts v (env_of H) s3 Target.body_end) Target.body_end) (after_load (waiting by s0))))) y (suc (suc m))) (sym (result_plan H g s held.0 r.here held.1))
      (both_end (omega (arith, r.all.steps)) (subst (λ b. GivenIs b s.heap (first (last_of acc)) (Target.normal (Some held.0))) (sym load) held.2, (g, related_between {k = 0} (related_steps (omega arith) (omega (arith, r.all.steps)) r.all)), λ o j t. keep.heap.objects.named o j (lasts o j t)))));
  throws = λ acc. record { on = λ a le v e w z n g s y m is r keep. both_end (omega (arith, r.all.steps)) (is, (g, related_between r.all), λ o j t. keep.heap.objects.named o j (lasts o j t)) };
}

-- statements behind statements behind statements
joined_twice : (xs ys zs : t.Tree t.stmts) → joined (joined xs ys) zs ≡ joined xs (joined ys zs)
joined_twice t.no_stmts ys zs = refl
joined_twice (t.more_stmts x xs) ys zs = ap (λ l. t.more_stmts x l) (joined_twice xs ys zs)

marks_joined : (fs : c.Tree c.funcs) (ys zs : t.Tree t.stmts) → joined (marks fs ys) zs ≡ marks fs (joined ys zs)
marks_joined c.no_funcs ys zs = refl
marks_joined (c.more_funcs (c.fun None params args body) fs) ys zs = marks_joined fs ys zs
marks_joined (c.more_funcs (c.fun (Some x) params args body) fs) ys zs = ap (λ l. t.more_stmts (t.expression (runtime_call (codes "func") (single (t.name x)))) l) (marks_joined fs ys zs)

module_is : (q : Module) → joined (joined (rewritten false c.funcs 0 q.funcs) (marks q.funcs (rewritten true c.stmts 0 q.list))) result_stmts ≡ behind_imports q
module_is q = joined_twice (rewritten false c.funcs 0 q.funcs) (marks q.funcs (rewritten true c.stmts 0 q.list)) result_stmts ∙ ap (λ l. joined (rewritten false c.funcs 0 q.funcs) l) (marks_joined q.funcs (rewritten true c.stmts 0 q.list) result_stmts)

program_is : (q : Module) → program_of (c.a_module q.imports (c.a_body q.funcs q.vars q.list)) ≡ t.script (t.more_stmts (load_stmt (module_body q)) t.no_stmts)
unfolding rewritten
program_is q = ap (λ l. t.script (t.more_stmts (load_stmt (t.more_stmts (t.var (t.more_items result_name t.no_expr (head_items (c.a_body q.funcs q.vars q.list)))) (import_stmts q.imports l))) t.no_stmts)) (module_is q)

-- the module of these parts
abbrev pub module_of : Module → c.Tree c.program
module_of q = c.a_module q.imports (c.a_body q.funcs q.vars q.list)

-- the laws of all statements directly in a module
abbrev pub Laws : Type 0
Laws = (H : Here) → H.by < 64 → (d : ℕ) → Owns H d

-- what is known of a module that was accepted
pub record IsGuest (q : Module) : Type 0 where
  pub same : Declares q
  pub names : GuestNames q
  pub few : temps c.stmts q.list < 18446744073709551616
  pub funcs : Guest (known q) (module_free q.vars q.funcs) c.funcs q.funcs
  pub list : Guest (known q) (module_free q.vars q.funcs) c.stmts q.list
  pub targets : Targets no_jumps [] c.stmts q.list

undefined_first : (q : Module) (s : Store) → first_temps q s (length s.scopes) result_name ≡ holds undefined
undefined_first q s = let same : nat_eq (length s.scopes) (length s.scopes) ≡ true = grind (arith, nat_tests) in rw same refl

-- the temporaries are declared where the statements begin
room_first : (q : Module) (rules : Rules) (turn : Turn) (by : ℕ) (w : World) (s : Store) → temps c.stmts q.list < 18446744073709551616 → Room (here rules turn by q w s) (first_temps q s) 0 (temps c.stmts q.list)
room_first q rules turn by w s few = record { declared = λ i from to. one i (omega (arith, to)); few = omega (arith, few) }
  where
    one : (i : ℕ) → i < temps c.stmts q.list → first_temps q s (length s.scopes) (temp_name i) ≡ declared
    one i lt =
        let same : nat_eq (length s.scopes) (length s.scopes) ≡ true = grind (arith, nat_tests) in
        rw (same, temp_is (temps c.stmts q.list) i lt) refl

inner_is : (rules : Rules) (turn : Turn) (by : ℕ) (q : Module) (w : World) (s : Store) → s.globals ≡ globals_id → env_of (here rules turn by q w s) ≡ inner by s
inner_is rules turn by q w s is = ap (λ o. let env : Target.Env = record { chain = length s.scopes ∷ []; calls = 1; by = by; this = o } in env) (sym is)

-- the statements that read imports, from the store where the function was entered to that where its imports are there
pub record ImportsRead (rules : Rules) (turn : Turn) (by : ℕ) (q : Module) (us : List EsValue) (s : Store) : Type 0 where
  pub on : {d : ℕ} {p : Source.Plan} {z : List Item} {n : ℕ} {y : Kept} {m : ℕ} (next' : Cont') → ((m' : ℕ) → m' ≡ m + 7 * length q.imports → Match (sides rules turn) d p z n (bind (Target.list true (behind_imports q) None (inner by s) (read_store by q us s) Target.body_end) next') y m')
      → Match (sides rules turn) d p z n (bind (Target.list true (statements q) None (inner by s) (module_store by q s) Target.body_end) next') y m

-- what follows the functions of a module: its statements
abbrev own_going : Rules → ℕ → Module → List Value → World → Going
own_going rules by q vs w a us w' = plan_of (Source.forms rules) by 3 (put 2 us (put 1 [] (given_at vs))) (keep [] (Direct.own_list q.list (record { chain = next_scope by w ∷ []; calls = 1 }))) w'

abbrev all_made : World → Reply
all_made w = answer good [] w

loaded : (rules : Rules) (turn : Turn) (by : ℕ) → by < 64 → (q : Module) → IsGuest q → (vs : List Value) (us : List EsValue) → Laws → (d : ℕ) {w : World} {z : List Item} {n : ℕ} {g : Tags} {s : Store} {y : Kept} {m : ℕ} → imports_of by y ≡ q.object → turn.load ≡ true → turn.began ≡ s.heap → ImportsRead rules turn by q us s → Vals (made_store by q s).heap vs us → length vs ≡ length q.imports → Between rules w z n g s y m → Match (sides rules turn) d (enter (Source.load_of (module_of q) by vs) w ends) z n (Target.program_plan (t.script (t.more_stmts (load_stmt (module_body q)) t.no_stmts)) by s) y m
loaded rules turn by few q guest vs us laws zero at load began reads are long r = both_cut (omega (arith, r.steps)) r.items
loaded rules turn by few q guest vs us laws (suc d) {w = w} {z = z} {n = n} {g = g} {s = s} {y = y} {m = m} at load began reads are long r =
    let H = here rules turn by q w s in
    let fs = q.funcs in
    let direct = next_scope by w ∷ [] in
    let chain = length s.scopes ∷ [] in
    let waits = after_load (waiting by s) in
    let begins = undefined_first q s in
    let has : HasResult H (first_temps q s) = record { value = undefined; is = begins } in
    let names = opens (known q) (module_free q.vars fs) q (place_first by q s) us guest.list guest.same guest.names in
    let scoped = scoped_store by q us s in
    let stands : Entered H (bound_tags by w g) scoped = record {
      here = in_begins rules turn by q us w g s r.scopes.count names;
      are = scopes_are (owner_of q s) (scope_names by q us s) (made_store by q s) tt r.scopes.are;
      runtime = begins_runtime by q us s names r.scopes.runtime;
      opened = opened_kept-function (length s.codes) 2 by s.heap (opened_of r.objects);
    } in
    let there : Placed fs (place_first by q s) (names_at scoped (length s.scopes)) =
    subst (λ l. Placed fs (place_first by q s) l) (sym (names_new (owner_of q s) (scope_names by q us s) (made_store by q s)))
    (module_placed q.imports q.vars fs (place_first by q s) us (bound_names fs (place_first by q s) (first_names (module_code q) (first_values q))) guest.names.funcs (placed q.imports q.vars fs (place_first by q s) (first_names (module_code q) (first_values q)) guest.names.funcs)) in
    let first = with_scope by (first_pairs q vs) w in
    both_enter (enters rules turn (known q) (module_free q.vars fs) q s (waiting by s) guest.list r.kept at (opened_of r.objects) r.globals
    (ticked rules turn by (length q.imports + (length q.vars + count_of fs)) _ (given_at vs) w ends (suc n) (λ n' same.
    reads.on waits (λ m' behind.
    let ones = one_each_is fs m' in
    let ones0 = one_each_is fs (suc (suc m)) in
    let sixes = six_is fs (one_each fs m') in
    subst (λ env. Match (sides rules turn) d (bind (replied (functions_made fs (next_scope by w) direct by first all_made) (own_going rules by q vs w)) ends) z n' (bind (Target.list true (behind_imports q) None env (read_store by q us s) Target.body_end) waits) y m') (inner_is rules turn by q w s r.globals)
    (declares_match rules turn (env_of H) fs (marks fs (own_stmts q)) None (read_store by q us s) Target.body_end waits
    (marks_match {J = H} q.imports q.vars fs (own_stmts q) None (next_scope by w) direct chain [] first all_made (own_going rules by q vs w) ends Target.body_end waits refl guest.names.funcs stands there (omega (arith, behind, same, r.steps, ones, sixes)) r.items (λ acc z1 told room.
    let room0 : Few fs (suc (suc m)) = λ j lt. let h = room j lt in omega (arith, h, ones, behind) in
    let both = opening rules turn by few q vs us n' (six fs (one_each fs m')) guest.list guest.same guest.names guest.funcs are long room0 (omega (arith, ones0, ones, sixes, behind)) (omega (arith, behind, same, r.steps, ones, sixes)) (omega (arith, same)) r in
    let r1 = both.0 in
    let lasts : Lasts turn.began (begun_store by q us s).heap = subst (λ a. Lasts a (begun_store by q us s).heap) (sym began) (λ o j t. both.1.named o j t) in
    let r2 : Rel H (first_temps q s) 40 (bound_world by q vs w) z1 n' (bound_tags by w g) (begun_store by q us s) y (six fs (one_each fs m')) = record { all = related_told told r1.all; here = r1.here } in
    subst (λ v. Match (sides rules turn) d (bind (Source.own_list q.list H [] v) ends) z1 n' (bind (Target.list true (own_stmts q) acc (env_of H) (begun_store by q us s) Target.body_end) waits) y (six fs (one_each fs m'))) (sym (world_is fs direct by (first_pairs q vs) w))
    (own_match (laws H few (suc d)) q.list guest.list guest.targets None acc result_stmts d 0 40 Target.body_end ends waits (omega arith) has (room_first q rules turn by w s guest.few) r2 (module_ends H (first_temps q s) by s begins load lasts)))))))))

-- the law of the load of a module
pub whole : (rules : Rules) (turn : Turn) (by : ℕ) → by < 64 → (q : Module) → IsGuest q → (vs : List Value) (us : List EsValue) → Laws → (d : ℕ) {w : World} {z : List Item} {n : ℕ} {g : Tags} {s : Store} {y : Kept} {m : ℕ} → imports_of by y ≡ q.object → turn.load ≡ true → turn.began ≡ s.heap → ImportsRead rules turn by q us s → Vals (made_store by q s).heap vs us → length vs ≡ length q.imports → Between rules w z n g s y m → Match (sides rules turn) d (enter (Source.load_of (module_of q) by vs) w ends) z n (Target.program_plan (program_of (module_of q)) by s) y m
whole rules turn by few q guest vs us laws d {w = w} {z = z} {n = n} {g = g} {s = s} {y = y} {m = m} at load began reads are long r =
    subst (λ p. Match (sides rules turn) d (enter (Source.load_of (module_of q) by vs) w ends) z n (Target.program_plan p by s) y m) (sym (program_is q))
    (loaded rules turn by few q guest vs us laws d at load began reads are long r)

-- each import is read in turn
pub imports_read : (rules : Rules) (turn : Turn) (by : ℕ) (q : Module) (s : Store) → IsGuest q → IsOpened s.heap → SharedAre s.heap (length s.scopes) s.shared → ImportsRead rules turn by q (map (λ k. value_of (own (functions_store by q s).heap q.object k)) q.imports) s
imports_read rules turn by q s guest is shared = record {
  on = λ next' f. read_all rules turn q.object by 1 s.globals (owner_of q s) (functions_store by q s) q.imports names (behind_imports q) Target.body_end next' (record {
    is = opened_bare q.funcs (length s.scopes ∷ []) by (made_store by q s).codes (made_store by q s).heap (opened_kept-function (length s.codes) 2 by s.heap is);
    free = refl;
    before = s.heap;
    shared = shared;
    runtime = first_there runtime_name refl ∙ runtime_there q.object (module_vars q);
    imports = first_there imports_name refl ∙ imports_there q.object (module_vars q);
  }) guest.names.imports (λ x among. functions_bound q.funcs (place_first by q s) firsts x ∙ either (is_declared q.funcs x) (vars_bound x (module_vars q) (own_names q.object) (vars_known (known q) (module_free q.vars q.funcs) q x guest.list guest.same (guest.names.imports x among).open_name (guest.names.imports x among).own_name ∙ ap (λ b. b || is_among q.vars x) among))) f;
}
  where
    firsts : Names
    firsts = first_names (module_code q) (first_values q)

    names : Names
    names = bound_names q.funcs (place_first by q s) (first_names (module_code q) (first_values q))

    first_there : (x : List ℕ) → is_hidden x ≡ true → name_value x (bound_names q.funcs (place_first by q s) (first_names (module_code q) (first_values q))) ≡ name_value x (first_names (module_code q) (first_values q))
    first_there x hidden = functions_other q.funcs (place_first by q s) (first_names (module_code q) (first_values q)) x (no_function guest.names x hidden)

    either : (a : Bool) {b : Bool} → b ≡ true → (a || b) ≡ true
    either true e = refl
    either false e = e
