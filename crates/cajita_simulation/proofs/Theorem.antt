-- The rewriting is simulated: what `specs/Turns` says of a load at any related state, and what `specs/Correct` says of a module by itself.
use Rattle.std.proofs.Common.{◌≡◌, ℕ, zero, suc, ◌+◌, ◌*◌, ◌≤◌, ◌<◌, false, List, [], ◌∷◌, length, Some, refl, sym, ap, ◌∙◌, subst, arith}
use Rattle.std.specs.Prelude.{map}
use Rattle.plans.specs.Plans.{ends, enter, run, over, stopped, out, kept_of}
use Rattle.matching.specs.Sides.{Match}
use Rattle.matching.specs.Sentences.{IsFinished, Together, Simulated}
use Rattle.matching.proofs.Turn.{turn_simulated}
use Rattle.matching.proofs.Start as start
use Rattle.matching.proofs.Limits.{run_grows}
use Rattle.es3_language.specs.Meaning as Target
use Rattle.es3_language.specs.Meaning.{es3}
use Rattle.es3_language.specs.Store.{Store}
use Rattle.rows.specs.Nodes.{Rules, no_rules}
use Rattle.cajita_tree.specs.Tree as c
use Rattle.cajita_rewrite.specs.Rewrite.{program_of}
use Rattle.cajita_meaning.specs.World.{Value, World}
use Rattle.cajita_meaning.specs.Imports.{imported}
use Rattle.es3_heap.specs.Objects.{Objects, props_of}
use Rattle.es3_heap.specs.Properties.{find, own, value_of}
use Rattle.heap_rows.specs.Doing.{heard}
use Rattle.row_simulation.specs.RowLaw.{shown, PagesAre}
use Rattle.row_simulation.proofs.Relation.{vals_keep}
use Rattle.cajita_meaning.specs.Direct as Source
use Rattle.cajita_meaning.specs.Direct.{Item, direct}
use Rattle.page_natives.specs.Natives as natives
use Rattle.page_natives.specs.Natives.{Kept, first_kept, page_of, page_table}
use Rattle.module_loader.specs.Page.{first_store, module_run}
use Rattle.cajita_simulation.specs.Guest.{GuestModule, a_guest}
use Rattle.cajita_simulation.specs.Alike.{heard_by, IsPrefix, GuestFault, most_steps, most_deeds}
use Rattle.cajita_simulation.specs.Sides.{Ends}
use Rattle.cajita_simulation.specs.Places.{ImportsAre}
use Rattle.cajita_simulation.specs.Turns.{load_in, load_turn, load_turn', TurnsAlike}
use Rattle.cajita_simulation.specs.Correct.{imports_of, direct_run, MayImport, told_without, SameEnd, EndAlike, ConvertsNothing, Correct}
use Rattle.cajita_simulation.proofs.Doing.{load_of}
use Rattle.cajita_simulation.proofs.Relation.{EsValue, Vals, Tags, Between}
use Rattle.cajita_simulation.proofs.Told.{TellsMore}
use Rattle.cajita_simulation.proofs.Laws.{target_grows, sides}
use Rattle.cajita_simulation.proofs.Simulation.{owns}
use Rattle.cajita_simulation.proofs.Sentences.{turns_alike, one_more}
use Rattle.cajita_simulation.specs.Related.{BetweenTurns}
use Rattle.cajita_simulation.proofs.Load.Names.{Module}
use Rattle.cajita_simulation.proofs.Load.Entering.{made_store, functions_store, functions_before, function_keeps}
use Rattle.cajita_simulation.proofs.Load.Whole.{IsGuest, whole, imports_read}
use Rattle.cajita_simulation.proofs.Calls.{opened_of}
use Rattle.cajita_simulation.proofs.Load.Begins.{begins_one, imports_begin, own_there}

-- imports have the same values where the module's function is there

import_there : (q : Module) (by : ℕ) (s : Store) (k : List ℕ) → q.object < length s.heap.list → own (functions_store by q s).heap q.object k ≡ own s.heap q.object k
import_there q by s k lt = ap (λ o. find k (props_of o)) (functions_before by q s q.object lt)

values_there : (q : Module) (by : ℕ) (s : Store) (names : List (List ℕ)) → q.object < length s.heap.list → map (λ k. value_of (own (functions_store by q s).heap q.object k)) names ≡ map (λ k. value_of (own s.heap q.object k)) names
values_there q by s [] lt = refl
values_there q by s (k ∷ names) lt =
    ap (λ o. value_of o ∷ map (λ k. value_of (own (functions_store by q s).heap q.object k)) names) (import_there q by s k lt)
    ∙ ap (λ l. value_of (own s.heap q.object k) ∷ l) (values_there q by s names lt)

values_long : (h : Objects) (vs : List Value) (us : List EsValue) → Vals h vs us → length vs ≡ length us
values_long h [] [] p = refl
values_long h (v ∷ vs) (u ∷ us) p = ap suc (values_long h vs us p.1)
values_long h _ _ p = absurd p

map_long : (f : List ℕ → EsValue) (names : List (List ℕ)) → length (map f names) ≡ length names
map_long f [] = refl
map_long f (x ∷ names) = ap suc (map_long f names)

-- the load of a module, and its program, wherever both sides are related: they match
pub load_matches : (rules : Rules) (by : ℕ) → by < 64 → (m : c.Tree c.program) → GuestModule m → {vs : List Value} {w : World} {z : List Item} {n : ℕ} {g : Tags} {s : Store} {y : Kept} {i : ℕ} → ImportsAre s.heap y by (imports_of m) vs → Between rules w z n g s y i → (d : ℕ) → Match (sides rules (load_in s)) d (enter (load_of m by vs) w ends) z n (Target.program_plan (program_of m) by s) y i
load_matches rules by few _ (a_guest imports vars fs list same names names' small targets new functions guest) {vs = vs} {n = n} {s = s} {y = y} {i = i} are r d =
    let o = natives.imports_of by y in
    let q : Module = record { object = o; imports = imports; vars = vars; funcs = fs; list = list } in
    let f : List ℕ → EsValue = λ k. value_of (own (functions_store by q s).heap o k) in
    let us : List EsValue = map f imports in
    let is : IsGuest q = record { same = same; names = record { imports = names; vars = names'; funcs = new }; few = small; funcs = functions; list = guest; targets = targets } in
    let values : Vals (made_store by q s).heap vs us = subst (λ l. Vals (made_store by q s).heap vs l) (sym (values_there q by s imports are.there)) (vals_keep (function_keeps by q s) vs (map (λ k. value_of (own s.heap o k)) imports) are.values) in
    let long : length vs ≡ length imports = values_long s.heap vs _ are.values ∙ map_long (λ k. value_of (own s.heap o k)) imports in
    whole rules (load_in s) by few q is vs us owns d refl refl refl (imports_read rules (load_in s) by q s is (opened_of r.objects) r.scopes.shared) values long r

pub load_simulated : (rules : Rules) (by : ℕ) → by < 64 → (m : c.Tree c.program) → GuestModule m → {vs : List Value} {w : World} {z : List Item} {n : ℕ} {g : Tags} {s : Store} {y : Kept} {i : ℕ} → ImportsAre s.heap y by (imports_of m) vs → Between rules w z n g s y i → Simulated (sides rules (load_in s)) n i (λ j. run (direct rules) j (enter (load_of m by vs) w ends) z) (λ k. run (es3 page_table) k (Target.program_plan (program_of m) by s) y)
load_simulated rules by few m guest {n = n} {s = s} {i = i} are r = turn_simulated (sides rules (load_in s)) n i _ _ _ _ (λ d. load_matches rules by few m guest are r d)

-- what a page tells while a program runs only grows
page_grows : (by : ℕ) (m : c.Tree c.program) (s : Store) (y : Kept) (k : ℕ) → TellsMore y (kept_of (run (es3 page_table) k (Target.program_plan (program_of m) by s) y))
page_grows by m s y k = run_grows (es3 page_table) TellsMore target_grows k (Target.program_plan (program_of m) by s) y

-- the sentences of a load, which is one deed more
pub loads : (rules : Rules) (m : c.Tree c.program) (by : ℕ) → by < 64 → GuestModule m → (vs : List Value) (d : ℕ) → d < most_deeds → (w : World) (z : List Item) (n : ℕ) (g : Tags) (s : Store) (y : Kept) (i : ℕ) → ImportsAre s.heap y by (imports_of m) vs → BetweenTurns rules d w z n g s y i → TurnsAlike rules (load_in s) (suc d) (load_turn m by vs w) z n (load_turn' m by s) y i
loads rules m by few guest vs d small w z n g s y i are r =
    turns_alike rules (load_in s) (suc d) (n + suc d) (i + 64 * suc d) refl refl (omega (arith, small)) (omega (arith, r.steps)) (λ le. load_simulated rules by few m guest are (one_more rules d w z n g s y i r))

-- a module by itself

-- its imports correspond where the page of one module begins
imports_are : (by : ℕ) (m : c.Tree c.program) → MayImport by m → ImportsAre first_store.heap first_kept by (imports_of m) (imported by (imports_of m))
imports_are zero m may = imports_begin (imports_of m)
imports_are (suc by) (c.a_module [] body) may = record { there = own_there (suc by); values = tt }
imports_are (suc by) (c.a_module (x ∷ xs) body) may = absurd may

simulates : (by : ℕ) → by < 64 → (m : c.Tree c.program) → MayImport by m → GuestModule m → Simulated (sides no_rules (load_in first_store)) 0 0 (λ n. direct_run m by n) (λ k. module_run (program_of m) by k)
simulates by few m may guest = load_simulated no_rules by few m guest (imports_are by m may) (begins_one no_rules)

-- like ends, as the sentences say it

told_so : (z : List Item) (y : Kept) → y.touching ≡ false → heard_by y z ≡ y.told → told_without z ≡ y.told
told_so z y without same = ap (λ b. heard b (shown z)) (sym without) ∙ same

ends_alike : (rules : Rules) (e : Source.Completion) (w : World) (z : List Item) (n : ℕ) (e' : Target.Completion) (s : Store) (y : Kept) (m : ℕ) → y.touching ≡ false → Ends rules (load_in first_store) e w z n e' s y m → SameEnd e w e' s × (told_without z ≡ y.told) × PagesAre s.heap w (page_of y)
ends_alike rules (Source.gave v) w z n (Target.normal (Some x)) s y m without p = ((p.0, (m, p.1.1.objects)), told_so z y without p.1.1.items, p.1.1.pages)
ends_alike rules (Source.gave v) w z n e' s y m without p = absurd p.0
ends_alike rules (Source.threw v) w z n (Target.threw x) s y m without p = ((p.0, (m, p.1.1.objects)), told_so z y without p.1.1.items, p.1.1.pages)
ends_alike rules _ w z n _ s y m without p = absurd p

alike : (rules : Rules) (all all' : ℕ) (r : Source.Run) (t : Target.Run Kept) → (kept_of t).touching ≡ false → Together (sides rules (load_in first_store)) (Ends rules (load_in first_store)) all all' r t → EndAlike r t
alike rules all all' (over e w z n) (over e' s y n') without p = ends_alike rules e w z p.taken e' s y p.taken' without p.ends
alike rules all all' (stopped f w z n) (stopped g s y n') without p = (p.0, p.1, told_so z y without p.2)
alike rules all all' _ _ without p = absurd p

-- no guest converts

converts_nothing : (r : Source.Run) (t : Target.Run Kept) → EndAlike r t → ConvertsNothing t
converts_nothing (over e w z n) (over e' s y n') p = tt
converts_nothing (stopped f w z n) (stopped g s y n') p = subst GuestFault p.0 p.1
converts_nothing _ _ p = absurd p

finished : (t : Target.Run Kept) → (IsFinished t → ConvertsNothing t) → ConvertsNothing t
finished (over e s y n) f = tt
finished (stopped g s y n) f = f tt
finished (out s y n) f = tt

pub correct : (m : c.Tree c.program) (by : ℕ) → by < 64 → MayImport by m → GuestModule m → Correct by m
correct m by few may guest =
    let s = simulates by few m may guest in
    let without : (k : ℕ) → (kept_of (module_run (program_of m) by k)).touching ≡ false = λ k. (page_grows by m first_store first_kept k).touching in
    let back : (k : ℕ) → k ≤ most_steps → IsFinished (module_run (program_of m) by k) → (j : ℕ) × ((n : ℕ) → j ≤ n → EndAlike (direct_run m by n) (module_run (program_of m) by k)) =
    λ k le fin. let h = start.backward s k le fin in (h.0, λ n enough. alike no_rules n k _ _ (without k) (h.1 n enough)) in
    record {
      forward = λ n c k fin eq le most. let h = start.forward s n c (64 * c) k (λ j few. few) fin eq le most in (alike no_rules n k _ _ (without k) h.0, h.1);
      backward = back;
      cut = λ k le. let h = start.cut s k le in (h.0, λ n enough. subst (λ b. IsPrefix (kept_of (module_run (program_of m) by k)).told (heard b (shown (kept_of (direct_run m by n))))) (without k) (h.1 n enough));
      never_converts = λ k le. finished (module_run (program_of m) by k) (λ fin. let h = back k le fin in converts_nothing _ _ (h.1 h.0 (omega arith)));
    }
