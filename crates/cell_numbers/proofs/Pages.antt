-- Pages: they do the same, anew.
use Rattle.std.proofs.Common.{◌≡◌, ℕ, List, [], ◌∷◌, ◌++◌, Option, Some, None, refl, sym, ap, ◌∙◌}
use Rattle.std.specs.Prelude.{map, option_map, nat_eq, ◌&&◌, codes, if◌then◌else◌, slice_get}
use Rattle.caja_units.specs.Units.{same_units}
use Rattle.std.proofs.Math.Path.{fun_ext}
use Rattle.std.proofs.lemmas.List.{map-append}
use Rattle.std.proofs.lemmas.Option.{slice_get-map}
use Rattle.plans.specs.Plans.{Run as RunOf, kept_of, count_of, over, stopped, out, enter, ends, run}
use Rattle.acts.specs.Acts.{task}
use Rattle.page_deeds.specs.Deeds.{Plain, Grants, to_load, to_call, to_tick, to_click, to_input, label_of, labelled, a_cell, a_result, a_plain, a_root}
use Rattle.page_deeds.specs.Deeds as deeds
use Rattle.page_deeds.specs.Shown.{renamed, end_renamed, by_return, by_throw, by_nothing}
use Rattle.pages.specs.Pages.{chain, turns, turns_or_none, deed, page}
use Rattle.rows.specs.Nodes.{Rules}
use Rattle.cajita_tree.specs.Tree as c
use Rattle.cajita_meaning.specs.World as W
use Rattle.cajita_meaning.specs.World.{Name, made_name, facet_name, Value, object, Pairs, Object, a_record, an_array, a_closure, an_error, Handler, World, value_at, with_queue}
use Rattle.cajita_meaning.specs.Doing.{or_nothing}
use Rattle.cajita_meaning.specs.Imports.{fixed_imports, imports_among}
use Rattle.cajita_meaning.specs.Asking.{Reply, Shape, bad}
use Rattle.cajita_meaning.specs.Events.{the_page, key_event, tick_event, node_event}
use Rattle.cajita_meaning.specs.Direct.{Item, passed, ended, Completion, gave, threw, a_load, values_of, direct}
use Rattle.cajita_meaning.specs.Direct as D
use Rattle.cajita_laws.specs.Parts.{Group, owns, tells, side, items_of}
use Rattle.cajita_page.specs.DirectPage as P
use Rattle.cajita_page.specs.DirectPage.{Deed, Results, no_results, plain_value, granted_value, granted_pairs, import_values, Plan, Turn, granting, load_turn, ends_so, answers, passed_out, value_given, evaluator, direct_page}
use Rattle.cajita_page.specs.Shown as shown
use Rattle.cell_numbers.specs.Renumbering.{Renumbering, name_anew, value_anew, values_anew, pairs_anew, object_anew, handler_anew, world_anew, label_anew, item_anew, items_anew, completion_anew, run_anew, results_anew, page_anew, grant_anew, grants_anew, deed_anew, deeds_anew, group_anew}
use Rattle.cell_numbers.specs.Mapped.{MappedPlan}
use Rattle.cell_numbers.specs.Promises.{PagesAnew, PageItemsAnew, PageStepsAnew, GroupItemsAnew}
use Rattle.cell_numbers.proofs.Lists.{picked_mapped, first_anew, or_nothing_anew, behind, value_at_anew}
use Rattle.cell_numbers.proofs.Worlds.{with_queue_anew, with_nodes_anew}
use Rattle.cell_numbers.proofs.Forms.{replied_mapped}
use Rattle.cell_numbers.proofs.Calls.{maps, Anew}
use Rattle.cell_numbers.proofs.Questions.{ended_values_anew}
use Rattle.cell_numbers.proofs.Events.{key_anew, tick_anew, node_anew}
use Rattle.cell_numbers.proofs.Turns.{plan_runs_anew}

module _ (f : Renumbering) where
  -- what is shown

  made_shown_anew : (n : Name) (o : Option Object) → shown.made_shown (name_anew f n) (option_map (object_anew f) o) ≡ renamed (name_anew f) (shown.made_shown n o)
  made_shown_anew n None = refl
  made_shown_anew n (Some (a_record frozen ps)) = refl
  made_shown_anew n (Some (an_array frozen vs)) = refl
  made_shown_anew n (Some (a_closure code chain)) = refl
  made_shown_anew n (Some (an_error maker message)) = refl

  object_shown_anew : (w : World) (n : Name) → shown.object_shown (world_anew f w) (name_anew f n) ≡ renamed (name_anew f) (shown.object_shown w n)
  object_shown_anew w (made_name m n) = ap (shown.made_shown (made_name m n)) (slice_get-map (object_anew f) (w.objects m) n) ∙ made_shown_anew (made_name m n) (slice_get (w.objects m) n)
  object_shown_anew w n = refl

  shown_anew : (w : World) (v : Value) → shown.shown_in (world_anew f w) (value_anew f v) ≡ renamed (name_anew f) (shown.shown_in w v)
  shown_anew w (object n) = object_shown_anew w n
  shown_anew w v = refl

  end_anew : (w : World) (e : Completion) → shown.end_in (world_anew f w) (completion_anew f e) ≡ end_renamed (name_anew f) (shown.end_in w e)
  end_anew w (gave v) = ap by_return (shown_anew w v)
  end_anew w (threw v) = ap by_throw (shown_anew w v)
  end_anew w e = refl

  -- what a module is granted and imports

  plain_anew : (v : Plain) → value_anew f (plain_value v) ≡ plain_value v
  plain_anew deeds.null = refl
  plain_anew (deeds.truth b) = refl
  plain_anew (deeds.number n) = refl
  plain_anew (deeds.text us) = refl

  plains_anew : (vs : List Plain) → values_anew f (map plain_value vs) ≡ map plain_value vs
  plains_anew [] = refl
  plains_anew (v ∷ vs) = ap (λ u. u ∷ values_anew f (map plain_value vs)) (plain_anew v) ∙ ap (λ l. plain_value v ∷ l) (plains_anew vs)

  granted_value_anew : (r : Results) (g : deeds.Grant) → granted_value (results_anew f r) (grant_anew f g) ≡ value_anew f (granted_value r g)
  granted_value_anew r (a_cell k) = refl
  granted_value_anew r (a_result m) = refl
  granted_value_anew r (a_plain v) = sym (plain_anew v)
  granted_value_anew r (a_root root) = refl

  granted_pairs_anew : (r : Results) (gs : Grants) → granted_pairs (results_anew f r) (grants_anew f gs) ≡ pairs_anew f (granted_pairs r gs)
  granted_pairs_anew r [] = refl
  granted_pairs_anew r ((x, g) ∷ gs) =
      ap (λ (v : Value). (x, v) ∷ granted_pairs (results_anew f r) (grants_anew f gs)) (granted_value_anew r g) ∙ ap (λ (l : Pairs). (x, value_anew f (granted_value r g)) ∷ l) (granted_pairs_anew r gs)

  granting_anew : (m : ℕ) (ps : Pairs) (p q : Plan) → MappedPlan (maps f) p q → MappedPlan (maps f) (granting m ps p) (granting m (pairs_anew f ps) q)
  granting_anew m [] p q h = h
  granting_anew m ((x, object o) ∷ ps) p q h = (refl, granting_anew m ps p q h)
  granting_anew m ((x, v) ∷ ps) p q h = granting_anew m ps p q h

  among_anew : (ps : Pairs) (xs : List (List ℕ)) → imports_among (pairs_anew f ps) xs ≡ values_anew f (imports_among ps xs)
  among_anew ps [] = refl
  among_anew ps (x ∷ xs) = ap (λ v. v ∷ imports_among (pairs_anew f ps) xs) (ap or_nothing (value_at_anew f x ps) ∙ or_nothing_anew f (value_at x ps)) ∙ ap (λ l. value_anew f (or_nothing (value_at x ps)) ∷ l) (among_anew ps xs)

  -- the fixed names name no cell
  imports_anew : (m : ℕ) (p : c.Tree c.program) (ps : Pairs) → import_values m p (pairs_anew f ps) ≡ values_anew f (import_values m p ps)
  imports_anew m p ps = among_anew (fixed_imports m ++ ps) (P.imports_of p)

  -- runs, and what follows them

  -- a run that is anew, and then what is anew
  chain_anew : {E R : Type 0} (g : E → E) (h : R → R) (q : RunOf E World (List Item)) (go back : E → World → List Item → ℕ → RunOf R World (List Item)) → ((e : E) (w : World) (z : List Item) (n : ℕ) → back (g e) (world_anew f w) (items_anew f z) n ≡ run_anew h f (go e w z n)) → chain (run_anew g f q) back ≡ run_anew h f (chain q go)
  chain_anew g h (over e w z n) go back k = k e w z n
  chain_anew g h (stopped fault w z n) go back k = refl
  chain_anew g h (out w z n) go back k = refl

  -- what a load came to

  passed_out_anew : (m : ℕ) (vs : List Value) → passed_out m (values_anew f vs) ≡ items_anew f (passed_out m vs)
  passed_out_anew m [] = refl
  passed_out_anew m (object o ∷ vs) = ap (λ l. item_anew f (passed m the_page o) ∷ l) (passed_out_anew m vs)
  passed_out_anew m (v ∷ vs) = passed_out_anew m vs

  loaded_out_anew : (d : Deed) (e : Completion) → P.loaded_out (deed_anew f d) (completion_anew f e) ≡ items_anew f (P.loaded_out d e)
  loaded_out_anew (to_load m p gs) e = ap (passed_out m) (ended_values_anew f e) ∙ passed_out_anew m (values_of e)
  loaded_out_anew (to_call k m key args) e = refl
  loaded_out_anew (to_tick k m) e = refl
  loaded_out_anew (to_click k id root n) e = refl
  loaded_out_anew (to_input k id root n us) e = refl

  value_given_anew : (e : Completion) → value_given (completion_anew f e) ≡ value_anew f (value_given e)
  value_given_anew (gave v) = refl
  value_given_anew e = refl

  result_anew : (d : Deed) (e : Completion) (r : Results) → P.result (deed_anew f d) (completion_anew f e) (results_anew f r) ≡ results_anew f (P.result d e r)
  result_anew (to_load m p gs) e r = fun_ext (λ n. ap (λ v. if nat_eq n m then v else value_anew f (r n)) (value_given_anew e) ∙ picked_mapped (value_anew f) (nat_eq n m) (value_given e) (r n))
  result_anew (to_call k m key args) e r = refl
  result_anew (to_tick k m) e r = refl
  result_anew (to_click k id root n) e r = refl
  result_anew (to_input k id root n us) e r = refl

  label_of_anew : (d : Deed) → label_of (deed_anew f d) ≡ label_anew f (label_of d)
  label_of_anew (to_load m p gs) = refl
  label_of_anew (to_call k m key args) = refl
  label_of_anew (to_tick k m) = refl
  label_of_anew (to_click k id root n) = refl
  label_of_anew (to_input k id root n us) = refl

  -- turns, and deeds

  module _ (rules : Rules) where
    ended_anew : (d : Deed) (e : Completion) (w : World) (z : List Item) → (evaluator rules).ended (deed_anew f d) (completion_anew f e) (world_anew f w) (items_anew f z) ≡ items_anew f ((evaluator rules).ended d e w z)
    ended_anew d e w z =
        let is = P.loaded_out d e in
        let last = ended (label_of d) (shown.end_in w e) in
        behind f z (is ++ last ∷ []) (P.loaded_out (deed_anew f d) (completion_anew f e) ++ ended (label_of (deed_anew f d)) (shown.end_in (world_anew f w) (completion_anew f e)) ∷ [])
        (ap (λ l. l ++ ended (label_of (deed_anew f d)) (shown.end_in (world_anew f w) (completion_anew f e)) ∷ []) (loaded_out_anew d e)
        ∙ ap (λ l. items_anew f is ++ ended l (shown.end_in (world_anew f w) (completion_anew f e)) ∷ []) (label_of_anew d)
        ∙ ap (λ s. items_anew f is ++ ended (label_anew f (label_of d)) s ∷ []) (end_anew w e)
        ∙ sym (map-append (item_anew f) is (last ∷ [])))

    none_anew : (d : Deed) (w : World) (z : List Item) → (evaluator rules).none (deed_anew f d) (world_anew f w) (items_anew f z) ≡ items_anew f ((evaluator rules).none d w z)
    none_anew d w z = behind f z (ended (label_of d) by_nothing ∷ []) (ended (label_of (deed_anew f d)) by_nothing ∷ []) (ap (λ l. ended l by_nothing ∷ []) (label_of_anew d))

    -- a deed of one turn, whose plans are the same, anew
    turns_do_anew : (d : Deed) (t u : Turn) (n : ℕ) (r : Results) (w : World) (z : List Item) → MappedPlan (maps f) (t w z) (u (world_anew f w) (items_anew f z)) →
        turns_or_none (evaluator rules) (deed_anew f d) (u ∷ []) n (results_anew f r) (world_anew f w) (items_anew f z) ≡ page_anew f (turns_or_none (evaluator rules) d (t ∷ []) n r w z)
    turns_do_anew d t u n r w z h =
        ap (λ q. chain q (λ e v y k. over (P.result (deed_anew f d) e (results_anew f r)) v ((evaluator rules).ended (deed_anew f d) e v y) k)) (plan_runs_anew f rules (t w z) (u (world_anew f w) (items_anew f z)) z n h)
        ∙ chain_anew (completion_anew f) (results_anew f) (run (direct rules) n (t w z) z) (λ e v y k. over (P.result d e r) v ((evaluator rules).ended d e v y) k) (λ e v y k. over (P.result (deed_anew f d) e (results_anew f r)) v ((evaluator rules).ended (deed_anew f d) e v y) k)
        (λ e v y k. ap (λ q. over q (world_anew f v) ((evaluator rules).ended (deed_anew f d) (completion_anew f e) (world_anew f v) (items_anew f y)) k) (result_anew d e r) ∙ ap (λ l. over (results_anew f (P.result d e r)) (world_anew f v) l k) (ended_anew d e v y))

    -- what the page is answered
    ends_so_anew : (a : Shape) (vs : List Value) → ends_so a (values_anew f vs) ≡ completion_anew f (ends_so a vs)
    ends_so_anew bad vs = ap threw (first_anew f vs)
    ends_so_anew a vs = ap gave (first_anew f vs)

    answers_anew : (r q : Reply) → Anew f r q → MappedPlan (maps f) (answers r) (answers q)
    answers_anew r q h = replied_mapped (maps f) r q (λ a vs w. ends (ends_so a vs) w) (λ a vs w. ends (ends_so a vs) w) h (λ a vs w. (ends_so_anew a vs, refl))

    load_anew : (m : ℕ) (p : c.Tree c.program) (ps : Pairs) (w : World) → MappedPlan (maps f) (load_turn m p ps w []) (load_turn m p (pairs_anew f ps) (world_anew f w) [])
    load_anew m p ps w = granting_anew m ps (enter (task (a_load p) m (import_values m p ps)) w ends) (enter (task (a_load p) m (import_values m p (pairs_anew f ps))) (world_anew f w) ends) (ap (task (a_load p) m) (imports_anew m p ps), refl, λ e u. (refl, refl))

    tick_deed_anew : (k m : ℕ) (q : List Value) (n : ℕ) (r : Results) (w : World) (z : List Item) →
        (let b = P.tick_begun m (values_anew f q) (world_anew f w) (items_anew f z) in turns_or_none (evaluator rules) (to_tick k m) b.turns n (results_anew f r) b.store b.kept)
        ≡ page_anew f (let b = P.tick_begun m q w z in turns_or_none (evaluator rules) (to_tick k m) b.turns n r b.store b.kept)
    tick_deed_anew k m [] n r w z = ap (λ l. over (results_anew f r) (world_anew f w) l n) (none_anew (to_tick k m) w z)
    tick_deed_anew k m (g ∷ gs) n r w z =
        let t = λ (h : Value) (v : World) (y : List Item). answers (tick_event m h v) in
        ap (λ v. turns_or_none (evaluator rules) (to_tick k m) (t (value_anew f g) ∷ []) n (results_anew f r) v (items_anew f z)) (with_queue_anew f m gs w)
        ∙ turns_do_anew (to_tick k m) (t g) (t (value_anew f g)) n r (with_queue m gs w) z (answers_anew (tick_event m g (with_queue m gs w)) (tick_event m (value_anew f g) (world_anew f (with_queue m gs w))) (tick_anew f m g (with_queue m gs w)))

    -- what happens to a node: its handlers, one after another
    node_turns_do_anew : (d : Deed) (node : Name) (fs : List Value) (n : ℕ) (r : Results) (w : World) (z : List Item) →
        turns (evaluator rules) (deed_anew f d) (P.node_turns (name_anew f node) (values_anew f fs)) n (results_anew f r) (world_anew f w) (items_anew f z) ≡ page_anew f (turns (evaluator rules) d (P.node_turns node fs) n r w z)
    node_turns_do_anew d node [] n r w z = refl
    node_turns_do_anew d node (g ∷ gs) n r w z =
        let go = λ (e : Completion) (v : World) (y : List Item) (k : ℕ). turns (evaluator rules) d (P.node_turns node gs) k (P.result d e r) v ((evaluator rules).ended d e v y) in
        let back = λ (e : Completion) (v : World) (y : List Item) (k : ℕ). turns (evaluator rules) (deed_anew f d) (P.node_turns (name_anew f node) (values_anew f gs)) k (P.result (deed_anew f d) e (results_anew f r)) v ((evaluator rules).ended (deed_anew f d) e v y) in
        ap (λ q. chain q back) (plan_runs_anew f rules (answers (node_event node g w)) (answers (node_event (name_anew f node) (value_anew f g) (world_anew f w))) z n (answers_anew (node_event node g w) (node_event (name_anew f node) (value_anew f g) (world_anew f w)) (node_anew f node g w)))
        ∙ chain_anew (completion_anew f) (results_anew f) (run (direct rules) n (answers (node_event node g w)) z) go back
        (λ e v y k.
        ap (λ q. turns (evaluator rules) (deed_anew f d) (P.node_turns (name_anew f node) (values_anew f gs)) k q (world_anew f v) ((evaluator rules).ended (deed_anew f d) (completion_anew f e) (world_anew f v) (items_anew f y))) (result_anew d e r)
        ∙ ap (λ l. turns (evaluator rules) (deed_anew f d) (P.node_turns (name_anew f node) (values_anew f gs)) k (results_anew f (P.result d e r)) (world_anew f v) l) (ended_anew d e v y)
        ∙ node_turns_do_anew d node gs k (P.result d e r) v ((evaluator rules).ended d e v y))

    node_does_anew : (d : Deed) (node : Name) (fs : List Value) (n : ℕ) (r : Results) (w : World) (z : List Item) →
        turns_or_none (evaluator rules) (deed_anew f d) (P.node_turns (name_anew f node) (values_anew f fs)) n (results_anew f r) (world_anew f w) (items_anew f z) ≡ page_anew f (turns_or_none (evaluator rules) d (P.node_turns node fs) n r w z)
    node_does_anew d node [] n r w z = ap (λ l. over (results_anew f r) (world_anew f w) l n) (none_anew d w z)
    node_does_anew d node (g ∷ gs) n r w z = node_turns_do_anew d node (g ∷ gs) n r w z

    listeners_anew : (n : ℕ) (what : List ℕ) (hs : List Handler) → P.listeners n what (map (handler_anew f) hs) ≡ values_anew f (P.listeners n what hs)
    listeners_anew n what [] = refl
    listeners_anew n what (h ∷ hs) =
        ap (λ l. if nat_eq h.on n && same_units h.what what then value_anew f h.does ∷ l else l) (listeners_anew n what hs) ∙ picked_mapped (values_anew f) (nat_eq h.on n && same_units h.what what) (h.does ∷ P.listeners n what hs) (P.listeners n what hs)

    -- those of the root of this number, by its new one
    called_anew : (root n : ℕ) (what : List ℕ) (w : World) → P.listeners n what ((world_anew f w).handlers (f.roots.anew root)) ≡ values_anew f (P.listeners n what (w.handlers root))
    called_anew root n what w = ap (λ r. P.listeners n what (map (handler_anew f) (w.handlers r))) (f.roots.back_anew root) ∙ listeners_anew n what (w.handlers root)

    input_anew : (root n : ℕ) (us : List ℕ) (w : World) → P.with_input (f.roots.anew root) n us (world_anew f w) ≡ world_anew f (P.with_input root n us w)
    input_anew root n us w =
        ap (λ r. W.with_nodes (f.roots.anew root) (P.put_in us n (w.nodes r)) (world_anew f w)) (f.roots.back_anew root) ∙ with_nodes_anew f root (P.put_in us n (w.nodes root)) w

    deed_does_anew : (d : Deed) (n : ℕ) (r : Results) (w : World) (z : List Item) → deed (evaluator rules) (deed_anew f d) n (results_anew f r) (world_anew f w) (items_anew f z) ≡ page_anew f (deed (evaluator rules) d n r w z)
    deed_does_anew (to_load m p gs) n r w z =
        let ps = granted_pairs r gs in
        ap (λ qs. turns_or_none (evaluator rules) (to_load m p (grants_anew f gs)) (load_turn m p qs ∷ []) n (results_anew f r) (world_anew f w) (items_anew f z)) (granted_pairs_anew r gs)
        ∙ turns_do_anew (to_load m p gs) (load_turn m p ps) (load_turn m p (pairs_anew f ps)) n r w z (load_anew m p ps w)
    deed_does_anew (to_call k m key args) n r w z =
        let t = λ (vs : List Value) (v : World) (y : List Item). answers (key_event m key (r m ∷ vs) v) in
        let u = λ (vs : List Value) (v : World) (y : List Item). answers (key_event m key (value_anew f (r m) ∷ vs) v) in
        ap (λ vs. turns_or_none (evaluator rules) (to_call k m key args) (u vs ∷ []) n (results_anew f r) (world_anew f w) (items_anew f z)) (sym (plains_anew args))
        ∙ turns_do_anew (to_call k m key args) (t (map plain_value args)) (u (values_anew f (map plain_value args))) n r w z
        (answers_anew (key_event m key (r m ∷ map plain_value args) w) (key_event m key (values_anew f (r m ∷ map plain_value args)) (world_anew f w)) (key_anew f m key (r m ∷ map plain_value args) w))
    deed_does_anew (to_tick k m) n r w z = tick_deed_anew k m (w.queues m) n r w z
    deed_does_anew (to_click k id root j) n r w z =
        ap (λ fs. turns_or_none (evaluator rules) (to_click k id (f.roots.anew root) j) (P.node_turns (facet_name (f.roots.anew root) j) fs) n (results_anew f r) (world_anew f w) (items_anew f z)) (called_anew root j (codes "click") w)
        ∙ node_does_anew (to_click k id root j) (facet_name root j) (P.listeners j (codes "click") (w.handlers root)) n r w z
    deed_does_anew (to_input k id root j us) n r w z =
        ap (λ v. turns_or_none (evaluator rules) (to_input k id (f.roots.anew root) j us) (P.node_turns (facet_name (f.roots.anew root) j) (P.listeners j (codes "input") ((world_anew f w).handlers (f.roots.anew root)))) n (results_anew f r) v (items_anew f z)) (input_anew root j us w)
        ∙ ap (λ fs. turns_or_none (evaluator rules) (to_input k id (f.roots.anew root) j us) (P.node_turns (facet_name (f.roots.anew root) j) fs) n (results_anew f r) (world_anew f (P.with_input root j us w)) (items_anew f z)) (called_anew root j (codes "input") w)
        ∙ node_does_anew (to_input k id root j us) (facet_name root j) (P.listeners j (codes "input") (w.handlers root)) n r (P.with_input root j us w) z

    page_does_anew : (ds : List Deed) (n : ℕ) (r : Results) (w : World) (z : List Item) → page (evaluator rules) (deeds_anew f ds) n (results_anew f r) (world_anew f w) (items_anew f z) ≡ page_anew f (page (evaluator rules) ds n r w z)
    page_does_anew [] n r w z = refl
    page_does_anew (d ∷ ds) n r w z =
        ap (λ q. chain q (λ r v y k. page (evaluator rules) (deeds_anew f ds) k r v y)) (deed_does_anew d n r w z)
        ∙ chain_anew (results_anew f) (results_anew f) (deed (evaluator rules) d n r w z) (λ r v y k. page (evaluator rules) ds k r v y) (λ r v y k. page (evaluator rules) (deeds_anew f ds) k r v y) (λ r v y k. page_does_anew ds k r v y)

-- a page begins with its nodes, in which no cell is
pub pages_anew : PagesAnew
pages_anew f rules nodes ds n = page_does_anew f rules ds n no_results (P.first_world nodes) []

-- what it told, and how many steps it has left

kept_anew : (f : Renumbering) (q : P.Run) → kept_of (page_anew f q) ≡ items_anew f (kept_of q)
kept_anew f (over r w z n) = refl
kept_anew f (stopped fault w z n) = refl
kept_anew f (out w z n) = refl

count_anew : (f : Renumbering) (q : P.Run) → count_of (page_anew f q) ≡ count_of q
count_anew f (over r w z n) = refl
count_anew f (stopped fault w z n) = refl
count_anew f (out w z n) = refl

pub page_items_anew : PageItemsAnew
page_items_anew f rules nodes ds n = ap (λ q. kept_of q) (pages_anew f rules nodes ds n) ∙ kept_anew f (direct_page rules nodes ds n)

pub page_steps_anew : PageStepsAnew
page_steps_anew f rules nodes ds n = ap (λ q. count_of q) (pages_anew f rules nodes ds n) ∙ count_anew f (direct_page rules nodes ds n)

-- an item is told of the same module or root as before

owned_anew : (f : Renumbering) (g : Group) (l : deeds.Label) → owns (group_anew f g) (labelled (label_anew f l)) ≡ owns g (labelled l)
owned_anew f g (deeds.of_load m) = refl
owned_anew f g (deeds.of_call k m key) = refl
owned_anew f g (deeds.of_tick k m) = refl
owned_anew f g (deeds.of_click k id root) = ap g.roots (f.roots.back_anew root)
owned_anew f g (deeds.of_input k id root) = ap g.roots (f.roots.back_anew root)

tells_anew : (f : Renumbering) (g : Group) (i : Item) → tells (group_anew f g) (item_anew f i) ≡ tells g i
tells_anew f g (D.made m o) = refl
tells_anew f g (D.got m h o) = refl
tells_anew f g (D.touched m t o k) = refl
tells_anew f g (passed a b o) = refl
tells_anew f g (D.granted m o) = refl
tells_anew f g (D.said m us) = refl
tells_anew f g (D.was_revoked m p) = refl
tells_anew f g (D.changed_node root k c) = ap g.roots (f.roots.back_anew root)
tells_anew f g (ended l e) = owned_anew f g l

pub group_items_anew : GroupItemsAnew
group_items_anew f b g [] = refl
group_items_anew f b g (i ∷ z) =
    ap (λ t. if side b t then item_anew f i ∷ items_of b (group_anew f g) (items_anew f z) else items_of b (group_anew f g) (items_anew f z)) (tells_anew f g i)
    ∙ ap (λ l. if side b (tells g i) then item_anew f i ∷ l else l) (group_items_anew f b g z) ∙ picked_mapped (items_anew f) (side b (tells g i)) (i ∷ items_of b g z) (items_of b g z)
