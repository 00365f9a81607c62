-- A deed of a group, in two worlds that are alike for it: where both came to their end, the worlds are alike again.
use Rattle.std.proofs.Common.{◌≡◌, ℕ, ◌+◌, true, false, List, [], ◌∷◌, ◌++◌, Option, Some, None, refl, sym, ap, ◌∙◌, subst, arith}
use Rattle.std.specs.Prelude.{nat_eq, ◌&&◌, codes, map, if◌then◌else◌}
use Rattle.caja_units.specs.Units.{same_units}
use Rattle.std.proofs.Math.Path.{fun_ext}
use Rattle.plans.specs.Plans.{ends, enter, over, stopped, out, run}
use Rattle.matching.specs.Sentences.{IsFinished}
use Rattle.pages.specs.Pages.{with_more, chain, deed, turns, turns_or_none}
use Rattle.pages.proofs.Steady.{run_steady}
use Rattle.acts.specs.Acts.{task, replied}
use Rattle.acts.specs.Laws.{All, IfThere}
use Rattle.acts.proofs.Keeps.{all_append}
use Rattle.page_deeds.specs.Deeds as deeds
use Rattle.page_deeds.specs.Deeds.{Plain, a_cell, a_result, a_plain, a_root, Grants, to_load, to_call, to_tick, to_click, to_input, owner_of, label_of, labelled}
use Rattle.page_deeds.specs.Shown.{by_nothing}
use Rattle.rows.specs.Nodes.{Rules}
use Rattle.cajita_tree.specs.Tree as c
use Rattle.cajita_meaning.specs.World.{Name, facet_name, Value, object, Pairs, Handler, World, value_at, with_queue}
use Rattle.cajita_meaning.specs.Doing.{or_nothing}
use Rattle.cajita_meaning.specs.Imports.{fixed_imports, imports_among}
use Rattle.cajita_meaning.specs.Asking.{Reply, Shape, bad}
use Rattle.cajita_meaning.specs.Events.{key_event, tick_event, node_event}
use Rattle.cajita_meaning.specs.Direct.{Item, granted, ended, Completion, gave, Run, a_load, values_of, direct}
use Rattle.cajita_laws.specs.Parts.{Group, owns, OwnName, Own, tells, Alike}
use Rattle.cajita_laws.specs.Turns.{ended_so, reply_run, SameTurns, IsPlain}
use Rattle.cajita_laws.proofs.Scopes.{value_at_has}
use Rattle.cajita_laws.proofs.Alike.{others_one, told, told_all, Mine, with_queue_alike, with_nodes_alike}
use Rattle.cajita_laws.proofs.Turns.{load_isolates, key_isolates, tick_isolates, node_isolates}
use Rattle.cajita_page.specs.DirectPage.{Deed, Results, plain_value, granted_value, granted_pairs, import_values, imports_of, Plan, granting, load_turn, ends_so, answers, tick_begun, listeners, node_turns, put_in, with_input, passed_out, loaded_out, value_given, result, evaluator}
use Rattle.cajita_page.specs.Shown.{end_in}
use Rattle.page_isolation.specs.Agree.{IsGrantOf, IsDeedOf}
use Rattle.page_isolation.proofs.Both.{BothOver, both_chain}
use Rattle.page_isolation.proofs.Sides.{end_same}

-- what the page is answered
same_ends : (a : Shape) (vs : List Value) → ends_so a vs ≡ ended_so a vs
same_ends bad vs = refl
same_ends a vs = refl

answers_run : (rules : Rules) (q : Reply) (z : List Item) (n : ℕ) → reply_run rules q z n ≡ run (direct rules) n (answers q) z
answers_run rules q z n = ap (λ f. run (direct rules) n (replied q f) z) (fun_ext (λ a. fun_ext (λ vs. fun_ext (λ w. ap (λ e. ends e w) (sym (same_ends a vs))))))

-- the arguments of an event are no objects
plain_values : (vs : List Plain) → All IsPlain (map plain_value vs)
plain_values [] = tt
plain_values (deeds.null ∷ vs) = (tt, plain_values vs)
plain_values (deeds.truth b ∷ vs) = (tt, plain_values vs)
plain_values (deeds.number n ∷ vs) = (tt, plain_values vs)
plain_values (deeds.text us ∷ vs) = (tt, plain_values vs)

-- what two pages have of a group's modules: it is the same, and the group's
abbrev pub OwnResults : Group → Results → Results → Type 0
OwnResults g r r' = (m : ℕ) → g.modules m ≡ true → (r m ≡ r' m) × Own g (r m)

-- grants and imports

module _ (g : Group) where
  plain_own : (v : Plain) → Own g (plain_value v)
  plain_own deeds.null = tt
  plain_own (deeds.truth b) = tt
  plain_own (deeds.number n) = tt
  plain_own (deeds.text us) = tt

  grants_own : (r r' : Results) → OwnResults g r r' → (gs : Grants) → All (λ p. IsGrantOf true g p.1) gs → All (λ p. Own g p.1) (granted_pairs r gs)
  grants_own r r' own [] h = tt
  grants_own r r' own ((x, a_cell k) ∷ gs) h = (h.0, grants_own r r' own gs h.1)
  grants_own r r' own ((x, a_result m) ∷ gs) h = ((own m h.0).1, grants_own r r' own gs h.1)
  grants_own r r' own ((x, a_plain v) ∷ gs) h = (plain_own v, grants_own r r' own gs h.1)
  grants_own r r' own ((x, a_root root) ∷ gs) h = (h.0, grants_own r r' own gs h.1)

  grants_same : (r r' : Results) → OwnResults g r r' → (gs : Grants) → All (λ p. IsGrantOf true g p.1) gs → granted_pairs r gs ≡ granted_pairs r' gs
  grants_same r r' own [] h = refl
  grants_same r r' own ((x, a_cell k) ∷ gs) h = ap (λ ps. (x, granted_value r (a_cell k)) ∷ ps) (grants_same r r' own gs h.1)
  grants_same r r' own ((x, a_result m) ∷ gs) h = ap (λ v. (x, v) ∷ granted_pairs r gs) (own m h.0).0 ∙ ap (λ ps. (x, r' m) ∷ ps) (grants_same r r' own gs h.1)
  grants_same r r' own ((x, a_plain v) ∷ gs) h = ap (λ ps. (x, plain_value v) ∷ ps) (grants_same r r' own gs h.1)
  grants_same r r' own ((x, a_root root) ∷ gs) h = ap (λ ps. (x, granted_value r (a_root root)) ∷ ps) (grants_same r r' own gs h.1)

  -- the fixed names are everybody's, but for the module's own `say` and `later`
  fixed_own : (m : ℕ) → g.modules m ≡ true → All (λ p. Own g p.1) (fixed_imports m)
  fixed_own m mine = (tt, (tt, (tt, (tt, (tt, (tt, (tt, (tt, (tt, (mine, (mine, tt)))))))))))

  found_own : (o : Option Value) → IfThere (Own g) o → Own g (or_nothing o)
  found_own None h = tt
  found_own (Some v) h = h

  among_own : (ps : Pairs) → All (λ p. Own g p.1) ps → (xs : List (List ℕ)) → All (Own g) (imports_among ps xs)
  among_own ps h [] = tt
  among_own ps h (x ∷ xs) = (found_own (value_at x ps) (value_at_has (Own g) x ps h), among_own ps h xs)

  imports_own : (m : ℕ) (p : c.Tree c.program) (ps : Pairs) → g.modules m ≡ true → All (λ q. Own g q.1) ps → All (Own g) (import_values m p ps)
  imports_own m p ps mine h = among_own (fixed_imports m ++ ps) (all_append (λ q. Own g q.1) (fixed_imports m) ps (fixed_own m mine) h) (imports_of p)

-- turns

module _ (rules : Rules) (g : Group) (u : World) (x : List Item) where
  -- a turn that begins in two worlds that are alike, with any number of steps on both sides
  abbrev Twins : Plan → List Item → Plan → List Item → Type 0
  Twins p z q y = (n : ℕ) → SameTurns g u x (run (direct rules) n p z) (run (direct rules) n q y)

  granting_same : (m : ℕ) (ps : Pairs) (p q : Plan) (w : World) (z : List Item) (v : World) (y : List Item) → g.modules m ≡ true → Alike g u x w z v y → ((z' y' : List Item) → Alike g u x w z' v y' → Twins p z' q y') → Twins (granting m ps p) z (granting m ps q) y
  granting_same m [] p q w z v y mine a go = go z y a
  granting_same m ((k, object o) ∷ ps) p q w z v y mine a go = granting_same m ps p q w (z ++ granted m o ∷ []) v (y ++ granted m o ∷ []) mine (told g u x (granted m o) mine a) go
  granting_same m ((k, t) ∷ ps) p q w z v y mine a go = granting_same m ps p q w z v y mine a go

  load_same : (m : ℕ) (p : c.Tree c.program) (ps : Pairs) (w : World) (z : List Item) (v : World) (y : List Item) → g.modules m ≡ true → All (λ q. Own g q.1) ps → Alike g u x w z v y → Twins (load_turn m p ps w z) z (load_turn m p ps v y) y
  load_same m p ps w z v y mine own a =
      let vs = import_values m p ps in
      granting_same m ps (enter (task (a_load p) m vs) w ends) (enter (task (a_load p) m vs) v ends) w z v y mine a
      (λ z' y' l. load_isolates g u x rules p m mine vs (imports_own g m p ps mine own) w z' v y' l)

  answers_same : (r q : Reply) (z y : List Item) → ((n : ℕ) → SameTurns g u x (reply_run rules r z n) (reply_run rules q y n)) → Twins (answers r) z (answers q) y
  answers_same r q z y h n = subst (λ b. SameTurns g u x (run (direct rules) n (answers r) z) b) (answers_run rules q y n) (subst (λ a. SameTurns g u x a (reply_run rules q y n)) (answers_run rules r z n) (h n))

  -- two ends of a turn
  abbrev EndSame : Completion → World → List Item → Completion → World → List Item → Type 0
  EndSame e w z f v y = (e ≡ f) × All (Own g) (values_of e) × Alike g u x w z v y

  -- each side has its own number of steps: both come to the same end with the sum of both
  with_both : (n m : ℕ) (a b : Run) → (IsFinished a → IsFinished b → SameTurns g u x (with_more m a) (with_more n b)) → BothOver EndSame a b
  with_both n m (over e w z i) (over f v y j) h = let k = h tt tt in (k.0, k.2, k.3)
  with_both n m (over e w z i) (stopped f v y j) h = tt
  with_both n m (over e w z i) (out v y j) h = tt
  with_both n m (stopped f w z i) b h = tt
  with_both n m (out w z i) b h = tt

  turn_ends : (n m : ℕ) (p q : Plan) (z y : List Item) → Twins p z q y → BothOver EndSame (run (direct rules) n p z) (run (direct rules) m q y)
  turn_ends n m p q z y h =
      with_both n m (run (direct rules) n p z) (run (direct rules) m q y)
      (λ f k. subst (λ b. SameTurns g u x (with_more m (run (direct rules) n p z)) b) ((run_steady (direct rules) q y).more m n k)
      (subst (λ a. SameTurns g u x a (run (direct rules) (m + n) q y)) ((run_steady (direct rules) p z).more n m f) (subst (λ k. SameTurns g u x (run (direct rules) (n + m) p z) (run (direct rules) k q y)) (omega arith) (h (n + m)))))

  -- deeds

  -- after a deed of the group: the results of the others are what they were
  pub record After (r : Results) (r1 : Results) (w : World) (z : List Item) (r2 : Results) (v : World) (y : List Item) : Type 0 where
    pub alike : Alike g u x w z v y
    pub results : OwnResults g r1 r2
    pub rest : (m : ℕ) → g.modules m ≡ false → r1 m ≡ r m

  given_own : (e : Completion) → All (Own g) (values_of e) → Own g (value_given e)
  given_own (gave t) h = h.0
  given_own e h = tt

  result_own : (d : Deed) (e : Completion) (r r' : Results) → All (Own g) (values_of e) → OwnResults g r r' → OwnResults g (result d e r) (result d e r')
  result_own (to_load m p gs) e r r' h own k mine =
      elim (nat_eq k m) as (λ b. ((if b then value_given e else r k) ≡ (if b then value_given e else r' k)) × Own g (if b then value_given e else r k)) [ true ↦ (refl, given_own e h) | false ↦ own k mine ]
  result_own d e r r' h own k mine = own k mine

  result_rest : (d : Deed) (e : Completion) (r : Results) → owns g (owner_of d) ≡ true → (k : ℕ) → g.modules k ≡ false → result d e r k ≡ r k
  result_rest (to_load m p gs) e r mine k other = sym (others_one g m k (r k) (value_given e) mine other)
  result_rest d e r mine k other = refl

  -- what is told behind a turn is the group's
  passed_mine : (m : ℕ) (vs : List Value) → g.modules m ≡ true → Mine g u x (passed_out m vs)
  passed_mine m [] mine = tt
  passed_mine m (object o ∷ vs) mine = (mine, passed_mine m vs mine)
  passed_mine m (t ∷ vs) mine = passed_mine m vs mine

  label_mine : (d : Deed) → owns g (owner_of d) ≡ true → owns g (labelled (label_of d)) ≡ true
  label_mine (to_load m p gs) mine = mine
  label_mine (to_call i m key args) mine = mine
  label_mine (to_tick i m) mine = mine
  label_mine (to_click i id root n) mine = mine
  label_mine (to_input i id root n us) mine = mine

  loaded_mine : (d : Deed) (e : Completion) → owns g (owner_of d) ≡ true → Mine g u x (loaded_out d e)
  loaded_mine (to_load m p gs) e mine = passed_mine m (values_of e) mine
  loaded_mine d e mine = tt

  end_after : (d : Deed) (r r' : Results) (e : Completion) (w : World) (z : List Item) (v : World) (y : List Item) → owns g (owner_of d) ≡ true → OwnResults g r r' → All (Own g) (values_of e) → Alike g u x w z v y
      → After r (result d e r) w (z ++ (loaded_out d e ++ ended (label_of d) (end_in w e) ∷ [])) (result d e r') v (y ++ (loaded_out d e ++ ended (label_of d) (end_in v e) ∷ []))
  end_after d r r' e w z v y mine own h a =
      let t = ended (label_of d) (end_in w e) in
      record {
        alike = subst (λ s. Alike g u x w (z ++ (loaded_out d e ++ t ∷ [])) v (y ++ (loaded_out d e ++ ended (label_of d) s ∷ []))) (end_same g w v z y a.same e h)
            (told_all g u x (loaded_out d e ++ t ∷ []) (all_append (λ i. tells g i ≡ true) (loaded_out d e) (t ∷ []) (loaded_mine d e mine) (label_mine d mine, tt)) a);
        results = result_own d e r r' h own;
        rest = result_rest d e r mine;
      }

  -- a deed with one turn
  turn_after : (d : Deed) (r r' : Results) (a b : Run) → owns g (owner_of d) ≡ true → OwnResults g r r' → BothOver EndSame a b
      → BothOver (After r) (chain a (λ e w z n. over (result d e r) w (z ++ (loaded_out d e ++ ended (label_of d) (end_in w e) ∷ [])) n)) (chain b (λ e w z n. over (result d e r') w (z ++ (loaded_out d e ++ ended (label_of d) (end_in w e) ∷ [])) n))
  turn_after d r r' (over e w z n) (over f v y m) mine own h =
      subst (λ s. After r (result d e r) w (z ++ (loaded_out d e ++ ended (label_of d) (end_in w e) ∷ [])) (result d s r') v (y ++ (loaded_out d s ++ ended (label_of d) (end_in v s) ∷ []))) h.0 (end_after d r r' e w z v y mine own h.1 h.2)
  turn_after d r r' (over e w z n) (stopped f v y m) mine own h = tt
  turn_after d r r' (over e w z n) (out v y m) mine own h = tt
  turn_after d r r' (stopped f w z n) b mine own h = tt
  turn_after d r r' (out w z n) b mine own h = tt

  -- the first function that waits is taken on both sides
  tick_after : (i m : ℕ) (q : List Value) (r r' : Results) (n k : ℕ) (w : World) (z : List Item) (v : World) (y : List Item) → g.modules m ≡ true → OwnResults g r r' → All (Own g) q → Alike g u x w z v y → let s = tick_begun m q w z in let t = tick_begun m q v y in
      BothOver (After r) (turns_or_none (evaluator rules) (to_tick i m) s.turns n r s.store s.kept) (turns_or_none (evaluator rules) (to_tick i m) t.turns k r' t.store t.kept)
  tick_after i m [] r r' n k w z v y mine own h a = record { alike = told g u x (ended (deeds.of_tick i m) by_nothing) mine a; results = own; rest = λ j other. refl }
  tick_after i m (f ∷ fs) r r' n k w z v y mine own h a =
      let w1 = with_queue m fs w in
      let v1 = with_queue m fs v in
      turn_after (to_tick i m) r r' (run (direct rules) n (answers (tick_event m f w1)) z) (run (direct rules) k (answers (tick_event m f v1)) y) mine own
      (turn_ends n k (answers (tick_event m f w1)) (answers (tick_event m f v1)) z y
      (answers_same (tick_event m f w1) (tick_event m f v1) z y (tick_isolates g u x rules m mine f h.0 w1 z v1 y (with_queue_alike g u x (λ l. fs) m (λ l. h.1) mine a))))

  -- what happens to a node of the group: each handler in turn, on both sides
  handlers_after : (d : Deed) (node : Name) → OwnName g node → owns g (owner_of d) ≡ true → (fs : List Value) → All (Own g) fs → (r0 r r' : Results) (n k : ℕ) (w : World) (z : List Item) (v : World) (y : List Item)
      → OwnResults g r r' → ((m : ℕ) → g.modules m ≡ false → r m ≡ r0 m) → Alike g u x w z v y → BothOver (After r0) (turns (evaluator rules) d (node_turns node fs) n r w z) (turns (evaluator rules) d (node_turns node fs) k r' v y)
  handlers_after d node mine by [] h r0 r r' n k w z v y own rest a = record { alike = a; results = own; rest = rest }
  handlers_after d node mine by (f ∷ fs) h r0 r r' n k w z v y own rest a =
      both_chain EndSame (After r0) (run (direct rules) n (answers (node_event node f w)) z) (run (direct rules) k (answers (node_event node f v)) y)
      (λ e w1 z1 i. turns (evaluator rules) d (node_turns node fs) i (result d e r) w1 (z1 ++ (loaded_out d e ++ ended (label_of d) (end_in w1 e) ∷ [])))
      (λ e v1 y1 j. turns (evaluator rules) d (node_turns node fs) j (result d e r') v1 (y1 ++ (loaded_out d e ++ ended (label_of d) (end_in v1 e) ∷ [])))
      (turn_ends n k (answers (node_event node f w)) (answers (node_event node f v)) z y (answers_same (node_event node f w) (node_event node f v) z y (node_isolates g u x rules node mine f h.0 w z v y a)))
      (λ e w1 z1 i e' v1 y1 j s.
      let t = end_after d r r' e w1 z1 v1 y1 by own s.1 s.2 in
      subst (λ q. BothOver (After r0) (turns (evaluator rules) d (node_turns node fs) i (result d e r) w1 (z1 ++ (loaded_out d e ++ ended (label_of d) (end_in w1 e) ∷ [])))
      (turns (evaluator rules) d (node_turns node fs) j (result d q r') v1 (y1 ++ (loaded_out d q ++ ended (label_of d) (end_in v1 q) ∷ [])))) s.0
      (handlers_after d node mine by fs h.1 r0 (result d e r) (result d e r') i j w1 _ v1 _ t.results (λ m other. t.rest m other ∙ rest m other) t.alike))

  node_after : (d : Deed) (node : Name) → OwnName g node → owns g (owner_of d) ≡ true → (fs : List Value) → All (Own g) fs → (r r' : Results) (n k : ℕ) (w : World) (z : List Item) (v : World) (y : List Item)
      → OwnResults g r r' → Alike g u x w z v y → BothOver (After r) (turns_or_none (evaluator rules) d (node_turns node fs) n r w z) (turns_or_none (evaluator rules) d (node_turns node fs) k r' v y)
  node_after d node mine by [] h r r' n k w z v y own a = record { alike = told g u x (ended (label_of d) by_nothing) (label_mine d by) a; results = own; rest = λ j other. refl }
  node_after d node mine by (f ∷ fs) h r r' n k w z v y own a = handlers_after d node mine by (f ∷ fs) h r r r' n k w z v y own (λ m other. refl) a

  -- those that are called are the group's
  listeners_own : (n : ℕ) (what : List ℕ) (hs : List Handler) → All (λ h. Own g h.does) hs → All (Own g) (listeners n what hs)
  listeners_own n what [] h = tt
  listeners_own n what (l ∷ hs) h =
      elim (nat_eq l.on n && same_units l.what what) as (λ b. All (Own g) (if b then l.does ∷ listeners n what hs else listeners n what hs)) [ true ↦ (h.0, listeners_own n what hs h.1) | false ↦ listeners_own n what hs h.1 ]

  pub deed_after : (d : Deed) (r r' : Results) (n k : ℕ) (w : World) (z : List Item) (v : World) (y : List Item) → IsDeedOf true g d → OwnResults g r r' → Alike g u x w z v y → BothOver (After r) (deed (evaluator rules) d n r w z) (deed (evaluator rules) d k r' v y)
  deed_after (to_load m p gs) r r' n k w z v y is own a =
      let ps = granted_pairs r gs in
      turn_after (to_load m p gs) r r' (run (direct rules) n (load_turn m p ps w z) z) (run (direct rules) k (load_turn m p (granted_pairs r' gs) v y) y) is.by own
      (turn_ends n k (load_turn m p ps w z) (load_turn m p (granted_pairs r' gs) v y) z y
      (subst (λ qs. Twins (load_turn m p ps w z) z (load_turn m p qs v y) y) (grants_same g r r' own gs is.grants) (load_same m p ps w z v y is.by (grants_own g r r' own gs is.grants) a)))
  deed_after (to_call i m key args) r r' n k w z v y is own a =
      let vs = map plain_value args in
      turn_after (to_call i m key args) r r' (run (direct rules) n (answers (key_event m key (r m ∷ vs) w)) z) (run (direct rules) k (answers (key_event m key (r' m ∷ vs) v)) y) is.by own
      (turn_ends n k (answers (key_event m key (r m ∷ vs) w)) (answers (key_event m key (r' m ∷ vs) v)) z y
      (subst (λ t. Twins (answers (key_event m key (r m ∷ vs) w)) z (answers (key_event m key (t ∷ vs) v)) y) (own m is.by).0
      (answers_same (key_event m key (r m ∷ vs) w) (key_event m key (r m ∷ vs) v) z y (key_isolates g u x rules m is.by key (r m) (own m is.by).1 vs (plain_values args) w z v y a))))
  deed_after (to_tick i m) r r' n k w z v y is own a =
      subst (λ q. let s = tick_begun m (w.queues m) w z in let t = tick_begun m q v y in BothOver (After r) (turns_or_none (evaluator rules) (to_tick i m) s.turns n r s.store s.kept) (turns_or_none (evaluator rules) (to_tick i m) t.turns k r' t.store t.kept))
      (a.same.queues m is.by) (tick_after i m (w.queues m) r r' n k w z v y is.by own (a.closed.queues m is.by) a)
  deed_after (to_click i id root j) r r' n k w z v y is own a =
      let fs = listeners j (codes "click") (w.handlers root) in
      subst (λ hs. BothOver (After r) (turns_or_none (evaluator rules) (to_click i id root j) (node_turns (facet_name root j) fs) n r w z) (turns_or_none (evaluator rules) (to_click i id root j) (node_turns (facet_name root j) (listeners j (codes "click") hs)) k r' v y))
      (a.same.handlers root is.by) (node_after (to_click i id root j) (facet_name root j) is.by is.by fs (listeners_own j (codes "click") (w.handlers root) (a.closed.handlers root is.by)) r r' n k w z v y own a)
  deed_after (to_input i id root j us) r r' n k w z v y is own a =
      let fs = listeners j (codes "input") (w.handlers root) in
      let w1 = with_input root j us w in
      let v1 = with_input root j us v in
      subst (λ hs. BothOver (After r) (turns_or_none (evaluator rules) (to_input i id root j us) (node_turns (facet_name root j) fs) n r w1 z) (turns_or_none (evaluator rules) (to_input i id root j us) (node_turns (facet_name root j) (listeners j (codes "input") hs)) k r' v1 y))
      (a.same.handlers root is.by) (node_after (to_input i id root j us) (facet_name root j) is.by is.by fs (listeners_own j (codes "input") (w.handlers root) (a.closed.handlers root is.by)) r r' n k w1 z v1 y own
      (with_nodes_alike g u x (put_in us j) root is.by a))
