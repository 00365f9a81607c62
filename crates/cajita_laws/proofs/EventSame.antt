-- Events of a group's module: they do the same in two worlds that are alike for the group.
use Rattle.std.proofs.Common.{◌≡◌, ℕ, suc, true, List, [], ◌∷◌, ◌++◌, Option, Some, None, refl, sym, ap, subst}
use Rattle.std.specs.Prelude.{slice_get, codes, length}
use Rattle.acts.specs.Acts.{answer}
use Rattle.acts.specs.Laws.{All}
use Rattle.acts.proofs.Keeps.{all_map}
use Rattle.rows.specs.Rows as r
use Rattle.rows.specs.Rows.{Native}
use Rattle.rows.specs.Names.{sort_of, is_exophoric}
use Rattle.rows.specs.Nodes.{Rules}
use Rattle.rows.specs.Events.{call_key}
use Rattle.cajita_tree.specs.Tree as c
use Rattle.cajita_meaning.specs.World as W
use Rattle.cajita_meaning.specs.World.{Name, made_name, Value, object, Object, a_closure, World}
use Rattle.cajita_meaning.specs.Doing as d
use Rattle.cajita_meaning.specs.Doing.{given}
use Rattle.cajita_meaning.specs.Asking as A
use Rattle.cajita_meaning.specs.Events as e
use Rattle.cajita_meaning.specs.Events.{the_page}
use Rattle.cajita_meaning.specs.Direct.{Item, Completion, gave, threw, values_of}
use Rattle.cajita_laws.specs.Parts.{Group, OwnName, Own, Alike}
use Rattle.cajita_laws.specs.Turns.{IsPlain}
use Rattle.cajita_laws.proofs.Scopes.{picked}
use Rattle.cajita_laws.proofs.Alike.{told}
use Rattle.cajita_laws.proofs.RowSame.{OwnOutcome, row_begun_same}
use Rattle.cajita_laws.proofs.CallSame.{Same as SameFor, Sends, all_sent, making_same, passing_same, body_same, entry_same}
use Rattle.cajita_laws.proofs.Same.{telling_same}
use Rattle.cajita_laws.proofs.EventArguments.{OfArguments, key_has}

module _ (rules : Rules) (g : Group) (u : World) (x : List Item) where
  abbrev Same : A.Reply → List Item → A.Reply → List Item → Type 0
  Same r z q y = SameFor rules g u x r z q y

  -- what is no object is the group's, and nothing is told where it is passed
  plain_own : (p : Value) → IsPlain p → Own g p
  plain_own (object o) h = absurd h
  plain_own p h = tt

  plain_sent : (p : Value) → IsPlain p → Sends rules g u x the_page p
  plain_sent (object o) h = absurd h
  plain_sent p h = tt

  -- what the group's module gives or throws to the page
  given_same : (m : ℕ) (p : Value) (w : World) (z : List Item) (v : World) (y : List Item) → g.modules m ≡ true → Own g p → Alike g u x w z v y → Same (e.given_out m p w) z (e.given_out m p v) y
  given_same m p w z v y run own a = passing_same rules g u x m the_page (p ∷ []) (A.good_value p w) (A.good_value p v) w z v y (all_sent rules g u x m (p ∷ []) run) a (λ z' y' l. (refl, refl, (own, tt), l))

  thrown_same : (m : ℕ) (p : Value) (w : World) (z : List Item) (v : World) (y : List Item) → g.modules m ≡ true → Own g p → Alike g u x w z v y → Same (e.thrown_out m p w) z (e.thrown_out m p v) y
  thrown_same m p w z v y run own a = passing_same rules g u x m the_page (p ∷ []) (answer A.bad (p ∷ []) w) (answer A.bad (p ∷ []) v) w z v y (all_sent rules g u x m (p ∷ []) run) a (λ z' y' l. (refl, refl, (own, tt), l))

  refused_same : (message : List ℕ) (m : ℕ) (w : World) (z : List Item) (v : World) (y : List Item) → g.modules m ≡ true → Alike g u x w z v y → Same (e.refused_out message m w) z (e.refused_out message m v) y
  refused_same message m w z v y run a = making_same rules g u x (W.an_error r.type_error message) m w z v y (λ p q. e.thrown_out m p q) (λ p q. e.thrown_out m p q) tt run a (λ n mine l. thrown_same m (object n) _ _ _ _ run mine l)

  native_out_same : (m : ℕ) (t : Completion) (w : World) (z : List Item) (v : World) (y : List Item) → g.modules m ≡ true → All (Own g) (values_of t) → Alike g u x w z v y → Same (e.native_out m t w) z (e.native_out m t v) y
  native_out_same m (gave p) w z v y run own a = given_same m p w z v y run own.0 a
  native_out_same m (threw p) w z v y run own a = thrown_same m p w z v y run own.0 a
  native_out_same m t w z v y run own a = (refl, refl, (tt, tt), a)

  native_same : (m : ℕ) (f : Option Native) (n : Name) (t : Value) (vs : List Value) (w : World) (z : List Item) (v : World) (y : List Item) → g.modules m ≡ true → OwnName g n → All (Own g) (t ∷ vs) → Alike g u x w z v y → Same (e.native_event m f n t vs w) z (e.native_event m f n t vs v) y
  native_same m None n t vs w z v y run mine own a = refused_same (codes "not a function") m w z v y run a
  native_same m (Some f) n t vs w z v y run mine own a =
      (refl, a, run, (picked (Own g) (is_exophoric (sort_of f)) t (object n) own.0 mine, own.1), λ t w2 z2 v2 y2 l own2. native_out_same m t w2 z2 v2 y2 run own2 l)

  closure_same : (m : ℕ) (o : Option Object) (maker : ℕ) (vs : List Value) (w : World) (z : List Item) (v : World) (y : List Item) → g.modules m ≡ true → g.modules maker ≡ true → All IsPlain vs → Alike g u x w z v y → Same (e.closure_event m o maker vs w) z (e.closure_event m o maker vs v) y
  closure_same m (Some (a_closure f chain)) maker vs w z v y run mine plain a =
      entry_same rules g u x f chain maker vs 0 the_page w z v y (all_map IsPlain (Own g) plain_own vs plain) mine (all_map IsPlain (Sends rules g u x the_page) plain_sent vs plain) a
  closure_same m o maker vs w z v y run mine plain a = refused_same (codes "not a function") m w z v y run a

  -- a call by the page of a function of the group's
  pub page_call_same : (m : ℕ) (f t : Value) (vs : List Value) (w : World) (z : List Item) (v : World) (y : List Item) → g.modules m ≡ true → All (Own g) (f ∷ t ∷ vs) → All IsPlain vs → Alike g u x w z v y → Same (e.page_call m f t vs w) z (e.page_call m f t vs v) y
  page_call_same m (object (made_name maker n)) t vs w z v y run own plain a =
      subst (λ l. Same (e.closure_event m (slice_get (w.objects maker) n) maker vs w) z (e.closure_event m (slice_get l n) maker vs v) y) (a.same.objects maker own.0)
      (closure_same m (slice_get (w.objects maker) n) maker vs w z v y run own.0 plain a)
  page_call_same m (object n) t vs w z v y run own plain a = native_same m (A.native_at n) n t vs w z v y run own.0 own.1 a
  page_call_same m f t vs w z v y run own plain a = refused_same (codes "not a function") m w z v y run a

  outcome_same : (m : ℕ) (run : g.modules m ≡ true) (o : d.Outcome) (w : World) (z : List Item) (v : World) (y : List Item) → OwnOutcome g u x m run o → OfArguments IsPlain o → Alike g u x w z v y → Same (e.event_outcome m o w) z (e.event_outcome m o v) y
  outcome_same m run (d.gives p) w z v y own plain a = given_same m p w z v y run own a
  outcome_same m run (d.throws p) w z v y own plain a = thrown_same m p w z v y run own a
  outcome_same m run (d.stops f) w z v y own plain a = (refl, a)
  outcome_same m run (d.lists ks) w z v y own plain a = (refl, refl, (tt, tt), a)
  outcome_same m run (d.calls recorded f t vs) w z v y own plain a = page_call_same m f t vs w z v y run own plain a

  -- the call of a key
  pub key_same : (m : ℕ) → g.modules m ≡ true → (k : List ℕ) (p : Value) → Own g p → (vs : List Value) → All IsPlain vs → (w : World) (z : List Item) (v : World) (y : List Item) → Alike g u x w z v y → Same (e.key_event m k (p ∷ vs) w) z (e.key_event m k (p ∷ vs) v) y
  key_same m run k p own vs plain w z v y a =
      let a1 = d.does m (call_key k (suc (length vs))) (given (p ∷ vs)) w [] in
      let b1 = d.does m (call_key k (suc (length vs))) (given (p ∷ vs)) v [] in
      let h = row_begun_same g u x m run (call_key k (suc (length vs))) (p ∷ vs) w v z y (own, all_map IsPlain (Own g) plain_own vs plain) a in
      subst (λ o. Same (e.event_reply m a1) z (A.telling_all b1.items (e.event_outcome m o b1.world)) y) h.outcome
      (subst (λ is. Same (e.event_reply m a1) z (A.telling_all is (e.event_outcome m a1.outcome b1.world)) y) h.items
      (telling_same rules g u x a1.items (e.event_outcome m a1.outcome a1.world) (e.event_outcome m a1.outcome b1.world) z y
      (outcome_same m run a1.outcome a1.world (z ++ a1.items) b1.world (y ++ a1.items) h.own (key_has IsPlain m k p vs plain w) (subst (λ is. Alike g u x a1.world (z ++ a1.items) b1.world (y ++ is)) (sym h.items) h.alike))))

  -- what happens to a node of the group
  handler_same : (m : ℕ) (o : Option Object) (node : Name) (w : World) (z : List Item) (v : World) (y : List Item) → g.modules m ≡ true → OwnName g node → Alike g u x w z v y → Same (e.handler_entry m o node w) z (e.handler_entry m o node v) y
  handler_same m (Some (a_closure (c.fun name params args body) chain)) node w z v y run own a =
      let t = d.granted m node in
      let around : ℕ → A.Around = λ n. record { chain = n ∷ chain; calls = 1 } in
      let inside : ℕ → World → A.Reply = λ n q. A.body_reply body params args (object node ∷ []) n (around n) m the_page q in
      let n = W.next_scope m w in
      subst (λ k. Same (A.telling_all (t ∷ []) (inside n w)) z (A.telling_all (t ∷ []) (inside k v)) y) (ap length (a.same.scopes m run))
      (telling_same rules g u x (t ∷ []) (inside n w) (inside n v) z y (body_same rules g u x body params args (object node ∷ []) n (around n) m the_page w (z ++ t ∷ []) v (y ++ t ∷ []) (own, tt) run (told g u x t run a)))
  handler_same m o node w z v y run own a = (refl, refl, (tt, tt), a)

  pub node_same : (node : Name) (f : Value) (w : World) (z : List Item) (v : World) (y : List Item) → OwnName g node → Own g f → Alike g u x w z v y → Same (e.node_event node f w) z (e.node_event node f v) y
  node_same node (object (made_name m n)) w z v y own mine a =
      subst (λ l. Same (e.handler_entry m (slice_get (w.objects m) n) node w) z (e.handler_entry m (slice_get l n) node v) y) (a.same.objects m mine)
      (handler_same m (slice_get (w.objects m) n) node w z v y mine own a)
  node_same node f w z v y own mine a = (refl, refl, (tt, tt), a)
