-- Events: what comes of a call by the page was had by who gives it, and the page then has it.
use Rattle.std.proofs.Common.{ℕ, suc, List, [], ◌∷◌, ◌++◌, Option, Some, None}
use Rattle.std.specs.Prelude.{slice_get, codes, length}
use Rattle.acts.specs.Acts.{answer}
use Rattle.acts.specs.Laws.{All}
use Rattle.rows.specs.Rows as r
use Rattle.rows.specs.Rows.{Native, Sight}
use Rattle.rows.specs.Names.{sort_of, is_exophoric}
use Rattle.rows.specs.Nodes.{Rules}
use Rattle.rows.specs.Events.{call_key}
use Rattle.cajita_tree.specs.Tree as c
use Rattle.cajita_meaning.specs.World as W
use Rattle.cajita_meaning.specs.World.{Name, made_name, Value, undefined, object, Object, a_closure, World}
use Rattle.cajita_meaning.specs.Doing as d
use Rattle.cajita_meaning.specs.Doing.{Held, given, value_of}
use Rattle.cajita_meaning.specs.Asking as A
use Rattle.cajita_meaning.specs.Events as e
use Rattle.cajita_meaning.specs.Events.{the_page}
use Rattle.cajita_meaning.specs.Direct.{Item, Completion, gave, threw, values_of}
use Rattle.cajita_laws.specs.Reach.{IsIn, Had, have, Known, Waits, Invariant, HaveTextMethods}
use Rattle.cajita_laws.proofs.Had.{gain_new, more_behind, in_noted}
use Rattle.cajita_laws.proofs.Invariant.{item_told}
use Rattle.cajita_laws.proofs.Scopes.{picked}
use Rattle.cajita_laws.proofs.RowReach.{Gained, row_begun, known_waits}
use Rattle.cajita_laws.proofs.CallReach.{Keeps as KeepsFor, all_more, making_kept, passing_kept, body_kept, entry_kept}
use Rattle.cajita_laws.proofs.Reach.{telling_kept}
use Rattle.cajita_laws.proofs.EventArguments.{OfArguments, key_has}

module _ (rules : Rules) (had : Had) where
  -- an event keeps the invariant, and gives the page what it then has
  abbrev Keeps : A.Reply → List Item → Type 0
  Keeps q z = KeepsFor rules had the_page q z

  -- what a module gives or throws to the page
  given_kept : (m : ℕ) (v : Value) (w : World) (z : List Item) → Invariant had w z → Known had z m v → Keeps (e.given_out m v w) z
  given_kept m v w z i h = passing_kept rules had the_page m the_page (v ∷ []) (A.good_value v w) w z i (h, tt) (λ y l j g. (j, g))

  thrown_kept : (m : ℕ) (v : Value) (w : World) (z : List Item) → Invariant had w z → Known had z m v → Keeps (e.thrown_out m v w) z
  thrown_kept m v w z i h = passing_kept rules had the_page m the_page (v ∷ []) (answer A.bad (v ∷ []) w) w z i (h, tt) (λ y l j g. (j, g))

  refused_kept : (message : List ℕ) (m : ℕ) (w : World) (z : List Item) → Invariant had w z → Keeps (e.refused_out message m w) z
  refused_kept message m w z i = making_kept rules had the_page m (W.an_error r.type_error message) w z (λ v u. e.thrown_out m v u) i (λ j h. thrown_kept m (object (W.next_name m w)) _ _ j h)

  native_out_kept : (m : ℕ) (c : Completion) (w : World) (z : List Item) → Invariant had w z → All (Known had z m) (values_of c) → Keeps (e.native_out m c w) z
  native_out_kept m (gave v) w z i h = given_kept m v w z i h.0
  native_out_kept m (threw v) w z i h = thrown_kept m v w z i h.0
  native_out_kept m c w z i h = (i, (tt, tt))

  -- what no module made is called as the module of the event
  native_kept : (m : ℕ) (f : Option Native) (n : Name) (t : Value) (vs : List Value) (w : World) (z : List Item) → Invariant had w z → IsIn n (have had z m) → All (Known had z m) (t ∷ vs) → Keeps (e.native_event m f n t vs w) z
  native_kept m None n t vs w z i l h = refused_kept (codes "not a function") m w z i
  native_kept m (Some f) n t vs w z i l h = (i, tt, (picked (Known had z m) (is_exophoric (sort_of f)) t (object n) h.0 l, h.1), λ c u y k j g. native_out_kept m c u y j g)

  -- a closure runs as its maker, which is passed the arguments by the page
  closure_kept : (m : ℕ) (o : Option Object) (maker : ℕ) (vs : List Value) (w : World) (z : List Item) → Invariant had w z → All (Known had z the_page) vs → Keeps (e.closure_event m o maker vs w) z
  closure_kept m (Some (a_closure f chain)) maker vs w z i g = entry_kept rules had f chain maker vs 0 the_page w z i g
  closure_kept m o maker vs w z i g = refused_kept (codes "not a function") m w z i

  -- a call by the page of what may wait for a module
  pub page_call_kept : (m : ℕ) (f t : Value) (vs : List Value) (w : World) (z : List Item) → Invariant had w z → Waits had z m f → All (Known had z m) (t ∷ vs) → All (Known had z the_page) vs → Keeps (e.page_call m f t vs w) z
  page_call_kept m (object (made_name maker n)) t vs w z i l h g = closure_kept m (slice_get (w.objects maker) n) maker vs w z i g
  page_call_kept m (object n) t vs w z i l h g = native_kept m (A.native_at n) n t vs w z i l h
  page_call_kept m f t vs w z i l h g = refused_kept (codes "not a function") m w z i

module _ (rules : Rules) (had : Had) (methods : HaveTextMethods had) where
  outcome_kept : (m : ℕ) (o : d.Outcome) (w : World) (z : List Item) → Invariant had w z → Gained had methods m z o → OfArguments (Known had z the_page) o → Keeps rules had (e.event_outcome m o w) z
  outcome_kept m (d.gives v) w z i h g = given_kept rules had m v w z i h
  outcome_kept m (d.throws v) w z i h g = thrown_kept rules had m v w z i h
  outcome_kept m (d.stops f) w z i h g = i
  outcome_kept m (d.lists ks) w z i h g = (i, (tt, tt))
  outcome_kept m (d.calls recorded f t vs) w z i h g = page_call_kept rules had m f t vs w z i (known_waits had methods m z m f h.0) h.1 g

  -- the call of a key
  pub key_kept : (m : ℕ) (k : List ℕ) (v : Value) (vs : List Value) (w : World) (z : List Item) → Invariant had w z → All (Known had z m) (v ∷ vs) → All (Known had z the_page) vs → Keeps rules had (e.key_event m k (v ∷ vs) w) z
  key_kept m k v vs w z i h g =
      let a = d.does m (call_key k (suc (length vs))) (given (v ∷ vs)) w [] in
      let b = row_begun had methods m (call_key k (suc (length vs))) (v ∷ vs) w z i h in
      telling_kept rules had methods the_page a.items (e.event_outcome m a.outcome a.world) z
      (outcome_kept m a.outcome a.world (z ++ a.items) b.inv b.gained (key_has (Known had (z ++ a.items) the_page) m k v vs (all_more rules had the_page vs (more_behind z a.items) g) w))

  -- what happens to a node
  handler_kept : (m : ℕ) (o : Option Object) (node : Name) (w : World) (z : List Item) → Invariant had w z → Keeps rules had (e.handler_entry m o node w) z
  handler_kept m (Some (a_closure (c.fun name params args body) chain)) node w z i =
      let t = d.granted m node in
      let n = W.next_scope m w in
      let a : A.Around = record { chain = n ∷ chain; calls = 1 } in
      telling_kept rules had methods the_page (t ∷ []) (A.body_reply body params args (object node ∷ []) n a m the_page w) z
      (body_kept rules had body params args (object node ∷ []) n a m the_page w (z ++ t ∷ []) (item_told had t tt i tt) (in_noted had z t m node (gain_new m node (have had z)), tt))
  handler_kept m o node w z i = (i, (tt, tt))

  pub node_kept : (node : Name) (f : Value) (w : World) (z : List Item) → Invariant had w z → Keeps rules had (e.node_event node f w) z
  node_kept node (object (made_name m n)) w z i = handler_kept m (slice_get (w.objects m) n) node w z i
  node_kept node f w z i = (i, (tt, tt))
