-- Events: what the page is answered is the same, anew.
use Rattle.std.proofs.Common.{ℕ, List, [], ◌∷◌, Option, Some, None, refl, sym, ap, subst}
use Rattle.std.specs.Prelude.{option_map, slice_get, codes, length}
use Rattle.std.proofs.lemmas.List.{length-map}
use Rattle.std.proofs.lemmas.Option.{slice_get-map}
use Rattle.acts.specs.Acts.{task, answer}
use Rattle.rows.specs.Rows as r
use Rattle.rows.specs.Rows.{Native}
use Rattle.rows.specs.Events.{call_key}
use Rattle.cajita_tree.specs.Tree as c
use Rattle.cajita_meaning.specs.World as W
use Rattle.cajita_meaning.specs.World.{Name, made_name, cell_name, facet_name, forward_name, Value, undefined, object, Object, a_closure, World}
use Rattle.cajita_meaning.specs.Doing as d
use Rattle.cajita_meaning.specs.Asking as A
use Rattle.cajita_meaning.specs.Events as e
use Rattle.cajita_meaning.specs.Events.{the_page}
use Rattle.cajita_meaning.specs.Direct.{Completion, gave, threw}
use Rattle.cell_numbers.specs.Renumbering.{Renumbering, name_anew, value_anew, values_anew, pairs_anew, object_anew, world_anew, completion_anew}
use Rattle.cell_numbers.proofs.Rows.{outcome_anew, begun_anew}
use Rattle.cell_numbers.proofs.Calls.{Anew, making_anew, passing_anew, body_anew, entry_anew, native_at_anew, received_anew}
use Rattle.cell_numbers.proofs.Questions.{telling_anew}

module _ (f : Renumbering) where
  given_anew : (m : ℕ) (v : Value) (w : World) → Anew f (e.given_out m v w) (e.given_out m (value_anew f v) (world_anew f w))
  given_anew m v w = passing_anew f m the_page (v ∷ []) (A.good_value v w) (A.good_value (value_anew f v) (world_anew f w)) (refl, refl, refl)

  thrown_anew : (m : ℕ) (v : Value) (w : World) → Anew f (e.thrown_out m v w) (e.thrown_out m (value_anew f v) (world_anew f w))
  thrown_anew m v w = passing_anew f m the_page (v ∷ []) (answer A.bad (v ∷ []) w) (answer A.bad (value_anew f v ∷ []) (world_anew f w)) (refl, refl, refl)

  refused_anew : (message : List ℕ) (m : ℕ) (w : World) → Anew f (e.refused_out message m w) (e.refused_out message m (world_anew f w))
  refused_anew message m w =
      making_anew f (W.an_error r.type_error message) m w (λ v u. e.thrown_out m v u) (λ v u. e.thrown_out m v u) (λ n. thrown_anew m (object (made_name m n)) (W.with_object m (W.an_error r.type_error message) w))

  native_out_anew : (m : ℕ) (t : Completion) (w : World) → Anew f (e.native_out m t w) (e.native_out m (completion_anew f t) (world_anew f w))
  native_out_anew m (gave v) w = given_anew m v w
  native_out_anew m (threw v) w = thrown_anew m v w
  native_out_anew m t w = (refl, refl, refl)

  native_event_anew : (m : ℕ) (o : Option Native) (n : Name) (t : Value) (vs : List Value) (w : World) → Anew f (e.native_event m o n t vs w) (e.native_event m o (name_anew f n) (value_anew f t) (values_anew f vs) (world_anew f w))
  native_event_anew m None n t vs w = refused_anew (codes "not a function") m w
  native_event_anew m (Some g) n t vs w = (ap (λ v. task (A.a_native g 0) m (v ∷ values_anew f vs)) (received_anew f g n t), refl, λ t u. native_out_anew m t u)

  closure_event_anew : (m : ℕ) (o : Option Object) (maker : ℕ) (vs : List Value) (w : World) → Anew f (e.closure_event m o maker vs w) (e.closure_event m (option_map (object_anew f) o) maker (values_anew f vs) (world_anew f w))
  closure_event_anew m (Some (a_closure g chain)) maker vs w = entry_anew f g chain maker vs 0 the_page w
  closure_event_anew m o maker vs w = refused_anew (codes "not a function") m w

  pub page_call_anew : (m : ℕ) (g t : Value) (vs : List Value) (w : World) → Anew f (e.page_call m g t vs w) (e.page_call m (value_anew f g) (value_anew f t) (values_anew f vs) (world_anew f w))
  page_call_anew m (object (made_name maker n)) t vs w =
      subst (λ o. Anew f (e.closure_event m (slice_get (w.objects maker) n) maker vs w) (e.closure_event m o maker (values_anew f vs) (world_anew f w))) (sym (slice_get-map (object_anew f) (w.objects maker) n)) (closure_event_anew m (slice_get (w.objects maker) n) maker vs w)
  page_call_anew m (object n) t vs w =
      subst (λ o. Anew f (e.native_event m (A.native_at n) n t vs w) (e.native_event m o (name_anew f n) (value_anew f t) (values_anew f vs) (world_anew f w))) (sym (native_at_anew f n)) (native_event_anew m (A.native_at n) n t vs w)
  page_call_anew m g t vs w = refused_anew (codes "not a function") m w

  event_outcome_anew : (m : ℕ) (o : d.Outcome) (w : World) → Anew f (e.event_outcome m o w) (e.event_outcome m (outcome_anew f o) (world_anew f w))
  event_outcome_anew m (d.gives v) w = given_anew m v w
  event_outcome_anew m (d.throws v) w = thrown_anew m v w
  event_outcome_anew m (d.stops fault) w = (refl, refl)
  event_outcome_anew m (d.lists ks) w = (refl, refl, refl)
  event_outcome_anew m (d.calls recorded g t vs) w = page_call_anew m g t vs w

  pub key_anew : (m : ℕ) (k : List ℕ) (vs : List Value) (w : World) → Anew f (e.key_event m k vs w) (e.key_event m k (values_anew f vs) (world_anew f w))
  key_anew m k vs w =
      let a = d.does m (call_key k (length vs)) (d.given vs) w [] in
      subst (λ b. Anew f (e.event_reply m a) (e.event_reply m b)) (sym (begun_anew f m (call_key k) vs w))
      (telling_anew f a.items (e.event_outcome m a.outcome a.world) (e.event_outcome m (outcome_anew f a.outcome) (world_anew f a.world)) (event_outcome_anew m a.outcome a.world))

  pub tick_anew : (m : ℕ) (g : Value) (w : World) → Anew f (e.tick_event m g w) (e.tick_event m (value_anew f g) (world_anew f w))
  tick_anew m g w = page_call_anew m g undefined [] w

  handler_anew_entry : (m : ℕ) (o : Option Object) (node : Name) (w : World) → Anew f (e.handler_entry m o node w) (e.handler_entry m (option_map (object_anew f) o) (name_anew f node) (world_anew f w))
  handler_anew_entry m (Some (a_closure (c.fun name params args body) chain)) node w =
      let at = λ (n : ℕ) (x : Name) (u : World). A.telling_all (d.granted m x ∷ []) (A.body_reply body params args (object x ∷ []) n (record { chain = n ∷ chain; calls = 1 }) m the_page u) in
      let n = W.next_scope m w in
      subst (λ i. Anew f (at n node w) (at i (name_anew f node) (world_anew f w))) (sym (length-map (w.scopes m) (pairs_anew f)))
      (telling_anew f (d.granted m node ∷ []) (A.body_reply body params args (object node ∷ []) n (record { chain = n ∷ chain; calls = 1 }) m the_page w)
      (A.body_reply body params args (object (name_anew f node) ∷ []) n (record { chain = n ∷ chain; calls = 1 }) m the_page (world_anew f w)) (body_anew f body params args (object node ∷ []) n (record { chain = n ∷ chain; calls = 1 }) m the_page w))
  handler_anew_entry m o node w = (refl, refl, refl)

  pub node_anew : (node : Name) (g : Value) (w : World) → Anew f (e.node_event node g w) (e.node_event (name_anew f node) (value_anew f g) (world_anew f w))
  node_anew node (object (made_name m n)) w =
      subst (λ o. Anew f (e.node_event node (object (made_name m n)) w) (e.handler_entry m o (name_anew f node) (world_anew f w))) (sym (slice_get-map (object_anew f) (w.objects m) n)) (handler_anew_entry m (slice_get (w.objects m) n) node w)
  node_anew node (object (cell_name k i)) w = (refl, refl, refl)
  node_anew node (object (facet_name root k)) w = (refl, refl, refl)
  node_anew node (object (forward_name m p k i)) w = (refl, refl, refl)
  node_anew node g w = (refl, refl, refl)
