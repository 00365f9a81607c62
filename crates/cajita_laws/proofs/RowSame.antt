-- Whatever a row is: in two worlds that have the same part for a group it comes to the same for the group's values, and does nothing to the others' part.
use Rattle.std.proofs.Common.{◌≡◌, ℕ, zero, suc, Bool, true, false, List, [], ◌∷◌, ◌++◌, Option, Some, None, refl, sym, ap, ◌∙◌, subst}
use Rattle.std.specs.Prelude.{nat_lt, if◌then◌else◌, ◌||◌, slice_get, length, map, codes, Result, Ok, Err}
use Rattle.std.proofs.lemmas.List.{append-nil}
use Rattle.plans.specs.Plans.{Fault, depth_fault}
use Rattle.acts.specs.Laws.{All, IfThere}
use Rattle.acts.proofs.Keeps.{all_append, all_map}
use Rattle.caja_units.specs.Units.{same_units}
use Rattle.rows.specs.Rows as r
use Rattle.rows.specs.Rows.{Handle, Native, Ending, Row}
use Rattle.rows.specs.Names.{is_of_text, tools}
use Rattle.rows.specs.Branches.{around as nodes_around}
use Rattle.rows.specs.Document as doc
use Rattle.rows.specs.Document.{Node, Change}
use Rattle.rows.specs.Public.{is_bad}
use Rattle.es3_tokens.specs.TextNumber.{text_number}
use Rattle.cajita_meaning.specs.World as W
use Rattle.cajita_meaning.specs.World.{Name, Value, undefined, null, truth, number, text, object, made_name, cell_name, own_name, built_name, tools_name, facet_name, forward_name, Pairs, Object, a_record, an_array, an_error, a_closure, World}
use Rattle.cajita_meaning.specs.Doing as d
use Rattle.cajita_meaning.specs.Doing.{Item, got, touched, passed, said, made, Held, Done, Outcome, given, value_of, way_of, names_of, method_value, way_into, got_along, got_from, got_one, got_all, got_values, finish, does}
use Rattle.cajita_laws.specs.Parts.{Group, OwnName, Own, OwnPairs, OwnObject, SamePart, Closed, Alike}
use Rattle.cajita_laws.proofs.Scopes.{picked, got_has, with_value_has}
use Rattle.cajita_laws.proofs.Alike.{Mine, told_behind, with_object_alike, with_made_alike, with_cell_alike, with_queue_alike, with_nodes_alike, with_handler_alike}

-- texts

-- joined texts are the same where the texts of items are
item_same : (f h : Value → Result (List ℕ) Fault) (v : Value) → f v ≡ h v → d.item_text f v ≡ d.item_text h v
item_same f h undefined e = refl
item_same f h null e = refl
item_same f h v e = e

tail_same : (f h : Value → Result (List ℕ) Fault) (sep : List ℕ) (vs : List Value) → All (λ v. f v ≡ h v) vs → d.tail_text f sep vs ≡ d.tail_text h sep vs
tail_same f h sep [] e = refl
tail_same f h sep (v ∷ vs) e =
    ap (λ c. d.and_then c (λ us. d.and_then (d.tail_text f sep vs) (λ ws. Ok (sep ++ (us ++ ws))))) (item_same f h v e.0)
    ∙ ap (λ c. d.and_then (d.item_text h v) (λ us. d.and_then c (λ ws. Ok (sep ++ (us ++ ws))))) (tail_same f h sep vs e.1)

joined_same : (f h : Value → Result (List ℕ) Fault) (sep : List ℕ) (vs : List Value) → All (λ v. f v ≡ h v) vs → d.joined f sep vs ≡ d.joined h sep vs
joined_same f h sep [] e = refl
joined_same f h sep (v ∷ vs) e =
    ap (λ c. d.and_then c (λ us. d.and_then (d.tail_text f sep vs) (λ ws. Ok (us ++ ws)))) (item_same f h v e.0)
    ∙ ap (λ c. d.and_then (d.item_text h v) (λ us. d.and_then c (λ ws. Ok (us ++ ws)))) (tail_same f h sep vs e.1)

module _ (g : Group) (u : World) (x : List Item) (m : ℕ) (run : g.modules m ≡ true) where
  -- what a row holds and sees is the group's

  pairs_values : (ps : Pairs) → OwnPairs g ps → All (Own g) (map (λ p. p.1) ps)
  pairs_values [] h = tt
  pairs_values ((k, v) ∷ ps) h = (h.0, pairs_values ps h.1)

  tools_own : (ts : List (List ℕ × Native)) → OwnPairs g (d.tool_pairs ts)
  tools_own [] = tt
  tools_own ((k, f) ∷ ts) = (tt, tools_own ts)

  -- what holds of nothing and of each value holds of what may be there
  there : {V : Type 0} (P : V → Type 0) (f : Option V → Type 0) → f None → ((v : V) → P v → f (Some v)) → (o : Option V) → IfThere P o → f o
  there P f n s None h = n
  there P f n s (Some v) h = s v h

  or_own : (o : Option Value) → IfThere (Own g) o → Own g (d.or_nothing o)
  or_own None h = tt
  or_own (Some v) h = h

  method_own : (v : Value) (f : Native) → Own g (method_value v f)
  method_own (object o) f = tt
  method_own (text us) f = picked (Own g) (is_of_text f) (object (built_name f)) undefined tt tt
  method_own p f = tt

  value_own : (vs : List Value) → All (Own g) vs → (a : Handle) → Own g (value_of vs a)
  value_own vs h (r.method_of a f) = method_own (value_of vs a) f
  value_own vs h (r.held n) = or_own (slice_get vs n) (got_has (Own g) vs n h)
  value_own vs h a = tt

  values_own : (vs : List Value) → All (Own g) vs → (xs : List Handle) → All (Own g) (map (value_of vs) xs)
  values_own vs h [] = tt
  values_own vs h (a ∷ xs) = (value_own vs h a, values_own vs h xs)

  made_own : (n : ℕ) (o : Option Object) → IfThere (OwnObject g) o → All (Own g) (d.see_made n o).values
  made_own n (Some (a_record frozen ps)) h = pairs_values ps h
  made_own n (Some (an_array frozen vs)) h = h
  made_own n o h = tt

  facets_own : (root : ℕ) → g.roots root ≡ true → (ks : List ℕ) → All (Own g) (d.facets root ks)
  facets_own root own [] = tt
  facets_own root own (k ∷ ks) = (own, facets_own root own ks)

  object_own : (n : ℕ) (o : Name) (w : World) → OwnName g o → Closed g w → All (Own g) (d.see_object w n o).values
  object_own n (made_name k i) w own c = made_own n (slice_get (w.objects k) i) (got_has (OwnObject g) (w.objects k) i (c.objects k own))
  object_own n (built_name f) w own c = tt
  object_own n (tools_name t) w own c = pairs_values (d.tool_pairs (tools t)) (tools_own (tools t))
  object_own n (facet_name root k) w own c = tt
  object_own n (own_name k i) w own c = tt
  object_own n (cell_name k zero) w own c = (own, (own, tt))
  object_own n (cell_name k (suc i)) w own c = tt
  object_own n (forward_name k p j zero) w own c = (own, (own, tt))
  object_own n (forward_name k p j (suc i)) w own c = tt

  see_own : (n : ℕ) (a : Value) (w : World) → Own g a → Closed g w → All (Own g) (d.see w n a).values
  see_own n (object o) w own c = object_own n o w own c
  see_own n p w own c = tt

  -- and is the same

  object_same : (n : ℕ) (o : Name) (w v : World) (z y : List Item) → OwnName g o → SamePart true g w v z y → d.see_object w n o ≡ d.see_object v n o
  object_same n (made_name k i) w v z y own s = ap (λ l. d.see_made n (slice_get l i)) (s.objects k own)
  object_same n (built_name f) w v z y own s = refl
  object_same n (tools_name t) w v z y own s = refl
  object_same n (facet_name root k) w v z y own s = refl
  object_same n (own_name k i) w v z y own s = refl
  object_same n (cell_name k zero) w v z y own s = refl
  object_same n (cell_name k (suc i)) w v z y own s = refl
  object_same n (forward_name k p j zero) w v z y own s = refl
  object_same n (forward_name k p j (suc i)) w v z y own s = ap (λ l. d.only (r.a_function (r.forwarder (W.is_among p l)))) (s.revoked k own.0)

  pub see_same : (n : ℕ) (a : Value) (w v : World) (z y : List Item) → Own g a → SamePart true g w v z y → d.see w n a ≡ d.see v n a
  see_same n (object o) w v z y own s = object_same n o w v z y own s
  see_same n p w v z y own s = refl

  -- a node of the group gives those around it, which are the group's
  around_own : (n : ℕ) (a : Value) (w : World) → Own g a → IfThere (λ (b : d.Around). All (Own g) b.values) (d.around w n a)
  around_own n (object (facet_name root k)) w own = facets_own root own (nodes_around (w.nodes root) k)
  around_own n a w own = tt

  around_same : (n : ℕ) (a : Value) (w v : World) (z y : List Item) → Own g a → SamePart true g w v z y → d.around w n a ≡ d.around v n a
  around_same n (object (facet_name root k)) w v z y own s = ap (d.around_node n root k) (s.nodes root own)
  around_same n a w v z y own s = refl

  -- texts and numbers of the group's values are the same
  text_same : (n : ℕ) (a : Value) (w : World) (z : List Item) (v : World) (y : List Item) → Own g a → Alike g u x w z v y → d.text_within n w a ≡ d.text_within n v a
  unfolding d.text_within
  text_same zero (object o) w z v y own a = ap (λ s. d.sight_text (Err depth_fault) s.sight) (object_same 0 o w v z y own a.same)
  text_same (suc n) (object o) w z v y own a =
      ap (λ c. d.sight_text c (d.see_object w 0 o).sight)
      (joined_same (d.text_within n w) (d.text_within n v) (codes ",") (d.see_object w 0 o).values (all_map (Own g) (λ b. d.text_within n w b ≡ d.text_within n v b) (λ b h. text_same n b w z v y h a) (d.see_object w 0 o).values (object_own 0 o w own a.closed)))
      ∙ ap (λ s. d.sight_text (d.joined (d.text_within n v) (codes ",") s.values) s.sight) (object_same 0 o w v z y own a.same)
  text_same n p w z v y own a = refl

  number_same : (a : Value) (w : World) (z : List Item) (v : World) (y : List Item) → Own g a → Alike g u x w z v y → d.number_of w a ≡ d.number_of v a
  number_same (text us) w z v y own a = ap (λ c. d.and_then c (λ us. d.found_number (text_number us))) (text_same 32 (text us) w z v y own a)
  number_same (object o) w z v y own a = ap (λ c. d.and_then c (λ us. d.found_number (text_number us))) (text_same 32 (object o) w z v y own a)
  number_same p w z v y own a = refl

  joined_of_same : (b : Value) (sep : List ℕ) (w : World) (z : List Item) (v : World) (y : List Item) → Own g b → Alike g u x w z v y → d.joined_of w b sep ≡ d.joined_of v b sep
  joined_of_same b sep w z v y own a =
      ap (λ c. d.joined_if c (d.see w 0 b).sight)
      (joined_same (d.text_within 31 w) (d.text_within 31 v) sep (d.see w 0 b).values (all_map (Own g) (λ c. d.text_within 31 w c ≡ d.text_within 31 v c) (λ c h. text_same 31 c w z v y h a) (d.see w 0 b).values (see_own 0 b w own a.closed)))
      ∙ ap (λ s. d.joined_if (d.joined (d.text_within 31 v) sep s.values) s.sight) (see_same 0 b w v z y own a.same)

  -- a record's pairs, and what a cell keeps

  in_own : (o : Option Object) → IfThere (OwnObject g) o → OwnPairs g (d.pairs_in o)
  in_own (Some (a_record frozen ps)) h = h
  in_own o h = tt

  pairs_own : (a : Value) (w : World) → Own g a → Closed g w → OwnPairs g (d.pairs_of w a)
  pairs_own (object (made_name k i)) w own c = in_own (slice_get (w.objects k) i) (got_has (OwnObject g) (w.objects k) i (c.objects k own))
  pairs_own (object (tools_name t)) w own c = tools_own (tools t)
  pairs_own (object (cell_name k zero)) w own c = (own, (own, tt))
  pairs_own (object (cell_name k (suc i))) w own c = tt
  pairs_own (object (forward_name k p j zero)) w own c = (own, (own, tt))
  pairs_own (object (forward_name k p j (suc i))) w own c = tt
  pairs_own p w own c = tt

  pairs_same : (a : Value) (w v : World) (z y : List Item) → Own g a → SamePart true g w v z y → d.pairs_of w a ≡ d.pairs_of v a
  pairs_same (object (made_name k i)) w v z y own s = ap (λ l. d.pairs_in (slice_get l i)) (s.objects k own)
  pairs_same (object (cell_name k (suc i))) w v z y own s = refl
  pairs_same (object (forward_name k p j (suc i))) w v z y own s = refl
  pairs_same p w v z y own s = refl

  kept_own : (a : Value) (w : World) → Own g a → Closed g w → Own g (d.kept_in a w)
  kept_own (object (cell_name k i)) w own c = c.cells k own
  kept_own (object (forward_name k p j i)) w own c = c.cells j own.1
  kept_own p w own c = tt

  kept_same : (a : Value) (w v : World) (z y : List Item) → Own g a → SamePart true g w v z y → d.kept_in a w ≡ d.kept_in a v
  kept_same (object (cell_name k i)) w v z y own s = s.cells k own
  kept_same (object (forward_name k p j i)) w v z y own s = s.cells j own.1
  kept_same p w v z y own s = refl

  -- what is told is the running module's

  along_mine : (way : List Name) (o : Name) → Mine g u x (got_along m way o)
  along_mine [] o = tt
  along_mine (h ∷ []) o = (run, tt)
  along_mine (h ∷ k ∷ way) o = (run, along_mine (k ∷ way) o)

  from_mine : (way : List Name) (a : Value) → Mine g u x (got_from m way a)
  from_mine way (object o) = along_mine way o
  from_mine way p = tt

  abbrev IsMine : Item → Type 0
  IsMine i = Rattle.cajita_laws.specs.Parts.tells g i ≡ true

  all_mine : (s : Held) (xs : List Handle) → Mine g u x (got_all m s xs)
  all_mine s [] = tt
  all_mine s (a ∷ xs) = all_append IsMine (got_one m s a) (got_all m s xs) (from_mine (way_of s a) (value_of s.values a)) (all_mine s xs)

  values_mine : (way : List Name) (vs : List Value) → Mine g u x (got_values m way vs)
  values_mine way [] = tt
  values_mine way (a ∷ vs) = all_append IsMine (got_from m way a) (got_values m way vs) (from_mine way a) (values_mine way vs)

  touching_mine : (t : r.Touch) (way : List Name) (a : Value) (k : List (List ℕ)) → Mine g u x (d.touching m t way a k)
  touching_mine t way (object o) k = all_append IsMine (got_along m way o) (touched m t o k ∷ []) (along_mine way o) (run, tt)
  touching_mine t way p k = tt

  saying_mine : (a : Value) (us : List ℕ) → Own g a → Mine g u x (d.saying a us)
  saying_mine (object (own_name k i)) us own = (own, tt)
  saying_mine p us own = tt

  waiting_mine : (k : ℕ) (way : List Name) (a : Value) → Mine g u x (d.to_wait m k way a)
  waiting_mine k way (object (made_name j n)) = tt
  waiting_mine k way (object o) = all_append IsMine (got_along m way o) (passed m k o ∷ []) (along_mine way o) (run, tt)
  waiting_mine k way p = tt

  handing_mine : (b : Value) (way : List Name) (a : Value) → Mine g u x (d.handing_over m b way a)
  handing_mine (object (own_name k i)) way a = waiting_mine k way a
  handing_mine p way a = tt

  -- changes of the world

  key_own : (k : List ℕ) (a : Value) → Own g a → (o : Object) → OwnObject g o → OwnObject g (d.with_key k a o)
  key_own k a own (a_record frozen ps) h = picked (OwnObject g) (frozen || is_bad k) (a_record frozen ps) (a_record frozen (W.with_value k a ps)) h (with_value_has (Own g) k a ps own h)
  key_own k a own o h = h

  dropped_own : (k : List ℕ) (ps : Pairs) → OwnPairs g ps → OwnPairs g (d.dropped k ps)
  dropped_own k [] h = tt
  dropped_own k ((j, a) ∷ ps) h = picked (OwnPairs g) (same_units k j) ps ((j, a) ∷ d.dropped k ps) h.1 (h.0, dropped_own k ps h.1)

  without_own : (k : List ℕ) (o : Object) → OwnObject g o → OwnObject g (d.without_key k o)
  without_own k (a_record frozen ps) h = picked (OwnObject g) (frozen || is_bad k) (a_record frozen ps) (a_record frozen (d.dropped k ps)) h (dropped_own k ps h)
  without_own k o h = h

  items_own : (us : List Value) → All (Own g) us → (o : Object) → OwnObject g o → OwnObject g (d.with_items us o)
  items_own us own (an_array frozen vs) h = picked (OwnObject g) frozen (an_array frozen vs) (an_array frozen us) h own
  items_own us own o h = h

  frozen_own : (o : Object) → OwnObject g o → OwnObject g (d.as_frozen o)
  frozen_own (a_record frozen ps) h = h
  frozen_own (an_array frozen vs) h = h
  frozen_own (an_error t us) h = h
  frozen_own (a_closure f chain) h = h

  -- one change of an object of the group's, in both worlds
  changed_alike : (f : Object → Object) → ((o : Object) → OwnObject g o → OwnObject g (f o)) → (b : Value) → Own g b → (w : World) (z : List Item) (v : World) (y : List Item) → Alike g u x w z v y → Alike g u x (d.changed f b w) z (d.changed f b v) y
  changed_alike f h (object (made_name k i)) own w z v y a =
      subst (λ l. Alike g u x (d.changed_object f k i (slice_get (w.objects k) i) w) z (d.changed_object f k i (slice_get l i) v) y) (a.same.objects k own)
      (at (slice_get (w.objects k) i) (got_has (OwnObject g) (w.objects k) i (a.closed.objects k own)))
    where
      at : (o : Option Object) → IfThere (OwnObject g) o → Alike g u x (d.changed_object f k i o w) z (d.changed_object f k i o v) y
      at None e = a
      at (Some o) e = with_made_alike g u x (f o) k i (h o e) own a
  changed_alike f h p own w z v y a = a

  -- and of what the page keeps for the group
  keeping_alike : (b c : Value) → Own g b → Own g c → (w : World) (z : List Item) (v : World) (y : List Item) → Alike g u x w z v y → Alike g u x (d.keeping b c w) z (d.keeping b c v) y
  keeping_alike (object (cell_name k i)) c own mine w z v y a = with_cell_alike g u x k c own mine a
  keeping_alike (object (forward_name k p j i)) c own mine w z v y a = with_cell_alike g u x j c own.1 mine a
  keeping_alike p c own mine w z v y a = a

  queueing_alike : (b c : Value) → Own g b → Own g c → (w : World) (z : List Item) (v : World) (y : List Item) → Alike g u x w z v y → Alike g u x (d.queueing b c w) z (d.queueing b c v) y
  queueing_alike (object (own_name k i)) c own mine w z v y a = with_queue_alike g u x (λ fs. fs ++ c ∷ []) k (λ h. all_append (Own g) (w.queues k) (c ∷ []) h (mine, tt)) own a
  queueing_alike p c own mine w z v y a = a

  noding_alike : (b : Value) (f : ℕ → List Node → List Node) → Own g b → (w : World) (z : List Item) (v : World) (y : List Item) → Alike g u x w z v y → Alike g u x (d.noding b f w) z (d.noding b f v) y
  noding_alike (object (facet_name root e)) f own w z v y a = with_nodes_alike g u x (f e) root own a
  noding_alike p f own w z v y a = a

  listening_alike : (b : Value) (us : List ℕ) (c : Value) → Own g b → Own g c → (w : World) (z : List Item) (v : World) (y : List Item) → Alike g u x w z v y → Alike g u x (d.listening b us c w) z (d.listening b us c v) y
  listening_alike (object (facet_name root e)) us c own mine w z v y a = with_handler_alike g u x (record { on = e; what = us; does = c }) root mine own a
  listening_alike p us c own mine w z v y a = a

  node_told_mine : (b : Value) (c : Change) → Own g b → Mine g u x (d.node_told b c)
  node_told_mine (object (facet_name root e)) c own = (own, tt)
  node_told_mine p c own = tt

  -- a new node of the group's root is the group's, and the same
  new_own : (b : Value) (w : World) → Own g b → Own g (d.new_node b w)
  new_own (object (facet_name root e)) w own = own
  new_own p w own = tt

  new_same : (b : Value) (w v : World) (z y : List Item) → Own g b → SamePart true g w v z y → d.new_node b w ≡ d.new_node b v
  new_same (object (facet_name root e)) w v z y own s = ap (λ l. object (facet_name root (length l))) (s.nodes root own)
  new_same p w v z y own s = refl

  -- the ends; z and y were told before the row began, and t by the row

  abbrev pub OwnOutcome : Outcome → Type 0
  OwnOutcome (d.gives a) = Own g a
  OwnOutcome (d.throws a) = Own g a
  OwnOutcome (d.stops f) = Unit {0}
  OwnOutcome (d.lists ks) = Unit {0}
  OwnOutcome (d.calls recorded f t vs) = All (Own g) (f ∷ t ∷ vs)

  pub record SameDone (z y : List Item) (a b : Done) : Type 0 where
    pub outcome : a.outcome ≡ b.outcome
    pub items : a.items ≡ b.items
    pub own : OwnOutcome a.outcome
    pub alike : Alike g u x a.world (z ++ a.items) b.world (y ++ b.items)

  -- what is answered is the same
  answered_same : (c : Handle) (s : Held) (w v : World) (z y t : List Item) → All (Own g) s.values → Alike g u x w (z ++ t) v (y ++ t) → SameDone z y (d.answered m c s w t) (d.answered m c s v t)
  answered_same c s w v z y t h a = record { outcome = refl; items = refl; own = value_own s.values h c; alike = told_behind g u x t _ _ _ _ (got_one m s c) (from_mine (way_of s c) (value_of s.values c)) a }

  -- a fault, or an answer without an object
  plain_same : (o : Outcome) → OwnOutcome o → (w v : World) (z y t : List Item) → Alike g u x w (z ++ t) v (y ++ t) → SameDone z y (record { outcome = o; world = w; items = t }) (record { outcome = o; world = v; items = t })
  plain_same o own w v z y t a = record { outcome = refl; items = refl; own = own; alike = a }

  -- so is what is made
  made_same : (give : Value → Outcome) → ((n : Name) → OwnName g n → OwnOutcome (give (object n))) → (o : Object) → OwnObject g o → (w v : World) (z y t : List Item) → Alike g u x w (z ++ t) v (y ++ t) → SameDone z y (d.makes give m o w t) (d.makes give m o v t)
  made_same give f o own w v z y t a =
      let n = W.next_name m w in
      subst (λ k. SameDone z y (d.makes give m o w t) (record { outcome = give (object (made_name m k)); world = W.with_object m o v; items = t ++ made m (made_name m k) ∷ [] })) (ap length (a.same.objects m run))
      (record { outcome = refl; items = refl; own = f n run; alike = told_behind g u x t _ _ _ _ (made m n ∷ []) (run, tt) (with_object_alike g u x o m own run a) })

  given_own : (n : Name) → OwnName g n → OwnName g n
  given_own n h = h

  -- an array may be too long in both worlds
  long : (b : Bool) (c e : Done) (w v : World) (z y t : List Item) → Alike g u x w (z ++ t) v (y ++ t) → SameDone z y c e → SameDone z y (if b then c else d.too_long w t) (if b then e else d.too_long v t)
  long true c e w v z y t a h = h
  long false c e w v z y t a h = plain_same (d.stops Rattle.plans.specs.Plans.number_fault) tt w v z y t a

  -- each end among objects
  finish_same : (e : Ending) (s : Held) (w v : World) (z y t : List Item) → All (Own g) s.values → Alike g u x w (z ++ t) v (y ++ t) → SameDone z y (finish m e s w t) (finish m e s v t)
  finish_same (r.answers c) s w v z y t h a = answered_same c s w v z y t h a
  finish_same (r.throws message) s w v z y t h a = made_same d.throws given_own (an_error r.type_error message) tt w v z y t a
  finish_same (r.faults f) s w v z y t h a = plain_same (d.stops f) tt w v z y t a
  finish_same (r.lists ks) s w v z y t h a = long (nat_lt (length ks) r.most_items) _ _ w v z y t a (plain_same (d.lists ks) tt w v z y t a)
  finish_same (r.calls recorded f b xs) s w v z y t h a =
      record { outcome = refl; items = refl; own = values_own s.values h (f ∷ b ∷ xs); alike = told_behind g u x t _ _ _ _ (got_all m s (f ∷ b ∷ xs)) (all_mine s (f ∷ b ∷ xs)) a }
  finish_same (r.makes_array frozen xs) s w v z y t h a =
      long (nat_lt (length xs) r.most_items) _ _ w v z y t a
      (made_same d.gives given_own (an_array frozen (map (value_of s.values) xs)) (values_own s.values h xs) w v z y (t ++ got_all m s xs) (told_behind g u x t _ _ _ _ (got_all m s xs) (all_mine s xs) a))
  finish_same (r.copies_record frozen c) s w v z y t h a =
      let b = value_of s.values c in
      let ps = d.pairs_of w b in
      let own = value_own s.values h c in
      let is = got_values m (way_into s c) (map (λ p. p.1) ps) in
      subst (λ qs. SameDone z y (d.makes d.gives m (a_record frozen ps) w (t ++ is)) (d.makes d.gives m (a_record frozen qs) v (t ++ got_values m (way_into s c) (map (λ p. p.1) qs)))) (pairs_same b w v (z ++ t) (y ++ t) own a.same)
      (made_same d.gives given_own (a_record frozen ps) (pairs_own b w own a.closed) w v z y (t ++ is) (told_behind g u x t _ _ _ _ is (values_mine (way_into s c) (map (λ p. p.1) ps)) a))
  finish_same (r.makes_error maker message) s w v z y t h a = made_same d.gives given_own (an_error maker message) tt w v z y t a
  finish_same (r.reads_key o k c) s w v z y t h a = answered_same c s w v z y t h a
  finish_same (r.writes_key o k c) s w v z y t h a =
      let f = d.with_key k (value_of s.values c) in
      let b = value_of s.values o in
      answered_same c s (d.changed f b w) (d.changed f b v) z y t h (changed_alike f (key_own k (value_of s.values c) (value_own s.values h c)) b (value_own s.values h o) w (z ++ t) v (y ++ t) a)
  finish_same (r.drops_key o k) s w v z y t h a =
      let b = value_of s.values o in
      plain_same (d.gives (truth true)) tt (d.changed (d.without_key k) b w) (d.changed (d.without_key k) b v) z y t (changed_alike (d.without_key k) (without_own k) b (value_own s.values h o) w (z ++ t) v (y ++ t) a)
  finish_same (r.sets_items o xs c) s w v z y t h a =
      let us = map (value_of s.values) xs in
      let b = value_of s.values o in
      long (nat_lt (length xs) r.most_items) _ _ w v z y t a
      (answered_same c s (d.changed (d.with_items us) b w) (d.changed (d.with_items us) b v) z y t h (changed_alike (d.with_items us) (items_own us (values_own s.values h xs)) b (value_own s.values h o) w (z ++ t) v (y ++ t) a))
  finish_same (r.freezes o) s w v z y t h a =
      let b = value_of s.values o in
      answered_same o s (d.changed d.as_frozen b w) (d.changed d.as_frozen b v) z y t h (changed_alike d.as_frozen frozen_own b (value_own s.values h o) w (z ++ t) v (y ++ t) a)

  -- each end in the page's own state
  settle_same : (e : r.Settling) (s : Held) (w v : World) (z y t : List Item) → All (Own g) s.values → Alike g u x w (z ++ t) v (y ++ t) → SameDone z y (d.settle m e s w t) (d.settle m e s v t)
  settle_same (r.answers_kept c) s w v z y t h a =
      let b = value_of s.values c in
      let own = value_own s.values h c in
      let k = d.kept_in b w in
      subst (λ q. SameDone z y (record { outcome = d.gives k; world = w; items = t ++ got_from m (way_into s c) k }) (record { outcome = d.gives q; world = v; items = t ++ got_from m (way_into s c) q })) (kept_same b w v (z ++ t) (y ++ t) own a.same)
      (record { outcome = refl; items = refl; own = kept_own b w own a.closed; alike = told_behind g u x t _ _ _ _ (got_from m (way_into s c) k) (from_mine (way_into s c) k) a })
  settle_same (r.keeps c b) s w v z y t h a =
      plain_same (d.gives undefined) tt (d.keeping (value_of s.values c) (value_of s.values b) w) (d.keeping (value_of s.values c) (value_of s.values b) v) z y t (keeping_alike (value_of s.values c) (value_of s.values b) (value_own s.values h c) (value_own s.values h b) w (z ++ t) v (y ++ t) a)
  settle_same (r.says c us) s w v z y t h a =
      record { outcome = refl; items = refl; own = tt; alike = told_behind g u x t _ _ _ _ (d.saying (value_of s.values c) us) (saying_mine (value_of s.values c) us (value_own s.values h c)) a }
  settle_same (r.queues c f) s w v z y t h a =
      let b = value_of s.values c in
      let e = value_of s.values f in
      let is = d.handing_over m b (way_of s f) e in
      record { outcome = refl; items = refl; own = tt; alike = told_behind g u x t _ _ _ _ is (handing_mine b (way_of s f) e) (queueing_alike b e (value_own s.values h c) (value_own s.values h f) w (z ++ t) v (y ++ t) a) }
  settle_same (r.changes_node c k b) s w v z y t h a =
      let n = value_of s.values c in
      let own = value_own s.values h c in
      let is = d.node_told n k in
      answered_same b s (d.noding n (doc.changed k) w) (d.noding n (doc.changed k) v) z y (t ++ is) h (noding_alike n (doc.changed k) own w (z ++ (t ++ is)) v (y ++ (t ++ is)) (told_behind g u x t _ _ _ _ is (node_told_mine n k own) a))
  settle_same (r.adds_node c o) s w v z y t h a =
      let b = value_of s.values c in
      let own = value_own s.values h c in
      let f = λ (k : ℕ) (ns : List Node). ns ++ o ∷ [] in
      let n = d.new_node b w in
      subst (λ q. SameDone z y (record { outcome = d.gives n; world = d.noding b f w; items = t ++ got_from m (way_into s c) n }) (record { outcome = d.gives q; world = d.noding b f v; items = t ++ got_from m (way_into s c) q })) (new_same b w v (z ++ t) (y ++ t) own a.same)
      (record { outcome = refl; items = refl; own = new_own b w own; alike = told_behind g u x t _ _ _ _ (got_from m (way_into s c) n) (from_mine (way_into s c) n) (noding_alike b f own w (z ++ t) v (y ++ t) a) })
  settle_same (r.listens c us f) s w v z y t h a =
      plain_same (d.gives undefined) tt (d.listening (value_of s.values c) us (value_of s.values f) w) (d.listening (value_of s.values c) us (value_of s.values f) v) z y t (listening_alike (value_of s.values c) us (value_of s.values f) (value_own s.values h c) (value_own s.values h f) w (z ++ t) v (y ++ t) a)

  -- a conversion gives the same, or faults alike
  converted : {A : Type 0} (c e : Result A Fault) (w v : World) (z y t : List Item) (go ho : A → Done) → c ≡ e → Alike g u x w (z ++ t) v (y ++ t) → ((b : A) → SameDone z y (go b) (ho b)) → SameDone z y (d.with_result c w t go) (d.with_result e v t ho)
  converted c e w v z y t go ho is a h = subst (λ q. SameDone z y (d.with_result c w t go) (d.with_result q v t ho)) is (at c)
    where
      at : (q : Result _ Fault) → SameDone z y (d.with_result q w t go) (d.with_result q v t ho)
      at (Ok b) = h b
      at (Err f) = plain_same (d.stops f) tt w v z y t a

  -- every row
  pub row_same : (q : Row) (s : Held) (w v : World) (z y t : List Item) → All (Own g) s.values → Alike g u x w (z ++ t) v (y ++ t) → SameDone z y (does m q s w t) (does m q s v t)
  row_same (r.ends e) s w v z y t h a = finish_same e s w v z y t h a
  row_same (r.settles e) s w v z y t h a = settle_same e s w v z y t h a
  row_same (r.as_text c go) s w v z y t h a =
      converted (d.text_of w (value_of s.values c)) (d.text_of v (value_of s.values c)) w v z y t (λ us. does m (go us) s w t) (λ us. does m (go us) s v t) (text_same 32 (value_of s.values c) w (z ++ t) v (y ++ t) (value_own s.values h c) a) a (λ us. row_same (go us) s w v z y t h a)
  row_same (r.as_number c go) s w v z y t h a =
      converted (d.number_of w (value_of s.values c)) (d.number_of v (value_of s.values c)) w v z y t (λ n. does m (go n) s w t) (λ n. does m (go n) s v t) (number_same (value_of s.values c) w (z ++ t) v (y ++ t) (value_own s.values h c) a) a (λ n. row_same (go n) s w v z y t h a)
  row_same (r.as_joined c sep go) s w v z y t h a =
      converted (d.joined_of w (value_of s.values c) sep) (d.joined_of v (value_of s.values c) sep) w v z y t (λ us. does m (go us) s w t) (λ us. does m (go us) s v t) (joined_of_same (value_of s.values c) sep w (z ++ t) v (y ++ t) (value_own s.values h c) a) a (λ us. row_same (go us) s w v z y t h a)
  row_same (r.as_same c e go) s w v z y t h a = row_same (go (d.strictly_equal (value_of s.values c) (value_of s.values e))) s w v z y t h a
  row_same (r.as_same_root c e go) s w v z y t h a = row_same (go (d.same_root (value_of s.values c) (value_of s.values e))) s w v z y t h a
  row_same (r.looks c go) s w v z y t h a =
      let b = value_of s.values c in
      let seen = d.see w (length s.values) b in
      let own = value_own s.values h c in
      subst (λ e. SameDone z y (does m (go seen.sight) (d.and_seen s (way_into s c) seen.values) w t) (does m (go e.sight) (d.and_seen s (way_into s c) e.values) v t)) (see_same (length s.values) b w v (z ++ t) (y ++ t) own a.same)
      (row_same (go seen.sight) (d.and_seen s (way_into s c) seen.values) w v z y t (all_append (Own g) s.values seen.values h (see_own (length s.values) b w own a.closed)) a)
  row_same (r.branches c go other) s w v z y t h a =
      let b = value_of s.values c in
      let own = value_own s.values h c in
      subst (λ o. SameDone z y (d.with_branch (d.around w (length s.values) b) (λ e. does m (go e.branch) (d.and_seen s (way_into s c) e.values) w t) (does m other s w t)) (d.with_branch o (λ e. does m (go e.branch) (d.and_seen s (way_into s c) e.values) v t) (does m other s v t))) (around_same (length s.values) b w v (z ++ t) (y ++ t) own a.same)
      (branched (d.around w (length s.values) b) _ _ _ _ (around_own (length s.values) b w own) (λ e l. row_same (go e.branch) (d.and_seen s (way_into s c) e.values) w v z y t (all_append (Own g) s.values e.values h l) a) (row_same other s w v z y t h a))
    where
      branched : (o : Option d.Around) (f f' : d.Around → Done) (e e' : Done) → IfThere (λ (b : d.Around). All (Own g) b.values) o → ((b : d.Around) → All (Own g) b.values → SameDone z y (f b) (f' b)) → SameDone z y e e' → SameDone z y (d.with_branch o f e) (d.with_branch o f' e')
      branched None f f' e e' l go other = other
      branched (Some b) f f' e e' l go other = go b l
  row_same (r.touches k c key next) s w v z y t h a =
      let is = d.touching m k (way_of s c) (value_of s.values c) key in
      row_same next s w v z y (t ++ is) h (told_behind g u x t _ _ _ _ is (touching_mine k (way_of s c) (value_of s.values c) key) a)

  -- a row that begins, with values of the group
  pub row_begun_same : (q : Row) (vs : List Value) (w v : World) (z y : List Item) → All (Own g) vs → Alike g u x w z v y → SameDone z y (does m q (given vs) w []) (does m q (given vs) v [])
  row_begun_same q vs w v z y h a = row_same q (given vs) w v z y [] h (subst (λ l. Alike g u x w l v (y ++ [])) (sym (append-nil z)) (subst (λ l. Alike g u x w z v l) (sym (append-nil y)) a))
