-- Whatever a row is: of values and in a world anew it comes to the same, anew. No row sees the number of a cell or of a root: two names are compared, and the number finds what
-- the cell keeps, or the root's nodes.
use Rattle.std.proofs.Common.{◌≡◌, ℕ, zero, suc, Bool, true, false, List, [], ◌∷◌, ◌++◌, Option, Some, None, refl, sym, ap, ◌∙◌}
use Rattle.std.specs.Prelude.{map, option_map, nat_eq, nat_lt, if◌then◌else◌, ◌+◌, ◌||◌, ◌&&◌, slice_get, length, codes, Result, Ok, Err}
use Rattle.std.proofs.lemmas.List.{map-append, length-map}
use Rattle.std.proofs.lemmas.Option.{slice_get-map}
use Rattle.plans.specs.Plans.{Fault, depth_fault}
use Rattle.caja_units.specs.Units.{same_units}
use Rattle.rows.specs.Rows as r
use Rattle.rows.specs.Rows.{Handle, Sight, Native, Ending, Row, handles, keyed_handles}
use Rattle.rows.specs.Names.{is_of_text, tools}
use Rattle.rows.specs.Branches.{branch, around as nodes_around}
use Rattle.rows.specs.Document as doc
use Rattle.rows.specs.Document.{Node}
use Rattle.rows.specs.Public.{is_bad}
use Rattle.es3_tokens.specs.TextNumber.{text_number}
use Rattle.cajita_meaning.specs.World as W
use Rattle.cajita_meaning.specs.World.{Name, Value, undefined, null, truth, number, text, object, made_name, cell_name, own_name, built_name, tools_name, facet_name, forward_name, Pairs, Object, a_record, an_array, an_error, a_closure, World, name_code}
use Rattle.cajita_meaning.specs.Doing as d
use Rattle.cajita_meaning.specs.Doing.{Item, got, touched, passed, made, Held, Seen, Done, Outcome, value_of, way_of, names_of, way_into, got_along, got_from, got_one, got_all, got_values, finish, settle, does}
use Rattle.cell_numbers.specs.Renumbering.{Renumbering, name_anew, value_anew, values_anew, pairs_anew, object_anew, handler_anew, world_anew, items_anew}
use Rattle.cell_numbers.proofs.Lists.{picked_mapped, or_nothing_anew, behind, with_value_anew}
use Rattle.cell_numbers.proofs.Worlds.{same_number, with_object_anew, with_made_anew, with_queue_anew, with_nodes_anew, with_handlers_anew, with_cell_anew}

-- what a row holds, what is seen, how a row ends, and what it comes to

abbrev pub held_anew : Renumbering → Held → Held
held_anew f s = record { values = values_anew f s.values; ways = map (map (name_anew f)) s.ways }

abbrev seen_of : Sight → List Value → Seen
seen_of s vs = record { sight = s; values = vs }

-- its sight is the same
abbrev seen_anew : Renumbering → Seen → Seen
seen_anew f s = seen_of s.sight (values_anew f s.values)

abbrev pub outcome_anew : Renumbering → Outcome → Outcome
outcome_anew f (d.gives v) = d.gives (value_anew f v)
outcome_anew f (d.throws v) = d.throws (value_anew f v)
outcome_anew f (d.stops fault) = d.stops fault
outcome_anew f (d.lists ks) = d.lists ks
outcome_anew f (d.calls recorded g t vs) = d.calls recorded (value_anew f g) (value_anew f t) (values_anew f vs)

abbrev done_of : Outcome → World → List Item → Done
done_of o w z = record { outcome = o; world = w; items = z }

abbrev pub done_anew : Renumbering → Done → Done
done_anew f e = done_of (outcome_anew f e.outcome) (world_anew f e.world) (items_anew f e.items)

-- handles of values that are mapped

handles_mapped : {X Y : Type 0} (h : X → Y) (n : ℕ) (xs : List X) → handles n (map h xs) ≡ handles n xs
handles_mapped h n [] = refl
handles_mapped h n (x ∷ xs) = ap (λ l. r.held n ∷ l) (handles_mapped h (n + 1) xs)

-- texts that are joined

module _ (f : Renumbering) (g h : Value → Result (List ℕ) Fault) (same : (v : Value) → g (value_anew f v) ≡ h v) where
  item_anew_text : (v : Value) → d.item_text g (value_anew f v) ≡ d.item_text h v
  item_anew_text undefined = refl
  item_anew_text null = refl
  item_anew_text v = same v

  tail_anew_text : (sep : List ℕ) (vs : List Value) → d.tail_text g sep (values_anew f vs) ≡ d.tail_text h sep vs
  tail_anew_text sep [] = refl
  tail_anew_text sep (v ∷ vs) =
      ap (λ c. d.and_then c (λ us. d.and_then (d.tail_text g sep (values_anew f vs)) (λ ws. Ok (sep ++ (us ++ ws))))) (item_anew_text v)
      ∙ ap (λ c. d.and_then (d.item_text h v) (λ us. d.and_then c (λ ws. Ok (sep ++ (us ++ ws))))) (tail_anew_text sep vs)

  joined_anew_text : (sep : List ℕ) (vs : List Value) → d.joined g sep (values_anew f vs) ≡ d.joined h sep vs
  joined_anew_text sep [] = refl
  joined_anew_text sep (v ∷ vs) =
      ap (λ c. d.and_then c (λ us. d.and_then (d.tail_text g sep (values_anew f vs)) (λ ws. Ok (us ++ ws)))) (item_anew_text v)
      ∙ ap (λ c. d.and_then (d.item_text h v) (λ us. d.and_then c (λ ws. Ok (us ++ ws)))) (tail_anew_text sep vs)

module _ (f : Renumbering) where
  -- in short
  abbrev anew : Value → Value
  anew v = value_anew f v

  abbrev world : World → World
  world w = world_anew f w

  abbrev told : List Item → List Item
  told z = items_anew f z

  -- what a row holds and sees

  method_anew : (v : Value) (b : Native) → d.method_value (anew v) b ≡ anew (d.method_value v b)
  method_anew (text us) b = picked_mapped anew (is_of_text b) (object (built_name b)) undefined
  method_anew v b = refl

  pub value_of_anew : (vs : List Value) (x : Handle) → value_of (values_anew f vs) x ≡ anew (value_of vs x)
  value_of_anew vs (r.method_of x b) = ap (λ v. d.method_value v b) (value_of_anew vs x) ∙ method_anew (value_of vs x) b
  value_of_anew vs (r.held n) = ap d.or_nothing (slice_get-map anew vs n) ∙ or_nothing_anew f (slice_get vs n)
  value_of_anew vs x = refl

  values_of_anew : (vs : List Value) (xs : List Handle) → map (value_of (values_anew f vs)) xs ≡ values_anew f (map (value_of vs) xs)
  values_of_anew vs [] = refl
  values_of_anew vs (x ∷ xs) = ap (λ v. v ∷ map (value_of (values_anew f vs)) xs) (value_of_anew vs x) ∙ ap (λ l. anew (value_of vs x) ∷ l) (values_of_anew vs xs)

  names_of_anew : (v : Value) → names_of (anew v) ≡ map (name_anew f) (names_of v)
  names_of_anew (object o) = refl
  names_of_anew v = refl

  or_given_anew : (o : Option (List Name)) → d.or_given (option_map (map (name_anew f)) o) ≡ map (name_anew f) (d.or_given o)
  or_given_anew None = refl
  or_given_anew (Some ns) = refl

  -- a way, and then a value on it
  way_onward : (way : List Name) (ways : List Name) (v u : Value) → ways ≡ map (name_anew f) way → u ≡ anew v → ways ++ names_of u ≡ map (name_anew f) (way ++ names_of v)
  way_onward way ways v u e g = ap (λ l. l ++ names_of u) e ∙ ap (λ u. map (name_anew f) way ++ names_of u) g ∙ ap (λ l. map (name_anew f) way ++ l) (names_of_anew v) ∙ sym (map-append (name_anew f) way (names_of v))

  pub way_of_anew : (s : Held) (x : Handle) → way_of (held_anew f s) x ≡ map (name_anew f) (way_of s x)
  way_of_anew s (r.held n) = ap d.or_given (slice_get-map (map (name_anew f)) s.ways n) ∙ or_given_anew (slice_get s.ways n)
  way_of_anew s (r.method_of x b) = way_onward (way_of s x) (way_of (held_anew f s) x) (value_of s.values x) (value_of (values_anew f s.values) x) (way_of_anew s x) (value_of_anew s.values x)
  way_of_anew s x = refl

  way_into_anew : (s : Held) (x : Handle) → way_into (held_anew f s) x ≡ map (name_anew f) (way_into s x)
  way_into_anew s x = way_onward (way_of s x) (way_of (held_anew f s) x) (value_of s.values x) (value_of (values_anew f s.values) x) (way_of_anew s x) (value_of_anew s.values x)

  keyed_anew : (n : ℕ) (ps : Pairs) → keyed_handles n (pairs_anew f ps) ≡ keyed_handles n ps
  keyed_anew n [] = refl
  keyed_anew n ((k, v) ∷ ps) = ap (λ (l : List (List ℕ × Handle)). (k, r.held n) ∷ l) (keyed_anew (n + 1) ps)

  pairs_values_anew : (ps : Pairs) → map (λ p. p.1) (pairs_anew f ps) ≡ values_anew f (map (λ p. p.1) ps)
  pairs_values_anew [] = refl
  pairs_values_anew ((k, v) ∷ ps) = ap (λ l. anew v ∷ l) (pairs_values_anew ps)

  record_anew : (frozen : Bool) (n : ℕ) (ps : Pairs) → d.see_record frozen n (pairs_anew f ps) ≡ seen_anew f (d.see_record frozen n ps)
  record_anew frozen n ps = ap (λ l. seen_of (r.a_record frozen l) (map (λ p. p.1) (pairs_anew f ps))) (keyed_anew n ps) ∙ ap (λ l. seen_of (r.a_record frozen (keyed_handles n ps)) l) (pairs_values_anew ps)

  made_seen_anew : (n : ℕ) (o : Option Object) → d.see_made n (option_map (object_anew f) o) ≡ seen_anew f (d.see_made n o)
  made_seen_anew n (Some (a_record frozen ps)) = record_anew frozen n ps
  made_seen_anew n (Some (an_array frozen vs)) = ap (λ l. seen_of (r.an_array frozen l) (values_anew f vs)) (handles_mapped anew n vs)
  made_seen_anew n o = refl

  tools_anew : (ts : List (List ℕ × Native)) → pairs_anew f (d.tool_pairs ts) ≡ d.tool_pairs ts
  tools_anew [] = refl
  tools_anew ((k, b) ∷ ts) = ap (λ (l : Pairs). (k, object (built_name b)) ∷ l) (tools_anew ts)

  facets_anew : (root : ℕ) (ks : List ℕ) → values_anew f (d.facets root ks) ≡ d.facets (f.roots.anew root) ks
  facets_anew root [] = refl
  facets_anew root (k ∷ ks) = ap (λ l. object (facet_name (f.roots.anew root) k) ∷ l) (facets_anew root ks)

  pub object_seen_anew : (w : World) (n : ℕ) (o : Name) → d.see_object (world w) n (name_anew f o) ≡ seen_anew f (d.see_object w n o)
  object_seen_anew w n (made_name m i) = ap (d.see_made n) (slice_get-map (object_anew f) (w.objects m) i) ∙ made_seen_anew n (slice_get (w.objects m) i)
  object_seen_anew w n (tools_name t) = ap (d.see_record true n) (sym (tools_anew (tools t))) ∙ record_anew true n (d.tool_pairs (tools t))
  object_seen_anew w n (cell_name c zero) = refl
  object_seen_anew w n (cell_name c (suc i)) = refl
  object_seen_anew w n (forward_name m p c zero) = refl
  object_seen_anew w n (forward_name m p c (suc i)) = refl
  object_seen_anew w n o = refl

  abbrev around_so : d.Around → d.Around
  around_so b = record { branch = b.branch; values = values_anew f b.values }

  name_around_anew : (w : World) (n : ℕ) (o : Name) → d.around (world w) n (object (name_anew f o)) ≡ option_map around_so (d.around w n (object o))
  name_around_anew w n (facet_name root k) =
      ap (λ r. d.around_node n (f.roots.anew root) k (w.nodes r)) (f.roots.back_anew root)
      ∙ ap (λ l. Some (record { branch = branch n k (w.nodes root); values = l })) (sym (facets_anew root (nodes_around (w.nodes root) k)))
  name_around_anew w n o = refl

  around_anew : (w : World) (n : ℕ) (v : Value) → d.around (world w) n (anew v) ≡ option_map around_so (d.around w n v)
  around_anew w n (object o) = name_around_anew w n o
  around_anew w n v = refl

  pub see_anew : (w : World) (n : ℕ) (v : Value) → d.see (world w) n (anew v) ≡ seen_anew f (d.see w n v)
  see_anew w n (object o) = object_seen_anew w n o
  see_anew w n v = refl

  -- texts and numbers

  text_anew : (n : ℕ) (w : World) (v : Value) → d.text_within n (world w) (anew v) ≡ d.text_within n w v
  unfolding d.text_within
  text_anew zero w (object o) = ap (λ s. d.sight_text (Err depth_fault) s.sight) (object_seen_anew w 0 o)
  text_anew (suc n) w (object o) =
      ap (λ s. d.sight_text (d.joined (d.text_within n (world w)) (codes ",") s.values) s.sight) (object_seen_anew w 0 o)
      ∙ ap (λ c. d.sight_text c (d.see_object w 0 o).sight) (joined_anew_text f (d.text_within n (world w)) (d.text_within n w) (λ v. text_anew n w v) (codes ",") (d.see_object w 0 o).values)
  text_anew n w v = refl

  number_of_anew : (w : World) (v : Value) → d.number_of (world w) (anew v) ≡ d.number_of w v
  number_of_anew w (text us) = ap (λ c. d.and_then c (λ us. d.found_number (text_number us))) (text_anew 32 w (text us))
  number_of_anew w (object o) = ap (λ c. d.and_then c (λ us. d.found_number (text_number us))) (text_anew 32 w (object o))
  number_of_anew w v = refl

  joined_of_anew : (w : World) (v : Value) (sep : List ℕ) → d.joined_of (world w) (anew v) sep ≡ d.joined_of w v sep
  joined_of_anew w v sep =
      ap (λ s. d.joined_if (d.joined (d.text_within 31 (world w)) sep s.values) s.sight) (see_anew w 0 v)
      ∙ ap (λ c. d.joined_if c (d.see w 0 v).sight) (joined_anew_text f (d.text_within 31 (world w)) (d.text_within 31 w) (λ v. text_anew 31 w v) sep (d.see w 0 v).values)

  -- two names are the same where they are anew

  same_name_anew : (a b : Name) → same_units (name_code (name_anew f a)) (name_code (name_anew f b)) ≡ same_units (name_code a) (name_code b)
  same_name_anew (cell_name c i) (cell_name e j) = ap (λ b. b && same_units (i ∷ []) (j ∷ [])) (same_number f.cells c e)
  same_name_anew (facet_name root k) (facet_name other j) = ap (λ b. b && same_units (k ∷ []) (j ∷ [])) (same_number f.roots root other)
  same_name_anew (forward_name m p c i) (forward_name k q e j) = ap (λ b. nat_eq m k && (nat_eq p q && (b && same_units (i ∷ []) (j ∷ [])))) (same_number f.cells c e)
  same_name_anew (made_name m n) (cell_name e j) = refl
  same_name_anew (made_name m n) (facet_name other j) = refl
  same_name_anew (made_name m n) b = refl
  same_name_anew (own_name m i) (cell_name e j) = refl
  same_name_anew (own_name m i) (facet_name other j) = refl
  same_name_anew (own_name m i) b = refl
  same_name_anew (built_name g) (cell_name e j) = refl
  same_name_anew (built_name g) (facet_name other j) = refl
  same_name_anew (built_name g) b = refl
  same_name_anew (tools_name t) (cell_name e j) = refl
  same_name_anew (tools_name t) (facet_name other j) = refl
  same_name_anew (tools_name t) b = refl
  same_name_anew (facet_name root k) (cell_name e j) = refl
  same_name_anew (facet_name root k) b = refl
  same_name_anew (cell_name c i) (facet_name other j) = refl
  same_name_anew (cell_name c i) b = refl
  same_name_anew (forward_name m p c i) (facet_name other j) = refl
  same_name_anew (forward_name m p c i) b = refl

  -- two nodes are of one root where they are anew
  same_root_names : (a b : Name) → d.same_root (object (name_anew f a)) (object (name_anew f b)) ≡ d.same_root (object a) (object b)
  same_root_names (facet_name root k) (facet_name other j) = same_number f.roots root other
  same_root_names (facet_name root k) (cell_name c i) = refl
  same_root_names (facet_name root k) (forward_name m p c i) = refl
  same_root_names (facet_name root k) b = refl
  same_root_names (cell_name c i) b = refl
  same_root_names (forward_name m p c i) b = refl
  same_root_names a b = refl

  same_root_alone : (a : Name) (v : Value) → ((b : Name) → v ≡ object b → ⊥) → d.same_root (object (name_anew f a)) v ≡ d.same_root (object a) v
  same_root_alone a (object b) none = absurd (none b refl)
  same_root_alone (facet_name root k) v none = refl
  same_root_alone (cell_name c i) v none = refl
  same_root_alone (forward_name m p c i) v none = refl
  same_root_alone a v none = refl

  same_root_anew : (u v : Value) → d.same_root (anew u) (anew v) ≡ d.same_root u v
  same_root_anew (object a) (object b) = same_root_names a b
  same_root_anew (object a) undefined = same_root_alone a undefined (λ b e. cc)
  same_root_anew (object a) null = same_root_alone a null (λ b e. cc)
  same_root_anew (object a) (truth b) = same_root_alone a (truth b) (λ b e. cc)
  same_root_anew (object a) (number n) = same_root_alone a (number n) (λ b e. cc)
  same_root_anew (object a) (text us) = same_root_alone a (text us) (λ b e. cc)
  same_root_anew u v = refl

  strictly_anew : (u v : Value) → d.strictly_equal (anew u) (anew v) ≡ d.strictly_equal u v
  strictly_anew (object a) (object b) = same_name_anew a b
  strictly_anew undefined (object b) = refl
  strictly_anew undefined v = refl
  strictly_anew null (object b) = refl
  strictly_anew null v = refl
  strictly_anew (truth a) (object b) = refl
  strictly_anew (truth a) v = refl
  strictly_anew (number n) (object b) = refl
  strictly_anew (number n) v = refl
  strictly_anew (text us) (object b) = refl
  strictly_anew (text us) v = refl
  strictly_anew (object a) v = refl

  -- what is told

  along_anew : (by : ℕ) (way : List Name) (o : Name) → got_along by (map (name_anew f) way) (name_anew f o) ≡ told (got_along by way o)
  along_anew by [] o = refl
  along_anew by (h ∷ []) o = refl
  along_anew by (h ∷ k ∷ way) o = ap (λ l. got by (name_anew f h) (name_anew f k) ∷ l) (along_anew by (k ∷ way) o)

  from_anew : (by : ℕ) (way : List Name) (v : Value) → got_from by (map (name_anew f) way) (anew v) ≡ told (got_from by way v)
  from_anew by way (object o) = along_anew by way o
  from_anew by way v = refl

  one_anew : (by : ℕ) (s : Held) (x : Handle) → got_one by (held_anew f s) x ≡ told (got_one by s x)
  one_anew by s x =
      ap (λ l. got_from by l (value_of (values_anew f s.values) x)) (way_of_anew s x) ∙ ap (got_from by (map (name_anew f) (way_of s x))) (value_of_anew s.values x) ∙ from_anew by (way_of s x) (value_of s.values x)

  all_anew : (by : ℕ) (s : Held) (xs : List Handle) → got_all by (held_anew f s) xs ≡ told (got_all by s xs)
  all_anew by s [] = refl
  all_anew by s (x ∷ xs) = ap (λ l. l ++ got_all by (held_anew f s) xs) (one_anew by s x) ∙ behind f (got_one by s x) (got_all by s xs) (got_all by (held_anew f s) xs) (all_anew by s xs)

  got_values_anew : (by : ℕ) (way : List Name) (vs : List Value) → got_values by (map (name_anew f) way) (values_anew f vs) ≡ told (got_values by way vs)
  got_values_anew by way [] = refl
  got_values_anew by way (v ∷ vs) =
      ap (λ l. l ++ got_values by (map (name_anew f) way) (values_anew f vs)) (from_anew by way v) ∙ behind f (got_from by way v) (got_values by way vs) (got_values by (map (name_anew f) way) (values_anew f vs)) (got_values_anew by way vs)

  touching_anew : (by : ℕ) (t : r.Touch) (way : List Name) (v : Value) (k : List (List ℕ)) → d.touching by t (map (name_anew f) way) (anew v) k ≡ told (d.touching by t way v k)
  touching_anew by t way (object o) k = ap (λ l. l ++ touched by t (name_anew f o) k ∷ []) (along_anew by way o) ∙ behind f (got_along by way o) (touched by t o k ∷ []) (touched by t (name_anew f o) k ∷ []) refl
  touching_anew by t way v k = refl

  saying_anew : (v : Value) (us : List ℕ) → d.saying (anew v) us ≡ told (d.saying v us)
  saying_anew (object (own_name m i)) us = refl
  saying_anew v us = refl

  to_wait_anew : (by m : ℕ) (way : List Name) (v : Value) → d.to_wait by m (map (name_anew f) way) (anew v) ≡ told (d.to_wait by m way v)
  to_wait_anew by m way (object (made_name k n)) = refl
  to_wait_anew by m way (object o) = ap (λ l. l ++ passed by m (name_anew f o) ∷ []) (along_anew by way o) ∙ behind f (got_along by way o) (passed by m o ∷ []) (passed by m (name_anew f o) ∷ []) refl
  to_wait_anew by m way v = refl

  handing_anew : (by : ℕ) (u : Value) (way : List Name) (v : Value) → d.handing_over by (anew u) (map (name_anew f) way) (anew v) ≡ told (d.handing_over by u way v)
  handing_anew by (object (own_name m i)) way v = to_wait_anew by m way v
  handing_anew by u way v = refl

  node_told_anew : (v : Value) (c : doc.Change) → d.node_told (anew v) c ≡ told (d.node_told v c)
  node_told_anew (object (facet_name root k)) c = refl
  node_told_anew v c = refl

  -- a record's pairs, what a cell keeps, a new node

  pairs_in_anew : (o : Option Object) → d.pairs_in (option_map (object_anew f) o) ≡ pairs_anew f (d.pairs_in o)
  pairs_in_anew (Some (a_record frozen ps)) = refl
  pairs_in_anew o = refl

  pairs_of_anew : (w : World) (v : Value) → d.pairs_of (world w) (anew v) ≡ pairs_anew f (d.pairs_of w v)
  pairs_of_anew w (object (made_name m i)) = ap d.pairs_in (slice_get-map (object_anew f) (w.objects m) i) ∙ pairs_in_anew (slice_get (w.objects m) i)
  pairs_of_anew w (object (tools_name t)) = sym (tools_anew (tools t))
  pairs_of_anew w (object (cell_name c zero)) = refl
  pairs_of_anew w (object (cell_name c (suc i))) = refl
  pairs_of_anew w (object (forward_name m p c zero)) = refl
  pairs_of_anew w (object (forward_name m p c (suc i))) = refl
  pairs_of_anew w v = refl

  kept_in_anew : (v : Value) (w : World) → d.kept_in (anew v) (world w) ≡ anew (d.kept_in v w)
  kept_in_anew (object (cell_name c i)) w = ap (λ k. anew (w.cells k)) (f.cells.back_anew c)
  kept_in_anew (object (forward_name m p c i)) w = ap (λ k. anew (w.cells k)) (f.cells.back_anew c)
  kept_in_anew v w = refl

  new_node_anew : (v : Value) (w : World) → d.new_node (anew v) (world w) ≡ anew (d.new_node v w)
  new_node_anew (object (facet_name root k)) w = ap (λ r. object (facet_name (f.roots.anew root) (length (w.nodes r)))) (f.roots.back_anew root)
  new_node_anew v w = refl

  -- changes of the world

  changed_anew : (g h : Object → Object) → ((o : Object) → g (object_anew f o) ≡ object_anew f (h o)) → (v : Value) (w : World) → d.changed g (anew v) (world w) ≡ world (d.changed h v w)
  changed_anew g h same (object (made_name m i)) w = ap (λ o. d.changed_object g m i o (world w)) (slice_get-map (object_anew f) (w.objects m) i) ∙ at (slice_get (w.objects m) i)
    where
      at : (o : Option Object) → d.changed_object g m i (option_map (object_anew f) o) (world w) ≡ world (d.changed_object h m i o w)
      at None = refl
      at (Some o) = ap (λ o. W.with_made m i o (world w)) (same o) ∙ with_made_anew f m i (h o) w
  changed_anew g h same v w = refl

  with_key_anew : (k : List ℕ) (v : Value) (o : Object) → d.with_key k (anew v) (object_anew f o) ≡ object_anew f (d.with_key k v o)
  with_key_anew k v (a_record frozen ps) = ap (λ l. if frozen || is_bad k then a_record frozen (pairs_anew f ps) else a_record frozen l) (with_value_anew f k v ps) ∙ picked_mapped (object_anew f) (frozen || is_bad k) (a_record frozen ps) (a_record frozen (W.with_value k v ps))
  with_key_anew k v o = refl

  dropped_anew : (k : List ℕ) (ps : Pairs) → d.dropped k (pairs_anew f ps) ≡ pairs_anew f (d.dropped k ps)
  dropped_anew k [] = refl
  dropped_anew k ((j, v) ∷ ps) = ap (λ (l : Pairs). if same_units k j then pairs_anew f ps else (j, anew v) ∷ l) (dropped_anew k ps) ∙ picked_mapped (pairs_anew f) (same_units k j) ps ((j, v) ∷ d.dropped k ps)

  without_key_anew : (k : List ℕ) (o : Object) → d.without_key k (object_anew f o) ≡ object_anew f (d.without_key k o)
  without_key_anew k (a_record frozen ps) = ap (λ l. if frozen || is_bad k then a_record frozen (pairs_anew f ps) else a_record frozen l) (dropped_anew k ps) ∙ picked_mapped (object_anew f) (frozen || is_bad k) (a_record frozen ps) (a_record frozen (d.dropped k ps))
  without_key_anew k o = refl

  with_items_anew : (vs us : List Value) → us ≡ values_anew f vs → (o : Object) → d.with_items us (object_anew f o) ≡ object_anew f (d.with_items vs o)
  with_items_anew vs us e (an_array frozen ws) = ap (λ l. if frozen then an_array frozen (values_anew f ws) else an_array frozen l) e ∙ picked_mapped (object_anew f) frozen (an_array frozen ws) (an_array frozen vs)
  with_items_anew vs us e o = refl

  as_frozen_anew : (o : Object) → d.as_frozen (object_anew f o) ≡ object_anew f (d.as_frozen o)
  as_frozen_anew (a_record frozen ps) = refl
  as_frozen_anew (an_array frozen vs) = refl
  as_frozen_anew o = refl

  keeping_anew : (u v : Value) (w : World) → d.keeping (anew u) (anew v) (world w) ≡ world (d.keeping u v w)
  keeping_anew (object (cell_name c i)) v w = with_cell_anew f c v w
  keeping_anew (object (forward_name m p c i)) v w = with_cell_anew f c v w
  keeping_anew u v w = refl

  queueing_anew : (u v : Value) (w : World) → d.queueing (anew u) (anew v) (world w) ≡ world (d.queueing u v w)
  queueing_anew (object (own_name m i)) v w = ap (λ l. W.with_queue m l (world w)) (sym (map-append anew (w.queues m) (v ∷ []))) ∙ with_queue_anew f m (w.queues m ++ v ∷ []) w
  queueing_anew u v w = refl

  noding_anew : (v : Value) (g : ℕ → List Node → List Node) (w : World) → d.noding (anew v) g (world w) ≡ world (d.noding v g w)
  noding_anew (object (facet_name root k)) g w = ap (λ r. W.with_nodes (f.roots.anew root) (g k (w.nodes r)) (world w)) (f.roots.back_anew root) ∙ with_nodes_anew f root (g k (w.nodes root)) w
  noding_anew v g w = refl

  listening_anew : (v : Value) (us : List ℕ) (g : Value) (w : World) → d.listening (anew v) us (anew g) (world w) ≡ world (d.listening v us g w)
  listening_anew (object (facet_name root k)) us g w =
      let h : W.Handler = record { on = k; what = us; does = g } in
      ap (λ r. W.with_handlers (f.roots.anew root) (map (handler_anew f) (w.handlers r) ++ handler_anew f h ∷ []) (world w)) (f.roots.back_anew root)
      ∙ ap (λ l. W.with_handlers (f.roots.anew root) l (world w)) (sym (map-append (handler_anew f) (w.handlers root) (h ∷ []))) ∙ with_handlers_anew f root (w.handlers root ++ h ∷ []) w
  listening_anew v us g w = refl

  -- the ends

  -- a value is answered, or something else, in a world and with items that are anew
  ended_anew : (o p : Outcome) (w v : World) (z is also : List Item) → p ≡ outcome_anew f o → v ≡ world w → also ≡ told is → done_of p v (told z ++ also) ≡ done_anew f (done_of o w (z ++ is))
  ended_anew o p w v z is also e g h = ap (λ p. done_of p v (told z ++ also)) e ∙ ap (λ v. done_of (outcome_anew f o) v (told z ++ also)) g ∙ ap (λ l. done_of (outcome_anew f o) (world w) l) (behind f z is also h)

  answered_anew : (by : ℕ) (x : Handle) (s : Held) (w v : World) (z : List Item) → v ≡ world w → d.answered by x (held_anew f s) v (told z) ≡ done_anew f (d.answered by x s w z)
  answered_anew by x s w v z e = ended_anew (d.gives (value_of s.values x)) (d.gives (value_of (values_anew f s.values) x)) w v z (got_one by s x) (got_one by (held_anew f s) x) (ap d.gives (value_of_anew s.values x)) e (one_anew by s x)

  -- what is made has the next number
  makes_anew : (give : Value → Outcome) → ((v : Value) → give (anew v) ≡ outcome_anew f (give v)) → (by : ℕ) (o : Object) (w : World) (z : List Item) → d.makes give by (object_anew f o) (world w) (told z) ≡ done_anew f (d.makes give by o w z)
  makes_anew give h by o w z =
      let n = W.next_name by w in
      ap (λ k. done_of (give (object (made_name by k))) (W.with_object by (object_anew f o) (world w)) (told z ++ made by (made_name by k) ∷ [])) (length-map (w.objects by) (object_anew f))
      ∙ ended_anew (give (object n)) (give (object n)) (W.with_object by o w) (W.with_object by (object_anew f o) (world w)) z (made by n ∷ []) (made by n ∷ []) (h (object n)) (with_object_anew f by o w) refl

  -- an array may be too long
  long_anew : (b : Bool) (c e : Done) (w : World) (z : List Item) → e ≡ done_anew f c → (if b then e else d.too_long (world w) (told z)) ≡ done_anew f (if b then c else d.too_long w z)
  long_anew true c e w z h = h
  long_anew false c e w z h = refl

  finish_anew : (by : ℕ) (e : Ending) (s : Held) (w : World) (z : List Item) → finish by e (held_anew f s) (world w) (told z) ≡ done_anew f (finish by e s w z)
  finish_anew by (r.answers x) s w z = answered_anew by x s w (world w) z refl
  finish_anew by (r.throws message) s w z = makes_anew d.throws (λ v. refl) by (an_error r.type_error message) w z
  finish_anew by (r.faults fault) s w z = refl
  finish_anew by (r.lists ks) s w z = long_anew (nat_lt (length ks) r.most_items) (done_of (d.lists ks) w z) (done_of (d.lists ks) (world w) (told z)) w z refl
  finish_anew by (r.calls recorded g t xs) s w z =
      let us = values_anew f s.values in
      ended_anew (d.calls recorded (value_of s.values g) (value_of s.values t) (map (value_of s.values) xs)) (d.calls recorded (value_of us g) (value_of us t) (map (value_of us) xs)) w (world w) z (got_all by s (g ∷ t ∷ xs)) (got_all by (held_anew f s) (g ∷ t ∷ xs))
      (ap (λ v. d.calls recorded v (value_of us t) (map (value_of us) xs)) (value_of_anew s.values g) ∙ ap (λ v. d.calls recorded (anew (value_of s.values g)) v (map (value_of us) xs)) (value_of_anew s.values t) ∙ ap (λ l. d.calls recorded (anew (value_of s.values g)) (anew (value_of s.values t)) l) (values_of_anew s.values xs))
      refl (all_anew by s (g ∷ t ∷ xs))
  finish_anew by (r.makes_array frozen xs) s w z =
      let vs = map (value_of s.values) xs in
      let is = got_all by (held_anew f s) xs in
      long_anew (nat_lt (length xs) r.most_items) (d.makes d.gives by (an_array frozen vs) w (z ++ got_all by s xs)) (d.makes d.gives by (an_array frozen (map (value_of (values_anew f s.values)) xs)) (world w) (told z ++ is)) w z
      (ap (λ l. d.makes d.gives by (an_array frozen l) (world w) (told z ++ is)) (values_of_anew s.values xs) ∙ ap (λ l. d.makes d.gives by (an_array frozen (values_anew f vs)) (world w) l) (behind f z (got_all by s xs) is (all_anew by s xs))
      ∙ makes_anew d.gives (λ v. refl) by (an_array frozen vs) w (z ++ got_all by s xs))
  finish_anew by (r.copies_record frozen x) s w z =
      let v = value_of s.values x in
      let ps = d.pairs_of w v in
      let way = way_into s x in
      let vs = map (λ p. p.1) ps in
      ap (λ qs. d.makes d.gives by (a_record frozen qs) (world w) (told z ++ got_values by (way_into (held_anew f s) x) (map (λ p. p.1) qs))) (ap (d.pairs_of (world w)) (value_of_anew s.values x) ∙ pairs_of_anew w v)
      ∙ ap (λ l. d.makes d.gives by (a_record frozen (pairs_anew f ps)) (world w) (told z ++ l)) (ap (λ l. got_values by l (map (λ p. p.1) (pairs_anew f ps))) (way_into_anew s x) ∙ ap (got_values by (map (name_anew f) way)) (pairs_values_anew ps))
      ∙ ap (λ l. d.makes d.gives by (a_record frozen (pairs_anew f ps)) (world w) l) (behind f z (got_values by way vs) (got_values by (map (name_anew f) way) (values_anew f vs)) (got_values_anew by way vs))
      ∙ makes_anew d.gives (λ v. refl) by (a_record frozen ps) w (z ++ got_values by way vs)
  finish_anew by (r.makes_error maker message) s w z = makes_anew d.gives (λ v. refl) by (an_error maker message) w z
  finish_anew by (r.reads_key o k x) s w z = answered_anew by x s w (world w) z refl
  finish_anew by (r.writes_key o k x) s w z =
      let v = value_of s.values x in
      let u = value_of s.values o in
      answered_anew by x s (d.changed (d.with_key k v) u w) (d.changed (d.with_key k (value_of (values_anew f s.values) x)) (value_of (values_anew f s.values) o) (world w)) z
      (ap (λ u. d.changed (d.with_key k (value_of (values_anew f s.values) x)) u (world w)) (value_of_anew s.values o) ∙ ap (λ v. d.changed (d.with_key k v) (anew u) (world w)) (value_of_anew s.values x) ∙ changed_anew (d.with_key k (anew v)) (d.with_key k v) (with_key_anew k v) u w)
  finish_anew by (r.drops_key o k) s w z =
      ap (λ v. done_of (d.gives (truth true)) v (told z)) (ap (λ u. d.changed (d.without_key k) u (world w)) (value_of_anew s.values o) ∙ changed_anew (d.without_key k) (d.without_key k) (without_key_anew k) (value_of s.values o) w)
  finish_anew by (r.sets_items o xs x) s w z =
      let vs = map (value_of s.values) xs in
      let us = map (value_of (values_anew f s.values)) xs in
      let u = value_of s.values o in
      let v = d.changed (d.with_items us) (value_of (values_anew f s.values) o) (world w) in
      long_anew (nat_lt (length xs) r.most_items) (d.answered by x s (d.changed (d.with_items vs) u w) z) (d.answered by x (held_anew f s) v (told z)) w z
      (answered_anew by x s (d.changed (d.with_items vs) u w) v z (ap (λ u. d.changed (d.with_items us) u (world w)) (value_of_anew s.values o) ∙ changed_anew (d.with_items us) (d.with_items vs) (with_items_anew vs us (values_of_anew s.values xs)) u w))
  finish_anew by (r.freezes o) s w z =
      let u = value_of s.values o in
      answered_anew by o s (d.changed d.as_frozen u w) (d.changed d.as_frozen (value_of (values_anew f s.values) o) (world w)) z (ap (λ u. d.changed d.as_frozen u (world w)) (value_of_anew s.values o) ∙ changed_anew d.as_frozen d.as_frozen as_frozen_anew u w)

  -- something is answered, which was got on a way
  got_anew : (by : ℕ) (v u : Value) (s : Held) (x : Handle) (w y : World) (z : List Item) → u ≡ anew v → y ≡ world w → done_of (d.gives u) y (told z ++ got_from by (way_into (held_anew f s) x) u) ≡ done_anew f (done_of (d.gives v) w (z ++ got_from by (way_into s x) v))
  got_anew by v u s x w y z e g =
      ended_anew (d.gives v) (d.gives u) w y z (got_from by (way_into s x) v) (got_from by (way_into (held_anew f s) x) u) (ap d.gives e) g (ap (λ l. got_from by l u) (way_into_anew s x) ∙ ap (got_from by (map (name_anew f) (way_into s x))) e ∙ from_anew by (way_into s x) v)

  settle_anew : (by : ℕ) (e : r.Settling) (s : Held) (w : World) (z : List Item) → settle by e (held_anew f s) (world w) (told z) ≡ done_anew f (settle by e s w z)
  settle_anew by (r.answers_kept x) s w z =
      let u = value_of (values_anew f s.values) x in
      got_anew by (d.kept_in (value_of s.values x) w) (d.kept_in u (world w)) s x w (world w) z (ap (λ u. d.kept_in u (world w)) (value_of_anew s.values x) ∙ kept_in_anew (value_of s.values x) w) refl
  settle_anew by (r.keeps x y) s w z =
      ap (λ v. done_of (d.gives undefined) v (told z))
      (ap (λ u. d.keeping u (value_of (values_anew f s.values) y) (world w)) (value_of_anew s.values x) ∙ ap (λ v. d.keeping (anew (value_of s.values x)) v (world w)) (value_of_anew s.values y) ∙ keeping_anew (value_of s.values x) (value_of s.values y) w)
  settle_anew by (r.says x us) s w z =
      ended_anew (d.gives undefined) (d.gives undefined) w (world w) z (d.saying (value_of s.values x) us) (d.saying (value_of (values_anew f s.values) x) us) refl refl (ap (λ u. d.saying u us) (value_of_anew s.values x) ∙ saying_anew (value_of s.values x) us)
  settle_anew by (r.queues x g) s w z =
      let u = value_of s.values x in
      let v = value_of s.values g in
      let a = value_of (values_anew f s.values) x in
      let b = value_of (values_anew f s.values) g in
      ended_anew (d.gives undefined) (d.gives undefined) (d.queueing u v w) (d.queueing a b (world w)) z (d.handing_over by u (way_of s g) v) (d.handing_over by a (way_of (held_anew f s) g) b) refl
      (ap (λ a. d.queueing a b (world w)) (value_of_anew s.values x) ∙ ap (λ b. d.queueing (anew u) b (world w)) (value_of_anew s.values g) ∙ queueing_anew u v w)
      (ap (λ a. d.handing_over by a (way_of (held_anew f s) g) b) (value_of_anew s.values x) ∙ ap (λ l. d.handing_over by (anew u) l b) (way_of_anew s g) ∙ ap (d.handing_over by (anew u) (map (name_anew f) (way_of s g))) (value_of_anew s.values g) ∙ handing_anew by u (way_of s g) v)
  settle_anew by (r.changes_node x c y) s w z =
      let u = value_of s.values x in
      let a = value_of (values_anew f s.values) x in
      ap (λ l. d.answered by y (held_anew f s) (d.noding a (doc.changed c) (world w)) l) (behind f z (d.node_told u c) (d.node_told a c) (ap (λ a. d.node_told a c) (value_of_anew s.values x) ∙ node_told_anew u c))
      ∙ answered_anew by y s (d.noding u (doc.changed c) w) (d.noding a (doc.changed c) (world w)) (z ++ d.node_told u c) (ap (λ a. d.noding a (doc.changed c) (world w)) (value_of_anew s.values x) ∙ noding_anew u (doc.changed c) w)
  settle_anew by (r.adds_node x o) s w z =
      let u = value_of s.values x in
      let a = value_of (values_anew f s.values) x in
      let g = λ (k : ℕ) (ns : List Node). ns ++ o ∷ [] in
      got_anew by (d.new_node u w) (d.new_node a (world w)) s x (d.noding u g w) (d.noding a g (world w)) z (ap (λ a. d.new_node a (world w)) (value_of_anew s.values x) ∙ new_node_anew u w) (ap (λ a. d.noding a g (world w)) (value_of_anew s.values x) ∙ noding_anew u g w)
  settle_anew by (r.listens x us g) s w z =
      ap (λ v. done_of (d.gives undefined) v (told z))
      (ap (λ a. d.listening a us (value_of (values_anew f s.values) g) (world w)) (value_of_anew s.values x) ∙ ap (λ b. d.listening (anew (value_of s.values x)) us b (world w)) (value_of_anew s.values g) ∙ listening_anew (value_of s.values x) us (value_of s.values g) w)

  -- rows

  -- a conversion gives the same, or faults
  converted : {A : Type 0} (c e : Result A Fault) (w : World) (z : List Item) (go ho : A → Done) → e ≡ c → ((x : A) → ho x ≡ done_anew f (go x)) → d.with_result e (world w) (told z) ho ≡ done_anew f (d.with_result c w z go)
  converted {A = A} c e w z go ho is h = ap (λ e. d.with_result e (world w) (told z) ho) is ∙ at c
    where
      at : (c : Result A Fault) → d.with_result c (world w) (told z) ho ≡ done_anew f (d.with_result c w z go)
      at (Ok x) = h x
      at (Err fault) = refl

  ways_anew : (way : List Name) (vs : List Value) → map (λ v. map (name_anew f) way) (values_anew f vs) ≡ map (map (name_anew f)) (map (λ v. way) vs)
  ways_anew way [] = refl
  ways_anew way (v ∷ vs) = ap (λ l. map (name_anew f) way ∷ l) (ways_anew way vs)

  abbrev held_so : List Value → List (List Name) → Held
  held_so vs ways = record { values = vs; ways = ways }

  and_seen_anew : (s : Held) (way : List Name) (vs : List Value) → d.and_seen (held_anew f s) (map (name_anew f) way) (values_anew f vs) ≡ held_anew f (d.and_seen s way vs)
  and_seen_anew s way vs =
      ap (λ l. held_so l (map (map (name_anew f)) s.ways ++ map (λ v. map (name_anew f) way) (values_anew f vs))) (sym (map-append anew s.values vs))
      ∙ ap (λ l. held_so (values_anew f (s.values ++ vs)) l) (ap (λ l. map (map (name_anew f)) s.ways ++ l) (ways_anew way vs) ∙ sym (map-append (map (name_anew f)) s.ways (map (λ v. way) vs)))

  pub row_anew : (by : ℕ) (q : Row) (s : Held) (w : World) (z : List Item) → does by q (held_anew f s) (world w) (told z) ≡ done_anew f (does by q s w z)
  row_anew by (r.ends e) s w z = finish_anew by e s w z
  row_anew by (r.settles e) s w z = settle_anew by e s w z
  row_anew by (r.as_text x go) s w z =
      converted (d.text_of w (value_of s.values x)) (d.text_of (world w) (value_of (values_anew f s.values) x)) w z (λ us. does by (go us) s w z) (λ us. does by (go us) (held_anew f s) (world w) (told z))
      (ap (d.text_of (world w)) (value_of_anew s.values x) ∙ text_anew 32 w (value_of s.values x)) (λ us. row_anew by (go us) s w z)
  row_anew by (r.as_number x go) s w z =
      converted (d.number_of w (value_of s.values x)) (d.number_of (world w) (value_of (values_anew f s.values) x)) w z (λ n. does by (go n) s w z) (λ n. does by (go n) (held_anew f s) (world w) (told z))
      (ap (d.number_of (world w)) (value_of_anew s.values x) ∙ number_of_anew w (value_of s.values x)) (λ n. row_anew by (go n) s w z)
  row_anew by (r.as_joined x sep go) s w z =
      converted (d.joined_of w (value_of s.values x) sep) (d.joined_of (world w) (value_of (values_anew f s.values) x) sep) w z (λ us. does by (go us) s w z) (λ us. does by (go us) (held_anew f s) (world w) (told z))
      (ap (λ v. d.joined_of (world w) v sep) (value_of_anew s.values x) ∙ joined_of_anew w (value_of s.values x) sep) (λ us. row_anew by (go us) s w z)
  row_anew by (r.as_same x y go) s w z =
      ap (λ b. does by (go b) (held_anew f s) (world w) (told z))
      (ap (λ u. d.strictly_equal u (value_of (values_anew f s.values) y)) (value_of_anew s.values x) ∙ ap (d.strictly_equal (anew (value_of s.values x))) (value_of_anew s.values y) ∙ strictly_anew (value_of s.values x) (value_of s.values y))
      ∙ row_anew by (go (d.strictly_equal (value_of s.values x) (value_of s.values y))) s w z
  row_anew by (r.as_same_root x y go) s w z =
      ap (λ b. does by (go b) (held_anew f s) (world w) (told z))
      (ap (λ u. d.same_root u (value_of (values_anew f s.values) y)) (value_of_anew s.values x) ∙ ap (d.same_root (anew (value_of s.values x))) (value_of_anew s.values y) ∙ same_root_anew (value_of s.values x) (value_of s.values y))
      ∙ row_anew by (go (d.same_root (value_of s.values x) (value_of s.values y))) s w z
  row_anew by (r.looks x go) s w z =
      let v = value_of s.values x in
      let seen = d.see w (length s.values) v in
      ap (λ e. does by (go e.sight) (d.and_seen (held_anew f s) (way_into (held_anew f s) x) e.values) (world w) (told z))
      (ap (λ n. d.see (world w) n (value_of (values_anew f s.values) x)) (length-map s.values anew) ∙ ap (d.see (world w) (length s.values)) (value_of_anew s.values x) ∙ see_anew w (length s.values) v)
      ∙ ap (λ way. does by (go seen.sight) (d.and_seen (held_anew f s) way (values_anew f seen.values)) (world w) (told z)) (way_into_anew s x)
      ∙ ap (λ s. does by (go seen.sight) s (world w) (told z)) (and_seen_anew s (way_into s x) seen.values)
      ∙ row_anew by (go seen.sight) (d.and_seen s (way_into s x) seen.values) w z
  row_anew by (r.branches x go other) s w z =
      let v = value_of s.values x in
      ap (λ e. d.with_branch e (λ b. does by (go b.branch) (d.and_seen (held_anew f s) (way_into (held_anew f s) x) b.values) (world w) (told z)) (does by other (held_anew f s) (world w) (told z)))
      (ap (λ n. d.around (world w) n (value_of (values_anew f s.values) x)) (length-map s.values anew) ∙ ap (d.around (world w) (length s.values)) (value_of_anew s.values x) ∙ around_anew w (length s.values) v)
      ∙ branched _ _ _ _ (d.around w (length s.values) v)
      (λ b. ap (λ way. does by (go b.branch) (d.and_seen (held_anew f s) way (values_anew f b.values)) (world w) (told z)) (way_into_anew s x)
      ∙ ap (λ s. does by (go b.branch) s (world w) (told z)) (and_seen_anew s (way_into s x) b.values)
      ∙ row_anew by (go b.branch) (d.and_seen s (way_into s x) b.values) w z)
      (row_anew by other s w z)
    where
      branched : (F : d.Around → Done) (E : Done) (G : d.Around → Done) (D : Done) (o : Option d.Around) → ((b : d.Around) → F (around_so b) ≡ done_anew f (G b)) → E ≡ done_anew f D → d.with_branch (option_map around_so o) F E ≡ done_anew f (d.with_branch o G D)
      branched F E G D None g e = e
      branched F E G D (Some b) g e = g b
  row_anew by (r.touches t x k next) s w z =
      let is = d.touching by t (way_of s x) (value_of s.values x) k in
      let also = d.touching by t (way_of (held_anew f s) x) (value_of (values_anew f s.values) x) k in
      ap (λ l. does by next (held_anew f s) (world w) l)
      (behind f z is also (ap (λ l. d.touching by t l (value_of (values_anew f s.values) x) k) (way_of_anew s x) ∙ ap (λ v. d.touching by t (map (name_anew f) (way_of s x)) v k) (value_of_anew s.values x) ∙ touching_anew by t (way_of s x) (value_of s.values x) k))
      ∙ row_anew by next s w (z ++ is)

  -- a row that begins, by how many values it gets
  pub begun_anew : (by : ℕ) (q : ℕ → Row) (vs : List Value) (w : World) → does by (q (length (values_anew f vs))) (d.given (values_anew f vs)) (world w) [] ≡ done_anew f (does by (q (length vs)) (d.given vs) w [])
  begun_anew by q vs w =
      ap (λ n. does by (q n) (d.given (values_anew f vs)) (world w) []) (length-map vs anew) ∙ ap (λ ways. does by (q (length vs)) (held_so (values_anew f vs) ways) (world w) []) (ways_anew [] vs) ∙ row_anew by (q (length vs)) (d.given vs) w []
