-- Whatever a row is: what it hands on is had, and what it reads is told as got before.
use Rattle.std.proofs.Common.{◌≡◌, ℕ, zero, suc, Bool, true, false, List, [], ◌∷◌, ◌++◌, Option, Some, None, refl, sym, ap, ◌∙◌, subst}
use Rattle.std.specs.Prelude.{nat_eq, nat_lt, if◌then◌else◌, slice_get, slice_set, length, map, Result, Ok, Err}
use Rattle.std.proofs.lemmas.List.{append-nil, append_assoc, length-set}
use Rattle.plans.specs.Plans.{Fault}
use Rattle.acts.specs.Laws.{All}
use Rattle.acts.proofs.Keeps.{all_append}
use Rattle.rows.specs.Rows as r
use Rattle.rows.specs.Rows.{Handle, Native, Ending, Row}
use Rattle.rows.specs.Names.{is_of_text}
use Rattle.rows.specs.Document as doc
use Rattle.rows.specs.Document.{Node, Change}
use Rattle.cajita_meaning.specs.World as W
use Rattle.cajita_meaning.specs.World.{Name, Value, undefined, object, text, made_name, cell_name, own_name, built_name, facet_name, forward_name, Object, World}
use Rattle.cajita_meaning.specs.Doing as d
use Rattle.cajita_meaning.specs.Doing.{Item, got, touched, passed, said, Held, Done, Outcome, given, value_of, way_of, names_of, method_value, way_into, got_along, got_from, got_one, got_all, got_values, finish, does}
use Rattle.cajita_laws.specs.Reach.{IsIn, Had, have, Known, Waits, IsMore, Invariant, HaveTextMethods}
use Rattle.cajita_laws.proofs.Had.{gain_new, have_keeps, no_more, more_behind, more_onward, known_more, in_noted}
use Rattle.cajita_laws.proofs.Invariant.{noted, item_told, object_made, made_known, queue_changed, elsewhere_changed}

-- pairs of lists, item by item
abbrev pub Both : {A B : Type 0} → (A → B → Type 0) → List A → List B → Type 0
Both P [] [] = Unit {0}
Both P (a ∷ xs) (b ∷ ys) = P a b × Both P xs ys
Both P xs ys = ⊥

-- what holds of both lists, of each more, of one for all
pub both_append : {A B : Type 0} (P : A → B → Type 0) (xs xs' : List A) (ys ys' : List B) → Both P xs ys → Both P xs' ys' → Both P (xs ++ xs') (ys ++ ys')
both_append P [] xs' [] ys' h g = g
both_append P [] xs' (b ∷ ys) ys' h g = absurd h
both_append P (a ∷ xs) xs' [] ys' h g = absurd h
both_append P (a ∷ xs) xs' (b ∷ ys) ys' h g = (h.0, both_append P xs xs' ys ys' h.1 g)

pub both_map : {A B : Type 0} (P Q : A → B → Type 0) → ((a : A) (b : B) → P a b → Q a b) → (xs : List A) (ys : List B) → Both P xs ys → Both Q xs ys
both_map P Q f [] [] h = tt
both_map P Q f [] (b ∷ ys) h = absurd h
both_map P Q f (a ∷ xs) [] h = absurd h
both_map P Q f (a ∷ xs) (b ∷ ys) h = (f a b h.0, both_map P Q f xs ys h.1)

pub both_one : {A B : Type 0} (P : A → B → Type 0) (b : B) → ((a : A) → P a b) → (xs : List A) → Both P xs (map (λ a. b) xs)
both_one P b f [] = tt
both_one P b f (a ∷ xs) = (f a, both_one P b f xs)

pub both_all : {A B : Type 0} (P : A → B → Type 0) (b : B) (xs : List A) → All (λ a. P a b) xs → Both P xs (map (λ a. b) xs)
both_all P b [] h = tt
both_all P b (a ∷ xs) h = (h.0, both_all P b xs h.1)

-- the value of a number that nothing has is undefined, and was given
pub both_at : (P : Value → List Name → Type 0) → P undefined [] → (vs : List Value) (ws : List (List Name)) (n : ℕ) → Both P vs ws → P (d.or_nothing (slice_get vs n)) (d.or_given (slice_get ws n))
both_at P u [] [] n h = u
both_at P u [] (w ∷ ws) n h = absurd h
both_at P u (v ∷ vs) [] n h = absurd h
both_at P u (v ∷ vs) (w ∷ ws) zero h = h.0
both_at P u (v ∷ vs) (w ∷ ws) (suc n) h = both_at P u vs ws n h.1

module _ (had : Had) (methods : HaveTextMethods had) (m : ℕ) where
  -- a value that is seen in another one lies on a way that begins with what is had; one that was given is had itself
  abbrev pub OnWay : List Item → Value → List Name → Type 0
  OnWay z v [] = Known had z m v
  OnWay z v (h ∷ way) = IsIn h (have had z m)

  -- each value that a row holds lies on its way
  abbrev pub Handed : List Item → Held → Type 0
  Handed z s = Both (OnWay z) s.values s.ways

  -- it still does when more was told
  way_more : (a b : List Item) → IsMore a b → (v : Value) (way : List Name) → OnWay a v way → OnWay b v way
  way_more a b l v [] h = known_more had a b m v l h
  way_more a b l v (n ∷ way) h = known_more had a b m (object n) l h

  handed_more : (a b : List Item) → IsMore a b → (s : Held) → Handed a s → Handed b s
  handed_more a b l s h = both_map (OnWay a) (OnWay b) (λ v way. way_more a b l v way) s.values s.ways h

  -- a method lies on the way into what it is read out of
  method_on : (z : List Item) (way : List Name) (v : Value) (f : Native) → OnWay z v way → OnWay z (method_value v f) (way ++ names_of v)
  method_on z (h ∷ way) v f p = p
  method_on z [] (object o) f p = p
  method_on z [] (text us) f p = of_text (is_of_text f) refl
    where
      of_text : (b : Bool) → is_of_text f ≡ b → Known had z m (if b then object (built_name f) else undefined)
      of_text true is = have_keeps z had m (built_name f) (methods m f is)
      of_text false is = tt
  method_on z [] q f p = tt

  -- the value of each handle lies on its way
  on_way : (z : List Item) (s : Held) → Handed z s → (x : Handle) → OnWay z (value_of s.values x) (way_of s x)
  on_way z s h (r.method_of x f) = method_on z (way_of s x) (value_of s.values x) f (on_way z s h x)
  on_way z s h (r.held n) = both_at (OnWay z) tt s.values s.ways n h
  on_way z s h x = tt

  -- what is in an object lies on the way to it
  into : (z : List Item) (way : List Name) (o : Name) (u : Value) → OnWay z (object o) way → OnWay z u (way ++ o ∷ [])
  into z [] o u h = h
  into z (n ∷ way) o u h = h

  -- so does all that is seen in a value, and what a cell keeps
  seen_in : (z : List Item) (w : World) (n : ℕ) (way : List Name) (v : Value) → OnWay z v way → Both (OnWay z) (d.see w n v).values (map (λ u. way ++ names_of v) (d.see w n v).values)
  seen_in z w n way (object o) h = both_one (OnWay z) (way ++ o ∷ []) (λ u. into z way o u h) (d.see_object w n o).values
  seen_in z w n way p h = tt

  kept_on : (z : List Item) (w : World) (way : List Name) (v : Value) → OnWay z v way → OnWay z (d.kept_in v w) (way ++ names_of v)
  kept_on z w (n ∷ way) v h = h
  kept_on z w [] (object o) h = h
  kept_on z w [] p h = tt

  -- telling

  -- what is told along a way lies in what is had, and its end is had then
  along_kept : (way : List Name) (o : Name) (w : World) (z : List Item) → Invariant had w z → OnWay z (object o) way → Invariant had w (z ++ got_along m way o) × IsIn o (have had (z ++ got_along m way o) m)
  along_kept [] o w z i h = subst (λ y. Invariant had w y × IsIn o (have had y m)) (sym (append-nil z)) (i, h)
  along_kept (n ∷ []) o w z i h = (item_told had (got m n o) tt i h, in_noted had z (got m n o) m o (gain_new m o (have had z)))
  along_kept (n ∷ k ∷ way) o w z i h =
      subst (λ y. Invariant had w y × IsIn o (have had y m)) (append_assoc z (got m n k ∷ []) (got_along m (k ∷ way) o))
      (along_kept (k ∷ way) o w (noted (got m n k) z) (item_told had (got m n k) tt i h) (in_noted had z (got m n k) m k (gain_new m k (have had z))))

  -- a value is got along its way
  from_kept : (way : List Name) (v : Value) (w : World) (z : List Item) → Invariant had w z → OnWay z v way → Invariant had w (z ++ got_from m way v) × Known had (z ++ got_from m way v) m v
  from_kept way (object o) w z i h = along_kept way o w z i h
  from_kept way p w z i h = (subst (Invariant had w) (sym (append-nil z)) i, tt)

  -- so are several
  all_kept : (s : Held) (xs : List Handle) (w : World) (z : List Item) → Invariant had w z → Handed z s → Invariant had w (z ++ got_all m s xs) × All (Known had (z ++ got_all m s xs) m) (map (value_of s.values) xs)
  all_kept s [] w z i h = (subst (Invariant had w) (sym (append-nil z)) i, tt)
  all_kept s (x ∷ xs) w z i h =
      let y = z ++ got_one m s x in
      let first = from_kept (way_of s x) (value_of s.values x) w z i (on_way z s h x) in
      let rest = all_kept s xs w y first.0 (handed_more z y (more_behind z (got_one m s x)) s h) in
      subst (λ q. Invariant had w q × (Known had q m (value_of s.values x) × All (Known had q m) (map (value_of s.values) xs))) (append_assoc z (got_one m s x) (got_all m s xs))
      (rest.0, (known_more had y (y ++ got_all m s xs) m (value_of s.values x) (more_behind y (got_all m s xs)) first.1, rest.1))

  -- and all values of a record that is copied
  values_kept : (way : List Name) (vs : List Value) (w : World) (z : List Item) → Invariant had w z → ((y : List Item) → IsMore z y → (v : Value) → OnWay y v way) → Invariant had w (z ++ got_values m way vs)
  values_kept way [] w z i h = subst (Invariant had w) (sym (append-nil z)) i
  values_kept way (v ∷ vs) w z i h =
      subst (Invariant had w) (append_assoc z (got_from m way v) (got_values m way vs))
      (values_kept way vs w (z ++ got_from m way v) (from_kept way v w z i (h z (no_more z) v)).0 (λ y k u. h y (more_onward z (z ++ got_from m way v) y (more_behind z (got_from m way v)) k) u))

  pairs_kept : (w : World) (z : List Item) (way : List Name) (v : Value) → Invariant had w z → OnWay z v way → Invariant had w (z ++ got_values m (way ++ names_of v) (map (λ p. p.1) (d.pairs_of w v)))
  pairs_kept w z way (object o) i h = values_kept (way ++ o ∷ []) (map (λ p. p.1) (d.object_pairs w o)) w z i (λ y l v. into y way o v (way_more z y l (object o) way h))
  pairs_kept w z way p i h = subst (Invariant had w) (sym (append-nil z)) i

  -- changes of the world

  -- another object in the place of one leaves the count
  counted_changed : (k : ℕ) (n : ℕ) (o : Object) (w : World) (j : ℕ) (b : Bool) → nat_eq j k ≡ b → length (w.objects j) ≡ length (if b then slice_set (w.objects k) n o else w.objects j)
  counted_changed k n o w j true is = ap (λ i. length (w.objects i)) (Rattle.std.proofs.lemmas.Bool.eqb-true j k is) ∙ sym (length-set (w.objects k) n o)
  counted_changed k n o w j false is = refl

  changed_kept : (f : Object → Object) (v : Value) (w : World) (z : List Item) → Invariant had w z → Invariant had (d.changed f v w) z
  changed_kept f (object (made_name k n)) w z i = at (slice_get (w.objects k) n)
    where
      at : (o : Option Object) → Invariant had (d.changed_object f k n o w) z
      at None = i
      at (Some o) = record { names = record { numbered = i.names.numbered; counts = λ j. i.names.counts j ∙ counted_changed k n (f o) w j (nat_eq j k) refl }; reached = i.reached; scopes = i.scopes; queues = i.queues }
  changed_kept f p w z i = i

  -- the page's own state holds nothing that the invariant speaks of
  keeping_kept : (v u : Value) (w : World) (z : List Item) → Invariant had w z → Invariant had (d.keeping v u w) z
  keeping_kept (object (cell_name c j)) u w z i = elsewhere_changed had refl refl refl i
  keeping_kept (object (forward_name k p c j)) u w z i = elsewhere_changed had refl refl refl i
  keeping_kept p u w z i = i

  -- what is put behind a queue goes to its module, but for what a module made
  last_waits : (k : ℕ) (u : Value) (w : World) (z : List Item) → Invariant had w z → Waits had z k u → Invariant had (W.with_queue k (w.queues k ++ u ∷ []) w) z
  last_waits k u w z i h = queue_changed had k (w.queues k ++ u ∷ []) i (all_append (Waits had z k) (w.queues k) (u ∷ []) (i.queues k) (h, tt))

  -- what a module has may wait for it
  pub known_waits : (z : List Item) (k : ℕ) (v : Value) → Known had z k v → Waits had z k v
  known_waits z k (object (made_name j n)) h = tt
  known_waits z k v h = h

  passed_waits : (k : ℕ) (way : List Name) (o : Name) (w : World) (z : List Item) → Invariant had w z → OnWay z (object o) way → Invariant had (W.with_queue k (w.queues k ++ object o ∷ []) w) (z ++ (got_along m way o ++ passed m k o ∷ []))
  passed_waits k way o w z i h =
      let y = z ++ got_along m way o in
      let g = along_kept way o w z i h in
      let t = passed m k o in
      subst (Invariant had (W.with_queue k (w.queues k ++ object o ∷ []) w)) (append_assoc z (got_along m way o) (t ∷ []))
      (last_waits k (object o) w (noted t y) (item_told had t tt g.0 g.1) (known_waits (noted t y) k (object o) (in_noted had y t k o (gain_new k o (have had y)))))

  waiting_kept : (k : ℕ) (way : List Name) (u : Value) (w : World) (z : List Item) → Invariant had w z → OnWay z u way → Invariant had (W.with_queue k (w.queues k ++ u ∷ []) w) (z ++ d.to_wait m k way u)
  waiting_kept k way (object (made_name j n)) w z i h = subst (Invariant had (W.with_queue k (w.queues k ++ object (made_name j n) ∷ []) w)) (sym (append-nil z)) (last_waits k (object (made_name j n)) w z i tt)
  waiting_kept k way (object o) w z i h = passed_waits k way o w z i h
  waiting_kept k way u w z i h = subst (Invariant had (W.with_queue k (w.queues k ++ u ∷ []) w)) (sym (append-nil z)) (last_waits k u w z i tt)

  queueing_kept : (v : Value) (way : List Name) (u : Value) (w : World) (z : List Item) → Invariant had w z → OnWay z u way → Invariant had (d.queueing v u w) (z ++ d.handing_over m v way u)
  queueing_kept (object (own_name k j)) way u w z i h = waiting_kept k way u w z i h
  queueing_kept p way u w z i h = subst (Invariant had w) (sym (append-nil z)) i

  saying_kept : (v : Value) (us : List ℕ) (w : World) (z : List Item) → Invariant had w z → Invariant had w (z ++ d.saying v us)
  saying_kept (object (own_name k j)) us w z i = item_told had (said k us) tt i tt
  saying_kept p us w z i = subst (Invariant had w) (sym (append-nil z)) i

  noding_kept : (v : Value) (f : ℕ → List Node → List Node) (w : World) (z : List Item) → Invariant had w z → Invariant had (d.noding v f w) z
  noding_kept (object (facet_name root e)) f w z i = elsewhere_changed had refl refl refl i
  noding_kept p f w z i = i

  listening_kept : (v : Value) (us : List ℕ) (f : Value) (w : World) (z : List Item) → Invariant had w z → Invariant had (d.listening v us f w) z
  listening_kept (object (facet_name root e)) us f w z i = elsewhere_changed had refl refl refl i
  listening_kept p us f w z i = i

  node_told_kept : (v : Value) (c : Change) (w : World) (z : List Item) → Invariant had w z → Invariant had w (z ++ d.node_told v c)
  node_told_kept (object (facet_name root e)) c w z i = item_told had (d.changed_node root e c) tt i tt
  node_told_kept p c w z i = subst (Invariant had w) (sym (append-nil z)) i

  -- a new node is a facet of one that is had
  new_on : (z : List Item) (w : World) (way : List Name) (v : Value) → OnWay z v way → OnWay z (d.new_node v w) (way ++ names_of v)
  new_on z w (n ∷ way) v h = h
  new_on z w [] (object o) h = h
  new_on z w [] p h = tt

  -- what is touched is had
  touching_kept : (t : r.Touch) (way : List Name) (v : Value) (k : List (List ℕ)) (w : World) (z : List Item) → Invariant had w z → OnWay z v way → Invariant had w (z ++ d.touching m t way v k)
  touching_kept t way (object o) k w z i h =
      let g = along_kept way o w z i h in
      subst (Invariant had w) (append_assoc z (got_along m way o) (touched m t o k ∷ [])) (item_told had (touched m t o k) tt g.0 g.1)
  touching_kept t way p k w z i h = subst (Invariant had w) (sym (append-nil z)) i

  -- the ends; z was told before the row began, and y by the row

  -- the module has what a row ended with
  abbrev pub Gained : List Item → Outcome → Type 0
  Gained z (d.gives v) = Known had z m v
  Gained z (d.throws v) = Known had z m v
  Gained z (d.stops f) = Unit {0}
  Gained z (d.lists ks) = Unit {0}
  Gained z (d.calls recorded f t vs) = All (Known had z m) (f ∷ t ∷ vs)

  pub record IsReached (z : List Item) (e : Done) : Type 0 where
    pub inv : Invariant had e.world (z ++ e.items)
    pub gained : Gained (z ++ e.items) e.outcome

  -- what is told behind y
  behind : (w : World) (z y is : List Item) (o : Outcome) → Invariant had w ((z ++ y) ++ is) → Gained ((z ++ y) ++ is) o → IsReached z (record { outcome = o; world = w; items = y ++ is })
  behind w z y is o i g = record { inv = subst (Invariant had w) (append_assoc z y is) i; gained = subst (λ q. Gained q o) (append_assoc z y is) g }

  -- what is answered is got first
  answered_reached : (x : Handle) (s : Held) (w : World) (z y : List Item) → Invariant had w (z ++ y) → Handed (z ++ y) s → IsReached z (d.answered m x s w y)
  answered_reached x s w z y i h =
      let g = from_kept (way_of s x) (value_of s.values x) w (z ++ y) i (on_way (z ++ y) s h x) in
      behind w z y (got_one m s x) (d.gives (value_of s.values x)) g.0 g.1

  -- a new object is had
  made_reached : (o : Object) (w : World) (z y : List Item) (give : Value → Outcome) → ((q : List Item) (v : Value) → Known had q m v → Gained q (give v)) → Invariant had w (z ++ y) → IsReached z (d.makes give m o w y)
  made_reached o w z y give f i =
      let n = W.next_name m w in
      behind (W.with_object m o w) z y (d.made m n ∷ []) (give (object n)) (object_made had o m i) (f (noted (d.made m n) (z ++ y)) (object n) (made_known had w (z ++ y) m))

  given_made : (q : List Item) (v : Value) → Known had q m v → Known had q m v
  given_made q v h = h

  -- an array may be too long
  long : (b : Bool) (e : Done) (w : World) (z y : List Item) → Invariant had w (z ++ y) → IsReached z e → IsReached z (if b then e else d.too_long w y)
  long true e w z y i g = g
  long false e w z y i g = record { inv = i; gained = tt }

  -- each end among objects
  finish_reached : (e : Ending) (s : Held) (w : World) (z y : List Item) → Invariant had w (z ++ y) → Handed (z ++ y) s → IsReached z (finish m e s w y)
  finish_reached (r.answers x) s w z y i h = answered_reached x s w z y i h
  finish_reached (r.throws message) s w z y i h = made_reached (W.an_error r.type_error message) w z y d.throws given_made i
  finish_reached (r.faults f) s w z y i h = record { inv = i; gained = tt }
  finish_reached (r.lists ks) s w z y i h = long (nat_lt (length ks) r.most_items) _ w z y i (record { inv = i; gained = tt })
  finish_reached (r.calls recorded f t xs) s w z y i h =
      let g = all_kept s (f ∷ t ∷ xs) w (z ++ y) i h in
      behind w z y (got_all m s (f ∷ t ∷ xs)) (d.calls recorded (value_of s.values f) (value_of s.values t) (map (value_of s.values) xs)) g.0 g.1
  finish_reached (r.makes_array frozen xs) s w z y i h =
      long (nat_lt (length xs) r.most_items) _ w z y i
      (made_reached (W.an_array frozen (map (value_of s.values) xs)) w z (y ++ got_all m s xs) d.gives given_made (subst (Invariant had w) (append_assoc z y (got_all m s xs)) (all_kept s xs w (z ++ y) i h).0))
  finish_reached (r.copies_record frozen x) s w z y i h =
      let ps = d.pairs_of w (value_of s.values x) in
      made_reached (W.a_record frozen ps) w z (y ++ got_values m (way_into s x) (map (λ p. p.1) ps)) d.gives given_made
      (subst (Invariant had w) (append_assoc z y (got_values m (way_into s x) (map (λ p. p.1) ps))) (pairs_kept w (z ++ y) (way_of s x) (value_of s.values x) i (on_way (z ++ y) s h x)))
  finish_reached (r.makes_error maker message) s w z y i h = made_reached (W.an_error maker message) w z y d.gives given_made i
  finish_reached (r.reads_key o k x) s w z y i h = answered_reached x s w z y i h
  finish_reached (r.writes_key o k x) s w z y i h = answered_reached x s (d.changed (d.with_key k (value_of s.values x)) (value_of s.values o) w) z y (changed_kept (d.with_key k (value_of s.values x)) (value_of s.values o) w (z ++ y) i) h
  finish_reached (r.drops_key o k) s w z y i h = record { inv = changed_kept (d.without_key k) (value_of s.values o) w (z ++ y) i; gained = tt }
  finish_reached (r.sets_items o xs x) s w z y i h =
      let f = d.with_items (map (value_of s.values) xs) in
      long (nat_lt (length xs) r.most_items) _ w z y i (answered_reached x s (d.changed f (value_of s.values o) w) z y (changed_kept f (value_of s.values o) w (z ++ y) i) h)
  finish_reached (r.freezes o) s w z y i h = answered_reached o s (d.changed d.as_frozen (value_of s.values o) w) z y (changed_kept d.as_frozen (value_of s.values o) w (z ++ y) i) h

  -- each end in the page's own state
  settle_reached : (e : r.Settling) (s : Held) (w : World) (z y : List Item) → Invariant had w (z ++ y) → Handed (z ++ y) s → IsReached z (d.settle m e s w y)
  settle_reached (r.answers_kept x) s w z y i h =
      let v = d.kept_in (value_of s.values x) w in
      let g = from_kept (way_into s x) v w (z ++ y) i (kept_on (z ++ y) w (way_of s x) (value_of s.values x) (on_way (z ++ y) s h x)) in
      behind w z y (got_from m (way_into s x) v) (d.gives v) g.0 g.1
  settle_reached (r.keeps x v) s w z y i h = record { inv = keeping_kept (value_of s.values x) (value_of s.values v) w (z ++ y) i; gained = tt }
  settle_reached (r.says x us) s w z y i h = behind w z y (d.saying (value_of s.values x) us) (d.gives undefined) (saying_kept (value_of s.values x) us w (z ++ y) i) tt
  settle_reached (r.queues x f) s w z y i h =
      let v = value_of s.values x in
      let u = value_of s.values f in
      behind (d.queueing v u w) z y (d.handing_over m v (way_of s f) u) (d.gives undefined) (queueing_kept v (way_of s f) u w (z ++ y) i (on_way (z ++ y) s h f)) tt
  settle_reached (r.changes_node x c a) s w z y i h =
      let v = value_of s.values x in
      let is = d.node_told v c in
      let told = subst (Invariant had w) (append_assoc z y is) (node_told_kept v c w (z ++ y) i) in
      answered_reached a s (d.noding v (doc.changed c) w) z (y ++ is) (noding_kept v (doc.changed c) w (z ++ (y ++ is)) told) (handed_more (z ++ y) (z ++ (y ++ is)) (record { rest = is; is = sym (append_assoc z y is) }) s h)
  settle_reached (r.adds_node x o) s w z y i h =
      let v = value_of s.values x in
      let f = λ (k : ℕ) (ns : List Node). ns ++ o ∷ [] in
      let n = d.new_node v w in
      let g = from_kept (way_into s x) n (d.noding v f w) (z ++ y) (noding_kept v f w (z ++ y) i) (new_on (z ++ y) w (way_of s x) v (on_way (z ++ y) s h x)) in
      behind (d.noding v f w) z y (got_from m (way_into s x) n) (d.gives n) g.0 g.1
  settle_reached (r.listens x us f) s w z y i h = record { inv = listening_kept (value_of s.values x) us (value_of s.values f) w (z ++ y) i; gained = tt }

  -- a conversion gives something, or faults
  converted : {A : Type 0} (c : Result A Fault) (w : World) (z y : List Item) (go : A → Done) → Invariant had w (z ++ y) → ((a : A) → IsReached z (go a)) → IsReached z (d.with_result c w y go)
  converted (Ok a) w z y go i h = h a
  converted (Err f) w z y go i h = record { inv = i; gained = tt }

  -- a node gives those around it, which lie on the way into it
  around_reached : (n : ℕ) (way : List Name) (v : Value) (w : World) (z y : List Item) (go : d.Around → Done) (other : Done) → OnWay (z ++ y) v way
      → ((b : d.Around) → Both (OnWay (z ++ y)) b.values (map (λ u. way ++ names_of v) b.values) → IsReached z (go b)) → IsReached z other → IsReached z (d.with_branch (d.around w n v) go other)
  around_reached n way (object (facet_name root k)) w z y go other h f g = f _ (both_one (OnWay (z ++ y)) (way ++ facet_name root k ∷ []) (λ u. into (z ++ y) way (facet_name root k) u h) _)
  around_reached n way v w z y go other h f g = g

  -- every row
  pub row_reached : (q : Row) (s : Held) (w : World) (z y : List Item) → Invariant had w (z ++ y) → Handed (z ++ y) s → IsReached z (does m q s w y)
  row_reached (r.ends e) s w z y i h = finish_reached e s w z y i h
  row_reached (r.settles e) s w z y i h = settle_reached e s w z y i h
  row_reached (r.as_text x go) s w z y i h = converted (d.text_of w (value_of s.values x)) w z y (λ us. does m (go us) s w y) i (λ us. row_reached (go us) s w z y i h)
  row_reached (r.as_number x go) s w z y i h = converted (d.number_of w (value_of s.values x)) w z y (λ n. does m (go n) s w y) i (λ n. row_reached (go n) s w z y i h)
  row_reached (r.as_joined x sep go) s w z y i h = converted (d.joined_of w (value_of s.values x) sep) w z y (λ us. does m (go us) s w y) i (λ us. row_reached (go us) s w z y i h)
  row_reached (r.as_same x v go) s w z y i h = row_reached (go (d.strictly_equal (value_of s.values x) (value_of s.values v))) s w z y i h
  row_reached (r.as_same_root x v go) s w z y i h = row_reached (go (d.same_root (value_of s.values x) (value_of s.values v))) s w z y i h
  row_reached (r.looks x go) s w z y i h =
      let seen = d.see w (length s.values) (value_of s.values x) in
      row_reached (go seen.sight) (d.and_seen s (way_into s x) seen.values) w z y i
      (both_append (OnWay (z ++ y)) s.values seen.values s.ways (map (λ u. way_into s x) seen.values) h (seen_in (z ++ y) w (length s.values) (way_of s x) (value_of s.values x) (on_way (z ++ y) s h x)))
  row_reached (r.branches x go other) s w z y i h =
      around_reached (length s.values) (way_of s x) (value_of s.values x) w z y _ _ (on_way (z ++ y) s h x)
      (λ b l. row_reached (go b.branch) (d.and_seen s (way_into s x) b.values) w z y i (both_append (OnWay (z ++ y)) s.values b.values s.ways (map (λ u. way_into s x) b.values) h l))
      (row_reached other s w z y i h)
  row_reached (r.touches t x k next) s w z y i h =
      let is = d.touching m t (way_of s x) (value_of s.values x) k in
      row_reached next s w z (y ++ is) (subst (Invariant had w) (append_assoc z y is) (touching_kept t (way_of s x) (value_of s.values x) k w (z ++ y) i (on_way (z ++ y) s h x)))
      (handed_more (z ++ y) (z ++ (y ++ is)) (record { rest = is; is = sym (append_assoc z y is) }) s h)

  -- a row that begins, with values that are had
  pub row_begun : (q : Row) (vs : List Value) (w : World) (z : List Item) → Invariant had w z → All (Known had z m) vs → IsReached z (does m q (given vs) w [])
  row_begun q vs w z i h = row_reached q (given vs) w z [] (subst (Invariant had w) (sym (append-nil z)) i) (subst (λ y. Both (OnWay y) vs (map (λ v. []) vs)) (sym (append-nil z)) (both_all (OnWay z) [] vs h))
