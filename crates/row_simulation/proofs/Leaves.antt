-- What every row leaves in the world: the scopes, and the closures of each module, of which it makes none.
use Rattle.std.proofs.Common.{◌≡◌, ℕ, Bool, true, false, List, [], ◌∷◌, ◌++◌, length, Option, Some, None, Result, Ok, Err, cond, refl, sym, ap, ◌∙◌, subst}
use Rattle.std.specs.Prelude.{slice_get, map, nat_eq, nat_lt, ◌||◌}
use Rattle.std.proofs.lemmas.Option.{none-some}
use Rattle.plans.specs.Plans.{Fault}
use Rattle.cajita_tree.specs.Tree as c
use Rattle.rows.specs.Rows as r
use Rattle.rows.specs.Rows.{Row, Ending}
use Rattle.rows.specs.Public.{is_bad}
use Rattle.rows.specs.Document as doc
use Rattle.rows.specs.Document.{Node}
use Rattle.cajita_meaning.specs.World.{made_name, cell_name, own_name, facet_name, forward_name, Value, object, Pairs, Object, a_record, an_array, a_closure, an_error, World, with_object, with_made, with_value}
use Rattle.cajita_meaning.specs.Doing as direct
use Rattle.row_simulation.proofs.Changes.{by_number, cases_at, last_kept, made_there, made_other}

-- the scopes are the same ones, and the closures too
pub record Leaves (w v : World) : Type 0 where
  pub scopes : v.scopes ≡ w.scopes
  pub older : (m n : ℕ) (f : c.Tree c.func) (chain : List ℕ) → slice_get (v.objects m) n ≡ Some (a_closure f chain) → slice_get (w.objects m) n ≡ Some (a_closure f chain)
  pub closed : (m n : ℕ) (f : c.Tree c.func) (chain : List ℕ) → slice_get (w.objects m) n ≡ Some (a_closure f chain) → slice_get (v.objects m) n ≡ Some (a_closure f chain)

leaves_same : (w : World) → Leaves w w
leaves_same w = record { scopes = refl; older = λ m n f chain e. e; closed = λ m n f chain e. e }

-- an object that is no closure

record IsOther (o : Object) : Type 0 where
  other : (f : c.Tree c.func) (chain : List ℕ) → o ≡ a_closure f chain → ⊥

record_other : (frozen : Bool) (ps : Pairs) → IsOther (a_record frozen ps)
record_other frozen ps = record { other = λ f chain e. cc }

array_other : (frozen : Bool) (vs : List Value) → IsOther (an_array frozen vs)
array_other frozen vs = record { other = λ f chain e. cc }

error_other : (maker : r.Maker) (message : List ℕ) → IsOther (an_error maker message)
error_other maker message = record { other = λ f chain e. cc }

other_if : (b : Bool) (x y : Object) → IsOther x → IsOther y → IsOther (cond b x y)
other_if true x y p q = p
other_if false x y p q = q

some_other : (o x : Object) → (let p : Option Object = Some o in p) ≡ Some x → o ≡ x
some_other o x e = cc

-- a new one
leaves_object : (by : ℕ) (o : Object) (w : World) → IsOther o → Leaves w (with_object by o w)
leaves_object by o w new = record {
  scopes = refl;
  older = λ m n f chain e. was (nat_eq m by) m n f chain e;
  closed = λ m n f chain e. last_kept by m n o (a_closure f chain) w.objects e;
}
  where
    was : (b : Bool) (m n : ℕ) (f : c.Tree c.func) (chain : List ℕ) → slice_get (cond b (w.objects m ++ o ∷ []) (w.objects m)) n ≡ Some (a_closure f chain) → slice_get (w.objects m) n ≡ Some (a_closure f chain)
    was true m n f chain e = cases_at (w.objects m) o n (λ q. q ≡ Some (a_closure f chain) → slice_get (w.objects m) n ≡ Some (a_closure f chain)) (λ lt t. t) (λ at t. absurd (new.other f chain (some_other o (a_closure f chain) t))) (λ t. absurd (none-some (a_closure f chain) t)) e
    was false m n f chain e = e

-- a change that makes no closure, and leaves one

record IsSame (o o' : Object) : Type 0 where
  forth : (f : c.Tree c.func) (chain : List ℕ) → o ≡ a_closure f chain → o' ≡ a_closure f chain
  back : (f : c.Tree c.func) (chain : List ℕ) → o' ≡ a_closure f chain → o ≡ a_closure f chain

same_refl : (o : Object) → IsSame o o
same_refl o = record { forth = λ f chain e. e; back = λ f chain e. e }

same_other : (o o' : Object) → IsOther o → IsOther o' → IsSame o o'
same_other o o' p q = record { forth = λ f chain e. absurd (p.other f chain e); back = λ f chain e. absurd (q.other f chain e) }

key_same : (k : List ℕ) (v : Value) (o : Object) → IsSame o (direct.with_key k v o)
key_same k v (a_record frozen ps) = same_other _ _ (record_other frozen ps) (other_if (frozen || is_bad k) _ _ (record_other frozen ps) (record_other frozen (with_value k v ps)))
key_same k v o = same_refl o

drop_same : (k : List ℕ) (o : Object) → IsSame o (direct.without_key k o)
drop_same k (a_record frozen ps) = same_other _ _ (record_other frozen ps) (other_if (frozen || is_bad k) _ _ (record_other frozen ps) (record_other frozen (direct.dropped k ps)))
drop_same k o = same_refl o

items_same : (vs : List Value) (o : Object) → IsSame o (direct.with_items vs o)
items_same vs (an_array frozen ws) = same_other _ _ (array_other frozen ws) (other_if frozen _ _ (array_other frozen ws) (array_other frozen vs))
items_same vs o = same_refl o

frozen_same : (o : Object) → IsSame o (direct.as_frozen o)
frozen_same (a_record frozen ps) = same_other _ _ (record_other frozen ps) (record_other true ps)
frozen_same (an_array frozen vs) = same_other _ _ (array_other frozen vs) (array_other true vs)
frozen_same o = same_refl o

-- whether it is the one that changes
at_place : (a b m n : ℕ) (P : Type 0) → (a ≡ m → b ≡ n → P) → ((a ≡ m → b ≡ n → ⊥) → P) → P
at_place a b m n P here away = by_number a m P (λ x. by_number b n P (λ y. here x y) (λ ne. away (λ x y. ne y))) (λ ne. away (λ x y. ne x))

leaves_made : (w : World) (a b : ℕ) (o o' : Object) → slice_get (w.objects a) b ≡ Some o → IsSame o o' → Leaves w (with_made a b o' w)
leaves_made w a b o o' known same = record {
  scopes = refl;
  older = λ m n f chain e. at_place a b m n (slice_get (w.objects m) n ≡ Some (a_closure f chain))
      (λ x y. before m n x y ∙ ap (λ q. let p : Option Object = Some q in p) (same.back f chain (some_other o' (a_closure f chain) (sym (after m n x y) ∙ e))))
      (λ apart. sym (made_other w a b m n o' apart) ∙ e);
  closed = λ m n f chain e. at_place a b m n (slice_get ((with_made a b o' w).objects m) n ≡ Some (a_closure f chain))
      (λ x y. after m n x y ∙ ap (λ q. let p : Option Object = Some q in p) (same.forth f chain (some_other o (a_closure f chain) (sym (before m n x y) ∙ e))))
      (λ apart. made_other w a b m n o' apart ∙ e);
}
  where
    before : (m n : ℕ) → a ≡ m → b ≡ n → slice_get (w.objects m) n ≡ Some o
    before m n x y = subst (λ i. slice_get (w.objects i) n ≡ Some o) x (subst (λ j. slice_get (w.objects a) j ≡ Some o) y known)

    after : (m n : ℕ) → a ≡ m → b ≡ n → slice_get ((with_made a b o' w).objects m) n ≡ Some o'
    after m n x y = subst (λ i. slice_get ((with_made a b o' w).objects i) n ≡ Some o') x (subst (λ j. slice_get ((with_made a b o' w).objects a) j ≡ Some o') y (made_there w a b o o' known))

leaves_changed : (change : Object → Object) → ((o : Object) → IsSame o (change o)) → (v : Value) (w : World) → Leaves w (direct.changed change v w)
leaves_changed change same (object (made_name m i)) w = at (slice_get (w.objects m) i) refl
  where
    at : (o : Option Object) → slice_get (w.objects m) i ≡ o → Leaves w (direct.changed_object change m i o w)
    at None e = leaves_same w
    at (Some o) e = leaves_made w m i o (change o) e (same o)
leaves_changed change same v w = leaves_same w

-- the ends

long_leaves : (b : Bool) (d : direct.Done) (w : World) (z : List direct.Item) → Leaves w d.world → Leaves w (cond b d (direct.too_long w z)).world
long_leaves true d w z p = p
long_leaves false d w z p = leaves_same w

finish_leaves : (by : ℕ) (e : Ending) (s : direct.Held) (w : World) (z : List direct.Item) → Leaves w (direct.finish by e s w z).world
finish_leaves by (r.throws message) s w z = leaves_object by (an_error r.type_error message) w (error_other r.type_error message)
finish_leaves by (r.lists ks) s w z = long_leaves (nat_lt (length ks) r.most_items) _ w z (leaves_same w)
finish_leaves by (r.makes_array frozen xs) s w z = long_leaves (nat_lt (length xs) r.most_items) _ w z (leaves_object by (an_array frozen (map (direct.value_of s.values) xs)) w (array_other frozen (map (direct.value_of s.values) xs)))
finish_leaves by (r.copies_record frozen x) s w z = leaves_object by (a_record frozen (direct.pairs_of w (direct.value_of s.values x))) w (record_other frozen (direct.pairs_of w (direct.value_of s.values x)))
finish_leaves by (r.makes_error maker message) s w z = leaves_object by (an_error maker message) w (error_other maker message)
finish_leaves by (r.writes_key o k x) s w z = leaves_changed (direct.with_key k (direct.value_of s.values x)) (key_same k (direct.value_of s.values x)) (direct.value_of s.values o) w
finish_leaves by (r.drops_key o k) s w z = leaves_changed (direct.without_key k) (drop_same k) (direct.value_of s.values o) w
finish_leaves by (r.sets_items o xs x) s w z = long_leaves (nat_lt (length xs) r.most_items) _ w z (leaves_changed (direct.with_items (map (direct.value_of s.values) xs)) (items_same (map (direct.value_of s.values) xs)) (direct.value_of s.values o) w)
finish_leaves by (r.freezes o) s w z = leaves_changed direct.as_frozen frozen_same (direct.value_of s.values o) w
finish_leaves by e s w z = leaves_same w

-- what a page keeps beside its objects

-- the same objects and scopes
leaves_both : (w v : World) → v.objects ≡ w.objects → v.scopes ≡ w.scopes → Leaves w v
leaves_both w v objects scopes = record {
  scopes = scopes;
  older = λ m n f chain e. ap (λ l. slice_get (l m) n) (sym objects) ∙ e;
  closed = λ m n f chain e. ap (λ l. slice_get (l m) n) objects ∙ e;
}

keeping_leaves : (u v : Value) (w : World) → Leaves w (direct.keeping u v w)
keeping_leaves (object (cell_name k i)) v w = leaves_both w _ refl refl
keeping_leaves (object (forward_name m p k i)) v w = leaves_both w _ refl refl
keeping_leaves u v w = leaves_same w

queueing_leaves : (u v : Value) (w : World) → Leaves w (direct.queueing u v w)
queueing_leaves (object (own_name m i)) v w = leaves_both w _ refl refl
queueing_leaves u v w = leaves_same w

noding_leaves : (u : Value) (f : ℕ → List Node → List Node) (w : World) → Leaves w (direct.noding u f w)
noding_leaves (object (facet_name root k)) f w = leaves_both w _ refl refl
noding_leaves u f w = leaves_same w

listening_leaves : (u : Value) (us : List ℕ) (f : Value) (w : World) → Leaves w (direct.listening u us f w)
listening_leaves (object (facet_name root k)) us f w = leaves_both w _ refl refl
listening_leaves u us f w = leaves_same w

settle_leaves : (by : ℕ) (e : r.Settling) (s : direct.Held) (w : World) (z : List direct.Item) → Leaves w (direct.settle by e s w z).world
settle_leaves by (r.answers_kept x) s w z = leaves_same w
settle_leaves by (r.keeps x y) s w z = keeping_leaves (direct.value_of s.values x) (direct.value_of s.values y) w
settle_leaves by (r.says x us) s w z = leaves_same w
settle_leaves by (r.queues x f) s w z = queueing_leaves (direct.value_of s.values x) (direct.value_of s.values f) w
settle_leaves by (r.changes_node x k y) s w z = noding_leaves (direct.value_of s.values x) (doc.changed k) w
settle_leaves by (r.adds_node x o) s w z = noding_leaves (direct.value_of s.values x) (λ k ns. ns ++ o ∷ []) w
settle_leaves by (r.listens x us f) s w z = listening_leaves (direct.value_of s.values x) us (direct.value_of s.values f) w

-- a row

result_leaves : {A : Type 0} (a : Result A Fault) (w : World) (z : List direct.Item) (go : A → direct.Done) → ((x : A) → Leaves w (go x).world) → Leaves w (direct.with_result a w z go).world
result_leaves (Ok x) w z go f = f x
result_leaves (Err k) w z go f = leaves_same w

branch_leaves : (o : Option direct.Around) (w : World) (go : direct.Around → direct.Done) (other : direct.Done) → ((b : direct.Around) → Leaves w (go b).world) → Leaves w other.world → Leaves w (direct.with_branch o go other).world
branch_leaves None w go other f g = g
branch_leaves (Some b) w go other f g = f b

pub does_leaves : (by : ℕ) (q : Row) (s : direct.Held) (w : World) (z : List direct.Item) → Leaves w (direct.does by q s w z).world
does_leaves by (r.ends e) s w z = finish_leaves by e s w z
does_leaves by (r.settles e) s w z = settle_leaves by e s w z
does_leaves by (r.as_text x go) s w z = result_leaves (direct.text_of w (direct.value_of s.values x)) w z (λ us. direct.does by (go us) s w z) (λ us. does_leaves by (go us) s w z)
does_leaves by (r.as_number x go) s w z = result_leaves (direct.number_of w (direct.value_of s.values x)) w z (λ n. direct.does by (go n) s w z) (λ n. does_leaves by (go n) s w z)
does_leaves by (r.as_joined x sep go) s w z = result_leaves (direct.joined_of w (direct.value_of s.values x) sep) w z (λ us. direct.does by (go us) s w z) (λ us. does_leaves by (go us) s w z)
does_leaves by (r.as_same x y go) s w z = does_leaves by (go _) s w z
does_leaves by (r.looks x go) s w z = does_leaves by (go _) _ w z
does_leaves by (r.as_same_root x y go) s w z = does_leaves by (go _) s w z
does_leaves by (r.branches x go other) s w z = branch_leaves (direct.around w (length s.values) (direct.value_of s.values x)) w _ _ (λ b. does_leaves by (go b.branch) _ w z) (does_leaves by other s w z)
does_leaves by (r.touches t x k next) s w z = does_leaves by next s w _

pub does_scopes : (by : ℕ) (q : Row) (s : direct.Held) (w : World) (z : List direct.Item) → (direct.does by q s w z).world.scopes ≡ w.scopes
does_scopes by q s w z = (does_leaves by q s w z).scopes

-- the closures of modules are the same ones
pub does_older : (by : ℕ) (q : Row) (s : direct.Held) (w : World) (z : List direct.Item) (m n : ℕ) (f : c.Tree c.func) (chain : List ℕ) → slice_get ((direct.does by q s w z).world.objects m) n ≡ Some (a_closure f chain) → slice_get (w.objects m) n ≡ Some (a_closure f chain)
does_older by q s w z m n f chain e = (does_leaves by q s w z).older m n f chain e

pub does_closed : (by : ℕ) (q : Row) (s : direct.Held) (w : World) (z : List direct.Item) (m n : ℕ) (f : c.Tree c.func) (chain : List ℕ) → slice_get (w.objects m) n ≡ Some (a_closure f chain) → slice_get ((direct.does by q s w z).world.objects m) n ≡ Some (a_closure f chain)
does_closed by q s w z m n f chain e = (does_leaves by q s w z).closed m n f chain e
