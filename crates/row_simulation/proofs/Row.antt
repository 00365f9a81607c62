-- What persists where a row ends: values in hand, what is told, and what the page keeps.
use Rattle.std.proofs.Common.{◌≡◌, ℕ, zero, suc, Bool, true, false, List, [], ◌∷◌, ◌++◌, length, Option, Some, None, cond, refl, sym, ap, ◌∙◌, subst, arith}
use Rattle.std.specs.Prelude.{slice_get, map, ℤ, nat_eq, nat_lt}
use Rattle.std.specs.Cmp.Lexicographic.{same_text}
use Rattle.std.proofs.lemmas.Bool.Decides.{nat_tests}
use Rattle.page_deeds.specs.Shown.{end_renamed}
use Rattle.caja_units.specs.Units.{same_units}
use Rattle.es3_objects.specs.declared.value.Value.TheVariants as es
use Rattle.es3_objects.specs.declared.value.Tag.{Tag}
use Rattle.es3_objects.specs.declared.value.Tag.TheVariants as tag
use Rattle.es3_heap.specs.Objects as heap
use Rattle.es3_heap.specs.Objects.{Objects}
use Rattle.es3_objects.proofs.Keys.{same_key-refl}
use Rattle.es3_convert.specs.Comparisons.{strictly_equal}
use Rattle.rows.specs.Rows as r
use Rattle.rows.specs.Rows.{Ending, Handle, Native}
use Rattle.rows.specs.Names.{is_of_text, code_of}
use Rattle.cajita_meaning.specs.World.{Name, made_name, cell_name, own_name, built_name, tools_name, facet_name, forward_name, name_code, Value, undefined, null, truth, number, text, object, Object, Handler, World}
use Rattle.cajita_meaning.specs.Doing as direct
use Rattle.heap_rows.specs.Natives.{is_common, tag_of_code}
use Rattle.heap_rows.specs.Doing as es3
use Rattle.row_simulation.specs.Among.{IsHandleAmong, AreHandlesAmong}
use Rattle.row_simulation.proofs.Keys.{not_true}
use Rattle.row_simulation.proofs.Names.{among, same_tag, same_code, name_there}
use Rattle.row_simulation.proofs.Relation.{EsValue, tag_of_name, Named, Val, Vals, ObjectsAre, Keeps, NoNewNode, val_keep, vals_keep}
pub use Rattle.row_simulation.specs.RowLaw.{ReplyIs, shown, DoneIs, EndIs, Conversions, EndLaw, HandlersAre, PagesAre, CameIs}

-- values that correspond, by their kinds
pub by_value : (h : Objects) (P : Value → EsValue → Type 0) → P undefined es.Undefined → P null es.Null → ((a : Bool) → P (truth a) (es.Bool a)) → ((n : ℤ) → P (number n) (es.Num n)) → ((us : List ℕ) → P (text us) (es.Text us)) → ((n : Name) (i : ℕ) → Named h n i → P (object n) (es.Obj i)) → (v : Value) (e : EsValue) → Val h v e → P v e
by_value h P a b c d f g undefined es.Undefined p = a
by_value h P a b c d f g null es.Null p = b
by_value h P a b c d f g (truth x) (es.Bool y) p = subst (λ z. P (truth x) (es.Bool z)) p (c x)
by_value h P a b c d f g (number x) (es.Num y) p = subst (λ z. P (number x) (es.Num z)) p (d x)
by_value h P a b c d f g (text x) (es.Text y) p = subst (λ z. P (text x) (es.Text z)) p (f x)
by_value h P a b c d f g (object n) (es.Obj i) p = g n i p
by_value h P a b c d f g _ _ p = absurd p

pub shown-append : (a b : List direct.Item) → shown (a ++ b) ≡ shown a ++ shown b
shown-append [] b = refl
shown-append (direct.touched m t n k ∷ a) b = ap (λ l. es3.touched m t (tag_of_name n) k ∷ l) (shown-append a b)
shown-append (direct.said m us ∷ a) b = ap (λ l. es3.said m us ∷ l) (shown-append a b)
shown-append (direct.changed_node root k c ∷ a) b = ap (λ l. es3.changed_node root k c ∷ l) (shown-append a b)
shown-append (direct.ended l e ∷ a) b = ap (λ x. es3.ended l (end_renamed tag_of_name e) ∷ x) (shown-append a b)
shown-append (i ∷ a) b = shown-append a b

pub keeps_refl : {h : Objects} → Keeps h h
keeps_refl = record { named = λ n i p. p; bare = λ i lt e k. refl; plain = λ i lt e k. (e, k); functions = λ i lt e. refl; long = omega arith; counted = λ m. omega arith; older = λ m k i t lt. t }

pub keeps_trans : {a b c : Objects} → Keeps a b → Keeps b c → Keeps a c
keeps_trans p q = record {
  named = λ n i t. q.named n i (p.named n i t);
  bare = λ i lt e k. q.bare i (omega (arith, lt, p.long)) (ap heap.tag_of (p.bare i lt e k) ∙ e) (ap heap.class_of (p.bare i lt e k) ∙ k) ∙ p.bare i lt e k;
  plain = λ i lt e k. let o = p.plain i lt e k in q.plain i (omega (arith, lt, p.long)) o.0 o.1;
  functions = λ i lt e. q.functions i (omega (arith, lt, p.long)) (ap heap.class_of (p.functions i lt e) ∙ e) ∙ p.functions i lt e;
  long = omega (arith, p.long, q.long);
  counted = λ m. let x = p.counted m in let y = q.counted m in omega (arith, x, y);
  older = λ m k i t lt. p.older m k i (q.older m k i t (let x = p.counted m in omega (arith, lt, x))) lt;
}

pub no_node_refl : {h : Objects} → NoNewNode h h
no_node_refl = record { older = λ root k i t. t }

pub no_node_trans : {a b c : Objects} → NoNewNode a b → NoNewNode b c → NoNewNode a c
no_node_trans p q = record { older = λ root k i t. p.older root k i (q.older root k i t) }

pub objects_step : {first : Objects} {places : Native → ℕ} {objects : ℕ → List Object} {h : Objects} {m : ℕ} → ObjectsAre first places objects h m → ObjectsAre first places objects h (suc m)
objects_step o = record { each = o.each; once = o.once; natives = o.natives; reads = o.reads; sets = o.sets; above = o.above; count = o.count; few = λ n. let f = o.few n in omega (arith, f); opened = o.opened; unnamed = o.unnamed; large = o.large }

-- values in hand

or_is : (h : Objects) (n : ℕ) (vs : List Value) (es : List EsValue) → Vals h vs es → Val h (direct.or_nothing (slice_get vs n)) (es3.or_nothing (slice_get es n))
or_is h n [] [] p = tt
or_is h zero (v ∷ vs) (e ∷ es) p = p.0
or_is h (suc n) (v ∷ vs) (e ∷ es) p = or_is h n vs es p.1
or_is h n _ _ p = absurd p

method_is : {first : Objects} {places : Native → ℕ} {objects : ℕ → List Object} {h : Objects} {m : ℕ} → ObjectsAre first places objects h m → (f : Native) → is_common f ≡ true → (v : Value) (e : EsValue) → Val h v e → Val h (direct.method_value v f) (es3.method_in places e f)
method_is {places = places} {h = h} o f c = by_value h (λ v e. Val h (direct.method_value v f) (es3.method_in places e f)) tt tt (λ a. tt) (λ n. tt) (λ us. by_kind (is_of_text f)) (λ n i t. o.natives f c)
  where
    by_kind : (b : Bool) → Val h (cond b (object (built_name f)) undefined) (cond b (es.Obj (places f)) es.Undefined)
    by_kind true = o.natives f c
    by_kind false = tt

pub handle_is : {first : Objects} {places : Native → ℕ} {objects : ℕ → List Object} {h : Objects} {m : ℕ} → ObjectsAre first places objects h m → (x : Handle) → IsHandleAmong x → (vs : List Value) (es : List EsValue) → Vals h vs es → Val h (direct.value_of vs x) (es3.value_in places es x)
handle_is o r.undefined a vs es p = tt
handle_is o r.null a vs es p = tt
handle_is o (r.truth b) a vs es p = refl
handle_is o (r.number n) a vs es p = refl
handle_is o (r.text us) a vs es p = refl
handle_is o (r.method_of x f) a vs es p = method_is o f a.1 _ _ (handle_is o x a.0 vs es p)
handle_is {h = h} o (r.held n) a vs es p = or_is h n vs es p

pub handles_are : {first : Objects} {places : Native → ℕ} {objects : ℕ → List Object} {h : Objects} {m : ℕ} → ObjectsAre first places objects h m → (xs : List Handle) → AreHandlesAmong xs → (vs : List Value) (es : List EsValue) → Vals h vs es → Vals h (map (direct.value_of vs) xs) (map (es3.value_in places es) xs)
handles_are o [] a vs es p = tt
handles_are o (x ∷ xs) a vs es p = (handle_is o x a.0 vs es p, handles_are o xs a.1 vs es p)

pub vals_append : (h : Objects) (vs ws : List Value) (es fs : List EsValue) → Vals h vs es → Vals h ws fs → Vals h (vs ++ ws) (es ++ fs)
vals_append h [] ws [] fs p q = q
vals_append h (v ∷ vs) ws (e ∷ es) fs p q = (p.0, vals_append h vs ws es fs p.1 q)
vals_append h _ ws _ fs p q = absurd p

pub vals_length : (h : Objects) (vs : List Value) (es : List EsValue) → Vals h vs es → length vs ≡ length es
vals_length h [] [] p = refl
vals_length h (v ∷ vs) (e ∷ es) p = ap suc (vals_length h vs es p.1)
vals_length h _ _ p = absurd p

-- touches

pub shown_way : (by : ℕ) (way : List Name) (o : Name) → shown (direct.got_along by way o) ≡ []
shown_way by [] o = refl
shown_way by (h ∷ []) o = refl
shown_way by (h ∷ k ∷ way) o = shown_way by (k ∷ way) o

told_there : (by : ℕ) (t : r.Touch) (k : List (List ℕ)) (g : Tag) → (tag.None ≡ g → ⊥) → es3.touched by t g k ∷ [] ≡ es3.told_of by t g k
told_there by t k tag.None wrong = absurd (wrong refl)
told_there by t k g wrong = refl

pub touch_is : (h : Objects) (by : ℕ) (t : r.Touch) (way : List Name) (k : List (List ℕ)) (v : Value) (e : EsValue) → Val h v e → shown (direct.touching by t way v k) ≡ es3.touched_value by t e h k
touch_is h by t way k = by_value h (λ v e. shown (direct.touching by t way v k) ≡ es3.touched_value by t e h k) refl refl (λ a. refl) (λ n. refl) (λ us. refl)
    (λ n i p. shown-append (direct.got_along by way n) (direct.touched by t n k ∷ []) ∙ rw (shown_way by way n, p) (told_there by t k (tag_of_name n) (name_there n)))

-- no other end changes what the page keeps

abbrev pub SamePage : World → World → Type 0
SamePage a b = (a.cells ≡ b.cells) × (a.queues ≡ b.queues) × (a.nodes ≡ b.nodes) × (a.handlers ≡ b.handlers)

changed_page : (f : Object → Object) (v : Value) (w : World) → SamePage (direct.changed f v w) w
changed_page f (object (made_name a b)) w = at (slice_get (w.objects a) b)
  where
    at : (o : Option Object) → SamePage (direct.changed_object f a b o w) w
    at None = (refl, refl, refl, refl)
    at (Some o) = (refl, refl, refl, refl)
changed_page f v w = (refl, refl, refl, refl)

long_page : (b : Bool) (d : direct.Done) (w : World) (z : List direct.Item) → SamePage d.world w → SamePage (cond b d (direct.too_long w z)).world w
long_page true d w z p = p
long_page false d w z p = (refl, refl, refl, refl)

pub finish_page : (by : ℕ) (e : Ending) (s : direct.Held) (w : World) (z : List direct.Item) → SamePage (direct.finish by e s w z).world w
finish_page by (r.lists ks) s w z = long_page (nat_lt (length ks) r.most_items) _ w z (refl, refl, refl, refl)
finish_page by (r.makes_array frozen xs) s w z = long_page (nat_lt (length xs) r.most_items) _ w z (refl, refl, refl, refl)
finish_page by (r.writes_key o k x) s w z = changed_page (direct.with_key k (direct.value_of s.values x)) (direct.value_of s.values o) w
finish_page by (r.drops_key o k) s w z = changed_page (direct.without_key k) (direct.value_of s.values o) w
finish_page by (r.sets_items o xs x) s w z = long_page (nat_lt (length xs) r.most_items) _ w z (changed_page (direct.with_items (map (direct.value_of s.values) xs)) (direct.value_of s.values o) w)
finish_page by (r.freezes o) s w z = changed_page direct.as_frozen (direct.value_of s.values o) w
finish_page by e s w z = (refl, refl, refl, refl)

pub handlers_keep : {h h' : Objects} → Keeps h h' → (xs : List Handler) (ys : List es3.Handler) → HandlersAre h xs ys → HandlersAre h' xs ys
handlers_keep k [] [] p = tt
handlers_keep k (x ∷ xs) (y ∷ ys) p = (record { on = p.0.on; what = p.0.what; does = val_keep k x.does y.does p.0.does }, handlers_keep k xs ys p.1)
handlers_keep k _ _ p = absurd p

-- what the page keeps corresponds where all persists and no node is made
pub pages_keep : {h h' : Objects} (w w' : World) (g : es3.Page) → Keeps h h' → NoNewNode h h' → SamePage w' w → PagesAre h w g → PagesAre h' w' g
pages_keep {h' = h'} w w' g k o e p = record {
  cells = λ c. subst (λ f. Val h' (f c) (g.cells c)) (sym e.0) (val_keep k _ _ (p.cells c));
  queues = λ m. subst (λ f. Vals h' (f m) (g.queues m)) (sym e.1) (vals_keep k _ _ (p.queues m));
  nodes = λ root. ap (λ f. f root) e.2 ∙ p.nodes root;
  within = p.within;
  facets = λ root j lt. val_keep k (object (facet_name root j)) (es3.facet_at (g.facets root) j) (p.facets root j lt);
  as_many = p.as_many;
  known = λ root j i t. p.known root j i (o.older root j i t);
  handlers = λ root. subst (λ f. HandlersAre h' (f root) (g.handlers root)) (sym e.3) (handlers_keep k (w.handlers root) (g.handlers root) (p.handlers root));
}

-- the ends that do

module _ {first : Objects} {places : Native → ℕ} {m : ℕ} (h : Objects) (w : World) (g : es3.Page) (o : ObjectsAre first places w.objects h m) (p : PagesAre h w g) where
  pub kept_is : (v : Value) (e : EsValue) → Val h v e → Val h (direct.kept_in v w) (es3.kept_by (es3.named h e) g)
  kept_is = by_value h (λ v e. Val h (direct.kept_in v w) (es3.kept_by (es3.named h e) g)) tt tt (λ a. tt) (λ n. tt) (λ us. tt) (λ n i q. rw q (by_name n i q))
    where
      by_code : (c : List ℕ) → Val h undefined (es3.kept_by (tag_of_code c) g)
      by_code [] = tt
      by_code (n ∷ []) = tt
      by_code (n ∷ k ∷ []) = tt
      by_code (n ∷ k ∷ j ∷ c) = tt

      by_name : (n : Name) (i : ℕ) → Named h n i → Val h (direct.kept_in (object n) w) (es3.kept_by (tag_of_name n) g)
      by_name (cell_name a b) i q = p.cells a
      by_name (built_name f) i q = by_code (code_of f)
      by_name (forward_name a b c d) i q = absurd (o.each (forward_name a b c d) i q).is
      by_name (tools_name Rattle.rows.specs.Names.of_cajita) i q = tt
      by_name (tools_name Rattle.rows.specs.Names.of_math) i q = tt
      by_name n i q = tt

  module _ (u : Value) (f : EsValue) (t : Val h u f) where
    val_if : (b : Bool) (v : Value) (e : EsValue) → Val h v e → Val h (cond b u v) (cond b f e)
    val_if true v e q = t
    val_if false v e q = q

    pub keeping_is : (v : Value) (e : EsValue) → Val h v e → PagesAre h (direct.keeping v u w) (es3.keeping_by (es3.named h e) f g)
    keeping_is = by_value h (λ v e. PagesAre h (direct.keeping v u w) (es3.keeping_by (es3.named h e) f g)) p p (λ a. p) (λ n. p) (λ us. p) (λ n i q. rw q (by_name n i q))
      where
        by_code : (c : List ℕ) → PagesAre h w (es3.keeping_by (tag_of_code c) f g)
        by_code [] = p
        by_code (n ∷ []) = p
        by_code (n ∷ k ∷ []) = p
        by_code (n ∷ k ∷ j ∷ c) = p

        by_name : (n : Name) (i : ℕ) → Named h n i → PagesAre h (direct.keeping (object n) u w) (es3.keeping_by (tag_of_name n) f g)
        by_name (cell_name a b) i q = record { cells = λ c. val_if (nat_eq c a) (w.cells c) (g.cells c) (p.cells c); queues = p.queues; nodes = p.nodes; within = p.within; facets = p.facets; as_many = p.as_many; known = p.known; handlers = p.handlers }
        by_name (built_name k) i q = by_code (code_of k)
        by_name (forward_name a b c d) i q = absurd (o.each (forward_name a b c d) i q).is
        by_name (tools_name Rattle.rows.specs.Names.of_cajita) i q = p
        by_name (tools_name Rattle.rows.specs.Names.of_math) i q = p
        by_name n i q = p

    vals_if : (b : Bool) (vs us : List Value) (es fs : List EsValue) → Vals h vs es → Vals h us fs → Vals h (cond b vs us) (cond b es fs)
    vals_if true vs us es fs a b = a
    vals_if false vs us es fs a b = b

    pub queueing_is : (v : Value) (e : EsValue) → Val h v e → PagesAre h (direct.queueing v u w) (es3.queueing_by (es3.named h e) f g)
    queueing_is = by_value h (λ v e. PagesAre h (direct.queueing v u w) (es3.queueing_by (es3.named h e) f g)) p p (λ a. p) (λ n. p) (λ us. p) (λ n i q. rw q (by_name n))
      where
        by_code : (c : List ℕ) → PagesAre h w (es3.queueing_by (tag_of_code c) f g)
        by_code [] = p
        by_code (n ∷ []) = p
        by_code (n ∷ k ∷ []) = p
        by_code (n ∷ k ∷ j ∷ c) = p

        by_name : (n : Name) → PagesAre h (direct.queueing (object n) u w) (es3.queueing_by (tag_of_name n) f g)
        by_name (own_name a b) = record { cells = p.cells; queues = λ m. vals_if (nat_eq m a) (w.queues a ++ u ∷ []) (w.queues m) (g.queues a ++ f ∷ []) (g.queues m) (vals_append h (w.queues a) (u ∷ []) (g.queues a) (f ∷ []) (p.queues a) (t, tt)) (p.queues m); nodes = p.nodes; within = p.within; facets = p.facets; as_many = p.as_many; known = p.known; handlers = p.handlers }
        by_name (built_name k) = by_code (code_of k)
        by_name (tools_name Rattle.rows.specs.Names.of_cajita) = p
        by_name (tools_name Rattle.rows.specs.Names.of_math) = p
        by_name n = p

pub saying_is : (h : Objects) (us : List ℕ) (v : Value) (e : EsValue) → Val h v e → shown (direct.saying v us) ≡ es3.saying_by (es3.named h e) us
saying_is h us = by_value h (λ v e. shown (direct.saying v us) ≡ es3.saying_by (es3.named h e) us) refl refl (λ a. refl) (λ n. refl) (λ us. refl) (λ n i q. rw q (by_name n))
  where
    by_code : (c : List ℕ) → [] ≡ es3.saying_by (tag_of_code c) us
    by_code [] = refl
    by_code (n ∷ []) = refl
    by_code (n ∷ k ∷ []) = refl
    by_code (n ∷ k ∷ j ∷ c) = refl

    by_name : (n : Name) → shown (direct.saying (object n) us) ≡ es3.saying_by (tag_of_name n) us
    by_name (built_name f) = by_code (code_of f)
    by_name (tools_name Rattle.rows.specs.Names.of_cajita) = refl
    by_name (tools_name Rattle.rows.specs.Names.of_math) = refl
    by_name n = refl

-- what is told of what was got is not printed
pub shown_gained : (by : ℕ) (way : List Name) (v : Value) → shown (direct.got_from by way v) ≡ []
shown_gained by way (object o) = shown_way by way o
shown_gained by way v = refl

-- nor what is told of what waits
shown_waits : (by k : ℕ) (way : List Name) (v : Value) → shown (direct.to_wait by k way v) ≡ []
shown_waits by k way (object (made_name m n)) = refl
shown_waits by k way (object o) = shown-append (direct.got_along by way o) _ ∙ rw (shown_way by way o) refl
shown_waits by k way v = refl

pub shown_handed : (by : ℕ) (v : Value) (way : List Name) (u : Value) → shown (direct.handing_over by v way u) ≡ []
shown_handed by (object (own_name m n)) way u = shown_waits by m way u
shown_handed by v way u = refl

pub keeping_objects : (v u : Value) (w : World) → (direct.keeping v u w).objects ≡ w.objects
keeping_objects (object (cell_name a b)) u w = refl
keeping_objects v u w = refl

pub queueing_objects : (v u : Value) (w : World) → (direct.queueing v u w).objects ≡ w.objects
queueing_objects (object (own_name a b)) u w = refl
queueing_objects v u w = refl

-- the same value

module _ {first : Objects} {places : Native → ℕ} {objects : ℕ → List Object} {h : Objects} {m : ℕ} (o : ObjectsAre first places objects h m) where
  -- two names, and two places
  object_same : (n k : Name) (i j : ℕ) → Named h n i → Named h k j → nat_eq i j ≡ same_units (name_code n) (name_code k)
  object_same n k i j p q =
      let a = o.each n i p in
      let b = o.each k j q in
      let c = among objects h n a.stored a.is in
      let d = among objects h k b.stored b.is in
      let cases = elim (nat_eq i j) as (λ e. nat_eq i j ≡ e → e ≡ same_units (name_code n) (name_code k)) [
        | true ↦ λ e. let same : i ≡ j = grind (arith, nat_tests) in
            let tags : tag_of_name n ≡ tag_of_name k = sym p ∙ ap (λ l. heap.tag_of (heap.object_at h l)) same ∙ q in
            sym (ap (λ l. same_units l (name_code k)) (same_code n k c d tags) ∙ same_key-refl (name_code k))
        | false ↦ λ e. sym (not_true _ (λ s. let tags : tag_of_name n ≡ tag_of_name k = same_tag n k c d (same_text (name_code n) (name_code k) (sym s)) in
            let same : i ≡ j = o.once k i j (p ∙ tags) q in grind (arith, nat_tests)))
      ] in cases refl

  pub same_is : (v : Value) (e : EsValue) → Val h v e → (u : Value) (f : EsValue) → Val h u f → strictly_equal e f ≡ direct.strictly_equal v u
  same_is v e p u f q = by_value h (λ v e. strictly_equal e f ≡ direct.strictly_equal v u)
      (by_value h (λ u f. strictly_equal es.Undefined f ≡ direct.strictly_equal undefined u) refl refl (λ b. refl) (λ k. refl) (λ ws. refl) (λ k j t. refl) u f q)
      (by_value h (λ u f. strictly_equal es.Null f ≡ direct.strictly_equal null u) refl refl (λ b. refl) (λ k. refl) (λ ws. refl) (λ k j t. refl) u f q)
      (λ a. by_value h (λ u f. strictly_equal (es.Bool a) f ≡ direct.strictly_equal (truth a) u) refl refl (λ b. refl) (λ k. refl) (λ ws. refl) (λ k j t. refl) u f q)
      (λ n. by_value h (λ u f. strictly_equal (es.Num n) f ≡ direct.strictly_equal (number n) u) refl refl (λ b. refl) (λ k. refl) (λ ws. refl) (λ k j t. refl) u f q)
      (λ us. by_value h (λ u f. strictly_equal (es.Text us) f ≡ direct.strictly_equal (text us) u) refl refl (λ b. refl) (λ k. refl) (λ ws. refl) (λ k j t. refl) u f q)
      (λ n i s. by_value h (λ u f. strictly_equal (es.Obj i) f ≡ direct.strictly_equal (object n) u) refl refl (λ b. refl) (λ k. refl) (λ ws. refl) (λ k j t. object_same n k i j s t) u f q)
      v e p
