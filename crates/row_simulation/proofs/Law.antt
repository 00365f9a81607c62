-- What a row does in a world, it does among the objects of ES3: one law for all rows, over the laws of the ends.
use Rattle.std.proofs.Common.{◌≡◌, ℕ, suc, ◌≤◌, List, ◌++◌, length, Option, Some, None, Result, Ok, Err, refl, sym, ap, ◌∙◌, subst}
use Rattle.std.proofs.lemmas.List.{append-nil}
use Rattle.plans.specs.Plans.{Fault}
use Rattle.es3_heap.specs.Objects.{Objects}
use Rattle.rows.specs.Rows as r
use Rattle.rows.specs.Rows.{Row, Ending, Native}
use Rattle.rows.specs.Document as doc
use Rattle.cajita_meaning.specs.World.{World}
use Rattle.cajita_meaning.specs.Doing as direct
use Rattle.heap_rows.specs.Doing as es3
use Rattle.heap_rows.specs.Doing.{Told}
use Rattle.row_simulation.specs.Among.{IsEndAmong, IsSettlingAmong, IsBranchAmong, IsAmongObjects}
use Rattle.row_simulation.specs.RowLaw.{IsFirst}
use Rattle.row_simulation.proofs.Relation.{EsValue, Vals, ObjectsAre, val_keep}
use Rattle.row_simulation.proofs.Sights.{seen_alike, seen_among}
use Rattle.row_simulation.proofs.Row.{shown, Conversions, EndLaw, PagesAre, CameIs, shown-append, keeps_refl, objects_step, handle_is, vals_append, vals_length, touch_is, pages_keep, finish_page, kept_is, keeping_is, queueing_is, saying_is, shown_gained, shown_handed, keeping_objects, queueing_objects, same_is}
use Rattle.row_simulation.proofs.Around.{AroundIs, around_alike}
use Rattle.row_simulation.proofs.SameRoot.{same_root_is}
use Rattle.row_simulation.proofs.Nodes.{changed_fits, noding_is, adding_is, node_told_is, listening_is, listening_objects}

-- the law of a row, where conversions are the same
abbrev pub RowGoes : Objects → (Native → ℕ) → ℕ → Row → Type 0
RowGoes first places by q =
    (s : direct.Held) (es : List EsValue) (w : World) (h : Objects) (g : es3.Page) (z : List direct.Item) (y : List Told) (m : ℕ) → suc m ≤ 4294967295
    → Vals h s.values es → ObjectsAre first places w.objects h m → PagesAre h w g → Conversions w h → shown z ≡ y
    → CameIs first places h m (direct.does by q s w z) (es3.does places by q es h g y)

settle_law : {first : Objects} {places : Native → ℕ} (by : ℕ) → IsFirst first → (e : r.Settling) → IsSettlingAmong e → RowGoes first places by (r.settles e)
settle_law by i (r.answers_kept x) a s es w h g z y m few p o k c is = record {
  done = record { reply = kept_is h w g o k (direct.value_of s.values x) _ (handle_is o x a s.values es p); objects = objects_step o; items = shown-append z _ ∙ rw (is, shown_gained by (direct.way_into s x) (direct.kept_in (direct.value_of s.values x) w)) (append-nil y); keeps = keeps_refl };
  page = k;
}
settle_law {first = first} {places = places} by i (r.keeps x v) a s es w h g z y m few p o k c is = record {
  done = record { reply = tt; objects = subst (λ q. ObjectsAre first places q h (suc m)) (sym (keeping_objects (direct.value_of s.values x) (direct.value_of s.values v) w)) (objects_step o); items = is; keeps = keeps_refl };
  page = keeping_is h w g o k (direct.value_of s.values v) _ (handle_is o v a.1 s.values es p) (direct.value_of s.values x) _ (handle_is o x a.0 s.values es p);
}
settle_law by i (r.says x us) a s es w h g z y m few p o k c is = record {
  done = record { reply = tt; objects = objects_step o; items = shown-append z _ ∙ rw (is, saying_is h us (direct.value_of s.values x) _ (handle_is o x a s.values es p)) refl; keeps = keeps_refl };
  page = k;
}
settle_law {first = first} {places = places} by i (r.queues x f) a s es w h g z y m few p o k c is = record {
  done = record { reply = tt; objects = subst (λ q. ObjectsAre first places q h (suc m)) (sym (queueing_objects (direct.value_of s.values x) (direct.value_of s.values f) w)) (objects_step o); items = shown-append z _ ∙ rw (is, shown_handed by (direct.value_of s.values x) (direct.way_of s f) (direct.value_of s.values f)) (append-nil y); keeps = keeps_refl };
  page = queueing_is h w g o k (direct.value_of s.values f) _ (handle_is o f a.1 s.values es p) (direct.value_of s.values x) _ (handle_is o x a.0 s.values es p);
}
settle_law {first = first} {places = places} by f (r.changes_node x c v) a s es w h g z y m few p o k d is =
    let q = handle_is o x a.0 s.values es p in
    let n = noding_is (doc.changed c) (λ i ns. changed_fits c i ns) h w g f o k (direct.value_of s.values x) (es3.value_in places es x) q in
    record {
      done = record {
        reply = val_keep n.keeps (direct.value_of s.values v) (es3.value_in places es v) (handle_is o v a.1 s.values es p);
        objects = objects_step n.objects;
        items = shown-append (z ++ direct.node_told (direct.value_of s.values x) c) (direct.got_one by s v) ∙ rw (shown_gained by (direct.way_of s v) (direct.value_of s.values v)) (append-nil _ ∙ shown-append z _ ∙ rw (is, node_told_is h c (direct.value_of s.values x) (es3.value_in places es x) q) refl);
        keeps = n.keeps;
      };
      page = n.pages;
    }
settle_law {first = first} {places = places} by f (r.adds_node x i) a s es w h g z y m few p o k d is =
    let n = adding_is i a.1 a.2 h w g f o k (direct.value_of s.values x) (es3.value_in places es x) (handle_is o x a.0 s.values es p) in
    record {
      done = record {
        reply = n.new;
        objects = objects_step n.noded.objects;
        items = shown-append z _ ∙ rw (is, shown_gained by (direct.way_into s x) (direct.new_node (direct.value_of s.values x) w)) (append-nil y);
        keeps = n.noded.keeps;
      };
      page = n.noded.pages;
    }
settle_law {first = first} {places = places} by f (r.listens x us v) a s es w h g z y m few p o k d is = record {
  done = record { reply = tt; objects = subst (λ q. ObjectsAre first places q h (suc m)) (sym (listening_objects (direct.value_of s.values x) us (direct.value_of s.values v) w)) (objects_step o); items = is; keeps = keeps_refl };
  page = listening_is us h w g k (direct.value_of s.values v) _ (handle_is o v a.1 s.values es p) (direct.value_of s.values x) _ (handle_is o x a.0 s.values es p);
}

result_is : {A : Type 0} {first : Objects} {places : Native → ℕ} {h : Objects} {m : ℕ} (w : World) (g : es3.Page) (z : List direct.Item) {y : List Told} (a : Result A Fault) (go : A → direct.Done) (go' : A → es3.Came) → ObjectsAre first places w.objects h m → PagesAre h w g → shown z ≡ y → ((x : A) → CameIs first places h m (go x) (go' x)) → CameIs first places h m (direct.with_result a w z go) (es3.with_result a h g y go')
result_is w g z (Ok x) go go' o k is f = f x
result_is w g z (Err f) go go' o k is l = record { done = record { reply = refl; objects = objects_step o; items = is; keeps = keeps_refl }; page = k }

branch_is : {first : Objects} {places : Native → ℕ} {h : Objects} {m : ℕ} (a : Option direct.Around) (b : Option es3.Around) (go : direct.Around → direct.Done) (other : direct.Done) (go' : r.Branch → List EsValue → es3.Came) (other' : es3.Came) → AroundIs h a b
    → ((x : direct.Around) (es : List EsValue) → IsBranchAmong x.branch → Vals h x.values es → CameIs first places h m (go x) (go' x.branch es)) → CameIs first places h m other other' → CameIs first places h m (direct.with_branch a go other) (es3.with_branch b (λ y. go' y.branch y.values) other')
branch_is None None go other go' other' is f q = q
branch_is {first = first} {places = places} {h = h} {m = m} (Some x) (Some y) go other go' other' is f q = subst (λ b. CameIs first places h m (go x) (go' b y.values)) is.branch (f x y.values is.among is.values)
branch_is _ _ go other go' other' is f q = absurd is

-- every row has its law
pub row_law : {first : Objects} {places : Native → ℕ} (by : ℕ) → IsFirst first → ((e : Ending) → IsEndAmong e → EndLaw first places by e) → (q : Row) → IsAmongObjects q → RowGoes first places by q
row_law by i law (r.ends e) a s es w h g z y m few p o k c is = let d = law e a s es w h z y m few p o is in record { done = d.done; page = pages_keep w (direct.finish _ e s w z).world g d.done.keeps d.no_node (finish_page _ e s w z) k }
row_law by i law (r.settles e) a s es w h g z y m few p o k c is = settle_law by i e a s es w h g z y m few p o k c is
row_law {first = first} {places = places} by i law (r.as_text x go) a s es w h g z y m few p o k c is =
    subst (λ t. CameIs first places h m (direct.does by (r.as_text x go) s w z) (es3.with_result t h g y (λ us. es3.does places by (go us) es h g y))) (sym (c.texts _ _ (handle_is o x a.0 s.values es p)))
    (result_is w g z (direct.text_of w (direct.value_of s.values x)) (λ us. direct.does by (go us) s w z) (λ us. es3.does places by (go us) es h g y) o k is (λ us. row_law by i law (go us) (a.1 us) s es w h g z y m few p o k c is))
row_law {first = first} {places = places} by i law (r.as_joined x sep go) a s es w h g z y m few p o k c is =
    subst (λ t. CameIs first places h m (direct.does by (r.as_joined x sep go) s w z) (es3.with_result t h g y (λ us. es3.does places by (go us) es h g y))) (sym (c.joins _ _ sep (handle_is o x a.0 s.values es p)))
    (result_is w g z (direct.joined_of w (direct.value_of s.values x) sep) (λ us. direct.does by (go us) s w z) (λ us. es3.does places by (go us) es h g y) o k is (λ us. row_law by i law (go us) (a.1 us) s es w h g z y m few p o k c is))
row_law {first = first} {places = places} by i law (r.as_number x go) a s es w h g z y m few p o k c is =
    subst (λ t. CameIs first places h m (direct.does by (r.as_number x go) s w z) (es3.with_result t h g y (λ n. es3.does places by (go n) es h g y))) (sym (c.numbers _ _ (handle_is o x a.0 s.values es p)))
    (result_is w g z (direct.number_of w (direct.value_of s.values x)) (λ n. direct.does by (go n) s w z) (λ n. es3.does places by (go n) es h g y) o k is (λ n. row_law by i law (go n) (a.1 n) s es w h g z y m few p o k c is))
row_law {first = first} {places = places} by i law (r.looks x go) a s es w h g z y m few p o k c is =
    let v = direct.value_of s.values x in
    let e = es3.value_in places es x in
    let l = seen_alike w o (length s.values) v e (handle_is o x a.0 s.values es p) in
    let b = direct.see w (length s.values) v in
    let n : length s.values ≡ length es = vals_length h s.values es p in
    subst (λ j. CameIs first places h m (direct.does by (go b.sight) (direct.and_seen s (direct.way_into s x) b.values) w z) (es3.does places by (go (es3.see h j e).sight) (es ++ (es3.see h j e).values) h g y)) n
    (subst (λ q. CameIs first places h m (direct.does by (go b.sight) (direct.and_seen s (direct.way_into s x) b.values) w z) (es3.does places by (go q) (es ++ (es3.see h (length s.values) e).values) h g y)) l.sight
    (row_law by i law (go b.sight) (a.1 b.sight (seen_among w o (length s.values) v e (handle_is o x a.0 s.values es p))) (direct.and_seen s (direct.way_into s x) b.values) (es ++ (es3.see h (length s.values) e).values) w h g z y m few (vals_append h s.values b.values es _ p l.values) o k c is))
row_law {first = first} {places = places} by i law (r.branches x go other) a s es w h g z y m few p o k c is =
    let v = direct.value_of s.values x in
    let e = es3.value_in places es x in
    let n : length s.values ≡ length es = vals_length h s.values es p in
    subst (λ j. CameIs first places h m (direct.does by (r.branches x go other) s w z) (es3.with_branch (es3.around h g j e) (λ b. es3.does places by (go b.branch) (es ++ b.values) h g y) (es3.does places by other es h g y))) n
    (branch_is (direct.around w (length s.values) v) (es3.around h g (length s.values) e) (λ b. direct.does by (go b.branch) (direct.and_seen s (direct.way_into s x) b.values) w z) _ (λ q us. es3.does places by (go q) (es ++ us) h g y) _
    (around_alike w g k (length s.values) v e (handle_is o x a.0 s.values es p))
    (λ b us t u. row_law by i law (go b.branch) (a.1 b.branch t) (direct.and_seen s (direct.way_into s x) b.values) (es ++ us) w h g z y m few (vals_append h s.values b.values es us p u) o k c is)
    (row_law by i law other a.2 s es w h g z y m few p o k c is))
row_law {first = first} {places = places} by i law (r.as_same x v go) a s es w h g z y m few p o k c is =
    subst (λ b. CameIs first places h m (direct.does by (r.as_same x v go) s w z) (es3.does places by (go b) es h g y)) (sym (same_is o _ _ (handle_is o x a.0 s.values es p) _ _ (handle_is o v a.1 s.values es p)))
    (row_law by i law (go _) (a.2 _) s es w h g z y m few p o k c is)
row_law {first = first} {places = places} by i law (r.as_same_root x v go) a s es w h g z y m few p o k c is =
    subst (λ b. CameIs first places h m (direct.does by (r.as_same_root x v go) s w z) (es3.does places by (go b) es h g y)) (same_root_is h _ _ (handle_is o x a.0 s.values es p) _ _ (handle_is o v a.1 s.values es p))
    (row_law by i law (go _) (a.2 _) s es w h g z y m few p o k c is)
row_law by i law (r.touches t x ks next) a s es w h g z y m few p o k c is =
    row_law by i law next a.1 s es w h g (z ++ _) (y ++ _) m few p o k c (shown-append z _ ∙ rw is (ap (λ l. y ++ l) (touch_is h _ t _ ks _ _ (handle_is o x a.0 s.values es p))))
