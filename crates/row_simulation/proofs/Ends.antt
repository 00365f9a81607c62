-- The ends of rows, each with its law.
use Rattle.std.proofs.Common.{◌≡◌, ℕ, suc, ◌≤◌, ◌<◌, Bool, List, [], ◌∷◌, ◌++◌, length, Option, Some, refl, sym, ap, ◌∙◌, subst, arith}
use Rattle.std.specs.Prelude.{slice_get, codes}
use Rattle.std.proofs.lemmas.List.{append-nil}
use Rattle.plans.specs.Plans.{Fault}
use Rattle.es3_objects.specs.declared.value.Value.TheVariants as es
use Rattle.es3_objects.specs.declared.value.Tag.{Tag}
use Rattle.es3_objects.specs.declared.value.Tag.TheVariants as tag
use Rattle.es3_heap.specs.Objects as heap
use Rattle.es3_heap.specs.Objects.{Objects}
use Rattle.es3_heap.specs.Making.{proto_id, count_at, error_object}
use Rattle.es3_language.specs.Natives.{Reply, value_reply, throw_reply}
use Rattle.rows.specs.Rows as r
use Rattle.rows.specs.Rows.{Handle, Native, Maker}
use Rattle.rows.specs.Guards.{maker_name}
use Rattle.cajita_meaning.specs.World.{Name, Value, object, Object, a_record, an_array, a_closure, an_error, World, next_name}
use Rattle.cajita_meaning.specs.Doing as direct
use Rattle.heap_rows.specs.Marks.{read_mark, set_mark}
use Rattle.heap_rows.specs.Doing as es3
use Rattle.heap_rows.specs.Doing.{Told}
use Rattle.row_simulation.proofs.Keys.{apart_too, hidden_read, hidden_set}
use Rattle.row_simulation.proofs.Relation.{EsValue, Named, Val, Is, ObjectsAre, is_keep}
use Rattle.row_simulation.proofs.Row.{ReplyIs, shown, shown-append, shown_gained, DoneIs, EndIs, keeps_refl, no_node_refl, objects_step, handle_is, handles_are, EndLaw}
use Rattle.row_simulation.specs.Among.{IsHandleAmong, AreHandlesAmong}
use Rattle.row_simulation.specs.RowLaw.{IsFirst}
use Rattle.row_simulation.proofs.Changes.{tagged, with_named, named_new, named_keeps, named_no_node, IsNew, room, objects_made}

-- what is told of what was got isn't printed

pub shown_got : (by : ℕ) (s : direct.Held) (x : Handle) → shown (direct.got_one by s x) ≡ []
shown_got by s x = shown_gained by (direct.way_of s x) (direct.value_of s.values x)

pub shown_all : (by : ℕ) (s : direct.Held) (xs : List Handle) → shown (direct.got_all by s xs) ≡ []
shown_all by s [] = refl
shown_all by s (x ∷ xs) = shown-append (direct.got_one by s x) _ ∙ rw (shown_got by s x) (shown_all by s xs)

pub shown_values : (by : ℕ) (h : List Name) (vs : List Value) → shown (direct.got_values by h vs) ≡ []
shown_values by h [] = refl
shown_values by h (v ∷ vs) = shown-append (direct.got_from by h v) _ ∙ rw (shown_gained by h v) (shown_values by h vs)

pub quiet : (z q : List direct.Item) (y : List Told) → shown z ≡ y → shown q ≡ [] → shown (z ++ q) ≡ y
quiet z q y is e = shown-append z q ∙ rw (is, e) (append-nil y)

-- nothing changes

pub same_end : {first : Objects} {places : Native → ℕ} {m : ℕ} {h : Objects} {a : direct.Done} {b : Reply} {y : List Told} → DoneIs first places h m a (record { reply = b; heap = h; items = y }) → EndIs first places h m a (record { reply = b; heap = h; items = y })
same_end d = record { done = d; no_node = no_node_refl }

pub answers_law : {first : Objects} {places : Native → ℕ} (by : ℕ) (x : Handle) → IsHandleAmong x → EndLaw first places by (r.answers x)
answers_law by x a s es w h z y m few p o is = same_end (record { reply = handle_is o x a s.values es p; objects = objects_step o; items = quiet z _ y is (shown_got by s x); keeps = keeps_refl })

pub faults_law : {first : Objects} {places : Native → ℕ} (by : ℕ) (f : Fault) → EndLaw first places by (r.faults f)
faults_law by f s es w h z y m few p o is = same_end (record { reply = refl; objects = objects_step o; items = is; keeps = keeps_refl })

pub calls_law : {first : Objects} {places : Native → ℕ} (by : ℕ) (recorded : Bool) (f t : Handle) (xs : List Handle) → IsHandleAmong f × IsHandleAmong t × AreHandlesAmong xs → EndLaw first places by (r.calls recorded f t xs)
calls_law by recorded f t xs a s es w h z y m few p o is = same_end (record { reply = (refl, handle_is o f a.0 s.values es p, handle_is o t a.1 s.values es p, handles_are o xs a.2 s.values es p); objects = objects_step o; items = quiet z _ y is (shown_all by s (f ∷ t ∷ xs)); keeps = keeps_refl })

-- a new object

pub is_tagged : (g : Objects) (o : Object) (x : heap.Object) (t : Tag) → Is g o x → Is g o (tagged x t)
is_tagged g (a_record frozen ps) x t p = record { class = p.class; no_call = p.no_call; proto = p.proto; props = p.props }
is_tagged g (an_array frozen vs) x t p = record { class = p.class; no_call = p.no_call; proto = p.proto; items = p.items; props = p.props; few = p.few; are = p.are }
is_tagged g (a_closure f chain) x t p = record { class = p.class; proto = p.proto; kind = p.kind; no_text = p.no_text; no_value = p.no_value }
is_tagged g (an_error maker message) x t p = record { class = p.class; no_call = p.no_call; proto = p.proto; has_name = p.has_name; has_message = p.has_message; no_text = p.no_text; no_value = p.no_value }

pub makes_law : {first : Objects} {places : Native → ℕ} (by : ℕ) → by < 64 → (give : Value → direct.Outcome) (give' : EsValue → Reply) → ((g : Objects) (v : Value) (e : EsValue) → Val g v e → ReplyIs g (give v) (give' e)) → (o : Object) (x : heap.Object) (w : World) (h : Objects) (z : List direct.Item) (y : List Told) (m : ℕ) → suc m ≤ 4294967295 → IsNew first x → Is h o x → ObjectsAre first places w.objects h m → shown z ≡ y → EndIs first places h m (direct.makes give by o w z) (es3.makes give' by x h y)
makes_law {first = first} {places = places} by below give give' reply o x w h z y m few new is old items =
    let g = with_named h x by in
    let keeps = named_keeps h x by (room by below few old) in
    subst (λ q. EndIs first places h m (direct.makes give by o w z) (record { reply = give' (es.Obj (length h.list)); heap = q; items = y })) (sym (named_new h x by new.bare)) (record {
      no_node = named_no_node h x by;
      done = record {
        reply = reply g (object (next_name by w)) (es.Obj (length h.list)) name;
        objects = objects_made by w.objects below old o x few new (is_tagged g o x (tag.Made by (count_at (slice_get h.counts by))) (is_keep keeps o x is));
        items = quiet z _ y items refl;
        keeps = keeps;
      };
    })
  where
    last : {X : Type 0} (xs : List X) (q : X) → slice_get (xs ++ q ∷ []) (length xs) ≡ Some q
    last [] q = refl
    last (p ∷ xs) q = last xs q

    name : Named (with_named h x by) (next_name by w) (length h.list)
    name = rw (last h.list (tagged x (tag.Made by (count_at (slice_get h.counts by))))) (ap (tag.Made by) (ap count_at (old.count by below)))

maker_proto : (m : Maker) (p : ℕ) → (let q : Option ℕ = Some (proto_id (es3.proto_of m)) in q) ≡ Some p → p < 10
maker_proto r.error p e = let f : 6 ≡ p = cc in omega (arith, f)
maker_proto r.type_error p e = let f : 7 ≡ p = cc in omega (arith, f)
maker_proto r.range_error p e = let f : 8 ≡ p = cc in omega (arith, f)

error_new : {first : Objects} → IsFirst first → (maker : Maker) (message : List ℕ) → IsNew first (error_object (es3.proto_of maker) (maker_name maker) message)
error_new f maker message = record {
  bare = refl;
  above = λ p e. let l = maker_proto maker p e in omega (arith, l, f.some);
  reads = λ k. rw (apart_too (codes "name") (read_mark k) refl (hidden_read k), apart_too (codes "message") (read_mark k) refl (hidden_read k)) refl;
  sets = λ k. rw (apart_too (codes "name") (set_mark k) refl (hidden_set k), apart_too (codes "message") (set_mark k) refl (hidden_set k)) refl;
}

error_is : (h : Objects) (maker : Maker) (message : List ℕ) → Is h (an_error maker message) (error_object (es3.proto_of maker) (maker_name maker) message)
error_is h maker message = record { class = refl; no_call = refl; proto = refl; has_name = refl; has_message = refl; no_text = refl; no_value = refl }

pub throws_law : {first : Objects} {places : Native → ℕ} (by : ℕ) → by < 64 → IsFirst first → (message : List ℕ) → EndLaw first places by (r.throws message)
throws_law by below f message s es w h z y m few p o is = makes_law by below direct.throws throw_reply (λ g v e q. q) (an_error r.type_error message) _ w h z y m few (error_new f r.type_error message) (error_is h r.type_error message) o is

pub error_law : {first : Objects} {places : Native → ℕ} (by : ℕ) → by < 64 → IsFirst first → (maker : Maker) (message : List ℕ) → EndLaw first places by (r.makes_error maker message)
error_law by below f maker message s es w h z y m few p o is = makes_law by below direct.gives value_reply (λ g v e q. q) (an_error maker message) _ w h z y m few (error_new f maker message) (error_is h maker message) o is
