-- What it is that a row does the same on both sides.
use Rattle.std.specs.Prelude.{◌≡◌, ℕ, suc, ◌<◌, ◌≤◌, true, List, [], ◌∷◌, length, map, Option, None, Some, codes}
use Rattle.es3_heap.specs.Objects as heap
use Rattle.es3_heap.specs.Objects.{Objects, object_at}
use Rattle.es3_heap.specs.Properties.{own, value_of, may_write}
use Rattle.es3_heap.specs.Making.{proto_id, array_object}
use Rattle.es3_objects.specs.declared.value.Value.TheVariants as es
use Rattle.es3_objects.specs.declared.value.Proto.{Proto}
use Rattle.es3_objects.specs.declared.value.Proto.TheVariants as proto
use Rattle.es3_convert.specs.Conversions as convert
use Rattle.es3_convert.specs.Conversions.{to_string, value_of_object, is_built_in}
use Rattle.es3_convert.specs.Numbers as convert_number
use Rattle.es3_language.specs.Natives.{Reply, value_reply, throw_reply, invoke_reply, stop_reply}
use Rattle.page_deeds.specs.Shown.{end_renamed}
use Rattle.rows.specs.Rows.{Row, Ending, Native}
use Rattle.rows.specs.Document.{Node}
use Rattle.cajita_meaning.specs.World.{Value, object, facet_name, Handler, World}
use Rattle.cajita_meaning.specs.Doing as direct
use Rattle.heap_rows.specs.Doing as es3
use Rattle.heap_rows.specs.Doing.{Told}
use Rattle.row_simulation.specs.Correspond.{EsValue, tag_of_name, Named, Val, Vals, ObjectsAre, Keeps, NoNewNode}

-- an array of these texts
abbrev pub IsList : Objects → List (List ℕ) → EsValue → Type 0
IsList h ks (es.Obj i) = object_at h i ≡ Some (array_object (map es.Text ks))
IsList h ks e = ⊥

abbrev pub ReplyIs : Objects → direct.Outcome → Reply → Type 0
ReplyIs h (direct.gives v) (value_reply e) = Val h v e
ReplyIs h (direct.throws v) (throw_reply e) = Val h v e
ReplyIs h (direct.lists ks) (value_reply e) = IsList h ks e
ReplyIs h (direct.stops f) (stop_reply g) = f ≡ g
ReplyIs h (direct.calls a f t vs) (invoke_reply b f' t' es) = (a ≡ b) × Val h f f' × Val h t t' × Vals h vs es
ReplyIs h _ _ = ⊥

-- what the log prints of what is told: touches, what is said, how nodes changed, and how turns ended
abbrev pub shown : List direct.Item → List Told
shown [] = []
shown (direct.touched m t n k ∷ z) = es3.touched m t (tag_of_name n) k ∷ shown z
shown (direct.said m us ∷ z) = es3.said m us ∷ shown z
shown (direct.changed_node root k c ∷ z) = es3.changed_node root k c ∷ shown z
shown (direct.ended l e ∷ z) = es3.ended l (end_renamed tag_of_name e) ∷ shown z
shown (i ∷ z) = shown z

-- two rows have come to the same: the objects of both then correspond, and a step pays for a new name
pub record DoneIs (first : Objects) (places : Native → ℕ) (h : Objects) (m : ℕ) (a : direct.Done) (b : es3.Done) : Type 0 where
  pub reply : ReplyIs b.heap a.outcome b.reply
  pub objects : ObjectsAre first places a.world.objects b.heap (suc m)
  pub items : shown a.items ≡ b.items
  pub keeps : Keeps h b.heap

-- texts and numbers of values that correspond are the same
pub record Conversions (w : World) (h : Objects) : Type 0 where
  pub texts : (v : Value) (e : EsValue) → Val h v e → convert.text_of h e ≡ direct.text_of w v
  pub joins : (v : Value) (e : EsValue) (sep : List ℕ) → Val h v e → es3.joined_of h e sep ≡ direct.joined_of w v sep
  pub numbers : (v : Value) (e : EsValue) → Val h v e → convert_number.number_of h e ≡ direct.number_of w v

-- what an end comes to: it makes no node
pub record EndIs (first : Objects) (places : Native → ℕ) (h : Objects) (m : ℕ) (a : direct.Done) (b : es3.Done) : Type 0 where
  pub done : DoneIs first places h m a b
  pub no_node : NoNewNode h b.heap

-- the law of an end
abbrev pub EndLaw : Objects → (Native → ℕ) → ℕ → Ending → Type 0
EndLaw first places by e =
    (s : direct.Held) (es : List EsValue) (w : World) (h : Objects) (z : List direct.Item) (y : List Told) (m : ℕ) → suc m ≤ 4294967295
    → Vals h s.values es → ObjectsAre first places w.objects h m → shown z ≡ y
    → EndIs first places h m (direct.finish by e s w z) (es3.finish places by e es h y)

-- a handler of a node
pub record HandlerIs (h : Objects) (a : Handler) (b : es3.Handler) : Type 0 where
  pub on : a.on ≡ b.on
  pub what : a.what ≡ b.what
  pub does : Val h a.does b.does

abbrev pub HandlersAre : Objects → List Handler → List es3.Handler → Type 0
HandlersAre h [] [] = Unit {0}
HandlersAre h (a ∷ xs) (b ∷ ys) = HandlerIs h a b × HandlersAre h xs ys
HandlersAre h _ _ = ⊥

-- each of these numbers is below a bound
abbrev pub AreBelow : ℕ → List ℕ → Type 0
AreBelow n [] = Unit {0}
AreBelow n (k ∷ ks) = (k < n) × AreBelow n ks

abbrev pub IsBelow : ℕ → Option ℕ → Type 0
IsBelow n None = Unit {0}
IsBelow n (Some k) = k < n

-- the parent and the children of each of these nodes are among so many
abbrev pub AreWithin : ℕ → List Node → Type 0
AreWithin n [] = Unit {0}
AreWithin n (o ∷ os) = IsBelow n o.parent × AreBelow n o.children × AreWithin n os

-- what the page keeps beside its objects corresponds: cells, queues, handlers; the nodes of each root are the same, each has an object of its name, and no object has
-- the name of another one
pub record PagesAre (h : Objects) (w : World) (g : es3.Page) : Type 0 where
  pub cells : (c : ℕ) → Val h (w.cells c) (g.cells c)
  pub queues : (m : ℕ) → Vals h (w.queues m) (g.queues m)
  pub nodes : (root : ℕ) → w.nodes root ≡ g.nodes root
  pub within : (root : ℕ) → AreWithin (length (g.nodes root)) (g.nodes root)
  pub facets : (root k : ℕ) → k < length (g.nodes root) → Val h (object (facet_name root k)) (es3.facet_at (g.facets root) k)
  pub as_many : (root : ℕ) → length (g.facets root) ≡ length (g.nodes root)
  pub known : (root k i : ℕ) → Named h (facet_name root k) i → k < length (g.nodes root)
  pub handlers : (root : ℕ) → HandlersAre h (w.handlers root) (g.handlers root)

pub record CameIs (first : Objects) (places : Native → ℕ) (h : Objects) (m : ℕ) (a : direct.Done) (b : es3.Came) : Type 0 where
  pub done : DoneIs first places h m a b.done
  pub page : PagesAre b.done.heap a.world b.page

-- the law of a row
abbrev pub RowLaw : Objects → (Native → ℕ) → ℕ → Row → Type 0
RowLaw first places by q =
    (s : direct.Held) (es : List EsValue) (w : World) (h : Objects) (g : es3.Page) (z : List direct.Item) (y : List Told) (m : ℕ) → suc m ≤ 4294967295
    → Vals h s.values es → ObjectsAre first places w.objects h m → PagesAre h w g → shown z ≡ y
    → CameIs first places h m (direct.does by q s w z) (es3.does places by q es h g y)

-- the prototype of each prototype
abbrev pub proto_above : Proto → Option ℕ
proto_above proto.Object = None
proto_above proto.TypeError = Some (proto_id proto.Error)
proto_above proto.RangeError = Some (proto_id proto.Error)
proto_above p = Some (proto_id proto.Object)

-- the prototypes are among the first objects, and that of Object keeps no key from being written
pub record IsFirst (first : Objects) : Type 0 where
  pub some : 10 ≤ length first.list
  pub above : (p : Proto) → heap.proto_of (object_at first (proto_id p)) ≡ proto_above p
  pub free : (k : List ℕ) → may_write (own first 0 k) ≡ true
  -- that of Object has the built-in conversions, and no other object among them has one
  pub text : is_built_in to_string first (value_of (own first 0 (codes "toString"))) ≡ true
  pub value : is_built_in value_of_object first (value_of (own first 0 (codes "valueOf"))) ≡ true
  pub no_text : (i : ℕ) → 0 < i → own first i (codes "toString") ≡ None
  pub no_value : (i : ℕ) → 0 < i → own first i (codes "valueOf") ≡ None
