-- The functions that a body declares, where other objects stand behind them when they are marked: each gets its name where it stands.
use Rattle.std.proofs.Common.{◌≡◌, ℕ, suc, ◌≤◌, ◌<◌, Bool, true, false, List, length, Some, refl, sym, ap, ◌∙◌, subst, arith}
use Rattle.std.specs.Prelude.{codes, slice_get, is_some, ◌||◌}
use Rattle.std.specs.Cmp.Lexicographic.{same_text}
use Rattle.std.proofs.lemmas.Option.{slice_get_within}
use Rattle.caja_units.specs.Units.{same_units}
use Rattle.es3_objects.specs.declared.value.Value.TheVariants as es
use Rattle.es3_objects.specs.declared.value.Class.TheVariants as class
use Rattle.es3_objects.specs.declared.value.Tag.TheVariants as tag
use Rattle.es3_heap.specs.Objects as heap
use Rattle.es3_heap.specs.Objects.{Objects, object_at}
use Rattle.es3_heap.specs.Properties.{find}
use Rattle.es3_heap.specs.Making.{count_at}
use Rattle.es3_language.specs.Store as store
use Rattle.es3_language.specs.Store.{Store, Code, name_value, with_heap, with_name}
use Rattle.cajita_tree.specs.Tree as c
use Rattle.cajita_meaning.specs.World as World
use Rattle.cajita_meaning.specs.World.{Pairs, Object, a_closure, made_name, value_at, with_value, with_last, object}
use Rattle.cajita_meaning.specs.Asking.{func_name}
use Rattle.heap_rows.specs.Marks.{simple_mark}
use Rattle.heap_rows.specs.Opening.{first, place_of}
use Rattle.row_simulation.specs.Correspond as rows
use Rattle.row_simulation.proofs.Relation.{StillNamed}
use Rattle.row_simulation.proofs.Changes.{by_number, room}
use Rattle.row_simulation.proofs.Naming.{where_named, where_other, where_still, where_keeps, where_no_node, objects_where, where_given}
use Rattle.cajita_simulation.specs.Guest.{Names, Guest, is_declared}
use Rattle.cajita_simulation.proofs.Heaps.Names.{name_value-with_name}
use Rattle.cajita_simulation.proofs.Heaps.Functions.{function_object, marked_object}
use Rattle.cajita_simulation.proofs.Relation.{ObjectsAre, Tags, OptVal, AreScopes, Captured, CodeIs, ClosuresAre}
use Rattle.cajita_simulation.proofs.Scopes.{captured_stays}
use Rattle.cajita_simulation.proofs.Written.{value_at-with_value}
use Rattle.cajita_simulation.proofs.Changes.{shaped_heap, code_stays}
use Rattle.cajita_simulation.proofs.Closures.{marked_is_new, closures_last}
use Rattle.cajita_simulation.proofs.Declaring.Stores.{declared_code, bound_names, named_at}
use Rattle.cajita_simulation.proofs.Declaring.Names.{bound_pairs, functions_other, pairs_other}

-- a function that awaits its name stands at a place, and its code is there
pub record Awaits (f : c.Tree c.func) (chain : List ℕ) (by place : ℕ) (codes : List Code) (h : Objects) : Type 0 where
  pub number : ℕ
  pub there : object_at h place ≡ Some (function_object number (length (declared_code f chain).params) by (suc place))
  pub code : slice_get codes number ≡ Some (declared_code f chain)

abbrev pub AllAwait : c.Tree c.funcs → List ℕ → ℕ → ℕ → List Code → Objects → Type 0
AllAwait c.no_funcs chain by place codes h = Unit {0}
AllAwait (c.more_funcs f fs) chain by place codes h = Awaits f chain by place codes h × AllAwait fs chain by (suc (suc place)) codes h

-- what stands behind a place stays
pub await_later : (fs : c.Tree c.funcs) (chain : List ℕ) (by place : ℕ) (codes : List Code) (a b : Objects) → ((i : ℕ) (o : heap.Object) → place ≤ i → object_at a i ≡ Some o → object_at b i ≡ Some o) → AllAwait fs chain by place codes a → AllAwait fs chain by place codes b
await_later c.no_funcs chain by place codes a b same p = tt
await_later (c.more_funcs f fs) chain by place codes a b same p = (
  record { number = p.0.number; there = same place _ (omega arith) p.0.there; code = p.0.code },
  await_later fs chain by (suc (suc place)) codes a b (λ i o le e. same i o (omega (arith, le)) e) p.1,
)

-- what a name that is given in its place leaves of other objects
pub record Later (a b : Objects) : Type 0 where
  pub still : StillNamed a b
  pub plain : (i : ℕ) → rows.IsPlain first a i → rows.IsPlain first b i

pub later_refl : {a : Objects} → Later a a
later_refl = record { still = record { named = λ n i p. p }; plain = λ i p. p }

pub later_trans : {a b c : Objects} → Later a b → Later b c → Later a c
later_trans p q = record { still = record { named = λ n i t. q.still.named n i (p.still.named n i t) }; plain = λ i t. q.plain i (p.plain i t) }

-- objects that correspond, with what was kept since there were others
pub record Begun (world : ℕ → List Object) (base : Objects) (g : Tags) (s : Store) (m : ℕ) : Type 0 where
  pub objects : ObjectsAre first place_of world s.heap m
  pub keeps : rows.Keeps base s.heap
  pub no_node : rows.NoNewNode base s.heap
  pub closures : ClosuresAre world g s

-- the names that the functions get
abbrev pub Granted : c.Tree c.funcs → ℕ → ℕ → List ℕ → (ℕ → List Object) → Objects → Type 0
Granted c.no_funcs place by direct objects h = Unit {0}
Granted (c.more_funcs f fs) place by direct objects h = rows.Named h (made_name by (length (objects by))) place × Granted fs (suc (suc place)) by direct (with_last by (a_closure f direct) objects) h

-- a declared name stands for its closure on both sides
pub granted_alike : (fs : c.Tree c.funcs) (place by : ℕ) (direct : List ℕ) (objects : ℕ → List Object) (h : Objects) → Granted fs place by direct objects h → (x : List ℕ) → is_declared fs x ≡ true → (pairs : Pairs) (names : store.Names) → OptVal h (value_at x (bound_pairs fs direct by objects pairs)) (name_value x (bound_names fs place names))
granted_alike c.no_funcs place by direct objects h given x is pairs names = cc
granted_alike (c.more_funcs f fs) place by direct objects h given x is pairs names =
    let v = World.object (made_name by (length (objects by))) in
    let objects1 = with_last by (a_closure f direct) objects in
    let pairs1 = with_value (func_name f) v pairs in
    let names1 = with_name (func_name f) (es.Obj place) names in
    let cases = elim (is_declared fs x) as (λ b. is_declared fs x ≡ b → (same_units x (func_name f) || b) ≡ true → OptVal h (value_at x (bound_pairs fs direct by objects1 pairs1)) (name_value x (bound_names fs (suc (suc place)) names1))) [
      | true ↦ λ later e. granted_alike fs (suc (suc place)) by direct objects1 h given.1 x later pairs1 names1
      | false ↦ λ out e.
          let same : x ≡ func_name f = same_text x (func_name f) (sym (this_one (same_units x (func_name f)) e)) in
          rw (pairs_other fs direct by objects1 pairs1 x out, functions_other fs (suc (suc place)) names1 x out)
          (subst (λ q. OptVal h (value_at q pairs1) (name_value q names1)) (sym same)
          (rw (value_at-with_value (func_name f) v pairs, name_value-with_name (func_name f) (es.Obj place) names) given.0))
    ] in cases refl is
  where
    this_one : (b : Bool) → (b || false) ≡ true → b ≡ true
    this_one true e = refl
    this_one false e = cc

-- one of them gets its name

module _ (g : Tags) (S : Store) (base h : Objects) (by : ℕ) (f : c.Tree c.func) (direct chain : List ℕ) (place : ℕ) (awaits : Awaits f chain by place S.codes h) where
  abbrev pub function : heap.Object
  function = marked_object awaits.number (length (declared_code f chain).params) by (suc place)

  abbrev pub after : Objects
  after = named_at h place (marked_object awaits.number (length (declared_code f chain).params) by (suc place)) by

  -- the closures that there were
  closures_where : {objects : ℕ → List Object} {m : ℕ} → by < 64 → AreScopes S → ObjectsAre first place_of objects h m → ClosuresAre objects g (with_heap S h) → ClosuresAre objects g (with_heap S after)
  closures_where {objects = objects} below are old r = λ a n q direct' known.
      let p = r a n q direct' known in (
        p.0,
        λ i named. by_number i place (CodeIs a g (with_heap S after) q direct' i)
            (λ same. absurd (newer a n q direct' known (sym (ap heap.tag_of (ap (object_at after) same ∙ where_named h place _ function by awaits.there refl)) ∙ named)))
            (λ ne. code_stays (where_other h place _ function by awaits.there refl i ne) (shaped_heap g (with_heap S h) after) are are (p.1 i (sym (ap heap.tag_of (where_other h place _ function by awaits.there refl i ne)) ∙ named))),
      )
    where
      newer : (a n : ℕ) (q : c.Tree c.func) (direct' : List ℕ) → slice_get (objects a) n ≡ Some (a_closure q direct') → tag.Made by (count_at (slice_get h.counts by)) ≡ tag.Made a n → ⊥
      newer a n q direct' known e =
          let lt = slice_get_within (objects a) n (a_closure q direct') known in
          let number : count_at (slice_get h.counts by) ≡ length (objects by) = ap count_at (old.count by below) in
          let module_is : by ≡ a = cc in
          let number_is : count_at (slice_get h.counts by) ≡ n = cc in
          omega (arith, lt, number, number_is, ap (λ k. length (objects k)) module_is)

  pub begun_next : {objects : ℕ → List Object} {vars free : Names} {m : ℕ} → by < 64 → suc m ≤ 4294967295 → length base.list ≤ place → length first.list ≤ place → AreScopes S → Captured vars free by g direct chain S → Guest vars free c.func f → Begun objects base g (with_heap S h) m → Begun (with_last by (a_closure f direct) objects) base g (with_heap S after) (suc m)
  begun_next {objects = objects} {vars = vars} {free = free} below few new large are captured guest r =
      let is : rows.IsFunction Rattle.rows.specs.Rows.closure (row_relation_tagged function) = record { class = refl; proto = refl; kind = refl; no_text = refl; no_value = refl } in
      let made = objects_where h place _ function by awaits.there refl objects (a_closure f direct) below large few r.objects (marked_is_new awaits.number (length (declared_code f chain).params) by (suc place)) is in
      let there = where_named h place _ function by awaits.there refl in
      let code : CodeIs by g (with_heap S after) f direct place = record {
        number = awaits.number;
        callable = ap heap.callable_of there;
        chain = chain;
        code = awaits.code;
        simple = ap (λ o. is_some (find simple_mark (heap.props_of o))) there;
        vars = vars;
        free = free;
        captured = captured_stays (shaped_heap g S after) are are captured;
        guest = guest;
      } in
      record {
        objects = made;
        keeps = where_keeps h place _ function by awaits.there refl r.keeps new (room by below few r.objects);
        no_node = where_no_node h place _ function by awaits.there refl r.no_node;
        closures = closures_last objects by f direct place below made (where_given h place _ function by awaits.there refl objects (a_closure f direct) below large few r.objects (marked_is_new awaits.number (length (declared_code f chain).params) by (suc place)) is) code (closures_where below are r.objects r.closures);
      }
    where
      row_relation_tagged : heap.Object → heap.Object
      row_relation_tagged o = Rattle.row_simulation.proofs.Changes.tagged o (tag.Made by (count_at (slice_get h.counts by)))

  -- it has the name that the world gives, and other names stay
  pub named_next : {objects : ℕ → List Object} {m : ℕ} → by < 64 → Begun objects base g (with_heap S h) m → rows.Named after (made_name by (length (objects by))) place
  named_next below r = ap heap.tag_of (where_named h place _ function by awaits.there refl) ∙ ap (tag.Made by) (ap count_at (r.objects.count by below))

  pub later_next : Later h after
  later_next = record {
    still = where_still h place _ function by awaits.there refl;
    plain = λ i p. by_number i place (rows.IsPlain first after i)
        (λ same. absurd (no_object (sym (ap heap.class_of awaits.there) ∙ sym (ap (λ j. heap.class_of (object_at h j)) same) ∙ ap heap.class_of p.there ∙ p.class)))
        (λ ne. record { object = p.object; there = where_other h place _ function by awaits.there refl i ne ∙ p.there; tag = p.tag; class = p.class; large = p.large });
  }
    where
      no_object : class.Function ≡ class.Object → ⊥
      no_object e = cc
