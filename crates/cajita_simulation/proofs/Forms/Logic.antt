-- `&&`, `||`, `?:` and the comma (ES3 11.11, 11.12, 11.14): which part goes on by a value that counts as true on both sides.
use Rattle.std.proofs.Common.{◌≡◌, ℕ, suc, ◌+◌, ◌<◌, Bool, true, false, List, [], ◌∷◌, Option, Some, None, refl, sym, ap, ◌∙◌, subst, cond, arith}
use Rattle.std.specs.Prelude.{is_some}
use Rattle.plans.specs.Plans.{bind, enter}
use Rattle.acts.specs.Acts.{Places, put, held}
use Rattle.es3_tree.specs.Tree as t
use Rattle.es3_objects.specs.declared.value.Value.TheVariants as es
use Rattle.es3_objects.specs.declared.value.Class.{Class}
use Rattle.es3_objects.specs.declared.value.Class.TheVariants as class
use Rattle.es3_objects.specs.declared.value.FuncKind.{FuncKind}
use Rattle.es3_objects.specs.declared.value.FuncKind.TheVariants as kind
use Rattle.es3_heap.specs.Objects.{Objects, Callable, object_at, class_of, callable_of}
use Rattle.es3_heap.specs.Properties.{own}
use Rattle.es3_convert.specs.Comparisons.{truth_of}
use Rattle.es3_language.specs.Store.{Store}
use Rattle.es3_language.specs.Meaning as Target
use Rattle.rows.specs.Core.{seen_true}
use Rattle.cajita_tree.specs.Tree as c
use Rattle.cajita_meaning.specs.World.{Value, World}
use Rattle.cajita_meaning.specs.Doing as direct
use Rattle.cajita_meaning.specs.Asking.{first}
use Rattle.cajita_meaning.specs.Direct as Direct
use Rattle.cajita_meaning.specs.Direct.{Item}
use Rattle.heap_rows.specs.Marks.{simple_mark}
use Rattle.heap_rows.specs.Doing as es3
use Rattle.heap_rows.specs.Doing.{sort_seen}
use Rattle.row_simulation.proofs.Sights.{seen_alike}
use Rattle.page_natives.specs.Natives.{Kept}
use Rattle.cajita_simulation.proofs.Doing as Source
use Rattle.cajita_simulation.proofs.Relation.{EsValue, Val, Here, env_of, Tags, Temps, Rel, stays_step}
use Rattle.cajita_simulation.proofs.Laws.{ValueLaw, ValueBody, NextValue, value_from, value_since, Room, room_part, with_part, give, Cont, Cont', M}

-- what is seen of a value of ES3 counts as it does itself

kind_true : (simple : Bool) (q : Callable) (k : FuncKind) → q.kind ≡ k → seen_true (sort_seen simple (Some q)) ≡ true
kind_true true q (kind.Code n) e = rw e refl
kind_true false q (kind.Code n) e = rw e refl
kind_true simple q (kind.Simple n) e = rw e refl
kind_true simple q (kind.Constructor n) e = rw e refl
kind_true simple q (kind.Exophoric n w) e = rw e refl

sort_true : (simple : Bool) (q : Option Callable) → seen_true (sort_seen simple q) ≡ true
sort_true simple None = refl
sort_true simple (Some q) = kind_true simple q q.kind refl

class_true : (n : ℕ) (h : Objects) (o : ℕ) (k : Class) → seen_true (es3.see_object n h o k).sight ≡ true
class_true n h o class.Object = refl
class_true n h o class.Array = refl
class_true n h o class.Function = sort_true (is_some (own h o simple_mark)) (callable_of (object_at h o))
class_true n h o class.Error = refl
class_true n h o class.Node = refl

text_true : (us : List ℕ) → seen_true (Rattle.rows.specs.Rows.a_text us) ≡ truth_of (es.Text us)
text_true [] = refl
text_true (u ∷ us) = refl

see_true : (h : Objects) (n : ℕ) (e : EsValue) → seen_true (es3.see h n e).sight ≡ truth_of e
see_true h n es.Undefined = refl
see_true h n es.Null = refl
see_true h n (es.Bool b) = refl
see_true h n (es.Num i) = refl
see_true h n (es.Text us) = text_true us
see_true h n (es.Obj o) = class_true n h o (class_of (object_at h o))

-- one of two plans on each side, by a value that both have
pub decided_match : {H : Here} {T : Temps} {d k : ℕ} (p l : ℕ) (at : Places Value) (so other : Source.Act) (first_side other_side : Target.Plan) (e : EsValue) {w : World} {z : List Item} {n : ℕ} {g : Tags} {s : Store} {y : Kept} {m : ℕ} (next : Cont) (next' : Cont') → Val s.heap (first (held at (p ∷ []))) e → Rel H T k w z n g s y m
    → M H d (bind (Source.act_plan H (suc l) (put l [] at) so w) next) z n (bind first_side next') y m
    → M H d (bind (Source.act_plan H (suc l) (put l [] at) other w) next) z n (bind other_side next') y m
    → M H d (bind (Source.act_plan H l at (Direct.decide p so other) w) next) z n (bind (cond (truth_of e) first_side other_side) next') y m
decided_match {H = H} {d = d} p l at so other first_side other_side e {w = w} {z = z} {n = n} {s = s} {y = y} {m = m} next next' is r f g =
    let v = first (held at (p ∷ [])) in
    let same : truth_of e ≡ seen_true (direct.see w 0 v).sight = sym (see_true s.heap 0 e) ∙ ap seen_true (sym (seen_alike w r.all.objects 0 v e is).sight) in
    subst (λ b. M H d (bind (Source.act_plan H (suc l) (put l [] at) (cond b so other) w) next) z n (bind (cond (truth_of e) first_side other_side) next') y m) same
    (elim (truth_of e) as (λ b. M H d (bind (Source.act_plan H (suc l) (put l [] at) (cond b so other) w) next) z n (bind (cond b first_side other_side) next') y m) [
      | true ↦ f
      | false ↦ g
    ])

-- a part that is the last one: its value is the form's
pub last_part : {H : Here} {T : Temps} {d a b q k : ℕ} {e : c.Tree c.expr} {e' : t.Tree t.expr} {w : World} {z : List Item} {n : ℕ} {g : Tags} {s : Store} {y : Kept} {m : ℕ} {next : Cont} {next' : Cont'} → a < d → Room H T b q → ValueLaw H d b q e e' → Rel H T k w z n g s y m → NextValue H T a (suc k) w g s (suc m) next next'
    → M H a (enter (Source.value_of e H) w (λ e w'. bind (Source.on_value_of Source.give e w') next)) z n (enter (Target.value_of e' (env_of H)) s next') y m
last_part lt room law r x = law.on lt room r (record {
  gives = record { on = λ c le v u w z n g s y m is r1 keep. x.gives.on c le v u w z n g s y m is r1 keep };
  throws = record { on = λ c le v u w z n g s y m is r1 keep. x.throws.on c le v u w z n g s y m is r1 keep };
})

pub and_body : {H : Here} {d b qx qy : ℕ} {x y : c.Tree c.expr} {x' y' : t.Tree t.expr} → ValueLaw H d b qx x x' → ValueLaw H d (b + qx) qy y y' → ValueBody H d b (qx + qy) (c.and x y) (t.and x' y')
and_body {H = H} {y = y} {y' = y'} px py = record {
  on = λ {k = k} {next = next} {next' = next'} lt room r x1.
      with_part lt (room_part (omega arith) (omega arith) room) (omega arith) (omega arith) px r x1.throws (λ c1 le1 v1 e1 w1 z1 n1 g1 s1 y1 m1 is1 r1 k1.
      let x2 = value_since le1 k1 x1 in
      decided_match 1 2 (Source.one v1) (Direct.the y H.around Direct.give) (Direct.give 1) _ _ e1 next next' is1 r1
      (last_part (omega arith) (room_part (omega arith) (omega arith) room) py r1 (value_from {j = suc k} (omega arith) (omega arith) (stays_step (omega arith)) x2))
      (give {j = suc k} (omega arith) (omega arith) x2 is1 r1));
}

pub or_body : {H : Here} {d b qx qy : ℕ} {x y : c.Tree c.expr} {x' y' : t.Tree t.expr} → ValueLaw H d b qx x x' → ValueLaw H d (b + qx) qy y y' → ValueBody H d b (qx + qy) (c.or x y) (t.or x' y')
or_body {H = H} {y = y} {y' = y'} px py = record {
  on = λ {k = k} {next = next} {next' = next'} lt room r x1.
      with_part lt (room_part (omega arith) (omega arith) room) (omega arith) (omega arith) px r x1.throws (λ c1 le1 v1 e1 w1 z1 n1 g1 s1 y1 m1 is1 r1 k1.
      let x2 = value_since le1 k1 x1 in
      decided_match 1 2 (Source.one v1) (Direct.give 1) (Direct.the y H.around Direct.give) _ _ e1 next next' is1 r1
      (give {j = suc k} (omega arith) (omega arith) x2 is1 r1)
      (last_part (omega arith) (room_part (omega arith) (omega arith) room) py r1 (value_from {j = suc k} (omega arith) (omega arith) (stays_step (omega arith)) x2)));
}

pub choice_body : {H : Here} {d b qx qy qz : ℕ} {x y z : c.Tree c.expr} {x' y' z' : t.Tree t.expr} → ValueLaw H d b qx x x' → ValueLaw H d (b + qx) qy y y' → ValueLaw H d (b + (qx + qy)) qz z z' → ValueBody H d b (qx + (qy + qz)) (c.choice x y z) (t.choice x' y' z')
choice_body {H = H} {y = y} {z = z} px py pz = record {
  on = λ {k = k} {next = next} {next' = next'} lt room r x1.
      with_part lt (room_part (omega arith) (omega arith) room) (omega arith) (omega arith) px r x1.throws (λ c1 le1 v1 e1 w1 z1 n1 g1 s1 y1 m1 is1 r1 k1.
      let x2 = value_from {j = suc k} (omega arith) (omega arith) (stays_step (omega arith)) (value_since le1 k1 x1) in
      decided_match 1 2 (Source.one v1) (Direct.the y H.around Direct.give) (Direct.the z H.around Direct.give) _ _ e1 next next' is1 r1
      (last_part (omega arith) (room_part (omega arith) (omega arith) room) py r1 x2)
      (last_part (omega arith) (room_part (omega arith) (omega arith) room) pz r1 x2));
}

pub comma_body : {H : Here} {d b qx qy : ℕ} {x y : c.Tree c.expr} {x' y' : t.Tree t.expr} → ValueLaw H d b qx x x' → ValueLaw H d (b + qx) qy y y' → ValueBody H d b (qx + qy) (c.comma x y) (t.comma x' y')
comma_body px py = record {
  on = λ {k = k} {next = next} {next' = next'} lt room r x1.
      with_part lt (room_part (omega arith) (omega arith) room) (omega arith) (omega arith) px r x1.throws (λ c1 le1 v1 e1 w1 z1 n1 g1 s1 y1 m1 is1 r1 k1.
      last_part (omega arith) (room_part (omega arith) (omega arith) room) py r1 (value_from {j = suc k} (omega arith) (omega arith) (stays_step (omega arith)) (value_since le1 k1 x1)));
}
