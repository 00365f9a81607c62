-- `var`: the values of its items from the left, each for its variable, and then what follows them.
use Rattle.std.proofs.Common.{◌≡◌, ℕ, suc, ◌+◌, ◌≤◌, ◌<◌, false, List, [], ◌∷◌, None, cond, sym, ap, ◌∙◌, subst, arith}
use Rattle.std.specs.Prelude.{slice_get}
use Rattle.plans.specs.Plans.{bind}
use Rattle.acts.specs.Acts.{Places, put}
use Rattle.es3_tree.specs.Tree as t
use Rattle.es3_language.specs.Store.{Store, with_slot}
use Rattle.es3_language.specs.Arguments.{is_fixed}
use Rattle.es3_language.specs.References.{slot, resolve, resolve_arguments, reference, write}
use Rattle.es3_language.specs.Statements.{var_end}
use Rattle.es3_language.specs.Meaning as Target
use Rattle.cajita_tree.specs.Tree as c
use Rattle.cajita_rewrite.specs.Rewrite.{rewritten, temps}
use Rattle.cajita_meaning.specs.World.{Value, World}
use Rattle.cajita_meaning.specs.Asking.{first}
use Rattle.cajita_meaning.specs.Direct as Direct
use Rattle.cajita_meaning.specs.Direct.{Item}
use Rattle.page_natives.specs.Natives.{Kept}
use Rattle.cajita_simulation.specs.Guest.{GuestName, Guest}
use Rattle.cajita_simulation.proofs.Doing as Source
use Rattle.cajita_simulation.proofs.Relation.{EsValue, Here, env_of, Tags, Temps, Rel, Stays, val_keep, stays_refl, stays_trans, stays_before, rel_less}
use Rattle.cajita_simulation.proofs.Scopes.{resolve_stays}
use Rattle.cajita_simulation.proofs.Written.{slot_written, shared_store}
use Rattle.cajita_simulation.proofs.Writes.{find, rel_assigned, stays_assigned, rel_shared, stays_shared}
use Rattle.cajita_simulation.proofs.Forms.Assign.{found_shared}
use Rattle.cajita_simulation.proofs.Laws.{BareBody, Throws, throws_from, Cont, Cont', M, Room, room_part, with_part}
use Rattle.cajita_simulation.proofs.Forms.Values.{Values}

-- a guest's variable is written where it was found
pub name_written : (chain : List ℕ) (s s' : Store) (x : List ℕ) (c : ℕ) (v : EsValue) → GuestName x → resolve chain s x ≡ slot c x → is_fixed (slice_get s'.scopes c) ≡ false → write (reference chain s x) v s' ≡ with_slot c x v (shared_store s' c x v)
name_written chain s s' x c v guest at free =
    ap (λ b. write (cond b (resolve_arguments chain s) (resolve chain s x)) v s') guest.own_name ∙ ap (λ r. write r v s') at ∙ slot_written s' c x v free

-- what follows the items, at whatever places, and what was thrown
pub record ItemsEnd (H : Here) (T : Temps) (d k : ℕ) (w0 : World) (g0 : Tags) (s0 : Store) (i : ℕ) (end : Source.Act) (end' : Store → Target.Plan) (next : Cont) (next' : Cont') : Type 0 where
  pub on : (c : ℕ) → c ≤ d → (p : ℕ) (at : Places Value) (w : World) (z : List Item) (n : ℕ) (g : Tags) (s : Store) (y : Kept) (m : ℕ) → Rel H T k w z n g s y m → Stays w0 g0 s0 i w g s m → M H c (bind (Source.act_plan H p at end w) next) z n (bind (end' s) next') y m
  pub throws : Throws H T d k w0 g0 s0 i next next'

items_since : {H : Here} {T : Temps} {d c k : ℕ} {w w' : World} {g g' : Tags} {s s' : Store} {i l : ℕ} {end : Source.Act} {end' : Store → Target.Plan} {next : Cont} {next' : Cont'} → c ≤ d → Stays w g s (suc i) w' g' s' l → ItemsEnd H T d k w g s i end end' next next' → ItemsEnd H T c k w' g' s' l end end' next next'
items_since {k = k} le keep x = record {
  on = λ c' le' p at w z n g s y m r k1. x.on c' (omega arith) p at w z n g s y m r (stays_trans (stays_before keep) k1);
  throws = throws_from {j = k} {k = k} le (omega arith) (stays_before keep) x.throws;
}

pub items_match : {H : Here} {T : Temps} {d : ℕ} (law : Values H d) (end : Source.Act) (end' : Store → Target.Plan) (is : c.Tree c.items) → Guest H.vars H.free c.items is → (a b k p : ℕ) (at : Places Value) {w : World} {z : List Item} {n : ℕ} {g : Tags} {s : Store} {y : Kept} {m : ℕ} (next : Cont) (next' : Cont') → a < d → Room H T b (temps c.items is) → Rel H T k w z n g s y m → ItemsEnd H T a k w g s m end end' next next' → M H a (bind (Source.items is H end p at w) next) z n (bind (Target.var_list (rewritten false c.items b is) (env_of H) s end') next') y m
unfolding rewritten
items_match law end end' c.no_items guest a b k p at next next' lt room r x = x.on a (omega arith) p at _ _ _ _ _ _ _ r stays_refl
items_match law end end' (c.more_items x c.no_expr rest) guest a b k p at next next' lt room r x1 = items_match law end end' rest guest.4 a (b + 0) k p at next next' lt (room_part (omega arith) (omega arith) room) r x1
items_match {H = H} law end end' (c.more_items x (c.some_expr e) rest) guest a b k p at {s = s} next next' lt room r x1 =
    let c2 = b + temps c.expr e in
    let place = r.here.captured.names x guest.0 in
    with_part {e' = rewritten false c.expr b e} {go = λ v w1. Source.items rest H end (suc (suc p)) (put (suc p) [] (put p (v ∷ []) at)) (Source.assign H x (first (put p (v ∷ []) at p)) w1)} {go' = λ v s1. Target.var_list (rewritten false c.items c2 rest) (env_of H) (write (reference H.chain s x) v s1) end'} lt (room_part (omega arith) (omega arith) room) (omega arith) (omega arith) (law b e guest.3) r x1.throws (λ c1 le1 v1 e1 w1 z1 n1 g1 s1 y1 m1 is1 r1 k1.
    let there = resolve_stays H.chain s s1 x place.scope r.here.captured.within r.all.scopes.are r1.all.scopes.are (λ n lt. k1.shaped.shape n x lt) place.at in
    let shared = rel_shared place.scope x e1 r1 in
    let kept = stays_shared place.scope x e1 r1 in
    let f = find x place.scope (found_shared x place.scope there r1 shared kept) guest.2 shared in
    let at2 = put (suc p) [] (put p (v1 ∷ []) at) in
    subst (λ s2. M H c1 (bind (Source.items rest H end (suc (suc p)) at2 (Source.assign H x (first (put p (v1 ∷ []) at p)) w1)) next) z1 n1 (bind (Target.var_list (rewritten false c.items c2 rest) (env_of H) s2 end') next') y1 m1) (sym (name_written H.chain s s1 x place.scope e1 guest.2 place.at (k1.shaped.fixed place.scope place.below ∙ place.written guest.1)))
    (subst (λ u. M H c1 (bind (Source.items rest H end (suc (suc p)) at2 (Source.assign H x u w1)) next) z1 n1 (bind (Target.var_list (rewritten false c.items c2 rest) (env_of H) (with_slot place.scope x e1 (shared_store s1 place.scope x e1)) end') next') y1 m1) (sym (Source.first_there p v1 at))
    (items_match law end end' rest guest.4 c1 c2 k (suc (suc p)) at2 next next' (omega arith) (room_part (omega arith) (omega arith) room) (rel_less (omega arith) (rel_assigned x place.scope v1 e1 guest.2 f (val_keep kept.heap v1 e1 is1) shared)) (items_since le1 (stays_trans k1 (stays_trans kept (stays_assigned H x place.scope v1 e1 f.value f.there))) x1))))

pub var_body : {H : Here} {d b : ℕ} (law : Values H d) (is : c.Tree c.items) → Guest H.vars H.free c.items is → BareBody H d b (temps c.items is) (c.var is) (t.var (rewritten false c.items b is))
var_body {H = H} {b = b} law is guest = record {
  on = λ {k = k} {next = next} {next' = next'} ls to lt room r x.
      items_match law Direct.finish var_end is guest _ b (suc k) 1 Source.start next next' lt room (rel_less (omega arith) r) (record {
        on = λ c le p at w z n g s y m r k1. x.finishes.on c le tt None w z n g s y m r k1;
        throws = x.throws;
      });
}
