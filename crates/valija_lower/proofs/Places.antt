-- What is called, written, stepped, deleted or asked for its type is lowered by its place.
use Rattle.std.proofs.Common.{◌≡◌, ℕ, ◌+◌, Bool, true, false, Option, None, Some, refl, ap, arith}
use Rattle.es3_tree.specs.declared.UnOp.{UnOp}
use Rattle.es3_tree.specs.declared.UnOp.TheVariants as op
use Rattle.es3_tree.specs.declared.BinOp.{BinOp}
use Rattle.es3_tree.specs.Tree as t
use Rattle.es3_tree.specs.Placed as p
use Rattle.es3_tree.specs.Placed.{Placed}
use Rattle.cajita_names.specs.Scope.{Scope}
use Rattle.valija_forms.specs.Numbered.{one, both, three}
use Rattle.valija_forms.specs.Forms.{over_keys, key_now}
use Rattle.valija_parts.specs.Lower.{lowered, written}
use Rattle.valija_parts.specs.Places.{place, target, called, prefixed, stepped, steps_taken, assigned, held_by, put, gone_over}

at_same : {A : Type 0} (n : ℕ) (f : ℕ → A) → f n ≡ f (n + 0)
at_same n f =
    let same : n ≡ n + 0 = omega arith in
    ap f same

pub lowered_call : (s : Scope) (e : Placed t.expr) (es : Placed t.exprs) (n : ℕ) → lowered s t.expr (p.call e es) n ≡ both (called s) (place s e) (lowered s t.exprs es) n
unfolding lowered one both three
lowered_call s (p.name x) es n = refl
lowered_call s (p.dot e k) es n = refl
lowered_call s (p.index e f) es n = refl
lowered_call s e es n = refl

pub lowered_unary : (s : Scope) (o : UnOp) (e : Placed t.expr) (at n : ℕ) → lowered s t.expr (p.unary o e at) n ≡ one (prefixed s o) (place s e) n
unfolding lowered one both
lowered_unary s op.Delete (p.name x) at n = refl
lowered_unary s op.Delete (p.dot e k) at n = refl
lowered_unary s op.Delete (p.index e f) at n = refl
lowered_unary s op.Delete e at n = refl
lowered_unary s op.Typeof (p.name x) at n = refl
lowered_unary s op.Typeof (p.dot e k) at n = refl
lowered_unary s op.Typeof (p.index e f) at n = refl
lowered_unary s op.Typeof e at n = refl
lowered_unary s o (p.name x) at n = refl
lowered_unary s o (p.dot e k) at n = refl
lowered_unary s o (p.index e f) at n = refl
lowered_unary s o e at n = refl

pub lowered_step : (s : Scope) (up before : Bool) (e : Placed t.expr) (n : ℕ) → lowered s t.expr (p.step up before e) n ≡ one (stepped s up before n) (place s e) (n + steps_taken s before e)
unfolding lowered one both
lowered_step s up before (p.name x) n = refl
lowered_step s up true (p.dot e k) n = refl
lowered_step s up false (p.dot e k) n = refl
lowered_step s up true (p.index e f) n = refl
lowered_step s up false (p.index e f) n = refl
lowered_step s up before e n = at_same n (one (stepped s up before n) (place s e))

pub lowered_assign : (s : Scope) (o : Option BinOp) (e v : Placed t.expr) (n : ℕ) → lowered s t.expr (p.assign o e v) n ≡ both (assigned s o n) (place s e) (lowered s t.expr v) (n + held_by o e)
unfolding lowered one both three
lowered_assign s None (p.name x) v n = at_same n (both (assigned s None n) (place s (p.name x)) (lowered s t.expr v))
lowered_assign s None (p.dot e k) v n = at_same n (both (assigned s None n) (place s (p.dot e k)) (lowered s t.expr v))
lowered_assign s None (p.index e f) v n = at_same n (both (assigned s None n) (place s (p.index e f)) (lowered s t.expr v))
lowered_assign s None e v n = at_same n (both (assigned s None n) (place s e) (lowered s t.expr v))
lowered_assign s (Some o) (p.name x) v n = at_same n (both (assigned s (Some o) n) (place s (p.name x)) (lowered s t.expr v))
lowered_assign s (Some o) (p.dot e k) v n = refl
lowered_assign s (Some o) (p.index e f) v n = refl
lowered_assign s (Some o) e v n = at_same n (both (assigned s (Some o) n) (place s e) (lowered s t.expr v))

written_there : (s : Scope) (i : Placed t.loop_target) (v : Placed t.expr) (n : ℕ) → written s i v n ≡ one (put s v) (target s i) n
unfolding lowered written one both
written_there s (p.loop_var x) v n = refl
written_there s (p.loop_expr (p.name x)) v n = refl
written_there s (p.loop_expr (p.dot e k)) v n = refl
written_there s (p.loop_expr (p.index e f)) v n = refl
written_there s (p.loop_expr e) v n = refl

pub lowered_for_in : (s : Scope) (i : Placed t.loop_target) (e : Placed t.expr) (x : Placed t.stmt) (n : ℕ)
    → lowered s t.stmt (p.for_in i e x) n ≡ three (gone_over s n) (target s i) (lowered s t.expr e) (lowered s t.stmt x) (n + 3)
unfolding lowered one three
lowered_for_in s i e x n =
    ap (λ w. (over_keys n (n + 1) (n + 2) w.0 (lowered s t.expr e w.1).0 (lowered s t.stmt x (lowered s t.expr e w.1).1).0, (lowered s t.stmt x (lowered s t.expr e w.1).1).1)) (written_there s i (key_now n) (n + 3))
