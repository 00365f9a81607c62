-- The law of each form of a guest's module, one line a form.
use Rattle.std.proofs.Common.{Bool, ◌≡◌, ℕ, zero, suc, ◌≤◌, ◌<◌, ◌+◌, true, false, Some, None, refl, sym, subst, arith}
use Rattle.cajita_tree.specs.Tree as c
use Rattle.cajita_rewrite.specs.Rewrite.{rewritten, temps}
use Rattle.es3_tree.specs.declared.BinOp.TheVariants as bin
use Rattle.es3_tree.specs.declared.UnOp.TheVariants as un
use Rattle.es3_language.specs.Store.{Store}
use Rattle.es3_language.specs.Meaning as Target
use Rattle.cajita_simulation.specs.Guest.{Guest}
use Rattle.cajita_simulation.proofs.Relation.{Here}
use Rattle.cajita_simulation.proofs.Laws.{ValueBody, EffectBody, OwnBody, BareBody, bare_effect, bare_own, value_law, effect_law, effect_entered, own_law, value_zero, effect_zero, entered_zero, own_zero}
use Rattle.cajita_simulation.proofs.Forms.Values.{Values}
use Rattle.cajita_simulation.proofs.Forms.Own.{Owns}
use Rattle.cajita_simulation.proofs.Forms.List.{Effects}
use Rattle.cajita_simulation.proofs.Forms.Literal.{null_body, truth_body, number_body, text_body}
use Rattle.cajita_simulation.proofs.Forms.Name.{name_body}
use Rattle.cajita_simulation.proofs.Forms.Arguments.{args_body}
use Rattle.cajita_simulation.proofs.Forms.Binary.{binary_body}
use Rattle.cajita_simulation.proofs.Forms.Unary.{unary_body, typeof_body, TypeLaw, type_zero, type_law, type_of_name, type_of_args}
use Rattle.cajita_simulation.proofs.Forms.Update.{compound_body, step_before_body, step_behind_body}
use Rattle.cajita_simulation.proofs.Forms.Compound.{compound_member_body, compound_key_body}
use Rattle.cajita_simulation.proofs.Forms.Step.{before_body, before_key_body}
use Rattle.cajita_simulation.proofs.Forms.Behind.{behind_body, behind_key_body}
use Rattle.cajita_simulation.proofs.Forms.Function.{function_body}
use Rattle.cajita_simulation.proofs.Forms.OwnName.{own_name_body}
use Rattle.cajita_simulation.proofs.Forms.Read.{read_body}
use Rattle.cajita_simulation.proofs.Calling.Laws.{NativeAt, ClosureAt, ClosureLaw, NativeLaw}
use Rattle.cajita_simulation.proofs.Calling.Body.{Entries, EntryAt, closure_law, entry_law}
use Rattle.cajita_simulation.proofs.Calling.Native.{native_zero, native_law}
use Rattle.cajita_simulation.proofs.Forms.Call.{call_body}
use Rattle.cajita_simulation.proofs.Forms.Method.{method_body, new_body}
use Rattle.cajita_simulation.proofs.Forms.Array.{array_body}
use Rattle.cajita_simulation.proofs.Forms.Record.{record_body}
use Rattle.cajita_simulation.proofs.Forms.Assign.{assign_body}
use Rattle.cajita_simulation.proofs.Forms.Logic.{and_body, or_body, choice_body, comma_body}
use Rattle.cajita_simulation.proofs.Forms.Delete.{delete_body}
use Rattle.cajita_simulation.proofs.Forms.Put.{put_body}
use Rattle.cajita_simulation.proofs.Forms.Has.{in_body, instance_body}
use Rattle.cajita_simulation.proofs.Forms.Statement.{own_expression_body, expression_body, empty_body, throw_body, return_body, leave_body, break_body, continue_body}
use Rattle.cajita_simulation.proofs.Forms.Var.{var_body}
use Rattle.cajita_simulation.proofs.Forms.Block.{block_body, branch_body}
use Rattle.cajita_simulation.proofs.Forms.Label.{label_body}
use Rattle.cajita_simulation.proofs.Forms.Loop.{MaybeLaw, MaybeBody, LaterLaw, Part, while_body, do_body, for_body, for_var_body, for_first_body, later_law, later_zero}
use Rattle.cajita_simulation.proofs.Forms.ForIn.{variable_in_body, member_in_body}
use Rattle.cajita_simulation.proofs.Forms.Switch.{switch_body}
use Rattle.cajita_simulation.proofs.Forms.Try.{try_body}

-- the laws of operands whose type is asked
abbrev Types : Here → ℕ → Type 0
Types H d = (b : ℕ) (e : c.Tree c.expr) → Guest H.vars H.free c.expr e → TypeLaw H d b (temps c.expr e) e (rewritten false c.expr b e)

value_body : {H : Here} {d : ℕ} → H.by < 64 → ClosureLaw H d → NativeLaw H d → Values H d → Types H d → (b : ℕ) (e : c.Tree c.expr) → Guest H.vars H.free c.expr e → ValueBody H d b (temps c.expr e) e (rewritten false c.expr b e)
unfolding rewritten
value_body few closures natives law types b c.null g = null_body
value_body few closures natives law types b (c.bool a) g = truth_body a
value_body few closures natives law types b (c.num n) g = number_body n
value_body few closures natives law types b (c.text us) g = text_body us
value_body few closures natives law types b (c.name x) g = name_body x g.0 g.1
value_body few closures natives law types b c.args g = args_body g
value_body few closures natives law types b (c.array es) g = array_body few law es g
value_body few closures natives law types b (c.record_of fs) g = record_body few law fs g
value_body few closures natives law types b (c.function (c.fun None params args body)) g = function_body few params args body g
value_body few closures natives law types b (c.function (c.fun (Some x) params args body)) g = own_name_body few x params args body g.0 g.1
value_body few closures natives law types b (c.read e k) g = read_body few law (law b e g.0) k g.1
value_body few closures natives law types b (c.call e es) g = call_body few closures natives law (law b e g.0) es g.1
value_body few closures natives law types b (c.method e k es) g = method_body few closures natives law (law b e g.0) k g.1 es g.2
value_body few closures natives law types b (c.new e es) g = new_body few closures natives law (law b e g.0) es g.1
value_body few closures natives law types b (c.delete e k) g = delete_body few law (law b e g.0) k g.1
value_body few closures natives law types b (c.step up true (c.variable x)) g = step_before_body up x g.0 g.1 g.2
value_body few closures natives law types b (c.step up false (c.variable x)) g = step_behind_body up x g.0 g.1 g.2
value_body few closures natives law types b (c.step up true (c.member e (c.fixed k))) g = before_body up few k (law (b + 1) e g.0)
value_body few closures natives law types b (c.step up true (c.member e (c.computed f))) g = before_key_body up few (law (b + 2) e g.0) (law (b + 2 + temps _ e) f g.1)
value_body few closures natives law types b (c.step up false (c.member e (c.fixed k))) g = behind_body up few k (law (b + 2) e g.0)
value_body few closures natives law types b (c.step up false (c.member e (c.computed f))) g = behind_key_body up few (law (b + 3) e g.0) (law (b + 3 + temps _ e) f g.1)
value_body few closures natives law types b (c.assign None (c.variable x) e) g = assign_body x g.1.0 g.1.1 g.1.2 (law b e g.2)
value_body few closures natives law types b (c.assign None (c.member e k) v) g = put_body few law (law b e g.0) k g.1 (law _ v g.2)
value_body few closures natives law types b (c.assign (Some op) (c.variable x) e) g = compound_body op g.0 x g.1.0 g.1.1 g.1.2 (law b e g.2)
value_body few closures natives law types b (c.assign (Some op) (c.member e (c.fixed k)) v) g = compound_member_body op g.0 few k (law (b + 1) e g.1) (law (b + 1 + temps _ e) v g.3)
value_body few closures natives law types b (c.assign (Some op) (c.member e (c.computed f)) v) g = compound_key_body op g.0 few (law (b + 2) e g.1) (law (b + 2 + temps _ e) f g.2) (law (b + 2 + (temps _ e + temps _ f)) v g.3)
value_body few closures natives law types b (c.unary un.Delete e) g = absurd g.0
value_body few closures natives law types b (c.unary un.Typeof e) g = typeof_body (types b e g.1)
value_body few closures natives law types b (c.unary op e) g = unary_body op tt (law b e g.1)
value_body few closures natives law types b (c.binary bin.InObject x y) g = in_body few (law b x g.0) (law _ y g.1)
value_body few closures natives law types b (c.binary bin.InstanceOf x y) g = instance_body few (law b x g.0) (law _ y g.1)
value_body few closures natives law types b (c.binary op x y) g = binary_body op tt (law b x g.0) (law _ y g.1)
value_body few closures natives law types b (c.and x y) g = and_body (law b x g.0) (law _ y g.1)
value_body few closures natives law types b (c.or x y) g = or_body (law b x g.0) (law _ y g.1)
value_body few closures natives law types b (c.choice x y z) g = choice_body (law b x g.0) (law _ y g.1) (law _ z g.2)
value_body few closures natives law types b (c.comma x y) g = comma_body (law b x g.0) (law _ y g.1)

abbrev IsNoName : c.Tree c.expr → Type 0
IsNoName (c.name x) = ⊥
IsNoName c.args = ⊥
IsNoName e = Unit {0}

-- only a name is entered as a reference otherwise than for its value
target_is : (H : Here) (b : ℕ) (e : c.Tree c.expr) → Guest H.vars H.free c.expr e → IsNoName e → (env : Target.Env) (s : Store) → Target.target_plan (rewritten false c.expr b e) env s ≡ Target.expr_plan (rewritten false c.expr b e) env s
unfolding rewritten
target_is H b (c.name x) g other env s = absurd other
target_is H b (c.binary bin.InObject x y) g other env s = refl
target_is H b (c.binary bin.InstanceOf x y) g other env s = refl
target_is H b (c.binary op x y) g other env s = refl
target_is H b (c.call e es) g other env s = refl
target_is H b (c.method e k es) g other env s = refl
target_is H b (c.new e es) g other env s = refl
target_is H b (c.delete e k) g other env s = refl
target_is H b (c.assign None (c.member e k) v) g other env s = refl
target_is H b (c.step up true (c.variable x)) g other env s = refl
target_is H b (c.step up false (c.variable x)) g other env s = refl
target_is H b (c.step up true (c.member e (c.fixed k))) g other env s = refl
target_is H b (c.step up true (c.member e (c.computed f))) g other env s = refl
target_is H b (c.step up false (c.member e (c.fixed k))) g other env s = refl
target_is H b (c.step up false (c.member e (c.computed f))) g other env s = refl
target_is H b (c.assign None (c.variable x) e) g other env s = refl
target_is H b (c.assign (Some op) (c.variable x) e) g other env s = refl
target_is H b (c.assign (Some op) (c.member e (c.fixed k)) v) g other env s = refl
target_is H b (c.assign (Some op) (c.member e (c.computed f)) v) g other env s = refl
target_is H b c.null g other env s = refl
target_is H b c.args g other env s = absurd other
target_is H b (c.bool a) g other env s = refl
target_is H b (c.num n) g other env s = refl
target_is H b (c.text us) g other env s = refl
target_is H b (c.array es) g other env s = refl
target_is H b (c.record_of fs) g other env s = refl
target_is H b (c.function f) g other env s = refl
target_is H b (c.read e k) g other env s = refl
target_is H b (c.unary op e) g other env s = refl
target_is H b (c.and x y) g other env s = refl
target_is H b (c.or x y) g other env s = refl
target_is H b (c.choice x y z) g other env s = refl
target_is H b (c.comma x y) g other env s = refl

type_body : {H : Here} {d : ℕ} → (b : ℕ) (e : c.Tree c.expr) → Guest H.vars H.free c.expr e → ValueBody H d b (temps c.expr e) e (rewritten false c.expr b e) → TypeLaw H (suc d) b (temps c.expr e) e (rewritten false c.expr b e)
unfolding rewritten
type_body {H = H} b (c.name x) g go = type_of_name x g.0 g.1
type_body {H = H} b c.args g go = type_of_args g
type_body {H = H} b e g go = type_law (target_is H b e g tt) go

-- a statement that has no value
abbrev IsBare : c.Tree c.stmt → Type 0
IsBare (c.expression e) = ⊥
IsBare x = Unit {0}

-- it is rewritten alike directly in the module and within another statement
rewritten_alike : (b : ℕ) (x : c.Tree c.stmt) → IsBare x → rewritten true c.stmt b x ≡ rewritten false c.stmt b x
unfolding rewritten
rewritten_alike b (c.expression e) is = absurd is
rewritten_alike b (c.for_in (c.variable x) e s) is = refl
rewritten_alike b (c.for_in (c.member o k) e s) is = refl
rewritten_alike b x is = refl

maybe_law : {H : Here} {d : ℕ} → Values H d → (b : ℕ) (e : c.Tree c.maybe_expr) → Guest H.vars H.free c.maybe_expr e → MaybeLaw H d b (temps c.maybe_expr e) e (rewritten false c.maybe_expr b e)
unfolding rewritten
maybe_law law b c.no_expr g = tt
maybe_law law b (c.some_expr e) g = law b e g

maybe_body : {H : Here} {d : ℕ} → H.by < 64 → ClosureLaw H d → NativeLaw H d → Values H d → Types H d → (b : ℕ) (e : c.Tree c.maybe_expr) → Guest H.vars H.free c.maybe_expr e → MaybeBody H d b (temps c.maybe_expr e) e (rewritten false c.maybe_expr b e)
unfolding rewritten
maybe_body few closures natives law types b c.no_expr g = tt
maybe_body few closures natives law types b (c.some_expr e) g = value_body few closures natives law types b e g

-- the laws of later turns
abbrev Later : Here → ℕ → Type 0
Later H d = (b q bt bu bx : ℕ) (e u : c.Tree c.maybe_expr) (x : c.Tree c.stmt) → Guest H.vars H.free c.maybe_expr e → Guest H.vars H.free c.maybe_expr u → Guest H.vars H.free c.stmt x → Part b q bt (temps c.maybe_expr e) → Part b q bu (temps c.maybe_expr u) → Part b q bx (temps c.stmt x) → LaterLaw H d b q e u x (rewritten false c.maybe_expr bt e) (rewritten false c.maybe_expr bu u) (rewritten false c.stmt bx x)

part : {b q base count : ℕ} → b ≤ base → base + count ≤ b + q → Part b q base count
part from to = record { from = from; to = to }

for_law : {H : Here} {d : ℕ} → Values H d → Effects H d → Later H d → (b : ℕ) (i : c.Tree c.first) (e u : c.Tree c.maybe_expr) (x : c.Tree c.stmt) → Guest H.vars H.free c.first i → Guest H.vars H.free c.maybe_expr e → Guest H.vars H.free c.maybe_expr u → Guest H.vars H.free c.stmt x → BareBody H d b (temps c.stmt (c.for_loop i e u x)) (c.for_loop i e u x) (rewritten false c.stmt b (c.for_loop i e u x))
unfolding rewritten
for_law law effects later b c.no_first e u x gi ge gu gx =
    for_body (part (omega arith) (omega arith)) (part (omega arith) (omega arith)) (maybe_law law (b + 0) e ge) (effects (b + (0 + (temps c.maybe_expr e + temps c.maybe_expr u))) x gx)
    (later b (0 + (temps c.maybe_expr e + (temps c.maybe_expr u + temps c.stmt x))) (b + 0) (b + (0 + temps c.maybe_expr e)) (b + (0 + (temps c.maybe_expr e + temps c.maybe_expr u))) e u x ge gu gx (part (omega arith) (omega arith)) (part (omega arith) (omega arith)) (part (omega arith) (omega arith)))
for_law law effects later b (c.first_var is) e u x gi ge gu gx =
    for_var_body law is gi (part (omega arith) (omega arith)) (part (omega arith) (omega arith)) (part (omega arith) (omega arith)) (maybe_law law (b + temps c.items is) e ge) (effects (b + (temps c.items is + (temps c.maybe_expr e + temps c.maybe_expr u))) x gx)
    (later b (temps c.items is + (temps c.maybe_expr e + (temps c.maybe_expr u + temps c.stmt x))) (b + temps c.items is) (b + (temps c.items is + temps c.maybe_expr e)) (b + (temps c.items is + (temps c.maybe_expr e + temps c.maybe_expr u))) e u x ge gu gx (part (omega arith) (omega arith)) (part (omega arith) (omega arith)) (part (omega arith) (omega arith)))
for_law law effects later b (c.first_expr i) e u x gi ge gu gx =
    for_first_body (part (omega arith) (omega arith)) (part (omega arith) (omega arith)) (part (omega arith) (omega arith)) (law b i gi) (maybe_law law (b + temps c.expr i) e ge) (effects (b + (temps c.expr i + (temps c.maybe_expr e + temps c.maybe_expr u))) x gx)
    (later b (temps c.expr i + (temps c.maybe_expr e + (temps c.maybe_expr u + temps c.stmt x))) (b + temps c.expr i) (b + (temps c.expr i + temps c.maybe_expr e)) (b + (temps c.expr i + (temps c.maybe_expr e + temps c.maybe_expr u))) e u x ge gu gx (part (omega arith) (omega arith)) (part (omega arith) (omega arith)) (part (omega arith) (omega arith)))

bare_body : {H : Here} {d : ℕ} → H.by < 64 → Values H d → ((J : Here) → J.by < 64 → Effects J d) → Later H d → (b : ℕ) (x : c.Tree c.stmt) → IsBare x → Guest H.vars H.free c.stmt x → BareBody H d b (temps c.stmt x) x (rewritten false c.stmt b x)
unfolding rewritten
bare_body {H = H} few law effects later b (c.block xs) bare g = block_body (effects H few) xs g
bare_body few law effects later b (c.var is) bare g = var_body law is g
bare_body few law effects later b c.empty bare g = empty_body
bare_body few law effects later b (c.expression e) bare g = absurd bare
bare_body {H = H} few law effects later b (c.branch e x other) bare g = branch_body (effects H few) x other g.1 g.2 (law b e g.0)
bare_body {H = H} few law effects later b (c.while_loop e x) bare g =
    while_body (part (omega arith) (omega arith)) (part (omega arith) (omega arith)) (law b e g.0) (effects H few (b + temps c.expr e) x g.1)
    (later b (temps c.expr e + temps c.stmt x) b b (b + temps c.expr e) (c.some_expr e) c.no_expr x g.0 tt g.1 (part (omega arith) (omega arith)) (part (omega arith) (omega arith)) (part (omega arith) (omega arith)))
bare_body {H = H} few law effects later b (c.do_loop x e) bare g =
    do_body (part (omega arith) (omega arith)) (effects H few b x g.0)
    (later b (temps c.stmt x + temps c.expr e) (b + temps c.stmt x) b b (c.some_expr e) c.no_expr x g.1 tt g.0 (part (omega arith) (omega arith)) (part (omega arith) (omega arith)) (part (omega arith) (omega arith)))
bare_body {H = H} few law effects later b (c.for_loop i e u x) bare g = for_law law (effects H few) later b i e u x g.0 g.1 g.2 g.3
bare_body {H = H} few law effects later b (c.for_in (c.variable x) e s) bare g = variable_in_body few x g.0.0 g.0.1 g.0.2 (law (b + 3) e g.1) (effects H few (b + 3 + temps c.expr e) s g.2)
bare_body {H = H} few law effects later b (c.for_in (c.member o k) e s) bare g =
    member_in_body few law k g.0.1 (law (b + 3) o g.0.0) (law (b + 3 + (temps c.expr o + temps c.key k)) e g.1) (effects H few (b + 3 + (temps c.expr o + (temps c.key k + temps c.expr e))) s g.2)
bare_body few law effects later b (c.continue l) bare g = continue_body l
bare_body few law effects later b (c.break l) bare g = break_body l
bare_body few law effects later b (c.return c.no_expr) bare g = leave_body
bare_body few law effects later b (c.return (c.some_expr e)) bare g = return_body (law b e g)
bare_body {H = H} few law effects later b (c.switch e cs) bare g = switch_body law (effects H few) cs g.1 (law b e g.0)
bare_body {H = H} few law effects later b (c.label l x) bare g = label_body l (effects H few b x g)
bare_body few law effects later b (c.throw e) bare g = throw_body (law b e g)
bare_body few law effects later b (c.try xs h f) bare g = try_body few effects xs h f g.0 g.1 g.2

effect_body : {H : Here} {d : ℕ} → H.by < 64 → Values H d → ((J : Here) → J.by < 64 → Effects J d) → Later H d → (b : ℕ) (x : c.Tree c.stmt) → Guest H.vars H.free c.stmt x → EffectBody H d b (temps c.stmt x) x (rewritten false c.stmt b x)
unfolding rewritten
effect_body few law effects later b (c.expression e) g = expression_body (law b e g)
effect_body few law effects later b x g = bare_effect (bare_body few law effects later b x tt g)

own_body : {H : Here} {d : ℕ} → H.by < 64 → Values H d → ((J : Here) → J.by < 64 → Effects J d) → Later H d → (b : ℕ) (x : c.Tree c.stmt) → Guest H.vars H.free c.stmt x → OwnBody H d b (temps c.stmt x) x (rewritten true c.stmt b x)
unfolding rewritten
own_body few law effects later b (c.expression e) g = own_expression_body (law b e g)
own_body {H = H} {d = d} few law effects later b x g = subst (OwnBody H d b (temps c.stmt x) x) (sym (rewritten_alike b x tt)) (bare_own (bare_body few law effects later b x tt g))

-- the laws with fewer than so many tasks, wherever a form stands
record Laws (d : ℕ) : Type 0 where
  values : (H : Here) → H.by < 64 → Values H d
  types : (H : Here) → H.by < 64 → Types H d
  effects : (H : Here) → H.by < 64 → Effects H d
  entries : (H : Here) → H.by < 64 → Entries H d
  later : (H : Here) → H.by < 64 → Later H d
  natives : (form : Bool) (H : Here) → H.by < 64 → NativeAt form H d

laws : (d : ℕ) → Laws d
laws zero = record { values = λ H few b e g. value_zero; types = λ H few b e g. type_zero; effects = λ H few b x g. effect_zero; entries = λ H few b x g. entered_zero; later = λ H few b q bt bu bx e u x ge gu gx pt pu p. later_zero; natives = λ form H few. native_zero }
laws (suc d) =
    let l = laws d in
    record {
      values = λ H few b e g. value_law (value_body few (closure_law l.effects l.entries H) (l.natives true H few) (l.values H few) (l.types H few) b e g);
      types = λ H few b e g. type_body b e g (value_body few (closure_law l.effects l.entries H) (l.natives true H few) (l.values H few) (l.types H few) b e g);
      effects = λ H few b x g. effect_law (effect_body few (l.values H few) l.effects (l.later H few) b x g);
      entries = λ H few b x g. effect_entered (effect_body few (l.values H few) l.effects (l.later H few) b x g);
      later = λ H few b q bt bu bx e u x ge gu gx pt pu p.
          later_law pt pu p (maybe_body few (closure_law l.effects l.entries H) (l.natives true H few) (l.values H few) (l.types H few) bu u gu) (maybe_law (l.values H few) bt e ge) (maybe_body few (closure_law l.effects l.entries H) (l.natives true H few) (l.values H few) (l.types H few) bt e ge) (l.effects H few bx x gx)
          (effect_body few (l.values H few) l.effects (l.later H few) bx x gx) (l.later H few b q bt bu bx e u x ge gu gx pt pu p);
      natives = λ form H few. native_law few (closure_law l.effects l.entries H) (l.natives form H few);
    }

pub owns : (H : Here) → H.by < 64 → (d : ℕ) → Owns H d
owns H few zero b x g = own_zero
owns H few (suc d) b x g = let l = laws d in own_law (own_body few (l.values H few) l.effects (l.later H few) b x g)

-- so do the calls of closures, and those of functions that no module made
pub closures : (H : Here) (d : ℕ) → ClosureLaw H d
closures H d = let l = laws d in closure_law l.effects l.entries H

pub natives : (H : Here) → H.by < 64 → (d : ℕ) → NativeLaw H d
natives H few d = let l = laws d in l.natives true H few

-- and those that the page itself makes
pub page_entries : (H : Here) (d : ℕ) → EntryAt false H d
page_entries H d = let l = laws d in entry_law l.effects l.entries H

pub page_closures : (H : Here) (d : ℕ) → ClosureAt false H d
page_closures H d = let l = laws d in closure_law l.effects l.entries H

pub page_natives : (H : Here) → H.by < 64 → (d : ℕ) → NativeAt false H d
page_natives H few d = let l = laws d in l.natives false H few
