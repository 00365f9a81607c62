-- A part of Cajita that breaks no rule breaks none where more is known around it.
use Rattle.std.proofs.Common.{◌≡◌, ℕ, Bool, true, false, List, [], ◌∷◌, ◌++◌, cond, None, Some, refl, sym, ap, ◌∙◌}
use Rattle.std.specs.Prelude.{◌&&◌, not}
use Rattle.caja_units.specs.Units.{same_units}
use Rattle.es3_tree.specs.Tree as t
use Rattle.es3_tree.specs.Placed as p
use Rattle.es3_tree.specs.Placed.{Placed, Word}
use Rattle.cajita_names.specs.Declarations.{Declaration, body_declarations}
use Rattle.cajita_names.specs.Scope.{Scope, Binding, in_function, in_catch, changing, settled, imported, unbound, bound, declares, declares_function, has_own, is_within, is_arguments, is_unbound, is_settled, lacks, keeps}
use Rattle.cajita_rules.specs.Faults.{Fault, faults_in, used, written, declared, target, hidden, an_eval, undeclared, fixed_target, changed_arguments, masking, within_its_name, no_target, repeated, name_faults, deleted, reserved, form_fault, all_declared, redeclared}
use Rattle.valija_accepted.proofs.Lists.{never, not_true, or_left, or_right, neither, two, no_front, no_back, no_fault, none_there}

-- what a name is, and what it is then: what is known stays so, and so does what may be written to
abbrev pub widens : Binding → Binding → Bool
widens unbound b = true
widens imported b = not (is_unbound b)
widens settled b = not (is_unbound b)
widens changing changing = true
widens changing b = false

pub record Wider (s r : Scope) : Type 0 where
  pub names : (x : List ℕ) → widens (bound s x) (bound r x) ≡ true
  pub within : is_within r ≡ is_within s
  pub owned : (x : List ℕ) → has_own s x ≡ false → has_own r x ≡ false

still_known : (b d : Binding) → widens b d ≡ true → is_unbound b ≡ false → is_unbound d ≡ false
still_known unbound d h e = never (sym e)
still_known imported d h e = not_true (is_unbound d) h
still_known settled d h e = not_true (is_unbound d) h
still_known changing changing h e = refl
still_known changing d h e = never h

still_free : (b d : Binding) → widens b d ≡ true → is_unbound b ≡ false → is_settled b ≡ false → is_settled d ≡ false
still_free unbound d h e k = never (sym e)
still_free imported d h e k = never (sym k)
still_free settled d h e k = never (sym k)
still_free changing changing h e k = refl
still_free changing d h e k = never h

-- ---- scopes within scopes

widens_self : (c : Bool) → widens (cond c settled changing) (cond c settled changing) ≡ true
widens_self true = refl
widens_self false = refl

pub in_a_function : {s r : Scope} (ds : List Declaration) → ((x : List ℕ) → widens (bound s x) (bound r x) ≡ true) → Wider (in_function ds s) (in_function ds r)
in_a_function {s} {r} ds h = record { names = λ x. by (declares ds x) (declares_function ds x) (bound s x) (bound r x) (h x); within = refl; owned = λ x none. none }
  where
    by : (c f : Bool) (b d : Binding) → widens b d ≡ true → widens (cond c (cond f settled changing) b) (cond c (cond f settled changing) d) ≡ true
    by true f b d e = widens_self f
    by false f b d e = e

in_a_catch : {s r : Scope} (y : List ℕ) → Wider s r → Wider (in_catch y s) (in_catch y r)
in_a_catch {s} {r} y h = record {
  names = λ x. by (same_units x y) (bound s x) (bound r x) (h.names x);
  within = h.within;
  owned = λ x none. neither (same_units x y) (has_own r x) (or_left (same_units x y) (has_own s x) none) (h.owned x (or_right (same_units x y) (has_own s x) none));
}
  where
    by : (c : Bool) (b d : Binding) → widens b d ≡ true → widens (cond c changing b) (cond c changing d) ≡ true
    by true b d e = refl
    by false b d e = e

in_its_name : {s r : Scope} (f : Placed t.func) → Wider s r → Wider (within_its_name f s) (within_its_name f r)
in_its_name (p.fun None ps body at) h = h
in_its_name {s} {r} (p.fun (Some y) ps body at) h = record { names = λ x. by (same_units x y.text) (bound s x) (bound r x) (h.names x); within = h.within; owned = h.owned }
  where
    by : (c : Bool) (b d : Binding) → widens b d ≡ true → widens (cond c settled b) (cond c settled d) ≡ true
    by true b d e = refl
    by false b d e = e

-- ---- faults here are none there

pub record Less (fs gs : List Fault) : Type 0 where
  pub so : fs ≡ [] → gs ≡ []

pub same : (fs : List Fault) → Less fs fs
same fs = record { so = λ e. e }

pub beside : {fs gs hs is : List Fault} → Less fs gs → Less hs is → Less (fs ++ hs) (gs ++ is)
beside {fs} {gs} {hs} {is} h k = record { so = λ e. two (h.so (no_front fs hs e)) (k.so (no_back fs hs e)) }

module _ {s r : Scope} (h : Wider s r) where
  still_there : (x : Word) → undeclared s x ≡ [] → undeclared r x ≡ []
  still_there x e = no_fault 10 x (lacks r x.text) (by (is_arguments x.text) (none_there 10 x (lacks s x.text) e))
    where
      by : (b : Bool) → cond b (not (is_within s)) (is_unbound (bound s x.text)) ≡ false → cond b (not (is_within r)) (is_unbound (bound r x.text)) ≡ false
      by true e = ap not h.within ∙ e
      by false e = still_known (bound s x.text) (bound r x.text) (h.names x.text) e

  name_less : (x : Word) → Less (used s x) (used r x)
  name_less x = beside (same (hidden x ++ an_eval x)) (record { so = still_there x })

  named_target : (x : Word) → Less (used s x ++ written s x) (used r x ++ written r x)
  named_target x = record {
    so = λ e.
        let u = no_front (used s x) (written s x) e in
        let w = no_back (used s x) (written s x) e in
        let l = name_less x in
        two (l.so u) (two (no_fault 7 x (keeps r x.text) (by (is_arguments x.text) (none_there 10 x (lacks s x.text) (no_back (hidden x ++ an_eval x) (undeclared s x) u)) (none_there 7 x (keeps s x.text) (no_front (fixed_target s x) (changed_arguments x) w)))) (no_back (fixed_target s x) (changed_arguments x) w));
  }
    where
      by : (b : Bool) → cond b (not (is_within s)) (is_unbound (bound s x.text)) ≡ false → (not b && is_settled (bound s x.text)) ≡ false → (not b && is_settled (bound r x.text)) ≡ false
      by true known free = refl
      by false known free = still_free (bound s x.text) (bound r x.text) (h.names x.text) known free

  target_less : (e : Placed t.expr) → Less (faults_in s t.expr e) (faults_in r t.expr e) → Less (faults_in s t.expr e ++ target s e) (faults_in r t.expr e ++ target r e)
  unfolding faults_in
  target_less (p.name x) k = named_target x
  target_less (p.dot e n) k = beside k (same [])
  target_less (p.index e f) k = beside k (same [])
  target_less e k = beside k (same (no_target ∷ []))

  masking_less : (x : Word) → Less (masking s x) (masking r x)
  masking_less x = record { so = λ e. no_fault 6 x (has_own r x.text) (h.owned x.text (none_there 6 x (has_own s x.text) e)) }

pub wider_less : (k : t.Sort) (x : Placed k) {s r : Scope} → Wider s r → Less (faults_in s k x) (faults_in r k x)
unfolding faults_in
wider_less _ (p.name x) h = name_less h x
wider_less _ (p.array es) h = wider_less _ es h
wider_less _ (p.object fs) h = beside (wider_less _ fs h) (same (repeated [] fs))
wider_less _ (p.function f) h = beside (same (name_faults f)) (wider_less _ f (in_its_name f h))
wider_less _ (p.dot e k) h = beside (wider_less _ e h) (same (hidden k))
wider_less _ (p.index e f) h = beside (wider_less _ e h) (wider_less _ f h)
wider_less _ (p.call e es) h = beside (wider_less _ e h) (wider_less _ es h)
wider_less _ (p.new e es) h = beside (wider_less _ e h) (wider_less _ es h)
wider_less _ (p.unary op e at) h = beside (same (deleted op at e)) (wider_less _ e h)
wider_less _ (p.step up before e) h = target_less h e (wider_less _ e h)
wider_less _ (p.binary op e f) h = beside (wider_less _ e h) (wider_less _ f h)
wider_less _ (p.and e f) h = beside (wider_less _ e h) (wider_less _ f h)
wider_less _ (p.or e f) h = beside (wider_less _ e h) (wider_less _ f h)
wider_less _ (p.choice e f g) h = beside (beside (wider_less _ e h) (wider_less _ f h)) (wider_less _ g h)
wider_less _ (p.assign op e f) h = beside (target_less h e (wider_less _ e h)) (wider_less _ f h)
wider_less _ (p.comma e f) h = beside (wider_less _ e h) (wider_less _ f h)
wider_less _ (p.more_exprs e es) h = beside (wider_less _ e h) (wider_less _ es h)
wider_less _ (p.more_fields k e rest) h = beside (beside (same (hidden k ++ reserved k)) (wider_less _ e h)) (wider_less _ rest h)
wider_less _ (p.some_expr e) h = wider_less _ e h
wider_less _ (p.block ss) h = wider_less _ ss h
wider_less _ (p.var is) h = wider_less _ is h
wider_less _ (p.expression e) h = wider_less _ e h
wider_less _ (p.branch e x m) h = beside (beside (wider_less _ e h) (wider_less _ x h)) (wider_less _ m h)
wider_less _ (p.while_loop e x) h = beside (wider_less _ e h) (wider_less _ x h)
wider_less _ (p.do_loop x e) h = beside (wider_less _ x h) (wider_less _ e h)
wider_less _ (p.for_loop i e f x) h = beside (beside (beside (wider_less _ i h) (wider_less _ e h)) (wider_less _ f h)) (wider_less _ x h)
wider_less _ (p.for_in i e x) h = beside (beside (wider_less _ i h) (wider_less _ e h)) (wider_less _ x h)
wider_less _ (p.return m at) h = wider_less _ m h
wider_less _ (p.with_object e x at) h = beside (beside (same (form_fault 2 at)) (wider_less _ e h)) (wider_less _ x h)
wider_less _ (p.switch e cs) h = beside (wider_less _ e h) (wider_less _ cs h)
wider_less _ (p.label l x) h = beside (same (hidden l)) (wider_less _ x h)
wider_less _ (p.throw e) h = wider_less _ e h
wider_less _ (p.try ss d m) h = beside (beside (wider_less _ ss h) (wider_less _ d h)) (wider_less _ m h)
wider_less _ (p.declare f) h = beside (same (name_faults f)) (wider_less _ f h)
wider_less _ (p.more_stmts x ss) h = beside (wider_less _ x h) (wider_less _ ss h)
wider_less _ (p.more_items x m is) h = beside (beside (same (declared x)) (wider_less _ m h)) (wider_less _ is h)
wider_less _ (p.some_stmt x) h = wider_less _ x h
wider_less _ (p.some_block ss) h = wider_less _ ss h
wider_less _ (p.first_var is) h = wider_less _ is h
wider_less _ (p.first_expr e) h = wider_less _ e h
wider_less _ (p.loop_expr e) h = target_less h e (wider_less _ e h)
wider_less _ (p.more_cases m ss cs) h = beside (beside (wider_less _ m h) (wider_less _ ss h)) (wider_less _ cs h)
wider_less _ (p.some_handler x ss) h = beside (beside (same (declared x)) (masking_less h x)) (wider_less _ ss (in_a_catch x.text h))
wider_less _ (p.fun name ps body at) h = beside (same (all_declared ps ++ redeclared [] (body_declarations ps body))) (wider_less _ body (in_a_function (body_declarations ps body) (λ x. h.names x)))
wider_less _ (p.script ss) h = wider_less _ ss h
wider_less _ x h = same _
