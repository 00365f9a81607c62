-- Where an expression is whole at the end of the tokens.
use Rattle.std.proofs.Common.{◌≡◌, ◌⊎◌, Bool, true, false, ◌&&◌, [], ◌∷◌, Option, Some, None, cond, refl, ap, sym, inl, inr, ◌∙◌}
use Rattle.es3_tree.specs.PlacedView.{expr}
use Rattle.es3_tree.specs.Placed as tree
use Rattle.es3_grammar.specs.Levels.{E, Join, an_op, an_and, an_or, an_assign, a_comma, is_target, joined}
use Rattle.es3_grammar.specs.Frames.{Frame, Stack, new_of, prefix_step, prefix, join, either}
use Rattle.es3_grammar.specs.Machine.{phrase, part, filled, finished, ending}
use Rattle.es3_grammar.specs.Longest.{is_phrase}
use Rattle.es3_frames.specs.Ending.{ends_all}
use Rattle.es3_frames.specs.declared.parts.Part.{Part}
use Rattle.es3_frames.specs.declared.frames.State.{State}
use Rattle.es3_frames.specs.declared.frames.State.TheVariants as s
use Rattle.es3_frames.specs.Views.{state_of}

no_target : (j : Join) (x y : E) → is_target (joined j x y) ≡ false
no_target (an_op op) x y = refl
no_target an_and x y = refl
no_target an_or x y = refl
no_target (an_assign op) x y = refl
no_target a_comma x y = refl

pub finished_tells : (f : Stack) (x : E) → is_phrase (finished f x) ≡ ends_all (is_target x) f
unfolding finished
finished_tells [] x = refl
finished_tells (new_of ∷ f) x = finished_tells f (tree.new x tree.no_exprs)
finished_tells (prefix_step up ∷ f) x = stepped (is_target x) (finished_tells f (tree.step up true x))
  where
    stepped : (b : Bool) → is_phrase (finished f (tree.step up true x)) ≡ ends_all false f → is_phrase (elim (cond b (Some (tree.step up true x)) None) [ Some y ↦ finished f y | None ↦ part ]) ≡ (b && ends_all false f)
    stepped true e = e
    stepped false e = refl
finished_tells (prefix op a ∷ f) x = finished_tells f (tree.unary op x a)
finished_tells (join j y ∷ f) x = finished_tells f (joined j y x) ∙ ap (λ (b : Bool). ends_all b f) (no_target j y x)
finished_tells (either y z ∷ f) x = finished_tells f (tree.choice y z x)
finished_tells (_ ∷ f) x = refl

-- ---- frames that are filled in turn

pub finished_on : (f : Frame) (k : Stack) (x : E) (q : Option E) → q ≡ filled f x → elim q [ Some y ↦ finished k y | None ↦ part ] ≡ finished (f ∷ k) x
unfolding finished
finished_on f k x q e = ap (λ (o : Option E). elim o [ Some y ↦ finished k y | None ↦ part ]) e

pub none_open : (k : Stack) (x : E) → k ≡ [] → finished k x ≡ phrase x
unfolding finished
none_open k x e = rw e refl

pub expression_told : (z : State) (x : Part) (k : Stack) (b r : Bool) → (z ≡ s.Have x) ⊎ (z ≡ s.Past x) → b ≡ is_target (expr x.tree.value) → r ≡ ends_all b k → r ≡ is_phrase (ending (state_of z k))
expression_told z x k b r (inl e) p q = rw e (q ∙ ap (λ (c : Bool). ends_all c k) p ∙ sym (finished_tells k (expr x.tree.value)))
expression_told z x k b r (inr e) p q = rw e (q ∙ ap (λ (c : Bool). ends_all c k) p ∙ sym (finished_tells k (expr x.tree.value)))
