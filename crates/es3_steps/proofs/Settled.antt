-- One step of settling a part, and frames seen from the innermost.
use Rattle.std.proofs.Common.{◌≡◌, Bool, true, false, Option, Some, None, Result, IfOk, [], ◌∷◌, nat_le, le-leb, refl, sym, ap, subst, ◌∙◌, arith}
use Rattle.es3_grammar.specs.Spots.{Spot}
use Rattle.es3_grammar.specs.Levels.{E, Infix, infix_of}
use Rattle.es3_grammar.specs.Frames as m
use Rattle.es3_grammar.specs.Machine.{infix_own, binds, shifted, filled, closes, settle}
use Rattle.es3_tree.specs.PlacedView.{expr}
use Rattle.es3_frames.specs.declared.parts.Part.{Part}
use Rattle.es3_frames.specs.declared.frames.Frame.{Frame}
use Rattle.es3_frames.specs.declared.frames.Frame.TheVariants as f
use Rattle.es3_frames.specs.declared.frames.Waiting.{Waiting}
use Rattle.es3_frames.specs.declared.frames.Waiting.TheVariants as w
use Rattle.es3_frames.specs.declared.frames.Bracket.{Bracket}
use Rattle.es3_frames.specs.declared.frames.Bracket.TheVariants as b
use Rattle.es3_frames.specs.declared.frames.Root.{Root}
use Rattle.es3_frames.specs.declared.frames.Root.TheVariants as r
use Rattle.es3_frames.specs.declared.frames.Outer.{Outer}
use Rattle.es3_frames.specs.declared.frames.Outer.TheVariants as u
use Rattle.es3_frames.specs.Made.{made_of}
use Rattle.es3_steps.specs.Settling.{bound}
use Rattle.es3_frames.specs.Views.{frame_of, waiting_of, bracket_of, root_of, outer_of}

-- an operator goes on with the part within the innermost frame
pub settle_shifts : (b : Bool) (k : m.Stack) (x : E) (c : Spot) (o : Option Infix) → infix_of b c.0 ≡ o → bound o (m.asked k) ≡ true → settle b k x c ≡ shifted o x k
unfolding settle
settle_shifts b [] x c o e h = rw e refl
settle_shifts b (f ∷ k) x c None e h = absurd cc
settle_shifts b (f ∷ k) x c (Some i) e h = rw (e, h) refl

-- nothing is open
pub settle_ends : (b : Bool) (x : E) (c : Spot) (o : Option Infix) → infix_of b c.0 ≡ o → bound o 0 ≡ false → settle b [] x c ≡ None
unfolding settle
settle_ends b x c None e h = rw e refl
settle_ends b x c (Some i) e h = absurd (let t : nat_le 0 (infix_own i) ≡ true = le-leb 0 (infix_own i) (omega arith) in cc)

unbound : (o : Option Infix) (f : m.Frame) → bound o (m.asks f) ≡ false → binds o f ≡ false
unbound None f h = refl
unbound (Some i) f h = h

-- the innermost frame is filled
pub settle_fills : (b : Bool) (f : m.Frame) (k : m.Stack) (x y : E) (c : Spot) (o : Option Infix)
    → infix_of b c.0 ≡ o → bound o (m.asks f) ≡ false → filled f x ≡ Some y → settle b (f ∷ k) x c ≡ settle b k y c
unfolding settle
settle_fills b f k x y c o e h g = rw (e, unbound o f h, g) refl

-- the innermost frame waits for a token of its own
pub settle_closes : (b : Bool) (f : m.Frame) (k : m.Stack) (x : E) (c : Spot) (o : Option Infix)
    → infix_of b c.0 ≡ o → bound o (m.asks f) ≡ false → filled f x ≡ None → settle b (f ∷ k) x c ≡ closes f x k c
unfolding settle
settle_closes b f k x c o e h g = rw (e, unbound o f h, g) refl

-- ---- the frames of the program

no_token_closes : (w : Waiting) (x : E) (k : m.Stack) (c : Spot) → closes (waiting_of w) x k c ≡ None
no_token_closes w.New x k c = refl
no_token_closes (w.Step up) x k c = refl
no_token_closes (w.Prefix op at) x k c = refl
no_token_closes (w.Join j y) x k c = refl
no_token_closes (w.Branch y z) x k c = refl

unfilled_bracket : (b : Bracket) (x : E) → filled (bracket_of b) x ≡ None
unfilled_bracket b.Paren x = refl
unfilled_bracket (b.Subscript y) x = refl
unfilled_bracket (b.List o xs) x = refl
unfilled_bracket (b.Field fs n) x = refl
unfilled_bracket (b.Test y) x = refl

unfilled_root : (r : Root) (x : E) → filled (root_of r) x ≡ None
unfilled_root r.Statement x = refl
unfilled_root (r.Value h n is) x = refl
unfilled_root r.If x = refl
unfilled_root r.While x = refl
unfilled_root (r.Do y) x = refl
unfilled_root r.ForFirst x = refl
unfilled_root (r.ForTest y) x = refl
unfilled_root (r.ForStep y z) x = refl
unfilled_root (r.ForObject y) x = refl
unfilled_root (r.Return at) x = refl
unfilled_root r.Throw x = refl
unfilled_root (r.With at) x = refl
unfilled_root r.Switch x = refl
unfilled_root (r.Case y cs) x = refl

unfilled_outer : (u : Outer) (x : E) → filled (outer_of u) x ≡ None
unfilled_outer (u.Then y) x = refl
unfilled_outer (u.Else y z) x = refl
unfilled_outer (u.While y) x = refl
unfilled_outer u.Do x = refl
unfilled_outer (u.For y z v) x = refl
unfilled_outer (u.ForIn y z) x = refl
unfilled_outer (u.With y at) x = refl
unfilled_outer (u.Label n) x = refl

-- only what waits is filled
unfilled : (g : Frame) (x : E) → ((w : Waiting) → g ≡ f.Waiting w → ⊥) → filled (frame_of g) x ≡ None
unfilled (f.Waiting w) x h = absurd (h w refl)
unfilled (f.Bracket b) x h = unfilled_bracket b x
unfilled (f.Root r) x h = unfilled_root r x
unfilled (f.Outer u) x h = unfilled_outer u x
unfilled (f.List b ss) x h = refl

-- ---- what the loop keeps: `z` is what all gives

-- the operator that the token is, the level that the innermost place asks, and whether the operator belongs there
pub record Asked (b : Bool) (c : Spot) (k : m.Stack) (o : Option Infix) (t : Bool) : Type 0 where
  pub token : o ≡ infix_of b c.0
  pub level : t ≡ bound o (m.asked k)

pub goes_shifted : (b : Bool) (k : m.Stack) (x : E) (c : Spot) (o : Option Infix) (t : Bool) (z : Option m.State)
    → Asked b c k o t → t ≡ true → settle b k x c ≡ z → shifted o x k ≡ z
goes_shifted b k x c o t z a h e = sym (settle_shifts b k x c o (sym a.token) (sym a.level ∙ h)) ∙ e

pub goes_nowhere : (b : Bool) (k : m.Stack) (x : E) (c : Spot) (o : Option Infix) (t : Bool) (z : Option m.State)
    → Asked b c k o t → t ≡ false → k ≡ [] → settle b k x c ≡ z → None ≡ z
goes_nowhere b k x c o t z a h s e =
    sym (settle_ends b x c o (sym a.token) (ap (λ k. bound o (m.asked k)) (sym s) ∙ sym a.level ∙ h)) ∙ ap (λ k. settle b k x c) (sym s) ∙ e

under : (b : Bool) (k j : m.Stack) (f : m.Frame) (c : Spot) (o : Option Infix) (t : Bool) → Asked b c k o t → t ≡ false → k ≡ f ∷ j → bound o (m.asks f) ≡ false
under b k j f c o t a h s = ap (λ k. bound o (m.asked k)) (sym s) ∙ sym a.level ∙ h

pub goes_filled : (b : Bool) (k j : m.Stack) (x : E) (c : Spot) (o : Option Infix) (t : Bool) (z : Option m.State) (g : Frame) (w : Waiting) (r : Option Part) (y : Part)
    → Asked b c k o t → t ≡ false → k ≡ frame_of g ∷ j → g ≡ f.Waiting w → made_of r ≡ filled (waiting_of w) x → r ≡ Some y → settle b k x c ≡ z → settle b j (expr y.tree.value) c ≡ z
goes_filled b k j x c o t z g w r y a h s i p q e =
    let n : k ≡ waiting_of w ∷ j = s ∙ ap (λ g. frame_of g ∷ j) i in
    sym (settle_fills b (waiting_of w) j x (expr y.tree.value) c o (sym a.token) (under b k j (waiting_of w) c o t a h n) (sym p ∙ ap made_of q))
    ∙ ap (λ k. settle b k x c) (sym n) ∙ e

pub goes_unfilled : (b : Bool) (k j : m.Stack) (x : E) (c : Spot) (o : Option Infix) (t : Bool) (z : Option m.State) (g : Frame) (w : Waiting) (r : Option Part)
    → Asked b c k o t → t ≡ false → k ≡ frame_of g ∷ j → g ≡ f.Waiting w → made_of r ≡ filled (waiting_of w) x → r ≡ None → settle b k x c ≡ z → None ≡ z
goes_unfilled b k j x c o t z g w r a h s i p q e =
    let n : k ≡ waiting_of w ∷ j = s ∙ ap (λ g. frame_of g ∷ j) i in
    sym (settle_closes b (waiting_of w) j x c o (sym a.token) (under b k j (waiting_of w) c o t a h n) (sym p ∙ ap made_of q) ∙ no_token_closes w x j c)
    ∙ ap (λ k. settle b k x c) (sym n) ∙ e

pub goes_closed : (b : Bool) (k j : m.Stack) (x : E) (c : Spot) (o : Option Infix) (t : Bool) (z : Option m.State) (g : Frame)
    → Asked b c k o t → t ≡ false → k ≡ frame_of g ∷ j → ((w : Waiting) → g ≡ f.Waiting w → ⊥) → settle b k x c ≡ z → closes (frame_of g) x j c ≡ z
goes_closed b k j x c o t z g a h s w e =
    sym (settle_closes b (frame_of g) j x c o (sym a.token) (under b k j (frame_of g) c o t a h s) (unfilled g x w))
    ∙ ap (λ k. settle b k x c) (sym s) ∙ e

pub if_ok_is : {A B F : Type 0} (r : Result A F) (f : A → B) (y z : B) → y ≡ z → IfOk r (λ s. f s ≡ y) → IfOk r (λ s. f s ≡ z)
if_ok_is r f y z e h = subst (λ w. IfOk r (λ s. f s ≡ w)) e h
