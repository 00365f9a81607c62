-- Frames that are put on others, with their sums.
use Rattle.std.proofs.Common.{◌≡◌, suc, ◌-◌, Bool, true, false, cond, List, [], ◌∷◌, ◌++◌, length, append-nil, Option, Some, None, refl, ap, ◌∙◌, arith}
use Rattle.std.specs.Prelude.{slice_get, option_to_list}
use Rattle.es3_grammar.specs.Sums as m
use Rattle.es3_grammar.specs.Frames.{Stack}
use Rattle.es3_frames.specs.Ending.{ends_all}
use Rattle.es3_frames.specs.FrameViews.{frame_of}
use Rattle.es3_frames.specs.declared.stack.Entry.{Entry}
use Rattle.es3_frames.specs.Kept.{IsSums, over, Kept}

pub pushed : (xs : List Entry) (x : Entry) (k : Stack) → over (xs ++ x ∷ []) k ≡ frame_of x.frame ∷ over xs k
pushed [] x k = refl
pushed (y ∷ xs) x k = pushed xs x (frame_of y.frame ∷ k)

kept_pushed : (xs : List Entry) (x : Entry) (k : Stack) → Kept xs k → IsSums (m.sums (frame_of x.frame ∷ over xs k)) x.sums → Kept (xs ++ x ∷ []) k
kept_pushed [] x k h i = (i, tt)
kept_pushed (y ∷ xs) x k h i = (h.0, kept_pushed xs x (frame_of y.frame ∷ k) h.1 i)

kept_popped : (xs : List Entry) (x : Entry) (k : Stack) → Kept (xs ++ x ∷ []) k → Kept xs k
kept_popped [] x k h = tt
kept_popped (y ∷ xs) x k h = (h.0, kept_popped xs x (frame_of y.frame ∷ k) h.1)

kept_last : (xs : List Entry) (x : Entry) (k : Stack) → Kept (xs ++ x ∷ []) k → IsSums (m.sums (over (xs ++ x ∷ []) k)) x.sums
kept_last [] x k h = h.0
kept_last (y ∷ xs) x k h = kept_last xs x (frame_of y.frame ∷ k) h.1

-- with one entry more, or where there was no room for it
pub kept_either : (b : Bool) (xs ys : List Entry) (x : Entry) → ys ≡ cond b (xs ++ x ∷ []) xs → Kept xs [] → IsSums (m.sums (frame_of x.frame ∷ over xs [])) x.sums → Kept ys []
kept_either true xs ys x e h i = rw e (kept_pushed xs x [] h i)
kept_either false xs ys x e h i = rw e h

-- without the last entry, if there is one
pub kept_rest : (o : Option Entry) (xs ys : List Entry) → xs ≡ ys ++ option_to_list o → Kept xs [] → Kept ys []
kept_rest None xs ys e h = rw append-nil at (rw e at h)
kept_rest (Some x) xs ys e h = kept_popped ys x [] (rw e at h)

-- ---- the last entry

pub record Ends (xs : List Entry) (x : Entry) : Type 0 where
  pub front : List Entry
  pub is : xs ≡ front ++ x ∷ []

one_before : (y z : Entry) (xs : List Entry) → (length (y ∷ z ∷ xs) - 1) ≡ suc (length (z ∷ xs) - 1)
one_before y z xs = omega arith

behind : (y z : Entry) (xs : List Entry) (x : Entry) → Ends (z ∷ xs) x → Ends (y ∷ z ∷ xs) x
behind y z xs x r = record { front = y ∷ r.front; is = ap (λ s. y ∷ s) r.is }

pub ends : (xs : List Entry) (x : Entry) → slice_get xs (length xs - 1) ≡ Some x → Ends xs x
ends [] x e = absurd cc
ends (y ∷ []) x e = record { front = []; is = cc }
ends (y ∷ z ∷ xs) x e = behind y z xs x (ends (z ∷ xs) x (rw (one_before y z xs) at e))

pub last_sums : (xs : List Entry) (x : Entry) → Ends xs x → Kept xs [] → IsSums (m.sums (over xs [])) x.sums
last_sums xs x e h = rw e.is (kept_last e.front x [] (rw e.is at h))

pub innermost_is : (xs : List Entry) (x : Entry) → Ends xs x → (outside : Stack) × (over xs [] ≡ frame_of x.frame ∷ outside)
innermost_is xs x e = (over e.front [], ap (λ (s : List Entry). over s []) e.is ∙ pushed e.front x [])

-- where nothing is open
pub all_ended : (b : Bool) (xs : List Entry) → length xs ≡ 0 → ends_all b (over xs []) ≡ true
all_ended b [] e = refl
all_ended b (x ∷ xs) e = absurd cc
