-- Each list of operands and operators of the level 3 or above is grouped into a tree: what waits behind it, closed.
use Rattle.std.proofs.Common.{◌≡◌, ℕ, ◌+◌, ◌≤◌, ◌<◌, Bool, true, false, cond, nat_le, leb-true, leb-false, List, [], ◌∷◌, ◌++◌, refl, sym, ap, ◌∙◌, arith, append_assoc, append-nil}
use Rattle.std.specs.List.{All, AllByRecursion}
use Rattle.std.proofs.lemmas.List.Elements.{recursion_from_All}
use Rattle.es3_grammar.specs.Levels.{E, Join, an_op, an_and, an_or, an_assign, a_comma, own, left, right, joined}
use Rattle.es3_ops.specs.Grouped.{Front, Grouped, alone, between}
use Rattle.es3_ops.specs.Waiting.{closed, outside, waiting_behind, waiting}
use Rattle.es3_ops.proofs.Unique.{Item, Above}

abbrev pub Lefts : Type 0
Lefts = List (Join × E)

pub lower : (n m : ℕ) (ps : Front) (x t : E) → n ≤ m → Grouped m ps x t → Grouped n ps x t
lower n m ps x t le (alone _ _) = alone n x
lower n m ps x t le (between _ fs bs u _ a b j h f g) = between n fs bs u x a b j (omega arith) f g

-- what binds alike is grouped from the left
from_left : (j : Join) → 3 ≤ own j → (left j ≡ own j) × (right j ≡ own j + 1)
from_left (an_op op) h = (refl, refl)
from_left an_and h = (refl, refl)
from_left an_or h = (refl, refl)
from_left (an_assign op) h = absurd (omega arith)
from_left a_comma h = absurd (omega arith)

-- the innermost operator that waits is below this level
abbrev pub Below : Lefts → ℕ → Type 0
Below [] n = Unit {0}
Below (p ∷ w) n = own p.0 < n

-- the list is made of left parts, each with its operator behind it, whose levels rise
pub data Waits : Front → Lefts → Type 0 where
  nothing : Waits [] []
  more : (ps qs : Front) (w : Lefts) (x a : E) (j : Join) → 3 ≤ own j → Waits ps w → Below w (own j) → Grouped (own j) qs x a
      → Waits (ps ++ (qs ++ (x, j) ∷ [])) ((j, a) ∷ w)

-- the list with one operand behind it, where those of the level n or above are closed: what waits still, and the part that is closed
pub record Closed (n : ℕ) (ps : Front) (x : E) (w : Lefts) (t : E) : Type 0 where
  pub front : Front
  pub back : Front
  pub parts : ps ≡ front ++ back
  pub waits : Waits front w
  pub below : Below w n
  pub part : Grouped n back x t

regrouped : (ps qs rs : Front) (p : Item) → ps ++ (qs ++ p ∷ []) ++ rs ≡ ps ++ (qs ++ p ∷ rs)
regrouped ps qs rs p = append_assoc ps (qs ++ p ∷ []) rs ∙ ap (λ (l : Front). ps ++ l) (append_assoc qs (p ∷ []) rs)

widened : (n : ℕ) (ps qs : Front) (x : E) (w : Lefts) (t : E) → ps ≡ qs → Closed n qs x w t → Closed n ps x w t
widened n ps qs x w t e c = record { front = c.front; back = c.back; parts = e ∙ c.parts; waits = c.waits; below = c.below; part = c.part }

close_within : (b : Bool) (n m : ℕ) (ps qs rs : Front) (w : Lefts) (x y a t : E) (j : Join)
    → nat_le n (own j) ≡ b → 3 ≤ own j → n ≤ m → Waits ps w → Below w (own j) → Grouped (own j) qs y a → own j < m → Grouped m rs x t
    → (n ≤ own j → Grouped (own j) (qs ++ (y, j) ∷ rs) x (joined j a t) → Closed n (ps ++ (qs ++ (y, j) ∷ rs)) x (outside n w) (closed n w (joined j a t)))
    → Closed n (ps ++ (qs ++ (y, j) ∷ []) ++ rs) x (cond b (outside n w) ((j, a) ∷ w)) (cond b (closed n w (joined j a t)) t)
close_within true n m ps qs rs w x y a t j e h le k i f b g go =
    let o = from_left j h in
    widened n _ _ x _ _ (regrouped ps qs rs (y, j))
    (go (leb-true n (own j) e) (between (own j) qs rs y x a t j (omega arith) (rw o.0 f) (lower (right j) m rs x t (omega arith) g)))
close_within false n m ps qs rs w x y a t j e h le k i f b g go =
    record { front = ps ++ (qs ++ (y, j) ∷ []); back = rs; parts = refl; waits = more ps qs w y a j h k i f; below = leb-false n (own j) e; part = lower n m rs x t le g }

pub close : (n m : ℕ) (ps qs : Front) (w : Lefts) (x t : E) → n ≤ m → Waits ps w → Below w m → Grouped m qs x t → Closed n (ps ++ qs) x (outside n w) (closed n w t)
close n m ps qs [] x t le nothing b g = record { front = []; back = qs; parts = refl; waits = nothing; below = tt; part = lower n m qs x t le g }
close n m ps qs ((j, a) ∷ w) x t le (more fs bs _ y _ _ h k i f) b g =
    close_within (nat_le n (own j)) n m fs bs qs w x y a t j refl h le k i f b g
    (λ l d. close n (own j) fs (bs ++ (y, j) ∷ qs) w x (joined j a t) l k i d)

-- a level above all that waits
top : Lefts → ℕ
top [] = 0
top (p ∷ w) = own p.0 + 1

below_top : (w : Lefts) (n : ℕ) → Below w (n + top w)
unfolding top
below_top [] n = tt
below_top (p ∷ w) n = omega arith

pub close_operand : (n : ℕ) (ps : Front) (w : Lefts) (x : E) → Waits ps w → Closed n ps x (outside n w) (closed n w x)
close_operand n ps w x k = widened n _ _ x _ _ (sym (append-nil ps)) (close n (n + top w) ps [] w x x (omega arith) k (below_top w n) (alone (n + top w) x))

waits_along : (ps qs : Front) (w : Lefts) → ps ≡ qs → Waits qs w → Waits ps w
waits_along ps qs w e k = rw e k

-- one operand and operator more
waits_more : (ps : Front) (w : Lefts) (x : E) (j : Join) → 3 ≤ own j → Waits ps w → Waits (ps ++ (x, j) ∷ []) (waiting_behind w x j)
waits_more ps w x j h k =
    let c = close_operand (own j) ps w x k in
    waits_along _ _ _ (ap (λ (l : Front). l ++ (x, j) ∷ []) c.parts ∙ append_assoc c.front c.back ((x, j) ∷ []))
    (more c.front c.back (outside (own j) w) x (closed (own j) w x) j h c.waits c.below c.part)

pub waits_all : (ps qs : Front) (w : Lefts) → Above 3 qs → Waits ps w → Waits (ps ++ qs) (waiting w qs)
waits_all ps [] w h k = waits_along _ _ _ (append-nil ps) k
waits_all ps ((x, j) ∷ qs) w h k =
    waits_along _ _ _ (sym (append_assoc ps ((x, j) ∷ []) qs))
    (waits_all (ps ++ (x, j) ∷ []) qs (waiting_behind w x j) h.1 (waits_more ps w x j h.0 k))

-- where all is closed nothing waits
all_closed : (ps qs : Front) (w : Lefts) (x t : E) → Waits ps w → Below w 3 → Grouped 3 qs x t → Grouped 3 (ps ++ qs) x t
all_closed ps qs [] x t nothing b g = g
all_closed ps qs ((j, a) ∷ w) x t (more fs bs _ y _ _ h k i f) b g = absurd (omega arith)

along : (ps qs : Front) (x t : E) → ps ≡ qs → Grouped 3 qs x t → Grouped 3 ps x t
along ps qs x t e g = rw e g

pub some_closed : (ps : Front) (x : E) → Above 3 ps → Grouped 3 ps x (closed 3 (waiting [] ps) x)
some_closed ps x h =
    let c = close_operand 3 ps (waiting [] ps) x (waits_all [] ps [] h nothing) in
    along ps (c.front ++ c.back) x _ c.parts (all_closed c.front c.back _ x _ c.waits c.below c.part)

above_by_places : (ps : Front) → AllByRecursion (λ (p : Item). 3 ≤ own p.1) ps → Above 3 ps
above_by_places [] h = tt
above_by_places (p ∷ ps) h = (h.0, above_by_places ps h.1)

pub some_tree : (ps : Front) (x : E) → All (λ (p : Item). 3 ≤ own p.1) ps → (a : E) × Grouped 3 ps x a
some_tree ps x h = (closed 3 (waiting [] ps) x, some_closed ps x (above_by_places ps (recursion_from_All (λ (p : Item). 3 ≤ own p.1) ps h)))
