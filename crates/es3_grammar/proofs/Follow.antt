-- What may follow an expression or a statement that is whole, and what the machine then does.
use Rattle.std.proofs.Common.{◌≡◌, ℕ, ◌≤◌, ◌<◌, Bool, true, false, cond, ◌||◌, List, [], ◌∷◌, ◌++◌, Option, Some, None, refl, sym, ap, subst, ◌∙◌, arith}
use Rattle.std.proofs.lemmas.Bool.{le-leb, lt-leb}
use Rattle.es3_tree.specs.Token.{Token}
use Rattle.es3_tree.specs.Tree as t
use Rattle.es3_tree.specs.Placed as tree
use Rattle.es3_tree.specs.Placed.{Placed, Word}
use Rattle.es3_tree.specs.declared.BinOp.{BinOp}
use Rattle.es3_tree.specs.declared.BinOp.TheVariants.{Mul, Add, Shl, Less, Equal, BitAnd, BitXor, BitOr}
use Rattle.es3_grammar.specs.Spots.{Spot, is, point, open_bracket, open_paren, else_word, finally_word}
use Rattle.es3_grammar.specs.Levels.{E, level, an_op, an_and, an_or, an_assign, a_comma, left, Infix, joins, a_query, a_step, infix_of, is_trailer}
use Rattle.es3_grammar.specs.Grammar.{S, Bars, free, no_in, no_call, bars_in, is_open}
use Rattle.es3_grammar.specs.Frames.{Body, a_program, a_call, Frame, new_of, then_of, else_of, while_body, for_body, in_body, with_body, label_of, body, Stack, State, have, past, listed, start, ended, caught, asks, asked, behind_new, no_in_here}
use Rattle.es3_grammar.specs.Machine.{infix_own, binds, shifted, filled, closes, settle, past_step, have_step, arguments, resume, step, all_of, goes, run, caught_made, finished, Answer, part}
use Rattle.es3_grammar.proofs.Tables.{no_trailer}

-- ---- levels

pub level_fits : (op : BinOp) → (5 ≤ level op) × (level op ≤ 12)
level_fits Mul = omega arith
level_fits Add = omega arith
level_fits Shl = omega arith
level_fits Less = omega arith
level_fits Equal = omega arith
level_fits BitAnd = omega arith
level_fits BitXor = omega arith
level_fits BitOr = omega arith
level_fits _ = omega arith

-- what an operator behind a part asks of it
abbrev pub infix_left : Infix → ℕ
infix_left (joins j) = left j
infix_left a_query = 3
infix_left (a_step up) = 15

abbrev pub left_in : Option Infix → ℕ
left_in None = 0
left_in (Some i) = infix_left i

abbrev pub asks_left : Bool → Token → ℕ
asks_left b t = cond (is_trailer t) 16 (left_in (infix_of b t))

-- what follows does not belong to an expression of the level
abbrev pub Ends : Bars → ℕ → List Spot → Type 0
Ends b l [] = Unit {0}
Ends b l (c ∷ k) = asks_left (bars_in b) c.0 ≤ l

pub own_in_left : (i : Infix) → (infix_own i ≤ infix_left i) × (infix_own i ≤ 14) × (infix_left i ≤ 15)
own_in_left (joins (an_op op)) = omega (arith, level_fits op)
own_in_left (joins an_and) = omega arith
own_in_left (joins an_or) = omega arith
own_in_left (joins (an_assign op)) = omega arith
own_in_left (joins a_comma) = omega arith
own_in_left a_query = omega arith
own_in_left (a_step up) = omega arith

-- what asks little of its left part makes little
pub own_low : (i : Infix) → infix_left i ≤ 2 → infix_own i ≡ 0
own_low (joins (an_op op)) h = absurd (omega (arith, level_fits op))
own_low (joins an_and) h = absurd (omega arith)
own_low (joins an_or) h = absurd (omega arith)
own_low (joins (an_assign op)) h = absurd (omega arith)
own_low (joins a_comma) h = refl
own_low a_query h = absurd (omega arith)
own_low (a_step up) h = absurd (omega arith)

pub own_prefix : (i : Infix) → infix_left i ≤ 13 → infix_own i ≤ 12
own_prefix (joins (an_op op)) h = omega (arith, level_fits op)
own_prefix (joins an_and) h = omega arith
own_prefix (joins an_or) h = omega arith
own_prefix (joins (an_assign op)) h = absurd (omega arith)
own_prefix (joins a_comma) h = omega arith
own_prefix a_query h = omega arith
own_prefix (a_step up) h = absurd (omega arith)

pub ends_more : (b : Bars) (l m : ℕ) (k : List Spot) → l ≤ m → Ends b l k → Ends b m k
ends_more b l m [] le h = tt
ends_more b l m (c ∷ k) le h = omega arith

pub trailer_ends : (t : Bool) (n l : ℕ) → cond t 16 n ≤ l → l ≤ 15 → (t ≡ false) × (n ≤ l)
trailer_ends true n l h le = absurd (omega arith)
trailer_ends false n l h le = (refl, h)

pub any_ends : (i : Bool) (t : Token) → is_trailer t ≡ false → asks_left i t ≤ 15
any_ends i t h = rw h (go (infix_of i t))
  where
    go : (o : Option Infix) → left_in o ≤ 15
    go None = omega arith
    go (Some i) = omega (arith, own_in_left i)

-- ---- what is barred

abbrev pub barred : Bool → Bool → Bars
barred true i = no_call
barred false true = no_in
barred false false = free

abbrev pub bars_of : Stack → Bars
bars_of f = barred (behind_new f) (no_in_here f)

pub not_behind : (f : Stack) → asked f ≤ 14 → behind_new f ≡ false
not_behind [] h = refl
not_behind (new_of ∷ f) h = absurd (omega arith)
not_behind (_ ∷ f) h = refl

pub low_bars : (f : Stack) → asked f ≤ 14 → barred false (no_in_here f) ≡ bars_of f
low_bars f h = rw (not_behind f h) refl

pub bars_in_barred : (i : Bool) → bars_in (barred false i) ≡ i
bars_in_barred true = refl
bars_in_barred false = refl

pub in_of : (f : Stack) (b : Bars) → asked f ≤ 14 → bars_of f ≡ b → no_in_here f ≡ bars_in b
in_of f b h e = sym (bars_in_barred (no_in_here f)) ∙ ap bars_in (low_bars f h ∙ e)

pub calls : (f : Stack) (b : Bars) (x : E) → bars_of f ≡ b → b ≡ no_call → behind_new f ≡ true
calls f b x e n = go (behind_new f) (no_in_here f) (e ∙ n)
  where
    go : (a i : Bool) → barred a i ≡ no_call → a ≡ true
    go true i e = refl
    go false true e = absurd cc
    go false false e = absurd cc

-- ---- a part within a frame

abbrev pub NoTrailer : List Spot → Type 0
NoTrailer [] = Unit {0}
NoTrailer (c ∷ k) = is_trailer c.0 ≡ false

-- nothing that follows belongs within the frame
abbrev pub Leaves : Bool → Frame → List Spot → Type 0
Leaves i f [] = Unit {0}
Leaves i f (c ∷ k) = (is_trailer c.0 ≡ false) × (binds (infix_of i c.0) f ≡ false)

or_false : (a b c : Bool) → ((a || b) || c) ≡ false → (a ≡ false) × (b ≡ false) × (c ≡ false)
or_false false false c e = (refl, refl, e)
or_false true b c e = absurd cc
or_false false true c e = absurd cc

pub have_settles : (x : E) (f : Stack) (c : Spot) → is_trailer c.0 ≡ false → have_step x f c ≡ past_step x f c
have_settles x f c h = let g = or_false (is point c) (is open_bracket c) (is open_paren c) h in rw (g.0, g.1, g.2) refl

pub past_have : (x : E) (f : Stack) (k : List Spot) → NoTrailer k → run k (past x f) ≡ run k (have x f)
unfolding run step finished
past_have x f [] h = refl
past_have x f (c ∷ k) h = ap (goes (run k) (c ∷ k)) (sym (have_settles x f c h))

fills : (f : Frame) (i : Bool) (x y : E) (fs : Stack) (c : Spot) → filled f x ≡ Some y → binds (infix_of i c.0) f ≡ false → settle i (f ∷ fs) x c ≡ settle i fs y c
unfolding settle
fills f i x y fs c h n = rw (n, h) refl

abbrev finished_by : Stack → Option E → Answer
finished_by k o = elim o [ Some y ↦ finished k y | None ↦ part ]

-- a part that ends where what its frame makes ends
pub reduces : (f : Frame) (x y : E) (fs : Stack) (k : List Spot) → no_in_here (f ∷ fs) ≡ no_in_here fs → filled f x ≡ Some y → Leaves (no_in_here fs) f k → run k (have x (f ∷ fs)) ≡ run k (have y fs)
unfolding run step finished
reduces f x y fs [] p h n = ap (finished_by fs) h
reduces f x y fs (c ∷ k) p h n =
    ap (goes (run k) (c ∷ k)) (have_settles x (f ∷ fs) c n.0 ∙ ap (λ i. settle i (f ∷ fs) x c) p ∙ fills f (no_in_here fs) x y fs c h n.1 ∙ sym (have_settles y fs c n.0))

-- a frame that a token closes
pub closes_by : (f : Frame) (x : E) (fs : Stack) (c : Spot) (k : List Spot) → filled f x ≡ None → is_trailer c.0 ≡ false → binds (infix_of (no_in_here (f ∷ fs)) c.0) f ≡ false
    → run (c ∷ k) (have x (f ∷ fs)) ≡ goes (run k) (c ∷ k) (closes f x fs c)
unfolding run step settle
closes_by f x fs c k h n b = ap (goes (run k) (c ∷ k)) (have_settles x (f ∷ fs) c n ∙ rw (b, h) refl)

-- an operator behind a part
settle_shifts : (i : Bool) (f : Stack) (x : E) (c : Spot) (o : Infix) → infix_of i c.0 ≡ Some o → asked f ≤ infix_own o → settle i f x c ≡ shifted (Some o) x f
unfolding settle
settle_shifts i [] x c o e le = rw e refl
settle_shifts i (f ∷ fs) x c o e le = rw (e, le-leb (asks f) (infix_own o) le) refl

pub shifts : (c : Spot) (o : Infix) (x : E) (f : Stack) (k : List Spot) (s : State) → infix_of (no_in_here f) c.0 ≡ Some o → asked f ≤ infix_own o → shifted (Some o) x f ≡ Some s
    → run (c ∷ k) (have x f) ≡ run k s
unfolding run step
shifts c o x f k s e le h = ap (goes (run k) (c ∷ k)) (have_settles x f c (no_trailer (no_in_here f) c.0 o e) ∙ settle_shifts (no_in_here f) f x c o e le ∙ h)

-- ---- which operators bind

unbound : (o : Option Infix) (f : Frame) → ((i : Infix) → o ≡ Some i → infix_own i < asks f) → binds o f ≡ false
unbound None f h = refl
unbound (Some i) f h = lt-leb (asks f) (infix_own i) (h i refl)

pub leaves : (b : Bars) (l : ℕ) (f : Frame) (k : List Spot) → l ≤ 15 → ((i : Infix) → infix_left i ≤ l → infix_own i < asks f) → Ends b l k → Leaves (bars_in b) f k
leaves b l f [] le h e = tt
leaves b l f (c ∷ k) le h e =
    let g = trailer_ends (is_trailer c.0) (left_in (infix_of (bars_in b) c.0)) l e le in
    (g.0, unbound (infix_of (bars_in b) c.0) f (λ i q. h i (subst (λ o. left_in o ≤ l) q g.1)))

pub leaves_high : (i : Bool) (f : Frame) (k : List Spot) → 15 ≤ asks f → NoTrailer k → Leaves i f k
leaves_high i f [] h n = tt
leaves_high i f (c ∷ k) h n = (n, unbound (infix_of i c.0) f (λ o q. omega (arith, own_in_left o)))

pub no_trailer_ends : (b : Bars) (l : ℕ) (k : List Spot) → l ≤ 15 → Ends b l k → NoTrailer k
no_trailer_ends b l [] le e = tt
no_trailer_ends b l (c ∷ k) le e = (trailer_ends (is_trailer c.0) (left_in (infix_of (bars_in b) c.0)) l e le).0

pub ends_free : (b : Bars) (k : List Spot) → NoTrailer k → Ends b 15 k
ends_free b [] h = tt
ends_free b (c ∷ k) h = any_ends (bars_in b) c.0 h

pub call_opens : (f : Stack) (x : E) → behind_new f ≡ false → arguments x f ≡ listed (a_call x) [] f
call_opens [] x h = refl
call_opens (new_of ∷ f) x h = absurd cc
call_opens (_ ∷ f) x h = refl

-- ---- statements

-- no `else` and no `finally` follows
abbrev pub NoElse : List Spot → Type 0
NoElse [] = Unit {0}
NoElse (c ∷ k) = (is else_word c ≡ false) × (is finally_word c ≡ false)

-- what may follow a statement
abbrev pub Follows : S → List Spot → Type 0
Follows s [] = Unit {0}
Follows s (c ∷ k) = (is_open s ≡ true → is else_word c ≡ false) × (is finally_word c ≡ false)

pub follows_any : (s : S) (k : List Spot) → NoElse k → Follows s k
follows_any s [] h = tt
follows_any s (c ∷ k) h = (λ z. h.0, h.1)

pub as_open : (s r : S) (k : List Spot) → is_open s ≡ is_open r → Follows s k → Follows r k
as_open s r [] e h = tt
as_open s r (c ∷ k) e h = (λ z. h.0 (e ∙ z), h.1)

pub open_follows : (s : S) (k : List Spot) → is_open s ≡ true → Follows s k → NoElse k
open_follows s [] o h = tt
open_follows s (c ∷ k) o h = (h.0 o, h.1)

pub takes_statement : (b : Body) (acc : List S) (s : S) (f : Stack) (k : List Spot) → run k (ended s (body b acc ∷ f)) ≡ run k (start (body b (acc ++ s ∷ []) ∷ f))
unfolding run step resume all_of
takes_statement a_program acc s [] [] = refl
takes_statement a_program acc s (g ∷ f) [] = refl
takes_statement b acc s f (c ∷ k) = refl
takes_statement _ acc s f [] = refl

pub ends_then : (x : E) (s : S) (f : Stack) (k : List Spot) → NoElse k → run k (ended s (then_of x ∷ f)) ≡ run k (ended (tree.branch x s tree.no_stmt) f)
unfolding run step resume all_of
ends_then x s f [] h = refl
ends_then x s f (c ∷ k) h = rw h.0 refl

pub ends_else : (x : E) (r s : S) (f : Stack) (k : List Spot) → run k (ended s (else_of x r ∷ f)) ≡ run k (ended (tree.branch x r (tree.some_stmt s)) f)
unfolding run step resume all_of
ends_else x r s f [] = refl
ends_else x r s f (c ∷ k) = refl

pub ends_while : (x : E) (s : S) (f : Stack) (k : List Spot) → run k (ended s (while_body x ∷ f)) ≡ run k (ended (tree.while_loop x s) f)
unfolding run step resume all_of
ends_while x s f [] = refl
ends_while x s f (c ∷ k) = refl

pub ends_for : (r : Placed t.first) (m n : Placed t.maybe_expr) (s : S) (f : Stack) (k : List Spot) → run k (ended s (for_body r m n ∷ f)) ≡ run k (ended (tree.for_loop r m n s) f)
unfolding run step resume all_of
ends_for r m n s f [] = refl
ends_for r m n s f (c ∷ k) = refl

pub ends_in : (r : Placed t.loop_target) (x : E) (s : S) (f : Stack) (k : List Spot) → run k (ended s (in_body r x ∷ f)) ≡ run k (ended (tree.for_in r x s) f)
unfolding run step resume all_of
ends_in r x s f [] = refl
ends_in r x s f (c ∷ k) = refl

pub ends_with : (x : E) (a : ℕ) (s : S) (f : Stack) (k : List Spot) → run k (ended s (with_body x a ∷ f)) ≡ run k (ended (tree.with_object x s a) f)
unfolding run step resume all_of
ends_with x a s f [] = refl
ends_with x a s f (c ∷ k) = refl

pub ends_label : (n : Word) (s : S) (f : Stack) (k : List Spot) → run k (ended s (label_of n ∷ f)) ≡ run k (ended (tree.label n s) f)
unfolding run step resume all_of
ends_label n s f [] = refl
ends_label n s f (c ∷ k) = refl

pub ends_catch : (ss : List S) (n : Word) (hs : List S) (f : Stack) (k : List Spot) → (s : S) → Follows s k → run k (caught ss n hs f) ≡ run k (ended (caught_made ss n hs) f)
unfolding run step
ends_catch ss n hs f [] s h = refl
ends_catch ss n hs f (c ∷ k) s h = rw h.1 refl
