-- What is read is spelled so: operands, lists, and what stands behind an expression.
use Rattle.std.proofs.Common.{◌≡◌, ℕ, ◌≤◌, ◌<◌, Bool, true, false, cond, List, [], ◌∷◌, ◌++◌, Option, Some, None, refl, sym, ap, subst, inl, inr, ◌∙◌, arith, append_assoc}
use Rattle.std.proofs.lemmas.Bool.{leb-true, leb-false}
use Rattle.es3_tree.specs.Token.{Token}
use Rattle.es3_tree.specs.Tree as t
use Rattle.es3_tree.specs.Placed as tree
use Rattle.es3_grammar.specs.Spots.{Spot, is, colon, query}
use Rattle.es3_grammar.specs.Levels.{E, Join, an_op, an_and, an_or, an_assign, a_comma, own, left, right, joined, is_target, takes_left, Infix, joins, a_query, a_step, infix_of}
use Rattle.es3_grammar.specs.Levels as l
use Rattle.es3_grammar.specs.Grammar.{Bars, no_call, BeginsPlain, Spells, s_new, s_postfix, s_prefix_step, s_prefix, s_join, s_choice}
use Rattle.es3_grammar.specs.Frames.{Frame, new_of, prefix_step, prefix, join, test, either, statement, Stack, State, want, past, asks, asked, no_in_here}
use Rattle.es3_grammar.specs.Machine.{when, infix_own, binds, shifted, filled}
use Rattle.es3_grammar.proofs.Tables.{chosen, some_is, none_some, spot_is, query_is, step_is}
use Rattle.es3_grammar.proofs.Follow.{level_fits, barred, bars_of, low_bars, in_of}
use Rattle.es3_grammar.proofs.Longer.{weaken}
use Rattle.es3_grammar.proofs.Stands.{Headed, Place, Leads, makes, Stands, Over, StandsFor}

-- ---- states

pub the_state : (u : List Spot) (r s : State) → Some r ≡ Some s → StandsFor r u → StandsFor s u
the_state u r s e h = subst (λ (z : State). StandsFor z u) (some_is r s e) h

pub when_so : (b : Bool) (x s : State) (u : List Spot) → when b x ≡ Some s → (b ≡ true → StandsFor x u) → StandsFor s u
when_so b x s u e h = elim (chosen b (Some x) None (Some s) e) [ inl g ↦ the_state u x s g.1 (h g.0) | inr g ↦ none_some s g.1 ]

at_token : (d : Token) (c : Spot) (s : State) (u : List Spot) → is d c ≡ true → StandsFor s (u ++ (d, c.1) ∷ []) → StandsFor s (u ++ c ∷ [])
at_token d c s u e h = subst (λ (z : Spot). StandsFor s (u ++ z ∷ [])) (sym (spot_is d c e)) h

pub token_so : (d : Token) (c : Spot) (x s : State) (u : List Spot) → when (is d c) x ≡ Some s → StandsFor x (u ++ (d, c.1) ∷ []) → StandsFor s (u ++ c ∷ [])
token_so d c x s u e h = when_so (is d c) x s (u ++ c ∷ []) e (λ g. at_token d c x u g h)

pub token_or : (d : Token) (c : Spot) (x : State) (o : Option State) (s : State) (u : List Spot) → cond (is d c) (Some x) o ≡ Some s → StandsFor x (u ++ (d, c.1) ∷ [])
    → (o ≡ Some s → is d c ≡ false → StandsFor s (u ++ c ∷ [])) → StandsFor s (u ++ c ∷ [])
token_or d c x o s u e h k = elim (chosen (is d c) (Some x) o (Some s) e) [ inl g ↦ the_state (u ++ c ∷ []) x s g.1 (at_token d c x u g.0 h) | inr g ↦ k g.1 g.0 ]

plain_append : (w v : List Spot) → BeginsPlain w → BeginsPlain (w ++ v)
plain_append [] v h = absurd h
plain_append (c ∷ w) v h = h

pub headed_append : (f : Stack) (w v : List Spot) → Headed f w → Headed f (w ++ v)
headed_append [] w v h = tt
headed_append (statement ∷ f) w v h = plain_append w v h
headed_append (_ ∷ f) w v h = tt

pub place_headed : (f : Stack) (w : List Spot) → Place f → Headed f w
place_headed [] w h = tt
place_headed (statement ∷ f) w h = absurd h
place_headed (_ ∷ f) w h = tt

pub right_fits : (j : Join) → right j ≤ 13
right_fits (an_op op) = omega (arith, level_fits op)
right_fits an_and = omega arith
right_fits an_or = omega arith
right_fits (an_assign op) = omega arith
right_fits a_comma = omega arith

pub asked_fits : (f : Stack) → asked f ≤ 15
asked_fits [] = omega arith
asked_fits (join j x ∷ f) = omega (arith, right_fits j)
asked_fits (_ ∷ f) = omega arith

-- ---- further tokens

pub over_on : (f : Stack) (L M : List Spot → Type 0) (u z : List Spot) → Over f L u → ((w : List Spot) → L w → M (w ++ z)) → Over f M (u ++ z)
over_on f L M u z o g = (o.0, o.1 ++ z, o.2, headed_append f o.1 z o.3, g o.1 o.4, ap (λ k. k ++ z) o.5 ∙ append_assoc o.0 o.1 z)

pub over_as : (f : Stack) (L M : List Spot → Type 0) (u : List Spot) → Over f L u → ((w : List Spot) → L w → M w) → Over f M u
over_as f L M u o g = (o.0, o.1, o.2, o.3, g o.1 o.4, o.5)

pub over_frame : (g : Frame) (f : Stack) (u : List Spot) → Over f (Leads f g) u → asked f ≤ makes g → Stands (g ∷ f) u
over_frame g f u o le = (o.0, o.1, o.2, o.4, le, o.3, o.5)

-- what stands within a frame, with the tokens of the frame
pub inward : (g : Frame) (f : Stack) (L M : List Spot → Type 0) (u : List Spot) → Over (g ∷ f) L u → ((v w : List Spot) → Leads f g v → L w → M (v ++ w)) → Over f M u
inward g f L M u o h = let st = o.2 in
    (st.0, st.1 ++ o.1, st.2, headed_append f st.1 o.1 st.5, h st.1 o.1 st.3 o.4, o.5 ∙ ap (λ z. z ++ o.1) st.6 ∙ append_assoc st.0 st.1 o.1)

pub asked_within : (g : Frame) (f : Stack) (L : List Spot → Type 0) (u : List Spot) → Over (g ∷ f) L u → asked f ≤ makes g
asked_within g f L u o = o.2.4

-- the same, and then a token
pub closing_to : (g : Frame) (f : Stack) (L M : List Spot → Type 0) (u : List Spot) (c : Spot) → Over (g ∷ f) L u → ((v w : List Spot) → Leads f g v → L w → M (v ++ (w ++ c ∷ []))) → Over f M (u ++ c ∷ [])
closing_to g f L M u c o h = inward g f (λ z. (w : List Spot) × L w × (z ≡ w ++ c ∷ [])) M (u ++ c ∷ []) (over_on (g ∷ f) L _ u (c ∷ []) o (λ w p. (w, p, refl))) (λ v z i p. subst (λ (q : List Spot). M (v ++ q)) (sym p.2) (h v p.0 i p.1))

-- ---- levels

-- a part of the level
pub record Part (b : Bars) (n : ℕ) (x : E) (w : List Spot) : Type 0 where
  pub spelled : Spells t.expr b n x w
  pub high : is_target x ≡ true → 15 ≤ n

pub part_of : (b : Bars) (n l : ℕ) (x : E) (w : List Spot) → Part b n x w → l ≤ n → Spells t.expr b l x w
part_of b n l x w p le = weaken b l n x w le p.spelled

-- what an operator asks of the level alone
abbrev soft_join : Join → ℕ
soft_join (an_assign op) = 0
soft_join j = left j

abbrev pub soft : Infix → ℕ
soft (joins j) = soft_join j
soft a_query = 3
soft (a_step up) = 0

abbrev pub soft_in : Option Infix → ℕ
soft_in None = 0
soft_in (Some i) = soft i

soft_low : (i : Infix) → soft i ≤ 12
soft_low (joins (an_op op)) = omega (arith, level_fits op)
soft_low (joins an_and) = omega arith
soft_low (joins an_or) = omega arith
soft_low (joins (an_assign op)) = omega arith
soft_low (joins a_comma) = omega arith
soft_low a_query = omega arith
soft_low (a_step up) = omega arith

pub soft_any : (o : Option Infix) → soft_in o ≤ 12
soft_any None = omega arith
soft_any (Some i) = soft_low i

-- what makes no more than n asks no more, where n is the level of a binary operator
soft_own : (n : ℕ) (i : Infix) → 3 ≤ n → infix_own i ≤ n → soft i ≤ n
soft_own n (joins (an_op op)) h le = omega arith
soft_own n (joins an_and) h le = omega arith
soft_own n (joins an_or) h le = omega arith
soft_own n (joins (an_assign op)) h le = omega arith
soft_own n (joins a_comma) h le = omega arith
soft_own n a_query h le = omega arith
soft_own n (a_step up) h le = omega arith

soft_none : (i : Infix) → infix_own i ≤ 0 → soft i ≤ 0
soft_none (joins (an_op op)) le = absurd (omega (arith, level_fits op))
soft_none (joins an_and) le = absurd (omega arith)
soft_none (joins an_or) le = absurd (omega arith)
soft_none (joins (an_assign op)) le = omega arith
soft_none (joins a_comma) le = omega arith
soft_none a_query le = absurd (omega arith)
soft_none (a_step up) le = omega arith

unbound_own : (i : Infix) (f : Frame) → binds (Some i) f ≡ false → infix_own i < asks f
unbound_own i f e = leb-false (asks f) (infix_own i) e

pub unbound : (f : Frame) (x y : E) (o : Option Infix) → filled f x ≡ Some y → binds o f ≡ false → soft_in o ≤ makes f
unbound f x y None e b = omega arith
unbound new_of x y (Some i) e b = omega (arith, soft_low i)
unbound (prefix_step up) x y (Some i) e b = omega (arith, soft_low i)
unbound (prefix op a) x y (Some i) e b = omega (arith, soft_low i)
unbound (join (an_op op) z) x y (Some i) e b = soft_own (l.level op) i (omega (arith, level_fits op)) (omega (arith, unbound_own i (join (an_op op) z) b))
unbound (join an_and z) x y (Some i) e b = soft_own 4 i (omega arith) (omega (arith, unbound_own i (join an_and z) b))
unbound (join an_or z) x y (Some i) e b = soft_own 3 i (omega arith) (omega (arith, unbound_own i (join an_or z) b))
unbound (join (an_assign op) z) x y (Some i) e b = omega (arith, soft_none i (omega (arith, unbound_own i (join (an_assign op) z) b)))
unbound (join a_comma z) x y (Some i) e b = omega (arith, soft_none i (omega (arith, unbound_own i (join a_comma z) b)))
unbound (either z q) x y (Some i) e b = omega (arith, soft_none i (omega (arith, unbound_own i (either z q) b)))
unbound _ x y (Some i) e b = none_some y e

-- ---- an operator behind a part

own_fits : (j : Join) → own j ≤ 12
own_fits (an_op op) = omega (arith, level_fits op)
own_fits an_and = omega arith
own_fits an_or = omega arith
own_fits (an_assign op) = omega arith
own_fits a_comma = omega arith

left_part : (j : Join) (b : Bars) (n : ℕ) (x : E) (w : List Spot) → Part b n x w → soft_join j ≤ n → takes_left j x ≡ true → Spells t.expr b (left j) x w
left_part (an_assign op) b n x w p le h = part_of b n 15 x w p (p.high h)
left_part (an_op op) b n x w p le h = part_of b n _ x w p le
left_part an_and b n x w p le h = part_of b n 4 x w p le
left_part an_or b n x w p le h = part_of b n 3 x w p le
left_part a_comma b n x w p le h = part_of b n 0 x w p le

shift_sound : (i : Infix) (f : Stack) (c : Spot) (n : ℕ) (x : E) (u : List Spot) (s : State) → Over f (Part (bars_of f) n x) u → infix_of (no_in_here f) c.0 ≡ Some i → asked f ≤ infix_own i → soft i ≤ n
    → shifted (Some i) x f ≡ Some s → StandsFor s (u ++ c ∷ [])
shift_sound (joins j) f c n x u s o is_i le h e = when_so (takes_left j x) (want (join j x ∷ f)) s (u ++ c ∷ []) e (λ g. (
  over_frame (join j x) f (u ++ c ∷ []) (over_on f (Part (bars_of f) n x) (Leads f (join j x)) u (c ∷ []) o
      (λ w p. (w, c.0, c.1, subst (λ b. infix_of b c.0 ≡ Some (joins j)) (in_of f (bars_of f) (omega (arith, own_fits j)) refl) is_i, g, left_part j (bars_of f) n x w p h g, refl))) le,
  tt,
))
shift_sound a_query f c n x u s o is_i le h e = the_state (u ++ c ∷ []) (want (test x ∷ f)) s e
    (over_frame (test x) f (u ++ c ∷ []) (over_on f (Part (bars_of f) n x) (Leads f (test x)) u (c ∷ []) o (λ w p. (w, c.1, part_of (bars_of f) n 3 x w p h, ap (λ (z : Token). w ++ (z, c.1) ∷ []) (query_is (no_in_here f) c.0 is_i)))) le, tt)
shift_sound (a_step up) f c n x u s o is_i le h e = when_so (is_target x) (past (tree.step up false x) f) s (u ++ c ∷ []) e (λ g. (
  over_on f (Part (bars_of f) n x) _ u (c ∷ []) o (λ w p. (
    subst (λ (z : Token). Spells t.expr (bars_of f) 14 (tree.step up false x) (w ++ (z, c.1) ∷ [])) (sym (step_is (no_in_here f) c.0 up is_i))
        (s_postfix (bars_of f) 14 c.1 up x w (omega arith) g (part_of (bars_of f) n 15 x w p (p.high g))),
    refl,
  )),
  le,
))

pub shifted_sound : (o : Option Infix) (f : Stack) (c : Spot) (n : ℕ) (x : E) (u : List Spot) (s : State) → infix_of (no_in_here f) c.0 ≡ o → Over f (Part (bars_of f) n x) u → ((i : Infix) → o ≡ Some i → asked f ≤ infix_own i)
    → soft_in o ≤ n → shifted o x f ≡ Some s → StandsFor s (u ++ c ∷ [])
shifted_sound None f c n x u s is_o st le h e = none_some s e
shifted_sound (Some i) f c n x u s is_o st le h e = shift_sound i f c n x u s st is_o (le i refl) h e

pub bound : (o : Option Infix) (f : Frame) → binds o f ≡ true → (i : Infix) → o ≡ Some i → asks f ≤ infix_own i
bound None f b i e = none_some i e
bound (Some j) f b i e = subst (λ (k : Infix). asks f ≤ infix_own k) (some_is j i e) (leb-true (asks f) (infix_own j) b)

-- ---- a frame that is filled

pub filled_in : (f : Frame) (fs : Stack) (x y : E) → filled f x ≡ Some y → no_in_here (f ∷ fs) ≡ no_in_here fs
filled_in new_of fs x y e = refl
filled_in (prefix_step up) fs x y e = refl
filled_in (prefix op a) fs x y e = refl
filled_in (join j z) fs x y e = refl
filled_in (either z q) fs x y e = refl
filled_in _ fs x y e = none_some y e

pub not_target : (j : Join) (x y : E) → is_target (joined j x y) ≡ false
not_target (an_op op) x y = refl
not_target an_and x y = refl
not_target an_or x y = refl
not_target (an_assign op) x y = refl
not_target a_comma x y = refl

whole_part : (b : Bars) (n : ℕ) (x : E) (w : List Spot) → Spells t.expr b n x w → is_target x ≡ false → Part b n x w
whole_part b n x w p h = record { spelled = p; high = λ g. absurd (cc (g, h)) }

as_bars : (fs : Stack) (n : ℕ) (x : E) (w : List Spot) → asked fs ≤ 14 → Part (barred false (no_in_here fs)) n x w → Part (bars_of fs) n x w
as_bars fs n x w le p = subst (λ b. Part b n x w) (low_bars fs le) p

pub plug : (f : Frame) (fs : Stack) (n : ℕ) (x y : E) (v w : List Spot) → filled f x ≡ Some y → Leads fs f v → Part (bars_of (f ∷ fs)) n x w → asks f ≤ n → asked fs ≤ makes f → Part (bars_of fs) (makes f) y (v ++ w)
plug new_of fs n x y v w e i p le h = subst (λ y. Part (bars_of fs) 15 y (v ++ w)) (some_is _ y e) (whole_part _ 15 _ _ (rw i.1 (s_new (bars_of fs) 15 i.0 x w (omega arith) (part_of no_call n 15 x w p le))) refl)
plug (prefix_step up) fs n x y v w e i p le h = elim (chosen (is_target x) (Some (tree.step up true x)) None (Some y) e) [
  | inl g ↦ subst (λ y. Part (bars_of fs) 13 y (v ++ w)) (some_is _ y g.1) (whole_part _ 13 _ _ (rw i.1 (s_prefix_step (bars_of fs) 13 i.0 up x w (omega arith) g.0 (part_of (bars_of fs) n 15 x w (as_bars fs n x w (omega arith) p) le))) refl)
  | inr g ↦ none_some y g.1
]
plug (prefix op a) fs n x y v w e i p le h = subst (λ y. Part (bars_of fs) 13 y (v ++ w)) (some_is _ y e) (whole_part _ 13 _ _ (rw i (s_prefix (bars_of fs) 13 a op x w (omega arith) (part_of (bars_of fs) n 13 x w (as_bars fs n x w (omega arith) p) le))) refl)
plug (join j z) fs n x y v w e i p le h = subst (λ y. Part (bars_of fs) (own j) y (v ++ w)) (some_is _ y e) (whole_part _ (own j) _ _
    (subst (λ q. Spells t.expr (bars_of fs) (own j) (joined j z x) q) (sym (ap (λ q. q ++ w) i.6 ∙ append_assoc i.0 ((i.1, i.2) ∷ []) w))
    (s_join (bars_of fs) (own j) i.2 j i.1 z x i.0 w (omega arith) i.3 i.4 i.5 (part_of (bars_of fs) n (right j) x w (as_bars fs n x w (omega (arith, own_fits j)) p) le))) (not_target j z x))
plug (either z q) fs n x y v w e i p le h = subst (λ y. Part (bars_of fs) 2 y (v ++ w)) (some_is _ y e) (whole_part _ 2 _ _
    (subst (λ k. Spells t.expr (bars_of fs) 2 (tree.choice z q x) k) (sym (ap (λ k. k ++ w) i.6 ∙ append_assoc i.0 ((query, i.2) ∷ (i.1 ++ (colon, i.3) ∷ [])) w ∙ ap (λ k. i.0 ++ (query, i.2) ∷ k) (append_assoc i.1 ((colon, i.3) ∷ []) w)))
    (s_choice (bars_of fs) 2 i.2 i.3 z q x i.0 i.1 w (omega arith) i.4 i.5 (part_of (bars_of fs) n 1 x w (as_bars fs n x w (omega arith) p) le))) refl)
plug _ fs n x y v w e i p le h = none_some y e
