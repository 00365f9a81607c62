-- Printed brackets pair, and no more of them are open at once than twice the nesting.
use Rattle.std.proofs.Common.{◌≡◌, ℕ, ◌+◌, ◌-◌, ◌*◌, ◌<◌, ◌≤◌, max, Bool, true, false, List, [], ◌∷◌, ◌++◌, map, Option, Some, None, refl, ap, ◌∙◌, subst, arith, append_assoc}
use Rattle.std.specs.Prelude.{if◌then◌else◌}
use Rattle.es3_tree.specs.Tree as t
use Rattle.es3_tree.specs.Token.{Token}
use Rattle.es3_tree.specs.Measure.{nest}
use Rattle.es3_tree.specs.declared.UnOp.{UnOp}
use Rattle.es3_tree.specs.declared.UnOp.TheVariants.{Delete, Void, Typeof, Plus, Minus, BitNot, Not}
use Rattle.es3_tree.specs.declared.BinOp.{BinOp}
use Rattle.es3_tree.specs.declared.BinOp.TheVariants.{Mul, Div, Rem, Add, Sub, Shl, Shr, Ushr, Less, Greater, LessEq, GreaterEq, InstanceOf, InObject, Equal, NotEqual, Same, NotSame, BitAnd, BitXor, BitOr}
use Rattle.es3_grammar.specs.Spots.{Spot, open_brace, close_brace, open_paren, close_paren, open_bracket, close_bracket, semicolon, in_word}
use Rattle.es3_grammar.specs.Levels.{Join, an_op, an_and, an_or, an_assign, a_comma, left, right, unary_sign, step_sign}
use Rattle.es3_grammar.specs.Limit.{opens, shuts, most}
use Rattle.es3_printed.specs.Tokens as printed
use Rattle.es3_printed.specs.Tokens.{assign_sign, bare, behind_comma, behind_field, behind_item, between, clause_head, join_sign, listed, named, op_sign, truth, wrapped, wraps, wraps_maker, wraps_object}
use Rattle.es3_printed.proofs.Shown.{kinds}

-- ---- brackets of tokens without places

abbrev turned : ℕ → Token → ℕ
turned o r = if opens r then o + 1 else if shuts r then o - 1 else o

abbrev counted_of : ℕ → List Token → ℕ
counted_of o [] = o
counted_of o (r ∷ w) = counted_of (turned o r) w

abbrev most_of : ℕ → List Token → ℕ
most_of o [] = o
most_of o (r ∷ w) = max o (most_of (turned o r) w)

most_kinds : (v : List Spot) (o : ℕ) → most o v ≡ most_of o (kinds v)
most_kinds [] o = refl
most_kinds (c ∷ v) o = ap (max o) (most_kinds v (turned o c.0))

most_above : (w : List Token) (o : ℕ) → o ≤ most_of o w
most_above [] o = omega arith
most_above (r ∷ w) o = omega arith

counted_append : (u w : List Token) (o : ℕ) → counted_of o (u ++ w) ≡ counted_of (counted_of o u) w
counted_append [] w o = refl
counted_append (r ∷ u) w o = counted_append u w (turned o r)

most_append : (u w : List Token) (o : ℕ) → most_of o (u ++ w) ≡ max (most_of o u) (most_of (counted_of o u) w)
most_append [] w o = omega (arith, most_above w o)
most_append (r ∷ u) w o = omega (arith, most_append u w (turned o r))

turned_mark : (r : Token) (o : ℕ) → opens r ≡ false → shuts r ≡ false → turned o r ≡ o
turned_mark r o p q = ap (λ b. if b then o + 1 else if shuts r then o - 1 else o) p ∙ ap (λ b. if b then o - 1 else o) q

turned_open : (r : Token) (o : ℕ) → opens r ≡ true → turned o r ≡ o + 1
turned_open r o p = ap (λ b. if b then o + 1 else if shuts r then o - 1 else o) p

turned_shut : (r : Token) (o : ℕ) → opens r ≡ false → shuts r ≡ true → turned (o + 1) r ≡ o
turned_shut r o p q =
    ap (λ b. if b then (o + 1) + 1 else if shuts r then (o + 1) - 1 else o + 1) p ∙ ap (λ b. if b then (o + 1) - 1 else o + 1) q
    ∙ (let e : (o + 1) - 1 ≡ o = omega arith in e)

-- the brackets of these tokens pair, and fewer than h of them are open at once
record Pairs (h : ℕ) (w : List Token) : Type 0 where
  back : (o : ℕ) → counted_of o w ≡ o
  few : (o : ℕ) → most_of o w < o + h

more : {h k : ℕ} {w : List Token} → Pairs h w → h ≤ k → Pairs k w
more p le = record { back = p.back; few = λ o. (let f = p.few o in omega arith) }

none : {k : ℕ} → 1 ≤ k → Pairs k []
none le = record { back = λ o. refl; few = λ o. omega arith }

mark : {k : ℕ} {r : Token} {w : List Token} → opens r ≡ false → shuts r ≡ false → Pairs k w → Pairs k (r ∷ w)
mark {k} {r} {w} p q h = record {
  back = λ o. ap (λ n. counted_of n w) (turned_mark r o p q) ∙ h.back o;
  few = λ o. (let e = ap (λ n. most_of n w) (turned_mark r o p q) in let f = h.few o in let g = most_above w o in omega (arith, e, f, g));
}

in_turn : {k : ℕ} {u w : List Token} → Pairs k u → Pairs k w → Pairs k (u ++ w)
in_turn {k} {u} {w} p q = record {
  back = λ o. counted_append u w o ∙ ap (λ n. counted_of n w) (p.back o) ∙ q.back o;
  few = λ o. (let e = ap (λ n. max (most_of o u) (most_of n w)) (p.back o) in let f = p.few o in let g = q.few o in omega (arith, most_append u w o, e));
}

-- tokens in brackets, and tokens behind these
in_pair : {h k : ℕ} {a : Token} {u w : List Token} (b : Token) → opens a ≡ true → opens b ≡ false → shuts b ≡ true
    → Pairs h u → h + 1 ≤ k → Pairs k w → Pairs k (a ∷ (u ++ b ∷ w))
in_pair {h} {k} {a} {u} {w} b i j s p le q = record {
  back = λ o. ap (λ n. counted_of n (u ++ b ∷ w)) (turned_open a o i) ∙ counted_append u (b ∷ w) (o + 1) ∙ ap (λ n. counted_of n (b ∷ w)) (p.back (o + 1))
      ∙ ap (λ n. counted_of n w) (turned_shut b o j s) ∙ q.back o;
  few = λ o. (let d = ap (λ n. most_of n (u ++ b ∷ w)) (turned_open a o i) in
      let e = most_append u (b ∷ w) (o + 1) in
      let m = ap (λ n. most_of n (b ∷ w)) (p.back (o + 1)) in
      let n = ap (λ n. most_of n w) (turned_shut b o j s) in
      let f = p.few (o + 1) in let g = q.few o in let l = most_above u (o + 1) in omega (arith, d, e, m, n, f, g, l));
}

in_parens : {h k : ℕ} {u w : List Token} → Pairs h u → h + 1 ≤ k → Pairs k w → Pairs k (open_paren ∷ (u ++ close_paren ∷ w))
in_parens p le q = in_pair close_paren refl refl refl p le q

in_brackets : {h k : ℕ} {u w : List Token} → Pairs h u → h + 1 ≤ k → Pairs k w → Pairs k (open_bracket ∷ (u ++ close_bracket ∷ w))
in_brackets p le q = in_pair close_bracket refl refl refl p le q

in_braces : {h k : ℕ} {u w : List Token} → Pairs h u → h + 1 ≤ k → Pairs k w → Pairs k (open_brace ∷ (u ++ close_brace ∷ w))
in_braces p le q = in_pair close_brace refl refl refl p le q

wrap : {h k : ℕ} {u : List Token} (b : Bool) → Pairs h u → h + 1 ≤ k → Pairs k (wrapped b u)
wrap true p le = in_parens p le (none (let f = p.few 0 in omega arith))
wrap false p le = more p (omega arith)

-- ---- the parts of trees

op_opens : (op : BinOp) → (opens (op_sign op) ≡ false) × (shuts (op_sign op) ≡ false)
op_opens Mul = (refl, refl)
op_opens Div = (refl, refl)
op_opens Rem = (refl, refl)
op_opens Add = (refl, refl)
op_opens Sub = (refl, refl)
op_opens Shl = (refl, refl)
op_opens Shr = (refl, refl)
op_opens Ushr = (refl, refl)
op_opens Less = (refl, refl)
op_opens Greater = (refl, refl)
op_opens LessEq = (refl, refl)
op_opens GreaterEq = (refl, refl)
op_opens InstanceOf = (refl, refl)
op_opens InObject = (refl, refl)
op_opens Equal = (refl, refl)
op_opens NotEqual = (refl, refl)
op_opens Same = (refl, refl)
op_opens NotSame = (refl, refl)
op_opens BitAnd = (refl, refl)
op_opens BitXor = (refl, refl)
op_opens BitOr = (refl, refl)

assign_opens : (op : Option BinOp) → (opens (assign_sign op) ≡ false) × (shuts (assign_sign op) ≡ false)
assign_opens (Some Add) = (refl, refl)
assign_opens (Some Sub) = (refl, refl)
assign_opens (Some Mul) = (refl, refl)
assign_opens (Some Rem) = (refl, refl)
assign_opens (Some Shl) = (refl, refl)
assign_opens (Some Shr) = (refl, refl)
assign_opens (Some Ushr) = (refl, refl)
assign_opens (Some BitAnd) = (refl, refl)
assign_opens (Some BitOr) = (refl, refl)
assign_opens (Some BitXor) = (refl, refl)
assign_opens (Some Div) = (refl, refl)
assign_opens op = (refl, refl)

join_opens : (j : Join) → (opens (join_sign j) ≡ false) × (shuts (join_sign j) ≡ false)
join_opens (an_op op) = op_opens op
join_opens an_and = (refl, refl)
join_opens an_or = (refl, refl)
join_opens (an_assign op) = assign_opens op
join_opens a_comma = (refl, refl)

unary_opens : (op : UnOp) → (opens (unary_sign op) ≡ false) × (shuts (unary_sign op) ≡ false)
unary_opens Delete = (refl, refl)
unary_opens Void = (refl, refl)
unary_opens Typeof = (refl, refl)
unary_opens Plus = (refl, refl)
unary_opens Minus = (refl, refl)
unary_opens BitNot = (refl, refl)
unary_opens Not = (refl, refl)

step_opens : (up : Bool) → (opens (step_sign up) ≡ false) × (shuts (step_sign up) ≡ false)
step_opens true = (refl, refl)
step_opens false = (refl, refl)

truth_pairs : (v : Bool) → Pairs 2 (truth v ∷ [])
truth_pairs true = mark refl refl (none (omega arith))
truth_pairs false = mark refl refl (none (omega arith))

named_pairs : {k : ℕ} (x : Option (List ℕ)) → 1 ≤ k → Pairs k (named x)
named_pairs None le = none le
named_pairs (Some x) le = mark refl refl (none le)

listed_pairs : {k : ℕ} (xs : List (List ℕ)) → 1 ≤ k → Pairs k (listed xs)
listed_pairs [] le = none le
listed_pairs (x ∷ []) le = mark refl refl (none le)
listed_pairs (x ∷ y ∷ ys) le = mark refl refl (mark refl refl (listed_pairs (y ∷ ys) le))

between_pairs : {h i k : ℕ} {u v : List Token} (b : Bool) (j : Join) (x y : t.Tree t.expr)
    → Pairs h u → Pairs i v → h + 1 ≤ k → i + 1 ≤ k → Pairs k (between b j x u y v)
between_pairs b j x y p q l m = in_turn (wrap (wraps b (left j) x) p l) (mark (join_opens j).0 (join_opens j).1 (wrap (wraps b (right j) y) q m))

none_of : {k : ℕ} {w : List Token} → Pairs k w → Pairs k []
none_of p = none (let f = p.few 0 in omega arith)

behind_expr : {k : ℕ} {w : List Token} (es : t.Tree t.exprs) → Pairs k w → Pairs k (behind_comma es w)
behind_expr t.no_exprs p = none_of p
behind_expr (t.more_exprs x xs) p = mark refl refl p

behind_key : {k : ℕ} {w : List Token} (fs : t.Tree t.fields) → Pairs k w → Pairs k (behind_field fs w)
behind_key t.no_fields p = none_of p
behind_key (t.more_fields k x fs) p = mark refl refl p

behind_name : {k : ℕ} {w : List Token} (is : t.Tree t.items) → Pairs k w → Pairs k (behind_item is w)
behind_name t.no_items p = none_of p
behind_name (t.more_items x e is) p = mark refl refl p

head_pairs : {k : ℕ} {w : List Token} (m : t.Tree t.maybe_expr) → Pairs k w → Pairs k (clause_head m w)
head_pairs t.no_expr p = mark refl refl (mark refl refl (none_of p))
head_pairs (t.some_expr e) p = mark refl refl (in_turn p (mark refl refl (none_of p)))

-- the heads of `for`, and what stands behind them
for_pairs : {h k : ℕ} {u v w x : List Token} → Pairs h u → Pairs h v → Pairs h w → h + 1 ≤ k → Pairs k x
    → Pairs k (open_paren ∷ (u ++ semicolon ∷ (v ++ semicolon ∷ (w ++ close_paren ∷ x))))
for_pairs {h} {k} {u} {v} {w} {x} p q r le s =
    subst (λ (y : List Token). Pairs k (open_paren ∷ y)) (one_list u v w x)
    (in_parens (in_turn p (mark {r = semicolon} refl refl (in_turn q (mark {r = semicolon} refl refl r)))) le s)
  where
    one_list : (u v w x : List Token) → (u ++ semicolon ∷ (v ++ semicolon ∷ w)) ++ close_paren ∷ x ≡ u ++ semicolon ∷ (v ++ semicolon ∷ (w ++ close_paren ∷ x))
    one_list u v w x =
        append_assoc u (semicolon ∷ (v ++ semicolon ∷ w)) (close_paren ∷ x)
        ∙ ap (λ (y : List Token). u ++ semicolon ∷ y) (append_assoc v (semicolon ∷ w) (close_paren ∷ x))

for_in_pairs : {h k : ℕ} {u v w : List Token} → Pairs h u → Pairs h v → h + 1 ≤ k → Pairs k w → Pairs k (open_paren ∷ (u ++ in_word ∷ (v ++ close_paren ∷ w)))
for_in_pairs {h} {k} {u} {v} {w} p q le r =
    subst (λ (y : List Token). Pairs k (open_paren ∷ y)) (append_assoc u (in_word ∷ v) (close_paren ∷ w))
    (in_parens (in_turn p (mark {r = in_word} refl refl q)) le r)

-- of a tree that nests so deep fewer brackets are open than this. In an expression and in a function there may be one more, its own parentheses;
-- a `catch` and a `finally` nest as deep as what stands in their braces
abbrev room : t.Sort → ℕ → ℕ
room t.expr n = 2 * n
room t.func n = 2 * n
room t.handler n = 2 * n + 2
room t.maybe_block n = 2 * n + 2
room s n = 2 * n + 1

pairs : (s : t.Sort) (b : Bool) (q : t.Tree s) → Pairs (room s (nest s q)) (bare s b q)
unfolding bare
-- 11.1, 11.2
pairs _ b t.this = mark refl refl (none (omega arith))
pairs _ b t.null = mark refl refl (none (omega arith))
pairs _ b (t.bool v) = truth_pairs v
pairs _ b (t.num n) = mark refl refl (none (omega arith))
pairs _ b (t.text us) = mark refl refl (none (omega arith))
pairs _ b (t.name x) = mark refl refl (none (omega arith))
pairs _ b (t.array es) = in_brackets (pairs _ b es) (omega arith) (none (omega arith))
pairs _ b (t.object fs) = in_braces (pairs _ b fs) (omega arith) (none (omega arith))
pairs _ b (t.function f) = more (pairs _ b f) (omega arith)
pairs _ b (t.dot e k) = in_turn (wrap (wraps_object b e) (pairs _ b e) (omega arith)) (mark refl refl (mark refl refl (none (omega arith))))
pairs _ b (t.index e k) = in_turn (wrap (wraps_object b e) (pairs _ b e) (omega arith))
    (in_brackets (wrap {k = 2 * nest t.expr k + 1} (wraps b 0 k) (pairs _ b k) (omega arith)) (omega arith) (none (omega arith)))
pairs _ b (t.call e es) = in_turn (wrap (wraps b 15 e) (pairs _ b e) (omega arith)) (in_parens (pairs _ b es) (omega arith) (none (omega arith)))
pairs _ b (t.new e es) = mark refl refl (in_turn (wrap (wraps_maker b e) (pairs _ b e) (omega arith))
    (in_parens (pairs _ b es) (omega arith) (none (omega arith))))
-- 11.3 to 11.14
pairs _ b (t.unary op x) = mark (unary_opens op).0 (unary_opens op).1 (wrap (wraps b 13 x) (pairs _ b x) (omega arith))
pairs _ b (t.step up true x) = mark (step_opens up).0 (step_opens up).1 (wrap (wraps b 13 x) (pairs _ b x) (omega arith))
pairs _ b (t.step up false x) = in_turn (wrap (wraps b 15 x) (pairs _ b x) (omega arith)) (mark (step_opens up).0 (step_opens up).1 (none (omega arith)))
pairs _ b (t.binary op x y) = between_pairs b (an_op op) x y (pairs _ b x) (pairs _ b y) (omega arith) (omega arith)
pairs _ b (t.and x y) = between_pairs b an_and x y (pairs _ b x) (pairs _ b y) (omega arith) (omega arith)
pairs _ b (t.or x y) = between_pairs b an_or x y (pairs _ b x) (pairs _ b y) (omega arith) (omega arith)
pairs _ b (t.choice x y z) = in_turn (wrap (wraps b 3 x) (pairs _ b x) (omega arith))
    (mark refl refl (in_turn (wrap (wraps b 1 y) (pairs _ b y) (omega arith)) (mark refl refl (wrap (wraps b 1 z) (pairs _ b z) (omega arith)))))
pairs _ b (t.assign op x y) = between_pairs b (an_assign op) x y (pairs _ b x) (pairs _ b y) (omega arith) (omega arith)
pairs _ b (t.comma x y) = between_pairs b a_comma x y (pairs _ b x) (pairs _ b y) (omega arith) (omega arith)
pairs _ b t.no_exprs = none (omega arith)
pairs _ b (t.more_exprs e es) = in_turn (wrap (wraps b 1 e) (pairs _ b e) (omega arith)) (behind_expr es (more (pairs _ b es) (omega arith)))
pairs _ b t.no_fields = none (omega arith)
pairs _ b (t.more_fields k e fs) = mark refl refl (mark refl refl (in_turn (wrap (wraps b 1 e) (pairs _ b e) (omega arith))
    (behind_key fs (more (pairs _ b fs) (omega arith)))))
pairs _ b t.no_expr = none (omega arith)
pairs _ b (t.some_expr e) = more (pairs _ b e) (omega arith)
-- 12
pairs _ b (t.block ss) = in_braces (pairs _ false ss) (omega arith) (none (omega arith))
pairs _ b (t.var is) = mark refl refl (in_turn (more (pairs _ false is) (omega arith)) (mark refl refl (none (omega arith))))
pairs _ b t.empty = mark refl refl (none (omega arith))
pairs _ b (t.expression e) = in_turn (wrap (printed.opens (bare _ false e)) (pairs _ false e) (omega arith)) (mark refl refl (none (omega arith)))
pairs _ b (t.branch e s r) = mark refl refl (in_parens (pairs _ false e) (omega arith)
    (in_turn (more (pairs _ false s) (omega arith)) (more (pairs _ false r) (omega arith))))
pairs _ b (t.while_loop e s) = mark refl refl (in_parens (pairs _ false e) (omega arith) (more (pairs _ false s) (omega arith)))
pairs _ b (t.do_loop s e) = mark refl refl (in_turn (more (pairs _ false s) (omega arith))
    (mark refl refl (in_parens (pairs _ false e) (omega arith) (mark refl refl (none (omega arith))))))
pairs _ b (t.for_loop f m n s) = mark refl refl (for_pairs {h = 2 * max (nest t.first f) (max (nest t.maybe_expr m) (nest t.maybe_expr n)) + 1}
    (more (pairs _ true f) (omega arith)) (more (pairs _ false m) (omega arith)) (more (pairs _ false n) (omega arith)) (omega arith)
    (more (pairs _ false s) (omega arith)))
pairs _ b (t.for_in l e s) = mark refl refl (for_in_pairs {h = 2 * max (nest t.loop_target l) (nest t.expr e) + 1}
    (more (pairs _ false l) (omega arith)) (more (pairs _ false e) (omega arith)) (omega arith) (more (pairs _ false s) (omega arith)))
pairs _ b (t.continue x) = mark refl refl (in_turn (named_pairs x (omega arith)) (mark refl refl (none (omega arith))))
pairs _ b (t.break x) = mark refl refl (in_turn (named_pairs x (omega arith)) (mark refl refl (none (omega arith))))
pairs _ b (t.return m) = mark refl refl (in_turn (more (pairs _ false m) (omega arith)) (mark refl refl (none (omega arith))))
pairs _ b (t.with_object e s) = mark refl refl (in_parens (pairs _ false e) (omega arith) (more (pairs _ false s) (omega arith)))
pairs _ b (t.switch e cs) = mark refl refl (in_parens (pairs _ false e) (omega arith) (in_braces (pairs _ false cs) (omega arith) (none (omega arith))))
pairs _ b (t.label x s) = mark refl refl (mark refl refl (more (pairs _ false s) (omega arith)))
pairs _ b (t.throw e) = mark refl refl (in_turn (more (pairs _ false e) (omega arith)) (mark refl refl (none (omega arith))))
pairs _ b (t.try ss h l) = mark refl refl (in_braces (pairs _ false ss) (omega arith)
    (in_turn (more (pairs _ false h) (omega arith)) (more (pairs _ false l) (omega arith))))
pairs _ b (t.declare f) = more (pairs _ false f) (omega arith)
pairs _ b t.no_stmts = none (omega arith)
pairs _ b (t.more_stmts s ss) = in_turn (more (pairs _ false s) (omega arith)) (more (pairs _ false ss) (omega arith))
pairs _ b t.no_items = none (omega arith)
pairs _ b (t.more_items x t.no_expr is) = mark refl refl (behind_name is (more (pairs _ b is) (omega arith)))
pairs _ b (t.more_items x (t.some_expr e) is) = mark refl refl (mark refl refl (in_turn (wrap (wraps b 1 e) (pairs _ b e) (omega arith))
    (behind_name is (more (pairs _ b is) (omega arith)))))
pairs _ b t.no_stmt = none (omega arith)
pairs _ b (t.some_stmt s) = mark refl refl (pairs _ false s)
pairs _ b t.no_block = none (omega arith)
pairs _ b (t.some_block ss) = mark refl refl (in_braces (pairs _ false ss) (omega arith) (none (omega arith)))
pairs _ b t.no_first = none (omega arith)
pairs _ b (t.first_var is) = mark refl refl (pairs _ b is)
pairs _ b (t.first_expr e) = wrap (wraps b 0 e) (pairs _ b e) (omega arith)
pairs _ b (t.loop_var x) = mark refl refl (mark refl refl (none (omega arith)))
pairs _ b (t.loop_expr e) = more (pairs _ false e) (omega arith)
pairs _ b t.no_cases = none (omega arith)
pairs _ b (t.more_cases m ss cs) = in_turn (head_pairs m (more (pairs _ false m) (omega arith)))
    (in_turn (more (pairs _ false ss) (omega arith)) (more (pairs _ false cs) (omega arith)))
pairs _ b t.no_handler = none (omega arith)
pairs _ b (t.some_handler x ss) = mark refl refl (in_parens (mark refl refl (none {k = 1} (omega arith))) (omega arith)
    (in_braces (pairs _ false ss) (omega arith) (none (omega arith))))
-- 13, 14
pairs _ b (t.fun x ps body) = mark refl refl (in_turn (named_pairs x (omega arith))
    (in_parens (listed_pairs {k = 1} ps (omega arith)) (omega arith) (in_braces (pairs _ false body) (omega arith) (none (omega arith)))))
pairs _ b (t.script body) = pairs _ false body

pub few_brackets : (p : t.Tree t.program) (v : List Spot) → map (λ c. c.0) v ≡ bare t.program false p → most 0 v ≤ 2 * nest t.program p
few_brackets p v e = (let k = most_kinds v 0 in let h = ap (most_of 0) e in let f = (pairs t.program false p).few 0 in omega (arith, k, h, f))
