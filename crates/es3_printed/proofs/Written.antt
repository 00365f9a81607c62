-- Each token that is printed is a token, where those that spell the tree are.
use Rattle.std.proofs.Common.{◌≡◌, ℕ, ◌<◌, List, [], ◌∷◌, ◌++◌, Bool, true, false, map, Option, Some, None, refl, sym, subst, arith, lit<, append_assoc}
use Rattle.std.specs.Prelude.{ℤ}
use Rattle.std.specs.Char.{digit_value}
use Rattle.std.specs.Fmt.{decimal}
use Rattle.std.specs.Str.Parse.{AllDigits}
use Rattle.std.specs.List.{All, list_all}
use Rattle.std.proofs.lemmas.Bool.Decides.{nat_tests}
use Rattle.std.proofs.lemmas.List.Elements.{All-nil, All-cons, All-head, All-tail, All-append}
use Rattle.std.proofs.lemmas.List.{append-nil}
use Rattle.std.proofs.lemmas.Fmt.{decimal_is_IsNumeral}
use Rattle.caja_units.specs.Number.{number_text}
use Rattle.es3_tree.specs.Token.{Token, name, word, punct, num, text}
use Rattle.es3_tree.specs.Tree as t
use Rattle.es3_tree.specs.Placed.{Placed, Word}
use Rattle.es3_tree.specs.declared.BinOp.{BinOp}
use Rattle.es3_tree.specs.declared.BinOp.TheVariants.{Mul, Div, Rem, Add, Sub, Shl, Shr, Ushr, Less, Greater, LessEq, GreaterEq, InstanceOf, InObject, Equal, NotEqual, Same, NotSame, BitAnd, BitXor, BitOr}
use Rattle.es3_tokens.specs.Characters.{is_letter, is_part}
use Rattle.es3_tokens.specs.Tokens.{is_name}
use Rattle.es3_tokens.specs.Back.{IsToken}
use Rattle.es3_tokens.proofs.Tests.{and_parts}
use Rattle.es3_grammar.specs.Spots.{Spot, comma, colon, close_brace}
use Rattle.es3_grammar.specs.Levels.{E, Join, an_op, an_and, an_or, an_assign, a_comma, joined}
use Rattle.es3_grammar.specs.Grammar.{Bars, key_of, naming, Names, no_name, one_name, more_names, Spells, s_this, s_null, s_true, s_false, s_num, s_text, s_name, s_paren, s_array, s_array_comma, s_object, s_function, s_dot, s_index, s_call, s_new_call, s_new, s_postfix, s_prefix_step, s_prefix, s_join, s_choice, s_no_exprs, s_some_exprs, s_one_expr, s_more_exprs, s_no_fields, s_some_fields, s_one_field, s_more_fields, s_func, s_block, s_var, s_empty, s_expression, s_one_item, s_more_items, s_no_value, s_value, s_if, s_else, s_do, s_while, s_for, s_for_in, s_no_first, s_first_var, s_first_expr, s_no_expr, s_some_expr, s_loop_var, s_loop_expr, s_continue, s_break, s_return, s_with, s_switch, s_no_cases, s_case, s_default, s_label, s_throw, s_catch, s_finally, s_catch_finally, s_no_stmts, s_more_stmts, s_declaration, s_script}
use Rattle.es3_grammar.proofs.Tables.{some_is}
use Rattle.es3_grammar.specs.Plain.{plain, plain_name}
use Rattle.es3_printed.specs.Tokens.{bare, wrapped, between, join_sign, named, listed, initialiser, behind_comma, behind_field, behind_item}
use Rattle.es3_printed.specs.Back.{AreTokens}

abbrev At : Spot → Type 0
At c = IsToken c.0

-- where those of u are tokens, those of w are
record Carries (u : List Spot) (w : List Token) : Type 0 where
  on : AreTokens u → All IsToken w

-- ---- by the shape of the tokens: a token that both have, that the first have, that the second have

two_parts : (u v : List Spot) → AreTokens (u ++ v) → AreTokens u × AreTokens v
two_parts [] v h = (All-nil At, h)
two_parts (c ∷ u) v h =
    let i = two_parts u v (All-tail At c (u ++ v) h) in
    (All-cons At c u (All-head At c (u ++ v) h) i.0, i.1)

nil : {u : List Spot} → Carries u []
nil = record { on = λ h. All-nil IsToken }

keep : {c : Token} {a : ℕ} {v : List Spot} {w : List Token} → Carries v w → Carries ((c, a) ∷ v) (c ∷ w)
keep {c} {a} {v} {w} p = record { on = λ h. All-cons IsToken c w (All-head At (c, a) v h) (p.on (All-tail At (c, a) v h)) }

skip : {c : Spot} {v : List Spot} {w : List Token} → Carries v w → Carries (c ∷ v) w
skip {c} {v} {w} p = record { on = λ h. p.on (All-tail At c v h) }

put : {c : Token} {v : List Spot} {w : List Token} → IsToken c → Carries v w → Carries v (c ∷ w)
put {c} {v} {w} i p = record { on = λ h. All-cons IsToken c w i (p.on h) }

join : {u v : List Spot} {w z : List Token} → Carries u w → Carries v z → Carries (u ++ v) (w ++ z)
join {u} {v} {w} {z} p q = record { on = λ h. let i = two_parts u v h in All-append IsToken w z (p.on i.0) (q.on i.1) }

-- of the same tokens
beside : {u : List Spot} {w z : List Token} → Carries u w → Carries u z → Carries u (w ++ z)
beside {u} {w} {z} p q = record { on = λ h. All-append IsToken w z (p.on h) (q.on h) }

-- the first of two lists
first_of : {u : List Spot} (v : List Spot) {w : List Token} → Carries u w → Carries (u ++ v) w
first_of {u} v p = record { on = λ h. p.on (two_parts u v h).0 }

alone : {u : List Spot} {w : List Token} → Carries u w → Carries u (w ++ [])
alone {u} {w} p = subst (Carries u) (sym (append-nil w)) p

closed : (c : Token) (a : ℕ) {u v : List Spot} {w z : List Token} → Carries u w → Carries v z → Carries (u ++ (c, a) ∷ v) ((w ++ c ∷ []) ++ z)
closed c a {u} {v} {w} {z} p q = subst (Carries (u ++ (c, a) ∷ v)) (sym (append_assoc w (c ∷ []) z)) (join p (keep q))

wrap : {u : List Spot} {w : List Token} (b : Bool) → Carries u w → Carries u (wrapped b w)
wrap true p = put (lit< tt) (beside p (put (lit< tt) nil))
wrap false p = p

-- ---- names, keys and signs

maybe_named : (n : Option Word) → Carries (naming n) (named (plain_name n))
maybe_named None = nil
maybe_named (Some n) = keep nil

parameters : (ns : List Word) (u : List Spot) → Names ns u → Carries u (listed (map (λ w. w.text) ns))
parameters _ _ no_name = nil
parameters _ _ (one_name n) = keep nil
parameters _ _ (more_names a n m ns u p) = keep (keep (parameters (m ∷ ns) u p))

-- a key's units are below 65536, be it a name, a text or a number

part_small : (c : ℕ) → is_part c ≡ true → c < 65536
part_small c h = grind (arith, nat_tests)

parts_small : (us : List ℕ) → list_all is_part us ≡ true → IsToken (text us)
parts_small [] h = All-nil (λ u. u < 65536)
parts_small (c ∷ us) h =
    let a = and_parts (is_part c) (list_all is_part us) h in
    All-cons (λ u. u < 65536) c us (part_small c a.0) (parts_small us a.1)

letter_small : (c : ℕ) → is_letter c ≡ true → c < 65536
letter_small c h = grind (arith, nat_tests)

pub name_small : (us : List ℕ) → is_name us ≡ true → IsToken (text us)
name_small [] h = cc
name_small (c ∷ us) h =
    let a = and_parts (is_letter c) (list_all is_part us) h in
    All-cons (λ u. u < 65536) c us (letter_small c a.0) (parts_small us a.1)

digit_small : (c : ℕ) → digit_value c < 10 → c < 65536
digit_small c h = grind (arith, nat_tests)

digits_small : (us : List ℕ) → AllDigits 10 us → IsToken (text us)
digits_small [] h = All-nil (λ u. u < 65536)
digits_small (c ∷ us) h = All-cons (λ u. u < 65536) c us (digit_small c h.0) (digits_small us h.1)

number_small : (n : ℤ) → IsToken (num n) → IsToken (text (number_text n))
number_small n h = subst (λ n. IsToken (text (number_text n))) (sym h.1) (digits_small (decimal h.0) (decimal_is_IsNumeral h.0 (let lt = h.2 in omega arith)).0.1)

key_token : (c : Spot) (n : Word) → key_of c ≡ Some n → IsToken c.0 → IsToken (text n.text)
key_token (name us, a) n e h = subst (λ k. IsToken (text k.text)) (some_is _ _ e) (name_small us h.0)
key_token (text us, a) n e h = subst (λ k. IsToken (text k.text)) (some_is _ _ e) h
key_token (num m, a) n e h = subst (λ k. IsToken (text k.text)) (some_is _ _ e) (number_small m h)
key_token (word m, a) n e h = cc
key_token (punct m, a) n e h = cc

key : {c : Spot} {n : Word} {v : List Spot} {w : List Token} → key_of c ≡ Some n → Carries v w → Carries (c ∷ v) (text n.text ∷ w)
key {c} {n} {v} {w} e p = record { on = λ h. All-cons IsToken (text n.text) w (key_token c n e (All-head At c v h)) (p.on (All-tail At c v h)) }

op_token : (op : BinOp) → IsToken (join_sign (an_op op))
op_token Mul = lit< tt
op_token Div = lit< tt
op_token Rem = lit< tt
op_token Add = lit< tt
op_token Sub = lit< tt
op_token Shl = lit< tt
op_token Shr = lit< tt
op_token Ushr = lit< tt
op_token Less = lit< tt
op_token Greater = lit< tt
op_token LessEq = lit< tt
op_token GreaterEq = lit< tt
op_token InstanceOf = lit< tt
op_token InObject = lit< tt
op_token Equal = lit< tt
op_token NotEqual = lit< tt
op_token Same = lit< tt
op_token NotSame = lit< tt
op_token BitAnd = lit< tt
op_token BitXor = lit< tt
op_token BitOr = lit< tt

assign_token : (op : BinOp) → IsToken (join_sign (an_assign (Some op)))
assign_token Mul = lit< tt
assign_token Div = lit< tt
assign_token Rem = lit< tt
assign_token Add = lit< tt
assign_token Sub = lit< tt
assign_token Shl = lit< tt
assign_token Shr = lit< tt
assign_token Ushr = lit< tt
assign_token Less = lit< tt
assign_token Greater = lit< tt
assign_token LessEq = lit< tt
assign_token GreaterEq = lit< tt
assign_token InstanceOf = lit< tt
assign_token InObject = lit< tt
assign_token Equal = lit< tt
assign_token NotEqual = lit< tt
assign_token Same = lit< tt
assign_token NotSame = lit< tt
assign_token BitAnd = lit< tt
assign_token BitXor = lit< tt
assign_token BitOr = lit< tt

sign_token : (j : Join) → IsToken (join_sign j)
sign_token (an_op op) = op_token op
sign_token an_and = lit< tt
sign_token an_or = lit< tt
sign_token (an_assign None) = lit< tt
sign_token (an_assign (Some op)) = assign_token op
sign_token a_comma = lit< tt

join_tokens : (j : Join) (x y : E) (f : Bool)
    → between f j (plain t.expr x) (bare t.expr f (plain t.expr x)) (plain t.expr y) (bare t.expr f (plain t.expr y)) ≡ bare t.expr f (plain t.expr (joined j x y))
unfolding bare
join_tokens (an_op op) x y f = refl
join_tokens an_and x y f = refl
join_tokens an_or x y f = refl
join_tokens (an_assign op) x y f = refl
join_tokens a_comma x y f = refl

-- ---- what stands behind an item, and what a variable begins as

more_exprs : {a : ℕ} {v : List Spot} {w : List Token} (es : t.Tree t.exprs) → Carries v w → Carries ((comma, a) ∷ v) (behind_comma es w)
more_exprs t.no_exprs p = nil
more_exprs (t.more_exprs e es) p = keep p

more_fields : {a : ℕ} {v : List Spot} {w : List Token} (fs : t.Tree t.fields) → Carries v w → Carries ((comma, a) ∷ v) (behind_field fs w)
more_fields t.no_fields p = nil
more_fields (t.more_fields k e fs) p = keep p

more_items : {a : ℕ} {v : List Spot} {w : List Token} (is : t.Tree t.items) → Carries v w → Carries ((comma, a) ∷ v) (behind_item is w)
more_items t.no_items p = nil
more_items (t.more_items x m is) p = keep p

begins_as : {u : List Spot} {w : List Token} (f : Bool) (m : t.Tree t.maybe_expr) → Carries u w → Carries u (initialiser f m w)
begins_as f t.no_expr p = nil
begins_as f (t.some_expr e) p = put (lit< tt) (wrap _ p)

-- ---- every form

carried : (s : t.Sort) (b : Bars) (l : ℕ) (x : Placed s) (u : List Spot) → Spells s b l x u → (o : Bool) → Carries u (bare s o (plain s x))
unfolding bare
carried _ _ _ _ _ (s_this b l a le) o = keep nil
carried _ _ _ _ _ (s_null b l a le) o = keep nil
carried _ _ _ _ _ (s_true b l a le) o = keep nil
carried _ _ _ _ _ (s_false b l a le) o = keep nil
carried _ _ _ _ _ (s_num b l a n le) o = keep nil
carried _ _ _ _ _ (s_text b l a n le) o = keep nil
carried _ _ _ _ _ (s_name b l n le) o = keep nil
carried _ _ _ _ _ (s_paren b l a d x u le p) o = skip (first_of _ (carried _ _ _ _ _ p o))
carried _ _ _ _ _ (s_array b l a d xs u le p) o = keep (join (carried _ _ _ _ _ p o) (keep nil))
carried _ _ _ _ _ (s_array_comma b l a d e xs u le p) o = keep (join (carried _ _ _ _ _ p o) (skip (keep nil)))
carried _ _ _ _ _ (s_object b l a d fs u le p) o = keep (join (carried _ _ _ _ _ p o) (keep nil))
carried _ _ _ _ _ (s_function b l a n ps ss u le p) o = skip (carried _ _ _ _ _ p o)
carried _ _ _ _ _ (s_dot b l a x n u le p) o = join (wrap _ (carried _ _ _ _ _ p o)) (keep (keep nil))
carried _ _ _ _ _ (s_index b l a d x y u v le p q) o = join (wrap _ (carried _ _ _ _ _ p o)) (keep (join (wrap _ (carried _ _ _ _ _ q o)) (keep nil)))
carried _ _ _ _ _ (s_call b l a d x xs u v le c p q) o = join (wrap _ (carried _ _ _ _ _ p o)) (keep (join (carried _ _ _ _ _ q o) (keep nil)))
carried _ _ _ _ _ (s_new_call b l a d e x xs u v le p q) o = keep (join (wrap _ (carried _ _ _ _ _ p o)) (keep (join (carried _ _ _ _ _ q o) (keep nil))))
carried _ _ _ _ _ (s_new b l a x u le p) o = keep (beside (wrap _ (carried _ _ _ _ _ p o)) (put (lit< tt) (put (lit< tt) nil)))
carried _ _ _ _ _ (s_postfix b l a up x u le h p) o = join (wrap _ (carried _ _ _ _ _ p o)) (keep nil)
carried _ _ _ _ _ (s_prefix_step b l a up x u le h p) o = keep (wrap _ (carried _ _ _ _ _ p o))
carried _ _ _ _ _ (s_prefix b l a op x u le p) o = keep (wrap _ (carried _ _ _ _ _ p o))
carried _ _ _ _ _ (s_join b l a j c x y u v le i h p q) o =
    subst (Carries (u ++ (c, a) ∷ v)) (join_tokens j x y o) (join (wrap _ (carried _ _ _ _ _ p o)) (skip (put (sign_token j) (wrap _ (carried _ _ _ _ _ q o)))))
carried _ _ _ _ _ (s_choice b l a d x y z u v w le p q r) o =
    join (wrap _ (carried _ _ _ _ _ p o)) (keep (join (wrap _ (carried _ _ _ _ _ q o)) (keep (wrap _ (carried _ _ _ _ _ r o)))))
carried _ _ _ _ _ s_no_exprs o = nil
carried _ _ _ _ _ (s_some_exprs xs u p) o = carried _ _ _ _ _ p o
carried _ _ _ _ _ (s_one_expr x u p) o = alone (wrap _ (carried _ _ _ _ _ p o))
carried _ _ _ _ _ (s_more_exprs a x xs u v p q) o = join (wrap _ (carried _ _ _ _ _ p o)) (more_exprs (plain t.exprs xs) (carried _ _ _ _ _ q o))
carried _ _ _ _ _ s_no_fields o = nil
carried _ _ _ _ _ (s_some_fields fs u p) o = carried _ _ _ _ _ p o
carried _ _ _ _ _ (s_one_field a c n x u e p) o = key e (keep (alone (wrap _ (carried _ _ _ _ _ p o))))
carried _ _ _ _ _ (s_more_fields a d c n x fs u v e p q) o =
    key e (keep (join (wrap _ (carried _ _ _ _ _ p o)) (more_fields (plain t.fields fs) (carried _ _ _ _ _ q o))))
carried _ _ _ _ _ (s_func a d e f g n ps ss u v ns p) o =
    put (lit< tt) (join (maybe_named n) (keep (join (parameters ps u ns) (keep (keep (join (carried _ _ _ _ _ p _) (keep nil)))))))
carried _ _ _ _ _ (s_block a d ss u p) o = keep (join (carried _ _ _ _ _ p _) (keep nil))
carried _ _ _ _ _ (s_var a c is u p e) o = keep (join (carried _ _ _ _ _ p _) (skip (put (lit< tt) nil)))
carried _ _ _ _ _ (s_empty a) o = keep nil
carried _ _ _ _ _ (s_expression c x u p h e) o = join (wrap _ (carried _ _ _ _ _ p _)) (put (lit< tt) nil)
carried _ _ _ _ _ (s_one_item b n m u p) o = keep (alone (begins_as o (plain t.maybe_expr m) (carried _ _ _ _ _ p o)))
carried _ _ _ _ _ (s_more_items b a n m is u v p q) o =
    keep (join (begins_as o (plain t.maybe_expr m) (carried _ _ _ _ _ p o)) (more_items (plain t.items is) (carried _ _ _ _ _ q o)))
carried _ _ _ _ _ (s_no_value b) o = nil
carried _ _ _ _ _ (s_value b a x u p) o = skip (carried _ _ _ _ _ p o)
carried _ _ _ _ _ (s_if a d e x s u v p q) o = keep (keep (join (carried _ _ _ _ _ p _) (keep (alone (carried _ _ _ _ _ q _)))))
carried _ _ _ _ _ (s_else a d e f x s r u v w p q h i) o =
    keep (keep (join (carried _ _ _ _ _ p _) (keep (join (carried _ _ _ _ _ q _) (keep (carried _ _ _ _ _ i _))))))
carried _ _ _ _ _ (s_do a d e f c s x u v p q h) o = keep (join (carried _ _ _ _ _ p _) (keep (keep (join (carried _ _ _ _ _ q _) (keep (put (lit< tt) nil))))))
carried _ _ _ _ _ (s_while a d e x s u v p q) o = keep (keep (join (carried _ _ _ _ _ p _) (keep (carried _ _ _ _ _ q _))))
carried _ _ _ _ _ (s_for a d e f g r m n s u v w z h i j k) o =
    keep (keep (join (carried _ _ _ _ _ h _) (keep (join (carried _ _ _ _ _ i _) (keep (join (carried _ _ _ _ _ j _) (keep (carried _ _ _ _ _ k _))))))))
carried _ _ _ _ _ (s_for_in a d e f r x s u v w h i j) o =
    keep (keep (join (carried _ _ _ _ _ h _) (keep (join (carried _ _ _ _ _ i _) (keep (carried _ _ _ _ _ j _))))))
carried _ _ _ _ _ s_no_first o = nil
carried _ _ _ _ _ (s_first_var a is u p) o = keep (carried _ _ _ _ _ p o)
carried _ _ _ _ _ (s_first_expr x u p) o = wrap _ (carried _ _ _ _ _ p o)
carried _ _ _ _ _ s_no_expr o = nil
carried _ _ _ _ _ (s_some_expr x u p) o = carried _ _ _ _ _ p o
carried _ _ _ _ _ (s_loop_var a n) o = keep (keep nil)
carried _ _ _ _ _ (s_loop_expr x u h p) o = carried _ _ _ _ _ p _
carried _ _ _ _ _ (s_continue a c n e) o = keep (join (maybe_named n) (put (lit< tt) nil))
carried _ _ _ _ _ (s_break a c n e) o = keep (join (maybe_named n) (put (lit< tt) nil))
carried _ _ _ _ _ (s_return a c m u p e) o = keep (join (carried _ _ _ _ _ p _) (put (lit< tt) nil))
carried _ _ _ _ _ (s_with a d e x s u v p q) o = keep (keep (join (carried _ _ _ _ _ p _) (keep (carried _ _ _ _ _ q _))))
carried _ _ _ _ _ (s_switch a d e f g x cs u v p q h) o = keep (keep (join (carried _ _ _ _ _ p _) (keep (keep (join (carried _ _ _ _ _ q _) (keep nil))))))
carried _ _ _ _ _ s_no_cases o = nil
carried _ _ _ _ _ (s_case a d x ss cs u v w p q r) o = keep (closed colon d (carried _ _ _ _ _ p _) (join (carried _ _ _ _ _ q _) (carried _ _ _ _ _ r _)))
carried _ _ _ _ _ (s_default a d ss cs v w p q) o = keep (keep (join (carried _ _ _ _ _ p _) (carried _ _ _ _ _ q _)))
carried _ _ _ _ _ (s_label a n s u p) o = keep (keep (carried _ _ _ _ _ p _))
carried _ _ _ _ _ (s_throw a c x u p e) o = keep (join (carried _ _ _ _ _ p _) (put (lit< tt) nil))
carried _ _ _ _ _ (s_catch a d e f g h i j ss n hs u v p q) o =
    keep (keep (join (carried _ _ _ _ _ p _) (keep (keep (keep (keep (keep (keep (closed close_brace j (carried _ _ _ _ _ q _) nil)))))))))
carried _ _ _ _ _ (s_finally a d e f g h ss ls u v p q) o =
    keep (keep (join (carried _ _ _ _ _ p _) (keep (keep (keep (join (carried _ _ _ _ _ q _) (keep nil)))))))
carried _ _ _ _ _ (s_catch_finally a d e f g h i j k l m ss n hs ls u v w p q r) o =
    keep (keep (join (carried _ _ _ _ _ p _) (keep (keep (keep (keep (keep (keep
    (closed close_brace j (carried _ _ _ _ _ q _) (keep (keep (join (carried _ _ _ _ _ r _) (keep nil)))))))))))))
carried _ _ _ _ _ (s_no_stmts l) o = nil
carried _ _ _ _ _ (s_more_stmts l s ss u v p q) o = join (carried _ _ _ _ _ p _) (carried _ _ _ _ _ q _)
carried _ _ _ _ _ (s_declaration a n ps body ss u v p q) o = skip (join (carried _ _ _ _ _ p false) (carried _ _ _ _ _ q false))
carried _ _ _ _ _ (s_script ss u p) o = carried _ _ _ _ _ p _

pub written : (s : t.Sort) (b : Bars) (l : ℕ) (x : Placed s) (u : List Spot) → Spells s b l x u → AreTokens u → (o : Bool) → All IsToken (bare s o (plain s x))
written s b l x u p h o = let c = carried s b l x u p o in c.on h
