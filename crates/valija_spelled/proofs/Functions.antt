-- Functions and the bodies of functions and programs: how what they are lowered to is spelled.
use Rattle.std.proofs.Common.{◌≡◌, ℕ, ◌+◌, ◌*◌, ◌≤◌, false, List, [], ◌∷◌, ◌++◌, map, length, Option, None, Some, refl, sym, subst, arith, lit<, length-append}
use Rattle.std.specs.Prelude.{codes}
use Rattle.es3_tree.specs.Tree as t
use Rattle.es3_tree.specs.Placed as p
use Rattle.es3_tree.specs.Placed.{Placed, Word}
use Rattle.es3_tree.specs.Token.{name}
use Rattle.es3_tokens.specs.Back.{IsToken}
use Rattle.es3_grammar.specs.Spots.{Spot, function_word, open_paren, close_paren, open_brace, close_brace, comma}
use Rattle.es3_grammar.specs.Grammar.{free, named, Names, no_name, one_name, more_names, s_function, s_func}
use Rattle.cajita_names.specs.Declarations.{declarations}
use Rattle.cajita_names.specs.Scope.{Scope, in_named}
use Rattle.valija_forms.specs.Numbered.{both}
use Rattle.valija_forms.specs.Forms as forms
use Rattle.valija_forms.specs.Forms.{word, receiver_name, taking_receiver}
use Rattle.valija_parts.specs.Lower.{lowered, lowered_function, functions_before, within as around, body_from, declares_function}
use Rattle.valija_spelled.proofs.Pieces.{Are, nothing, then, within, last, Spelt, Ex, fewer, asked_one, a_name, a_call, none_listed}
use Rattle.valija_spelled.proofs.Lines.{IsMaybeName, no_stmts, more_stmts, one_behind, is_declared, a_return, some_expr}
use Rattle.valija_spelled.proofs.Low.{Low, Lows, plain_low}
use Rattle.valija_spelled.proofs.Heads.{AreDeclared, both_declared, with_head}
use Rattle.valija_spelled.proofs.Expressions.{roomy, Whole}

-- ---- parameters, behind the receiver

abbrev moved : List Word → List Word
moved ps = map (λ x. word x.text) ps

pub record Parameters (ps : List Word) (most : ℕ) : Type 0 where
  pub by : List Spot
  pub are : Are by
  pub names : Names ps by
  pub few : length by ≤ most

-- the tokens of the source's parameters
pub record AreParameters (ps : List Word) (u : List Spot) : Type 0 where
  pub behind : (x : List ℕ) → IsToken (name x) → Parameters (word x ∷ moved ps) (length u + 2)

pub no_parameters : AreParameters [] []
no_parameters = record { behind = λ x i. record { by = (name x, 0) ∷ []; are = last i; names = one_name (word x); few = omega arith } }

pub one_parameter : (n : Word) → IsToken (name n.text) → AreParameters (n ∷ []) (named n ∷ [])
one_parameter n h = record {
  behind = λ x i. record {
    by = (name x, 0) ∷ (comma, 0) ∷ (name n.text, 0) ∷ [];
    are = then i (then (lit< tt) (last h));
    names = more_names 0 (word x) (word n.text) [] _ (one_name (word n.text));
    few = omega arith;
  };
}

pub more_parameters : (a : ℕ) (n m : Word) (ns : List Word) (u : List Spot) → IsToken (name n.text) → AreParameters (m ∷ ns) u → AreParameters (n ∷ m ∷ ns) (named n ∷ (comma, a) ∷ u)
more_parameters a n m ns u h q = record {
  behind = λ x i.
      let r = q.behind n.text h in
      record {
        by = (name x, 0) ∷ (comma, 0) ∷ r.by;
        are = then i (then (lit< tt) r.are);
        names = more_names 0 (word x) (word n.text) (moved (m ∷ ns)) r.by r.names;
        few = let f = r.few in omega (arith, f);
      };
}

-- ---- 13: functions that are spelled

a_function : {ps : List Word} {ss : Placed t.stmts} {m n : ℕ} → Parameters ps m → Spelt t.stmts free 1 ss n → Ex (p.function (p.fun None ps ss 0)) (m + n + 5)
a_function {ps} {ss} q r = record {
  by = (function_word, 0) ∷ (open_paren, 0) ∷ (q.by ++ (close_paren, 0) ∷ (open_brace, 0) ∷ (r.by ++ (close_brace, 0) ∷ []));
  are = then (lit< tt) (within (lit< tt) (then (lit< tt) (within (lit< tt) (last (lit< tt)) r.are)) q.are);
  spelled = s_function free 0 0 None ps ss _ (omega arith) (s_func 0 0 0 0 0 None ps ss q.by r.by q.names r.spelled);
  few = let f = q.few in let g = r.few in simp length-append (omega (arith, f, g));
}

receiving : {ps : List Word} {u : List Spot} {ss : Placed t.stmts} {n : ℕ} → AreParameters ps u → Spelt t.stmts free 1 ss n → Ex (taking_receiver ps ss) (length u + n + 14)
receiving q r = fewer (asked_one (codes "dis") (refl, refl) (a_function (q.behind receiver_name (refl, refl)) r)) (omega arith)

no_names : Parameters [] 0
no_names = record { by = []; are = nothing; names = no_name; few = omega arith }

is_named : (f : Word) {e : Placed t.expr} {m : ℕ} → IsToken (name f.text) → Ex e m → Ex (forms.named f e) (m + 18)
is_named f i q =
    fewer
    (a_call (a_function no_names (more_stmts (is_declared f i q) (more_stmts (a_return (some_expr (a_name f.text i))) (no_stmts 1)))) none_listed)
    (omega arith)

-- ---- bodies: the functions in front, and the statements

pub record Body (d n : ℕ) (fs : Placed t.stmts) (r : Placed t.stmts × ℕ) (most : ℕ) : Type 0 where
  pub front : ℕ
  pub count : ℕ
  pub functions : Spelt t.stmts free 1 fs front
  pub statements : (l : ℕ) → Spelt t.stmts free l r.0 count
  pub few : front + count + 4 * r.1 + 4 * d ≤ 4 * n + most

pub record Lines (ss : Placed t.stmts) (m : ℕ) : Type 0 where
  pub declared : AreDeclared (declarations t.stmts ss)
  pub low : (c : Scope) (n : ℕ) → Body (length (declarations t.stmts ss)) n (functions_before c ss) (lowered c t.stmts ss n) m

pub in_a_block : (ss : Placed t.stmts) {m : ℕ} → Lines ss m → (c : Scope) → Lows t.stmts free 0 (length (declarations t.stmts ss)) (lowered c t.stmts ss) m
in_a_block ss q c = record { low = λ n. let r = q.low c n in let f = r.few in record { count = r.count; spelt = r.statements 0; few = omega (arith, f) } }

pub whole_body : {fs : Placed t.stmts} {r : Placed t.stmts × ℕ} {m : ℕ} (body : Placed t.stmts) → AreDeclared (declarations t.stmts body) → Body (length (declarations t.stmts body)) 0 fs r m
    → Spelt t.stmts free 1 (body_from body fs r) (m + 2)
whole_body {r = r} body d q = let f = q.few in fewer (with_head body r.1 d (one_behind q.functions (q.statements 1))) (omega (arith, f))

-- ---- the functions of a source

-- the place of a function with these parameters and this body, wherever it stands
pub record AFunction (ps : List Word) (body : Placed t.stmts) (m : ℕ) : Type 0 where
  pub low : (c : Scope) → Ex (taking_receiver ps (body_from body (functions_before (around c ps body) body) (lowered (around c ps body) t.stmts body 0))) m

pub record Func (name : Option Word) (ps : List Word) (body : Placed t.stmts) (m : ℕ) : Type 0 where
  pub named : IsMaybeName name
  pub function : AFunction ps body m

pub func_form : (ps : List Word) (body : Placed t.stmts) (u : List Spot) (m : ℕ) → AreParameters ps u → Lines body m → AFunction ps body (length u + m + 16)
func_form ps body u m q r = record { low = λ c. fewer (receiving q (whole_body body r.declared (r.low (around c ps body) 0))) (omega arith) }

pub function_form : (x : Option Word) (ps : List Word) (body : Placed t.stmts) (a m : ℕ) → Func x ps body m → Whole (p.function (p.fun x ps body a)) (m + 64)
unfolding lowered lowered_function
function_form None ps body a m q = record { low = λ c. let f = q.function in roomy (plain_low (f.low c)) (omega arith); place = tt }
function_form (Some x) ps body a m q = record { low = λ c. let f = q.function in roomy (plain_low (is_named x q.named (f.low (in_named x.text c)))) (omega arith); place = tt }

-- ---- lists of statements

pub no_stmts_form : Lines p.no_stmts 0
unfolding lowered functions_before declarations
no_stmts_form = record { declared = tt; low = λ c n. record { front = 0; count = 0; functions = no_stmts 1; statements = no_stmts; few = omega arith } }

before_rest : (c : Scope) (x : Placed t.stmt) (ss : Placed t.stmts) → declares_function x ≡ false → functions_before c (p.more_stmts x ss) ≡ functions_before c ss
unfolding functions_before
before_rest c (p.declare f) ss h = absurd cc
before_rest c x ss h = refl

rest_lowered : (c : Scope) (x : Placed t.stmt) (ss : Placed t.stmts) → declares_function x ≡ false → lowered c t.stmts (p.more_stmts x ss) ≡ both p.more_stmts (lowered c t.stmt x) (lowered c t.stmts ss)
unfolding lowered
rest_lowered c (p.declare f) ss h = absurd cc
rest_lowered c x ss h = refl

one_more : (c : Scope) (x : Placed t.stmt) (ss : Placed t.stmts) (d e n m k : ℕ) → Low t.stmt free 0 d n (lowered c t.stmt x n) m
    → Body e (lowered c t.stmt x n).1 (functions_before c ss) (lowered c t.stmts ss (lowered c t.stmt x n).1) k
    → Body (d + e) n (functions_before c ss) (both p.more_stmts (lowered c t.stmt x) (lowered c t.stmts ss) n) (m + k)
unfolding both
one_more c x ss d e n m k q r = record {
  front = r.front;
  count = q.count + r.count;
  functions = r.functions;
  statements = λ l. more_stmts q.spelt (r.statements l);
  few = let f = q.few in let g = r.few in omega (arith, f, g);
}

pub more_stmts_form : (x : Placed t.stmt) (ss : Placed t.stmts) (m k : ℕ) → declares_function x ≡ false → AreDeclared (declarations t.stmt x)
    → ((c : Scope) → Lows t.stmt free 0 (length (declarations t.stmt x)) (lowered c t.stmt x) m) → Lines ss k → Lines (p.more_stmts x ss) (m + k)
unfolding declarations
more_stmts_form x ss m k other d q r = record {
  declared = both_declared (declarations t.stmt x) (declarations t.stmts ss) d r.declared;
  low = λ c n.
      let a = q c in
      let b : Body (length (declarations t.stmt x) + length (declarations t.stmts ss)) n (functions_before c ss) (both p.more_stmts (lowered c t.stmt x) (lowered c t.stmts ss) n) (m + k) =
      one_more c x ss _ _ n m k (a.low n) (r.low c (lowered c t.stmt x n).1)
      in
      subst (λ e. Body e n (functions_before c (p.more_stmts x ss)) (lowered c t.stmts (p.more_stmts x ss) n) (m + k)) (sym (counted (declarations t.stmt x) (declarations t.stmts ss)))
      (subst (λ z. Body (length (declarations t.stmt x) + length (declarations t.stmts ss)) n z (lowered c t.stmts (p.more_stmts x ss) n) (m + k)) (sym (before_rest c x ss other))
      (subst (λ z. Body (length (declarations t.stmt x) + length (declarations t.stmts ss)) n (functions_before c ss) (z n) (m + k)) (sym (rest_lowered c x ss other)) b));
}
  where
    counted : {A : Type 0} (xs ys : List A) → length (xs ++ ys) ≡ length xs + length ys
    counted xs ys = simp length-append (omega arith)

pub declaration_form : (n : Word) (ps : List Word) (body : Placed t.stmts) (a : ℕ) (ss : Placed t.stmts) (m k : ℕ) → Func (Some n) ps body m → Lines ss k
    → Lines (p.more_stmts (p.declare (p.fun (Some n) ps body a)) ss) (m + k + 64)
unfolding lowered functions_before declarations
declaration_form n ps body a ss m k q r = record {
  declared = (q.named, r.declared);
  low = λ c i.
      let f = q.function in
      let s = r.low c i in
      record {
        front = m + 6 + s.front;
        count = s.count;
        functions = more_stmts (is_declared n q.named (f.low c)) s.functions;
        statements = s.statements;
        few = let g = s.few in omega (arith, g);
      };
}
