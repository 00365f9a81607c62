-- Sources and the trees that they spell, each tree written with its operator or word first.
use Rattle.std.proofs.Common.{◌≡◌, ℕ, ℤ, List, [], ◌∷◌, ◌++◌, ◌+◌, Bool, true, false, Option, Some, None, Ok, Err, refl}
use Rattle.std.specs.Prelude.{codes, pos, negsuc}
use Rattle.std.specs.List.{list_all}
use Rattle.caja_units.specs.Units.{same_units}
use Rattle.es3_tree.specs.Tree as t
use Rattle.es3_tree.specs.Placed as p
use Rattle.es3_tree.specs.Placed.{Placed, Word}
use Rattle.es3_tree.specs.declared.UnOp.{UnOp}
use Rattle.es3_tree.specs.declared.UnOp.TheVariants as u
use Rattle.es3_tree.specs.declared.BinOp.{BinOp}
use Rattle.es3_tree.specs.declared.BinOp.TheVariants as b
use Rattle.es3_tokens.specs.Longest.{longest}
use Rattle.es3_tokens.specs.Texts.{body}
use Rattle.es3_tokens.specs.Gaps.{comment_end}
use Rattle.es3_tokens.specs.Cut as cut
use Rattle.es3_tokens.specs.Cut.{cut_chars, cut_from, point}
use Rattle.es3_grammar.specs.Spots.{spots, look_up}
use Rattle.es3_grammar.specs.Machine.{Answer, whole, settle, resume, step, all_of, run, read, finished}

abbrev unary_word : UnOp → List ℕ
unary_word u.Delete = codes "delete"
unary_word u.Void = codes "void"
unary_word u.Typeof = codes "typeof"
unary_word u.Plus = codes "+"
unary_word u.Minus = codes "-"
unary_word u.BitNot = codes "~"
unary_word u.Not = codes "!"

abbrev sign : BinOp → List ℕ
sign b.Mul = codes "*"
sign b.Div = codes "/"
sign b.Rem = codes "%"
sign b.Add = codes "+"
sign b.Sub = codes "-"
sign b.Shl = codes "<<"
sign b.Shr = codes ">>"
sign b.Ushr = codes ">>>"
sign b.Less = codes "<"
sign b.Greater = codes ">"
sign b.LessEq = codes "<="
sign b.GreaterEq = codes ">="
sign b.InstanceOf = codes "instanceof"
sign b.InObject = codes "in"
sign b.Equal = codes "=="
sign b.NotEqual = codes "!="
sign b.Same = codes "==="
sign b.NotSame = codes "!=="
sign b.BitAnd = codes "&"
sign b.BitXor = codes "^"
sign b.BitOr = codes "|"

abbrev step_sign : Bool → List ℕ
step_sign true = codes "++"
step_sign false = codes "--"

abbrev assign_sign : Option BinOp → List ℕ
assign_sign None = codes "="
assign_sign (Some op) = sign op ++ codes "="

-- what stands in parentheses, behind its head
abbrev form : List ℕ → List ℕ → List ℕ
form head rest = codes "(" ++ head ++ rest ++ codes ")"

abbrev with : List ℕ → List ℕ
with x = codes " " ++ x

abbrev maybe_name : Option Word → List ℕ
maybe_name None = []
maybe_name (Some n) = with n.text

abbrev names : List Word → List ℕ
names [] = []
names (n ∷ ns) = with n.text ++ names ns

-- a number of one digit; the text of a larger one isn't computed here
abbrev digit : ℤ → List ℕ
digit (pos n) = (48 + n) ∷ []
digit (negsuc n) = []

abbrev shape : (s : t.Sort) → Placed s → List ℕ
shape _ (p.this a) = codes "this"
shape _ p.null = codes "null"
shape _ (p.bool true) = codes "true"
shape _ (p.bool false) = codes "false"
shape _ (p.num n) = digit n
shape _ (p.text us) = codes "'" ++ us ++ codes "'"
shape _ (p.name n) = n.text
shape _ (p.array xs) = codes "[" ++ shape _ xs ++ codes " ]"
shape _ (p.object fs) = codes "{" ++ shape _ fs ++ codes " }"
shape _ (p.function f) = shape _ f
shape _ (p.dot x n) = form (codes ".") (with (shape _ x) ++ with n.text)
shape _ (p.index x y) = form (codes "[]") (with (shape _ x) ++ with (shape _ y))
shape _ (p.call x xs) = form (codes "call") (with (shape _ x) ++ shape _ xs)
shape _ (p.new x xs) = form (codes "new") (with (shape _ x) ++ shape _ xs)
shape _ (p.unary op x a) = form (unary_word op) (with (shape _ x))
shape _ (p.step up true x) = form (step_sign up) (with (shape _ x))
shape _ (p.step up false x) = form (shape _ x) (with (step_sign up))
shape _ (p.binary op x y) = form (sign op) (with (shape _ x) ++ with (shape _ y))
shape _ (p.and x y) = form (codes "&&") (with (shape _ x) ++ with (shape _ y))
shape _ (p.or x y) = form (codes "||") (with (shape _ x) ++ with (shape _ y))
shape _ (p.choice x y z) = form (codes "?") (with (shape _ x) ++ with (shape _ y) ++ with (shape _ z))
shape _ (p.assign op x y) = form (assign_sign op) (with (shape _ x) ++ with (shape _ y))
shape _ (p.comma x y) = form (codes ",") (with (shape _ x) ++ with (shape _ y))
shape _ p.no_exprs = []
shape _ (p.more_exprs x xs) = with (shape _ x) ++ shape _ xs
shape _ p.no_fields = []
shape _ (p.more_fields n x fs) = with n.text ++ codes ": " ++ shape _ x ++ shape _ fs
shape _ p.no_expr = []
shape _ (p.some_expr x) = shape _ x
shape _ (p.block ss) = form (codes "block") (shape _ ss)
shape _ (p.var is) = form (codes "var") (shape _ is)
shape _ p.empty = codes "(;)"
shape _ (p.expression x) = shape _ x ++ codes ";"
shape _ (p.branch x s m) = form (codes "if") (with (shape _ x) ++ with (shape _ s) ++ shape _ m)
shape _ (p.while_loop x s) = form (codes "while") (with (shape _ x) ++ with (shape _ s))
shape _ (p.do_loop s x) = form (codes "do") (with (shape _ s) ++ with (shape _ x))
shape _ (p.for_loop f m n s) = form (codes "for") (with (shape _ f) ++ codes "; " ++ shape _ m ++ codes "; " ++ shape _ n ++ codes "; " ++ shape _ s)
shape _ (p.for_in l x s) = form (codes "in") (with (shape _ l) ++ with (shape _ x) ++ with (shape _ s))
shape _ (p.continue n a) = form (codes "continue") (maybe_name n)
shape _ (p.break n a) = form (codes "break") (maybe_name n)
shape _ (p.return p.no_expr a) = form (codes "return") []
shape _ (p.return (p.some_expr x) a) = form (codes "return") (with (shape _ x))
shape _ (p.with_object x s a) = form (codes "with") (with (shape _ x) ++ with (shape _ s))
shape _ (p.switch x cs) = form (codes "switch") (with (shape _ x) ++ shape _ cs)
shape _ (p.label n s) = form n.text (codes ": " ++ shape _ s)
shape _ (p.throw x) = form (codes "throw") (with (shape _ x))
shape _ (p.try ss h m) = form (codes "try") (shape _ ss ++ shape _ h ++ shape _ m)
shape _ (p.declare f) = shape _ f
shape _ p.no_stmts = []
shape _ (p.more_stmts s ss) = with (shape _ s) ++ shape _ ss
shape _ p.no_items = []
shape _ (p.more_items n p.no_expr is) = with n.text ++ shape _ is
shape _ (p.more_items n (p.some_expr x) is) = with (form n.text (with (shape _ x))) ++ shape _ is
shape _ p.no_stmt = []
shape _ (p.some_stmt s) = with (shape _ s)
shape _ p.no_block = []
shape _ (p.some_block ss) = with (form (codes "finally") (shape _ ss))
shape _ p.no_first = []
shape _ (p.first_var is) = form (codes "var") (shape _ is)
shape _ (p.first_expr x) = shape _ x
shape _ (p.loop_var n) = codes "var " ++ n.text
shape _ (p.loop_expr x) = shape _ x
shape _ p.no_cases = []
shape _ (p.more_cases p.no_expr ss cs) = with (form (codes "default") (shape _ ss)) ++ shape _ cs
shape _ (p.more_cases (p.some_expr x) ss cs) = with (form (codes "case") (with (shape _ x) ++ shape _ ss)) ++ shape _ cs
shape _ p.no_handler = []
shape _ (p.some_handler n ss) = with (form (codes "catch") (with n.text ++ shape _ ss))
shape _ (p.fun n ps ss a) = form (codes "function") (maybe_name n ++ with (form [] (names ps ++ codes " ")) ++ shape _ ss)
shape _ (p.script ss) = shape _ ss

abbrev tree_of : cut.Answer → Answer
tree_of (Ok ts) = read (spots ts)
tree_of (Err e) = read []

abbrev shape_of : Answer → List ℕ
shape_of (whole x) = shape t.program x
shape_of a = codes "none"

-- a source, and the tree that it spells
abbrev Row : Type 0
Row = List ℕ × List ℕ

abbrev holds : Row → Bool
holds r = same_units (shape_of (tree_of (cut_chars r.0))) r.1

-- primary expressions and literals (11.1)
abbrev primary : List Row
primary =
    (codes "this; null; true; false; 1; 'a'; a;", codes " this; null; true; false; 1; 'a'; a;")
    ∷ (codes "(a);", codes " a;")
    ∷ (codes "((a));", codes " a;")
    ∷ (codes "[];", codes " [ ];")
    ∷ (codes "[a];", codes " [ a ];")
    ∷ (codes "[a, b,];", codes " [ a b ];")
    ∷ (codes "[[], [a]];", codes " [ [ ] [ a ] ];")
    ∷ (codes "x = {};", codes " (= x { });")
    ∷ (codes "x = {a: 1};", codes " (= x { a: 1 });")
    ∷ (codes "({a: 1}).a;", codes " (. { a: 1 } a);")
    ∷ (codes "x = function () {};", codes " (= x (function ( )));")
    ∷ (codes "x = function f(a, b) { return a; };", codes " (= x (function f ( a b ) (return a)));")
    ∷ (codes "(function () {})();", codes " (call (function ( )));")
    ∷ (codes "x = {'a b': 1, \"c\": 2};", codes " (= x { a b: 1 c: 2 });")
    ∷ []

primary_are_spelled : list_all holds primary ≡ true
unfolding longest body comment_end point cut_from look_up settle resume step all_of finished run
primary_are_spelled = refl

-- members and calls (11.2)
abbrev members : List Row
members =
    (codes "a.b;", codes " (. a b);")
    ∷ (codes "a.b.c[d].e;", codes " (. ([] (. (. a b) c) d) e);")
    ∷ (codes "a[b, c];", codes " ([] a (, b c));")
    ∷ (codes "f();", codes " (call f);")
    ∷ (codes "f(a, b);", codes " (call f a b);")
    ∷ (codes "f(a)(b)[c].d();", codes " (call (. ([] (call (call f a) b) c) d));")
    ∷ (codes "1 .x;", codes " (. 1 x);")
    ∷ (codes "new a;", codes " (new a);")
    ∷ (codes "new a();", codes " (new a);")
    ∷ (codes "new a.b;", codes " (new (. a b));")
    ∷ (codes "new a.b(c).d(e)[f];", codes " ([] (call (. (new (. a b) c) d) e) f);")
    ∷ (codes "new new a()();", codes " (new (new a));")
    ∷ (codes "new new a;", codes " (new (new a));")
    ∷ (codes "new (a())();", codes " (new (call a));")
    ∷ (codes "new a[b()];", codes " (new ([] a (call b)));")
    ∷ (codes "new function () {};", codes " (new (function ( )));")
    ∷ (codes "new (f().a);", codes " (new (. (call f) a));")
    ∷ []

members_are_spelled : list_all holds members ≡ true
unfolding longest body comment_end point cut_from look_up settle resume step all_of finished run
members_are_spelled = refl

-- operators (11.3 to 11.14)
abbrev operators : List Row
operators =
    (codes "a++;", codes " (a ++);")
    ∷ (codes "a.b--;", codes " ((. a b) --);")
    ∷ (codes "++a;", codes " (++ a);")
    ∷ (codes "--a[b];", codes " (-- ([] a b));")
    ∷ (codes "++(a);", codes " (++ a);")
    ∷ (codes "++1 .x;", codes " (++ (. 1 x));")
    ∷ (codes "++new a().b;", codes " (++ (. (new a) b));")
    ∷ (codes "++f().a;", codes " (++ (. (call f) a));")
    ∷ (codes "delete a.b; void 0; typeof a; +a; -a; ~a; !a;", codes " (delete (. a b)); (void 0); (typeof a); (+ a); (- a); (~ a); (! a);")
    ∷ (codes "!typeof void delete -+~a;", codes " (! (typeof (void (delete (- (+ (~ a)))))));")
    ∷ (codes "- -a;", codes " (- (- a));")
    ∷ (codes "a + b * c - d % e / f;", codes " (- (+ a (* b c)) (/ (% d e) f));")
    ∷ (codes "a << b >> c >>> d;", codes " (>>> (>> (<< a b) c) d);")
    ∷ (codes "a < b > c <= d >= e;", codes " (>= (<= (> (< a b) c) d) e);")
    ∷ (codes "a in b instanceof c;", codes " (instanceof (in a b) c);")
    ∷ (codes "a == b != c === d !== e;", codes " (!== (=== (!= (== a b) c) d) e);")
    ∷ (codes "a & b ^ c | d;", codes " (| (^ (& a b) c) d);")
    ∷ (codes "a && b || c;", codes " (|| (&& a b) c);")
    ∷ (codes "a ? b : c;", codes " (? a b c);")
    ∷ (codes "a ? b : c ? d : e;", codes " (? a b (? c d e));")
    ∷ (codes "a ? b = c : d = e;", codes " (? a (= b c) (= d e));")
    ∷ (codes "a = b = c;", codes " (= a (= b c));")
    ∷ (codes "a += b; a -= b; a *= b; a /= b; a %= b; a <<= b; a >>= b; a >>>= b; a &= b; a ^= b; a |= b;", codes " (+= a b); (-= a b); (*= a b); (/= a b); (%= a b); (<<= a b); (>>= a b); (>>>= a b); (&= a b); (^= a b); (|= a b);")
    ∷ (codes "(a) = b;", codes " (= a b);")
    ∷ (codes "a.b = c[d] = e;", codes " (= (. a b) (= ([] c d) e));")
    ∷ (codes "a, b, c;", codes " (, (, a b) c);")
    ∷ (codes "(a, b);", codes " (, a b);")
    ∷ (codes "-a++;", codes " (- (a ++));")
    ∷ []

operators_are_spelled : list_all holds operators ≡ true
unfolding longest body comment_end point cut_from look_up settle resume step all_of finished run
operators_are_spelled = refl

-- statements (12.1 to 12.5)
abbrev statements : List Row
statements =
    ([], [])
    ∷ (codes "; ;", codes " (;) (;)")
    ∷ (codes "{}", codes " (block)")
    ∷ (codes "{ a; { } }", codes " (block a; (block))")
    ∷ (codes "var a;", codes " (var a)")
    ∷ (codes "var a = 1, b, c = d ? e : f;", codes " (var (a 1) b (c (? d e f)))")
    ∷ (codes "a;", codes " a;")
    ∷ (codes "if (a) b;", codes " (if a b;)")
    ∷ (codes "if (a) b; else c;", codes " (if a b; c;)")
    ∷ (codes "if (a) if (b) c; else d;", codes " (if a (if b c; d;))")
    ∷ (codes "if (a) b; else if (c) d; else e;", codes " (if a b; (if c d; e;))")
    ∷ (codes "if (a) { if (b) c; } else d;", codes " (if a (block (if b c;)) d;)")
    ∷ (codes "if (a) while (b) c; else d;", codes " (if a (while b c;) d;)")
    ∷ (codes "if (a) do if (b) c; while (d); else e;", codes " (if a (do (if b c;) d) e;)")
    ∷ []

statements_are_spelled : list_all holds statements ≡ true
unfolding longest body comment_end point cut_from look_up settle resume step all_of finished run
statements_are_spelled = refl

-- loops (12.6)
abbrev loops : List Row
loops =
    (codes "while (a) b;", codes " (while a b;)")
    ∷ (codes "do a; while (b);", codes " (do a; b)")
    ∷ (codes "do { } while (a); b;", codes " (do (block) a) b;")
    ∷ (codes "for (;;) ;", codes " (for ; ; ; (;))")
    ∷ (codes "for (a; b; c) d;", codes " (for a; b; c; d;)")
    ∷ (codes "for (var a = 1, b; a < b; a++) ;", codes " (for (var (a 1) b); (< a b); (a ++); (;))")
    ∷ (codes "for (a in b) c;", codes " (in a b c;)")
    ∷ (codes "for (a.b in c) ;", codes " (in (. a b) c (;))")
    ∷ (codes "for (f().a in b) ;", codes " (in (. (call f) a) b (;))")
    ∷ (codes "for (var a in b) c;", codes " (in var a b c;)")
    ∷ (codes "for (var a in b, c) ;", codes " (in var a (, b c) (;))")
    ∷ (codes "for (a ? b in c : d; ; ) ;", codes " (for (? a (in b c) d); ; ; (;))")
    ∷ (codes "for ((a in b); ; ) ;", codes " (for (in a b); ; ; (;))")
    ∷ (codes "for (a[b in c]; ; ) ;", codes " (for ([] a (in b c)); ; ; (;))")
    ∷ (codes "for (a(b in c); ; ) ;", codes " (for (call a (in b c)); ; ; (;))")
    ∷ (codes "for (var a = [b in c]; ; ) ;", codes " (for (var (a [ (in b c) ])); ; ; (;))")
    ∷ (codes "for (x = function () { a in b; }; ; ) ;", codes " (for (= x (function ( ) (in a b);)); ; ; (;))")
    ∷ []

loops_are_spelled : list_all holds loops ≡ true
unfolding longest body comment_end point cut_from look_up settle resume step all_of finished run
loops_are_spelled = refl

-- jumps, `with`, `switch`, labels, `throw`, `try`, functions (12.7 to 14)
abbrev others : List Row
others =
    (codes "continue; continue a; break; break a;", codes " (continue) (continue a) (break) (break a)")
    ∷ (codes "return; return a, b;", codes " (return) (return (, a b))")
    ∷ (codes "with (a) b;", codes " (with a b;)")
    ∷ (codes "switch (a) {}", codes " (switch a)")
    ∷ (codes "switch (a) { case b: c; case d: default: e; case f: }", codes " (switch a (case b c;) (case d) (default e;) (case f))")
    ∷ (codes "a: b;", codes " (a: b;)")
    ∷ (codes "a: b: for (;;) { continue a; break b; }", codes " (a: (b: (for ; ; ; (block (continue a) (break b)))))")
    ∷ (codes "throw a, b;", codes " (throw (, a b))")
    ∷ (codes "try {} catch (e) {}", codes " (try (catch e))")
    ∷ (codes "try { a; } finally { b; }", codes " (try a; (finally b;))")
    ∷ (codes "try {} catch (e) {} finally {}", codes " (try (catch e) (finally))")
    ∷ (codes "try {} catch (e) {} a;", codes " (try (catch e)) a;")
    ∷ (codes "function f() {}", codes " (function f ( ))")
    ∷ (codes "function f(a, b) { var c; function g() {} return g; }", codes " (function f ( a b ) (var c) (function g ( )) (return g))")
    ∷ (codes "x = function () { function g() {} };", codes " (= x (function ( ) (function g ( ))));")
    ∷ []

others_are_spelled : list_all holds others ≡ true
unfolding longest body comment_end point cut_from look_up settle resume step all_of finished run
others_are_spelled = refl
