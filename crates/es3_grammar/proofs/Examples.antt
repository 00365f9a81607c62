-- Sources, what they spell, and the byte of the token with which no program goes on.
use Rattle.std.proofs.Common.{◌≡◌, ℕ, List, [], ◌∷◌, Ok, Err, Bool, true, false, nat_eq, refl}
use Rattle.std.specs.Prelude.{codes}
use Rattle.std.specs.List.{list_all}
use Rattle.es3_tokens.specs.Longest.{longest}
use Rattle.es3_tokens.specs.Texts.{body}
use Rattle.es3_tokens.specs.Gaps.{comment_end}
use Rattle.es3_tokens.specs.Cut as cut
use Rattle.es3_tokens.specs.Cut.{cut_chars, cut_from, point}
use Rattle.es3_grammar.specs.Spots.{spots, look_up}
use Rattle.es3_grammar.specs.Machine.{Answer, whole, part, stopped, settle, resume, step, all_of, run, read, finished}

abbrev answer : cut.Answer → Answer
answer (Ok ts) = read (spots ts)
answer (Err e) = stopped []

abbrev program : List ℕ → Answer
program s = answer (cut_chars s)

abbrev is_whole : Answer → Bool
is_whole (whole p) = true
is_whole a = false

abbrev is_part : Answer → Bool
is_part part = true
is_part a = false

-- the token at this byte is refused
abbrev is_refused : ℕ → Answer → Bool
is_refused n (stopped (c ∷ k)) = nat_eq n c.1
is_refused n a = false

-- keys that are numbers (11.1.5)
abbrev numbers_as_keys : List (List ℕ)
numbers_as_keys = codes "x = {3: d, 0x10: e};" ∷ codes "/* a */ var o = {'x': 0x10}; o.x;" ∷ []

numbers_as_keys_are_read : list_all (λ s. is_whole (program s)) numbers_as_keys ≡ true
unfolding longest body comment_end point cut_from look_up settle resume step all_of finished run
numbers_as_keys_are_read = refl

-- faults of expressions, and the byte of the token that is refused
abbrev faults_of_expressions : List (List ℕ × ℕ)
faults_of_expressions =
    (codes "var a = ;", 8)
    ∷ (codes "a b;", 2)
    ∷ (codes "a + b = c;", 6)
    ∷ (codes "f() = 1;", 4)
    ∷ (codes "1 = a;", 2)
    ∷ (codes "1++;", 1)
    ∷ (codes "f()++;", 3)
    ∷ (codes "++ -a;", 3)
    ∷ (codes "++ !a;", 3)
    ∷ (codes "++ ++a;", 3)
    ∷ (codes "++1;", 3)
    ∷ (codes "++(a + b);", 9)
    ∷ (codes "++new a;", 7)
    ∷ (codes "a++.b;", 3)
    ∷ (codes "a++ ++;", 4)
    ∷ (codes "a++(b);", 3)
    ∷ (codes "new a++;", 5)
    ∷ (codes "new -a;", 4)
    ∷ (codes "new ;", 4)
    ∷ (codes "f(a,);", 4)
    ∷ (codes "f(,a);", 2)
    ∷ (codes "f(a;", 3)
    ∷ (codes "[a,,b];", 3)
    ∷ (codes "[,];", 1)
    ∷ (codes "[a;", 2)
    ∷ (codes "x = {a: 1,};", 10)
    ∷ (codes "x = {if: 1};", 5)
    ∷ (codes "x = {a};", 6)
    ∷ (codes "x = {a: };", 8)
    ∷ (codes "a.if;", 2)
    ∷ (codes "a.'b';", 2)
    ∷ (codes "a[];", 2)
    ∷ (codes "();", 1)
    ∷ (codes "(a;", 2)
    ∷ (codes "a ? b, c : d;", 5)
    ∷ (codes "a ? b;", 5)
    ∷ (codes "a = b + c = d;", 10)
    ∷ (codes "a ? b : c = d = ;", 16)
    ∷ (codes "a || b = c;", 7)
    ∷ (codes "-a = b;", 3)
    ∷ (codes "typeof a = b;", 9)
    ∷ (codes "a,;", 2)
    ∷ (codes "function () {}", 9)
    ∷ (codes "{a: 1, b: 2}", 8)
    ∷ (codes "a in;", 4)
    ∷ (codes "a +;", 3)
    ∷ (codes "*a;", 0)
    ∷ (codes ")", 0)
    ∷ (codes "a)", 1)
    ∷ (codes "]", 0)
    ∷ []

faults_of_expressions_are_refused : list_all (λ r. is_refused r.1 (program r.0)) faults_of_expressions ≡ true
unfolding longest body comment_end point cut_from look_up settle resume step all_of finished run
faults_of_expressions_are_refused = refl

-- faults of statements, and the byte of the token that is refused
abbrev faults_of_statements : List (List ℕ × ℕ)
faults_of_statements =
    (codes "else b;", 0)
    ∷ (codes "if (a) else b;", 7)
    ∷ (codes "if a;", 3)
    ∷ (codes "if (a) b; else c; else d;", 18)
    ∷ (codes "var ;", 4)
    ∷ (codes "var 1;", 4)
    ∷ (codes "var a, ;", 7)
    ∷ (codes "var a.b;", 5)
    ∷ (codes "var (a);", 4)
    ∷ (codes "while () ;", 7)
    ∷ (codes "do a while (b);", 5)
    ∷ (codes "do a; until (b);", 6)
    ∷ (codes "do a; while (b) c;", 16)
    ∷ (codes "for (a, b in c) ;", 10)
    ∷ (codes "for (a + b in c) ;", 11)
    ∷ (codes "for (f() in a) ;", 9)
    ∷ (codes "for (a = b in c; ; ) ;", 11)
    ∷ (codes "for (var a = 1 in b) ;", 15)
    ∷ (codes "for (var a, b in c) ;", 14)
    ∷ (codes "for (a; b) ;", 9)
    ∷ (codes "for (in a) ;", 5)
    ∷ (codes "for (;) ;", 6)
    ∷ (codes "for (a in b; c; d) ;", 11)
    ∷ (codes "continue 1;", 9)
    ∷ (codes "break a b;", 8)
    ∷ (codes "return a b;", 9)
    ∷ (codes "with a;", 5)
    ∷ (codes "switch (a) b", 11)
    ∷ (codes "switch (a) { b; }", 13)
    ∷ (codes "switch (a) { default: default: }", 22)
    ∷ (codes "switch (a) { case 1: default: ; case 2: default: }", 40)
    ∷ (codes "switch (a) { case : }", 18)
    ∷ (codes "case a: ;", 0)
    ∷ (codes "default: ;", 0)
    ∷ (codes "a: function f() {}", 3)
    ∷ (codes "a: }", 3)
    ∷ (codes "throw ;", 6)
    ∷ (codes "try a;", 4)
    ∷ (codes "try {} a;", 7)
    ∷ (codes "try {} catch {}", 13)
    ∷ (codes "try {} catch (1) {}", 14)
    ∷ (codes "try {} catch (a, b) {}", 15)
    ∷ (codes "catch (a) {}", 0)
    ∷ (codes "finally {}", 0)
    ∷ (codes "} a", 0)
    ∷ (codes "{ function f() {} }", 2)
    ∷ (codes "if (a) function f() {}", 7)
    ∷ (codes "function f(a,) {}", 13)
    ∷ (codes "function f(a b) {}", 13)
    ∷ (codes "function f(1) {}", 11)
    ∷ (codes "function f() a;", 13)
    ∷ (codes "function 1() {}", 9)
    ∷ (codes "function f {}", 11)
    ∷ []

faults_of_statements_are_refused : list_all (λ r. is_refused r.1 (program r.0)) faults_of_statements ≡ true
unfolding longest body comment_end point cut_from look_up settle resume step all_of finished run
faults_of_statements_are_refused = refl

-- texts that break off
abbrev unfinished : List (List ℕ)
unfinished =
    codes "x = 1"
    ∷ codes "{"
    ∷ codes "{ a; "
    ∷ codes "if (a)"
    ∷ codes "if (a) b; else"
    ∷ codes "if (a"
    ∷ codes "a ? b :"
    ∷ codes "f("
    ∷ codes "function f("
    ∷ codes "function f() {"
    ∷ codes "x = function f() {}.y"
    ∷ codes "a: b: c"
    ∷ codes "try {"
    ∷ codes "try {}"
    ∷ codes "try {} catch (e)"
    ∷ codes "try {} catch (e) {"
    ∷ codes "try {} finally {"
    ∷ codes "do a;"
    ∷ codes "do a; while"
    ∷ codes "do a; while (b)"
    ∷ codes "new"
    ∷ codes "++"
    ∷ codes "++1"
    ∷ codes "++(a + b)"
    ∷ codes "x = {a"
    ∷ codes "x = {a: b"
    ∷ codes "[a,"
    ∷ codes "switch (a) {"
    ∷ codes "switch (a) { case"
    ∷ codes "switch (a) { default:"
    ∷ codes "for ("
    ∷ codes "for (var"
    ∷ codes "for (var a"
    ∷ codes "for (a in"
    ∷ codes "for (;"
    ∷ codes "return"
    ∷ codes "break"
    ∷ codes "throw"
    ∷ codes "var a ="
    ∷ codes "with (a)"
    ∷ codes "a."
    ∷ codes "a["
    ∷ codes "a +"
    ∷ codes "a:"
    ∷ codes "while (a)"
    ∷ []

unfinished_break_off : list_all (λ s. is_part (program s)) unfinished ≡ true
unfolding longest body comment_end point cut_from look_up settle resume step all_of finished run
unfinished_break_off = refl
