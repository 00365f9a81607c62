-- Forms with several parts: each part is rewritten from the number on at which the part before it ended.
use Rattle.std.proofs.Common.{◌≡◌, ℕ, ◌+◌, Bool, true, false, Option, Some, None, List, codes, if◌then◌else◌, refl, sym, ap, ◌∙◌, arith}
use Rattle.std.specs.Global.{Vec, Box}
use Rattle.es3_tree.specs.declared.BinOp.{BinOp}
use Rattle.es3_tree.specs.declared.Name.{Name}
use Rattle.es3_tree.specs.declared.Stmt.{Stmt}
use Rattle.es3_tree.specs.Tree as t
use Rattle.es3_tree.specs.View as made
use Rattle.cajita_tree.specs.declared.CExpr.{CExpr}
use Rattle.cajita_tree.specs.declared.CExpr.TheVariants as e
use Rattle.cajita_tree.specs.declared.CStmt.{CStmt}
use Rattle.cajita_tree.specs.declared.CStmt.TheVariants as s
use Rattle.cajita_tree.specs.declared.CCase.{CCase}
use Rattle.cajita_tree.specs.declared.Key.{Key}
use Rattle.cajita_tree.specs.declared.Target.{Target}
use Rattle.cajita_tree.specs.Tree as c
use Rattle.cajita_tree.specs.View as source
use Rattle.cajita_tree.proofs.Rows.{view_call, view_method, view_new, view_switch, view_try}
use Rattle.rewrite_parts.specs.Held.{PlaceForm, HeldForm, assigned, stepped, compounded}
use Rattle.cajita_rewrite.specs.Rewrite.{rewritten, temps, of_target, runtime_call, single, pair, triple, keys_loop, key_of}
use Rattle.cajita_rewrite.specs.Members.{place_of, held_of}

pub two : {A B D : Type 0} (f : A → B → D) {a a' : A} {b b' : B} → a ≡ a' → b ≡ b' → f a b ≡ f a' b'
two f {a} {a'} {b} {b'} h k = ap (λ x. f x b) h ∙ ap (f a') k

pub three : {A B D E : Type 0} (f : A → B → D → E) {a a' : A} {b b' : B} {d d' : D} → a ≡ a' → b ≡ b' → d ≡ d' → f a b d ≡ f a' b' d'
three f {a} {a'} {b} {b'} {d} {d'} h k l = ap (λ x. f x b d) h ∙ two (f a') k l

-- a number that goes on by two parts
pub further : {k m : ℕ} (n a b : ℕ) → m ≡ n + a → k ≡ m + b → k ≡ n + (a + b)
further n a b h l = omega arith

-- calls (ES3 11.2.2, 11.2.3)
pub call_form : {x : CExpr} (n : ℕ) {m : ℕ} {f : t.Tree t.expr} {fs : t.Tree t.exprs} (b : Box CExpr) (y : Vec CExpr) → x ≡ e.Call b y
    → f ≡ rewritten false c.expr n (source.expr b.value) → m ≡ n + temps c.expr (source.expr b.value) → fs ≡ rewritten false c.exprs m (source.of_exprs y.items)
    → t.call (runtime_call (codes "asSimpleFunc") (single f)) fs ≡ rewritten false c.expr n (source.expr x)
unfolding rewritten
call_form {x} n b y is first counted last =
    two (λ f fs. t.call (runtime_call (codes "asSimpleFunc") (single f)) fs) first (last ∙ ap (λ k. rewritten false c.exprs k (source.of_exprs y.items)) counted)
    ∙ sym (ap (λ z. rewritten false c.expr n (source.expr z)) is ∙ ap (rewritten false c.expr n) (view_call b y))

pub call_count : {x : CExpr} (n : ℕ) {m k : ℕ} (b : Box CExpr) (y : Vec CExpr) → x ≡ e.Call b y → m ≡ n + temps c.expr (source.expr b.value) → k ≡ m + temps c.exprs (source.of_exprs y.items) → k ≡ n + temps c.expr (source.expr x)
call_count {x} n b y is first last = further n _ _ first last ∙ ap (λ z. n + temps c.expr z) (sym (ap source.expr is ∙ view_call b y))

pub method_form : {x : CExpr} (n : ℕ) {m l : ℕ} {f k : t.Tree t.expr} {fs : t.Tree t.exprs} (b : Box CExpr) (d : Key) (y : Vec CExpr) → x ≡ e.Method b d y
    → f ≡ rewritten false c.expr n (source.expr b.value) → m ≡ n + temps c.expr (source.expr b.value) → k ≡ rewritten false c.key m (source.key d) → l ≡ m + temps c.key (source.key d)
    → fs ≡ rewritten false c.exprs l (source.of_exprs y.items)
    → runtime_call (codes "callPub") (triple f k (t.array fs)) ≡ rewritten false c.expr n (source.expr x)
unfolding rewritten
method_form {x} n b d y is first counted second more last =
    three (λ f k fs. runtime_call (codes "callPub") (triple f k (t.array fs))) first (second ∙ ap (λ i. rewritten false c.key i (source.key d)) counted)
    (last ∙ ap (λ i. rewritten false c.exprs i (source.of_exprs y.items)) (further n _ _ counted more))
    ∙ sym (ap (λ z. rewritten false c.expr n (source.expr z)) is ∙ ap (rewritten false c.expr n) (view_method b d y))

pub method_count : {x : CExpr} (n : ℕ) {m l k : ℕ} (b : Box CExpr) (d : Key) (y : Vec CExpr) → x ≡ e.Method b d y
    → m ≡ n + temps c.expr (source.expr b.value) → l ≡ m + temps c.key (source.key d) → k ≡ l + temps c.exprs (source.of_exprs y.items) → k ≡ n + temps c.expr (source.expr x)
method_count {x} n b d y is first second last = further n _ _ first (further _ _ _ second last) ∙ ap (λ z. n + temps c.expr z) (sym (ap source.expr is ∙ view_method b d y))

pub new_form : {x : CExpr} (n : ℕ) {m : ℕ} {f : t.Tree t.expr} {fs : t.Tree t.exprs} (b : Box CExpr) (y : Vec CExpr) → x ≡ e.New b y
    → f ≡ rewritten false c.expr n (source.expr b.value) → m ≡ n + temps c.expr (source.expr b.value) → fs ≡ rewritten false c.exprs m (source.of_exprs y.items)
    → runtime_call (codes "construct") (pair f (t.array fs)) ≡ rewritten false c.expr n (source.expr x)
unfolding rewritten
new_form {x} n b y is first counted last =
    two (λ f fs. runtime_call (codes "construct") (pair f (t.array fs))) first (last ∙ ap (λ k. rewritten false c.exprs k (source.of_exprs y.items)) counted)
    ∙ sym (ap (λ z. rewritten false c.expr n (source.expr z)) is ∙ ap (rewritten false c.expr n) (view_new b y))

pub new_count : {x : CExpr} (n : ℕ) {m k : ℕ} (b : Box CExpr) (y : Vec CExpr) → x ≡ e.New b y → m ≡ n + temps c.expr (source.expr b.value) → k ≡ m + temps c.exprs (source.of_exprs y.items) → k ≡ n + temps c.expr (source.expr x)
new_count {x} n b y is first last = further n _ _ first last ∙ ap (λ z. n + temps c.expr z) (sym (ap source.expr is ∙ view_new b y))

-- what is written to (ES3 11.3, 11.4.4, 11.4.5, 11.13)
steps_form : (up before : Bool) (n : ℕ) (x : c.Tree c.target) → stepped up before (held_of n (if before then 0 else 1) x) ≡ rewritten false c.expr n (c.step up before x)
unfolding rewritten
steps_form up true n (c.variable x) = refl
steps_form up true n (c.member b (c.fixed k)) = refl
steps_form up true n (c.member b (c.computed f)) = refl
steps_form up false n (c.variable x) = refl
steps_form up false n (c.member b (c.fixed k)) = refl
steps_form up false n (c.member b (c.computed f)) = refl

steps_count : (up before : Bool) (n : ℕ) (x : c.Tree c.target) → n + (of_target (1 + (if before then 0 else 1)) x + temps c.target x) ≡ n + temps c.expr (c.step up before x)
steps_count up true n x = refl
steps_count up false n x = refl

assign_form : (n : ℕ) (x : c.Tree c.target) (y : c.Tree c.expr) → assigned (place_of n x) (rewritten false c.expr (n + temps c.target x) y) ≡ rewritten false c.expr n (c.assign None x y)
unfolding rewritten
assign_form n (c.variable x) y = let here : n + 0 ≡ n = omega arith in ap (λ i. t.assign None (t.name x) (rewritten false c.expr i y)) here
assign_form n (c.member b k) y = refl

compound_form : (op : BinOp) (n : ℕ) (x : c.Tree c.target) (y : c.Tree c.expr)
    → compounded op (held_of n 0 x) (rewritten false c.expr (n + (of_target 1 x + temps c.target x)) y) ≡ rewritten false c.expr n (c.assign (Some op) x y)
unfolding rewritten
compound_form op n (c.variable x) y = let here : n + (0 + 0) ≡ n = omega arith in ap (λ i. t.assign (Some op) (t.name x) (rewritten false c.expr i y)) here
compound_form op n (c.member b (c.fixed k)) y =
    let here : n + (1 + 0 + (temps c.expr b + 0)) ≡ n + 1 + temps c.expr b = omega arith in
    ap (λ i. compounded op (held_of n 0 (c.member b (c.fixed k))) (rewritten false c.expr i y)) here
compound_form op n (c.member b (c.computed f)) y =
    let here : n + (1 + 1 + (temps c.expr b + temps c.expr f)) ≡ n + 2 + (temps c.expr b + temps c.expr f) = omega arith in
    ap (λ i. compounded op (held_of n 0 (c.member b (c.computed f))) (rewritten false c.expr i y)) here

pub step_form : {x : CExpr} {up before : Bool} (n : ℕ) {more : ℕ} {p : HeldForm} (y : Target) → x ≡ e.Step up before y → more ≡ (if before then 0 else 1) → p ≡ held_of n more (source.target y)
    → stepped up before p ≡ rewritten false c.expr n (source.expr x)
step_form {x} {up} {before} n y is old made =
    ap (stepped up before) (made ∙ ap (λ i. held_of n i (source.target y)) old) ∙ steps_form up before n (source.target y) ∙ sym (ap (λ z. rewritten false c.expr n (source.expr z)) is)

pub step_count : {x : CExpr} {up before : Bool} (n : ℕ) {more m : ℕ} (y : Target) → x ≡ e.Step up before y → more ≡ (if before then 0 else 1)
    → m ≡ n + (of_target (1 + more) (source.target y) + temps c.target (source.target y)) → m ≡ n + temps c.expr (source.expr x)
step_count {x} {up} {before} n y is old made =
    made ∙ ap (λ i. n + (of_target (1 + i) (source.target y) + temps c.target (source.target y))) old ∙ steps_count up before n (source.target y) ∙ ap (λ z. n + temps c.expr (source.expr z)) (sym is)

pub plain_assign_form : {x : CExpr} {op : Option BinOp} (n : ℕ) {m : ℕ} {p : PlaceForm} {v : t.Tree t.expr} (y : Target) (z : Box CExpr) → x ≡ e.Assign op y z → op ≡ None
    → p ≡ place_of n (source.target y) → m ≡ n + temps c.target (source.target y) → v ≡ rewritten false c.expr m (source.expr z.value) → assigned p v ≡ rewritten false c.expr n (source.expr x)
plain_assign_form {x} {op} n y z is none made counted value =
    two assigned made (value ∙ ap (λ i. rewritten false c.expr i (source.expr z.value)) counted)
    ∙ assign_form n (source.target y) (source.expr z.value)
    ∙ ap (λ o. rewritten false c.expr n (c.assign o (source.target y) (source.expr z.value))) (sym none)
    ∙ sym (ap (λ w. rewritten false c.expr n (source.expr w)) is)

pub compound_assign_form : {x : CExpr} {op : Option BinOp} {o : BinOp} (n : ℕ) {m : ℕ} {p : HeldForm} {v : t.Tree t.expr} (y : Target) (z : Box CExpr) → x ≡ e.Assign op y z → op ≡ Some o
    → p ≡ held_of n 0 (source.target y) → m ≡ n + (of_target 1 (source.target y) + temps c.target (source.target y)) → v ≡ rewritten false c.expr m (source.expr z.value)
    → compounded o p v ≡ rewritten false c.expr n (source.expr x)
compound_assign_form {x} {op} {o} n y z is some made counted value =
    two (compounded o) made (value ∙ ap (λ i. rewritten false c.expr i (source.expr z.value)) counted)
    ∙ compound_form o n (source.target y) (source.expr z.value)
    ∙ ap (λ d. rewritten false c.expr n (c.assign d (source.target y) (source.expr z.value))) (sym some)
    ∙ sym (ap (λ w. rewritten false c.expr n (source.expr w)) is)

-- a loop over keys (ES3 12.6.4)
for_in_form : (n : ℕ) (x : c.Tree c.target) (y : c.Tree c.expr) (b : c.Tree c.stmt)
    → keys_loop n (rewritten false c.expr (n + 3 + temps c.target x) y) (t.expression (assigned (place_of (n + 3) x) (key_of n))) (rewritten false c.stmt (n + 3 + temps c.target x + temps c.expr y) b)
    ≡ rewritten false c.stmt n (c.for_in x y b)
unfolding rewritten
for_in_form n (c.variable x) y b =
    let here : n + 3 + 0 ≡ n + 3 = omega arith in
    ap (λ i. keys_loop n (rewritten false c.expr i y) (t.expression (assigned (place_of (n + 3) (c.variable x)) (key_of n))) (rewritten false c.stmt (i + temps c.expr y) b)) here
for_in_form n (c.member o k) y b =
    let here : n + 3 + (temps c.expr o + temps c.key k) + temps c.expr y ≡ n + 3 + (temps c.expr o + (temps c.key k + temps c.expr y)) = omega arith in
    ap (λ i. keys_loop n (rewritten false c.expr (n + 3 + (temps c.expr o + temps c.key k)) y) (t.expression (assigned (place_of (n + 3) (c.member o k)) (key_of n))) (rewritten false c.stmt i b)) here

pub keys_form : {x : CStmt} (n : ℕ) {first m l : ℕ} {p : PlaceForm} {k f : t.Tree t.expr} {d : t.Tree t.stmt} (y : Target) (b : CExpr) (z : Box CStmt) → x ≡ s.ForIn y b z → first ≡ n → p ≡ place_of (n + 3) (source.target y) → m ≡ n + 3 + temps c.target (source.target y)
    → f ≡ rewritten false c.expr m (source.expr b) → l ≡ m + temps c.expr (source.expr b) → d ≡ rewritten false c.stmt l (source.stmt z.value) → k ≡ key_of first
    → keys_loop first f (t.expression (assigned p k)) d ≡ rewritten false c.stmt n (source.stmt x)
keys_form {x} n {first} {m} {l} {p} {k} {f} {d} y b z is from made counted object more body key =
    let o = source.target y in
    ap (λ i. keys_loop i f (t.expression (assigned p k)) d) from
    ∙ three (λ f p d. keys_loop n f (t.expression p) d) (object ∙ ap (λ i. rewritten false c.expr i (source.expr b)) counted) (two assigned made (key ∙ ap key_of from))
    (body ∙ ap (λ i. rewritten false c.stmt i (source.stmt z.value)) (more ∙ ap (λ i. i + temps c.expr (source.expr b)) counted))
    ∙ for_in_form n o (source.expr b) (source.stmt z.value)
    ∙ sym (ap (λ w. rewritten false c.stmt n (source.stmt w)) is)

-- a `switch` and a `try` (ES3 12.11, 12.14)
pub switch_form : {x : CStmt} (n : ℕ) {m : ℕ} {f : t.Tree t.expr} {cs : t.Tree t.cases} (b : CExpr) (y : Vec CCase) → x ≡ s.Switch b y
    → f ≡ rewritten false c.expr n (source.expr b) → m ≡ n + temps c.expr (source.expr b) → cs ≡ rewritten false c.cases m (source.of_cases y.items)
    → t.switch f cs ≡ rewritten false c.stmt n (source.stmt x)
unfolding rewritten
switch_form {x} n b y is first counted last =
    two t.switch first (last ∙ ap (λ k. rewritten false c.cases k (source.of_cases y.items)) counted)
    ∙ sym (ap (λ z. rewritten false c.stmt n (source.stmt z)) is ∙ ap (rewritten false c.stmt n) (view_switch b y))

pub switch_count : {x : CStmt} (n : ℕ) {m k : ℕ} (b : CExpr) (y : Vec CCase) → x ≡ s.Switch b y → m ≡ n + temps c.expr (source.expr b) → k ≡ m + temps c.cases (source.of_cases y.items) → k ≡ n + temps c.stmt (source.stmt x)
switch_count {x} n b y is first last = further n _ _ first last ∙ ap (λ z. n + temps c.stmt z) (sym (ap source.stmt is ∙ view_switch b y))

pub try_form : {x : CStmt} (n : ℕ) {m l : ℕ} {ss : t.Tree t.stmts} {h : t.Tree t.handler} {f : t.Tree t.maybe_block} (y : Vec CStmt) (z : Option (List ℕ × Vec CStmt)) (w : Option (Vec CStmt)) → x ≡ s.Try y z w
    → ss ≡ rewritten false c.stmts n (source.of_stmts y.items) → m ≡ n + temps c.stmts (source.of_stmts y.items) → h ≡ rewritten false c.handler m (source.of_handler z) → l ≡ m + temps c.handler (source.of_handler z)
    → f ≡ rewritten false c.maybe_block l (source.of_maybe_block w)
    → t.try ss h f ≡ rewritten false c.stmt n (source.stmt x)
unfolding rewritten
try_form {x} n y z w is first counted second more last =
    three t.try first (second ∙ ap (λ i. rewritten false c.handler i (source.of_handler z)) counted) (last ∙ ap (λ i. rewritten false c.maybe_block i (source.of_maybe_block w)) (further n _ _ counted more))
    ∙ sym (ap (λ v. rewritten false c.stmt n (source.stmt v)) is ∙ ap (rewritten false c.stmt n) (view_try y z w))

pub try_count : {x : CStmt} (n : ℕ) {m l k : ℕ} (y : Vec CStmt) (z : Option (List ℕ × Vec CStmt)) (w : Option (Vec CStmt)) → x ≡ s.Try y z w
    → m ≡ n + temps c.stmts (source.of_stmts y.items) → l ≡ m + temps c.handler (source.of_handler z) → k ≡ l + temps c.maybe_block (source.of_maybe_block w) → k ≡ n + temps c.stmt (source.stmt x)
try_count {x} n y z w is first second last = further n _ _ first (further _ _ _ second last) ∙ ap (λ v. n + temps c.stmt v) (sym (ap source.stmt is ∙ view_try y z w))

pub caught_form : (n : ℕ) {z : Option (List ℕ × Vec CStmt)} {h : Option (Name × Vec Stmt)} {named : Name} {body : Vec Stmt} (name : List ℕ) (caught : Vec CStmt) → z ≡ Some (name, caught) → h ≡ Some (named, body)
    → named.text ≡ name → made.of_stmts body.items ≡ rewritten false c.stmts n (source.of_stmts caught.items) → made.of_handler h ≡ rewritten false c.handler n (source.of_handler z)
unfolding rewritten
caught_form n name caught is held word form = ap made.of_handler held ∙ two t.some_handler word form ∙ sym (ap (λ o. rewritten false c.handler n (source.of_handler o)) is)

pub caught_count : (n : ℕ) {m : ℕ} {z : Option (List ℕ × Vec CStmt)} (name : List ℕ) (caught : Vec CStmt) → z ≡ Some (name, caught) → m ≡ n + temps c.stmts (source.of_stmts caught.items) → m ≡ n + temps c.handler (source.of_handler z)
caught_count n name caught is counted = counted ∙ ap (λ o. n + temps c.handler (source.of_handler o)) (sym is)

pub uncaught_form : (n : ℕ) {z : Option (List ℕ × Vec CStmt)} {h : Option (Name × Vec Stmt)} → z ≡ None → h ≡ None → made.of_handler h ≡ rewritten false c.handler n (source.of_handler z)
unfolding rewritten
uncaught_form n is held = ap made.of_handler held ∙ sym (ap (λ o. rewritten false c.handler n (source.of_handler o)) is)

pub uncaught_count : (n : ℕ) {m : ℕ} {z : Option (List ℕ × Vec CStmt)} → z ≡ None → m ≡ n → m ≡ n + temps c.handler (source.of_handler z)
uncaught_count n is counted = let here : n ≡ n + 0 = omega arith in counted ∙ here ∙ ap (λ o. n + temps c.handler (source.of_handler o)) (sym is)

pub last_form : (n : ℕ) {z : Option (Vec CStmt)} {h : Option (Vec Stmt)} {body : Vec Stmt} (last : Vec CStmt) → z ≡ Some last → h ≡ Some body
    → made.of_stmts body.items ≡ rewritten false c.stmts n (source.of_stmts last.items) → made.of_maybe_block h ≡ rewritten false c.maybe_block n (source.of_maybe_block z)
unfolding rewritten
last_form n last is held form = ap made.of_maybe_block held ∙ ap t.some_block form ∙ sym (ap (λ o. rewritten false c.maybe_block n (source.of_maybe_block o)) is)

pub last_count : (n : ℕ) {m : ℕ} {z : Option (Vec CStmt)} (last : Vec CStmt) → z ≡ Some last → m ≡ n + temps c.stmts (source.of_stmts last.items) → m ≡ n + temps c.maybe_block (source.of_maybe_block z)
last_count n last is counted = counted ∙ ap (λ o. n + temps c.maybe_block (source.of_maybe_block o)) (sym is)

pub no_last_form : (n : ℕ) {z : Option (Vec CStmt)} {h : Option (Vec Stmt)} → z ≡ None → h ≡ None → made.of_maybe_block h ≡ rewritten false c.maybe_block n (source.of_maybe_block z)
unfolding rewritten
no_last_form n is held = ap made.of_maybe_block held ∙ sym (ap (λ o. rewritten false c.maybe_block n (source.of_maybe_block o)) is)

pub no_last_count : (n : ℕ) {m : ℕ} {z : Option (Vec CStmt)} → z ≡ None → m ≡ n → m ≡ n + temps c.maybe_block (source.of_maybe_block z)
no_last_count n is counted = let here : n ≡ n + 0 = omega arith in counted ∙ here ∙ ap (λ o. n + temps c.maybe_block (source.of_maybe_block o)) (sym is)
