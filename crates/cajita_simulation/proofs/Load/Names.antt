-- The names that a module's function begins with, beside those of the direct meaning.
use Rattle.std.proofs.Common.{◌≡◌, ℕ, zero, suc, ◌+◌, ◌≤◌, ◌<◌, Bool, true, false, List, [], ◌∷◌, ◌++◌, Option, Some, None, cond, refl, sym, ap, ◌∙◌, subst, arith}
use Rattle.std.specs.Prelude.{is_some, ◌||◌}
use Rattle.std.specs.List.{list_any}
use Rattle.std.specs.Cmp.Lexicographic.{same_text}
use Rattle.std.proofs.lemmas.List.{append-nil, append_assoc}
use Rattle.caja_units.specs.Units.{same_units, is_hidden}
use Rattle.es3_tree.specs.Tree as t
use Rattle.es3_objects.specs.declared.value.Value.TheVariants as es
use Rattle.es3_language.specs.Store.{Names, name_value, with_vars, with_params}
use Rattle.es3_language.specs.Hoisting.{vars_in, vars_of, functions_of, own_vars}
use Rattle.es3_language.specs.Arguments.{is_arguments}
use Rattle.cajita_tree.specs.Tree as c
use Rattle.cajita_meaning.specs.World as world
use Rattle.cajita_meaning.specs.World.{undefined, value_at}
use Rattle.cajita_rewrite.specs.Rewrite.{runtime_name, imports_name, arguments_copy, result_name, temp_name, temps, declared, others, name_items, temp_items, head_items, import_stmts, rewritten, joined, marks, result_stmts}
use Rattle.heap_rows.specs.Opening.{runtime_id}
use Rattle.cajita_simulation.specs.Guest.{Names as KnownNames, is_among, inner, Guest}
use Rattle.cajita_simulation.proofs.Temporaries.{temp_hidden}
use Rattle.cajita_simulation.proofs.Declaring.Trees.{func_list, declared_vars, declared_functions}
use Rattle.es3_objects.proofs.Keys.{same_key-refl}
use Rattle.row_simulation.proofs.Changes.{by_number}
use Rattle.row_simulation.specs.Correspond.{EsValue}

-- one of the names has the value undefined
abbrev pub undefined_value : {V : Type 0} → V → Bool → Option V
undefined_value v known = cond known (Some v) None

-- a scope of the world with more names behind it

pub value_at-before : (x : List ℕ) (scope more : world.Pairs) (v : world.Value) → value_at x scope ≡ Some v → value_at x (scope ++ more) ≡ Some v
value_at-before x [] more v h = cc
value_at-before x ((z, w) ∷ rest) more v h =
    let cases = elim (same_units x z) as (λ b. cond b (Some w) (value_at x rest) ≡ Some v → cond b (Some w) (value_at x (rest ++ more)) ≡ Some v) [
      | true ↦ λ h. h
      | false ↦ λ h. value_at-before x rest more v h
    ] in cases h

value_at-behind : (x : List ℕ) (scope more : world.Pairs) → value_at x scope ≡ None → value_at x (scope ++ more) ≡ value_at x more
value_at-behind x [] more h = refl
value_at-behind x ((z, w) ∷ rest) more h =
    let cases = elim (same_units x z) as (λ b. cond b (Some w) (value_at x rest) ≡ None → cond b (Some w) (value_at x (rest ++ more)) ≡ value_at x more) [
      | true ↦ λ h. cc
      | false ↦ λ h. value_at-behind x rest more h
    ] in cases h

-- a variable that has a value keeps it
pub value_at-bound : (x : List ℕ) (vars : List (List ℕ)) (scope : world.Pairs) (v : world.Value) → value_at x scope ≡ Some v → value_at x (world.with_vars vars scope) ≡ Some v
value_at-bound x [] scope v h = h
value_at-bound x (y ∷ ys) scope v h = elim (is_some (value_at y scope)) as (λ b. value_at x (world.with_vars ys (cond b scope (scope ++ (y, undefined) ∷ []))) ≡ Some v) [
  | true ↦ value_at-bound x ys scope v h
  | false ↦ value_at-bound x ys (scope ++ (y, undefined) ∷ []) v (value_at-before x scope ((y, undefined) ∷ []) v h)
]

-- another is undefined where it is declared
pub value_at-unbound : (x : List ℕ) (vars : List (List ℕ)) (scope : world.Pairs) → value_at x scope ≡ None → value_at x (world.with_vars vars scope) ≡ undefined_value undefined (is_among vars x)
value_at-unbound x [] scope h = h
value_at-unbound x (y ∷ ys) scope h =
    let more : world.Pairs = scope ++ (y, undefined) ∷ [] in
    let new : (b : Bool) → same_units x y ≡ b → value_at x more ≡ undefined_value undefined b = λ b is. value_at-behind x scope ((y, undefined) ∷ []) h ∙ ap (λ q. undefined_value undefined q) is in
    let cases = elim (same_units x y) as (λ b. same_units x y ≡ b → value_at x (world.with_vars ys (cond (is_some (value_at y scope)) scope more)) ≡ undefined_value undefined (b || is_among ys x)) [
      | true ↦ λ is.
          let bare : value_at y scope ≡ None = subst (λ k. value_at k scope ≡ None) (same_text x y (sym is)) h in
          rw bare (value_at-bound x ys more undefined (new true is))
      | false ↦ λ is. elim (is_some (value_at y scope)) as (λ q. value_at x (world.with_vars ys (cond q scope more)) ≡ undefined_value undefined (is_among ys x)) [
        | true ↦ value_at-unbound x ys scope h
        | false ↦ value_at-unbound x ys more (new false is)
      ]
    ] in cases refl

-- the variables of a module, each undefined
abbrev pub first_pairs : List (List ℕ) → world.Pairs
first_pairs vars = world.with_vars vars (world.with_params [] [] [])

pub value_at-undefined : (x : List ℕ) (vars : List (List ℕ)) → value_at x (first_pairs vars) ≡ undefined_value undefined (is_among vars x)
value_at-undefined x vars = value_at-unbound x vars [] refl

-- a scope with more names behind it

pub name_value-before : (x : List ℕ) (scope more : Names) (e : EsValue) → name_value x scope ≡ Some e → name_value x (scope ++ more) ≡ Some e
name_value-before x [] more e h = cc
name_value-before x ((z, w) ∷ rest) more e h =
    let cases = elim (same_units x z) as (λ b. cond b (Some w) (name_value x rest) ≡ Some e → cond b (Some w) (name_value x (rest ++ more)) ≡ Some e) [
      | true ↦ λ h. h
      | false ↦ λ h. name_value-before x rest more e h
    ] in cases h

pub name_value-behind : (x : List ℕ) (scope more : Names) → name_value x scope ≡ None → name_value x (scope ++ more) ≡ name_value x more
name_value-behind x [] more h = refl
name_value-behind x ((z, w) ∷ rest) more h =
    let cases = elim (same_units x z) as (λ b. cond b (Some w) (name_value x rest) ≡ None → cond b (Some w) (name_value x (rest ++ more)) ≡ name_value x more) [
      | true ↦ λ h. cc
      | false ↦ λ h. name_value-behind x rest more h
    ] in cases h

-- a name that is bound keeps its value
pub with_vars-bound : (x : List ℕ) (vars : List (List ℕ)) (scope : Names) (e : EsValue) → name_value x scope ≡ Some e → name_value x (with_vars vars scope) ≡ Some e
with_vars-bound x [] scope e h = h
with_vars-bound x (y ∷ ys) scope e h = elim (is_some (name_value y scope)) as (λ b. name_value x (with_vars ys (cond b scope (scope ++ (y, es.Undefined) ∷ []))) ≡ Some e) [
  | true ↦ with_vars-bound x ys scope e h
  | false ↦ with_vars-bound x ys (scope ++ (y, es.Undefined) ∷ []) e (name_value-before x scope ((y, es.Undefined) ∷ []) e h)
]

-- another is undefined where it is declared
pub with_vars-unbound : (x : List ℕ) (vars : List (List ℕ)) (scope : Names) → name_value x scope ≡ None → name_value x (with_vars vars scope) ≡ undefined_value es.Undefined (is_among vars x)
with_vars-unbound x [] scope h = h
with_vars-unbound x (y ∷ ys) scope h =
    let more : Names = scope ++ (y, es.Undefined) ∷ [] in
    let new : (b : Bool) → same_units x y ≡ b → name_value x more ≡ undefined_value es.Undefined b = λ b is. name_value-behind x scope ((y, es.Undefined) ∷ []) h ∙ ap (λ q. undefined_value es.Undefined q) is in
    let cases = elim (same_units x y) as (λ b. same_units x y ≡ b → name_value x (with_vars ys (cond (is_some (name_value y scope)) scope more)) ≡ undefined_value es.Undefined (b || is_among ys x)) [
      | true ↦ λ is.
          let bare : name_value y scope ≡ None = subst (λ k. name_value k scope ≡ None) (same_text x y (sym is)) h in
          rw bare (with_vars-bound x ys more es.Undefined (new true is))
      | false ↦ λ is. elim (is_some (name_value y scope)) as (λ q. name_value x (with_vars ys (cond q scope more)) ≡ undefined_value es.Undefined (is_among ys x)) [
        | true ↦ with_vars-unbound x ys scope h
        | false ↦ with_vars-unbound x ys more (new false is)
      ]
    ] in cases refl

-- names in lists

pub among_append : (xs ys : List (List ℕ)) (x : List ℕ) → is_among (xs ++ ys) x ≡ (is_among xs x || is_among ys x)
among_append [] ys x = refl
among_append (z ∷ xs) ys x = elim (same_units x z) as (λ b. (b || is_among (xs ++ ys) x) ≡ ((b || is_among xs x) || is_among ys x)) [
  | true ↦ refl
  | false ↦ among_append xs ys x
]

pub open_differs : (x y : List ℕ) → is_hidden x ≡ false → is_hidden y ≡ true → same_units x y ≡ false
open_differs x y guest hidden =
    let cases = elim (same_units x y) as (λ b. same_units x y ≡ b → b ≡ false) [
      | true ↦ λ is. cc (sym hidden ∙ ap is_hidden (sym (same_text x y (sym is))) ∙ guest)
      | false ↦ λ is. refl
    ] in cases refl

-- the name of the arguments object is none that a `var` declares (10.1.6); all others are

own_other : (x y : List ℕ) → is_arguments x ≡ false → is_arguments y ≡ true → same_units x y ≡ false
own_other x y own other =
    let cases = elim (same_units x y) as (λ b. same_units x y ≡ b → b ≡ false) [
      | true ↦ λ is. cc (sym other ∙ ap is_arguments (sym (same_text x y (sym is))) ∙ own)
      | false ↦ λ is. refl
    ] in cases refl

pub own_among : (l : List (List ℕ)) (x : List ℕ) → is_arguments x ≡ false → is_among (own_vars l) x ≡ is_among l x
own_among [] x own = refl
own_among (y ∷ l) x own =
    let cases = elim (is_arguments y) as (λ b. is_arguments y ≡ b → is_among (cond b (own_vars l) (y ∷ own_vars l)) x ≡ (same_units x y || is_among l x)) [
      | true ↦ λ is. own_among l x own ∙ ap (λ b. b || is_among l x) (sym (own_other x y own is))
      | false ↦ λ is. ap (λ b. same_units x y || b) (own_among l x own)
    ] in cases refl

pub own_never : (l : List (List ℕ)) (x : List ℕ) → is_arguments x ≡ true → is_among (own_vars l) x ≡ false
own_never [] x own = refl
own_never (y ∷ l) x own =
    let cases = elim (is_arguments y) as (λ b. is_arguments y ≡ b → is_among (cond b (own_vars l) (y ∷ own_vars l)) x ≡ false) [
      | true ↦ λ is. own_never l x own
      | false ↦ λ is. rw (apart is) (own_never l x own)
    ] in cases refl
  where
    apart : is_arguments y ≡ false → same_units x y ≡ false
    apart is =
        let cases = elim (same_units x y) as (λ b. same_units x y ≡ b → b ≡ false) [
          | true ↦ λ e. cc (sym own ∙ ap is_arguments (same_text x y (sym e)) ∙ is)
          | false ↦ λ e. refl
        ] in cases refl

-- the names at the head of the module's function: its temporaries, and variables that no `var` of it declares

pub temps_hidden : (i n : ℕ) (is : t.Tree t.items) (x : List ℕ) → is_hidden x ≡ false → is_among (vars_in t.items (temp_items i n is)) x ≡ is_among (vars_in t.items is) x
temps_hidden i zero is x guest = refl
temps_hidden i (suc n) is x guest = rw (open_differs x (temp_name i) guest (temp_hidden i)) (temps_hidden (suc i) n is x guest)

pub temps_declared : (i n j : ℕ) (is : t.Tree t.items) → i ≤ j → j < i + n → is_among (vars_in t.items (temp_items i n is)) (temp_name j) ≡ true
temps_declared i zero j is from to = absurd (omega (arith, from, to))
temps_declared i (suc n) j is from to =
    by_number j i (is_among (temp_name i ∷ vars_in t.items (temp_items (suc i) n is)) (temp_name j) ≡ true)
    (λ same. ap (λ k. same_units (temp_name j) (temp_name k) || is_among (vars_in t.items (temp_items (suc i) n is)) (temp_name j)) (sym same) ∙ ap (λ b. b || is_among (vars_in t.items (temp_items (suc i) n is)) (temp_name j)) (same_key-refl (temp_name j)))
    (λ other. either (same_units (temp_name j) (temp_name i)) (temps_declared (suc i) n j is (omega (arith, from, other)) (omega (arith, to))))
  where
    either : (b : Bool) {c : Bool} → c ≡ true → (b || c) ≡ true
    either true e = refl
    either false e = e

pub loops_among : (xs : List (List ℕ)) (x : List ℕ) → is_among (vars_in t.items (name_items xs t.no_items)) x ≡ is_among xs x
loops_among [] x = refl
loops_among (y ∷ xs) x = ap (λ b. same_units x y || b) (loops_among xs x)

-- a name is declared there or by a `var`, where it is a variable or declared by a `var`
pub others_among : (xs names : List (List ℕ)) (x : List ℕ) → (is_among (others xs names) x || is_among names x) ≡ (is_among xs x || is_among names x)
others_among [] names x = refl
others_among (y ∷ xs) names x =
    let cases = elim (list_any (same_units y) names) as (λ b. list_any (same_units y) names ≡ b → (is_among (cond b (others xs names) (y ∷ others xs names)) x || is_among names x) ≡ ((same_units x y || is_among xs x) || is_among names x)) [
      | true ↦ λ is. others_among xs names x ∙ known is
      | false ↦ λ is. elim (same_units x y) as (λ b. ((b || is_among (others xs names) x) || is_among names x) ≡ ((b || is_among xs x) || is_among names x)) [
        | true ↦ refl
        | false ↦ others_among xs names x
      ]
    ] in cases refl
  where
    right : (b : Bool) → (b || true) ≡ true
    right true = refl
    right false = refl

    known : list_any (same_units y) names ≡ true → (is_among xs x || is_among names x) ≡ ((same_units x y || is_among xs x) || is_among names x)
    known is =
        let cases = elim (same_units x y) as (λ b. same_units x y ≡ b → (is_among xs x || is_among names x) ≡ ((b || is_among xs x) || is_among names x)) [
          | true ↦ λ e.
              let there : is_among names x ≡ true = ap (λ k. is_among names k) (same_text x y (sym e)) ∙ is in
              ap (λ b. is_among xs x || b) there ∙ right (is_among xs x)
          | false ↦ λ e. refl
        ] in cases refl

-- the rewriting keeps the declared names

pub items_kept : (b : ℕ) (is : c.Tree c.items) → vars_in t.items (rewritten false c.items b is) ≡ declared c.items is
unfolding rewritten
items_kept b c.no_items = refl
items_kept b (c.more_items x e rest) = ap (λ (l : List (List ℕ)). x ∷ l) (items_kept (b + temps c.maybe_expr e) rest)

-- of a statement and of what has statements in it
abbrev KeepsNames : Bool → (s : c.Sort) → ℕ → c.Tree s → Type 0
KeepsNames m c.stmt b x = vars_in t.stmt (rewritten m c.stmt b x) ≡ declared c.stmt x
KeepsNames m c.stmts b x = vars_in t.stmts (rewritten m c.stmts b x) ≡ declared c.stmts x
KeepsNames m c.items b x = vars_in t.items (rewritten m c.items b x) ≡ declared c.items x
KeepsNames m c.maybe_stmt b x = vars_in t.maybe_stmt (rewritten m c.maybe_stmt b x) ≡ declared c.maybe_stmt x
KeepsNames m c.maybe_block b x = vars_in t.maybe_block (rewritten m c.maybe_block b x) ≡ declared c.maybe_block x
KeepsNames m c.first b x = vars_in t.first (rewritten m c.first b x) ≡ declared c.first x
KeepsNames m c.cases b x = vars_in t.cases (rewritten m c.cases b x) ≡ declared c.cases x
KeepsNames m c.handler b x = vars_in t.handler (rewritten m c.handler b x) ≡ declared c.handler x
KeepsNames m s b x = Unit {0}

-- a loop over keys declares what its body does
turn_names : (xs : List (List ℕ)) → (((xs ++ []) ++ []) ++ []) ≡ xs
turn_names xs = append-nil ((xs ++ []) ++ []) ∙ append-nil (xs ++ []) ∙ append-nil xs

both : {xs ys us vs : List (List ℕ)} → xs ≡ us → ys ≡ vs → (xs ++ ys) ≡ (us ++ vs)
both p q = cc

pub names_kept : (vars free : KnownNames) (m : Bool) (s : c.Sort) (b : ℕ) (x : c.Tree s) → Guest vars free s x → KeepsNames m s b x
unfolding rewritten
names_kept vars free m _ b (c.block xs) g = names_kept vars free false _ b xs g
names_kept vars free m _ b (c.var is) g = items_kept b is
names_kept vars free m _ b c.empty g = refl
names_kept vars free true _ b (c.expression e) g = refl
names_kept vars free false _ b (c.expression e) g = refl
names_kept vars free m _ b (c.branch e x y) g = both (names_kept vars free false _ (b + temps c.expr e) x g.1) (names_kept vars free false _ (b + (temps c.expr e + temps c.stmt x)) y g.2)
names_kept vars free m _ b (c.while_loop e x) g = names_kept vars free false _ (b + temps c.expr e) x g.1
names_kept vars free m _ b (c.do_loop x e) g = names_kept vars free false _ b x g.0
names_kept vars free m _ b (c.for_loop i e u x) g = both (names_kept vars free false _ b i g.0) (names_kept vars free false _ (b + (temps c.first i + (temps c.maybe_expr e + temps c.maybe_expr u))) x g.3)
names_kept vars free m _ b (c.for_in (c.variable x) e s) g = turn_names (vars_in t.stmt (rewritten false c.stmt (b + 3 + temps c.expr e) s)) ∙ names_kept vars free false _ (b + 3 + temps c.expr e) s g.2
names_kept vars free m _ b (c.for_in (c.member o k) e s) g =
    turn_names (vars_in t.stmt (rewritten false c.stmt (b + 3 + (temps c.expr o + (temps c.key k + temps c.expr e))) s)) ∙ names_kept vars free false _ (b + 3 + (temps c.expr o + (temps c.key k + temps c.expr e))) s g.2
names_kept vars free m _ b (c.continue l) g = refl
names_kept vars free m _ b (c.break l) g = refl
names_kept vars free m _ b (c.return e) g = refl
names_kept vars free m _ b (c.switch e cs) g = names_kept vars free false _ (b + temps c.expr e) cs g.1
names_kept vars free m _ b (c.label l x) g = names_kept vars free false _ b x g
names_kept vars free m _ b (c.throw e) g = refl
names_kept vars free m _ b (c.try xs h f) g =
    both (both (names_kept vars free false _ b xs g.0) (names_kept vars free false _ (b + temps c.stmts xs) h g.1)) (names_kept vars free false _ (b + (temps c.stmts xs + temps c.handler h)) f g.2)
    ∙ append_assoc (declared c.stmts xs) (declared c.handler h) (declared c.maybe_block f)
names_kept vars free m _ b c.no_stmts g = refl
names_kept vars free m _ b (c.more_stmts x xs) g = both (names_kept vars free m _ b x g.0) (names_kept vars free m _ (b + temps c.stmt x) xs g.1)
names_kept vars free m _ b c.no_items g = refl
names_kept vars free m _ b (c.more_items x e is) g = items_kept b (c.more_items x e is)
names_kept vars free m _ b c.no_stmt g = refl
names_kept vars free m _ b (c.some_stmt x) g = names_kept vars free false _ b x g
names_kept vars free m _ b c.no_block g = refl
names_kept vars free m _ b (c.some_block xs) g = names_kept vars free false _ b xs g
names_kept vars free m _ b c.no_first g = refl
names_kept vars free m _ b (c.first_var is) g = items_kept b is
names_kept vars free m _ b (c.first_expr e) g = refl
names_kept vars free m _ b c.no_cases g = refl
names_kept vars free m _ b (c.more_cases e xs cs) g = both (names_kept vars free false _ (b + temps c.maybe_expr e) xs g.1) (names_kept vars free false _ (b + (temps c.maybe_expr e + temps c.stmts xs)) cs g.2)
names_kept vars free m _ b c.no_handler g = refl
names_kept vars free m _ b (c.some_handler u xs) g = names_kept (inner [] (u ∷ []) vars) (inner [] (u ∷ []) free) false _ b xs g.1
names_kept vars free m _ b x g = tt

joined_kept : (xs ys : t.Tree t.stmts) → vars_of (joined xs ys) ≡ vars_of xs ++ vars_of ys
joined_kept t.no_stmts ys = refl
joined_kept (t.more_stmts x xs) ys = ap (λ l. vars_in t.stmt x ++ l) (joined_kept xs ys) ∙ sym (append_assoc (vars_in t.stmt x) (vars_of xs) (vars_of ys))

vars_joined : (vars free : KnownNames) (b : ℕ) (ss : c.Tree c.stmts) (rest : t.Tree t.stmts) → Guest vars free c.stmts ss → vars_of (joined (rewritten true c.stmts b ss) rest) ≡ declared c.stmts ss ++ vars_of rest
vars_joined vars free b ss rest g = joined_kept (rewritten true c.stmts b ss) rest ∙ ap (λ l. l ++ vars_of rest) (names_kept vars free true c.stmts b ss g)

imports_kept : (xs : List (List ℕ)) (rest : t.Tree t.stmts) → vars_of (import_stmts xs rest) ≡ xs ++ vars_of rest
imports_kept [] rest = refl
imports_kept (x ∷ xs) rest = ap (λ (l : List (List ℕ)). x ∷ l) (imports_kept xs rest)

-- a module: what it imports, its variables, the functions that it declares, and its statements
pub record Module : Type 0 where
  pub object : ℕ
  pub imports : List (List ℕ)
  pub vars : List (List ℕ)
  pub funcs : c.Tree c.funcs
  pub list : c.Tree c.stmts

-- its own statements in its function, its functions and their marks before them, what it imports before these, and all behind the head
abbrev pub own_stmts : Module → t.Tree t.stmts
own_stmts q = joined (rewritten true c.stmts 0 q.list) result_stmts

abbrev pub behind_imports : Module → t.Tree t.stmts
behind_imports q = joined (rewritten false c.funcs 0 q.funcs) (marks q.funcs (joined (rewritten true c.stmts 0 q.list) result_stmts))

abbrev pub statements : Module → t.Tree t.stmts
statements q = import_stmts q.imports (joined (rewritten false c.funcs 0 q.funcs) (marks q.funcs (joined (rewritten true c.stmts 0 q.list) result_stmts)))

abbrev pub module_body : Module → t.Tree t.stmts
module_body q = t.more_stmts (t.var (t.more_items result_name t.no_expr (head_items (c.a_body c.no_funcs q.vars q.list)))) (statements q)

abbrev pub module_vars : Module → List (List ℕ)
module_vars q = own_vars (vars_of (module_body q))

-- what its statements declare are variables of it
abbrev pub Declares : Module → Type 0
Declares q = (x : List ℕ) → is_among (declared c.stmts q.list) x ≡ true → is_among q.vars x ≡ true

abbrev heads : Module → List (List ℕ)
heads q = vars_in t.items (head_items (c.a_body c.no_funcs q.vars q.list))

statements_among : (vars free : KnownNames) (q : Module) (x : List ℕ) → Guest vars free c.stmts q.list → is_among (vars_of (statements q)) x ≡ (is_among q.imports x || is_among (declared c.stmts q.list) x)
statements_among vars free q x g =
    ap (λ l. is_among l x) (imports_kept q.imports (behind_imports q) ∙ ap (λ l. q.imports ++ l) (declared_vars q.funcs (own_stmts q) ∙ vars_joined vars free 0 q.list result_stmts g ∙ append-nil (declared c.stmts q.list)))
    ∙ among_append q.imports (declared c.stmts q.list) x

all_among : (q : Module) (x : List ℕ) → is_among (vars_of (module_body q)) x ≡ (same_units x result_name || (is_among (heads q) x || is_among (vars_of (statements q)) x))
all_among q x = ap (λ b. same_units x result_name || b) (among_append (heads q) (vars_of (statements q)) x)

or_turn : (a b c : Bool) → (a || (b || c)) ≡ (b || (a || c))
or_turn true true c = refl
or_turn true false c = refl
or_turn false true c = refl
or_turn false false c = refl

pub absorbed : (a b : Bool) → (b ≡ true → a ≡ true) → (a || b) ≡ a
absorbed true b f = refl
absorbed false true f = sym (f refl)
absorbed false false f = refl

-- of names that aren't hidden, it declares the imports and the variables
pub vars_known : (vs free : KnownNames) (q : Module) (x : List ℕ) → Guest vs free c.stmts q.list → Declares q → is_hidden x ≡ false → is_arguments x ≡ false → is_among (module_vars q) x ≡ (is_among q.imports x || is_among q.vars x)
vars_known vs free q x g same guest own =
    let d = declared c.stmts q.list in
    own_among (vars_of (module_body q)) x own
    ∙ all_among q x
    ∙ ap (λ b. b || (is_among (heads q) x || is_among (vars_of (statements q)) x)) (open_differs x result_name guest refl)
    ∙ ap (λ b. b || is_among (vars_of (statements q)) x) (temps_hidden 0 (temps c.stmts q.list) (name_items (others q.vars d) t.no_items) x guest ∙ loops_among (others q.vars d) x)
    ∙ ap (λ b. is_among (others q.vars d) x || b) (statements_among vs free q x g)
    ∙ or_turn (is_among (others q.vars d) x) (is_among q.imports x) (is_among d x)
    ∙ ap (λ b. is_among q.imports x || b) (others_among q.vars d x ∙ absorbed (is_among q.vars x) (is_among d x) (same x))

-- the temporaries and the module's result are declared

pub temps_known : (q : Module) (i : ℕ) → i < temps c.stmts q.list → is_among (module_vars q) (temp_name i) ≡ true
temps_known q i lt =
    own_among (vars_of (module_body q)) (temp_name i) refl
    ∙ all_among q (temp_name i)
    ∙ ap (λ b. b || is_among (vars_of (statements q)) (temp_name i)) (temps_declared 0 (temps c.stmts q.list) i (name_items (others q.vars (declared c.stmts q.list)) t.no_items) (omega arith) (omega (arith, lt)))

pub result_known : (q : Module) → is_among (module_vars q) result_name ≡ true
result_known q = own_among (vars_of (module_body q)) result_name refl ∙ all_among q result_name

-- it has no copy of `arguments`

temps_apart : (i n : ℕ) (is : t.Tree t.items) → is_among (vars_in t.items (temp_items i n is)) arguments_copy ≡ is_among (vars_in t.items is) arguments_copy
temps_apart i zero is = refl
temps_apart i (suc n) is = temps_apart (suc i) n is

pub copy_unknown : (vs free : KnownNames) (q : Module) → Guest vs free c.stmts q.list → Declares q → is_among q.imports arguments_copy ≡ false → is_among q.vars arguments_copy ≡ false → is_among (module_vars q) arguments_copy ≡ false
copy_unknown vs free q g same no_import no_var =
    let d = declared c.stmts q.list in
    own_among (vars_of (module_body q)) arguments_copy refl
    ∙ all_among q arguments_copy
    ∙ ap (λ b. b || is_among (vars_of (statements q)) arguments_copy) (temps_apart 0 (temps c.stmts q.list) (name_items (others q.vars d) t.no_items) ∙ loops_among (others q.vars d) arguments_copy)
    ∙ ap (λ b. is_among (others q.vars d) arguments_copy || b) (statements_among vs free q arguments_copy g)
    ∙ or_turn (is_among (others q.vars d) arguments_copy) (is_among q.imports arguments_copy) (is_among d arguments_copy)
    ∙ ap (λ b. is_among q.imports arguments_copy || b) (others_among q.vars d arguments_copy ∙ absorbed (is_among q.vars arguments_copy) (is_among d arguments_copy) (same arguments_copy))
    ∙ rw (no_import, no_var) refl

-- no statement declares a function

no_function : (vars free : KnownNames) (b : ℕ) (x : c.Tree c.stmt) (rest : t.Tree t.stmts) → Guest vars free c.stmt x → functions_of (t.more_stmts (rewritten true c.stmt b x) rest) ≡ functions_of rest
unfolding rewritten
no_function vars free b (c.for_in (c.variable x) e s) rest g = refl
no_function vars free b (c.for_in (c.member o k) e s) rest g = refl
no_function vars free b x rest g = refl

functions_joined : (vars free : KnownNames) (b : ℕ) (ss : c.Tree c.stmts) (rest : t.Tree t.stmts) → Guest vars free c.stmts ss → functions_of (joined (rewritten true c.stmts b ss) rest) ≡ functions_of rest
unfolding rewritten
functions_joined vars free b c.no_stmts rest g = refl
functions_joined vars free b (c.more_stmts x ss) rest g = no_function vars free b x (joined (rewritten true c.stmts (b + temps c.stmt x) ss) rest) g.0 ∙ functions_joined vars free (b + temps c.stmt x) ss rest g.1

functions_imported : (xs : List (List ℕ)) (rest : t.Tree t.stmts) → functions_of (import_stmts xs rest) ≡ functions_of rest
functions_imported [] rest = refl
functions_imported (x ∷ xs) rest = functions_imported xs rest

pub functions_are : (vars free : KnownNames) (q : Module) → Guest vars free c.stmts q.list → functions_of (module_body q) ≡ func_list q.funcs
functions_are vars free q g = functions_imported q.imports (behind_imports q) ∙ declared_functions q.funcs (own_stmts q) (functions_joined vars free 0 q.list result_stmts g)

-- the names of the function, with the runtime's object and the imports

abbrev pub own_names : ℕ → Names
own_names o = with_params (runtime_name ∷ imports_name ∷ []) (es.Obj runtime_id ∷ es.Obj o ∷ []) []

own_hidden : (o : ℕ) (x : List ℕ) → is_hidden x ≡ false → name_value x (own_names o) ≡ None
own_hidden o x guest = rw (open_differs x runtime_name guest refl, open_differs x imports_name guest refl) refl

-- a declared name is bound
pub vars_bound : (x : List ℕ) (vars : List (List ℕ)) (scope : Names) → is_among vars x ≡ true → is_some (name_value x (with_vars vars scope)) ≡ true
vars_bound x vars scope known =
    let cases = elim (name_value x scope) as (λ o. name_value x scope ≡ o → is_some (name_value x (with_vars vars scope)) ≡ true) [
      | None ↦ λ is. ap is_some (with_vars-unbound x vars scope is ∙ ap (λ b. undefined_value es.Undefined b) known)
      | Some e ↦ λ is. ap is_some (with_vars-bound x vars scope e is)
    ] in cases refl

pub runtime_there : (o : ℕ) (vars : List (List ℕ)) → name_value runtime_name (with_vars vars (own_names o)) ≡ Some (es.Obj runtime_id)
runtime_there o vars = with_vars-bound runtime_name vars (own_names o) (es.Obj runtime_id) refl

pub imports_there : (o : ℕ) (vars : List (List ℕ)) → name_value imports_name (with_vars vars (own_names o)) ≡ Some (es.Obj o)
imports_there o vars = with_vars-bound imports_name vars (own_names o) (es.Obj o) refl

-- a hidden name that is declared, and is none of the two parameters, is undefined
pub hidden_there : (o : ℕ) (vars : List (List ℕ)) (x : List ℕ) → same_units x runtime_name ≡ false → same_units x imports_name ≡ false → is_among vars x ≡ true → name_value x (with_vars vars (own_names o)) ≡ Some es.Undefined
hidden_there o vars x a b known = with_vars-unbound x vars (own_names o) (rw (a, b) refl) ∙ ap (λ q. undefined_value es.Undefined q) known

-- a name that isn't hidden is undefined where it is declared
pub open_there : (o : ℕ) (vars : List (List ℕ)) (x : List ℕ) → is_hidden x ≡ false → name_value x (with_vars vars (own_names o)) ≡ undefined_value es.Undefined (is_among vars x)
open_there o vars x guest = with_vars-unbound x vars (own_names o) (own_hidden o x guest)
