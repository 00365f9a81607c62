-- The names that a call begins with, beside those of the direct meaning.
use Rattle.std.proofs.Common.{◌≡◌, ℕ, zero, suc, ◌+◌, ◌<◌, Bool, true, false, List, [], ◌∷◌, ◌++◌, Option, Some, None, cond, refl, sym, ap, ◌∙◌, subst, arith}
use Rattle.std.specs.Prelude.{is_some, ◌||◌, ◌&&◌}
use Rattle.std.specs.Cmp.Lexicographic.{same_text}
use Rattle.caja_units.specs.Units.{same_units, is_hidden}
use Rattle.es3_tree.specs.Tree as t
use Rattle.es3_objects.specs.declared.value.Value.TheVariants as es
use Rattle.es3_heap.specs.Objects.{Objects}
use Rattle.es3_language.specs.Store.{Names, name_value, with_name, with_vars, with_params}
use Rattle.es3_language.specs.Hoisting.{vars_in, vars_of, functions_of, own_vars}
use Rattle.es3_language.specs.Arguments.{is_arguments, arguments_name}
use Rattle.cajita_tree.specs.Tree as c
use Rattle.cajita_rewrite.specs.Rewrite.{runtime_name, arguments_copy, temp_name, temps, declared, others, name_items, temp_items, args_items, head_items, var_stmts, joined, marks, rewritten}
use Rattle.cajita_meaning.specs.World as World
use Rattle.cajita_meaning.specs.World.{Value, Pairs, value_at, with_value}
use Rattle.cajita_simulation.specs.Guest.{Names as KnownNames, is_among, is_declared, within, GuestName, NewFuncs, Guest}
use Rattle.cajita_simulation.proofs.Heaps.Names.{name_value-with_name, name_value-with_name-other}
use Rattle.cajita_simulation.proofs.Relation.{EsValue, Val, Vals, OptVal, ScopeIs}
use Rattle.cajita_simulation.proofs.Written.{value_at-with_value, value_at-with_value-other}
use Rattle.cajita_simulation.proofs.Declaring.Trees.{func_list, declared_vars, declared_functions}
use Rattle.cajita_simulation.proofs.Declaring.Stores.{bound_names}
use Rattle.cajita_simulation.proofs.Declaring.Names.{name_bound, left_none, declared_name, functions_bound, functions_other}
use Rattle.cajita_simulation.proofs.Load.Names.{undefined_value, value_at-bound, value_at-unbound, with_vars-bound, with_vars-unbound, among_append, absorbed, own_among, own_never, temps_hidden, temps_declared, loops_among, others_among, names_kept}

-- the statements of a function: its head, its functions and their marks, and those of its source

abbrev pub own_heads : List (List ℕ) → c.Tree c.stmts → t.Tree t.items
own_heads names list = head_items (c.a_body c.no_funcs names list)

abbrev pub heads : Bool → List (List ℕ) → c.Tree c.stmts → t.Tree t.items
heads args names list = args_items args (own_heads names list)

abbrev pub behind_head : c.Tree c.funcs → c.Tree c.stmts → t.Tree t.stmts
behind_head fs list = joined (rewritten false c.funcs 0 fs) (marks fs (rewritten false c.stmts 0 list))

abbrev pub statements : Bool → c.Tree c.funcs → List (List ℕ) → c.Tree c.stmts → t.Tree t.stmts
statements args fs names list = var_stmts (heads args names list) (behind_head fs list)

abbrev pub own_names : Bool → c.Tree c.funcs → List (List ℕ) → c.Tree c.stmts → List (List ℕ)
own_names args fs names list = own_vars (vars_of (statements args fs names list))

-- what it declares

list_names : (vars free : KnownNames) (b : ℕ) (xs : c.Tree c.stmts) → Guest vars free c.stmts xs → vars_of (rewritten false c.stmts b xs) ≡ declared c.stmts xs
list_names vars free b xs g = names_kept vars free false c.stmts b xs g

-- no statement declares a function
no_function : (vars free : KnownNames) (b : ℕ) (x : c.Tree c.stmt) (rest : t.Tree t.stmts) → Guest vars free c.stmt x → functions_of (t.more_stmts (rewritten false c.stmt b x) rest) ≡ functions_of rest
unfolding rewritten
no_function vars free b (c.for_in (c.variable x) e s) rest g = refl
no_function vars free b (c.for_in (c.member o k) e s) rest g = refl
no_function vars free b x rest g = refl

list_functions : (vars free : KnownNames) (b : ℕ) (xs : c.Tree c.stmts) → Guest vars free c.stmts xs → functions_of (rewritten false c.stmts b xs) ≡ []
unfolding rewritten
list_functions vars free b c.no_stmts g = refl
list_functions vars free b (c.more_stmts x xs) g = no_function vars free b x (rewritten false c.stmts (b + temps c.stmt x) xs) g.0 ∙ list_functions vars free (b + temps c.stmt x) xs g.1

head_vars : (is : t.Tree t.items) (rest : t.Tree t.stmts) → vars_of (var_stmts is rest) ≡ vars_in t.items is ++ vars_of rest
head_vars t.no_items rest = refl
head_vars (t.more_items x e is) rest = refl

head_functions : (is : t.Tree t.items) (rest : t.Tree t.stmts) → functions_of (var_stmts is rest) ≡ functions_of rest
head_functions t.no_items rest = refl
head_functions (t.more_items x e is) rest = refl

pub functions_are : (vars free : KnownNames) (args : Bool) (fs : c.Tree c.funcs) (names : List (List ℕ)) (list : c.Tree c.stmts) → Guest vars free c.stmts list → functions_of (statements args fs names list) ≡ func_list fs
functions_are vars free args fs names list g = head_functions (heads args names list) (behind_head fs list) ∙ declared_functions fs (rewritten false c.stmts 0 list) (list_functions vars free 0 list g)

-- of its names: those that aren't hidden are its variables, its temporaries are among them, and the copy of `arguments` where it reads that, and the runtime's object is not
pub record NewNames (args : Bool) (params names vars' : List (List ℕ)) (q : ℕ) : Type 0 where
  pub guests : (x : List ℕ) → is_hidden x ≡ false → is_among vars' x ≡ is_among names x
  pub temps : (i : ℕ) → i < q → is_among vars' (temp_name i) ≡ true
  pub runtime : is_among vars' runtime_name ≡ false
  pub copy : is_among vars' arguments_copy ≡ args
  pub params_open : (x : List ℕ) → is_among params x ≡ true → GuestName x
  pub names_open : (x : List ℕ) → is_among names x ≡ true → GuestName x

pub not_true : (b : Bool) → (b ≡ true → ⊥) → b ≡ false
not_true true f = absurd (f refl)
not_true false f = refl

or_none : (a b : Bool) → (a || b) ≡ false → a ≡ false
or_none true b e = cc
or_none false b e = refl

args_among : (args : Bool) (is : t.Tree t.items) (x : List ℕ) → is_among (vars_in t.items (args_items args is)) x ≡ ((args && same_units x arguments_copy) || is_among (vars_in t.items is) x)
args_among true is x = refl
args_among false is x = refl

and_no : (a b : Bool) → b ≡ false → (a && b) ≡ false
and_no true b e = e
and_no false b e = refl

and_yes : (a : Bool) → (a && true) ≡ a
and_yes true = refl
and_yes false = refl

or_no : (a b d : Bool) → a ≡ false → ((a || b) || d) ≡ (b || d)
or_no true b d e = cc
or_no false b d e = refl

or_yes : (a b d : Bool) → (b || d) ≡ true → ((a || b) || d) ≡ true
or_yes true b d e = refl
or_yes false b d e = e

or_left : (a b d : Bool) → (b || d) ≡ false → ((a || b) || d) ≡ a
or_left true b d e = refl
or_left false b d e = e

pub shown_apart : (x : List ℕ) → is_hidden x ≡ false → same_units x arguments_copy ≡ false
shown_apart x shown = not_true (same_units x arguments_copy) (λ e. cc (sym shown ∙ ap is_hidden (same_text x arguments_copy (sym e))))

module _ (vars free : KnownNames) (args : Bool) (fs : c.Tree c.funcs) (names : List (List ℕ)) (list : c.Tree c.stmts) (guest : Guest vars free c.stmts list) (open_names : (x : List ℕ) → is_among names x ≡ true → GuestName x) (among : (x : List ℕ) → is_among (declared c.stmts list) x ≡ true → is_among names x ≡ true) where
  abbrev others_here : List (List ℕ)
  others_here = others names (declared c.stmts list)

  abbrev own_head : t.Tree t.items
  own_head = own_heads names list

  all_names : (x : List ℕ) → is_among (vars_of (statements args fs names list)) x ≡ (((args && same_units x arguments_copy) || is_among (vars_in t.items own_head) x) || is_among (declared c.stmts list) x)
  all_names x =
      ap (λ l. is_among l x) (head_vars (heads args names list) (behind_head fs list) ∙ ap (λ l. vars_in t.items (heads args names list) ++ l) (declared_vars fs (rewritten false c.stmts 0 list) ∙ list_names vars free 0 list guest)) ∙ among_append (vars_in t.items (heads args names list)) (declared c.stmts list) x
      ∙ ap (λ b. b || is_among (declared c.stmts list) x) (args_among args own_head x)

  -- of another name than the copy of `arguments`
  other_names : (x : List ℕ) → same_units x arguments_copy ≡ false → is_among (vars_of (statements args fs names list)) x ≡ (is_among (vars_in t.items own_head) x || is_among (declared c.stmts list) x)
  other_names x other = all_names x ∙ or_no (args && same_units x arguments_copy) (is_among (vars_in t.items own_head) x) (is_among (declared c.stmts list) x) (and_no args (same_units x arguments_copy) other)

  known_among : (x : List ℕ) → (is_among names x || is_among (declared c.stmts list) x) ≡ is_among names x
  known_among x = absorbed (is_among names x) (is_among (declared c.stmts list) x) (among x)

  open_known : (x : List ℕ) → is_hidden x ≡ false → is_among (own_names args fs names list) x ≡ is_among names x
  open_known x shown =
      let cases = elim (is_arguments x) as (λ b. is_arguments x ≡ b → is_among (own_names args fs names list) x ≡ is_among names x) [
        | true ↦ λ is. own_never (vars_of (statements args fs names list)) x is ∙ sym (not_true (is_among names x) (λ e. cc (sym is ∙ (open_names x e).own_name)))
        | false ↦ λ is.
            own_among (vars_of (statements args fs names list)) x is ∙ other_names x (shown_apart x shown)
            ∙ ap (λ b. b || is_among (declared c.stmts list) x) (temps_hidden 0 (temps c.stmts list) (name_items others_here t.no_items) x shown ∙ loops_among others_here x)
            ∙ others_among names (declared c.stmts list) x ∙ known_among x
      ] in cases refl

  temps_known : (i : ℕ) → i < temps c.stmts list → is_among (own_names args fs names list) (temp_name i) ≡ true
  temps_known i lt =
      own_among (vars_of (statements args fs names list)) (temp_name i) refl ∙ other_names (temp_name i) refl
      ∙ ap (λ b. b || is_among (declared c.stmts list) (temp_name i)) (temps_declared 0 (temps c.stmts list) i (name_items others_here t.no_items) (omega arith) (omega (arith, lt)))

  -- no temporary is called so
  temps_other : (i n : ℕ) (is : t.Tree t.items) → is_among (vars_in t.items (temp_items i n is)) runtime_name ≡ is_among (vars_in t.items is) runtime_name
  temps_other i zero is = refl
  temps_other i (suc n) is = temps_other (suc i) n is

  runtime_unknown : is_among (own_names args fs names list) runtime_name ≡ false
  runtime_unknown =
      let hidden : is_among names runtime_name ≡ false = not_true (is_among names runtime_name) (λ e. no_open (open_names runtime_name e).open_name) in
      own_among (vars_of (statements args fs names list)) runtime_name refl ∙ other_names runtime_name refl
      ∙ ap (λ b. b || is_among (declared c.stmts list) runtime_name) (temps_other 0 (temps c.stmts list) (name_items others_here t.no_items) ∙ loops_among others_here runtime_name)
      ∙ others_among names (declared c.stmts list) runtime_name ∙ known_among runtime_name ∙ hidden
    where
      no_open : is_hidden runtime_name ≡ false → ⊥
      no_open e = cc

  temps_apart : (i n : ℕ) (is : t.Tree t.items) → is_among (vars_in t.items (temp_items i n is)) arguments_copy ≡ is_among (vars_in t.items is) arguments_copy
  temps_apart i zero is = refl
  temps_apart i (suc n) is = temps_apart (suc i) n is

  copy_known : is_among (own_names args fs names list) arguments_copy ≡ args
  copy_known =
      let hidden : is_among names arguments_copy ≡ false = not_true (is_among names arguments_copy) (λ e. no_open (open_names arguments_copy e).open_name) in
      own_among (vars_of (statements args fs names list)) arguments_copy refl ∙ all_names arguments_copy
      ∙ or_left (args && true) (is_among (vars_in t.items own_head) arguments_copy) (is_among (declared c.stmts list) arguments_copy)
      (ap (λ b. b || is_among (declared c.stmts list) arguments_copy) (temps_apart 0 (temps c.stmts list) (name_items others_here t.no_items) ∙ loops_among others_here arguments_copy)
      ∙ others_among names (declared c.stmts list) arguments_copy ∙ known_among arguments_copy ∙ hidden)
      ∙ and_yes args
    where
      no_open : is_hidden arguments_copy ≡ false → ⊥
      no_open e = cc

  pub new_names : (params : List (List ℕ)) → ((x : List ℕ) → is_among params x ≡ true → GuestName x) → NewNames args params names (own_names args fs names list) (temps c.stmts list)
  new_names params open_params = record { guests = open_known; temps = temps_known; runtime = runtime_unknown; copy = copy_known; params_open = open_params; names_open = open_names }

-- which names are bound

or_turn : (a b c : Bool) → (a || (b || c)) ≡ ((b || a) || c)
or_turn true true c = refl
or_turn true false c = refl
or_turn false true c = refl
or_turn false false c = refl

pub params_bound : (x : List ℕ) (xs : List (List ℕ)) (vs : List EsValue) (names : Names) → is_some (name_value x (with_params xs vs names)) ≡ (is_among xs x || is_some (name_value x names))
params_bound x [] vs names = refl
params_bound x (y ∷ ys) [] names = params_bound x ys [] (with_name y es.Undefined names) ∙ ap (λ b. is_among ys x || b) (name_bound x y es.Undefined names) ∙ or_turn (is_among ys x) (same_units x y) (is_some (name_value x names))
params_bound x (y ∷ ys) (v ∷ vs) names = params_bound x ys vs (with_name y v names) ∙ ap (λ b. is_among ys x || b) (name_bound x y v names) ∙ or_turn (is_among ys x) (same_units x y) (is_some (name_value x names))

vars_bound : (x : List ℕ) (vars : List (List ℕ)) (names : Names) → is_some (name_value x (with_vars vars names)) ≡ (is_some (name_value x names) || is_among vars x)
vars_bound x vars names =
    let cases = elim (name_value x names) as (λ o. name_value x names ≡ o → is_some (name_value x (with_vars vars names)) ≡ (is_some o || is_among vars x)) [
      | Some e ↦ λ is. ap is_some (with_vars-bound x vars names e is)
      | None ↦ λ is. ap is_some (with_vars-unbound x vars names is) ∙ some_value (is_among vars x)
    ] in cases refl
  where
    some_value : (b : Bool) → is_some (undefined_value es.Undefined b) ≡ b
    some_value true = refl
    some_value false = refl

-- the names that a call begins with: its parameters and its variables
pub call_bound : (x : List ℕ) (params vars : List (List ℕ)) (vs : List EsValue) → is_some (name_value x (with_vars vars (with_params params vs []))) ≡ (is_among params x || is_among vars x)
call_bound x params vars vs = vars_bound x vars (with_params params vs []) ∙ ap (λ b. b || is_among vars x) (params_bound x params vs [] ∙ or_false (is_among params x))
  where
    or_false : (b : Bool) → (b || false) ≡ b
    or_false true = refl
    or_false false = refl

-- they have values that correspond

named_is : (h : Objects) (x y : List ℕ) (v : Value) (e : EsValue) (a : Pairs) (b : Names) → Val h v e → OptVal h (value_at x a) (name_value x b) → OptVal h (value_at x (with_value y v a)) (name_value x (with_name y e b))
named_is h x y v e a b is was =
    let cases = elim (same_units x y) as (λ q. same_units x y ≡ q → OptVal h (value_at x (with_value y v a)) (name_value x (with_name y e b))) [
      | true ↦ λ same. subst (λ q. OptVal h (value_at x (with_value q v a)) (name_value x (with_name q e b))) (same_text x y (sym same)) (rw (value_at-with_value x v a, name_value-with_name x e b) is)
      | false ↦ λ other. rw (value_at-with_value-other y x v a other, name_value-with_name-other y x e b other) was
    ] in cases refl

params_are : (h : Objects) (x : List ℕ) (xs : List (List ℕ)) (vs : List Value) (qs : List EsValue) (a : Pairs) (b : Names) → Vals h vs qs → OptVal h (value_at x a) (name_value x b) → OptVal h (value_at x (World.with_params xs vs a)) (name_value x (with_params xs qs b))
params_are h x [] vs qs a b is was = was
params_are h x (y ∷ ys) [] [] a b is was = params_are h x ys [] [] (with_value y World.undefined a) (with_name y es.Undefined b) tt (named_is h x y World.undefined es.Undefined a b tt was)
params_are h x (y ∷ ys) (v ∷ vs) (q ∷ qs) a b is was = params_are h x ys vs qs (with_value y v a) (with_name y q b) is.1 (named_is h x y v q a b is.0 was)
params_are h x (y ∷ ys) [] (q ∷ qs) a b is was = absurd is
params_are h x (y ∷ ys) (v ∷ vs) [] a b is was = absurd is

vars_are : (h : Objects) (x : List ℕ) (xs ys : List (List ℕ)) (a : Pairs) (b : Names) (o : Option Value) (o' : Option EsValue) → value_at x a ≡ o → name_value x b ≡ o' → is_among xs x ≡ is_among ys x → OptVal h o o' → OptVal h (value_at x (World.with_vars xs a)) (name_value x (with_vars ys b))
vars_are h x xs ys a b (Some v) (Some e) is is' same p = rw (value_at-bound x xs a v is, with_vars-bound x ys b e is') p
vars_are h x xs ys a b None None is is' same p = rw (value_at-unbound x xs a is, with_vars-unbound x ys b is', same) (both (is_among ys x))
  where
    both : (q : Bool) → OptVal h (undefined_value World.undefined q) (undefined_value es.Undefined q)
    both true = tt
    both false = tt
vars_are h x xs ys a b None (Some e) is is' same p = absurd p
vars_are h x xs ys a b (Some v) None is is' same p = absurd p

pub call_names : (h : Objects) (x : List ℕ) (params xs ys : List (List ℕ)) (vs : List Value) (qs : List EsValue) → Vals h vs qs → is_among xs x ≡ is_among ys x → OptVal h (value_at x (World.with_vars xs (World.with_params params vs []))) (name_value x (with_vars ys (with_params params qs [])))
call_names h x params xs ys vs qs is same = vars_are h x xs ys (World.with_params params vs []) (with_params params qs []) _ _ refl refl same (params_are h x params vs qs [] [] is tt)

-- and each variable is where the interpreter has it
pub call_alike_own : {args : Bool} {params names vars' : List (List ℕ)} {q : ℕ} (h : Objects) (vs : List Value) (qs : List EsValue) → NewNames args params names vars' q → Vals h vs qs → (x : List ℕ) → is_hidden x ≡ false → OptVal h (value_at x (World.with_vars names (World.with_params params vs []))) (name_value x (with_vars vars' (with_params params qs [])))
call_alike_own {params = params} {names = names} {vars' = vars'} h vs qs new is x shown = call_names h x params names vars' vs qs is (sym (new.guests x shown))

-- `arguments` is a variable of neither, where the body doesn't read it
pub call_alike : {params names vars' : List (List ℕ)} {q : ℕ} (h : Objects) (vs : List Value) (qs : List EsValue) → NewNames false params names vars' q → Vals h vs qs → ScopeIs h (World.with_vars names (World.with_params params vs [])) (with_vars vars' (with_params params qs []))
call_alike {params = params} {names = names} {vars' = vars'} h vs qs new is x shown =
    let all = with_vars vars' (with_params params qs []) in
    let same = call_alike_own h vs qs new is x shown in
    let cases = elim (is_arguments x) as (λ b. is_arguments x ≡ b → OptVal h (value_at x (World.with_vars names (World.with_params params vs []))) (name_value (cond b arguments_copy x) (with_vars vars' (with_params params qs [])))) [
      | false ↦ λ own. same
      | true ↦ λ own.
          let no_param : is_among params x ≡ false = not_true (is_among params x) (λ e. cc (sym own ∙ (new.params_open x e).own_name)) in
          let no_name : is_among names x ≡ false = not_true (is_among names x) (λ e. cc (sym own ∙ (new.names_open x e).own_name)) in
          let no_copy : is_among params arguments_copy ≡ false = not_true (is_among params arguments_copy) (λ e. no_open (new.params_open arguments_copy e).open_name) in
          none_too (value_at x (World.with_vars names (World.with_params params vs []))) (name_value x all) (name_value arguments_copy all) same
          (call_bound x params vars' qs ∙ ap (λ b. b || is_among vars' x) no_param ∙ new.guests x shown ∙ no_name)
          (call_bound arguments_copy params vars' qs ∙ ap (λ b. b || is_among vars' arguments_copy) no_copy ∙ new.copy)
    ] in cases refl
  where
    no_open : is_hidden arguments_copy ≡ false → ⊥
    no_open e = cc

    none_too : (o : Option Value) (a b : Option EsValue) → OptVal h o a → is_some a ≡ false → is_some b ≡ false → OptVal h o b
    none_too None None None p e f = tt
    none_too None None (Some u) p e f = cc
    none_too None (Some u) b p e f = absurd p
    none_too (Some v) None b p e f = absurd p
    none_too (Some v) (Some u) b p e f = cc

-- the names of a new scope, beside those around it: its temporaries, and that a name which it hasn't is found further out
pub record ScopeNames (all : Names) (vars free vars1 free1 : KnownNames) (q : ℕ) : Type 0 where
  pub temps : (i : ℕ) → i < q → is_some (name_value (temp_name i) all) ≡ true
  pub runtime : is_some (name_value runtime_name all) ≡ false
  pub read : (x : List ℕ) → is_some (name_value x all) ≡ false → vars1 x ≡ true → vars x ≡ true
  pub write : (x : List ℕ) → is_some (name_value x all) ≡ false → free1 x ≡ true → free x ≡ true

either_side : (a b : Bool) → b ≡ true → (a || b) ≡ true
either_side true b e = refl
either_side false b e = e

module _ {args : Bool} {params names vars' : List (List ℕ)} {q : ℕ} (fs : c.Tree c.funcs) (place : ℕ) (qs : List EsValue) (new : NewNames args params names vars' q) (funcs : NewFuncs params names fs) where
  abbrev pub all : Names
  all = bound_names fs place (with_vars vars' (with_params params qs []))

  bound : (x : List ℕ) → is_some (name_value x all) ≡ (is_declared fs x || (is_among params x || is_among vars' x))
  bound x = functions_bound fs place (with_vars vars' (with_params params qs [])) x ∙ ap (λ b. is_declared fs x || b) (call_bound x params vars' qs)

  no_guest : (x : List ℕ) → is_hidden x ≡ true → (is_declared fs x ≡ false) × (is_among params x ≡ false)
  no_guest x hidden = (
    not_true (is_declared fs x) (λ e. cc (sym hidden ∙ (declared_name params names fs x funcs e).guest.open_name)),
    not_true (is_among params x) (λ e. cc (sym hidden ∙ (new.params_open x e).open_name)),
  )

  -- a name that the scope hasn't is none of the body's
  outer_names : (x : List ℕ) → is_some (name_value x all) ≡ false → (is_declared fs x ≡ false) × (is_among params x ≡ false) × (is_among names x ≡ false)
  outer_names x e =
      let parts = left_none (is_declared fs x) (is_among params x || is_among vars' x) (sym (bound x) ∙ e) in
      let rest = left_none (is_among params x) (is_among vars' x) parts.1 in
      let cases = elim (is_hidden x) as (λ b. is_hidden x ≡ b → is_among names x ≡ false) [
        | false ↦ λ shown. sym (new.guests x shown) ∙ rest.1
        | true ↦ λ hidden. not_true (is_among names x) (λ e. cc (sym hidden ∙ (new.names_open x e).open_name))
      ] in (parts.0, rest.0, cases refl)

  -- and the copy of `arguments` is, where the body reads that
  copy_bound : (x : List ℕ) → is_some (name_value x all) ≡ false → (args && same_units x arguments_copy) ≡ false
  copy_bound x e =
      let cases = elim (same_units x arguments_copy) as (λ b. same_units x arguments_copy ≡ b → (args && b) ≡ false) [
        | false ↦ λ other. and_no args false refl
        | true ↦ λ same.
            let p = left_none (is_declared fs x) (is_among params x || is_among vars' x) (sym (bound x) ∙ e) in
            let rest = left_none (is_among params x) (is_among vars' x) p.1 in
            let is : x ≡ arguments_copy = same_text x arguments_copy (sym same) in
            and_yes args ∙ sym new.copy ∙ ap (is_among vars') (sym is) ∙ rest.1
      ] in cases refl

  further : (x : List ℕ) (around : KnownNames) → is_some (name_value x all) ≡ false → within params names fs args around x ≡ true → around x ≡ true
  further x around e known = let p = outer_names x e in out (args && same_units x arguments_copy) (is_declared fs x) (is_among params x) (is_among names x) (around x) (copy_bound x e) p.0 p.1 p.2 known
    where
      out : (g a b d r : Bool) → g ≡ false → a ≡ false → b ≡ false → d ≡ false → (g || (a || ((b || d) || r))) ≡ true → r ≡ true
      out true a b d r eg ea eb ed k = cc
      out false true b d r eg ea eb ed k = cc
      out false false true d r eg ea eb ed k = cc
      out false false false true r eg ea eb ed k = cc
      out false false false false r eg ea eb ed k = k

  pub scope_names : (vars free : KnownNames) → ScopeNames all vars free (within params names fs args vars) (within params names fs args free) q
  scope_names vars free = record {
    temps = λ i lt. bound (temp_name i) ∙ either_side (is_declared fs (temp_name i)) (is_among params (temp_name i) || is_among vars' (temp_name i)) (either_side (is_among params (temp_name i)) (is_among vars' (temp_name i)) (new.temps i lt));
    runtime = let p = no_guest runtime_name refl in bound runtime_name ∙ rw (p.0, p.1, new.runtime) refl;
    read = λ x e known. further x vars e known;
    write = λ x e known. further x free e known;
  }

  unbound_name : (o : Option EsValue) → is_some o ≡ false → o ≡ None
  unbound_name None e = refl
  unbound_name (Some v) e = cc

  -- `arguments` isn't bound when a body begins
  pub arguments_unbound : name_value arguments_name all ≡ None
  arguments_unbound =
      let no_func = not_true (is_declared fs arguments_name) (λ e. own_no (declared_name params names fs arguments_name funcs e).guest.own_name) in
      let no_param = not_true (is_among params arguments_name) (λ e. own_no (new.params_open arguments_name e).own_name) in
      let no_var : is_among vars' arguments_name ≡ false = new.guests arguments_name refl ∙ not_true (is_among names arguments_name) (λ e. own_no (new.names_open arguments_name e).own_name) in
      unbound_name (name_value arguments_name all) (bound arguments_name ∙ rw (no_func, no_param, no_var) refl)
    where
      own_no : is_arguments arguments_name ≡ false → ⊥
      own_no e = cc

  -- and its copy, where the body reads it, is undefined
  pub copy_undefined : args ≡ true → name_value arguments_copy all ≡ Some es.Undefined
  copy_undefined is =
      let p = no_guest arguments_copy refl in
      functions_other fs place (with_vars vars' (with_params params qs [])) arguments_copy p.0
      ∙ with_vars-unbound arguments_copy vars' (with_params params qs []) (unbound_name (name_value arguments_copy (with_params params qs [])) (params_bound arguments_copy params qs [] ∙ ap (λ b. b || false) p.1))
      ∙ ap (λ b. undefined_value es.Undefined b) (new.copy ∙ is)

  pub copy_apart : is_among params arguments_copy ≡ false
  copy_apart = (no_guest arguments_copy refl).1

-- the scope when `arguments` was read and copied has two names more

pub other_bound : (x : List ℕ) (a b : EsValue) (all : Names) → same_units x arguments_copy ≡ false → is_arguments x ≡ false → name_value x (with_name arguments_copy a (with_name arguments_name b all)) ≡ name_value x all
other_bound x a b all apart own = name_value-with_name-other arguments_copy x a (with_name arguments_name b all) apart ∙ name_value-with_name-other arguments_name x b all own

pub names_more : {all : Names} {vars free vars1 free1 : KnownNames} {q : ℕ} (a b : EsValue) → ScopeNames all vars free vars1 free1 q → ScopeNames (with_name arguments_copy a (with_name arguments_name b all)) vars free vars1 free1 q
names_more {all = all} a b p =
    let one = with_name arguments_name b all in
    let fewer : (x : List ℕ) → is_some (name_value x (with_name arguments_copy a one)) ≡ false → is_some (name_value x all) ≡ false = λ x e.
    (left_none (same_units x arguments_name) (is_some (name_value x all)) (sym (name_bound x arguments_name b all) ∙ (left_none (same_units x arguments_copy) (is_some (name_value x one)) (sym (name_bound x arguments_copy a one) ∙ e)).1)).1 in
    record {
      temps = λ i lt. ap is_some (other_bound (temp_name i) a b all refl refl) ∙ p.temps i lt;
      runtime = ap is_some (other_bound runtime_name a b all refl refl) ∙ p.runtime;
      read = λ x e known. p.read x (fewer x e) known;
      write = λ x e known. p.write x (fewer x e) known;
    }
