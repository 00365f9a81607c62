-- Names that are bound at a call, one after another.
use Rattle.std.proofs.Common.{◌≡◌, ℕ, zero, suc, ◌+◌, ◌<◌, List, [], ◌∷◌, length, get_or, drop, sym, ap, ◌∙◌, arith, Global}
use Rattle.std.specs.Prelude.{slice_get}
use Rattle.std.specs.declared.rc.Rc.{Rc}
use Rattle.es3_objects.specs.declared.value.Value.{Value}
use Rattle.es3_objects.specs.declared.value.Value.TheVariants.{Undefined}
use Rattle.es3_language.specs.Store.{Names, with_name, with_params, with_vars}
use Rattle.es3_moves.specs.Code.{names_of}
use Rattle.es3_calls.specs.Calls.{value_at}

abbrev pub Name : Type 0
Name = Rc (List ℕ) Global

-- parameters

params_past : (xs : List Name) (i : ℕ) (x : Name) (names : Names) → i < length xs → x ≡ get_or xs i x → with_params (names_of (drop i xs)) [] names ≡ with_params (names_of (drop (suc i) xs)) [] (with_name x.value Undefined names)
params_past [] i x names h e = absurd (omega arith)
params_past (y ∷ ys) zero x names h e = ap (λ k. with_params (names_of ys) [] (with_name k.value Undefined names)) (sym e)
params_past (y ∷ ys) (suc i) x names h e = params_past ys i x names (omega arith) e

params_step : (xs : List Name) (vs : List Value) (i : ℕ) (x : Name) (names : Names) → i < length xs → x ≡ get_or xs i x → with_params (names_of (drop i xs)) (drop i vs) names ≡ with_params (names_of (drop (suc i) xs)) (drop (suc i) vs) (with_name x.value (value_at (slice_get vs i)) names)
params_step [] vs i x names h e = absurd (omega arith)
params_step (y ∷ ys) [] zero x names h e = ap (λ k. with_params (names_of ys) [] (with_name k.value Undefined names)) (sym e)
params_step (y ∷ ys) (v ∷ vs) zero x names h e = ap (λ k. with_params (names_of ys) vs (with_name k.value v names)) (sym e)
params_step (y ∷ ys) [] (suc i) x names h e = params_past ys i x names (omega arith) e
params_step (y ∷ ys) (v ∷ vs) (suc i) x names h e = params_step ys vs i x names (omega arith) e

-- one more parameter with its argument
pub params_more : (xs : List Name) (vs : List Value) (i : ℕ) (x : Name) (v : Value) (names names' all : Names) → i < length xs → x ≡ get_or xs i x → v ≡ value_at (slice_get vs i) → names' ≡ with_name x.value v names → with_params (names_of (drop i xs)) (drop i vs) names ≡ all → with_params (names_of (drop (i + 1) xs)) (drop (i + 1) vs) names' ≡ all
params_more xs vs i x v names names' all h e f g inv =
    let one : i + 1 ≡ suc i = omega arith in
    ap (λ k. with_params (names_of (drop k xs)) (drop k vs) names') one
    ∙ ap (λ l. with_params (names_of (drop (suc i) xs)) (drop (suc i) vs) l) (g ∙ ap (λ w. with_name x.value w names) f)
    ∙ sym (params_step xs vs i x names h e)
    ∙ inv

-- variables

vars_step : (xs : List Name) (i : ℕ) (x : Name) (names : Names) → i < length xs → x ≡ get_or xs i x → with_vars (names_of (drop i xs)) names ≡ with_vars (names_of (drop (suc i) xs)) (with_vars (x.value ∷ []) names)
vars_step [] i x names h e = absurd (omega arith)
vars_step (y ∷ ys) zero x names h e = ap (λ k. with_vars (names_of ys) (with_vars (k.value ∷ []) names)) (sym e)
vars_step (y ∷ ys) (suc i) x names h e = vars_step ys i x names (omega arith) e

-- one more declared name
pub vars_more : (xs : List Name) (i : ℕ) (x : Name) (names names' all : Names) → i < length xs → x ≡ get_or xs i x → names' ≡ with_vars (x.value ∷ []) names → with_vars (names_of (drop i xs)) names ≡ all → with_vars (names_of (drop (i + 1) xs)) names' ≡ all
vars_more xs i x names names' all h e g inv =
    let one : i + 1 ≡ suc i = omega arith in
    ap (λ k. with_vars (names_of (drop k xs)) names') one
    ∙ ap (with_vars (names_of (drop (suc i) xs))) g
    ∙ sym (vars_step xs i x names h e)
    ∙ inv
