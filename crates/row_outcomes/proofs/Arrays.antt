-- What handles stand for among the values in hand, whatever is seen later, and what a row makes of it.
use Rattle.std.proofs.Common.{◌≡◌, ℕ, suc, ◌+◌, false, List, [], ◌∷◌, ◌++◌, length, Some, refl, sym, ap, ◌∙◌, subst, append_assoc, append-nil, arith}
use Rattle.std.specs.Prelude.{slice_get, map}
use Rattle.std.proofs.lemmas.List.{length-append, map-append, length-map}
use Rattle.es3_objects.specs.declared.value.Value.{Value}
use Rattle.es3_heap.specs.Objects.{Objects}
use Rattle.rows.specs.Rows as r
use Rattle.rows.specs.Rows.{Handle, held, handles, ends}
use Rattle.rows.specs.Arguments as rows
use Rattle.heap_rows.specs.Doing.{value_in}
use Rattle.heap_rows.specs.Opening.{place_of}
use Rattle.row_outcomes.specs.Arguments.{argument}
use Rattle.row_outcomes.specs.Arrays.{new_array}
use Rattle.row_outcomes.proofs.Arguments.{argument_held, Stands, Leaves}
use Rattle.row_outcomes.proofs.Numbers.{arguments_held}

-- handles stand for values, also when more is seen
abbrev pub Stand : List Value → List Handle → List Value → Type 0
Stand vs xs zs = (more : List Value) → map (value_in place_of (vs ++ more)) xs ≡ zs

-- nothing more is seen
pub stand_now : (vs : List Value) (xs : List Handle) (zs : List Value) → Stand vs xs zs → map (value_in place_of vs) xs ≡ zs
stand_now vs xs zs stand = subst (λ l. map (value_in place_of l) xs ≡ zs) (append-nil vs) (stand [])

pub stand_behind : (vs more : List Value) (xs : List Handle) (zs : List Value) → Stand vs xs zs → Stand (vs ++ more) xs zs
stand_behind vs more xs zs stand = λ extra. subst (λ l. map (value_in place_of l) xs ≡ zs) (sym (append_assoc vs more extra)) (stand (more ++ extra))

pub stand_both : (vs : List Value) (xs ys : List Handle) (zs ws : List Value) → Stand vs xs zs → Stand vs ys ws → Stand vs (xs ++ ys) (zs ++ ws)
stand_both vs xs ys zs ws one other = λ more. rw (map-append (value_in place_of (vs ++ more)) xs ys, one more, other more) refl

-- items behind the values before them

at_length : (before : List Value) (x : Value) (rest : List Value) → slice_get (before ++ x ∷ rest) (length before) ≡ Some x
at_length [] x rest = refl
at_length (b ∷ before) x rest = at_length before x rest

pub items_stand : (before xs : List Value) (n : ℕ) → length before ≡ n → Stand (before ++ xs) (handles n xs) xs
items_stand before [] n len = λ more. refl
items_stand before (x ∷ xs) n len = λ more.
    let first : value_in place_of ((before ++ x ∷ xs) ++ more) (held n) ≡ x = rw (append_assoc before (x ∷ xs) more, sym len, at_length before x (xs ++ more)) refl in
    let longer : length (before ++ x ∷ []) ≡ n + 1 = length-append before (x ∷ []) ∙ omega (arith, len) in
    let others = subst (λ l. Stand l (handles (n + 1) xs) xs) (append_assoc before (x ∷ []) xs) (items_stand (before ++ x ∷ []) xs (n + 1) longer) in
    rw (first, others more) refl

-- the arguments

pub arguments_stand : (this : Value) (args : List Value) → Stand (this ∷ args) (rows.arguments (suc (length args))) args
arguments_stand this args = arguments_held place_of this args

pub argument_stands : (this : Value) (args seen : List Value) (i : ℕ) → Stands (this ∷ (args ++ seen)) (rows.argument i (suc (length args))) (argument i args)
argument_stands this args seen i = λ more. rw (append_assoc args seen more) (argument_held place_of i this args (seen ++ more))

-- a new array of what handles stand for

pub same_count : (vs : List Value) (xs : List Handle) (zs : List Value) → Stand vs xs zs → length xs ≡ length zs
same_count vs xs zs stand = sym (length-map xs (value_in place_of vs)) ∙ ap length (stand_now vs xs zs stand)

pub new_array_leaves : (by : ℕ) (vs : List Value) (h : Objects) (xs : List Handle) (zs : List Value) → Stand vs xs zs → Leaves by vs h (ends (r.makes_array false xs)) (new_array by h zs)
new_array_leaves by vs h xs zs stand = λ more. rw (stand more, same_count vs xs zs stand) refl
