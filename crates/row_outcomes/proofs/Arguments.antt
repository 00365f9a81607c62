-- What the rows of built-in functions make of their arguments, as values: a row is carried out with the receiver and the arguments in hand, and more behind them.
use Rattle.std.proofs.Common.{◌≡◌, ℕ, zero, suc, ◌+◌, Bool, true, false, List, [], ◌∷◌, ◌++◌, length, Option, Some, None, Result, Ok, Err, cond, refl, sym, ◌∙◌, subst, append_assoc, append-nil, arith}
use Rattle.std.specs.Prelude.{ℤ, nat_lt, codes, is_some}
use Rattle.std.proofs.lemmas.Bool.Decides.{nat_tests}
use Rattle.plans.specs.Plans.{Fault}
use Rattle.es3_objects.specs.declared.value.Value.{Value}
use Rattle.es3_objects.specs.declared.value.Value.TheVariants as v
use Rattle.es3_objects.specs.declared.value.Class.{Class}
use Rattle.es3_objects.specs.declared.value.Class.TheVariants as class
use Rattle.es3_objects.specs.declared.value.FuncKind.TheVariants as kind
use Rattle.es3_heap.specs.Objects.{Objects, Callable, object_at, class_of, callable_of}
use Rattle.es3_heap.specs.Properties.{own}
use Rattle.es3_convert.specs.Conversions.{and_then, text_of}
use Rattle.es3_convert.specs.Numbers.{number_of}
use Rattle.rows.specs.Rows as r
use Rattle.rows.specs.Rows.{Native, Row, Handle, Sight, Sort, held, undefined, ends, looks, as_text, as_number}
use Rattle.rows.specs.Arguments as rows
use Rattle.rows.specs.Arguments.{value, unless_undefined, text_seen, on_text, number_or, text_or}
use Rattle.heap_rows.specs.Marks.{simple_mark}
use Rattle.heap_rows.specs.Doing.{Done, value_in, see, see_object, sort_seen, with_result, does}
use Rattle.heap_rows.specs.Opening.{place_of, empty_page}
use Rattle.row_outcomes.specs.Comes.{throws}
use Rattle.row_outcomes.specs.Arguments.{argument, number_argument, text_argument, told, after, at_text, text_method}

no_less : (j : ℕ) → nat_lt j 0 ≡ false
no_less j = grind (arith, nat_tests)

first_less : (n : ℕ) → nat_lt 0 (suc n) ≡ true
first_less n = grind (arith, nat_tests)

next_less : (j n : ℕ) → nat_lt (suc j) (suc n) ≡ nat_lt j n
next_less j n = grind (arith, nat_tests)

-- one more value in front
next_held : (fs : Native → ℕ) (i : ℕ) (x : Value) (xs : List Value) (b : Bool) → value_in fs (x ∷ xs) (cond b (held (suc i)) undefined) ≡ value_in fs xs (cond b (held i) undefined)
next_held fs i x xs true = refl
next_held fs i x xs false = refl

value_held : (fs : Native → ℕ) (i : ℕ) (args more : List Value) → value_in fs (args ++ more) (value i (length args)) ≡ argument i args
value_held fs i [] more = rw (no_less i) refl
value_held fs zero (x ∷ args) more = rw (first_less (length args)) refl
value_held fs (suc i) (x ∷ args) more = rw (next_less i (length args)) (next_held fs i x (args ++ more) (nat_lt i (length args)) ∙ value_held fs i args more)

-- the value of an argument's handle
pub argument_held : (fs : Native → ℕ) (i : ℕ) (this : Value) (args more : List Value) → value_in fs (this ∷ (args ++ more)) (rows.argument i (suc (length args))) ≡ argument i args
argument_held fs i this args more =
    let e : i + 1 ≡ suc i = omega arith in
    rw (e, next_less i (length args)) (next_held fs i this (args ++ more) (nat_lt i (length args)) ∙ value_held fs i args more)

-- a handle stands for a value, also when more is seen
abbrev pub Stands : List Value → Handle → Value → Type 0
Stands vs x z = (more : List Value) → value_in place_of (vs ++ more) x ≡ z

-- nothing more is seen
pub handle_now : (vs : List Value) (x : Handle) (z : Value) → Stands vs x z → value_in place_of vs x ≡ z
handle_now vs x z stands = subst (λ l. value_in place_of l x ≡ z) (append-nil vs) (stands [])

-- what a row comes to with these values in hand, whatever else was seen
abbrev pub Leaves : ℕ → List Value → Objects → Row → Done → Type 0
Leaves by vs h row d = (more : List Value) → (does place_of by row (vs ++ more) h empty_page []).done ≡ d

pub now : (by : ℕ) (vs : List Value) (h : Objects) (row : Row) (d : Done) → Leaves by vs h row d → (does place_of by row vs h empty_page []).done ≡ d
now by vs h row d leaves = subst (λ l. (does place_of by row l h empty_page []).done ≡ d) (append-nil vs) (leaves [])

pub leaves_behind : (by : ℕ) (vs : List Value) (h : Objects) (row : Row) (d : Done) → Leaves by vs h row d → (more extra : List Value) → (does place_of by row ((vs ++ more) ++ extra) h empty_page []).done ≡ d
leaves_behind by vs h row d leaves more extra = subst (λ l. (does place_of by row l h empty_page []).done ≡ d) (sym (append_assoc vs more extra)) (leaves (more ++ extra))

-- what is seen of a function: one of a sort, or a stranger
pub function_sight : (P : Sight → Type 0) → ((q : Sort) → P (r.a_function q)) → P (r.a_stranger true) → (simple : Bool) (c : Option Callable) → P (sort_seen simple c)
function_sight P some other simple None = other
function_sight P some other simple (Some c) =
    elim c.kind as (λ q. let d : Callable = record { kind = q; maker = c.maker } in P (sort_seen simple (Some d))) [
      | kind.Code n ↦ elim simple as (λ b. let d : Callable = record { kind = kind.Code n; maker = c.maker } in P (sort_seen b (Some d))) [
        | true ↦ some r.closure
        | false ↦ other
      ]
      | kind.Simple n ↦ some r.simple
      | kind.Constructor n ↦ some _
      | kind.Exophoric n w ↦ some _
    ]

-- what is seen of an object is neither nothing nor a text
abbrev IsOfObject : Sight → Type 0
IsOfObject r.nothing = ⊥
IsOfObject (r.a_text us) = ⊥
IsOfObject s = Unit {0}

object_seen : (n : ℕ) (h : Objects) (o : ℕ) (c : Class) → IsOfObject (see_object n h o c).sight
object_seen n h o class.Object = tt
object_seen n h o class.Array = tt
object_seen n h o class.Function = function_sight IsOfObject (λ q. tt) tt (is_some (own h o simple_mark)) (callable_of (object_at h o))
object_seen n h o class.Error = tt
object_seen n h o class.Node = tt

unless_object : (default go : Row) (s : Sight) → IsOfObject s → unless_undefined default go s ≡ go
unless_object default go r.nothing is = absurd is
unless_object default go s is = refl

no_text : (go : List ℕ → Row) (s : Sight) → IsOfObject s → text_seen go s ≡ ends (r.throws (codes "bad receiver"))
no_text go (r.a_text us) is = absurd is
no_text go s is = refl

-- a row that does one thing at an undefined value and another at others, by the value

at_value : (by : ℕ) (vs more : List Value) (h : Objects) (default go : Row) (d e : Done) (n : ℕ) (x : Value) → Leaves by vs h default d → Leaves by vs h go e → (f : Done) → (x ≡ v.Undefined → f ≡ d) → ((x ≡ v.Undefined → ⊥) → f ≡ e)
    → (does place_of by (unless_undefined default go (see h n x).sight) ((vs ++ more) ++ (see h n x).values) h empty_page []).done ≡ f
at_value by vs more h default go d e n v.Undefined one other f at_none at_some = leaves_behind by vs h default d one more [] ∙ sym (at_none refl)
at_value by vs more h default go d e n v.Null one other f at_none at_some = leaves_behind by vs h go e other more [] ∙ sym (at_some (λ q. cc))
at_value by vs more h default go d e n (v.Bool b) one other f at_none at_some = leaves_behind by vs h go e other more [] ∙ sym (at_some (λ q. cc))
at_value by vs more h default go d e n (v.Num i) one other f at_none at_some = leaves_behind by vs h go e other more [] ∙ sym (at_some (λ q. cc))
at_value by vs more h default go d e n (v.Text us) one other f at_none at_some = leaves_behind by vs h go e other more [] ∙ sym (at_some (λ q. cc))
at_value by vs more h default go d e n (v.Obj o) one other f at_none at_some =
    let seen = see_object n h o (class_of (object_at h o)) in
    rw (unless_object default go seen.sight (object_seen n h o (class_of (object_at h o)))) (leaves_behind by vs h go e other more seen.values ∙ sym (at_some (λ q. cc)))

unless_leaves : (by : ℕ) (vs : List Value) (h : Objects) (x : Handle) (z : Value) (default go : Row) (d e f : Done) → Stands vs x z → Leaves by vs h default d → Leaves by vs h go e → (z ≡ v.Undefined → f ≡ d) → ((z ≡ v.Undefined → ⊥) → f ≡ e)
    → Leaves by vs h (looks x (unless_undefined default go)) f
unless_leaves by vs h x z default go d e f stands one other at_none at_some = λ more.
    let n = length (vs ++ more) in
    subst (λ w. (does place_of by (unless_undefined default go (see h n w).sight) ((vs ++ more) ++ (see h n w).values) h empty_page []).done ≡ f) (sym (stands more))
    (at_value by vs more h default go d e n z one other f at_none at_some)

-- a conversion, and then the rest

pub number_after : (by : ℕ) (vs : List Value) (h : Objects) (go : ℤ → Row) (answer : ℤ → Done) (n : Result ℤ Fault) → ((i : ℤ) → (does place_of by (go i) vs h empty_page []).done ≡ answer i)
    → (with_result n h empty_page [] (λ i. does place_of by (go i) vs h empty_page [])).done ≡ after n h answer
number_after by vs h go answer (Ok i) leaves = leaves i
number_after by vs h go answer (Err f) leaves = refl

pub text_after : (by : ℕ) (vs : List Value) (h : Objects) (go : List ℕ → Row) (answer : List ℕ → Done) (t : Result (List ℕ) Fault) → ((us : List ℕ) → (does place_of by (go us) vs h empty_page []).done ≡ answer us)
    → (with_result t h empty_page [] (λ us. does place_of by (go us) vs h empty_page [])).done ≡ after t h answer
text_after by vs h go answer (Ok us) leaves = leaves us
text_after by vs h go answer (Err f) leaves = refl

number_leaves : (by : ℕ) (vs : List Value) (h : Objects) (x : Handle) (z : Value) (go : ℤ → Row) (answer : ℤ → Done) → Stands vs x z → ((n : ℤ) → Leaves by vs h (go n) (answer n))
    → Leaves by vs h (as_number x go) (after (number_of h z) h answer)
number_leaves by vs h x z go answer stands leaves = λ more. rw (stands more) (number_after by (vs ++ more) h go answer (number_of h z) (λ n. leaves n more))

pub text_leaves : (by : ℕ) (vs : List Value) (h : Objects) (x : Handle) (z : Value) (go : List ℕ → Row) (answer : List ℕ → Done) → Stands vs x z → ((us : List ℕ) → Leaves by vs h (go us) (answer us))
    → Leaves by vs h (as_text x go) (after (text_of h z) h answer)
text_leaves by vs h x z go answer stands leaves = λ more. rw (stands more) (text_after by (vs ++ more) h go answer (text_of h z) (λ us. leaves us more))

number_at_some : (default : ℤ) (x : Value) (h : Objects) → (x ≡ v.Undefined → ⊥) → number_argument default x h ≡ number_of h x
number_at_some default v.Undefined h some = absurd (some refl)
number_at_some default x h some = refl

pub number_or_leaves : (by : ℕ) (vs : List Value) (h : Objects) (default : ℤ) (x : Handle) (z : Value) (go : ℤ → Row) (answer : ℤ → Done) → Stands vs x z → ((n : ℤ) → Leaves by vs h (go n) (answer n))
    → Leaves by vs h (number_or default x go) (after (number_argument default z h) h answer)
number_or_leaves by vs h default x z go answer stands leaves =
    unless_leaves by vs h x z (go default) (as_number x go) (answer default) (after (number_of h z) h answer) (after (number_argument default z h) h answer) stands
    (leaves default) (number_leaves by vs h x z go answer stands leaves)
    (λ none. rw none refl) (λ some. rw (number_at_some default z h some) refl)

text_at_some : (default : List ℕ) (x : Value) (h : Objects) → (x ≡ v.Undefined → ⊥) → text_argument default x h ≡ text_of h x
text_at_some default v.Undefined h some = absurd (some refl)
text_at_some default x h some = refl

pub text_or_leaves : (by : ℕ) (vs : List Value) (h : Objects) (default : List ℕ) (x : Handle) (z : Value) (go : List ℕ → Row) (answer : List ℕ → Done) → Stands vs x z → ((us : List ℕ) → Leaves by vs h (go us) (answer us))
    → Leaves by vs h (text_or default x go) (after (text_argument default z h) h answer)
text_or_leaves by vs h default x z go answer stands leaves =
    unless_leaves by vs h x z (go default) (as_text x go) (answer default) (after (text_of h z) h answer) (after (text_argument default z h) h answer) stands
    (leaves default) (text_leaves by vs h x z go answer stands leaves)
    (λ none. rw none refl) (λ some. rw (text_at_some default z h some) refl)

-- the same where the answer is a value or a fault, with the receiver and the arguments in hand

abbrev pub Yields : ℕ → Value → List Value → Objects → Row → Done → Type 0
Yields by this args h row d = Leaves by (this ∷ args) h row d

pub told_after : {A : Type 0} (r : Result A Fault) (h : Objects) (answer : A → Result Value Fault) → after r h (λ x. told (answer x) h) ≡ told (and_then r answer) h
told_after (Ok x) h answer = refl
told_after (Err f) h answer = refl

pub as_text_yields : (by : ℕ) (this : Value) (args : List Value) (h : Objects) (i : ℕ) (go : List ℕ → Row) (answer : List ℕ → Result Value Fault) → ((us : List ℕ) → Yields by this args h (go us) (told (answer us) h))
    → Yields by this args h (as_text (rows.argument i (suc (length args))) go) (told (and_then (text_of h (argument i args)) answer) h)
as_text_yields by this args h i go answer yields = λ more.
    text_leaves by (this ∷ args) h (rows.argument i (suc (length args))) (argument i args) go (λ us. told (answer us) h) (argument_held place_of i this args) yields more
    ∙ told_after (text_of h (argument i args)) h answer

pub as_number_yields : (by : ℕ) (this : Value) (args : List Value) (h : Objects) (i : ℕ) (go : ℤ → Row) (answer : ℤ → Result Value Fault) → ((n : ℤ) → Yields by this args h (go n) (told (answer n) h))
    → Yields by this args h (as_number (rows.argument i (suc (length args))) go) (told (and_then (number_of h (argument i args)) answer) h)
as_number_yields by this args h i go answer yields = λ more.
    number_leaves by (this ∷ args) h (rows.argument i (suc (length args))) (argument i args) go (λ n. told (answer n) h) (argument_held place_of i this args) yields more
    ∙ told_after (number_of h (argument i args)) h answer

pub unless_yields : (by : ℕ) (this : Value) (args : List Value) (h : Objects) (i : ℕ) (default go : Row) (d e f : Done) → Yields by this args h default d → Yields by this args h go e → (argument i args ≡ v.Undefined → f ≡ d) → ((argument i args ≡ v.Undefined → ⊥) → f ≡ e)
    → Yields by this args h (looks (rows.argument i (suc (length args))) (unless_undefined default go)) f
unless_yields by this args h i default go d e f one other at_none at_some =
    unless_leaves by (this ∷ args) h (rows.argument i (suc (length args))) (argument i args) default go d e f (argument_held place_of i this args) one other at_none at_some

pub number_or_yields : (by : ℕ) (this : Value) (args : List Value) (h : Objects) (default : ℤ) (i : ℕ) (go : ℤ → Row) (answer : ℤ → Result Value Fault) → ((n : ℤ) → Yields by this args h (go n) (told (answer n) h))
    → Yields by this args h (number_or default (rows.argument i (suc (length args))) go) (told (and_then (number_argument default (argument i args) h) answer) h)
number_or_yields by this args h default i go answer yields = λ more.
    number_or_leaves by (this ∷ args) h default (rows.argument i (suc (length args))) (argument i args) go (λ n. told (answer n) h) (argument_held place_of i this args) yields more
    ∙ told_after (number_argument default (argument i args) h) h answer

-- a method of texts
pub on_text_does : (by : ℕ) (this : Value) (args : List Value) (h : Objects) (go : List ℕ → Row) (done : List ℕ → Done) → ((us : List ℕ) → Yields by this args h (go us) (done us))
    → (does place_of by (on_text go) (this ∷ args) h empty_page []).done ≡ at_text this by h done
on_text_does by v.Undefined args h go done yields = refl
on_text_does by v.Null args h go done yields = refl
on_text_does by (v.Bool b) args h go done yields = refl
on_text_does by (v.Num n) args h go done yields = refl
on_text_does by (v.Text us) args h go done yields = yields us []
on_text_does by (v.Obj o) args h go done yields =
    let seen = see_object (length (v.Obj o ∷ args)) h o (class_of (object_at h o)) in
    subst (λ row. (does place_of by row (v.Obj o ∷ (args ++ seen.values)) h empty_page []).done ≡ throws (codes "bad receiver") by h) (sym (no_text go seen.sight (object_seen (length (v.Obj o ∷ args)) h o (class_of (object_at h o))))) refl

pub on_text_is : (by : ℕ) (this : Value) (args : List Value) (h : Objects) (go : List ℕ → Row) (answer : List ℕ → Result Value Fault) → ((us : List ℕ) → Yields by this args h (go us) (told (answer us) h))
    → (does place_of by (on_text go) (this ∷ args) h empty_page []).done ≡ text_method this by h answer
on_text_is by this args h go answer yields = on_text_does by this args h go (λ us. told (answer us) h) yields
