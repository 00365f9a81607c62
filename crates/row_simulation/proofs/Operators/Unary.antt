-- Operators before a value (ES3 11.4).
use Rattle.std.proofs.Common.{◌≡◌, ℕ, Bool, true, false, List, [], ◌∷◌, Option, Some, None, Ok, refl, ap, ◌∙◌}
use Rattle.std.specs.Prelude.{ℤ, codes, is_some, not}
use Rattle.caja_num.specs.Numbers.{negated, bit_not_of}
use Rattle.es3_tree.specs.declared.UnOp.{UnOp}
use Rattle.es3_tree.specs.declared.UnOp.TheVariants as un
use Rattle.es3_objects.specs.declared.value.Value.TheVariants as es
use Rattle.es3_objects.specs.declared.value.Class.{Class}
use Rattle.es3_objects.specs.declared.value.Class.TheVariants as class
use Rattle.es3_objects.specs.declared.value.FuncKind.{FuncKind}
use Rattle.es3_objects.specs.declared.value.FuncKind.TheVariants as kind
use Rattle.es3_heap.specs.Objects.{Callable, Objects, object_at, class_of, callable_of}
use Rattle.es3_heap.specs.Properties.{own}
use Rattle.es3_convert.specs.Conversions.{and_then}
use Rattle.es3_convert.specs.Numbers.{number_of}
use Rattle.es3_convert.specs.Comparisons.{truth_of}
use Rattle.es3_language.specs.Natives.{value_reply}
use Rattle.es3_language.specs.Operators as operators
use Rattle.rows.specs.Rows as r
use Rattle.rows.specs.Rows.{Native}
use Rattle.rows.specs.Core.{seen_true}
use Rattle.rows.specs.Guards.{type_name}
use Rattle.rows.specs.Operators.{on_number}
use Rattle.heap_rows.specs.Marks.{simple_mark}
use Rattle.heap_rows.specs.Doing as es3
use Rattle.heap_rows.specs.Doing.{Told, sort_seen}
use Rattle.row_simulation.specs.OperatorLaw.{came, Comes, is_function, IsTyped, UnaryLaw}
use Rattle.row_simulation.proofs.Relation.{EsValue}
use Rattle.row_simulation.proofs.Operators.Sights.{object_seen, object_true}
use Rattle.row_simulation.proofs.Operators.Converted.{means_first, value_given, then_is, number_row}

-- 9.2: whether what is seen counts as true

text_true : (us : List ℕ) → seen_true (r.a_text us) ≡ truth_of (es.Text us)
text_true [] = refl
text_true (u ∷ us) = refl

true_seen : (h : Objects) (n : ℕ) (x : EsValue) → seen_true (es3.see h n x).sight ≡ truth_of x
true_seen h n es.Undefined = refl
true_seen h n es.Null = refl
true_seen h n (es.Bool b) = refl
true_seen h n (es.Num k) = refl
true_seen h n (es.Text us) = text_true us
true_seen h n (es.Obj o) = object_true (es3.see h n (es.Obj o)).sight (object_seen h n o)

-- 11.4.3: the name of the type of what is seen

kind_name : (simple : Bool) (c : Callable) (k : FuncKind) → c.kind ≡ k → type_name (sort_seen simple (Some c)) ≡ codes "function"
kind_name true c (kind.Code n) e = rw e refl
kind_name false c (kind.Code n) e = rw e refl
kind_name simple c (kind.Simple n) e = rw e refl
kind_name simple c (kind.Constructor n) e = rw e refl
kind_name simple c (kind.Exophoric n w) e = rw e refl

sort_name : (simple : Bool) (c : Option Callable) → type_name (sort_seen simple c) ≡ codes "function"
sort_name simple None = refl
sort_name simple (Some c) = kind_name simple c c.kind refl

class_name : (n : ℕ) (h : Objects) (o : ℕ) (c : Class) → is_some (callable_of (object_at h o)) ≡ is_function c → type_name (es3.see_object n h o c).sight ≡ operators.type_name h (es.Obj o)
class_name n h o class.Object e = rw e refl
class_name n h o class.Array e = rw e refl
class_name n h o class.Function e = rw e (sort_name (is_some (own h o simple_mark)) (callable_of (object_at h o)))
class_name n h o class.Error e = rw e refl
class_name n h o class.Node e = rw e refl

name_seen : (h : Objects) (n : ℕ) (x : EsValue) → IsTyped h x → type_name (es3.see h n x).sight ≡ operators.type_name h x
name_seen h n es.Undefined t = refl
name_seen h n es.Null t = refl
name_seen h n (es.Bool b) t = refl
name_seen h n (es.Num k) t = refl
name_seen h n (es.Text us) t = refl
name_seen h n (es.Obj o) t = class_name n h o (class_of (object_at h o)) t

pub number_comes : (f : ℤ → ℤ) (fs : Native → ℕ) (by : ℕ) (x : EsValue) (h : Objects) (g : es3.Page) (z : List Told) → Comes (operators.on_number h x f) h g z (es3.does fs by (on_number f) (x ∷ []) h g z)
number_comes f fs by x h g z =
    value_given h g z (and_then (number_of h x) (λ a. Ok (es.Num (f a)))) _
    (number_row h g z fs by (r.held 0) x (x ∷ []) (means_first x []) (λ a. r.ends (r.answers (r.number (f a)))) (λ a. came (value_reply (es.Num (f a))) h g z) (λ a. refl)
    ∙ then_is h g z (number_of h x) (λ a. Ok (es.Num (f a))) (λ v. came (value_reply v) h g z))

pub unary_comes : (op : UnOp) → UnaryLaw op
unary_comes un.Delete places by x h g z fit = refl
unary_comes un.Void places by x h g z fit = refl
unary_comes un.Typeof places by x h g z fit = ap (λ us. came (value_reply (es.Text us)) h g z) (name_seen h 1 x fit)
unary_comes un.Plus places by x h g z fit = number_comes (λ a. a) places by x h g z
unary_comes un.Minus places by x h g z fit = number_comes negated places by x h g z
unary_comes un.BitNot places by x h g z fit = number_comes bit_not_of places by x h g z
unary_comes un.Not places by x h g z fit = ap (λ b. came (value_reply (es.Bool (not b))) h g z) (true_seen h 1 x)
