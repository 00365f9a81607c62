-- Each form of an expression, but for those that are written to: how what it is lowered to is spelled where its parts are.
use Rattle.std.proofs.Common.{◌≡◌, ℕ, ℤ, ◌+◌, ◌≤◌, Bool, true, false, List, refl, sym, subst, arith}
use Rattle.es3_tree.specs.Tree as t
use Rattle.es3_tree.specs.Placed as p
use Rattle.es3_tree.specs.Placed.{Placed, Word}
use Rattle.es3_tree.specs.Token.{num, text}
use Rattle.es3_tree.specs.declared.UnOp.{UnOp}
use Rattle.es3_tree.specs.declared.UnOp.TheVariants.{Delete, Typeof}
use Rattle.es3_tokens.specs.Back.{IsToken}
use Rattle.es3_grammar.specs.Grammar.{Bars, free}
use Rattle.cajita_names.specs.Scope.{Scope}
use Rattle.valija_forms.specs.Numbered.{Numbered, one, both}
use Rattle.valija_forms.specs.Forms.{word, call_value}
use Rattle.valija_parts.specs.Lower.{lowered}
use Rattle.valija_spelled.proofs.Pieces.{fewer, a_null, a_bool, a_num, a_text, none_listed, listed, an_array, an_object, one_listed, more_listed, one_field, more_fields, no_fields, fields_listed, a_unary, a_choice}
use Rattle.valija_spelled.proofs.Asks.{AName, is_receiver, is_read, is_got, is_deleted, member_called, value_called, constructed, type_asked}
use Rattle.valija_spelled.proofs.Lines.{no_value, a_value, no_expr, some_expr}
use Rattle.valija_spelled.proofs.Low.{Lows, recount, plain_low, one_low, both_low, three_low, Exp, Exprs, Fields, Maybe}

-- more tokens are allowed
pub roomy : {s : t.Sort} {b : Bars} {l d m k : ℕ} {a : Numbered (Placed s)} → Lows s b l d a m → m ≤ k → Lows s b l d a k
roomy q more = recount q (omega arith) more

-- ---- by its shape: what is a name, or a member of a part that was lowered

pub record AsDot (e : Placed t.expr) (k : Word) (m : ℕ) : Type 0 where
  pub own : ℕ
  pub object : Exp e own
  pub key : IsToken (text k.text)
  pub room : own + 128 ≤ m

pub record AsIndex (e f : Placed t.expr) (m : ℕ) : Type 0 where
  pub first : ℕ
  pub second : ℕ
  pub object : Exp e first
  pub key : Exp f second
  pub room : first + second + 128 ≤ m

abbrev pub Place : Placed t.expr → ℕ → Type 0
Place (p.name x) m = AName x
Place (p.dot e k) m = AsDot e k m
Place (p.index e f) m = AsIndex e f m
Place x m = Unit {0}

pub record Whole (x : Placed t.expr) (m : ℕ) : Type 0 where
  pub low : Exp x m
  pub place : Place x m

-- ---- forms

pub this_form : (a : ℕ) → Whole (p.this a) 48
unfolding lowered
this_form a = record { low = λ c. roomy (plain_low (is_receiver c)) (omega arith); place = tt }

pub null_form : Whole p.null 48
unfolding lowered
null_form = record { low = λ c. roomy (plain_low a_null) (omega arith); place = tt }

pub bool_form : (v : Bool) → Whole (p.bool v) 48
unfolding lowered
bool_form v = record { low = λ c. roomy (plain_low (a_bool v)) (omega arith); place = tt }

pub num_form : (n : ℤ) → IsToken (num n) → Whole (p.num n) 48
unfolding lowered
num_form n i = record { low = λ c. roomy (plain_low (a_num n i)) (omega arith); place = tt }

pub text_form : (us : List ℕ) → IsToken (text us) → Whole (p.text us) 48
unfolding lowered
text_form us i = record { low = λ c. roomy (plain_low (a_text us i)) (omega arith); place = tt }

pub name_form : (x : Word) → AName x → Whole (p.name x) 48
unfolding lowered
name_form x i = record { low = λ c. roomy (plain_low (is_read c x i)) (omega arith); place = i }

pub array_form : (es : Placed t.exprs) {m : ℕ} → Exprs 0 es m → Whole (p.array es) (m + 64)
unfolding lowered
array_form es q = record { low = λ c. one_low 64 (λ x k r. fewer (an_array r) (omega arith)) (q c); place = tt }

pub object_form : (fs : Placed t.fields) {m : ℕ} → Fields 0 fs m → Whole (p.object fs) (m + 64)
unfolding lowered
object_form fs q = record { low = λ c. one_low 64 (λ x k r. fewer (an_object r) (omega arith)) (q c); place = tt }

pub dot_form : (e : Placed t.expr) (k : Word) {m : ℕ} → IsToken (text k.text) → Whole e m → Whole (p.dot e k) (m + 128)
unfolding lowered
dot_form e k {m} i q = record {
  low = λ c. one_low 128 (λ x n r. fewer (is_got r (a_text k.text i)) (omega arith)) (q.low c);
  place = record { own = m; object = q.low; key = i; room = omega arith };
}

pub index_form : (e f : Placed t.expr) {m n : ℕ} → Whole e m → Whole f n → Whole (p.index e f) (m + n + 128)
unfolding lowered
index_form e f {m} {n} q r = record {
  low = λ c. both_low 128 (λ x y i j a b. fewer (is_got a b) (omega arith)) (q.low c) (r.low c);
  place = record { first = m; second = n; object = q.low; key = r.low; room = omega arith };
}

-- calls, of members and of others

abbrev is_member : Placed t.expr → Bool
is_member (p.dot e k) = true
is_member (p.index e k) = true
is_member e = false

lowered_call : (s : Scope) (e : Placed t.expr) (es : Placed t.exprs) → is_member e ≡ false → lowered s t.expr (p.call e es) ≡ both call_value (lowered s t.expr e) (lowered s t.exprs es)
unfolding lowered
lowered_call s (p.dot e k) es other = absurd cc
lowered_call s (p.index e k) es other = absurd cc
lowered_call s e es other = refl

other_call : (e : Placed t.expr) (es : Placed t.exprs) (m n : ℕ) → is_member e ≡ false → Exp e m → Exprs 0 es n → Exp (p.call e es) (m + n + 128)
other_call e es m n other q r c =
    subst (λ a. Lows t.expr free 0 0 a (m + n + 128)) (sym (lowered_call c e es other)) (both_low 128 (λ x y i j a b. fewer (value_called a b) (omega arith)) (q c) (r c))

pub call_form : (e : Placed t.expr) (es : Placed t.exprs) (m n : ℕ) → Whole e m → Exprs 0 es n → Exp (p.call e es) (m + n + 128)
unfolding lowered
call_form (p.dot e k) es m n q r c =
    let at = q.place in
    roomy (both_low 128 (λ x y i j a b. fewer (member_called a (a_text k.text at.key) b) (omega arith)) (at.object c) (r c)) (omega (arith, at.room))
call_form (p.index e f) es m n q r c =
    let at = q.place in
    roomy (three_low 128 (λ x y z i j o a b d. fewer (member_called a b d) (omega arith)) (at.object c) (at.key c) (r c)) (omega (arith, at.room))
call_form e es m n q r c = other_call e es m n refl q.low r c

pub new_form : (e : Placed t.expr) (es : Placed t.exprs) {m n : ℕ} → Whole e m → Exprs 0 es n → Whole (p.new e es) (m + n + 64)
unfolding lowered
new_form e es q r = record { low = λ c. both_low 64 (λ x y i j a b. fewer (constructed a b) (omega arith)) (q.low c) (r c); place = tt }

-- operators before an operand

abbrev is_plain : UnOp → Placed t.expr → Bool
is_plain Delete (p.dot e k) = false
is_plain Delete (p.index e k) = false
is_plain Typeof (p.name x) = false
is_plain op e = true

lowered_unary : (s : Scope) (op : UnOp) (e : Placed t.expr) (at : ℕ) → is_plain op e ≡ true → lowered s t.expr (p.unary op e at) ≡ one (λ x. p.unary op x 0) (lowered s t.expr e)
unfolding lowered
lowered_unary s Delete (p.dot e k) at other = absurd cc
lowered_unary s Delete (p.index e k) at other = absurd cc
lowered_unary s Typeof (p.name x) at other = absurd cc
lowered_unary s op e at other = refl

other_unary : (op : UnOp) (e : Placed t.expr) (at m : ℕ) → is_plain op e ≡ true → Exp e m → Exp (p.unary op e at) (m + 64)
other_unary op e at m other q c =
    subst (λ a. Lows t.expr free 0 0 a (m + 64)) (sym (lowered_unary c op e at other)) (one_low 64 (λ x k r. fewer (a_unary op r) (omega arith)) (q c))

pub unary_form : (op : UnOp) (e : Placed t.expr) (at m : ℕ) → Whole e m → Exp (p.unary op e at) (m + 64)
unfolding lowered
unary_form Delete (p.dot e k) at m q c =
    let place = q.place in
    roomy (one_low 64 (λ x i r. fewer (is_deleted r (a_text k.text place.key)) (omega arith)) (place.object c)) (omega (arith, place.room))
unary_form Delete (p.index e f) at m q c =
    let place = q.place in
    roomy (both_low 64 (λ x y i j a b. fewer (is_deleted a b) (omega arith)) (place.object c) (place.key c)) (omega (arith, place.room))
unary_form Typeof (p.name x) at m q c = roomy (plain_low (type_asked c x q.place)) (omega arith)
unary_form op e at m q c = other_unary op e at m refl q.low c

pub choice_form : (e f g : Placed t.expr) {m n k : ℕ} → Whole e m → Whole f n → Whole g k → Whole (p.choice e f g) (m + n + k + 128)
unfolding lowered
choice_form e f g q r s = record { low = λ c. three_low 128 (λ x y z i j o a b d. fewer (a_choice a b d) (omega arith)) (q.low c) (r.low c) (s.low c); place = tt }

-- ---- lists of expressions, fields, and what may be absent

pub no_exprs_form : Exprs 0 p.no_exprs 0
unfolding lowered
no_exprs_form c = plain_low none_listed

pub some_exprs_form : (es : Placed t.exprs) (m : ℕ) → Exprs 1 es m → Exprs 0 es m
some_exprs_form es m q c = record { low = λ n. let r = (q c).low n in record { count = r.count; spelt = listed r.spelt; few = r.few } }

pub one_expr_form : (e : Placed t.expr) (m : ℕ) → Whole e m → Exprs 1 (p.more_exprs e p.no_exprs) (m + 2)
unfolding lowered one both
one_expr_form e m q c = one_low {f = λ x. p.more_exprs x p.no_exprs} 2 (λ x k r. one_listed r) (q.low c)

pub more_exprs_form : (e : Placed t.expr) (es : Placed t.exprs) (m n : ℕ) → Whole e m → Exprs 1 es n → Exprs 1 (p.more_exprs e es) (m + n + 3)
unfolding lowered
more_exprs_form e es m n q r c = both_low 3 (λ x y i j a b. more_listed a b) (q.low c) (r c)

pub no_fields_form : Fields 0 p.no_fields 0
unfolding lowered
no_fields_form c = plain_low no_fields

pub some_fields_form : (fs : Placed t.fields) (m : ℕ) → Fields 1 fs m → Fields 0 fs m
some_fields_form fs m q c = record { low = λ n. let r = (q c).low n in record { count = r.count; spelt = fields_listed r.spelt; few = r.few } }

pub one_field_form : (k : Word) (e : Placed t.expr) (m : ℕ) → IsToken (text k.text) → Whole e m → Fields 1 (p.more_fields k e p.no_fields) (m + 4)
unfolding lowered one both
one_field_form k e m i q c = one_low {f = λ x. p.more_fields (word k.text) x p.no_fields} 4 (λ x n r. one_field k.text i r) (q.low c)

pub more_fields_form : (k : Word) (e : Placed t.expr) (fs : Placed t.fields) (m n : ℕ) → IsToken (text k.text) → Whole e m → Fields 1 fs n → Fields 1 (p.more_fields k e fs) (m + n + 5)
unfolding lowered
more_fields_form k e fs m n i q r c = both_low 5 (λ x y o j a b. more_fields k.text i a b) (q.low c) (r c)

pub no_value_form : (b : Bars) → Maybe b 1 p.no_expr 0
unfolding lowered
no_value_form b c = plain_low (no_value b)

pub value_form : (b : Bars) (e : Placed t.expr) (m : ℕ) → Whole e m → Maybe b 1 (p.some_expr e) (m + 3)
unfolding lowered
value_form b e m q c = one_low 3 (λ x k r. a_value b r) (q.low c)

pub no_expr_form : Maybe free 0 p.no_expr 0
unfolding lowered
no_expr_form c = plain_low no_expr

pub some_expr_form : (e : Placed t.expr) (m : ℕ) → Whole e m → Maybe free 0 (p.some_expr e) m
unfolding lowered
some_expr_form e m q c = recount (one_low 0 (λ x k r. fewer (some_expr r) (omega arith)) (q.low c)) (omega arith) (omega arith)
