-- The forms that the lowering writes of expressions, each spelled where its parts are.
use Rattle.std.proofs.Common.{ℕ, ◌+◌, ◌<◌, Bool, true, false, [], ◌∷◌, nat_eq, Some, refl, arith, lit<}
use Rattle.std.specs.Prelude.{codes, pos, if◌then◌else◌}
use Rattle.std.proofs.lemmas.List.Elements.{All-nil}
use Rattle.es3_tree.specs.Tree as t
use Rattle.es3_tree.specs.Placed as p
use Rattle.es3_tree.specs.Placed.{Placed, Word}
use Rattle.es3_tree.specs.Token.{name, text, words}
use Rattle.es3_tree.specs.declared.UnOp.TheVariants.{Void, Typeof, Plus}
use Rattle.es3_tree.specs.declared.BinOp.{BinOp}
use Rattle.es3_tree.specs.declared.BinOp.TheVariants.{Add, Sub, InObject, InstanceOf}
use Rattle.es3_tokens.specs.Back.{IsToken}
use Rattle.es3_tokens.proofs.Classes.{no_place}
use Rattle.es3_grammar.specs.Levels.{an_assign}
use Rattle.es3_grammar.specs.Grammar.{free}
use Rattle.es3_printed.proofs.Quiet.{decimal_parts}
use Rattle.caja_units.specs.Index.{number_units}
use Rattle.cajita_names.specs.Scope.{Scope, is_arguments, is_within}
use Rattle.valija_forms.specs.Forms.{word, receiver_name, temporary, kept, keeps, number, list1, list2, ask, outer, set_outer, get, set, call_member, call_value, construct, as_key, as_number, one_by, key_now, stepped_before, stepped_behind, compounded, holds, holds_key}
use Rattle.valija_parts.specs.Names.{is_known, receiver, own_arguments, read_name, write_name, type_of_name, op_of_name, stepped_name}
use Rattle.valija_parts.specs.Lower.{lowered_binary}
use Rattle.valija_spelled.proofs.Pieces.{Ex, Spelt, fewer, a_num, a_text, a_name, listed, one_listed, an_array, asked_one, asked_two, asked_three, a_member, an_index, a_call, a_unary, a_step, Sign, a_join, a_binary, a_both, an_assigned}

-- ---- words that the lowering writes: a temporary is a name, and none of the reserved words begins with `$`

pub temporary_token : (n : ℕ) → IsToken (name (temporary n))
temporary_token n = ((decimal_parts n).parts, no_place (nat_eq 36) 0 36 (118 ∷ number_units n) words refl refl)

pub a_kept : (n : ℕ) → Ex (kept n) 1
a_kept n = a_name (temporary n) (temporary_token n)

pub is_kept : (n : ℕ) {e : Placed t.expr} {m : ℕ} → Ex e m → Ex (keeps n e) (m + 6)
is_kept n q = fewer (an_assigned refl (a_kept n) q) (omega arith)

a_count : (n : ℕ) → n < 9007199254740992 → Ex (number n) 1
a_count n lt = a_num (pos n) (n, refl, lt)

pub nought : Ex (number 0) 1
nought = a_count 0 (lit< tt)

unit : Ex (number 1) 1
unit = a_count 1 (lit< tt)

-- ---- calls of the prelude's functions

pub an_outer : (x : Word) → IsToken (text x.text) → Ex (outer x) 8
an_outer x i = asked_one (codes "ro") (refl, refl) (a_text x.text i)

pub outer_set : (x : Word) {v : Placed t.expr} {m : ℕ} → IsToken (text x.text) → Ex v m → Ex (set_outer x v) (m + 11)
outer_set x i q = fewer (asked_two (codes "so") (refl, refl) (a_text x.text i) q) (omega arith)

pub is_got : {e k : Placed t.expr} {m n : ℕ} → Ex e m → Ex k n → Ex (get e k) (m + n + 10)
is_got q r = asked_two (codes "r") (refl, refl) q r

pub is_set : {e k v : Placed t.expr} {m n o : ℕ} → Ex e m → Ex k n → Ex v o → Ex (set e k v) (m + n + o + 13)
is_set q r s = asked_three (codes "s") (refl, refl) q r s

pub member_called : {e k : Placed t.expr} {es : Placed t.exprs} {m n o : ℕ} → Ex e m → Ex k n → Spelt t.exprs free 0 es o → Ex (call_member e k es) (m + n + o + 15)
member_called q r s = fewer (asked_three (codes "cm") (refl, refl) q r (an_array s)) (omega arith)

pub value_called : {e : Placed t.expr} {es : Placed t.exprs} {m n : ℕ} → Ex e m → Spelt t.exprs free 0 es n → Ex (call_value e es) (m + n + 12)
value_called q s = fewer (asked_two (codes "cf") (refl, refl) q (an_array s)) (omega arith)

pub constructed : {e : Placed t.expr} {es : Placed t.exprs} {m n : ℕ} → Ex e m → Spelt t.exprs free 0 es n → Ex (construct e es) (m + n + 12)
constructed q s = fewer (asked_two (codes "n") (refl, refl) q (an_array s)) (omega arith)

pub is_deleted : {e k : Placed t.expr} {m n : ℕ} → Ex e m → Ex k n → Ex (ask (codes "d") (list2 e k)) (m + n + 10)
is_deleted q r = asked_two (codes "d") (refl, refl) q r

pub has_key : {e k : Placed t.expr} {m n : ℕ} → Ex e m → Ex k n → Ex (ask (codes "h") (list2 e k)) (m + n + 10)
has_key q r = asked_two (codes "h") (refl, refl) q r

pub keys_of : {e : Placed t.expr} {m : ℕ} → Ex e m → Ex (ask (codes "ks") (list1 e)) (m + 7)
keys_of q = asked_one (codes "ks") (refl, refl) q

pub a_lowered_binary : (op : BinOp) {a b : Placed t.expr} {m n : ℕ} → Ex a m → Ex b n → Ex (lowered_binary op a b) (m + n + 10)
a_lowered_binary InObject q r = has_key q r
a_lowered_binary InstanceOf q r = asked_two (codes "io") (refl, refl) q r
a_lowered_binary op q r = fewer (a_binary op q r) (omega arith)

-- ---- keys and numbers

as_a_key : {k : Placed t.expr} {m : ℕ} → Ex k m → Ex (as_key k) (m + 6)
as_a_key q = fewer (a_binary Add (a_text [] (All-nil (λ u. u < 65536))) q) (omega arith)

as_a_number : {e : Placed t.expr} {m : ℕ} → Ex e m → Ex (as_number e) (m + 3)
as_a_number q = a_unary Plus q

by_one : (up : Bool) {e : Placed t.expr} {m : ℕ} → Ex e m → Ex (one_by up e) (m + 6)
by_one up q = fewer (a_binary (if up then Add else Sub) q unit) (omega arith)

pub key_at : (a : ℕ) → Ex (key_now a) 6
key_at a = an_index (a_kept (a + 1)) (a_kept (a + 2))

-- ---- members that are read and written in one form

pub is_held : (a : ℕ) {o : Placed t.expr} {m : ℕ} → Ex o m → Ex (holds a o) (m + 6)
is_held a q = is_kept a q

pub key_held : (a b : ℕ) {o k : Placed t.expr} {m n : ℕ} → Ex o m → Ex k n → Ex (holds_key a b o k) (m + n + 23)
key_held a b q r = fewer (a_both (is_kept a q) (is_kept b (as_a_key r))) (omega arith)

pub is_stepped_before : (up : Bool) {h o k : Placed t.expr} {m : ℕ} → Ex h m → Ex o 1 → Ex k 1 → Ex (stepped_before up h o k) (m + 41)
is_stepped_before up q o k = fewer (a_both q (is_set o k (by_one up (as_a_number (is_got o k))))) (omega arith)

pub is_stepped_behind : (up : Bool) (c : ℕ) {h o k : Placed t.expr} {m : ℕ} → Ex h m → Ex o 1 → Ex k 1 → Ex (stepped_behind up c h o k) (m + 59)
is_stepped_behind up c q o k = fewer (a_both (a_both (a_both q (is_kept c (as_a_number (is_got o k)))) (is_set o k (by_one up (a_kept c)))) (a_kept c)) (omega arith)

pub is_compounded : (op : BinOp) {h o k x : Placed t.expr} {m n : ℕ} → Ex h m → Ex o 1 → Ex k 1 → Ex x n → Ex (compounded op h o k x) (m + n + 37)
is_compounded op q o k x = fewer (a_both q (is_set o k (a_binary op (is_got o k) x))) (omega arith)

-- ---- names

either : (b : Bool) {x y : Placed t.expr} {m : ℕ} → Ex x m → Ex y m → Ex (if b then x else y) m
either true q r = q
either false q r = r

pub is_receiver : (s : Scope) → Ex (receiver s) 4
is_receiver s = either (is_within s) (fewer (a_name receiver_name (refl, refl)) (omega arith)) (a_unary Void nought)

-- what is known of a name in the source: it is a name, and a text
pub record AName (x : Word) : Type 0 where
  pub named : IsToken (name x.text)
  pub written : IsToken (text x.text)

known : {x : Word} → AName x → Ex (p.name (word x.text)) 1
known {x} i = a_name x.text i.named

own : {x : Word} → AName x → Ex (own_arguments x) 12
own i = a_call (a_member (codes "slice") (refl, refl) (known i)) (listed (one_listed unit))

pub is_read : (s : Scope) (x : Word) → AName x → Ex (read_name s x) 12
is_read s x i = either (is_arguments x.text) (own i) (either (is_known s x) (fewer (known i) (omega arith)) (fewer (an_outer x i.written) (omega arith)))

pub is_written : (s : Scope) (x : Word) {v : Placed t.expr} {m : ℕ} → AName x → Ex v m → Ex (write_name s x v) (m + 11)
is_written s x i q = either (is_known s x) (fewer (an_assigned refl (known i) q) (omega arith)) (outer_set x i.written q)

pub type_asked : (s : Scope) (x : Word) → AName x → Ex (type_of_name s x) 15
type_asked s x i =
    either (is_arguments x.text) (a_unary Typeof (own i))
    (either (is_known s x) (fewer (a_unary Typeof (known i)) (omega arith)) (fewer (asked_one (codes "to") (refl, refl) (a_text x.text i.written)) (omega arith)))

pub is_operated : (s : Scope) (op : BinOp) (x : Word) {v : Placed t.expr} {m : ℕ} → Sign (an_assign (Some op)) → AName x → Ex v m → Ex (op_of_name s op x v) (m + 24)
is_operated s op x sign i q =
    either (is_known s x) (fewer (a_join sign refl (known i) q) (omega arith)) (fewer (outer_set x i.written (a_binary op (an_outer x i.written) q)) (omega arith))

pub is_stepped : (s : Scope) (up first : Bool) (a : ℕ) (x : Word) → AName x → Ex (stepped_name s up first a x) 46
is_stepped s up first a x i =
    either (is_known s x) (fewer (a_step up first refl (known i)) (omega arith))
    (either first (fewer (outer_set x i.written (by_one up (as_a_number (an_outer x i.written)))) (omega arith))
    (fewer (a_both (a_both (is_kept a (as_a_number (an_outer x i.written))) (outer_set x i.written (by_one up (a_kept a)))) (a_kept a)) (omega arith)))
