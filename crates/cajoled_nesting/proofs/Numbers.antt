-- Numbers: how deep what the rewriting puts together nests.
use Rattle.std.proofs.Common.{◌≡◌, ℕ, ◌+◌, ap, ◌∙◌, arith}
use Rattle.std.specs.Prelude.{max}
use Rattle.cajoled_nesting.specs.Nesting.{guard}

pub ap2 : (f : ℕ → ℕ → ℕ) {a b d e : ℕ} → a ≡ b → d ≡ e → f a d ≡ f b e
ap2 f {b = b} {d = d} p q = ap (λ x. f x d) p ∙ ap (f b) q

pub ap3 : (f : ℕ → ℕ → ℕ → ℕ) {a b d e m n : ℕ} → a ≡ b → d ≡ e → m ≡ n → f a d m ≡ f b e n
ap3 f {b = b} {d = d} {m = m} p q r = ap (λ x. f x d m) p ∙ ap2 (f b) q r

pub ap4 : (f : ℕ → ℕ → ℕ → ℕ → ℕ) {a b d e m n x y : ℕ} → a ≡ b → d ≡ e → m ≡ n → x ≡ y → f a d m x ≡ f b e n y
ap4 f {b = b} {d = d} {m = m} {x = x} p q r s = ap (λ z. f z d m x) p ∙ ap3 (f b) q r s

pub zero_max : (n : ℕ) → max 0 n ≡ n
zero_max n = omega arith

pub max_zero : (n : ℕ) → max n 0 ≡ n
max_zero n = omega arith

pub max_assoc : (a b d : ℕ) → max a (max b d) ≡ max (max a b) d
max_assoc a b d = omega arith

-- a call of the runtime

pub single_guard : (n : ℕ) → 1 + max 2 (max n 0) ≡ guard n
single_guard n = omega arith

pub pair_guard : (a b : ℕ) → 1 + max 2 (max a (max b 0)) ≡ guard (max a b)
pair_guard a b = omega arith

pub triple_guard : (a b d : ℕ) → 1 + max 2 (max a (max b (max d 0))) ≡ guard (max a (max b d))
triple_guard a b d = omega arith

-- `x0___=e`, `x1___=___.key(f)`, and `___.setPub(x0___,k,___.readPub(x0___,k)+v)`

set_temp : (e : ℕ) → 1 + max 1 e ≡ max 2 (1 + e)
set_temp e = omega arith

set_key : (f : ℕ) → 1 + max 1 (1 + max 2 (max f 0)) ≡ max 4 (2 + f)
set_key f = omega arith

set_value : (v : ℕ) → 1 + max 2 (max 1 (max 1 (max (1 + max 3 v) 0))) ≡ max 5 (2 + v)
set_value v = omega arith

pub step_before_fixed : (e : ℕ) → 1 + max (1 + max 1 e) 6 ≡ max 7 (2 + e)
step_before_fixed e = omega arith

before_computed : (e f : ℕ) → 1 + max (1 + max (max 2 (1 + e)) (max 4 (2 + f))) 6 ≡ max 7 (max (3 + e) (4 + f))
before_computed e f = omega arith

pub step_before_computed : (e f : ℕ) → 1 + max (1 + max (1 + max 1 e) (1 + max 1 (1 + max 2 (max f 0)))) 6 ≡ max 7 (max (3 + e) (4 + f))
step_before_computed e f = ap2 (λ a b. 1 + max (1 + max a b) 6) (set_temp e) (set_key f) ∙ before_computed e f

pub step_behind_fixed : (e : ℕ) → 1 + max (1 + max (1 + max (1 + max 1 e) 5) 3) 1 ≡ max 8 (4 + e)
step_behind_fixed e = omega arith

behind_computed : (e f : ℕ) → 1 + max (1 + max (1 + max (1 + max (max 2 (1 + e)) (max 4 (2 + f))) 5) 3) 1 ≡ max 8 (max (5 + e) (6 + f))
behind_computed e f = omega arith

pub step_behind_computed : (e f : ℕ) → 1 + max (1 + max (1 + max (1 + max (1 + max 1 e) (1 + max 1 (1 + max 2 (max f 0)))) 5) 3) 1 ≡ max 8 (max (5 + e) (6 + f))
step_behind_computed e f = ap2 (λ a b. 1 + max (1 + max (1 + max (1 + max a b) 5) 3) 1) (set_temp e) (set_key f) ∙ behind_computed e f

of_fixed : (e v : ℕ) → 1 + max (max 2 (1 + e)) (max 5 (2 + v)) ≡ max 6 (max (2 + e) (3 + v))
of_fixed e v = omega arith

pub assign_fixed : (e v : ℕ) → 1 + max (1 + max 1 e) (1 + max 2 (max 1 (max 1 (max (1 + max 3 v) 0)))) ≡ max 6 (max (2 + e) (3 + v))
assign_fixed e v = ap2 (λ a b. 1 + max a b) (set_temp e) (set_value v) ∙ of_fixed e v

of_computed : (e f v : ℕ) → 1 + max (1 + max (max 2 (1 + e)) (max 4 (2 + f))) (max 5 (2 + v)) ≡ max 6 (max (3 + e) (max (4 + f) (3 + v)))
of_computed e f v = omega arith

pub assign_computed : (e f v : ℕ) → 1 + max (1 + max (1 + max 1 e) (1 + max 1 (1 + max 2 (max f 0)))) (1 + max 2 (max 1 (max 1 (max (1 + max 3 v) 0)))) ≡ max 6 (max (3 + e) (max (4 + f) (3 + v)))
assign_computed e f v = ap3 (λ a b d. 1 + max (1 + max a b) d) (set_temp e) (set_key f) (set_value v) ∙ of_computed e f v

-- the loop over keys: its first part, its statement, and what writes the key

keys_first : (e : ℕ) → 1 + max (1 + max (1 + max 1 e) 4) 2 ≡ max 6 (3 + e)
keys_first e = omega arith

keys_body : (w b : ℕ) → 1 + max (1 + max 3 (max (1 + max w (max b 0)) 0)) 0 ≡ max 5 (3 + max w b)
keys_body w b = omega arith

keys_whole : (e n : ℕ) → 1 + max (max 6 (3 + e)) (max 3 (max 2 (max 5 (3 + n)))) ≡ max 7 (max (4 + e) (4 + n))
keys_whole e n = omega arith

keys_loop : (e w b : ℕ) → 1 + max (1 + max (1 + max (1 + max 1 e) 4) 2) (max 3 (max 2 (1 + max (1 + max 3 (max (1 + max w (max b 0)) 0)) 0))) ≡ max 7 (max (4 + e) (4 + max w b))
keys_loop e w b = ap2 (λ x y. 1 + max x (max 3 (max 2 y))) (keys_first e) (keys_body w b) ∙ keys_whole e (max w b)

variable_keys : (e b : ℕ) → max 7 (max (4 + e) (4 + max 4 b)) ≡ max 8 (max (4 + e) (4 + b))
variable_keys e b = omega arith

pub keys_variable : (e b : ℕ) → 1 + max (1 + max (1 + max (1 + max 1 e) 4) 2) (max 3 (max 2 (1 + max (1 + max 3 (max (1 + max 4 (max b 0)) 0)) 0))) ≡ max 8 (max (4 + e) (4 + b))
keys_variable e b = keys_loop e 4 b ∙ variable_keys e b

member_written : (o k : ℕ) → 1 + (1 + max 2 (max o (max k 2))) ≡ max 4 (2 + max o k)
member_written o k = omega arith

member_keys : (e n b : ℕ) → max 7 (max (4 + e) (4 + max (max 4 (2 + n)) b)) ≡ max 8 (max (4 + e) (max (4 + b) (6 + n)))
member_keys e n b = omega arith

pub keys_member : (o k e b : ℕ) → 1 + max (1 + max (1 + max (1 + max 1 e) 4) 2) (max 3 (max 2 (1 + max (1 + max 3 (max (1 + max (1 + (1 + max 2 (max o (max k 2)))) (max b 0)) 0)) 0)))
    ≡ max 8 (max (4 + e) (max (4 + b) (6 + max o k)))
keys_member o k e b = ap (λ w. 1 + max (1 + max (1 + max (1 + max 1 e) 4) 2) (max 3 (max 2 (1 + max (1 + max 3 (max (1 + max w (max b 0)) 0)) 0)))) (member_written o k) ∙ keys_loop e (max 4 (2 + max o k)) b ∙ member_keys e (max o k) b

pub load_depth : (n : ℕ) → max (1 + (1 + max 2 (max (1 + (1 + n)) 0))) 0 ≡ 4 + n
load_depth n = omega arith

pub module_depth : (i b : ℕ) → max 1 (max i (max b 2)) ≡ max 2 (max i b)
module_depth i b = omega arith
