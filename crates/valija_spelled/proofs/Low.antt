-- What a part of a program is lowered to, where so many temporaries are taken: by how many tokens it is spelled. Each temporary, and each name that the part declares,
-- is counted as four tokens, since a `var` at the head of the function has it.
use Rattle.std.proofs.Common.{ℕ, ◌+◌, ◌*◌, ◌≤◌, arith}
use Rattle.es3_tree.specs.Tree as t
use Rattle.es3_tree.specs.Placed.{Placed}
use Rattle.es3_grammar.specs.Grammar.{Bars, free}
use Rattle.cajita_names.specs.Scope.{Scope}
use Rattle.valija_forms.specs.Numbered.{Numbered, plain, one, both, three, four, taking}
use Rattle.valija_parts.specs.Lower.{lowered}
use Rattle.valija_spelled.proofs.Pieces.{Spelt}

-- of d names that the part declares, from n temporaries on
pub record Low (s : t.Sort) (b : Bars) (l d n : ℕ) (r : Placed s × ℕ) (most : ℕ) : Type 0 where
  pub count : ℕ
  pub spelt : Spelt s b l r.0 count
  pub few : count + 4 * r.1 + 4 * d ≤ 4 * n + most

pub record Lows (s : t.Sort) (b : Bars) (l d : ℕ) (a : Numbered (Placed s)) (most : ℕ) : Type 0 where
  pub low : (n : ℕ) → Low s b l d n (a n) most

pub recount : {s : t.Sort} {b : Bars} {l d e m k : ℕ} {a : Numbered (Placed s)} → Lows s b l d a m → e ≤ d → m ≤ k → Lows s b l e a k
recount p le more = record { low = λ n. let q = p.low n in record { count = q.count; spelt = q.spelt; few = omega (arith, q.few, le, more) } }

pub plain_low : {s : t.Sort} {b : Bars} {l m : ℕ} {x : Placed s} → Spelt s b l x m → Lows s b l 0 (plain x) m
plain_low {m = m} p = record { low = λ n. record { count = m; spelt = p; few = omega arith } }

pub one_low : {s v : t.Sort} {b i : Bars} {l j d m : ℕ} {f : Placed s → Placed v} {a : Numbered (Placed s)} (c : ℕ)
    → ((x : Placed s) (k : ℕ) → Spelt s b l x k → Spelt v i j (f x) (k + c)) → Lows s b l d a m → Lows v i j d (one f a) (m + c)
unfolding one
one_low {a = a} c g p = record { low = λ n. let q = p.low n in record { count = q.count + c; spelt = g (a n).0 q.count q.spelt; few = omega (arith, q.few) } }

pub both_low : {s u v : t.Sort} {b h i : Bars} {l o j d e m k : ℕ} {f : Placed s → Placed u → Placed v} {a : Numbered (Placed s)} {z : Numbered (Placed u)} (c : ℕ)
    → ((x : Placed s) (y : Placed u) (k q : ℕ) → Spelt s b l x k → Spelt u h o y q → Spelt v i j (f x y) (k + q + c))
    → Lows s b l d a m → Lows u h o e z k → Lows v i j (d + e) (both f a z) (m + k + c)
unfolding both
both_low {a = a} {z = z} c g p q = record {
  low = λ n.
      let x = p.low n in
      let y = q.low (a n).1 in
      record { count = x.count + y.count + c; spelt = g (a n).0 (z (a n).1).0 x.count y.count x.spelt y.spelt; few = omega (arith, x.few, y.few) };
}

pub three_low : {s u w v : t.Sort} {b h r i : Bars} {l o y j d e f m k q : ℕ} {g : Placed s → Placed u → Placed w → Placed v} {a : Numbered (Placed s)} {z : Numbered (Placed u)} {x : Numbered (Placed w)} (c : ℕ)
    → ((a : Placed s) (z : Placed u) (x : Placed w) (k q n : ℕ) → Spelt s b l a k → Spelt u h o z q → Spelt w r y x n → Spelt v i j (g a z x) (k + q + n + c))
    → Lows s b l d a m → Lows u h o e z k → Lows w r y f x q → Lows v i j (d + e + f) (three g a z x) (m + k + q + c)
unfolding three
three_low {a = a} {z = z} {x = x} c g p q r = record {
  low = λ n.
      let i = p.low n in
      let j = q.low (a n).1 in
      let o = r.low (z (a n).1).1 in
      record {
        count = i.count + j.count + o.count + c;
        spelt = g (a n).0 (z (a n).1).0 (x (z (a n).1).1).0 i.count j.count o.count i.spelt j.spelt o.spelt;
        few = omega (arith, i.few, j.few, o.few);
      };
}

pub four_low : {s u w q v : t.Sort} {b h r i k : Bars} {l o y j e d1 d2 d3 d4 m1 m2 m3 m4 : ℕ} {g : Placed s → Placed u → Placed w → Placed q → Placed v}
    {a : Numbered (Placed s)} {z : Numbered (Placed u)} {x : Numbered (Placed w)} {f : Numbered (Placed q)} (c : ℕ)
    → ((a : Placed s) (z : Placed u) (x : Placed w) (f : Placed q) (k1 k2 k3 k4 : ℕ) → Spelt s b l a k1 → Spelt u h o z k2 → Spelt w r y x k3 → Spelt q k j f k4 → Spelt v i e (g a z x f) (k1 + k2 + k3 + k4 + c))
    → Lows s b l d1 a m1 → Lows u h o d2 z m2 → Lows w r y d3 x m3 → Lows q k j d4 f m4 → Lows v i e (d1 + d2 + d3 + d4) (four g a z x f) (m1 + m2 + m3 + m4 + c)
unfolding four
four_low {a = a} {z = z} {x = x} {f = f} c g p1 p2 p3 p4 = record {
  low = λ n.
      let i1 = p1.low n in
      let i2 = p2.low (a n).1 in
      let i3 = p3.low (z (a n).1).1 in
      let i4 = p4.low (x (z (a n).1).1).1 in
      record {
        count = i1.count + i2.count + i3.count + i4.count + c;
        spelt = g (a n).0 (z (a n).1).0 (x (z (a n).1).1).0 (f (x (z (a n).1).1).1).0 i1.count i2.count i3.count i4.count i1.spelt i2.spelt i3.spelt i4.spelt;
        few = omega (arith, i1.few, i2.few, i3.few, i4.few);
      };
}

-- a form that takes temporaries before its parts take theirs
pub taking_low : {s : t.Sort} {b : Bars} {l d m : ℕ} (count : ℕ) (f : ℕ → Numbered (Placed s)) → ((i : ℕ) → Lows s b l d (f i) m) → Lows s b l d (taking count f) (m + 4 * count)
taking_low count f g = record { low = λ n. let p = g n in let q = p.low (n + count) in record { count = q.count; spelt = q.spelt; few = omega (arith, q.few) } }

-- ---- expressions, which declare nothing

abbrev pub Exp : Placed t.expr → ℕ → Type 0
Exp x m = (c : Scope) → Lows t.expr free 0 0 (lowered c t.expr x) m

abbrev pub Exprs : ℕ → Placed t.exprs → ℕ → Type 0
Exprs l x m = (c : Scope) → Lows t.exprs free l 0 (lowered c t.exprs x) m

abbrev pub Fields : ℕ → Placed t.fields → ℕ → Type 0
Fields l x m = (c : Scope) → Lows t.fields free l 0 (lowered c t.fields x) m

abbrev pub Maybe : Bars → ℕ → Placed t.maybe_expr → ℕ → Type 0
Maybe b l x m = (c : Scope) → Lows t.maybe_expr b l 0 (lowered c t.maybe_expr x) m
