-- So deep is what stands for a resolved part of a lowered program: what follows for a form from its parts.
use Rattle.std.proofs.Common.{ℕ, ◌+◌, ◌≤◌, Bool, false, Option, Some, None, arith}
use Rattle.std.specs.Prelude.{IfSome}
use Rattle.es3_tree.specs.Tree as t
use Rattle.es3_tree.specs.Placed.{Placed}
use Rattle.cajita_tree.specs.Tree as c
use Rattle.cajita_forms.specs.Options.{one, both, three, four, from}
use Rattle.scope_rules.specs.Resolve.{of_sort, resolved}
use Rattle.cajoled_nesting.specs.Nesting.{deep}
use Rattle.valija_forms.specs.Numbered.{Numbered, plain, taking}
use Rattle.valija_forms.specs.Numbered as numbered

-- ---- resolved parts

-- what is there stands for what nests so deep at most, directly in a module or not
pub record Most (s : c.Sort) (n : ℕ) (o : Option (c.Tree s)) : Type 0 where
  pub most : (m : Bool) → IfSome o (λ y. deep m s y ≤ n)

pub form : {s : c.Sort} {n : ℕ} (y : c.Tree s) → ((m : Bool) → deep m s y ≤ n) → Most s n (Some y)
form y h = record { most = h }

pub nothing : (s : c.Sort) (n : ℕ) → Most s n None
nothing s n = record { most = λ m. tt }

pub more : {s : c.Sort} {n l : ℕ} {o : Option (c.Tree s)} → Most s n o → n ≤ l → Most s l o
more {o = None} h e = record { most = λ m. tt }
more {o = Some x} h e = record { most = λ m. let k = h.most m in omega (arith, k, e) }

pub one_part : {s r : c.Sort} {n l : ℕ} {o : Option (c.Tree s)} (f : c.Tree s → c.Tree r) → Most s n o → ((m : Bool) (x : c.Tree s) → deep false s x ≤ n → deep m r (f x) ≤ l) → Most r l (one f o)
one_part {o = None} f h g = record { most = λ m. tt }
one_part {o = Some x} f h g = record { most = λ m. g m x (h.most false) }

pub from_part : {s r : c.Sort} {n l : ℕ} {o : Option (c.Tree s)} (f : c.Tree s → Option (c.Tree r)) → Most s n o → ((x : c.Tree s) → deep false s x ≤ n → Most r l (f x)) → Most r l (from f o)
from_part {o = None} f h g = record { most = λ m. tt }
from_part {o = Some x} f h g = g x (h.most false)

pub two_parts : {s r q : c.Sort} {n k l : ℕ} {o : Option (c.Tree s)} {u : Option (c.Tree r)} (f : c.Tree s → c.Tree r → c.Tree q) → Most s n o → Most r k u
    → ((m : Bool) (x : c.Tree s) (y : c.Tree r) → deep false s x ≤ n → deep false r y ≤ k → deep m q (f x y) ≤ l) → Most q l (both f o u)
two_parts {o = None} f h i g = record { most = λ m. tt }
two_parts {o = Some x} {u = None} f h i g = record { most = λ m. tt }
two_parts {o = Some x} {u = Some y} f h i g = record { most = λ m. g m x y (h.most false) (i.most false) }

pub three_parts : {s r q a : c.Sort} {n k d l : ℕ} {o : Option (c.Tree s)} {u : Option (c.Tree r)} {v : Option (c.Tree q)} (f : c.Tree s → c.Tree r → c.Tree q → c.Tree a) → Most s n o → Most r k u → Most q d v
    → ((m : Bool) (x : c.Tree s) (y : c.Tree r) (z : c.Tree q) → deep false s x ≤ n → deep false r y ≤ k → deep false q z ≤ d → deep m a (f x y z) ≤ l) → Most a l (three f o u v)
three_parts {o = None} f h i j g = record { most = λ m. tt }
three_parts {o = Some x} {u = None} f h i j g = record { most = λ m. tt }
three_parts {o = Some x} {u = Some y} {v = None} f h i j g = record { most = λ m. tt }
three_parts {o = Some x} {u = Some y} {v = Some z} f h i j g = record { most = λ m. g m x y z (h.most false) (i.most false) (j.most false) }

pub four_parts : {s r q w a : c.Sort} {n k d e l : ℕ} {o : Option (c.Tree s)} {u : Option (c.Tree r)} {v : Option (c.Tree q)} {b : Option (c.Tree w)} (f : c.Tree s → c.Tree r → c.Tree q → c.Tree w → c.Tree a)
    → Most s n o → Most r k u → Most q d v → Most w e b
    → ((m : Bool) (x : c.Tree s) (y : c.Tree r) (z : c.Tree q) (p : c.Tree w) → deep false s x ≤ n → deep false r y ≤ k → deep false q z ≤ d → deep false w p ≤ e → deep m a (f x y z p) ≤ l) → Most a l (four f o u v b)
four_parts {o = None} f h i j p g = record { most = λ m. tt }
four_parts {o = Some x} {u = None} f h i j p g = record { most = λ m. tt }
four_parts {o = Some x} {u = Some y} {v = None} f h i j p g = record { most = λ m. tt }
four_parts {o = Some x} {u = Some y} {v = Some z} {b = None} f h i j p g = record { most = λ m. tt }
four_parts {o = Some x} {u = Some y} {v = Some z} {b = Some w} f h i j p g = record { most = λ m. g m x y z w (h.most false) (i.most false) (j.most false) (p.most false) }

-- ---- parts of a source, and lowered ones

-- what the part is resolved to stands for what nests so deep at most
pub record Nests (k : t.Sort) (n : ℕ) (x : Placed k) : Type 0 where
  pub there : Most (of_sort k) n (resolved k x)

pub deeper : {k : t.Sort} {n l : ℕ} {x : Placed k} → Nests k n x → n ≤ l → Nests k l x
deeper h e = record { there = more h.there e }

-- the same whatever number of a temporary is free
pub record Gives (k : t.Sort) (n : ℕ) (f : Numbered (Placed k)) : Type 0 where
  pub at : (i : ℕ) → Nests k n (f i).0

pub plain_gives : {k : t.Sort} {n : ℕ} {x : Placed k} → Nests k n x → Gives k n (plain x)
plain_gives h = record { at = λ i. h }

pub taking_gives : {k : t.Sort} {n : ℕ} (count : ℕ) (f : ℕ → Numbered (Placed k)) → ((i : ℕ) → Gives k n (f i)) → Gives k n (taking count f)
taking_gives count f h = record { at = λ i. let g = h i in g.at (i + count) }

pub one_gives : {k j : t.Sort} {n l : ℕ} {a : Numbered (Placed k)} (f : Placed k → Placed j) → Gives k n a → ((x : Placed k) → Nests k n x → Nests j l (f x)) → Gives j l (numbered.one f a)
unfolding numbered.one
one_gives {a = a} f h g = record { at = λ i. g (a i).0 (h.at i) }

pub both_gives : {k j q : t.Sort} {n d l : ℕ} {a : Numbered (Placed k)} {b : Numbered (Placed j)} (f : Placed k → Placed j → Placed q) → Gives k n a → Gives j d b
    → ((x : Placed k) (y : Placed j) → Nests k n x → Nests j d y → Nests q l (f x y)) → Gives q l (numbered.both f a b)
unfolding numbered.both
both_gives {a = a} {b = b} f h i g = record { at = λ z. g (a z).0 (b (a z).1).0 (h.at z) (i.at (a z).1) }

pub three_gives : {k j q r : t.Sort} {n d e l : ℕ} {a : Numbered (Placed k)} {b : Numbered (Placed j)} {u : Numbered (Placed q)} (f : Placed k → Placed j → Placed q → Placed r) → Gives k n a → Gives j d b → Gives q e u
    → ((x : Placed k) (y : Placed j) (z : Placed q) → Nests k n x → Nests j d y → Nests q e z → Nests r l (f x y z)) → Gives r l (numbered.three f a b u)
unfolding numbered.three
three_gives {a = a} {b = b} {u = u} f h i o g = record { at = λ z. g (a z).0 (b (a z).1).0 (u (b (a z).1).1).0 (h.at z) (i.at (a z).1) (o.at (b (a z).1).1) }

pub four_gives : {k j q r w : t.Sort} {n d e v l : ℕ} {a : Numbered (Placed k)} {b : Numbered (Placed j)} {u : Numbered (Placed q)} {o : Numbered (Placed r)} (f : Placed k → Placed j → Placed q → Placed r → Placed w)
    → Gives k n a → Gives j d b → Gives q e u → Gives r v o
    → ((x : Placed k) (y : Placed j) (z : Placed q) (p : Placed r) → Nests k n x → Nests j d y → Nests q e z → Nests r v p → Nests w l (f x y z p)) → Gives w l (numbered.four f a b u o)
unfolding numbered.four
four_gives {a = a} {b = b} {u = u} {o = o} f h i y s g =
    record { at = λ z. g (a z).0 (b (a z).1).0 (u (b (a z).1).1).0 (o (u (b (a z).1).1).1).0 (h.at z) (i.at (a z).1) (y.at (b (a z).1).1) (s.at (u (b (a z).1).1).1) }
