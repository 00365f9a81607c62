-- Parts that break no rule: of a source, and of what stands for it; and what follows for a form from its parts.
use Rattle.std.proofs.Common.{◌≡◌, ℕ, ◌+◌, ◌≤◌, List, [], ◌++◌, arith}
use Rattle.es3_tree.specs.Tree as t
use Rattle.es3_tree.specs.Placed.{Placed}
use Rattle.es3_labels.specs.Around.{Around}
use Rattle.es3_labels.specs.Misplaced.{Misplaced, misplaced}
use Rattle.cajita_names.specs.Scope.{Scope}
use Rattle.cajita_rules.specs.Faults.{Fault, faults_in}
use Rattle.valija_rules.specs.Faults as valija
use Rattle.valija_forms.specs.Numbered.{Numbered, plain, one, both, three, four, taking}
use Rattle.valija_accepted.proofs.Lists.{no_front, no_back}
use Rattle.valija_accepted.proofs.Formed.{Formed}

-- ---- a source

-- what the rules of Valija say of a part, and the grammar
pub record Good (F : Type 0) (fs : List Fault) (ms : List Misplaced) : Type 0 where
  pub formed : F
  pub rules : fs ≡ []
  pub jumps : ms ≡ []

abbrev pub GoodPart : Scope → Around → (s : t.Sort) → Placed s → Type 0
GoodPart r a s x = Good (Formed s x) (valija.faults_in r s x) (misplaced a s x)

-- of two parts, one behind the other
pub front : {F G : Type 0} {fs : List Fault} {ms : List Misplaced} (gs : List Fault) (ns : List Misplaced) → Good (F × G) (fs ++ gs) (ms ++ ns) → Good F fs ms
front {fs = fs} {ms = ms} gs ns h = record { formed = h.formed.0; rules = no_front fs gs h.rules; jumps = no_front ms ns h.jumps }

pub back : {F G : Type 0} (fs : List Fault) (ms : List Misplaced) {gs : List Fault} {ns : List Misplaced} → Good (F × G) (fs ++ gs) (ms ++ ns) → Good G gs ns
back fs ms {gs = gs} {ns = ns} h = record { formed = h.formed.1; rules = no_back fs gs h.rules; jumps = no_back ms ns h.jumps }

-- with further faults before it, or behind it
pub behind : {F : Type 0} (xs : List Fault) {fs : List Fault} {ms : List Misplaced} → Good F (xs ++ fs) ms → Good F fs ms
behind xs {fs = fs} h = record { formed = h.formed; rules = no_back xs fs h.rules; jumps = h.jumps }

pub before : {F : Type 0} {fs : List Fault} (xs : List Fault) {ms : List Misplaced} → Good F (fs ++ xs) ms → Good F fs ms
before {fs = fs} xs h = record { formed = h.formed; rules = no_front fs xs h.rules; jumps = h.jumps }

-- ---- what stands for it

pub record IsClean (r : Scope) (a : Around) (s : t.Sort) (x : Placed s) : Type 0 where
  pub rules : faults_in r s x ≡ []
  pub jumps : misplaced a s x ≡ []

-- a part whose temporaries are numbered from low on, in a body that takes so many in all
pub record Kept (r : Scope) (a : Around) (total low : ℕ) (s : t.Sort) (x : Numbered (Placed s)) : Type 0 where
  pub grows : (n : ℕ) → n ≤ (x n).1
  pub clean : (n : ℕ) → low ≤ n → (x n).1 ≤ total → IsClean r a s (x n).0

module _ {r : Scope} {a : Around} {total low : ℕ} where
  pub plain_kept : {s : t.Sort} (x : Placed s) → (low ≤ total → IsClean r a s x) → Kept r a total low s (plain x)
  plain_kept x h = record {
    grows = λ n. let up : n ≤ n = omega arith in up;
    clean = λ n l m. let top : n ≤ total = m in h (omega arith);
  }

  pub later : {s : t.Sort} {x : Numbered (Placed s)} → Kept r a total 0 s x → Kept r a total low s x
  later h = record { grows = h.grows; clean = λ n l m. h.clean n (omega arith) m }

  pub one_kept : {q : Scope} {b : Around} {s u : t.Sort} (f : Placed s → Placed u) {x : Numbered (Placed s)}
      → (low ≤ total → (e : Placed s) → IsClean q b s e → IsClean r a u (f e)) → Kept q b total 0 s x → Kept r a total low u (one f x)
  unfolding one
  one_kept f {x = x} g h = record {
    grows = h.grows;
    clean = λ n l m.
        let up : n ≤ (x n).1 = h.grows n in
        let top : (x n).1 ≤ total = m in
        g (omega arith) (x n).0 (h.clean n (omega arith) top);
  }

  pub both_kept : {b d : Around} {s u v : t.Sort} (f : Placed s → Placed u → Placed v) {x : Numbered (Placed s)} {y : Numbered (Placed u)}
      → (low ≤ total → (e : Placed s) (k : Placed u) → IsClean r b s e → IsClean r d u k → IsClean r a v (f e k))
      → Kept r b total 0 s x → Kept r d total 0 u y → Kept r a total low v (both f x y)
  unfolding both
  both_kept f {x = x} {y = y} g h i = record {
    grows = λ n.
        let up : n ≤ (x n).1 = h.grows n in
        let on : (x n).1 ≤ (y (x n).1).1 = i.grows (x n).1 in
        let all : n ≤ (y (x n).1).1 = omega arith in all;
    clean = λ n l m.
        let up : n ≤ (x n).1 = h.grows n in
        let on : (x n).1 ≤ (y (x n).1).1 = i.grows (x n).1 in
        let top : (y (x n).1).1 ≤ total = m in
        g (omega arith) (x n).0 (y (x n).1).0 (h.clean n (omega arith) (omega arith)) (i.clean (x n).1 (omega arith) top);
  }

  -- the first part may stand for a value that further temporaries hold
  pub three_kept : {b d c : Around} {s u v w : t.Sort} (f : Placed s → Placed u → Placed v → Placed w) {x : Numbered (Placed s)} {y : Numbered (Placed u)} {z : Numbered (Placed v)}
      → (low ≤ total → (e : Placed s) (k : Placed u) (o : Placed v) → IsClean r b s e → IsClean r d u k → IsClean r c v o → IsClean r a w (f e k o))
      → Kept r b total low s x → Kept r d total 0 u y → Kept r c total 0 v z → Kept r a total low w (three f x y z)
  unfolding three
  three_kept f {x = x} {y = y} {z = z} g h i j = record {
    grows = λ n.
        let up : n ≤ (x n).1 = h.grows n in
        let on : (x n).1 ≤ (y (x n).1).1 = i.grows (x n).1 in
        let last : (y (x n).1).1 ≤ (z (y (x n).1).1).1 = j.grows (y (x n).1).1 in
        let all : n ≤ (z (y (x n).1).1).1 = omega arith in all;
    clean = λ n l m.
        let up : n ≤ (x n).1 = h.grows n in
        let on : (x n).1 ≤ (y (x n).1).1 = i.grows (x n).1 in
        let last : (y (x n).1).1 ≤ (z (y (x n).1).1).1 = j.grows (y (x n).1).1 in
        let top : (z (y (x n).1).1).1 ≤ total = m in
        g (omega arith) (x n).0 (y (x n).1).0 (z (y (x n).1).1).0 (h.clean n l (omega arith)) (i.clean (x n).1 (omega arith) (omega arith)) (j.clean (y (x n).1).1 (omega arith) top);
  }

  pub four_kept : {b d c q : Around} {s u v w o : t.Sort} (f : Placed s → Placed u → Placed v → Placed w → Placed o) {x : Numbered (Placed s)} {y : Numbered (Placed u)} {z : Numbered (Placed v)} {k : Numbered (Placed w)}
      → (low ≤ total → (e : Placed s) (e2 : Placed u) (e3 : Placed v) (e4 : Placed w) → IsClean r b s e → IsClean r d u e2 → IsClean r c v e3 → IsClean r q w e4 → IsClean r a o (f e e2 e3 e4))
      → Kept r b total 0 s x → Kept r d total 0 u y → Kept r c total 0 v z → Kept r q total 0 w k → Kept r a total low o (four f x y z k)
  unfolding four
  four_kept f {x = x} {y = y} {z = z} {k = k} g h i j l = record {
    grows = λ n.
        let up : n ≤ (x n).1 = h.grows n in
        let on : (x n).1 ≤ (y (x n).1).1 = i.grows (x n).1 in
        let next : (y (x n).1).1 ≤ (z (y (x n).1).1).1 = j.grows (y (x n).1).1 in
        let last : (z (y (x n).1).1).1 ≤ (k (z (y (x n).1).1).1).1 = l.grows (z (y (x n).1).1).1 in
        let all : n ≤ (k (z (y (x n).1).1).1).1 = omega arith in all;
    clean = λ n few m.
        let up : n ≤ (x n).1 = h.grows n in
        let on : (x n).1 ≤ (y (x n).1).1 = i.grows (x n).1 in
        let next : (y (x n).1).1 ≤ (z (y (x n).1).1).1 = j.grows (y (x n).1).1 in
        let last : (z (y (x n).1).1).1 ≤ (k (z (y (x n).1).1).1).1 = l.grows (z (y (x n).1).1).1 in
        let top : (k (z (y (x n).1).1).1).1 ≤ total = m in
        g (omega arith) (x n).0 (y (x n).1).0 (z (y (x n).1).1).0 (k (z (y (x n).1).1).1).0 (h.clean n (omega arith) (omega arith)) (i.clean (x n).1 (omega arith) (omega arith)) (j.clean (y (x n).1).1 (omega arith) (omega arith)) (l.clean (z (y (x n).1).1).1 (omega arith) top);
  }

-- a form that takes temporaries before its parts do
pub taking_kept : {r : Scope} {a : Around} {total : ℕ} {s : t.Sort} (count : ℕ) (f : ℕ → Numbered (Placed s)) → ((i : ℕ) → Kept r a total (i + count) s (f i)) → Kept r a total 0 s (taking count f)
taking_kept count f h = record {
  grows = λ n.
      let k = h n in
      let up : n + count ≤ (f n (n + count)).1 = k.grows (n + count) in
      let all : n ≤ (f n (n + count)).1 = omega arith in all;
  clean = λ n l m. let k = h n in k.clean (n + count) (omega arith) m;
}
