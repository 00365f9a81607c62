-- What the laws of reach say of each item, and what follows where something is granted.
use Rattle.std.proofs.Common.{◌≡◌, ◌≤◌, ℕ, suc, true, false, List, [], ◌∷◌, ◌++◌, refl, sym, ap, ◌∙◌, subst, arith}
use Rattle.std.specs.Prelude.{nat_eq, if◌then◌else◌}
use Rattle.std.proofs.lemmas.Bool.{eq-eqb}
use Rattle.cajita_meaning.specs.World.{Name, made_name}
use Rattle.cajita_meaning.specs.Direct.{Item, made, granted}
use Rattle.cajita_laws.specs.Reach.{gain, have, one_more, counted, all_counted, Numbers, Numbered, EachLies, EachNew, GrantIsHad}
use Rattle.cajita_laws.proofs.Had.{gain_new, in_noted}
use Rattle.cajita_laws.proofs.Invariant.{item_told}

pub each_lies : EachLies
each_lies had [] i b h = h.0
each_lies had (j ∷ a) i b h = each_lies (gain j had) a i b h.1

pub grant_is_had : GrantIsHad
grant_is_had had w z m o i = (item_told had (granted m o) tt i tt, in_noted had z (granted m o) m o (gain_new m o (have had z)))

-- an object has the number that its module had reached, and what follows goes on from there
numbered_at : (counts : ℕ → ℕ) (a : List Item) (i : Item) (b : List Item) → Numbered counts (a ++ i ∷ b) → Numbers (all_counted counts a) i × Numbered (counted i (all_counted counts a)) b
numbered_at counts [] i b h = h
numbered_at counts (j ∷ a) i b h = numbered_at (counted j counts) a i b h.1

-- counts only grow
one_more_grows : (m n : ℕ) (counts : ℕ → ℕ) → counts n ≤ one_more m counts n
one_more_grows m n counts = elim (nat_eq n m) as (λ b. counts n ≤ (if b then suc (counts n) else counts n)) [ true ↦ omega arith | false ↦ omega arith ]

counted_grows : (i : Item) (n : ℕ) (counts : ℕ → ℕ) → counts n ≤ counted i counts n
counted_grows (made m o) n counts = one_more_grows m n counts
counted_grows i n counts = omega arith

all_counted_grows : (a : List Item) (n : ℕ) (counts : ℕ → ℕ) → counts n ≤ all_counted counts a n
all_counted_grows [] n counts = omega arith
all_counted_grows (i ∷ a) n counts = let p = counted_grows i n counts in let q = all_counted_grows a n (counted i counts) in omega (arith, p, q)

-- a name's parts
abbrev maker_of : Name → ℕ
maker_of (made_name m n) = m
maker_of o = 0

abbrev place_of : Name → ℕ
place_of (made_name m n) = n
place_of o = 0

-- who makes an object counts it
made_more : (m : ℕ) (counts : ℕ → ℕ) → one_more m counts m ≡ suc (counts m)
made_more m counts = ap (λ b. if b then suc (counts m) else counts m) (eq-eqb m m refl)

pub each_new : EachNew
each_new a b c m n o p h e =
    let first = numbered_at (λ k. 0) a (made m o) (b ++ made n p ∷ c) h in
    let counts = all_counted (λ k. 0) a in
    let second = numbered_at (one_more m counts) b (made n p) c first.1 in
    let names = sym first.0 ∙ e ∙ second.0 in
    let grown = subst (λ k. one_more m counts m ≤ all_counted (one_more m counts) b k) (ap maker_of names) (all_counted_grows b m (one_more m counts)) in
    let places = ap place_of names in
    let more = made_more m counts in
    absurd (omega (arith, grown, places, more))
