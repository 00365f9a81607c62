-- No list of operands and operators is grouped into two trees.
use Rattle.std.proofs.Common.{◌≡◌, ℕ, ◌≤◌, ◌⊎◌, inl, inr, [], ◌∷◌, ◌++◌, refl, sym, ap, arith}
use Rattle.es3_grammar.specs.Levels.{E, Join, an_op, an_and, an_or, an_assign, a_comma, own, left, right, joined}
use Rattle.es3_grammar.proofs.Follow.{level_fits}
use Rattle.es3_ops.specs.Grouped.{Front, Grouped, alone, between}

abbrev pub Item : Type 0
Item = E × Join

-- what is made is at no lower a level than its parts ask
pub levels_rise : (j : Join) → (own j ≤ left j) × (own j ≤ right j)
levels_rise (an_op op) = omega arith
levels_rise an_and = omega arith
levels_rise an_or = omega arith
levels_rise (an_assign op) = omega arith
levels_rise a_comma = omega arith

-- each operator belongs at this level
abbrev pub Above : ℕ → Front → Type 0
Above n [] = Unit {0}
Above n (p ∷ ps) = (n ≤ own p.1) × Above n ps

above_lower : (n m : ℕ) (ps : Front) → n ≤ m → Above m ps → Above n ps
above_lower n m [] le h = tt
above_lower n m (p ∷ ps) le h = (omega (arith, h.0), above_lower n m ps le h.1)

pub above_both : (n : ℕ) (ps qs : Front) → Above n ps → Above n qs → Above n (ps ++ qs)
above_both n [] qs h g = g
above_both n (p ∷ ps) qs h g = (h.0, above_both n ps qs h.1 g)

above_between : (n : ℕ) (ps qs : Front) (p : Item) → Above n (ps ++ p ∷ qs) → n ≤ own p.1
above_between n [] qs p h = h.0
above_between n (o ∷ ps) qs p h = above_between n ps qs p h.1

pub grouped_above : (n : ℕ) (ps : Front) (x t : E) → Grouped n ps x t → Above n ps
grouped_above n ps x t (alone _ _) = tt
grouped_above n ps y t (between _ front back x _ a b j le f g) =
    let up = levels_rise j in
    above_both n front ((x, j) ∷ back)
    (above_lower n (left j) front (omega arith) (grouped_above (left j) front x a f))
    (le, above_lower n (right j) back (omega arith) (grouped_above (right j) back y b g))

-- two places where a list is parted: the first before the second, both at one, or the second before the first
pub record Apart (fs : Front) (p : Item) (bs gs : Front) (q : Item) (cs : Front) : Type 0 where
  pub middle : Front
  pub later : gs ≡ fs ++ p ∷ middle
  pub earlier : bs ≡ middle ++ q ∷ cs

pub record Same (fs : Front) (p : Item) (bs gs : Front) (q : Item) (cs : Front) : Type 0 where
  pub fronts : fs ≡ gs
  pub items : p ≡ q
  pub backs : bs ≡ cs

abbrev Parted : Front → Item → Front → Front → Item → Front → Type 0
Parted fs p bs gs q cs = Apart fs p bs gs q cs ⊎ (Same fs p bs gs q cs ⊎ Apart gs q cs fs p bs)

parted_behind : (o r : Item) (fs : Front) (p : Item) (bs gs : Front) (q : Item) (cs : Front) → o ≡ r → Parted fs p bs gs q cs → Parted (o ∷ fs) p bs (r ∷ gs) q cs
parted_behind o r fs p bs gs q cs e (inl h) = inl (record { middle = h.middle; later = cc; earlier = h.earlier })
parted_behind o r fs p bs gs q cs e (inr (inl h)) = inr (inl (record { fronts = cc; items = h.items; backs = h.backs }))
parted_behind o r fs p bs gs q cs e (inr (inr h)) = inr (inr (record { middle = h.middle; later = cc; earlier = h.earlier }))

parted : (fs : Front) (p : Item) (bs gs : Front) (q : Item) (cs : Front) → fs ++ p ∷ bs ≡ gs ++ q ∷ cs → Parted fs p bs gs q cs
parted [] p bs [] q cs e = inr (inl (record { fronts = refl; items = cc; backs = cc }))
parted [] p bs (r ∷ gs) q cs e = inl (record { middle = gs; later = cc; earlier = cc })
parted (o ∷ fs) p bs [] q cs e = inr (inr (record { middle = fs; later = cc; earlier = cc }))
parted (o ∷ fs) p bs (r ∷ gs) q cs e = parted_behind o r fs p bs gs q cs (cc) (parted fs p bs gs q cs (cc))

-- of two operators one is not both within the left part of the other and round it
no_turn : (j k : Join) → left k ≤ own j → right j ≤ own k → ⊥
no_turn (an_op op) k h g = omega (arith, levels_rise k)
no_turn an_and k h g = omega (arith, levels_rise k)
no_turn an_or k h g = omega (arith, levels_rise k)
no_turn (an_assign o) (an_op op) h g = omega (arith, level_fits op)
no_turn (an_assign o) an_and h g = omega arith
no_turn (an_assign o) an_or h g = omega arith
no_turn (an_assign o) (an_assign op) h g = omega arith
no_turn (an_assign o) a_comma h g = omega arith
no_turn a_comma k h g = omega (arith, levels_rise k)

-- the first operator is not the last to bind where the second is
not_apart : (fs bs gs cs : Front) (x y z w a b : E) (j k : Join)
    → Apart fs (x, j) bs gs (z, k) cs → Grouped (left k) gs z a → Grouped (right j) bs y b → ⊥
not_apart fs bs gs cs x y z w a b j k h f g =
    no_turn j k
    (above_between (left k) fs h.middle (x, j) (rw h.later at (grouped_above (left k) gs z a f)))
    (above_between (right j) h.middle cs (z, k) (rw h.earlier at (grouped_above (right j) bs y b g)))

nothing_between : (fs : Front) (p : Item) (bs : Front) → [] ≡ fs ++ p ∷ bs → ⊥
nothing_between [] p bs e = cc
nothing_between (o ∷ fs) p bs e = cc

same_tree : (fs bs gs cs : Front) (x y z w a b c d : E) (j k : Join)
    → Grouped (left j) fs x a → Grouped (right j) bs y b → Grouped (left k) gs z c → Grouped (right k) cs w d
    → (fs ≡ gs → x ≡ z → a ≡ c) → (bs ≡ cs → b ≡ d) → Parted fs (x, j) bs gs (z, k) cs → joined j a b ≡ joined k c d
same_tree fs bs gs cs x y z w a b c d j k f g f' g' l r (inl h) = absurd (not_apart fs bs gs cs x y z w c b j k h f' g)
same_tree fs bs gs cs x y z w a b c d j k f g f' g' l r (inr (inl h)) =
    let p : a ≡ c = l h.fronts (ap (λ o. o.0) h.items) in
    let q : b ≡ d = r h.backs in
    let e : j ≡ k = ap (λ o. o.1) h.items in
    cc
same_tree fs bs gs cs x y z w a b c d j k f g f' g' l r (inr (inr h)) = absurd (not_apart gs cs fs bs z w x y a d k j h f g')

pub one_tree : (n m : ℕ) (ps qs : Front) (x y a b : E) → Grouped n ps x a → Grouped m qs y b → ps ≡ qs → x ≡ y → a ≡ b
one_tree n m ps qs x y a b (alone _ _) (alone _ _) e i = i
one_tree n m ps qs x y a b (alone _ _) (between _ gs cs z _ c d k _ f' g') e i = absurd (nothing_between gs (z, k) cs e)
one_tree n m ps qs x y a b (between _ fs bs u _ c d j _ f g) (alone _ _) e i = absurd (nothing_between fs (u, j) bs (sym e))
one_tree n m ps qs x y a b (between _ fs bs u _ r s j _ f g) (between _ gs cs v _ c d k _ f' g') e i =
    same_tree fs bs gs cs u x v y r s c d j k f g f' g'
    (one_tree (left j) (left k) fs gs u v r c f f')
    (λ h. one_tree (right j) (right k) bs cs x y s d g g' h i)
    (parted fs (u, j) bs gs (v, k) cs e)
