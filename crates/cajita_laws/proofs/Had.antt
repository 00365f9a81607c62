-- What modules have only grows.
use Rattle.std.proofs.Common.{◌≡◌, ℕ, Bool, true, false, List, [], ◌∷◌, ◌++◌, inl, inr, refl, sym, ap, ◌∙◌, subst}
use Rattle.std.specs.Prelude.{nat_eq, if◌then◌else◌}
use Rattle.std.proofs.lemmas.Bool.{eq-eqb}
use Rattle.std.proofs.lemmas.List.{append-nil, append_assoc}
use Rattle.cajita_meaning.specs.World.{Name, Value, object}
use Rattle.cajita_meaning.specs.Direct.{Item, made, got, passed, granted}
use Rattle.cajita_laws.specs.Reach.{IsIn, Had, with_had, gain, have, Lies, Reached, Known, IsMore, counted, all_counted, Numbers, Numbered}

-- what is among some is among more
in_more : (b : Bool) (o x : Name) (ns : List Name) → IsIn o ns → IsIn o (if b then x ∷ ns else ns)
in_more true o x ns p = inr p
in_more false o x ns p = p

in_first : (b : Bool) (o : Name) (ns : List Name) → b ≡ true → IsIn o (if b then o ∷ ns else ns)
in_first b o ns is = subst (λ c. IsIn o (if c then o ∷ ns else ns)) (sym is) (inl refl)

-- what is gained is had, and what was had still is
pub gain_new : (m : ℕ) (o : Name) (had : Had) → IsIn o (with_had m o had m)
gain_new m o had = in_first (nat_eq m m) o (had m) (eq-eqb m m refl)

pub gain_keeps : (i : Item) (had : Had) (m : ℕ) (o : Name) → IsIn o (had m) → IsIn o (gain i had m)
gain_keeps (made n x) had m o p = in_more (nat_eq m n) o x (had m) p
gain_keeps (got n h x) had m o p = in_more (nat_eq m n) o x (had m) p
gain_keeps (passed a n x) had m o p = in_more (nat_eq m n) o x (had m) p
gain_keeps (granted n x) had m o p = in_more (nat_eq m n) o x (had m) p
gain_keeps i had m o p = p

-- what is told behind is gained behind
pub have_add : (had : Had) (xs ys : List Item) → have had (xs ++ ys) ≡ have (have had xs) ys
have_add had [] ys = refl
have_add had (i ∷ xs) ys = have_add (gain i had) xs ys

pub have_keeps : (xs : List Item) (had : Had) (m : ℕ) (o : Name) → IsIn o (had m) → IsIn o (have had xs m)
have_keeps [] had m o p = p
have_keeps (i ∷ xs) had m o p = have_keeps xs (gain i had) m o (gain_keeps i had m o p)

-- one item more is reached, where it lies in what was had
pub reached_add : (had : Had) (z : List Item) (i : Item) → Reached had z → Lies (have had z) i → Reached had (z ++ i ∷ [])
reached_add had [] i p q = (q, tt)
reached_add had (j ∷ z) i p q = (p.0, reached_add (gain j had) z i p.1 q)

-- nothing more was told; something more; and still more
pub no_more : (a : List Item) → IsMore a a
no_more a = record { rest = []; is = sym (append-nil a) }

pub more_behind : (a is : List Item) → IsMore a (a ++ is)
more_behind a is = record { rest = is; is = refl }

pub more_onward : (a b c : List Item) → IsMore a b → IsMore b c → IsMore a c
more_onward a b c p q = record { rest = p.rest ++ q.rest; is = q.is ∙ ap (λ l. l ++ q.rest) p.is ∙ append_assoc a p.rest q.rest }

-- a module still has what it had
pub known_more : (had : Had) (a b : List Item) (m : ℕ) (v : Value) → IsMore a b → Known had a m v → Known had b m v
known_more had a b m (object o) p q =
    subst (λ l. IsIn o (have had l m)) (sym p.is) (subst (λ h. IsIn o (h m)) (sym (have_add had a p.rest)) (have_keeps p.rest (have had a) m o q))
known_more had a b m v p q = tt

-- what an item gains is had behind it
pub in_noted : (had : Had) (z : List Item) (i : Item) (m : ℕ) (o : Name) → IsIn o (gain i (have had z) m) → IsIn o (have had (z ++ i ∷ []) m)
in_noted had z i m o p = subst (λ h. IsIn o (h m)) (sym (have_add had z (i ∷ []))) p

-- one object more has the next number
pub numbered_add : (counts : ℕ → ℕ) (z : List Item) (i : Item) → Numbered counts z → Numbers (all_counted counts z) i → Numbered counts (z ++ i ∷ [])
numbered_add counts [] i p q = (q, tt)
numbered_add counts (j ∷ z) i p q = (p.0, numbered_add (counted j counts) z i p.1 q)

pub counted_add : (counts : ℕ → ℕ) (z : List Item) (i : Item) → all_counted counts (z ++ i ∷ []) ≡ counted i (all_counted counts z)
counted_add counts [] i = refl
counted_add counts (j ∷ z) i = counted_add (counted j counts) z i
