-- What a module has, by what it was granted and by what was told: and that each thing that was told lies in it.
use Rattle.std.specs.Prelude.{◌≡◌, ◌⊎◌, ℕ, suc, true, List, [], ◌∷◌, ◌++◌, length, nat_eq, if◌then◌else◌}
use Rattle.acts.specs.Laws.{All}
use Rattle.rows.specs.Rows as r
use Rattle.rows.specs.Rows.{Native}
use Rattle.rows.specs.Names.{is_of_text}
use Rattle.cajita_meaning.specs.World.{Name, made_name, built_name, Value, object, Object, World, empty_world}
use Rattle.cajita_meaning.specs.Direct.{Item, made, got, touched, passed, granted, said, was_revoked, changed_node, ended}

-- an object is among some
abbrev pub IsIn : Name → List Name → Type 0
IsIn o [] = ⊥
IsIn o (n ∷ ns) = (o ≡ n) ⊎ IsIn o ns

-- what each module has
abbrev pub Had : Type 0
Had = ℕ → List Name

abbrev pub with_had : ℕ → Name → Had → Had
with_had m o had n = if nat_eq n m then o ∷ had n else had n

-- what was made by a module, granted or passed to it is had; what was got out of something as well, since that lies in what was had (`Lies`)
abbrev pub gain : Item → Had → Had
gain (made m o) had = with_had m o had
gain (got m h o) had = with_had m o had
gain (touched m t o k) had = had
gain (passed a b o) had = with_had b o had
gain (granted m o) had = with_had m o had
gain (said m us) had = had
gain (was_revoked m p) had = had
gain (changed_node r k c) had = had
gain (ended l e) had = had

abbrev pub have : Had → List Item → Had
have had [] = had
have had (i ∷ z) = have (gain i had) z

-- what an item speaks of is had by the module that does it: what something is got out of, what is touched, what is passed
abbrev pub Lies : Had → Item → Type 0
Lies had (made m o) = Unit {0}
Lies had (got m h o) = IsIn h (had m)
Lies had (touched m t o k) = IsIn o (had m)
Lies had (passed a b o) = IsIn o (had a)
Lies had (granted m o) = Unit {0}
Lies had (said m us) = Unit {0}
Lies had (was_revoked m p) = Unit {0}
Lies had (changed_node r k c) = Unit {0}
Lies had (ended l e) = Unit {0}

-- each of the items lies in what was had before it
abbrev pub Reached : Had → List Item → Type 0
Reached had [] = Unit {0}
Reached had (i ∷ z) = Lies had i × Reached (gain i had) z

-- a value that a module has: it is no object, or an object that it has
abbrev pub Known : Had → List Item → ℕ → Value → Type 0
Known had z m (object o) = IsIn o (have had z m)
Known had z m v = Unit {0}

-- what may wait for a module: an object that some module made, since a closure is called as its maker's, or what the module has
abbrev pub Waits : Had → List Item → ℕ → Value → Type 0
Waits had z m (object (made_name k n)) = Unit {0}
Waits had z m v = Known had z m v

-- more was told: b is a, and what was told behind it
pub record IsMore (a b : List Item) : Type 0 where
  pub rest : List Item
  pub is : b ≡ a ++ rest

-- how many objects each module has made
abbrev pub one_more : ℕ → (ℕ → ℕ) → ℕ → ℕ
one_more m counts n = if nat_eq n m then suc (counts n) else counts n

abbrev pub counted : Item → (ℕ → ℕ) → ℕ → ℕ
counted (made m o) counts = one_more m counts
counted i counts = counts

abbrev pub all_counted : (ℕ → ℕ) → List Item → ℕ → ℕ
all_counted counts [] = counts
all_counted counts (i ∷ z) = all_counted (counted i counts) z

-- the n-th object that a module makes has the number n, so no name is given twice
abbrev pub Numbers : (ℕ → ℕ) → Item → Type 0
Numbers counts (made m o) = o ≡ made_name m (counts m)
Numbers counts i = Unit {0}

abbrev pub Numbered : (ℕ → ℕ) → List Item → Type 0
Numbered counts [] = Unit {0}
Numbered counts (i ∷ z) = Numbers counts i × Numbered (counted i counts) z

-- names are counted, and each module has as many objects as it made
pub record Counted (objects : ℕ → List Object) (z : List Item) : Type 0 where
  pub numbered : Numbered (λ m. 0) z
  pub counts : (m : ℕ) → all_counted (λ m. 0) z m ≡ length (objects m)

-- what holds of a world and of what was told: it was reached, names are counted, each variable of a module holds what the module has, and so does its queue,
-- closures apart
pub record Invariant (had : Had) (w : World) (z : List Item) : Type 0 where
  pub names : Counted w.objects z
  pub reached : Reached had z
  pub scopes : (m : ℕ) → All (λ ps. All (λ p. Known had z m p.1) ps) (w.scopes m)
  pub queues : (m : ℕ) → All (Waits had z m) (w.queues m)

-- everybody has the methods of texts, since they are read out of no object
abbrev pub HaveTextMethods : Had → Type 0
HaveTextMethods had = (m : ℕ) (f : Native) → is_of_text f ≡ true → IsIn (built_name f) (had m)

-- so it is from the start
abbrev pub from_the_start : Had
from_the_start m = built_name r.char_at ∷ built_name r.char_code_at ∷ built_name r.index_of ∷ built_name r.last_index_of ∷ built_name r.slice_text ∷ built_name r.substring ∷ built_name r.split ∷ built_name r.concat_text ∷ []

-- what `Reached` says of each item: it lies in what was had before it
abbrev pub EachLies : Type 0
EachLies = (had : Had) (a : List Item) (i : Item) (b : List Item) → Reached had (a ++ i ∷ b) → Lies (have had a) i

-- what `Numbered` says of two objects that were made: their names are not the same
abbrev pub EachNew : Type 0
EachNew = (a b c : List Item) (m n : ℕ) (o p : Name) → Numbered (λ k. 0) (a ++ made m o ∷ (b ++ made n p ∷ c)) → o ≡ p → ⊥

-- nothing was done
abbrev pub StartsReached : Type 0
StartsReached = (had : Had) → Invariant had empty_world []

-- something is granted
abbrev pub GrantIsHad : Type 0
GrantIsHad = (had : Had) (w : World) (z : List Item) (m : ℕ) (o : Name) → Invariant had w z → Invariant had w (z ++ granted m o ∷ []) × Known had (z ++ granted m o ∷ []) m (object o)
