-- What is asked of the world's answers, so that something holds of every run of every form.
use Rattle.std.specs.Prelude.{◌≡◌, ℕ, List, [], ◌∷◌, Option, Some, None}
use Rattle.plans.specs.Plans.{Run, over, stopped, out}
use Rattle.acts.specs.Acts.{Task, Reply, answer, fault, telling, stepping, calling, Forms}

abbrev pub All : {V : Type 0} → (V → Type 0) → List V → Type 0
All P [] = Unit {0}
All P (v ∷ vs) = P v × All P vs

abbrev pub IfThere : {V : Type 0} → (V → Type 0) → Option V → Type 0
IfThere P None = Unit {0}
IfThere P (Some v) = P v

-- an ending has no values but those that it was made of, or one that everybody has
pub record IsMadeOf {T E O A V C X I : Type 0} (F : Forms T E O A V C X I) (Free : (V → Type 0) → Type 0) : Type 1 where
  pub ending_of : (P : V → Type 0) → Free P → (e : E) (vs : List V) → All P vs → All P (F.values (F.ending e vs))
  pub value_of : (P : V → Type 0) (c : C) → All P (F.values c) → IfThere P (F.value_in c)

-- one run: what a module has by what is kept, what holds of the store and what is kept
pub record Keeping {T E O A V C X I S : Type 0} (F : Forms T E O A V C X I) (note : I → S → S) : Type 1 where
  pub Later : S → S → Type 0
  pub same : (z : S) → Later z z
  pub more : (a b c : S) → Later a b → Later b c → Later a c
  pub noted : (i : I) (z : S) → Later z (note i z)
  -- the modules that are spoken of
  pub Runs : ℕ → Type 0
  pub Has : S → ℕ → V → Type 0
  pub still : (a b : S) (m : ℕ) (v : V) → Later a b → Has a m v → Has b m v
  pub Holds : X → S → Type 0

-- an answer keeps it, and its values are such as are asked of them
abbrev pub Replies : {T E O A V C X I S : Type 0} (F : Forms T E O A V C X I) (note : I → S → S) → Keeping F note → (S → V → Type 0) → Reply (Task T V) C A V X I → S → Type 0
Replies F note k Asked (answer a vs x) z = k.Holds x z × All (Asked z) vs
Replies F note k Asked (fault f x) z = k.Holds x z
Replies F note k Asked (telling i r) z = Replies F note k Asked r (note i z)
Replies F note k Asked (stepping x r) z = k.Holds x z × Replies F note k Asked r z
Replies {C = C} {X = X} {S = S} F note k Asked (calling t x back) z = k.Holds x z × k.Runs t.by × All (k.Has z t.by) t.given × ((c : C) (x' : X) (z' : S) → k.Later z z' → k.Holds x' z' → All (k.Has z' t.by) (F.values c) → Replies F note k Asked (back c x') z')

-- the one law: what the world answers to a module keeps it
abbrev pub IsKept : {T E O A V C X I S : Type 0} (F : Forms T E O A V C X I) (note : I → S → S) → Keeping F note → Type 0
IsKept {O = O} {V = V} {X = X} {S = S} F note k = (o : O) (m : ℕ) (vs : List V) (x : X) (z : S) → k.Runs m → k.Holds x z → All (k.Has z m) vs → Replies F note k (λ y v. k.Has y m v) (F.reply o m vs x) z

-- what is then said of a run, wherever it was cut
abbrev pub Kept : {T E O A V C X I S : Type 0} (F : Forms T E O A V C X I) (note : I → S → S) → Keeping F note → (S → V → Type 0) → Run C X S → Type 0
Kept F note k Asked (over c x z n) = k.Holds x z × All (Asked z) (F.values c)
Kept F note k Asked (stopped f x z n) = k.Holds x z
Kept F note k Asked (out x z n) = k.Holds x z

-- two runs of the same: which modules and values are spoken of, and when two stores are alike
pub record Twins {T E O A V C X I S : Type 0} (F : Forms T E O A V C X I) (note : I → S → S) : Type 1 where
  pub Runs : ℕ → Type 0
  pub Own : V → Type 0
  pub Alike : X → S → X → S → Type 0

abbrev pub SameReplies : {T E O A V C X I S : Type 0} (F : Forms T E O A V C X I) (note : I → S → S) → Twins F note → Reply (Task T V) C A V X I → S → Reply (Task T V) C A V X I → S → Type 0
SameReplies F note k (answer a vs x) z (answer b us y) w = (a ≡ b) × (vs ≡ us) × All k.Own vs × k.Alike x z y w
SameReplies F note k (fault f x) z (fault g y) w = (f ≡ g) × k.Alike x z y w
SameReplies F note k (telling i r) z (telling j q) w = SameReplies F note k r (note i z) q (note j w)
SameReplies F note k (stepping x r) z (stepping y q) w = k.Alike x z y w × SameReplies F note k r z q w
SameReplies {C = C} {X = X} {S = S} F note k (calling t x back) z (calling u y forth) w = (t ≡ u) × k.Alike x z y w × k.Runs t.by × All k.Own t.given × ((c : C) (x' : X) (z' : S) (y' : X) (w' : S) → k.Alike x' z' y' w' → All k.Own (F.values c) → SameReplies F note k (back c x') z' (forth c y') w')
SameReplies F note k _ z _ w = ⊥

abbrev pub AreTwins : {T E O A V C X I S : Type 0} (F : Forms T E O A V C X I) (note : I → S → S) → Twins F note → Type 0
AreTwins {O = O} {V = V} {X = X} {S = S} F note k = (o : O) (m : ℕ) (vs : List V) (x : X) (z : S) (y : X) (w : S) → k.Runs m → All k.Own vs → k.Alike x z y w → SameReplies F note k (F.reply o m vs x) z (F.reply o m vs y) w

abbrev pub SameRuns : {T E O A V C X I S : Type 0} (F : Forms T E O A V C X I) (note : I → S → S) → Twins F note → Run C X S → Run C X S → Type 0
SameRuns F note k (over c x z n) (over d y w m) = (c ≡ d) × (n ≡ m) × All k.Own (F.values c) × k.Alike x z y w
SameRuns F note k (stopped f x z n) (stopped g y w m) = (f ≡ g) × k.Alike x z y w
SameRuns F note k (out x z n) (out y w m) = k.Alike x z y w
SameRuns F note k _ _ = ⊥
