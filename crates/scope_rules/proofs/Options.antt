-- What holds of what is there in an option.
use Rattle.std.proofs.Common.{Option, Some, None}
use Rattle.std.specs.Prelude.{IfSome}
use Rattle.cajita_forms.specs.Options.{one, both, three, four}

-- whatever the parts are

pub one_any : {A B : Type 0} (f : A → B) (Q : B → Type 0) → ((a : A) → Q (f a)) → (o : Option A) → IfSome (one f o) Q
one_any f Q g None = tt
one_any f Q g (Some a) = g a

pub both_any : {A B D : Type 0} (f : A → B → D) (Q : D → Type 0) → ((a : A) (b : B) → Q (f a b)) → (o : Option A) (r : Option B) → IfSome (both f o r) Q
both_any f Q g None r = tt
both_any f Q g (Some a) None = tt
both_any f Q g (Some a) (Some b) = g a b

pub three_any : {A B D E : Type 0} (f : A → B → D → E) (Q : E → Type 0) → ((a : A) (b : B) (d : D) → Q (f a b d)) → (o : Option A) (r : Option B) (s : Option D) → IfSome (three f o r s) Q
three_any f Q g None r s = tt
three_any f Q g (Some a) None s = tt
three_any f Q g (Some a) (Some b) None = tt
three_any f Q g (Some a) (Some b) (Some d) = g a b d

pub four_any : {A B D E F : Type 0} (f : A → B → D → E → F) (Q : F → Type 0) → ((a : A) (b : B) (d : D) (e : E) → Q (f a b d e)) → (o : Option A) (r : Option B) (s : Option D) (u : Option E) → IfSome (four f o r s u) Q
four_any f Q g None r s u = tt
four_any f Q g (Some a) None s u = tt
four_any f Q g (Some a) (Some b) None u = tt
four_any f Q g (Some a) (Some b) (Some d) None = tt
four_any f Q g (Some a) (Some b) (Some d) (Some e) = g a b d e

pub all_of : {A : Type 0} (P Q : A → Type 0) → ((a : A) → P a → Q a) → (o : Option A) → IfSome o P → IfSome o Q
all_of P Q f None h = tt
all_of P Q f (Some a) h = f a h
