-- What is there or not: one part, and several together.
use Rattle.std.specs.Prelude.{Option, Some, None}

-- where it is there, where both are there or all, where what follows from it is there
abbrev pub one : {A B : Type 0} → (A → B) → Option A → Option B
one f (Some a) = Some (f a)
one f None = None

abbrev pub both : {A B D : Type 0} → (A → B → D) → Option A → Option B → Option D
both f (Some a) (Some b) = Some (f a b)
both f a b = None

abbrev pub three : {A B D E : Type 0} → (A → B → D → E) → Option A → Option B → Option D → Option E
three f (Some a) (Some b) (Some d) = Some (f a b d)
three f a b d = None

abbrev pub four : {A B D E F : Type 0} → (A → B → D → E → F) → Option A → Option B → Option D → Option E → Option F
four f (Some a) (Some b) (Some d) (Some e) = Some (f a b d e)
four f a b d e = None

abbrev pub from : {A B : Type 0} → (A → Option B) → Option A → Option B
from f (Some a) = f a
from f None = None
