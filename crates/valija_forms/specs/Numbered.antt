-- Parts whose temporaries are numbered: what a part is, and the next free number, by the number that is free before it.
use Rattle.std.specs.Prelude.{◌≡◌, ℕ, ◌+◌, ◌^◌, ◌<◌, Result, IfOk, OnErr, OnOk}
use Rattle.caja_units.specs.declared.Memory.{Memory}

abbrev pub Numbered : Type 0 → Type 0
Numbered A = ℕ → A × ℕ

abbrev pub plain : {A : Type 0} → A → Numbered A
plain a n = (a, n)

-- parts one after another
unfoldable pub one : {A B : Type 0} → (A → B) → Numbered A → Numbered B
one f a n = (f (a n).0, (a n).1)

unfoldable pub both : {A B D : Type 0} → (A → B → D) → Numbered A → Numbered B → Numbered D
both f a b n = (f (a n).0 (b (a n).1).0, (b (a n).1).1)

unfoldable pub three : {A B D E : Type 0} → (A → B → D → E) → Numbered A → Numbered B → Numbered D → Numbered E
three f a b d n = (f (a n).0 (b (a n).1).0 (d (b (a n).1).1).0, (d (b (a n).1).1).1)

unfoldable pub four : {A B D E F : Type 0} → (A → B → D → E → F) → Numbered A → Numbered B → Numbered D → Numbered E → Numbered F
four f a b d e n = (f (a n).0 (b (a n).1).0 (d (b (a n).1).1).0 (e (d (b (a n).1).1).1).0, (e (d (b (a n).1).1).1).1)

-- a form takes so many temporaries before its parts take theirs, the first of the number that is free then
abbrev pub taking : {A : Type 0} → ℕ → (ℕ → Numbered A) → Numbered A
taking count f n = f n (n + count)

-- the first of so many temporaries that were taken, where memory isn't wanting: none takes more than three
pub record Takes (answer : Result ℕ Memory) (before count after : ℕ) : Type 0 where
  pub first : IfOk answer (λ i. i ≡ before)
  pub taken : OnOk answer (after ≡ before + count)
  pub fits : IfOk answer (λ i. i + 3 < 2 ^ 32)
  pub stays : OnErr answer (after ≡ before)
