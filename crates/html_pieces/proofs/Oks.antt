-- What holds of an Ok.
use Rattle.std.proofs.Common.{◌≡◌, ℕ, ◌+◌, true, List, [], None, Result, Ok, Err, IfOk, sym, ap, subst, ◌∙◌, arith, take, drop, map}
use Rattle.std.specs.Prelude.{if◌then◌else◌}
use Rattle.std.specs.List.{prefix_len}
use Rattle.html_grammar.specs.Characters.{is_attr, lower, begins, is}
use Rattle.html_grammar.specs.Runs.{Run, units, unknown_at, run_length}
use Rattle.html_grammar.specs.Fits.{RunFits}
use Rattle.html_grammar.specs.Tags.{attribute, value, attr_at}

-- what holds of what an answer is, holds of the answer
pub ok_has : {X E Y : Type 0} (f : X → Y) (P : Y → Type 0) (r : Result X E) (a : Y) → IfOk r (λ x. f x ≡ a) → P a → IfOk r (λ x. P (f x))
ok_has f P (Ok x) a h e = subst P (sym h) e
ok_has f P (Err x) a h e = tt

-- an answer is this, and this is that
pub ok_is : {X E Y : Type 0} (f : X → Y) (r : Result X E) (a b : Y) → IfOk r (λ x. f x ≡ a) → a ≡ b → IfOk r (λ x. f x ≡ b)
ok_is f (Ok x) a b h e = h ∙ e
ok_is f (Err x) a b h e = tt

pub own_fits : (m : ℕ) (a : Run) → RunFits m a → RunFits (run_length a) a
own_fits m (units us n) h = omega arith
own_fits m (unknown_at k n) h = (h.0, omega arith)

pub attr_valued : (s : List ℕ) (n : ℕ) → n ≡ prefix_len is_attr s → begins (is 61) (drop n s) ≡ true → value (map lower (take n s)) (n + 1) (drop (n + 1) s) ≡ attr_at s
attr_valued s n e h =
    let p = prefix_len is_attr s in
    ap (λ k. value (map lower (take k s)) (k + 1) (drop (k + 1) s)) e
    ∙ sym (ap (λ b. if b then value (map lower (take p s)) (p + 1) (drop (p + 1) s) else attribute (map lower (take p s)) [] None p) (ap (λ k. begins (is 61) (drop k s)) (sym e) ∙ h))
