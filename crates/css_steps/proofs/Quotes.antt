-- The step of a text in quotes, by how it goes on.
use Rattle.std.proofs.Common.{◌≡◌, ℕ, Bool, true, false, Some, refl, nat_eq}
use Rattle.std.specs.Prelude.{if◌then◌else◌}
use Rattle.css_grammar.specs.Characters as s
use Rattle.css_grammar.specs.Machine as m
use Rattle.css_steps.specs.Quotes.{more, ends, quoting_spec, by_how}

pub by_quoting : (q : ℕ) (x y : m.State) (k : s.Class) (c : ℕ) → m.quoted_step q x y k c ≡ by_how (quoting_spec q k c) x y
by_quoting q x y (s.space true) c = refl
by_quoting q x y s.backslash c = refl
by_quoting q x y s.quote c = by_test (nat_eq c q)
  where
    by_test : (b : Bool) → (if b then Some y else Some x) ≡ by_how (if b then ends else more) x y
    by_test true = refl
    by_test false = refl
by_quoting q x y _ c = refl
