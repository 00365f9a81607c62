use Rattle.std.proofs.Common.{◌≡◌, ℕ, ◌+◌, ◌<◌, Bool, true, false, List, Option, Some, length, nat_eq, sym, ap, ◌∙◌, ⊎_elim, arith}
use Rattle.std.specs.List.{slice_get}
use Rattle.std.specs.Option.{option_eq}
use Rattle.std.proofs.lemmas.Bool.{cases_Bool, false_from_ne_true}
use Rattle.caja_units.specs.Units.{is_hidden}
use Rattle.caja_units.proofs.Compared.{option_eq-equal, option_eq-from_equal, is_hidden-from_reads, is_hidden-reads}
use Rattle.caja_units.proofs.compare.ends_hidden.Goals as goal

-- a text is hidden only where each of the last two units is an underscore
other : (us : List ℕ) (end i k : ℕ) (o : Option ℕ) → end + 2 ≡ length us → i < 2 → end + i ≡ k → o ≡ slice_get us k → option_eq nat_eq o (Some 95) ≡ false → is_hidden us ≡ false
other us end i k o len lt place read differ =
    false_from_ne_true (is_hidden us) (λ hidden.
    let yes = option_eq-from_equal o (Some 95) (read ∙ ap (slice_get us) (sym place) ∙ is_hidden-reads us end i len lt hidden) in cc)

second : (us : List ℕ) (end : ℕ) (o p : Option ℕ) (b : Bool) → end + 2 ≡ length us → o ≡ slice_get us end → p ≡ slice_get us (end + 1) → option_eq nat_eq o (Some 95) ≡ true → b ≡ option_eq nat_eq p (Some 95) → b ≡ is_hidden us
second us end o p b len one two first is =
    ⊎_elim
    (λ (yes : option_eq nat_eq p (Some 95) ≡ true).
    is ∙ yes ∙ sym (is_hidden-from_reads us end len (sym one ∙ option_eq-equal o (Some 95) first) (sym two ∙ option_eq-equal p (Some 95) yes)))
    (λ (no : option_eq nat_eq p (Some 95) ≡ false). is ∙ no ∙ sym (other us end 1 (end + 1) p len (omega arith) (omega arith) two no))
    (cases_Bool (option_eq nat_eq p (Some 95)))

pub returns-then-eq : goal.returns-then-eq
returns-then-eq c =
    second c.args.text.now c.in-Some.end c.at.result c.at-then-eq.result c.eq-then-eq.result (omega (arith, c.in-Some.ensures.0, c.in-Some.ensures.1))
    c.at.ensures c.at-then-eq.ensures (sym c.eq.ensures ∙ c.if-eq.true) c.eq-then-eq.ensures

pub returns-else-eq : goal.returns-else-eq
returns-else-eq c =
    c.if-eq.false
    ∙ sym (other c.args.text.now c.in-Some.end 0 c.in-Some.end c.at.result (omega (arith, c.in-Some.ensures.0, c.in-Some.ensures.1)) (omega arith) (omega arith) c.at.ensures (sym c.eq.ensures ∙ c.if-eq.false))
