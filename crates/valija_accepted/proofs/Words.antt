-- Words that break no rule, and the names that lowered programs have of their own.
use Rattle.std.proofs.Common.{◌≡◌, ℕ, zero, suc, ◌+◌, ◌/◌, ◌%◌, ◌<◌, ◌≤◌, Bool, true, false, List, [], ◌∷◌, ◌++◌, ◌-◌, cond, refl, sym, ap, ◌∙◌, arith, length, take, subst}
use Rattle.std.specs.Prelude.{◌&&◌, not, codes, nat_eq, nat_lt}
use Rattle.std.specs.List.{list_all}
use Rattle.std.specs.Fmt.{digits, digits_onto, digit_glyph}
use Rattle.std.proofs.lemmas.Bool.Decides.{nat_tests}
use Rattle.std.proofs.Math.Nat.{mod-lt}
use Rattle.caja_units.specs.Units.{same_units, is_hidden}
use Rattle.caja_units.specs.Index.{number_units}
use Rattle.caja_units.proofs.Texts.{is_hidden-end}
use Rattle.es3_tree.specs.Placed.{Word}
use Rattle.es3_tokens.specs.Characters.{is_digit}
use Rattle.cajita_names.specs.Scope.{Scope, bound, lacks, keeps, is_eval, is_arguments, is_unbound, is_settled}
use Rattle.cajita_rules.specs.Faults as cajita
use Rattle.cajita_rules.specs.Faults.{word_fault, hidden, an_eval, reserved}
use Rattle.valija_rules.specs.Faults as valija
use Rattle.valija_rules.specs.Words.{is_numbered, is_taken}
use Rattle.valija_forms.specs.Forms.{word, temporary}
use Rattle.valija_accepted.proofs.Lists.{never, refuted, pick_back, two, no_front, no_back, no_fault, none_there, left_there, as_good}

-- ---- what no fault says of a word of the source

pub record Usable (x : List ℕ) : Type 0 where
  pub open_name : is_hidden x ≡ false
  pub no_eval : is_eval x ≡ false
  pub own_name : is_taken x ≡ false

pub usable : (x : Word) → valija.named x ≡ [] → Usable x.text
usable x e = record {
  open_name = none_there 1 x _ (no_front (hidden x) (an_eval x) (no_front (hidden x ++ an_eval x) (valija.taken x) e));
  no_eval = none_there 3 x _ (no_back (hidden x) (an_eval x) (no_front (hidden x ++ an_eval x) (valija.taken x) e));
  own_name = none_there 5 x _ (no_back (hidden x ++ an_eval x) (valija.taken x) e);
}

pub record Declarable (x : List ℕ) : Type 0 where
  pub usable : Usable x
  pub no_arguments : is_arguments x ≡ false

pub declarable : (x : Word) → valija.declared x ≡ [] → Declarable x.text
declarable x e = record {
  usable = usable x (no_front (valija.named x) (valija.changed_arguments x) e);
  no_arguments = none_there 11 x _ (no_back (valija.named x) (valija.changed_arguments x) e);
}

-- ---- a word that the lowering writes

pub open_word : (x : List ℕ) → is_hidden x ≡ false → hidden (word x) ≡ []
open_word x h = no_fault 1 (word x) (is_hidden x) h

-- the same word elsewhere
pub hidden_moved : (x : Word) → hidden x ≡ [] → hidden (word x.text) ≡ []
hidden_moved x e = open_word x.text (none_there 1 x _ e)

pub reserved_moved : (x : Word) → reserved x ≡ [] → reserved (word x.text) ≡ []
reserved_moved x e = no_fault 8 (word x.text) _ (none_there 8 x _ e)

pub used_clean : (s : Scope) (x : List ℕ) → is_hidden x ≡ false → is_eval x ≡ false → lacks s x ≡ false → cajita.used s (word x) ≡ []
used_clean s x h e l = two (two (open_word x h) (no_fault 3 (word x) (is_eval x) e)) (no_fault 10 (word x) (lacks s x) l)

pub declared_clean : (x : List ℕ) → is_hidden x ≡ false → is_eval x ≡ false → is_arguments x ≡ false → cajita.declared (word x) ≡ []
declared_clean x h e a = two (two (open_word x h) (no_fault 3 (word x) (is_eval x) e)) (no_fault 13 (word x) (is_arguments x) a)

pub declarable_clean : (x : List ℕ) → Declarable x → cajita.declared (word x) ≡ []
declarable_clean x d = declared_clean x d.usable.open_name d.usable.no_eval d.no_arguments

pub written_clean : (s : Scope) (x : List ℕ) → is_arguments x ≡ false → is_settled (bound s x) ≡ false → cajita.written s (word x) ≡ []
written_clean s x a f = two (no_fault 7 (word x) (keeps s x) (ap (λ b. not b && is_settled (bound s x)) a ∙ f)) (no_fault 13 (word x) (is_arguments x) a)

pub lacks_none : (s : Scope) (x : List ℕ) → is_arguments x ≡ false → is_unbound (bound s x) ≡ false → lacks s x ≡ false
lacks_none s x a k = pick_back (is_arguments x) _ _ a ∙ k

-- ---- temporaries

AllDigits : List ℕ → Type 0
AllDigits us = list_all is_digit us ≡ true

glyph_digit : (d : ℕ) → d < 10 → is_digit (digit_glyph false d) ≡ true
glyph_digit d h = let low : nat_lt d 10 ≡ true = grind (arith, nat_tests) in ap (λ b. is_digit (cond b (48 + d) (87 + d))) low ∙ between (48 + d) (omega arith) (omega arith)
  where
    between : (u : ℕ) → 48 ≤ u → u ≤ 57 → is_digit u ≡ true
    between u a b = grind (arith, nat_tests)

digits_more : (u : ℕ) (us : List ℕ) → is_digit u ≡ true → AllDigits us → AllDigits (u ∷ us)
unfolding AllDigits
digits_more u us a b = ap (λ c. c && list_all is_digit us) a ∙ b

onto_digits : (k n : ℕ) (us : List ℕ) → AllDigits us → AllDigits (digits_onto k 10 false n us)
onto_digits zero n us h = h
onto_digits (suc k) n us h =
    let ten : 0 < 10 = omega arith in
    let more : AllDigits (digit_glyph false (n % 10) ∷ us) = digits_more (digit_glyph false (n % 10)) us (glyph_digit (n % 10) (mod-lt n ten)) h in
    by (nat_eq (n / 10) 0) (digit_glyph false (n % 10) ∷ us) (digits_onto k 10 false (n / 10) (digit_glyph false (n % 10) ∷ us)) more (onto_digits k (n / 10) (digit_glyph false (n % 10) ∷ us) more)
  where
    by : (b : Bool) (xs ys : List ℕ) → AllDigits xs → AllDigits ys → AllDigits (cond b xs ys)
    by true xs ys p q = p
    by false xs ys p q = q

digits_as : (n : ℕ) → digits_onto 64 10 false n [] ≡ digits 10 false n
unfolding digits
digits_as n = refl

number_digits : (n : ℕ) → list_all is_digit (number_units n) ≡ true
unfolding AllDigits
number_digits n = subst (λ us. list_all is_digit us ≡ true) (digits_as n) (onto_digits 64 n [] refl)

pub temporary_taken : (n : ℕ) → is_taken (temporary n) ≡ true
temporary_taken n = left_there (is_numbered (temporary n)) (same_units (temporary n) (codes "$dis")) (number_digits n)

-- no name of digits ends in an underscore

abbrev no_line : ℕ → Bool
no_line u = not (nat_eq u 95)

digit_no_line : (u : ℕ) → is_digit u ≡ true → no_line u ≡ true
digit_no_line u h = grind (arith, nat_tests)

no_lines : (us : List ℕ) → list_all is_digit us ≡ true → list_all no_line us ≡ true
no_lines [] h = refl
no_lines (u ∷ us) h = let r = both_true (is_digit u) (list_all is_digit us) h in both (no_line u) (list_all no_line us) (digit_no_line u r.0) (no_lines us r.1)
  where
    both_true : (a b : Bool) → (a && b) ≡ true → (a ≡ true) × (b ≡ true)
    both_true true b e = (refl, e)
    both_true false b e = never e

    both : (a b : Bool) → a ≡ true → b ≡ true → (a && b) ≡ true
    both true b p q = q
    both false b p q = never p

line_behind : (us : List ℕ) → list_all no_line (us ++ codes "__") ≡ false
line_behind [] = refl
line_behind (u ∷ us) = ap (λ b. no_line u && b) (line_behind us) ∙ by (no_line u)
  where
    by : (b : Bool) → (b && false) ≡ false
    by true = refl
    by false = refl

pub temporary_open : (n : ℕ) → is_hidden (temporary n) ≡ false
temporary_open n = refuted (is_hidden (temporary n)) (λ h.
    sym (ap (list_all no_line) (is_hidden-end (temporary n) h) ∙ line_behind (take (length (temporary n) - 2) (temporary n))) ∙ no_lines (number_units n) (number_digits n))

-- a name of the source is none of them
pub taken_same : (x y : List ℕ) → is_taken x ≡ false → is_taken y ≡ true → same_units x y ≡ true → false ≡ true
taken_same x y own taken same = sym own ∙ as_good (λ z. is_taken z ≡ true) x y same taken
