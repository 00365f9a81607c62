-- Numberings that exchange two numbers.
use Rattle.std.proofs.Common.{◌≡◌, ℕ, Bool, true, false, refl, sym, ap, ◌∙◌}
use Rattle.std.specs.Prelude.{nat_eq, if◌then◌else◌}
use Rattle.std.proofs.lemmas.Bool.{eqb-true, eq-eqb}
use Rattle.cell_numbers.specs.Renumbering.{Numbering}

-- numbers

abbrev pub exchanged : ℕ → ℕ → ℕ → ℕ
exchanged a b n = if nat_eq n a then b else (if nat_eq n b then a else n)

-- by what the tests say
pub at_first : (a b n : ℕ) → n ≡ a → exchanged a b n ≡ b
at_first a b n e = ap (λ t. if t then b else (if nat_eq n b then a else n)) (eq-eqb n a e)

pub at_other : (a b n : ℕ) → nat_eq n a ≡ false → nat_eq n b ≡ false → exchanged a b n ≡ n
at_other a b n e g = ap (λ t. if t then b else (if nat_eq n b then a else n)) e ∙ ap (λ t. if t then a else n) g

pub at_second : (a b n : ℕ) → n ≡ b → exchanged a b n ≡ a
at_second a b n e = at (nat_eq n a) refl
  where
    at : (t : Bool) → nat_eq n a ≡ t → (if t then b else (if nat_eq n b then a else n)) ≡ a
    at true g = sym e ∙ eqb-true n a g
    at false g = ap (λ t. if t then a else n) (eq-eqb n b e)

pub exchanged_back : (a b n : ℕ) → exchanged a b (exchanged a b n) ≡ n
exchanged_back a b n = at (nat_eq n a) (nat_eq n b) refl refl
  where
    at : (s t : Bool) → nat_eq n a ≡ s → nat_eq n b ≡ t → exchanged a b (exchanged a b n) ≡ n
    at true t e g = at_second a b (exchanged a b n) (at_first a b n (eqb-true n a e)) ∙ sym (eqb-true n a e)
    at false true e g = at_first a b (exchanged a b n) (at_second a b n (eqb-true n b g)) ∙ sym (eqb-true n b g)
    at false false e g = ap (exchanged a b) (at_other a b n e g) ∙ at_other a b n e g

-- a test that fails
pub not_same : (n k : ℕ) → (n ≡ k → ⊥) → nat_eq n k ≡ false
not_same n k h = at (nat_eq n k) refl
  where
    at : (t : Bool) → nat_eq n k ≡ t → t ≡ false
    at true e = absurd (h (eqb-true n k e))
    at false e = refl

-- numberings

abbrev pub the_same : Numbering
the_same = record { anew = λ c. c; back = λ c. c; back_anew = λ c. refl; anew_back = λ c. refl }

-- and then two of the new numbers are exchanged
abbrev pub and_exchanged : ℕ → ℕ → Numbering → Numbering
and_exchanged a b f = record {
  anew = λ c. exchanged a b (f.anew c);
  back = λ c. f.back (exchanged a b c);
  back_anew = λ c. ap f.back (exchanged_back a b (f.anew c)) ∙ f.back_anew c;
  anew_back = λ c. ap (exchanged a b) (f.anew_back (exchanged a b c)) ∙ exchanged_back a b c;
}

-- two cells don't get one number
pub one_number : (f : Numbering) (c e : ℕ) → f.anew c ≡ f.anew e → c ≡ e
one_number f c e h = sym (f.back_anew c) ∙ ap f.back h ∙ f.back_anew e
