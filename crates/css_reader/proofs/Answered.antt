-- What the reading says of a text is what the grammar says of its bytes.
use Rattle.std.proofs.Common.{◌≡◌, inr, ⊎_elim, ℕ, suc, ◌+◌, Bool, true, false, List, [], ◌∷◌, ◌++◌, Result, Ok, Err, refl, sym, ap, subst, ◌∙◌, take, drop, nat_eq, arith}
use Rattle.std.specs.Prelude.{get_or, if◌then◌else◌}
use Rattle.std.specs.Str.{chars, is_utf8, IsUtf8}
use Rattle.std.proofs.Math.Seq.{drop-cons, take-suc}
use Rattle.std.proofs.lemmas.Bool.Decides.{nat_tests}
use Rattle.std.proofs.lemmas.List.{take-append-drop}
use Rattle.std.proofs.lemmas.Str.{IsUtf8-from_is_utf8}
use Rattle.caja_units.specs.Utf8.{units_of_chars}
use Rattle.css_grammar.specs.Grammar.{Begins}
use Rattle.css_grammar.specs.Refusals.{Refusal, escape, at_rule, syntax, reason, width, Refused, at_unit, at_end}
use Rattle.css_tree.specs.declared.Css.{Css}
use Rattle.css_tree.specs.declared.CssError.{CssError}
use Rattle.css_tree.specs.declared.CssError.TheVariants as e
use Rattle.css_reader.specs.Gives.{StopsIn, Fails, Decoded}
use Rattle.css_reader.specs.Answers.{IsRead, RefusedSo}

-- the unit at which nothing goes on, and its byte
stopped : (u : List ℕ) (i : ℕ) → StopsIn u i → Refused u (reason (get_or u i 0)) (width (take i u))
stopped u i h = at_unit (take i u) (get_or u i 0) (drop (suc i) u) (sym (take-append-drop i u) ∙ ap (λ (z : List ℕ). take i u ++ z) (drop-cons u i 0 h.0)) (h.1, λ b. h.2 (subst Begins (sym more) b))
  where
    more : take (i + 1) u ≡ take i u ++ get_or u i 0 ∷ []
    more = ap (λ j. take j u) (let q : i + 1 ≡ suc i = omega arith in q) ∙ take-suc u i 0 h.0

told : (u : List ℕ) (i p : ℕ) (x : Refusal) → StopsIn u i → reason (get_or u i 0) ≡ x → p ≡ width (take i u) → Refused u x p
told u i p x h f g = subst (λ y. Refused u y p) f (subst (λ q. Refused u (reason (get_or u i 0)) q) (sym g) (stopped u i h))

other : (c : ℕ) → (c ≡ 92 → ⊥) → (c ≡ 64 → ⊥) → reason c ≡ syntax
other c h k =
    let a : nat_eq c 92 ≡ false = grind (arith, nat_tests) in
    let b : nat_eq c 64 ≡ false = grind (arith, nat_tests) in
    ap (λ t. if t then escape else if nat_eq c 64 then at_rule else syntax) a ∙ ap (λ t. if t then at_rule else syntax) b

refused_so : (r : CssError) (bytes : List ℕ) → is_utf8 bytes ≡ true → Fails r (units_of_chars (chars bytes)) → RefusedSo r bytes
refused_so (e.Syntax p) bytes u h =
    inr (
      u,
      ⊎_elim (λ w. subst (λ q. Refused (units_of_chars (chars bytes)) syntax q) (sym w.1) (at_end w.0.0 w.0.1))
          (λ w. told (units_of_chars (chars bytes)) w.0 p syntax w.1 (other (get_or (units_of_chars (chars bytes)) w.0 0) w.2.0.0 w.2.0.1) w.2.1) h,
    )
refused_so (e.Escape p) bytes u h = (u, told (units_of_chars (chars bytes)) h.0 p escape h.1 (ap reason h.2.0) h.2.1)
refused_so (e.AtRule p) bytes u h = (u, told (units_of_chars (chars bytes)) h.0 p at_rule h.1 (ap reason h.2.0) h.2.1)
refused_so e.Memory bytes u h = tt

pub answered : (r : Result Css CssError) (bytes : List ℕ) → is_utf8 bytes ≡ true → Decoded r (units_of_chars (chars bytes)) → IsRead r bytes
answered (Ok c) bytes u h = (u, h)
answered (Err r) bytes u h = refused_so r bytes u h

not_true : (b : Bool) → (b ≡ true → ⊥) → b ≡ false
not_true true h = absurd (h refl)
not_true false h = refl

pub not_utf8 : (bytes : List ℕ) → ¬ (IsUtf8 bytes) → is_utf8 bytes ≡ false
not_utf8 bytes h = not_true (is_utf8 bytes) (λ e. h (IsUtf8-from_is_utf8 bytes e))
