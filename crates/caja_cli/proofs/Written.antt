-- What a call wrote, by how far it came: an input that is too long, or an input that was read.
use Rattle.std.specs.Prelude.{codes, IfSome, IsTrue}
use Rattle.std.proofs.lemmas.Fmt.{decimal_digit}
use Rattle.caja_units.specs.Index.{number_units}
use Rattle.page_log.specs.Log.{line_end}
use Rattle.std.proofs.Common.{◌≡◌, true, false, ℕ, ◌+◌, ◌<◌, ◌≤◌, List, [], ◌∷◌, ◌++◌, Option, Some, None, length, refl, sym, ap, subst, ◌∙◌, ◌⊎◌, inl, inr, arith}
use Rattle.std.proofs.Math.ListN.{replicate}
use Rattle.std.proofs.lemmas.List.{length-replicate}
use Rattle.std.proofs.lemmas.Bool.{lt-ltb, le-ltb}
use Rattle.caja_io.specs.Source.{IsEmptied}
use Rattle.caja_io.specs.Sink.{Appends, AppendsPart}
use Rattle.url_rule.specs.Table.{Row}
use Rattle.command_words.specs.Words.{command_of, longest_input}
use Rattle.caja_cli.specs.Output.{output, command_output, reads, is_reading, reads_input, too_long, refusal, the_page, main_name}
use Rattle.caja_cli.specs.Answered.{IsLeft, Wrote, WrotePart}
use Rattle.command_words.specs.declared.Options.{Options}
use Rattle.command_words.specs.declared.Command.{Command}
use Rattle.command_words.specs.declared.Command.TheVariants.{Solo, Cajole, Format, Run, Page, Gen}
use Rattle.caja_cli.specs.declared.status.Status.{Status}
use Rattle.caja_cli.specs.declared.status.Status.TheVariants.{Refused}

-- the line for an input that is too long, as it is written

refused_at : List ℕ → List ℕ → List ℕ → List ℕ
refused_at who number place = codes "refused " ++ who ++ codes " " ++ codes "input" ++ codes " " ++ number ++ codes " " ++ place ++ line_end

too_long_text : (who : List ℕ) → refusal who (codes "input") 1 0 ≡ codes "refused " ++ who ++ codes " " ++ codes "input" ++ codes " " ++ (49 ∷ []) ++ codes " " ++ (48 ∷ []) ++ line_end
unfolding refused_at
too_long_text who = ap (λ (n : List ℕ). refused_at who n (number_units 0)) (decimal_digit 1 (omega arith)) ∙ ap (refused_at who (49 ∷ [])) (decimal_digit 0 (omega arith))

pub of_page : (c : Command) → ((o : Options) × (c ≡ Page o)) ⊎ ((o : Options) × (c ≡ Run o)) → codes "refused - input 1 0" ++ line_end ≡ too_long c
of_page c (inl h) = sym (ap too_long h.1 ∙ too_long_text the_page)
of_page c (inr h) = sym (ap too_long h.1 ∙ too_long_text the_page)

pub of_module : (c : Command) → ((o : Options) × (c ≡ Solo o)) ⊎ ((c ≡ Cajole) ⊎ ((c ≡ Format) ⊎ ((n : ℕ) × (o : Options) × (c ≡ Gen n o)))) → codes "refused main input 1 0" ++ line_end ≡ too_long c
of_module c (inl h) = sym (ap too_long h.1 ∙ too_long_text main_name)
of_module c (inr (inl h)) = sym (ap too_long h ∙ too_long_text main_name)
of_module c (inr (inr (inl h))) = sym (ap too_long h ∙ too_long_text main_name)
of_module c (inr (inr (inr h))) = sym (ap too_long h.2 ∙ too_long_text main_name)

output-too_long : (rule : List Row) (words : List (List ℕ)) (c : Command) (input : List ℕ) → command_of words ≡ Some c → longest_input c < length input → output rule words input ≡ (too_long c, Refused)
output-too_long rule words c input command far = rw (command, lt-ltb (longest_input c) (length input) far) refl

output-read : (rule : List Row) (words : List (List ℕ)) (c : Command) (input : List ℕ) → command_of words ≡ Some c → length input ≤ longest_input c → output rule words input ≡ command_output rule c input
output-read rule words c input command near = rw (command, le-ltb (longest_input c) (length input) near) refl

-- an input of more bytes than n: what was left where the source tells it, and else any
pub record Longer (n : ℕ) (left : Option (List ℕ)) : Type 0 where
  pub input : List ℕ
  pub of_source : IsLeft left input
  pub far : n < length input

longer : (n : ℕ) (left : Option (List ℕ)) → IfSome left (λ all. n < length all) → Longer n left
longer n (Some all) far = record { input = all; of_source = refl; far = far }
longer n None _ = record { input = replicate {A = ℕ} (n + 1) 0; of_source = tt; far = omega (arith, length-replicate {A = ℕ} (n + 1) 0) }

is_left : (left : Option (List ℕ)) (input : List ℕ) → IfSome left (λ all. input ≡ all) → IsLeft left input
is_left (Some all) input e = sym e
is_left None input _ = tt

pub wrote-too_long : (rule : List Row) (words : List (List ℕ)) (c : Command) (status : Status) (left left' written written' : Option (List ℕ)) → (limit : ℕ) (bytes : List ℕ) → command_of words ≡ Some c → limit ≡ longest_input c → IfSome left (λ all. limit < length all) → bytes ≡ too_long c → Appends written written' bytes → status ≡ Refused → Wrote rule words status left left' written written'
wrote-too_long rule words c status left left' written written' limit bytes command same far line appends refused =
    let l = longer (longest_input c) left (subst (λ (n : ℕ). IfSome left (λ all. n < length all)) same far) in
    let e = output-too_long rule words c l.input command l.far in
    let beyond : longest_input c < length l.input = l.far in
    record {
      input = l.input;
      of_source = λ _. l.of_source;
      read = λ d is reading near. let same : d ≡ c = cc in absurd (let close : length l.input ≤ longest_input c = subst (λ (e : Command). length l.input ≤ longest_input e) same near in omega (arith, beyond, close));
      bytes = subst (λ (o : List ℕ × Status). Appends written written' o.0) (sym e) (subst (λ (b : List ℕ). Appends written written' b) line appends);
      result = ap (λ (o : List ℕ × Status). o.1) e ∙ sym refused;
    }

pub wrote_part-too_long : (rule : List Row) (words : List (List ℕ)) (c : Command) (left written written' : Option (List ℕ)) → (limit : ℕ) (bytes : List ℕ) → command_of words ≡ Some c → limit ≡ longest_input c → IfSome left (λ all. limit < length all) → bytes ≡ too_long c → AppendsPart written written' bytes → WrotePart rule words left written written'
wrote_part-too_long rule words c left written written' limit bytes command same far line part =
    let l = longer (longest_input c) left (subst (λ (n : ℕ). IfSome left (λ all. n < length all)) same far) in
    record {
      input = l.input;
      of_source = λ _. l.of_source;
      bytes = subst (λ (o : List ℕ × Status). AppendsPart written written' o.0) (sym (output-too_long rule words c l.input command l.far)) (subst (λ (b : List ℕ). AppendsPart written written' b) line part);
    }

pub wrote-read : (rule : List Row) (words : List (List ℕ)) (c : Command) (status : Status) (left left' written written' : Option (List ℕ)) (all input text bytes : List ℕ) (given_status : Status) → command_of words ≡ Some c → IfSome left (λ told. all ≡ told) → length all ≤ longest_input c → IsEmptied left left' → input ≡ all → text ≡ (command_output rule c input).0 → bytes ≡ text → given_status ≡ (command_output rule c input).1 → Appends written written' bytes → status ≡ given_status → Wrote rule words status left left' written written'
wrote-read rule words c status left left' written written' all input text bytes given_status command told near emptied same defined given ends appends is =
    let o : (command_output rule c input) ≡ output rule words all = ap (command_output rule c) same ∙ sym (output-read rule words c all command near) in
    record {
      input = all;
      of_source = λ _. is_left left all told;
      read = λ d also reading close. emptied;
      bytes = subst (λ (b : List ℕ). Appends written written' b) (given ∙ defined ∙ ap (λ (r : List ℕ × Status). r.0) o) appends;
      result = sym (is ∙ ends ∙ ap (λ (r : List ℕ × Status). r.1) o);
    }

pub wrote_part-read : (rule : List Row) (words : List (List ℕ)) (c : Command) (left written written' : Option (List ℕ)) (all input text bytes : List ℕ) → command_of words ≡ Some c → IfSome left (λ told. all ≡ told) → length all ≤ longest_input c → input ≡ all → text ≡ (command_output rule c input).0 → bytes ≡ text → AppendsPart written written' bytes → WrotePart rule words left written written'
wrote_part-read rule words c left written written' all input text bytes command told near same defined given part =
    let e : text ≡ (output rule words all).0 = defined ∙ ap (λ (i : List ℕ). (command_output rule c i).0) same ∙ sym (ap (λ (o : List ℕ × Status). o.0) (output-read rule words c all command near)) in
    record {
      input = all;
      of_source = λ _. is_left left all told;
      bytes = subst (λ (b : List ℕ). AppendsPart written written' b) (given ∙ e) part;
    }

-- of a command that reads nothing

output-made : (rule : List Row) (words : List (List ℕ)) (c : Command) → command_of words ≡ Some c → output rule words [] ≡ command_output rule c []
output-made rule words c command = output-read rule words c [] command (near c)
  where
    near : (c : Command) → 0 ≤ longest_input c
    near c = omega arith

unread : {A : Type 0} (words : List (List ℕ)) (c : Command) → command_of words ≡ Some c → reads c ≡ false → IsTrue (reads_input words) → A
unread words c command none reading = let never : false ≡ true = sym none ∙ sym (ap is_reading command) ∙ reading in absurd cc

never_read : {A : Type 0} (words : List (List ℕ)) (c d : Command) → command_of words ≡ Some c → command_of words ≡ Some d → reads c ≡ false → IsTrue (reads d) → A
never_read words c d command also none reading = let same : c ≡ d = cc in let never : false ≡ true = sym none ∙ ap reads same ∙ reading in absurd cc

pub wrote-made : (rule : List Row) (words : List (List ℕ)) (c : Command) (status : Status) (left left' written written' : Option (List ℕ)) (input text bytes : List ℕ) (given_status : Status) → command_of words ≡ Some c → reads c ≡ false → input ≡ []
    → text ≡ (command_output rule c input).0 → bytes ≡ text → given_status ≡ (command_output rule c input).1 → Appends written written' bytes → status ≡ given_status → Wrote rule words status left left' written written'
wrote-made rule words c status left left' written written' input text bytes given_status command none empty defined given ends appends is =
    let o : command_output rule c input ≡ output rule words [] = ap (command_output rule c) empty ∙ sym (output-made rule words c command) in
    record {
      input = [];
      of_source = λ reading. unread words c command none reading;
      read = λ d also reading close. never_read words c d command also none reading;
      bytes = subst (λ (b : List ℕ). Appends written written' b) (given ∙ defined ∙ ap (λ (r : List ℕ × Status). r.0) o) appends;
      result = sym (is ∙ ends ∙ ap (λ (r : List ℕ × Status). r.1) o);
    }

pub wrote_part-made : (rule : List Row) (words : List (List ℕ)) (c : Command) (left written written' : Option (List ℕ)) (input text bytes : List ℕ) → command_of words ≡ Some c → reads c ≡ false → input ≡ []
    → text ≡ (command_output rule c input).0 → bytes ≡ text → AppendsPart written written' bytes → WrotePart rule words left written written'
wrote_part-made rule words c left written written' input text bytes command none empty defined given part =
    let e : text ≡ (output rule words []).0 = defined ∙ ap (λ (i : List ℕ). (command_output rule c i).0) empty ∙ sym (ap (λ (o : List ℕ × Status). o.0) (output-made rule words c command)) in
    record {
      input = [];
      of_source = λ reading. unread words c command none reading;
      bytes = subst (λ (b : List ℕ). AppendsPart written written' b) (given ∙ e) part;
    }
