-- The prelude is a source that is read and breaks no rule: by computation.
use Rattle.std.proofs.Common.{◌≡◌, ℕ, zero, suc, ◌<◌, ◌≤◌, ◌&&◌, List, [], ◌∷◌, Ok, Err, Bool, true, false, refl, sym, ap, ◌∙◌, arith, length}
use Rattle.std.specs.Prelude.{nat_lt}
use Rattle.std.specs.List.{All, list_all}
use Rattle.std.proofs.lemmas.List.Elements.{All-nil, All-cons}
use Rattle.std.proofs.lemmas.Bool.Decides.{nat_tests}
use Rattle.es3_tree.specs.Tree as t
use Rattle.es3_tree.specs.Placed as p
use Rattle.es3_tree.specs.Placed.{Placed}
use Rattle.es3_labels.specs.Misplaced.{misplaced}
use Rattle.es3_tokens.specs.Longest.{longest}
use Rattle.es3_tokens.specs.Texts.{body}
use Rattle.es3_tokens.specs.Gaps.{comment_end}
use Rattle.es3_tokens.specs.Tokens as tokens
use Rattle.es3_tokens.specs.Cut as cut
use Rattle.es3_tokens.specs.Cut.{point}
use Rattle.es3_tokens.specs.Quick.{quick_from}
use Rattle.es3_tokens.proofs.BackSources.{cut_ascii}
use Rattle.es3_tokens.proofs.Quick.{quick_same}
use Rattle.es3_grammar.specs.Spots.{spots, look_up}
use Rattle.es3_grammar.specs.Machine.{settle, resume, step, all_of, run, finished}
use Rattle.es3_grammar.specs.Within.{Reading, program, broken, refused, too_deep, read_within}
use Rattle.es3_grammar.specs.Answers.{answer_of}
use Rattle.es3_grammar.specs.Answers as answers
use Rattle.es3_grammar.specs.Sums.{read_quickly, run_quickly}
use Rattle.es3_grammar.proofs.Quickly.{read_same}
use Rattle.cajita_names.specs.Declarations.{declarations}
use Rattle.cajita_rules.specs.Faults.{Fault, faults, faults_in}
use Rattle.valija_prelude.specs.Text.{with_line_ends, lines, prelude_text}
use Rattle.valija_prelude.specs.Read.{spelled_in, statements_in, prelude_statements, IsAccepted}

both_true : (a b : Bool) → (a && b) ≡ true → (a ≡ true) × (b ≡ true)
both_true true true e = (refl, refl)
both_true true false e = absurd cc
both_true false b e = absurd cc

below : (b : ℕ) → nat_lt b 128 ≡ true → b < 128
below b h = grind (arith, nat_tests)

all_below : (s : List ℕ) → list_all (λ b. nat_lt b 128) s ≡ true → All (λ b. b < 128) s
all_below [] h = All-nil (λ b. b < 128)
all_below (c ∷ s) h = let g = both_true (nat_lt c 128) (list_all (λ b. nat_lt b 128) s) h in All-cons (λ b. b < 128) c s (below c g.0) (all_below s g.1)

-- what is read of the tokens of a source, and whether that breaks no rule
abbrev read_tokens : cut.Answer → Reading
read_tokens (Ok ts) = read_quickly 128 (spots ts)
read_tokens (Err e) = broken

abbrev no_faults : List Fault → Bool
no_faults [] = true
no_faults (f ∷ fs) = false

abbrev is_good : Reading → Bool
is_good (program (p.script ss)) = no_faults (faults [] ss)
is_good r = false

of_faults : (fs : List Fault) → no_faults fs ≡ true → fs ≡ []
of_faults [] h = refl
of_faults (f ∷ fs) h = absurd cc

statements_are : (ts : List tokens.Placed) → cut.cut (length prelude_text) prelude_text ≡ Ok ts → (ss : Placed t.stmts) → read_within 128 (spots ts) ≡ program (p.script ss) → prelude_statements ≡ ss
unfolding prelude_statements
statements_are ts e ss r = ap (spelled_in prelude_text) e ∙ ap (λ a. statements_in (answer_of (length prelude_text) a)) r

of_reading : (ts : List tokens.Placed) → cut.cut (length prelude_text) prelude_text ≡ Ok ts → (r : Reading) → read_within 128 (spots ts) ≡ r → is_good r ≡ true → IsAccepted
of_reading ts e (program (p.script ss)) r h =
    let same = sym (statements_are ts e ss r) in
    record { spelled_by = ts; cut = e; read = ap (answer_of (length prelude_text)) r ∙ ap (λ x. answers.read (p.script x)) same; rules = ap (faults []) (sym same) ∙ of_faults (faults [] ss) h }
of_reading ts e broken r h = absurd cc
of_reading ts e (refused k) r h = absurd cc
of_reading ts e (too_deep k) r h = absurd cc

of_answer : (a : cut.Answer) → cut.cut (length prelude_text) prelude_text ≡ a → is_good (read_tokens a) ≡ true → IsAccepted
of_answer (Ok ts) e h = of_reading ts e (read_quickly 128 (spots ts)) (sym (read_same 128 (spots ts))) h
of_answer (Err r) e h = absurd cc

prelude_is_good : is_good (read_tokens (quick_from 0 0 false true prelude_text)) ≡ true
unfolding longest body comment_end point quick_from look_up settle resume step all_of finished run run_quickly faults_in declarations misplaced
prelude_is_good = refl

no_longer : (s : List ℕ) → length s ≤ length s
no_longer s = grind (arith)

pub prelude_is_accepted : IsAccepted
prelude_is_accepted =
    of_answer (quick_from 0 0 false true prelude_text)
    (cut_ascii (length prelude_text) prelude_text (no_longer prelude_text) (all_below prelude_text refl) ∙ sym (quick_same 0 0 false true prelude_text))
    prelude_is_good
