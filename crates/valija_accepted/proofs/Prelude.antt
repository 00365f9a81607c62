-- The prelude is one `var` that calls a function: it breaks no rule before a lowered program either.
use Rattle.std.proofs.Common.{◌≡◌, ℕ, ◌<◌, ◌≤◌, ◌&&◌, Bool, true, false, List, [], ◌∷◌, None, Ok, Err, refl, sym, ap, ◌∙◌, arith, length}
use Rattle.std.specs.Prelude.{nat_lt}
use Rattle.std.specs.List.{All, list_all}
use Rattle.std.proofs.lemmas.List.Elements.{All-nil, All-cons}
use Rattle.std.proofs.lemmas.Bool.Decides.{nat_tests}
use Rattle.caja_units.specs.Units.{same_units}
use Rattle.es3_tree.specs.Tree as t
use Rattle.es3_tree.specs.Placed as p
use Rattle.es3_tree.specs.Placed.{Placed, Word}
use Rattle.es3_tokens.specs.Longest.{longest}
use Rattle.es3_tokens.specs.Texts.{body}
use Rattle.es3_tokens.specs.Gaps.{comment_end}
use Rattle.es3_tokens.specs.Tokens as tokens
use Rattle.es3_tokens.specs.Cut as cut
use Rattle.es3_tokens.specs.Cut.{point}
use Rattle.es3_tokens.specs.Quick.{quick_from}
use Rattle.es3_tokens.proofs.BackSources.{cut_ascii}
use Rattle.es3_tokens.proofs.Quick.{quick_same}
use Rattle.es3_grammar.specs.Spots.{spots, look_up}
use Rattle.es3_grammar.specs.Machine.{settle, resume, step, all_of, run, finished}
use Rattle.es3_grammar.specs.Within.{Reading, program, broken, refused, too_deep, read_within}
use Rattle.es3_grammar.specs.Answers.{answer_of}
use Rattle.es3_grammar.specs.Sums.{read_quickly, run_quickly}
use Rattle.es3_grammar.proofs.Quickly.{read_same}
use Rattle.valija_forms.specs.Forms.{prelude_name}
use Rattle.valija_prelude.specs.Text.{prelude_text}
use Rattle.valija_prelude.specs.Read.{spelled_in, statements_in, prelude_statements}
use Rattle.valija_accepted.proofs.Lists.{never}
use Rattle.valija_accepted.proofs.Module.{IsPrelude}

-- ---- `var $v = (function () { .. })();`

abbrev is_prelude : Placed t.stmts → Bool
is_prelude (p.more_stmts (p.var (p.more_items x (p.some_expr (p.call (p.function (p.fun None [] body at)) p.no_exprs)) p.no_items)) p.no_stmts) = same_units x.text prelude_name
is_prelude ss = false

of_test : (ss : Placed t.stmts) → is_prelude ss ≡ true → IsPrelude ss
of_test (p.more_stmts (p.var (p.more_items x (p.some_expr (p.call (p.function (p.fun None [] body at)) p.no_exprs)) p.no_items)) p.no_stmts) e = record { named = x; body = body; at = at; spelled = refl; name = e }
of_test ss e = never e

-- ---- by computation, as in the proof that it is accepted

both_true : (a b : Bool) → (a && b) ≡ true → (a ≡ true) × (b ≡ true)
both_true true true e = (refl, refl)
both_true true false e = absurd cc
both_true false b e = absurd cc

below : (b : ℕ) → nat_lt b 128 ≡ true → b < 128
below b h = grind (arith, nat_tests)

all_below : (s : List ℕ) → list_all (λ b. nat_lt b 128) s ≡ true → All (λ b. b < 128) s
all_below [] h = All-nil (λ b. b < 128)
all_below (c ∷ s) h = let g = both_true (nat_lt c 128) (list_all (λ b. nat_lt b 128) s) h in All-cons (λ b. b < 128) c s (below c g.0) (all_below s g.1)

abbrev read_tokens : cut.Answer → Reading
read_tokens (Ok ts) = read_quickly 128 (spots ts)
read_tokens (Err e) = broken

abbrev is_read : Reading → Bool
is_read (program (p.script ss)) = is_prelude ss
is_read r = false

statements_are : (ts : List tokens.Placed) → cut.cut (length prelude_text) prelude_text ≡ Ok ts → (ss : Placed t.stmts) → read_within 128 (spots ts) ≡ program (p.script ss) → prelude_statements ≡ ss
unfolding prelude_statements
statements_are ts e ss r = ap (spelled_in prelude_text) e ∙ ap (λ a. statements_in (answer_of (length prelude_text) a)) r

of_reading : (ts : List tokens.Placed) → cut.cut (length prelude_text) prelude_text ≡ Ok ts → (r : Reading) → read_within 128 (spots ts) ≡ r → is_read r ≡ true → is_prelude prelude_statements ≡ true
of_reading ts e (program (p.script ss)) r h = ap is_prelude (statements_are ts e ss r) ∙ h
of_reading ts e broken r h = never h
of_reading ts e (refused k) r h = never h
of_reading ts e (too_deep k) r h = never h

of_answer : (a : cut.Answer) → cut.cut (length prelude_text) prelude_text ≡ a → is_read (read_tokens a) ≡ true → is_prelude prelude_statements ≡ true
of_answer (Ok ts) e h = of_reading ts e (read_quickly 128 (spots ts)) (sym (read_same 128 (spots ts))) h
of_answer (Err r) e h = never h

prelude_is_read : is_read (read_tokens (quick_from 0 0 false true prelude_text)) ≡ true
unfolding longest body comment_end point quick_from look_up settle resume step all_of finished run run_quickly
prelude_is_read = refl

no_longer : (s : List ℕ) → length s ≤ length s
no_longer s = grind (arith)

pub the_prelude : IsPrelude prelude_statements
the_prelude = of_test prelude_statements (of_answer (quick_from 0 0 false true prelude_text)
    (cut_ascii (length prelude_text) prelude_text (no_longer prelude_text) (all_below prelude_text refl) ∙ sym (quick_same 0 0 false true prelude_text))
    prelude_is_read)
