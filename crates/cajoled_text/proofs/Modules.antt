-- The program that stands for a module: tokens spell it where they spell the rewritten parts of the module.
use Rattle.std.proofs.Common.{ℕ, ◌+◌, ◌<◌, true, List, [], ◌∷◌, None, refl, arith}
use Rattle.std.specs.Prelude.{codes}
use Rattle.es3_tree.specs.Tree as t
use Rattle.es3_tree.specs.Token.{name}
use Rattle.es3_tokens.specs.Back.{IsToken}
use Rattle.es3_printed.specs.Back.{IsSpelled}
use Rattle.es3_printed.proofs.Written.{name_small}
use Rattle.cajita_tree.specs.Tree as c
use Rattle.cajita_rewrite.specs.Rewrite.{runtime_name, imports_name, result_name, runtime_call, pair, import_stmts, result_stmts, load_stmt, head_items, temps, rewritten, program_of}
use Rattle.source_sizes.specs.Sizes.{inner_temps, temps_everywhere}
use Rattle.cajoled_text.specs.Clean.{AreNames, Clean}
use Rattle.cajoled_text.proofs.Forms.{Written, Expression, literal, named, function, no_more, more}
use Rattle.cajoled_text.proofs.Calls.{called}
use Rattle.cajoled_text.proofs.Statements.{no_value, value, item, variables, some_expr, one_before, no_stmts, more_stmts, statement, returned}
use Rattle.cajoled_text.proofs.Bodies.{body_of, func, spelled}
use Rattle.cajoled_text.proofs.Parts.{head_listed}
use Rattle.cajoled_text.proofs.Spelled as parts

-- ---- what the rewriting itself writes

runtime : IsToken (name runtime_name)
runtime = (refl, refl)

imports : IsToken (name imports_name)
imports = (refl, refl)

result : IsToken (name result_name)
result = (refl, refl)

returns_result : Written t.stmts 1 result_stmts
returns_result = (body_of _ (more_stmts _ _ (returned _ (some_expr _ (named result_name result))) no_stmts)).whole

loads : (ss : t.Tree t.stmts) → Written t.stmts 1 ss → IsSpelled (t.script (t.more_stmts (load_stmt ss) t.no_stmts))
loads ss q =
    let load = called (codes "loadModule") _ (refl, refl) (more _ _ (function _ (func None (runtime_name ∷ imports_name ∷ []) ss tt (runtime, (imports, tt)) q)) no_more) in
    spelled _ (body_of _ (more_stmts _ _ (statement _ load) no_stmts)).whole

-- 12.2: each import is a variable of the module, read from what the loader gives
imported : (x : List ℕ) → IsToken (name x) → Expression (runtime_call (codes "readImport") (pair (t.name imports_name) (t.text x)))
imported x i = called (codes "readImport") _ (refl, refl) (more _ _ (named imports_name imports) (more _ _ (literal x (name_small x i.0)) no_more))

all_imported : (xs : List (List ℕ)) (ss : t.Tree t.stmts) → AreNames xs → Written t.stmts 1 ss → Written t.stmts 1 (import_stmts xs ss)
all_imported [] ss h q = q
all_imported (x ∷ xs) ss h q = one_before _ (import_stmts xs ss) (variables _ (item x _ t.no_items h.0 (value _ (imported x h.0)) tt)) (all_imported xs ss h.1 q)

-- ---- the module

body_few : (xs : List (List ℕ)) (b : c.Tree c.body) → temps_everywhere (c.a_module xs b) < 18446744073709551616 → temps c.body b + inner_temps c.body b < 18446744073709551616
unfolding inner_temps
body_few xs (c.a_body fs vars list) few = few

pub module_is_spelled : (m : c.Tree c.program) → Clean c.program m → temps_everywhere m < 18446744073709551616 → IsSpelled (program_of m)
unfolding Clean rewritten
module_is_spelled (c.a_module xs b) h few =
    let its_own = body_few xs b few in
    let head = variables _ (item result_name t.no_expr (head_items b) result no_value (head_listed b h.1 (omega arith))) in
    loads _ (one_before _ _ head (all_imported xs _ h.0 ((parts.spelled c.body b h.1 true its_own).with_rest result_stmts returns_result)))
