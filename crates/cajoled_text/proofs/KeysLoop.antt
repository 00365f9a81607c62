-- A loop over keys is spelled where its object, what is written and its body are (ES3 12.6.4): the form that stands for a `for .. in` loop.
use Rattle.std.proofs.Common.{ℕ, ◌+◌, ◌<◌, true, false, refl, arith, lit<}
use Rattle.std.specs.Prelude.{pos, codes}
use Rattle.es3_tree.specs.Tree as t
use Rattle.es3_tree.specs.declared.BinOp.TheVariants as bin
use Rattle.rewrite_parts.specs.Parts.{temp_name, temp, key_of, keys_loop}
use Rattle.cajoled_text.proofs.Forms.{Written, Expression, number, index, member}
use Rattle.cajoled_text.proofs.Forms as form
use Rattle.cajoled_text.proofs.Temporaries.{temp_token}
use Rattle.cajoled_text.proofs.Calls.{of_one, of_two, operation, temporary, held, after_two}
use Rattle.cajoled_text.proofs.Statements.{some_expr, no_stmts, more_stmts, block, branch_alone, first_expr, for_loop}

-- `x1___[x2___]`
pub its_key : (n : ℕ) → n + 2 < 18446744073709551616 → Expression (key_of n)
its_key n few = index _ _ (temporary (n + 1) (omega arith)) (temporary (n + 2) few)

pub over_keys : (n : ℕ) (e : t.Tree t.expr) (written body : t.Tree t.stmt) → n + 2 < 18446744073709551616 → Expression e → Written t.stmt 0 written → Written t.stmt 0 body
    → Written t.stmt 0 (keys_loop n e written body)
over_keys n e written body few p q r =
    let object = temporary n (omega arith) in
    let keys = of_one (codes "keysPub") _ (refl, refl) object in
    let first = first_expr _ (after_two n e _ _ (omega arith) p keys (held (n + 2) (t.num (pos 0)) few (number (pos 0) (0, refl, lit< tt)))) in
    let within = some_expr _ (operation bin.Less _ _ (temporary (n + 2) few) (member (temp (n + 1)) (codes "length") (temporary (n + 1) (omega arith)) (refl, refl))) in
    let next = some_expr _ (form.step true false (temp_name (n + 2)) (temp_token (n + 2) few)) in
    let has = of_two (codes "inPub") _ _ (refl, refl) (its_key n few) object in
    let inside = block _ (more_stmts written _ q (more_stmts body _ r no_stmts)) in
    for_loop _ _ _ _ first within next (block _ (more_stmts _ _ (branch_alone _ _ has inside) no_stmts))
