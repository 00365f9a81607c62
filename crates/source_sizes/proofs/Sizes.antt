-- A source takes few temporaries: three at most for each of its bytes.
use Rattle.std.proofs.Common.{◌≡◌, ℕ, ◌+◌, ◌*◌, ◌<◌, ◌≤◌, List, Option, Some, None, Ok, length, subst, arith}
use Rattle.std.proofs.lemmas.List.{length-map}
use Rattle.std.specs.Prelude.{IfSome}
use Rattle.es3_tree.specs.Tree as t
use Rattle.es3_tree.specs.Placed as p
use Rattle.es3_tree.specs.Placed.{Placed}
use Rattle.es3_tokens.specs.Tokens as tokens
use Rattle.es3_tokens.specs.Cut.{cut}
use Rattle.es3_grammar.specs.Spots.{Spot, spots}
use Rattle.es3_grammar.specs.Grammar.{free, Spells, spells}
use Rattle.cajita_tree.specs.Tree as c
use Rattle.cajita_names.specs.Once.{vars_of}
use Rattle.cajita_forms.specs.Options.{one, both}
use Rattle.cajita_rewrite.specs.Rewrite.{temps}
use Rattle.scope_rules.specs.Resolve.{of_sort, resolved, declared_functions, imports_of, module_of}
use Rattle.source_sizes.specs.Sizes.{statements, writes, inner_writes, temps_of, inner_temps, temps_everywhere}
use Rattle.source_sizes.proofs.Counted.{Few, few, few_in_body, a_plain_body}
use Rattle.source_sizes.proofs.Spelled.{all_writes_have_tokens}
use Rattle.source_sizes.proofs.Cut.{tokens_fit, source_fits}

pub few_temporaries : (s : t.Sort) (x : Placed s) (y : c.Tree (of_sort s)) → resolved s x ≡ Some y → temps (of_sort s) y ≤ 3 * writes s x
few_temporaries s x y e = (subst (λ o. IfSome o (λ z. (temps (of_sort s) z ≤ 3 * writes s x) × (inner_temps (of_sort s) z ≤ 3 * inner_writes s x))) e ((few s x).most)).0

of_body : (xs : List (List ℕ)) (vs : List (List ℕ)) (n k : ℕ) (o : Option (c.Tree c.funcs)) (u : Option (c.Tree c.stmts)) → Few c.body n k (both a_plain_body o u) →
    IfSome (one (c.a_module xs) (both (λ fs ss. c.a_body fs vs ss) o u)) (λ m. temps_everywhere m ≤ 3 * (n + k))
unfolding inner_temps
of_body xs vs n k None u h = tt
of_body xs vs n k (Some fs) None h = tt
of_body xs vs n k (Some fs) (Some ss) h = omega (arith, h.most)

of_module : (grants : List (List ℕ)) (ss : Placed t.stmts) (m : c.Tree c.program) → module_of grants ss ≡ Some m → temps_everywhere m ≤ 3 * (writes t.stmts ss + inner_writes t.stmts ss)
of_module grants ss m e =
    subst (λ o. IfSome o (λ q. temps_everywhere q ≤ 3 * (writes t.stmts ss + inner_writes t.stmts ss))) e
    (of_body (imports_of grants ss) (vars_of ss) (writes t.stmts ss) (inner_writes t.stmts ss) (declared_functions ss) (resolved t.stmts ss) (few_in_body ss))

of_program : (q : Placed t.program) (ts : List tokens.Placed) → spells q ts → writes t.stmts (statements q) + inner_writes t.stmts (statements q) ≤ length ts
unfolding writes inner_writes
of_program (p.script ss) ts h = omega (arith, all_writes_have_tokens t.program free 0 (p.script ss) (spots ts) h, length-map {B = Spot} ts (λ r. (r.token, r.start)))

-- three at most for each of the tokens
pub three_a_token : (u : List Spot) (q : Placed t.program) (grants : List (List ℕ)) (m : c.Tree c.program) → Spells t.program free 0 q u → module_of grants (statements q) ≡ Some m → temps_everywhere m ≤ 3 * length u
unfolding writes inner_writes
three_a_token u (p.script ss) grants m h i = omega (arith, all_writes_have_tokens t.program free 0 (p.script ss) u h, of_module grants ss m i)

pub three_a_byte_everywhere : (n : ℕ) (source : List ℕ) (q : Placed t.program) (ts : List tokens.Placed) (grants : List (List ℕ)) (m : c.Tree c.program) →
    cut n source ≡ Ok ts → spells q ts → module_of grants (statements q) ≡ Some m → temps_everywhere m ≤ 3 * length source
three_a_byte_everywhere n source q ts grants m e h i = omega (arith, tokens_fit n source ts e, of_program q ts h, of_module grants (statements q) m i)

pub three_a_byte : (n : ℕ) (source : List ℕ) (q : Placed t.program) (ts : List tokens.Placed) (grants : List (List ℕ)) (m : c.Tree c.program) →
    cut n source ≡ Ok ts → spells q ts → module_of grants (statements q) ≡ Some m → temps_of m ≤ 3 * length source
three_a_byte n source q ts grants m e h i = omega (arith, three_a_byte_everywhere n source q ts grants m e h i)

pub below_the_limit_everywhere : (source : List ℕ) (q : Placed t.program) (ts : List tokens.Placed) (grants : List (List ℕ)) (m : c.Tree c.program) →
    cut 524288 source ≡ Ok ts → spells q ts → module_of grants (statements q) ≡ Some m → temps_everywhere m < 4294967296
below_the_limit_everywhere source q ts grants m e h i = omega (arith, three_a_byte_everywhere 524288 source q ts grants m e h i, source_fits 524288 source ts e)

pub below_the_limit : (source : List ℕ) (q : Placed t.program) (ts : List tokens.Placed) (grants : List (List ℕ)) (m : c.Tree c.program) →
    cut 524288 source ≡ Ok ts → spells q ts → module_of grants (statements q) ≡ Some m → temps_of m < 4294967296
below_the_limit source q ts grants m e h i = omega (arith, below_the_limit_everywhere source q ts grants m e h i)
