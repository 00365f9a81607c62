-- Reading back: the tokens of the printed text spell the tree.
use Rattle.std.proofs.Common.{◌≡◌, ◌≤◌, ℕ, false, true, List, [], ◌∷◌, map, refl, sym, ap, subst, ◌∙◌, arith}
use Rattle.std.specs.Prelude.{Ok}
use Rattle.std.specs.List.{All}
use Rattle.std.proofs.lemmas.List.Elements.{All-map}
use Rattle.es3_tree.specs.Tree as t
use Rattle.es3_tree.specs.Placed.{Placed}
use Rattle.es3_tree.specs.Measure.{nest}
use Rattle.es3_tokens.specs.Tokens as tokens
use Rattle.es3_tokens.specs.Cut as cut
use Rattle.es3_tokens.specs.Back.{IsToken}
use Rattle.es3_grammar.specs.Spots.{spots}
use Rattle.es3_grammar.specs.Grammar.{free, spells}
use Rattle.es3_grammar.specs.Plain.{plain}
use Rattle.es3_grammar.specs.Limit.{Within}
use Rattle.es3_grammar.specs.Answers.{answer_of}
use Rattle.es3_grammar.proofs.Limits.{within_complete}
use Rattle.es3_printed.specs.Tokens.{bare, printed}
use Rattle.es3_printed.specs.Safe.{is_safe}
use Rattle.es3_printed.specs.Back.{IsSpelled, IsReadBack}
use Rattle.es3_printed.proofs.Shown.{kinds, Shown, Found}
use Rattle.es3_printed.proofs.ShownTrees.{shown}
use Rattle.es3_printed.proofs.SourceTokens.{cut_tokens}
use Rattle.es3_printed.proofs.Written.{written}
use Rattle.es3_printed.proofs.SidesOfTrees.{sides_of}
use Rattle.es3_printed.proofs.Marks.{all_words, cut_back}
use Rattle.es3_printed.proofs.SafeText.{safe_program}
use Rattle.es3_printed.proofs.PrintedBrackets.{few_brackets}

kinds-spots : (ts : List tokens.Placed) → kinds (spots ts) ≡ map (λ t. t.token) ts
kinds-spots [] = refl
kinds-spots (t ∷ ts) = ap (λ z. t.token ∷ z) (kinds-spots ts)

within : (p : t.Tree t.program) (ts : List tokens.Placed) (found : Found t.program free 0 p (spots ts)) → kinds (spots ts) ≡ bare t.program false p
    → (limit : ℕ) → nest t.program p ≤ limit → Within limit found.tree (spots ts)
within p ts found is limit le =
    let few = few_brackets p (spots ts) is in
    record { spelled = found.spelled; shallow = subst (λ z. nest t.program z ≤ limit) (sym found.same) le; few = omega (arith, few, le) }

all_tokens : (p : t.Tree t.program) → IsSpelled p → All IsToken (bare t.program false p)
all_tokens p h = subst (λ z. All IsToken (bare t.program false z)) h.same (written t.program free 0 h.tree h.by h.spelled h.tokens false)

pub safe_where_spelled : (p : t.Tree t.program) → IsSpelled p → is_safe (printed p) ≡ true
safe_where_spelled p h = safe_program p (all_words (bare t.program false p) (all_tokens p h))

pub read_back : (p : t.Tree t.program) → IsSpelled p → IsReadBack p
read_back p h =
    let anywhere : Shown t.program free 0 p (bare t.program false p) = subst (λ z. Shown t.program free 0 z (bare t.program false z)) h.same (shown h.tree h.by h.spelled) in
    let back = cut_back (bare t.program false p) (sides_of p) (all_tokens p h) in
    let is : kinds (spots back.by) ≡ bare t.program false p = kinds-spots back.by ∙ back.same in
    let found = anywhere (spots back.by) is in
    record {
      by = back.by;
      tree = found.tree;
      cut = back.cut;
      same = found.same;
      spelled = found.spelled;
      read = λ limit end le. ap (answer_of end) (within_complete limit found.tree (spots back.by) (within p back.by found is limit le));
    }

-- what is read of a source is such a tree
pub spelled_where_read : (limit : ℕ) (source : List ℕ) (ts : List tokens.Placed) (p : Placed t.program) → cut.cut limit source ≡ Ok ts → spells p ts → IsSpelled (plain t.program p)
spelled_where_read limit source ts p e h = record {
  tree = p;
  by = spots ts;
  same = refl;
  spelled = h;
  tokens = All-map (λ c. IsToken c.0) (λ t. (t.token, t.start)) ts (cut_tokens limit source ts e);
}
