-- What is kept is of the table.
use Rattle.std.proofs.Common.{◌≡◌, List, [], ◌∷◌, ◌++◌, Bool, true, false, Option, None, Some, refl, codes}
use Rattle.std.specs.Prelude.{if◌then◌else◌}
use Rattle.std.specs.List.{flat_map}
use Rattle.css_grammar.specs.Sheets.{Text, Declaration, Rule}
use Rattle.css_kept.specs.Selectors.{keeps}
use Rattle.css_kept.specs.Table.{Answers, rows, values_in}
use Rattle.css_kept.specs.Kept.{scoped, with_values, kept_declaration, kept_rule, cleaned}
use Rattle.css_kept.specs.OfTable.{Each, IsScoped, IsKept, IsRule, OfTable}
use Rattle.css_kept.proofs.Lists.{each_flat, each_filled}

scoped_is : (scope s : Text) → Each (IsScoped scope) (scoped scope s)
scoped_is scope s = by_test (keeps s) refl
  where
    by_test : (b : Bool) → keeps s ≡ b → Each (IsScoped scope) (if b then (scope ++ (codes " " ++ s)) ∷ [] else [])
    by_test true e = ((s, refl, e), tt)
    by_test false e = tt

declaration_is : (a : Answers) (d : Declaration) → Each (IsKept a) (kept_declaration a d)
declaration_is a d = by_values (values_in rows a d.name d.values) refl
  where
    by_values : (o : Option (List Text)) → values_in rows a d.name d.values ≡ o → Each (IsKept a) (with_values d.name o)
    by_values None e = tt
    by_values (Some vs) e = ((d.values, e), tt)

rule_is : (a : Answers) (scope : Text) (r : Rule) → Each (IsRule a scope) (kept_rule a scope r)
rule_is a scope r =
    each_filled (IsScoped scope) (IsKept a) (flat_map (scoped scope) r.selectors) (flat_map (kept_declaration a) r.declarations)
    (each_flat (IsScoped scope) (scoped scope) (scoped_is scope) r.selectors) (each_flat (IsKept a) (kept_declaration a) (declaration_is a) r.declarations)

pub cleaned_is : (a : Answers) (scope : Text) (rs : List Rule) → OfTable a scope (cleaned a scope rs)
cleaned_is a scope rs = each_flat (IsRule a scope) (kept_rule a scope) (rule_is a scope) rs
