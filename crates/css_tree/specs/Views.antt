-- What the program's sheets are in the definition.
use Rattle.std.specs.Prelude.{List, ℕ, map}
use Rattle.std.specs.Global.{Vec}
use Rattle.css_grammar.specs.Sheets as s
use Rattle.css_tree.specs.declared.CssRule.{CssRule}
use Rattle.css_tree.specs.declared.Css.{Css}

abbrev pub declaration_of : (List ℕ × Vec (List ℕ)) → s.Declaration
declaration_of d = record { name = d.0; values = d.1.items }

abbrev pub declarations_of : List (List ℕ × Vec (List ℕ)) → List s.Declaration
declarations_of ds = map declaration_of ds

abbrev pub rule_of : CssRule → s.Rule
rule_of r = record { selectors = r.selectors.items; declarations = declarations_of r.decls.items }

abbrev pub rules_of : List CssRule → List s.Rule
rules_of rs = map rule_of rs

abbrev pub sheet_of : Css → List s.Rule
sheet_of c = rules_of c.rules.items
