-- Some texts, by computation.
use Rattle.std.proofs.Common.{◌≡◌, ◌++◌, refl, codes, Some}
use Rattle.std.specs.List.{flat_map}
use Rattle.css_grammar.specs.Characters.{class, lower}
use Rattle.css_grammar.specs.Sheets.{Text, Declaration, Rule}
use Rattle.css_grammar.specs.Machine.{read, run, step, sheet, part, stopped, Answer}
use Rattle.css_kept.specs.Selectors.{keeps}
use Rattle.css_kept.specs.Table.{Answers, is_in}
use Rattle.css_kept.specs.Kept.{cleaned}
use Rattle.css_kept.specs.Printed.{between}

-- the rule that answers each URL as it is
abbrev pub same : Answers
same = record { for_style = λ u. Some u }

abbrev pub declared : Declaration → Text
declared d = d.name ++ (codes ":" ++ between 32 (λ (t : Text). t) d.values)

abbrev pub ruled : Rule → Text
ruled r = between 44 (λ (t : Text). t) r.selectors ++ (codes "{" ++ (between 59 declared r.declarations ++ codes "}"))

abbrev pub shown : Answer → Text
shown (sheet rs) = flat_map ruled (cleaned same (codes "#a") rs)
shown part = codes "part"
shown (stopped s) = codes "stopped"

scope_row : shown (read (codes "p, div { color: red; behavior: url(x) }")) ≡ codes "#a p,#a div{color:red}"
unfolding class lower run step keeps is_in
scope_row = refl

url_row : shown (read (codes "p{background-image:url(https://e.example/x.png)}")) ≡ codes "#a p{background-image:url(\"https://e.example/x.png\")}"
unfolding class lower run step keeps is_in
url_row = refl

quoted_row : shown (read (codes "p{background-image:url( 'x' )}")) ≡ codes "#a p{background-image:url(\"x\")}"
unfolding class lower run step keeps is_in
quoted_row = refl

font_row : shown (read (codes "p{font-family:Arial, sans-serif;color:red;}h1+p{color:red}")) ≡ codes "#a p{color:red}"
unfolding class lower run step keeps is_in
font_row = refl

at_rule : read (codes "@import \"x\";") ≡ stopped (codes "@import \"x\";")
unfolding class lower run step
at_rule = refl

point_waits : read (codes "a{b:1.;") ≡ stopped (codes ";")
unfolding class lower run step
point_waits = refl

lengths_kept : shown (read (codes "A:hover > .B{MARGIN:0 1.5EM 2px 3%;width:-1px;color:#FfF}")) ≡ codes "#a a:hover>.B{margin:0 1.5em 2px 3%;color:#FfF}"
unfolding class lower run step keeps is_in
lengths_kept = refl
