use Rattle.std.proofs.Common.{sym, ◌∙◌, refl, codes, true, ◌≡◌}
use Rattle.html_grammar.specs.Tables.{is_in, raw}
use Rattle.html_pieces.proofs.Points.{raw_script, no_raw}
use Rattle.html_pieces.proofs.point.raw_here.Goals as goal

script_is_raw : is_in raw (codes "script") ≡ true
unfolding is_in
script_is_raw = refl

style_is_raw : is_in raw (codes "style") ≡ true
unfolding is_in
style_is_raw = refl

pub returns-then-spells-clause-is : goal.returns-then-spells-clause-is
returns-then-spells-clause-is c = c.raw_len.ensures.is ∙ raw_script c.args.name.now (codes "script") c.args.s.now (sym c.spells.ensures ∙ c.if-spells.true) script_is_raw

pub returns-then-spells-2-clause-is : goal.returns-then-spells-2-clause-is
returns-then-spells-2-clause-is c = c.raw_len-then-spells-2.ensures.is ∙ raw_script c.args.name.now (codes "style") c.args.s.now (sym c.spells-2.ensures ∙ c.if-spells-2.true) style_is_raw

pub returns-clause-is : goal.returns-clause-is
returns-clause-is c = sym (no_raw c.args.name.now c.args.s.now (sym c.spells.ensures ∙ c.if-spells.false) (sym c.spells-2.ensures ∙ c.if-spells-2.false))
