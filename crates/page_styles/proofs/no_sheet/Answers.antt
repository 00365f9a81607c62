use Rattle.page_styles.proofs.Answered.{syntax_told, escape_told, at_rule_told}
use Rattle.page_styles.proofs.no_sheet.Goals as goal

pub returns-in-Syntax : goal.returns-in-Syntax
returns-in-Syntax c = syntax_told c.args.error c.in-Syntax.at c.in-Syntax.is

pub returns-in-Escape : goal.returns-in-Escape
returns-in-Escape c = escape_told c.args.error c.in-Escape.at c.in-Escape.is

pub returns-in-AtRule : goal.returns-in-AtRule
returns-in-AtRule c = at_rule_told c.args.error c.in-AtRule.at c.in-AtRule.is
