use Rattle.caja_cli.proofs.Written.{of_page, of_module}
use Rattle.caja_cli.proofs.too_long.Goals as goal

pub returns-in-Page : goal.returns-in-Page
returns-in-Page c = of_page c.args.command c.in-Page.is

pub returns-in-Solo : goal.returns-in-Solo
returns-in-Solo c = of_module c.args.command c.in-Solo.is
