use Rattle.std.proofs.Common.{◌≡◌, ◌++◌, codes, sym, subst}
use Rattle.std.specs.Prelude.{OnOk}
use Rattle.page_log.specs.Log.{name_in}
use Rattle.page_log.proofs.Places.{unnamed}
use Rattle.caja_cli.proofs.parts.push_name.Goals as goal

pub returns-in-None : goal.returns-in-None
returns-in-None c =
    let none : name_in c.args.names.now c.args.number ≡ codes "?" = unnamed c.args.names.now c.args.number c.in-None.ensures.lookup.3 in
    subst (λ l. OnOk c.push.result (c.push.new.out.items ≡ c.args.out.now.items ++ l)) (sym none) c.push.ensures
