use Rattle.std.proofs.Common.{◌≡◌, ◌++◌, codes, sym, subst}
use Rattle.std.specs.Prelude.{OnOk}
use Rattle.dom_lines.specs.Lines.{root_name}
use Rattle.dom_lines.proofs.Roots.{unnamed}
use Rattle.dom_lines.proofs.lines.push_root.Goals as goal

pub returns-in-None : goal.returns-in-None
returns-in-None c =
    let none : root_name c.args.roots.now c.args.root ≡ codes "?" = unnamed c.args.roots.now c.args.root c.in-None.ensures.lookup.3 in
    subst (λ l. OnOk c.push.result (c.push.new.out.items ≡ c.args.out.now.items ++ l)) (sym none) c.push.ensures
