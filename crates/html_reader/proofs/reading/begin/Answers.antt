use Rattle.std.proofs.Common.{sym, ap, ◌∙◌, refl}
use Rattle.html_tree.specs.Views.{attrs_of}
use Rattle.html_reader.proofs.StackLemmas.{begin_law}
use Rattle.html_reader.proofs.reading.begin.Goals as goal

pub returns : goal.returns
returns c = λ f. begin_law f c.args.open.now.items _ (record { name = c.args.name; attrs = c.args.attrs; before = c.replace-before.result }) c.args.here.now.items c.replace-before.new.dest.items c.args.name (attrs_of c.args.attrs.items)
    (sym c.if-is_void.ensures) refl refl (ap (λ v. v.items) c.replace-before.ensures.value) c.in_ok-push.ensures.items (ap (λ v. v.items) c.replace-before.ensures.after ∙ c.new-2.ensures.items)
