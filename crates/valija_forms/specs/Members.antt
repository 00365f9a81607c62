-- The key of a member that is held.
use Rattle.es3_tree.specs.Tree as t
use Rattle.es3_tree.specs.Placed.{Placed}
use Rattle.es3_tree.specs.PlacedView as source
use Rattle.valija_forms.specs.Forms.{text_of, kept}
use Rattle.valija_forms.specs.declared.members.HeldKey.{HeldKey}
use Rattle.valija_forms.specs.declared.members.HeldKey.TheVariants as key

abbrev pub key_form : HeldKey → Placed t.expr
key_form (key.Written name) = text_of (source.word name)
key_form (key.Kept number) = kept number
