use Rattle.std.proofs.Common.{◌≤◌, length, drop, refl, ap, ◌∙◌, arith}
use Rattle.html_grammar.specs.Tables.{is_in}
use Rattle.html_pieces.proofs.SeenNames.{stands_behind, stands_before, one_name_more}
use Rattle.html_pieces.proofs.names.is_again.Goals as goal
use Rattle.html_pieces.specs.Views.{names_of}

pub returns-then-not-added-clause-told : goal.returns-then-not-added-clause-told
returns-then-not-added-clause-told c =
    stands_behind (names_of c.args.attrs.now) c.args.name.now c.in_ok-added.added _ c.in_ok-added.ensures.added
    (c.requires c.in_ok-key.key ∙ ap (is_in (drop 16 (names_of c.args.attrs.now))) c.in_ok-key.ensures) c.if-not-added.true

pub returns-then-not-added-clause-tracks : goal.returns-then-not-added-clause-tracks
returns-then-not-added-clause-tracks c = λ v.
    one_name_more c.args.attrs.now c.in_ok-key.key.items c.args.name.now v.items _ _ (let le : 16 ≤ length c.args.attrs.now = omega (arith, c.if-attrs-lt-FEW.false) in le) c.in_ok-key.ensures (c.in_ok-added.ensures.updates.0 v) (c.requires v)

pub returns-clause-told : goal.returns-clause-told
returns-clause-told c =
    stands_before c.args.attrs.now _ c.args.name.now c.in_ok-added.added _ c.stands_in-2.result c.in_ok-added.ensures.added
    (c.requires c.in_ok-key.key ∙ ap (is_in (drop 16 (names_of c.args.attrs.now))) c.in_ok-key.ensures) c.if-not-added.false refl c.stands_in-2.ensures

pub returns-clause-tracks : goal.returns-clause-tracks
returns-clause-tracks c = λ v.
    one_name_more c.args.attrs.now c.in_ok-key.key.items c.args.name.now v.items _ _ (let le : 16 ≤ length c.args.attrs.now = omega (arith, c.if-attrs-lt-FEW.false) in le) c.in_ok-key.ensures (c.in_ok-added.ensures.updates.0 v) (c.requires v)
