use Rattle.std.proofs.Common.{◌||◌, ◌∷◌, [], ◌++◌, map, ap, sym, ◌∙◌}
use Rattle.es3_tree.specs.PlacedView.{word}
use Rattle.cajita_names.specs.Declarations.{declared_as}
use Rattle.cajita_names.specs.DeclarationViews.{role_of, declaration_of}
use Rattle.cajita_names.specs.Scope.{is_function, is_parameter, declares_function, declares_parameter}
use Rattle.cajita_names.proofs.Tables.{finds_more, finds_as, told_last}
use Rattle.cajita_names.proofs.tabled.Declared.push.Goals as goal

pub invariant_of-self-in-Ok : goal.invariant_of-self-in-Ok
invariant_of-self-in-Ok c =
    let parts = c.self.inside.list.items in
    let name = c.args.name.now in
    let role = role_of c.args.role in
    finds_as c.in-Ok.ensures.ok
    (ap (map declaration_of) c.in_ok-push.ensures.items ∙ told_last parts _ ∙ ap (λ x. map declaration_of parts ++ declared_as role (record { text = x; at = name.at }) ∷ []) c.in_ok-text.ensures)
    (finds_more c.self.inside.kinds (map declaration_of parts) (declared_as role (word name)) c.kinds_with-kinds.result c.self.invariant
    (c.kinds_with-kinds.ensures.function ∙ ap (λ l. declares_function l name.text || is_function role) (sym c.self.view_is))
    (c.kinds_with-kinds.ensures.parameter ∙ ap (λ l. declares_parameter l name.text || is_parameter role) (sym c.self.view_is)))
