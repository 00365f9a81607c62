use Rattle.std.proofs.Common.{◌≡◌, ◌+◌, true, false, refl, ap, ◌∙◌}
use Rattle.es3_tree.specs.Tree as t
use Rattle.es3_tree.specs.View.{of_stmts, of_items}
use Rattle.cajita_tree.specs.declared.CExpr.TheViews.{out-CBody}
use Rattle.cajita_tree.specs.Tree as c
use Rattle.cajita_tree.specs.View as view
use Rattle.rewrite_parts.proofs.Joined.{stmts-pushed}
use Rattle.cajita_rewrite.specs.Rewrite.{rewritten, temps, declared, result_name, import_stmts, joined, items_joined, name_items, others, marks}
use Rattle.cajita_rewrite.proofs.Heads.{head_form, body_form, module_form, stmts-appended}
use Rattle.cajita_rewrite.proofs.load.module_body.Goals as goal

pub returns : goal.returns
returns w =
    let m = w.args.m.now in
    let b = out-CBody m.body in
    let list = view.of_stmts b.list.items in
    let first = t.more_items result_name t.no_expr t.no_items in
    let started : of_items w.in_ok-variables.variables.items ≡ first =
    ap of_items w.in_ok-variables.ensures.items ∙ ap (λ n. t.more_items n t.no_expr t.no_items) w.in_ok-own_name.ensures in
    let counted : w.rewrite_list.new.temporaries.taken ≡ 0 + temps c.stmts list =
    w.in_ok-list.ensures.count
    ∙ ap (λ k. k + temps c.stmts (view.of_stmts w.deref.result.now)) w.none-temporaries.ensures
    ∙ ap (λ l. 0 + temps c.stmts (view.of_stmts l)) w.deref.ensures.value in
    let listed : of_stmts w.in_ok-list.list.items ≡ rewritten true c.stmts 0 list =
    w.in_ok-list.ensures.form
    ∙ ap (λ k. rewritten true c.stmts k (view.of_stmts w.deref.result.now)) w.none-temporaries.ensures
    ∙ ap (λ l. rewritten true c.stmts 0 (view.of_stmts l)) w.deref.ensures.value in
    let named : of_items w.add_names.new.items.items ≡ items_joined (of_items w.add_temporaries.new.items.items) (name_items (others b.vars.items (declared c.stmts list)) t.no_items) =
    w.in_ok-add_names.ensures
    ∙ ap (λ l. items_joined (of_items w.add_temporaries.new.items.items) (name_items (others l (declared c.stmts (view.of_stmts w.deref-3.result.now))) t.no_items)) w.deref-2.ensures.value
    ∙ ap (λ l. items_joined (of_items w.add_temporaries.new.items.items) (name_items (others b.vars.items (declared c.stmts (view.of_stmts l))) t.no_items)) w.deref-3.ensures.value in
    let head = head_form first (view.of_funcs b.funcs.items) b.vars.items list started w.in_ok-add_temporaries.ensures counted named in
    let vars : of_stmts w.in_ok-statements.statements.items ≡ t.more_stmts (t.var (of_items w.add_names.new.items.items)) t.no_stmts =
    ap of_stmts w.in_ok-statements.ensures.items ∙ ap (λ s. t.more_stmts s t.no_stmts) w.make_var.ensures.plain in
    let imported : of_stmts w.add_imports.new.out.items ≡ joined (t.more_stmts (t.var (of_items w.add_names.new.items.items)) t.no_stmts) (import_stmts m.imports.items t.no_stmts) =
    w.in_ok-add_imports.ensures
    ∙ ap (λ s. joined s (import_stmts w.deref-4.result.now t.no_stmts)) vars
    ∙ ap (λ l. joined (t.more_stmts (t.var (of_items w.add_names.new.items.items)) t.no_stmts) (import_stmts l t.no_stmts)) w.deref-4.ensures.value in
    let whole = body_form true (of_stmts w.add_imports.new.out.items) (view.of_funcs b.funcs.items) b.vars.items list refl
    (w.in_ok-rewrite_functions.ensures ∙ ap (λ l. rewritten false c.funcs 0 (view.of_funcs l)) w.deref-5.ensures.value)
    (ap of_stmts w.in_ok-append.ensures.items ∙ stmts-appended w.add_imports.new.out.items w.in_ok-rewrite_functions.field-0.items)
    (w.in_ok-add_marks.ensures ∙ ap (λ l. joined (of_stmts w.append.new.self.items) (marks (view.of_funcs l) t.no_stmts)) w.deref-6.ensures.value)
    listed
    (ap of_stmts w.in_ok-append-2.ensures.items ∙ stmts-appended w.add_marks.new.out.items w.in_ok-list.list.items) in
    module_form m.body m.imports.items head imported whole
    (ap of_stmts w.in_ok-push.ensures.items
    ∙ stmts-pushed w.append-2.new.self.items w.make_return.result
    ∙ ap (λ s. joined (of_stmts w.append-2.new.self.items) (t.more_stmts s t.no_stmts)) (w.make_return.ensures.plain ∙ ap (λ x. t.return (t.some_expr x)) w.in_ok-result.ensures))
