use Rattle.std.proofs.Common.{ℕ, ◌+◌, ◌-◌, List, length, take, drop, map, sym, ap, ◌∙◌, drop-drop}
use Rattle.html_grammar.specs.Characters.{is_attr, begins, is, lower}
use Rattle.html_grammar.specs.Tags.{value}
use Rattle.html_pieces.specs.Views.{part_of}
use Rattle.html_tokens.proofs.Fronts.{front_all, rest_is}
use Rattle.html_pieces.proofs.Oks.{ok_is, attr_valued}
use Rattle.html_pieces.proofs.parts.attr_at.Goals as goal

pub lowered-requires : goal.lowered-requires
lowered-requires c = front_all is_attr is_attr c.args.s.now c.attr_len-n.result (λ c h. h) c.attr_len-n.ensures.is

pub returns-then-begins_with : goal.returns-then-begins_with
returns-then-begins_with c =
    let s = c.args.s.now in
    let n = c.attr_len-n.result in
    ok_is part_of c.value_at.result _ _ c.value_at.ensures
    (ap (λ (m : List ℕ). value m (n + 1) (take (length (take (length s - n) (drop n s)) - 1) (drop 1 (take (length s - n) (drop n s))))) c.in_ok-name.ensures
    ∙ ap (value (map lower (take n s)) (n + 1)) (rest_is 1 (take (length s - n) (drop n s)) ∙ ap (drop 1) (rest_is n s) ∙ drop-drop 1 n s)
    ∙ attr_valued s n c.attr_len-n.ensures.is (ap (begins (is 61)) (sym (rest_is n s)) ∙ sym c.begins_with.ensures ∙ c.if-begins_with.true))
