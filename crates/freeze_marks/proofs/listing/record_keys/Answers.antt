use Rattle.std.proofs.Common.{◌≡◌, ◌∙◌, ap, sym, rules}
use Rattle.std.specs.Prelude.{not}
use Rattle.std.specs.List.{filter}
use Rattle.std.proofs.lemmas.Fn.{filter_same}
use Rattle.caja_units.specs.Units.{is_hidden}
use Rattle.es3_heap.specs.Enumerating.{own_keys}
use Rattle.es3_heap.specs.Objects.{object_at, props_of}
use Rattle.freeze_marks.proofs.Public.{guest_keys}
use Rattle.freeze_marks.proofs.listing.record_keys.Goals as goal

pub returns : goal.returns
returns c =
    let own : c.in_ok-keys.keys.items ≡ own_keys c.args.h.now c.args.o = search rules in
    let kept : c.retain.new.self.items ≡ filter (λ k. not (is_hidden k)) c.in_ok-keys.keys.items = filter_same _ _ _ (λ x b f' k. search rules) _ _ c.retain.ensures.filtered in
    kept ∙ ap (filter (λ k. not (is_hidden k))) own ∙ sym (guest_keys (props_of (object_at c.args.h.now c.args.o)))
