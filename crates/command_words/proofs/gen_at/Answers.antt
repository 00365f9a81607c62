use Rattle.std.proofs.Common.{◌≡◌, ◌∙◌, ap, map, string_bytes, arith}
use Rattle.std.specs.List.{remove}
use Rattle.command_words.specs.Words.{most_events, number_of, options_of}
use Rattle.command_words.proofs.Places.{taken_out}
use Rattle.command_words.proofs.gen_at.Goals as goal

pub returns : goal.returns
returns c =
    let others = c.in_ok-others.others.items in
    let reads : c.events_in.result ≡ number_of most_events (string_bytes c.remove-number.result) = cc in
    let chosen : c.in_ok-options.options ≡ options_of (map string_bytes (remove others c.args.index)) =
    c.in_ok-options.ensures ∙ ap (λ ws. options_of (map string_bytes ws)) (c.deref.ensures.value ∙ c.remove-number.ensures.items) in
    c.generated.ensures
    ∙ taken_out string_bytes c.args.words.now others c.args.index c.remove-number.result c.events_in.result c.in_ok-options.options
    c.in_ok-others.ensures.ok (omega (arith, c.in_ok-others.ensures.len)) c.remove-number.ensures.value reads chosen
