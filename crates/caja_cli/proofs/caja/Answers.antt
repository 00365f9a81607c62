use Rattle.std.proofs.Common.{◌≡◌, ◌≤◌, false, [], Some, length, map, string_bytes, refl, sym, ap, ◌∙◌, arith}
use Rattle.command_words.specs.Words.{command_of, longest_input}
use Rattle.caja_cli.proofs.Promised.{lone_is_meant, lone_document, generated_is_meant, are_isolated}
use Rattle.command_words.proofs.Range.{some_events, few_events}
use Rattle.caja_cli.proofs.Written.{wrote-too_long, wrote_part-too_long, wrote-read, wrote_part-read, wrote-made, wrote_part-made}
use Rattle.caja_cli.specs.Output.{reads}
use Rattle.caja_cli.proofs.caja.Goals as goal

pub returns-in-Err-TooLong-clause-answer : goal.returns-in-Err-TooLong-clause-answer
returns-in-Err-TooLong-clause-answer g c = λ answer.
    let ends = c.finish-in-Err-TooLong.ensures.answer answer in
    let command : command_of (map string_bytes c.args.words.now) ≡ Some c.in-Ok-Some.command = sym c.in-Ok-Some.ensures ∙ c.in-Ok-Some.field-0-is in
    wrote-too_long _ _ _ _ _ _ _ _ _ _ command c.longest_input.ensures (c.in-Err-TooLong.ensures.too_long (cc)) c.too_long.ensures ends.0 ends.1

pub returns-in-Err-TooLong-clause-write_fault : goal.returns-in-Err-TooLong-clause-write_fault
returns-in-Err-TooLong-clause-write_fault g c = λ fault.
    let ends = c.finish-in-Err-TooLong.ensures.write_fault fault in
    let command : command_of (map string_bytes c.args.words.now) ≡ Some c.in-Ok-Some.command = sym c.in-Ok-Some.ensures ∙ c.in-Ok-Some.field-0-is in
    (ends.0, wrote_part-too_long _ _ _ _ _ _ _ _ command c.longest_input.ensures (c.in-Err-TooLong.ensures.too_long (cc)) c.too_long.ensures ends.1)

pub returns-in-Err-TooLong-clause-no_room : goal.returns-in-Err-TooLong-clause-no_room
returns-in-Err-TooLong-clause-no_room g c = λ none.
    let ends = c.finish-in-Err-TooLong.ensures.no_room none in
    let command : command_of (map string_bytes c.args.words.now) ≡ Some c.in-Ok-Some.command = sym c.in-Ok-Some.ensures ∙ c.in-Ok-Some.field-0-is in
    (ends.0, wrote_part-too_long _ _ _ _ _ _ _ _ command c.longest_input.ensures (c.in-Err-TooLong.ensures.too_long (cc)) c.too_long.ensures ends.1)

pub returns-clause-answer : goal.returns-clause-answer
returns-clause-answer g c = λ answer.
    let ends = c.finish-in-Ok-perform.ensures.answer answer in
    let command : command_of (map string_bytes c.args.words.now) ≡ Some c.in-Ok-Some.command = sym c.in-Ok-Some.ensures ∙ c.in-Ok-Some.field-0-is in
    let near : length c.in-Ok-read_all.input.items ≤ longest_input c.in-Ok-Some.command = omega (arith, c.in-Ok-read_all.ensures.within, c.longest_input.ensures) in
    wrote-read _ _ _ _ _ _ _ _ c.in-Ok-read_all.input.items c.deref-in-Ok-read_all.result.now c.in-Ok-perform.text.items c.deref-in-Ok-perform.result.now c.in-Ok-perform.status command c.in-Ok-read_all.ensures.all near c.in-Ok-read_all.ensures.end c.deref-in-Ok-read_all.ensures.value c.in-Ok-perform.ensures.text c.deref-in-Ok-perform.ensures.value c.in-Ok-perform.ensures.status ends.0 ends.1

pub returns-clause-write_fault : goal.returns-clause-write_fault
returns-clause-write_fault g c = λ fault.
    let ends = c.finish-in-Ok-perform.ensures.write_fault fault in
    let command : command_of (map string_bytes c.args.words.now) ≡ Some c.in-Ok-Some.command = sym c.in-Ok-Some.ensures ∙ c.in-Ok-Some.field-0-is in
    let near : length c.in-Ok-read_all.input.items ≤ longest_input c.in-Ok-Some.command = omega (arith, c.in-Ok-read_all.ensures.within, c.longest_input.ensures) in
    (ends.0, wrote_part-read _ _ _ _ _ _ c.in-Ok-read_all.input.items c.deref-in-Ok-read_all.result.now c.in-Ok-perform.text.items c.deref-in-Ok-perform.result.now command c.in-Ok-read_all.ensures.all near c.deref-in-Ok-read_all.ensures.value c.in-Ok-perform.ensures.text c.deref-in-Ok-perform.ensures.value ends.1)

pub returns-clause-no_room : goal.returns-clause-no_room
returns-clause-no_room g c = λ none.
    let ends = c.finish-in-Ok-perform.ensures.no_room none in
    let command : command_of (map string_bytes c.args.words.now) ≡ Some c.in-Ok-Some.command = sym c.in-Ok-Some.ensures ∙ c.in-Ok-Some.field-0-is in
    let near : length c.in-Ok-read_all.input.items ≤ longest_input c.in-Ok-Some.command = omega (arith, c.in-Ok-read_all.ensures.within, c.longest_input.ensures) in
    (ends.0, wrote_part-read _ _ _ _ _ _ c.in-Ok-read_all.input.items c.deref-in-Ok-read_all.result.now c.in-Ok-perform.text.items c.deref-in-Ok-perform.result.now command c.in-Ok-read_all.ensures.all near c.deref-in-Ok-read_all.ensures.value c.in-Ok-perform.ensures.text c.deref-in-Ok-perform.ensures.value ends.1)

pub returns-in-Err-clause-solo : goal.returns-in-Err-clause-solo
returns-in-Err-clause-solo g c = lone_is_meant _

pub returns-in-Ok-None-clause-solo : goal.returns-in-Ok-None-clause-solo
returns-in-Ok-None-clause-solo g c = lone_is_meant _

pub returns-in-Err-Failed-clause-solo : goal.returns-in-Err-Failed-clause-solo
returns-in-Err-Failed-clause-solo g c = lone_is_meant _

pub returns-in-Err-Memory-clause-solo : goal.returns-in-Err-Memory-clause-solo
returns-in-Err-Memory-clause-solo g c = lone_is_meant _

pub returns-in-Err-TooLong-clause-solo : goal.returns-in-Err-TooLong-clause-solo
returns-in-Err-TooLong-clause-solo g c = lone_is_meant _

pub returns-in-Err-perform-clause-solo : goal.returns-in-Err-perform-clause-solo
returns-in-Err-perform-clause-solo g c = lone_is_meant _

pub returns-clause-solo : goal.returns-clause-solo
returns-clause-solo g c = lone_is_meant _

pub returns-in-Err-clause-isolated : goal.returns-in-Err-clause-isolated
returns-in-Err-clause-isolated g c = are_isolated _

pub returns-in-Ok-None-clause-isolated : goal.returns-in-Ok-None-clause-isolated
returns-in-Ok-None-clause-isolated g c = are_isolated _

pub returns-in-Err-Failed-clause-isolated : goal.returns-in-Err-Failed-clause-isolated
returns-in-Err-Failed-clause-isolated g c = are_isolated _

pub returns-in-Err-Memory-clause-isolated : goal.returns-in-Err-Memory-clause-isolated
returns-in-Err-Memory-clause-isolated g c = are_isolated _

pub returns-in-Err-TooLong-clause-isolated : goal.returns-in-Err-TooLong-clause-isolated
returns-in-Err-TooLong-clause-isolated g c = are_isolated _

pub returns-in-Err-perform-clause-isolated : goal.returns-in-Err-perform-clause-isolated
returns-in-Err-perform-clause-isolated g c = are_isolated _

pub returns-clause-isolated : goal.returns-clause-isolated
returns-clause-isolated g c = are_isolated _

pub returns-in-Err-clause-lone : goal.returns-in-Err-clause-lone
returns-in-Err-clause-lone g c = lone_document _

pub returns-in-Ok-None-clause-lone : goal.returns-in-Ok-None-clause-lone
returns-in-Ok-None-clause-lone g c = lone_document _

pub returns-in-Err-Failed-clause-lone : goal.returns-in-Err-Failed-clause-lone
returns-in-Err-Failed-clause-lone g c = lone_document _

pub returns-in-Err-Memory-clause-lone : goal.returns-in-Err-Memory-clause-lone
returns-in-Err-Memory-clause-lone g c = lone_document _

pub returns-in-Err-TooLong-clause-lone : goal.returns-in-Err-TooLong-clause-lone
returns-in-Err-TooLong-clause-lone g c = lone_document _

pub returns-in-Err-perform-clause-lone : goal.returns-in-Err-perform-clause-lone
returns-in-Err-perform-clause-lone g c = lone_document _

pub returns-clause-lone : goal.returns-clause-lone
returns-clause-lone g c = lone_document _

pub returns-in-Err-clause-generated : goal.returns-in-Err-clause-generated
returns-in-Err-clause-generated g c = generated_is_meant _

pub returns-in-Ok-None-clause-generated : goal.returns-in-Ok-None-clause-generated
returns-in-Ok-None-clause-generated g c = generated_is_meant _

pub returns-in-Err-perform-clause-generated : goal.returns-in-Err-perform-clause-generated
returns-in-Err-perform-clause-generated g c = generated_is_meant _

pub returns-in-Ok-clause-generated : goal.returns-in-Ok-clause-generated
returns-in-Ok-clause-generated g c = generated_is_meant _

pub returns-in-Err-Failed-clause-generated : goal.returns-in-Err-Failed-clause-generated
returns-in-Err-Failed-clause-generated g c = generated_is_meant _

pub returns-in-Err-Memory-clause-generated : goal.returns-in-Err-Memory-clause-generated
returns-in-Err-Memory-clause-generated g c = generated_is_meant _

pub returns-in-Err-TooLong-clause-generated : goal.returns-in-Err-TooLong-clause-generated
returns-in-Err-TooLong-clause-generated g c = generated_is_meant _

pub returns-in-Err-perform-2-clause-generated : goal.returns-in-Err-perform-2-clause-generated
returns-in-Err-perform-2-clause-generated g c = generated_is_meant _

pub returns-clause-generated : goal.returns-clause-generated
returns-clause-generated g c = generated_is_meant _

pub returns-in-Ok-clause-solo : goal.returns-in-Ok-clause-solo
returns-in-Ok-clause-solo g c = lone_is_meant _

pub returns-in-Ok-clause-isolated : goal.returns-in-Ok-clause-isolated
returns-in-Ok-clause-isolated g c = are_isolated _

pub returns-in-Ok-clause-lone : goal.returns-in-Ok-clause-lone
returns-in-Ok-clause-lone g c = lone_document _

pub returns-in-Err-perform-2-clause-solo : goal.returns-in-Err-perform-2-clause-solo
returns-in-Err-perform-2-clause-solo g c = lone_is_meant _

pub returns-in-Err-perform-2-clause-isolated : goal.returns-in-Err-perform-2-clause-isolated
returns-in-Err-perform-2-clause-isolated g c = are_isolated _

pub returns-in-Err-perform-2-clause-lone : goal.returns-in-Err-perform-2-clause-lone
returns-in-Err-perform-2-clause-lone g c = lone_document _

pub perform-requires-clause-some : goal.perform-requires-clause-some
perform-requires-clause-some g c = λ n o same.
    let command : command_of (map string_bytes c.args.words.now) ≡ Some c.in-Ok-Some.command = sym c.in-Ok-Some.ensures ∙ c.in-Ok-Some.field-0-is in
    some_events (map string_bytes c.args.words.now) n o (command ∙ ap Some same)

pub perform-requires-clause-few : goal.perform-requires-clause-few
perform-requires-clause-few g c = λ n o same.
    let command : command_of (map string_bytes c.args.words.now) ≡ Some c.in-Ok-Some.command = sym c.in-Ok-Some.ensures ∙ c.in-Ok-Some.field-0-is in
    few_events (map string_bytes c.args.words.now) n o (command ∙ ap Some same)

pub returns-in-Ok-clause-answer : goal.returns-in-Ok-clause-answer
returns-in-Ok-clause-answer g c = λ answer.
    let ends = c.finish-in-Ok.ensures.answer answer in
    let command : command_of (map string_bytes c.args.words.now) ≡ Some c.in-Ok-Some.command = sym c.in-Ok-Some.ensures ∙ c.in-Ok-Some.field-0-is in
    let none : reads c.in-Ok-Some.command ≡ false = sym c.reads.ensures ∙ c.if-not-reads.true in
    wrote-made _ _ _ _ _ _ _ _ [] c.in-Ok.text.items c.deref.result.now c.in-Ok.status command none refl c.in-Ok.ensures.text c.deref.ensures.value c.in-Ok.ensures.status ends.0 ends.1

pub returns-in-Ok-clause-write_fault : goal.returns-in-Ok-clause-write_fault
returns-in-Ok-clause-write_fault g c = λ fault.
    let ends = c.finish-in-Ok.ensures.write_fault fault in
    let command : command_of (map string_bytes c.args.words.now) ≡ Some c.in-Ok-Some.command = sym c.in-Ok-Some.ensures ∙ c.in-Ok-Some.field-0-is in
    let none : reads c.in-Ok-Some.command ≡ false = sym c.reads.ensures ∙ c.if-not-reads.true in
    (ends.0, wrote_part-made _ _ _ _ _ _ [] c.in-Ok.text.items c.deref.result.now command none refl c.in-Ok.ensures.text c.deref.ensures.value ends.1)

pub returns-in-Ok-clause-no_room : goal.returns-in-Ok-clause-no_room
returns-in-Ok-clause-no_room g c = λ full.
    let ends = c.finish-in-Ok.ensures.no_room full in
    let command : command_of (map string_bytes c.args.words.now) ≡ Some c.in-Ok-Some.command = sym c.in-Ok-Some.ensures ∙ c.in-Ok-Some.field-0-is in
    let none : reads c.in-Ok-Some.command ≡ false = sym c.reads.ensures ∙ c.if-not-reads.true in
    (ends.0, wrote_part-made _ _ _ _ _ _ [] c.in-Ok.text.items c.deref.result.now command none refl c.in-Ok.ensures.text c.deref.ensures.value ends.1)
