use Rattle.std.proofs.Common.{rules}
use Rattle.printed_tokens.proofs.Text.{spaced}
use Rattle.printed_tokens.proofs.token.write.Goals as goal

pub returns : goal.returns
returns c = spaced c.args.out.now.items c.gap-space.result.now c.args.text.now c.extend_from_slice.new.self.items c.extend_from_slice-2.new.self.items c.copied.result c.copied-2.result (search rules) (search rules) c.gap-space.ensures c.in_ok-extend_from_slice.ensures.items c.in_ok-extend_from_slice-2.ensures.items
