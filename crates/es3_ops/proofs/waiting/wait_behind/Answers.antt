use Rattle.std.proofs.Common.{◌^◌, map, reverse}
use Rattle.es3_grammar.specs.Levels.{own}
use Rattle.es3_ops.specs.Views.{depth_of, infix_join}
use Rattle.es3_ops.proofs.Nested.{operand_within}
use Rattle.es3_ops.proofs.waiting.wait_behind.Goals as goal

pub close_depths-left-requires : goal.close_depths-left-requires
close_depths-left-requires c = operand_within (reverse (map depth_of c.args.waiting.now.items)) c.args.depth (own (infix_join c.args.op)) (2 ^ 32) c.requires.fits
