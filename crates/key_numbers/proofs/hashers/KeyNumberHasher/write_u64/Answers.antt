use Rattle.std.proofs.Common.{rules}
use Rattle.key_numbers.proofs.Numbers.{number_is_written}
use Rattle.key_numbers.proofs.hashers.KeyNumberHasher.write_u64.Goals as goal

pub returns : goal.returns
returns c = search (rules, number_is_written c.args.self.now.number c.args.i c.ranges.i.fits)
