-- The number of a truth value is 1 or 0.
use Rattle.words.proofs.BitLaws.{byte-b2n, b2n-le}
use Rattle.words.proofs.bits.flag.Goals as goal

pub returns : goal.returns
returns c = (byte-b2n c.args.b, rw byte-b2n (b2n-le c.args.b))
