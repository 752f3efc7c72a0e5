use Rattle.pieces.proofs.Words.{push-bit, push-word, push-alone}
use Rattle.pieces.proofs.Levels.push.Goals as goal

pub returns-then-top-lt-HIGHEST : goal.returns-then-top-lt-HIGHEST
returns-then-top-lt-HIGHEST c = push-bit _ _ _ c.bit_of-bit.ensures

pub returns-then-full-lt32 : goal.returns-then-full-lt32
returns-then-full-lt32 c = push-word _ _ _ c.bit_of-bit.ensures c.if-full-lt32.true

pub returns : goal.returns
returns c = push-alone _ _ _ c.bit_of-bit.ensures
