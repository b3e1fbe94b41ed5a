-- `words::stores::store_low` meets its contract where no byte is stored, or one.
use native.Mathlib.Omega.{arith}
use Rattle.rules.specs.Bits.{bytes}
use Rattle.words.specs.Puts.{put-none, set-put}
use Rattle.words.proofs.stores.store_low.Goals as goal

pub returns-in-0 : goal.returns-in-0
unfolding bytes
returns-in-0 c = rw c.in-0.is (put-none c.args.s.now c.args.at)

pub returns-in-1 : goal.returns-in-1
unfolding bytes
returns-in-1 c = rw c.in-1.is (set-put c.args.s.now c.args.at _ (omega arith))
