-- `bitmaps::trim` meets its contract: a remainder keeps the low bits of the last byte.
use Prim.Native.Nat.{◌%◌}
use borrow.Author.Tests.{eq-eqb, ne_eqb}
use Rattle.bitmaps.specs.Trimmed.{trim_none, trim_some}
use Rattle.bitmaps.proofs.trim.Goals as goal

pub returns-then-n-ne0 : goal.returns-then-n-ne0
returns-then-n-ne0 c = trim_some c.args.n c.args.bitmap.now (ne_eqb (c.args.n % 8) 0 c.if-n-ne0.true)

pub returns-else-n-ne0 : goal.returns-else-n-ne0
returns-else-n-ne0 c = trim_none c.args.n c.args.bitmap.now (eq-eqb (c.args.n % 8) 0 c.if-n-ne0.false)
