-- `runs_mark::same::fill` meets its contract: bytes that are all the same are entries of one kind.
use Prim.Native.Nat.{◌+◌, ◌-◌}
use native.Mathlib.Omega.{arith}
use Rattle.words.specs.Bits.{word_lt}
use Rattle.runs_mark.specs.FromAByte.{filled-whole}
use Rattle.runs_mark.proofs.same.fill.Goals as goal

pub overflow_cast-byte : goal.overflow_cast-byte
overflow_cast-byte c = omega (arith, c.same_bits-byte.ensures, word_lt 8 (λ _. c.args.selected))

pub returns : goal.returns
returns c =
    let a = c.args in
    filled-whole a.bitmap.now _ a.a (a.a + a.k - a.a) a.k c.same_bits-byte.result a.selected (omega arith) (omega arith)
    c.same_bits-byte.ensures (c.fill.ensures.after (λ y e. e))
