-- `spans_mark::marking::from_bit` meets its contract.
use mathlib.Core.Path.{◌≡◌}
use Prim.Native.Nat.{◌*◌, ◌%◌, ◌^◌}
use Rattle.words.specs.Bits.{one_shl}
use Rattle.spans_mark.proofs.marking.from_bit.Goals.{Start}

bit : (c : Start) → (1 * 2 ^ c.args.r) % 2 ^ 64 ≡ 2 ^ c.args.r
bit c = one_shl 64 c.args.r c.requires
