-- `words::stores::store8` meets its contract: the library's bytes are copied into place.
use mathlib.Core.Path.{refl, ◌∙◌}
use Prim.Native.Nat.{◌+◌}
use native.Mathlib.Omega.{arith}
use Rattle.words.specs.Bytes.{put-copied}
use Rattle.words.proofs.stores.store8.Goals as goal

pub returns : goal.returns
returns c =
    put-copied c.args.s.now c.copy_from_slice.new.self c.args.at (c.args.at + 8) 8 8 c.args.x refl (omega arith)
    (c.copy_from_slice.ensures.after ∙ c.to_le_bytes.ensures)
