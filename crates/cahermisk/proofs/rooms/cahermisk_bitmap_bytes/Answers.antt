-- `cahermisk::rooms::cahermisk_bitmap_bytes` meets its contract.
use mathlib.Core.Path.{refl, ap, ◌∙◌}
use Prim.Native.Nat.{◌≤◌}
use native.Mathlib.Omega.{arith}
use Rattle.rules.specs.Bits.{ceil}
use Rattle.rules.specs.Answer.{count_fault}
use Rattle.cahermisk.specs.Rooms.{kept-few, unless_of}
use Rattle.cahermisk.proofs.rooms.cahermisk_bitmap_bytes.Goals as goal
use Rattle.cahermisk.proofs.rooms.cahermisk_bitmap_bytes.Goals.{After-entries_kept}

few : (c : After-entries_kept) → c.entries_kept.result ≤ 16384
few c = omega (arith, c.entries_kept.ensures, kept-few c.args.n)

pub returns : goal.returns
returns c =
    let n = c.args.n in
    ap (λ k. ceil k 8) c.entries_kept.ensures ∙ unless_of (count_fault n) n (λ k. ceil k 8) refl
