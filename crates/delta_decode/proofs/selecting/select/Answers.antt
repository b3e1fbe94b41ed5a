-- `delta_decode::selecting::select` meets its contract: what is reached from the raised first value are the page's
-- entries, raised.
use mathlib.Core.Path.{sym, ap, ◌∙◌}
use mathlib.Core.Bool.{Bool}
use Prim.Native.Nat.{ℕ, ◌-◌}
use native.Mathlib.Omega.{arith}
use Rattle.rules.specs.Bits.{put}
use Rattle.rules.specs.Bitmap.{bitmap}
use Rattle.rules.specs.Delta.{blocks_at, read, page_entry}
use Rattle.bitmaps.specs.Bitmaps.{bitmap-none, bitmap-ext}
use Rattle.signed.specs.Raised.{raised}
use Rattle.signed.specs.Reached.{reached}
use Rattle.signed.specs.Entries.{step}
use Rattle.compare.specs.Range.{ranged}
use Rattle.delta_read.specs.Heads.{head-shaped}
use Rattle.delta_read.specs.DeltasFault.{good-head}
use Rattle.delta_decode.specs.PageEntries.{deltas_of, blocks-good, raised-page}
use Rattle.delta_decode.proofs.selecting.select.Goals as goal

pub returns-then-n-eq0 : goal.returns-then-n-eq0
returns-then-n-eq0 c =
    let a = c.args in
    let F : ℕ → Bool = λ i. ranged a.range (raised 32 (page_entry 32 (read 32 a.n a.page.now) i)) in
    bitmap-none a.bitmap.now 0 F ∙ ap (λ (k : ℕ). put a.bitmap.now 0 (bitmap k F)) (sym c.if-n-eq0.true)

pub returns-in_default : goal.returns-in_default
returns-in_default c =
    let a = c.args in
    absurd (good-head 32 a.n a.page.now c.requires.2 (sym c.in_default.ensures))

pub write_blocks-requires : goal.write_blocks-requires
write_blocks-requires c =
    let h = sym c.in-Ok.ensures in (
      omega arith,
      c.requires.0,
      head-shaped 32 _ _ h,
      (omega arith, omega arith, c.requires.3),
      blocks-good 32 _ _ c.requires.2 h,
    )

pub returns : goal.returns
returns c =
    let a = c.args in
    let v = c.in-Ok.head in
    let h = sym c.in-Ok.ensures in
    c.write_blocks.ensures
    ∙ ap
    (λ (x : ℕ). put a.bitmap.now 0
    (bitmap a.n
    (λ i. ranged a.range
    (reached 32 x (step 32 (deltas_of (blocks_at 32 v.size v.minis (a.n - 1) (a.n - 1) a.page.now v.next))) i))))
    c.raised_number-from.ensures
    ∙ ap (put a.bitmap.now 0)
    (bitmap-ext a.n (λ i l. ap (ranged a.range) (raised-page 32 a.n a.page.now c.requires.2 h i)))
