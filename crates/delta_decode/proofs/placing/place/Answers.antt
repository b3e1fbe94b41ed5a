-- `delta_decode::placing::place` meets its contract: what is reached from the first value's remainder are the
-- page's entries.
use mathlib.Core.Path.{sym, ap, ◌∙◌}
use Prim.Native.Nat.{ℕ, ◌-◌}
use native.Mathlib.Omega.{arith}
use Rattle.rules.specs.Bits.{put, tabulate}
use Rattle.rules.specs.Signed.{signed}
use Rattle.rules.specs.Delta.{blocks_at, read, page_entry}
use Rattle.words.specs.Tabulated.{tabulate-none, tabulate-ext}
use Rattle.signed.specs.Reached.{reached}
use Rattle.signed.specs.Entries.{step}
use Rattle.delta_read.specs.Heads.{head-shaped}
use Rattle.delta_read.specs.DeltasFault.{good-head}
use Rattle.delta_decode.specs.PageEntries.{deltas_of, blocks-good, signed-page}
use Rattle.delta_decode.proofs.placing.place.Goals as goal

pub returns-then-n-eq0 : goal.returns-then-n-eq0
returns-then-n-eq0 c =
    let a = c.args in
    tabulate-none a.entries.now 0 (page_entry 32 (read 32 a.n a.page.now))
    ∙ ap (λ (k : ℕ). put a.entries.now 0 (tabulate k (page_entry 32 (read 32 a.n a.page.now))))
    (sym c.if-n-eq0.true)

pub returns-in_default : goal.returns-in_default
returns-in_default c =
    let a = c.args in
    absurd (good-head 32 a.n a.page.now c.requires.2 (sym c.in_default.ensures))

pub write_blocks-requires : goal.write_blocks-requires
write_blocks-requires c =
    let h = sym c.in-Ok.ensures in
    (omega arith, c.requires.0, head-shaped 32 _ _ h, omega arith, blocks-good 32 _ _ c.requires.2 h)

pub returns : goal.returns
returns c =
    let a = c.args in
    let v = c.in-Ok.head in
    let h = sym c.in-Ok.ensures in
    c.write_blocks.ensures
    ∙ ap
    (λ (x : ℕ). put a.entries.now 0
    (tabulate a.n
    (λ i. signed 32
    (reached 32 x (step 32 (deltas_of (blocks_at 32 v.size v.minis (a.n - 1) (a.n - 1) a.page.now v.next))) i))))
    c.kept_number-from.ensures
    ∙ ap (put a.entries.now 0)
    (tabulate-ext a.n _ _ (λ i l. signed-page 32 a.n a.page.now c.requires.2 h (omega arith) i))
