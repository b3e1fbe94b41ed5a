-- `vertical_planes::lanes::together` meets its contract.
use mathlib.Core.Path.{refl}
use Prim.Native.Nat.{◌+◌, ◌-◌, ◌^◌, ◌<◌}
use native.Mathlib.Omega.{arith}
use mathlib.Core.Path.{◌≡◌}
use mathlib.Core.List.{List}
use Prim.Native.Nat.{ℕ}
use lib.Bits.{bit_and, bit_xor}
use lib.ListN.{length, get_or}
use Rattle.vertical_planes.specs.Together.{Turned, together_none, together_next, together_told, parted}
use Rattle.vertical_planes.proofs.lanes.together.Goals as goal

pub loop-i-init : goal.loop-i-init
loop-i-init c = (omega arith, λ band _ w. together_none _ band w)

-- one plane more, where the ends have the same bit
turned_next : (planes lows apart : List ℕ) (i alike : ℕ) → i < length planes → get_or planes i 0 < 2 ^ 64
    → 0 < alike → Turned planes lows apart i alike → get_or apart i 0 ≡ 0
    → Turned planes lows apart (i + 1)
    (bit_and alike (2 ^ 64 - 1 - bit_xor (get_or planes i 0) (get_or lows i 0)))
turned_next planes lows apart i alike more small some turned none band masked w =
    together_next planes lows apart band masked i alike more small some (turned band masked w) none

pub returns-then-apart-i-ne0 : goal.returns-then-apart-i-ne0
returns-then-apart-i-ne0 c band masked w =
    let a = c.args in
    let l = c.loop-i in
    parted a.planes.now a.lows.now a.apart.now band masked _ _
    (omega arith) (omega (arith, c.type_inv.planes l.i))
    l.invariant.0 (l.invariant.1 band masked w) c.if-apart-i-ne0.true

pub returns-then-alike-eq0 : goal.returns-then-alike-eq0
returns-then-alike-eq0 c band masked w =
    let a = c.args in
    let l = c.loop-i in
    let turned =
    turned_next a.planes.now a.lows.now a.apart.now l.i l.alike (omega arith)
    (omega (arith, c.type_inv.planes l.i)) l.invariant.0 l.invariant.1 c.if-apart-i-ne0.false in
    together_told _ _ _ _ (rw c.if-alike-eq0.true at (turned band masked w)) (λ _. refl)

pub loop-i-preserved : goal.loop-i-preserved
loop-i-preserved c =
    let a = c.args in
    let l = c.loop-i in
    let turned =
    turned_next a.planes.now a.lows.now a.apart.now l.i l.alike (omega arith)
    (omega (arith, c.type_inv.planes l.i)) l.invariant.0 l.invariant.1 c.if-apart-i-ne0.false in
    (omega (arith, c.if-alike-eq0.false), turned)

pub returns : goal.returns
returns c band masked w =
    let all : c.loop-i.i ≡ length c.args.planes.now = omega arith in
    rw (← all) (together_told _ _ _ _ (c.loop-i.invariant.1 band masked w) (λ more. absurd (omega arith)))
