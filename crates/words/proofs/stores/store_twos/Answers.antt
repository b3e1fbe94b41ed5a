-- `words::stores::store_twos` meets its contract: each turn stores two bytes more.
use mathlib.Core.Path.{◌≡◌, sym, ap, ◌∙◌}
use mathlib.Core.List.{List}
use Prim.Native.Nat.{ℕ, ◌+◌, ◌*◌, ◌/◌, ◌%◌, ◌^◌, ◌≤◌}
use native.Mathlib.Omega.{arith}
use lib.ListN.{length}
use Rattle.rules.specs.Bits.{bytes, put}
use Rattle.words.specs.Bytes.{bytes_add, bytes_mod, pow_256, length-bytes}
use Rattle.words.specs.Puts.{put-none, put-put}
use Rattle.words.proofs.stores.store_twos.Goals as goal

-- two bytes more behind those that are stored
more : (l : List ℕ) (at i x : ℕ) → at + 2 * i + 2 ≤ length l
    → put (put l at (bytes (2 * i) x)) (at + 2 * i) (bytes 2 (x / 2 ^ (16 * i) % 65536)) ≡ put l at (bytes (2 * (i + 1)) x)
more l at i x h =
    let front : List ℕ = bytes (2 * i) x in
    let two : List ℕ = bytes 2 (x / 256 ^ (2 * i)) in
    let size : length front ≡ 2 * i = length-bytes (2 * i) x in
    let place : 16 * i ≡ 8 * (2 * i) = omega arith in
    let all : 2 * (i + 1) ≡ 2 * i + 2 = omega arith in
    rw (place, ← (pow_256 (2 * i)), bytes_mod 2 (x / 256 ^ (2 * i)), all)
    (ap (λ (k : ℕ). put (put l at front) (at + k) two) (sym size)
    ∙ put-put l front two at (omega (arith, length-bytes 2 (x / 256 ^ (2 * i))))
    ∙ ap (put l at) (sym (bytes_add (2 * i) 2 x)))

pub loop-i-init : goal.loop-i-init
unfolding bytes
loop-i-init c = put-none c.args.s.now c.args.at

pub loop-i-preserved : goal.loop-i-preserved
loop-i-preserved c =
    let a = c.args in
    let l = c.loop-i in
    rw (c.store2.ensures, l.invariant) (more a.s.now a.at l.i a.x (omega arith))

pub returns : goal.returns
returns c =
    let all : c.loop-i.i ≡ c.args.k = omega arith in
    rw (← all) c.loop-i.invariant
