-- `words::stores::store_each` meets its contract: each turn stores one byte more.
use mathlib.Core.Path.{◌≡◌, sym, ◌∙◌}
use mathlib.Core.List.{List}
use Prim.Native.Nat.{ℕ, ◌+◌, ◌-◌, ◌^◌}
use native.Mathlib.Nat.{div-one, div-div-eq-div-mul, pow-suc, zero-add}
use native.Mathlib.Numerals.{add-one}
use native.Mathlib.Omega.{arith}
use lib.ListN.{length, take, drop, length-drop}
use lib.Seq.{length-take-le}
use Rattle.rules.specs.Bits.{bytes}
use Rattle.words.specs.Bytes.{put_next, length-bytes}
use Rattle.words.specs.Puts.{put-none, put-all, part-put}
use Rattle.words.proofs.stores.store_each.Goals as goal

pub loop-byte-init : goal.loop-byte-init
unfolding bytes
loop-byte-init c = record { rest = sym (div-one c.args.x); stored = put-none _ 0 }

pub loop-byte-preserved : goal.loop-byte-preserved
loop-byte-preserved c =
    let l = c.loop-byte in
    let x = c.args.x in
    let t : List ℕ = take (c.args.at + c.args.n - c.args.at) (drop c.args.at c.args.s.now) in
    record {
      rest = rw (l.invariant.rest, add-one, pow-suc) (div-div-eq-div-mul x (256 ^ l.byte-index) 256);
      stored = rw (l.invariant.stored, l.invariant.rest) (rw zero-add at (put_next t 0 l.byte-index x (omega arith)));
    }

pub returns : goal.returns
returns c =
    let a = c.args in
    let t : List ℕ = take (a.at + a.n - a.at) (drop a.at a.s.now) in
    let size : length t ≡ a.n = length-take-le _ (drop a.at a.s.now) (omega (arith, length-drop a.at a.s.now)) ∙ omega arith in
    let all : c.loop-byte.byte-index ≡ a.n = omega arith in
    rw (c.loop-byte.invariant.stored, all, put-all t (bytes a.n a.x) (size ∙ sym (length-bytes a.n a.x)))
    (part-put a.s.now (bytes a.n a.x) a.at (a.at + a.n) (omega (arith, length-bytes a.n a.x)))
