-- `runs_mark::bits::append_bits` meets its contract: each piece is put behind those before it, and the last one is what
-- is left of the number.
use mathlib.Core.Path.{◌≡◌, sym, ap, subst, ◌∙◌}
use borrow.Author.Rules.{rules}
use Prim.Native.Nat.{ℕ, ◌+◌, ◌-◌, ◌*◌, ◌/◌, ◌%◌, ◌^◌, ◌<◌}
use native.Mathlib.Omega.{arith}
use Rattle.rules.specs.Bits.{number}
use Rattle.words.specs.Appended.{appended}
use Rattle.runs_mark.specs.SeveralGoes.{Begun}
use Rattle.runs_mark.specs.PieceByPiece.{pieces_none, pieces_more, last-piece, pieces_all}
use Rattle.runs_mark.proofs.bits.append_bits.Goals as goal

pub loop-piece-init : goal.loop-piece-init
loop-piece-init c = pieces_none _ _ _

pub loop-piece-preserved : goal.loop-piece-preserved
loop-piece-preserved c =
    let l = c.loop-piece in
    let a = c.args in
    let n = number a.bits.now in
    let bit : 8 * (7 * l.piece) ≡ 56 * l.piece = omega arith in
    let place : 56 * l.piece + 56 ≡ 56 * (l.piece + 1) = omega arith in
    let stored : c.append_at.new.out
    ≡ appended l.bitmap (a.p + 56 * l.piece) (n / 2 ^ (56 * l.piece) % 2 ^ 56) 56 =
    c.append_at.ensures
    ∙ ap (λ (x : ℕ). appended l.bitmap (a.p + 56 * l.piece) x 56)
    (c.bits_at.ensures ∙ ap (λ (k : ℕ). n / 2 ^ k % 2 ^ 56) bit) in
    subst (λ (m : ℕ). Begun a.bitmap.now a.p (n % 2 ^ m) m c.append_at.new.out) place
    (pieces_more a.bitmap.now a.p n l.bitmap _ (56 * l.piece) 56 (omega arith) l.invariant stored)

pub append_at-requires-2 : goal.append_at-requires-2
append_at-requires-2 c =
    let a = c.args in
    let m = 56 * ((a.k - 1) / 56) in
    let bit : 8 * (7 * ((a.k - 1) / 56)) ≡ m = omega arith in
    let whole : a.k ≡ m + (a.k - m) = omega arith in
    let fits : number a.bits.now < 2 ^ (m + (a.k - m)) = rw (← whole) c.requires.3 in
    let small : c.bits_at-last.result < 2 ^ (a.k - m) =
    rw (c.bits_at-last.ensures, bit) (last-piece (number a.bits.now) m (a.k - m) 56 (omega arith) fits).1 in
    search rules

pub returns : goal.returns
returns c =
    let a = c.args in
    let l = c.loop-piece in
    let n = number a.bits.now in
    let m = 56 * ((a.k - 1) / 56) in
    let rest = a.k - m in
    let bit : 8 * (7 * ((a.k - 1) / 56)) ≡ m = omega arith in
    let all : 56 * l.piece ≡ m = omega arith in
    let whole : a.k ≡ m + rest = omega arith in
    let fits : n < 2 ^ (m + rest) = rw (← whole) c.requires.3 in
    let stored : c.append_at-2.new.out ≡ appended l.bitmap (a.p + m) (n / 2 ^ m % 2 ^ 56) rest =
    c.append_at-2.ensures
    ∙ ap (λ (x : ℕ). appended l.bitmap (a.p + m) x rest)
    (c.bits_at-last.ensures ∙ ap (λ (k : ℕ). n / 2 ^ k % 2 ^ 56) bit) in
    pieces_all a.bitmap.now a.p n l.bitmap _ m rest 56 (omega arith) fits
    (subst (λ (k : ℕ). Begun a.bitmap.now a.p (n % 2 ^ k) k l.bitmap) all l.invariant) stored
    ∙ ap (appended a.bitmap.now a.p n) (sym whole)
