-- `vertical_scan::scanning::select_full` meets its contract.
use mathlib.Core.Path.{◌≡◌, sym, ap, ◌∙◌}
use Prim.Native.Nat.{ℕ, ◌+◌, ◌*◌, ◌%◌, ◌^◌}
use native.Mathlib.Nat.{mod-eq_of_lt}
use native.Mathlib.Omega.{arith}
use Rattle.rules.specs.Bits.{put, bytes}
use Rattle.words.specs.Entries.{place-within}
use Rattle.vertical_scan.specs.Chosen.{chosen, lanes64, lanes_lt, none-chosen, next-chosen}
use Rattle.vertical_scan.proofs.scanning.select_full.Goals as goal

pub loop-g-init : goal.loop-g-init
loop-g-init c = let a = c.args in none-chosen a.bitmap.now a.words.now a.w a.band

pub group_bits-requires : goal.group_bits-requires
group_bits-requires c =
    let a = c.args in
    omega (arith, place-within a.w c.loop-g.g a.q (omega arith))

pub loop-g-preserved : goal.loop-g-preserved
loop-g-preserved c =
    let l = c.loop-g in
    let a = c.args in
    let bits : c.group_bits.result ≡ lanes64 a.words.now (l.g * a.w) a.w a.band % 2 ^ 64 =
    c.group_bits.ensures ∙ sym (mod-eq_of_lt (lanes_lt a.words.now (l.g * a.w) a.w a.band)) in
    let more : 64 * (l.g + 1) ≡ 64 * l.g + 64 = omega arith in
    c.store8.ensures ∙ ap (λ x. put x (8 * l.g) (bytes 8 c.group_bits.result)) l.invariant
    ∙ next-chosen a.bitmap.now a.words.now a.w a.band l.g 64 _ (omega arith) (omega arith) bits
    ∙ ap (λ (k : ℕ). put a.bitmap.now 0 (chosen a.words.now k a.w a.band)) (sym more)

pub returns : goal.returns
returns c =
    let all : c.loop-g.g ≡ c.args.q = omega arith in
    rw (← all) c.loop-g.invariant
