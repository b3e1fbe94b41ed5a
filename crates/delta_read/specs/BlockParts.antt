-- What a block that was read says: where its parts lie on the page, and that no needed width is above W.
use Rattle.std.specs.Prelude.{◌≡◌, refl, List, ltb, length, drop, get_or}
use Rattle.std.proofs.Common.{subst, arith, length-drop, get_or-drop, ltb-false}
use Prim.Native.Nat.{ℕ, zero, suc, ◌+◌, ◌-◌, ◌^◌, ◌<◌, ◌≤◌}
use Rattle.rules.specs.Varint.{number_at}
use Rattle.rules.specs.Delta.{width_fault, body_bytes, laid_at, block_at}
use Rattle.rules.specs.declared.Number.TheVariants.{Read}
use Rattle.rules.specs.Delta.{Block}
use Rattle.rules.specs.Delta.Block.{Laid, Unlaid}
use Rattle.words.specs.Tests.{either}
use Rattle.varints.specs.Places.{next-within}
use Rattle.varints.specs.Fields.{by_field}
use Rattle.delta_read.specs.WidthBytes.{widths-there, narrow}

-- the smallest delta h, then width bytes without a fault, then all the bodies
pub data Lies (W minis need m : ℕ) (page : List ℕ) (at : ℕ) : Block → Type 0 where
  unlaid : (code : ℕ) → 0 < code → Lies W minis need m page at (Unlaid code)
  lies : (h widths : ℕ) → number_at W page at ≡ Read h widths → width_fault W minis need (drop widths page) ≡ 0
      → body_bytes need m page widths ≤ length page - (widths + minis)
      → Lies W minis need m page at (Laid h widths (widths + minis + body_bytes need m page widths))

pub record LaidAt (W minis need m : ℕ) (page : List ℕ) (at h widths next : ℕ) : Type 0 where
  pub small : h < 2 ^ W
  pub behind : at < widths
  pub there : widths + minis ≤ length page
  pub ends : next ≡ widths + minis + body_bytes need m page widths
  pub within : next ≤ length page
  pub narrow : need ≤ minis → (k : ℕ) → k < need → get_or page (widths + k) 0 ≤ W

module _ (W minis need m : ℕ) (page : List ℕ) (at : ℕ) where
  pub block-lies : Lies W minis need m page at (block_at W minis need m page at)
  unfolding block_at laid_at
  block-lies =
      by_field Unlaid _ (Lies W minis need m page at) (number_at W page at) (unlaid 5 (omega arith))
      (unlaid 9 (omega arith))
      (λ h widths e. judged h widths e (width_fault W minis need (drop widths page)) refl)
    where
      judged : (h widths : ℕ) → number_at W page at ≡ Read h widths → (code : ℕ)
          → width_fault W minis need (drop widths page) ≡ code
          → Lies W minis need m page at (laid_at h minis need m page widths code)
      judged h widths e zero fine =
          either (Lies W minis need m page at) (ltb (length page - (widths + minis)) (body_bytes need m page widths))
          (λ _. unlaid 5 (omega arith)) (λ room. lies h widths e fine (ltb-false _ _ room))
      judged h widths e (suc code) fine = unlaid (suc code) (omega arith)

  pub block-laid : {h widths next : ℕ} → block_at W minis need m page at ≡ Laid h widths next
      → LaidAt W minis need m page at h widths next
  block-laid e = go (subst (Lies W minis need m page at) e block-lies)
    where
      go : {h widths next : ℕ} → Lies W minis need m page at (Laid h widths next)
          → LaidAt W minis need m page at h widths next
      go (lies h widths q fine room) =
          let n = next-within W page at h widths q in
          let all : widths + minis ≤ length page =
          omega (arith, length-drop widths page, widths-there W minis need (drop widths page) fine) in
          record {
            small = n.1;
            behind = n.2;
            there = all;
            ends = refl;
            within = omega arith;
            narrow =
                λ le k l. rw (← (get_or-drop widths page k 0)) (narrow W minis need (drop widths page) k fine le l);
          }
