-- At most eight entries as a byte of the bitmap, and the entry after them.
use Rattle.std.specs.Prelude.{◌≡◌, ℕ, ◌+◌, ◌-◌, ◌*◌, ◌/◌, ◌%◌, ◌^◌, ◌<◌, ◌≤◌, min, Bool, List, length, slice_set}
use Rattle.std.proofs.Math.Path.{refl, ap, ap₂}
use Rattle.std.proofs.Common.{sym, ◌∙◌, add-one, arith}
use mir.Val.{bool_byte}
use Rattle.rules.specs.Bits.{ceil, word}
use Rattle.words.specs.Bits.{word-ext, word_fits, word_snoc}
use Rattle.signed.specs.Reached.{reached, reached-ext, reached-raised}
use Rattle.delta_octets.specs.declared.testing.Octet.{Octet}
use Rattle.delta_octets.specs.EntryByEntry.{Passed, passed_eight}
use Rattle.delta_octets.specs.TwoWritings.{selects, selects-more, selects_byte}

-- k entries from x on, by the steps d
unfoldable pub octet_of : ℕ → ℕ → (ℕ → Bool) → ℕ → (ℕ → ℕ) → Octet
octet_of W k test x d = record { bits = word k (λ j. test (reached W x d j)); after = reached W x d k }

-- steps that are equal make the same of them
pub octet_ext : (W k : ℕ) (test : ℕ → Bool) (x : ℕ) (d e : ℕ → ℕ) → ((j : ℕ) → j < k → d j ≡ e j)
    → octet_of W k test x d ≡ octet_of W k test x e
unfolding octet_of
octet_ext W k test x d e same =
    let on : (j : ℕ) → j ≤ k → reached W x d j ≡ reached W x e j =
    λ j h. reached-ext W x d e k j (λ i l. ap (λ (y : ℕ). y % 2 ^ W) (same i l)) h in
    ap₂ (λ (b a : ℕ). record { bits = b; after = a }) (word-ext k (λ j l. ap test (on j (omega arith))))
    (on k (omega arith))

-- ---- one entry after another

module _ (W : ℕ) (test : ℕ → Bool) (from : ℕ) (d : ℕ → ℕ) where
  -- j entries were tested, and x is the one after them
  pub record Tested (j bits x : ℕ) : Type 0 where
    pub are : bits ≡ word j (λ e. test (reached W from d e))
    pub next : x ≡ reached W from d j

  pub tested-none : Tested 0 0 from
  unfolding reached word
  tested-none = record { are = refl; next = refl }

  -- one bit more, in a word of 32
  pub tested-bit : (j bits x : ℕ) (t : Bool) → Tested j bits x → j < 32 → t ≡ test x
      → bits + (bool_byte t * 2 ^ j) % 2 ^ 32 ≡ word (j + 1) (λ e. test (reached W from d e))
  tested-bit j bits x t c h e =
      rw c.are (word_snoc 32 j (λ i. test (reached W from d i)) t h (e ∙ ap test c.next))

  pub tested-fits : (j bits x : ℕ) (t : Bool) → Tested j bits x → j < 32 → t ≡ test x
      → bits + (bool_byte t * 2 ^ j) % 2 ^ 32 < 2 ^ 32
  tested-fits j bits x t c h e =
      rw (tested-bit j bits x t c h e) (word_fits (j + 1) 32 (λ i. test (reached W from d i)) (omega arith))

  pub tested-more : (j bits x x' : ℕ) (t : Bool) → Tested j bits x → j < 32 → t ≡ test x → x' ≡ (x + d j) % 2 ^ W
      → Tested (j + 1) (bits + (bool_byte t * 2 ^ j) % 2 ^ 32) x'
  unfolding reached
  tested-more j bits x x' t c h e step =
      record {
        are = tested-bit j bits x t c h e;
        next = step ∙ ap (λ (y : ℕ). (y + d j) % 2 ^ W) c.next ∙ ap (reached W from d) (sym (add-one j));
      }

  pub tested_octet : (k bits x : ℕ) → Tested k bits x → record { bits = bits; after = x } ≡ octet_of W k test from d
  unfolding octet_of
  tested_octet k bits x c = ap₂ (λ (b a : ℕ). record { bits = b; after = a }) c.are c.next

-- where each entry is kept as what it is above c, wrapping
pub octet_above : (W k : ℕ) (test : ℕ → Bool) (from y c : ℕ) (d : ℕ → ℕ) (bits v after : ℕ) → from ≡ (y + c) % 2 ^ W
    → Tested W (λ u. test ((u + c) % 2 ^ W)) y d k bits v → after ≡ (v + c) % 2 ^ W
    → record { bits = bits; after = after } ≡ octet_of W k test from d
unfolding octet_of
octet_above W k test from y c d bits v after e t up =
    let on : (j : ℕ) → (reached W y d j + c) % 2 ^ W ≡ reached W from d j =
    λ j. sym (reached-raised W y d c j) ∙ ap (λ (x : ℕ). reached W x d j) (sym e) in
    ap₂ (λ (b a : ℕ). record { bits = b; after = a })
    (t.are ∙ word-ext k (λ j l. ap test (on j))) (up ∙ ap (λ (x : ℕ). (x + c) % 2 ^ W) t.next ∙ on k)

-- ---- a byte of the bitmap

module _ (W k : ℕ) (test : ℕ → Bool) (x : ℕ) (d : ℕ → ℕ) (r : Octet) (few : k ≤ 8) (e : r ≡ octet_of W k test x d)
  where
    pub octet_small : r.bits < 256
    unfolding octet_of
    octet_small = rw e (word_fits k 8 (λ j. test (reached W x d j)) few)

    -- its bits are written as those of the entries from i on
    pub octet-passed : (i : ℕ) (out : List ℕ) → 0 < k → i / 8 < length out
        → Passed (selects test) W x d i out k r.after (slice_set out (i / 8) r.bits)
    unfolding octet_of
    octet-passed i out some room =
        record {
          entry = ap (λ (o : Octet). o.after) e;
          wrote = selects_byte test i out k r.bits (reached W x d) room some few (ap (λ (o : Octet). o.bits) e);
        }

-- of k entries j were passed, whole bytes, and then up to eight more
pub octet_next : (W : ℕ) (test : ℕ → Bool) (from : ℕ) (d : ℕ → ℕ) (i : ℕ) (out₀ : List ℕ) (k j x : ℕ) (out : List ℕ)
    (r : Octet)
    → i % 8 ≡ 0 → j % 8 ≡ 0 → j < k → ceil (i + k) 8 ≤ length out₀ → length out ≡ length out₀
    → r ≡ octet_of W (min 8 (k - j)) test x (λ u. d (j + u)) → Passed (selects test) W from d i out₀ (min j k) x out
    → Passed (selects test) W from d i out₀ (min (j + 8) k) r.after (slice_set out ((i + j) / 8) r.bits)
octet_next W test from d i out₀ k j x out r first whole more room same e p =
    passed_eight (selects test) W from d i out₀ k j x r.after out (slice_set out ((i + j) / 8) r.bits)
    (selects-more test i out₀ k first room) whole more p
    (octet-passed W (min 8 (k - j)) test x (λ u. d (j + u)) r (omega arith) e (i + j) out (omega arith) (omega arith))
