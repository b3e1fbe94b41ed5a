-- Entries put together from their planes, eight planes at a time, the first planes' digits highest.
use Rattle.std.specs.Prelude.{◌≡◌, List, ℕ, zero, suc, ◌+◌, ◌*◌, ◌/◌, ◌%◌, ◌^◌, ◌≤◌, ◌<◌, get_or}
use Rattle.std.proofs.Common.{sym, ap, ◌∙◌, add-zero, zero-add, add-suc, add_assoc, mul_assoc, pow-suc, mod-eq_of_lt, lt_of_lt_of_le, arith, pow_mono}
use Rattle.rules.specs.Bits.{bit, tabulate, put}
use Rattle.rules.specs.Vertical.{lane}
use Rattle.words.specs.Puts.{put_over}
use Rattle.words.specs.Tabulated.{length-tabulate, get_or-tabulate, tabulate-ext}
use Rattle.vertical_compare.specs.Lanes.{lane-none, lane_lt}
use Rattle.vertical_turn.specs.Turned.{turned, turned_byte}
use Rattle.vertical_turn.specs.Rows.{behind, grown, get_or-put-front}

-- n planes more
pub lane_add : (ps : List ℕ) (at a n j : ℕ) → lane ps at (a + n) j ≡ lane ps at a j * 2 ^ n + lane ps (at + a) n j
unfolding lane
lane_add ps at a zero j = rw add-zero (omega arith)
lane_add ps at a (suc n) j =
    let x : ℕ = lane ps at a j in
    let double : x * 2 ^ suc n ≡ x * 2 ^ n * 2 = rw (pow-suc, mul_assoc) in
    let b : bit (get_or ps (at + (a + n)) 0) j ≡ bit (get_or ps (at + a + n) 0) j =
    ap (λ (k : ℕ). bit (get_or ps k 0) j) (sym (add_assoc at a n)) in
    rw add-suc (omega (arith, lane_add ps at a n j))

-- the turned words' bytes are the lanes
pub grown-turned : (planes z l : List ℕ) (at n m : ℕ) → n ≤ 8 → m ≤ 64
    → tabulate m (grown (put z 0 (tabulate 8 (turned planes at n))) l)
    ≡ tabulate m (λ j. behind (get_or l j 0) (lane planes at n j))
unfolding grown
grown-turned planes z l at n m few fits =
    tabulate-ext m (grown (put z 0 (tabulate 8 (turned planes at n))) l)
    (λ j. behind (get_or l j 0) (lane planes at n j))
    (λ j h. ap (behind (get_or l j 0)) (byte j (omega arith)))
  where
    byte : (j : ℕ) → j < 64
        → get_or (put z 0 (tabulate 8 (turned planes at n))) (j % 8) 0 / 2 ^ (j / 8 * 8) % 256 ≡ lane planes at n j
    byte j h =
        let f : ℕ → ℕ = turned planes at n in
        let word : get_or (put z 0 (tabulate 8 f)) (j % 8) 0 ≡ f (j % 8) =
        get_or-put-front z (tabulate 8 f) (j % 8) (omega (arith, length-tabulate 8 f))
        ∙ get_or-tabulate 8 f (j % 8) 0 (omega arith) in
        ap (λ (x : ℕ). x / 2 ^ (j / 8 * 8) % 256) word ∙ turned_byte planes at n (j % 8) few (j / 8) (omega arith)
        ∙ ap (lane planes at n) (omega arith)

-- n planes more: eight, or the first
pub next_planes : (planes l : List ℕ) (at n m : ℕ) → at + n ≤ 32 → (0 < at → n ≡ 8)
    → put (put l 0 (tabulate m (lane planes 0 at))) 0
    (tabulate m (λ j. behind (get_or (put l 0 (tabulate m (lane planes 0 at))) j 0) (lane planes at n j)))
    ≡ put l 0 (tabulate m (lane planes 0 (at + n)))
next_planes planes l at n m few eight =
    put_over l (tabulate m f) (tabulate m g) 0 (omega arith) (omega (arith, length-tabulate m f, length-tabulate m g))
    ∙ ap (put l 0)
    (tabulate-ext m g (lane planes 0 (at + n))
    (λ j h. ap (λ (x : ℕ). behind x (lane planes at n j)) (held j h) ∙ more at n j few eight))
  where
    f : ℕ → ℕ
    f = lane planes 0 at

    g : ℕ → ℕ
    g j = behind (get_or (put l 0 (tabulate m f)) j 0) (lane planes at n j)

    held : (j : ℕ) → j < m → get_or (put l 0 (tabulate m f)) j 0 ≡ f j
    held j h = get_or-put-front l (tabulate m f) j (omega (arith, length-tabulate m f)) ∙ get_or-tabulate m f j 0 h

    more : (a k j : ℕ) → a + k ≤ 32 → (0 < a → k ≡ 8)
        → behind (lane planes 0 a j) (lane planes a k j) ≡ lane planes 0 (a + k) j
    more zero k j h e =
        ap (λ (x : ℕ). behind x (lane planes 0 k j)) (lane-none planes 0 j) ∙ zero-add (lane planes 0 k j)
        ∙ ap (λ (i : ℕ). lane planes 0 i j) (sym (zero-add k))
    more (suc a) k j h e =
        let all : k ≡ 8 = e (omega arith) in
        let x : ℕ = lane planes 0 (suc a) j in
        let small : x < 2 ^ 24 =
        lt_of_lt_of_le (lane_lt planes 0 (suc a) j) (pow_mono {i = suc a} {j = 24} (omega arith)) in
        rw all (ap (λ (y : ℕ). y * 256 + lane planes (suc a) 8 j) (mod-eq_of_lt small)
        ∙ ap (λ (i : ℕ). x * 256 + lane planes i 8 j) (sym (zero-add (suc a))) ∙ sym (lane_add planes 0 (suc a) 8 j))
