-- When a dictionary column has no fault, in plain conditions: of its dictionary, of its index page by the published
-- grammar, and of its indexes. The column as a whole: proofs/DictionaryFaults.
use Rattle.std.specs.Prelude.{◌≡◌, refl, true, false, not, cond, ◌||◌, List, [], ◌∷◌, ◌↔◌, T, leb, ltb, ℤ, length, ◌<ℤ◌}
use Rattle.std.proofs.Common.{ap, ap₂, ◌∙◌, arith}
use Rattle.std.proofs.Math.Bool.{Bool}
use Rattle.std.proofs.Math.Logic.Iff
use Prim.Native.Nat.{ℕ, suc, ◌-◌, ◌%◌, ◌≤◌, ◌<◌}
use Rattle.std.specs.Int.Signed.{le_z, lt_z, lt_z_yes}
use borrow.Author.Tests.{ltb-false, le-ltb, leb-false, lt-leb}
use Rattle.rules.specs.Runs.{read, stream_fault, stream_entry}
use Rattle.rules.specs.Runs.Stream.{bad}
use Rattle.rules.specs.Grammar.{Piece, Cut}
use Rattle.rules.specs.Dictionary.{value, count, unordered, dictionary_fault, indexes, index_at, index_fault}
use Rattle.words.specs.Tests as Tests
use Rattle.words.specs.SomeBelow.{none_below, below_none}
use Rattle.signed.specs.Order.{not_lt_z, not_le_z}
use Rattle.runs_read.specs.Exact as Runs
use Rattle.promises.specs.NoFault.{◌and◌, no_fault, no_rest}
use Rattle.promises.specs.Runs.{entry_of}

-- 4-byte numbers, 65,536 bytes at most, strictly ascending
pub record Ascending (dict : List ℕ) : Type 0 where
  pub whole : length dict % 4 ≡ 0
  pub short : length dict ≤ 65536
  pub ascends : (k : ℕ) → suc k < count dict → value dict k <ℤ value dict (suc k)

-- a width byte of at most 32, and behind it bytes that can be cut into runs of that width that cover n entries
pub record Indexes (page : List ℕ) (n : ℕ) : Type 0 where
  pub width : ℕ
  pub behind : List ℕ
  pub page_is : page ≡ width ∷ behind
  pub narrow : width ≤ 32
  pub runs : List Piece
  pub cut : Cut width n behind runs

-- index i of a page so cut
abbrev pub index_of : {page : List ℕ} {n : ℕ} → Indexes page n → ℕ → ℕ
index_of p i = entry_of p.width p.runs i

pub record Exact (page dict : List ℕ) (n : ℕ) : Type 0 where
  pub ascending : Ascending dict
  pub cuttable : Indexes page n
  -- every index is below the dictionary's count
  pub below : (i : ℕ) → i < n → index_of cuttable i < count dict

-- ---- 14

-- neither of two tests holds
neither-holds : {P Q : Type 0} (s t : Bool) → (s ≡ false ↔ P) → (t ≡ false ↔ Q) → s || t ≡ false ↔ P and Q
neither-holds s t p q = Iff.trans (Tests.neither s t, λ e. ap₂ ◌||◌ e.0 e.1) (Iff.and p q)

-- not at most is above
above : (x y : ℤ) → le_z y x ≡ false ↔ x <ℤ y
above x y = (λ e. lt_z_yes (rw (not_le_z x y, e) tt), λ h. not_lt_z y x ∙ go (lt_z x y) h.lt)
  where
    go : (t : Bool) → T t → not t ≡ false
    go true h = refl
    go false h = absurd h

module _ (dict : List ℕ) where
  ordered : unordered dict ≡ false ↔ ((k : ℕ) → suc k < count dict → value dict k <ℤ value dict (suc k))
  unfolding unordered
  ordered =
      let test : ℕ → Bool = λ k. le_z (value dict (suc k)) (value dict k) in (
        λ e k h. (above (value dict k) (value dict (suc k))).0 (below_none (count dict - 1) test e k (omega arith)),
        λ h. none_below (count dict - 1) test
            (λ k l. (above (value dict k) (value dict (suc k))).1 (h k (omega arith))),
      )

  pub dictionary-exact : dictionary_fault dict ≡ 0 ↔ Ascending dict
  unfolding dictionary_fault
  dictionary-exact =
      Iff.trans (no_fault _ 14 (λ e. omega arith))
      (Iff.trans
      (neither-holds _ _
      (neither-holds _ _ (no_rest (length dict % 4)) (ltb-false 65536 (length dict), le-ltb 65536 (length dict)))
      ordered) (
        λ e. record { whole = e.0.0; short = e.0.1; ascends = e.1 },
        λ good. ((good.whole, good.short), good.ascends),
      ))

-- ---- the index page, and 15

-- the indexes read are those so cut
pub indexes-cut : {page : List ℕ} {n : ℕ} (p : Indexes page n) → index_at n page ≡ index_of p
unfolding index_at
indexes-cut {page} {n} p =
    ap (index_at n) p.page_is
    ∙ ap (stream_entry p.width) ((Runs.exact p.width n p.behind p.runs).1 p.cut)

-- 5, 1, and those of the stream
pub indexes-exact : (page : List ℕ) (n : ℕ) → stream_fault (indexes n page) ≡ 0 ↔ Indexes page n
unfolding indexes
indexes-exact page n = (go page, back)
  where
    found : (w : ℕ) (s : List ℕ) (t : Bool) → ltb 32 w ≡ t → stream_fault (cond t (bad 1) (read w n s)) ≡ 0
        → Indexes (w ∷ s) n
    found w s true e z = absurd (omega arith)
    found w s false e z =
        let c = (Runs.accepted w n s).0 z in
        record { width = w; behind = s; page_is = refl; narrow = ltb-false 32 w e; runs = c.0; cut = c.1 }

    go : (page : List ℕ) → stream_fault (indexes n page) ≡ 0 → Indexes page n
    go [] z = absurd (omega arith)
    go (w ∷ s) z = found w s (ltb 32 w) refl z

    back : Indexes page n → stream_fault (indexes n page) ≡ 0
    back p =
        ap (λ (l : List ℕ). stream_fault (indexes n l)) p.page_is
        ∙ rw (le-ltb 32 p.width p.narrow) ((Runs.accepted p.width n p.behind).1 (p.runs, p.cut))

pub below-exact : (page dict : List ℕ) (n : ℕ)
    → index_fault dict n page ≡ 0 ↔ ((i : ℕ) → i < n → index_at n page i < count dict)
unfolding index_fault
below-exact page dict n =
    let test : ℕ → Bool = λ i. leb (count dict) (index_at n page i) in
    Iff.trans (no_fault _ 15 (λ e. omega arith)) (
      λ e i h. leb-false (count dict) (index_at n page i) (below_none n test e i h),
      λ h. none_below n test (λ i l. lt-leb (count dict) (index_at n page i) (h i l)),
    )
