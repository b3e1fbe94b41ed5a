-- `spans_list::listing::list` meets its contract. The loop's invariant: the edges of the words passed are in place.
use mathlib.Core.Path.{◌≡◌, refl, ap, ◌∙◌}
use mathlib.Core.Bool.{Bool}
use mathlib.Core.List.{List}
use Prim.Native.Nat.{ℕ, ◌+◌, ◌*◌, ◌/◌, ◌%◌, ◌^◌, ◌≤◌}
use native.Mathlib.Omega.{arith}
use lib.Bits.{bit_xor}
use lib.Count.{ones}
use lib.Dec.{eqb}
use lib.ListN.{length}
use Rattle.rules.specs.Bits.{flag, word, put}
use Rattle.rules.specs.Spans.{selected, spans}
use Rattle.words.specs.Puts.{put-none}
use Rattle.spans_list.specs.Turns.{in_front, front_le, turned, turned_open, turned-spans}
use Rattle.spans_list.specs.Turns.{turned-within}
use Rattle.spans_list.specs.SetBits.{edges_of, one-flag}
use Rattle.spans_list.specs.SelectedWords.{selected-whole, turns-count, turns-edges, turned_more, turned-put}
use Rattle.spans_list.proofs.listing.list.Goals as goal

pub loop-q-init : goal.loop-q-init
unfolding turned
loop-q-init c = (refl, put-none _ 0)

-- whether a stretch is open in front of the next word
carry : (test : ℕ → Bool) (q : ℕ) {at : ℕ} → at ≡ length (turned test (64 * q) 0)
    → at % 2 ≡ flag (in_front test (64 * q))
carry test q count = ap (λ (k : ℕ). k % 2) count ∙ turned_open test (64 * q)

-- the edges of that word, x
pub record Next (test : ℕ → Bool) (before places : List ℕ) (at q x : ℕ) : Type 0 where
  -- put behind those of the words passed
  pub stored : put places at (edges_of (eqb (at % 2) 1) 64 (64 * q) (bit_xor x (x % 2 ^ 63 * 2 + at % 2)))
      ≡ put before 0 (turned test (64 * q + 64) 0)
  pub count : at + ones (bit_xor x (x % 2 ^ 63 * 2 + at % 2)) ≡ length (turned test (64 * q + 64) 0)
  -- what `put_turns` asks of them
  pub asked : (64 * q ≤ 16384) × (at % 2 ≤ 64 * q)
      × (at + ones (bit_xor x (x % 2 ^ 63 * 2 + at % 2)) ≤ length places)

next : (bits : List ℕ) (n : ℕ) {before places : List ℕ} {at : ℕ} (q x : ℕ) → n ≤ 16384
    → length (spans bits n) ≤ length before → 64 * q ≤ n
    → at ≡ length (turned (selected bits n) (64 * q) 0)
    → places ≡ put before 0 (turned (selected bits n) (64 * q) 0) → length places ≡ length before
    → x ≡ word 64 (λ j. selected bits n (64 * q + j)) → Next (selected bits n) before places at q x
next bits n {before} {places} {at} q x few room within counted put_so long is =
    let t = selected bits n in
    let opened = carry t q counted in
    let many = turns-count t (64 * q) x (at % 2) is opened in
    let count : at + ones (bit_xor x (x % 2 ^ 63 * 2 + at % 2)) ≡ length (turned t (64 * q + 64) 0) =
    omega (arith, many, counted, turned_more t (64 * q)) in
    let open_is : eqb (at % 2) 1 ≡ in_front t (64 * q) =
    ap (λ (k : ℕ). eqb k 1) opened ∙ one-flag (in_front t (64 * q)) in
    let edges : edges_of (eqb (at % 2) 1) 64 (64 * q) (bit_xor x (x % 2 ^ 63 * 2 + at % 2)) ≡ turned t 64 (64 * q) =
    ap (λ (b : Bool). edges_of b 64 (64 * q) (bit_xor x (x % 2 ^ 63 * 2 + at % 2))) open_is
    ∙ turns-edges t (64 * q) x (at % 2) is opened in
    let enough : length (turned t (64 * q + 64) 0) ≤ length before =
    omega (arith, room, turned-within bits n (64 * q + 64)) in
    record {
      stored = turned-put t (64 * q) before put_so counted (ap (put places at) edges) enough;
      count = count;
      asked = (omega arith, omega (arith, opened, front_le t (64 * q)), omega (arith, count, enough, long));
    }

pub put_turns-at-requires : goal.put_turns-at-requires
put_turns-at-requires c =
    let a = c.args in
    let l = c.loop-q in
    let v = l.invariant in
    (next a.bitmap.now a.n l.q c.load8.result c.requires.0 c.requires.2 (omega arith) v.0 v.1 l.auto.places
    (selected-whole a.bitmap.now (λ i. (c.type_inv.bitmap i).fits) a.n l.q c.load8.result (omega arith)
    c.load8.ensures (omega (arith, c.loop-q-test.true)))).asked

pub loop-q-preserved : goal.loop-q-preserved
loop-q-preserved c =
    let a = c.args in
    let l = c.loop-q in
    let v = l.invariant in
    let n = next a.bitmap.now a.n l.q c.load8.result c.requires.0 c.requires.2 (omega arith) v.0 v.1 l.auto.places
    (selected-whole a.bitmap.now (λ i. (c.type_inv.bitmap i).fits) a.n l.q c.load8.result (omega arith)
    c.load8.ensures (omega (arith, c.loop-q-test.true))) in
    let at : 64 * (l.q + 1) ≡ 64 * l.q + 64 = omega arith in
    rw at (c.put_turns-at.ensures.place ∙ n.count, c.put_turns-at.ensures.wrote ∙ n.stored)

pub put_turns-requires : goal.put_turns-requires
put_turns-requires c =
    let a = c.args in
    let l = c.loop-q in
    let e : l.q ≡ a.n / 64 = omega arith in
    let v = rw e at l.invariant in
    (next a.bitmap.now a.n (a.n / 64) c.last_word.result c.requires.0 c.requires.2 (omega arith) v.0 v.1
    l.auto.places c.last_word.ensures).asked

pub returns : goal.returns
returns c =
    let a = c.args in
    let l = c.loop-q in
    let e : l.q ≡ a.n / 64 = omega arith in
    let v = rw e at l.invariant in
    let n = next a.bitmap.now a.n (a.n / 64) c.last_word.result c.requires.0 c.requires.2 (omega arith) v.0 v.1
    l.auto.places c.last_word.ensures in
    let all = turned-spans a.bitmap.now a.n (64 * (a.n / 64) + 64) (omega arith) in
    record {
      count = c.put_turns.ensures.place ∙ n.count ∙ ap length all;
      wrote = c.put_turns.ensures.wrote ∙ n.stored ∙ ap (put a.places.now 0) all;
    }
