-- One run asked for by itself: refused for its arguments, or read.
use Rattle.std.specs.Prelude.{◌≡◌, Bool, List, ℕ, ◌+◌, ◌-◌, ◌*◌, ◌<◌, ◌≤◌, ltb, leb, length}
use Rattle.std.proofs.Math.Path.{refl}
use Rattle.std.proofs.Math.Bool.{true, false, cond}
use Rattle.std.proofs.Common.{arith}
use borrow.Author.Tests.{lt-ltb, le-ltb, le-leb, lt-leb, ltb-false, leb-false}
use Rattle.rules.specs.Answer.{faulty, ◌then◌, limit_fault}
use Rattle.rules.specs.Runs.{run_at, one_at}
use Rattle.rules.specs.Runs.{Run}
use Rattle.rules.specs.Runs.Run.{Packed, Refused}
use Rattle.answers.specs.Laws.{within-limits}
use Rattle.runs_read.specs.RunRead.{ran_packed}

module _ (w n covered : ℕ) (page : List ℕ) (at : ℕ) where
  -- an argument beyond its limit
  pub one_limited : (limit_fault w n ≡ 0 → ⊥) → one_at w n covered page at ≡ Refused (limit_fault w n)
  unfolding one_at limit_fault ◌then◌
  one_limited some = go (ltb 32 w) (ltb 16384 n) _ some
    where
      go : (wide many : Bool) (r : Run) → ((faulty wide 1 then faulty many 2) ≡ 0 → ⊥)
          → cond wide (Refused 1) (cond many (Refused 2) r) ≡ Refused (faulty wide 1 then faulty many 2)
      go true many r some = refl
      go false true r some = refl
      go false false r some = absurd (some refl)

  module _ (limits : limit_fault w n ≡ 0) where
    pub one-past : length page < at → one_at w n covered page at ≡ Refused 5
    unfolding one_at
    one-past past =
        let l = within-limits w n limits in rw (le-ltb 32 w l.0, le-ltb 16384 n l.1, lt-ltb _ _ past)

    pub one-covered : at ≤ length page → n ≤ covered → one_at w n covered page at ≡ Refused 11
    unfolding one_at
    one-covered on all =
        let l = within-limits w n limits in
        rw (le-ltb 32 w l.0, le-ltb 16384 n l.1, le-ltb _ _ on, le-leb _ _ all)

    pub one-read : at ≤ length page → covered < n → one_at w n covered page at ≡ run_at w (n - covered) page at
    unfolding one_at
    one-read on more =
        let l = within-limits w n limits in
        rw (le-ltb 32 w l.0, le-ltb 16384 n l.1, le-ltb _ _ on, lt-leb _ _ more)

  -- ---- for whoever reads on

  other : (test : Bool) {x y r : Run} → (x ≡ r → ⊥) → cond test x y ≡ r → (test ≡ false) × (y ≡ r)
  other true unless e = absurd (unless e)
  other false unless e = (refl, e)

  -- what was not refused was read, with entries still wanted
  pub one_ran : {r : Run} → ((code : ℕ) → Refused code ≡ r → ⊥) → one_at w n covered page at ≡ r
      → (run_at w (n - covered) page at ≡ r) × (n ≤ 16384) × (covered < n)
  unfolding one_at
  one_ran unless e =
      let a = other (ltb 32 w) (unless 1) e in
      let b = other (ltb 16384 n) (unless 2) a.1 in
      let c = other (ltb (length page) at) (unless 5) b.1 in
      let d = other (leb n covered) (unless 11) c.1 in
      (d.1, ltb-false 16384 n b.0, leb-false n covered d.0)

  pub one-packed : {groups start next : ℕ} → one_at w n covered page at ≡ Packed groups start next
      → (0 < groups) × (8 * groups ≤ 16391) × (next ≡ start + w * groups) × (at < start) × (next ≤ length page)
  one-packed e =
      let o = one_ran (λ code q. let z : ◌≡◌ {A = ℕ} 0 1 = cc in omega arith) e in
      let r = ran_packed w (n - covered) page at o.0 in
      (r.0, omega arith, r.2, r.3, r.4)
