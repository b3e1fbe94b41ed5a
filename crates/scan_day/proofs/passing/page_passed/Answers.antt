-- `scan_day::passing::page_passed` meets its contract: each turn passes one second.
use mathlib.Core.Path.{refl}
use mathlib.Core.Bool.{true}
use Prim.Native.Nat.{◌-◌, ◌≤◌}
use native.Mathlib.Omega.{arith}
use Rattle.rules.specs.Bits.{bit_at}
use Rattle.rules.specs.Bits.Order.{low_first}
use Rattle.scan_day.specs.SecondsPassed.{passing, counting, chosen_by, flag_is, stepped-none}
use Rattle.scan_day.specs.SecondsPassed.{stepped-next, stepped_all}
use Rattle.scan_day.proofs.passing.page_passed.Goals as goal

pub loop-second-init : goal.loop-second-init
loop-second-init c =
    let a = c.args in
    let chosen = chosen_by a.bitmap.now a.start in
    record {
      within = omega arith;
      so_far = stepped-none passing chosen a.start a.before;
      selected = stepped-none counting chosen a.start a.selected.now;
      answered = stepped-none counting (λ _. true) a.start a.answered.now;
    }

pub loop-second-preserved : goal.loop-second-preserved
loop-second-preserved c =
    let a = c.args in
    let s = c.loop-second.second in
    let chosen = chosen_by a.bitmap.now a.start in
    let told =
    flag_is c.is_set-is_selected.result (bit_at low_first 8 a.bitmap.now (s - a.start))
    c.is_set-is_selected.ensures in
    let from : a.start ≤ s = omega arith in
    record {
      within = omega arith;
      so_far =
          stepped-next passing chosen a.start a.before s c.is_set-is_selected.result c.loop-second.passed
          c.second_passed-passed.result from told c.loop-second.invariant.so_far c.second_passed-passed.ensures.value;
      selected =
          stepped-next counting chosen a.start a.selected.now s c.is_set-is_selected.result _ _ from told
          c.loop-second.invariant.selected c.second_passed-passed.ensures.selected_after;
      answered =
          stepped-next counting (λ _. true) a.start a.answered.now s true _ _ from refl
          c.loop-second.invariant.answered c.second_passed-passed.ensures.answered_after;
    }

pub returns : goal.returns
returns c =
    let a = c.args in
    let chosen = chosen_by a.bitmap.now a.start in
    let few = c.loop-second.invariant.within in
    let past : a.end ≤ c.loop-second.second = omega arith in
    record {
      value =
          stepped_all passing chosen a.start a.before c.loop-second.second a.end c.loop-second.passed few past
          c.loop-second.invariant.so_far;
      selected_after =
          stepped_all counting chosen a.start a.selected.now c.loop-second.second a.end _ few past
          c.loop-second.invariant.selected;
      answered_after =
          stepped_all counting (λ _. true) a.start a.answered.now c.loop-second.second a.end _ few past
          c.loop-second.invariant.answered;
    }
