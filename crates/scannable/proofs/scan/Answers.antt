-- `scannable::scan` meets its contract: the arguments' faults first, then the room's and the page's, then the
-- band's bitmap and its count.
use Rattle.std.proofs.Common.{◌≡◌, refl, sym, ◌∙◌, arith, ℕ, ℤ, length, FitsSigned, to_z, of_z, w64}
use mir.ValLaws.{to_z-of_z}
use Rattle.answers.specs.Laws.{then_judged, then_refused, passed_up, has_room, refused_call}
use Rattle.bitmaps.specs.ScanEnds.{scanned_call}
use Rattle.compare.specs.declared.bands.Band.{Band}
use Rattle.arguments.specs.Arguments.{arguments_of}
use Rattle.arguments.specs.Arguments.Arguments.{Good}
use Rattle.arguments.specs.ScanAnswers.{good_arguments, scan-bad, scan_good}
use Rattle.scannable.proofs.scan.Goals as goal

-- good arguments are within the limits; the constants come through the call as they are
known : (limits op : ℕ) (a b : ℤ) (band : Band) → FitsSigned w64 a → FitsSigned w64 b
    → Good band ≡ arguments_of limits op (to_z w64 (of_z w64 a)) (to_z w64 (of_z w64 b))
    → (limits ≡ 0) × (arguments_of limits op a b ≡ Good band)
known limits op a b band fits also judged =
    let good = sym (rw (to_z-of_z w64 a fits, to_z-of_z w64 b also) at judged) in
    ((good_arguments limits op a b band good).within, good)

pub returns-in_err-band : goal.returns-in_err-band
returns-in_err-band g c =
    let a = c.args in
    let bad =
    sym (rw (to_z-of_z w64 a.a c.ranges.a, to_z-of_z w64 a.b c.ranges.b) at c.in_err-band.ensures) in
    rw (passed_up _ _ c.from_residual.ensures) (scan-bad _ _ _ _ _ _ _ _ _ _ bad refl)

pub overflow_add-n : goal.overflow_add-n
overflow_add-n g c =
    let a = c.args in
    let good = known _ a.op _ _ _ c.ranges.a c.ranges.b c.in_ok-band.ensures in
    record { fits = omega (arith, (g.met.P.Scannable.bounds a.page a.n good.0).0) }

pub returns-in_err-judge_room : goal.returns-in_err-judge_room
returns-in_err-judge_room g c =
    let a = c.args in
    let good = known _ a.op _ _ _ c.ranges.a c.ranges.b c.in_ok-band.ensures in
    rw (passed_up _ _ c.from_residual-in_err-judge_room.ensures)
    (scan_good _ _ _ _ _ a.n _ _ _ _ _ good.1 (λ i l. (g.met.P.Scannable.bounds a.page a.n good.0).1 i)
    (refused_call _ _ _ _ _ (then_refused _ _ _ c.in_err-judge_room.ensures)))

pub judge_page-requires : goal.judge_page-requires
judge_page-requires g c = (known _ c.args.op _ _ _ c.ranges.a c.ranges.b c.in_ok-band.ensures).0

pub returns-in_err-judge_page : goal.returns-in_err-judge_page
returns-in_err-judge_page g c =
    let a = c.args in
    let good = known _ a.op _ _ _ c.ranges.a c.ranges.b c.in_ok-band.ensures in
    rw (passed_up _ _ c.from_residual-in_err-judge_page.ensures)
    (scan_good _ _ _ _ _ a.n _ _ _ _ _ good.1 (λ i l. (g.met.P.Scannable.bounds a.page a.n good.0).1 i)
    (refused_call _ _ _ _ _ (then_judged _ _ c.in_ok-judge_room.ensures ∙ sym c.in_err-judge_page.ensures)))

pub select-requires : goal.select-requires
select-requires g c = (
  (known _ c.args.op _ _ _ c.ranges.a c.ranges.b c.in_ok-band.ensures).0,
  sym c.in_ok-judge_page.ensures,
  has_room _ _ (sym c.in_ok-judge_room.ensures),
)

pub counted-requires : goal.counted-requires
counted-requires g c =
    let a = c.args in
    let good = known _ a.op _ _ _ c.ranges.a c.ranges.b c.in_ok-band.ensures in
    let kept : length c.select.new.bitmap ≡ length a.bitmap.now = c.select.auto.bitmap in
    ((g.met.P.Scannable.bounds a.page a.n good.0).0, rw kept (has_room _ _ (sym c.in_ok-judge_room.ensures)))

pub returns : goal.returns
returns g c =
    let a = c.args in
    let good = known _ a.op _ _ _ c.ranges.a c.ranges.b c.in_ok-band.ensures in
    scan_good _ _ _ _ _ a.n _ _ _ _ _ good.1 (λ i l. (g.met.P.Scannable.bounds a.page a.n good.0).1 i)
    (scanned_call _ a.n _ _ _ _ (then_judged _ _ c.in_ok-judge_room.ensures ∙ sym c.in_ok-judge_page.ensures)
    c.select.ensures c.counted.ensures)
