-- `scan_words::numbers::magnitude` meets its contract: each turn takes one digit more.
use Rattle.std.proofs.Common.{◌≡◌, ◌<◌, drop, option_and_then}
use Rattle.scan_words.specs.Numbers.{onward, within, kept}
use Rattle.scan_words.proofs.numbers.magnitude.Given as goal

abbrev pub invariant-loop-digit : goal.invariant-loop-digit
invariant-loop-digit l =
    (l.m < 9223372036854775810)
    × (option_and_then within (onward l.m (drop l.digit-index l.word)) ≡ kept l.word)
