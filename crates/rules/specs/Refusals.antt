-- The written list: the number of each refusal, and what a judgement and a call come to as numbers.
use Rattle.std.specs.Prelude.{Result, Ok, Err, ℕ}
use Rattle.rules.specs.Answer.{accepted, refusal}
use Rattle.rules.specs.declared.Answer.{Answer}
use Rattle.rules.specs.declared.Refusal.{Refusal}
use Rattle.rules.specs.declared.Refusal.TheVariants.{WidthAboveLimit, TooManyEntries, OperatorAbove7, OutputTooShort}
use Rattle.rules.specs.declared.Refusal.TheVariants.{InputEndsTooEarly, InputLeftOver, UnusedBitsNot0, ValueTooLarge}
use Rattle.rules.specs.declared.Refusal.TheVariants.{NumberBeyondItsBits, RunOfLength0, RunPastN, DeltaShape}
use Rattle.rules.specs.declared.Refusal.TheVariants.{DeltaCountNotN, MalformedDictionary, IndexTooLarge, SpansMisplaced}

abbrev pub code : Refusal → ℕ
code WidthAboveLimit = 1
code TooManyEntries = 2
code OperatorAbove7 = 3
code OutputTooShort = 4
code InputEndsTooEarly = 5
code InputLeftOver = 6
code UnusedBitsNot0 = 7
code ValueTooLarge = 8
code NumberBeyondItsBits = 9
code RunOfLength0 = 10
code RunPastN = 11
code DeltaShape = 12
code DeltaCountNotN = 13
code MalformedDictionary = 14
code IndexTooLarge = 15
code SpansMisplaced = 18

-- a judgement by its number: 0 where nothing is wrong
abbrev pub fault : {A : Type 0} → Result A Refusal → ℕ
fault (Ok x) = 0
fault (Err r) = code r

-- what a call answers
abbrev pub answer_of : Result ℕ Refusal → Answer
answer_of (Ok number) = accepted number
answer_of (Err r) = refusal (code r)
