-- The second of the day that a typed time is: two digits each for hours, minutes and seconds, `:` (58) between them.
use Rattle.std.specs.Prelude.{cond, List, ℕ, ◌+◌, ◌*◌, eqb, ltb, length, take, drop, get_or, Some, None}
use Rattle.std.proofs.Common.{Option, option_and_then}
use Rattle.scan_words.specs.Numbers.{kept}

-- below 24 hours, 60 minutes and 60 seconds
unfoldable pub clock_second : ℕ → ℕ → ℕ → Option ℕ
clock_second h m s =
    cond (ltb 23 h) None (cond (ltb 59 m) None (cond (ltb 59 s) None (Some (h * 3600 + m * 60 + s))))

-- the number of the two bytes from place k on
abbrev pub pair_at : ℕ → List ℕ → Option ℕ
pair_at k word = kept (take 2 (drop k word))

unfoldable pub time_of : List ℕ → Option ℕ
time_of word =
    cond (eqb (length word) 8)
    (cond (eqb (get_or word 2 0) 58)
    (cond (eqb (get_or word 5 0) 58)
    (option_and_then
    (λ h. option_and_then (λ m. option_and_then (λ s. clock_second h m s) (pair_at 6 word)) (pair_at 3 word))
    (pair_at 0 word))
    None) None)
    None
