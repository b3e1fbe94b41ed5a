-- How a stretch and the number of stretches are told.
use Rattle.std.specs.Prelude.{Bool, cond, List, [], ◌++◌, ℕ, ◌+◌, ◌-◌, ◌/◌, eqb}
use Rattle.lines.specs.Text.{ascii, decimal}
use Rattle.scan_day.specs.Clock.{clock_time}

-- the first day, which a time leaves out, where a column has several days
unfoldable pub first_day : Bool → ℕ → List ℕ
first_day has-days day = cond has-days (cond (eqb day 1) (ascii " of day 1") []) []

-- a second by the clock, with its day where there are several
unfoldable pub time_of : Bool → ℕ → ℕ → List ℕ
time_of has-days day s = clock_time day s ++ first_day has-days (day + s / 86400)

-- two places behind a time: a question mark where the stretch may go on there
unfoldable pub behind_time : Bool → List ℕ
behind_time may-go-on = cond may-go-on (ascii "? ") (ascii "  ")

-- a stretch from one second to before another: both ends by the clock, and its length
unfoldable pub stretch_of : Bool → ℕ → ℕ → ℕ → Bool → Bool → List ℕ
stretch_of has-days day first behind may-begin-earlier may-end-later =
    time_of has-days day first
    ++ (behind_time may-begin-earlier
    ++ (time_of has-days day (behind - 1) ++ (behind_time may-end-later ++ (decimal (behind - first) ++ ascii " s\n"))))

-- the end of a sentence: which gaps are closed, if any are
unfoldable pub gaps_closed : ℕ → List ℕ
gaps_closed gap =
    cond (eqb gap 0) []
    (ascii ", gaps of up to "
    ++ (decimal gap ++ cond (eqb gap 1) (ascii " second closed") (ascii " seconds closed")))

-- and before that how many stretches there are
unfoldable pub in_stretches : ℕ → ℕ → List ℕ
in_stretches count gap =
    ascii ", in "
    ++ (decimal count ++ (cond (eqb count 1) (ascii " stretch") (ascii " stretches") ++ gaps_closed gap))
