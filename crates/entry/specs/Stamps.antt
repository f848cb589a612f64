-- The three bytes that an entry holds of a date. Assumes nothing.
--   date_bytes   what an entry holds of a day, or of none
--   stamp_of     the date that three bytes hold, whether it is a calendar day or not; only 0, 0, 0 is none
--   two          a number in at least two digits
--   stamp_text   a date as people read it: YEAR-MONTH-DAY
use Rattle.std.specs.Prelude.{ℕ, ◌+◌, ◌-◌, cond, ◌&&◌, List, [], ◌∷◌, ◌++◌, Some, None, codes, decimal, Option, ◌==◌, nat_lt, slice_index}
use Rattle.entry.specs.declared.date.Date.{Date}
use Rattle.entry.specs.declared.stamp.Stamp.{Stamp}

abbrev pub date_bytes : Option Date → List ℕ
date_bytes None = 0 ∷ 0 ∷ 0 ∷ []
date_bytes (Some date) = (date.year - 1900) ∷ date.month ∷ date.day ∷ []

abbrev pub stamp_of : List ℕ → Option Stamp
stamp_of bytes =
    cond (slice_index bytes 0 == 0 && (slice_index bytes 1 == 0 && slice_index bytes 2 == 0)) None
    (Some (record { year = 1900 + slice_index bytes 0; month = slice_index bytes 1; day = slice_index bytes 2 }))

abbrev pub two : ℕ → List ℕ
two n = cond (nat_lt n 10) (codes "0") [] ++ decimal n

abbrev pub stamp_text : Stamp → List ℕ
stamp_text s = decimal s.year ++ (codes "-" ++ (two s.month ++ (codes "-" ++ two s.day)))
