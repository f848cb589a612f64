-- Days of the calendar, and the three bytes that hold one. Assumes nothing.
--   days_in   the days of a month, by the Gregorian rule
--   is_day    a calendar day of the years that an entry can hold and the machine has seen, 1983 to 2155
use Rattle.std.specs.Prelude.{ℕ, ◌%◌, Bool, cond, not, ◌&&◌, ◌||◌, ◌==◌, nat_le}

-- Every fourth year, but of the full centuries only every fourth.
abbrev pub is_leap : ℕ → Bool
is_leap year = year % 4 == 0 && (not (year % 100 == 0) || year % 400 == 0)

-- April, June, September and November have 30 days, February has 28 or, in a leap year, 29, the others have 31.
abbrev pub days_in : ℕ → ℕ → ℕ
days_in year month =
    cond (month == 2) (cond (is_leap year) 29 28)
    (cond (month == 4 || (month == 6 || (month == 9 || month == 11))) 30 31)

abbrev pub is_day : ℕ → ℕ → ℕ → Bool
is_day year month day =
    (nat_le 1983 year && nat_le year 2155) && ((nat_le 1 month && nat_le month 12) && (nat_le 1 day && nat_le day (days_in year month)))
