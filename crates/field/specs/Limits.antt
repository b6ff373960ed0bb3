-- The limits that document 01 sets on numbers.
-- Assumes nothing.
use Rattle.std.specs.Prelude.{ℕ, ◌*◌, ◌^◌, Bool, ◌&&◌, leb, ltb}

-- the last nanosecond of a day
abbrev pub latest_time : ℕ
latest_time = 86_399_999_999_999

-- the highest number of a message
abbrev pub highest_number : ℕ
highest_number = 10 ^ 12

-- a price of four bytes is below this: its top bit is clear
abbrev pub price_end : ℕ
price_end = 2 ^ 31

abbrev pub time_in_range : ℕ → Bool
time_in_range t = leb t latest_time

abbrev pub number_in_range : ℕ → Bool
number_in_range n = leb 1 n && leb n highest_number

abbrev pub price_in_range : ℕ → Bool
price_in_range p = ltb p price_end

-- pennies in ten-thousandths of a dollar
abbrev pub ten_thousandths : ℕ → ℕ
ten_thousandths pennies = pennies * 100
