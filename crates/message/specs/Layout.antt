-- A layout as data: where each field stands, how wide it is and what it may hold; and what bytes of a layout say.
-- Assumes nothing.
use Rattle.std.specs.Prelude.{ℕ, ◌+◌, ◌-◌, ◌^◌, ◌≤◌, ◌<◌, ◌≡◌, Bool, true, false, ◌&&◌, cond, List, [], ◌∷◌, ◌++◌, eqb, leb, length, get_or}
use Rattle.field.specs.Bytes.{part, be, bytes_be}
use Rattle.field.specs.Limits.{number_in_range}
use Rattle.field.specs.Text.{is_text}
use Rattle.field.specs.Decimal.{number_before_spaces, chars_then_spaces, digit_count}
use Rattle.std.specs.Prelude.{Option}
use Rattle.std.specs.Prelude.{Some, None}

-- ---- a price is a number above zero, or none (W-206)

-- the price that x says, where f is the number that x is: 0 says none
abbrev pub price_by : {T : Type 0} → (T → ℕ) → T → Option T
price_by f x = cond (eqb (f x) 0) None (Some x)

-- the price that a number in bytes says
unfoldable pub price_from : ℕ → Option ℕ
price_from n = price_by (λ x. x) n

-- the number that says a price
abbrev pub amount : Option ℕ → ℕ
amount (Some n) = n
amount None = 0

-- zero held as a price above zero is no price
abbrev pub is_price : Option ℕ → Bool
is_price (Some n) = leb 1 n
is_price None = true

-- ---- values and rules

-- what a field says: a number, bytes as they stand, or a price
pub data Value : Type 0 where
  num : ℕ → Value
  raw : List ℕ → Value
  priced : Option ℕ → Value

-- the value at a place of a list
abbrev pub as_number : Value → ℕ
as_number (num n) = n
as_number (raw f) = 0
as_number (priced x) = 0

abbrev pub as_bytes : Value → List ℕ
as_bytes (num n) = []
as_bytes (raw f) = f
as_bytes (priced x) = []

abbrev pub as_price : Value → Option ℕ
as_price (num n) = None
as_price (raw f) = None
as_price (priced x) = x

abbrev pub number_at : List Value → ℕ → ℕ
number_at vs i = as_number (get_or vs i (num 0))

abbrev pub bytes_at : List Value → ℕ → List ℕ
bytes_at vs i = as_bytes (get_or vs i (raw []))

abbrev pub price_at : List Value → ℕ → Option ℕ
price_at vs i = as_price (get_or vs i (priced None))

-- how a field is written, and what it may hold
pub data Rule : Type 0 where
  binary : (ℕ → Bool) → Rule  -- a big-endian number that passes the test
  decimal : Rule  -- a number in characters, digits then spaces
  text : Rule  -- characters that are a text
  bytes : Rule  -- any bytes
  price : (ℕ → Bool) → Rule  -- a big-endian number that passes the test, in which 0 says none

pub record Row : Type 0 where
  pub at : ℕ
  pub width : ℕ
  pub rule : Rule

abbrev pub row : ℕ → ℕ → Rule → Row
row at width rule = record { at = at; width = width; rule = rule }

-- ---- one field

-- characters that write no number say 0, which no field of that rule may hold
abbrev pub or_zero : Option ℕ → ℕ
or_zero (Some n) = n
or_zero None = 0

abbrev pub value_in : Rule → List ℕ → Value
value_in (binary p) f = num (be f)
value_in decimal f = num (or_zero (number_before_spaces f))
value_in text f = raw f
value_in bytes f = raw f
value_in (price p) f = priced (price_from (be f))

abbrev pub bytes_in : Rule → ℕ → Value → List ℕ
bytes_in (binary p) w (num n) = bytes_be w n
bytes_in decimal w (num n) = chars_then_spaces w n
bytes_in text w (num n) = bytes_be w n
bytes_in bytes w (num n) = bytes_be w n
bytes_in (price p) w (num n) = bytes_be w n
bytes_in r w (raw f) = f
bytes_in r w (priced x) = bytes_be w (amount x)

abbrev pub holds : Rule → Value → Bool
holds (binary p) (num n) = p n
holds (binary p) (raw f) = false
holds (binary p) (priced x) = false
holds decimal (num n) = number_in_range n
holds decimal (raw f) = false
holds decimal (priced x) = false
holds text (num n) = false
holds text (raw f) = is_text f
holds text (priced x) = false
holds bytes (num n) = false
holds bytes (raw f) = true
holds bytes (priced x) = false
holds (price p) (num n) = false
holds (price p) (raw f) = false
holds (price p) (priced x) = is_price x && p (amount x)

-- ---- all fields of a layout

-- what the fields of some bytes say
unfoldable pub values : List Row → List ℕ → List Value
values [] bs = []
values (r ∷ rs) bs = value_in r.rule (part bs r.at r.width) ∷ values rs bs

-- every field holds what it may
unfoldable pub keeps_all : List Row → List Value → Bool
keeps_all [] [] = true
keeps_all [] (v ∷ vs) = false
keeps_all (r ∷ rs) [] = false
keeps_all (r ∷ rs) (v ∷ vs) = holds r.rule v && keeps_all rs vs

-- the fields, one after the other
unfoldable pub bytes_for : List Row → List Value → List ℕ
bytes_for [] vs = []
bytes_for (r ∷ rs) [] = []
bytes_for (r ∷ rs) (v ∷ vs) = bytes_in r.rule r.width v ++ bytes_for rs vs

-- the rows stand one after the other, from `at` to `end`
unfoldable pub tiled : ℕ → List Row → ℕ → Bool
tiled at [] end = eqb at end
tiled at (r ∷ rs) end = eqb r.at at && tiled (at + r.width) rs end

-- the same rows, in bytes that begin at byte `from` of these
abbrev pub from : ℕ → List Row → List Row
from k [] = []
from k (r ∷ rs) = row (r.at - k) r.width r.rule ∷ from k rs

-- each value has room in its field, as every value that the code holds has
abbrev pub FitsIn : Rule → ℕ → Value → Type 0
FitsIn (binary p) w (num n) = n < 256 ^ w
FitsIn (binary p) w (raw f) = ⊥
FitsIn (binary p) w (priced x) = ⊥
FitsIn decimal w (num n) = digit_count n ≤ w
FitsIn decimal w (raw f) = ⊥
FitsIn decimal w (priced x) = ⊥
FitsIn text w (num n) = ⊥
FitsIn text w (raw f) = length f ≡ w
FitsIn text w (priced x) = ⊥
FitsIn bytes w (num n) = ⊥
FitsIn bytes w (raw f) = length f ≡ w
FitsIn bytes w (priced x) = ⊥
FitsIn (price p) w (num n) = ⊥
FitsIn (price p) w (raw f) = ⊥
FitsIn (price p) w (priced x) = amount x < 256 ^ w

abbrev pub Fit : List Row → List Value → Type 0
Fit [] [] = Unit
Fit [] (v ∷ vs) = ⊥
Fit (r ∷ rs) [] = ⊥
Fit (r ∷ rs) (v ∷ vs) = FitsIn r.rule r.width v × Fit rs vs

-- ---- what reading asks of a price is what it asks of the number

-- the same rows with each price as a number, 0 among them
abbrev pub number_rule : Rule → Rule
number_rule (binary p) = binary p
number_rule decimal = decimal
number_rule text = text
number_rule bytes = bytes
number_rule (price p) = binary p

abbrev pub numbered : List Row → List Row
numbered [] = []
numbered (r ∷ rs) = row r.at r.width (number_rule r.rule) ∷ numbered rs
