-- Messages read from bytes and written to them: what is accepted, what is refused, and by which number.
-- Assumes nothing.
use Rattle.std.specs.Prelude.{ℕ, Bool, cond, List, ◌∷◌, leb, length}
use Rattle.field.specs.Bytes.{overlay}
use Rattle.message.specs.Layout.{keeps_all, bytes_for, Value, Fit}
use Rattle.message.specs.Feed.{Letter, fields_read, letter_read, bytes_read}
use Rattle.message.specs.Letters.{Content, unlisted, letters, letter_for, fields_of, no_texts}
use Rattle.message.specs.declared.Message.{Message}
use Rattle.message.specs.declared.Message.TheVariants as message
use Rattle.message.specs.declared.Texts.{Texts}
use Rattle.message.specs.declared.Refusal.{Refusal}
use Rattle.message.specs.declared.Refusal.TheVariants.{UnknownLetter, WrongLength, BadField}
use Rattle.message.specs.declared.Reading.{Reading}
use Rattle.message.specs.declared.WriteRefusal.{WriteRefusal}
use Rattle.message.specs.declared.WriteRefusal.TheVariants.{BrokenRecord, ShortOutput}
use Rattle.std.specs.Prelude.{Err}
use Rattle.std.specs.Prelude.{Ok}
use Rattle.std.specs.Prelude.{Result}

-- ---- the paper's number of each refusal
abbrev pub refusal_number : Refusal → ℕ
refusal_number UnknownLetter = 10
refusal_number WrongLength = 11
refusal_number BadField = 12

abbrev pub write_refusal_number : WriteRefusal → ℕ
write_refusal_number BrokenRecord = 26
write_refusal_number ShortOutput = 25

-- ---- READING

abbrev pub accepted : Message → Texts → Reading
accepted m t = record { answer = Ok m; texts = t }

abbrev pub refused : Refusal → Reading
refused r = record { answer = Err r; texts = no_texts }

-- the feed's bytes read by its ten letters
abbrev pub told : Content → Reading
told x = accepted x.0 x.1

unfoldable pub read_fields : Letter Content → List Value → Reading
read_fields = fields_read told refused

-- by one of them
unfoldable pub read_as : Letter Content → List ℕ → Reading
read_as = letter_read told refused

unfoldable pub read_of : List ℕ → Reading
read_of = bytes_read told refused unlisted letters

-- ---- WRITING

-- the bytes of a message: its letter, and its fields one after the other
unfoldable pub bytes_of : Message → Texts → List ℕ
bytes_of m t = (letter_for m).code ∷ bytes_for (letter_for m).rows (fields_of m t)

-- the record keeps the field rules that reading asks of the same letter
unfoldable pub keeps : Message → Texts → Bool
keeps m t = keeps_all (letter_for m).rows (fields_of m t)

-- an answer, and the memory that it leaves
pub record Outcome : Type 0 where
  pub answer : Result ℕ WriteRefusal
  pub memory : List ℕ

abbrev pub outcome : Result ℕ WriteRefusal → List ℕ → Outcome
outcome a out = record { answer = a; memory = out }

-- 26 for a record that breaks its field rules, then 25 for output too short, and nothing written; else exactly the letter's length, from the start
unfoldable pub write_of : Message → Texts → List ℕ → Outcome
write_of m t out =
    cond (keeps m t)
    (cond (leb (letter_for m).size (length out))
    (outcome (Ok (letter_for m).size) (overlay out 0 (bytes_of m t)))
    (outcome (Err ShortOutput) out))
    (outcome (Err BrokenRecord) out)

-- ---- what the theorems speak of

-- each number and text has room in its field, as every value that the code holds has
abbrev pub Typed : Message → Texts → Type 0
Typed m t = Fit (letter_for m).rows (fields_of m t)

-- the texts that go with a message: only a directory has any
abbrev pub texts_with : Message → Texts → Texts
texts_with (message.SystemEvent m) t = no_texts
texts_with (message.Directory m) t = t
texts_with (message.TradingAction m) t = no_texts
texts_with (message.ShortQuote m) t = no_texts
texts_with (message.LongQuote m) t = no_texts
texts_with (message.ShortSide m) t = no_texts
texts_with (message.LongSide m) t = no_texts
texts_with (message.EndOfReplay m) t = no_texts
