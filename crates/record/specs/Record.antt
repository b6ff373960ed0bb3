-- Records of messages: the record of a message, the message of a record, and messages read to records and written from them.
-- Assumes nothing.
use Rattle.std.specs.Prelude.{ℕ, ◌*◌, Bool, true, ◌&&◌, cond, List, [], ◌∷◌, ◌++◌, eqb, length, get_or, replicate}
use Rattle.field.specs.Bytes.{part, overlay, same}
use Rattle.field.specs.Text.{every, is_zero}
use Rattle.message.specs.Layout.{Value, num, raw, Row, bytes_in, values, Fit}
use Rattle.message.specs.Feed.{Letter}
use Rattle.message.specs.Letters.{Content, letters, letter_in, letter_for, fields_of, no_texts}
use Rattle.message.specs.Message.{refusal_number, write_refusal_number, read_of, write_of}
use Rattle.message.specs.declared.Message.{Message}
use Rattle.message.specs.declared.Instrument.{Instrument}
use Rattle.message.specs.declared.Texts.{Texts}
use Rattle.record.specs.Places.{record_size, letter_place, places_for, record_letters}
use Rattle.record.specs.declared.Held.{Held}
use Rattle.std.specs.Prelude.{Err}
use Rattle.std.specs.Prelude.{Ok}
use Rattle.std.specs.Prelude.{Result}
use Rattle.message.specs.declared.Refusal.{Refusal}
use Rattle.message.specs.declared.WriteRefusal.{WriteRefusal}
use Rattle.std.specs.Prelude.{None}
use Rattle.std.specs.Prelude.{Option}
use Rattle.std.specs.Prelude.{Some}

-- ---- THE RECORD OF A MESSAGE

-- the fields, each laid over the bytes at its place
unfoldable pub laid : List Row → List Value → List ℕ → List ℕ
laid [] vs bs = bs
laid (r ∷ rs) [] bs = bs
laid (r ∷ rs) (v ∷ vs) bs = laid rs vs (overlay bs r.at (bytes_in r.rule r.width v))

-- an instrument's fields, in their order
abbrev pub date_fields : Instrument → List Value
date_fields i = num i.year ∷ num i.month ∷ num i.day ∷ []

abbrev pub marks_fields : Instrument → List Value
marks_fields i = num i.closing ∷ num i.tradable ∷ num i.variation ∷ []

abbrev pub terms_fields : Instrument → Texts → List Value
terms_fields i t = num i.id ∷ raw t.symbol ∷ (date_fields i ++ (num i.strike ∷ num i.kind ∷ []))

abbrev pub market_fields : Instrument → Texts → List Value
market_fields i t = raw t.underlying ∷ (marks_fields i ++ (raw t.reserved ∷ []))

-- a message's letter and fields, laid over some bytes
unfoldable pub laid_over : Message → Texts → List ℕ → List ℕ
laid_over m t bs = laid (letter_place ∷ places_for m) (num (letter_for m).code ∷ fields_of m t) bs

-- and all else is 0
unfoldable pub record_bytes : Message → Texts → List ℕ
record_bytes m t = laid_over m t (replicate record_size 0)

-- ---- THE MESSAGE OF A RECORD

abbrev pub held : Message → Texts → Held
held m t = record { taken = Some m; texts = t }

abbrev pub no_record : Held
no_record = record { taken = None; texts = no_texts }

-- what the fields of 112 bytes say, by their letter; nothing for a letter that is not listed
unfoldable pub said_by : Letter Content → List ℕ → Held
said_by l bs = cond (eqb l.size 0) no_record (held (l.makes (values l.rows bs)).0 (l.makes (values l.rows bs)).1)

unfoldable pub said_of : List ℕ → Held
said_of bs = said_by (letter_in record_letters (get_or bs 0 0)) bs

-- bytes are a record when they are the record of what they say: so every other place is 0
unfoldable pub confirmed : Option Message → Texts → List ℕ → Held
confirmed (Some m) t bs = cond (same (record_bytes m t) bs) (held m t) no_record
confirmed None t bs = no_record

unfoldable pub record_of : List ℕ → Held
record_of bs = cond (eqb (length bs) record_size) (confirmed (said_of bs).taken (said_of bs).texts bs) no_record

-- ---- READ AND WRITTEN

-- an answer, and the memory that it leaves
pub record Answered : Type 0 where
  pub number : ℕ
  pub memory : List ℕ

abbrev pub answered : ℕ → List ℕ → Answered
answered number memory = record { number = number; memory = memory }

-- the record of a message that is accepted; its number, and the memory as it was, for one that is refused
unfoldable pub read_to : Result Message Refusal → Texts → List ℕ → Answered
read_to (Ok m) t memory = answered 0 (record_bytes m t)
read_to (Err r) t memory = answered (refusal_number r) memory

-- before that 20 for record memory of another length
unfoldable pub read_answer : List ℕ → List ℕ → Answered
read_answer bs memory = cond (eqb (length memory) record_size) (read_to (read_of bs).answer (read_of bs).texts memory) (answered 20 memory)

-- the count of bytes written, above a low byte of 0; or the refusal
unfoldable pub written_as : Result ℕ WriteRefusal → List ℕ → Answered
written_as (Ok n) out = answered (n * 256) out
written_as (Err r) out = answered (write_refusal_number r) out

-- 26 for bytes that are no record
unfoldable pub write_from : Option Message → Texts → List ℕ → Answered
write_from (Some m) t out = written_as (write_of m t out).answer (write_of m t out).memory
write_from None t out = answered 26 out

-- before that 20 for record memory of another length
unfoldable pub write_answer : List ℕ → List ℕ → Answered
write_answer bs out = cond (eqb (length bs) record_size) (write_from (record_of bs).taken (record_of bs).texts out) (answered 20 out)

-- ---- what the theorems speak of

-- each number and text has room in its field, as every value that the code holds has
abbrev pub Roomy : Message → Texts → Type 0
Roomy m t = Fit (places_for m) (fields_of m t)

-- ---- STRAIGHT FROM A MESSAGE'S BYTES

-- the letter and the fields of some bytes, laid over others
unfoldable pub laid_from : List ℕ → List ℕ → List ℕ
laid_from bs xs =
    laid (letter_place ∷ (letter_in record_letters (get_or bs 0 0)).rows) (values (letter_place ∷ (letter_in letters (get_or bs 0 0)).rows) bs) xs

-- ---- STRAIGHT FROM A RECORD

-- the letter and the fields of a record, laid over other bytes as the message of letter c has them
unfoldable pub laid_back : ℕ → List ℕ → List ℕ → List ℕ
laid_back c bs xs = laid (letter_place ∷ (letter_in letters c).rows) (values (letter_place ∷ (letter_in record_letters c).rows) bs) xs

-- bytes are what their own fields, by letter c, lay over zeros
unfoldable pub is_own : ℕ → List ℕ → Bool
is_own c bs =
    same
    (laid (letter_place ∷ (letter_in record_letters c).rows) (values (letter_place ∷ (letter_in record_letters c).rows) bs) (replicate record_size 0)) bs

-- all of these places are 0
unfoldable pub clear : List Row → List ℕ → Bool
clear [] bs = true
clear (g ∷ gs) bs = every is_zero (part bs g.at g.width) && clear gs bs
