-- Any caller: calls one after the other, each known by its promise only.
-- Assumes nothing.
use Rattle.std.specs.Prelude.{ℕ, List, [], ◌++◌, take, drop}
use Rattle.packet.specs.Stream.{reading, events_of}
use Rattle.packet.specs.Session.{Event, soup_bin_tcp}
use Rattle.table.specs.Memory.{Memories}
use Rattle.reader.specs.Deliver.{Said, deliver}
use Rattle.reader.specs.View.{state_of, answer_of}
use Rattle.reader.specs.Calls.{Stepping}
use Rattle.reader.specs.Running.{Running}
use Rattle.reader.specs.declared.Reader.{Reader}
use Rattle.reader.specs.declared.Stepped.{Stepped}
use Rattle.reader.specs.declared.Ran.{Ran}

-- `Steps r t bs es r' t' left`: of the bytes `bs`, given to the reader `r` with the memories `t` by steps and runs, `left` are still to be given; the calls
-- told the events `es` and left the reader `r'` and the memories `t'`. A call is given as many as the caller likes of the bytes that come next; those that
-- it does not take come next again. Reader, table and index are handed on untouched. A run, with any ceiling, stands for the events of the reading of the
-- bytes that it takes: it says how many they are (`run-counts` in proofs/Runs).
pub data Steps : Reader → Memories → List ℕ → List (Event Said) → Reader → Memories → List ℕ → Type 0 where
  stop : {r : Reader} {t : Memories} {bs : List ℕ} → Steps r t bs [] r t bs
  step : {r r' : Reader} {t t'' : Memories} {left : List ℕ} {es : List (Event Said)} (piece more : List ℕ) (s : Stepped) (t' : Memories)
      → Stepping r t piece s t'
      → Steps s.reader t' (drop s.taken piece ++ more) es r' t'' left
      → Steps r t (piece ++ more) (events_of (answer_of s.texts s.answer) ++ es) r' t'' left
  run : {r r' : Reader} {t t'' : Memories} {left : List ℕ} {es : List (Event Said)} (piece more : List ℕ) (n : ℕ) (x : Ran) (t' : Memories)
      → Running r t piece n x t'
      → Steps x.reader t' (drop x.taken piece ++ more) es r' t'' left
      → Steps r t (piece ++ more) ((reading (soup_bin_tcp deliver) (state_of r t) (take x.taken piece)).events ++ es) r' t'' left
