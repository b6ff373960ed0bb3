-- What a host reads of an answer and of event memory.
-- Assumes nothing.
use Rattle.std.specs.Prelude.{ℕ, List}
use Rattle.packet.specs.Stream.{reading, events_of}
use Rattle.packet.specs.Session.{Event, soup_bin_tcp}
use Rattle.table.specs.Memory.{Memories}
use Rattle.reader.specs.Deliver.{Said, deliver}
use Rattle.reader.specs.View.{state_of}
use Rattle.reader.specs.Handles.{reader_in, answer_in}

-- THE EVENT THAT AN ANSWER AND EVENT MEMORY TELL, or none
abbrev pub events_in : ℕ → List ℕ → List (Event Said)
events_in a memory = events_of (answer_in a memory)

-- THE EVENTS OF BYTES, read by the reader that a handle, a table and its index are
abbrev pub events_over : List ℕ → Memories → List ℕ → List (Event Said)
events_over handle memory bs = (reading (soup_bin_tcp deliver) (state_of (reader_in handle) memory) bs).events
