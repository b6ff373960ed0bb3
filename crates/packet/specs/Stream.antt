-- A stream of packets, however it is cut. What a whole packet means is a parameter, `judge`.
-- Assumes nothing.
use Rattle.std.specs.Prelude.{ℕ, zero, suc, ◌-◌, Bool, false, List, [], ◌∷◌, ◌++◌, ◌≡◌, length, drop}
use Rattle.packet.specs.Frame.{Framed, short, bad_length, packet, frame}
use Rattle.packet.specs.Refusals.{fault_number}
use Rattle.packet.specs.declared.Fault.TheVariants.{BadLength}

-- What a packet is found to be in a state S: accepted, with its event and the next state; the same, and the stream's last; or refused, by a number,
-- with the state that is left.
pub data Verdict (S E : Type 0) : Type 0 where
  accept : E → S → Verdict S E
  finish : E → S → Verdict S E
  refuse : ℕ → S → Verdict S E

-- A reader: live, with the bytes of the unfinished packet; or ended; or refused, by a number. Where calls made it, one that has ended or refused holds
-- nothing, and one that has refused has not ended; a handle that says otherwise is kept as it is.
pub data State (S : Type 0) : Type 0 where
  live : S → List ℕ → State S
  ended : S → List ℕ → State S
  refused : S → List ℕ → Bool → ℕ → State S

-- the answer of one call, and the call
pub data Answer (E : Type 0) : Type 0 where
  Event : E → Answer E
  More : Answer E
  Ended : Answer E
  Refused : ℕ → Answer E

pub record Stepped (S E : Type 0) : Type 0 where
  pub state : State S
  pub taken : ℕ
  pub answer : Answer E

-- what some bytes tell: events, in order, and the reader after them
pub record Run (S E : Type 0) : Type 0 where
  pub events : List E
  pub state : State S

-- what a reader holds is not a whole packet
abbrev pub Unfinished : {S : Type 0} → State S → Type 0
Unfinished (live s held) = frame held ≡ short
Unfinished (ended s held) = Unit
Unfinished (refused s held e n) = Unit

-- refused by a call: nothing is held
abbrev pub refused_by : {S : Type 0} → ℕ → S → State S
refused_by n s = refused s [] false n

-- the event of an answer, if it has one
abbrev pub events_of : {E : Type 0} → Answer E → List E
events_of (Event e) = e ∷ []
events_of More = []
events_of Ended = []
events_of (Refused n) = []

module _ {S E : Type 0} where
  -- no event
  abbrev pub still : State S → Run S E
  still st = record { events = []; state = st }

  -- one event, and then a run
  abbrev pub first : E → Run S E → Run S E
  first e r = record { events = e ∷ r.events; state = r.state }

  infixl 20 ◌then◌
  -- a run, and then the run of the reader that it leaves
  abbrev pub ◌then◌ : Run S E → (State S → Run S E) → Run S E
  r then k = record { events = r.events ++ (k r.state).events; state = (k r.state).state }

  -- a packet was judged: if it is accepted, `go` reads the bytes after it
  abbrev pub judged : (S → List ℕ → Run S E) → List ℕ → Verdict S E → Run S E
  judged go rest (accept e s) = first e (go s rest)
  judged go rest (finish e s) = first e (still (ended s []))
  judged go rest (refuse n s) = still (refused_by n s)

  -- the call that ends with it, and takes `n` bytes of its piece
  abbrev pub step_judged : ℕ → Verdict S E → Stepped S E
  step_judged n (accept e s) = record { state = live s []; taken = n; answer = Event e }
  step_judged n (finish e s) = record { state = ended s []; taken = n; answer = Event e }
  step_judged n (refuse k s) = record { state = refused_by k s; taken = n; answer = Refused k }

  -- what one call told
  abbrev pub told : Stepped S E → Run S E
  told r = record { events = events_of r.answer; state = r.state }

module _ {S E : Type 0} (judge : S → ℕ → List ℕ → Verdict S E) where
  -- ---- THE READING OF UNCUT BYTES
  -- The packet at the front is judged, and if it is accepted the bytes after it are read in the next state: `reading-goes` in proofs/Cut is
  -- that equation, with no bound in it. `go` reads the bytes after a packet.
  abbrev pub fronted : (S → List ℕ → Run S E) → S → List ℕ → Framed → Run S E
  fronted go s bs short = still (live s bs)
  fronted go s bs (bad_length rest) = still (refused_by (fault_number BadLength) s)
  fronted go s bs (packet letter body rest) = judged go rest (judge s letter body)

  -- at most `n` packets
  unfoldable pub packets : ℕ → S → List ℕ → Run S E
  packets zero s bs = still (live s bs)
  packets (suc n) s bs = fronted (packets n) s bs (frame bs)

  -- every packet: bytes have fewer packets than bytes
  unfoldable pub read_all : S → List ℕ → Run S E
  read_all s bs = packets (length bs) s bs

  unfoldable pub reading : State S → List ℕ → Run S E
  reading (live s held) bs = read_all s (held ++ bs)
  reading (ended s held) bs = still (ended s held)
  reading (refused s held e n) bs = still (refused s held e n)

  -- ---- ONE CALL
  -- What is held and then the piece are the bytes at hand. Taken of the piece is what does not stand after the packet.
  abbrev pub step_framed : S → List ℕ → List ℕ → Framed → Stepped S E
  step_framed s held piece short = record { state = live s (held ++ piece); taken = length piece; answer = More }
  step_framed s held piece (bad_length rest) = step_judged (length piece - length rest) (refuse (fault_number BadLength) s)
  step_framed s held piece (packet letter body rest) = step_judged (length piece - length rest) (judge s letter body)

  unfoldable pub step_of : State S → List ℕ → Stepped S E
  step_of (live s held) piece = step_framed s held piece (frame (held ++ piece))
  step_of (ended s held) piece = record { state = ended s held; taken = 0; answer = Ended }
  step_of (refused s held e n) piece = record { state = refused s held e n; taken = 0; answer = Refused n }

  -- ---- CALLS
  -- A piece is given, and after an event what was not taken of it is given again, until the answer is no event: in at most `n` calls.
  abbrev pub answered : (State S → List ℕ → Run S E) → List ℕ → State S → ℕ → Answer E → Run S E
  answered again piece st taken (Event e) = first e (again st (drop taken piece))
  answered again piece st taken More = still st
  answered again piece st taken Ended = still st
  answered again piece st taken (Refused n) = still st

  unfoldable pub give : ℕ → State S → List ℕ → Run S E
  give zero st piece = still st
  give (suc n) st piece =
      let r = step_of st piece in
      answered (give n) piece r.state r.taken r.answer

  -- pieces one after the other: a piece has fewer packets than bytes, and one call more says that no packet is left. `cut-anywhere` in proofs/Cut
  -- says that this is the reading of the uncut bytes.
  unfoldable pub calls : State S → List (List ℕ) → Run S E
  calls st [] = still st
  calls st (piece ∷ pieces) = give (suc (length piece)) st piece then (λ st'. calls st' pieces)

module _ {S E : Type 0} (judge : S → ℕ → List ℕ → Verdict S E) where
  -- ---- ANY CALLER
  -- `Called st bs es st' left`: of the bytes `bs`, given to a reader `st` by calls, `left` are still to be given, and the calls told the events `es`
  -- and left the reader `st'`. A call is given as many as the caller likes of the bytes that come next; those that it does not take come next again.
  -- `any-caller` in proofs/Step says that this, too, is the reading.
  pub data Called : State S → List ℕ → List E → State S → List ℕ → Type 0 where
    stop : {st : State S} {bs : List ℕ} → Called st bs [] st bs
    call : {st st' : State S} {es : List E} {left : List ℕ} (piece more : List ℕ)
        → Called (step_of judge st piece).state (drop (step_of judge st piece).taken piece ++ more) es st' left
        → Called st (piece ++ more) (events_of (step_of judge st piece).answer ++ es) st' left

-- no call is left to make: every byte was taken, or the reader has ended or refused
abbrev pub NothingLeft : {S : Type 0} → State S → List ℕ → Type 0
NothingLeft (live s held) left = left ≡ []
NothingLeft (ended s held) left = Unit
NothingLeft (refused s held e n) left = Unit

-- ---- A REFUSAL

-- a judge whose refusals leave the state
abbrev pub Leaves : {S E : Type 0} → (S → ℕ → List ℕ → Verdict S E) → Type 0
Leaves {S} judge = (s s' : S) (letter : ℕ) (body : List ℕ) (n : ℕ) → judge s letter body ≡ refuse n s' → s' ≡ s

module _ {S E : Type 0} (judge : S → ℕ → List ℕ → Verdict S E) where
  -- what stands at the front is refused by the number
  abbrev pub Refuses : S → ℕ → Framed → Type 0
  Refuses s n short = ⊥
  Refuses s n (bad_length r) = n ≡ fault_number BadLength
  Refuses s n (packet l b r) = judge s l b ≡ refuse n s

  -- the bytes up to the refused packet's first told the events and left the state, with nothing held; there the packet begins
  pub record RefusedAt (s : S) (bs : List ℕ) (es : List E) (s' : S) (n : ℕ) : Type 0 where
    pub before : List ℕ
    pub from : List ℕ
    pub whole : before ++ from ≡ bs
    pub read : read_all judge s before ≡ record { events = es; state = live s' [] }
    pub refusal : Refuses s' n (frame from)
