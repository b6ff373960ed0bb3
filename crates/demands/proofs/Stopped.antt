-- Where a run of calls was stopped: what was taken, and what follows the last accepted packet.
-- Assumes nothing.
use mathlib.Core.Path.{◌≡◌, refl, sym, ap, ◌∙◌, subst}
use mathlib.Core.List.{List, [], ◌∷◌, ◌++◌, append_assoc}
use mathlib.Core.Bool.{Bool, true, false}
use Prim.Native.Nat.{ℕ, ◌-◌}
use lib.Dec.{eqb}
use lib.ListN.{length, take, drop, take-append-drop}
use Rattle.packet.specs.Frame.{packet, frame}
use Rattle.packet.specs.Stream.{Verdict, accept, State, live, ended, refused, Unfinished, Run, first, ◌then◌, told, judged, read_all, reading, step_of, Called, stop, call}
use Rattle.packet.specs.Session.{Session, Event, soup_bin_tcp}
use Rattle.packet.proofs.Frame.{frame-grows, frame-left}
use Rattle.packet.proofs.Cut.{EachPacket, each-packet, reading-at, reading-cut, reading-none}
use Rattle.packet.proofs.Step.{taken-ends, step-taken, step-unfinished}
use Rattle.packet.proofs.Refused.{session-leaves, refused-as-before}
use Rattle.table.specs.Memory.{Memories}
use Rattle.reader.specs.Deliver.{Table, Said, deliver}
use Rattle.reader.specs.View.{session_of, held_of, state_of}
use Rattle.reader.specs.declared.Reader.{Reader}
use Rattle.reader.proofs.Undone.{deliver-undone}
use Rattle.demands.specs.Stopped.{StoppedAt}

-- ---- calls took a front part of the bytes, and told the reading of it

pub record Took {S E : Type 0} (judge : S → ℕ → List ℕ → Verdict S E) (st : State S) (bs : List ℕ) (es : List E) (st' : State S) (left : List ℕ) : Type 0 where
  pub taken : List ℕ
  pub whole : taken ++ left ≡ bs
  pub read : reading judge st taken ≡ record { events = es; state = st' }

module _ {S E : Type 0} (judge : S → ℕ → List ℕ → Verdict S E) where
  abbrev run : List E → State S → Run S E
  run es st = record { events = es; state = st }

  pub called-took : {st st' : State S} {bs left : List ℕ} {es : List E} → Called judge st bs es st' left → Unfinished st → Took judge st bs es st' left
  called-took (stop {st = st}) fine = record { taken = []; whole = refl; read = reading-none judge st fine }
  called-took (call {st = st} {st' = st'} {es = es} {left = left} piece more c) fine =
      let r = step_of judge st piece in
      let n : ℕ = r.taken in
      let k = called-took c (step-unfinished judge st piece fine) in
      record {
        taken = take n piece ++ k.taken;
        whole =
            append_assoc (take n piece) k.taken left
            ∙ ap (λ (l : List ℕ). take n piece ++ l) k.whole
            ∙ sym (append_assoc (take n piece) (drop n piece) more)
            ∙ ap (λ (l : List ℕ). l ++ more) (take-append-drop n piece);
        read =
            reading-cut judge st (take n piece) k.taken
            ∙ ap (λ (x : Run S E). x then (λ st''. reading judge st'' k.taken)) (step-taken judge st piece fine)
            ∙ ap (λ (x : Run S E). told r then (λ _. x)) k.read;
      }

  -- ---- a live reader holds the bytes that follow the last accepted packet

  pub record HeldAt (s : S) (bs : List ℕ) (es : List E) (s' : S) (held : List ℕ) : Type 0 where
    pub before : List ℕ
    pub whole : before ++ held ≡ bs
    pub read : read_all judge s before ≡ record { events = es; state = live s' [] }

  abbrev Holds : S → List ℕ → List E → State S → Type 0
  Holds s bs es (live s' held) = HeldAt s bs es s' held
  Holds s bs es (ended s' held) = Unit
  Holds s bs es (refused s' held e n) = Unit

  -- one accepted packet more before it
  module _ (s s' : S) (bs : List ℕ) (l : ℕ) (b r : List ℕ) (e : E) (f : frame bs ≡ packet l b r) (j : judge s l b ≡ accept e s') where
    abbrev own : List ℕ
    own = take (length bs - length r) bs

    own-rest : own ++ r ≡ bs
    unfolding frame
    own-rest = ap (λ (x : List ℕ). own ++ x) (sym (frame-left [] bs refl f tt)) ∙ take-append-drop (length bs - length r) bs

    own-frame : (ys : List ℕ) → frame (own ++ ys) ≡ packet l b ys
    unfolding frame
    own-frame ys = frame-grows own ys (taken-ends [] bs refl f tt) tt

    later : (es : List E) (st : State S) → Holds s' r es st → Holds s bs (e ∷ es) st
    later es (live s'' held) a =
        record {
          before = own ++ a.before;
          whole = append_assoc own a.before held ∙ ap (λ (x : List ℕ). own ++ x) a.whole ∙ own-rest;
          read = reading-at judge s (own ++ a.before) (own-frame a.before) ∙ ap (judged (read_all judge) a.before) j ∙ ap (first e) a.read;
        }
    later es (ended s'' held) a = tt
    later es (refused s'' held k n) a = tt

  holds : EachPacket judge (λ s bs r. Holds s bs r.events r.state)
  unfolding frame
  holds =
      record {
        waits = λ s bs e. record { before = []; whole = refl; read = reading-at judge s [] refl };
        bad = λ s bs r e. tt;
        accepts = λ s s' bs l b r e f j go. later s s' bs l b r e f j (read_all judge s' r).events (read_all judge s' r).state go;
        finishes = λ s s' bs l b r e f j. tt;
        refuses = λ s s' bs l b r n f j. tt;
      }

  pub held_at : (s : S) (bs : List ℕ) {es : List E} {s' : S} {held : List ℕ}
      → reading judge (live s []) bs ≡ record { events = es; state = live s' held } → HeldAt s bs es s' held
  unfolding reading
  held_at s bs e = subst (λ (r : Run S E). Holds s bs r.events r.state) e (each-packet judge holds s bs)

-- ---- THE STOP: a reader that was stopped, live or refused

module _ (s₀ : Session Table) (held bs left : List ℕ) {es : List (Event Said)} (r : Reader) (t : Memories)
    (k : Took (soup_bin_tcp deliver) (live s₀ held) bs es (state_of r t) left) (unended : r.ended ≡ false) where
  abbrev session : Session Table
  session = session_of r.line r.board t

  -- the bytes up to the stop, and what follows them
  whole-bytes : (before from : List ℕ) → before ++ from ≡ held ++ k.taken → before ++ (from ++ left) ≡ held ++ bs
  whole-bytes before from e =
      sym (append_assoc before from left)
      ∙ ap (λ (l : List ℕ). l ++ left) e
      ∙ append_assoc held k.taken left
      ∙ ap (λ (l : List ℕ). held ++ l) k.whole

  stop-live : state_of r t ≡ live session (held_of r) → StoppedAt s₀ held bs es session
  unfolding reading
  stop-live e =
      let h = held_at (soup_bin_tcp deliver) s₀ (held ++ k.taken) (k.read ∙ ap (run (soup_bin_tcp deliver) es) e) in
      record { accepted = h.before; following = held_of r ++ left; whole = whole-bytes h.before (held_of r) h.whole; told = h.read }

  stop-refused : state_of r t ≡ refused session (held_of r) r.ended r.refusal → StoppedAt s₀ held bs es session
  unfolding reading
  stop-refused e =
      let h = (refused-as-before (soup_bin_tcp deliver) (session-leaves deliver deliver-undone) s₀ held k.taken (k.read ∙ ap (run (soup_bin_tcp deliver) es) e)).2 in
      record { accepted = h.before; following = h.from ++ left; whole = whole-bytes h.before h.from h.whole; told = h.read }

  pub stopped-at : StoppedAt s₀ held bs es session
  stopped-at = by (eqb r.refusal 0) refl
    where
      by : (y : Bool) → eqb r.refusal 0 ≡ y → StoppedAt s₀ held bs es session
      by true e = stop-live (rw (e, unended))
      by false e = stop-refused (rw e)
