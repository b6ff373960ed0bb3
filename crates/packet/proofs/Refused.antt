-- After a refusal nothing is held, the state is as before the packet's first byte, and every later call repeats the answer.
-- Assumes nothing.
use mathlib.Core.Path.{◌≡◌, refl, sym, ap, ◌∙◌, subst}
use mathlib.Core.List.{List, [], ◌∷◌, ◌++◌, append_assoc}
use mathlib.Core.Bool.{Bool, false}
use Prim.Native.Nat.{ℕ, ◌-◌}
use native.Mathlib.Omega.{arith}
use lib.ListN.{length, take, take-append-drop}
use Rattle.packet.specs.Refusals.{fault_number}
use Rattle.packet.specs.Frame.{Framed, short, bad_length, packet, frame}
use Rattle.packet.specs.Stream.{Verdict, accept, finish, refuse, State, live, ended, refused, refused_by, Ended, Refused, Run, first, judged, read_all, reading, step_judged, step_framed, step_of, Leaves, Refuses, RefusedAt}
use Rattle.packet.specs.Line.{packet_of}
use Rattle.packet.specs.Session as session
use Rattle.packet.specs.Session.{Delivered, done, denied, Session, delivered, does, soup_bin_tcp}
use Rattle.packet.specs.declared.Fault.TheVariants.{BadLength}
use Rattle.packet.specs.declared.Packet.{Packet}
use Rattle.packet.specs.declared.Packet.TheVariants as packets
use Rattle.packet.proofs.Frame.{frame-grows, frame-left}
use Rattle.packet.proofs.Cut.{EachPacket, each-packet, reading-at}
use Rattle.packet.proofs.Step.{taken-ends}

module _ {S E : Type 0} (judge : S → ℕ → List ℕ → Verdict S E) where
  abbrev AsBefore : S → List ℕ → List E → State S → Type 0
  AsBefore s bs es (live s' held) = Unit
  AsBefore s bs es (ended s' held) = Unit
  AsBefore s bs es (refused s' held e n) = (held ≡ []) × (e ≡ false) × RefusedAt judge s bs es s' n

  at_once : (s : S) (bs : List ℕ) (n : ℕ) {f : Framed} → frame bs ≡ f → Refuses judge s n f → RefusedAt judge s bs [] s n
  unfolding frame
  at_once s bs n e h =
      record { before = []; from = bs; whole = refl; read = reading-at judge s [] refl; refusal = subst (Refuses judge s n) (sym e) h }

  -- one accepted packet more before it
  module _ (s s' : S) (bs : List ℕ) (l : ℕ) (b r : List ℕ) (e : E) (f : frame bs ≡ packet l b r) (j : judge s l b ≡ accept e s') where
    abbrev own : List ℕ
    own = take (length bs - length r) bs

    own-rest : own ++ r ≡ bs
    unfolding frame
    own-rest =
        ap (λ (x : List ℕ). own ++ x) (sym (frame-left [] bs refl f tt)) ∙ take-append-drop (length bs - length r) bs

    own-frame : (ys : List ℕ) → frame (own ++ ys) ≡ packet l b ys
    unfolding frame
    own-frame ys = frame-grows own ys (taken-ends [] bs refl f tt) tt

    later : {es : List E} {s'' : S} {n : ℕ} → RefusedAt judge s' r es s'' n → RefusedAt judge s bs (e ∷ es) s'' n
    later a =
        record {
          before = own ++ a.before;
          from = a.from;
          whole = append_assoc own a.before a.from ∙ ap (λ (x : List ℕ). own ++ x) a.whole ∙ own-rest;
          read = reading-at judge s (own ++ a.before) (own-frame a.before) ∙ ap (judged (read_all judge) a.before) j ∙ ap (first e) a.read;
          refusal = a.refusal;
        }

    later-state : (es : List E) (st : State S) → AsBefore s' r es st → AsBefore s bs (e ∷ es) st
    later-state es (live s'' held) h = tt
    later-state es (ended s'' held) h = tt
    later-state es (refused s'' held k n) h = (h.0, h.1, later h.2)

  module _ (leaves : Leaves judge) where
    as_before : EachPacket judge (λ s bs r. AsBefore s bs r.events r.state)
    as_before =
        record {
          waits = λ s bs e. tt;
          bad = λ s bs r e. (refl, refl, at_once s bs (fault_number BadLength) e refl);
          accepts = λ s s' bs l b r e f j go. later-state s s' bs l b r e f j (read_all judge s' r).events (read_all judge s' r).state go;
          finishes = λ s s' bs l b r e f j. tt;
          refuses = λ s s' bs l b r n f j.
              let i : s' ≡ s = leaves s s' l b n j in
              (refl, refl, rw i (at_once s bs n f (rw i at j)));
        }

    -- A REFUSAL in a reading: nothing is held, and the state is as before the packet's first byte
    pub refused-as-before : (s : S) (held bs : List ℕ) {es : List E} {s' : S} {held' : List ℕ} {e : Bool} {n : ℕ}
        → reading judge (live s held) bs ≡ record { events = es; state = refused s' held' e n }
        → (held' ≡ []) × (e ≡ false) × RefusedAt judge s (held ++ bs) es s' n
    unfolding reading
    refused-as-before s held bs i =
        subst (λ (r : Run S E). AsBefore s (held ++ bs) r.events r.state) i (each-packet judge as_before s (held ++ bs))

    -- and in a call: it is the state that the call was given
    judged-leaves : (s : S) (l : ℕ) (b : List ℕ) (k n : ℕ) (v : Verdict S E) → judge s l b ≡ v → (step_judged k v).answer ≡ Refused n
        → (step_judged k v).state ≡ refused_by n s
    judged-leaves s l b k n (accept e s') j a = let z : ◌≡◌ {A = ℕ} 0 1 = cc in absurd (omega arith)
    judged-leaves s l b k n (finish e s') j a = let z : ◌≡◌ {A = ℕ} 0 1 = cc in absurd (omega arith)
    judged-leaves s l b k n (refuse m s') j a =
        let i : s' ≡ s = leaves s s' l b m j in
        let d : m ≡ n = cc in
        rw (i, d)

    framed-leaves : (s : S) (held piece : List ℕ) (n : ℕ) (f : Framed) → (step_framed judge s held piece f).answer ≡ Refused n
        → (step_framed judge s held piece f).state ≡ refused_by n s
    framed-leaves s held piece n short a = let z : ◌≡◌ {A = ℕ} 0 1 = cc in absurd (omega arith)
    framed-leaves s held piece n (bad_length r) a = let d : 1 ≡ n = cc in rw (← d)
    framed-leaves s held piece n (packet l b r) a = judged-leaves s l b (length piece - length r) n (judge s l b) refl a

    pub step-refused : (s : S) (held piece : List ℕ) (n : ℕ) → (step_of judge (live s held) piece).answer ≡ Refused n
        → (step_of judge (live s held) piece).state ≡ refused_by n s
    unfolding step_of
    step-refused s held piece n a = framed-leaves s held piece n (frame (held ++ piece)) a

  -- EVERY LATER CALL repeats the answer, takes nothing and changes nothing
  pub refused-repeats : (s : S) (held : List ℕ) (e : Bool) (n : ℕ) (piece : List ℕ)
      → step_of judge (refused s held e n) piece ≡ record { state = refused s held e n; taken = 0; answer = Refused n }
  unfolding step_of
  refused-repeats s held e n piece = refl

  pub ended-repeats : (s : S) (held piece : List ℕ) → step_of judge (ended s held) piece ≡ record { state = ended s held; taken = 0; answer = Ended }
  unfolding step_of
  ended-repeats s held piece = refl

-- ---- a session whose refused messages leave what they are about

module _ {D E : Type 0} (deliver : D → List ℕ → Delivered D E)
    (undone : (d d' : D) (body : List ℕ) (n : ℕ) → deliver d body ≡ denied n d' → d' ≡ d) where
  abbrev Left : Session D → Verdict (Session D) (session.Event E) → Type 0
  Left s (accept e s') = Unit
  Left s (finish e s') = s' ≡ s
  Left s (refuse n s') = s' ≡ s

  delivered-left : (s : Session D) (body : List ℕ) (d : Delivered D E) → deliver s.about body ≡ d → Left s (delivered s.line d)
  delivered-left s body (done e d) i = tt
  delivered-left s body (denied n d) i =
      ap (λ (x : D). let r : Session D = record { line = s.line; about = x } in r) (undone s.about d body n i)

  does-left : (s : Session D) (body : List ℕ) (p : Packet) → Left s (does deliver s body p)
  does-left s body (packets.Login n) = tt
  does-left s body (packets.Rejected r) = refl
  does-left s body packets.Message = delivered-left s body (deliver s.about body) refl
  does-left s body packets.Heartbeat = tt
  does-left s body packets.End = refl
  does-left s body packets.Skipped = tt
  does-left s body (packets.Refused f) = refl

  -- the line and what is above it are as before the packet
  pub session-leaves : Leaves (soup_bin_tcp deliver)
  unfolding soup_bin_tcp
  session-leaves s s' letter body n j = subst (Left s) j (does-left s body (packet_of s.line letter body))
