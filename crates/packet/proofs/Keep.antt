-- What a judge keeps, a call and a reading keep; and what a session keeps.
-- Assumes nothing.
use mathlib.Core.Path.{◌≡◌, refl, sym, ap, ◌∙◌, subst}
use mathlib.Core.List.{List, [], ◌++◌}
use mathlib.Core.Bool.{Bool, true, false, ◌||◌}
use Prim.Native.Nat.{ℕ, ◌-◌}
use native.Mathlib.Omega.{arith}
use lib.ListN.{length}
use Rattle.field.specs.Limits.{highest_number}
use Rattle.field.proofs.Parts.{part_length}
use Rattle.packet.specs.Refusals.{fault_number}
use Rattle.packet.specs.Frame.{Framed, short, bad_length, packet, frame}
use Rattle.packet.specs.Stream.{Verdict, accept, finish, refuse, State, live, ended, refused, Run, read_all, reading, step_judged, step_framed, step_of}
use Rattle.packet.specs.Line.{session_size, login_size, login_session, logged_in, counted, packet_of, InRange, LoggedIn}
use Rattle.packet.specs.Session.{Delivered, done, denied, Event, Session, delivered, does, soup_bin_tcp, is_login, any_login}
use Rattle.packet.specs.declared.Line.{Line}
use Rattle.packet.specs.declared.Fault.{Fault}
use Rattle.packet.specs.declared.Fault.TheVariants.{BadLength}
use Rattle.packet.specs.declared.Packet.{Packet}
use Rattle.packet.specs.declared.Packet.TheVariants as packets
use Rattle.packet.proofs.Rules.{never}
use Rattle.packet.proofs.Cut.{EachPacket, each-packet}
use Rattle.packet.proofs.Known.{Known, packet-known}

-- ---- any judge: P of every state, and Q of every refusal's number

module _ {S : Type 0} (P : S → Type 0) (Q : ℕ → Type 0) where
  abbrev pub VerdictHas : {E : Type 0} → Verdict S E → Type 0
  VerdictHas (accept e s) = P s
  VerdictHas (finish e s) = P s
  VerdictHas (refuse n s) = P s × Q n

  abbrev pub StateHas : State S → Type 0
  StateHas (live s held) = P s
  StateHas (ended s held) = P s
  StateHas (refused s held e n) = P s × Q n

  module _ {E : Type 0} (judge : S → ℕ → List ℕ → Verdict S E) (keeps : (s : S) (letter : ℕ) (body : List ℕ) → P s → VerdictHas (judge s letter body))
      (bad : Q (fault_number BadLength)) where
    found : {s : S} {l : ℕ} {b : List ℕ} {v : Verdict S E} → judge s l b ≡ v → P s → VerdictHas v
    found {s} {l} {b} j h = subst VerdictHas j (keeps s l b h)

    kept : EachPacket judge (λ s bs r. P s → StateHas r.state)
    kept =
        record {
          waits = λ s bs e h. h;
          bad = λ s bs r e h. (h, bad);
          accepts = λ s s' bs l b r e f j go h. go (found j h);
          finishes = λ s s' bs l b r e f j h. found j h;
          refuses = λ s s' bs l b r n f j h. found j h;
        }

    pub reading-keeps : (st : State S) (bs : List ℕ) → StateHas st → StateHas (reading judge st bs).state
    unfolding reading
    reading-keeps (live s held) bs h = each-packet judge kept s (held ++ bs) h
    reading-keeps (ended s held) bs h = h
    reading-keeps (refused s held e n) bs h = h

    judged-keeps : (n : ℕ) (v : Verdict S E) → VerdictHas v → StateHas (step_judged n v).state
    judged-keeps n (accept e s) h = h
    judged-keeps n (finish e s) h = h
    judged-keeps n (refuse k s) h = h

    framed-keeps : (s : S) (held piece : List ℕ) (f : Framed) → P s → StateHas (step_framed judge s held piece f).state
    framed-keeps s held piece short h = h
    framed-keeps s held piece (bad_length r) h = (h, bad)
    framed-keeps s held piece (packet l b r) h = judged-keeps (length piece - length r) (judge s l b) (keeps s l b h)

    pub step_keeps : (st : State S) (piece : List ℕ) → StateHas st → StateHas (step_of judge st piece).state
    unfolding step_of
    step_keeps (live s held) piece h = framed-keeps s held piece (frame (held ++ piece)) h
    step_keeps (ended s held) piece h = h
    step_keeps (refused s held e n) piece h = h

-- ---- a session: what a login and a message keep, every packet keeps

module _ {D E : Type 0} (deliver : D → List ℕ → Delivered D E) where
  pub record Keeping (P : Session D → Type 0) (Q : ℕ → Type 0) : Type 0 where
    pub logins : (s : Session D) (body : List ℕ) (n : ℕ) → P s → Known s.line body (packets.Login n)
        → P (record { line = logged_in s.line (login_session body); about = s.about })
    pub messages : (s : Session D) (body : List ℕ) → P s → Known s.line body packets.Message
        → VerdictHas P Q (delivered s.line (deliver s.about body))
    pub faults : (f : Fault) → Q (fault_number f)

  module _ {P : Session D → Type 0} {Q : ℕ → Type 0} (k : Keeping P Q) where
    does-keeps : (s : Session D) (body : List ℕ) (p : Packet) → P s → Known s.line body p → VerdictHas P Q (does deliver s body p)
    does-keeps s body (packets.Login n) h w = k.logins s body n h w
    does-keeps s body (packets.Rejected r) h w = h
    does-keeps s body packets.Message h w = k.messages s body h w
    does-keeps s body packets.Heartbeat h w = h
    does-keeps s body packets.End h w = h
    does-keeps s body packets.Skipped h w = h
    does-keeps s body (packets.Refused f) h w = (h, k.faults f)

    pub soup-keeps : (s : Session D) (letter : ℕ) (body : List ℕ) → P s → VerdictHas P Q (soup_bin_tcp deliver s letter body)
    unfolding soup_bin_tcp
    soup-keeps s letter body h = does-keeps s body (packet_of s.line letter body) h (packet-known s.line body letter)

    pub session-keeps : (st : State (Session D)) (bs : List ℕ) → StateHas P Q st → StateHas P Q (reading (soup_bin_tcp deliver) st bs).state
    session-keeps = reading-keeps P Q (soup_bin_tcp deliver) soup-keeps (k.faults BadLength)

    pub call-keeps : (st : State (Session D)) (piece : List ℕ) → StateHas P Q st → StateHas P Q (step_of (soup_bin_tcp deliver) st piece).state
    call-keeps = step_keeps P Q (soup_bin_tcp deliver) soup-keeps (k.faults BadLength)

  -- ---- of the line alone

  module _ (L : Line → Type 0) (logs : (l : Line) (body : List ℕ) → length body ≡ login_size → L l → L (logged_in l (login_session body)))
      (counts : (l : Line) → (l.next ≡ highest_number → ⊥) → L l → L (counted l)) where
    delivered-keeps : (l : Line) (d : Delivered D E) → (l.next ≡ highest_number → ⊥) → L l → VerdictHas (λ s. L s.line) (λ _. Unit) (delivered l d)
    delivered-keeps l (done e d) g h = counts l g h
    delivered-keeps l (denied n d) g h = (h, tt)

    pub line-keeping : Keeping (λ s. L s.line) (λ _. Unit)
    line-keeping =
        record {
          logins = λ s body n h w. logs s.line body w.0 h;
          messages = λ s body h w. delivered-keeps s.line (deliver s.about body) w.1 h;
          faults = λ f. tt;
        }

  -- a next number in range stays in range
  pub range-stays : Keeping (λ s. InRange s.line) (λ _. Unit)
  range-stays =
      line-keeping InRange
      (λ l body e h. record { some = h.some; most = h.most })
      (λ l g h. record { some = omega (arith, h.some); most = omega (arith, g, h.most) })

  -- a line that is logged in stays so
  pub logged-in : (l : Line) (body : List ℕ) → length body ≡ login_size → LoggedIn (logged_in l (login_session body))
  logged-in l body e = record { known = refl; logged = refl; ten = part_length body 0 session_size (omega arith) }

  pub logged-stays : Keeping (λ s. LoggedIn s.line) (λ _. Unit)
  logged-stays =
      line-keeping LoggedIn
      (λ l body e h. logged-in l body e)
      (λ l g h. record { known = h.known; logged = h.logged; ten = h.ten })

  -- ---- and where a login was told, the line is logged in

  abbrev Makes : Verdict (Session D) (Event E) → Type 0
  Makes (accept e s) = is_login e ≡ true → LoggedIn s.line
  Makes (finish e s) = is_login e ≡ false
  Makes (refuse n s) = Unit

  delivered-makes : (l : Line) (d : Delivered D E) → Makes (delivered l d)
  delivered-makes l (done e d) = λ z. absurd (never z)
  delivered-makes l (denied n d) = tt

  does-makes : (s : Session D) (body : List ℕ) (p : Packet) → Known s.line body p → Makes (does deliver s body p)
  does-makes s body (packets.Login n) k = λ z. logged-in s.line body k.0
  does-makes s body (packets.Rejected r) k = refl
  does-makes s body packets.Message k = delivered-makes s.line (deliver s.about body)
  does-makes s body packets.Heartbeat k = λ z. absurd (never z)
  does-makes s body packets.End k = refl
  does-makes s body packets.Skipped k = λ z. absurd (never z)
  does-makes s body (packets.Refused f) k = tt

  makes : (s : Session D) (l : ℕ) (b : List ℕ) {v : Verdict (Session D) (Event E)} → soup_bin_tcp deliver s l b ≡ v → Makes v
  unfolding soup_bin_tcp
  makes s l b j = subst Makes j (does-makes s b (packet_of s.line l b) (packet-known s.line b l))

  abbrev Logged : State (Session D) → Type 0
  Logged = StateHas (λ s. LoggedIn s.line) (λ _. Unit)

  -- of the first event, or of those after it
  accepted-login : (e : Event E) (s : Session D) (r : List ℕ) → (is_login e ≡ true → LoggedIn s.line)
      → (let after = read_all (soup_bin_tcp deliver) s r in (any_login after.events ≡ true → Logged after.state)
      → (t : Bool) → is_login e ≡ t → t || any_login after.events ≡ true → Logged after.state)
  unfolding reading
  accepted-login e s r m go true h z = session-keeps logged-stays (live s []) r (m h)
  accepted-login e s r m go false h z = go z

  tells : EachPacket (soup_bin_tcp deliver) (λ s bs r. any_login r.events ≡ true → Logged r.state)
  unfolding any_login
  tells =
      record {
        waits = λ s bs e z. absurd (never z);
        bad = λ s bs r e z. absurd (never z);
        accepts = λ s s' bs l b r e f j go z. accepted-login e s' r (makes s l b j) go (is_login e) refl z;
        finishes = λ s s' bs l b r e f j z. absurd (never (sym (ap (λ (t : Bool). t || false) (makes s l b j)) ∙ z));
        refuses = λ s s' bs l b r n f j z. absurd (never z);
      }

  pub login-told : (s : Session D) (held bs : List ℕ) {es : List (Event E)} {st : State (Session D)}
      → reading (soup_bin_tcp deliver) (live s held) bs ≡ record { events = es; state = st } → any_login es ≡ true
      → StateHas (λ s. LoggedIn s.line) (λ _. Unit) st
  unfolding reading
  login-told s held bs e z =
      subst Logged (ap (λ (r : Run (Session D) (Event E)). r.state) e)
      (each-packet (soup_bin_tcp deliver) tells s (held ++ bs) (ap (λ (r : Run (Session D) (Event E)). any_login r.events) e ∙ z))
