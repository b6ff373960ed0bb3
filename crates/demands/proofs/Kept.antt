-- WHAT OUR OWN CALLS MAKE: a step of a handle within its limits, whose session is sound, leaves another such.
-- Assumes nothing.
use mathlib.Core.Path.{◌≡◌, refl, sym, ap, ◌∙◌, subst}
use mathlib.Core.Logic.{◌⊎◌, inl, inr}
use mathlib.Core.List.{List, ◌++◌}
use mathlib.Core.Bool.{true, false}
use Prim.Native.Nat.{ℕ, ◌-◌, ◌≤◌}
use native.Mathlib.Omega.{arith}
use borrow.Author.Tests.{ne_eqb}
use lib.ListN.{length}
use Rattle.field.specs.Bytes.{Bytes}
use Rattle.field.specs.Limits.{highest_number}
use Rattle.field.proofs.Parts.{part_length}
use Rattle.field.proofs.Numbers.{part_bytes}
use Rattle.packet.specs.Frame.{Framed, short, bad_length, packet, frame, held_size}
use Rattle.packet.specs.Refusals.{fault_number}
use Rattle.packet.specs.Stream as stream
use Rattle.packet.specs.Stream.{State, live, ended, refused, accept, finish, refuse, Unfinished, step_judged, step_framed, step_of}
use Rattle.packet.specs.Line.{InRange, packet_of}
use Rattle.packet.specs.Session.{Session, Event, Delivered, done, denied, delivered, does, soup_bin_tcp}
use Rattle.packet.specs.declared.Line.{Line}
use Rattle.packet.specs.declared.Fault.{Fault}
use Rattle.packet.specs.declared.Fault.TheVariants as fault
use Rattle.packet.specs.declared.Packet.{Packet}
use Rattle.packet.specs.declared.Packet.TheVariants as packets
use Rattle.packet.proofs.Rules.{never}
use Rattle.packet.proofs.Frame.{short-fits}
use Rattle.packet.proofs.Known.{Known, packet-known}
use Rattle.packet.proofs.Keep.{VerdictHas}
use Rattle.table.specs.Memory.{Memories}
use Rattle.reader.specs.Refusals.{standing}
use Rattle.reader.specs.Deliver.{Table, table_of, Said, deliver}
use Rattle.reader.specs.View.{state_of, Seen, seen_of, seen, session_in, held_in}
use Rattle.reader.specs.Limits.{within_limits, may_step}
use Rattle.reader.specs.Calls.{is_unfit, step_in, step_all, Stepping}
use Rattle.reader.specs.declared.Reader.{Reader}
use Rattle.reader.specs.declared.Stepped.{Stepped}
use Rattle.reader.proofs.Kept.{Within, limits-hold, steps-hold}
use Rattle.reader.proofs.Views.{session-in, held_in_lem}
use Rattle.demands.specs.Sound.{begin, SoundSession, Ours}
use Rattle.packet.proofs.Bytes.{bytes-none, bytes-append, frame-bytes}
use Rattle.demands.proofs.Applied.{Delivers, deliver-kept, sound-fits}
use Rattle.demands.proofs.View.{refusal_in, refusal-of}

-- ---- a packet

abbrev Stands : ℕ → Type 0
Stands n = standing n ≡ true

pub fault-stands : (f : Fault) → standing (fault_number f) ≡ true
unfolding standing
fault-stands fault.BadLength = refl
fault-stands fault.UnknownLetter = refl
fault-stands fault.WrongPlace = refl
fault-stands fault.BadForm = refl
fault-stands fault.NotNext = refl
fault-stands fault.NumbersUsedUp = refl

-- a line that is logged in is not a fresh one
known-when-logged : (s : Session Table) → s.line.logged ≡ true → (s.line.known ≡ true) ⊎ (s ≡ begin) → s.line.known ≡ true
known-when-logged s l (inl k) = k
known-when-logged s l (inr e) = absurd (never (sym (ap (λ (q : Session Table). q.line.logged) e) ∙ l))

delivered-sound : (l : Line) (d : Delivered Table Said) → InRange l → Bytes l.session → length l.session ≡ 10 → l.known ≡ true → (l.next ≡ highest_number → ⊥) → Delivers d
    → VerdictHas SoundSession Stands (delivered l d)
delivered-sound l (done x t) r name ten k n h =
    record { range = record { some = omega (arith, r.some); most = omega (arith, n, r.most) }; name = name; ten = ten; about = h; whose = inl k }
delivered-sound l (denied m t) r name ten k n h = (record { range = r; name = name; ten = ten; about = h.0; whose = inl k }, h.1)

does-sound : (s : Session Table) (body : List ℕ) (p : Packet) → Bytes body → SoundSession s → Known s.line body p
    → VerdictHas SoundSession Stands (does deliver s body p)
does-sound s body (packets.Login n) b h k =
    record {
      range = record { some = h.range.some; most = h.range.most };
      name = part_bytes body 0 10 b;
      ten = part_length body 0 10 (omega (arith, k.0));
      about = h.about;
      whose = inl refl;
    }
does-sound s body (packets.Rejected r) b h k = h
does-sound s body packets.Message b h k =
    delivered-sound s.line (deliver s.about body) h.range h.name h.ten (known-when-logged s k.0 h.whose) k.1
    (deliver-kept s.about body b h.about)
does-sound s body packets.Heartbeat b h k = h
does-sound s body packets.End b h k = h
does-sound s body packets.Skipped b h k = h
does-sound s body (packets.Refused f) b h k = (h, fault-stands f)

pub packet-sound : (s : Session Table) (letter : ℕ) (body : List ℕ) → Bytes body → SoundSession s
    → VerdictHas SoundSession Stands (soup_bin_tcp deliver s letter body)
unfolding soup_bin_tcp
packet-sound s letter body b h = does-sound s body (packet_of s.line letter body) b h (packet-known s.line body letter)

-- ---- a call

pub record Kept (st : State (Session Table)) : Type 0 where
  pub sound : SoundSession (session_in st)
  pub stands : standing (refusal_in st) ≡ true
  pub short : frame (held_in st) ≡ short
  pub bytes : Bytes (held_in st)

judged-kept : (n : ℕ) (v : stream.Verdict (Session Table) (Event Said)) → VerdictHas SoundSession Stands v → Kept (step_judged n v).state
unfolding frame standing
judged-kept n (accept e s) h = record { sound = h; stands = refl; short = refl; bytes = bytes-none }
judged-kept n (finish e s) h = record { sound = h; stands = refl; short = refl; bytes = bytes-none }
judged-kept n (refuse k s) h = record { sound = h.0; stands = h.1; short = refl; bytes = bytes-none }

framed_kept : (s : Session Table) (held piece : List ℕ) (f : Framed) → SoundSession s → Bytes (held ++ piece) → frame (held ++ piece) ≡ f
    → Kept (step_framed (soup_bin_tcp deliver) s held piece f).state
unfolding frame standing
framed_kept s held piece short h b e = record { sound = h; stands = refl; short = e; bytes = b }
framed_kept s held piece (bad_length r) h b e = record { sound = h; stands = refl; short = refl; bytes = bytes-none }
framed_kept s held piece (packet l body r) h b e =
    judged-kept (length piece - length r) (soup_bin_tcp deliver s l body) (packet-sound s l body (frame-bytes (held ++ piece) e b) h)

pub step_kept : (st : State (Session Table)) (piece : List ℕ) → Bytes piece → Kept st → Kept (step_of (soup_bin_tcp deliver) st piece).state
unfolding step_of
step_kept (live s held) piece b k =
    framed_kept s held piece (frame (held ++ piece)) k.sound (bytes-append held piece k.bytes b) refl
step_kept (ended s held) piece b k = k
step_kept (refused s held e n) piece b k = k

-- ---- AND NO STEP IS LED ASTRAY

abbrev pub AnswerStood : stream.Answer (Event Said) → Type 0
AnswerStood (stream.Event e) = Unit
AnswerStood stream.More = Unit
AnswerStood stream.Ended = Unit
AnswerStood (stream.Refused n) = standing n ≡ true

judged-stood : (n : ℕ) (v : stream.Verdict (Session Table) (Event Said)) → VerdictHas SoundSession Stands v → AnswerStood (step_judged n v).answer
judged-stood n (accept e s) h = tt
judged-stood n (finish e s) h = tt
judged-stood n (refuse k s) h = h.1

framed-stood : (s : Session Table) (held piece : List ℕ) (f : Framed) → SoundSession s → Bytes (held ++ piece) → frame (held ++ piece) ≡ f
    → AnswerStood (step_framed (soup_bin_tcp deliver) s held piece f).answer
framed-stood s held piece short h b e = tt
framed-stood s held piece (bad_length r) h b e = fault-stands fault.BadLength
framed-stood s held piece (packet l body r) h b e =
    judged-stood (length piece - length r) (soup_bin_tcp deliver s l body) (packet-sound s l body (frame-bytes (held ++ piece) e b) h)

-- a refusal that a step of what is kept gives may stand
pub step-stood : (st : State (Session Table)) (piece : List ℕ) → Bytes piece → Kept st → AnswerStood (step_of (soup_bin_tcp deliver) st piece).answer
unfolding step_of
step-stood (live s held) piece b k =
    framed-stood s held piece (frame (held ++ piece)) k.sound (bytes-append held piece k.bytes b) refl
step-stood (ended s held) piece b k = tt
step-stood (refused s held e n) piece b k = k.stands

-- so that it is not 20
pub stood-fit : (a : stream.Answer (Event Said)) → AnswerStood a → is_unfit a ≡ false
unfolding standing
stood-fit (stream.Event e) h = refl
stood-fit stream.More h = refl
stood-fit stream.Ended h = refl
stood-fit (stream.Refused n) h = ne_eqb n 20 (λ z. never (sym (ap standing z) ∙ h))

pub unheeded : (st : State (Session Table)) (piece : List ℕ) → Bytes piece → Kept st → step_in st piece ≡ step_of (soup_bin_tcp deliver) st piece
unfolding step_in
unheeded st piece b k = rw (stood-fit (step_of (soup_bin_tcp deliver) st piece).answer (step-stood st piece b k))

unfinished-by : (st : State (Session Table)) → frame (held_in st) ≡ short → Unfinished st
unfinished-by (live s held) h = h
unfinished-by (ended s held) h = tt
unfinished-by (refused s held e n) h = tt

-- ---- the same of a handle

module _ (r : Reader) (t : Memories) where
  pub ours_kept : Ours r t → Kept (state_of r t)
  ours_kept o =
      record {
        sound = subst SoundSession (sym (session-in r t)) o.sound;
        stands = ap standing (refusal-of r t) ∙ o.stands;
        short = ap frame (held_in_lem r t) ∙ o.short;
        bytes = subst Bytes (sym (held_in_lem r t)) o.bytes;
      }

  -- what is ours holds no whole packet
  pub unfinished-in : Ours r t → Unfinished (state_of r t)
  unfinished-in o = unfinished-by (state_of r t) (ours_kept o).short

  pub kept-ours : Kept (state_of r t) → r.used ≤ held_size → Ours r t
  kept-ours k u =
      record {
        sound = subst SoundSession (session-in r t) k.sound;
        stands = ap standing (sym (refusal-of r t)) ∙ k.stands;
        used = u;
        short = ap frame (sym (held_in_lem r t)) ∙ k.short;
        bytes = subst Bytes (held_in_lem r t) k.bytes;
      }

  -- THEOREM: what our own calls make is within the limits of a handle, and may step
  within_of : Ours r t → Within r t.table
  within_of o =
      record {
        fitted = sound-fits (table_of r.board t) o.sound.about;
        some = o.sound.range.some;
        most = o.sound.range.most;
        start = o.used;
        short = o.short;
        stands = o.stands;
      }

  pub ours-within : Ours r t → within_limits r t.table ≡ true
  ours-within o = limits-hold r t.table (within_of o)

  pub ours-may : Ours r t → may_step r t ≡ true
  ours-may o = steps-hold r t (within_of o) o.sound.about.index.sized

  -- a step of what is ours is the definition's, for its index does not lead it astray
  pub stepping-is : (piece : List ℕ) (s : Stepped) (t' : Memories) → Ours r t → Bytes piece → Stepping r t piece s t'
      → seen_of s t' ≡ seen (step_of (soup_bin_tcp deliver) (state_of r t) piece)
  unfolding step_all
  stepping-is piece s t' o b h = (rw (ours-may o) at h) ∙ ap seen (unheeded (state_of r t) piece b (ours_kept o))

-- THEOREM: a step of what is ours, with any bytes, leaves what is ours
pub step-ours : (r : Reader) (t : Memories) (piece : List ℕ) (s : Stepped) (t' : Memories) → Ours r t → Bytes piece → Stepping r t piece s t' → Ours s.reader t'
step-ours r t piece s t' o b h =
    let x = stepping-is r t piece s t' o b h in
    let st = (step_of (soup_bin_tcp deliver) (state_of r t) piece).state in
    let k = step_kept (state_of r t) piece b (ours_kept r t o) in
    let u : s.reader.used ≡ length (held_in st) = ap (λ (q : Seen). q.used) x in
    kept-ours s.reader t' (subst Kept (sym (ap (λ (q : Seen). q.step.state) x)) k) (omega (arith, u, short-fits (held_in st) k.short))
