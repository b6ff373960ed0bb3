-- However a stream is cut into pieces, its calls tell the events, in order, and leave the reader of the reading of the uncut bytes.
-- Assumes nothing.
use mathlib.Core.Path.{◌≡◌, refl, sym, ap, ◌∙◌}
use mathlib.Core.List.{List, [], ◌∷◌, ◌++◌, append_assoc, append-nil, flatten}
use Prim.Native.Nat.{ℕ, zero, suc, ◌-◌, ◌≤◌, ◌<◌}
use native.Mathlib.Omega.{arith}
use lib.ListN.{length, drop}
use Rattle.packet.specs.Frame.{Framed, short, bad_length, packet, frame}
use Rattle.packet.specs.Refusals.{fault_number}
use Rattle.packet.specs.Stream.{Verdict, accept, finish, refuse, State, live, ended, refused, refused_by, Unfinished, Run, first, ◌then◌, still}
use Rattle.packet.specs.Stream.{judged, fronted, packets, read_all, reading, step_judged, step_framed, step_of, answered, give, calls}
use Rattle.packet.specs.declared.Fault.TheVariants.{BadLength}
use Rattle.packet.proofs.Frame.{frame-grows, after-shorter, frame-ends, frame-left}

module _ {S E : Type 0} (judge : S → ℕ → List ℕ → Verdict S E) where
  -- ---- the bound on packets does not count

  judged-same : (g k : S → List ℕ → Run S E) (r : List ℕ) (v : Verdict S E) → ((s : S) → g s r ≡ k s r) → judged g r v ≡ judged k r v
  judged-same g k r (accept e s) h = ap (first e) (h s)
  judged-same g k r (finish e s) h = refl
  judged-same g k r (refuse n s) h = refl

  fronted-same : (g k : S → List ℕ → Run S E) (s : S) (bs : List ℕ) (f : Framed) → frame bs ≡ f
      → ((s' : S) (r : List ℕ) → length r < length bs → g s' r ≡ k s' r)
      → fronted judge g s bs f ≡ fronted judge k s bs f
  fronted-same g k s bs short e h = refl
  fronted-same g k s bs (bad_length r) e h = refl
  fronted-same g k s bs (packet l b r) e h = judged-same g k r (judge s l b) (λ s'. h s' r (omega (arith, after-shorter bs e tt)))

  -- as many packets as there are bytes are every packet
  packets-enough : (n m : ℕ) (s : S) (bs : List ℕ) → length bs ≤ n → length bs ≤ m → packets judge n s bs ≡ packets judge m s bs
  unfolding packets frame
  packets-enough zero zero s bs h k = refl
  packets-enough zero (suc m) s [] h k = refl
  packets-enough zero (suc m) s (b ∷ bs) h k = absurd (omega arith)
  packets-enough (suc n) zero s [] h k = refl
  packets-enough (suc n) zero s (b ∷ bs) h k = absurd (omega arith)
  packets-enough (suc n) (suc m) s bs h k =
      fronted-same (packets judge n) (packets judge m) s bs (frame bs) refl
      (λ s' r l. packets-enough n m s' r (omega arith) (omega arith))

  -- THE READING'S OWN EQUATION, with no bound in it: the packet at the front, and then the reading of what stands after it
  pub reading-goes : (s : S) (bs : List ℕ) → read_all judge s bs ≡ fronted judge (read_all judge) s bs (frame bs)
  unfolding read_all packets
  reading-goes s bs =
      packets-enough (length bs) (suc (length bs)) s bs (omega arith) (omega arith)
      ∙ fronted-same (packets judge (length bs)) (read_all judge) s bs (frame bs) refl
      (λ s' r l. packets-enough (length bs) (length r) s' r (omega arith) (omega arith))

  pub reading-at : (s : S) (bs : List ℕ) {f : Framed} → frame bs ≡ f → read_all judge s bs ≡ fronted judge (read_all judge) s bs f
  reading-at s bs e = reading-goes s bs ∙ ap (fronted judge (read_all judge) s bs) e

  -- ---- PACKET BY PACKET: what a reading's end has, and what each accepted packet hands on, every reading has

  pub record EachPacket (P : S → List ℕ → Run S E → Type 0) : Type 0 where
    pub waits : (s : S) (bs : List ℕ) → frame bs ≡ short → P s bs (still (live s bs))
    pub bad : (s : S) (bs r : List ℕ) → frame bs ≡ bad_length r → P s bs (still (refused_by (fault_number BadLength) s))
    pub accepts : (s s' : S) (bs : List ℕ) (l : ℕ) (b r : List ℕ) (e : E) → frame bs ≡ packet l b r → judge s l b ≡ accept e s'
        → P s' r (read_all judge s' r) → P s bs (first e (read_all judge s' r))
    pub finishes : (s s' : S) (bs : List ℕ) (l : ℕ) (b r : List ℕ) (e : E) → frame bs ≡ packet l b r → judge s l b ≡ finish e s'
        → P s bs (first e (still (ended s' [])))
    pub refuses : (s s' : S) (bs : List ℕ) (l : ℕ) (b r : List ℕ) (n : ℕ) → frame bs ≡ packet l b r → judge s l b ≡ refuse n s'
        → P s bs (still (refused_by n s'))

  module _ {P : S → List ℕ → Run S E → Type 0} (each : EachPacket P) where
    at-verdict : (s : S) (bs : List ℕ) (l : ℕ) (b r : List ℕ) (v : Verdict S E) → frame bs ≡ packet l b r → judge s l b ≡ v
        → ((s' : S) → P s' r (read_all judge s' r)) → P s bs (judged (read_all judge) r v)
    at-verdict s bs l b r (accept e s') f j go = each.accepts s s' bs l b r e f j (go s')
    at-verdict s bs l b r (finish e s') f j go = each.finishes s s' bs l b r e f j
    at-verdict s bs l b r (refuse n s') f j go = each.refuses s s' bs l b r n f j

    at_front : (s : S) (bs : List ℕ) (f : Framed) → frame bs ≡ f → ((s' : S) (r : List ℕ) → length r < length bs → P s' r (read_all judge s' r))
        → P s bs (fronted judge (read_all judge) s bs f)
    at_front s bs short e go = each.waits s bs e
    at_front s bs (bad_length r) e go = each.bad s bs r e
    at_front s bs (packet l b r) e go = at-verdict s bs l b r (judge s l b) e refl (λ s'. go s' r (omega (arith, after-shorter bs e tt)))

    within : (n : ℕ) (s : S) (bs : List ℕ) → length bs < n → P s bs (read_all judge s bs)
    within zero s bs h = absurd (omega arith)
    within (suc n) s bs h = rw (reading-goes s bs) (at_front s bs (frame bs) refl (λ s' r l. within n s' r (omega arith)))

    pub each-packet : (s : S) (bs : List ℕ) → P s bs (read_all judge s bs)
    each-packet s bs = within (suc (length bs)) s bs (omega arith)

  -- ---- two parts

  abbrev Cuts : List ℕ → S → List ℕ → Run S E → Type 0
  Cuts ys s xs r = read_all judge s (xs ++ ys) ≡ r then (λ st. reading judge st ys)

  cuts : (ys : List ℕ) → EachPacket (Cuts ys)
  unfolding reading
  cuts ys =
      record {
        waits = λ s bs e. refl;
        bad = λ s bs r e. reading-at s (bs ++ ys) (frame-grows bs ys e tt);
        accepts = λ s s' bs l b r e f j go.
            reading-at s (bs ++ ys) (frame-grows bs ys f tt) ∙ ap (judged (read_all judge) (r ++ ys)) j ∙ ap (first e) go;
        finishes = λ s s' bs l b r e f j. reading-at s (bs ++ ys) (frame-grows bs ys f tt) ∙ ap (judged (read_all judge) (r ++ ys)) j;
        refuses = λ s s' bs l b r n f j. reading-at s (bs ++ ys) (frame-grows bs ys f tt) ∙ ap (judged (read_all judge) (r ++ ys)) j;
      }

  -- A READING IN TWO PARTS: bytes are read, and the reader that is left reads the bytes after them
  pub reading-cut : (st : State S) (xs ys : List ℕ) → reading judge st (xs ++ ys) ≡ reading judge st xs then (λ st'. reading judge st' ys)
  unfolding reading
  reading-cut (live s held) xs ys = rw (← append_assoc held xs ys) (each-packet (cuts ys) s (held ++ xs))
  reading-cut (ended s held) xs ys = refl
  reading-cut (refused s held e n) xs ys = refl

  -- a reader that holds no whole packet reads nothing out of no bytes
  pub reading-none : (st : State S) → Unfinished st → reading judge st [] ≡ still st
  unfolding reading
  reading-none (live s held) h = rw (append-nil held) (reading-at s held h)
  reading-none (ended s held) h = refl
  reading-none (refused s held e n) h = refl

  -- and a reading leaves none
  fine : EachPacket (λ s bs r. Unfinished r.state)
  fine =
      record {
        waits = λ s bs e. e;
        bad = λ s bs r e. tt;
        accepts = λ s s' bs l b r e f j go. go;
        finishes = λ s s' bs l b r e f j. tt;
        refuses = λ s s' bs l b r n f j. tt;
      }

  pub reading-unfinished : (st : State S) (bs : List ℕ) → Unfinished (reading judge st bs).state
  unfolding reading
  reading-unfinished (live s held) bs = each-packet fine s (held ++ bs)
  reading-unfinished (ended s held) bs = tt
  reading-unfinished (refused s held e n) bs = tt

  -- ---- pieces, each given until no event comes of it

  give_ended : (n : ℕ) (s : S) (held piece : List ℕ) → give judge n (ended s held) piece ≡ still (ended s held)
  unfolding give step_of
  give_ended zero s held piece = refl
  give_ended (suc n) s held piece = refl

  judged-given : (n : ℕ) (piece r : List ℕ) (v : Verdict S E) → drop (length piece - length r) piece ≡ r
      → ((s : S) → give judge n (live s []) r ≡ read_all judge s r)
      → (let c = step_judged (length piece - length r) v in answered judge (give judge n) piece c.state c.taken c.answer)
      ≡ judged (read_all judge) r v
  judged-given n piece r (accept e s) d h = rw d (ap (first e) (h s))
  judged-given n piece r (finish e s) d h = ap (first e) (give_ended n s [] (drop (length piece - length r) piece))
  judged-given n piece r (refuse k s) d h = refl

  fronted-given : (n : ℕ) (s : S) (held piece : List ℕ) (f : Framed) → frame held ≡ short → frame (held ++ piece) ≡ f
      → ((s' : S) (r : List ℕ) → length r < length piece → give judge n (live s' []) r ≡ read_all judge s' r)
      → (let c = step_framed judge s held piece f in answered judge (give judge n) piece c.state c.taken c.answer)
      ≡ fronted judge (read_all judge) s (held ++ piece) f
  fronted-given n s held piece short h e go = refl
  fronted-given n s held piece (bad_length r) h e go = refl
  fronted-given n s held piece (packet l b r) h e go =
      judged-given n piece r (judge s l b) (frame-left held piece h e tt) (λ s'. go s' r (frame-ends held piece h e tt))

  give-reads : (n : ℕ) (st : State S) (piece : List ℕ) → Unfinished st → length piece < n → give judge n st piece ≡ reading judge st piece
  unfolding give reading step_of frame
  give-reads zero st piece h l = absurd (omega arith)
  give-reads (suc n) (live s held) piece h l =
      fronted-given n s held piece (frame (held ++ piece)) h refl (λ s' r k. give-reads n (live s' []) r refl (omega arith))
      ∙ sym (reading-goes s (held ++ piece))
  give-reads (suc n) (ended s held) piece h l = refl
  give-reads (suc n) (refused s held e k) piece h l = refl

  -- THE CUT THEOREM. However bytes are cut into pieces, the calls of a reader, with an unfinished packet held or none, tell the events, in order,
  -- and leave the reader of the reading of the uncut bytes.
  pub cut-anywhere : (st : State S) (pieces : List (List ℕ)) → Unfinished st → calls judge st pieces ≡ reading judge st (flatten pieces)
  unfolding calls flatten
  cut-anywhere st [] h = sym (reading-none st h)
  cut-anywhere st (piece ∷ pieces) h =
      rw (give-reads (suc (length piece)) st piece h (omega arith), cut-anywhere (reading judge st piece).state pieces (reading-unfinished st piece))
      (sym (reading-cut st piece (flatten pieces)))
