-- A run up to a ceiling is the reading of the bytes that it takes, and it finishes as many packets as that reading has events.
-- Assumes nothing.
use mathlib.Core.Path.{◌≡◌, refl, sym, ap, ◌∙◌, subst}
use mathlib.Core.Logic.{◌⊎◌, inl, inr}
use mathlib.Core.Bool.{Bool, true, false}
use mathlib.Core.List.{List, [], ◌∷◌, ◌++◌, append_assoc, append-nil}
use Prim.Native.Nat.{ℕ, zero, suc, ◌+◌, ◌-◌, ◌≤◌}
use native.Mathlib.Omega.{arith}
use native.Mathlib.Nat.{zero-add}
use lib.ListN.{length, take, drop, length-drop}
use lib.Seq.{take-add, drop-drop, drop-length}
use Rattle.packet.specs.Frame.{Framed, short, bad_length, packet, frame}
use Rattle.packet.specs.Stream as stream
use Rattle.packet.specs.Stream.{Verdict, accept, finish, refuse, State, live, ended, refused, Unfinished, Run, first, ◌then◌, still, told, events_of, Answer, Stepped, Called, call}
use Rattle.packet.specs.Stream.{reading, step_judged, step_framed, step_of}
use Rattle.packet.specs.Ceiling as ceiling
use Rattle.packet.specs.Ceiling.{Why, Ran, why_at_ceiling, halted, ◌onward◌, further, ran_by, run_by, run_of}
use Rattle.packet.proofs.Rules.{never}
use Rattle.packet.proofs.Cut.{reading-none, reading-cut}
use Rattle.packet.proofs.Step.{step-taken, step-unfinished, gets-on}
use Rattle.packet.proofs.Seen.{step-short}

-- no other reason is the ceiling
abbrev is_ceiling : Why → Bool
is_ceiling ceiling.Ended = false
is_ceiling (ceiling.Refused n) = false
is_ceiling ceiling.Ceiling = true
is_ceiling ceiling.More = false

-- ---- ONE STEP OF A RUN

module _ {E : Type 0} where
  -- an answer that is no event stops a run, for its reason
  abbrev pub Halts : Answer E → Why → Type 0
  Halts (stream.Event e) w = ⊥
  Halts stream.More w = w ≡ ceiling.More
  Halts stream.Ended w = w ≡ ceiling.Ended
  Halts (stream.Refused n) w = w ≡ ceiling.Refused n

  halts-none : (a : Answer E) (w : Why) → Halts a w → events_of a ≡ []
  halts-none (stream.Event e) w h = absurd h
  halts-none stream.More w h = refl
  halts-none stream.Ended w h = refl
  halts-none (stream.Refused n) w h = refl

  halts-before : (a : Answer E) (w : Why) → Halts a w → w ≡ ceiling.Ceiling → ⊥
  halts-before (stream.Event e) w h z = h
  halts-before stream.More w h z = never (ap is_ceiling (sym h ∙ z))
  halts-before stream.Ended w h z = never (ap is_ceiling (sym h ∙ z))
  halts-before (stream.Refused n) w h z = never (ap is_ceiling (sym h ∙ z))

module _ {S E : Type 0} where
  abbrev stepped : State S → ℕ → Answer E → Stepped S E
  stepped st t a = record { state = st; taken = t; answer = a }

  halts_by : (go : State S → List ℕ → Ran S) (piece : List ℕ) (st : State S) (t : ℕ) (a : Answer E) (w : Why) → Halts a w
      → ran_by go piece st t a ≡ halted st t w
  halts_by go piece st t (stream.Event e) w h = absurd h
  halts_by go piece st t stream.More w h = ap (halted st t) (sym h)
  halts_by go piece st t stream.Ended w h = ap (halted st t) (sym h)
  halts_by go piece st t (stream.Refused n) w h = ap (halted st t) (sym h)

  taken_of : {q : Stepped S E} {st : State S} {t : ℕ} {a : Answer E} → q ≡ stepped st t a → q.taken ≡ t
  taken_of h = ap (λ (x : Stepped S E). x.taken) h

module _ {S E : Type 0} (step : State S → List ℕ → Stepped S E) where
  -- a step with an event: its packet is finished, and the run goes on
  pub run-event : (n : ℕ) (st : State S) (piece : List ℕ) {st' : State S} {t : ℕ} {e : E}
      → step st piece ≡ record { state = st'; taken = t; answer = stream.Event e }
      → run_by step (suc n) st piece ≡ further t (run_by step n st' (drop t piece))
  unfolding run_by
  run-event n st piece h = ap (λ (q : Stepped S E). ran_by (run_by step n) piece q.state q.taken q.answer) h

  -- any other step stops it
  pub run-stops : (n : ℕ) (st : State S) (piece : List ℕ) {st' : State S} {t : ℕ} {a : Answer E} {w : Why}
      → step st piece ≡ record { state = st'; taken = t; answer = a } → Halts a w
      → run_by step (suc n) st piece ≡ halted st' t w
  unfolding run_by
  run-stops n st piece {st'} {t} {a} {w} h s =
      ap (λ (q : Stepped S E). ran_by (run_by step n) piece q.state q.taken q.answer) h ∙ halts_by (run_by step n) piece st' t a w s

  -- STEP BY STEP: what the ceiling's run has, what a step that stops has, and what a step with an event hands on, every run has
  pub record EachStep (P : ℕ → State S → List ℕ → Ran S → Type 0) : Type 0 where
    pub none : (st : State S) (piece : List ℕ) → P 0 st piece (halted st 0 (why_at_ceiling st))
    pub event : (n : ℕ) (st st' : State S) (piece : List ℕ) (t : ℕ) (e : E)
        → step st piece ≡ record { state = st'; taken = t; answer = stream.Event e }
        → P n st' (drop t piece) (run_by step n st' (drop t piece)) → P (suc n) st piece (further t (run_by step n st' (drop t piece)))
    pub stops : (n : ℕ) (st st' : State S) (piece : List ℕ) (t : ℕ) (a : Answer E) (w : Why)
        → step st piece ≡ record { state = st'; taken = t; answer = a } → Halts a w → P (suc n) st piece (halted st' t w)

  module _ {P : ℕ → State S → List ℕ → Ran S → Type 0} (each : EachStep P) where
    at-answer : (n : ℕ) (st st' : State S) (piece : List ℕ) (t : ℕ) (a : Answer E) → step st piece ≡ stepped st' t a
        → P n st' (drop t piece) (run_by step n st' (drop t piece)) → P (suc n) st piece (ran_by (run_by step n) piece st' t a)
    at-answer n st st' piece t (stream.Event e) h go = each.event n st st' piece t e h go
    at-answer n st st' piece t stream.More h go = each.stops n st st' piece t stream.More ceiling.More h refl
    at-answer n st st' piece t stream.Ended h go = each.stops n st st' piece t stream.Ended ceiling.Ended h refl
    at-answer n st st' piece t (stream.Refused k) h go = each.stops n st st' piece t (stream.Refused k) (ceiling.Refused k) h refl

    pub each_step : (n : ℕ) (st : State S) (piece : List ℕ) → P n st piece (run_by step n st piece)
    unfolding run_by
    each_step zero st piece = each.none st piece
    each_step (suc n) st piece =
        let r = step st piece in
        at-answer n st r.state piece r.taken r.answer refl (each_step n r.state (drop r.taken piece))

  -- ---- HOW MUCH

  -- a run takes no more than it is given, if a step does not
  pub run-within : ((st : State S) (piece : List ℕ) → (step st piece).taken ≤ length piece) → (n : ℕ) (st : State S) (piece : List ℕ)
      → (run_by step n st piece).taken ≤ length piece
  run-within within =
      each_step {P = λ n st piece r. r.taken ≤ length piece}
      (record {
        none = λ st piece. omega arith;
        event = λ n st st' piece t e h go. omega (arith, go, length-drop t piece, within st piece, taken_of h);
        stops = λ n st st' piece t a w h s. omega (arith, within st piece, taken_of h);
      })

  -- and finishes no more than the ceiling
  pub run-most : (n : ℕ) (st : State S) (piece : List ℕ) → (run_by step n st piece).finished ≤ n
  run-most =
      each_step {P = λ n st piece r. r.finished ≤ n}
      (record {
        none = λ st piece. omega arith;
        event = λ n st st' piece t e h go. omega (arith, go);
        stops = λ n st st' piece t a w h s. omega arith;
      })

  -- ---- A RUN STOPS FOR WHAT ITS LAST STEP SAYS, or for what its reader says at the ceiling

  pub run-says : (Q : State S → Why → Type 0) → ((st : State S) → Q st (why_at_ceiling st))
      → ((st : State S) (piece : List ℕ) (w : Why) → Halts (step st piece).answer w → Q (step st piece).state w)
      → (n : ℕ) (st : State S) (piece : List ℕ)
      → (let r = run_by step n st piece in
      Q r.state r.why)
  run-says Q none stops =
      each_step {P = λ n st piece r. Q r.state r.why}
      (record {
        none = λ st piece. none st;
        event = λ n st st' piece t e h go. go;
        stops = λ n st st' piece t a w h s. subst (λ (q : Stepped S E). Halts q.answer w → Q q.state w) h (stops st piece w) s;
      })

  -- ---- WHAT STEPS KEEP, A RUN KEEPS

  module _ (P : State S → Type 0) (G : List ℕ → Type 0) (drops : (n : ℕ) (p : List ℕ) → G p → G (drop n p))
      (keeps : (st : State S) (p : List ℕ) → G p → P st → P (step st p).state) where
    step_keeps : (st st' : State S) (piece : List ℕ) (t : ℕ) (a : Answer E) → step st piece ≡ stepped st' t a → G piece → P st → P st'
    step_keeps st st' piece t a h g k = subst (λ (q : Stepped S E). P q.state) h (keeps st piece g k)

    pub run-keeps : (n : ℕ) (st : State S) (piece : List ℕ) → G piece → P st → P (run_by step n st piece).state
    run-keeps =
        each_step {P = λ n st piece r. G piece → P st → P r.state}
        (record {
          none = λ st piece g k. k;
          event = λ n st st' piece t e h go g k. go (drops t piece g) (step_keeps st st' piece t (stream.Event e) h g k);
          stops = λ n st st' piece t a w h s g k. step_keeps st st' piece t a h g k;
        })

-- ---- TWO SORTS OF STEP that are the same on what the steps keep make the same run

module _ {S E : Type 0} (step step' : State S → List ℕ → Stepped S E) (P : State S → Type 0) (G : List ℕ → Type 0)
    (drops : (n : ℕ) (p : List ℕ) → G p → G (drop n p)) (keeps : (st : State S) (p : List ℕ) → G p → P st → P (step st p).state)
    (same : (st : State S) (p : List ℕ) → G p → P st → step st p ≡ step' st p) where
  pub run-same : (n : ℕ) (st : State S) (piece : List ℕ) → G piece → P st → run_by step n st piece ≡ run_by step' n st piece
  unfolding run_by
  run-same =
      each_step step {P = λ n st piece r. G piece → P st → r ≡ run_by step' n st piece}
      (record {
        none = λ st piece g k. refl;
        event = λ n st st' piece t e h go g k.
            ap (further t) (go (drops t piece g) (subst (λ (q : Stepped S E). P q.state) h (keeps st piece g k)))
            ∙ sym (run-event step' n st piece (sym (same st piece g k) ∙ h));
        stops = λ n st st' piece t a w h s g k. sym (run-stops step' n st piece (sym (same st piece g k) ∙ h) s);
      })

module _ {S E : Type 0} (judge : S → ℕ → List ℕ → Verdict S E) where
  -- THEOREM: IT GETS ON. A live reader with a ceiling of 1 or more takes a byte at least of a piece that is not empty.
  pub run-gets-on : (n : ℕ) (s : S) (held piece : List ℕ) → frame held ≡ short → 1 ≤ n → 1 ≤ length piece → 1 ≤ (run_of judge n (live s held) piece).taken
  run-gets-on n s held piece fine some h =
      each_step (step_of judge) {P = λ n st piece r. 1 ≤ n → 1 ≤ (step_of judge st piece).taken → 1 ≤ r.taken}
      (record {
        none = λ st piece some k. absurd (omega arith);
        event = λ n st st' piece t e h go some k. omega (arith, taken_of h);
        stops = λ n st st' piece t a w h s some k. omega (arith, taken_of h);
      })
      n (live s held) piece some (gets-on judge s held piece fine h)

  -- ---- A RUN IS THE READING OF EXACTLY THE BYTES THAT IT TAKES

  -- the reading of the first packet's bytes, and of those that the rest of the run takes
  event-reads : (st st' : State S) (piece : List ℕ) (t m : ℕ) (e : E) → step_of judge st piece ≡ stepped st' t (stream.Event e) → Unfinished st
      → reading judge st (take (t + m) piece) ≡ first e (reading judge st' (take m (drop t piece)))
  event-reads st st' piece t m e h fine =
      ap (reading judge st) (take-add t m piece)
      ∙ reading-cut judge st (take t piece) (take m (drop t piece))
      ∙ ap (λ (r : Run S E). r then (λ q. reading judge q (take m (drop t piece))))
      (ap (λ (k : ℕ). reading judge st (take k piece)) (sym (taken_of h)) ∙ step-taken judge st piece fine ∙ ap told h)

  stop-reads : (st st' : State S) (piece : List ℕ) (t : ℕ) (a : Answer E) (w : Why) → step_of judge st piece ≡ stepped st' t a → Halts a w → Unfinished st
      → reading judge st (take t piece) ≡ still st'
  stop-reads st st' piece t a w h s fine =
      ap (λ (k : ℕ). reading judge st (take k piece)) (sym (taken_of h))
      ∙ step-taken judge st piece fine
      ∙ ap told h
      ∙ ap (λ (es : List E). record { events = es; state = st' }) (halts-none a w s)

  next-fine : (st st' : State S) (piece : List ℕ) (t : ℕ) (a : Answer E) → step_of judge st piece ≡ stepped st' t a → Unfinished st → Unfinished st'
  next-fine st st' piece t a h fine = subst (λ (q : Stepped S E). Unfinished q.state) h (step-unfinished judge st piece fine)

  -- THEOREM: the packets finished are the accepted packets, the events, of the reading of the bytes taken
  pub run-finished : (n : ℕ) (st : State S) (piece : List ℕ) → Unfinished st
      → (run_of judge n st piece).finished ≡ length (reading judge st (take (run_of judge n st piece).taken piece)).events
  run-finished =
      each_step (step_of judge) {P = λ n st piece r. Unfinished st → r.finished ≡ length (reading judge st (take r.taken piece)).events}
      (record {
        none = λ st piece fine. ap (λ (q : Run S E). length q.events) (sym (reading-none judge st fine));
        event = λ n st st' piece t e h go fine.
            ap suc (go (next-fine st st' piece t (stream.Event e) h fine))
            ∙ ap (λ (q : Run S E). length q.events) (sym (event-reads st st' piece t (run_of judge n st' (drop t piece)).taken e h fine));
        stops = λ n st st' piece t a w h s fine. ap (λ (q : Run S E). length q.events) (sym (stop-reads st st' piece t a w h s fine));
      })

  -- THEOREM: and the reader that is left is that reading's
  pub run-state : (n : ℕ) (st : State S) (piece : List ℕ) → Unfinished st
      → (run_of judge n st piece).state ≡ (reading judge st (take (run_of judge n st piece).taken piece)).state
  run-state =
      each_step (step_of judge) {P = λ n st piece r. Unfinished st → r.state ≡ (reading judge st (take r.taken piece)).state}
      (record {
        none = λ st piece fine. ap (λ (q : Run S E). q.state) (sym (reading-none judge st fine));
        event = λ n st st' piece t e h go fine.
            go (next-fine st st' piece t (stream.Event e) h fine)
            ∙ ap (λ (q : Run S E). q.state) (sym (event-reads st st' piece t (run_of judge n st' (drop t piece)).taken e h fine));
        stops = λ n st st' piece t a w h s fine. ap (λ (q : Run S E). q.state) (sym (stop-reads st st' piece t a w h s fine));
      })

  -- ---- A RUN IS CALLS, so that all that is proved of any calls holds of runs among them

  pub called_on : {st st' st'' : State S} {bs mid left : List ℕ} {es fs : List E} → Called judge st bs es st' mid → Called judge st' mid fs st'' left
      → Called judge st bs (es ++ fs) st'' left
  called_on stream.stop k = k
  called_on {st'' = st''} {left = left} {fs = fs} (call {st = st} {es = es} piece more c) k =
      subst (λ (l : List E). Called judge st (piece ++ more) l st'' left) (sym (append_assoc (events_of (step_of judge st piece).answer) es fs))
      (call piece more (called_on c k))

  -- one call before others
  call-first : (st st' last : State S) (piece more left : List ℕ) (t : ℕ) (a : Answer E) (es : List E) → step_of judge st piece ≡ stepped st' t a
      → Called judge st' (drop t piece ++ more) es last left → Called judge st (piece ++ more) (events_of a ++ es) last left
  call-first st st' last piece more left t a es h c =
      subst
      (λ (q : Stepped S E). Called judge q.state (drop q.taken piece ++ more) es last left → Called judge st (piece ++ more) (events_of q.answer ++ es) last left)
      h (call piece more) c

  abbrev AsCalls : ℕ → State S → List ℕ → Ran S → Type 0
  AsCalls n st piece r =
      (more : List ℕ) → Unfinished st
      → Called judge st (piece ++ more) (reading judge st (take r.taken piece)).events r.state (drop r.taken piece ++ more)

  event-called : (n : ℕ) (st st' : State S) (piece : List ℕ) (t : ℕ) (e : E) → step_of judge st piece ≡ stepped st' t (stream.Event e)
      → AsCalls n st' (drop t piece) (run_of judge n st' (drop t piece)) → AsCalls (suc n) st piece (further t (run_of judge n st' (drop t piece)))
  event-called n st st' piece t e h go more fine =
      let r = run_of judge n st' (drop t piece) in
      let es = (reading judge st' (take r.taken (drop t piece))).events in
      subst (λ (l : List E). Called judge st (piece ++ more) l r.state (drop (t + r.taken) piece ++ more))
      (ap (λ (q : Run S E). q.events) (sym (event-reads st st' piece t r.taken e h fine)))
      (subst (λ (l : List ℕ). Called judge st (piece ++ more) (e ∷ es) r.state (l ++ more)) (drop-drop r.taken t piece)
      (call-first st st' r.state piece more (drop r.taken (drop t piece) ++ more) t (stream.Event e) es h (go more (next-fine st st' piece t (stream.Event e) h fine))))

  pub run-called : (n : ℕ) (st : State S) (piece more : List ℕ) → Unfinished st
      → (let r = run_of judge n st piece in
      Called judge st (piece ++ more) (reading judge st (take r.taken piece)).events r.state (drop r.taken piece ++ more))
  run-called =
      each_step (step_of judge) {P = AsCalls}
      (record {
        none = λ st piece more fine.
            subst (λ (q : Run S E). Called judge st (piece ++ more) q.events st (piece ++ more)) (sym (reading-none judge st fine)) stream.stop;
        event = event-called;
        stops = λ n st st' piece t a w h s more fine.
            subst (λ (es : List E). Called judge st (piece ++ more) es st' (drop t piece ++ more))
            (append-nil (events_of a) ∙ halts-none a w s ∙ ap (λ (q : Run S E). q.events) (sym (stop-reads st st' piece t a w h s fine)))
            (call-first st st' st' piece more (drop t piece ++ more) t a [] h stream.stop);
      })

  -- ---- A HIGHER CEILING

  -- a step that tells no event, made again on what is left, takes nothing, changes nothing and gives the same answer
  abbrev Repeats : List ℕ → Stepped S E → Type 0
  Repeats piece q = (w : Why) → Halts q.answer w → step_of judge q.state (drop q.taken piece) ≡ stepped q.state 0 q.answer

  judged-repeats : (piece : List ℕ) (n : ℕ) (v : Verdict S E) → Repeats piece (step_judged n v)
  unfolding step_of
  judged-repeats piece n (accept e s) w h = absurd h
  judged-repeats piece n (finish e s) w h = absurd h
  judged-repeats piece n (refuse k s) w h = refl

  framed-repeats : (s : S) (held piece : List ℕ) (f : Framed) → frame (held ++ piece) ≡ f → Repeats piece (step_framed judge s held piece f)
  framed-repeats s held piece short e w h =
      rw (drop-length piece)
      (step-short judge s (held ++ piece) [] (ap frame (append-nil (held ++ piece)) ∙ e) ∙ rw (append-nil (held ++ piece)))
  framed-repeats s held piece (bad_length r) e w h = judged-repeats piece (length piece - length r) (refuse _ s) w h
  framed-repeats s held piece (packet l b r) e w h = judged-repeats piece (length piece - length r) (judge s l b) w h

  step-repeats : (st : State S) (piece : List ℕ) → Repeats piece (step_of judge st piece)
  unfolding step_of
  step-repeats (live s held) piece w h = framed-repeats s held piece (frame (held ++ piece)) refl w h
  step-repeats (ended s held) piece w h = refl
  step-repeats (refused s held e n) piece w h = refl

  further-onward : (t : ℕ) (r q : Ran S) → further t (r onward q) ≡ further t r onward q
  further-onward t r q =
      let e : t + (r.taken + q.taken) ≡ t + r.taken + q.taken = omega arith in
      let f : suc (r.finished + q.finished) ≡ suc r.finished + q.finished = omega arith in
      rw (e, f)

  halted-onward : (st : State S) (t : ℕ) (w : Why) → halted st t w ≡ halted st t w onward halted st 0 w
  halted-onward st t w = let e : t ≡ t + 0 = omega arith in ap (λ (k : ℕ). halted st k w) e

  sooner : (n d : ℕ) (st : State S) (piece : List ℕ) → run_of judge (suc n + d) st piece ≡ run_of judge (suc (n + d)) st piece
  sooner n d st piece = let e : suc n + d ≡ suc (n + d) = omega arith in ap (λ (k : ℕ). run_of judge k st piece) e

  -- a run, and then one with a ceiling of `suc d` on what was not taken, is the one with both ceilings
  abbrev Adds : ℕ → ℕ → State S → List ℕ → Ran S → Type 0
  Adds d n st piece r = run_of judge (n + suc d) st piece ≡ r onward run_of judge (suc d) r.state (drop r.taken piece)

  none-adds : (d : ℕ) (st : State S) (piece : List ℕ) → Adds d 0 st piece (halted st 0 (why_at_ceiling st))
  none-adds d st piece =
      let q = run_of judge (suc d) st piece in
      let e : 0 + q.taken ≡ q.taken = zero-add q.taken in
      let f : 0 + q.finished ≡ q.finished = zero-add q.finished in
      ap (λ (k : ℕ). run_of judge k st piece) (zero-add (suc d)) ∙ sym (rw (e, f))

  event-adds : (d n : ℕ) (st st' : State S) (piece : List ℕ) (t : ℕ) (e : E) → step_of judge st piece ≡ stepped st' t (stream.Event e)
      → Adds d n st' (drop t piece) (run_of judge n st' (drop t piece)) → Adds d (suc n) st piece (further t (run_of judge n st' (drop t piece)))
  event-adds d n st st' piece t e h go =
      let r = run_of judge n st' (drop t piece) in
      sooner n (suc d) st piece
      ∙ run-event (step_of judge) (n + suc d) st piece h
      ∙ ap (further t) go
      ∙ further-onward t r (run_of judge (suc d) r.state (drop r.taken (drop t piece)))
      ∙ ap (λ (l : List ℕ). further t r onward run_of judge (suc d) r.state l) (drop-drop r.taken t piece)

  stop-adds : (d n : ℕ) (st st' : State S) (piece : List ℕ) (t : ℕ) (a : Answer E) (w : Why) → step_of judge st piece ≡ stepped st' t a → Halts a w
      → Adds d (suc n) st piece (halted st' t w)
  stop-adds d n st st' piece t a w h s =
      let again : step_of judge st' (drop t piece) ≡ stepped st' 0 a = subst (Repeats piece) h (step-repeats st piece) w s in
      sooner n (suc d) st piece
      ∙ run-stops (step_of judge) (n + suc d) st piece h s
      ∙ halted-onward st' t w
      ∙ ap (λ (q : Ran S). halted st' t w onward q) (sym (run-stops (step_of judge) d st' (drop t piece) again s))

  -- THEOREM: A RUN AND THEN A RUN on what was not taken is one run, with the ceilings added. (The second ceiling is at least 1: with 0 a run that
  -- wanted more would be said to have stopped at the ceiling.)
  pub run-onward : (n d : ℕ) (st : State S) (piece : List ℕ)
      → (let r = run_of judge n st piece in
      run_of judge (n + suc d) st piece ≡ r onward run_of judge (suc d) r.state (drop r.taken piece))
  run-onward n d st piece = each_step (step_of judge) {P = Adds d} (record { none = none-adds d; event = event-adds d; stops = stop-adds d }) n st piece

  -- ---- A RUN THAT STOPPED BEFORE THE CEILING: a higher ceiling changes nothing

  pub at_once : (d : ℕ) (st : State S) (piece : List ℕ) → (why_at_ceiling st ≡ ceiling.Ceiling → ⊥) → run_of judge d st piece ≡ halted st 0 (why_at_ceiling st)
  unfolding run_by step_of
  at_once zero st piece h = refl
  at_once (suc d) (live s held) piece h = absurd (h refl)
  at_once (suc d) (ended s held) piece h = refl
  at_once (suc d) (refused s held e k) piece h = refl

  pub run_settled : (n d : ℕ) (st : State S) (piece : List ℕ) → ((run_of judge n st piece).why ≡ ceiling.Ceiling → ⊥)
      → run_of judge (n + d) st piece ≡ run_of judge n st piece
  run_settled n d st piece =
      each_step (step_of judge) {P = λ n st piece r. (r.why ≡ ceiling.Ceiling → ⊥) → run_of judge (n + d) st piece ≡ r}
      (record {
        none = λ st piece h. at_once (0 + d) st piece h;
        event = λ n st st' piece t e h go k. sooner n d st piece ∙ run-event (step_of judge) (n + d) st piece h ∙ ap (further t) (go k);
        stops = λ n st st' piece t a w h s k. sooner n d st piece ∙ run-stops (step_of judge) (n + d) st piece h s;
      })
      n st piece

  -- A RUN THAT STOPPED AT THE CEILING finished so many packets, and its reader is live
  pub run-at-ceiling : (n : ℕ) (st : State S) (piece : List ℕ)
      → (let r = run_of judge n st piece in
      r.why ≡ ceiling.Ceiling → (why_at_ceiling r.state ≡ ceiling.Ceiling) × (r.finished ≡ n))
  run-at-ceiling =
      each_step (step_of judge) {P = λ n st piece r. r.why ≡ ceiling.Ceiling → (why_at_ceiling r.state ≡ ceiling.Ceiling) × (r.finished ≡ n)}
      (record {
        none = λ st piece z. (z, refl);
        event = λ n st st' piece t e h go z. ((go z).0, ap suc (go z).1);
        stops = λ n st st' piece t a w h s z. absurd (halts-before a w s z);
      })

  -- ---- A RUN STOPS FOR MORE, OR FOR WHAT ITS READER SAYS: that it has ended or refused, or else the ceiling

  abbrev pub Says : Stepped S E → Type 0
  Says q = (w : Why) → Halts q.answer w → (why_at_ceiling q.state ≡ w) ⊎ (w ≡ ceiling.More)

  judged-says : (n : ℕ) (v : Verdict S E) → Says (step_judged n v)
  judged-says n (accept e s) w h = absurd h
  judged-says n (finish e s) w h = absurd h
  judged-says n (refuse k s) w h = inl (sym h)

  framed-says : (s : S) (held piece : List ℕ) (f : Framed) → Says (step_framed judge s held piece f)
  framed-says s held piece short w h = inr h
  framed-says s held piece (bad_length r) w h = inl (sym h)
  framed-says s held piece (packet l b r) w h = judged-says (length piece - length r) (judge s l b) w h

  pub step-says : (st : State S) (piece : List ℕ) → Says (step_of judge st piece)
  unfolding step_of
  step-says (live s held) piece w h = framed-says s held piece (frame (held ++ piece)) w h
  step-says (ended s held) piece w h = inl (sym h)
  step-says (refused s held e n) piece w h = inl (sym h)

  pub run-why : (n : ℕ) (st : State S) (piece : List ℕ)
      → (let r = run_of judge n st piece in
      (why_at_ceiling r.state ≡ r.why) ⊎ (r.why ≡ ceiling.More))
  run-why =
      run-says (step_of judge) (λ st w. (why_at_ceiling st ≡ w) ⊎ (w ≡ ceiling.More)) (λ st. inl refl) (λ st piece w h. step-says st piece w h)
