-- W-203 FOR A HOST IN C: a run of a handle of ours, with any ceiling, read by its answer.
-- Assumes nothing.
use mathlib.Core.Path.{◌≡◌, refl, sym, ap, ◌∙◌, subst}
use mathlib.Core.Logic.{◌⊎◌, inl, inr}
use mathlib.Core.Bool.{true, false}
use mathlib.Core.List.{List, ◌++◌}
use Prim.Native.Nat.{ℕ, ◌+◌, ◌*◌, ◌%◌, ◌≤◌}
use native.Mathlib.Omega.{arith}
use borrow.Author.Tests.{le-leb}
use lib.Dec.{eqb}
use lib.ListN.{length, take, drop}
use Rattle.field.specs.Bytes.{Bytes}
use Rattle.packet.specs.Ceiling as ceiling
use Rattle.packet.specs.Ceiling.{why_at_ceiling, run_of}
use Rattle.packet.specs.Stream.{State, live, ended, refused, reading, Called}
use Rattle.packet.specs.Session.{Session, Event, soup_bin_tcp}
use Rattle.packet.proofs.Rules.{never}
use Rattle.packet.proofs.Ceiling as ceilings
use Rattle.packet.proofs.Ceiling.{run-why}
use Rattle.table.specs.Memory.{Memories}
use Rattle.handle.specs.Handle.{head_of, places_in}
use Rattle.reader.specs.Refusals.{refusal_number, named}
use Rattle.reader.specs.Deliver.{Table, Said, deliver}
use Rattle.reader.specs.View.{session_of, held_of, state_of}
use Rattle.reader.specs.Handles.{reader_in, Left, left, kind_in}
use Rattle.reader.specs.Running.{most_packets, SeenRun, seen_run, run_all, why_number, ran_number, ran_to, run_host, HostRuns, run_taken_in, finished_in, why_for, why_in}
use Rattle.reader.proofs.Back.{StandsSome, Own}
use Rattle.reader.proofs.RunsBack.{run_fits, handle-ran, state-ran, used-ran, answer-ran}
use Rattle.demands.proofs.View.{ended_in, refusal_in, ended_of, refusal-of}
use Rattle.demands.proofs.Kept.{Kept, ours_kept, kept-ours, ours-may, unfinished-in}
use Rattle.demands.proofs.Runs.{run-kept, run-unheeded, WhyStands, run-stands, all_runs, runs-finished, runs-state, runs-called}
use Rattle.hosts.specs.Events.{events_over}
use Rattle.hosts.specs.Runs.{HostDone}
use Rattle.hosts.proofs.Laid.{stands-low, HostOurs, host-own}

-- ---- what the low bytes of an answer say

low_byte : (w : ceiling.Why) (finished taken : ℕ) → WhyStands w → (why_number w + finished * 65_536 + taken * 4_294_967_296) % 256 ≤ 16
unfolding why_number
low_byte ceiling.Ended finished taken f = omega arith
low_byte (ceiling.Refused n) finished taken f = omega (arith, stands-low n f)
low_byte ceiling.Ceiling finished taken f = omega arith
low_byte ceiling.More finished taken f = omega arith

state-ended : (st : State (Session Table)) → (why_at_ceiling st ≡ ceiling.Ended) ⊎ (ceiling.Ended ≡ ceiling.More) → ended_in st ≡ true
state-ended (live s held) (inl e) = cc
state-ended (ended s held) (inl e) = refl
state-ended (refused s held over n) (inl e) = cc
state-ended st (inr e) = cc

state-refused : (st : State (Session Table)) (n : ℕ) → StandsSome st → (why_at_ceiling st ≡ ceiling.Refused n) ⊎ (ceiling.Refused n ≡ ceiling.More)
    → eqb (refusal_in st) 0 ≡ false
state-refused (live s held) n z (inl e) = cc
state-refused (ended s held) n z (inl e) = cc
state-refused (refused s held over k) n z (inl e) = z
state-refused st n z (inr e) = cc

-- ---- ONE RUN

-- what a run did, as the host sees it
pub record Ran (a : ℕ) (handle' : List ℕ) (memory' : Memories) (x : ceiling.Ran (Session Table)) : Type 0 where
  pub ours : HostOurs handle' memory'
  pub state : state_of (reader_in handle') memory' ≡ x.state
  pub taken : run_taken_in a ≡ x.taken
  pub finished : finished_in a ≡ x.finished
  pub why : why_in a ≡ x.why

module _ (handle : List ℕ) (memory : Memories) (piece : List ℕ) (n : ℕ) (o : HostOurs handle memory) (b : Bytes piece) (a : ℕ) (handle' : List ℕ)
    (memory' : Memories) (s : HostRuns handle memory piece n a handle' memory') where
  abbrev st : State (Session Table)
  st = state_of (reader_in handle) memory

  abbrev x : SeenRun
  x = run_all (reader_in handle) memory piece n

  own : Own handle
  own = host-own handle memory o

  ran : left a handle' memory' ≡ ran_to x (places_in handle)
  unfolding run_host
  ran = rw o.handle-is at s

  -- THE HANDLE GOES ON AS THE READER, and the answer says what the run did
  pub run-went : Ran a handle' memory' (run_all (reader_in handle) memory piece n).run
  run-went =
      let u = all_runs (reader_in handle) memory piece n o.ours b in
      let k = run-kept u.up_to st piece b (ours_kept (reader_in handle) memory o.ours) in
      let e = state-ran handle memory piece handle' memory' n a own b s in
      let used = used-ran handle memory piece handle' memory' n a own b s in
      let y = answer-ran handle memory piece handle' memory' n a own b s in
      record {
        ours = record {
          handle-is = handle-ran handle memory piece handle' memory' n a own b s;
          ours = kept-ours (reader_in handle') memory' (subst Kept (sym (e ∙ u.state)) k) (omega (arith, used, u.used));
        };
        state = e;
        taken = y.0;
        finished = y.1.0;
        why = y.1.1;
      }

  -- THEOREM: the number of packets finished, by the answer, is that of the accepted packets, the events, in the reading of the bytes taken; and the handle,
  -- the table and the index that are left are that reading's. With any ceiling.
  pub run-counts : (finished_in a ≡ length (events_over handle memory (take (run_taken_in a) piece)))
      × (state_of (reader_in handle') memory' ≡ (reading (soup_bin_tcp deliver) (state_of (reader_in handle) memory) (take (run_taken_in a) piece)).state)
  run-counts =
      let u = all_runs (reader_in handle) memory piece n o.ours b in
      let fine = unfinished-in (reader_in handle) memory o.ours in (
        run-went.finished ∙ runs-finished st piece x u fine ∙ ap (λ (k : ℕ). length (events_over handle memory (take k piece))) (sym run-went.taken),
        run-went.state ∙ runs-state st piece x u fine
            ∙ ap (λ (k : ℕ). (reading (soup_bin_tcp deliver) st (take k piece)).state) (sym run-went.taken),
      )

  -- a run is calls of the definitions
  pub ran-called : (more : List ℕ)
      → Called (soup_bin_tcp deliver) (state_of (reader_in handle) memory) (piece ++ more) (events_over handle memory (take (run_taken_in a) piece))
      (state_of (reader_in handle') memory') (drop (run_taken_in a) piece ++ more)
  ran-called more =
      let es : List (Event Said) = events_over handle memory (take (run_taken_in a) piece) in
      subst (λ (q : State (Session Table)). Called (soup_bin_tcp deliver) st (piece ++ more) es q (drop (run_taken_in a) piece ++ more)) (sym run-went.state)
      (subst (λ (k : ℕ). Called (soup_bin_tcp deliver) st (piece ++ more) (events_over handle memory (take k piece)) x.run.state (drop k piece ++ more))
      (sym run-went.taken)
      (runs-called st piece x (all_runs (reader_in handle) memory piece n o.ours b) (unfinished-in (reader_in handle) memory o.ours) more))

  -- with an allowed ceiling
  module _ (most : n ≤ most_packets) where
    abbrev went : ceiling.Ran (Session Table)
    went = run_of (soup_bin_tcp deliver) n st piece

    pub run_is : run_all (reader_in handle) memory piece n ≡ seen_run (run_of (soup_bin_tcp deliver) n (state_of (reader_in handle) memory) piece)
    unfolding run_all
    run_is =
        let k = ours_kept (reader_in handle) memory o.ours in
        (rw (ours-may (reader_in handle) memory o.ours, le-leb n most_packets most))
        ∙ ap seen_run (run-unheeded n st piece b k)

    -- THEOREM: IT GETS ON. By its answer, a run of a handle that has neither ended nor refused, with a ceiling of 1 to 1,000, takes a byte at least of a
    -- piece that is not empty.
    pub run-gets-on : ((head_of handle).refusal ≡ 0) × ((head_of handle).ended ≡ false) → 1 ≤ n → 1 ≤ length piece → 1 ≤ run_taken_in a
    run-gets-on alive one h =
        let session : Session Table = session_of (head_of handle).line (head_of handle).board memory in
        let held : List ℕ = held_of (reader_in handle) in
        let e : st ≡ live session held = rw (alive.0, alive.1) in
        let t : run_taken_in a ≡ (run_of (soup_bin_tcp deliver) n (live session held) piece).taken
        = run-went.taken ∙ ap (λ (q : SeenRun). q.run.taken) run_is ∙ ap (λ (q : State (Session Table)). (run_of (soup_bin_tcp deliver) n q piece).taken) e in
        rw t (ceilings.run-gets-on (soup_bin_tcp deliver) n session held piece o.ours.short one h)

    -- THEOREM: a run of what is ours, with a ceiling up to 1,000, is refused neither as 20 nor as 27
    pub run-not-refused : (a % 256 ≡ 20 → ⊥) × (a % 256 ≡ 27 → ⊥)
    run-not-refused =
        let number : a ≡ ran_number went = ap (λ (q : Left). q.number) ran ∙ ap (λ (q : SeenRun). ran_number q.run) run_is in
        let low : a % 256 ≤ 16
        = subst (λ (k : ℕ). k % 256 ≤ 16) (sym number)
        (low_byte went.why went.finished went.taken (run-stands n st piece b (ours_kept (reader_in handle) memory o.ours))) in
        (λ e. omega (arith, low, e), λ e. omega (arith, low, e))

    -- THEOREM: after an answer of kind 7 or 8 no call is left to make
    pub run-says-done : (kind_in a ≡ 7) ⊎ (kind_in a ≡ 8) → (rest : List ℕ) → HostDone handle' rest
    unfolding why_for
    run-says-done k rest = by k
      where
        w : Ran a handle' memory' x.run
        w = run-went

        said : (v : ceiling.Why) → why_in a ≡ v → (why_at_ceiling x.run.state ≡ v) ⊎ (v ≡ ceiling.More)
        said v e =
            subst (λ (y : ceiling.Why). (why_at_ceiling x.run.state ≡ y) ⊎ (y ≡ ceiling.More)) (sym w.why ∙ e)
            (subst (λ (q : SeenRun). (why_at_ceiling q.run.state ≡ q.run.why) ⊎ (q.run.why ≡ ceiling.More)) (sym run_is)
            (run-why (soup_bin_tcp deliver) n st piece))

        by : (kind_in a ≡ 7) ⊎ (kind_in a ≡ 8) → HostDone handle' rest
        by (inl e) =
            inr (inl (sym (ended_of (reader_in handle') memory') ∙ ap ended_in w.state ∙ state-ended x.run.state (said ceiling.Ended (rw e))))
        by (inr e) =
            let v : ℕ = refusal_number (named (a % 256)) in
            let z : eqb (refusal_in x.run.state) 0 ≡ false = state-refused x.run.state v (run_fits handle memory piece n own b).some (said (ceiling.Refused v) (rw e)) in
            inr (inr (λ y. never (sym z ∙ ap (λ (m : ℕ). eqb m 0) (sym (ap refusal_in w.state) ∙ refusal-of (reader_in handle') memory' ∙ y))))
