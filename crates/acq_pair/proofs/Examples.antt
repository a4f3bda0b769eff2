-- Runs that are computed: what both ends and the bus do to a block, from fresh ends on.
-- Assumes nothing.
use Rattle.std.proofs.Common.{◌≡◌, ℕ, List, [], ◌∷◌, ◌++◌, Result, Ok, Err, length, take, replicate, refl}
use Rattle.words.specs.declared.refusal.Refusal.{Refusal}
use Rattle.words.specs.declared.control.Quality.{Quality}
use Rattle.words.specs.declared.control.Quality.TheVariants.{BestEffort, Verified}
use Rattle.words.specs.declared.link.Settings.{Settings}
use Rattle.acq_controller.specs.Report as Received
use Rattle.acq_terminal.specs.Calls as Sent
use Rattle.acq_pair.specs.State.{unconfigured}
use Rattle.acq_pair.specs.Events as Events
use Rattle.acq_pair.specs.Bus as Bus
use Rattle.acq_pair.specs.declared.state.Pair.{Pair}
use Rattle.acq_pair.proofs.Open.{opened}

-- both ends, what is lent to them, and the blocks that were taken, the newest first
record Run : Type 0 where
  pair : Pair
  block : List ℕ
  store : List ℕ
  hand : List ℕ
  given : List (List ℕ)

data Event : Type 0 where
  place : Quality → List ℕ → Event
  reset frame arrive done lost taken restart_controller restart_terminal : Event

abbrev with_pair : Pair → Run → Run
with_pair pair r = record { pair = pair; block = r.block; store = r.store; hand = r.hand; given = r.given }

abbrev given_in : Result ℕ Refusal → List ℕ → List (List ℕ) → List (List ℕ)
given_in (Err refusal) buffer given = given
given_in (Ok size) buffer given = take size buffer ∷ given

abbrev step : Event → Run → Run
step (place quality bytes) r =
    record {
      pair = (Events.place_of r.pair quality bytes (length r.block)).state;
      block = Events.block_after r.pair bytes r.block;
      store = r.store;
      hand = r.hand;
      given = r.given;
    }
step reset r = with_pair (Events.reset_of r.pair).state r
step frame r = with_pair (Events.frame_of r.pair).state r
step arrive r = with_pair (Bus.arrive_of r.pair r.block).state r
step done r =
    record {
      pair = (Bus.told_done r.pair (length r.store) (length r.hand)).state;
      block = r.block;
      store = Bus.store_done r.pair r.store (length r.hand);
      hand = Bus.hand_done r.pair r.store r.hand;
      given = r.given;
    }
step lost r =
    record {
      pair = (Bus.told_no_reply r.pair (length r.store) (length r.hand)).state;
      block = r.block;
      store = Bus.store_no_reply r.pair r.store (length r.hand);
      hand = Bus.hand_no_reply r.pair r.store r.hand;
      given = r.given;
    }
step taken r =
    record {
      pair = (Events.take_of r.pair (length r.hand) 1024).state;
      block = r.block;
      store = r.store;
      hand = r.hand;
      given = given_in (Events.take_of r.pair (length r.hand) 1024).answer (Events.buffer_after r.pair r.hand (replicate 1024 0)) r.given;
    }
step restart_controller r = with_pair (Events.controller_restarted r.pair).state r
step restart_terminal r = with_pair (Events.terminal_restarted r.pair).state r

abbrev run : List Event → Run → Run
run [] r = r
run (e ∷ es) r = run es (step e r)

-- address 5, blocks to 1024 bytes, window 2
abbrev settings : ℕ → Settings
settings mode = record { address = 5; mode = mode; subaddress = 11; largest = 1024; window = 2 }

abbrev fresh : ℕ → ℕ → Run
fresh mode places =
    record {
      pair = (Events.configure_of unconfigured (settings mode) 1024 places 1024).state;
      block = replicate 1024 0;
      store = replicate places 0;
      hand = replicate 1024 0;
      given = [];
    }

-- what both applications hear: the terminal's fate and Reset; the controller's fate, messages and Reset; the blocks taken
record Heard : Type 0 where
  sent : List ℕ
  received : List ℕ
  blocks : List (List ℕ)

abbrev heard : Run → Heard
heard r =
    record {
      sent = Sent.report_numbers (Sent.report_of r.pair.terminal);
      received = Received.report_numbers (Received.report_of r.pair.controller);
      blocks = r.given;
    }

abbrev bus : List Event
bus = arrive ∷ done ∷ []

-- a fresh controller reads zeros and commands a Reset, reads the Reset request, and confirms it
abbrev sync : List Event
sync = (frame ∷ bus) ++ bus ++ (frame ∷ bus) ++ bus

-- 65 bytes: two messages
abbrev block : List ℕ
block = replicate 64 7 ++ (9 ∷ [])

-- from fresh ends in a mode: a Reset is accepted, then these
abbrev after_0 : List Event → Heard
after_0 events = heard (run (sync ++ events) (fresh 0 1024))

abbrev after_1 : List Event → Heard
after_1 events = heard (run (sync ++ events) (fresh 1 4096))

-- the request is read, both parts, and with Verified Length the second read: the block is held
abbrev reads : List Event
reads = (frame ∷ bus) ++ bus ++ bus ++ bus

abbrev holds : List Event
holds = place Verified block ∷ reads

-- Verified Length, all goes well: k + 3 messages, and both ends say that it is confirmed
abbrev carried : Heard
carried = record { sent = 0 ∷ 2 ∷ 2 ∷ []; received = 0 ∷ 2 ∷ 5 ∷ 1 ∷ []; blocks = block ∷ [] }

verified_0 : after_0 (holds ++ (taken ∷ bus)) ≡ carried
unfolding opened
verified_0 = refl

verified_1 : after_1 (holds ++ (taken ∷ bus)) ≡ carried
unfolding opened
verified_1 = refl

-- Best Effort with its second part lost: zeros there, and k + 2 messages
zeros : after_0 ((place BestEffort block ∷ frame ∷ bus) ++ bus ++ (arrive ∷ lost ∷ taken ∷ bus))
    ≡ record { sent = 0 ∷ 2 ∷ 2 ∷ []; received = 0 ∷ 2 ∷ 4 ∷ 1 ∷ []; blocks = (replicate 64 7 ++ (0 ∷ [])) ∷ [] }
unfolding opened
zeros = refl

-- a part lost under Verified Length, mode 0: the next frame's attempt carries the block
afresh : after_0 ((place Verified block ∷ frame ∷ bus) ++ bus ++ (lost ∷ []) ++ reads ++ (taken ∷ bus)) ≡ carried
unfolding opened
afresh = refl

-- mode 1 fails the block: the first read, a part, the confirmation with the error mark
failed : after_1 ((place Verified block ∷ frame ∷ bus) ++ (lost ∷ bus))
    ≡ record { sent = 0 ∷ 3 ∷ 2 ∷ []; received = 0 ∷ 3 ∷ 3 ∷ 1 ∷ []; blocks = [] }
unfolding opened
failed = refl

-- a lost confirmation is repeated by the next frame's read, and nothing is delivered again
repeated : after_0 (holds ++ (taken ∷ lost ∷ frame ∷ bus) ++ bus) ≡ carried
unfolding opened
repeated = refl

-- taken while a read is asked for: the read is one message more, and the confirmation follows it
due : after_0 (holds ++ (frame ∷ taken ∷ bus) ++ bus)
    ≡ record { sent = 0 ∷ 2 ∷ 2 ∷ []; received = 0 ∷ 2 ∷ 6 ∷ 1 ∷ []; blocks = block ∷ [] }
unfolding opened
due = refl

-- a Reset drops the block in the hand; taking finds nothing
dropped : after_1 (holds ++ (reset ∷ frame ∷ bus) ++ bus ++ (taken ∷ []))
    ≡ record { sent = 0 ∷ 4 ∷ 2 ∷ []; received = 0 ∷ 4 ∷ 5 ∷ 1 ∷ []; blocks = [] }
unfolding opened
dropped = refl

-- a restarted controller takes nothing: it reads a request (12) and commands a Reset, by which the block ends
commanded : after_0 (restart_controller ∷ place Verified block ∷ (frame ∷ bus) ++ bus)
    ≡ record { sent = 0 ∷ 4 ∷ 1 ∷ []; received = 0 ∷ 0 ∷ 0 ∷ 0 ∷ []; blocks = [] }
unfolding opened
commanded = refl
