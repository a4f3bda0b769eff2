-- The bus: the message asked for arrives, at most once, and its outcome is told (document 01, "The two machines").
-- Assumes nothing.
use Rattle.std.specs.Prelude.{ℕ, Bool, true, false, cond, not, ◌||◌, Option, Some, None, Ok, Err, List, [], length, take, replicate, min}
use Rattle.words.specs.Link.{configured_of, short_of, block_store_of}
use Rattle.words.specs.Control.{list_of}
use Rattle.words.specs.Refusal.{Stepped, Answer, refuse}
use Rattle.words.specs.declared.refusal.Refusal.TheVariants.{NotReady, NothingAsked}
use Rattle.words.specs.declared.control.Words.{Words}
use Rattle.words.specs.declared.message.Message.{Message}
use Rattle.words.specs.declared.message.Message.TheVariants.{Receive, Transmit}
use Rattle.words.specs.declared.status.Outcome.{Outcome}
use Rattle.words.specs.declared.status.Outcome.TheVariants.{Done, NoReply}
use Rattle.acq_controller.specs.Asked.{asked_of, words_asked}
use Rattle.acq_controller.specs.Told as Told
use Rattle.acq_terminal.specs.Receive as Receive
use Rattle.acq_terminal.specs.Transmit as Transmit
use Rattle.acq_pair.specs.State.{with_controller}
use Rattle.acq_pair.specs.Events.{terminal_stepped}
use Rattle.acq_pair.specs.declared.state.Reply.{Reply}
use Rattle.acq_pair.specs.declared.state.Flight.{Flight}
use Rattle.acq_pair.specs.declared.state.Flight.TheVariants.{NotArrived, Arrived, Caught}
use Rattle.acq_pair.specs.declared.state.Pair.{Pair}

abbrev pub Step : Type 0
Step = Stepped Pair (Unit {0})

-- 1: not configured at either end, or the block store lent too short
unfoldable pub arriving_short : Pair → ℕ → Bool
arriving_short p store = not (configured_of p.controller.link) || short_of p.terminal.link (block_store_of p.terminal.link) store

abbrev pub has_arrived : Flight → Bool
has_arrived NotArrived = false
has_arrived Arrived = true
has_arrived (Caught reply) = true

-- ---- a message arrives: the terminal acts at once; of a read the words are caught there

abbrev pub sent_words : Option Words → List ℕ
sent_words None = []
sent_words (Some words) = list_of words

unfoldable pub receive_of : Pair → ℕ → Step
receive_of p subaddress =
    terminal_stepped (Receive.receive_of p.terminal subaddress (sent_words (words_asked p.controller))) Arrived p

-- a read that the terminal refuses has no words
abbrev pub caught_in : Answer → List ℕ → ℕ → Flight
caught_in (Err r) words count = Arrived
caught_in (Ok u) words count = Caught (record { words = words; count = count })

unfoldable pub catch_of : Pair → ℕ → ℕ → List ℕ → Step
catch_of p subaddress count store =
    terminal_stepped
    (Transmit.transmit_of p.terminal subaddress count (length store) 32)
    (caught_in
    (Transmit.transmit_of p.terminal subaddress count (length store) 32).answer
    (Transmit.buffer_after p.terminal subaddress count store (replicate 32 0))
    count)
    p

abbrev pub arrive_in : Option Message → Pair → List ℕ → Step
arrive_in None p store = refuse NothingAsked p
arrive_in (Some (Receive subaddress words)) p store = receive_of p subaddress
arrive_in (Some (Transmit subaddress words)) p store = catch_of p subaddress words store

-- 18: no message is asked for, or it arrived already
unfoldable pub arrive_of : Pair → List ℕ → Step
arrive_of p store =
    cond (arriving_short p (length store)) (refuse NotReady p)
    (cond (has_arrived p.flight) (refuse NothingAsked p) (arrive_in (asked_of p.controller) p store))

-- ---- an outcome is told; what the controller answers stands, and the next message, if one is asked for, has not arrived

unfoldable pub tell_of : Pair → Outcome → List ℕ → ℕ → ℕ → Step
tell_of p outcome words store hand =
    record {
      state = with_controller (Told.told_of p.controller outcome words store hand).state NotArrived p;
      answer = (Told.told_of p.controller outcome words store hand).answer;
    }

abbrev pub reply_words : Reply → List ℕ
reply_words reply = take (min reply.count 32) reply.words

-- done only of one that arrived, with what was caught
abbrev pub done_in : Flight → Pair → ℕ → ℕ → Step
done_in NotArrived p store hand = refuse NothingAsked p
done_in Arrived p store hand = tell_of p Done [] store hand
done_in (Caught reply) p store hand = tell_of p Done (reply_words reply) store hand

unfoldable pub told_done : Pair → ℕ → ℕ → Step
told_done p store hand = cond (Told.short_of p.controller.link store hand) (refuse NotReady p) (done_in p.flight p store hand)

abbrev pub store_in : Flight → Pair → List ℕ → ℕ → List ℕ
store_in NotArrived p store hand = store
store_in Arrived p store hand = Told.store_told p.controller Done [] store hand
store_in (Caught reply) p store hand = Told.store_told p.controller Done (reply_words reply) store hand

unfoldable pub store_done : Pair → List ℕ → ℕ → List ℕ
store_done p store hand = cond (Told.short_of p.controller.link (length store) hand) store (store_in p.flight p store hand)

abbrev pub hand_in : Flight → Pair → List ℕ → List ℕ → List ℕ
hand_in NotArrived p store hand = hand
hand_in Arrived p store hand = Told.hand_told p.controller Done [] store hand
hand_in (Caught reply) p store hand = Told.hand_told p.controller Done (reply_words reply) store hand

unfoldable pub hand_done : Pair → List ℕ → List ℕ → List ℕ
hand_done p store hand = cond (Told.short_of p.controller.link (length store) (length hand)) hand (hand_in p.flight p store hand)

-- no reply: arrived or not
abbrev pub unanswered_in : Option Message → Pair → ℕ → ℕ → Step
unanswered_in None p store hand = refuse NothingAsked p
unanswered_in (Some message) p store hand = tell_of p NoReply [] store hand

unfoldable pub told_no_reply : Pair → ℕ → ℕ → Step
told_no_reply p store hand =
    cond (Told.short_of p.controller.link store hand) (refuse NotReady p) (unanswered_in (asked_of p.controller) p store hand)

abbrev pub store_unanswered : Option Message → Pair → List ℕ → ℕ → List ℕ
store_unanswered None p store hand = store
store_unanswered (Some message) p store hand = Told.store_told p.controller NoReply [] store hand

unfoldable pub store_no_reply : Pair → List ℕ → ℕ → List ℕ
store_no_reply p store hand =
    cond (Told.short_of p.controller.link (length store) hand) store (store_unanswered (asked_of p.controller) p store hand)

abbrev pub hand_unanswered : Option Message → Pair → List ℕ → List ℕ → List ℕ
hand_unanswered None p store hand = hand
hand_unanswered (Some message) p store hand = Told.hand_told p.controller NoReply [] store hand

unfoldable pub hand_no_reply : Pair → List ℕ → List ℕ → List ℕ
hand_no_reply p store hand =
    cond (Told.short_of p.controller.link (length store) (length hand)) hand (hand_unanswered (asked_of p.controller) p store hand)
