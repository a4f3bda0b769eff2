-- The bus: the message asked for arrives, at most once, and its outcome is told (document 01, "The two machines").
-- Assumes nothing.
use Rattle.std.specs.Prelude.{ℕ, Bool, true, false, cond, not, ◌||◌, Option, Some, None, List, [], length}
use Rattle.words.specs.Link.{configured_of}
use Rattle.words.specs.Control.{list_of}
use Rattle.words.specs.Refusal.{Stepped, accept, refuse}
use Rattle.words.specs.declared.refusal.Refusal.TheVariants.{NotReady, NothingAsked}
use Rattle.words.specs.declared.status.Outcome.{Outcome}
use Rattle.words.specs.declared.status.Outcome.TheVariants.{Done, NoReply}
use Rattle.dist_controller.specs.Submit.{short_of}
use Rattle.dist_controller.specs.Asked.{asked_of}
use Rattle.dist_controller.specs.Message.{words_asked}
use Rattle.dist_controller.specs.Told.{told_of}
use Rattle.words.specs.declared.message.Message.{Message}
use Rattle.words.specs.declared.message.Message.TheVariants.{Receive, Transmit}
use Rattle.dist_terminal.specs.Descriptor.{short}
use Rattle.dist_terminal.specs.Calls as Terminal
use Rattle.dist_pair.specs.State.{with_terminal}
use Rattle.dist_pair.specs.Events.{moved_of, terminal_stepped}
use Rattle.dist_pair.specs.declared.state.Flight.{Flight}
use Rattle.dist_pair.specs.declared.state.Flight.TheVariants.{NotArrived, Arrived, Caught}
use Rattle.dist_pair.specs.declared.state.Pair.{Pair}

-- 1: not configured, or a store lent too short
unfoldable pub lent_short : Pair → ℕ → ℕ → ℕ → Bool
lent_short p store places hand = short_of p.controller.link store || short p.terminal.link places hand

-- ---- a message arrives: the terminal acts at once; of a read the words of 27T are caught there

unfoldable pub receive_of : Pair → ℕ → List ℕ → ℕ → ℕ → Stepped Pair (Unit {0})
receive_of p subaddress store places hand =
    terminal_stepped (Terminal.receive_of p.terminal subaddress (words_asked p.controller store) places hand) Arrived p

unfoldable pub places_received : Pair → ℕ → List ℕ → List ℕ → ℕ → List ℕ
places_received p subaddress store places hand =
    Terminal.store_received p.terminal subaddress (words_asked p.controller store) places hand

unfoldable pub hand_received : Pair → ℕ → List ℕ → List ℕ → List ℕ → List ℕ
hand_received p subaddress store places hand =
    Terminal.hand_received p.terminal subaddress (words_asked p.controller store) places hand

abbrev pub caught_of : Pair → Stepped Pair (Unit {0})
caught_of p = accept (with_terminal p.terminal (Caught p.terminal.shown) p)

abbrev pub has_arrived : Flight → Bool
has_arrived NotArrived = false
has_arrived Arrived = true
has_arrived (Caught words) = true

abbrev pub arrive_in : Option Message → Pair → List ℕ → ℕ → ℕ → Stepped Pair (Unit {0})
arrive_in None p store places hand = refuse NothingAsked p
arrive_in (Some (Receive subaddress words)) p store places hand = receive_of p subaddress store places hand
arrive_in (Some (Transmit subaddress words)) p store places hand = caught_of p

-- 18: no message is asked for, or it arrived already
unfoldable pub arrive_of : Pair → List ℕ → ℕ → ℕ → Stepped Pair (Unit {0})
arrive_of p store places hand =
    cond (lent_short p (length store) places hand) (refuse NotReady p)
    (cond (has_arrived p.flight) (refuse NothingAsked p)
    (arrive_in (asked_of p.controller) p store places hand))

abbrev pub places_in : Option Message → Pair → List ℕ → List ℕ → ℕ → List ℕ
places_in None p store places hand = places
places_in (Some (Receive subaddress words)) p store places hand = places_received p subaddress store places hand
places_in (Some (Transmit subaddress words)) p store places hand = places

unfoldable pub places_after : Pair → List ℕ → List ℕ → ℕ → List ℕ
places_after p store places hand =
    cond (lent_short p (length store) (length places) hand) places
    (cond (has_arrived p.flight) places
    (places_in (asked_of p.controller) p store places hand))

abbrev pub hand_in : Option Message → Pair → List ℕ → List ℕ → List ℕ → List ℕ
hand_in None p store places hand = hand
hand_in (Some (Receive subaddress words)) p store places hand = hand_received p subaddress store places hand
hand_in (Some (Transmit subaddress words)) p store places hand = hand

unfoldable pub hand_after : Pair → List ℕ → List ℕ → List ℕ → List ℕ
hand_after p store places hand =
    cond (lent_short p (length store) (length places) (length hand)) hand
    (cond (has_arrived p.flight) hand
    (hand_in (asked_of p.controller) p store places hand))

-- ---- an outcome is told; then the next message, if one is asked for, has not arrived

unfoldable pub tell_of : Pair → Outcome → List ℕ → Stepped Pair (Unit {0})
tell_of p outcome words = moved_of (told_of p.controller outcome words) p

-- done only of one that arrived, with what was caught
abbrev pub done_in : Flight → Pair → Stepped Pair (Unit {0})
done_in NotArrived p = refuse NothingAsked p
done_in Arrived p = tell_of p Done []
done_in (Caught words) p = tell_of p Done (list_of words)

unfoldable pub told_done : Pair → Stepped Pair (Unit {0})
told_done p = cond (not (configured_of p.controller.link)) (refuse NotReady p) (done_in p.flight p)

-- no reply: arrived or not
unfoldable pub told_no_reply : Pair → Stepped Pair (Unit {0})
told_no_reply p = tell_of p NoReply []
