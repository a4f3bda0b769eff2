-- Distribution with some calls of its ends put in: with the real calls it is distribution itself (proofs/Right.antt).
-- Assumes nothing.
use Rattle.std.specs.Prelude.{ℕ, cond, not, Option, Some, None, Result, Ok, Err, List, [], length, replicate}
use Rattle.words.specs.Link.{configured_of}
use Rattle.words.specs.Control.{quality_of, list_of}
use Rattle.words.specs.Refusal.{Stepped, Answer, accept, refuse}
use Rattle.words.specs.declared.refusal.Refusal.{Refusal}
use Rattle.words.specs.declared.refusal.Refusal.TheVariants.{NotReady, NothingAsked}
use Rattle.words.specs.declared.control.Quality.{Quality}
use Rattle.words.specs.declared.status.Outcome.{Outcome}
use Rattle.words.specs.declared.status.Outcome.TheVariants.{Done, NoReply}
use Rattle.dist_controller.specs.Submit.{submit_answer_of, started_of, store_in}
use Rattle.dist_controller.specs.Asked.{asked_of}
use Rattle.dist_controller.specs.Message.{words_asked}
use Rattle.dist_controller.specs.Told as Told
use Rattle.dist_controller.specs.Report.{report_of}
use Rattle.dist_controller.specs.declared.state.Controller.{Controller}
use Rattle.words.specs.declared.message.Message.{Message}
use Rattle.words.specs.declared.message.Message.TheVariants.{Receive, Transmit}
use Rattle.dist_controller.specs.declared.report.Report.{Report}
use Rattle.dist_terminal.specs.Calls as Calls
use Rattle.dist_terminal.specs.declared.state.Terminal.{Terminal}
use Rattle.dist_pair.specs.Events.{controller_stepped, moved_of, terminal_stepped}
use Rattle.dist_pair.specs.Bus.{lent_short, has_arrived, caught_of, places_in}
use Rattle.dist_pair.specs.declared.state.Flight.{Flight}
use Rattle.dist_pair.specs.declared.state.Flight.TheVariants.{NotArrived, Arrived, Caught}
use Rattle.dist_pair.specs.declared.state.Pair.{Pair}
use Rattle.promises.specs.Run as Run
use Rattle.promises.specs.Run.{Event, submit, reset, frame, arrive, told_done, told_no_reply, restart_sender, restart_receiver, deliver, Machine}
use Rattle.dist_promises.specs.Distribution.{Ends, stepped_of, store_of, places_of, hand_of, says_of, answer_of, asking_of, messages_of, parts_of, distribution}

-- the calls that a wrong machine may have otherwise
pub record Ways : Type 0 where
  -- the controller: a submission's answer; the transfer started; the message asked for; an outcome told; the report
  pub admits : Controller → ℕ → ℕ → Answer
  pub starts : Quality → ℕ → Controller → Controller
  pub asks : Controller → Option Message
  pub told : Controller → Outcome → List ℕ → Stepped Controller (Unit {0})
  pub reports : Controller → Result Report Refusal
  -- the terminal: a message that arrives, and its lent hand after it
  pub receives : Terminal → ℕ → List ℕ → ℕ → ℕ → Stepped Terminal (Unit {0})
  pub hands : Terminal → ℕ → List ℕ → List ℕ → List ℕ → List ℕ

abbrev pub real : Ways
real =
    record {
      admits = submit_answer_of;
      starts = started_of;
      asks = asked_of;
      told = Told.told_of;
      reports = report_of;
      receives = Calls.receive_of;
      hands = Calls.hand_received;
    }

module _ (w : Ways) where
  abbrev pub submit_in : Answer → Controller → Quality → ℕ → Stepped Controller (Unit {0})
  submit_in (Ok u) c quality size = accept (w.starts quality size c)
  submit_in (Err r) c quality size = refuse r c

  abbrev pub arrive_in : Option Message → Ends → Stepped Pair (Unit {0})
  arrive_in None x = refuse NothingAsked x.pair
  arrive_in (Some (Receive subaddress words)) x =
      terminal_stepped
      (w.receives x.pair.terminal subaddress (words_asked x.pair.controller x.store) (length x.places) (length x.hand))
      Arrived
      x.pair
  arrive_in (Some (Transmit subaddress words)) x = caught_of x.pair

  abbrev pub hand_in : Option Message → Ends → List ℕ
  hand_in None x = x.hand
  hand_in (Some (Receive subaddress words)) x =
      w.hands x.pair.terminal subaddress (words_asked x.pair.controller x.store) x.places x.hand
  hand_in (Some (Transmit subaddress words)) x = x.hand

  abbrev pub tell : Pair → Outcome → List ℕ → Stepped Pair (Unit {0})
  tell p outcome words = moved_of (w.told p.controller outcome words) p

  abbrev pub done_in : Flight → Pair → Stepped Pair (Unit {0})
  done_in NotArrived p = refuse NothingAsked p
  done_in Arrived p = tell p Done []
  done_in (Caught words) p = tell p Done (list_of words)

  abbrev pub stepped : Event → Ends → Stepped Pair (Unit {0})
  stepped (submit b) x =
      controller_stepped
      (submit_in (w.admits x.pair.controller (length b.block) (length x.store)) x.pair.controller (quality_of b.verified) (length b.block))
      x.pair
  stepped arrive x =
      cond (lent_short x.pair (length x.store) (length x.places) (length x.hand)) (refuse NotReady x.pair)
      (cond (has_arrived x.pair.flight) (refuse NothingAsked x.pair)
      (arrive_in (w.asks x.pair.controller) x))
  stepped told_done x = cond (not (configured_of x.pair.controller.link)) (refuse NotReady x.pair) (done_in x.pair.flight x.pair)
  stepped told_no_reply x = tell x.pair NoReply []
  stepped reset x = stepped_of reset x
  stepped frame x = stepped_of frame x
  stepped restart_sender x = stepped_of restart_sender x
  stepped restart_receiver x = stepped_of restart_receiver x
  stepped (deliver buffer) x = stepped_of (deliver buffer) x

  abbrev pub store : Event → Ends → List ℕ
  store (submit b) x = store_in (w.admits x.pair.controller (length b.block) (length x.store)) b.block x.store
  store arrive x = store_of arrive x
  store told_done x = store_of told_done x
  store told_no_reply x = store_of told_no_reply x
  store reset x = store_of reset x
  store frame x = store_of frame x
  store restart_sender x = store_of restart_sender x
  store restart_receiver x = store_of restart_receiver x
  store (deliver buffer) x = store_of (deliver buffer) x

  abbrev pub places : Event → Ends → List ℕ
  places arrive x =
      cond (lent_short x.pair (length x.store) (length x.places) (length x.hand)) x.places
      (cond (has_arrived x.pair.flight) x.places
      (places_in (w.asks x.pair.controller) x.pair x.store x.places (length x.hand)))
  places (submit b) x = places_of (submit b) x
  places told_done x = places_of told_done x
  places told_no_reply x = places_of told_no_reply x
  places reset x = places_of reset x
  places frame x = places_of frame x
  places restart_sender x = places_of restart_sender x
  places restart_receiver x = places_of restart_receiver x
  places (deliver buffer) x = places_of (deliver buffer) x

  abbrev pub hand : Event → Ends → List ℕ
  hand arrive x =
      cond (lent_short x.pair (length x.store) (length x.places) (length x.hand)) x.hand
      (cond (has_arrived x.pair.flight) x.hand
      (hand_in (w.asks x.pair.controller) x))
  hand (submit b) x = hand_of (submit b) x
  hand told_done x = hand_of told_done x
  hand told_no_reply x = hand_of told_no_reply x
  hand reset x = hand_of reset x
  hand frame x = hand_of frame x
  hand restart_sender x = hand_of restart_sender x
  hand restart_receiver x = hand_of restart_receiver x
  hand (deliver buffer) x = hand_of (deliver buffer) x

  abbrev pub called : Event → Ends → Run.Answer
  called e x = answer_of (stepped e x).answer (w.reports x.pair.controller) (w.reports (stepped e x).state.controller)

  abbrev pub says : Event → Ends → Run.Answer
  says arrive x = says_of arrive x
  says (deliver buffer) x = says_of (deliver buffer) x
  says (submit b) x = called (submit b) x
  says told_done x = called told_done x
  says told_no_reply x = called told_no_reply x
  says reset x = called reset x
  says frame x = called frame x
  says restart_sender x = called restart_sender x
  says restart_receiver x = called restart_receiver x

-- both ends with these calls, from here on
abbrev pub made : Ways → Ends → Machine
made w fresh =
    record {
      State = Ends;
      fresh = fresh;
      step = λ e x. record { pair = (stepped w e x).state; store = store w e x; places = places w e x; hand = hand w e x };
      says = says w;
      asks = λ x. asking_of (w.asks x.pair.controller) (has_arrived x.pair.flight);
      parts = λ x. parts_of x.pair.terminal;
      count = λ x. messages_of (w.reports x.pair.controller);
    }

-- at address 5 and subaddress 11, for blocks up to 1024 bytes, with a window of 2 and the shortest stores: both ends fresh
abbrev pub fresh0 : Ends
fresh0 = (distribution 5 0 11 1024 2 (replicate 1024 0) (replicate 1024 0) (replicate 1024 0)).fresh

abbrev pub fresh1 : Ends
fresh1 = (distribution 5 1 11 1024 2 (replicate 1024 0) (replicate 4096 0) (replicate 1024 0)).fresh

abbrev pub in_mode0 : Ways → Machine
in_mode0 w = made w fresh0

abbrev pub in_mode1 : Ways → Machine
in_mode1 w = made w fresh1
