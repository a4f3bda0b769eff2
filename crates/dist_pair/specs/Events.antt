-- What either end's host does: configuring, submission, Reset, frame, take, restart of either end (document 01, "Distribution").
-- Assumes nothing.
use Rattle.std.specs.Prelude.{ℕ, Ok, Err, List}
use Rattle.words.specs.Refusal.{Stepped, Answer, accept, refuse}
use Rattle.words.specs.declared.link.Settings.{Settings}
use Rattle.words.specs.declared.control.Quality.{Quality}
use Rattle.dist_controller.specs.Submit as Submit
use Rattle.dist_controller.specs.Events as ControllerEvents
use Rattle.dist_controller.specs.Report as Report
use Rattle.dist_controller.specs.declared.state.Controller.{Controller}
use Rattle.dist_terminal.specs.Calls as Calls
use Rattle.dist_terminal.specs.Take as Take
use Rattle.dist_terminal.specs.declared.state.Terminal.{Terminal}
use Rattle.dist_pair.specs.State.{with_controller, with_terminal}
use Rattle.dist_pair.specs.declared.state.Flight.{Flight}
use Rattle.dist_pair.specs.declared.state.Flight.TheVariants.{NotArrived}
use Rattle.dist_pair.specs.declared.state.Pair.{Pair}

-- an event of the controller's host leaves the message asked for where it is
abbrev pub controller_stepped : Stepped Controller (Unit {0}) → Pair → Stepped Pair (Unit {0})
controller_stepped s p = record { state = with_controller s.state p.flight p; answer = s.answer }

-- after a step that leaves its message behind, the next message, if one is asked for, has not arrived
abbrev pub moved_in : Answer → Controller → Pair → Stepped Pair (Unit {0})
moved_in (Err r) controller p = refuse r p
moved_in (Ok u) controller p = accept (with_controller controller NotArrived p)

abbrev pub moved_of : Stepped Controller (Unit {0}) → Pair → Stepped Pair (Unit {0})
moved_of s p = moved_in s.answer s.state p

-- what the terminal answered stands, also where it refused
abbrev pub terminal_stepped : {T : Type 0} → Stepped Terminal T → Flight → Pair → Stepped Pair T
terminal_stepped s flight p = record { state = with_terminal s.state flight p; answer = s.answer }

-- ---- the controller's host

unfoldable pub submit_of : Pair → Quality → List ℕ → ℕ → Stepped Pair (Unit {0})
submit_of p quality block store = controller_stepped (Submit.submit_of p.controller quality block store) p

abbrev pub block_after : Pair → List ℕ → List ℕ → List ℕ
block_after p block store = Submit.store_after p.controller block store

unfoldable pub reset_of : Pair → Stepped Pair (Unit {0})
reset_of p = controller_stepped (ControllerEvents.reset_of p.controller) p

unfoldable pub frame_of : Pair → Stepped Pair (Unit {0})
frame_of p = controller_stepped (ControllerEvents.frame_of p.controller) p

-- the message that a restarted controller had asked for does not arrive
unfoldable pub controller_restarted : Pair → Stepped Pair (Unit {0})
controller_restarted p = moved_of (ControllerEvents.restart_of p.controller) p

-- ---- the terminal's host

-- after a terminal's restart the controller's message stays asked for, and meets the fresh terminal
unfoldable pub terminal_restarted : Pair → ℕ → Stepped Pair (Unit {0})
terminal_restarted p places = terminal_stepped (Calls.restart_of p.terminal places) p.flight p

abbrev pub places_restarted : Pair → List ℕ → List ℕ
places_restarted p places = Calls.store_restarted p.terminal places

unfoldable pub take_of : Pair → ℕ → ℕ → Stepped Pair ℕ
take_of p hand buffer = terminal_stepped (Take.take_of p.terminal hand buffer) p.flight p

abbrev pub buffer_after : Pair → List ℕ → List ℕ → List ℕ
buffer_after p hand buffer = Take.buffer_after p.terminal hand buffer

-- ---- configuring starts a new run, both ends fresh; refused at either end, it leaves an earlier run as it was

abbrev pub both_in : Answer → Controller → Terminal → Pair → Stepped Pair (Unit {0})
both_in (Err r) controller terminal p = refuse r p
both_in (Ok u) controller terminal p = accept (record { controller = controller; terminal = terminal; flight = NotArrived })

abbrev pub configure_in : Answer → Controller → Stepped Terminal (Unit {0}) → Pair → Stepped Pair (Unit {0})
configure_in (Err r) controller t p = refuse r p
configure_in (Ok u) controller t p = both_in t.answer controller t.state p

unfoldable pub configure_of : Pair → Settings → ℕ → ℕ → ℕ → Stepped Pair (Unit {0})
configure_of p settings store places hand =
    configure_in
    (Report.configuring_of p.controller settings store).answer
    (Report.configuring_of p.controller settings store).state
    (Calls.configuring_of p.terminal settings places hand)
    p

abbrev pub places_in : Answer → List ℕ → List ℕ → List ℕ
places_in (Err r) places after = places
places_in (Ok u) places after = after

unfoldable pub places_configured : Pair → Settings → ℕ → List ℕ → ℕ → List ℕ
places_configured p settings store places hand =
    places_in
    (Report.configuring_of p.controller settings store).answer
    places
    (Calls.store_configured settings places hand)
