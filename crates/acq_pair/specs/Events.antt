-- What either end's host does: configuring, placing, Reset, frame, take, restart of either end (document 01, "Acquisition").
-- Assumes nothing.
use Rattle.std.specs.Prelude.{ℕ, Ok, Err, List}
use Rattle.words.specs.Refusal.{Stepped, Answer, accept, refuse}
use Rattle.words.specs.declared.link.Settings.{Settings}
use Rattle.words.specs.declared.control.Quality.{Quality}
use Rattle.acq_controller.specs.Events as ControllerEvents
use Rattle.acq_controller.specs.Report as Report
use Rattle.acq_controller.specs.declared.state.Controller.{Controller}
use Rattle.acq_terminal.specs.Place as Place
use Rattle.acq_terminal.specs.Calls as Calls
use Rattle.acq_terminal.specs.declared.state.Terminal.{Terminal}
use Rattle.acq_pair.specs.State.{both, with_controller, with_terminal}
use Rattle.acq_pair.specs.declared.state.Flight.{Flight}
use Rattle.acq_pair.specs.declared.state.Flight.TheVariants.{NotArrived}
use Rattle.acq_pair.specs.declared.state.Pair.{Pair}

-- an event of the controller's host leaves the message asked for where it is
abbrev pub controller_stepped : {T : Type 0} → Stepped Controller T → Pair → Stepped Pair T
controller_stepped s p = record { state = with_controller s.state p.flight p; answer = s.answer }

-- after a step that leaves its message behind, the next message, if one is asked for, has not arrived
abbrev pub moved_in : Answer → Controller → Pair → Stepped Pair (Unit {0})
moved_in (Err r) controller p = refuse r p
moved_in (Ok u) controller p = accept (with_controller controller NotArrived p)

abbrev pub moved_of : Stepped Controller (Unit {0}) → Pair → Stepped Pair (Unit {0})
moved_of s p = moved_in s.answer s.state p

-- what the terminal answered stands, also where it refused
abbrev pub terminal_stepped : Stepped Terminal (Unit {0}) → Flight → Pair → Stepped Pair (Unit {0})
terminal_stepped s flight p = record { state = with_terminal s.state flight p; answer = s.answer }

-- ---- the terminal's host

unfoldable pub place_of : Pair → Quality → List ℕ → ℕ → Stepped Pair (Unit {0})
place_of p quality block store = terminal_stepped (Place.place_of p.terminal quality block store) p.flight p

abbrev pub block_after : Pair → List ℕ → List ℕ → List ℕ
block_after p block store = Place.store_after p.terminal block store

unfoldable pub reset_of : Pair → Stepped Pair (Unit {0})
reset_of p = terminal_stepped (Calls.reset_of p.terminal) p.flight p

-- a message on its way reaches the terminal as it is after its restart
unfoldable pub terminal_restarted : Pair → Stepped Pair (Unit {0})
terminal_restarted p = terminal_stepped (Calls.restart_of p.terminal) p.flight p

-- ---- the controller's host

unfoldable pub frame_of : Pair → Stepped Pair (Unit {0})
frame_of p = controller_stepped (ControllerEvents.frame_of p.controller) p

-- what it had asked for is off the bus
unfoldable pub controller_restarted : Pair → Stepped Pair (Unit {0})
controller_restarted p = moved_of (ControllerEvents.restart_of p.controller) p

unfoldable pub take_of : Pair → ℕ → ℕ → Stepped Pair ℕ
take_of p hand buffer = controller_stepped (ControllerEvents.take_of p.controller hand buffer) p

abbrev pub buffer_after : Pair → List ℕ → List ℕ → List ℕ
buffer_after p hand buffer = ControllerEvents.buffer_after p.controller hand buffer

-- ---- configuring starts a new run, both ends fresh; refused at either end, it leaves an earlier run as it was

abbrev pub both_in : Answer → Controller → Terminal → Pair → Stepped Pair (Unit {0})
both_in (Err r) controller terminal p = refuse r p
both_in (Ok u) controller terminal p = accept (both controller terminal)

abbrev pub configure_in : Answer → Controller → Stepped Terminal (Unit {0}) → Pair → Stepped Pair (Unit {0})
configure_in (Err r) controller t p = refuse r p
configure_in (Ok u) controller t p = both_in t.answer controller t.state p

unfoldable pub configure_of : Pair → Settings → ℕ → ℕ → ℕ → Stepped Pair (Unit {0})
configure_of p settings block_store store hand =
    configure_in
    (Report.configuring_of p.controller settings store hand).answer
    (Report.configuring_of p.controller settings store hand).state
    (Calls.configuring_of p.terminal settings block_store)
    p
