-- Both ends, and how far the message asked for has come.
-- Assumes nothing.
use Rattle.words.specs.Link.{no_link}
use Rattle.acq_controller.specs.State as Controller
use Rattle.acq_controller.specs.declared.state.Controller.{Controller}
use Rattle.acq_terminal.specs.State as Terminal
use Rattle.acq_terminal.specs.declared.state.Terminal.{Terminal}
use Rattle.acq_pair.specs.declared.state.Flight.{Flight}
use Rattle.acq_pair.specs.declared.state.Flight.TheVariants.{NotArrived}
use Rattle.acq_pair.specs.declared.state.Pair.{Pair}

-- both ends fresh, nothing asked for
abbrev pub both : Controller → Terminal → Pair
both controller terminal = record { controller = controller; terminal = terminal; flight = NotArrived }

abbrev pub unconfigured : Pair
unconfigured = both (Controller.fresh_of no_link 0) (Terminal.fresh_of no_link)

abbrev pub with_controller : Controller → Flight → Pair → Pair
with_controller controller flight p = record { controller = controller; terminal = p.terminal; flight = flight }

abbrev pub with_terminal : Terminal → Flight → Pair → Pair
with_terminal terminal flight p = record { controller = p.controller; terminal = terminal; flight = flight }
