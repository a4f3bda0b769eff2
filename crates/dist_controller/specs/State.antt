-- What the controller keeps of one link (document 01, "Distribution"), and the changes that its events are made of.
-- Assumes nothing.
use Rattle.std.specs.Prelude.{ℕ, ◌+◌, Bool, true, false, cond, Option, None, eqb}
use Rattle.words.specs.Count.{distribution_count}
use Rattle.words.specs.declared.link.Link.{Link}
use Rattle.words.specs.declared.control.Quality.TheVariants.{BestEffort}
use Rattle.dist_controller.specs.declared.state.Phase.{Phase}
use Rattle.dist_controller.specs.declared.state.Phase.TheVariants.{Idle, Sending, Waiting, Reading, Resetting, ResetWaiting, ResetReading, CutSending, CutReading, CutResetting}
use Rattle.dist_controller.specs.declared.state.Fate.{Fate}
use Rattle.dist_controller.specs.declared.state.Finding.{Finding}
use Rattle.dist_controller.specs.declared.state.Transfer.{Transfer}
use Rattle.dist_controller.specs.declared.state.Clock.{Clock}
use Rattle.dist_controller.specs.declared.state.Standing.{Standing}
use Rattle.dist_controller.specs.declared.state.Controller.{Controller}

-- a transfer is open from its submission until its fate is known
abbrev pub is_open : Phase → Bool
is_open Idle = false
is_open Sending = true
is_open Waiting = true
is_open Reading = true
is_open Resetting = false
is_open ResetWaiting = false
is_open ResetReading = false
is_open CutSending = false
is_open CutReading = false
is_open CutResetting = false

abbrev pub fresh_transfer : Transfer
fresh_transfer = record { size = 0; quality = BestEffort; gone = 0; fate = None }

abbrev pub fresh_standing : Standing
fresh_standing = record { accepted = false; count = distribution_count 0; spent = 0 }

-- a restart keeps configuration and tick; no Reset, nothing open or asked for
abbrev pub fresh_of : Link → ℕ → Controller
fresh_of link tick =
    record {
      link = link;
      clock = record { tick = tick; since = 0 };
      standing = fresh_standing;
      phase = Idle;
      transfer = fresh_transfer;
      found = None;
    }

abbrev pub in_phase : Phase → Controller → Controller
in_phase phase c =
    record { link = c.link; clock = c.clock; standing = c.standing; phase = phase; transfer = c.transfer; found = c.found }

abbrev pub with_transfer : Transfer → Phase → Controller → Controller
with_transfer transfer phase c =
    record { link = c.link; clock = c.clock; standing = c.standing; phase = phase; transfer = transfer; found = c.found }

abbrev pub with_clock : Clock → Phase → Controller → Controller
with_clock clock phase c =
    record { link = c.link; clock = clock; standing = c.standing; phase = phase; transfer = c.transfer; found = c.found }

abbrev pub with_standing : Standing → Phase → Controller → Controller
with_standing standing phase c =
    record { link = c.link; clock = c.clock; standing = standing; phase = phase; transfer = c.transfer; found = c.found }

abbrev pub with_finding : Option Finding → Controller → Controller
with_finding found c =
    record { link = c.link; clock = c.clock; standing = c.standing; phase = c.phase; transfer = c.transfer; found = found }

-- a message count is a 16-bit number, and stops at its last
unfoldable pub counted_of : ℕ → ℕ
counted_of gone = cond (eqb gone 65535) 65535 (gone + 1)

-- one more message of the transfer is asked for
abbrev pub one_more : Phase → Controller → Controller
one_more phase c =
    with_transfer
    (record { size = c.transfer.size; quality = c.transfer.quality; gone = counted_of c.transfer.gone; fate = c.transfer.fate })
    phase
    c

abbrev pub ended_of : Option Fate → Phase → Controller → Controller
ended_of fate phase c =
    with_transfer
    (record { size = c.transfer.size; quality = c.transfer.quality; gone = c.transfer.gone; fate = fate })
    phase
    c
