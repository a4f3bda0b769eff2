-- What the terminal keeps of one link (document 01, "Acquisition"), and the changes that its events are made of.
-- Assumes nothing.
use Rattle.std.specs.Prelude.{Option, Some, None}
use Rattle.words.specs.Count.{acquisition_count}
use Rattle.words.specs.declared.link.Link.{Link}
use Rattle.acq_terminal.specs.declared.state.Stage.{Stage}
use Rattle.acq_terminal.specs.declared.state.Stage.TheVariants.{Silent, Asking, Ready, Open}
use Rattle.acq_terminal.specs.declared.state.Fate.{Fate}
use Rattle.acq_terminal.specs.declared.state.Terminal.{Terminal}

-- a restart keeps the configuration; no Reset is asked for, nothing is placed
abbrev pub fresh_of : Link → Terminal
fresh_of link = record { link = link; stage = Silent; count = acquisition_count 0; fate = None }

abbrev pub in_stage : Stage → Option Fate → Terminal → Terminal
in_stage stage fate t = record { link = t.link; stage = stage; count = t.count; fate = fate }

-- the fate of the block placed last, when a Reset is asked for
abbrev pub cut_of : Stage → Option Fate → Option Fate
cut_of Silent fate = fate
cut_of Asking fate = fate
cut_of Ready fate = fate
cut_of (Open placed) fate = Some Fate.Reset

-- whoever asks for the Reset, an open block ends by it
abbrev pub asking_of : Terminal → Terminal
asking_of t = in_stage Asking (cut_of t.stage t.fate) t

-- the reset confirmation: the next count is 1
abbrev pub accepted_of : Terminal → Terminal
accepted_of t = record { link = t.link; stage = Ready; count = acquisition_count 0; fate = t.fate }

abbrev pub ended_of : Fate → Terminal → Terminal
ended_of fate t = in_stage Ready (Some fate) t
