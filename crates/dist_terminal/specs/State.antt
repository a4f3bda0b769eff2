-- What the terminal keeps of its link (document 01, "Distribution"), and the changes that its events are made of.
-- Assumes nothing.
use Rattle.std.specs.Prelude.{ℕ, true, false, Option, None, replicate}
use Rattle.words.specs.Count.{distribution_count}
use Rattle.words.specs.Control.{reset_words}
use Rattle.words.specs.declared.control.Words.{Words}
use Rattle.words.specs.declared.count.DistributionCount.{DistributionCount}
use Rattle.words.specs.declared.link.Link.{Link}
use Rattle.words.specs.Refusal.{Stepped}
use Rattle.dist_terminal.specs.declared.state.Held.{Held}
use Rattle.dist_terminal.specs.declared.state.Marks.{Marks}
use Rattle.dist_terminal.specs.declared.state.Terminal.{Terminal}

-- a terminal after an event, and the event's answer
abbrev pub Step : Type 0
Step = Stepped Terminal (Unit {0})

abbrev pub no_marks : Marks
no_marks = record { places = 0; words = replicate 16 0 }

-- both words zero mean "nothing yet" in 27T
abbrev pub nothing_yet : Words
nothing_yet = record { first = 0; second = 0 }

-- a restart keeps the configuration; no Reset, nothing held, 27T zero
abbrev pub fresh_of : Link → Terminal
fresh_of link =
    record {
      link = link;
      seen = false;
      handled = distribution_count 0;
      hand = None;
      shown = nothing_yet;
      marks = no_marks;
      received = 0;
    }

abbrev pub with_marks : Marks → ℕ → Terminal → Terminal
with_marks marks received t =
    record { link = t.link; seen = t.seen; handled = t.handled; hand = t.hand; shown = t.shown; marks = marks; received = received }

-- cleared marks make old word counts meaningless
abbrev pub unmarked : Marks → Marks
unmarked marks = record { places = 0; words = marks.words }

abbrev pub cleared_of : Terminal → Terminal
cleared_of t = with_marks (unmarked t.marks) 0 t

abbrev pub with_hand : DistributionCount → Option Held → Words → Terminal → Terminal
with_hand handled hand shown t =
    record { link = t.link; seen = t.seen; handled = handled; hand = hand; shown = shown; marks = t.marks; received = t.received }

-- a Reset drops the hand and the marks, sets last handled to 0 and writes reset in 27T
abbrev pub reset_of : Terminal → Terminal
reset_of t =
    record {
      link = t.link;
      seen = true;
      handled = distribution_count 0;
      hand = None;
      shown = reset_words;
      marks = unmarked t.marks;
      received = 0;
    }
