-- The message parts of a terminal in either mode, by its own definitions.
-- Assumes nothing.
use Prim.Native.Nat.{ℕ}
use mathlib.Core.Bool.{false, cond}
use mathlib.Core.List.{List}
use lib.Dec.{eqb}
use lib.ListN.{length}
use Rattle.std.proofs.Common.{None}
use Rattle.words.specs.Bytes.{words_of}
use Rattle.words.specs.Count.{distribution_count}
use Rattle.words.specs.Cutting.{message_subaddress_of}
use Rattle.words.specs.declared.link.Link.{Link}
use Rattle.stores.specs.Marks.{marked_of}
use Rattle.dist_terminal.specs.State.{no_marks, nothing_yet, unmarked}
use Rattle.dist_terminal.specs.Data.{noted_of, placed_of}
use Rattle.dist_terminal.specs.Length.{length_met}
use Rattle.dist_terminal.specs.Descriptor.{taken_of}
use Rattle.dist_terminal.specs.Calls.{emptied}
use Rattle.dist_terminal.specs.declared.state.Marks.{Marks}
use Rattle.dist_terminal.specs.declared.state.Terminal.{Terminal}
use Rattle.dist_promises.proofs.Parts.{Parts}

pub record Received : Type 0 where
  pub marks : Marks
  pub received : ℕ
  pub places : List ℕ

-- a terminal with these parts; its other fields do not matter here
abbrev pub with_parts : Link → Received → Terminal
with_parts link s =
    record {
      link = link;
      seen = false;
      handled = distribution_count 0;
      hand = None;
      shown = nothing_yet;
      marks = s.marks;
      received = s.received;
    }

abbrev pub noted : Link → ℕ → ℕ → Received → Terminal
noted link j n s = noted_of (with_parts link s) (message_subaddress_of link j) n

-- on a link, with the message store that was lent when it was configured
abbrev pub parts : Link → List ℕ → Parts
parts link lent =
    record {
      Store = Received;
      fresh = record { marks = no_marks; received = 0; places = emptied link lent };
      clear = λ s. record { marks = unmarked s.marks; received = 0; places = s.places };
      put = λ j b s. record {
        marks = (noted link j (length (words_of b)) s).marks;
        received = (noted link j (length (words_of b)) s).received;
        places = placed_of (with_parts link s) (message_subaddress_of link j) (words_of b) s.places;
      };
      met = λ n s. length_met (with_parts link s) n;
      block = λ n s. taken_of (with_parts link s) n s.places;
      number = λ s. cond (eqb link.mode 0) (marked_of s.marks.places) s.received;
    }
