-- What a line does to the link and to each lent list, and what is written (document 01, "Pairs at the edges").
-- Assumes nothing.
use Rattle.std.specs.Prelude.{ℕ, List, Option, None, Some, length}
use Rattle.std.proofs.lemmas.List.Edits.{sets}
use Rattle.blockrun_text.specs.Hex.{block_of}
use Rattle.blockrun_text.specs.declared.parse.Line.{Line}
use Rattle.blockrun_text.specs.declared.parse.Line.TheVariants.{Link, Reset, Frame, Take, Send, Bus}
use Rattle.dist_pair.specs.Events as Events
use Rattle.dist_pair.specs.declared.state.Pair.{Pair}
use Rattle.blockrun_lines.specs.Lines.{answer_text, no_text}
use Rattle.blockrun_lines.specs.Answers.{take_line_text, send_block, send_line, bus_pair, bus_text, bus_places, bus_hand}

-- what is lent: block store, places, hand, and room for a block on its way
pub record Lent : Type 0 where
  pub store : List ℕ
  pub places : List ℕ
  pub hand : List ℕ
  pub room : List ℕ

abbrev pub lent : List ℕ → List ℕ → List ℕ → List ℕ → Lent
lent store places hand room = record { store = store; places = places; hand = hand; room = room }

-- the link
abbrev pub line_pair : Option Line → Pair → List ℕ → Lent → Pair
line_pair None p line m = p
line_pair (Some (Link s)) p line m =
    (Events.configure_of p s (length m.store) (length m.places) (length m.hand)).state
line_pair (Some Reset) p line m = (Events.reset_of p).state
line_pair (Some Frame) p line m = (Events.frame_of p).state
line_pair (Some Take) p line m = (Events.take_of p (length m.hand) (length m.room)).state
line_pair (Some (Send quality from digits)) p line m = (send_line p quality line from digits m.room (length m.store)).state
line_pair (Some (Bus way)) p line m = bus_pair p way m.store (length m.places) (length m.hand)

-- the answer: a line of another form prints no and 0
abbrev pub line_text : Option Line → Pair → ℕ → List ℕ → Lent → List ℕ
line_text None p number line m = no_text number 0
line_text (Some (Link s)) p number line m =
    answer_text number
    (Events.configure_of p s (length m.store) (length m.places) (length m.hand)).answer
line_text (Some Reset) p number line m = answer_text number (Events.reset_of p).answer
line_text (Some Frame) p number line m = answer_text number (Events.frame_of p).answer
line_text (Some Take) p number line m = take_line_text p number m.hand m.room
line_text (Some (Send quality from digits)) p number line m =
    answer_text number (send_line p quality line from digits m.room (length m.store)).answer
line_text (Some (Bus way)) p number line m = bus_text p way number m.store (length m.places) (length m.hand)

-- the block store changes at a send alone
abbrev pub line_store : Option Line → Pair → List ℕ → Lent → List ℕ
line_store None p line m = m.store
line_store (Some (Link s)) p line m = m.store
line_store (Some Reset) p line m = m.store
line_store (Some Frame) p line m = m.store
line_store (Some Take) p line m = m.store
line_store (Some (Send quality from digits)) p line m = Events.block_after p (send_block line from digits m.room) m.store
line_store (Some (Bus way)) p line m = m.store

-- the places are zero after a link, and change where a message arrives
abbrev pub line_places : Option Line → Pair → Lent → List ℕ
line_places None p m = m.places
line_places (Some (Link s)) p m =
    Events.places_configured p s (length m.store) m.places (length m.hand)
line_places (Some Reset) p m = m.places
line_places (Some Frame) p m = m.places
line_places (Some Take) p m = m.places
line_places (Some (Send quality from digits)) p m = m.places
line_places (Some (Bus way)) p m = bus_places p way m.store m.places (length m.hand)

abbrev pub line_hand : Option Line → Pair → Lent → List ℕ
line_hand None p m = m.hand
line_hand (Some (Link s)) p m = m.hand
line_hand (Some Reset) p m = m.hand
line_hand (Some Frame) p m = m.hand
line_hand (Some Take) p m = m.hand
line_hand (Some (Send quality from digits)) p m = m.hand
line_hand (Some (Bus way)) p m = bus_hand p way m.store m.places m.hand

abbrev pub line_room : Option Line → Pair → List ℕ → Lent → List ℕ
line_room None p line m = m.room
line_room (Some (Link s)) p line m = m.room
line_room (Some Reset) p line m = m.room
line_room (Some Frame) p line m = m.room
line_room (Some Take) p line m = Events.buffer_after p m.hand m.room
line_room (Some (Send quality from digits)) p line m = sets m.room 0 (block_of line from digits)
line_room (Some (Bus way)) p line m = m.room
