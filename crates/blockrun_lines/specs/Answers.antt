-- A line is answered: the event that it names happens to the link, and its answer is written (document 01, "Pairs at the edges").
-- Assumes nothing.
use Rattle.std.specs.Prelude.{ℕ, min, Option, Some, None, Result, Ok, Err, List, length, take, replicate}
use Rattle.std.proofs.lemmas.List.Edits.{sets}
use Rattle.words.specs.Refusal.{Stepped, refusal_number}
use Rattle.words.specs.declared.refusal.Refusal.{Refusal}
use Rattle.words.specs.declared.control.Quality.{Quality}
use Rattle.blockrun_text.specs.Hex.{block_of, block_size_of}
use Rattle.blockrun_text.specs.declared.parse.Way.{Way}
use Rattle.blockrun_text.specs.declared.parse.Way.TheVariants.{Done, ReplyLost, NotArrived}
use Rattle.dist_controller.specs.Report.{report_of}
use Rattle.dist_controller.specs.Message as Asked
use Rattle.dist_controller.specs.declared.state.Finding.{Finding}
use Rattle.dist_controller.specs.declared.report.Report.{Report}
use Rattle.words.specs.declared.message.Message.{Message}
use Rattle.words.specs.declared.message.Message.TheVariants.{Receive, Transmit}
use Rattle.dist_pair.specs.Events as Events
use Rattle.dist_pair.specs.Bus as Bus
use Rattle.dist_pair.specs.declared.state.Pair.{Pair}
use Rattle.blockrun_lines.specs.Lines.{no_text, take_text, sent_text, found_text}

-- take: the bytes, which the room then holds, or the number
abbrev pub taken_text : Result ℕ Refusal → ℕ → List ℕ → List ℕ
taken_text (Err r) number room = no_text number (refusal_number r)
taken_text (Ok size) number room = take_text number (take (min size (length room)) room)

unfoldable pub take_line_text : Pair → ℕ → List ℕ → List ℕ → List ℕ
take_line_text p number hand room =
    taken_text (Events.take_of p (length hand) (length room)).answer number (Events.buffer_after p hand room)

-- send: the bytes of the hex field, as the room has place for them
unfoldable pub send_block : List ℕ → ℕ → ℕ → List ℕ → List ℕ
send_block line from digits room = take (block_size_of line from digits (length room)) (sets room 0 (block_of line from digits))

unfoldable pub send_line : Pair → Quality → List ℕ → ℕ → ℕ → List ℕ → ℕ → Stepped Pair (Unit {0})
send_line p quality line from digits room store = Events.submit_of p quality (send_block line from digits room) store

-- what the last read of 27T found
abbrev pub found_in : Result Report Refusal → Option Finding
found_in (Err r) = None
found_in (Ok report) = report.found

unfoldable pub found_of : Pair → Option Finding
found_of p = found_in (report_of p.controller)

-- bus: d, arrives and is told done; r, arrives and its reply is lost; n, does not arrive
abbrev pub done_of : Pair → List ℕ → ℕ → ℕ → Stepped Pair (Unit {0})
done_of p store places hand = Bus.told_done (Bus.arrive_of p store places hand).state

abbrev pub reply_lost_of : Pair → List ℕ → ℕ → ℕ → Stepped Pair (Unit {0})
reply_lost_of p store places hand = Bus.told_no_reply (Bus.arrive_of p store places hand).state

abbrev pub carried_of : Pair → Way → List ℕ → ℕ → ℕ → Stepped Pair (Unit {0})
carried_of p Done store places hand = done_of p store places hand
carried_of p ReplyLost store places hand = reply_lost_of p store places hand
carried_of p NotArrived store places hand = Bus.told_no_reply p

abbrev pub places_carried : Pair → Way → List ℕ → List ℕ → ℕ → List ℕ
places_carried p Done store places hand = Bus.places_after p store places hand
places_carried p ReplyLost store places hand = Bus.places_after p store places hand
places_carried p NotArrived store places hand = places

abbrev pub hand_carried : Pair → Way → List ℕ → List ℕ → List ℕ → List ℕ
hand_carried p Done store places hand = Bus.hand_after p store places hand
hand_carried p ReplyLost store places hand = Bus.hand_after p store places hand
hand_carried p NotArrived store places hand = hand

-- the direction and the subaddress with the words sent, or the read's finding; 18 where nothing is asked for
abbrev pub message_text : ℕ → Option Message → List ℕ → Option Finding → List ℕ
message_text number None words found = no_text number 18
message_text number (Some (Receive subaddress n)) words found = sent_text number subaddress (take (min n (length words)) words)
message_text number (Some (Transmit subaddress n)) words found = found_text number found

-- a bus line: what the controller asks for before it, with its words; then the message fares as the line says
abbrev pub ask_of : Pair → List ℕ → Result (Option Message) Refusal
ask_of p store = Asked.message_of p.controller (length store) 32

abbrev pub words_sent : Pair → List ℕ → List ℕ
words_sent p store = Asked.buffer_after p.controller store (replicate 32 0)

abbrev pub bus_pair_in : Result (Option Message) Refusal → Pair → Way → List ℕ → ℕ → ℕ → Pair
bus_pair_in (Err r) p way store places hand = p
bus_pair_in (Ok asked) p way store places hand = (carried_of p way store places hand).state

unfoldable pub bus_pair : Pair → Way → List ℕ → ℕ → ℕ → Pair
bus_pair p way store places hand = bus_pair_in (ask_of p store) p way store places hand

abbrev pub bus_text_in : Result (Option Message) Refusal → Pair → Way → ℕ → List ℕ → ℕ → ℕ → List ℕ
bus_text_in (Err r) p way number store places hand = no_text number (refusal_number r)
bus_text_in (Ok asked) p way number store places hand =
    message_text number asked (words_sent p store) (found_of (carried_of p way store places hand).state)

unfoldable pub bus_text : Pair → Way → ℕ → List ℕ → ℕ → ℕ → List ℕ
bus_text p way number store places hand = bus_text_in (ask_of p store) p way number store places hand

abbrev pub bus_places_in : Result (Option Message) Refusal → Pair → Way → List ℕ → List ℕ → ℕ → List ℕ
bus_places_in (Err r) p way store places hand = places
bus_places_in (Ok asked) p way store places hand = places_carried p way store places hand

unfoldable pub bus_places : Pair → Way → List ℕ → List ℕ → ℕ → List ℕ
bus_places p way store places hand = bus_places_in (ask_of p store) p way store places hand

abbrev pub bus_hand_in : Result (Option Message) Refusal → Pair → Way → List ℕ → List ℕ → List ℕ → List ℕ
bus_hand_in (Err r) p way store places hand = hand
bus_hand_in (Ok asked) p way store places hand = hand_carried p way store places hand

unfoldable pub bus_hand : Pair → Way → List ℕ → List ℕ → List ℕ → List ℕ
bus_hand p way store places hand = bus_hand_in (ask_of p store) p way store places hand
