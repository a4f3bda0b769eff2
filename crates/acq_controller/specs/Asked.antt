-- The message that the controller asks for, and its words (document 01, "The two machines", "Acquisition").
-- Assumes nothing.
use Rattle.std.specs.Prelude.{ℕ, zero, suc, ◌-◌, Bool, true, false, cond, not, ◌||◌, Option, Some, None, Result, Ok, Err, List, [], ◌∷◌, ◌++◌, length, ◌==◌, nat_lt, nat_le}
use Rattle.std.proofs.lemmas.List.Edits.{sets}
use Rattle.words.specs.Link.{configured_of}
use Rattle.words.specs.Cutting.{messages_of, message_words_of, message_subaddress_of}
use Rattle.words.specs.Control.{reset_words, list_of}
use Rattle.words.specs.Command.{command_words}
use Rattle.words.specs.declared.refusal.Refusal.{Refusal}
use Rattle.words.specs.declared.refusal.Refusal.TheVariants.{NotReady}
use Rattle.words.specs.declared.control.Words.{Words}
use Rattle.words.specs.declared.link.Link.{Link}
use Rattle.words.specs.declared.message.Message.{Message}
use Rattle.words.specs.declared.message.Message.TheVariants.{Receive, Transmit}
use Rattle.acq_controller.specs.declared.state.Phase.{Phase}
use Rattle.acq_controller.specs.declared.state.Phase.TheVariants.{Idle, Polling, PollingDue, Fetching, Checking, Confirming, ConfirmingReset, Commanding}
use Rattle.acq_controller.specs.declared.state.Controller.{Controller}

abbrev pub to_request : Message
to_request = Transmit 28 2

abbrev pub to_confirmation : Message
to_confirmation = Receive 28 2

abbrev pub to_command : Message
to_command = Receive 1 2

-- a part, with the words that it has
abbrev pub part_message : Link → ℕ → ℕ → Message
part_message link size part = Transmit (message_subaddress_of link part) (message_words_of size part)

abbrev pub asked_in : Phase → Link → Option Message
asked_in Idle link = None
asked_in Polling link = Some to_request
asked_in PollingDue link = Some to_request
asked_in (Fetching attempt) link = Some (part_message link attempt.block.size attempt.part)
asked_in (Checking attempt) link = Some to_request
asked_in (Confirming words) link = Some to_confirmation
asked_in ConfirmingReset link = Some to_confirmation
asked_in Commanding link = Some to_command

unfoldable pub asked_of : Controller → Option Message
asked_of c = asked_in c.phase c.link

-- the words that go with it; a read has none
abbrev pub words_in : Phase → Option Words
words_in Idle = None
words_in Polling = None
words_in PollingDue = None
words_in (Fetching attempt) = None
words_in (Checking attempt) = None
words_in (Confirming words) = Some words
words_in ConfirmingReset = Some reset_words
words_in Commanding = Some command_words

abbrev pub words_asked : Controller → Option Words
words_asked c = words_in c.phase

-- 1: a buffer without room for any message is too short
abbrev pub unready : Controller → ℕ → Bool
unready c out = not (configured_of c.link) || nat_lt out 32

unfoldable pub message_of : Controller → ℕ → Result (Option Message) Refusal
message_of c out = cond (unready c out) (Err NotReady) (Ok (asked_of c))

abbrev pub with_words : Option Words → List ℕ → List ℕ
with_words None out = out
with_words (Some words) out = sets out 0 (list_of words)

unfoldable pub buffer_asked : Controller → List ℕ → List ℕ
buffer_asked c out = cond (unready c (length out)) out (with_words (words_asked c) out)

-- ---- the message list of the transfer that was held or failed last

-- message i, from 0: a read of 28T, the parts, and from then on reads of 28T
unfoldable pub transfer_message : Link → ℕ → ℕ → Message
transfer_message link size i =
    cond (i == 0) to_request (cond (nat_le i (messages_of size)) (part_message link size (i - 1)) to_request)

unfoldable pub messages_asked : Link → ℕ → ℕ → ℕ → List Message
messages_asked link size i zero = []
messages_asked link size i (suc n) = transfer_message link size i ∷ messages_asked link size (suc i) n

-- its first confirmation is the last
abbrev pub closing : Bool → List Message
closing false = []
closing true = to_confirmation ∷ []

unfoldable pub message_list : Controller → List Message
message_list c = messages_asked c.link c.transfer.size 0 c.transfer.gone ++ closing c.transfer.closed
