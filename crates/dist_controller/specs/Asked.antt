-- The message that the controller asks for (document 01, "The two machines", "Distribution").
-- Assumes nothing.
use Rattle.std.specs.Prelude.{ℕ, zero, suc, ◌-◌, cond, Option, Some, None, List, [], ◌∷◌, eqb, ltb}
use Rattle.words.specs.Cutting.{messages_of, message_words_of, message_subaddress_of}
use Rattle.words.specs.declared.link.Link.{Link}
use Rattle.dist_controller.specs.declared.state.Phase.{Phase}
use Rattle.dist_controller.specs.declared.state.Phase.TheVariants.{Idle, Sending, Waiting, Reading, Resetting, ResetWaiting, ResetReading, CutSending, CutReading, CutResetting}
use Rattle.dist_controller.specs.declared.state.Controller.{Controller}
use Rattle.words.specs.declared.message.Message.{Message}
use Rattle.words.specs.declared.message.Message.TheVariants.{Receive, Transmit}

-- two words to SA 27R: a descriptor or a Reset; two words of SA 27T: the confirmation
abbrev pub to_descriptor : Message
to_descriptor = Receive 27 2

abbrev pub to_confirmation : Message
to_confirmation = Transmit 27 2

-- message i of a transfer, from 0: data messages in order, then the descriptor; after it 27T is read
unfoldable pub transfer_message : Link → ℕ → ℕ → Message
transfer_message link size i =
    cond (ltb i (messages_of size))
    (Receive (message_subaddress_of link i) (message_words_of size i))
    (cond (eqb i (messages_of size)) to_descriptor to_confirmation)

-- the messages that a transfer asked for: n of them, from message i on
unfoldable pub messages_asked : Link → ℕ → ℕ → ℕ → List Message
messages_asked link size i zero = []
messages_asked link size i (suc n) = transfer_message link size i ∷ messages_asked link size (suc i) n

-- the message list of the transfer that was started last
unfoldable pub message_list : Controller → List Message
message_list c = messages_asked c.link c.transfer.size 0 c.transfer.gone

-- the last of a transfer's messages
unfoldable pub last_of : ℕ → ℕ
last_of gone = cond (eqb gone 0) 0 (gone - 1)

abbrev pub asked_in : Phase → Controller → Option Message
asked_in Idle c = None
asked_in Sending c = Some (transfer_message c.link c.transfer.size (last_of c.transfer.gone))
asked_in Waiting c = None
asked_in Reading c = Some to_confirmation
asked_in Resetting c = Some to_descriptor
asked_in ResetWaiting c = None
asked_in ResetReading c = Some to_confirmation
asked_in CutSending c = Some (transfer_message c.link c.transfer.size (last_of c.transfer.gone))
asked_in CutReading c = Some to_confirmation
asked_in CutResetting c = Some to_descriptor

unfoldable pub asked_of : Controller → Option Message
asked_of c = asked_in c.phase c
