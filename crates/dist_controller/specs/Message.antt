-- The words of the message asked for (document 01, "Distribution").
-- Assumes nothing.
use Rattle.std.specs.Prelude.{ℕ, Bool, cond, ◌||◌, Option, Some, None, Result, Ok, Err, List, [], ◌∷◌, ltb, length, take}
use Rattle.std.proofs.lemmas.List.Edits.{sets}
use Rattle.words.specs.Bytes.{words_of}
use Rattle.words.specs.Cutting.{messages_of, part_of}
use Rattle.words.specs.Control.{descriptor_words, reset_words, list_of}
use Rattle.words.specs.Refusal.{numbers_of}
use Rattle.words.specs.declared.refusal.Refusal.{Refusal}
use Rattle.words.specs.declared.refusal.Refusal.TheVariants.{NotReady}
use Rattle.dist_controller.specs.Asked.{last_of, asked_of}
use Rattle.dist_controller.specs.Submit.{short_of}
use Rattle.dist_controller.specs.declared.state.Phase.{Phase}
use Rattle.dist_controller.specs.declared.state.Phase.TheVariants.{Idle, Sending, Waiting, Reading, Resetting, ResetWaiting, ResetReading, CutSending, CutReading, CutResetting}
use Rattle.dist_controller.specs.declared.state.Controller.{Controller}
use Rattle.words.specs.declared.message.Message.{Message}
use Rattle.words.specs.declared.message.Message.TheVariants.{Receive, Transmit}

-- the words of message i of the transfer: its part of the block in the store, then the descriptor; a read sends none
unfoldable pub transfer_words_at : Controller → List ℕ → ℕ → List ℕ
transfer_words_at c store i =
    cond (ltb i (messages_of c.transfer.size))
    (words_of (part_of (take c.transfer.size store) i))
    (cond (ltb (messages_of c.transfer.size) i)
    []
    (list_of (descriptor_words c.link c.transfer.size c.transfer.quality c.standing.count)))

abbrev pub transfer_words : Controller → List ℕ → List ℕ
transfer_words c store = transfer_words_at c store (last_of c.transfer.gone)

abbrev pub words_in : Phase → Controller → List ℕ → List ℕ
words_in Idle c store = []
words_in Sending c store = transfer_words c store
words_in Waiting c store = []
words_in Reading c store = []
words_in Resetting c store = list_of reset_words
words_in ResetWaiting c store = []
words_in ResetReading c store = []
words_in CutSending c store = transfer_words c store
words_in CutReading c store = []
words_in CutResetting c store = list_of reset_words

unfoldable pub words_asked : Controller → List ℕ → List ℕ
words_asked c store = words_in c.phase c store

-- how many words, and the buffer with them at its start, where it has room for any message
unfoldable pub words_count : Controller → List ℕ → ℕ → ℕ
words_count c store out = cond (ltb out 32) 0 (length (words_asked c store))

unfoldable pub words_after : Controller → List ℕ → List ℕ → List ℕ
words_after c store out = cond (ltb (length out) 32) out (sets out 0 (words_asked c store))

-- 1: a buffer without room for any message is too short
abbrev pub unreadable : Controller → ℕ → ℕ → Bool
unreadable c store out = short_of c.link store || ltb out 32

unfoldable pub message_of : Controller → ℕ → ℕ → Result (Option Message) Refusal
message_of c store out = cond (unreadable c store out) (Err NotReady) (Ok (asked_of c))

-- the buffer: the message's words at its start; a refusal leaves it as it was
unfoldable pub buffer_after : Controller → List ℕ → List ℕ → List ℕ
buffer_after c store out = cond (unreadable c (length store) (length out)) out (sets out 0 (words_asked c store))

-- 1 where the terminal receives and 2 where it transmits, subaddress and words
abbrev pub message_values : Option Message → List ℕ
message_values None = []
message_values (Some (Receive subaddress words)) = 1 ∷ subaddress ∷ words ∷ []
message_values (Some (Transmit subaddress words)) = 2 ∷ subaddress ∷ words ∷ []

-- the paper's number, 0 for accepted; then the values
abbrev pub ask_numbers : Result (Option Message) Refusal → List ℕ
ask_numbers answer = numbers_of message_values answer
