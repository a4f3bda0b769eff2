-- The Reset command of the acquisition protocol (001 Tables 8-9 and 8-10): the second word to SA 1R, bit 15.
-- Assumes nothing.
use Rattle.std.specs.Prelude.{ℕ, ◌%◌, cond, ◌||◌, List, [], ◌∷◌, Result, Ok, Err, length, ◌==◌, nat_lt, slice_index}
use Rattle.words.specs.declared.control.Words.{Words}
use Rattle.words.specs.declared.command.Command.{Command}
use Rattle.words.specs.declared.command.Command.TheVariants.{Reset, Other}
use Rattle.words.specs.declared.refusal.Refusal.{Refusal}
use Rattle.words.specs.declared.refusal.Refusal.TheVariants.{BadMessage}
use Rattle.words.specs.Refusal.{numbers_of}

abbrev pub command_words : Words
command_words = record { first = 0x0000; second = 0x0001 }

-- 19: no words, or over 32. The command is in the second word's lowest bit; all else is not this protocol's.
unfoldable pub read_command_of : List ℕ → Result Command Refusal
read_command_of words =
    cond (length words == 0 || nat_lt 32 (length words)) (Err BadMessage)
    (cond (nat_lt (length words) 2) (Ok Other)
    (cond (slice_index words 1 % 2 == 1) (Ok Reset) (Ok Other)))

-- whether it is the command
abbrev pub command_values : Command → List ℕ
command_values Reset = 1 ∷ []
command_values Other = 0 ∷ []

-- the paper's number, 0 for accepted, and whether it is the command
abbrev pub command_numbers : Result Command Refusal → List ℕ
command_numbers answer = numbers_of command_values answer
