-- Cases a to k of document 01, "Pairs at the edges": what the definitions give, and what the paper says.
-- Assumes nothing.
use Rattle.std.specs.Prelude.{ℕ, zero, suc, List, [], ◌∷◌}
use Rattle.words.specs.Refusal.{number_of}
use Rattle.words.specs.Count.{next_distribution, next_acquisition, distribution_count, acquisition_count}
use Rattle.words.specs.Control.{reset_words, descriptor_words, list_of}
use Rattle.words.specs.Reading.{read_descriptor_of, descriptor_numbers}
use Rattle.words.specs.Cutting.{size_answer_of, messages_of, message_words_of}
use Rattle.words.specs.declared.link.Link.{Link}
use Rattle.words.specs.declared.control.Quality.TheVariants.{BestEffort, Verified}

abbrev pub sixteen : Link
sixteen = record { address = 5; mode = 0; subaddress = 11; largest = 1024; window = 2 }

abbrev pub one : Link
one = record { address = 5; mode = 1; subaddress = 20; largest = 4096; window = 2 }

pub record Row : Type 0 where
  pub given : List ℕ
  pub paper : List ℕ

-- the words of each of n messages, from message k on
abbrev pub words_from : ℕ → ℕ → ℕ → List ℕ
words_from size k zero = []
words_from size k (suc n) = message_words_of size k ∷ words_from size (suc k) n

abbrev pub each_words : ℕ → List ℕ
each_words size = words_from size 0 (messages_of size)

-- a descriptor is made as the paper has it, and read back: number 0, then size, QoS and count
abbrev pub edges : List Row
edges =
    record { given = list_of reset_words; paper = 0x0000 ∷ 0x4B00 ∷ [] }  -- a
    ∷ record { given = descriptor_numbers (read_descriptor_of distribution_count (0x0000 ∷ 0x4B00 ∷ []) sixteen); paper = 0 ∷ 0 ∷ 0 ∷ 0 ∷ [] }
    ∷ record { given = list_of (descriptor_words sixteen 65 BestEffort (distribution_count 1)); paper = 0x0041 ∷ 0x0B01 ∷ [] }  -- b
    ∷ record { given = descriptor_numbers (read_descriptor_of distribution_count (0x0041 ∷ 0x0B01 ∷ []) sixteen); paper = 0 ∷ 65 ∷ 0 ∷ 1 ∷ [] }
    ∷ record { given = list_of (descriptor_words sixteen 1024 Verified (distribution_count 254)); paper = 0x0400 ∷ 0x8BFE ∷ [] }  -- c
    ∷ record { given = descriptor_numbers (read_descriptor_of distribution_count (0x0400 ∷ 0x8BFE ∷ []) sixteen); paper = 0 ∷ 1024 ∷ 1 ∷ 254 ∷ [] }
    ∷ record { given = list_of (descriptor_words one 4096 Verified (distribution_count 7)); paper = 0x0000 ∷ 0xB407 ∷ [] }  -- d
    ∷ record { given = descriptor_numbers (read_descriptor_of distribution_count (0x0000 ∷ 0xB407 ∷ []) one); paper = 0 ∷ 4096 ∷ 1 ∷ 7 ∷ [] }
    ∷ record { given = each_words 64; paper = 32 ∷ [] }  -- e
    ∷ record { given = each_words 65; paper = 32 ∷ 1 ∷ [] }  -- f
    ∷ record { given = each_words 1; paper = 1 ∷ [] }  -- g
    ∷ record { given = number_of (size_answer_of sixteen 1024) ∷ messages_of 1024 ∷ []; paper = 0 ∷ 16 ∷ [] }  -- h
    ∷ record { given = number_of (size_answer_of sixteen 1025) ∷ []; paper = 3 ∷ [] }
    ∷ record { given = number_of (size_answer_of one 4096) ∷ messages_of 4096 ∷ []; paper = 0 ∷ 64 ∷ [] }  -- i
    ∷ record { given = (next_distribution (distribution_count 254)).0 ∷ (next_acquisition (acquisition_count 254)).0 ∷ []; paper = 255 ∷ 255 ∷ [] }  -- j
    ∷ record { given = (next_distribution (distribution_count 255)).0 ∷ (next_acquisition (acquisition_count 255)).0 ∷ []; paper = 1 ∷ 1 ∷ [] }  -- k
    ∷ []
