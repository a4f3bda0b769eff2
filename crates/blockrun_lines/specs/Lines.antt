-- The lines that blockrun writes (document 01, "Pairs at the edges"): tab-parted, the line number, ok or no, and what follows.
-- Assumes nothing.
use Rattle.std.specs.Prelude.{ℕ, Option, Some, None, Result, Ok, Err, List, [], ◌∷◌, ◌++◌}
use Rattle.blockrun_text.specs.Printing.{decimal_of, hex_of, words_of}
use Rattle.words.specs.Refusal.{Answer, refusal_number}
use Rattle.dist_controller.specs.declared.state.Finding.{Finding}

-- a newline
abbrev pub end : List ℕ
end = 10 ∷ []

-- the line's number and a tab
unfoldable pub start_text : ℕ → List ℕ
start_text number = decimal_of number ++ (9 ∷ [])

-- ok
unfoldable pub ok_text : ℕ → List ℕ
ok_text number = start_text number ++ (111 ∷ 107 ∷ 10 ∷ [])

-- no, a tab, the refusal's number
unfoldable pub no_text : ℕ → ℕ → List ℕ
no_text number refusal = start_text number ++ ((110 ∷ 111 ∷ 9 ∷ []) ++ (decimal_of refusal ++ end))

-- a refusal may be any number
abbrev pub numbered_text : {E : Type 0} → (E → ℕ) → ℕ → Result (Unit {0}) E → List ℕ
numbered_text refusal number (Ok u) = ok_text number
numbered_text refusal number (Err e) = no_text number (refusal e)

-- or one of the paper's
abbrev pub answer_text : ℕ → Answer → List ℕ
answer_text number answer = numbered_text refusal_number number answer

-- ok, a tab, the bytes in hex
unfoldable pub take_text : ℕ → List ℕ → List ℕ
take_text number block = start_text number ++ ((111 ∷ 107 ∷ 9 ∷ []) ++ (hex_of block ++ end))

-- ok, a tab, R and the subaddress; then each word behind a tab
unfoldable pub sent_text : ℕ → ℕ → List ℕ → List ℕ
sent_text number subaddress words = start_text number ++ ((111 ∷ 107 ∷ 9 ∷ 82 ∷ []) ++ (decimal_of subaddress ++ (words_of words ++ end)))

-- reset, confirmed, refused, other for all else, lost for no reply
abbrev pub finding_text : Option Finding → List ℕ
finding_text (Some Finding.Reset) = 114 ∷ 101 ∷ 115 ∷ 101 ∷ 116 ∷ 10 ∷ []
finding_text (Some Finding.Confirmed) = 99 ∷ 111 ∷ 110 ∷ 102 ∷ 105 ∷ 114 ∷ 109 ∷ 101 ∷ 100 ∷ 10 ∷ []
finding_text (Some Finding.Refused) = 114 ∷ 101 ∷ 102 ∷ 117 ∷ 115 ∷ 101 ∷ 100 ∷ 10 ∷ []
finding_text (Some Finding.Other) = 111 ∷ 116 ∷ 104 ∷ 101 ∷ 114 ∷ 10 ∷ []
finding_text (Some Finding.Lost) = 108 ∷ 111 ∷ 115 ∷ 116 ∷ 10 ∷ []
finding_text None = 110 ∷ 111 ∷ 110 ∷ 101 ∷ 10 ∷ []

-- ok, a tab, T27, a tab, the finding
unfoldable pub found_text : ℕ → Option Finding → List ℕ
found_text number found = start_text number ++ ((111 ∷ 107 ∷ 9 ∷ 84 ∷ 50 ∷ 55 ∷ 9 ∷ []) ++ finding_text found)
