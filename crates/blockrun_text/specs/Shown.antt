-- Lines as a caller writes them.
-- Assumes nothing.
use Rattle.std.specs.Prelude.{ℕ, List, ◌∷◌, ◌++◌}
use Rattle.words.specs.declared.control.Quality.{Quality}
use Rattle.words.specs.declared.control.Quality.TheVariants.{BestEffort, Verified}
use Rattle.blockrun_text.specs.Forms.{link_text, verified_text, best_text}
use Rattle.blockrun_text.specs.Printing.{decimal_of, hex_of}

-- `link` and five numbers, with a tab, which is 9, before each
abbrev pub link_line_of : ℕ → ℕ → ℕ → ℕ → ℕ → List ℕ
link_line_of address mode subaddress largest window =
    link_text ++ (decimal_of address
    ++ (9 ∷ (decimal_of mode
    ++ (9 ∷ (decimal_of subaddress
    ++ (9 ∷ (decimal_of largest
    ++ (9 ∷ decimal_of window))))))))

-- `send`, its quality and its bytes
abbrev pub send_line_of : Quality → List ℕ → List ℕ
send_line_of Verified bytes = verified_text ++ hex_of bytes
send_line_of BestEffort bytes = best_text ++ hex_of bytes
