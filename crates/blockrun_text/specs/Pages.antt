-- A lent buffer that is written from a place on.
-- Assumes nothing.
use Rattle.std.specs.Prelude.{ℕ, List, length}
use Rattle.std.proofs.lemmas.List.Edits.{sets}
use Rattle.blockrun_text.specs.Printing.{behind}
use Rattle.blockrun_text.specs.declared.print.Page.{Page}

-- a page on which a text was put: the text stands from the place on, as much as fits, and the place is behind it
unfoldable pub put : Page → List ℕ → Page
put page text =
    record page { bytes = record page.bytes { now = sets page.bytes.now page.at text }; at = behind (length page.bytes.now) page.at (length text) }
