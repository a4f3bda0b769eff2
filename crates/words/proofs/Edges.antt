-- Cases a to k of document 01, one statement over the table.
-- Assumes nothing.
use Rattle.std.proofs.Common.{◌≡◌}
use mathlib.Core.List.{Memᴰ}
use Rattle.words.specs.Count.{next_number}
use Rattle.words.specs.Control.{made_of}
use Rattle.words.specs.Reading.{size_of, plain_of, control_of, read_of, over_of, sized_of, read_descriptor_of}
use Rattle.words.specs.Cutting.{size_answer_of, messages_of, message_words_of}
use Rattle.words.specs.Edges.{Row, edges}
use Rattle.words.proofs.Table.{at}

pub as_the_paper_says : (r : Row) → Memᴰ r edges → r.given ≡ r.paper
unfolding next_number made_of size_of plain_of control_of read_of over_of sized_of read_descriptor_of size_answer_of messages_of message_words_of
as_the_paper_says r m = at edges tt r m
