-- What a link allows in a descriptor, a request or a confirmation that is not Reset.
-- Assumes nothing.
use Rattle.std.specs.Prelude.{◌≡◌, ℕ, ◌<◌, ◌≤◌, true, Ok}
use Rattle.words.specs.Link.{configured_of}
use Rattle.words.specs.Cutting.{size_answer_of}
use Rattle.words.specs.declared.link.Link.{Link}

-- a configuration within the ranges, a size that is not refusal 3, a count of 1 to 255
pub record Allowed (link : Link) (size count : ℕ) : Type 0 where
  pub configured : configured_of link ≡ true
  pub fits : size_answer_of link size ≡ Ok tt
  pub some : 1 ≤ count
  pub byte : count < 256
