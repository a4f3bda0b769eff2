use Rattle.std.proofs.Common.{arith, List, ℕ, ◌≡◌, ◌-◌, min, take, length, refl, ap, ◌∙◌}
use Rattle.std.proofs.lemmas.List.Edits.{sets}
use Rattle.std.proofs.lemmas.Slice.{between_to_end}
use lib.ListN.{length-take}
use Rattle.blockrun_text.specs.Hex.{block_size_of, bytes_of}
use Rattle.blockrun_text.proofs.Reading.{no_field, field_is}
use Rattle.blockrun_text.proofs.parse.read_block.Goals as goal

pub returns-in_default : goal.returns-in_default
unfolding block_size_of
returns-in_default c =
    let a = c.args in
    let h = c.in_default.ensures.lookup in
    rw (no_field a.line.now a.at a.digits (omega (arith, h))) (omega (arith, h), refl)

pub returns : goal.returns
unfolding block_size_of
returns c =
    let a = c.args in
    let e = c.read_digits.ensures in
    let m = c.min.result in
    let h = c.in-Some.ensures.lookup.0 in
    let r = h.2 ∙ between_to_end a.line.now a.at (length a.line.now) (omega arith) in
    let k : length (take m c.in-Some.rest.now) ≡ min a.digits (length a.line.now - a.at) = omega (arith, length-take m c.in-Some.rest.now, c.min.ensures, h) in
    let f = field_is a.line.now a.at a.digits m (omega (arith, c.min.ensures, h)) in
    (rw k at e.0, e.1 ∙ ap (λ (x : List ℕ). sets a.out.now 0 (bytes_of (take m x))) r ∙ ap (λ (x : List ℕ). sets a.out.now 0 x) f)
