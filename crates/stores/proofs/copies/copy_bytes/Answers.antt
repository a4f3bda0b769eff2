use Rattle.std.proofs.Common.{arith, refl, ap, sym, ◌∙◌, ◌≡◌, ℕ, List, length, take, min}
use Rattle.std.proofs.lemmas.List.Edits.{sets}
use lib.Seq.{length-take-le}
use Rattle.stores.specs.Copying.{copied_of}
use Rattle.stores.proofs.Runs.{placed, sets_cut, take_least, take_take_min}
use Rattle.stores.proofs.copies.copy_bytes.Goals as goal

pub returns : goal.returns
unfolding copied_of
returns c =
    let a = c.args in
    let src = a.src.now in
    let m = c.min-m.result in
    let q = min a.n 4096 in
    let d = length a.dst.now in
    let is : m ≡ min (min d q) (length src) = omega (arith, c.min.ensures, c.min-2.ensures, c.min-m.ensures) in
    let k : length (take m src) ≡ m = length-take-le m src (omega arith) in
    let taken : take m src ≡ take d (take q src) = take_least m (min d q) src (omega arith) ∙ sym (take_take_min d q (min d q) src refl) in
    rw c.copy_from_slice.ensures.after (placed a.dst.now (take m src) m (sym k) (omega arith))
    ∙ ap (λ (x : List ℕ). sets a.dst.now 0 x) taken
    ∙ sets_cut a.dst.now (take q src) 0 d (omega arith)
