use Rattle.std.proofs.Common.{arith, sym, ap, ◌∙◌, ◌≡◌, ◌+◌, ◌*◌, ◌/◌, min, ℕ, List, ◌++◌, length, take, drop, get_or}
use Rattle.std.proofs.lemmas.List.Edits.{sets}
use lib.ListN.{get_or-eq_default}
use lib.Seq.{take_all, length-take-le}
use Rattle.words.specs.Bytes.{words_of}
use Rattle.words.proofs.Bytes.{length_words_of}
use Rattle.stores.specs.Reading.{read_of, words_read_of}
use Rattle.stores.proofs.Runs.{placed, turn_many, last, sets_cut}
use Rattle.stores.proofs.Bytes.{words_take, pair_word}
use Rattle.stores.proofs.reader.read_some.Goals as goal
use Rattle.stores.proofs.reader.read_some.Goals.{else-n-out-via-then-n-out+else-n-part, else-n-out-via-else-n-out}

-- the pairs that there is room for
pairs : (out part new : List ℕ) (n : ℕ) → n ≡ min (length out) (length part / 2) → new ≡ words_of (take (2 * n) part) → new ++ drop n out ≡ sets out 0 (take n (words_of part))
pairs out part new n e f =
    let m = length_words_of part in
    let l = length-take-le n (words_of part) (omega arith) in
    rw (f ∙ words_take n part) (placed out (take n (words_of part)) n (sym l) (omega arith))

pub returns-then-n-part : goal.returns-then-n-part
unfolding read_of words_read_of
returns-then-n-part c =
    let a = c.args in
    let ws = words_of a.part.now in
    let n = c.min-n.result in
    let m = length_words_of a.part.now in
    let none : get_or a.part.now (2 * n + 1) 0 ≡ 0 = get_or-eq_default a.part.now 0 (omega (arith, c.min-n.ensures)) in
    let v = c.from_be_bytes.ensures ∙ rw none at (pair_word a.part.now n) in
    let z : 0 + n ≡ n = omega arith in (
      omega (arith, c.min-n.ensures),
      last _ ws n _ (omega (arith, c.min-n.ensures)) v ∙ ap (λ (x : List ℕ). sets x n (drop n ws)) (pairs a.out.now a.part.now _ n c.min-n.ensures c.put_words.ensures) ∙ rw z at (turn_many a.out.now ws 0 n),
    )

-- what was not read finds no room, or is not there
pub returns : goal.returns
unfolding read_of words_read_of
returns c =
    let a = c.args in
    let ws = words_of a.part.now in
    let n = c.min-n.result in
    let m = length_words_of a.part.now in
    let read = pairs a.out.now a.part.now _ n c.min-n.ensures c.put_words.ensures in
    elim c.else-n-out.branch [
      | else-n-out-via-then-n-out+else-n-part w ↦ (omega (arith, c.min-n.ensures, w.if-n-out, w.if-n-part), read ∙ ap (λ (x : List ℕ). sets a.out.now 0 x) (take_all n ws (omega (arith, c.min-n.ensures, w.if-n-part))))
      | else-n-out-via-else-n-out w ↦ (omega (arith, c.min-n.ensures, w.if-n-out), read ∙ sets_cut a.out.now ws 0 n (omega (arith, w.if-n-out)))
    ]
