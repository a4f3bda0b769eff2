use Prim.Native.Nat.{◌/◌}
use lib.ListN.{length-take}
use Rattle.words.specs.Bytes.{bytes_of, words_of}
use Rattle.stores.specs.Writing.{written_of}
use Rattle.stores.specs.Copying.{stored_of}
use Rattle.stores.proofs.Runs.{done}
use Rattle.words.proofs.Bytes.{length_bytes_of, length_words_of}
use Rattle.stores.proofs.Messages.{carried, carry_turn}
use borrow.Author.Rules.{rules}
use native.Mathlib.Omega.{arith}
use mathlib.Core.Path.{sym, ap, ◌∙◌}
use mathlib.Core.List.{List}
use Prim.Native.Nat.{ℕ, ◌+◌, ◌*◌}
use lib.ListN.{length, take, drop}
use lib.Seq.{sets}
use Rattle.stores.proofs.copies.store_block.Goals as goal

pub loop-k-preserved : goal.loop-k-preserved
loop-k-preserved c =
    let call = c.carry_message in
    let a = c.args in
    let s = c.loop-k.store in
    let k = c.loop-k.k in
    let us = bytes_of (take (length a.store.now / 2) (words_of a.block.now)) in
    let e = call.ensures ∙ rw c.loop-k.invariant.long at (carried s a.block.now k) in
    record {
      long = search rules;
      left = ap (λ (l : List ℕ). sets l (64 * (k + 1)) (drop (64 * (k + 1)) us)) e ∙ carry_turn s us k ∙ c.loop-k.invariant.left;
    }

pub returns : goal.returns
unfolding stored_of written_of
returns c =
    let a = c.args in
    let ws = take (length a.store.now / 2) (words_of a.block.now) in
    let l = length-take (length a.store.now / 2) (words_of a.block.now) in
    let m = length_words_of a.block.now in
    let n = length_bytes_of ws in
    sym (done c.loop-k.store (bytes_of ws) (64 * c.loop-k.k) (omega arith)) ∙ c.loop-k.invariant.left
