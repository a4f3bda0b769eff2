use Prim.Native.Nat.{◌*◌, ◌/◌}
use Rattle.words.specs.Bytes.{bytes_of, words_of}
use mathlib.Core.Path.{◌≡◌}
use lib.ListN.{length, take, drop}
use lib.Seq.{sets}
use Rattle.stores.proofs.copies.store_block.Given as goal

abbrev pub invariant-loop-k : goal.invariant-loop-k
invariant-loop-k l = record {
  long : length l.store ≡ length l.initial.store;
  left : sets l.store (64 * l.k) (drop (64 * l.k) (bytes_of (take (length l.initial.store / 2) (words_of l.block)))) ≡ sets l.initial.store 0 (bytes_of (take (length l.initial.store / 2) (words_of l.block)));
}
