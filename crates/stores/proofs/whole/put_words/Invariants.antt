use Rattle.words.specs.Bytes.{words_of}
use mathlib.Core.Path.{◌≡◌}
use Prim.Native.Nat.{◌*◌}
use lib.ListN.{length, drop}
use lib.Seq.{sets}
use Rattle.stores.proofs.whole.put_words.Given as goal

abbrev pub invariant-loop-i : goal.invariant-loop-i
invariant-loop-i l = record {
  long : length l.bytes ≡ 2 * length l.out;
  left : sets l.out l.i (drop l.i (words_of l.bytes)) ≡ words_of l.bytes;
}
