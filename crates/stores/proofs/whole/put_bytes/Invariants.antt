use Rattle.words.specs.Bytes.{bytes_of}
use mathlib.Core.Path.{◌≡◌}
use Prim.Native.Nat.{◌*◌}
use lib.ListN.{length, drop}
use lib.Seq.{sets}
use Rattle.stores.proofs.whole.put_bytes.Given as goal

abbrev pub invariant-loop-i : goal.invariant-loop-i
invariant-loop-i l = record {
  long : length l.part ≡ 2 * length l.words;
  left : sets l.part (2 * l.i) (drop (2 * l.i) (bytes_of l.words)) ≡ bytes_of l.words;
}
