use Prim.Native.Nat.{min, ◌/◌}
use lib.ListN.{length-take, length-drop}
use Rattle.words.specs.Bytes.{bytes_of}
use Rattle.stores.specs.Writing.{written_of, words_written_of, room_of, message_written_of, message_words_written_of}
use Rattle.stores.proofs.Runs.{part_back}
use Rattle.words.proofs.Bytes.{length_bytes_of}
use native.Mathlib.Omega.{arith}
use mathlib.Core.Path.{◌≡◌, ap, ◌∙◌}
use Prim.Native.Nat.{ℕ, ◌+◌, ◌-◌}
use lib.ListN.{length, take, drop}
use lib.Seq.{sets}
use Rattle.stores.proofs.writer.write_message.Goals as goal

pub returns : goal.returns
unfolding message_written_of message_words_written_of written_of words_written_of room_of
returns c =
    let w = c.write_words in
    let a = c.args in
    let s = a.store.now in
    let k = a.at + c.min.result - a.at in
    let n : length (take k (drop a.at s)) ≡ min 64 (length s - a.at) = simp (length-take, length-drop) (omega (arith, c.min.ensures)) in
    let vs = bytes_of (take (length (take k (drop a.at s)) / 2) a.words.now) in
    let m = length_bytes_of (take (length (take k (drop a.at s)) / 2) a.words.now) in
    let t = length-take (length (take k (drop a.at s)) / 2) a.words.now in (
      rw n at w.ensures.0,
      part_back s _ vs a.at k w.ensures.1 (omega (arith, c.min.ensures)) (omega (arith, c.min.ensures)) ∙ ap (λ (x : ℕ). sets s a.at (bytes_of (take (x / 2) a.words.now))) n,
    )
