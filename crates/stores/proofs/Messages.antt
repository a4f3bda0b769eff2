-- Messages in their places: the part that is read, the part that is written, and a block carried message by message.
-- Assumes nothing.
use mathlib.Core.Path.{◌≡◌, refl, sym, ap, ◌∙◌}
use mathlib.Core.List.{List, []}
use Prim.Native.Nat.{ℕ, min, ◌+◌, ◌-◌, ◌*◌, ◌/◌, ◌≤◌, ◌<◌}
use native.Mathlib.Omega.{arith}
use lib.ListN.{length-replicate, length, take, drop, get_or, length-take, length-drop, drop_of_length-le}
use lib.Seq.{sets, sets-eq, length-sets, take_all, take-append-le, drop-drop}
use Rattle.words.specs.Bytes.{bytes_of, words_of}
use Rattle.words.specs.Cutting.{part_of}
use Rattle.stores.specs.Writing.{room_of, written_of, message_written_of}
use Rattle.stores.specs.Reading.{read_of, message_read_of}
use Rattle.stores.specs.Copying.{stored_of, copied_of, zeros_of}
use Rattle.stores.proofs.Runs.{take_stored, turn_many, take_least, drop_take, take_take_min}
use Rattle.stores.proofs.Bytes.{words_take, words_drop, bytes_take, bytes_drop, bytes_back}
use Rattle.words.proofs.Bytes.{words_bytes, length_bytes_of, length_words_of}

-- ---- lengths stay

pub length_written : (part words : List ℕ) → length (written_of part words) ≡ length part
unfolding written_of
length_written part words = simp length-sets

pub length_message_written : (store : List ℕ) (at : ℕ) (words : List ℕ) → length (message_written_of store at words) ≡ length store
unfolding message_written_of
length_message_written store at words = simp length-sets

pub length_read : (out part : List ℕ) → length (read_of out part) ≡ length out
unfolding read_of
length_read out part = simp length-sets

pub length_message_read : (out block : List ℕ) (size k : ℕ) → length (message_read_of out block size k) ≡ length out
unfolding message_read_of
length_message_read out block size k = length_read out (part_of (take size block) k)

pub length_stored : (store block : List ℕ) → length (stored_of store block) ≡ length store
unfolding stored_of
length_stored store block = length_written store (words_of block)

pub length_copied : (src dst : List ℕ) (n : ℕ) → length (copied_of src dst n) ≡ length dst
unfolding copied_of
length_copied src dst n = simp length-sets

pub length_zeros : (n : ℕ) → length (zeros_of n) ≡ n
unfolding zeros_of
length_zeros n = length-replicate {A = ℕ} n 0

-- ---- the part that is message k

least_part : (s n a : ℕ) → min 64 (min s n - a) ≡ min (min 64 (s - a)) (n - a)
least_part s n a = let e : min s n - a ≡ min (s - a) (n - a) = omega arith in rw e (least_three (s - a) (n - a))
  where
    least_three : (x y : ℕ) → min 64 (min x y) ≡ min (min 64 x) y
    least_three x y = omega arith

pub part_is : (b : List ℕ) (size k m : ℕ) → m ≡ min 64 (min size (length b) - 64 * k) → take m (drop (64 * k) b) ≡ part_of (take size b) k
unfolding part_of
part_is b size k m e =
    let n : m ≡ min (min 64 (size - 64 * k)) (length (drop (64 * k) b)) = rw (length-drop (64 * k) b) (e ∙ least_part size (length b) (64 * k)) in
    rw (drop_take (64 * k) size b, take_take_min 64 (size - 64 * k) (min 64 (size - 64 * k)) (drop (64 * k) b) refl)
    (take_least m (min 64 (size - 64 * k)) (drop (64 * k) b) n)

pub no_part : (b : List ℕ) (size k : ℕ) → min size (length b) ≤ 64 * k → part_of (take size b) k ≡ []
unfolding part_of
no_part b size k h =
    let l = length-take size b in
    let z : drop (64 * k) (take size b) ≡ [] = drop_of_length-le (take size b) {i = 64 * k} (omega arith) in
    rw z

-- ---- a block carried message by message

-- what message k writes, of all that is written
pub carried : (s b : List ℕ) (k : ℕ) → message_written_of s (64 * k) (words_of (part_of b k))
    ≡ sets s (64 * k) (take 64 (drop (64 * k) (bytes_of (take (length s / 2) (words_of b)))))
unfolding message_written_of part_of room_of
carried s b k =
    let h = length s / 2 in
    let room = min 64 (length s - 64 * k) / 2 in
    let rest = drop (32 * k) (words_of b) in
    let n : 64 * k ≡ 2 * (32 * k) = omega arith in
    let left : words_of (drop (64 * k) b) ≡ rest = rw n (words_drop (32 * k) b) in
    let got : words_of (take 64 (drop (64 * k) b)) ≡ take 32 rest = words_take 32 (drop (64 * k) b) ∙ ap (λ (l : List ℕ). take 32 l) left in
    let put : take 64 (drop (64 * k) (bytes_of (take h (words_of b)))) ≡ bytes_of (take 32 (take (h - 32 * k) rest)) =
    rw n (rw (bytes_drop (32 * k) (take h (words_of b)), drop_take (32 * k) h (words_of b)) (bytes_take 32 (take (h - 32 * k) rest))) in
    let same : take room (take 32 rest) ≡ take 32 (take (h - 32 * k) rest) =
    take_take_min room 32 (min room 32) rest refl ∙ sym (take_take_min 32 (h - 32 * k) (min room 32) rest (omega arith)) in
    ap (λ (l : List ℕ). sets s (64 * k) l) (ap (λ (l : List ℕ). bytes_of (take room l)) got ∙ ap bytes_of same ∙ sym put)

-- a turn: us is all that is written
pub carry_turn : (s us : List ℕ) (k : ℕ) → sets (sets s (64 * k) (take 64 (drop (64 * k) us))) (64 * (k + 1)) (drop (64 * (k + 1)) us) ≡ sets s (64 * k) (drop (64 * k) us)
carry_turn s us k =
    let n : 64 * (k + 1) ≡ 64 * k + 64 = omega arith in
    rw (n, ← drop-drop 64 (64 * k) us) (turn_many s (drop (64 * k) us) (64 * k) 64)

-- a message that fits its place is read back from it
pub written_back : (store : List ℕ) (at : ℕ) (words : List ℕ) → length words ≤ 32 → at + 2 * length words ≤ length store
    → words_of (take (2 * length words) (drop at (message_written_of store at words))) ≡ words
unfolding message_written_of room_of
written_back store at words short fits =
    let n = length_bytes_of words in
    let all = take_all (min 64 (length store - at) / 2) words (omega arith) in
    rw (all, ← n, take_stored store (bytes_of words) at (omega arith)) (words_bytes words)

-- a block that fits is found again at the store's start
pub stored_back : (store block : List ℕ) → length block ≤ length store → length store ≡ 2 * (length store / 2) → ((i : ℕ) → get_or block i 0 < 256)
    → take (length block) (stored_of store block) ≡ block
unfolding stored_of written_of
stored_back store block h even f =
    let n = length_words_of block in
    let m = length_bytes_of (words_of block) in
    rw (take_all (length store / 2) (words_of block) (omega arith), sets-eq (bytes_of (words_of block)) store 0 (omega arith))
    (take-append-le (length block) (bytes_of (words_of block)) _ (omega arith) ∙ bytes_back block f)
