-- The bytes of a message in a message store, whatever the mode: what is put behind a block's first bytes makes more of them.
-- Assumes nothing.
use Prim.Native.Nat.{ℕ, zero, suc, min, ◌+◌, ◌-◌, ◌*◌, ◌/◌, ◌≤◌, ◌<◌}
use mathlib.Core.Path.{◌≡◌, ap, sym, ◌∙◌}
use mathlib.Core.Bool.{Bool, true, false, ◌&&◌}
use mathlib.Core.List.{List, [], ◌∷◌, ◌++◌, append_assoc}
use native.Mathlib.Omega.{arith}
use lib.Dec.{T, ltb, ltb→lt, lit≤}
use lib.ListN.{length, take, drop, length-take, length-drop}
use lib.Seq.{sets, sets-eq, take-add, take-append-le, drop_at, length-take-le, get_or-drop}
use Rattle.words.specs.Bytes.{bytes_of, words_of, Octets}
use Rattle.words.specs.Cutting.{part_of, message_words_of}
use Rattle.words.proofs.Bytes.{length_bytes_of, length_words_of}
use Rattle.words.proofs.Cut.{words_of_part}
use Rattle.stores.proofs.Runs.{take_before, take_least}
use Rattle.stores.proofs.Bytes.{bytes_back}
use Rattle.promises.specs.Run.{Block, are_bytes}
use Rattle.dist_promises.proofs.Parts.{chunk}

-- ---- bytes, and not larger numbers

two : (a b : Bool) → T (a && b) → T a × T b
two true true h = (tt, tt)
two true false h = absurd h
two false b h = absurd h

pub octets : (b : Block) → T (are_bytes b) → Octets b
octets [] h i = lit≤ tt
octets (x ∷ xs) h zero = ltb→lt x 256 (two (ltb x 256) (are_bytes xs) h).0
octets (x ∷ xs) h (suc i) = octets xs (two (ltb x 256) (are_bytes xs) h).1 i

octets_take : (n : ℕ) (b : Block) → Octets b → Octets (take n b)
octets_take zero b f i = lit≤ tt
octets_take (suc n) [] f i = lit≤ tt
octets_take (suc n) (x ∷ b) f zero = f 0
octets_take (suc n) (x ∷ b) f (suc i) = octets_take n b (λ k. f (suc k)) i

octets_drop : (n : ℕ) (b : Block) → Octets b → Octets (drop n b)
octets_drop n b f i = rw (get_or-drop n b i 0) (f (n + i))

pub octets_chunk : (b : Block) (j : ℕ) → Octets b → Octets (chunk b j)
octets_chunk b j f = octets_take 64 (drop (64 * j) b) (octets_drop (64 * j) b f)

-- ---- message j of a block: its bytes and its words

pub length_chunk : (b : Block) (j : ℕ) → length (chunk b j) ≡ min 64 (length b - 64 * j)
length_chunk b j = rw (length-take 64 (drop (64 * j) b), length-drop (64 * j) b)

pub words_chunk : (b : Block) (j : ℕ) → length (words_of (chunk b j)) ≡ message_words_of (length b) j
unfolding part_of
words_chunk b j = words_of_part b j

pub number_chunk : (b : Block) (j : ℕ) → length (words_of (chunk b j)) ≡ (min 64 (length b - 64 * j) + 1) / 2
number_chunk b j = length_words_of (chunk b j) ∙ ap (λ (n : ℕ). (n + 1) / 2) (length_chunk b j)

pub bytes_chunk : (b : Block) (j : ℕ) → length (bytes_of (words_of (chunk b j))) ≡ 2 * ((min 64 (length b - 64 * j) + 1) / 2)
bytes_chunk b j = length_bytes_of (words_of (chunk b j)) ∙ ap (λ (n : ℕ). 2 * n) (number_chunk b j)

-- ---- a run behind what is already right

behind : (p b vs : List ℕ) (a m : ℕ) → take a p ≡ take a b → take m vs ≡ take m (drop a b) → m ≤ length vs → a + length vs ≤ length p
    → take (a + m) (sets p a vs) ≡ take (a + m) b
behind p b vs a m before here few room =
    let n = length-take-le a p (omega arith) in
    let rest : drop a (sets p a vs) ≡ vs ++ drop (a + length vs) p =
    rw (sets-eq vs p a room, append_assoc (take a p) vs (drop (a + length vs) p)) (drop_at (take a p) (vs ++ drop (a + length vs) p) a n) in
    let start : take a (sets p a vs) ≡ take a b = take_before p vs a a (omega arith) ∙ before in
    rw (take-add a m (sets p a vs), take-add a m b, start, rest, take-append-le m vs (drop (a + length vs) p) few, here)

-- message j behind the first 64 * j bytes; of its last word only the block's own byte matters
pub chunk_behind : (p b : List ℕ) (j : ℕ) → Octets b → 64 * j < length b → 64 * j + length (bytes_of (words_of (chunk b j))) ≤ length p
    → take (64 * j) p ≡ take (64 * j) b
    → take (min (64 * suc j) (length b)) (sets p (64 * j) (bytes_of (words_of (chunk b j)))) ≡ take (min (64 * suc j) (length b)) b
chunk_behind p b j f some room before =
    let vs = bytes_of (words_of (chunk b j)) in
    let m = length (chunk b j) in
    let l = length_chunk b j in
    let n = bytes_chunk b j in
    let all : min (64 * suc j) (length b) ≡ 64 * j + m = omega arith in
    let here : take m (drop (64 * j) b) ≡ chunk b j =
    take_least m 64 (drop (64 * j) b) (rw (length-drop (64 * j) b) l) in
    rw all (behind p b vs (64 * j) m before (bytes_back (chunk b j) (octets_chunk b j f) ∙ sym here) (omega arith) room)
