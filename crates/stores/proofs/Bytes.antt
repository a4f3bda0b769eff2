-- Bytes and words: element by element, as the machine has them, and there and back.
-- Assumes nothing.
use mathlib.Core.Path.{◌≡◌, refl, ap}
use mathlib.Core.List.{List, [], ◌∷◌}
use Prim.Native.Nat.{ℕ, zero, suc, ◌+◌, ◌*◌, ◌/◌, ◌%◌, ◌≤◌, ◌<◌}
use native.Mathlib.Omega.{arith}
use lib.ListN.{length, take, drop, get_or, replicate}
use lib.Seq.{sets, sets-eq, take_at, take-append_seam}
use Rattle.std.specs.Int.{w16, to_be_bytes, from_be_bytes}
use Rattle.words.specs.Bytes.{bytes_of, words_of, filler, Octets}
use Rattle.words.proofs.Bytes.{length_bytes_of, words_bytes, bytes_words}

-- ---- element by element

pub high_at : (ws : List ℕ) (i : ℕ) → get_or (bytes_of ws) (2 * i) 0 ≡ get_or ws i 0 / 256
unfolding bytes_of
high_at [] i = refl
high_at (w ∷ ws) zero = refl
high_at (w ∷ ws) (suc i) = let e : 2 * suc i ≡ suc (suc (2 * i)) = omega arith in rw e (high_at ws i)

pub low_at : (ws : List ℕ) (i : ℕ) → get_or (bytes_of ws) (2 * i + 1) 0 ≡ get_or ws i 0 % 256
unfolding bytes_of
low_at [] i = refl
low_at (w ∷ ws) zero = refl
low_at (w ∷ ws) (suc i) = let e : 2 * suc i + 1 ≡ suc (suc (2 * i + 1)) = omega arith in rw e (low_at ws i)

pub word_at : (b : List ℕ) (i : ℕ) → get_or (words_of b) i 0 ≡ get_or b (2 * i) 0 * 256 + get_or b (2 * i + 1) 0
unfolding words_of
word_at [] i = refl
word_at (x ∷ []) zero = refl
word_at (x ∷ []) (suc i) =
    let e : 2 * suc i ≡ suc (suc (2 * i)) = omega arith in
    let g : 2 * suc i + 1 ≡ suc (suc (2 * i + 1)) = omega arith in
    rw (g, e)
word_at (x ∷ y ∷ r) zero = refl
word_at (x ∷ y ∷ r) (suc i) =
    let e : 2 * suc i ≡ suc (suc (2 * i)) = omega arith in
    let g : 2 * suc i + 1 ≡ suc (suc (2 * i + 1)) = omega arith in
    rw (g, e) (word_at r i)

-- ---- as the machine has them

-- the two bytes of word i
pub high_byte : (ws bs : List ℕ) (i : ℕ) → get_or ws i 0 < 65536 → bs ≡ to_be_bytes w16 (get_or ws i 0) → get_or bs 0 0 ≡ get_or (bytes_of ws) (2 * i) 0
high_byte ws bs i h e = rw (high_at ws i, e) (omega arith)

pub low_byte : (ws bs : List ℕ) (i : ℕ) → bs ≡ to_be_bytes w16 (get_or ws i 0) → get_or bs 1 0 ≡ get_or (bytes_of ws) (2 * i + 1) 0
low_byte ws bs i e = rw (low_at ws i, e)

-- the word of two bytes
pub pair_word : (b : List ℕ) (i : ℕ) → from_be_bytes w16 (get_or b (2 * i) 0 ∷ get_or b (2 * i + 1) 0 ∷ []) ≡ get_or (words_of b) i 0
pair_word b i = rw (word_at b i) (omega arith)

-- ---- there and back

-- the bytes of the words of bytes, as many as there were
pub bytes_back : (b : List ℕ) → Octets b → take (length b) (bytes_of (words_of b)) ≡ b
bytes_back b f = rw (bytes_words b f) (take-append_seam b (replicate (length b % 2) filler))

-- words that were written are read back
pub read_back : (b ws : List ℕ) (n : ℕ) → n ≡ 2 * length ws → n ≤ length b → words_of (take n (sets b 0 (bytes_of ws))) ≡ ws
read_back b ws n e h =
    let l = length_bytes_of ws in
    rw (sets-eq (bytes_of ws) b 0 (omega arith), take_at (bytes_of ws) (drop (0 + length (bytes_of ws)) b) n (omega arith)) (words_bytes ws)

-- ---- parts

pub words_take : (n : ℕ) (b : List ℕ) → words_of (take (2 * n) b) ≡ take n (words_of b)
unfolding words_of
words_take zero b = refl
words_take (suc n) [] = let e : 2 * suc n ≡ suc (suc (2 * n)) = omega arith in rw e
words_take (suc n) (x ∷ []) = let e : 2 * suc n ≡ suc (suc (2 * n)) = omega arith in rw e (none n x)
  where
    none : (k y : ℕ) → words_of (y ∷ []) ≡ take (suc k) (words_of (y ∷ []))
    none zero y = refl
    none (suc k) y = refl
words_take (suc n) (x ∷ y ∷ r) =
    let e : 2 * suc n ≡ suc (suc (2 * n)) = omega arith in
    rw e (ap (λ (l : List ℕ). (x * 256 + y) ∷ l) (words_take n r))

pub words_drop : (n : ℕ) (b : List ℕ) → words_of (drop (2 * n) b) ≡ drop n (words_of b)
unfolding words_of
words_drop zero b = refl
words_drop (suc n) [] = let e : 2 * suc n ≡ suc (suc (2 * n)) = omega arith in rw e
words_drop (suc n) (x ∷ []) = let e : 2 * suc n ≡ suc (suc (2 * n)) = omega arith in rw e (none n)
  where
    none : (k : ℕ) → words_of [] ≡ drop k []
    none zero = refl
    none (suc k) = refl
words_drop (suc n) (x ∷ y ∷ r) = let e : 2 * suc n ≡ suc (suc (2 * n)) = omega arith in rw e (words_drop n r)

pub bytes_take : (n : ℕ) (ws : List ℕ) → take (2 * n) (bytes_of ws) ≡ bytes_of (take n ws)
unfolding bytes_of
bytes_take zero ws = refl
bytes_take (suc n) [] = let e : 2 * suc n ≡ suc (suc (2 * n)) = omega arith in rw e
bytes_take (suc n) (w ∷ ws) =
    let e : 2 * suc n ≡ suc (suc (2 * n)) = omega arith in
    rw e (ap (λ (l : List ℕ). (w / 256) ∷ (w % 256) ∷ l) (bytes_take n ws))

pub bytes_drop : (n : ℕ) (ws : List ℕ) → drop (2 * n) (bytes_of ws) ≡ bytes_of (drop n ws)
unfolding bytes_of
bytes_drop zero ws = refl
bytes_drop (suc n) [] = let e : 2 * suc n ≡ suc (suc (2 * n)) = omega arith in rw e
bytes_drop (suc n) (w ∷ ws) = let e : 2 * suc n ≡ suc (suc (2 * n)) = omega arith in rw e (bytes_drop n ws)
