-- Laws of words and bytes.
-- Assumes nothing.
use Rattle.std.proofs.Common.{◌≡◌, ℕ, zero, suc, ◌+◌, ◌*◌, ◌/◌, ◌%◌, ◌<◌, List, [], ◌∷◌, ◌++◌, length, take, drop, replicate, refl, ap, arith}
use Rattle.words.specs.Bytes.{bytes_of, words_of, filler, Octets}

pub length_bytes_of : (ws : List ℕ) → length (bytes_of ws) ≡ 2 * length ws
unfolding bytes_of
length_bytes_of [] = refl
length_bytes_of (w ∷ ws) = omega (arith, length_bytes_of ws)

pub length_words_of : (b : List ℕ) → length (words_of b) ≡ (length b + 1) / 2
unfolding words_of
length_words_of [] = refl
length_words_of (x ∷ []) = refl
length_words_of (x ∷ y ∷ r) = omega (arith, length_words_of r)

-- the words of the bytes of words
pub words_bytes : (ws : List ℕ) → words_of (bytes_of ws) ≡ ws
unfolding bytes_of words_of
words_bytes [] = refl
words_bytes (w ∷ ws) =
    let e : w / 256 * 256 + w % 256 ≡ w = omega arith in
    rw (e, words_bytes ws)

-- the bytes of the words of bytes: an odd end has the filler after it
pub bytes_words : (b : List ℕ) → Octets b → bytes_of (words_of b) ≡ b ++ replicate (length b % 2) filler
unfolding bytes_of words_of
bytes_words [] f = refl
bytes_words (x ∷ []) f =
    let e : (x * 256 + 0) / 256 ≡ x = omega arith in
    let g : (x * 256 + 0) % 256 ≡ 0 = omega arith in
    rw (e, g)
bytes_words (x ∷ y ∷ r) f =
    let h : y < 256 = f 1 in
    let e : (x * 256 + y) / 256 ≡ x = omega arith in
    let g : (x * 256 + y) % 256 ≡ y = omega arith in
    let p : suc (suc (length r)) % 2 ≡ length r % 2 = omega arith in
    rw (e, g, p, bytes_words r (λ i. f (suc (suc i))))

-- words of an even start, and of the rest
pub words_split : (m : ℕ) (d : List ℕ) → words_of (take (2 * m) d) ++ words_of (drop (2 * m) d) ≡ words_of d
unfolding words_of
words_split zero d = refl
words_split (suc m) [] = let e : 2 * suc m ≡ suc (suc (2 * m)) = omega arith in rw e
words_split (suc m) (a ∷ []) = let e : 2 * suc m ≡ suc (suc (2 * m)) = omega arith in rw e
words_split (suc m) (a ∷ b ∷ r) =
    let e : 2 * suc m ≡ suc (suc (2 * m)) = omega arith in
    rw e (ap (λ (l : List ℕ). (a * 256 + b) ∷ l) (words_split m r))
