-- Cutting a block into messages (document 01, "Words on the bus"; 001 clauses 8.6.1.1 g to l, 8.6.2.2 g to l).
-- Assumes nothing.
use Rattle.std.specs.Prelude.{ℕ, zero, suc, ◌+◌, ◌-◌, ◌*◌, ◌/◌, min, Bool, cond, not, ◌&&◌, ◌||◌, List, [], ◌∷◌, Ok, Err, length, take, drop, ◌==◌, nat_le, nat_lt}
use Rattle.words.specs.Bytes.{words_of}
use Rattle.words.specs.Refusal.{Answer}
use Rattle.words.specs.declared.refusal.Refusal.TheVariants.{BadSize, BadMessage}
use Rattle.words.specs.declared.link.Link.{Link}

-- 3: a block, or a size asked about, of 0 bytes or over the link's largest
unfoldable pub size_answer_of : Link → ℕ → Answer
size_answer_of link size = cond (size == 0 || nat_lt link.largest size) (Err BadSize) (Ok tt)

-- 64 bytes to a message, the last one shorter
unfoldable pub messages_of : ℕ → ℕ
messages_of size = (size + 63) / 64

-- the words of message k, from 0
unfoldable pub message_words_of : ℕ → ℕ → ℕ
message_words_of size k = (min 64 (size - 64 * k) + 1) / 2

-- mode 0 uses subaddresses 11, 12, 13 and on, sixteen of them; mode 1 repeats its one
unfoldable pub message_subaddress_of : Link → ℕ → ℕ
message_subaddress_of link k = cond (link.mode == 0) (cond (nat_le 16 k) 0 (11 + k)) link.subaddress

unfoldable pub uses_of : Link → ℕ → Bool
uses_of link subaddress = cond (link.mode == 0) (nat_le 11 subaddress && nat_le subaddress 26) (subaddress == link.subaddress)

-- 19: a data message of 0 or over 32 words, or to a subaddress the link does not use
unfoldable pub data_answer_of : Link → ℕ → ℕ → Answer
data_answer_of link subaddress words =
    cond (words == 0 || (nat_lt 32 words || not (uses_of link subaddress))) (Err BadMessage) (Ok tt)

-- the bytes of message k, from 0: those of the block from 64 * k on, 64 at most
unfoldable pub part_of : List ℕ → ℕ → List ℕ
part_of block k = take 64 (drop (64 * k) block)

-- a message: its subaddress and its words
pub record Message : Type 0 where
  pub subaddress : ℕ
  pub words : List ℕ

unfoldable pub message_of : Link → List ℕ → ℕ → Message
message_of link block k = record { subaddress = message_subaddress_of link k; words = words_of (part_of block k) }

-- n of a block's messages, from message k on
unfoldable pub messages_from : Link → List ℕ → ℕ → ℕ → List Message
messages_from link block k zero = []
messages_from link block k (suc n) = message_of link block k ∷ messages_from link block (suc k) n

-- the messages of a block, in order
unfoldable pub cut_of : Link → List ℕ → List Message
cut_of link block = messages_from link block 0 (messages_of (length block))
