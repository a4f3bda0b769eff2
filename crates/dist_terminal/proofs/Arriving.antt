-- What an accepted data message says of the link, the message and the store; and what its words leave in the store.
-- Assumes nothing.
use Rattle.std.proofs.Common.{◌≡◌, ℕ, ◌+◌, ◌-◌, ◌*◌, ◌/◌, ◌≤◌, ◌<◌, min, true, not, ◌||◌, eqb, ltb, leb, List, Ok, length, take, length-take, arith, ltb-false, leb-true, eq-eqb, ne_eqb}
use Rattle.std.proofs.lemmas.List.Edits.{sets}
use borrow.Author.Tests.{not-false, eqb-false}
use lib.Seq.{take_all}
use Rattle.words.specs.Bytes.{bytes_of}
use Rattle.words.specs.Link.{message_store_of}
use Rattle.words.specs.Cutting.{data_answer_of, uses_of}
use Rattle.words.specs.declared.link.Link.{Link}
use Rattle.words.specs.Link.{mode_of}
use Rattle.words.specs.declared.link.Mode.{Mode}
use Rattle.words.specs.declared.link.Mode.TheVariants.{Zero, One}
use Rattle.words.proofs.Ranges.{by, both, mode_zero, mode_one}
use Rattle.stores.specs.Writing.{room_of, message_written_of}
use Rattle.stores.proofs.Runs.{take_least}
use Rattle.dist_terminal.specs.Data.{store_short, answer_of, placed_of, store_after}
use Rattle.dist_terminal.specs.declared.state.Terminal.{Terminal}
use Rattle.dist_terminal.proofs.Ready.{neither, Long, long}

pub record Message (link : Link) (subaddress n : ℕ) : Type 0 where
  pub some : 1 ≤ n
  pub few : n ≤ 32
  pub used : uses_of link subaddress ≡ true

pub message : (link : Link) (subaddress n : ℕ) → data_answer_of link subaddress n ≡ Ok tt → Message link subaddress n
unfolding data_answer_of
message link subaddress n e =
    by (eqb n 0 || (ltb 32 n || not (uses_of link subaddress)))
    (λ t. let z = rw t at e in cc)
    (λ f.
    let p = neither (eqb n 0) _ f in
    let q = neither (ltb 32 n) _ p.1 in
    let ne : n ≡ 0 → ⊥ = eqb-false n 0 p.0 in
    record { some = omega arith; few = ltb-false 32 n q.0; used = not-false _ q.1 })

pub record Arriving (t : Terminal) (subaddress n store : ℕ) : Type 0 where
  pub long : Long t.link store
  pub message : Message t.link subaddress n

pub arriving : (t : Terminal) (subaddress n store : ℕ) → answer_of t subaddress n store ≡ Ok tt → Arriving t subaddress n store
unfolding answer_of
arriving t subaddress n store e =
    by (store_short t.link store)
    (λ s. let z = rw s at e in cc)
    (λ s. record { long = long t.link store s; message = message t.link subaddress n (rw s at e) })

pub few : (t : Terminal) (subaddress n store : ℕ) → answer_of t subaddress n store ≡ Ok tt → n ≤ 32
few t subaddress n store e = (arriving t subaddress n store e).message.few

-- the subaddresses and the places of mode 0; the room of mode 1
pub record Place (subaddress store : ℕ) : Type 0 where
  pub from : 11 ≤ subaddress
  pub to : subaddress ≤ 26
  pub room : 1024 ≤ store

pub place : (link : Link) (subaddress n store : ℕ) → link.mode ≡ 0 → Long link store → Message link subaddress n → Place subaddress store
unfolding uses_of message_store_of
place link subaddress n store z l m =
    let e = eq-eqb link.mode 0 z in
    let u = both (leb 11 subaddress) (leb subaddress 26) (rw e at m.used) in
    let k = rw e at l.most in
    record { from = leb-true 11 subaddress u.0; to = leb-true subaddress 26 u.1; room = k }

pub room_of_one : (link : Link) (store : ℕ) → (link.mode ≡ 0 → ⊥) → message_store_of link ≤ store → 4096 ≤ store
unfolding message_store_of
room_of_one link store ne l = let k = rw (ne_eqb link.mode 0 ne) at l in k

-- a message that fits is written whole
pub whole : (s : List ℕ) (at : ℕ) (ws : List ℕ) → length ws ≤ 32 → at + 2 * length ws ≤ length s → message_written_of s at ws ≡ sets s at (bytes_of ws)
unfolding message_written_of room_of
whole s at ws h f = rw (take_all (min 64 (length s - at) / 2) ws (omega arith))

-- what mode 1 keeps of a message, also where it keeps none
written : (s : List ℕ) (r : ℕ) (ws : List ℕ) → length ws ≤ 32 → 4096 ≤ length s
    → message_written_of s (2 * r) (take (2048 - r) ws) ≡ sets s (2 * r) (bytes_of (take (2048 - r) ws))
unfolding message_written_of room_of
written s r ws h l =
    let n = length-take (2048 - r) ws in
    rw (take_all (min 64 (length s - 2 * r) / 2) (take (2048 - r) ws) (omega arith))

pub kept : (s : List ℕ) (r k : ℕ) (ws : List ℕ) → length ws ≤ 32 → 4096 ≤ length s → r < 2048 → k ≡ min (length ws) (2048 - r)
    → message_written_of s (2 * r) (take k ws) ≡ sets s (2 * r) (bytes_of (take (2048 - r) ws))
kept s r k ws h l m e =
    let t : take k ws ≡ take (2048 - r) ws = take_least k (2048 - r) ws (omega arith) in
    rw t (written s r ws h l)

module _ (t : Terminal) (subaddress : ℕ) (ws store : List ℕ) (e : answer_of t subaddress (length ws) (length store) ≡ Ok tt)
    (m : Mode) (is : m ≡ mode_of t.link) where
  -- mode 0 has sixteen places
  pub placed : m ≡ Zero → message_written_of store (64 * (subaddress - 11)) ws ≡ store_after t subaddress ws store
  unfolding store_after placed_of
  placed z =
      let n = mode_zero t.link m is z in
      let a = arriving t subaddress (length ws) (length store) e in
      let p = place t.link subaddress (length ws) (length store) n a.long a.message in
      let few = a.message.few in
      let room = p.room in
      let from = p.from in
      let to = p.to in
      rw (e, eq-eqb t.link.mode 0 n) (whole store (64 * (subaddress - 11)) ws few (omega arith))

  -- mode 1 has room for 2048 words
  pub appended : m ≡ One → message_written_of store (2 * t.received) (take (2048 - t.received) ws) ≡ store_after t subaddress ws store
  unfolding store_after placed_of
  appended o =
      let n = mode_one t.link m is o in
      let a = arriving t subaddress (length ws) (length store) e in
      rw (e, ne_eqb t.link.mode 0 n)
      (written store t.received ws a.message.few (room_of_one t.link (length store) n a.long.most))
