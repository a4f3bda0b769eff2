-- A message lands at the terminal: it does as the model's terminal does.
-- Assumes nothing.
use Prim.Native.Nat.{ℕ, ◌+◌, ◌≤◌, ◌<◌}
use mathlib.Core.Path.{◌≡◌, refl}
use mathlib.Core.Bool.{true, false}
use mathlib.Core.List.{List}
use native.Mathlib.Omega.{arith}
use lib.Dec.{eqb}
use Rattle.std.proofs.Common.{Ok}
use lib.ListN.{length}
use borrow.Author.Tests.{le-ltb, le-leb, lt-leb, ne_eqb, eq-eqb}
use Rattle.words.specs.Bytes.{words_of}
use Rattle.words.specs.Link.{configured_of, block_store_of, message_store_of}
use Rattle.words.specs.Cutting.{message_subaddress_of, uses_of, data_answer_of}
use Rattle.words.specs.declared.link.Link.{Link}
use Rattle.words.proofs.Ranges.{by, link_ranges}
use Rattle.dist_terminal.specs.Data.{noted_of, answer_of, data_of, placed_of, store_after}
use Rattle.dist_terminal.specs.Descriptor.{short}
use Rattle.dist_terminal.specs.Calls as Terminal
use Rattle.promises.specs.Run.{Block}
use Rattle.promises.specs.Promise.{messages}
use Rattle.dist_promises.proofs.Parts.{chunk}
use Rattle.dist_promises.proofs.Modes.{Received, parts}
use Rattle.dist_promises.proofs.ModeBytes.{number_chunk}
use Rattle.dist_promises.proofs.ModeStore.{sixteenfold}
use Rattle.dist_promises.proofs.Model.{Rx, m_data, received}
use Rattle.dist_promises.proofs.Real.{Hidden, terminal_of, Ground}
use Rattle.dist_promises.proofs.SameFrame.{store_long}

-- the subaddress of a message is one that the link uses
record Uses (link : Link) (subaddress : ℕ) : Type 0 where
  used : uses_of link subaddress ≡ true
  data_one : eqb subaddress 27 ≡ false

uses : (link : Link) (places : List ℕ) (n j : ℕ) → configured_of link ≡ true → message_store_of link ≤ length places → n ≤ link.largest → j < messages n → Uses link (message_subaddress_of link j)
unfolding uses_of message_subaddress_of
uses link places n j conf room most within =
    let r = link_ranges link conf in
    by (eqb link.mode 0)
    (λ e.
    let few : j < 16 = omega (arith, (sixteenfold link places conf room e).most) in
    let ne : 11 + j ≡ 27 → ⊥ = omega arith in
    record {
      used = rw (e, lt-leb 16 j few, le-leb 11 (11 + j) (omega arith), le-leb (11 + j) 26 (omega arith));
      data_one = rw (e, lt-leb 16 j few, ne_eqb (11 + j) 27 ne);
    })
    (λ e.
    let ne : link.subaddress ≡ 27 → ⊥ = omega (arith, r.to) in
    record { used = rw (e, eq-eqb link.subaddress link.subaddress refl); data_one = rw (e, ne_eqb link.subaddress 27 ne) })

module _ (link : Link) (lent : List ℕ) (G : Ground link lent) (h : Hidden) (r : Rx Received)
    (whole : G.laws.Whole r.parts) (room : link.largest ≤ length h.hand) where
  pub all_long : short link (length r.parts.places) (length h.hand) ≡ false
  unfolding short block_store_of
  all_long = rw (store_long link lent G r.parts whole, le-ltb (length h.hand) link.largest room)

  -- ---- a data message

  module _ (b : Block) (j : ℕ) (fits : length b ≤ link.largest) (within : j < messages (length b)) where
    abbrev subaddress : ℕ
    subaddress = message_subaddress_of link j

    abbrev number : ℕ
    number = length (words_of (chunk b j))

    data_good : data_answer_of link subaddress number ≡ Ok tt
    unfolding data_answer_of
    data_good =
        let e = number_chunk b j in
        let u = uses link r.parts.places (length b) j G.configured (G.room r.parts whole) fits within in
        let ne : number ≡ 0 → ⊥ = omega (arith, e) in
        let few : number ≤ 32 = omega (arith, e) in
        rw (u.used, ne_eqb number 0 ne, le-ltb 32 number few)

    pub data_lands : (Terminal.receive_of (terminal_of link h r) subaddress (words_of (chunk b j)) (length r.parts.places) (length h.hand)).state
        ≡ terminal_of link h (received (parts link lent) (m_data j (chunk b j)) r)
    unfolding Terminal.receive_of data_of answer_of noted_of
    data_lands =
        let u = uses link r.parts.places (length b) j G.configured (G.room r.parts whole) fits within in
        rw (all_long, u.data_one, store_long link lent G r.parts whole, data_good)
        (by (eqb link.mode 0) (λ e. rw e) (λ e. rw e))

    pub data_placed : Terminal.store_received (terminal_of link h r) subaddress (words_of (chunk b j)) r.parts.places (length h.hand)
        ≡ (received (parts link lent) (m_data j (chunk b j)) r).parts.places
    unfolding Terminal.store_received store_after answer_of placed_of
    data_placed =
        let u = uses link r.parts.places (length b) j G.configured (G.room r.parts whole) fits within in
        rw (all_long, u.data_one, store_long link lent G r.parts whole, data_good)

    pub data_hand : Terminal.hand_received (terminal_of link h r) subaddress (words_of (chunk b j)) r.parts.places h.hand ≡ h.hand
    unfolding Terminal.hand_received
    data_hand =
        let u = uses link r.parts.places (length b) j G.configured (G.room r.parts whole) fits within in
        rw (all_long, u.data_one)
