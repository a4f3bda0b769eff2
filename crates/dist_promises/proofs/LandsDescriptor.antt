-- A descriptor or a Reset lands at the terminal: it does as the model's terminal does.
-- Assumes nothing.
use Prim.Native.Nat.{ℕ, ◌≤◌}
use mathlib.Core.Path.{◌≡◌, refl, subst, sym}
use mathlib.Core.Bool.{Bool, true, false}
use mathlib.Core.List.{List}
use native.Mathlib.Omega.{arith}
use lib.Dec.{eqb}
use Rattle.std.proofs.Common.{Result, Ok, Err}
use lib.ListN.{length}
use lib.Seq.{sets, length-sets}
use Rattle.words.specs.Count.{distribution_count}
use Rattle.words.specs.Control.{quality_of, descriptor_words, reset_words, list_of}
use Rattle.words.specs.Reading.{read_descriptor_of}
use Rattle.words.specs.declared.link.Link.{Link}
use Rattle.words.specs.declared.control.Control.TheVariants.{Block as Offered}
use Rattle.words.proofs.Ranges.{by}
use Rattle.words.proofs.Round.{descriptor_back, reset_descriptor_back}
use Rattle.stores.proofs.Runs.{take_sets}
use Rattle.dist_terminal.specs.Length.{length_met}
use Rattle.dist_terminal.specs.Descriptor.{unmet_of, judged_of, block_step, taken_of, block_hand, descriptor_of, hand_after}
use Rattle.dist_terminal.specs.Calls as Terminal
use Rattle.dist_terminal.specs.declared.descriptor.Misfit.{Misfit}
use Rattle.dist_terminal.specs.declared.descriptor.Misfit.TheVariants.{NoReset, Again, HandFull, WrongLength}
use Rattle.promises.specs.Run.{Block}
use Rattle.dist_promises.proofs.Modes.{Received, parts, with_parts}
use Rattle.dist_promises.proofs.Model.{Hand, empty, held, Word, Rx, m_desc, m_reset, received, enough, on_desc}
use Rattle.dist_promises.proofs.Real.{Hidden, with_hand, terminal_of, HandIs, WordIs, Within, Ground}
use Rattle.dist_promises.proofs.Finding.{allowed}
use Rattle.dist_promises.proofs.Lands.{all_long}

-- by: Reset seen; count is the last handled; the hand; the length is enough
abbrev judged_in : Bool → Bool → Hand → Bool → Result (Unit {0}) Misfit
judged_in false q g u = Err NoReset
judged_in true true g u = Err Again
judged_in true false (held c b) u = Err HandFull
judged_in true false empty false = Err WrongLength
judged_in true false empty true = Ok tt

-- what is hidden then: the size that 27T shows, and the lent hand
abbrev desc_shown : Bool → Bool → Hand → Bool → ℕ → ℕ → ℕ
desc_shown false q g u z shown = shown
desc_shown true true g u z shown = shown
desc_shown true false (held c b) u z shown = shown
desc_shown true false empty false z shown = z
desc_shown true false empty true z shown = shown

abbrev desc_hand : Bool → Bool → Hand → Bool → Block → List ℕ → List ℕ
desc_hand false q g u b hand = hand
desc_hand true true g u b hand = hand
desc_hand true false (held c d) u b hand = hand
desc_hand true false empty false b hand = hand
desc_hand true false empty true b hand = sets hand 0 b

module _ (link : Link) (lent : List ℕ) (G : Ground link lent) where
  abbrev rx : Bool → ℕ → Received → Hand → Word → Rx Received
  rx e d p g w = record { seen = e; handled = d; parts = p; hand = g; word = w }

  judged_is : (e q : Bool) (g : Hand) (v : Bool) (h : Hidden) (d : ℕ) (p : Received) (w : Word) (k z : ℕ) → eqb k d ≡ q
      → judged_of (terminal_of link h (rx e d p g w)) z (quality_of v) (distribution_count k) ≡ judged_in e q g (enough (parts link lent) v ((parts link lent).met z p))
  unfolding judged_of unmet_of length_met
  judged_is false q g v h d p w k z e = refl
  judged_is true true g v h d p w k z e = rw e
  judged_is true false (held c b) v h d p w k z e = rw e
  judged_is true false empty true h d p w k z e = rw e (by (length_met (with_parts link p) z) (λ m. rw m) (λ m. rw m))
  judged_is true false empty false h d p w k z e = rw e

  stepped_is : (e q : Bool) (g : Hand) (u : Bool) (h : Hidden) (d : ℕ) (p : Received) (w : Word) (k z : ℕ) → length ((parts link lent).block z p) ≡ z
      → (hand : List ℕ) (caught : ℕ) → (block_step (judged_in e q g u) (terminal_of link h (rx e d p g w)) z (distribution_count k)).state
      ≡ terminal_of link (with_hand hand (desc_shown e q g u z h.shown) caught h) (on_desc (parts link lent) e q g u k z (rx e d p g w))
  stepped_is false q g u h d p w k z l hand caught = refl
  stepped_is true true g u h d p w k z l hand caught = refl
  stepped_is true false (held c b) u h d p w k z l hand caught = refl
  stepped_is true false empty false h d p w k z l hand caught = refl
  stepped_is true false empty true h d p w k z l hand caught = rw l

  hand_is : (e q : Bool) (g : Hand) (u : Bool) (h : Hidden) (d : ℕ) (p : Received) (w : Word) (z : ℕ)
      → block_hand (judged_in e q g u) (terminal_of link h (rx e d p g w)) z p.places h.hand ≡ desc_hand e q g u ((parts link lent).block z p) h.hand
  unfolding taken_of
  hand_is false q g u h d p w z = refl
  hand_is true true g u h d p w z = refl
  hand_is true false (held c b) u h d p w z = refl
  hand_is true false empty false h d p w z = refl
  hand_is true false empty true h d p w z = refl

  places_kept : (e q : Bool) (g : Hand) (u : Bool) (d : ℕ) (p : Received) (w : Word) (k z : ℕ) → (on_desc (parts link lent) e q g u k z (rx e d p g w)).parts.places ≡ p.places
  places_kept false q g u d p w k z = refl
  places_kept true true g u d p w k z = refl
  places_kept true false (held c b) u d p w k z = refl
  places_kept true false empty false d p w k z = refl
  places_kept true false empty true d p w k z = refl

  desc_whole : (e q : Bool) (g : Hand) (u : Bool) (d : ℕ) (p : Received) (w : Word) (k z : ℕ) → G.laws.Whole p
      → G.laws.Whole (on_desc (parts link lent) e q g u k z (rx e d p g w)).parts
  desc_whole false q g u d p w k z i = i
  desc_whole true true g u d p w k z i = G.laws.whole_clear p i
  desc_whole true false (held c b) u d p w k z i = G.laws.whole_clear p i
  desc_whole true false empty false d p w k z i = G.laws.whole_clear p i
  desc_whole true false empty true d p w k z i = G.laws.whole_clear p i

  desc_holds : (e q : Bool) (g : Hand) (u : Bool) (d : ℕ) (p : Received) (w : Word) (k z : ℕ) (hand : List ℕ) → Within link z k
      → length ((parts link lent).block z p) ≡ z → link.largest ≤ length hand → HandIs link g hand
      → HandIs link (on_desc (parts link lent) e q g u k z (rx e d p g w)).hand (desc_hand e q g u ((parts link lent).block z p) hand)
  desc_holds false q g u d p w k z hand i l m o = o
  desc_holds true true g u d p w k z hand i l m o = o
  desc_holds true false (held c b) u d p w k z hand i l m o = o
  desc_holds true false empty false d p w k z hand i l m o = tt
  desc_holds true false empty true d p w k z hand i l m o =
      let b = (parts link lent).block z p in
      record { range = subst (λ (n : ℕ). Within link n k) (sym l) i; bytes = take_sets hand b (length b) refl (omega (arith, l, i.most)) }

  desc_shows : (e q : Bool) (g : Hand) (u : Bool) (d : ℕ) (p : Received) (w : Word) (k z shown : ℕ) → Within link z k → WordIs link shown w
      → WordIs link (desc_shown e q g u z shown) (on_desc (parts link lent) e q g u k z (rx e d p g w)).word
  desc_shows false q g u d p w k z shown i o = o
  desc_shows true true g u d p w k z shown i o = o
  desc_shows true false (held c b) u d p w k z shown i o = o
  desc_shows true false empty false d p w k z shown i o = i
  desc_shows true false empty true d p w k z shown i o = o

  desc_long : (e q : Bool) (g : Hand) (u : Bool) (b : Block) (hand : List ℕ) → length (desc_hand e q g u b hand) ≡ length hand
  desc_long false q g u b hand = refl
  desc_long true true g u b hand = refl
  desc_long true false (held c d) u b hand = refl
  desc_long true false empty false b hand = refl
  desc_long true false empty true b hand = length-sets hand 0 b

  module _ (h : Hidden) (r : Rx Received) (whole : G.laws.Whole r.parts) (room : link.largest ≤ length h.hand) where
    module _ (v : Bool) (k z : ℕ) (i : Within link z k) where
      abbrev words : List ℕ
      words = list_of (descriptor_words link z (quality_of v) (distribution_count k))

      abbrev known : Bool
      known = eqb k r.handled

      abbrev suffices : Bool
      suffices = enough (parts link lent) v ((parts link lent).met z r.parts)

      -- what is hidden after it
      abbrev pub desc_hidden : Hidden
      desc_hidden =
          with_hand (desc_hand r.seen known r.hand suffices ((parts link lent).block z r.parts) h.hand)
          (desc_shown r.seen known r.hand suffices z h.shown) h.caught h

      block_long : length ((parts link lent).block z r.parts) ≡ z
      block_long = G.laws.size z r.parts i.most whole

      read_back : read_descriptor_of distribution_count words link ≡ Ok (Offered z (quality_of v) (distribution_count k))
      read_back = descriptor_back link z (quality_of v) (distribution_count k) (allowed link z k G.configured i)

      judged : judged_of (terminal_of link h r) z (quality_of v) (distribution_count k) ≡ judged_in r.seen known r.hand suffices
      judged = judged_is r.seen known r.hand v h r.handled r.parts r.word k z refl

      pub desc_lands : (Terminal.receive_of (terminal_of link h r) 27 words (length r.parts.places) (length h.hand)).state
          ≡ terminal_of link desc_hidden (received (parts link lent) (m_desc v k z) r)
      unfolding Terminal.receive_of descriptor_of
      desc_lands =
          rw (all_long link lent G h r whole room, read_back, judged)
          (stepped_is r.seen known r.hand suffices h r.handled r.parts r.word k z block_long desc_hidden.hand h.caught)

      pub desc_placed : Terminal.store_received (terminal_of link h r) 27 words r.parts.places (length h.hand)
          ≡ (received (parts link lent) (m_desc v k z) r).parts.places
      unfolding Terminal.store_received
      desc_placed =
          rw (all_long link lent G h r whole room)
          (sym (places_kept r.seen known r.hand suffices r.handled r.parts r.word k z))

      pub desc_hand_lem : Terminal.hand_received (terminal_of link h r) 27 words r.parts.places h.hand ≡ desc_hidden.hand
      unfolding Terminal.hand_received hand_after
      desc_hand_lem =
          rw (all_long link lent G h r whole room, read_back, judged)
          (hand_is r.seen known r.hand suffices h r.handled r.parts r.word z)

      pub record Landed : Type 0 where
        pub long : link.largest ≤ length desc_hidden.hand
        pub whole_still : G.laws.Whole (received (parts link lent) (m_desc v k z) r).parts
        pub holds : HandIs link (received (parts link lent) (m_desc v k z) r).hand desc_hidden.hand
        pub shows : WordIs link desc_hidden.shown (received (parts link lent) (m_desc v k z) r).word

      pub landed : HandIs link r.hand h.hand → WordIs link h.shown r.word → Landed
      landed o w =
          record {
            long = subst (λ (n : ℕ). link.largest ≤ n) (sym (desc_long r.seen known r.hand suffices ((parts link lent).block z r.parts) h.hand)) room;
            whole_still = desc_whole r.seen known r.hand suffices r.handled r.parts r.word k z whole;
            holds = desc_holds r.seen known r.hand suffices r.handled r.parts r.word k z h.hand i block_long room o;
            shows = desc_shows r.seen known r.hand suffices r.handled r.parts r.word k z h.shown i w;
          }

    -- ---- a Reset

    pub reset_lands : (Terminal.receive_of (terminal_of link h r) 27 (list_of reset_words) (length r.parts.places) (length h.hand)).state
        ≡ terminal_of link h (received (parts link lent) m_reset r)
    unfolding Terminal.receive_of descriptor_of
    reset_lands = rw (all_long link lent G h r whole room, reset_descriptor_back distribution_count link)

    pub reset_placed : Terminal.store_received (terminal_of link h r) 27 (list_of reset_words) r.parts.places (length h.hand) ≡ r.parts.places
    unfolding Terminal.store_received
    reset_placed = rw (all_long link lent G h r whole room)

    pub reset_hand : Terminal.hand_received (terminal_of link h r) 27 (list_of reset_words) r.parts.places h.hand ≡ h.hand
    unfolding Terminal.hand_received hand_after
    reset_hand = rw (all_long link lent G h r whole room, reset_descriptor_back distribution_count link)
