-- The message asked for arrives: the pair does as the model does.
-- Assumes nothing.
use Prim.Native.Nat.{ℕ, ◌≤◌, ◌<◌}
use mathlib.Core.Path.{◌≡◌, refl, ap, subst, sym, ◌∙◌}
use mathlib.Core.Bool.{Bool, false}
use mathlib.Core.List.{List}
use lib.ListN.{length}
use Rattle.std.proofs.Common.{None, Some}
use borrow.Author.Tests.{le-ltb}
use Rattle.words.specs.Link.{block_store_of}
use Rattle.words.specs.declared.link.Link.{Link}
use Rattle.words.specs.Bytes.{words_of}
use Rattle.words.specs.Count.{distribution_count}
use Rattle.words.specs.Control.{quality_of, descriptor_words, reset_words, list_of}
use Rattle.words.specs.Cutting.{message_subaddress_of}
use Rattle.dist_controller.specs.Asked.{asked_of}
use Rattle.dist_controller.specs.Message.{words_asked}
use Rattle.dist_controller.specs.Submit.{short_of}
use Rattle.words.specs.declared.message.Message.TheVariants.{Receive, Transmit}
use Rattle.dist_pair.specs.Bus as Bus
use Rattle.dist_pair.specs.Bus.{lent_short}
use Rattle.promises.specs.Run.{Block, arrive}
use Rattle.promises.specs.Promise.{messages}
use Rattle.dist_promises.specs.Distribution.{Ends, step_of}
use Rattle.dist_promises.proofs.Parts.{chunk}
use Rattle.dist_promises.proofs.Modes.{Received, parts}
use Rattle.dist_promises.proofs.Model.{m_data, m_desc, m_reset, m_read, Asked, unasked, asked, asked_by, Word, Flight, away, came, caught, Tx, Rx, Meter, State, arrives, flown}
use Rattle.dist_promises.proofs.Real.{Hidden, with_hand, phase_kept, controller_of, real, Within, Ground, Facts, Stands, moves}
use Rattle.dist_promises.proofs.Sends.{Sends, SendsWords, sending}
use Rattle.dist_promises.proofs.Lands.{all_long, data_lands, data_placed, data_hand}
use Rattle.dist_promises.proofs.LandsDescriptor.{desc_hidden, desc_lands, desc_placed, desc_hand_lem, landed, reset_lands, reset_placed, reset_hand}

module _ (link : Link) (lent : List ℕ) (G : Ground link lent) (h : Hidden) (t : Tx) (r : Rx Received) (m : Meter) where
  abbrev state : Rx Received → Flight → State Received
  state q f = record { tx = t; rx = q; flight = f; meter = m }

  module _ (g : Facts link lent G h (state r away)) where
    lent_long : lent_short (real link h (state r away)).pair (length h.store) (length r.parts.places) (length h.hand) ≡ false
    unfolding lent_short short_of block_store_of
    lent_long = rw (G.configured, le-ltb (length h.store) link.largest g.store, all_long link lent G h r g.whole g.hand)

    abbrev Comes : Asked → Type 0
    Comes q = Stands link lent G (step_of arrive (real link h (state r away))) (state (arrives (parts link lent) q away r) (flown q away r.word))

    comes_data : (b : Block) (j n : ℕ) → asked_of (controller_of link h t m) ≡ Some (Receive (message_subaddress_of link j) n)
        → words_asked (controller_of link h t m) h.store ≡ words_of (chunk b j) → length b ≤ link.largest → j < messages (length b)
        → Comes (asked (m_data j (chunk b j)))
    unfolding Bus.arrive_of Bus.receive_of Bus.places_after Bus.places_received Bus.hand_after Bus.hand_received
    comes_data b j n asks words fits within =
        record {
          hidden = h;
          is = rw (
            lent_long,
            asks,
            words,
            data_lands link lent G h r g.whole g.hand b j fits within,
            data_placed link lent G h r g.whole g.hand b j fits within,
            data_hand link lent G h r g.whole g.hand b j fits within,
          );
          facts = record {
            store = g.store;
            hand = g.hand;
            whole = G.laws.whole_put b j r.parts fits within g.whole;
            holds = g.holds;
            shows = g.shows;
            flies = tt;
            count = g.count;
            phase = g.phase;
          };
        }

    comes_desc : (v : Bool) (k z : ℕ) → SendsWords link (controller_of link h t m) h.store (list_of (descriptor_words link z (quality_of v) (distribution_count k)))
        → Within link z k → Comes (asked (m_desc v k z))
    unfolding Bus.arrive_of Bus.receive_of Bus.places_after Bus.places_received Bus.hand_after Bus.hand_received
    comes_desc v k z i w =
        let l = landed link lent G h r g.whole g.hand v k z w g.holds g.shows in
        let d = desc_hidden link lent G h r g.whole g.hand v k z w in
        record {
          hidden = d;
          is = rw (
            lent_long,
            i.asked,
            i.words,
            desc_lands link lent G h r g.whole g.hand v k z w,
            desc_placed link lent G h r g.whole g.hand v k z w,
            desc_hand_lem link lent G h r g.whole g.hand v k z w,
          );
          facts = record {
            store = g.store;
            hand = l.long;
            whole = l.whole_still;
            holds = l.holds;
            shows = l.shows;
            flies = tt;
            count = g.count;
            phase = phase_kept t.phase link h d.hand d.shown d.caught t.accepted t.count m.cost g.phase;
          };
        }

    comes_reset : SendsWords link (controller_of link h t m) h.store (list_of reset_words) → Comes (asked m_reset)
    unfolding Bus.arrive_of Bus.receive_of Bus.places_after Bus.places_received Bus.hand_after Bus.hand_received
    comes_reset i =
        record {
          hidden = h;
          is = rw (
            lent_long,
            i.asked,
            i.words,
            reset_lands link lent G h r g.whole g.hand,
            reset_placed link lent G h r g.whole g.hand,
            reset_hand link lent G h r g.whole g.hand,
          );
          facts = record {
            store = g.store;
            hand = g.hand;
            whole = G.laws.whole_clear r.parts g.whole;
            holds = tt;
            shows = tt;
            flies = tt;
            count = g.count;
            phase = g.phase;
          };
        }

    -- of a read the words of 27T are caught
    abbrev caught_hidden : Hidden
    caught_hidden = with_hand h.hand h.shown h.shown h

    comes_read : asked_of (controller_of link h t m) ≡ Some (Transmit 27 2) → Comes (asked m_read)
    unfolding Bus.arrive_of Bus.places_after Bus.hand_after
    comes_read asks =
        record {
          hidden = caught_hidden;
          is = rw (lent_long, asks);
          facts = record {
            store = g.store;
            hand = g.hand;
            whole = g.whole;
            holds = g.holds;
            shows = g.shows;
            flies = g.shows;
            count = g.count;
            phase = phase_kept t.phase link h h.hand h.shown h.shown t.accepted t.count m.cost g.phase;
          };
        }

    comes_none : asked_of (controller_of link h t m) ≡ None → Comes unasked
    unfolding Bus.arrive_of Bus.places_after Bus.hand_after
    comes_none asks = record { hidden = h; is = rw (lent_long, asks); facts = g }

    comes : (q : Asked) → Sends link (controller_of link h t m) h.store q → Comes q
    comes unasked i = comes_none i
    comes (asked (m_data j d)) i =
        subst (λ (d : Block). Comes (asked (m_data j d))) i.is
        (comes_data i.block j i.number i.asked (i.words ∙ ap words_of (sym i.is)) i.fits i.within)
    comes (asked (m_desc v k z)) i = comes_desc v k z i.0 i.1
    comes (asked m_reset) i = comes_reset i
    comes (asked m_read) i = comes_read i

  -- one that arrived already does not arrive again

  still : (q : Asked) → arrives (parts link lent) q came r ≡ r
  still unasked = refl
  still (asked k) = refl

  stays : (q : Asked) → flown q came r.word ≡ came
  stays unasked = refl
  stays (asked k) = refl

  still_caught : (w : Word) (q : Asked) → arrives (parts link lent) q (caught w) r ≡ r
  still_caught w unasked = refl
  still_caught w (asked k) = refl

  stays_caught : (w : Word) (q : Asked) → flown q (caught w) r.word ≡ caught w
  stays_caught w unasked = refl
  stays_caught w (asked k) = refl

  long_again : (f : Flight) → Facts link lent G h (state r f)
      → lent_short (real link h (state r f)).pair (length h.store) (length r.parts.places) (length h.hand) ≡ false
  unfolding lent_short short_of block_store_of
  long_again f g = rw (G.configured, le-ltb (length h.store) link.largest g.store, all_long link lent G h r g.whole g.hand)

  arrive_stands : (f : Flight) → Facts link lent G h (state r f)
      → Stands link lent G (step_of arrive (real link h (state r f))) (moves link lent G arrive (state r f))
  unfolding Bus.arrive_of Bus.places_after Bus.hand_after
  arrive_stands away g =
      comes g (asked_by t.phase t.count)
      (sending link h t.accepted t.count t.spent m.now m.since m.cost g.store t.phase g.phase)
  arrive_stands came g =
      let q = asked_by t.phase t.count in
      rw (still q, stays q) (record { hidden = h; is = rw (long_again came g); facts = g })
  arrive_stands (caught w) g =
      let q = asked_by t.phase t.count in
      rw (still_caught w q, stays_caught w q) (record { hidden = h; is = rw (long_again (caught w) g); facts = g })

pub same_arrive : (link : Link) (lent : List ℕ) (G : Ground link lent) (x : Ends) (s : State Received) → Stands link lent G x s
    → Stands link lent G (step_of arrive x) (moves link lent G arrive s)
same_arrive link lent G x s i =
    subst (λ (y : Ends). Stands link lent G (step_of arrive y) (moves link lent G arrive s)) (sym i.is)
    (arrive_stands link lent G i.hidden s.tx s.rx s.meter s.flight i.facts)
