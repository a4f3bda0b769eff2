-- The message that the controller asks for, and its words: the model's.
-- Assumes nothing.
use Prim.Native.Nat.{ℕ, suc, ◌≤◌, ◌<◌}
use mathlib.Core.Path.{◌≡◌, refl, sym, ◌∙◌}
use mathlib.Core.Bool.{Bool}
use mathlib.Core.List.{List}
use native.Mathlib.Omega.{arith}
use lib.ListN.{length, take, length-take}
use Rattle.std.proofs.Common.{None, Some}
use borrow.Author.Tests.{lt-ltb, le-ltb, ne_eqb, eq-eqb}
use Rattle.words.specs.Bytes.{words_of}
use Rattle.words.specs.Count.{distribution_count}
use Rattle.words.specs.Control.{quality_of, descriptor_words, reset_words, list_of}
use Rattle.words.specs.Cutting.{messages_of, message_words_of, message_subaddress_of, part_of}
use Rattle.words.specs.declared.link.Link.{Link}
use Rattle.dist_controller.specs.Asked.{transfer_message, last_of, asked_of}
use Rattle.dist_controller.specs.Message.{transfer_words_at, words_asked}
use Rattle.words.specs.declared.message.Message.TheVariants.{Receive, Transmit}
use Rattle.dist_controller.specs.declared.state.Controller.{Controller}
use Rattle.promises.specs.Run.{Block}
use Rattle.promises.specs.Promise.{messages}
use Rattle.dist_promises.specs.Distribution.{asking_of}
use Rattle.dist_promises.proofs.Parts.{chunk}
use Rattle.dist_promises.proofs.Model.{m_data, m_desc, m_reset, m_read, Asked, unasked, asked, asked_by, asks_for, Flight, arrived_yet}
use Rattle.dist_promises.proofs.Model.{Phase, idle, send_data, send_desc, await, reading, reset_first, send_reset, await_reset, reading_reset}
use Rattle.dist_promises.proofs.Real.{Hidden, controller_of, PhaseIs, Within}
use Rattle.dist_promises.proofs.SameFrame.{tx, meter}

-- message j of a block, as it is asked for
pub record SendsData (link : Link) (c : Controller) (store : List ℕ) (j : ℕ) (d : Block) : Type 0 where
  pub number : ℕ
  pub asked : asked_of c ≡ Some (Receive (message_subaddress_of link j) number)
  pub words : words_asked c store ≡ words_of d
  pub block : Block
  pub is : chunk block j ≡ d
  pub within : j < messages (length block)
  pub fits : length block ≤ link.largest

pub record SendsWords (link : Link) (c : Controller) (store ws : List ℕ) : Type 0 where
  pub asked : asked_of c ≡ Some (Receive 27 2)
  pub words : words_asked c store ≡ ws

abbrev pub Sends : Link → Controller → List ℕ → Asked → Type 0
Sends link c store unasked = asked_of c ≡ None
Sends link c store (asked (m_data j d)) = SendsData link c store j d
Sends link c store (asked (m_desc v k z)) = SendsWords link c store (list_of (descriptor_words link z (quality_of v) (distribution_count k))) × Within link z k
Sends link c store (asked m_reset) = SendsWords link c store (list_of reset_words)
Sends link c store (asked m_read) = asked_of c ≡ Some (Transmit 27 2)

last_suc : (j : ℕ) → last_of (suc j) ≡ j
unfolding last_of
last_suc j = let ne : suc j ≡ 0 → ⊥ = omega arith in rw (ne_eqb (suc j) 0 ne) (omega arith)

module _ (link : Link) (h : Hidden) (a : Bool) (n s now since cost : ℕ) (room : link.largest ≤ length h.store) where
  abbrev c : Phase → Controller
  c p = controller_of link h (tx a n s p) (meter now since cost)

  pub sending : (p : Phase) → PhaseIs link h p a n cost → Sends link (c p) h.store (asked_by p n)
  unfolding asked_of transfer_message words_asked transfer_words_at part_of messages_of
  sending idle i = refl
  sending (send_data b j) i =
      record {
        number = message_words_of (length b.block) j;
        asked = rw (last_suc j, lt-ltb j (messages (length b.block)) i.within);
        words = rw (last_suc j, lt-ltb j (messages (length b.block)) i.within, i.bytes);
        block = b.block;
        is = refl;
        within = i.within;
        fits = i.range.most;
      }
  sending (send_desc v k) i =
      let l : messages k ≤ messages k = omega arith in (
        record {
          asked = rw (last_suc (messages k), le-ltb (messages k) (messages k) l, eq-eqb (messages k) (messages k) refl);
          words = rw (last_suc (messages k), le-ltb (messages k) (messages k) l);
        },
        i.range,
      )
  sending await i = refl
  sending reading i = refl
  sending (reset_first (m_data j d)) i =
      let g = i.1.1 in
      let e : length (take h.size h.store) ≡ h.size = length-take h.size h.store ∙ omega (arith, g.most) in
      record {
        number = message_words_of h.size j;
        asked = rw (last_suc j, lt-ltb j (messages h.size) g.within);
        words = rw (last_suc j, lt-ltb j (messages h.size) g.within, g.bytes);
        block = take h.size h.store;
        is = sym g.bytes;
        within = rw e g.within;
        fits = rw e g.most;
      }
  sending (reset_first (m_desc v k z)) i =
      let g = i.1.1 in
      let l : messages z ≤ messages z = omega arith in (
        record {
          asked = rw (last_suc (messages z), le-ltb (messages z) (messages z) l, eq-eqb (messages z) (messages z) refl);
          words = rw (last_suc (messages z), le-ltb (messages z) (messages z) l, g.0);
        },
        rw g.0 g.1.range,
      )
  sending (reset_first m_reset) i = record { asked = refl; words = refl }
  sending (reset_first m_read) i = refl
  sending send_reset i = record { asked = refl; words = refl }
  sending await_reset i = refl
  sending reading_reset i = refl

-- what is seen of it
pub asks_same : (link : Link) (d : Controller) (store : List ℕ) (q : Asked) (f : Flight) → Sends link d store q → asking_of (asked_of d) (arrived_yet f) ≡ asks_for q f
asks_same link d store unasked f i = rw i
asks_same link d store (asked (m_data j b)) f i = rw i.asked
asks_same link d store (asked (m_desc v k z)) f i = rw i.0.asked
asks_same link d store (asked m_reset) f i = rw i.asked
asks_same link d store (asked m_read) f i = rw i
