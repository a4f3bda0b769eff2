-- An outcome is told to a controller that resets: what it does is what the model does; and in every phase.
-- Assumes nothing.
use Prim.Native.Nat.{ℕ, ◌≤◌}
use mathlib.Core.Path.{◌≡◌, refl, ◌∙◌}
use mathlib.Core.Bool.{Bool, true, false}
use native.Mathlib.Omega.{arith}
use lib.Dec.{eqb}
use Rattle.std.proofs.Common.{Some}
use Rattle.words.specs.Link.{configured_of}
use Rattle.words.specs.Tick.{age_of}
use Rattle.words.specs.Control.{quality_of}
use Rattle.words.specs.Refusal.{refuse}
use Rattle.words.specs.declared.refusal.Refusal.TheVariants.{NothingAsked}
use Rattle.words.specs.declared.link.Link.{Link}
use Rattle.words.proofs.Ranges.{by}
use Rattle.dist_controller.specs.State.{with_finding}
use Rattle.dist_controller.specs.Told.{told_of, overdue_of, reset_sent_of, not_shown, reset_read_of, told_reset_reading, told_cut_reading}
use Rattle.dist_controller.specs.declared.state.Finding.{Finding}
use Rattle.dist_controller.specs.declared.state.Controller.{Controller}
use Rattle.promises.specs.Run.{ok}
use Rattle.dist_promises.proofs.Model.{Phase, idle, send_data, send_desc, await, reading, reset_first, send_reset, await_reset, reading_reset, Msg, m_data, m_desc, m_reset, m_read}
use Rattle.dist_promises.proofs.Model.{w_none, w_reset, w_count, w_error, Tx, Asked, unasked, asked, asked_by, Shown, s_confirmed, s_refused, s_other, shows_at, later, on_read_reset, of_reset, at}
use Rattle.dist_promises.proofs.Real.{Hidden, NotOpen, PhaseIs, CutIs}
use Rattle.dist_promises.proofs.Said.{shut}
use Rattle.dist_promises.proofs.SaysFrame.{quiet}
use Rattle.dist_promises.proofs.SameFrame.{tx}
use Rattle.dist_promises.proofs.Finding.{Spoken, none, bare, words, told_for, outcome_for, words_for, SpokenIs, found_else, finding_else}
use Rattle.dist_promises.proofs.Spoke.{Spoke, c, x, spoke_desc, spoke_data, spoke_read}

module _ (link : Link) (h : Hidden) (wide : ℕ) (a : Bool) (n s now since cost : ℕ) (conf : configured_of link ≡ true) (low : n ≤ 255) where
  abbrev Here : Spoken → Phase → Type 0
  Here sp p = Spoke link h wide a n s now since cost sp p

  abbrev ctl : Phase → Controller
  ctl p = c link h wide a n s now since cost p

  -- ---- a message that was out when the Reset was asked for

  spoke_cut : (sp : Spoken) → SpokenIs link wide sp → (m : Msg) → a ≡ false → NotOpen h.fate → CutIs link h m n cost → Here sp (reset_first m)
  unfolding told_of told_cut_reading
  spoke_cut sp w (m_data j d) e o i =
      record { size = h.size; quality = h.quality; fate = h.fate; found = h.found; is = rw (conf, i.gone); phase = (e, o); says = quiet h.fate a; count = low }
  spoke_cut sp w (m_desc v k z) e o i =
      record { size = z; quality = quality_of v; fate = h.fate; found = h.found; is = rw (conf, i.1.gone); phase = (e, o); says = quiet h.fate a; count = low }
  spoke_cut sp w m_reset e o i =
      record { size = h.size; quality = h.quality; fate = h.fate; found = h.found; is = rw conf; phase = (e, o); says = quiet h.fate a; count = low }
  spoke_cut sp w m_read e o i =
      let found = finding_else (ctl (reset_first m_read)) wide conf sp w in
      record { size = h.size; quality = h.quality; fate = h.fate; found = Some (found_else sp); is = rw (conf, found); phase = (e, o); says = quiet h.fate a; count = low }

  -- ---- the Reset descriptor

  spoke_reset : (sp : Spoken) → a ≡ false → NotOpen h.fate → Here sp send_reset
  unfolding told_of reset_sent_of
  spoke_reset none e o =
      record { size = h.size; quality = h.quality; fate = h.fate; found = h.found; is = rw conf; phase = o; says = quiet h.fate a; count = low }
  spoke_reset bare e o =
      record { size = h.size; quality = h.quality; fate = h.fate; found = h.found; is = rw conf; phase = (e, o); says = quiet h.fate a; count = low }
  spoke_reset (words w) e o =
      record { size = h.size; quality = h.quality; fate = h.fate; found = h.found; is = rw conf; phase = (e, o); says = quiet h.fate a; count = low }

  -- ---- a read of 27T for the Reset

  spoke_not_shown : (sp : Spoken) → SpokenIs link wide sp → a ≡ false → NotOpen h.fate → (f : Finding) (v : Shown) → found_else sp ≡ f → shows_at (told_for sp) n ≡ v
      → ((d : Controller) → reset_read_of d f ≡ not_shown d) → ((b : Bool) (z : Tx) → on_read_reset v b z ≡ at z (later b await_reset)) → of_reset v ≡ ok → Here sp reading_reset
  unfolding told_of told_reset_reading not_shown overdue_of age_of
  spoke_not_shown sp i e o f v q g again stays says =
      let found = finding_else (ctl reading_reset) wide conf sp i ∙ q in
      let y = x link h wide a n s now since cost in
      by y
      (λ z. record {
        size = h.size;
        quality = h.quality;
        fate = h.fate;
        found = Some f;
        is = rw (conf, found, again (with_finding (Some f) (ctl reading_reset)), g, stays y (tx a n s reading_reset), z);
        phase = rw (g, stays y (tx a n s reading_reset), z) o;
        says = rw (g, stays y (tx a n s reading_reset), says, z) (quiet h.fate a);
        count = rw (g, stays y (tx a n s reading_reset)) low;
      })
      (λ z. record {
        size = h.size;
        quality = h.quality;
        fate = h.fate;
        found = Some f;
        is = rw (conf, found, again (with_finding (Some f) (ctl reading_reset)), g, stays y (tx a n s reading_reset), z);
        phase = rw (g, stays y (tx a n s reading_reset), z) (e, o);
        says = rw (g, stays y (tx a n s reading_reset), says, z) (quiet h.fate a);
        count = rw (g, stays y (tx a n s reading_reset)) low;
      })

  spoke_shown : a ≡ false → NotOpen h.fate → Here (words w_reset) reading_reset
  unfolding told_of told_reset_reading reset_read_of
  spoke_shown e o =
      let found = finding_else (ctl reading_reset) wide conf (words w_reset) tt in
      record {
        size = h.size;
        quality = h.quality;
        fate = h.fate;
        found = (Some Finding.Reset);
        is = rw (conf, found);
        phase = o;
        says = rw (shut h.fate o, e);
        count = omega arith;
      }

  spoke_reset_read : (sp : Spoken) → SpokenIs link wide sp → a ≡ false → NotOpen h.fate → Here sp reading_reset
  unfolding reset_read_of
  spoke_reset_read none i e o = spoke_not_shown none i e o Finding.Lost s_other refl refl (λ d. refl) (λ b z. refl) refl
  spoke_reset_read bare i e o = spoke_not_shown bare i e o Finding.Lost s_other refl refl (λ d. refl) (λ b z. refl) refl
  spoke_reset_read (words w_none) i e o = spoke_not_shown (words w_none) i e o Finding.Other s_other refl refl (λ d. refl) (λ b z. refl) refl
  spoke_reset_read (words w_reset) i e o = spoke_shown e o
  spoke_reset_read (words (w_count k)) i e o =
      by (eqb k n)
      (λ q. spoke_not_shown (words (w_count k)) i e o Finding.Other s_confirmed refl (rw q) (λ d. refl) (λ b z. refl) refl)
      (λ q. spoke_not_shown (words (w_count k)) i e o Finding.Other s_other refl (rw q) (λ d. refl) (λ b z. refl) refl)
  spoke_reset_read (words (w_error k)) i e o =
      by (eqb k n)
      (λ q. spoke_not_shown (words (w_error k)) i e o Finding.Other s_refused refl (rw q) (λ d. refl) (λ b z. refl) refl)
      (λ q. spoke_not_shown (words (w_error k)) i e o Finding.Other s_other refl (rw q) (λ d. refl) (λ b z. refl) refl)

  -- ---- every phase

  -- nothing is asked for: 18
  abbrev pub Heard : Asked → Spoken → Phase → Type 0
  Heard unasked sp p = told_of (ctl p) (outcome_for sp) (words_for link wide sp) ≡ refuse NothingAsked (ctl p)
  Heard (asked m) sp p = Here sp p

  pub heard : (p : Phase) (sp : Spoken) → SpokenIs link wide sp → PhaseIs link h p a n cost → Heard (asked_by p n) sp p
  unfolding told_of
  heard idle sp w i = rw conf
  heard (send_data b j) sp w i = spoke_data link h wide a n s now since cost conf low sp b.verified b.block b.bytes j i
  heard (send_desc v k) sp w i = spoke_desc link h wide a n s now since cost conf low sp v k i
  heard await sp w i = rw conf
  heard reading sp w i = spoke_read link h wide a n s now since cost conf low sp w
  heard (reset_first m) sp w i = spoke_cut sp w m i.0 i.1.0 i.1.1
  heard send_reset sp w i = spoke_reset sp i.0 i.1
  heard await_reset sp w i = rw conf
  heard reading_reset sp w i = spoke_reset_read sp w i.0 i.1
