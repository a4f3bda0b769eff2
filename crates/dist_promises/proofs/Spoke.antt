-- An outcome is told to the controller: what it does is what the model does, phase by phase.
-- Assumes nothing.
use Prim.Native.Nat.{ℕ, suc, ◌≤◌, ◌<◌}
use mathlib.Core.Path.{◌≡◌, refl, ap, ◌∙◌}
use mathlib.Core.Bool.{Bool, true, false, cond}
use mathlib.Core.Logic.{⊎_elim}
use native.Mathlib.Omega.{arith}
use lib.Dec.{T, eqb, leb, ltb}
use lib.ListN.{length}
use borrow.Author.Tests.{le-ltb, lt-ltb, ne_eqb, ltb-true, ltb-false}
use Rattle.std.proofs.Common.{Option, Some}
use Rattle.words.specs.Link.{configured_of}
use Rattle.words.specs.Tick.{age_of}
use Rattle.words.specs.Control.{quality_of}
use Rattle.words.specs.Cutting.{messages_of}
use Rattle.words.specs.Refusal.{accept}
use Rattle.words.specs.declared.link.Link.{Link}
use Rattle.words.specs.declared.control.Quality.{Quality}
use Rattle.words.proofs.Ranges.{by, largest_cases}
use Rattle.dist_controller.specs.State.{counted_of, with_finding}
use Rattle.dist_controller.specs.Told.{told_of, sent_of, stops_of, overdue_of, unanswered_of, read_of, told_reading}
use Rattle.dist_controller.specs.declared.state.Fate.{Fate}
use Rattle.dist_controller.specs.declared.state.Finding.{Finding}
use Rattle.dist_controller.specs.declared.state.Controller.{Controller}
use Rattle.promises.specs.Run.{Block, Load, are_bytes, ok, failed, unconfirmed}
use Rattle.promises.specs.Promise.{messages}
use Rattle.dist_promises.proofs.Model.{Phase, send_data, send_desc, await, reading}
use Rattle.dist_promises.proofs.Model.{Word, w_none, w_reset, w_count, w_error, Tx, reply, told, stamped, costs, of_told, age, more, at, strictly, Shown, s_reset, s_other, shows_at, later, on_read, of_read}
use Rattle.dist_promises.proofs.Real.{Hidden, controller_of, fate_in, PhaseIs, SendingIs, DescIs, WordIs}
use Rattle.dist_promises.proofs.Said.{news_in}
use Rattle.dist_promises.proofs.SaysFrame.{quiet}
use Rattle.dist_promises.proofs.SameFrame.{tx, meter}
use Rattle.dist_promises.proofs.Finding.{Spoken, none, bare, words, told_for, outcome_for, words_for, SpokenIs, found_waiting, finding_waiting}

abbrev pub with_transfer : ℕ → Quality → Option Fate → Option Finding → Hidden → Hidden
with_transfer size quality fate found h =
    record {
      store = h.store;
      hand = h.hand;
      size = size;
      quality = quality;
      fate = fate;
      found = found;
      shown = h.shown;
      caught = h.caught;
    }

counted : (n : ℕ) → n < 65535 → counted_of n ≡ suc n
unfolding counted_of
counted n l = let ne : n ≡ 65535 → ⊥ = omega arith in rw (ne_eqb n 65535 ne) (omega arith)

counts_on : (n : ℕ) → n < 65535 → more n ≡ suc n
counts_on n l = let ne : n ≡ 65535 → ⊥ = omega arith in rw (ne_eqb n 65535 ne) (omega arith)

module _ (link : Link) (h : Hidden) (wide : ℕ) (a : Bool) (n s now since cost : ℕ) where
  abbrev pub c : Phase → Controller
  c p = controller_of link h (tx a n s p) (meter now since cost)

  -- the age is W or more
  abbrev pub x : Bool
  x = leb link.window (age now since)

  abbrev pub t : Spoken → Phase → Tx
  t sp p = told p (told_for sp) x (tx a n s p)

  pub record Spoke (sp : Spoken) (p : Phase) : Type 0 where
    pub size : ℕ
    pub quality : Quality
    pub fate : Option Fate
    pub found : Option Finding
    pub is : told_of (c p) (outcome_for sp) (words_for link wide sp)
        ≡ accept (controller_of link (with_transfer size quality fate found h) (t sp p) (meter now (stamped p (told_for sp) now since) (costs p (told_for sp) cost)))
    pub phase : PhaseIs link (with_transfer size quality fate found h) (t sp p).phase (t sp p).accepted (t sp p).count (costs p (told_for sp) cost)
    pub says : news_in (fate_in p h.fate) (fate_in (t sp p).phase fate) a (t sp p).accepted ≡ of_told p (told_for sp) n x
    pub count : (t sp p).count ≤ 255

  module _ (conf : configured_of link ≡ true) (low : n ≤ 255) where
    -- ---- the descriptor

    pub spoke_desc : (sp : Spoken) (v : Bool) (k : ℕ) → DescIs link k n cost → Spoke sp (send_desc v k)
    unfolding told_of sent_of messages_of
    spoke_desc sp v k i =
        let l : messages k < suc (messages k) = omega arith in
        record {
          size = k;
          quality = quality_of v;
          fate = h.fate;
          found = h.found;
          is = rw (conf, lt-ltb (messages k) (suc (messages k)) l, i.gone);
          phase = tt;
          says = quiet (Some Fate.Open) a;
          count = low;
        }

    -- ---- a data message

    abbrev load : Bool → (d : Block) → T (are_bytes d) → Load
    load v d q = record { verified = v; block = d; bytes = q }

    small : (size j : ℕ) → size ≤ link.largest → j < messages size → suc j < 65535
    small size j l k =
        ⊎_elim (λ (z : link.largest ≡ 1024). omega arith) (λ (z : link.largest ≡ 4096). omega arith) (largest_cases link conf)

    -- Verified Length, and no reply
    spoke_stop : (d : Block) (q : T (are_bytes d)) (j : ℕ) → SendingIs link (load true d q) j n cost h.store → Spoke none (send_data (load true d q) j)
    unfolding told_of sent_of messages_of stops_of
    spoke_stop d q j i =
        let l : suc j ≤ messages (length d) = i.within in
        record {
          size = length d;
          quality = quality_of true;
          fate = (Some Fate.Abandoned);
          found = h.found;
          is = rw (conf, le-ltb (messages (length d)) (suc j) l, i.gone);
          phase = tt;
          says = refl;
          count = low;
        }

    -- it goes on
    spoke_next : (sp : Spoken) (v : Bool) (d : Block) (q : T (are_bytes d)) (j : ℕ) (w : Word) → stops_of (quality_of v) (outcome_for sp) ≡ false
        → strictly v (told_for sp) ≡ reply w → SendingIs link (load v d q) j n cost h.store → Spoke sp (send_data (load v d q) j)
    unfolding told_of sent_of messages_of
    spoke_next sp v d q j w go re i =
        let l : suc j ≤ messages (length d) = i.within in
        let few = small (length d) j i.range.most i.within in
        let m : more cost ≡ suc (suc j) = ap more i.gone ∙ counts_on (suc j) few in
        by (ltb (suc j) (messages (length d)))
        (λ z. record {
          size = h.size;
          quality = h.quality;
          fate = h.fate;
          found = h.found;
          is = rw (conf, le-ltb (messages (length d)) (suc j) l, go, re, z, counted (suc j) few);
          phase = rw (re, z) (record { range = i.range; within = ltb-true (suc j) (messages (length d)) z; gone = m; bytes = i.bytes });
          says = rw (re, z) (quiet (Some Fate.Open) a);
          count = low;
        })
        (λ z.
        let last : suc j ≡ messages (length d) = omega (arith, ltb-false (suc j) (messages (length d)) z) in
        record {
          size = h.size;
          quality = h.quality;
          fate = h.fate;
          found = h.found;
          is = rw (conf, le-ltb (messages (length d)) (suc j) l, go, re, z, counted (suc j) few, last);
          phase = rw (re, z) (record { range = i.range; gone = m ∙ ap suc last });
          says = rw (re, z) (quiet (Some Fate.Open) a);
          count = low;
        })

    pub spoke_data : (sp : Spoken) (v : Bool) (d : Block) (q : T (are_bytes d)) (j : ℕ) → SendingIs link (load v d q) j n cost h.store → Spoke sp (send_data (load v d q) j)
    unfolding stops_of
    spoke_data none true d q j i = spoke_stop d q j i
    spoke_data bare true d q j i = spoke_next bare true d q j w_none refl refl i
    spoke_data (words w) true d q j i = spoke_next (words w) true d q j w refl refl i
    spoke_data none false d q j i = spoke_next none false d q j w_none refl refl i
    spoke_data bare false d q j i = spoke_next bare false d q j w_none refl refl i
    spoke_data (words w) false d q j i = spoke_next (words w) false d q j w_none refl refl i

    -- ---- a read

    -- it shows nothing of this transfer
    spoke_unanswered : (sp : Spoken) → SpokenIs link wide sp → (f : Finding) (v : Shown) → found_waiting sp n ≡ f → shows_at (told_for sp) n ≡ v
        → ((d : Controller) → read_of d f ≡ unanswered_of d) → ((b : Bool) (z : Tx) → on_read v b z ≡ at z (later b await))
        → ((b : Bool) → of_read v b ≡ cond b (failed unconfirmed) ok) → Spoke sp reading
    unfolding told_of told_reading unanswered_of overdue_of age_of
    spoke_unanswered sp i f v e g again stays says =
        let found = finding_waiting (c reading) wide conf sp i ∙ e in
        by x
        (λ z. record {
          size = h.size;
          quality = h.quality;
          fate = (Some Fate.Unconfirmed);
          found = Some f;
          is = rw (conf, found, again (with_finding (Some f) (c reading)), g, stays x (tx a n s reading), z);
          phase = rw (g, stays x (tx a n s reading), z) tt;
          says = rw (g, stays x (tx a n s reading), says x, z);
          count = rw (g, stays x (tx a n s reading)) low;
        })
        (λ z. record {
          size = h.size;
          quality = h.quality;
          fate = h.fate;
          found = Some f;
          is = rw (conf, found, again (with_finding (Some f) (c reading)), g, stays x (tx a n s reading), z);
          phase = rw (g, stays x (tx a n s reading), z) tt;
          says = rw (g, stays x (tx a n s reading), says x, z) (quiet (Some Fate.Open) a);
          count = rw (g, stays x (tx a n s reading)) low;
        })

    spoke_confirmed : (k : ℕ) → WordIs link wide (w_count k) → eqb k n ≡ true → Spoke (words (w_count k)) reading
    unfolding told_of told_reading read_of
    spoke_confirmed k i e =
        let found = finding_waiting (c reading) wide conf (words (w_count k)) i in
        record {
          size = h.size;
          quality = h.quality;
          fate = (Some Fate.Confirmed);
          found = (Some Finding.Confirmed);
          is = rw (conf, found, e);
          phase = rw e tt;
          says = rw e;
          count = rw e low;
        }

    spoke_refused : (k : ℕ) → WordIs link wide (w_error k) → eqb k n ≡ true → Spoke (words (w_error k)) reading
    unfolding told_of told_reading read_of
    spoke_refused k i e =
        let found = finding_waiting (c reading) wide conf (words (w_error k)) i in
        record {
          size = h.size;
          quality = h.quality;
          fate = (Some Fate.Refused);
          found = (Some Finding.Refused);
          is = rw (conf, found, e);
          phase = rw e tt;
          says = rw e;
          count = rw e low;
        }

    pub spoke_read : (sp : Spoken) → SpokenIs link wide sp → Spoke sp reading
    unfolding read_of
    spoke_read none i = spoke_unanswered none i Finding.Lost s_other refl refl (λ d. refl) (λ b z. refl) (λ b. refl)
    spoke_read bare i = spoke_unanswered bare i Finding.Lost s_other refl refl (λ d. refl) (λ b z. refl) (λ b. refl)
    spoke_read (words w_none) i = spoke_unanswered (words w_none) i Finding.Other s_other refl refl (λ d. refl) (λ b z. refl) (λ b. refl)
    spoke_read (words w_reset) i = spoke_unanswered (words w_reset) i Finding.Reset s_reset refl refl (λ d. refl) (λ b z. refl) (λ b. refl)
    spoke_read (words (w_count k)) i =
        by (eqb k n) (spoke_confirmed k i)
        (λ e. spoke_unanswered (words (w_count k)) i Finding.Other s_other (rw e) (rw e) (λ d. refl) (λ b z. refl) (λ b. refl))
    spoke_read (words (w_error k)) i =
        by (eqb k n) (spoke_refused k i)
        (λ e. spoke_unanswered (words (w_error k)) i Finding.Other s_other (rw e) (rw e) (λ d. refl) (λ b z. refl) (λ b. refl))
