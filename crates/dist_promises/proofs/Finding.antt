-- What a read of 27T finds, at the pair and in the model.
-- Assumes nothing.
use Prim.Native.Nat.{ℕ}
use mathlib.Core.Path.{◌≡◌, refl}
use mathlib.Core.Bool.{true, false, cond}
use mathlib.Core.List.{List, []}
use native.Mathlib.Omega.{arith}
use lib.Dec.{eqb}
use Rattle.std.proofs.Common.{Some, None, Err}
use borrow.Author.Tests.{le-ltb, ne_eqb}
use Rattle.words.specs.Allowed.{Allowed}
use Rattle.words.specs.Link.{configured_of}
use Rattle.words.specs.Cutting.{size_answer_of}
use Rattle.words.specs.Count.{distribution_count}
use Rattle.words.specs.Control.{list_of}
use Rattle.words.specs.Reading.{plain_of, control_of, read_of, read_confirmation_of}
use Rattle.words.specs.declared.link.Link.{Link}
use Rattle.words.specs.declared.refusal.Refusal.TheVariants.{OtherLink}
use Rattle.words.specs.declared.status.Outcome.{Outcome}
use Rattle.words.specs.declared.status.Outcome.TheVariants.{Done, NoReply}
use Rattle.words.proofs.Ranges.{by, link_ranges}
use Rattle.words.proofs.Round.{distribution_confirmation_back, reset_confirmation_back}
use Rattle.dist_controller.specs.Told.{lost_of, confirmation_found, finding_of}
use Rattle.dist_controller.specs.declared.state.Finding.{Finding}
use Rattle.dist_controller.specs.declared.state.Controller.{Controller}
use Rattle.dist_terminal.specs.State.{nothing_yet}
use Rattle.dist_promises.proofs.Model.{Word, w_none, w_reset, w_count, w_error, Told, reply, no_reply}
use Rattle.dist_promises.proofs.Real.{Within, WordIs, shown_of}

-- how an outcome is told: no reply; done, with no words; done, with the words of 27T
pub data Spoken : Type 0 where
  none bare : Spoken
  words : Word → Spoken

abbrev pub told_for : Spoken → Told
told_for none = no_reply
told_for bare = reply w_none
told_for (words w) = reply w

abbrev pub outcome_for : Spoken → Outcome
outcome_for none = NoReply
outcome_for bare = Done
outcome_for (words w) = Done

abbrev pub words_for : Link → ℕ → Spoken → List ℕ
words_for link size none = []
words_for link size bare = []
words_for link size (words w) = list_of (shown_of link size w)

abbrev pub SpokenIs : Link → ℕ → Spoken → Type 0
SpokenIs link size none = Unit {0}
SpokenIs link size bare = Unit {0}
SpokenIs link size (words w) = WordIs link size w

-- what a transfer that waits for count n finds; what none finds
abbrev pub found_waiting : Spoken → ℕ → Finding
found_waiting none n = Finding.Lost
found_waiting bare n = Finding.Lost
found_waiting (words w_none) n = Finding.Other
found_waiting (words w_reset) n = Finding.Reset
found_waiting (words (w_count c)) n = cond (eqb c n) Finding.Confirmed Finding.Other
found_waiting (words (w_error c)) n = cond (eqb c n) Finding.Refused Finding.Other

abbrev pub found_else : Spoken → Finding
found_else none = Finding.Lost
found_else bare = Finding.Lost
found_else (words w_none) = Finding.Other
found_else (words w_reset) = Finding.Reset
found_else (words (w_count c)) = Finding.Other
found_else (words (w_error c)) = Finding.Other

pub allowed : (link : Link) (size c : ℕ) → configured_of link ≡ true → Within link size c → Allowed link size c
unfolding size_answer_of
allowed link size c conf i =
    let ne : size ≡ 0 → ⊥ = omega (arith, i.some) in
    record {
      configured = conf;
      fits = rw (ne_eqb size 0 ne, le-ltb link.largest size i.most);
      some = i.low;
      byte = omega (arith, i.high);
    }

-- two zero words name subaddress 0, which no link has
zero_read : (link : Link) → configured_of link ≡ true → read_confirmation_of distribution_count (list_of nothing_yet) link ≡ Err OtherLink
unfolding read_confirmation_of read_of control_of plain_of
zero_read link conf =
    let r = link_ranges link conf in
    let ne : 0 ≡ link.subaddress → ⊥ = omega (arith, r.from) in
    by (eqb 0 link.mode) (λ q. rw (q, ne_eqb 0 link.subaddress ne)) (λ q. rw q)

module _ (link : Link) (conf : configured_of link ≡ true) (size n : ℕ) where
  found_waiting_lem : (w : Word) → WordIs link size w
      → confirmation_found (read_confirmation_of distribution_count (list_of (shown_of link size w)) link) (Some (distribution_count n)) ≡ found_waiting (words w) n
  unfolding confirmation_found
  found_waiting_lem w_none i = rw (zero_read link conf)
  found_waiting_lem w_reset i = rw (reset_confirmation_back distribution_count link)
  found_waiting_lem (w_count c) i =
      rw (distribution_confirmation_back link size false (distribution_count c) (allowed link size c conf i)) (by (eqb c n) (λ q. rw q) (λ q. rw q))
  found_waiting_lem (w_error c) i =
      rw (distribution_confirmation_back link size true (distribution_count c) (allowed link size c conf i)) (by (eqb c n) (λ q. rw q) (λ q. rw q))

  found_else_lem : (w : Word) → WordIs link size w
      → confirmation_found (read_confirmation_of distribution_count (list_of (shown_of link size w)) link) None ≡ found_else (words w)
  unfolding confirmation_found
  found_else_lem w_none i = rw (zero_read link conf)
  found_else_lem w_reset i = rw (reset_confirmation_back distribution_count link)
  found_else_lem (w_count c) i = rw (distribution_confirmation_back link size false (distribution_count c) (allowed link size c conf i))
  found_else_lem (w_error c) i = rw (distribution_confirmation_back link size true (distribution_count c) (allowed link size c conf i))

-- of a controller on that link whose count is n
pub finding_waiting : (c : Controller) (size : ℕ) → configured_of c.link ≡ true → (sp : Spoken) → SpokenIs c.link size sp
    → finding_of c (Some c.standing.count) (outcome_for sp) (words_for c.link size sp) ≡ found_waiting sp c.standing.count.0
unfolding finding_of lost_of
finding_waiting c size conf none i = refl
finding_waiting c size conf bare i = refl
finding_waiting c size conf (words w) i = found_waiting_lem c.link conf size c.standing.count.0 w i

pub finding_else : (c : Controller) (size : ℕ) → configured_of c.link ≡ true → (sp : Spoken) → SpokenIs c.link size sp
    → finding_of c None (outcome_for sp) (words_for c.link size sp) ≡ found_else sp
unfolding finding_of lost_of
finding_else c size conf none i = refl
finding_else c size conf bare i = refl
finding_else c size conf (words w) i = found_else_lem c.link conf size c.standing.count.0 w i
