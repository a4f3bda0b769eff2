-- The words that are transmitted: as many as asked, at most a message's.
-- Assumes nothing.
use Rattle.std.proofs.Common.{◌≡◌, ℕ, ◌≤◌, eqb, ltb, cond, List, length, replicate, take, drop, length-take-le, ◌++◌, Ok, Err, arith, ltb-false, eqb-true, sym, ◌∙◌}
use Rattle.std.proofs.Math.Seq.{length-sets}
use Rattle.std.proofs.lemmas.List.{length-replicate}
use Rattle.std.proofs.lemmas.List.Edits.{sets}
use Rattle.words.specs.Cutting.{data_answer_of}
use Rattle.words.specs.Refusal.{Answer}
use Rattle.words.specs.declared.refusal.Refusal.TheVariants.{NotTwoWords}
use Rattle.words.specs.declared.link.Link.{Link}
use Rattle.words.proofs.Ranges.{by}
use Rattle.stores.proofs.Runs.{placed}
use Rattle.acq_terminal.specs.Transmit.{words_in, sent_of, answer_of}
use Rattle.acq_terminal.specs.declared.state.Terminal.{Terminal}
use Rattle.acq_terminal.proofs.Placing.{refused_not}

few_data : (link : Link) (subaddress asked : ℕ) → data_answer_of link subaddress asked ≡ Ok tt → asked ≤ 32
unfolding data_answer_of
few_data link subaddress asked e =
    by (eqb asked 0) (λ z. absurd (refused_not _ (rw z at e))) (λ z.
    by (ltb 32 asked) (λ l. absurd (refused_not _ (rw (z, l) at e))) (λ l. ltb-false 32 asked l))

few_shown : (asked : ℕ) → ◌≡◌ {A = Answer} (cond (eqb asked 2) (Ok tt) (Err NotTwoWords)) (Ok tt) → asked ≤ 32
few_shown asked e =
    by (eqb asked 2) (λ t. let n = eqb-true asked 2 t in omega arith) (λ f. absurd (refused_not _ (rw f at e)))

pub few : (link : Link) (subaddress asked : ℕ) → answer_of link subaddress asked ≡ Ok tt → asked ≤ 32
unfolding answer_of
few link subaddress asked e =
    by (eqb subaddress 28) (λ s. few_shown asked (rw s at e)) (λ s. few_data link subaddress asked (rw s at e))

pub length_sent : (t : Terminal) (subaddress asked : ℕ) (store : List ℕ) → length (sent_of t subaddress asked store) ≡ asked
unfolding sent_of
length_sent t subaddress asked store =
    length-sets (replicate asked 0) 0 (words_in t.stage t.link subaddress store) ∙ length-replicate asked 0

-- they stand at the start of the buffer that its first part was lent from
pub front : (t : Terminal) (subaddress asked : ℕ) (store out ys : List ℕ)
    → ys ≡ sent_of t subaddress (length (take asked out)) store → asked ≤ length out
    → ys ++ drop asked out ≡ sets out 0 (sent_of t subaddress asked store)
front t subaddress asked store out ys e h =
    rw (e, length-take-le asked out h)
    (placed out (sent_of t subaddress asked store) asked (sym (length_sent t subaddress asked store)) h)
