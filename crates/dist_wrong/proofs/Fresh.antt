-- The fresh ends written out, so that a run need not compute how the message store was emptied; and the test of crate promises on them.
-- Assumes nothing.
use Prim.Native.Nat.{ℕ, ◌+◌}
use mathlib.Core.Path.{◌≡◌, refl, ap, subst, ◌∙◌}
use mathlib.Core.List.{List, ◌++◌, append-nil}
use native.Mathlib.Omega.{arith}
use lib.Dec.{T}
use lib.ListN.{length, replicate, drop_of_length-le}
use lib.Seq.{sets, sets-eq}
use Rattle.words.specs.Link.{configure_of, in_ranges, mode_allows, message_store_of, block_store_of}
use Rattle.words.specs.declared.link.Link.{Link}
use Rattle.stores.specs.Copying.{zeros_of}
use Rattle.dist_controller.specs.State as Controller
use Rattle.dist_controller.specs.Report as Report
use Rattle.dist_terminal.specs.State as Terminal
use Rattle.dist_terminal.specs.Calls as Calls
use Rattle.dist_terminal.specs.Calls.{emptied}
use Rattle.dist_pair.specs.State.{both}
use Rattle.dist_pair.specs.Events as Pair
use Rattle.promises.specs.Run.{Event, after}
use Rattle.promises.specs.Promise.{Promise}
use Rattle.promises.proofs.Convict.{passes, convict}
use Rattle.dist_promises.specs.Distribution.{Ends}
use Rattle.dist_wrong.specs.Made.{Ways, made, fresh0, fresh1, in_mode0, in_mode1}

abbrev zeros : ℕ → List ℕ
zeros n = replicate n 0

zeros_again : (n : ℕ) → sets (zeros n) 0 (zeros n) ≡ zeros n
zeros_again n =
    sets-eq (zeros n) (zeros n) 0 (omega arith)
    ∙ ap (λ (r : List ℕ). zeros n ++ r) (drop_of_length-le (zeros n) {i = 0 + length (zeros n)} (omega arith))
    ∙ append-nil (zeros n)

abbrev pub plainly : Link → ℕ → Ends
plainly link n =
    record {
      pair = both (Controller.fresh_of link 0) (Terminal.fresh_of link);
      store = zeros 1024;
      places = zeros n;
      hand = zeros 1024;
    }

abbrev link0 : Link
link0 = record { address = 5; mode = 0; subaddress = 11; largest = 1024; window = 2 }

abbrev link1 : Link
link1 = record { address = 5; mode = 1; subaddress = 11; largest = 1024; window = 2 }

abbrev pub plain0 : Ends
plain0 = plainly link0 1024

abbrev pub plain1 : Ends
plain1 = plainly link1 4096

emptied_zeros : (link : Link) (n : ℕ) → message_store_of link ≡ n → emptied link (zeros n) ≡ zeros n
unfolding emptied zeros_of
emptied_zeros link n e = ap (λ (m : ℕ). sets (zeros n) 0 (zeros m)) e ∙ zeros_again n

-- what configuring computes with, but for the emptied store
configuring : Unit {0}
unfolding configure_of in_ranges mode_allows message_store_of block_store_of Pair.configure_of Pair.places_configured Report.configuring_of Calls.configuring_of Calls.store_configured Calls.unfit_of
configuring = tt

same0 : fresh0 ≡ plain0
unfolding configuring
same0 = λ i.
    record { pair = plain0.pair; store = plain0.store; places = emptied_zeros link0 1024 refl i; hand = plain0.hand }

same1 : fresh1 ≡ plain1
unfolding configuring
same1 = λ i.
    record { pair = plain1.pair; store = plain1.store; places = emptied_zeros link1 4096 refl i; hand = plain1.hand }

pub plain_in_0 : (w : Ways) → Promise 1024 (in_mode0 w) → Promise 1024 (made w plain0)
plain_in_0 w p = subst (λ (x : Ends). Promise 1024 (made w x)) same0 p

pub convict_in_0 : (w : Ways) (es : List Event) → Promise 1024 (in_mode0 w) → T (passes (after (made w plain0) es).seen)
convict_in_0 w es p = convict 1024 (made w plain0) es (plain_in_0 w p)

pub convict_in_1 : (w : Ways) (es : List Event) → Promise 1024 (in_mode1 w) → T (passes (after (made w plain1) es).seen)
convict_in_1 w es p = convict 1024 (made w plain1) es (subst (λ (x : Ends). Promise 1024 (made w x)) same1 p)
