-- The link is configured, the terminal restarts, a message arrives (document 01, "The two machines", "Distribution").
-- Assumes nothing.
use Rattle.std.specs.Prelude.{ℕ, Bool, cond, ◌||◌, List, Result, Ok, Err, ◌==◌, nat_lt, length}
use Rattle.std.proofs.lemmas.List.Edits.{sets}
use Rattle.words.specs.Link.{configure_of, message_store_of, block_store_of}
use Rattle.words.specs.Refusal.{accept, refuse}
use Rattle.words.specs.declared.refusal.Refusal.{Refusal}
use Rattle.words.specs.declared.refusal.Refusal.TheVariants.{NotReady, BadConfiguration}
use Rattle.words.specs.declared.link.Link.{Link}
use Rattle.words.specs.declared.link.Settings.{Settings}
use Rattle.stores.specs.Copying.{zeros_of}
use Rattle.dist_terminal.specs.State.{Step, fresh_of}
use Rattle.dist_terminal.specs.Data.{store_short, data_of, store_after}
use Rattle.dist_terminal.specs.Descriptor.{short, descriptor_of, hand_after}
use Rattle.dist_terminal.specs.declared.state.Terminal.{Terminal}

-- places are zero after configuring or a restart
unfoldable pub emptied : Link → List ℕ → List ℕ
emptied link store = sets store 0 (zeros_of (message_store_of link))

-- ---- a restart keeps the configuration; all else is fresh

unfoldable pub restart_of : Terminal → ℕ → Step
restart_of t store = cond (store_short t.link store) (refuse NotReady t) (accept (fresh_of t.link))

unfoldable pub store_restarted : Terminal → List ℕ → List ℕ
store_restarted t store = cond (store_short t.link (length store)) store (emptied t.link store)

-- ---- 20: a configuration outside the ranges, or a store too short

unfoldable pub unfit_of : Link → ℕ → ℕ → Bool
unfit_of link store hand = nat_lt store (message_store_of link) || nat_lt hand (block_store_of link)

-- configuring starts a new run; refused, it leaves an earlier one as it was
abbrev pub configuring_in : Result Link Refusal → Terminal → ℕ → ℕ → Step
configuring_in (Err r) t store hand = refuse r t
configuring_in (Ok link) t store hand = cond (unfit_of link store hand) (refuse BadConfiguration t) (accept (fresh_of link))

unfoldable pub configuring_of : Terminal → Settings → ℕ → ℕ → Step
configuring_of t settings store hand = configuring_in (configure_of settings) t store hand

abbrev pub store_in : Result Link Refusal → List ℕ → ℕ → List ℕ
store_in (Err r) store hand = store
store_in (Ok link) store hand = cond (unfit_of link (length store) hand) store (emptied link store)

unfoldable pub store_configured : Settings → List ℕ → ℕ → List ℕ
store_configured settings store hand = store_in (configure_of settings) store hand

-- ---- a message arrives: SA 27 has the descriptor, others data

unfoldable pub receive_of : Terminal → ℕ → List ℕ → ℕ → ℕ → Step
receive_of t subaddress words store hand =
    cond (short t.link store hand) (refuse NotReady t)
    (cond (subaddress == 27) (descriptor_of t words store hand) (data_of t subaddress (length words) store))

unfoldable pub store_received : Terminal → ℕ → List ℕ → List ℕ → ℕ → List ℕ
store_received t subaddress words store hand =
    cond (short t.link (length store) hand) store
    (cond (subaddress == 27) store (store_after t subaddress words store))

unfoldable pub hand_received : Terminal → ℕ → List ℕ → List ℕ → List ℕ → List ℕ
hand_received t subaddress words store hand =
    cond (short t.link (length store) (length hand)) hand
    (cond (subaddress == 27) (hand_after t words store hand) hand)
