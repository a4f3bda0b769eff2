-- A configured link, both ends fresh: where the pair and the model start.
-- Assumes nothing.
use Prim.Native.Nat.{ℕ, ◌≤◌}
use mathlib.Core.Path.{◌≡◌, refl, ap, sym, ◌∙◌}
use mathlib.Core.Bool.{Bool, true, false, ◌||◌}
use mathlib.Core.List.{List}
use native.Mathlib.Omega.{arith}
use lib.Dec.{ltb}
use lib.ListN.{length}
use Rattle.std.proofs.Common.{Ok, Err, None}
use borrow.Author.Tests.{ltb-false}
use Rattle.words.specs.Link.{in_ranges, configure_of, configured_of, message_store_of, block_store_of}
use Rattle.words.specs.Refusal.{Stepped, Answer, accept, refuse}
use Rattle.words.specs.declared.refusal.Refusal.{Refusal}
use Rattle.words.specs.declared.refusal.Refusal.TheVariants.{BadConfiguration}
use Rattle.words.specs.declared.link.Settings.{Settings}
use Rattle.words.specs.declared.control.Quality.TheVariants.{BestEffort}
use Rattle.words.specs.declared.link.Link.{Link}
use Rattle.words.proofs.Ranges.{by}
use Rattle.dist_controller.specs.Report as Controller
use Rattle.dist_controller.specs.State as ControllerState
use Rattle.dist_controller.specs.declared.state.Controller.{Controller as Sender}
use Rattle.dist_controller.specs.declared.state.Fate.TheVariants as Fate
use Rattle.dist_controller.specs.declared.state.Finding.TheVariants as Finding
use Rattle.dist_terminal.specs.Calls as Terminal
use Rattle.dist_terminal.specs.State as TerminalState
use Rattle.dist_terminal.specs.declared.state.Terminal.{Terminal as Receiver}
use Rattle.dist_pair.specs.State.{unconfigured}
use Rattle.dist_pair.specs.Events as Events
use Rattle.dist_promises.specs.Distribution.{distribution}
use Rattle.dist_promises.proofs.Modes.{Received, parts}
use Rattle.dist_promises.proofs.ModeStore.{fresh_again, long_enough}
use Rattle.dist_promises.proofs.Lawfully.{lawful}
use Rattle.dist_promises.proofs.Model.{State, model}
use Rattle.dist_promises.proofs.Real.{Hidden, real, Ground, Stands}

not_refused : {A : Type 0} (r : Refusal) → ◌≡◌ {A = Answer} (Err r) (Ok tt) → A
not_refused r e = absurd (let z : ◌≡◌ {A = ℕ} 0 1 = cc in omega arith)

neither : (a b : Bool) → (a || b) ≡ false → (a ≡ false) × (b ≡ false)
neither false b e = (refl, e)
neither true b e = absurd (let z : ◌≡◌ {A = ℕ} 0 1 = cc in omega arith)

abbrev pub settings : ℕ → ℕ → ℕ → ℕ → ℕ → Settings
settings address mode subaddress largest window =
    record { address = address; mode = mode; subaddress = subaddress; largest = largest; window = window }

module _ (address mode subaddress largest window : ℕ) (store places hand : List ℕ) where
  abbrev given : Settings
  given = settings address mode subaddress largest window

  abbrev pub link : Link
  link = record { address = address; mode = mode; subaddress = subaddress; largest = largest; window = window }

  abbrev answer : Answer
  answer = (Events.configure_of unconfigured given (length store) (length places) (length hand)).answer

  record Configured : Type 0 where
    ranges : in_ranges given ≡ true
    blocks : ltb (length store) largest ≡ false
    fit : Terminal.unfit_of link (length places) (length hand) ≡ false

  in_ranges_lem : in_ranges given ≡ true → configure_of given ≡ Ok link
  unfolding configure_of
  in_ranges_lem r = rw r

  out_of_ranges : in_ranges given ≡ false → configure_of given ≡ Err BadConfiguration
  unfolding configure_of
  out_of_ranges r = rw r

  abbrev controller : Stepped Sender (Unit {0})
  controller = Controller.configuring_of unconfigured.controller given (length store)

  abbrev terminal : Stepped Receiver (Unit {0})
  terminal = Terminal.configuring_of unconfigured.terminal given (length places) (length hand)

  -- either end alone
  controller_out : in_ranges given ≡ false → controller ≡ refuse BadConfiguration unconfigured.controller
  unfolding Controller.configuring_of
  controller_out r = rw (out_of_ranges r)

  controller_short : in_ranges given ≡ true → ltb (length store) largest ≡ true → controller ≡ refuse BadConfiguration unconfigured.controller
  unfolding Controller.configuring_of block_store_of
  controller_short r b = rw (in_ranges_lem r, b)

  controller_fresh : in_ranges given ≡ true → ltb (length store) largest ≡ false → controller ≡ accept (ControllerState.fresh_of link 0)
  unfolding Controller.configuring_of block_store_of
  controller_fresh r b = rw (in_ranges_lem r, b)

  terminal_short : in_ranges given ≡ true → Terminal.unfit_of link (length places) (length hand) ≡ true
      → terminal ≡ refuse BadConfiguration unconfigured.terminal
  unfolding Terminal.configuring_of
  terminal_short r u = rw (in_ranges_lem r, u)

  terminal_fresh : in_ranges given ≡ true → Terminal.unfit_of link (length places) (length hand) ≡ false
      → terminal ≡ accept (TerminalState.fresh_of link)
  unfolding Terminal.configuring_of
  terminal_fresh r u = rw (in_ranges_lem r, u)

  refused_first : controller ≡ refuse BadConfiguration unconfigured.controller → answer ≡ Err BadConfiguration
  unfolding Events.configure_of
  refused_first e = ap (λ (s : Stepped Sender (Unit {0})). (Events.configure_in s.answer s.state terminal unconfigured).answer) e

  refused_second : controller ≡ accept (ControllerState.fresh_of link 0) → terminal ≡ refuse BadConfiguration unconfigured.terminal → answer ≡ Err BadConfiguration
  unfolding Events.configure_of
  refused_second e f = λ i. (Events.configure_in (e i).answer (e i).state (f i) unconfigured).answer

  configured : answer ≡ Ok tt → Configured
  configured e =
      by (in_ranges given)
      (λ r. by (ltb (length store) largest)
      (λ b. not_refused _ (sym (refused_first (controller_short r b)) ∙ e))
      (λ b. by (Terminal.unfit_of link (length places) (length hand))
      (λ u. not_refused _ (sym (refused_second (controller_fresh r b) (terminal_short r u)) ∙ e))
      (λ u. record { ranges = r; blocks = b; fit = u })))
      (λ r. not_refused _ (sym (refused_first (controller_out r)) ∙ e))

  module _ (accepted : answer ≡ Ok tt) where
    abbrev c : Configured
    c = configured accepted

    pub is_configured : configured_of link ≡ true
    unfolding configured_of
    is_configured = c.ranges

    fits : (ltb (length places) (message_store_of link) ≡ false) × (ltb (length hand) largest ≡ false)
    unfolding Terminal.unfit_of block_store_of
    fits = neither (ltb (length places) (message_store_of link)) (ltb (length hand) largest) c.fit

    pub room : message_store_of link ≤ length places
    room = ltb-false (length places) (message_store_of link) fits.0

    abbrev pub ground : Ground link places
    ground =
        record {
          configured = is_configured;
          laws = lawful link places is_configured room;
          room = long_enough link places room;
          again = fresh_again link places room;
        }

    abbrev hidden : Hidden
    hidden =
        record { store = store; hand = hand; size = 0; quality = BestEffort; fate = None; found = None; shown = 0; caught = 0 }

    abbrev begin : State Received
    begin = (model (parts link places) largest window).fresh

    fresh_is : (distribution address mode subaddress largest window store places hand).fresh ≡ real link hidden begin
    unfolding Events.configure_of Events.places_configured Terminal.store_configured
    fresh_is = rw (controller_fresh c.ranges c.blocks, terminal_fresh c.ranges c.fit, in_ranges_lem c.ranges, c.fit)

    pub fresh_stands : Stands link places ground (distribution address mode subaddress largest window store places hand).fresh begin
    fresh_stands =
        record {
          hidden = hidden;
          is = fresh_is;
          facts = record {
            store = ltb-false (length store) largest c.blocks;
            hand = ltb-false (length hand) largest fits.1;
            whole = ground.laws.whole_fresh;
            holds = tt;
            shows = tt;
            flies = tt;
            count = omega arith;
            phase = tt;
          };
        }
