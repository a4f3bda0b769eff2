-- What the wrong machines are built with gives the real calls at the real values, so only the named thing differs.
-- Assumes nothing.
use mathlib.Core.Path.{◌≡◌, refl}
use mathlib.Core.Bool.{cond}
use mathlib.Core.List.{List}
use Prim.Native.Nat.{ℕ}
use lib.Dec.{eqb}
use lib.ListN.{length}
use Rattle.std.proofs.Common.{Result, Ok, Err}
use Rattle.words.specs.Reading.{read_descriptor_of}
use Rattle.words.specs.Count.{distribution_count}
use Rattle.words.specs.Refusal.{refuse}
use Rattle.words.specs.declared.refusal.Refusal.{Refusal}
use Rattle.words.specs.declared.refusal.Refusal.TheVariants.{NotReady}
use Rattle.words.specs.declared.count.DistributionCount.{DistributionCount}
use Rattle.words.specs.declared.control.Quality.{Quality}
use Rattle.words.specs.declared.control.Control.{Control}
use Rattle.words.specs.declared.control.Control.TheVariants as D
use Rattle.dist_controller.specs.Submit.{limit}
use Rattle.dist_terminal.specs.Data.{data_of}
use Rattle.dist_terminal.specs.Descriptor.{short, judged_of, block_step, block_hand, descriptor_in, hand_in}
use Rattle.dist_terminal.specs.declared.state.Terminal.{Terminal}
use Rattle.dist_wrong.specs.Made.{real}
use Rattle.dist_wrong.specs.Machines.{controlled, as_told, admits_to, starts_to, Step, Held, step_by, hand_by, judging}
use Rattle.dist_wrong.proofs.Open.{opened}

pub controller_real : controlled (admits_to limit) (starts_to limit) real.asks as_told real.reports ≡ real
unfolding opened
controller_real = refl

abbrev real_step : Step
real_step t size quality count = block_step (judged_of t size quality count) t size count

abbrev real_hand : Held
real_hand t size quality count store hand = block_hand (judged_of t size quality count) t size store hand

step_same : (d : Result (Control Quality DistributionCount) Refusal) (t : Terminal) → step_by real_step d t ≡ descriptor_in d t
step_same (Ok D.Reset) t = refl
step_same (Ok (D.Block size quality count)) t = refl
step_same (Err n) t = refl

hand_same : (d : Result (Control Quality DistributionCount) Refusal) (t : Terminal) (store hand : List ℕ) → hand_by real_hand d t store hand ≡ hand_in d t store hand
hand_same (Ok D.Reset) t store hand = refl
hand_same (Ok (D.Block size quality count)) t store hand = refl
hand_same (Err n) t store hand = refl

pub terminal_real : judging judged_of ≡ real
unfolding opened
terminal_real = λ i.
    record {
      admits = real.admits;
      starts = real.starts;
      asks = real.asks;
      told = real.told;
      reports = real.reports;
      receives = λ t subaddress words store hand.
          cond (short t.link store hand) (refuse NotReady t)
          (cond (eqb subaddress 27)
          (cond (short t.link store hand) (refuse NotReady t) (step_same (read_descriptor_of distribution_count words t.link) t i))
          (data_of t subaddress (length words) store));
      hands = λ t subaddress words store hand.
          cond (short t.link (length store) (length hand)) hand
          (cond (eqb subaddress 27)
          (cond (short t.link (length store) (length hand)) hand (hand_same (read_descriptor_of distribution_count words t.link) t store hand i))
          hand);
    }
