-- The model keeps the promise, whatever its parts and its window.
-- Assumes nothing.
use Prim.Native.Nat.{ℕ, zero, suc, ◌≤◌, ◌<◌}
use mathlib.Core.Path.{◌≡◌}
use mathlib.Core.Bool.{Bool, true, false}
use native.Mathlib.Omega.{arith}
use Rattle.promises.specs.Run.{World, after}
use Rattle.promises.specs.Promise.{Promise}
use Rattle.dist_promises.proofs.Parts.{Parts, Lawful}
use Rattle.dist_promises.proofs.Model.{model}
use Rattle.dist_promises.proofs.Circle.{Near}
use Rattle.dist_promises.proofs.Sync.{CloseHandled}
use Rattle.dist_promises.proofs.Waiting.{no_way}
use Rattle.dist_promises.proofs.Holds.{Holds, holds_run, stands, kept, counts, admits}
use Rattle.dist_promises.proofs.Tidy.{tidy_run}
use Rattle.dist_promises.proofs.Accepts.{accepts}
use Rattle.dist_promises.proofs.Begins.{confirms}

near : (a : Bool) (s n d : ℕ) → a ≡ true → CloseHandled a s n d → 0 < d → Near s n d
near false s n d e h z = no_way cc
near true s n zero e h z = absurd (let f : 0 < 0 → ⊥ = λ z. omega arith in f z)
near true s n (suc d) e h z = h

module _ (largest : ℕ) (P : Parts) (L : Lawful largest P) (small : largest ≤ 4096) (W : ℕ) where
  pub keeps : Promise largest (model P largest W)
  keeps =
      record {
        kept = λ es. kept largest P L W (after (model P largest W) es) (holds_run largest P L W es);
        counts = λ es. counts largest P L W (after (model P largest W) es) (holds_run largest P L W es);
        accepts = accepts largest P L W;
        admits = λ es b. admits largest P L W (after (model P largest W) es) b (holds_run largest P L W es);
        confirms = λ es b fs i.
            (let w : World (model P largest W) = after (model P largest W) es in
            let h : Holds largest P L W w = holds_run largest P L W es in
            let f = stands w.seen.sound w.state.tx.accepted w.state.rx.seen w.seen.started w.state.tx.spent i h.sync.standing in
            confirms largest P L small W w b fs
            (record {
              tidy = tidy_run largest P L W es;
              seen = f.1;
              near = near w.state.tx.accepted w.state.tx.spent w.state.tx.count w.state.rx.handled f.0 h.sync.handled;
            }));
      }
