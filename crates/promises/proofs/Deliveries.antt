-- The rule for a wait that looks at the state and the deliveries alone, not at the rest of the ledger.
-- Assumes nothing.
use Prim.Native.Nat.{ℕ, zero, suc}
use mathlib.Core.Path.{◌≡◌, refl, ap, subst, sym, ◌∙◌}
use mathlib.Core.Bool.{Bool}
use mathlib.Core.List.{List, ◌∷◌}
use Rattle.promises.specs.Run.{Block, Event, submit, reset, frame, arrive, told_done, told_no_reply, restart_sender, restart_receiver, deliver}
use Rattle.promises.specs.Run.{Answer, denied, ok, accepted, confirmed, failed, gave, Machine, Ledger, begun, opened, heard, new, noted, World, goes}
use Rattle.promises.specs.Promise.{turn, Pays, IsJudged, Comes}
use Rattle.promises.proofs.Rule.{pay_map, Turns, comes}

abbrev pub gives : Answer → List Block → List Block
gives (gave b) d = b ∷ d
gives denied d = d
gives ok d = d
gives accepted d = d
gives confirmed d = d
gives (failed f) d = d

begun_delivered : (e : Event) (l : Ledger) → (begun e l).delivered ≡ l.delivered
begun_delivered reset l = refl
begun_delivered restart_sender l = refl
begun_delivered restart_receiver l = refl
begun_delivered (submit b) l = refl
begun_delivered frame l = refl
begun_delivered arrive l = refl
begun_delivered told_done l = refl
begun_delivered told_no_reply l = refl
begun_delivered (deliver buffer) l = refl

opened_delivered : (e : Event) (l : Ledger) → (opened e l).delivered ≡ l.delivered
opened_delivered (submit b) l = refl
opened_delivered reset l = refl
opened_delivered frame l = refl
opened_delivered arrive l = refl
opened_delivered told_done l = refl
opened_delivered told_no_reply l = refl
opened_delivered restart_sender l = refl
opened_delivered restart_receiver l = refl
opened_delivered (deliver buffer) l = refl

heard_delivered : (a : Answer) (e : Event) (l : Ledger) → (heard a e l).delivered ≡ gives a l.delivered
heard_delivered denied e l = refl
heard_delivered ok e l = opened_delivered e l
heard_delivered accepted e l = refl
heard_delivered confirmed e l = refl
heard_delivered (failed f) e l = refl
heard_delivered (gave b) e l = refl

noted_delivered : (p n : ℕ) (l : Ledger) → (noted p n l).delivered ≡ l.delivered
noted_delivered zero n l = refl
noted_delivered (suc p) n l = refl

pub goes_delivered : (M : Machine) (e : Event) (w : World M) → (goes M e w).seen.delivered ≡ gives (M.says e w.state) w.seen.delivered
goes_delivered M e w =
    let l : Ledger = heard (M.says e w.state) e (begun e w.seen) in
    noted_delivered l.pending (new e (M.asks w.state) (M.asks (M.step e w.state))) l
    ∙ heard_delivered (M.says e w.state) e (begun e w.seen)
    ∙ ap (gives (M.says e w.state)) (begun_delivered e w.seen)

judged_both : (a : Answer) (G H R S : Type 0) → (G → H) → (R → S) → IsJudged a G R → IsJudged a H S
judged_both denied G H R S g r p = r p
judged_both ok G H R S g r p = r p
judged_both (gave b) G H R S g r p = r p
judged_both accepted G H R S g r p = g p
judged_both confirmed G H R S g r p = g p
judged_both (failed f) G H R S g r p = g p

module _ (M : Machine) (held : M.State → Bool) (Good : Answer → ℕ → M.State → List Block → Type 0) where
  -- one event of a wait, with R for what is left of it
  abbrev pub Passes : (ℕ → ℕ → M.State → List Block → Type 0) → ℕ → ℕ → Event → M.State → List Block → Type 0
  Passes R m f e s d =
      Pays (turn e (M.asks s)) (held s) m f
      (λ m f. IsJudged (M.says e s) (Good (M.says e s) m (M.step e s) (gives (M.says e s) d)) (R m f (M.step e s) (gives (M.says e s) d)))

  -- Best is the wait's own: what is Good by the state and the deliveries is enough for it
  module _ (Best : Answer → ℕ → World M → Type 0) (good : (a : Answer) (m : ℕ) (w : World M) → Good a m w.state w.seen.delivered → Best a m w)
      (Live : ℕ → ℕ → M.State → List Block → Type 0) where
    lifts : (e : Event) (m f : ℕ) (w : World M) → Passes Live m f e w.state w.seen.delivered
        → Turns M held Best (λ m f w. Live m f w.state w.seen.delivered) m f e w
    lifts e m f w p =
        let s : M.State = w.state in
        let a : Answer = M.says e w.state in
        let d : List Block = gives (M.says e w.state) w.seen.delivered in
        let same : (goes M e w).seen.delivered ≡ d = goes_delivered M e w in
        pay_map (turn e (M.asks s)) (held s) m f
        (λ m f. IsJudged a (Good a m (M.step e s) d) (Live m f (M.step e s) d))
        (λ m f. IsJudged a (Best a m (goes M e w)) (Live m f (M.step e s) (goes M e w).seen.delivered))
        (λ m f. judged_both a (Good a m (M.step e s) d) (Best a m (goes M e w)) (Live m f (M.step e s) d) (Live m f (M.step e s) (goes M e w).seen.delivered)
        (λ g. good a m (goes M e w) (subst (λ (x : List Block). Good a m (M.step e s) x) (sym same) g))
        (λ h. subst (λ (x : List Block). Live m f (M.step e s) x) (sym same) h))
        p

    pub comes_on : ((e : Event) (m f : ℕ) (s : M.State) (d : List Block) → Live m f s d → Passes Live m f e s d)
        → (es : List Event) (m f : ℕ) (w : World M) → Live m f w.state w.seen.delivered → Comes M held Best m f es w
    comes_on law =
        comes M held Best (λ m f w. Live m f w.state w.seen.delivered)
        (λ e m f w h. lifts e m f w (law e m f w.state w.seen.delivered h))
