-- Two machines that answer alike at every event promise alike.
-- Assumes nothing.
use Prim.Native.Nat.{ℕ, min, ◌+◌, ◌*◌, ◌<◌}
use mathlib.Core.Path.{◌≡◌, refl, ap, subst, sym, ◌∙◌}
use mathlib.Core.Bool.{Bool, true, false}
use mathlib.Core.List.{List, [], ◌∷◌}
use lib.ListN.{length, replicate}
use Rattle.promises.specs.Run.{Block, Load, Event, submit, reset, deliver, Answer, ok, Asks, Machine, Ledger, begun, heard, new, noted, World, goes, run, after}
use Rattle.promises.specs.Promise.{Kept, turn, Pays, IsJudged, Comes, is_given, holding, Clear, Accepted, Confirmed, last_count, messages, Promise}
use Rattle.promises.proofs.Rule.{pay_map, judged_map}

-- a relation between the states of two machines that every event keeps
pub record Alike (M N : Machine) : Type 1 where
  pub Same : M.State → N.State → Type 0
  pub fresh : Same M.fresh N.fresh
  pub step : (e : Event) (s : M.State) (t : N.State) → Same s t → Same (M.step e s) (N.step e t)
  pub says : (e : Event) (s : M.State) (t : N.State) → Same s t → M.says e s ≡ N.says e t
  pub asks : (s : M.State) (t : N.State) → Same s t → M.asks s ≡ N.asks t
  pub parts : (s : M.State) (t : N.State) → Same s t → M.parts s ≡ N.parts t
  pub count : (s : M.State) (t : N.State) → Same s t → M.count s ≡ N.count t

module _ (M N : Machine) (A : Alike M N) where
  -- the onlooker writes down the same
  record Seen (w : World M) (v : World N) : Type 0 where
    states : A.Same w.state v.state
    seen : w.seen ≡ v.seen

  abbrev written : Event → Answer → Asks → Asks → Ledger → Ledger
  written e a x y l = noted (heard a e (begun e l)).pending (new e x y) (heard a e (begun e l))

  goes_alike : (e : Event) (w : World M) (v : World N) → Seen w v → Seen (goes M e w) (goes N e v)
  goes_alike e w v h =
      let r = A.step e w.state v.state h.states in
      record {
        states = r;
        seen = λ i. written e
            (A.says e w.state v.state h.states i)
            (A.asks w.state v.state h.states i)
            (A.asks (M.step e w.state) (N.step e v.state) r i)
            (h.seen i);
      }

  run_alike : (es : List Event) (w : World M) (v : World N) → Seen w v → Seen (run M es w) (run N es v)
  run_alike [] w v h = h
  run_alike (e ∷ es) w v h = run_alike es (goes M e w) (goes N e v) (goes_alike e w v h)

  after_alike : (es : List Event) → Seen (after M es) (after N es)
  after_alike es = run_alike es _ _ (record { states = A.fresh; seen = refl })

  module _
      (held : M.State → Bool) (held' : N.State → Bool) (same-held : (s : M.State) (t : N.State) → A.Same s t → held s ≡ held' t)
      (Good : Answer → ℕ → World M → Type 0) (Good' : Answer → ℕ → World N → Type 0)
      (good : (a : Answer) (m : ℕ) (w : World M) (v : World N) → Seen w v → Good' a m v → Good a m w) where
    abbrev Rest : ℕ → ℕ → Answer → List Event → World N → Type 0
    Rest m f a es v = IsJudged a (Good' a m v) (Comes N held' Good' m f es v)

    comes_alike : (es : List Event) (m f : ℕ) (w : World M) (v : World N) → Seen w v → Comes N held' Good' m f es v → Comes M held Good m f es w
    comes_alike [] m f w v h c = tt
    comes_alike (e ∷ es) m f w v h c =
        let s = w.state in
        let t = v.state in
        let r = h.states in
        let next = goes_alike e w v h in
        let p : Pays (turn e (M.asks s)) (held s) m f (λ m f. Rest m f (M.says e s) es (goes N e v)) =
        subst (λ (a : Answer). Pays (turn e (M.asks s)) (held s) m f (λ m f. Rest m f a es (goes N e v))) (sym (A.says e s t r))
        (subst (λ (b : Bool). Pays (turn e (M.asks s)) b m f (λ m f. Rest m f (N.says e t) es (goes N e v))) (sym (same-held s t r))
        (subst (λ (x : Asks). Pays (turn e x) (held' t) m f (λ m f. Rest m f (N.says e t) es (goes N e v))) (sym (A.asks s t r)) c)) in
        pay_map (turn e (M.asks s)) (held s) m f
        (λ m f. Rest m f (M.says e s) es (goes N e v))
        (λ m f. IsJudged (M.says e s) (Good (M.says e s) m (goes M e w)) (Comes M held Good m f es (goes M e w)))
        (λ m f. judged_map (M.says e s) (Good' (M.says e s) m (goes N e v)) (Good (M.says e s) m (goes M e w))
        (Comes N held' Good' m f es (goes N e v)) (Comes M held Good m f es (goes M e w))
        (good (M.says e s) m (goes M e w) (goes N e v) next)
        (comes_alike es m f (goes M e w) (goes N e v) next))
        p

  holding_alike : (s : M.State) (t : N.State) → A.Same s t → holding M s ≡ holding N t
  holding_alike s t r = ap is_given (A.says (deliver (replicate 4096 0)) s t r)

  clear_here : (s : M.State) (t : N.State) → A.Same s t → Clear N t → Clear M s
  clear_here s t r c = record { hand = holding_alike s t r ∙ c.hand; parts = A.parts s t r ∙ c.parts }

  clear_there : (s : M.State) (t : N.State) → A.Same s t → Clear M s → Clear N t
  clear_there s t r c = record { hand = sym (holding_alike s t r) ∙ c.hand; parts = sym (A.parts s t r) ∙ c.parts }

  accepted_here : (a : Answer) (m : ℕ) (w : World M) (v : World N) → Seen w v → Accepted N a m v → Accepted M a m w
  accepted_here a m w v h g = record { answer = g.answer; clear = clear_here w.state v.state h.states g.clear }

  confirmed_here : (b : Load) (before : List Block) (a : Answer) (m : ℕ) (w : World M) (v : World N) → Seen w v → Confirmed N b before a m v
      → Confirmed M b before a m w
  confirmed_here b before a m w v h g =
      record {
        answer = g.answer;
        delivered = ap (λ (l : Ledger). l.delivered) h.seen ∙ g.delivered;
        left = g.left;
        count = A.count w.state v.state h.states ∙ g.count;
        clear = clear_here w.state v.state h.states g.clear;
      }

  module _ (largest : ℕ) (p : Promise largest N) where
    counts_alike : (w : World M) (v : World N) → Seen w v → N.count v.state ≡ min v.seen.messages last_count
        → M.count w.state ≡ min w.seen.messages last_count
    counts_alike w v h c =
        A.count w.state v.state h.states ∙ c ∙ ap (λ (l : Ledger). min l.messages last_count) (sym h.seen)

    confirms_alike : (es : List Event) (b : Load) (fs : List Event) → (after M es).seen.sound ≡ true → Clear M (after M es).state
        → M.says (submit b) (after M es).state ≡ ok
        → Comes M (holding M) (Confirmed M b (after M es).seen.delivered) (2 * (messages (length b.block) + 2)) 2 fs (goes M (submit b) (after M es))
    confirms_alike es b fs i c o =
        let w = after M es in
        let v = after N es in
        let h = after_alike es in
        subst (λ (l : Ledger). Comes M (holding M) (Confirmed M b l.delivered) (2 * (messages (length b.block) + 2)) 2 fs (goes M (submit b) w))
        (sym h.seen)
        (comes_alike (holding M) (holding N) holding_alike (Confirmed M b v.seen.delivered) (Confirmed N b v.seen.delivered)
        (confirmed_here b v.seen.delivered)
        fs (2 * (messages (length b.block) + 2)) 2 (goes M (submit b) w) (goes N (submit b) v) (goes_alike (submit b) w v h)
        (p.confirms es b fs
        (ap (λ (l : Ledger). l.sound) (sym h.seen) ∙ i)
        (clear_there w.state v.state h.states c)
        (sym (A.says (submit b) w.state v.state h.states) ∙ o)))

    pub promise_alike : Promise largest M
    promise_alike =
        record {
          kept = λ es. subst Kept (sym (after_alike es).seen) (p.kept es);
          counts = λ es. counts_alike (after M es) (after N es) (after_alike es) (p.counts es);
          accepts = λ es fs. comes_alike (λ s. false) (λ s. false) (λ s t r. refl) (Accepted M) (Accepted N) accepted_here
              fs (2 * 3) 2 (goes M reset (after M es)) (goes N reset (after N es)) (goes_alike reset (after M es) (after N es) (after_alike es))
              (p.accepts es fs);
          admits = λ es b i o k u z. A.says (submit b) (after M es).state (after N es).state (after_alike es).states ∙
              p.admits es b
              (ap (λ (l : Ledger). l.sound) (sym (after_alike es).seen) ∙ i)
              (ap (λ (l : Ledger). l.pending) (sym (after_alike es).seen) ∙ o)
              (subst (λ (l : Ledger). l.started < 254) (after_alike es).seen k)
              u z;
          confirms = confirms_alike;
        }
