-- The controller's message count is the onlooker's.
-- Assumes nothing.
use Prim.Native.Nat.{ℕ, zero, suc, min, ◌+◌, ◌-◌}
use mathlib.Core.Path.{◌≡◌, refl, subst, sym}
use mathlib.Core.Bool.{Bool, true, false, cond, ◌&&◌}
use native.Mathlib.Omega.{arith}
use lib.Dec.{eqb, ltb, leb}
use lib.ListN.{length}
use borrow.Author.Tests.{eqb-true, eqb-false}
use Rattle.promises.specs.Run.{Block, Load, Event, submit, reset, frame, arrive, told_done, told_no_reply, restart_sender, restart_receiver, deliver, Ledger, heard, begun, opened, noted}
use Rattle.promises.specs.Run.{Answer, denied, ok, accepted, confirmed, failed, gave, refused, unconfirmed, abandoned, Asks, nothing, sends, reads, one, first, new}
use Rattle.promises.specs.Run as Run
use Rattle.promises.specs.Promise.{messages, last_count}
use Rattle.dist_promises.proofs.Parts.{Parts, Lawful}
use Rattle.dist_promises.proofs.Model.{m_data, m_desc, m_reset, m_read, Asked, unasked, asked, Word, w_none, Hand, empty, held, Flight, away, came, caught, Told, reply, no_reply}
use Rattle.dist_promises.proofs.Model.{Phase, idle, send_data, send_desc, await, reading, reset_first, send_reset, await_reset, reading_reset}
use Rattle.dist_promises.proofs.Model.{Shown, s_confirmed, s_refused, s_reset, s_other, Tx, Rx, Meter, State, limit, sized, submits, started, asked_by, is_open, strictly, behind, if_done, on_read, on_read_reset}
use Rattle.dist_promises.proofs.Model.{told, framed, more, age, cost_data, costs, asks_read, of_data, of_told, of_read, of_reset, of_take, shows_at, asks_for, landed, step, says, done_in, done_says}
use Rattle.dist_promises.proofs.SafeLists.{tx}
use Rattle.dist_promises.proofs.SyncStep.{heard_told, ripe}

-- c is what a message count gives for l's messages
abbrev pub Counted : ℕ → Ledger → Type 0
Counted c l = c ≡ min l.messages last_count

-- ---- the count

more_at : (q : Bool) (c k : ℕ) → eqb c 65535 ≡ q → c ≡ min k last_count → cond q 65535 (c + 1) ≡ min (k + 1) last_count
more_at true c k e h = let z = eqb-true c 65535 e in omega arith
more_at false c k e h = let z = eqb-false c 65535 e in omega (arith, z)

more_counts : (c k : ℕ) → c ≡ min k last_count → more c ≡ min (k + 1) last_count
more_counts c k h = more_at (eqb c 65535) c k refl h

-- nothing newly asked for
noted_none : (p c : ℕ) (l : Ledger) → Counted c l → Counted c (noted p 0 l)
noted_none zero c l h = h
noted_none (suc p) c l h = omega arith

-- nothing pending
noted_closed : (p c n : ℕ) (l : Ledger) → p ≡ 0 → Counted c l → Counted c (noted p n l)
noted_closed zero c n l e h = h
noted_closed (suc p) c n l e h = let z : ◌≡◌ {A = ℕ} 0 1 = omega arith in omega arith

-- one message, of the pending submission
noted_one : (p c : ℕ) (l : Ledger) → p ≡ 1 → Counted c l → Counted (more c) (noted p 1 l)
noted_one zero c l e h = let z : ◌≡◌ {A = ℕ} 0 1 = e in omega arith
noted_one (suc p) c l e h = more_counts c l.messages h

-- the first message of a submission
noted_first : (p : ℕ) (l : Ledger) → p ≡ 1 → l.messages ≡ 0 → Counted 1 (noted p 1 l)
noted_first zero l e h = let z : ◌≡◌ {A = ℕ} 0 1 = e in omega arith
noted_first (suc p) l e h = omega arith

first_same : (a : Asks) → first a a ≡ 0
first_same nothing = refl
first_same (sends y) = refl
first_same (reads y) = refl

noted_same : (a : Asks) (p c : ℕ) (l : Ledger) → Counted c l → Counted c (noted p (first a a) l)
noted_same a p c l h = subst (λ (n : ℕ). Counted c (noted p n l)) (sym (first_same a)) (noted_none p c l h)

-- ---- a submission, a frame

abbrev asks : Tx → Flight → Asks
asks t f = asks_for (asked_by t.phase t.count) f

-- after an event with answer a, with the ledger l at its beginning
abbrev later : Event → Answer → Asks → Asks → Ledger → Ledger
later e a x y l = noted (heard a e l).pending (new e x y) (heard a e l)

submit_counts : (a : Bool) (p : Phase) (q : Bool) (n s : ℕ) (f : Flight) (b : Load) (l : Ledger) (c : ℕ) → l.pending ≡ cond (is_open p) 1 0 → Counted c l
    → Counted (cond (submits a p q) 1 c)
    (later (submit b) (cond (submits a p q) ok denied) (asks (tx a n s p) f) (asks (started (submits a p q) b (tx a n s p)) f) l)
submit_counts false p q n s f b l c e h = noted_same (asks (tx false n s p) f) l.pending c l h
submit_counts true idle false n s f b l c e h = noted_none l.pending c l h
submit_counts true idle true n s f b l c e h = noted_first (l.pending + 1) (opened (submit b) l) (omega arith) refl
submit_counts true (send_data d j) q n s f b l c e h = noted_none l.pending c l h
submit_counts true (send_desc v k) q n s f b l c e h = noted_none l.pending c l h
submit_counts true await q n s f b l c e h = noted_none l.pending c l h
submit_counts true reading q n s f b l c e h = noted_none l.pending c l h
submit_counts true (reset_first m) q n s f b l c e h = noted_same (asks (tx true n s (reset_first m)) f) l.pending c l h
submit_counts true send_reset q n s f b l c e h = noted_none l.pending c l h
submit_counts true await_reset q n s f b l c e h = noted_none l.pending c l h
submit_counts true reading_reset q n s f b l c e h = noted_none l.pending c l h

frame_counts : (p : Phase) (x a : Bool) (n s : ℕ) (f : Flight) (l : Ledger) (c : ℕ) → l.pending ≡ cond (is_open p) 1 0 → Counted c l
    → Counted (asks_read p x c) (later frame ok (asks (tx a n s p) f) (asks (tx a n s (framed p x)) f) l)
frame_counts idle x a n s f l c e h = noted_none l.pending c l h
frame_counts (send_data b j) x a n s f l c e h = noted_none l.pending c l h
frame_counts (send_desc v k) x a n s f l c e h = noted_none l.pending c l h
frame_counts await true a n s f l c e h = noted_one l.pending c l e h
frame_counts await false a n s f l c e h = noted_none l.pending c l h
frame_counts reading x a n s f l c e h = noted_none l.pending c l h
frame_counts (reset_first m) x a n s f l c e h = noted_same (asks (tx a n s (reset_first m)) f) l.pending c l h
frame_counts send_reset x a n s f l c e h = noted_none l.pending c l h
frame_counts await_reset true a n s f l c e h = noted_closed l.pending c 1 l e h
frame_counts await_reset false a n s f l c e h = noted_none l.pending c l h
frame_counts reading_reset x a n s f l c e h = noted_none l.pending c l h

-- ---- an outcome

-- what is asked for behind a message that is told
abbrev followed : Asked → Asks → ℕ
followed unasked x = 0
followed (asked m) x = one x

behind_followed : (a : Asked) (f : Flight) (x : Asks) → followed a x ≡ Run.behind (asks_for a f) x
behind_followed unasked f x = refl
behind_followed (asked (m_data j b)) f x = refl
behind_followed (asked (m_desc q c n)) f x = refl
behind_followed (asked m_reset) f x = refl
behind_followed (asked m_read) f x = refl

came_followed : (a : Asked) (x : Asks) → followed a x ≡ Run.behind_arrived (asks_for a came) x
came_followed unasked x = refl
came_followed (asked (m_data j b)) x = refl
came_followed (asked (m_desc q c n)) x = refl
came_followed (asked m_reset) x = refl
came_followed (asked m_read) x = refl

caught_followed : (a : Asked) (w : Word) (x : Asks) → followed a x ≡ Run.behind_arrived (asks_for a (caught w)) x
caught_followed unasked w x = refl
caught_followed (asked (m_data j b)) w x = refl
caught_followed (asked (m_desc q c n)) w x = refl
caught_followed (asked m_reset) w x = refl
caught_followed (asked m_read) w x = refl

-- a message that has not arrived is not told done
away_followed : (a : Asked) (x : Asks) → Run.behind_arrived (asks_for a away) x ≡ 0
away_followed unasked x = refl
away_followed (asked (m_data j b)) x = refl
away_followed (asked (m_desc q c n)) x = refl
away_followed (asked m_reset) x = refl
away_followed (asked m_read) x = refl

-- with k messages newly asked for
abbrev hearing : Answer → ℕ → Ledger → Ledger
hearing a k l = noted (heard a told_done l).pending k (heard a told_done l)

data_counts : (o : Told) (q : Bool) (a : Bool) (n s : ℕ) (f : Flight) (b : Load) (j : ℕ) (l : Ledger) (c : ℕ) → l.pending ≡ 1 → Counted c l
    → Counted (cost_data o c) (hearing (of_data o) (one (asks (tx a n s (if_done o (behind q b j))) f)) l)
data_counts (reply w) true a n s f b j l c e h = noted_one l.pending c l e h
data_counts (reply w) false a n s f b j l c e h = noted_one l.pending c l e h
data_counts no_reply q a n s f b j l c e h = noted_none (l.pending - 1) c (heard (failed abandoned) told_done l) h

read_counts : (v : Shown) (x a : Bool) (n s : ℕ) (f : Flight) (l : Ledger) (c : ℕ) → Counted c l
    → Counted c (hearing (of_read v x) (one (asks (on_read v x (tx a n s reading)) f)) l)
read_counts s_confirmed x a n s f l c h = noted_none (l.pending - 1) c (heard confirmed told_done l) h
read_counts s_refused x a n s f l c h = noted_none (l.pending - 1) c (heard (failed refused) told_done l) h
read_counts s_reset true a n s f l c h = noted_none (l.pending - 1) c (heard (failed unconfirmed) told_done l) h
read_counts s_reset false a n s f l c h = noted_none l.pending c l h
read_counts s_other true a n s f l c h = noted_none (l.pending - 1) c (heard (failed unconfirmed) told_done l) h
read_counts s_other false a n s f l c h = noted_none l.pending c l h

wait_counts : (v : Shown) (k : ℕ) (l : Ledger) (c : ℕ) → l.pending ≡ 0 → Counted c l → Counted c (hearing (of_reset v) k l)
wait_counts s_confirmed k l c e h = noted_closed l.pending c k l e h
wait_counts s_refused k l c e h = noted_closed l.pending c k l e h
wait_counts s_reset k l c e h = noted_closed l.pending c k (heard accepted told_done l) e h
wait_counts s_other k l c e h = noted_closed l.pending c k l e h

sent_counts : (o : Told) (a : Bool) (n s : ℕ) (f : Flight) (l : Ledger) (c : ℕ) → Counted c l
    → Counted c (hearing ok (one (asks (tx a n s (if_done o await_reset)) f)) l)
sent_counts (reply w) a n s f l c h = noted_none l.pending c l h
sent_counts no_reply a n s f l c h = noted_none l.pending c l h

told_counts : (p : Phase) (o : Told) (x a : Bool) (n s : ℕ) (f : Flight) (l : Ledger) (c : ℕ) → l.pending ≡ cond (is_open p) 1 0 → Counted c l
    → Counted (costs p o c) (hearing (of_told p o n x) (followed (asked_by p n) (asks (told p o x (tx a n s p)) f)) l)
told_counts idle o x a n s f l c e h = noted_none l.pending c l h
told_counts (send_data b j) o x a n s f l c e h =
    data_counts (strictly b.verified o) (ltb (suc j) (messages (length b.block))) a n s f b j l c e h
told_counts (send_desc v k) o x a n s f l c e h = noted_none l.pending c l h
told_counts await o x a n s f l c e h = noted_none l.pending c l h
told_counts reading o x a n s f l c e h = read_counts (shows_at o n) x a n s f l c h
told_counts (reset_first m) o x a n s f l c e h = noted_closed l.pending c 1 l e h
told_counts send_reset o x a n s f l c e h = sent_counts o a n s f l c h
told_counts await_reset o x a n s f l c e h = noted_none l.pending c l h
told_counts reading_reset o x a n s f l c e h =
    wait_counts (shows_at o n) (one (asks (on_read_reset (shows_at o n) x (tx a n s reading_reset)) f)) l c e h

-- ---- a Reset, a take

reset_counts : (q : Bool) (l : Ledger) (c : ℕ) → Counted c l → Counted c (later reset (cond q (failed abandoned) ok) nothing nothing (begun reset l))
reset_counts true l c h = noted_none (l.pending - 1) c (heard (failed abandoned) reset (begun reset l)) h
reset_counts false l c h = noted_none l.pending c (begun reset l) h

held_counts : (y : Bool) (b buffer : Block) (l : Ledger) (c : ℕ) → Counted c l → Counted c (later (deliver buffer) (cond y denied (gave b)) nothing nothing l)
held_counts true b buffer l c h = noted_none l.pending c l h
held_counts false b buffer l c h = noted_none l.pending c (heard (gave b) (deliver buffer) l) h

take_counts : (d : Hand) (buffer : Block) (l : Ledger) (c : ℕ) → Counted c l → Counted c (later (deliver buffer) (of_take d (length buffer)) nothing nothing l)
take_counts empty buffer l c h = noted_none l.pending c l h
take_counts (held k b) buffer l c h = held_counts (ltb (length buffer) (length b)) b buffer l c h

module _ (largest : ℕ) (P : Parts) (L : Lawful largest P) (W : ℕ) where
  abbrev st : Tx → Rx P.Store → Flight → Meter → State P.Store
  st t r f u = record { tx = t; rx = r; flight = f; meter = u }

  -- the told message leaves the bus, and with it goes that it arrived
  told_at : (o : Told) (k : ℕ) (t : Tx) (f : Flight) (u : Meter) (l : Ledger)
      → followed (asked_by t.phase t.count) (asks (told t.phase o (leb W (age u.now u.since)) t) (landed (asked_by t.phase t.count) f)) ≡ k
      → l.pending ≡ cond (is_open t.phase) 1 0 → Counted u.cost l
      → Counted (costs t.phase o u.cost) (hearing (of_told t.phase o t.count (leb W (age u.now u.since))) k l)
  told_at o k t f u l z e h =
      subst (λ (m : ℕ). Counted (costs t.phase o u.cost) (hearing (of_told t.phase o t.count (leb W (age u.now u.since))) m l)) z
      (told_counts t.phase o (leb W (age u.now u.since)) t.accepted t.count t.spent (landed (asked_by t.phase t.count) f) l u.cost e h)

  abbrev asked_at_state : State P.Store → Asks
  asked_at_state s = asks s.tx s.flight

  done_counts : (f : Flight) (t : Tx) (r : Rx P.Store) (u : Meter) (l : Ledger) → l.pending ≡ cond (is_open t.phase) 1 0 → Counted u.cost l
      → Counted (done_in P W f (st t r f u)).meter.cost (later told_done (done_says P W f (st t r f u)) (asks t f) (asked_at_state (done_in P W f (st t r f u))) l)
  done_counts away t r u l e h =
      subst (λ (m : ℕ). Counted u.cost (noted l.pending m l)) (sym (away_followed (asked_by t.phase t.count) (asks t away)))
      (noted_none l.pending u.cost l h)
  done_counts came t r u l e h = told_at (reply w_none) _ t came u l (came_followed (asked_by t.phase t.count) _) e h
  done_counts (caught w) t r u l e h = told_at (reply w) _ t (caught w) u l (caught_followed (asked_by t.phase t.count) w _) e h

  no_reply_counts : (t : Tx) (f : Flight) (u : Meter) (l : Ledger) → l.pending ≡ cond (is_open t.phase) 1 0 → Counted u.cost l
      → Counted (costs t.phase no_reply u.cost)
      (later told_no_reply (of_told t.phase no_reply t.count (leb W (age u.now u.since))) (asks t f)
      (asks (told t.phase no_reply (leb W (age u.now u.since)) t) (landed (asked_by t.phase t.count) f)) l)
  no_reply_counts t f u l e h =
      let y = asks (told t.phase no_reply (leb W (age u.now u.since)) t) (landed (asked_by t.phase t.count) f) in
      subst (λ (m : Ledger). Counted (costs t.phase no_reply u.cost) (noted m.pending (Run.behind (asks t f) y) m))
      (heard_told (of_told t.phase no_reply t.count (leb W (age u.now u.since))) l)
      (told_at no_reply (Run.behind (asks t f) y) t f u l (behind_followed (asked_by t.phase t.count) f y) e h)

  -- every event keeps the count
  pub step_counts : (e : Event) (s : State P.Store) (l : Ledger) → l.pending ≡ cond (is_open s.tx.phase) 1 0 → Counted s.meter.cost l
      → Counted (step P largest W e s).meter.cost (later e (says P largest W e s) (asked_at_state s) (asked_at_state (step P largest W e s)) (begun e l))
  step_counts (submit b) s l e h =
      submit_counts s.tx.accepted s.tx.phase (ltb s.tx.spent limit && sized largest (length b.block)) s.tx.count s.tx.spent
      s.flight b l s.meter.cost e h
  step_counts reset s l e h = reset_counts (is_open s.tx.phase) l s.meter.cost h
  step_counts frame s l e h =
      frame_counts s.tx.phase (ripe largest P L W s) s.tx.accepted s.tx.count s.tx.spent s.flight l s.meter.cost e h
  step_counts arrive s l e h = noted_none l.pending s.meter.cost l h
  step_counts told_done s l e h = done_counts s.flight s.tx s.rx s.meter l e h
  step_counts told_no_reply s l e h = no_reply_counts s.tx s.flight s.meter l e h
  step_counts restart_sender s l e h = refl
  step_counts restart_receiver s l e h = noted_none l.pending s.meter.cost (begun restart_receiver l) h
  step_counts (deliver buffer) s l e h = take_counts s.rx.hand buffer l s.meter.cost h
