-- Distribution without words and numbers: the two ends as the proof sees them. Theorem.antt shows that the pair's steps are these.
-- Assumes nothing.
use Prim.Native.Nat.{ℕ, suc, ◌+◌, ◌-◌, ◌%◌}
use mathlib.Core.Bool.{Bool, true, false, cond, ◌&&◌}
use lib.Dec.{eqb, ltb, leb}
use lib.ListN.{length}
use Rattle.promises.specs.Run.{Block, Load, Event, submit, reset, frame, arrive, told_done, told_no_reply, restart_sender, restart_receiver, deliver}
use Rattle.promises.specs.Run.{Answer, denied, ok, accepted, confirmed, failed, gave, refused, unconfirmed, abandoned, Asks, nothing, sends, reads, Machine}
use Rattle.promises.specs.Promise.{messages}
use Rattle.dist_promises.proofs.Parts.{Parts, chunk}

-- what the controller can ask for: message j and its bytes; a descriptor with quality, count and size; a Reset; a read of 27T
pub data Msg : Type 0 where
  m_data : ℕ → Block → Msg
  m_desc : Bool → ℕ → ℕ → Msg
  m_reset m_read : Msg

pub data Asked : Type 0 where
  unasked : Asked
  asked : Msg → Asked

-- what 27T shows
pub data Word : Type 0 where
  w_none w_reset : Word
  w_count w_error : ℕ → Word

pub data Hand : Type 0 where
  empty : Hand
  held : ℕ → Block → Hand

-- the message asked for has not arrived; has; and is a read, with what 27T then showed
pub data Flight : Type 0 where
  away came : Flight
  caught : Word → Flight

-- what the controller is told
pub data Told : Type 0 where
  reply : Word → Told
  no_reply : Told

pub data Phase : Type 0 where
  idle : Phase
  send_data : Load → ℕ → Phase
  send_desc : Bool → ℕ → Phase
  await reading : Phase
  reset_first : Msg → Phase
  send_reset await_reset reading_reset : Phase

pub record Tx : Type 0 where
  pub accepted : Bool
  pub count : ℕ
  pub spent : ℕ
  pub phase : Phase

pub record Rx (S : Type 0) : Type 0 where
  pub seen : Bool
  pub handled : ℕ
  pub parts : S
  pub hand : Hand
  pub word : Word

-- the tick; the tick from which age counts; the messages that the newest transfer asked for
pub record Meter : Type 0 where
  pub now : ℕ
  pub since : ℕ
  pub cost : ℕ

pub record State (S : Type 0) : Type 0 where
  pub tx : Tx
  pub rx : Rx S
  pub flight : Flight
  pub meter : Meter

abbrev pub next : ℕ → ℕ
next n = n % 255 + 1

abbrev pub limit : ℕ
limit = 254

abbrev pub first_age : ℕ
first_age = 2

-- one more message, as a 16-bit count has it
abbrev pub more : ℕ → ℕ
more n = cond (eqb n 65535) 65535 (n + 1)

abbrev pub age : ℕ → ℕ → ℕ
age now since = (now + 65536 - since) % 65536

abbrev pub ticked : ℕ → ℕ
ticked now = (now + 1) % 65536

-- ---- the controller

abbrev pub fresh_tx : Tx
fresh_tx = record { accepted = false; count = 0; spent = 0; phase = idle }

abbrev pub at : Tx → Phase → Tx
at t p = record { accepted = t.accepted; count = t.count; spent = t.spent; phase = p }

abbrev pub sized : ℕ → ℕ → Bool
sized largest n = ltb 0 n && leb n largest

-- by: accepted; the phase; fewer than 254 spent, and the size
abbrev pub submits : Bool → Phase → Bool → Bool
submits false p l = false
submits true idle l = l
submits true (send_data b j) l = false
submits true (send_desc v n) l = false
submits true await l = false
submits true reading l = false
submits true (reset_first m) l = false
submits true send_reset l = false
submits true await_reset l = false
submits true reading_reset l = false

abbrev pub goes_out : ℕ → Load → Tx → Bool
goes_out largest b t = submits t.accepted t.phase (ltb t.spent limit && sized largest (length b.block))

abbrev pub started : Bool → Load → Tx → Tx
started false b t = t
started true b t = record { accepted = t.accepted; count = next t.count; spent = t.spent + 1; phase = send_data b 0 }

abbrev pub asked_by : Phase → ℕ → Asked
asked_by idle n = unasked
asked_by (send_data b j) n = asked (m_data j (chunk b.block j))
asked_by (send_desc v k) n = asked (m_desc v n k)
asked_by await n = unasked
asked_by reading n = asked m_read
asked_by (reset_first m) n = asked m
asked_by send_reset n = asked m_reset
asked_by await_reset n = unasked
asked_by reading_reset n = asked m_read

abbrev pub is_open : Phase → Bool
is_open (send_data b j) = true
is_open (send_desc v k) = true
is_open await = true
is_open reading = true
is_open idle = false
is_open (reset_first m) = false
is_open send_reset = false
is_open await_reset = false
is_open reading_reset = false

abbrev pub cut : Asked → Phase
cut unasked = send_reset
cut (asked m) = reset_first m

-- what a read shows to a controller whose count is n
pub data Shown : Type 0 where
  s_confirmed s_refused s_reset s_other : Shown

abbrev pub shows : Word → ℕ → Shown
shows w_none n = s_other
shows w_reset n = s_reset
shows (w_count c) n = cond (eqb c n) s_confirmed s_other
shows (w_error c) n = cond (eqb c n) s_refused s_other

abbrev pub shows_at : Told → ℕ → Shown
shows_at (reply w) n = shows w n
shows_at no_reply n = s_other

abbrev pub later : Bool → Phase → Phase
later true p = idle
later false p = p

abbrev pub on_read : Shown → Bool → Tx → Tx
on_read s_confirmed x t = record { accepted = t.accepted; count = t.count; spent = 0; phase = idle }
on_read s_refused x t = at t idle
on_read s_reset x t = at t (later x await)
on_read s_other x t = at t (later x await)

abbrev pub on_read_reset : Shown → Bool → Tx → Tx
on_read_reset s_reset x t = record { accepted = true; count = 0; spent = 0; phase = idle }
on_read_reset s_confirmed x t = at t (later x await_reset)
on_read_reset s_refused x t = at t (later x await_reset)
on_read_reset s_other x t = at t (later x await_reset)

abbrev pub if_done : Told → Phase → Phase
if_done (reply w) p = p
if_done no_reply p = idle

-- with Best Effort a data message that failed is as good as done
abbrev pub strictly : Bool → Told → Told
strictly true o = o
strictly false o = reply w_none

-- behind message j: the next one, or the descriptor
abbrev pub behind : Bool → Load → ℕ → Phase
behind true b j = send_data b (suc j)
behind false b j = send_desc b.verified (length b.block)

-- the outcome of the message asked for; x: the age is W or more
abbrev pub told : Phase → Told → Bool → Tx → Tx
told idle o x t = t
told (send_data b j) o x t = at t (if_done (strictly b.verified o) (behind (ltb (suc j) (messages (length b.block))) b j))
told (send_desc v k) o x t = at t await
told await o x t = t
told reading o x t = on_read (shows_at o t.count) x t
told (reset_first m) o x t = at t send_reset
told send_reset o x t = at t (if_done o await_reset)
told await_reset o x t = t
told reading_reset o x t = on_read_reset (shows_at o t.count) x t

-- x: the age is first_age or more
abbrev pub framed : Phase → Bool → Phase
framed idle x = idle
framed (send_data b j) x = send_data b j
framed (send_desc v k) x = send_desc v k
framed await x = cond x reading await
framed reading x = reading
framed (reset_first m) x = reset_first m
framed send_reset x = send_reset
framed await_reset x = cond x reading_reset await_reset
framed reading_reset x = reading_reset

-- ---- the meter

-- the tick from which age counts is that of a descriptor's outcome; a Reset that is not done is not waited for
abbrev pub stamped : Phase → Told → ℕ → ℕ → ℕ
stamped send_reset no_reply now since = since
stamped send_reset (reply w) now since = now
stamped (send_desc v k) o now since = now
stamped idle o now since = since
stamped (send_data b j) o now since = since
stamped await o now since = since
stamped reading o now since = since
stamped (reset_first m) o now since = since
stamped await_reset o now since = since
stamped reading_reset o now since = since

abbrev pub cost_data : Told → ℕ → ℕ
cost_data (reply w) c = more c
cost_data no_reply c = c

abbrev pub costs : Phase → Told → ℕ → ℕ
costs (send_data b j) o c = cost_data (strictly b.verified o) c
costs (send_desc v k) o c = c
costs send_reset o c = c
costs idle o c = c
costs await o c = c
costs reading o c = c
costs (reset_first m) o c = c
costs await_reset o c = c
costs reading_reset o c = c

abbrev pub asks_read : Phase → Bool → ℕ → ℕ
asks_read await x c = cond x (more c) c
asks_read (send_data b j) x c = c
asks_read (send_desc v k) x c = c
asks_read send_reset x c = c
asks_read idle x c = c
asks_read reading x c = c
asks_read (reset_first m) x c = c
asks_read await_reset x c = c
asks_read reading_reset x c = c

-- ---- answers

abbrev pub of_read : Shown → Bool → Answer
of_read s_confirmed x = confirmed
of_read s_refused x = failed refused
of_read s_reset x = cond x (failed unconfirmed) ok
of_read s_other x = cond x (failed unconfirmed) ok

abbrev pub of_reset : Shown → Answer
of_reset s_reset = accepted
of_reset s_confirmed = ok
of_reset s_refused = ok
of_reset s_other = ok

abbrev pub of_data : Told → Answer
of_data (reply w) = ok
of_data no_reply = failed abandoned

abbrev pub of_told : Phase → Told → ℕ → Bool → Answer
of_told idle o n x = denied
of_told (send_data b j) o n x = of_data (strictly b.verified o)
of_told (send_desc q k) o n x = ok
of_told await o n x = denied
of_told reading o n x = of_read (shows_at o n) x
of_told (reset_first m) o n x = ok
of_told send_reset o n x = ok
of_told await_reset o n x = denied
of_told reading_reset o n x = of_reset (shows_at o n)

-- a buffer of n bytes
abbrev pub of_take : Hand → ℕ → Answer
of_take empty n = denied
of_take (held c b) n = cond (ltb n (length b)) denied (gave b)

abbrev pub arrived_yet : Flight → Bool
arrived_yet away = false
arrived_yet came = true
arrived_yet (caught w) = true

abbrev pub asks_for : Asked → Flight → Asks
asks_for unasked f = nothing
asks_for (asked (m_data j b)) f = sends (arrived_yet f)
asks_for (asked (m_desc q c n)) f = sends (arrived_yet f)
asks_for (asked m_reset) f = sends (arrived_yet f)
asks_for (asked m_read) f = reads (arrived_yet f)

-- ---- the bus

abbrev pub flown_to : Msg → Word → Flight
flown_to (m_data j b) w = came
flown_to (m_desc q c n) w = came
flown_to m_reset w = came
flown_to m_read w = caught w

abbrev pub flown : Asked → Flight → Word → Flight
flown unasked f w = f
flown (asked m) away w = flown_to m w
flown (asked m) came w = came
flown (asked m) (caught v) w = caught v

-- a message that is told leaves the bus
abbrev pub landed : Asked → Flight → Flight
landed unasked f = f
landed (asked m) f = away

-- ---- the terminal

module _ (P : Parts) where
  abbrev pub fresh_rx : Rx P.Store
  fresh_rx = record { seen = false; handled = 0; parts = P.fresh; hand = empty; word = w_none }

  abbrev pub unmarked : Rx P.Store → Rx P.Store
  unmarked r = record { seen = r.seen; handled = r.handled; parts = P.clear r.parts; hand = r.hand; word = r.word }

  -- Best Effort asks for no length
  abbrev pub enough : Bool → Bool → Bool
  enough true v = v
  enough false v = true

  -- by: Reset seen; count is the last handled; the hand; the length is enough
  abbrev pub on_desc : Bool → Bool → Hand → Bool → ℕ → ℕ → Rx P.Store → Rx P.Store
  on_desc false e h m c n r = r
  on_desc true true h m c n r = unmarked r
  on_desc true false (held d b) m c n r = unmarked r
  on_desc true false empty false c n r =
      record { seen = r.seen; handled = c; parts = P.clear r.parts; hand = r.hand; word = w_error c }
  on_desc true false empty true c n r =
      record { seen = r.seen; handled = c; parts = P.clear r.parts; hand = held c (P.block n r.parts); word = r.word }

  abbrev pub received : Msg → Rx P.Store → Rx P.Store
  received (m_data j b) r = record { seen = r.seen; handled = r.handled; parts = P.put j b r.parts; hand = r.hand; word = r.word }
  received (m_desc q c n) r = on_desc r.seen (eqb c r.handled) r.hand (enough q (P.met n r.parts)) c n r
  received m_reset r = record { seen = true; handled = 0; parts = P.clear r.parts; hand = empty; word = w_reset }
  received m_read r = r

  abbrev pub arrives : Asked → Flight → Rx P.Store → Rx P.Store
  arrives unasked f r = r
  arrives (asked m) away r = received m r
  arrives (asked m) came r = r
  arrives (asked m) (caught w) r = r

  abbrev pub taken : Hand → ℕ → Rx P.Store → Rx P.Store
  taken empty n r = r
  taken (held c b) n r =
      cond (ltb n (length b)) r (record { seen = r.seen; handled = r.handled; parts = r.parts; hand = empty; word = w_count c })

  -- ---- both

  abbrev pub told_in : ℕ → Told → State P.Store → State P.Store
  told_in W o s =
      record {
        tx = told s.tx.phase o (leb W (age s.meter.now s.meter.since)) s.tx;
        rx = s.rx;
        flight = landed (asked_by s.tx.phase s.tx.count) s.flight;
        meter = record {
          now = s.meter.now;
          since = stamped s.tx.phase o s.meter.now s.meter.since;
          cost = costs s.tx.phase o s.meter.cost;
        };
      }

  abbrev pub done_in : ℕ → Flight → State P.Store → State P.Store
  done_in W away s = s
  done_in W came s = told_in W (reply w_none) s
  done_in W (caught w) s = told_in W (reply w) s

  abbrev pub step : ℕ → ℕ → Event → State P.Store → State P.Store
  step largest W (submit b) s =
      record {
        tx = started (goes_out largest b s.tx) b s.tx;
        rx = s.rx;
        flight = s.flight;
        meter = record { now = s.meter.now; since = s.meter.since; cost = cond (goes_out largest b s.tx) 1 s.meter.cost };
      }
  step largest W reset s =
      record {
        tx = record { accepted = false; count = s.tx.count; spent = s.tx.spent; phase = cut (asked_by s.tx.phase s.tx.count) };
        rx = s.rx;
        flight = s.flight;
        meter = s.meter;
      }
  step largest W frame s =
      record {
        tx = at s.tx (framed s.tx.phase (leb first_age (age (ticked s.meter.now) s.meter.since)));
        rx = s.rx;
        flight = s.flight;
        meter = record {
          now = ticked s.meter.now;
          since = s.meter.since;
          cost = asks_read s.tx.phase (leb first_age (age (ticked s.meter.now) s.meter.since)) s.meter.cost;
        };
      }
  step largest W arrive s =
      record {
        tx = s.tx;
        rx = arrives (asked_by s.tx.phase s.tx.count) s.flight s.rx;
        flight = flown (asked_by s.tx.phase s.tx.count) s.flight s.rx.word;
        meter = s.meter;
      }
  step largest W told_done s = done_in W s.flight s
  step largest W told_no_reply s = told_in W no_reply s
  step largest W restart_sender s =
      record { tx = fresh_tx; rx = s.rx; flight = away; meter = record { now = s.meter.now; since = 0; cost = 0 } }
  step largest W restart_receiver s = record { tx = s.tx; rx = fresh_rx; flight = s.flight; meter = s.meter }
  step largest W (deliver buffer) s =
      record { tx = s.tx; rx = taken s.rx.hand (length buffer) s.rx; flight = s.flight; meter = s.meter }

  abbrev pub told_says : ℕ → Told → State P.Store → Answer
  told_says W o s = of_told s.tx.phase o s.tx.count (leb W (age s.meter.now s.meter.since))

  abbrev pub done_says : ℕ → Flight → State P.Store → Answer
  done_says W away s = denied
  done_says W came s = told_says W (reply w_none) s
  done_says W (caught w) s = told_says W (reply w) s

  abbrev pub says : ℕ → ℕ → Event → State P.Store → Answer
  says largest W (submit b) s = cond (goes_out largest b s.tx) ok denied
  says largest W reset s = cond (is_open s.tx.phase) (failed abandoned) ok
  says largest W frame s = ok
  says largest W arrive s = ok
  says largest W told_done s = done_says W s.flight s
  says largest W told_no_reply s = told_says W no_reply s
  says largest W restart_sender s = ok
  says largest W restart_receiver s = ok
  says largest W (deliver buffer) s = of_take s.rx.hand (length buffer)

  -- both ends of a link whose largest block and window are these
  abbrev pub model : ℕ → ℕ → Machine
  model largest W =
      record {
        State = State P.Store;
        fresh = record { tx = fresh_tx; rx = fresh_rx; flight = away; meter = record { now = 0; since = 0; cost = 0 } };
        step = step largest W;
        says = says largest W;
        asks = λ s. asks_for (asked_by s.tx.phase s.tx.count) s.flight;
        parts = λ s. P.number s.rx.parts;
        count = λ s. s.meter.cost;
      }
