-- With nothing changed the machine is distribution, so what the others break they break by their one change.
-- Assumes nothing.
use Prim.Native.Nat.{ℕ}
use mathlib.Core.Path.{◌≡◌, refl}
use mathlib.Core.Bool.{cond, not}
use mathlib.Core.List.{List}
use lib.ListN.{length}
use Rattle.std.proofs.Common.{Option, None, Some, Ok, Err}
use Rattle.words.specs.Link.{configured_of}
use Rattle.words.specs.Control.{quality_of}
use Rattle.words.specs.Refusal.{Answer, refuse}
use Rattle.words.specs.declared.refusal.Refusal.TheVariants.{NotReady, NothingAsked}
use Rattle.words.specs.declared.control.Quality.{Quality}
use Rattle.dist_controller.specs.Submit as Submit
use Rattle.dist_controller.specs.Asked.{asked_of}
use Rattle.dist_controller.specs.Report.{report_of}
use Rattle.dist_controller.specs.declared.state.Controller.{Controller}
use Rattle.words.specs.declared.message.Message.{Message}
use Rattle.words.specs.declared.message.Message.TheVariants.{Receive, Transmit}
use Rattle.dist_pair.specs.Events.{controller_stepped}
use Rattle.dist_pair.specs.Bus as Bus
use Rattle.dist_pair.specs.Bus.{lent_short, has_arrived}
use Rattle.dist_pair.specs.declared.state.Flight.{Flight}
use Rattle.dist_pair.specs.declared.state.Flight.TheVariants.{NotArrived, Arrived, Caught}
use Rattle.dist_pair.specs.declared.state.Pair.{Pair}
use Rattle.promises.specs.Run.{Event, submit, reset, frame, arrive, told_done, told_no_reply, restart_sender, restart_receiver, deliver}
use Rattle.dist_promises.specs.Distribution.{Ends, stepped_of, store_of, places_of, hand_of, says_of, called_of, asking_of, answer_of, parts_of, messages_of, distribution}
use Rattle.dist_wrong.specs.Made.{real, made, submit_in, arrive_in, hand_in, done_in, stepped, store, places, hand, called, says}
use Rattle.dist_wrong.proofs.Open.{opened}

submit_same : (a : Answer) (c : Controller) (quality : Quality) (size : ℕ) → submit_in real a c quality size ≡ Submit.submit_in a c quality size
submit_same (Ok u) c quality size = refl
submit_same (Err r) c quality size = refl

arrive_same : (a : Option Message) (x : Ends)
    → arrive_in real a x ≡ Bus.arrive_in a x.pair x.store (length x.places) (length x.hand)
unfolding opened
arrive_same None x = refl
arrive_same (Some (Receive subaddress words)) x = refl
arrive_same (Some (Transmit subaddress words)) x = refl

hand_same : (a : Option Message) (x : Ends) → hand_in real a x ≡ Bus.hand_in a x.pair x.store x.places x.hand
unfolding opened
hand_same None x = refl
hand_same (Some (Receive subaddress words)) x = refl
hand_same (Some (Transmit subaddress words)) x = refl

done_same : (f : Flight) (p : Pair) → done_in real f p ≡ Bus.done_in f p
unfolding opened
done_same NotArrived p = refl
done_same Arrived p = refl
done_same (Caught words) p = refl

stepped_same : (e : Event) (x : Ends) → stepped real e x ≡ stepped_of e x
unfolding opened
stepped_same (submit b) x = λ i.
    controller_stepped
    (submit_same (Submit.submit_answer_of x.pair.controller (length b.block) (length x.store)) x.pair.controller
    (quality_of b.verified) (length b.block) i)
    x.pair
stepped_same reset x = refl
stepped_same frame x = refl
stepped_same arrive x = λ i.
    cond (lent_short x.pair (length x.store) (length x.places) (length x.hand)) (refuse NotReady x.pair)
    (cond (has_arrived x.pair.flight) (refuse NothingAsked x.pair)
    (arrive_same (asked_of x.pair.controller) x i))
stepped_same told_done x = λ i.
    cond (not (configured_of x.pair.controller.link)) (refuse NotReady x.pair) (done_same x.pair.flight x.pair i)
stepped_same told_no_reply x = refl
stepped_same restart_sender x = refl
stepped_same restart_receiver x = refl
stepped_same (deliver buffer) x = refl

hands_same : (e : Event) (x : Ends) → hand real e x ≡ hand_of e x
unfolding opened
hands_same arrive x = λ i.
    cond (lent_short x.pair (length x.store) (length x.places) (length x.hand)) x.hand
    (cond (has_arrived x.pair.flight) x.hand
    (hand_same (asked_of x.pair.controller) x i))
hands_same (submit b) x = refl
hands_same reset x = refl
hands_same frame x = refl
hands_same told_done x = refl
hands_same told_no_reply x = refl
hands_same restart_sender x = refl
hands_same restart_receiver x = refl
hands_same (deliver buffer) x = refl

stores_same : (e : Event) (x : Ends) → store real e x ≡ store_of e x
unfolding opened
stores_same (submit b) x = refl
stores_same reset x = refl
stores_same frame x = refl
stores_same arrive x = refl
stores_same told_done x = refl
stores_same told_no_reply x = refl
stores_same restart_sender x = refl
stores_same restart_receiver x = refl
stores_same (deliver buffer) x = refl

places_same : (e : Event) (x : Ends) → places real e x ≡ places_of e x
unfolding opened
places_same (submit b) x = refl
places_same reset x = refl
places_same frame x = refl
places_same arrive x = refl
places_same told_done x = refl
places_same told_no_reply x = refl
places_same restart_sender x = refl
places_same restart_receiver x = refl
places_same (deliver buffer) x = refl

called_same : (e : Event) (x : Ends) → called real e x ≡ called_of e x
called_same e x = λ i.
    answer_of (stepped_same e x i).answer (report_of x.pair.controller) (report_of (stepped_same e x i).state.controller)

says_same : (e : Event) (x : Ends) → says real e x ≡ says_of e x
says_same (submit b) x = called_same (submit b) x
says_same reset x = called_same reset x
says_same frame x = called_same frame x
says_same arrive x = refl
says_same told_done x = called_same told_done x
says_same told_no_reply x = called_same told_no_reply x
says_same restart_sender x = called_same restart_sender x
says_same restart_receiver x = called_same restart_receiver x
says_same (deliver buffer) x = refl

-- on any link, with any stores
pub right : (address mode subaddress largest window : ℕ) (block message held : List ℕ)
    → made real (distribution address mode subaddress largest window block message held).fresh
    ≡ distribution address mode subaddress largest window block message held
right address mode subaddress largest window block message held = λ i.
    record {
      State = Ends;
      fresh = (distribution address mode subaddress largest window block message held).fresh;
      step = λ e x. record {
        pair = (stepped_same e x i).state;
        store = stores_same e x i;
        places = places_same e x i;
        hand = hands_same e x i;
      };
      says = λ e x. says_same e x i;
      asks = λ x. asking_of (asked_of x.pair.controller) (has_arrived x.pair.flight);
      parts = λ x. parts_of x.pair.terminal;
      count = λ x. messages_of (report_of x.pair.controller);
    }
