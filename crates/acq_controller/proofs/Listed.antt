-- The message list of a transfer: its length is the number of messages gone, and one more where its confirmation was asked for.
-- Assumes nothing.
use Rattle.std.proofs.Common.{◌≡◌, ℕ, zero, suc, ◌+◌, Bool, true, false, cond, length, refl, ap}
use Rattle.words.specs.declared.link.Link.{Link}
use Rattle.acq_controller.specs.Asked.{messages_asked, closing, message_list}
use Rattle.acq_controller.specs.declared.state.Controller.{Controller}
use lib.ListN.{length-append}

length_asked : (link : Link) (size i n : ℕ) → length (messages_asked link size i n) ≡ n
unfolding messages_asked
length_asked link size i zero = refl
length_asked link size i (suc n) = ap suc (length_asked link size (suc i) n)

length_closing : (closed : Bool) → length (closing closed) ≡ cond closed 1 0
length_closing true = refl
length_closing false = refl

pub listed : (c : Controller) → length (message_list c) ≡ c.transfer.gone + cond c.transfer.closed 1 0
unfolding message_list
listed c =
    let asked = messages_asked c.link c.transfer.size 0 c.transfer.gone in
    let l = length_asked c.link c.transfer.size 0 c.transfer.gone in
    let k = length_closing c.transfer.closed in
    rw (length-append asked (closing c.transfer.closed), l, k)
