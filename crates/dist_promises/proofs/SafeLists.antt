-- Lists, hands and tests: what the lemmas on the invariant share.
-- Assumes nothing.
use Prim.Native.Nat.{ℕ}
use mathlib.Core.Path.{◌≡◌, refl, subst, sym}
use mathlib.Core.Bool.{Bool, true, false, ◌&&◌}
use mathlib.Core.List.{List, [], ◌∷◌}
use lib.Dec.{T}
use Rattle.promises.specs.Run.{Block, Item}
use Rattle.promises.specs.Run as Run
use Rattle.promises.specs.Promise.{Within, skip, keep, Same}
use Rattle.dist_promises.proofs.Model.{Word, Hand, empty, held, Phase, Tx, Rx, Flight}
use Rattle.dist_promises.proofs.Ghost.{Book, System, newest, tagged}
use Rattle.dist_promises.proofs.Invariant.{owed, Older, NewestFits, Due}

-- ---- states written out

abbrev pub tx : Bool → ℕ → ℕ → Phase → Tx
tx a n s p = record { accepted = a; count = n; spent = s; phase = p }

abbrev pub rx : {S : Type 0} → Bool → ℕ → S → Hand → Word → Rx S
rx e d p h w = record { seen = e; handled = d; parts = p; hand = h; word = w }

abbrev pub sys : {S : Type 0} → Tx → Rx S → Flight → Book → System S
sys t r f l = record { tx = t; rx = r; flight = f; book = l }

-- ---- tests

pub true_T : {b : Bool} → b ≡ true → T b
true_T e = subst T (sym e) tt

pub not_false : true ≡ false → ⊥
not_false e = subst T e tt

pub and_left : (a b : Bool) → a && b ≡ true → a ≡ true
and_left true b e = refl
and_left false b e = e

pub and_right : (a b : Bool) → a && b ≡ true → b ≡ true
and_right true b e = e
and_right false b e = absurd (not_false (sym e))

-- ---- deliveries within submissions

pub drop_head : {x : Item} {xs ys : List Item} → Within (x ∷ xs) ys → Within xs ys
drop_head (skip h) = skip (drop_head h)
drop_head (keep h) = skip h

pub unowed : (t : Item) (h : Hand) (ds ys : List Item) → Within (owed t h ds) ys → Within ds ys
unowed t empty ds ys k = k
unowed t (held c b) ds ys k = drop_head k

pub older_unowed : (t : Item) (h : Hand) (ds ys : List Item) → Older ys (owed t h ds) → Older ys ds
older_unowed t h ds [] k = k
older_unowed t h ds (x ∷ ys) k = unowed t h ds ys k

-- the newest submission comes into the hand
pub accept_chain : (ys ds : List Item) → Older ys ds → Within (newest ys ∷ ds) ys
accept_chain [] ds k = absurd k
accept_chain (x ∷ ys) ds k = keep k

pub accept_due : (ys cs ds : List Item) → Older ys ds → Within cs ds → Due ys cs (newest ys ∷ ds)
accept_due [] cs ds k h = k
accept_due (x ∷ ys) cs ds k h = keep h

pub accept_fits : (ys : List Item) (d : Block) → NewestFits ys d → Same (newest ys).load.verified (newest ys).load.block d
accept_fits [] d k = absurd k
accept_fits (x ∷ ys) d k = k

-- what is due is reported
pub due_reported : (ys cs ds : List Item) → Due ys cs ds → Within (Run.reported ys cs) ds
due_reported [] cs ds k = absurd k
due_reported (y ∷ ys) cs ds k = k

-- ---- tags

-- a hand that stays as it is gets no tag
pub same_hand : (h : Hand) (l : Book) → tagged h h l ≡ l
same_hand empty l = refl
same_hand (held c b) l = refl

-- nor does one that is emptied
pub emptied_hand : (h : Hand) (l : Book) → tagged h empty l ≡ l
emptied_hand empty l = refl
emptied_hand (held c b) l = refl
