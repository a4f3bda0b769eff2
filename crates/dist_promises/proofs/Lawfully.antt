-- The laws of the message parts, in both modes.
-- Assumes nothing.
use Prim.Native.Nat.{ℕ, suc, ◌≤◌, ◌<◌}
use mathlib.Core.Path.{◌≡◌, refl}
use mathlib.Core.Bool.{Bool, true, false}
use mathlib.Core.List.{List}
use lib.Dec.{T, eqb}
use lib.ListN.{length}
use borrow.Author.Tests.{eq-eqb}
use Rattle.words.specs.Link.{configured_of, message_store_of}
use Rattle.words.specs.declared.link.Link.{Link}
use Rattle.promises.specs.Run.{Block, are_bytes}
use Rattle.promises.specs.Promise.{messages}
use Rattle.dist_promises.proofs.Parts.{Parts, Lawful, chunk}
use Rattle.dist_promises.proofs.Modes.{Received, parts}
use Rattle.dist_promises.proofs.ModeStore.{Whole, whole_fresh, whole_clear, Sixteenfold, Onefold, sixteenfold, onefold}
use Rattle.dist_promises.proofs.ModeZero.{FullZero, ReadyZero, whole_put_zero, size_zero, full_none_zero, full_put_zero, full_met_zero}
use Rattle.dist_promises.proofs.ModeZero.{ready_none_zero, ready_put_zero, ready_met_zero, number_fresh_zero, number_clear_zero}
use Rattle.dist_promises.proofs.ModeOne.{FullOne, ReadyOne, whole_put_one, size_one, full_none_one, full_put_one, full_met_one}
use Rattle.dist_promises.proofs.ModeOne.{ready_none_one, ready_put_one, ready_met_one, number_fresh_one, number_clear_one}

-- by the test of the mode: true in mode 0

abbrev pub FullIn : Bool → ℕ → Block → Received → Type 0
FullIn true j b s = FullZero j b s
FullIn false j b s = FullOne j b s

abbrev pub ReadyIn : Bool → ℕ → ℕ → Received → Type 0
ReadyIn true j n s = ReadyZero j n s
ReadyIn false j n s = ReadyOne j n s

pub full_none : (m : Bool) (b : Block) (s : Received) → FullIn m 0 b s
full_none true b s = full_none_zero b s
full_none false b s = full_none_one b s

module _ (link : Link) (lent : List ℕ) where
  -- a configured link in that mode, with a store that is long enough
  abbrev pub Sized : Bool → Type 0
  Sized true = Sixteenfold link lent
  Sized false = Onefold link lent

  pub sized : configured_of link ≡ true → message_store_of link ≤ length lent → (m : Bool) → eqb link.mode 0 ≡ m → Sized m
  sized c h true e = sixteenfold link lent c h e
  sized c h false e = onefold link lent c h e

  pub whole_put : (m : Bool) → Sized m → (b : Block) (j : ℕ) (s : Received) → length b ≤ link.largest → j < messages (length b) → Whole link lent s
      → Whole link lent ((parts link lent).put j (chunk b j) s)
  whole_put true z b j s l h w = whole_put_zero link lent z b j s l h w
  whole_put false z b j s l h w = whole_put_one link lent z (chunk b j) j s w

  pub size : (m : Bool) → Sized m → (n : ℕ) (s : Received) → n ≤ link.largest → Whole link lent s → length ((parts link lent).block n s) ≡ n
  size true z n s l w = size_zero link lent z n s l w
  size false z n s l w = size_one link lent z n s l w

  pub full_put : (m : Bool) → Sized m → (b : Block) (j : ℕ) (s : Received) → T (are_bytes b) → length b ≤ link.largest → j < messages (length b)
      → Whole link lent s → FullIn m j b s → FullIn m (suc j) b ((parts link lent).put j (chunk b j) s)
  full_put true z b j s o l h w f = full_put_zero link lent z b j s o l h w f
  full_put false z b j s o l h w f = full_put_one link lent z b j s o l h w f

  pub full_met : (m : Bool) → Sized m → (b : Block) (s : Received) → FullIn m (messages (length b)) b s → (parts link lent).met (length b) s ≡ true
      → (parts link lent).block (length b) s ≡ b
  full_met true z b s f e = full_met_zero link lent z b s f
  full_met false z b s f e = full_met_one link lent z b s f e

  pub ready_none : (m : Bool) → Sized m → (n : ℕ) (s : Received) → (parts link lent).number s ≡ 0 → ReadyIn m 0 n s
  ready_none true z n s e = ready_none_zero n s
  ready_none false z n s e = ready_none_one link lent z n s e

  pub ready_put : (m : Bool) → Sized m → (b : Block) (j : ℕ) (s : Received) → length b ≤ link.largest → j < messages (length b) → Whole link lent s
      → ReadyIn m j (length b) s → ReadyIn m (suc j) (length b) ((parts link lent).put j (chunk b j) s)
  ready_put true z b j s l h w f = ready_put_zero link lent z b j s l h w f
  ready_put false z b j s l h w f = ready_put_one link lent z b j s l h f

  pub ready_met : (m : Bool) → Sized m → (n : ℕ) (s : Received) → ReadyIn m (messages n) n s → (parts link lent).met n s ≡ true
  ready_met true z n s f = ready_met_zero link lent z n s f
  ready_met false z n s f = ready_met_one link lent z n s f

  pub number_fresh : (m : Bool) → Sized m → (parts link lent).number (parts link lent).fresh ≡ 0
  number_fresh true z = number_fresh_zero link lent z
  number_fresh false z = number_fresh_one link lent z

  pub number_clear : (m : Bool) → Sized m → (s : Received) → (parts link lent).number ((parts link lent).clear s) ≡ 0
  number_clear true z s = number_clear_zero link lent z s
  number_clear false z s = number_clear_one link lent z s

-- parts and laws of any configured link
abbrev pub lawful : (link : Link) (lent : List ℕ) → configured_of link ≡ true → message_store_of link ≤ length lent → Lawful link.largest (parts link lent)
lawful link lent c h =
    let m : Bool = eqb link.mode 0 in
    let z : Sized link lent m = sized link lent c h m refl in
    record {
      Whole = Whole link lent;
      whole_fresh = whole_fresh link lent;
      whole_clear = whole_clear link lent;
      whole_put = whole_put link lent m z;
      size = size link lent m z;
      Full = FullIn m;
      full_none = λ b s w. full_none m b s;
      full_put = full_put link lent m z;
      full_met = λ b s o l w f e. full_met link lent m z b s f e;
      Ready = ReadyIn m;
      ready_none = λ n s w e. ready_none link lent m z n s e;
      ready_put = ready_put link lent m z;
      ready_met = λ n s p l w f. ready_met link lent m z n s f;
      number_fresh = number_fresh link lent m z;
      number_clear = λ s w. number_clear link lent m z s;
    }

-- ---- mode 0 without the premise of an empty terminal

-- the number is always 0: the laws hold all the same, as each needed place is written anew
abbrev pub unnumbered : Link → List ℕ → Parts
unnumbered link lent =
    record {
      Store = Received;
      fresh = (parts link lent).fresh;
      clear = (parts link lent).clear;
      put = (parts link lent).put;
      met = (parts link lent).met;
      block = (parts link lent).block;
      number = λ s. 0;
    }

abbrev pub lawful_zero : (link : Link) (lent : List ℕ) → configured_of link ≡ true → message_store_of link ≤ length lent → link.mode ≡ 0
    → Lawful link.largest (unnumbered link lent)
lawful_zero link lent c h m =
    let z = sixteenfold link lent c h (eq-eqb link.mode 0 m) in
    record {
      Whole = Whole link lent;
      whole_fresh = whole_fresh link lent;
      whole_clear = whole_clear link lent;
      whole_put = whole_put_zero link lent z;
      size = size_zero link lent z;
      Full = FullZero;
      full_none = λ b s w. full_none_zero b s;
      full_put = full_put_zero link lent z;
      full_met = λ b s o l w f e. full_met_zero link lent z b s f;
      Ready = ReadyZero;
      ready_none = λ n s w e. ready_none_zero n s;
      ready_put = ready_put_zero link lent z;
      ready_met = λ n s p l w f. ready_met_zero link lent z n s f;
      number_fresh = refl;
      number_clear = λ s w. refl;
    }
