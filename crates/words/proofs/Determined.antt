-- How tight a statement is that gives a value by an equation with its definition: any two values that satisfy it agree.
-- Assumes nothing.
use Rattle.std.proofs.Common.{◌≡◌, sym, ◌∙◌}

-- a result, or what a lent slice holds at exit
pub determined : {A : Type 0} {definition first second : A} → first ≡ definition → second ≡ definition → first ≡ second
determined p q = p ∙ sym q

-- a result together with what is lent, any number of times
pub determined_both : {A B : Type 0} {a first second : A} {b first' second' : B}
    → (first ≡ a) × (first' ≡ b) → (second ≡ a) × (second' ≡ b) → (first ≡ second) × (first' ≡ second')
determined_both p q = (determined p.0 q.0, determined p.1 q.1)
