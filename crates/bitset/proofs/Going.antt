-- Going through the members of a set: where a closure may be called at each, and what the calls of a chain give.
-- Assumes nothing.
use mathlib.Core.Path.{◌≡◌, refl, sym, subst}
use mathlib.Core.Bool.{Bool}
use Prim.Native.Nat.{ℕ}
use lib.ListN.{length}
use mathlib.Core.List.{List, ◌∷◌}
use Rattle.std.specs.Iterator.{YieldsFirst, Yields, CallableAtEachTurn}
use Rattle.std.specs.Prelude.{Option, Some, Contains, filter}
use Rattle.std.proofs.lemmas.Fn.{serves_by}
use Rattle.std.proofs.lemmas.Iterator.{YieldsList}
use Rattle.std.proofs.lemmas.Iterator.Adapters.{serves_from_places}
use Rattle.std.proofs.lemmas.Iterator.Consumers.{YieldsList-from_first, YieldsList-turn}
use Rattle.model.specs.Set.{Member}
use Rattle.bitset.specs.Listed.{listed}
use Rattle.bitset.proofs.Listed.{in_filter, in_listed}

-- they come in the order of the list
pub in_order : (s r : ℕ) → r ≡ s → YieldsList (YieldsFirst listed) (λ x. x) r (listed s)
in_order s r e = YieldsList-from_first (λ x. x) listed (listed s) (rw e)

-- a closure that no call changes may be called at each
pub called_at_each : (s r : ℕ) → r ≡ s → {F : Type 0} {R : F → ℕ → F → Type 0} {Q : F → ℕ → Type 0} {f : F}
    → ((x : ℕ) (q : F) → R f x q → q ≡ f) → ((x : ℕ) → Member x s → Q f x) → CallableAtEachTurn (YieldsFirst listed) R Q r f
called_at_each s r e stays at = serves_from_places (in_order s r e) stays (λ x k l same. at x ((in_listed s x).0 (k, l, sym same)))

-- a closure that is passed what was made so far may be called at each item of a list, whatever was made, if no call changes it
pub called_along : {S : Type 0} {steps : S → Option ℕ → S → Type 0} {r : S} {xs : List ℕ} → YieldsList steps (λ x. x) r xs
    → {F C : Type 0} {R : F × C → ℕ → F × C → Type 0} {Q : F × C → ℕ → Type 0} {f : F} {a : C}
    → ((b : C) (x : ℕ) (q : F × C) → R (f, b) x q → q.0 ≡ f) → ((b : C) (x : ℕ) → Contains xs x → Q (f, b) x) → CallableAtEachTurn {P = F × C} steps R Q r (f, a)
called_along {S} {steps} {r} {xs} order {F} {C} {R} {Q} {f} {a} stays at =
    serves_by R (λ _ q. q.0 ≡ f) (λ ys q x w j t. stays q.1 x w (subst (λ k. R (k, q.1) x w) j t)) steps Q r (f, a) refl
    (λ ys t q x u y step j.
    let (l, same) = YieldsList-turn order ys t y (Some x) u x refl step in
    subst (λ k. Q (k, q.1) x) (sym j) (at q.1 x (length ys, l, sym same)))

-- so at each member
pub called_with_each : (s r : ℕ) → r ≡ s → {F C : Type 0} {R : F × C → ℕ → F × C → Type 0} {Q : F × C → ℕ → Type 0} {f : F} {a : C}
    → ((b : C) (x : ℕ) (q : F × C) → R (f, b) x q → q.0 ≡ f) → ((b : C) (x : ℕ) → Member x s → Q (f, b) x) → CallableAtEachTurn {P = F × C} (YieldsFirst listed) R Q r (f, a)
called_with_each s r e stays at = called_along (in_order s r e) stays (λ b x m. at b x ((in_listed s x).0 m))

-- what is listed of those that pass a test is a member
pub in_picked : (s : ℕ) (p : ℕ → Bool) (x : ℕ) → Contains (filter p (listed s)) x → Member x s
in_picked s p x m = (in_listed s x).0 ((in_filter p x (listed s)).0 m).0

-- what comes in a loop is a member
pub comes_member : (s r : ℕ) → r ≡ s → (xs : List ℕ) (t x u : ℕ) → Yields (YieldsFirst listed) r xs t → listed t ≡ x ∷ listed u → Member x s
comes_member s r e xs t x u y step =
    let (l, same) = YieldsList-turn (in_order s r e) xs t y (Some x) u x refl step in (in_listed s x).0 (length xs, l, sym same)
