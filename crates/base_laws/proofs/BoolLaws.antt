-- Two tests together.
use Rattle.std.proofs.Common.{◌≡◌, Bool, true, false, ◌&&◌, ◌||◌, refl}

-- of two tests that pass together each passes
pub both : (x y : Bool) → (x && y) ≡ true → (x ≡ true) × (y ≡ true)
both true true all = (refl, refl)
both true false all = cc
both false y all = cc

-- and two that pass each pass together
pub together : (x y : Bool) → x ≡ true → y ≡ true → (x && y) ≡ true
together true true first second = refl
together true false first second = cc
together false y first second = cc

-- what holds if either passes
pub either : {C : Type 0} (x y : Bool) → (x || y) ≡ true → (x ≡ true → C) → (y ≡ true → C) → C
either true y holds first second = first refl
either false y holds first second = second holds
