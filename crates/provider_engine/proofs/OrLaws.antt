-- One of two tests passes.
use Rattle.std.proofs.Common.{◌≡◌, ◌⊎◌, inl, inr, Bool, true, false, ◌||◌, refl}

pub or_first : (x y : Bool) → x ≡ true → (x || y) ≡ true
or_first true y is = refl
or_first false y is = cc

pub or_second : (x y : Bool) → y ≡ true → (x || y) ≡ true
or_second true y is = refl
or_second false y is = is

pub either : (x y : Bool) → (x || y) ≡ true → (x ≡ true) ⊎ (y ≡ true)
either true y is = inl refl
either false y is = inr is
