-- Cases that keep the equation: what holds whichever value a test or an option has, holds. Assumes nothing.
use mathlib.Core.Path.{◌≡◌, refl}
use mathlib.Core.Bool.{Bool, true, false}
use Rattle.std.specs.Prelude.{Option, None, Some}
use lib.Dec.{T}

pub by_bool : {P : Type 0} (b : Bool) → (b ≡ true → P) → (b ≡ false → P) → P
by_bool true f g = f refl
by_bool false f g = g refl

pub by-option : {A P : Type 0} (x : Option A) → (x ≡ None → P) → ((a : A) → x ≡ Some a → P) → P
by-option None f g = f refl
by-option (Some a) f g = g a refl

-- a test as a type and as an equation
pub is_true : (b : Bool) → T b → b ≡ true
is_true true t = refl
is_true false t = absurd t
